-- What the script did, and how the run exits.
use Rattle.er_program.proofs.HoldsAlways.{drills_hold, bulk_holds}
use Rattle.er_program.proofs.OffLineRuns.{off_line_run, does_file}
use Rattle.er_program.proofs.top.run_off_line.Goals as goal

pub returns-clause-does : goal.returns-clause-does
returns-clause-does g c = does_file _ _ _ _ _ _ c.file_run-ended.ensures.does c.exits.ensures.exits

pub returns-clause-run : goal.returns-clause-run
returns-clause-run g c = λ given.
    off_line_run c.args.command.now given _ c.runs_grow.ensures.text c.worlds.ensures.opens (drills_hold c.holds.ensures) (bulk_holds c.holds.ensures) _ _ c.file_run-ended.result c.exits.result
    c.file_run-ended.ensures.does c.exits.ensures.exits
