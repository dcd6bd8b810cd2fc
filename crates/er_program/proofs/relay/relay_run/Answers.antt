-- By the end of the run.
use Rattle.std.proofs.Common.{refl}
use Rattle.er_program.specs.RelayCommands.{relay_view}
use Rattle.er_program.proofs.RelayEnds.{runs_relay, known}
use Rattle.er_program.proofs.relay.relay_run.Goals as goal

pub returns-in-Ok-clause-runs : goal.returns-in-Ok-clause-runs
returns-in-Ok-clause-runs g c = runs_relay (relay_view c.args.command.now) _ _ _ _ _ c.in-Ok.ensures.ends (refl, refl)

pub returns-in-Err-Sink-clause-runs : goal.returns-in-Err-Sink-clause-runs
returns-in-Err-Sink-clause-runs g c =
    runs_relay (relay_view c.args.command.now) _ _ _ _ _ (rw c.in-Err-Sink.field-0-is at c.in-Err-Sink.ensures.ends) (refl, refl)

pub returns-in-Err-NoMemory-clause-runs : goal.returns-in-Err-NoMemory-clause-runs
returns-in-Err-NoMemory-clause-runs g c =
    runs_relay (relay_view c.args.command.now) _ _ _ _ _ (rw c.in-Err-NoMemory.field-0-is at c.in-Err-NoMemory.ensures.ends) c.exhausted.ensures.exits

pub returns-in-Ok-clause-known : goal.returns-in-Ok-clause-known
returns-in-Ok-clause-known g c =
    known (relay_view c.args.command.now) _ _ _ (runs_relay (relay_view c.args.command.now) _ _ _ _ _ c.in-Ok.ensures.ends (refl, refl))

pub returns-in-Err-Sink-clause-known : goal.returns-in-Err-Sink-clause-known
returns-in-Err-Sink-clause-known g c =
    known (relay_view c.args.command.now) _ _ _
    (runs_relay (relay_view c.args.command.now) _ _ _ _ _ (rw c.in-Err-Sink.field-0-is at c.in-Err-Sink.ensures.ends) (refl, refl))

pub returns-in-Err-NoMemory-clause-known : goal.returns-in-Err-NoMemory-clause-known
returns-in-Err-NoMemory-clause-known g c =
    known (relay_view c.args.command.now) _ _ _
    (runs_relay (relay_view c.args.command.now) _ _ _ _ _ (rw c.in-Err-NoMemory.field-0-is at c.in-Err-NoMemory.ensures.ends) c.exhausted.ensures.exits)
