-- All events were replayed, or the first that isn't taken was told.
use Rattle.er_program.proofs.Replaying.{ended_all, ended_part}
use Rattle.er_program.proofs.replay.replay_events.Goals as goal

pub returns-in-Ok : goal.returns-in-Ok
returns-in-Ok g c = record { does = ended_all c.args.trace.now.settings _ c.args.trace.now.entries _ _ c.in-Ok.ensures.replays }

pub returns-in-Err : goal.returns-in-Err
returns-in-Err g c = record { does = ended_part c.args.trace.now.settings _ c.args.trace.now.entries c.in-Err.fault _ _ _ _ c.in-Err.ensures.replays c.not_taken.ensures.tells }
