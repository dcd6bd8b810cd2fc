-- Recorded before it goes, for a whole command: its loop is recorded so, ahead of it nothing is called or written, and behind it no call of the wires is
-- made (this profile).
use Rattle.std.specs.Prelude.{List, IsFalse}
use Rattle.std.specs.List.{list_any}
use Rattle.er_settings.specs.Making.{usual_settings}
use Rattle.outside.specs.Acts.{Act, is_call, is_write}
use Rattle.outside.specs.Doings.{Told, Did}
use Rattle.loop_model.specs.Journals.{trace_header}
use Rattle.readiness_loop.specs.Recorded.{IsRecordedFirst}

-- some acts were done, none of them a call of the wires
pub record HasCalledNone (before now : Told) : Type 0 where
  pub acts : List Act
  pub did : Did before now acts
  pub none : IsFalse (list_any is_call acts)

-- the same, and none of them a write
pub record HasOnlyAsked (before now : Told) : Type 0 where
  pub acts : List Act
  pub did : Did before now acts
  pub none : IsFalse (list_any is_call acts)
  pub unwritten : IsFalse (list_any is_write acts)

-- the acts of the loop, and those ahead of it and behind it; where a command has no loop, that of no acts, and all that it did stands behind
pub record IsLineRecorded (before now : Told) : Type 0 where
  pub began : Told
  pub ended : Told
  pub ahead : HasOnlyAsked before began
  pub loop : IsRecordedFirst (trace_header usual_settings) began ended
  pub behind : HasCalledNone ended now
