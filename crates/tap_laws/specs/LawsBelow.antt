-- Lemmas: what the public laws of the layers below and the first laws of this crate say, in one record, for the laws of audits.
use Rattle.t70_header.specs.JoiningLaws.{WrappedIsJoined}
use Rattle.er_end_model.specs.Origins.{StreamIsWhole}
use Rattle.er_end_pair_laws.specs.Laws.{Prefix}
use Rattle.er_end_pair_laws.specs.Greetings.{Greets}
use Rattle.tap_model.specs.Given.{GivenIsHeard}
use Rattle.tap_laws.specs.Progress.{SidesProgress, LiveSides}
use Rattle.tap_laws.specs.Runs.{EndsAreRuns}

-- of one end
pub record LawsOfOneEnd : Type 0 where
  pub wrapped : WrappedIsJoined
  pub heard_is : GivenIsHeard
  pub sides : SidesProgress
  pub live : LiveSides

-- of two
pub record LawsOfTwoEnds : Type 0 where
  pub one : LawsOfOneEnd
  pub prefix : Prefix
  pub greets : Greets
  pub streams : StreamIsWhole
  pub runs : EndsAreRuns
