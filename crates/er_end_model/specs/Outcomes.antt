-- What comes of an event at an end (this profile), in the order in which it is told.
use Rattle.std.specs.Prelude.{ℕ, List}
use Rattle.er_base.specs.declared.release.Release.{Release}

-- why a send is refused: the end is released, for this reason; its safety layer isn't connected; the octets, so many, aren't those of a
-- message, or of a payload; so many messages wait for their last segment to be given, or payloads for their first sending
pub data SendRefusal : Type 0 where
  RefusedReleased : (release : Release) → SendRefusal
  RefusedNotConnected : SendRefusal
  RefusedLength : (found : ℕ) → SendRefusal
  RefusedFull : (waiting : ℕ) → SendRefusal

pub data Outcome : Type 0 where
  -- the safe connection stands, with the peer of this ETCS number
  ConnectedTo : (peer : ℕ) → Outcome
  -- a message of the peer's user was accepted
  Accepted : (message : List ℕ) → Outcome
  -- the user took a message; none was there
  Taken : (message : List ℕ) → Outcome
  NothingToTake : Outcome
  -- a send was refused
  Refused : (refusal : SendRefusal) → Outcome
  -- the end was released
  WasReleased : (release : Release) → Outcome
  -- these octets go to the line
  Octets : (octets : List ℕ) → Outcome
