-- What comes of an event at the end of a connection, as a trace tells it (this profile).
use Rattle.std.specs.Prelude.{ℕ, List}
use Rattle.er_base.specs.declared.release.Release.{Release}
use Rattle.er_trace.specs.declared.outcome.Outcome.{Outcome as Lent}
use Rattle.er_trace.specs.declared.outcome.Outcome.TheVariants as lent

pub data TraceOutcome : Type 0 where
  Connected : (peer : ℕ) → TraceOutcome
  Accepted : (text : List ℕ) → TraceOutcome
  Taken : (text : List ℕ) → TraceOutcome
  Empty : TraceOutcome
  RefusedReleased : Release → TraceOutcome
  RefusedNotConnected : TraceOutcome
  RefusedLength : (octets : ℕ) → TraceOutcome
  RefusedFull : (waiting : ℕ) → TraceOutcome
  Released : Release → TraceOutcome
  Octets : (octets : List ℕ) → TraceOutcome

-- the outcome that the code has, with octets that it lends
abbrev pub outcome_of_lent : Lent → TraceOutcome
outcome_of_lent (lent.Connected peer) = Connected peer
outcome_of_lent (lent.Accepted text) = Accepted text.now
outcome_of_lent (lent.Taken text) = Taken text.now
outcome_of_lent lent.Empty = Empty
outcome_of_lent (lent.RefusedReleased release) = RefusedReleased release
outcome_of_lent lent.RefusedNotConnected = RefusedNotConnected
outcome_of_lent (lent.RefusedLength octets) = RefusedLength octets
outcome_of_lent (lent.RefusedFull waiting) = RefusedFull waiting
outcome_of_lent (lent.Released release) = Released release
outcome_of_lent (lent.Octets octets) = Octets octets.now
