-- What the calls of a side answer, by the safety model.
use Rattle.std.specs.Prelude.{ℕ, List, Option, None}
use Rattle.er_base.specs.declared.release.Release.{Release}
use Rattle.safety_automaton.specs.Safety.{Safety, SafetyOutcome, SentAu1, SentAu2, SentAu3, SentAr, ReceivedAr, AcceptedDt, SentDt, Refused, ReleasedLocally}
use Rattle.safety_automaton.specs.Safety.{ReleasedByPeer, NothingDone}

-- a side as it is kept: the side, and the texts that its last call sealed and verified
pub record KeptSafe : Type 0 where
  pub safety : Safety
  pub sealed : Option (List ℕ)
  pub verified : Option (List ℕ)

-- a side without texts, as one that was just made
abbrev pub kept_side_without_texts : Safety → KeptSafe
kept_side_without_texts s = record { safety = s; sealed = None; verified = None }

-- what is told of received octets
pub data Report : Type 0 where
  -- an AU2 or an AU3 was sent
  ToldAnswered : Report
  ToldConnected : (peer : ℕ) → Report
  ToldAccepted : (user : List ℕ) → Report
  ToldReleased : (release : Release) → Report
  ToldIgnored : Report

-- what is told of an outcome of received octets; the others tell nothing
abbrev pub report_of : SafetyOutcome → Report
report_of (SentAu1 octets) = ToldIgnored
report_of (SentAu2 session sealed octets) = ToldAnswered
report_of (SentAu3 session verified sealed octets) = ToldAnswered
report_of (SentAr connection verified sealed octets) = ToldConnected connection.peer
report_of (ReceivedAr connection verified) = ToldConnected connection.peer
report_of (AcceptedDt session user verified) = ToldAccepted user
report_of (SentDt session user sealed octets) = ToldIgnored
report_of (Refused refusal) = ToldIgnored
report_of (ReleasedLocally release octets) = ToldReleased release
report_of (ReleasedByPeer release) = ToldReleased release
report_of NothingDone = ToldIgnored
