-- What two sides of a safe connection say to each other, whatever lies between them: each of them may be given any event at any time
-- (this profile).
use Rattle.std.specs.Prelude.{List, [], ◌++◌, map}
use Rattle.er_base.specs.declared.side.Side.{Side}
use Rattle.safety_automaton.specs.Safety.{Safety, SafetyEvent, SafetyOutcome, step}
use Rattle.safety_pair_laws.specs.Facts.{SideFact, at_side, facts_of}
use Rattle.safety_pair_laws.specs.Openings.{PairOpening, Pair, key_for, safety_of, with_safety, pair_before_events}
use Rattle.safety_pair_laws.specs.Authentic.{Authentic}

-- what a side answers to an event
abbrev pub answer : PairOpening → Pair → Side → SafetyEvent → Safety × SafetyOutcome
answer opening pair side event = step (key_for opening) (safety_of pair side) event

-- the facts of both sides so far, and the two after them
pub data Talks (opening : PairOpening) : List SideFact → Pair → Type 0 where
  Begins : Talks opening [] (pair_before_events opening)
  Goes : (facts : List SideFact) (pair : Pair) (side : Side) (event : SafetyEvent) → Talks opening facts pair
      → Talks opening (facts ++ map (at_side side) (facts_of event (answer opening pair side event).1))
      (with_safety pair side (answer opening pair side event).0)

-- of all that two sides say to each other, whatever lies between them
abbrev pub TalksAreAuthentic : Type 0
TalksAreAuthentic = (opening : PairOpening) (facts : List SideFact) (pair : Pair) → Talks opening facts pair → Authentic opening facts
