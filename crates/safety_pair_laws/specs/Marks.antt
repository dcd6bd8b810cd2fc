-- How marks grow with facts: what the definitions imply.
use Rattle.std.specs.Prelude.{◌≡◌, List, ◌++◌}
use Rattle.safety_pair_laws.specs.Facts.{SideFact, MarkedFact, marked_from}

-- facts behind others are marked behind these
abbrev pub MarksGrow : Type 0
MarksGrow =
    (before : List MarkedFact) (facts more : List SideFact)
    → marked_from before (facts ++ more) ≡ marked_from before facts ++ marked_from (before ++ marked_from before facts) more
