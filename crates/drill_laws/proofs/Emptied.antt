-- A link from which every message was taken, by what its stacks count of their users' takes.
use Rattle.std.specs.Prelude.{◌≡◌, [], length}
use Rattle.drill_model.specs.Ends.{EndAtLevel, OfSafe, OfStation, OfStack}
use Rattle.drill_model.specs.Links.{Link, LinkOpening, OfPair, OfStations, OfStacks}

-- a stack counts as many takes as it accepted messages
abbrev pub HasUsedAll : EndAtLevel → Type 0
HasUsedAll (OfSafe s) = Unit {0}
HasUsedAll (OfStation selective s stream) = Unit {0}
HasUsedAll (OfStack m) = m.core.upper.used ≡ length m.core.upper.accepted

-- no frame waits, and both stacks of a link of level full count so many
abbrev pub IsUsedUp : LinkOpening → Link → Type 0
IsUsedUp (OfPair opening) l = (l.from_e ≡ []) × (l.from_r ≡ [])
IsUsedUp (OfStations selective) l = (l.from_e ≡ []) × (l.from_r ≡ [])
IsUsedUp (OfStacks engine rbc ke kr ra rb) l = (l.from_e ≡ []) × (l.from_r ≡ []) × HasUsedAll l.e × HasUsedAll l.r
