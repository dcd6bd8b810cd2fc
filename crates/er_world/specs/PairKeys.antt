-- Representation: the pairs of session keys and text that the code keeps; no claim rests on it.
use Rattle.std.specs.Prelude.{List, map}
use Rattle.safety_pair_laws.specs.Facts.{Sealing}
use Rattle.er_world.specs.declared.sealed_pairs.Pair.{Pair}

-- a pair's three keys and its text
abbrev pub sealing_of : Pair → Sealing
sealing_of p = record { key = record { first = p.first; second = p.second; third = p.third }; text = p.text.items }

-- those of pairs in their order
abbrev pub sealings_in : List Pair → List Sealing
sealings_in pairs = map sealing_of pairs
