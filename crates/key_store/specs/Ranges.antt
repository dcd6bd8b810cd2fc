-- The ranges of the numbers of an entry (this profile).
use Rattle.std.specs.Prelude.{◌<◌, ◌≤◌, ◌^◌, List, [], ◌∷◌}
use Rattle.des_block.specs.declared.triple_key.TripleKey.{TripleKey}
use Rattle.safety_automaton.specs.Keys.{KmacEntry}

-- three keys of 64 bits
pub record IsKey (key : TripleKey) : Type 0 where
  pub first : key.first < 2 ^ 64
  pub second : key.second < 2 ^ 64
  pub third : key.third < 2 ^ 64

-- ETCS numbers below 2 ^ 24, and moments up to 10 ^ 15, the first not behind the last
pub record IsInRange (entry : KmacEntry) : Type 0 where
  pub engine : entry.engine < 2 ^ 24
  pub rbc : entry.rbc < 2 ^ 24
  pub kmac : IsKey entry.kmac
  pub moments : entry.first ≤ entry.last
  pub last : entry.last ≤ 1000000000000000

abbrev pub AreInRange : List KmacEntry → Type 0
AreInRange [] = Unit {0}
AreInRange (entry ∷ entries) = IsInRange entry × AreInRange entries
