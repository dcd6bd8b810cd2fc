-- Contract: the keys that a finder of one pair's KMAC has, and those of a finder that may be none.
use Rattle.std.specs.Prelude.{ℕ, ◌-◌, ◌^◌, List, [], ◌∷◌, Option, Some, None}
use Rattle.des_block.specs.declared.triple_key.TripleKey.{TripleKey}
use Rattle.safety_automaton.specs.Keys.{KmacEntry}

-- the ETCS numbers of an engine and a radio block centre, and their KMAC
pub record PairWithKmac : Type 0 where
  pub engine : ℕ
  pub rbc : ℕ
  pub kmac : TripleKey

-- their KMAC, at every moment of 64 bits
abbrev pub pair_entries : PairWithKmac → List KmacEntry
pair_entries pair = record { engine = pair.engine; rbc = pair.rbc; kmac = pair.kmac; first = 0; last = 2 ^ 64 - 1 } ∷ []

-- the keys of a finder, where there is one
abbrev pub entries_if : {F : Type 0} → (F → List KmacEntry) → Option F → List KmacEntry
entries_if entries None = []
entries_if entries (Some finder) = entries finder
