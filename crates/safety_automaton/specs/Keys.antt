-- The keys that a side of a safe connection can find (UNISIG SUBSET-037: a KMAC belongs to a pair of ETCS numbers; this profile:
-- and it holds from a first to a last moment, in milliseconds).
use Rattle.std.specs.Prelude.{ℕ, ◌==◌, ◌&&◌, ◌≤◌, ◌≡◌, nat_le, Bool, if◌then◌else◌, List, [], ◌∷◌, Option, Some, None}
use Rattle.des_block.specs.declared.triple_key.TripleKey.{TripleKey}

-- the KMAC of an engine and a radio block centre, with its first and its last moment
pub record KmacEntry : Type 0 where
  pub engine : ℕ
  pub rbc : ℕ
  pub kmac : TripleKey
  pub first : ℕ
  pub last : ℕ

-- whether an entry is that of a pair, and holds at a moment
abbrev pub is_of : (now engine rbc : ℕ) → KmacEntry → Bool
is_of now engine rbc entry = (entry.engine == engine) && (entry.rbc == rbc) && nat_le entry.first now && nat_le now entry.last

-- the KMAC of a pair that holds at a moment, if there is one
abbrev pub key_at : List KmacEntry → (now engine rbc : ℕ) → Option TripleKey
key_at [] now engine rbc = None
key_at (entry ∷ entries) now engine rbc = if is_of now engine rbc entry then Some entry.kmac else key_at entries now engine rbc

-- both entries are of one pair, and hold at one moment
pub record AreAtOnce (a b : KmacEntry) : Type 0 where
  pub engine : a.engine ≡ b.engine
  pub rbc : a.rbc ≡ b.rbc
  pub moment : ℕ
  pub from_first : (a.first ≤ moment) × (b.first ≤ moment)
  pub to_last : (moment ≤ a.last) × (moment ≤ b.last)

-- an entry is of one pair and one moment with none of these
abbrev pub IsApartFrom : KmacEntry → List KmacEntry → Type 0
IsApartFrom entry [] = Unit {0}
IsApartFrom entry (other ∷ others) = (AreAtOnce entry other → ⊥) × IsApartFrom entry others

-- no two entries of one pair have a moment in common
abbrev pub AreKmacEntriesApart : List KmacEntry → Type 0
AreKmacEntriesApart [] = Unit {0}
AreKmacEntriesApart (entry ∷ entries) = IsApartFrom entry entries × AreKmacEntriesApart entries
