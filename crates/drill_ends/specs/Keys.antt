-- Contract: the one key that the ends of a link of the code can find.
use Rattle.std.specs.Prelude.{ℕ, ◌-◌, ◌^◌, ◌≡◌, ◌<◌, ◌≤◌, List, [], ◌∷◌, Option, Some, None}
use Rattle.des_block.specs.declared.triple_key.TripleKey.{TripleKey}
use Rattle.safety_automaton.specs.Keys.{KmacEntry, key_at}
use Rattle.safety_pair_laws.specs.Openings.{OfKeys, key_for}

-- the KMAC of an engine and a radio block centre, if there is one, at every moment of 64 bits
abbrev pub key_entries_of_pair : (engine rbc : ℕ) → Option TripleKey → List KmacEntry
key_entries_of_pair engine rbc None = []
key_entries_of_pair engine rbc (Some kmac) =
    record { engine = engine; rbc = rbc; kmac = kmac; first = 0; last = 2 ^ 64 - 1 } ∷ []

-- keys that are found alike at any two moments up to 10^15
abbrev pub AreKeysSteady : List KmacEntry → Type 0
AreKeysSteady keys = (a b : ℕ) → a ≤ 1000000000000000 → b ≤ 1000000000000000 → key_at keys a ≡ key_at keys b

-- the one key is found as the model finds it, at every moment of 64 bits
abbrev pub KeyIsFound : Type 0
KeyIsFound = (engine rbc : ℕ) (ke : TripleKey) (kr : Option TripleKey) (ra rb now : ℕ) → now < 2 ^ 64
    → key_at (key_entries_of_pair engine rbc kr) now ≡ key_for (OfKeys engine rbc ke kr ra rb)
