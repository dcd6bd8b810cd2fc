-- Representation: when entries hold, as the code puts it in order; no claim rests on it.
use Rattle.std.specs.Prelude.{ℕ, ◌+◌, ◌*◌, ◌==◌, ◌&&◌, nat_le, not, Bool, true, List, [], ◌∷◌, map, is_none}
use Rattle.std.specs.List.Sorted.{IsPermutation, IsSorted}
use Rattle.std.specs.declared.cmp.Ordering.{Ordering}
use Rattle.std.specs.Ordering.{nat_cmp, ordering_then}
use Rattle.safety_automaton.specs.Keys.{KmacEntry}
use Rattle.key_store.specs.KeyFiles.{first_twice}
use Rattle.key_store.specs.Kept.{key_entry_of}
use Rattle.key_store.specs.declared.key_entry.KeyEntry.{KeyEntry}

-- a pair as one number, the first moment and the last one
abbrev pub span_of : KmacEntry → ℕ × ℕ × ℕ
span_of e = (e.engine * 4294967296 + e.rbc, e.first, e.last)

abbrev pub span_cmp : ℕ × ℕ × ℕ → ℕ × ℕ × ℕ → Ordering
span_cmp x y = ordering_then (nat_cmp x.0 y.0) (ordering_then (nat_cmp x.1 y.1) (nat_cmp x.2 y.2))

-- a span is of one pair with the next one, and doesn't end before that begins
abbrev pub runs_into : ℕ × ℕ × ℕ → ℕ × ℕ × ℕ → Bool
runs_into span next = (span.0 == next.0) && nat_le next.1 span.2

-- no span runs into the next one
unfoldable pub apart_behind : ℕ × ℕ × ℕ → List (ℕ × ℕ × ℕ) → Bool
apart_behind span [] = true
apart_behind span (next ∷ spans) = not (runs_into span next) && apart_behind next spans

abbrev pub are_apart : List (ℕ × ℕ × ℕ) → Bool
are_apart [] = true
are_apart (span ∷ spans) = apart_behind span spans

-- when these entries hold, in the order of pairs and first moments
pub record AreSpansInOrder (entries : List KmacEntry) (spans : List (ℕ × ℕ × ℕ)) : Type 0 where
  pub same : IsPermutation (map span_of entries) spans
  pub sorted : IsSorted span_cmp spans

-- no two of these entries are of one pair and have a moment in common
abbrev pub are_once : List KeyEntry → Bool
are_once entries = is_none (first_twice [] (map key_entry_of entries))
