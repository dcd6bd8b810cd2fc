-- Entries of one pair with a moment in common: where none was found, there is none, and the other way.
use Rattle.std.proofs.Common.{arith, ◌≡◌, ℕ, ◌+◌, ◌==◌, ◌&&◌, nat_le, max, true, List, [], ◌∷◌, ◌++◌, length, Option, Some, None, refl, sym, eq-eqb, ◌∙◌, inl, inr}
use Rattle.std.proofs.lemmas.Bool.{cases_Bool, eqb-true, and_parts, and_from, leb-true, le-leb, false≢true}
use Rattle.std.proofs.lemmas.Option.{none-some}
use Rattle.safety_automaton.specs.Keys.{KmacEntry, AreAtOnce, IsApartFrom, AreKmacEntriesApart}
use Rattle.key_store.specs.KeyFiles.{is_at_once, place_at_once, twice_or, first_twice}
use Rattle.key_store.specs.Ranges.{IsInRange, AreInRange}

-- two that are so are found so
pub at_once_tells : (a b : KmacEntry) → AreAtOnce a b → is_at_once a b ≡ true
at_once_tells a b h =
    and_from ((a.engine == b.engine) && (a.rbc == b.rbc) && nat_le a.first b.last) (nat_le b.first a.last)
    (and_from ((a.engine == b.engine) && (a.rbc == b.rbc)) (nat_le a.first b.last)
    (and_from (a.engine == b.engine) (a.rbc == b.rbc) (eq-eqb _ _ h.engine) (eq-eqb _ _ h.rbc))
    (le-leb a.first b.last (omega (arith, h.from_first, h.to_last))))
    (le-leb b.first a.last (omega (arith, h.from_first, h.to_last)))

-- and two that are found so are so: at the later one of their first moments
pub tells_at_once : (a b : KmacEntry) → IsInRange a → IsInRange b → is_at_once a b ≡ true → AreAtOnce a b
tells_at_once a b p q h =
    let three = and_parts ((a.engine == b.engine) && (a.rbc == b.rbc) && nat_le a.first b.last) (nat_le b.first a.last) h in
    let two = and_parts ((a.engine == b.engine) && (a.rbc == b.rbc)) (nat_le a.first b.last) three.0 in
    let pair = and_parts (a.engine == b.engine) (a.rbc == b.rbc) two.0 in
    let early = leb-true a.first b.last two.1 in
    let late = leb-true b.first a.last three.1 in
    record {
      engine = eqb-true _ _ pair.0;
      rbc = eqb-true _ _ pair.1;
      moment = max a.first b.first;
      from_first = (omega arith, omega arith);
      to_last = (omega (arith, p.moments, late), omega (arith, q.moments, early));
    }

-- none of these is so with an entry
abbrev NoneWith : List KmacEntry → KmacEntry → Type 0
NoneWith [] entry = Unit {0}
NoneWith (other ∷ others) entry = (AreAtOnce other entry → ⊥) × NoneWith others entry

-- each of these is apart from all of those
abbrev AreApart : List KmacEntry → List KmacEntry → Type 0
AreApart [] rest = Unit {0}
AreApart (other ∷ others) rest = IsApartFrom other rest × AreApart others rest

none_found : (before : ℕ) (earlier : List KmacEntry) (entry : KmacEntry) → place_at_once before earlier entry ≡ None → NoneWith earlier entry
unfolding place_at_once
none_found before [] entry h = tt
none_found before (other ∷ others) entry h =
    elim (cases_Bool (is_at_once other entry)) [
      | inl t ↦ absurd (none-some (before + 1) (sym (rw t at h)))
      | inr f ↦ (λ both. false≢true (sym f ∙ at_once_tells other entry both), none_found (before + 1) others entry (rw f at h))
    ]

not_found : (before : ℕ) (earlier : List KmacEntry) (entry : KmacEntry) → AreInRange earlier → IsInRange entry → NoneWith earlier entry
    → place_at_once before earlier entry ≡ None
unfolding place_at_once
not_found before [] entry p q h = refl
not_found before (other ∷ others) entry p q h =
    elim (cases_Bool (is_at_once other entry)) [
      | inl t ↦ absurd (h.0 (tells_at_once other entry p.0 q t))
      | inr f ↦ rw f (not_found (before + 1) others entry p.1 q h.1)
    ]

apart_none : (earlier : List KmacEntry) → AreApart earlier []
apart_none [] = tt
apart_none (other ∷ others) = (tt, apart_none others)

apart_more : (earlier : List KmacEntry) (entry : KmacEntry) (entries : List KmacEntry) → NoneWith earlier entry → AreApart (earlier ++ entry ∷ []) entries
    → AreApart earlier (entry ∷ entries) × IsApartFrom entry entries
apart_more [] entry entries h k = (tt, k.0)
apart_more (other ∷ others) entry entries h k =
    let rest = apart_more others entry entries h.1 k.1 in
    (((h.0, k.0), rest.0), rest.1)

apart_less : (earlier : List KmacEntry) (entry : KmacEntry) (entries : List KmacEntry) → AreApart earlier (entry ∷ entries) → IsApartFrom entry entries
    → AreApart (earlier ++ entry ∷ []) entries
apart_less [] entry entries h k = (k, tt)
apart_less (other ∷ others) entry entries h k = (h.0.1, apart_less others entry entries h.1 k)

none_with : (earlier : List KmacEntry) (entry : KmacEntry) (entries : List KmacEntry) → AreApart earlier (entry ∷ entries) → NoneWith earlier entry
none_with [] entry entries h = tt
none_with (other ∷ others) entry entries h = (h.0.0, none_with others entry entries h.1)

pub no_twice_or : (place : Option ℕ) (second : ℕ) (further : Option (ℕ × ℕ)) → twice_or place second further ≡ None → (place ≡ None) × (further ≡ None)
no_twice_or None second further h = (refl, h)
no_twice_or (Some first) second further h = absurd (none-some (first, second) (sym h))

apart_all : (earlier entries : List KmacEntry) → first_twice earlier entries ≡ None → AreApart earlier entries × AreKmacEntriesApart entries
unfolding first_twice
apart_all earlier [] h = (apart_none earlier, tt)
apart_all earlier (entry ∷ entries) h =
    let parts = no_twice_or (place_at_once 0 earlier entry) (length earlier + 1) (first_twice (earlier ++ entry ∷ []) entries) h in
    let rest = apart_all (earlier ++ entry ∷ []) entries parts.1 in
    let here = apart_more earlier entry entries (none_found 0 earlier entry parts.0) rest.0 in
    (here.0, (here.1, rest.1))

pub distinct_where_none : (entries : List KmacEntry) → first_twice [] entries ≡ None → AreKmacEntriesApart entries
distinct_where_none entries h = (apart_all [] entries h).1

pub range_more : (front : List KmacEntry) (entry : KmacEntry) → AreInRange front → IsInRange entry → AreInRange (front ++ entry ∷ [])
range_more [] entry h k = (k, tt)
range_more (first ∷ front) entry h k = (h.0, range_more front entry h.1 k)

none_from : (earlier entries : List KmacEntry) → AreInRange earlier → AreInRange entries → AreApart earlier entries → AreKmacEntriesApart entries
    → first_twice earlier entries ≡ None
unfolding first_twice
none_from earlier [] p q h k = refl
none_from earlier (entry ∷ entries) p q h k =
    rw (not_found 0 earlier entry p q.0 (none_with earlier entry entries h))
    (none_from (earlier ++ entry ∷ []) entries (range_more earlier entry p q.0) q.1 (apart_less earlier entry entries h k.0) k.1)

pub none_where_distinct : (entries : List KmacEntry) → AreInRange entries → AreKmacEntriesApart entries → first_twice [] entries ≡ None
none_where_distinct entries p h = none_from [] entries tt p tt h
