-- The look-up of keys with moments.
use Rattle.std.proofs.Common.{◌≡◌, ℕ, zero, suc, ◌==◌, ◌≤◌, ◌&&◌, nat_le, Bool, true, false, if◌then◌else◌, List, [], ◌∷◌, slice_get, Some, refl, sym, subst, ap, eq-eqb}
use Rattle.std.proofs.lemmas.Bool.{eqb-true, and_parts, and_from, leb-true, le-leb}
use Rattle.des_block.specs.declared.triple_key.TripleKey.{TripleKey}
use Rattle.safety_automaton.specs.Keys.{KmacEntry, is_of, key_at, AreAtOnce, IsApartFrom}
use Rattle.safety_automaton.specs.Laws.{FindsEach, FindsOnly, IsFound}

-- ---- only such an entry is found

found_if : (b : Bool) (entry : KmacEntry) (entries : List KmacEntry) (now engine rbc : ℕ) (kmac : TripleKey) → is_of now engine rbc entry ≡ b
    → (key_at entries now engine rbc ≡ Some kmac → IsFound entries now engine rbc kmac)
    → (if b then Some entry.kmac else key_at entries now engine rbc) ≡ Some kmac → IsFound (entry ∷ entries) now engine rbc kmac
found_if true entry entries now engine rbc kmac test further e =
    let pair_first = and_parts ((entry.engine == engine) && (entry.rbc == rbc) && nat_le entry.first now) (nat_le now entry.last) test in
    let pair = and_parts ((entry.engine == engine) && (entry.rbc == rbc)) (nat_le entry.first now) pair_first.0 in
    let both = and_parts (entry.engine == engine) (entry.rbc == rbc) pair.0 in
    record {
      entry = entry;
      place = 0;
      stands = refl;
      engine_is = eqb-true entry.engine engine both.0;
      rbc_is = eqb-true entry.rbc rbc both.1;
      kmac_is = cc;
      has_begun = leb-true entry.first now pair.1;
      holds_yet = leb-true now entry.last pair_first.1;
    }
found_if false entry entries now engine rbc kmac test further e =
    let f : IsFound entries now engine rbc kmac = further e in
    record {
      entry = f.entry;
      place = suc f.place;
      stands = f.stands;
      engine_is = f.engine_is;
      rbc_is = f.rbc_is;
      kmac_is = f.kmac_is;
      has_begun = f.has_begun;
      holds_yet = f.holds_yet;
    }

pub finds_only : FindsOnly
finds_only [] now engine rbc kmac e = absurd cc
finds_only (entry ∷ entries) now engine rbc kmac e =
    found_if (is_of now engine rbc entry) entry entries now engine rbc kmac refl (finds_only entries now engine rbc kmac) e

-- ---- each entry that holds is found

abbrev Holds : KmacEntry → ℕ → Type 0
Holds entry now = (entry.first ≤ now) × (now ≤ entry.last)

is_own : (entry : KmacEntry) (now : ℕ) → Holds entry now → is_of now entry.engine entry.rbc entry ≡ true
is_own entry now holds =
    and_from ((entry.engine == entry.engine) && (entry.rbc == entry.rbc) && nat_le entry.first now) (nat_le now entry.last)
    (and_from ((entry.engine == entry.engine) && (entry.rbc == entry.rbc)) (nat_le entry.first now)
    (and_from (entry.engine == entry.engine) (entry.rbc == entry.rbc) (eq-eqb _ _ refl) (eq-eqb _ _ refl))
    (le-leb entry.first now holds.0))
    (le-leb now entry.last holds.1)

-- none of these is of one pair and one moment with an entry that is apart from them
apart_from_each : (first entry : KmacEntry) (entries : List KmacEntry) (k : ℕ) → IsApartFrom first entries → slice_get entries k ≡ Some entry
    → AreAtOnce first entry → ⊥
apart_from_each first entry [] k apart stands both = cc
apart_from_each first entry (other ∷ others) zero apart stands both =
    let same : other ≡ entry = cc in apart.0 (subst (λ x. AreAtOnce first x) (sym same) both)
apart_from_each first entry (other ∷ others) (suc k) apart stands both = apart_from_each first entry others k apart.1 stands both

-- the first entry is of the same pair at the same moment: then it is the entry
is_first : (first entry : KmacEntry) (entries : List KmacEntry) (k now : ℕ) (b : Bool) → IsApartFrom first entries → slice_get entries k ≡ Some entry
    → Holds entry now → is_of now entry.engine entry.rbc first ≡ b → key_at entries now entry.engine entry.rbc ≡ Some entry.kmac
    → (if b then Some first.kmac else key_at entries now entry.engine entry.rbc) ≡ Some entry.kmac
is_first first entry entries k now true apart stands holds test further =
    let pair_first = and_parts ((first.engine == entry.engine) && (first.rbc == entry.rbc) && nat_le first.first now) (nat_le now first.last) test in
    let pair = and_parts ((first.engine == entry.engine) && (first.rbc == entry.rbc)) (nat_le first.first now) pair_first.0 in
    let both = and_parts (first.engine == entry.engine) (first.rbc == entry.rbc) pair.0 in
    let at_once : AreAtOnce first entry = record {
      engine = eqb-true first.engine entry.engine both.0;
      rbc = eqb-true first.rbc entry.rbc both.1;
      moment = now;
      from_first = (leb-true first.first now pair.1, holds.0);
      to_last = (leb-true now first.last pair_first.1, holds.1);
    } in
    absurd (apart_from_each first entry entries k apart stands at_once)
is_first first entry entries k now false apart stands holds test further = further

pub finds_each : FindsEach
finds_each [] entry k now distinct stands begun yet = absurd cc
finds_each (first ∷ entries) entry zero now distinct stands begun yet =
    let same : first ≡ entry = cc in
    let P : KmacEntry → Type 0 = λ x. is_of now entry.engine entry.rbc x ≡ true in
    let test : is_of now entry.engine entry.rbc first ≡ true = subst P (sym same) (is_own entry now (begun, yet)) in
    rw test (ap (λ (x : KmacEntry). Some x.kmac) same)
finds_each (first ∷ entries) entry (suc k) now distinct stands begun yet =
    is_first first entry entries k now (is_of now entry.engine entry.rbc first) distinct.0 stands (begun, yet) refl
    (finds_each entries entry k now distinct.1 stands begun yet)
