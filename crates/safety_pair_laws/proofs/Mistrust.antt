-- Marks tell what neither side had sealed: the tests by which they are made, and what they mean.
use Rattle.std.proofs.Common.{◌≡◌, ℕ, ◌&&◌, ◌||◌, Bool, true, false, inl, inr, List, [], ◌∷◌, length, refl, sym, subst, ◌∙◌, zero, suc, arith}
use Rattle.std.specs.Prelude.{◌==◌, ◌⊎◌, ◌<◌, not, slice_index_or}
use Rattle.std.specs.List.{list_any, AllByRecursion}
use Rattle.std.specs.Str.{bytes_eq}
use Rattle.std.proofs.lemmas.Bool.{and_parts, and_from, or_left, or_right, or_cases, or_parts, eq-eqb, not-false, not-true, false≢true}
use Rattle.std.proofs.lemmas.List.Folds.{list_any-append, Any-from_list_any, list_any-from_Any}
use Rattle.std.proofs.lemmas.Slice.Eq.{bytes_eq-Decides}
use Rattle.er_base.specs.declared.side.Side.{Side}
use Rattle.er_base.specs.declared.side.Side.TheVariants.{E, R}
use Rattle.des_block.specs.declared.triple_key.TripleKey.{TripleKey}
use Rattle.safety_pair_laws.specs.Facts.{Fact, Sent, Sealed, Verified, Connected, Accepted, MarkedFact, is_key, is_sealing, sealings_of, sealings, was_sealed, is_side, is_mistrust_of, is_mistrust, mistrusts}
use Rattle.safety_pair_laws.specs.Authentic.{Sends, Seals, Verifies, EitherSealed, IsMarkedRight, WasMarked}
use Rattle.safety_pair_laws.proofs.Along.{any_map}
use Rattle.safety_pair_laws.proofs.Sealings.{HasPair, sealed_before}

-- ---- sealings

-- a fact seals this text under these session keys
abbrev SealsIt : TripleKey → List ℕ → Fact → Type 0
SealsIt key text fact = Seals key text fact ⊎ ((user : List ℕ) × Sends user key text fact)

seals_it : (key : TripleKey) (text : List ℕ) (fact : Fact) → HasPair key text fact → SealsIt key text fact
seals_it key text (Sent user own sealed) h = inr (user, (refl, h.0, h.1))
seals_it key text (Sealed own sealed) h = inl h
seals_it key text (Verified heard own sealed) h = absurd h
seals_it key text (Connected heard connection sealed) h = absurd h
seals_it key text (Accepted heard user own sealed) h = absurd h

has_pair : (key : TripleKey) (text : List ℕ) (fact : Fact) → SealsIt key text fact → HasPair key text fact
has_pair key text (Sent user own sealed) (inl h) = absurd h
has_pair key text (Sent user own sealed) (inr h) = (h.1.1, h.1.2)
has_pair key text (Sealed own sealed) (inl h) = h
has_pair key text (Sealed own sealed) (inr h) = absurd h.1
has_pair key text (Verified heard own sealed) (inl h) = absurd h
has_pair key text (Verified heard own sealed) (inr h) = absurd h.1
has_pair key text (Connected heard connection sealed) (inl h) = absurd h
has_pair key text (Connected heard connection sealed) (inr h) = absurd h.1
has_pair key text (Accepted heard user own sealed) (inl h) = absurd h
has_pair key text (Accepted heard user own sealed) (inr h) = absurd h.1

-- what has the pair is found by the test
own_key : (key : TripleKey) → is_key key key ≡ true
own_key key =
    and_from ((key.first == key.first) && (key.second == key.second)) (key.third == key.third)
    (and_from (key.first == key.first) (key.second == key.second) (eq-eqb key.first key.first refl) (eq-eqb key.second key.second refl))
    (eq-eqb key.third key.third refl)

own_sealing : (key own : TripleKey) (text sealed : List ℕ) → own ≡ key → sealed ≡ text
    → list_any (is_sealing key text) (record { key = own; text = sealed } ∷ []) ≡ true
own_sealing key own text sealed keys texts =
    let is : is_key own key ≡ true = subst (λ (k : TripleKey). is_key k key ≡ true) (sym keys) (own_key key) in
    let same : bytes_eq sealed text ≡ true = (bytes_eq-Decides sealed text).1 texts in
    or_left (is_key own key && bytes_eq sealed text) false (and_from (is_key own key) (bytes_eq sealed text) is same)

finds : (key : TripleKey) (text : List ℕ) (fact : Fact) → HasPair key text fact → list_any (is_sealing key text) (sealings_of fact) ≡ true
finds key text (Sent user own sealed) h = own_sealing key own text sealed h.0 h.1
finds key text (Sealed own sealed) h = own_sealing key own text sealed h.0 h.1
finds key text (Verified heard own sealed) h = absurd h
finds key text (Connected heard connection sealed) h = absurd h
finds key text (Accepted heard user own sealed) h = absurd h

found_at : (key : TripleKey) (text : List ℕ) (before : List MarkedFact) (k : ℕ) (m : MarkedFact) → k < length before → slice_index_or before k m ≡ m
    → HasPair key text m.fact → was_sealed key text before ≡ true
found_at key text [] k m inside is h = absurd (omega arith)
found_at key text (y ∷ before) zero m inside is h =
    let here : list_any (is_sealing key text) (sealings_of y.fact) ≡ true =
    finds key text y.fact (subst (λ (x : MarkedFact). HasPair key text x.fact) (sym is) h) in
    list_any-append (is_sealing key text) (sealings_of y.fact) (sealings before)
    ∙ or_left (list_any (is_sealing key text) (sealings_of y.fact)) (was_sealed key text before) here
found_at key text (y ∷ before) (suc k) m inside is h =
    list_any-append (is_sealing key text) (sealings_of y.fact) (sealings before)
    ∙ or_right (list_any (is_sealing key text) (sealings_of y.fact)) (was_sealed key text before) (found_at key text before k m (omega arith) is h)

all_unit : (before : List MarkedFact) → AllByRecursion (λ m. Unit {0}) before
all_unit [] = tt
all_unit (m ∷ before) = (tt, all_unit before)

-- a text was sealed exactly where the test says so
pub was_sealed_by : (key : TripleKey) (text : List ℕ) (before : List MarkedFact) → EitherSealed key text before → was_sealed key text before ≡ true
was_sealed_by key text before h = found_at key text before h.0 h.1 h.2 h.3 (has_pair key text h.1.fact h.4)

pub either_sealed : (key : TripleKey) (text : List ℕ) (before : List MarkedFact) → was_sealed key text before ≡ true → EitherSealed key text before
either_sealed key text before e =
    sealed_before (λ m. SealsIt key text m.fact) (λ m. Unit {0}) key text (λ m all. seals_it key text m.fact) before (all_unit before) e

pub none_sealed : (key : TripleKey) (text : List ℕ) (before : List MarkedFact) → was_sealed key text before ≡ false → EitherSealed key text before → ⊥
none_sealed key text before e h = false≢true (sym e ∙ was_sealed_by key text before h)

-- what is marked where the test finds nothing is marked right
pub marked_right : (key : TripleKey) (text : List ℕ) (before : List MarkedFact) → IsMarkedRight before key text (not (was_sealed key text before))
marked_right key text before =
    record {
      only = λ e. none_sealed key text before (not-true (was_sealed key text before) e);
      else_sealed = λ e. either_sealed key text before (not-false (was_sealed key text before) e);
    }

-- ---- what was verified earlier in a set-up

same_side : (a b : Side) → is_side a b ≡ true → b ≡ a
same_side E E e = refl
same_side E R e = cc
same_side R E e = cc
same_side R R e = refl

own_side : (a : Side) → is_side a a ≡ true
own_side E = refl
own_side R = refl

-- a text of the set-up was verified, and is marked
abbrev Mistrusts : Fact → Bool → Type 0
Mistrusts fact forged = (forged ≡ true) × ((key : TripleKey) × (text : List ℕ) × Verifies key text fact)

mistrusted : (fact : Fact) (forged : Bool) → is_mistrust_of fact forged ≡ true → Mistrusts fact forged
mistrusted (Sent user key text) forged e = cc
mistrusted (Sealed key text) forged e = cc
mistrusted (Verified heard key text) forged e = (e, (key, text, (refl, refl)))
mistrusted (Connected heard connection text) forged e = cc
mistrusted (Accepted heard user key text) forged e = cc

mistrust_of : (fact : Fact) (forged : Bool) → Mistrusts fact forged → is_mistrust_of fact forged ≡ true
mistrust_of (Sent user key text) forged h = absurd h.1.2
mistrust_of (Sealed key text) forged h = absurd h.1.2
mistrust_of (Verified heard key text) forged h = h.0
mistrust_of (Connected heard connection text) forged h = absurd h.1.2
mistrust_of (Accepted heard user key text) forged h = absurd h.1.2

abbrev IsMarkedAt : Side → MarkedFact → Type 0
IsMarkedAt side f = (f.side ≡ side) × (f.forged ≡ true) × ((key : TripleKey) × (text : List ℕ) × Verifies key text f.fact)

marked_at : (side : Side) (f : MarkedFact) → is_mistrust side f ≡ true → IsMarkedAt side f
marked_at side f e =
    let both : (is_side side f.side ≡ true) × (is_mistrust_of f.fact f.forged ≡ true) = and_parts (is_side side f.side) (is_mistrust_of f.fact f.forged) e in
    let there : Mistrusts f.fact f.forged = mistrusted f.fact f.forged both.1 in
    (same_side side f.side both.0, there.0, there.1)

mistrust_at : (side : Side) (f : MarkedFact) → IsMarkedAt side f → is_mistrust side f ≡ true
mistrust_at side f h =
    and_from (is_side side f.side) (is_mistrust_of f.fact f.forged)
    (subst (λ (s : Side). is_side side s ≡ true) (sym h.0) (own_side side))
    (mistrust_of f.fact f.forged (h.1, h.2))

pub was_marked : (side : Side) (before : List MarkedFact) → mistrusts side before ≡ true → WasMarked side before
was_marked side before e =
    any_map (λ f. is_mistrust side f ≡ true) (IsMarkedAt side) before (marked_at side) (Any-from_list_any (is_mistrust side) before e)

none_marked : (side : Side) (before : List MarkedFact) → mistrusts side before ≡ false → WasMarked side before → ⊥
none_marked side before e h =
    let found : mistrusts side before ≡ true =
    list_any-from_Any (is_mistrust side) before (any_map (IsMarkedAt side) (λ f. is_mistrust side f ≡ true) before (mistrust_at side) h) in
    false≢true (sym e ∙ found)

-- ---- the mark of a connection

abbrev of_connection : TripleKey → List ℕ → Side → List MarkedFact → Bool
of_connection key text side before = not (was_sealed key text before) || mistrusts side before

pub trusted_earlier : (key : TripleKey) (text : List ℕ) (side : Side) (before : List MarkedFact) → of_connection key text side before ≡ false
    → WasMarked side before → ⊥
trusted_earlier key text side before e = none_marked side before (or_parts (not (was_sealed key text before)) (mistrusts side before) e).1

pub only_so : (key : TripleKey) (text : List ℕ) (side : Side) (before : List MarkedFact) → of_connection key text side before ≡ true
    → (EitherSealed key text before → ⊥) ⊎ WasMarked side before
only_so key text side before e =
    elim (or_cases (not (was_sealed key text before)) (mistrusts side before) e) [
      | inl none ↦ inl (none_sealed key text before (not-true (was_sealed key text before) none))
      | inr earlier ↦ inr (was_marked side before earlier)
    ]
