-- What was sealed: session keys and text tell it, and it stays so.
use Rattle.std.proofs.Common.{◌≡◌, ℕ, ◌&&◌, ◌||◌, true, false, inl, inr, List, [], ◌∷◌, ◌++◌, sym, ap, ◌∙◌}
use Rattle.std.specs.Prelude.{◌==◌, Any}
use Rattle.std.specs.List.{list_any, AllByRecursion}
use Rattle.std.specs.Str.{bytes_eq}
use Rattle.std.proofs.lemmas.Bool.{or_cases, or_left, and_parts, eqb-true}
use Rattle.std.proofs.lemmas.List.Concat.{flat_map-append}
use Rattle.std.proofs.lemmas.List.Folds.{list_any-append}
use Rattle.std.proofs.lemmas.Slice.Eq.{bytes_eq-Decides}
use Rattle.des_block.specs.declared.triple_key.TripleKey.{TripleKey}
use Rattle.safety_pair_laws.specs.Facts.{Fact, Sent, Sealed, Verified, Connected, Accepted, MarkedFact, is_key, is_sealing, sealings_of, sealings, was_sealed}
use Rattle.safety_pair_laws.proofs.Along.{any_here, any_there}

-- one that sealed this text under these session keys
abbrev pub HasPair : TripleKey → List ℕ → Fact → Type 0
HasPair key text (Sent user own sealed) = (own ≡ key) × (sealed ≡ text)
HasPair key text (Sealed own sealed) = (own ≡ key) × (sealed ≡ text)
HasPair key text (Verified heard own sealed) = ⊥
HasPair key text (Connected heard connection sealed) = ⊥
HasPair key text (Accepted heard user own sealed) = ⊥

abbrev key_from : ℕ → ℕ → ℕ → TripleKey
key_from a b c = record { first = a; second = b; third = c }

by_parts : (a b c x y z : ℕ) → a ≡ x → b ≡ y → c ≡ z → key_from a b c ≡ key_from x y z
by_parts a b c x y z e f g = cc

-- keys are compared by their three numbers
same_key : (a b : TripleKey) → is_key a b ≡ true → a ≡ b
same_key a b e =
    let outer : (((a.first == b.first) && (a.second == b.second)) ≡ true) × ((a.third == b.third) ≡ true) =
    and_parts ((a.first == b.first) && (a.second == b.second)) (a.third == b.third) e in
    let inner : ((a.first == b.first) ≡ true) × ((a.second == b.second) ≡ true) = and_parts (a.first == b.first) (a.second == b.second) outer.0 in
    let first : a.first ≡ b.first = eqb-true a.first b.first inner.0 in
    let second : a.second ≡ b.second = eqb-true a.second b.second inner.1 in
    let third : a.third ≡ b.third = eqb-true a.third b.third outer.1 in
    by_parts a.first a.second a.third b.first b.second b.third first second third

same_pair : (key own : TripleKey) (text sealed : List ℕ)
    → is_sealing key text (record { key = own; text = sealed }) ≡ true → (own ≡ key) × (sealed ≡ text)
same_pair key own text sealed e =
    let both : (is_key own key ≡ true) × (bytes_eq sealed text ≡ true) = and_parts (is_key own key) (bytes_eq sealed text) e in
    (same_key own key both.0, (bytes_eq-Decides sealed text).0 both.1)

lone : (key own : TripleKey) (text sealed : List ℕ)
    → list_any (is_sealing key text) (record { key = own; text = sealed } ∷ []) ≡ true → (own ≡ key) × (sealed ≡ text)
lone key own text sealed e =
    elim (or_cases (is_sealing key text (record { key = own; text = sealed })) false e) [
      | inl same ↦ same_pair key own text sealed same
      | inr none ↦ cc
    ]

has_pair : (key : TripleKey) (text : List ℕ) (fact : Fact) → list_any (is_sealing key text) (sealings_of fact) ≡ true → HasPair key text fact
has_pair key text (Sent user own sealed) e = lone key own text sealed e
has_pair key text (Sealed own sealed) e = lone key own text sealed e
has_pair key text (Verified heard own sealed) e = cc
has_pair key text (Connected heard connection sealed) e = cc
has_pair key text (Accepted heard user own sealed) e = cc

-- what was sealed was sealed by one of the facts, of which Q holds
pub sealed_before : (P Q : MarkedFact → Type 0) (key : TripleKey) (text : List ℕ) → ((m : MarkedFact) → Q m → HasPair key text m.fact → P m)
    → (before : List MarkedFact) → AllByRecursion Q before → was_sealed key text before ≡ true → Any P before
sealed_before P Q key text by [] all e = cc
sealed_before P Q key text by (m ∷ before) all e =
    let parts : (list_any (is_sealing key text) (sealings_of m.fact) || was_sealed key text before) ≡ true =
    sym (list_any-append (is_sealing key text) (sealings_of m.fact) (sealings before)) ∙ e in
    elim (or_cases (list_any (is_sealing key text) (sealings_of m.fact)) (was_sealed key text before) parts) [
      | inl here ↦ any_here P m before (by m all.0 (has_pair key text m.fact here))
      | inr there ↦ any_there P m before (sealed_before P Q key text by before all.1 there)
    ]

-- what was sealed stays so
pub was_sealed_more : (key : TripleKey) (text : List ℕ) (seen more : List MarkedFact)
    → was_sealed key text seen ≡ true → was_sealed key text (seen ++ more) ≡ true
was_sealed_more key text seen more e =
    ap (list_any (is_sealing key text)) (flat_map-append (λ (m : MarkedFact). sealings_of m.fact) seen more)
    ∙ list_any-append (is_sealing key text) (sealings seen) (sealings more)
    ∙ or_left (was_sealed key text seen) (was_sealed key text more) e
