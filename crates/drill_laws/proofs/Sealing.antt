-- Marks of more facts: what was sealed stays so, and what is sealed by them is.
use Rattle.std.proofs.Common.{◌≡◌, ℕ, ◌&&◌, ◌||◌, Bool, true, false, List, [], ◌∷◌, ◌++◌, refl, ap, ap₂, ◌∙◌}
use Rattle.std.specs.Prelude.{◌==◌}
use Rattle.std.specs.List.{list_any, AllByRecursion}
use Rattle.std.proofs.lemmas.Bool.{or_parts, or_left, or_right, eq-eqb}
use Rattle.std.proofs.lemmas.List.Concat.{flat_map-append}
use Rattle.std.proofs.lemmas.List.Folds.{list_any-append}
use Rattle.std.proofs.lemmas.Slice.Eq.{bytes_eq-Decides}
use Rattle.er_base.specs.declared.side.Side.{Side}
use Rattle.des_block.specs.declared.triple_key.TripleKey.{TripleKey}
use Rattle.safety_pair_laws.specs.Facts.{Fact, Sent, Sealed, Verified, Connected, Accepted, MarkedFact, is_key, is_sealing, sealings_of, sealings, was_sealed, is_side, is_mistrust_of, is_mistrust, mistrusts}

-- one of the two sides sealed this text under these session keys
abbrev pub IsSealed : TripleKey → (text : List ℕ) → List MarkedFact → Type 0
IsSealed key text facts = was_sealed key text facts ≡ true

abbrev pub IsUnforged : List MarkedFact → Type 0
IsUnforged facts = list_any (λ f. f.forged) facts ≡ false

-- ---- what is sealed

self_key : (key : TripleKey) → is_key key key ≡ true
self_key key =
    let first : (key.first == key.first) ≡ true = eq-eqb key.first key.first refl in
    let second : (key.second == key.second) ≡ true = eq-eqb key.second key.second refl in
    let third : (key.third == key.third) ≡ true = eq-eqb key.third key.third refl in
    ap₂ (λ (a b : Bool). a && b) (ap₂ (λ (a b : Bool). a && b) first second) third

pub self_sealing : (key : TripleKey) (text : List ℕ) → is_sealing key text (record { key = key; text = text }) ≡ true
self_sealing key text = ap₂ (λ (a b : Bool). a && b) (self_key key) ((bytes_eq-Decides text text).1 refl)

sealed_in_both : (key : TripleKey) (text : List ℕ) (seen more : List MarkedFact) → was_sealed key text (seen ++ more) ≡ (was_sealed key text seen || was_sealed key text more)
sealed_in_both key text seen more =
    ap (list_any (is_sealing key text)) (flat_map-append (λ (m : MarkedFact). sealings_of m.fact) seen more)
    ∙ list_any-append (is_sealing key text) (sealings seen) (sealings more)

-- what was sealed stays so
pub sealed_still : (key : TripleKey) (text : List ℕ) (seen more : List MarkedFact) → IsSealed key text seen → IsSealed key text (seen ++ more)
sealed_still key text seen more e = sealed_in_both key text seen more ∙ or_left (was_sealed key text seen) (was_sealed key text more) e

-- what further facts seal is sealed
pub sealed_now : (key : TripleKey) (text : List ℕ) (seen more : List MarkedFact) → IsSealed key text more → IsSealed key text (seen ++ more)
sealed_now key text seen more e = sealed_in_both key text seen more ∙ or_right (was_sealed key text seen) (was_sealed key text more) e

-- of each of these texts
pub all_sealed_still : (key : TripleKey) (text_of : List ℕ → List ℕ) (users : List (List ℕ)) (seen more : List MarkedFact)
    → AllByRecursion (λ user. IsSealed key (text_of user) seen) users → AllByRecursion (λ user. IsSealed key (text_of user) (seen ++ more)) users
all_sealed_still key text_of [] seen more h = tt
all_sealed_still key text_of (user ∷ users) seen more h = (sealed_still key (text_of user) seen more h.0, all_sealed_still key text_of users seen more h.1)

-- ---- what is forged

pub unforged_more : (seen more : List MarkedFact) → IsUnforged seen → IsUnforged more → IsUnforged (seen ++ more)
unforged_more seen more e f =
    list_any-append (λ (m : MarkedFact). m.forged) seen more ∙ ap₂ (λ (a b : Bool). a || b) e f

no_mistrust : (side : Side) (m : MarkedFact) → m.forged ≡ false → is_mistrust side m ≡ false
no_mistrust side m unforged = both (is_side side m.side) m.fact m.forged unforged
  where
    both : (b : Bool) (fact : Fact) (forged : Bool) → forged ≡ false → (b && is_mistrust_of fact forged) ≡ false
    both false fact forged e = refl
    both true (Sent user key text) forged e = refl
    both true (Sealed key text) forged e = refl
    both true (Verified heard key text) forged e = e
    both true (Connected heard c text) forged e = refl
    both true (Accepted heard user key text) forged e = refl

-- where nothing is forged, nothing is mistrusted
pub none_mistrusted : (side : Side) (facts : List MarkedFact) → IsUnforged facts → mistrusts side facts ≡ false
none_mistrusted side [] none = refl
none_mistrusted side (m ∷ facts) none =
    let parts : (m.forged ≡ false) × IsUnforged facts = or_parts m.forged (list_any (λ (n : MarkedFact). n.forged) facts) none in
    ap₂ (λ (a b : Bool). a || b) (no_mistrust side m parts.0) (none_mistrusted side facts parts.1)
