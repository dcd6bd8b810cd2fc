-- The text of an audit is of each link that its tap opens, and of no other.
use Rattle.std.proofs.Common.{◌≡◌, ◌∙◌, ◌≤◌, ◌⊎◌, inl, inr, ℕ, zero, suc, ◌+◌, List, [], ◌∷◌, ◌++◌, Option, Some, None, refl, sym, ap, ap₂, arith, subst, append-nil}
use Rattle.std.specs.Prelude.{◌==◌, Bool, true, false, if◌then◌else◌}
use Rattle.std.specs.List.{flat_map}
use Rattle.std.proofs.lemmas.Bool.{eqb-true}
use Rattle.std.proofs.lemmas.List.Concat.{flat_map-cons}
use Rattle.er_tap.specs.declared.tap_line.TapLine.{TapLine}
use Rattle.er_tap.specs.declared.tap_step.TapStep.{TapStep}
use Rattle.er_tap.specs.declared.tap_step.TapStep.TheVariants as step
use Rattle.er_tap.specs.Ranges.{IsLink, IsInRange, AreInRange}
use Rattle.er_end_model.specs.Steps.{Finds}
use Rattle.tap_model.specs.Lines.{TapOpening, opens_link, first_opening, tap_opening_of_link}
use Rattle.er_base.specs.declared.side.Side.TheVariants.{E, R}
use Rattle.tap_model.specs.Texts.{side_text, judged_at, link_text, links_text}
use Rattle.tap_model.specs.EndTexts.{link_text_asked, links_text_asked, text_of_audit}
use Rattle.tap_model.specs.AllLinks.{TappedLink, AreRisingFrom, IsAmong, text_of_link, AuditHasAllLinks}

abbrev link_of : ℕ → TapOpening → TappedLink
link_of n o = record { number = n; opening = o }

-- ---- the links from a number on, so many

abbrev with_opened : ℕ → Option TapOpening → List TappedLink → List TappedLink
with_opened n None rest = rest
with_opened n (Some o) rest = link_of n o ∷ rest

abbrev opened_from : List TapLine → (n count : ℕ) → List TappedLink
opened_from lines n zero = []
opened_from lines n (suc count) = with_opened n (tap_opening_of_link n lines) (opened_from lines (n + 1) count)

-- ---- rising

rising_weaker : (least more : ℕ) (links : List TappedLink) → least ≤ more → AreRisingFrom more links → AreRisingFrom least links
rising_weaker least more [] le h = tt
rising_weaker least more (link ∷ links) le h = let at : more ≤ link.number = h.0 in (omega (arith, le, at), h.1)

rising_with : (n : ℕ) (found : Option TapOpening) (rest : List TappedLink) → AreRisingFrom (n + 1) rest → AreRisingFrom n (with_opened n found rest)
rising_with n None rest h = rising_weaker n (n + 1) rest (omega arith) h
rising_with n (Some o) rest h = (omega arith, h)

rising : (lines : List TapLine) (n count : ℕ) → AreRisingFrom n (opened_from lines n count)
rising lines n zero = tt
rising lines n (suc count) = rising_with n (tap_opening_of_link n lines) (opened_from lines (n + 1) count) (rising lines (n + 1) count)

-- ---- each

among_here : (n : ℕ) (o : TapOpening) (found : Option TapOpening) (rest : List TappedLink) → found ≡ Some o → IsAmong (link_of n o) (with_opened n found rest)
among_here n o None rest e = absurd cc
among_here n o (Some p) rest e = inl (let same : p ≡ o = cc in ap (λ (x : TapOpening). link_of n x) (sym same))

among_there : (link : TappedLink) (n : ℕ) (found : Option TapOpening) (rest : List TappedLink) → IsAmong link rest → IsAmong link (with_opened n found rest)
among_there link n None rest h = h
among_there link n (Some o) rest h = inr h

-- the j-th from n on
among : (lines : List TapLine) (k : ℕ) (o : TapOpening) → tap_opening_of_link k lines ≡ Some o → (j n count : ℕ) → n + j ≡ k → j + 1 ≤ count
    → IsAmong (link_of k o) (opened_from lines n count)
among lines k o e j n zero is less = absurd (omega (arith, less))
among lines k o e zero n (suc count) is less =
    let here : n ≡ k = omega (arith, is) in
    let found : tap_opening_of_link n lines ≡ Some o = ap (λ (x : ℕ). tap_opening_of_link x lines) here ∙ e in
    subst (λ (x : ℕ). IsAmong (link_of x o) (with_opened n (tap_opening_of_link n lines) (opened_from lines (n + 1) count))) here
    (among_here n o (tap_opening_of_link n lines) (opened_from lines (n + 1) count) found)
among lines k o e (suc j) n (suc count) is less =
    among_there (link_of k o) n (tap_opening_of_link n lines) (opened_from lines (n + 1) count) (among lines k o e j (n + 1) count (omega (arith, is)) (omega (arith, less)))

-- ---- no other

only_with : (lines : List TapLine) (k : ℕ) (o : TapOpening) (n : ℕ) (found : Option TapOpening) (rest : List TappedLink) → tap_opening_of_link n lines ≡ found
    → (IsAmong (link_of k o) rest → tap_opening_of_link k lines ≡ Some o) → IsAmong (link_of k o) (with_opened n found rest) → tap_opening_of_link k lines ≡ Some o
only_with lines k o n None rest e there h = there h
only_with lines k o n (Some p) rest e there (inl same) =
    let number : k ≡ n = ap (λ (x : TappedLink). x.number) same in
    let opening : o ≡ p = ap (λ (x : TappedLink). x.opening) same in
    ap (λ (x : ℕ). tap_opening_of_link x lines) number ∙ e ∙ ap (λ (x : TapOpening). Some x) (sym opening)
only_with lines k o n (Some p) rest e there (inr h) = there h

only : (lines : List TapLine) (k : ℕ) (o : TapOpening) (n count : ℕ) → IsAmong (link_of k o) (opened_from lines n count) → tap_opening_of_link k lines ≡ Some o
only lines k o n zero h = absurd h
only lines k o n (suc count) h =
    only_with lines k o n (tap_opening_of_link n lines) (opened_from lines (n + 1) count) refl (λ there. only lines k o (n + 1) count there) h

-- ---- the text

text_with : (ends : Bool) (finds : Finds) (lines : List TapLine) (n : ℕ) (found : Option TapOpening) (rest : List TappedLink)
    → link_text_asked ends finds lines n found ++ flat_map (text_of_link ends finds lines) rest ≡ flat_map (text_of_link ends finds lines) (with_opened n found rest)
text_with ends finds lines n None rest = refl
text_with ends finds lines n (Some o) rest = sym (flat_map-cons (text_of_link ends finds lines) (link_of n o) rest)

text_asked : (ends : Bool) (finds : Finds) (lines : List TapLine) (n count : ℕ)
    → links_text_asked ends finds lines n count ≡ flat_map (text_of_link ends finds lines) (opened_from lines n count)
unfolding links_text_asked
text_asked ends finds lines n zero = refl
text_asked ends finds lines n (suc count) =
    ap (λ (rest : List ℕ). link_text_asked ends finds lines n (tap_opening_of_link n lines) ++ rest) (text_asked ends finds lines (n + 1) count)
    ∙ text_with ends finds lines n (tap_opening_of_link n lines) (opened_from lines (n + 1) count)

-- without ends
plain_link : (finds : Finds) (lines : List TapLine) (n : ℕ) (o : Option TapOpening) → link_text finds lines n o ≡ link_text_asked false finds lines n o
plain_link finds lines n None = refl
plain_link finds lines n (Some o) =
    ap₂ (λ (a b : List ℕ). a ++ b) (sym (append-nil (side_text n E (judged_at finds n o lines E)))) (sym (append-nil (side_text n R (judged_at finds n o lines R))))

plain_links : (finds : Finds) (lines : List TapLine) (n count : ℕ) → links_text finds lines n count ≡ links_text_asked false finds lines n count
unfolding links_text links_text_asked
plain_links finds lines n zero = refl
plain_links finds lines n (suc count) =
    ap₂ (λ (a b : List ℕ). a ++ b) (plain_link finds lines n (tap_opening_of_link n lines)) (plain_links finds lines (n + 1) count)

text_is : (ends : Bool) (finds : Finds) (lines : List TapLine) → text_of_audit ends finds lines ≡ flat_map (text_of_link ends finds lines) (opened_from lines 1 64)
text_is false finds lines = plain_links finds lines 1 64 ∙ text_asked false finds lines 1 64
text_is true finds lines = text_asked true finds lines 1 64

-- ---- the numbers of links

number_by : (n m : ℕ) (o : TapOpening) (t : Bool) (opening : TapOpening) → (m == n) ≡ t → IsLink m → (if t then Some opening else None) ≡ Some o → IsLink n
number_by n m o true opening e link found = let same : m ≡ n = eqb-true m n e in rw (sym same) link
number_by n m o false opening e link found = absurd cc

number_at : (n : ℕ) (o : TapOpening) (s : TapStep) → IsInRange s → opens_link n s ≡ Some o → IsLink n
number_at n o (step.Link m engine rbc at) h e = number_by n m o (m == n) (record { engine = engine; rbc = rbc; moment = at }) refl h.0 e
number_at n o (step.Octets m side text) h e = absurd cc

first_of : (found later : Option TapOpening) (o : TapOpening) → first_opening found later ≡ Some o → (found ≡ Some o) ⊎ (later ≡ Some o)
first_of None later o e = inr e
first_of (Some p) later o e = inl e

number_in : (n : ℕ) (o : TapOpening) (lines : List TapLine) → AreInRange lines → tap_opening_of_link n lines ≡ Some o → IsLink n
unfolding tap_opening_of_link
number_in n o [] h e = absurd cc
number_in n o (x ∷ rest) h e =
    elim (first_of (opens_link n x.step) (tap_opening_of_link n rest) o e) [
      | inl here ↦ number_at n o x.step h.0 here
      | inr there ↦ number_in n o rest h.1 there
    ]

among_all : (lines : List TapLine) → AreInRange lines → (n : ℕ) (o : TapOpening) → tap_opening_of_link n lines ≡ Some o → IsAmong (link_of n o) (opened_from lines 1 64)
among_all lines range n o e = by n (number_in n o lines range e) e
  where
    by : (n : ℕ) → IsLink n → tap_opening_of_link n lines ≡ Some o → IsAmong (link_of n o) (opened_from lines 1 64)
    by zero h e = let least : 1 ≤ 0 = h.0 in absurd (omega (arith, least))
    by (suc j) h e = let most : suc j ≤ 64 = h.1 in among lines (suc j) o e j 1 64 (omega arith) (omega (arith, most))

pub audit_has_all_links : AuditHasAllLinks
audit_has_all_links ends finds lines range = record {
  links = opened_from lines 1 64;
  rising = rising_weaker 0 1 (opened_from lines 1 64) (omega arith) (rising lines 1 64);
  each = among_all lines range;
  only = λ n o h. only lines n o 1 64 h;
  text_is = text_is ends finds lines;
}
