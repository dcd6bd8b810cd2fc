-- What is counted of all that comes at a link.
use Rattle.std.proofs.Common.{◌≡◌, ℕ, ◌+◌, ◌-◌, ◌^◌, min, Bool, false, if◌then◌else◌, List, [], ◌∷◌, ◌++◌, map, length, length-append, refl, sym, ap, ◌∙◌, arith}
use Rattle.std.specs.List.{flat_map, count_by}
use Rattle.std.proofs.lemmas.List.Concat.{flat_map-append}
use Rattle.std.proofs.lemmas.List.Folds.{flat_map-map}
use Rattle.std.proofs.lemmas.List.Sums.{sum_by-cons, sum_by-append}
use Rattle.er_base.specs.declared.side.Side.{Side}
use Rattle.er_base.specs.declared.side.Side.TheVariants.{E, R}
use Rattle.safety_pair_laws.specs.Facts.{Fact, Sent, Sealed, Verified, Connected, Accepted, is_side}
use Rattle.drill_model.specs.declared.totals.Totals.{Totals}
use Rattle.drill_model.specs.Outcomes.{DrillOutcome, OfSafety, Handed, Arrived, Up, Took, NothingToTake, Refused, Released, Frame, Expired, Passed, NothingWaits, Occurrence, at_end}
use Rattle.drill_model.specs.Ends.{EndEvent}
use Rattle.drill_model.specs.Kinds.{sent_in, accepted_in, passed_in, deliveries}
use Rattle.drill_model.specs.Totals.{count_of_sends, acceptances, is_loss, is_repeat, losses, repeats}
use Rattle.drill_ends.specs.declared.told.Told.{Told}
use Rattle.er_world.specs.declared.waiting.Change.{Change}
use Rattle.er_world.specs.declared.waiting.Change.TheVariants as result
use Rattle.er_world.specs.Changes.{outcomes_of_line_change}
use Rattle.drill_ends.specs.Tellings.{IsToldFact, IsTold, AreTold}
use Rattle.drill_ends.specs.SendCounts.{sent_at}
use Rattle.er_world.specs.Counts.{saturated, counts_of, is_message_accepted, counted_told, counted_pass, counted_change}

abbrev pub totals : ℕ → ℕ → ℕ → ℕ → ℕ → Totals
totals a b c d e = record { sent = a; accepted = b; passes = c; lost = d; repeated = e }

pub alike : (a b c d e f g h i j : ℕ) → a ≡ f → b ≡ g → c ≡ h → d ≡ i → e ≡ j → totals a b c d e ≡ totals f g h i j
alike a b c d e f g h i j p q r s t = rw (p, q, r, s, t) refl

pub capped_more : (n more : ℕ) → min (n + more) (2 ^ 64 - 1) ≡ saturated (min n (2 ^ 64 - 1)) more
capped_more n more = omega arith

none_more : (n : ℕ) → saturated (min n (2 ^ 64 - 1)) 0 ≡ min n (2 ^ 64 - 1)
none_more n = omega arith

-- ---- one list behind another

module _ {X : Type 0} where
  length_more : (f : X → List (List ℕ)) (xs ys : List X) → length (flat_map f (xs ++ ys)) ≡ length (flat_map f xs) + length (flat_map f ys)
  length_more f xs ys = ap length (flat_map-append f xs ys) ∙ length-append (flat_map f xs) (flat_map f ys)

abbrev picked : Side → (DrillOutcome → List (List ℕ)) → Occurrence → List (List ℕ)
picked side f o = if is_side side o.side then f o.outcome else []

abbrev both : (DrillOutcome → List (List ℕ)) → List Occurrence → ℕ
both f history = length (flat_map (picked E f) history) + length (flat_map (picked R f) history)

both_more : (f : DrillOutcome → List (List ℕ)) (xs ys : List Occurrence) → both f (xs ++ ys) ≡ both f xs + both f ys
both_more f xs ys =
    let e = length_more (picked E f) xs ys in
    let r = length_more (picked R f) xs ys in
    rw (e, r) (four (length (flat_map (picked E f) xs)) (length (flat_map (picked E f) ys)) (length (flat_map (picked R f) xs)) (length (flat_map (picked R f) ys)))
  where
    four : (a b c d : ℕ) → (a + b) + (c + d) ≡ (a + c) + (b + d)
    four a b c d = omega arith

-- ---- what came at one side

own_e : (f : DrillOutcome → List (List ℕ)) (os : List DrillOutcome) → flat_map (picked E f) (map (at_end E) os) ≡ flat_map f os
own_e f [] = refl
own_e f (o ∷ os) = ap (λ (xs : List (List ℕ)). f o ++ xs) (own_e f os)

none_r : (f : DrillOutcome → List (List ℕ)) (os : List DrillOutcome) → flat_map (picked R f) (map (at_end E) os) ≡ []
none_r f [] = refl
none_r f (o ∷ os) = none_r f os

own_r : (f : DrillOutcome → List (List ℕ)) (os : List DrillOutcome) → flat_map (picked R f) (map (at_end R) os) ≡ flat_map f os
own_r f [] = refl
own_r f (o ∷ os) = ap (λ (xs : List (List ℕ)). f o ++ xs) (own_r f os)

none_e : (f : DrillOutcome → List (List ℕ)) (os : List DrillOutcome) → flat_map (picked E f) (map (at_end R) os) ≡ []
none_e f [] = refl
none_e f (o ∷ os) = none_e f os

both_at : (f : DrillOutcome → List (List ℕ)) (side : Side) (os : List DrillOutcome) → both f (map (at_end side) os) ≡ length (flat_map f os)
both_at f E os = rw (own_e f os, none_r f os) (let zero_more : length (flat_map f os) + 0 ≡ length (flat_map f os) = omega arith in zero_more)
both_at f R os = rw (own_r f os, none_e f os) (let zero_more : 0 + length (flat_map f os) ≡ length (flat_map f os) = omega arith in zero_more)

passed_at : (side : Side) (os : List DrillOutcome) → deliveries (map (at_end side) os) ≡ length (flat_map passed_in os)
passed_at side os = ap length (flat_map-map (λ (o : Occurrence). passed_in o.outcome) (at_end side) os)

counted_at : (p : DrillOutcome → Bool) (side : Side) (os : List DrillOutcome) → count_by (λ (o : Occurrence). p o.outcome) (map (at_end side) os) ≡ count_by p os
counted_at p side [] = refl
counted_at p side (o ∷ os) =
    sum_by-cons (λ (x : Occurrence). if p x.outcome then 1 else 0) (at_end side o) (map (at_end side) os)
    ∙ ap (λ n. (if p o then 1 else 0) + n) (counted_at p side os)
    ∙ sym (sum_by-cons (λ (x : DrillOutcome). if p x then 1 else 0) o os)

-- the counts behind these outcomes at one side
pub counts_at : (history : List Occurrence) (side : Side) (os : List DrillOutcome)
    → let h = counts_of history in
    counts_of (history ++ map (at_end side) os)
    ≡ totals (saturated h.sent (length (flat_map sent_in os))) (saturated h.accepted (length (flat_map accepted_in os)))
    (saturated h.passes (length (flat_map passed_in os))) (saturated h.lost (count_by is_loss os)) (saturated h.repeated (count_by is_repeat os))
counts_at history side os =
    let came : List Occurrence = map (at_end side) os in
    let one : (n all more : ℕ) → all ≡ n + more → min all (2 ^ 64 - 1) ≡ saturated (min n (2 ^ 64 - 1)) more =
    λ n all more is. ap (λ m. min m (2 ^ 64 - 1)) is ∙ capped_more n more in
    alike _ _ _ _ _ _ _ _ _ _
    (one (count_of_sends history) (count_of_sends (history ++ came)) (length (flat_map sent_in os)) (both_more sent_in history came ∙ ap (λ n. count_of_sends history + n) (both_at sent_in side os)))
    (one (acceptances history) (acceptances (history ++ came)) (length (flat_map accepted_in os)) (both_more accepted_in history came ∙ ap (λ n. acceptances history + n) (both_at accepted_in side os)))
    (one (deliveries history) (deliveries (history ++ came)) (length (flat_map passed_in os)) (length_more (λ (o : Occurrence). passed_in o.outcome) history came ∙ ap (λ n. deliveries history + n) (passed_at side os)))
    (one (losses history) (losses (history ++ came)) (count_by is_loss os) (sum_by-append (λ (o : Occurrence). if is_loss o.outcome then 1 else 0) history came ∙ ap (λ n. losses history + n) (counted_at is_loss side os)))
    (one (repeats history) (repeats (history ++ came)) (count_by is_repeat os) (sum_by-append (λ (o : Occurrence). if is_repeat o.outcome then 1 else 0) history came ∙ ap (λ n. repeats history + n) (counted_at is_repeat side os)))

-- ---- what the line did

pub quiet_counts : (history : List Occurrence) (side : Side) (o : DrillOutcome) → sent_in o ≡ [] → accepted_in o ≡ [] → passed_in o ≡ [] → is_loss o ≡ false → is_repeat o ≡ false
    → counts_of (history ++ at_end side o ∷ []) ≡ counts_of history
quiet_counts history side o s a p l r =
    counts_at history side (o ∷ [])
    ∙ (rw (s, a, p, l, r) (alike _ _ _ _ _ _ _ _ _ _ (none_more (count_of_sends history)) (none_more (acceptances history)) (none_more (deliveries history))
    (none_more (losses history)) (none_more (repeats history))))

pub passed_counts : (history : List Occurrence) (side : Side) (frame : List ℕ)
    → counts_of (history ++ at_end side (Passed frame) ∷ []) ≡ counted_pass (counts_of history)
passed_counts history side frame =
    counts_at history side (Passed frame ∷ [])
    ∙ alike _ _ _ _ _ _ _ _ _ _ (none_more (count_of_sends history)) (none_more (acceptances history)) refl (none_more (losses history)) (none_more (repeats history))

pub changed_counts : (history : List Occurrence) (side : Side) (c : Change)
    → counts_of (history ++ map (at_end side) (outcomes_of_line_change c)) ≡ counted_change c (counts_of history)
changed_counts history side result.Lost =
    counts_at history side (outcomes_of_line_change result.Lost)
    ∙ alike _ _ _ _ _ _ _ _ _ _ (none_more (count_of_sends history)) (none_more (acceptances history)) (none_more (deliveries history)) refl (none_more (repeats history))
changed_counts history side result.Repeated =
    counts_at history side (outcomes_of_line_change result.Repeated)
    ∙ alike _ _ _ _ _ _ _ _ _ _ (none_more (count_of_sends history)) (none_more (acceptances history)) (none_more (deliveries history)) (none_more (losses history)) refl
changed_counts history side result.Empty = quiet_counts history side NothingWaits refl refl refl refl refl
changed_counts history side (result.Short found) =
    counts_at history side (outcomes_of_line_change (result.Short found))
    ∙ alike _ _ _ _ _ _ _ _ _ _ (none_more (count_of_sends history)) (none_more (acceptances history)) (none_more (deliveries history)) (none_more (losses history)) (none_more (repeats history))
changed_counts history side result.Altered =
    counts_at history side (outcomes_of_line_change result.Altered)
    ∙ alike _ _ _ _ _ _ _ _ _ _ (none_more (count_of_sends history)) (none_more (acceptances history)) (none_more (deliveries history)) (none_more (losses history)) (none_more (repeats history))
changed_counts history side result.Inserted =
    counts_at history side (outcomes_of_line_change result.Inserted)
    ∙ alike _ _ _ _ _ _ _ _ _ _ (none_more (count_of_sends history)) (none_more (acceptances history)) (none_more (deliveries history)) (none_more (losses history)) (none_more (repeats history))
changed_counts history side result.Unchanged =
    counts_at history side (outcomes_of_line_change result.Unchanged)
    ∙ alike _ _ _ _ _ _ _ _ _ _ (none_more (count_of_sends history)) (none_more (acceptances history)) (none_more (deliveries history)) (none_more (losses history)) (none_more (repeats history))

-- ---- what an end told

-- what is told of an outcome counts as the outcome does
record IsCounted (o : DrillOutcome) (t : Told) : Type 0 where
  pub message : length (accepted_in o) ≡ (if is_message_accepted t then 1 else 0)
  pub passed : passed_in o ≡ []
  pub lost : is_loss o ≡ false
  pub repeated : is_repeat o ≡ false

fact_counted : (fact : Fact) (t : Told) → IsToldFact fact t → IsCounted (OfSafety fact) t
fact_counted (Sent user key text) t is = rw is record { message = refl; passed = refl; lost = refl; repeated = refl }
fact_counted (Sealed key text) t is = rw is record { message = refl; passed = refl; lost = refl; repeated = refl }
fact_counted (Verified heard key text) t is = rw is record { message = refl; passed = refl; lost = refl; repeated = refl }
fact_counted (Connected heard connection text) t is = rw is record { message = refl; passed = refl; lost = refl; repeated = refl }
fact_counted (Accepted heard user key text) t is = rw is record { message = refl; passed = refl; lost = refl; repeated = refl }

one_counted : (o : DrillOutcome) (t : Told) → IsTold o t → IsCounted o t
one_counted (OfSafety fact) t is = fact_counted fact t is
one_counted (Refused refusal) t is = rw is.told_is record { message = refl; passed = refl; lost = refl; repeated = refl }
one_counted (Released release) t is = rw is record { message = refl; passed = refl; lost = refl; repeated = refl }
one_counted (Frame octets) t is = rw is record { message = refl; passed = refl; lost = refl; repeated = refl }
one_counted (Arrived payload) t is = rw is record { message = refl; passed = refl; lost = refl; repeated = refl }
one_counted Up t is = rw is record { message = refl; passed = refl; lost = refl; repeated = refl }
one_counted (Took message) t is = rw is record { message = refl; passed = refl; lost = refl; repeated = refl }
one_counted NothingToTake t is = rw is record { message = refl; passed = refl; lost = refl; repeated = refl }
one_counted o t is = absurd is

record AreCounted (os : List DrillOutcome) (list : List Told) : Type 0 where
  pub messages : length (flat_map accepted_in os) ≡ count_by is_message_accepted list
  pub passed : length (flat_map passed_in os) ≡ 0
  pub lost : count_by is_loss os ≡ 0
  pub repeated : count_by is_repeat os ≡ 0

one_none : (p : DrillOutcome → Bool) (o : DrillOutcome) (os : List DrillOutcome) → p o ≡ false → count_by p os ≡ 0 → count_by p (o ∷ os) ≡ 0
one_none p o os no' none = sum_by-cons (λ (x : DrillOutcome). if p x then 1 else 0) o os ∙ rw (no', none) refl

both_none : (xs ys : List (List ℕ)) → xs ≡ [] → length ys ≡ 0 → length (xs ++ ys) ≡ 0
both_none xs ys none others = rw none others

two_alike : (a b c d e : ℕ) → a ≡ c → b ≡ d → c + d ≡ e → a + b ≡ e
two_alike a b c d e p q r = rw (p, q) r

all_counted : (os : List DrillOutcome) (list : List Told) → AreTold os list → AreCounted os list
all_counted [] [] are = record { messages = refl; passed = refl; lost = refl; repeated = refl }
all_counted [] (t ∷ list) are = absurd are
all_counted (Handed payload ∷ os) list are =
    let rest = all_counted os list are in
    record {
      messages = rest.messages;
      passed = rest.passed;
      lost = one_none is_loss (Handed payload) os refl rest.lost;
      repeated = one_none is_repeat (Handed payload) os refl rest.repeated;
    }
all_counted (Expired ∷ os) list are =
    let rest = all_counted os list are in
    record {
      messages = rest.messages;
      passed = rest.passed;
      lost = one_none is_loss Expired os refl rest.lost;
      repeated = one_none is_repeat Expired os refl rest.repeated;
    }
all_counted (o ∷ os) [] are = absurd are
all_counted (o ∷ os) (t ∷ list) are =
    let rest = all_counted os list are.1 in
    let first = one_counted o t are.0 in
    record {
      messages = length-append (accepted_in o) (flat_map accepted_in os)
          ∙ two_alike _ _ _ _ _ first.message rest.messages (sym (sum_by-cons (λ (x : Told). if is_message_accepted x then 1 else 0) t list));
      passed = both_none (passed_in o) (flat_map passed_in os) first.passed rest.passed;
      lost = one_none is_loss o os first.lost rest.lost;
      repeated = one_none is_repeat o os first.repeated rest.repeated;
    }

pub told_counts : (history : List Occurrence) (side : Side) (event : EndEvent) (os : List DrillOutcome) (list : List Told) → AreTold os list
    → sent_at event list ≡ length (flat_map sent_in os)
    → counted_told event list (counts_of history) ≡ counts_of (history ++ map (at_end side) os)
told_counts history side event os list are sent =
    let h : Totals = counts_of history in
    let all = all_counted os list are in
    sym (counts_at history side os
    ∙ alike _ _ _ _ _ _ _ _ _ _ (ap (saturated h.sent) (sym sent)) (ap (saturated h.accepted) all.messages)
    (ap (saturated h.passes) all.passed ∙ none_more (deliveries history)) (ap (saturated h.lost) all.lost ∙ none_more (losses history))
    (ap (saturated h.repeated) all.repeated ∙ none_more (repeats history)))
