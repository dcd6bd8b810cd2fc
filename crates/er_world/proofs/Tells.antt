-- What an end told, one outcome after the other: what is kept, queued and printed of it.
use Rattle.std.proofs.Common.{◌≡◌, ℕ, Bool, true, false, not, ◌||◌, ◌&&◌, List, [], ◌∷◌, ◌++◌, map, refl, sym, ap, ◌∙◌, subst, append_assoc, append-nil}
use Rattle.std.specs.List.{list_any}
use Rattle.std.proofs.lemmas.List.Folds.{list_any-append}
use Rattle.std.proofs.lemmas.List.Concat.{flat_map-append}
use Rattle.er_base.specs.declared.side.Side.{Side}
use Rattle.er_base.specs.declared.side.Side.TheVariants.{E, R}
use Rattle.des_block.specs.declared.triple_key.TripleKey.{TripleKey}
use Rattle.safety_pair_laws.specs.Facts.{Fact, Sent, Sealed, Verified, Connected, Accepted, SideFact, MarkedFact, Sealing, is_sealing, sealings_of, sealings, was_sealed, is_side, is_mistrust, mistrusts, marked_from}
use Rattle.safety_pair_laws.specs.Marks.{MarksGrow}
use Rattle.drill_model.specs.Outcomes.{DrillOutcome, OfSafety, Handed, Arrived, Up, Took, NothingToTake, Refused, Released, Frame, Expired, at_end, facts_at, facts_in, frames_of_outcome, frames_in}
use Rattle.drill_model.specs.Marks.{outcome_forged, marks_behind}
use Rattle.drill_model.specs.Texts.{outcome_line, link_lines}
use Rattle.er_world.specs.declared.place.Place.{Place}
use Rattle.er_world.specs.declared.ledger.Ledger.{Ledger}
use Rattle.drill_ends.specs.declared.told.Told.{Told}
use Rattle.drill_ends.specs.Tellings.{IsTold, told_outcomes_in, EachTold}
use Rattle.er_world.specs.Ledgers.{HoldsLedger, mistrusts_of, ToldRow, told_row, KeepsInLedger, TellsOne, TellsAll, Telling}

or_false : (a : Bool) → (a || false) ≡ a
or_false true = refl
or_false false = refl

and_false : (a : Bool) → (a && false) ≡ false
and_false true = refl
and_false false = refl

mistrusts_held : (kept : Ledger) (facts : List MarkedFact) (side : Side) → HoldsLedger kept facts → mistrusts_of kept side ≡ mistrusts side facts
mistrusts_held kept facts E h = h.of_e
mistrusts_held kept facts R h = h.of_r

-- a row says what an outcome at a place is
record IsRow (before : List MarkedFact) (place : Place) (o : DrillOutcome) (row : ToldRow) : Type 0 where
  pub sealed : sealings (marked_from before (facts_at place.side o)) ≡ row.sealed
  pub marks : (mine : Side) → list_any (is_mistrust mine) (marked_from before (facts_at place.side o)) ≡ (is_side mine place.side && row.mark)
  pub frames : frames_of_outcome o ≡ row.frames
  pub line : outcome_line place.show place.number place.side o (outcome_forged before place.side o) ≡ row.line

no_mark : (a b : Bool) → ((a && false) || false) ≡ (b && false)
no_mark a b = rw (and_false a, and_false b) refl

row_of_fact : (kept : Ledger) (before : List MarkedFact) (place : Place) (fact : Fact) (t : Told) → HoldsLedger kept before → IsTold (OfSafety fact) t
    → IsRow before place (OfSafety fact) (told_row kept place t)
row_of_fact kept before place (Sent user key text) t h is = rw is record {
  sealed = refl;
  marks = λ mine. no_mark (is_side mine place.side) (is_side mine place.side);
  frames = refl;
  line = refl;
}
row_of_fact kept before place (Sealed key text) t h is = rw is record {
  sealed = refl;
  marks = λ mine. no_mark (is_side mine place.side) (is_side mine place.side);
  frames = refl;
  line = refl;
}
row_of_fact kept before place (Verified heard key text) t h is = rw is record {
  sealed = refl;
  marks = λ mine.
      or_false (is_side mine place.side && not (was_sealed key text before))
      ∙ ap (λ (b : Bool). is_side mine place.side && not b) (sym (h.same key text));
  frames = refl;
  line = refl;
}
row_of_fact kept before place (Connected heard connection text) t h is = rw is record {
  sealed = refl;
  marks = λ mine. no_mark (is_side mine place.side) (is_side mine place.side);
  frames = refl;
  line = rw (h.same connection.session text, mistrusts_held kept before place.side h) refl;
}
row_of_fact kept before place (Accepted heard user key text) t h is = rw is record {
  sealed = refl;
  marks = λ mine. no_mark (is_side mine place.side) (is_side mine place.side);
  frames = refl;
  line = rw (h.same key text) refl;
}

row_of : (kept : Ledger) (before : List MarkedFact) (place : Place) (o : DrillOutcome) (t : Told) → HoldsLedger kept before → IsTold o t
    → IsRow before place o (told_row kept place t)
row_of kept before place (OfSafety fact) t h is = row_of_fact kept before place fact t h is
row_of kept before place (Refused refusal) t h is = rw (is.told_is, is.is) record {
  sealed = refl;
  marks = λ mine. sym (and_false (is_side mine place.side));
  frames = refl;
  line = refl;
}
row_of kept before place (Released release) t h is = rw is record {
  sealed = refl;
  marks = λ mine. sym (and_false (is_side mine place.side));
  frames = refl;
  line = refl;
}
row_of kept before place (Frame octets) t h is = rw is record {
  sealed = refl;
  marks = λ mine. sym (and_false (is_side mine place.side));
  frames = refl;
  line = refl;
}
row_of kept before place (Arrived payload) t h is = rw is record {
  sealed = refl;
  marks = λ mine. sym (and_false (is_side mine place.side));
  frames = refl;
  line = refl;
}
row_of kept before place Up t h is = rw is record {
  sealed = refl;
  marks = λ mine. sym (and_false (is_side mine place.side));
  frames = refl;
  line = refl;
}
row_of kept before place (Took message) t h is = rw is record {
  sealed = refl;
  marks = λ mine. sym (and_false (is_side mine place.side));
  frames = refl;
  line = refl;
}
row_of kept before place NothingToTake t h is = rw is record {
  sealed = refl;
  marks = λ mine. sym (and_false (is_side mine place.side));
  frames = refl;
  line = refl;
}
row_of kept before place o t h is = absurd is

-- the pairs that were sealed before, and then
was_sealed_more : (key : TripleKey) (text : List ℕ) (before more : List MarkedFact)
    → was_sealed key text (before ++ more) ≡ (was_sealed key text before || list_any (is_sealing key text) (sealings more))
was_sealed_more key text before more =
    ap (list_any (is_sealing key text)) (flat_map-append (λ (f : MarkedFact). sealings_of f.fact) before more)
    ∙ list_any-append (is_sealing key text) (sealings before) (sealings more)

-- what is kept behind one outcome
holds_more : (kept new : Ledger) (before : List MarkedFact) (place : Place) (o : DrillOutcome) (row : ToldRow) → HoldsLedger kept before
    → IsRow before place o row → KeepsInLedger place.side row kept new
    → HoldsLedger new (before ++ marked_from before (facts_at place.side o))
holds_more kept new before place o row h is keeps =
    let more : List MarkedFact = marked_from before (facts_at place.side o) in
    record {
      same = λ key text.
          keeps.gains.same key text
          ∙ ap (λ (b : Bool). b || list_any (is_sealing key text) row.sealed) (h.same key text)
          ∙ ap (λ (xs : List Sealing). was_sealed key text before || list_any (is_sealing key text) xs) (sym is.sealed)
          ∙ sym (was_sealed_more key text before more);
      of_e = keeps.of_e
          ∙ ap (λ (b : Bool). b || (is_side E place.side && row.mark)) h.of_e
          ∙ ap (λ (b : Bool). mistrusts E before || b) (sym (is.marks E))
          ∙ sym (list_any-append (is_mistrust E) before more);
      of_r = keeps.of_r
          ∙ ap (λ (b : Bool). b || (is_side R place.side && row.mark)) h.of_r
          ∙ ap (λ (b : Bool). mistrusts R before || b) (sym (is.marks R))
          ∙ sym (list_any-append (is_mistrust R) before more);
    }

-- at the beginning
pub telling_begins : (place : Place) (facts : List MarkedFact) (outcomes : List DrillOutcome) (list : List Told) (kept : Ledger) (waited : List (List ℕ)) (before : List ℕ)
    → EachTold outcomes list → HoldsLedger kept facts → Telling place facts outcomes list kept waited waited before before
telling_begins place facts outcomes list kept waited before are h = record {
  seen = facts;
  left = outcomes;
  told = are;
  holds = h;
  marks = refl;
  queued = refl;
  printed = refl;
}

goes_on : MarksGrow → (place : Place) (facts : List MarkedFact) (outcomes : List DrillOutcome) (t : Told) (list : List Told) (kept new : Ledger)
    (waited waits more : List (List ℕ)) (before between now : List ℕ) (seen : List MarkedFact) (left : List DrillOutcome)
    → EachTold left (t ∷ list) → HoldsLedger kept seen
    → seen ++ marked_from seen (facts_in (map (at_end place.side) left)) ≡ facts ++ marked_from facts (facts_in (map (at_end place.side) outcomes))
    → waits ++ frames_in left ≡ waited ++ frames_in outcomes
    → between ++ link_lines place.show place.number (marks_behind seen (map (at_end place.side) left))
    ≡ before ++ link_lines place.show place.number (marks_behind facts (map (at_end place.side) outcomes))
    → TellsOne place t kept new waits more between now
    → Telling place facts outcomes list new waited more before now
goes_on grow place facts outcomes t list kept new waited waits more before between now seen [] are h marks queued printed tells = absurd are
goes_on grow place facts outcomes t list kept new waited waits more before between now seen (o ∷ left) are h marks queued printed tells =
    let row : ToldRow = told_row kept place t in
    let is : IsRow seen place o row = row_of kept seen place o t h are.0 in
    let first : List MarkedFact = marked_from seen (facts_at place.side o) in
    let rest : List SideFact = facts_in (map (at_end place.side) left) in
    let lines : List ℕ = link_lines place.show place.number (marks_behind (seen ++ first) (map (at_end place.side) left)) in
    record {
      seen = seen ++ first;
      left = left;
      told = are.1;
      holds = holds_more kept new seen place o row h is tells.keeps;
      marks = append_assoc seen first (marked_from (seen ++ first) rest)
          ∙ ap (λ (xs : List MarkedFact). seen ++ xs) (sym (grow seen (facts_at place.side o) rest))
          ∙ marks;
      queued = ap (λ (xs : List (List ℕ)). xs ++ frames_in left) (tells.queued ∙ ap (λ (xs : List (List ℕ)). waits ++ xs) (sym is.frames))
          ∙ append_assoc waits (frames_of_outcome o) (frames_in left)
          ∙ queued;
      printed = ap (λ (xs : List ℕ). xs ++ lines) (tells.printed ∙ ap (λ (xs : List ℕ). between ++ xs) (sym is.line))
          ∙ append_assoc between (outcome_line place.show place.number place.side o (outcome_forged seen place.side o)) lines
          ∙ printed;
    }

-- one thing more
pub telling_goes_on : MarksGrow → (place : Place) (facts : List MarkedFact) (outcomes : List DrillOutcome) (t : Told) (all list : List Told) (kept new : Ledger)
    (waited waits more : List (List ℕ)) (before between now : List ℕ)
    → all ≡ t ∷ list → Telling place facts outcomes all kept waited waits before between
    → TellsOne place t kept new waits more between now
    → Telling place facts outcomes list new waited more before now
telling_goes_on grow place facts outcomes t all list kept new waited waits more before between now is d tells =
    let are : EachTold d.left (t ∷ list) = subst (EachTold d.left) is d.told in
    goes_on grow place facts outcomes t list kept new waited waits more before between now d.seen d.left are d.holds d.marks d.queued d.printed tells

none_left : (left : List DrillOutcome) → EachTold left [] → left ≡ []
none_left [] are = refl
none_left (o ∷ left) are = absurd are

-- the end
each_ends : (place : Place) (facts : List MarkedFact) (outcomes : List DrillOutcome) (all : List Told) (kept : Ledger)
    (waited waits : List (List ℕ)) (before now : List ℕ)
    → all ≡ [] → Telling place facts outcomes all kept waited waits before now
    → TellsAll place facts outcomes kept waited waits before now
each_ends place facts outcomes all kept waited waits before now is d =
    let none : d.left ≡ [] = none_left d.left (subst (EachTold d.left) is d.told) in
    let marks : d.seen ≡ facts ++ marked_from facts (facts_in (map (at_end place.side) outcomes)) =
    sym (append-nil d.seen) ∙ ap (λ (os : List DrillOutcome). d.seen ++ marked_from d.seen (facts_in (map (at_end place.side) os))) (sym none) ∙ d.marks in
    record {
      holds = subst (HoldsLedger kept) marks d.holds;
      queued = sym (append-nil waits) ∙ ap (λ (os : List DrillOutcome). waits ++ frames_in os) (sym none) ∙ d.queued;
      printed = sym (append-nil now)
          ∙ ap (λ (os : List DrillOutcome). now ++ link_lines place.show place.number (marks_behind d.seen (map (at_end place.side) os))) (sym none)
          ∙ d.printed;
    }

-- ---- what nothing is told of

-- it is no fact, no frame, and it has no line
heard_facts : (side : Side) (os : List DrillOutcome) → facts_in (map (at_end side) (told_outcomes_in os)) ≡ facts_in (map (at_end side) os)
heard_facts side [] = refl
heard_facts side (Handed payload ∷ os) = heard_facts side os
heard_facts side (Expired ∷ os) = heard_facts side os
heard_facts side (o ∷ os) = ap (λ (xs : List SideFact). facts_at side o ++ xs) (heard_facts side os)

heard_frames : (os : List DrillOutcome) → frames_in (told_outcomes_in os) ≡ frames_in os
heard_frames [] = refl
heard_frames (Handed payload ∷ os) = heard_frames os
heard_frames (Expired ∷ os) = heard_frames os
heard_frames (o ∷ os) = ap (λ (xs : List (List ℕ)). frames_of_outcome o ++ xs) (heard_frames os)

heard_lines : (show : Bool) (number : ℕ) (side : Side) (facts : List MarkedFact) (os : List DrillOutcome)
    → link_lines show number (marks_behind facts (map (at_end side) (told_outcomes_in os))) ≡ link_lines show number (marks_behind facts (map (at_end side) os))
heard_lines show number side facts [] = refl
heard_lines show number side facts (Handed payload ∷ os) =
    ap (λ (fs : List MarkedFact). link_lines show number (marks_behind fs (map (at_end side) (told_outcomes_in os)))) (sym (append-nil facts))
    ∙ heard_lines show number side (facts ++ []) os
heard_lines show number side facts (Expired ∷ os) =
    ap (λ (fs : List MarkedFact). link_lines show number (marks_behind fs (map (at_end side) (told_outcomes_in os)))) (sym (append-nil facts))
    ∙ heard_lines show number side (facts ++ []) os
heard_lines show number side facts (o ∷ os) =
    ap (λ (xs : List ℕ). outcome_line show number side o (outcome_forged facts side o) ++ xs) (heard_lines show number side (facts ++ marked_from facts (facts_at side o)) os)

-- the end, of all outcomes
pub telling_ends : (place : Place) (facts : List MarkedFact) (outcomes : List DrillOutcome) (all : List Told) (kept : Ledger)
    (waited waits : List (List ℕ)) (before now : List ℕ)
    → all ≡ [] → Telling place facts (told_outcomes_in outcomes) all kept waited waits before now
    → TellsAll place facts outcomes kept waited waits before now
telling_ends place facts outcomes all kept waited waits before now is d =
    let e : TellsAll place facts (told_outcomes_in outcomes) kept waited waits before now = each_ends place facts (told_outcomes_in outcomes) all kept waited waits before now is d in
    record {
      holds = subst (λ (fs : List SideFact). HoldsLedger kept (facts ++ marked_from facts fs)) (heard_facts place.side outcomes) e.holds;
      queued = e.queued ∙ ap (λ (xs : List (List ℕ)). waited ++ xs) (heard_frames outcomes);
      printed = e.printed ∙ ap (λ (xs : List ℕ). before ++ xs) (heard_lines place.show place.number place.side facts outcomes);
    }
