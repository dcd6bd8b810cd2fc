-- What is claimed of a history is so of each beginning of one.
use Rattle.std.proofs.Common.{◌≡◌, ◌∙◌, ℕ, ◌==◌, inl, inr, List, [], ◌∷◌, ◌++◌, refl, sym, ap, subst, append_assoc, append-nil}
use Rattle.std.proofs.lemmas.Bool.{cases_Bool, eqb-true}
use Rattle.er_trace.specs.declared.event.Event.{Event}
use Rattle.er_trace.specs.Outcomes.{TraceOutcome}
use Rattle.application_model.specs.Ends.{EventTime, EventAt, EndKind}
use Rattle.application_model.specs.Histories.{ServiceItem, Came, LineRead, Occurred, Informed, KeysFetched}
use Rattle.application_model.specs.Services.{at_start, service_history}
use Rattle.application_model.specs.Turns.{IsDoneInTurn}
use Rattle.application_model.specs.Claims.{lines_due, deeds_due, events_at, events_of_item, outcomes_of_item, outcomes_at_connection, outcomes_alone}
use Rattle.application_model.specs.Claims.{GoesByItsEvents}
use Rattle.application_model.specs.Laws.{lines_due_to_read, EachBeginningIsAsClaimed}
use Rattle.application_model.proofs.Turning.{turn_cut}
use Rattle.application_model.proofs.Alone.{events_append, outcomes_append, alone_append}
use Rattle.application_model.proofs.Firsts.{numbers_rise}
use Rattle.application_model.proofs.Claimed.{nothing_lost, as_claimed}
use Rattle.application_model.proofs.Knowing.{each_tells_its_own}
use Rattle.application_model.proofs.Reading.{lines_are_read}

module _ (kind : EndKind) (conn : ℕ) where
  -- the outcomes at a connection so far are those of its events alone
  abbrev IsAlone : List ServiceItem → Type 0
  IsAlone items = outcomes_at_connection conn items ≡ outcomes_alone kind [] (events_at conn items)

  -- with one item more, of which these came at the connection
  grows : (front : List ServiceItem) (item : ServiceItem) → IsAlone front
      → outcomes_of_item conn item ≡ outcomes_alone kind (events_at conn front) (events_of_item conn item) → IsAlone (front ++ item ∷ [])
  grows front item alone own =
      outcomes_append conn front (item ∷ [])
      ∙ ap (λ (o : List TraceOutcome). outcomes_at_connection conn front ++ o) (append-nil (outcomes_of_item conn item) ∙ own)
      ∙ ap (λ (o : List TraceOutcome). o ++ outcomes_alone kind (events_at conn front) (events_of_item conn item)) alone
      ∙ sym (alone_append kind [] (events_at conn front) (events_of_item conn item))
      ∙ ap (outcomes_alone kind [])
      (ap (λ (e : List EventAt). events_at conn front ++ e) (sym (append-nil (events_of_item conn item))) ∙ sym (events_append conn front (item ∷ [])))

  -- each event tells what its end tells behind those before it
  abbrev TellOwn : List ServiceItem → Type 0
  TellOwn all =
      (before after : List ServiceItem) (time : EventTime) (c : ℕ) (what : Event) (outcomes : List TraceOutcome)
      → all ≡ before ++ Occurred time c what outcomes ∷ after → outcomes ≡ kind.tells (events_at c before) time what

  event_own : (all front after : List ServiceItem) (time : EventTime) (c : ℕ) (what : Event) (outcomes : List TraceOutcome) → TellOwn all
      → all ≡ front ++ Occurred time c what outcomes ∷ after
      → outcomes_of_item conn (Occurred time c what outcomes) ≡ outcomes_alone kind (events_at conn front) (events_of_item conn (Occurred time c what outcomes))
  event_own all front after time c what outcomes own is =
      elim (cases_Bool (conn == c)) [
        | inl mine ↦
            rw mine
            (own front after time c what outcomes is
            ∙ ap (λ (n : ℕ). kind.tells (events_at n front) time what) (sym (eqb-true conn c mine))
            ∙ sym (append-nil (kind.tells (events_at conn front) time what)))
        | inr other ↦ rw other refl
      ]

  item_own : (all front after : List ServiceItem) (item : ServiceItem) → TellOwn all → all ≡ front ++ item ∷ after
      → outcomes_of_item conn item ≡ outcomes_alone kind (events_at conn front) (events_of_item conn item)
  item_own all front after (Came happening) own is = refl
  item_own all front after (LineRead line) own is = refl
  item_own all front after (Occurred time c what outcomes) own is = event_own all front after time c what outcomes own is
  item_own all front after (Informed notice) own is = refl
  item_own all front after KeysFetched own is = refl

  alone_from : (all front more back : List ServiceItem) → TellOwn all → all ≡ front ++ (more ++ back) → IsAlone front → IsAlone (front ++ more)
  alone_from all front [] back own is alone = subst IsAlone (sym (append-nil front)) alone
  alone_from all front (item ∷ more) back own is alone =
      let next = append_assoc front (item ∷ []) more in
      subst IsAlone next
      (alone_from all (front ++ item ∷ []) more back own (is ∙ sym (append_assoc front (item ∷ []) (more ++ back)))
      (grows front item alone (item_own all front (more ++ back) item own is)))

pub each_beginning : EachBeginningIsAsClaimed
each_beginning kind happenings front back is =
    let all = service_history kind happenings in
    let claimed = as_claimed kind happenings in
    let alone : GoesByItsEvents kind front = λ conn. alone_from kind conn all [] front back (each_tells_its_own kind happenings) is refl in
    record {
      told = λ conn.
          let cut = turn_cut (lines_due conn) at_start [] front back []
          (subst (λ (items : List ServiceItem). IsDoneInTurn (lines_due conn) at_start [] items []) is (claimed.told conn)) in
          (cut.middle, cut.first);
      read =
          let cut = turn_cut lines_due_to_read at_start [] front back []
          (subst (λ (items : List ServiceItem). IsDoneInTurn lines_due_to_read at_start [] items []) is (lines_are_read kind happenings)) in
          (cut.middle, cut.first);
      said =
          let cut = turn_cut deeds_due at_start [] front back []
          (subst (λ (items : List ServiceItem). IsDoneInTurn deeds_due at_start [] items []) is claimed.said) in
          (cut.middle, cut.first);
      isolated = alone;
      kept = nothing_lost kind front alone;
      room = λ before after time conn outcomes e. claimed.room before (after ++ back) time conn outcomes (is ∙ ap (λ (x : List ServiceItem). x ++ back) e ∙ append_assoc before _ back);
      drained = λ before after what e. claimed.drained before (after ++ back) what (is ∙ ap (λ (x : List ServiceItem). x ++ back) e ∙ append_assoc before _ back);
      rise = numbers_rise front;
    }
