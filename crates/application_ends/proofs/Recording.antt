-- A replay of all events of a loop prints what the loop recorded.
use Rattle.std.proofs.Common.{◌≡◌, ◌∙◌, ℕ, Bool, true, false, Option, None, inl, inr, List, [], ◌∷◌, ◌++◌, map, refl, sym, ap, subst, append-nil}
use Rattle.std.proofs.Common.{append_assoc, if◌then◌else◌, eq-eqb}
use Rattle.std.specs.Prelude.{◌==◌}
use Rattle.std.proofs.lemmas.Bool.{cases_Bool, eqb-true, eqb-false, ne_eqb}
use Rattle.std.proofs.lemmas.List.{map-append}
use Rattle.std.proofs.lemmas.Grind.{flat_map-append}
use Rattle.er_base.specs.LineTexts.{line_text, lines_text}
use Rattle.er_settings.specs.Values.{Settings}
use Rattle.er_trace.specs.declared.entry.Entry.{Entry}
use Rattle.er_trace.specs.declared.event.Event.{Event}
use Rattle.er_trace.specs.Outcomes.{TraceOutcome}
use Rattle.er_trace.specs.Texts.{entry_words, outcome_words}
use Rattle.er_end_model.specs.Outcomes.{Outcome}
use Rattle.er_end_model.specs.Steps.{Finds}
use Rattle.er_end_model.specs.Ends.{End}
use Rattle.trace_model.specs.Printed.{trace_outcome_of, outcomes_text, outcomes_at, entry_text, entries_text}
use Rattle.trace_model.specs.Replays.{AreTaken}
use Rattle.application_model.specs.Ends.{EventTime, EventAt, EndKind}
use Rattle.application_model.specs.Histories.{ServiceItem, Came, LineRead, Occurred, Informed, KeysFetched}
use Rattle.application_model.specs.Claims.{events_at, events_of_item}
use Rattle.application_ends.specs.StackEnds.{befalls_at, stack_end_behind, stack_kind}
use Rattle.application_ends.specs.Laws.{at_start_of_keys, held_alone, events_of_entry, events_in_trace, text_of_item, recording_of_service, entries_of_item}
use Rattle.application_ends.specs.Laws.{entries_of_service}
use Rattle.application_ends.proofs.Replaying.{replays_same}

-- ---- events of a connection, in a history and in a trace

either_way : (a b : ℕ) → (a == b) ≡ (b == a)
either_way a b = elim (cases_Bool (a == b)) [
  | inl same ↦ same ∙ sym (eq-eqb b a (sym (eqb-true a b same)))
  | inr other ↦ other ∙ sym (ne_eqb b a (λ e. eqb-false a b other (sym e)))
]

in_trace_append : (conn : ℕ) (a b : List Entry) → events_in_trace conn (a ++ b) ≡ events_in_trace conn a ++ events_in_trace conn b
in_trace_append conn [] b = refl
in_trace_append conn (e ∷ a) b =
    ap (λ (x : List EventAt). events_of_entry conn e ++ x) (in_trace_append conn a b)
    ∙ sym (append_assoc (events_of_entry conn e) (events_in_trace conn a) (events_in_trace conn b))

-- as if the keys of the start held
abbrev at_first_keys : EventAt → EventAt
at_first_keys x = record { time = at_start_of_keys x.time.moment; event = x.event }

if_mine : (mine : Bool) (x : EventAt) → (if mine then at_first_keys x ∷ [] else []) ≡ map at_first_keys (if mine then x ∷ [] else [])
if_mine true x = refl
if_mine false x = refl

item_in_trace : (conn : ℕ) (item : ServiceItem) → events_in_trace conn (entries_of_item item) ≡ map at_first_keys (events_of_item conn item)
item_in_trace conn (Came happening) = refl
item_in_trace conn (LineRead line) = refl
item_in_trace conn (Occurred time c what outcomes) =
    append-nil (if c == conn then record { time = at_start_of_keys time.moment; event = what } ∷ [] else [])
    ∙ ap (λ (b : Bool). if b then record { time = at_start_of_keys time.moment; event = what } ∷ [] else []) (either_way c conn)
    ∙ if_mine (conn == c) (record { time = time; event = what })
item_in_trace conn (Informed notice) = refl
item_in_trace conn KeysFetched = refl

all_in_trace : (conn : ℕ) (items : List ServiceItem) → events_in_trace conn (entries_of_service items) ≡ map at_first_keys (events_at conn items)
all_in_trace conn [] = refl
all_in_trace conn (item ∷ items) =
    in_trace_append conn (entries_of_item item) (entries_of_service items)
    ∙ ap (λ (x : List EventAt). x ++ events_in_trace conn (entries_of_service items)) (item_in_trace conn item)
    ∙ ap (λ (x : List EventAt). map at_first_keys (events_of_item conn item) ++ x) (all_in_trace conn items)
    ∙ sym (map-append at_first_keys (events_of_item conn item) (events_at conn items))

-- ---- the text

lines_alike : (conn : ℕ) (outcomes : List Outcome) → outcomes_text conn outcomes ≡ lines_text (map (outcome_words conn) (map trace_outcome_of outcomes))
unfolding outcomes_text
lines_alike conn outcomes = ap lines_text (map_twice outcomes)
  where
    map_twice : (os : List Outcome) → map (λ (o : Outcome). outcome_words conn (trace_outcome_of o)) os ≡ map (outcome_words conn) (map trace_outcome_of os)
    map_twice [] = refl
    map_twice (o ∷ os) = ap (λ (w : List (List (List ℕ))). outcome_words conn (trace_outcome_of o) ∷ w) (map_twice os)

-- those before one that is taken are taken
taken_before : (settings : Settings) (finds : Finds) (a b : List Entry) → AreTaken settings finds (a ++ b) → AreTaken settings finds a
taken_before settings finds a b taken first entry rest e =
    taken first entry (rest ++ b) (ap (λ (x : List Entry). x ++ b) e ∙ append_assoc first (entry ∷ rest) b)

module _ (settings : Settings) (finds : Finds) where
  abbrev kind : EndKind
  kind = stack_kind settings (held_alone finds)

  -- where all readings give the same keys, an end goes by the moments of its events
  first_keys : (m : Option End) (xs : List EventAt)
      → stack_end_behind settings (held_alone finds) m (map at_first_keys xs) ≡ stack_end_behind settings (held_alone finds) m xs
  unfolding stack_end_behind
  first_keys m [] = refl
  first_keys m (x ∷ xs) = first_keys (befalls_at settings (held_alone finds) x.time x.event m).0 xs

  -- the items from one on, behind those before
  abbrev pub TellOwn : List ServiceItem → Type 0
  TellOwn items =
      (before after : List ServiceItem) (time : EventTime) (conn : ℕ) (what : Event) (outcomes : List TraceOutcome)
      → items ≡ before ++ Occurred time conn what outcomes ∷ after → outcomes ≡ kind.tells (events_at conn before) time what

  entries_push : (before : List ServiceItem) (item : ServiceItem) → entries_of_service (before ++ item ∷ []) ≡ entries_of_service before ++ entries_of_item item
  entries_push before item =
      flat_map-append entries_of_item before (item ∷ [])
      ∙ ap (λ (x : List Entry). entries_of_service before ++ x) (append-nil (entries_of_item item))

  abbrev entry_of : ℕ → ℕ → Event → Entry
  entry_of moment conn what = record { line = 0; moment = moment; conn = conn; event = what }

  -- what a replay prints of an event is what was recorded of it
  event_printed : (all before after : List ServiceItem) (time : EventTime) (conn : ℕ) (what : Event) (outcomes : List TraceOutcome)
      → all ≡ before ++ Occurred time conn what outcomes ∷ after → TellOwn all → AreTaken settings finds (entries_of_service all)
      → entry_text settings finds (entries_of_service before) (entry_of time.moment conn what) ≡ text_of_item (Occurred time conn what outcomes)
  event_printed all before after time conn what outcomes is own taken =
      let e : Entry = entry_of time.moment conn what in
      let first = entries_of_service before in
      let here : AreTaken settings finds (first ++ e ∷ entries_of_service after) =
      subst (AreTaken settings finds)
      (ap entries_of_service is ∙ flat_map-append entries_of_item before (Occurred time conn what outcomes ∷ after)) taken in
      ap (λ (x : List ℕ). line_text (entry_words time.moment conn what) ++ x)
      (lines_alike conn (outcomes_at settings finds first e)
      ∙ ap (λ (os : List TraceOutcome). lines_text (map (outcome_words conn) os))
      (sym (replays_same settings finds first e (taken_before settings finds first (e ∷ entries_of_service after) here) (here first e (entries_of_service after) refl))
      ∙ ap (λ (came : List EventAt). kind.tells came (at_start_of_keys time.moment) what) (all_in_trace conn before)
      ∙ ap (λ (m : Option End). map trace_outcome_of (befalls_at settings (held_alone finds) time what m).1) (first_keys None (events_at conn before))
      ∙ sym (own before after time conn what outcomes is)))

  next : (all before : List ServiceItem) (item : ServiceItem) (items : List ServiceItem) → all ≡ before ++ item ∷ items → all ≡ (before ++ item ∷ []) ++ items
  next all before item items is = is ∙ sym (append_assoc before (item ∷ []) items)

  -- behind an item that is no event
  quiet : (before : List ServiceItem) (item : ServiceItem) (items : List ServiceItem) → entries_of_item item ≡ []
      → entries_text settings finds (entries_of_service (before ++ item ∷ [])) (entries_of_service items) ≡ recording_of_service items
      → entries_text settings finds (entries_of_service before) (entries_of_service items) ≡ recording_of_service items
  quiet before item items none rest =
      ap (λ (b : List Entry). entries_text settings finds b (entries_of_service items))
      (sym (entries_push before item ∙ ap (λ (x : List Entry). entries_of_service before ++ x) none ∙ append-nil (entries_of_service before)))
      ∙ rest

  pub prints : (all before items : List ServiceItem) → all ≡ before ++ items → TellOwn all → AreTaken settings finds (entries_of_service all)
      → entries_text settings finds (entries_of_service before) (entries_of_service items) ≡ recording_of_service items
  unfolding entries_text
  prints all before [] is own taken = refl
  prints all before (Came happening ∷ items) is own taken =
      let item = Came happening in quiet before item items refl (prints all (before ++ item ∷ []) items (next all before item items is) own taken)
  prints all before (LineRead line ∷ items) is own taken =
      let item = LineRead line in quiet before item items refl (prints all (before ++ item ∷ []) items (next all before item items is) own taken)
  prints all before (Occurred time conn what outcomes ∷ items) is own taken =
      let item = Occurred time conn what outcomes in
      let e : Entry = entry_of time.moment conn what in
      let rest = prints all (before ++ item ∷ []) items (next all before item items is) own taken in
      ap (λ (x : List ℕ). x ++ entries_text settings finds (entries_of_service before ++ e ∷ []) (entries_of_service items))
      (event_printed all before items time conn what outcomes is own taken)
      ∙ ap (λ (x : List ℕ). text_of_item item ++ x)
      (ap (λ (b : List Entry). entries_text settings finds b (entries_of_service items)) (sym (entries_push before item)) ∙ rest)
  prints all before (Informed notice ∷ items) is own taken =
      let item = Informed notice in quiet before item items refl (prints all (before ++ item ∷ []) items (next all before item items is) own taken)
  prints all before (KeysFetched ∷ items) is own taken =
      let item = KeysFetched in quiet before item items refl (prints all (before ++ item ∷ []) items (next all before item items is) own taken)
