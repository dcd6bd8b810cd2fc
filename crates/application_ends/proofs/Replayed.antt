-- Under keys that give the same at the moment of each event, ends go on alike, and so a replay prints what was recorded.
use Rattle.std.proofs.Common.{arith, ◌≡◌, ◌∙◌, ◌≤◌, ℕ, max, inl, inr, List, [], ◌∷◌, ◌++◌, map, Option, Some, None, refl, sym, ap, subst, append-nil}
use Rattle.std.proofs.Common.{append_assoc}
use Rattle.std.specs.Prelude.{◌==◌, nat_lt}
use Rattle.std.proofs.lemmas.Bool.{cases_Bool, ltb-false}
use Rattle.std.proofs.lemmas.Grind.{flat_map-append}
use Rattle.er_base.specs.LineTexts.{line_text}
use Rattle.er_settings.specs.Values.{Settings}
use Rattle.er_trace.specs.declared.entry.Entry.{Entry}
use Rattle.er_trace.specs.declared.event.Event.{Event}
use Rattle.er_trace.specs.Outcomes.{TraceOutcome}
use Rattle.er_trace.specs.Texts.{header_words}
use Rattle.er_end_model.specs.Outcomes.{Outcome}
use Rattle.er_end_model.specs.Steps.{Finds}
use Rattle.er_end_model.specs.Ends.{End}
use Rattle.trace_model.specs.declared.replay_fault.ReplayFault.TheVariants.{MomentBack}
use Rattle.trace_model.specs.Checks.{role_of, last_moment, role_check, fault_of_trace_event}
use Rattle.trace_model.specs.Printed.{trace_outcome_of}
use Rattle.trace_model.specs.Replays.{AreTaken}
use Rattle.application_model.specs.Ends.{EventTime, EventAt}
use Rattle.application_model.specs.Histories.{ServiceItem, Came, LineRead, Occurred, Informed, KeysFetched}
use Rattle.application_model.specs.Claims.{events_at, events_of_item}
use Rattle.application_model.specs.Laws.{EachTellsItsOwn}
use Rattle.application_ends.specs.StackEnds.{HeldKeys, befalls_at, stack_end_behind, end_of_events, stack_kind}
use Rattle.application_ends.specs.Laws.{held_alone, entries_of_item, entries_of_service, LooksUpAsThen, AllLookUpAsThen, ReplaysPrintRecordings}
use Rattle.application_ends.proofs.Keeping.{end_on}
use Rattle.application_ends.proofs.Looking.{IsUntil, until_befalls, befalls_alike}
use Rattle.application_ends.proofs.Replaying.{unnamed}
use Rattle.application_ends.proofs.Recording.{TellOwn, prints}

-- ---- moments of a trace

last_push : (entries : List Entry) (e : Entry) → last_moment (entries ++ e ∷ []) ≡ max (last_moment entries) e.moment
unfolding last_moment
last_push [] e = omega arith
last_push (x ∷ xs) e = let rest = last_push xs e in omega (arith, rest)

in_order : (settings : Settings) (finds : Finds) (first : List Entry) (e : Entry) → fault_of_trace_event settings finds first e ≡ None → last_moment first ≤ e.moment
unfolding fault_of_trace_event
in_order settings finds first e taken =
    ltb-false e.moment (last_moment first)
    (unnamed (nat_lt e.moment (last_moment first)) (MomentBack e.line (last_moment first) e.moment) (role_check settings finds first e (role_of e.event)) taken)

until_more : (low high : ℕ) (m : Option End) → low ≤ high → IsUntil low m → IsUntil high m
until_more low high None more p = tt
until_more low high (Some m) more p = omega (arith, more, p)

-- ---- one item more

events_push : (conn : ℕ) (front : List ServiceItem) (item : ServiceItem) → events_at conn (front ++ item ∷ []) ≡ events_at conn front ++ events_of_item conn item
events_push conn [] item = append-nil (events_of_item conn item)
events_push conn (x ∷ front) item =
    ap (λ (e : List EventAt). events_of_item conn x ++ e) (events_push conn front item)
    ∙ sym (append_assoc (events_of_item conn x) (events_at conn front) (events_of_item conn item))

entries_push : (front : List ServiceItem) (item : ServiceItem) → entries_of_service (front ++ item ∷ []) ≡ entries_of_service front ++ entries_of_item item
entries_push front item =
    flat_map-append entries_of_item front (item ∷ [])
    ∙ ap (λ (x : List Entry). entries_of_service front ++ x) (append-nil (entries_of_item item))

looks_at : (held : HeldKeys) (finds : Finds) (front : List ServiceItem) (item : ServiceItem) (back : List ServiceItem)
    → AllLookUpAsThen held finds (front ++ item ∷ back) → LooksUpAsThen held finds item
looks_at held finds [] item back p = p.0
looks_at held finds (x ∷ front) item back p = looks_at held finds front item back p.1

module _ (settings : Settings) (held : HeldKeys) (finds : Finds) where
  -- the end by the keys that held, and by those of the replay
  abbrev then_end : List EventAt → Option End
  then_end events = end_of_events settings held events

  abbrev now_end : List EventAt → Option End
  now_end events = end_of_events settings (held_alone finds) events

  record AreAlike (last : ℕ) (events : List EventAt) : Type 0 where
    same : then_end events ≡ now_end events
    until : IsUntil last (now_end events)

  abbrev StandAlike : List ServiceItem → Type 0
  StandAlike front = (conn : ℕ) → AreAlike (last_moment (entries_of_service front)) (events_at conn front)

  -- an event more
  event_alike : (last : ℕ) (events : List EventAt) (x : EventAt) → AreAlike last events → last ≤ x.time.moment
      → held x.time.keys x.time.moment ≡ finds x.time.moment
      → befalls_at settings held x.time x.event (then_end events) ≡ befalls_at settings (held_alone finds) x.time x.event (now_end events)
  event_alike last events x alike later looks =
      ap (befalls_at settings held x.time x.event) alike.same
      ∙ befalls_alike x.time.moment (held x.time.keys) finds looks settings x.event (now_end events)
      (until_more last x.time.moment (now_end events) later alike.until)

  on_alike : (last : ℕ) (events : List EventAt) (x : EventAt) → AreAlike last events → last ≤ x.time.moment
      → held x.time.keys x.time.moment ≡ finds x.time.moment → AreAlike (max last x.time.moment) (events ++ x ∷ [])
  on_alike last events x alike later looks =
      let mine = end_on settings (held_alone finds) None events x in
      record {
        same =
            end_on settings held None events x
            ∙ ap (λ (r : Option End × List Outcome). r.0) (event_alike last events x alike later looks)
            ∙ sym mine;
        until =
            subst (IsUntil (max last x.time.moment)) (sym mine)
            (until_more x.time.moment (max last x.time.moment) _ (omega arith)
            (until_befalls settings finds x.time.moment x.event (now_end events) (until_more last x.time.moment (now_end events) later alike.until)));
      }

  more_alike : (last high : ℕ) (events : List EventAt) → last ≤ high → AreAlike last events → AreAlike high events
  more_alike last high events more alike = record { same = alike.same; until = until_more last high (now_end events) more alike.until }

  -- ---- all items

  quiet : (front : List ServiceItem) (item : ServiceItem) → entries_of_item item ≡ [] → ((conn : ℕ) → events_of_item conn item ≡ []) → StandAlike front
      → StandAlike (front ++ item ∷ [])
  quiet front item no_entry no_event alike conn =
      let entries = entries_push front item ∙ ap (λ (x : List Entry). entries_of_service front ++ x) no_entry ∙ append-nil (entries_of_service front) in
      let events =
      events_push conn front item ∙ ap (λ (e : List EventAt). events_at conn front ++ e) (no_event conn) ∙ append-nil (events_at conn front) in
      subst (λ (e : List EventAt). AreAlike (last_moment (entries_of_service (front ++ item ∷ []))) e) (sym events)
      (subst (λ (x : List Entry). AreAlike (last_moment x) (events_at conn front)) (sym entries) (alike conn))

  occurs_alike : (front : List ServiceItem) (time : EventTime) (c : ℕ) (what : Event) (outcomes : List TraceOutcome) → StandAlike front
      → last_moment (entries_of_service front) ≤ time.moment → held time.keys time.moment ≡ finds time.moment
      → StandAlike (front ++ Occurred time c what outcomes ∷ [])
  occurs_alike front time c what outcomes alike later looks conn =
      let item = Occurred time c what outcomes in
      let x : EventAt = record { time = time; event = what } in
      let last = last_moment (entries_of_service front) in
      let high =
      ap last_moment (entries_push front item)
      ∙ last_push (entries_of_service front) (record { line = 0; moment = time.moment; conn = c; event = what }) in
      subst (λ (h : ℕ). AreAlike h (events_at conn (front ++ item ∷ []))) (sym high)
      (subst (AreAlike (max last time.moment)) (sym (events_push conn front item))
      (elim (cases_Bool (conn == c)) [
        | inl mine ↦ rw mine (on_alike last (events_at conn front) x (alike conn) later looks)
        | inr other ↦
            rw other
            (subst (AreAlike (max last time.moment)) (sym (append-nil (events_at conn front)))
            (more_alike last (max last time.moment) (events_at conn front) (omega arith) (alike conn)))
      ]))

  -- behind the entries before it, it is taken
  later_at : (all front back : List ServiceItem) (time : EventTime) (c : ℕ) (what : Event) (outcomes : List TraceOutcome)
      → all ≡ front ++ Occurred time c what outcomes ∷ back → AreTaken settings finds (entries_of_service all)
      → last_moment (entries_of_service front) ≤ time.moment
  later_at all front back time c what outcomes is taken =
      let e : Entry = record { line = 0; moment = time.moment; conn = c; event = what } in
      in_order settings finds (entries_of_service front) e
      (taken (entries_of_service front) e (entries_of_service back)
      (ap entries_of_service is ∙ flat_map-append entries_of_item front (Occurred time c what outcomes ∷ back)))

  looks_in : (all front back : List ServiceItem) (item : ServiceItem) → all ≡ front ++ item ∷ back → AllLookUpAsThen held finds all → LooksUpAsThen held finds item
  looks_in all front back item is looks = looks_at held finds front item back (subst (AllLookUpAsThen held finds) is looks)

  item_alike : (all front back : List ServiceItem) (item : ServiceItem) → all ≡ front ++ item ∷ back → AllLookUpAsThen held finds all
      → AreTaken settings finds (entries_of_service all) → StandAlike front → StandAlike (front ++ item ∷ [])
  item_alike all front back (Came happening) is looks taken alike = quiet front (Came happening) refl (λ conn. refl) alike
  item_alike all front back (LineRead line) is looks taken alike = quiet front (LineRead line) refl (λ conn. refl) alike
  item_alike all front back (Occurred time c what outcomes) is looks taken alike =
      occurs_alike front time c what outcomes alike (later_at all front back time c what outcomes is taken)
      (looks_in all front back (Occurred time c what outcomes) is looks)
  item_alike all front back (Informed notice) is looks taken alike = quiet front (Informed notice) refl (λ conn. refl) alike
  item_alike all front back KeysFetched is looks taken alike = quiet front KeysFetched refl (λ conn. refl) alike

  alike_from : (all front more back : List ServiceItem) → all ≡ front ++ (more ++ back) → AllLookUpAsThen held finds all
      → AreTaken settings finds (entries_of_service all) → StandAlike front → StandAlike (front ++ more)
  alike_from all front [] back is looks taken alike = subst StandAlike (sym (append-nil front)) alike
  alike_from all front (item ∷ more) back is looks taken alike =
      subst StandAlike (append_assoc front (item ∷ []) more)
      (alike_from all (front ++ item ∷ []) more back (is ∙ sym (append_assoc front (item ∷ []) (more ++ back))) looks taken
      (item_alike all front (more ++ back) item is looks taken alike))

  none_alike : StandAlike []
  unfolding stack_end_behind
  none_alike conn = record { same = refl; until = tt }

  -- what came of each event is what its end tells by the keys of the replay
  tells_now : (all : List ServiceItem)
      → ((before after : List ServiceItem) (time : EventTime) (conn : ℕ) (what : Event) (outcomes : List TraceOutcome)
      → all ≡ before ++ Occurred time conn what outcomes ∷ after → outcomes ≡ (stack_kind settings held).tells (events_at conn before) time what)
      → AllLookUpAsThen held finds all → AreTaken settings finds (entries_of_service all) → TellOwn settings finds all
  tells_now all own looks taken before after time conn what outcomes is =
      let x : EventAt = record { time = time; event = what } in
      let alike = alike_from all [] before (Occurred time conn what outcomes ∷ after) is looks taken none_alike conn in
      own before after time conn what outcomes is
      ∙ ap (λ (r : Option End × List Outcome). map trace_outcome_of r.1)
      (event_alike (last_moment (entries_of_service before)) (events_at conn before) x alike (later_at all before after time conn what outcomes is taken)
      (looks_in all before after (Occurred time conn what outcomes) is looks))

pub replays_print : EachTellsItsOwn → ReplaysPrintRecordings
replays_print own settings held finds happenings front back is looks taken =
    ap (λ (x : List ℕ). line_text (header_words settings) ++ x)
    (prints settings finds front [] front refl
    (tells_now settings held finds front
    (λ before after time conn what outcomes e.
    own (stack_kind settings held) happenings before (after ++ back) time conn what outcomes
    (is ∙ ap (λ (x : List ServiceItem). x ++ back) e ∙ append_assoc before (Occurred time conn what outcomes ∷ after) back))
    looks taken)
    taken)
