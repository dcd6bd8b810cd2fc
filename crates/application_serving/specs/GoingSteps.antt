-- Lemmas: from what is left for the model to do, a part is done; for the proofs of the loop.
use Rattle.std.proofs.Common.{arith, true, false, ◌+◌, ◌≡◌, ◌∙◌, ◌⊎◌, inl, inr, ℕ, List, [], ◌∷◌, ◌++◌, length, refl, sym, ap, subst, append-nil}
use Rattle.std.proofs.Common.{append_assoc, map}
use Rattle.std.specs.Prelude.{Some, None}
use Rattle.std.specs.List.{All, cons_option}
use Rattle.std.proofs.lemmas.Grind.{flat_map-append}
use Rattle.std.proofs.lemmas.List.{length-append}
use Rattle.std.proofs.lemmas.List.Elements.{filter_map-append, All-nil, All-cons}
use Rattle.er_settings.specs.Values.{Settings}
use Rattle.safety_automaton.specs.Keys.{KmacEntry}
use Rattle.er_trace.specs.declared.event.Event.{Event}
use Rattle.er_trace.specs.Outcomes.{TraceOutcome}
use Rattle.outside.specs.Acts.{Act, Gave, Fetched, Wrote}
use Rattle.outside.specs.Doings.{Told, Did}
use Rattle.outside.specs.Chains.{did_nothing, did_then}
use Rattle.application_lines.specs.Notices.{ApplicationNotice}
use Rattle.application_model.specs.Ends.{EventTime, EndKind}
use Rattle.application_model.specs.Histories.{ServiceHappening, ServiceItem, Occurred, Informed, KeysFetched}
use Rattle.application_model.specs.Services.{Attendance, Absent, Attached, Service, at_start, behind_items, one_then, inform, informed, takes_waiting, meets}
use Rattle.application_model.specs.Services.{serves_one, serves_all, service_history, occurs, time_at}
use Rattle.application_model.specs.Lines.{notices_of_event}
use Rattle.application_model.specs.Claims.{IsBeginning}
use Rattle.application_model.specs.Laws.{readings_in}
use Rattle.application_ends.specs.StackEnds.{stack_kind}
use Rattle.application_ends.specs.Laws.{text_of_item}
use Rattle.application_serving.specs.SeenOctets.{octets_read_of, is_brought_in}
use Rattle.application_serving.specs.Serving.{octets_event_brings, octets_heard_at, act_of_deed, items_of_deed, held_by_files, kind_by_acts}
use Rattle.application_serving.specs.Serving.{key_files_in_acts, ServesSoFar, ServiceDeed, acts_in_service, items_in_service, greatest_moment, IsAtMoment}
use Rattle.application_serving.specs.Going.{ServiceRun, ToDo, and_then, service_behind, held_behind, kind_behind, Going, ServesBy}
use Rattle.application_serving.specs.OneMore.{key_files_more, behind_more, behind_none, readings_more, informed_no_readings}
use Rattle.application_serving.specs.ItemDeeds.{IsRecorded}
use Rattle.application_serving.specs.ActDeeds.{so_far_nothing, does_occurred, does_failed_write}
use Rattle.application_serving.specs.ModelSteps.{occurs_is, one_then_is, one_then_assoc, then_nothing, nothing_then, one_then_same_first, serves_one_is}

-- ---- deeds

abbrev pub deed_of : Act → List ServiceItem → ServiceDeed
deed_of act items = record { act = Some act; items = items }

abbrev pub deed_without_act : List ServiceItem → ServiceDeed
deed_without_act items = record { act = None; items = items }

abbrev pub acts_of_deed : ServiceDeed → List Act
acts_of_deed deed = cons_option deed.act []

pub acts_one_more : (deeds : List ServiceDeed) (deed : ServiceDeed) → acts_in_service (deeds ++ deed ∷ []) ≡ acts_in_service deeds ++ acts_of_deed deed
acts_one_more deeds deed = filter_map-append act_of_deed deeds (deed ∷ [])

pub acts_without_act : (deeds : List ServiceDeed) (items : List ServiceItem) → acts_in_service (deeds ++ deed_without_act items ∷ []) ≡ acts_in_service deeds
acts_without_act deeds items = acts_one_more deeds (deed_without_act items) ∙ append-nil (acts_in_service deeds)

pub items_one_more : (deeds : List ServiceDeed) (deed : ServiceDeed) → items_in_service (deeds ++ deed ∷ []) ≡ items_in_service deeds ++ deed.items
items_one_more deeds deed =
    flat_map-append items_of_deed deeds (deed ∷ []) ∙ ap (λ (items : List ServiceItem). items_in_service deeds ++ items) (append-nil deed.items)

pub items_without_items : (deeds : List ServiceDeed) (act : Act) → items_in_service (deeds ++ deed_of act [] ∷ []) ≡ items_in_service deeds
items_without_items deeds act = items_one_more deeds (deed_of act []) ∙ append-nil (items_in_service deeds)

pub service_one_more : (deeds : List ServiceDeed) (deed : ServiceDeed) → service_behind (deeds ++ deed ∷ []) ≡ behind_items (service_behind deeds) deed.items
service_one_more deeds deed =
    ap (behind_items at_start) (items_one_more deeds deed) ∙ behind_more at_start (items_in_service deeds) deed.items

pub service_without_items : (deeds : List ServiceDeed) (act : Act) → service_behind (deeds ++ deed_of act [] ∷ []) ≡ service_behind deeds
service_without_items deeds act = service_one_more deeds (deed_of act []) ∙ behind_none (service_behind deeds)

pub held_one_more : (run : ServiceRun) (deeds : List ServiceDeed) (deed : ServiceDeed) (later : List (List KmacEntry))
    → held_behind run (deeds ++ deed ∷ []) later ≡ held_behind run deeds (key_files_in_acts (acts_of_deed deed) ++ later)
held_one_more run deeds deed later =
    ap (λ (files : List (List KmacEntry)). held_by_files run.start (files ++ later))
    (ap key_files_in_acts (acts_one_more deeds deed) ∙ key_files_more (acts_in_service deeds) (acts_of_deed deed))
    ∙ ap (held_by_files run.start) (append_assoc (key_files_in_acts (acts_in_service deeds)) (key_files_in_acts (acts_of_deed deed)) later)

pub kind_one_more : (run : ServiceRun) (deeds : List ServiceDeed) (deed : ServiceDeed) (later : List (List KmacEntry))
    → kind_behind run (deeds ++ deed ∷ []) later ≡ kind_behind run deeds (key_files_in_acts (acts_of_deed deed) ++ later)
kind_one_more run deeds deed later = ap (stack_kind run.settings) (held_one_more run deeds deed later)

-- a deed by which no key file was read
pub held_without_file : (run : ServiceRun) (deeds : List ServiceDeed) (deed : ServiceDeed) (later : List (List KmacEntry))
    → key_files_in_acts (acts_of_deed deed) ≡ [] → held_behind run (deeds ++ deed ∷ []) later ≡ held_behind run deeds later
held_without_file run deeds deed later none =
    held_one_more run deeds deed later ∙ ap (λ (files : List (List KmacEntry)). held_behind run deeds (files ++ later)) none

pub kind_without_file : (run : ServiceRun) (deeds : List ServiceDeed) (deed : ServiceDeed) (later : List (List KmacEntry))
    → key_files_in_acts (acts_of_deed deed) ≡ [] → kind_behind run (deeds ++ deed ∷ []) later ≡ kind_behind run deeds later
kind_without_file run deeds deed later none = ap (stack_kind run.settings) (held_without_file run deeds deed later none)

-- ---- places in lists

-- a beginning of a list with one more behind it is all of it, or a beginning of the list
at_the_end : {A : Type 0} (xs : List A) (last : A) (front back : List A) → xs ++ last ∷ [] ≡ front ++ back
    → ((front ≡ xs ++ last ∷ []) × (back ≡ [])) ⊎ ((more : List A) × (xs ≡ front ++ more))
at_the_end [] last [] back e = inr ([], refl)
at_the_end {A} [] last (y ∷ []) back e =
    let head : y ≡ last = cc in
    let tail : back ≡ [] = cc in
    inl (ap (λ (z : A). z ∷ []) head, tail)
at_the_end {A} [] last (y ∷ (z ∷ front)) back e = let none : [] ≡ z ∷ (front ++ back) = cc in absurd cc
at_the_end (x ∷ xs) last [] back e = inr (x ∷ xs, refl)
at_the_end {A} (x ∷ xs) last (y ∷ front) back e =
    let head : x ≡ y = cc in
    let tail : xs ++ last ∷ [] ≡ front ++ back = cc in
    elim (at_the_end xs last front back tail) [
      | inl whole ↦ inl (ap (λ (l : List A). y ∷ l) whole.0 ∙ ap (λ (z : A). z ∷ (xs ++ last ∷ [])) (sym head), whole.1)
      | inr before ↦ inr (before.0, ap (λ (z : A). z ∷ xs) head ∙ ap (λ (l : List A). y ∷ l) before.1)
    ]

-- a place in such a list is the last one, or one in the list
at_the_last : {A : Type 0} (xs : List A) (last : A) (front : List A) (here : A) (back : List A) → xs ++ last ∷ [] ≡ front ++ here ∷ back
    → ((front ≡ xs) × (here ≡ last)) ⊎ ((more : List A) × (xs ≡ front ++ here ∷ more))
at_the_last [] last [] here back e = inl (refl, cc)
at_the_last {A} [] last (y ∷ []) here back e = let none : [] ≡ here ∷ back = cc in absurd cc
at_the_last {A} [] last (y ∷ (z ∷ front)) here back e = let none : [] ≡ z ∷ (front ++ here ∷ back) = cc in absurd cc
at_the_last {A} (x ∷ xs) last [] here back e =
    let head : x ≡ here = cc in
    inr (xs, ap (λ (z : A). z ∷ xs) head)
at_the_last {A} (x ∷ xs) last (y ∷ front) here back e =
    let head : x ≡ y = cc in
    let tail : xs ++ last ∷ [] ≡ front ++ here ∷ back = cc in
    elim (at_the_last xs last front here back tail) [
      | inl final ↦ inl (ap (λ (l : List A). y ∷ l) final.0 ∙ ap (λ (z : A). z ∷ xs) (sym head), final.1)
      | inr before ↦ inr (before.0, ap (λ (z : A). z ∷ xs) head ∙ ap (λ (l : List A). y ∷ l) before.1)
    ]

nothing_before : {A : Type 0} (front back : List A) → [] ≡ front ++ back → front ≡ []
nothing_before [] back e = refl
nothing_before (x ∷ front) back e = absurd cc

nowhere : {A : Type 0} (front : List A) (here : A) (back : List A) → [] ≡ front ++ here ∷ back → ⊥
nowhere [] here back e = cc
nowhere (x ∷ front) here back e = cc

-- ---- the start, and the end

-- the history of these happenings, and of more, leads over these items to where this is left
abbrev LeadsOver : List (ℕ × ServiceHappening) → ToDo → EndKind → Service → List ServiceItem → Type 0
LeadsOver happenings rest kind s items =
    (more : List (ℕ × ServiceHappening)) → service_history kind (happenings ++ more) ≡ items ++ one_then (rest kind) (serves_all kind more) s

abbrev LeadsBy : ServiceRun → List (ℕ × ServiceHappening) → List ServiceDeed → ToDo → Type 0
LeadsBy run happenings deeds rest =
    (later : List (List KmacEntry)) → LeadsOver happenings rest (kind_behind run deeds later) (service_behind deeds) (items_in_service deeds)

begins_the_history : (run : ServiceRun) (happenings : List (ℕ × ServiceHappening)) (deeds : List ServiceDeed) (rest : ToDo) → LeadsBy run happenings deeds rest
    → IsBeginning (items_in_service deeds) (service_history (kind_by_acts run.settings run.start (acts_in_service deeds)) happenings)
begins_the_history run happenings deeds rest leads =
    let kind = kind_behind run deeds [] in
    let files = key_files_in_acts (acts_in_service deeds) in
    record {
      rest = one_then (rest kind) (serves_all kind []) (service_behind deeds);
      is = ap (λ (fs : List (List KmacEntry)). service_history (stack_kind run.settings (held_by_files run.start fs)) happenings) (sym (append-nil files))
          ∙ ap (service_history kind) (sym (append-nil happenings))
          ∙ leads [] [];
    }

pub going_start : (run : ServiceRun) → Going run run.before [] (λ kind s. [])
going_start run =
    record {
      did = did_nothing run.before;
      happenings = [];
      history = λ later more.
          ap (serves_all (kind_behind run [] later) more) (sym (behind_none at_start))
          ∙ sym (nothing_then (λ (s : Service). []) (serves_all (kind_behind run [] later) more) (service_behind []) refl);
      always = λ front back e.
          let none = nothing_before front back e in
          subst (λ (deeds : List ServiceDeed). ServesSoFar run.settings (acts_in_service deeds) (items_in_service deeds)) (sym none)
          (so_far_nothing run.settings);
      timely = λ front back deed e. absurd (nowhere front deed back e);
      fetched = λ front back e.
          let none = nothing_before front back e in
          subst (λ (deeds : List ServiceDeed). readings_in (items_in_service deeds) ≡ length (key_files_in_acts (acts_in_service deeds))) (sym none) refl;
    }

pub so_far_of_going : {run : ServiceRun} {now : Told} {deeds : List ServiceDeed} {rest : ToDo} → Going run now deeds rest
    → ServesSoFar run.settings (acts_in_service deeds) (items_in_service deeds)
so_far_of_going {run} {now} {deeds} going = going.always deeds [] (sym (append-nil deeds))

pub serves_of_going : {run : ServiceRun} {now : Told} {deeds : List ServiceDeed} {rest : ToDo} → Going run now deeds rest → ServesBy run now
serves_of_going {run} {now} {deeds} {rest} going =
    record {
      deeds = deeds;
      did = going.did;
      happenings = going.happenings;
      history = begins_the_history run going.happenings deeds rest going.history;
      always = going.always;
      timely = going.timely;
      fetched = λ front back e. inl (going.fetched front back e);
    }

-- ---- what is left, in other words

-- from here it is the same
abbrev pub YieldsSame : ServiceRun → List ServiceDeed → ToDo → ToDo → Type 0
YieldsSame run deeds rest rest' =
    (later : List (List KmacEntry)) → rest (kind_behind run deeds later) (service_behind deeds) ≡ rest' (kind_behind run deeds later) (service_behind deeds)

pub going_as : {run : ServiceRun} {now : Told} {deeds : List ServiceDeed} {rest rest' : ToDo} → Going run now deeds rest → YieldsSame run deeds rest rest'
    → Going run now deeds rest'
going_as {run} {now} {deeds} {rest} {rest'} going same =
    record {
      did = going.did;
      happenings = going.happenings;
      history = λ later more.
          let kind = kind_behind run deeds later in
          going.history later more
          ∙ ap (λ (items : List ServiceItem). items_in_service deeds ++ items)
          (one_then_same_first (rest kind) (rest' kind) (serves_all kind more) (service_behind deeds) (same later));
      always = going.always;
      timely = going.timely;
      fetched = going.fetched;
    }

-- the same whatever the ends are and wherever it begins
pub going_same : {run : ServiceRun} {now : Told} {deeds : List ServiceDeed} {rest rest' : ToDo} → Going run now deeds rest
    → ((kind : EndKind) (s : Service) → rest kind s ≡ rest' kind s) → Going run now deeds rest'
going_same {run} {now} {deeds} {rest} {rest'} going same = going_as going (λ later. same (kind_behind run deeds later) (service_behind deeds))

-- one thing and then two, or two and then one
pub going_regrouped : {run : ServiceRun} {now : Told} {deeds : List ServiceDeed} (a b c : ToDo) → Going run now deeds (and_then (and_then a b) c)
    → Going run now deeds (and_then a (and_then b c))
going_regrouped a b c going = going_same going (λ kind s. one_then_assoc (a kind) (b kind) (c kind) s)

pub going_grouped : {run : ServiceRun} {now : Told} {deeds : List ServiceDeed} (a b c : ToDo) → Going run now deeds (and_then a (and_then b c))
    → Going run now deeds (and_then (and_then a b) c)
going_grouped a b c going = going_same going (λ kind s. sym (one_then_assoc (a kind) (b kind) (c kind) s))

-- with nothing behind it, and without that
pub going_and_nothing : {run : ServiceRun} {now : Told} {deeds : List ServiceDeed} {rest : ToDo} → Going run now deeds rest
    → Going run now deeds (and_then rest (λ kind s. []))
going_and_nothing {run} {now} {deeds} {rest} going =
    going_same going (λ kind s. sym (then_nothing (rest kind) (λ (at : Service). []) s (λ at. refl)))

pub going_not_nothing : {run : ServiceRun} {now : Told} {deeds : List ServiceDeed} (rest : ToDo) → Going run now deeds (and_then rest (λ kind s. []))
    → Going run now deeds rest
going_not_nothing rest going =
    going_same going (λ kind s. then_nothing (rest kind) (λ (at : Service). []) s (λ at. refl))

-- a first part that is nothing from here is dropped
pub going_past : {run : ServiceRun} {now : Told} {deeds : List ServiceDeed} (first rest : ToDo) → Going run now deeds (and_then first rest)
    → YieldsSame run deeds first (λ kind s. []) → Going run now deeds rest
going_past {run} {now} {deeds} first rest going none =
    going_as going
    (λ later. nothing_then (first (kind_behind run deeds later)) (rest (kind_behind run deeds later)) (service_behind deeds) (none later))

-- the first part in other words
pub going_first_as : {run : ServiceRun} {now : Told} {deeds : List ServiceDeed} (first first' rest : ToDo) → Going run now deeds (and_then first rest)
    → YieldsSame run deeds first first' → Going run now deeds (and_then first' rest)
going_first_as {run} {now} {deeds} first first' rest going same =
    going_as going
    (λ later.
    one_then_same_first (first (kind_behind run deeds later)) (first' (kind_behind run deeds later)) (rest (kind_behind run deeds later)) (service_behind deeds)
    (same later))

-- ---- a happening begins

serves_first : (kind : EndKind) (next : ℕ × ServiceHappening) (more : List (ℕ × ServiceHappening)) (s : Service)
    → serves_all kind (next ∷ more) s ≡ one_then (serves_one kind next.0 next.1) (serves_all kind more) s
unfolding serves_all
serves_first kind next more s = refl

pub begins_happening : {run : ServiceRun} {now : Told} {deeds : List ServiceDeed} (moment : ℕ) (what : ServiceHappening) → Going run now deeds (λ kind s. [])
    → Going run now deeds (λ kind s. serves_one kind moment what s)
begins_happening {run} {now} {deeds} moment what going =
    record {
      did = going.did;
      happenings = going.happenings ++ (moment, what) ∷ [];
      history = λ later more.
          let kind = kind_behind run deeds later in
          ap (service_history kind) (append_assoc going.happenings ((moment, what) ∷ []) more)
          ∙ going.history later ((moment, what) ∷ more)
          ∙ ap (λ (items : List ServiceItem). items_in_service deeds ++ items)
          (nothing_then (λ (s : Service). []) (serves_all kind ((moment, what) ∷ more)) (service_behind deeds) refl
          ∙ serves_first kind (moment, what) more (service_behind deeds));
      always = going.always;
      timely = going.timely;
      fetched = going.fetched;
    }

-- the same, in its two parts
pub begins_to_meet : {run : ServiceRun} {now : Told} {deeds : List ServiceDeed} (moment : ℕ) (what : ServiceHappening) → Going run now deeds (λ kind s. [])
    → Going run now deeds (and_then (λ kind s. meets kind moment what s) (λ kind s. takes_waiting kind moment s))
begins_to_meet moment what going =
    going_same (begins_happening moment what going) (λ kind s. serves_one_is kind moment what s)

-- ---- one deed more

-- what is left begins with these items, and this is left behind them
abbrev pub LeavesBehind : ServiceRun → List ServiceDeed → ToDo → List ServiceItem → ToDo → Type 0
LeavesBehind run deeds rest items rest' =
    (later : List (List KmacEntry))
    → rest (kind_behind run deeds later) (service_behind deeds) ≡ items ++ rest' (kind_behind run deeds later) (behind_items (service_behind deeds) items)

-- a first part that is these items is done
abbrev pub IsDoneBy : ServiceRun → List ServiceDeed → ToDo → List ServiceItem → Type 0
IsDoneBy run deeds first items = (later : List (List KmacEntry)) → first (kind_behind run deeds later) (service_behind deeds) ≡ items

pub leaves_rest : (run : ServiceRun) (deeds : List ServiceDeed) (items : List ServiceItem) (first rest : ToDo) → IsDoneBy run deeds first items
    → LeavesBehind run deeds (and_then first rest) items rest
leaves_rest run deeds items first rest done =
    λ later.
    let kind = kind_behind run deeds later in
    one_then_is (first kind) (rest kind) (service_behind deeds)
    ∙ ap (λ (is : List ServiceItem). is ++ rest kind (behind_items (service_behind deeds) is)) (done later)

-- the history, with one deed more
begins_with : (first rest after : Service → List ServiceItem) (s : Service) (items : List ServiceItem) → first s ≡ items ++ rest (behind_items s items)
    → one_then first after s ≡ items ++ one_then rest after (behind_items s items)
begins_with first rest after s items e =
    let at = behind_items s items in
    let left = rest at in
    one_then_is first after s
    ∙ ap (λ (is : List ServiceItem). is ++ after (behind_items s is)) e
    ∙ append_assoc items left (after (behind_items s (items ++ left)))
    ∙ ap (λ (x : Service). items ++ (left ++ after x)) (behind_more s items left)
    ∙ ap (λ (is : List ServiceItem). items ++ is) (sym (one_then_is rest after at))

leads_on : (run : ServiceRun) (happenings : List (ℕ × ServiceHappening)) (deeds : List ServiceDeed) (deed : ServiceDeed) (rest rest' : ToDo)
    → LeadsBy run happenings deeds rest → LeavesBehind run deeds rest deed.items rest' → LeadsBy run happenings (deeds ++ deed ∷ []) rest'
leads_on run happenings deeds deed rest rest' leads leaves later =
    let files = key_files_in_acts (acts_of_deed deed) ++ later in
    let kind = kind_behind run deeds files in
    let s = service_behind deeds in
    let behind : LeadsOver happenings rest' kind (behind_items s deed.items) (items_in_service deeds ++ deed.items) =
    λ more.
    leads files more
    ∙ ap (λ (is : List ServiceItem). items_in_service deeds ++ is) (begins_with (rest kind) (rest' kind) (serves_all kind more) s deed.items (leaves files))
    ∙ sym (append_assoc (items_in_service deeds) deed.items (one_then (rest' kind) (serves_all kind more) (behind_items s deed.items))) in
    subst (λ (k : EndKind). LeadsOver happenings rest' k (service_behind (deeds ++ deed ∷ [])) (items_in_service (deeds ++ deed ∷ [])))
    (sym (kind_one_more run deeds deed later))
    (subst (λ (x : Service). LeadsOver happenings rest' kind x (items_in_service (deeds ++ deed ∷ []))) (sym (service_one_more deeds deed))
    (subst (λ (is : List ServiceItem). LeadsOver happenings rest' kind (behind_items s deed.items) is) (sym (items_one_more deeds deed)) behind))

-- the acts, with those of one deed more
did_on : (run : ServiceRun) (before now : Told) (deeds : List ServiceDeed) (deed : ServiceDeed) → Did run.before before (acts_in_service deeds)
    → Did before now (acts_of_deed deed) → Did run.before now (acts_in_service (deeds ++ deed ∷ []))
did_on run before now deeds deed first more =
    subst (Did run.before now) (sym (acts_one_more deeds deed))
    (did_then run.before before now (acts_in_service deeds) (acts_of_deed deed) first more)

-- at each moment, with one more
abbrev AtEach : (List ServiceDeed → Type 0) → List ServiceDeed → Type 0
AtEach Holds deeds = (front back : List ServiceDeed) → deeds ≡ front ++ back → Holds front

each_on : (Holds : List ServiceDeed → Type 0) (deeds : List ServiceDeed) (deed : ServiceDeed) → AtEach Holds deeds → Holds (deeds ++ deed ∷ [])
    → AtEach Holds (deeds ++ deed ∷ [])
each_on Holds deeds deed each here front back e =
    elim (at_the_end deeds deed front back e) [
      | inl whole ↦ subst Holds (sym whole.0) here
      | inr before ↦ each front before.0 before.1
    ]

so_on : (settings : Settings) (deeds : List ServiceDeed) (deed : ServiceDeed)
    → ServesSoFar settings (acts_in_service deeds ++ acts_of_deed deed) (items_in_service deeds ++ deed.items)
    → ServesSoFar settings (acts_in_service (deeds ++ deed ∷ [])) (items_in_service (deeds ++ deed ∷ []))
so_on settings deeds deed so =
    subst (λ (acts : List Act). ServesSoFar settings acts (items_in_service (deeds ++ deed ∷ []))) (sym (acts_one_more deeds deed))
    (subst (ServesSoFar settings (acts_in_service deeds ++ acts_of_deed deed)) (sym (items_one_more deeds deed)) so)

abbrev AreTimely : List ServiceDeed → Type 0
AreTimely deeds =
    (front back : List ServiceDeed) (deed : ServiceDeed) → deeds ≡ front ++ deed ∷ back → All (IsAtMoment (greatest_moment (acts_in_service front))) deed.items

timely_on : (deeds : List ServiceDeed) (deed : ServiceDeed) → AreTimely deeds → All (IsAtMoment (greatest_moment (acts_in_service deeds))) deed.items
    → AreTimely (deeds ++ deed ∷ [])
timely_on deeds deed timely here front back one e =
    elim (at_the_last deeds deed front one back e) [
      | inl final ↦
          subst (λ (ds : List ServiceDeed). All (IsAtMoment (greatest_moment (acts_in_service ds))) one.items) (sym final.0)
          (subst (λ (d : ServiceDeed). All (IsAtMoment (greatest_moment (acts_in_service deeds))) d.items) (sym final.1) here)
      | inr before ↦ timely front before.0 one before.1
    ]

abbrev AllRead : List ServiceDeed → Type 0
AllRead deeds = readings_in (items_in_service deeds) ≡ length (key_files_in_acts (acts_in_service deeds))

read_on : (deeds : List ServiceDeed) (deed : ServiceDeed) → AllRead deeds → readings_in deed.items ≡ length (key_files_in_acts (acts_of_deed deed))
    → AllRead (deeds ++ deed ∷ [])
read_on deeds deed before here =
    let old = key_files_in_acts (acts_in_service deeds) in
    let new = key_files_in_acts (acts_of_deed deed) in
    let items = ap readings_in (items_one_more deeds deed) ∙ readings_more (items_in_service deeds) deed.items in
    let files = ap (λ (acts : List Act). length (key_files_in_acts acts)) (acts_one_more deeds deed)
    ∙ ap length (key_files_more (acts_in_service deeds) (acts_of_deed deed))
    ∙ length-append old new in
    items ∙ ap (λ (n : ℕ). n + readings_in deed.items) before ∙ ap (λ (n : ℕ). length old + n) here ∙ sym files

-- any deed
pub going_on : {run : ServiceRun} {before now : Told} {deeds : List ServiceDeed} {rest rest' : ToDo} (deed : ServiceDeed) → Going run before deeds rest
    → Did before now (acts_of_deed deed) → LeavesBehind run deeds rest deed.items rest'
    → ServesSoFar run.settings (acts_in_service deeds ++ acts_of_deed deed) (items_in_service deeds ++ deed.items)
    → All (IsAtMoment (greatest_moment (acts_in_service deeds))) deed.items → readings_in deed.items ≡ length (key_files_in_acts (acts_of_deed deed))
    → Going run now (deeds ++ deed ∷ []) rest'
going_on {run} {before} {now} {deeds} {rest} {rest'} deed going did leaves so timely fetched =
    record {
      did = did_on run before now deeds deed going.did did;
      happenings = going.happenings;
      history = leads_on run going.happenings deeds deed rest rest' going.history leaves;
      always = each_on (λ ds. ServesSoFar run.settings (acts_in_service ds) (items_in_service ds)) deeds deed going.always (so_on run.settings deeds deed so);
      timely = timely_on deeds deed going.timely timely;
      fetched = each_on AllRead deeds deed going.fetched (read_on deeds deed (going.fetched deeds [] (sym (append-nil deeds))) fetched);
    }

-- an act that is nothing in the history, and no key file
pub going_quietly : {run : ServiceRun} {before now : Told} {deeds : List ServiceDeed} {rest : ToDo} (act : Act) → Going run before deeds rest
    → Did before now (act ∷ []) → key_files_in_acts (act ∷ []) ≡ [] → ServesSoFar run.settings (acts_in_service deeds ++ act ∷ []) (items_in_service deeds)
    → Going run now (deeds ++ deed_of act [] ∷ []) rest
going_quietly {run} {before} {now} {deeds} {rest} act going did none so =
    going_on (deed_of act []) going did (λ later. ap (rest (kind_behind run deeds later)) (sym (behind_none (service_behind deeds))))
    (subst (ServesSoFar run.settings (acts_in_service deeds ++ act ∷ [])) (sym (append-nil (items_in_service deeds))) so)
    (All-nil (IsAtMoment (greatest_moment (acts_in_service deeds)))) (ap length (sym none))

-- an act that is the first part of what is left, and no key file
pub going_by_act : {run : ServiceRun} {before now : Told} {deeds : List ServiceDeed} (first rest : ToDo) (act : Act) (items : List ServiceItem)
    → Going run before deeds (and_then first rest) → Did before now (act ∷ []) → key_files_in_acts (act ∷ []) ≡ [] → IsDoneBy run deeds first items
    → ServesSoFar run.settings (acts_in_service deeds ++ act ∷ []) (items_in_service deeds ++ items)
    → All (IsAtMoment (greatest_moment (acts_in_service deeds))) items → readings_in items ≡ 0 → Going run now (deeds ++ deed_of act items ∷ []) rest
going_by_act {run} {before} {now} {deeds} first rest act items going did none done so timely fetched =
    going_on (deed_of act items) going did (leaves_rest run deeds items first rest done) so timely (fetched ∙ ap length (sym none))

-- the first part of what is left is done without an act
pub going_by_items : {run : ServiceRun} {now : Told} {deeds : List ServiceDeed} (first rest : ToDo) (items : List ServiceItem)
    → Going run now deeds (and_then first rest) → IsDoneBy run deeds first items
    → ServesSoFar run.settings (acts_in_service deeds) (items_in_service deeds ++ items)
    → All (IsAtMoment (greatest_moment (acts_in_service deeds))) items → readings_in items ≡ 0 → Going run now (deeds ++ deed_without_act items ∷ []) rest
going_by_items {run} {now} {deeds} first rest items going done so timely fetched =
    going_on (deed_without_act items) going (did_nothing now) (leaves_rest run deeds items first rest done)
    (subst (λ (acts : List Act). ServesSoFar run.settings acts (items_in_service deeds ++ items)) (sym (append-nil (acts_in_service deeds))) so) timely fetched

-- the moments of what is told alone, and of an event with what is told of it
pub notices_are_timely : (now : ℕ) (notices : List ApplicationNotice) → All (IsAtMoment now) (map inform notices)
notices_are_timely now [] = All-nil (IsAtMoment now)
notices_are_timely now (notice ∷ notices) = All-cons (IsAtMoment now) (Informed notice) (map inform notices) tt (notices_are_timely now notices)

pub informed_is_timely : (now : ℕ) (there : Attendance) (notices : List ApplicationNotice) → All (IsAtMoment now) (informed there notices)
informed_is_timely now Absent notices = All-nil (IsAtMoment now)
informed_is_timely now (Attached standing waiting) notices = notices_are_timely now notices

pub event_is_timely : (now : ℕ) (time : EventTime) (conn : ℕ) (what : Event) (outcomes : List TraceOutcome) (there : Attendance)
    (notices : List ApplicationNotice) → time.moment ≡ now → All (IsAtMoment now) (Occurred time conn what outcomes ∷ informed there notices)
event_is_timely now time conn what outcomes there notices at =
    All-cons (IsAtMoment now) (Occurred time conn what outcomes) (informed there notices) at (informed_is_timely now there notices)

-- an item that is no event, before others
pub timely_behind : (now : ℕ) (item : ServiceItem) (items : List ServiceItem) → IsAtMoment now item → All (IsAtMoment now) items
    → All (IsAtMoment now) (item ∷ items)
timely_behind now item items first rest = All-cons (IsAtMoment now) item items first rest

-- ---- an event at a connection, and a write that failed

pub going_by_event : {run : ServiceRun} {before now : Told} {deeds : List ServiceDeed} (rest : ToDo) (piece : List ℕ) (moment conn : ℕ) (what : Event)
    (outcomes : List TraceOutcome)
    → Going run before deeds (and_then (λ kind s. occurs kind moment conn what s) rest) → Did before now (Wrote piece true ∷ [])
    → ((later : List (List KmacEntry))
    → (kind_behind run deeds later).tells ((service_behind deeds).ends conn) (time_at moment (service_behind deeds)) what ≡ outcomes)
    → IsRecorded run.settings (acts_in_service deeds) (items_in_service deeds)
    → piece ≡ text_of_item (Occurred (time_at moment (service_behind deeds)) conn what outcomes) → is_brought_in conn (acts_in_service deeds) ≡ true
    → IsBeginning (octets_heard_at conn (items_in_service deeds) ++ octets_event_brings what) (octets_read_of conn (acts_in_service deeds))
    → greatest_moment (acts_in_service deeds) ≡ moment
    → Going run now
    (deeds
    ++ deed_of (Wrote piece true)
    (Occurred (time_at moment (service_behind deeds)) conn what outcomes
    ∷ informed (service_behind deeds).application (notices_of_event conn what outcomes))
    ∷ []) rest
going_by_event {run} {before} {now} {deeds} rest piece moment conn what outcomes going did tells recorded text brought hears at =
    let s = service_behind deeds in
    let time = time_at moment s in
    let notices = notices_of_event conn what outcomes in
    going_by_act (λ kind x. occurs kind moment conn what x) rest (Wrote piece true) (Occurred time conn what outcomes ∷ informed s.application notices) going
    did refl
    (λ later. occurs_is (kind_behind run deeds later) moment conn what s outcomes (tells later))
    (does_occurred (so_far_of_going going) recorded piece time conn what outcomes s.application notices text brought hears)
    (event_is_timely (greatest_moment (acts_in_service deeds)) time conn what outcomes s.application notices (sym at))
    (let none = informed_no_readings s.application notices in omega (arith, none))

-- behind an act that is nothing in the history, what was done is the beginning of one
pub serves_quietly : {run : ServiceRun} {before now : Told} {deeds : List ServiceDeed} {rest : ToDo} (act : Act) → Going run before deeds rest
    → Did before now (act ∷ []) → key_files_in_acts (act ∷ []) ≡ [] → ServesSoFar run.settings (acts_in_service deeds ++ act ∷ []) (items_in_service deeds)
    → ServesBy run now
serves_quietly act going did none so = serves_of_going (going_quietly act going did none so)

pub serves_behind_failed_write : {run : ServiceRun} {before now : Told} {deeds : List ServiceDeed} {rest : ToDo} (piece : List ℕ) → Going run before deeds rest
    → Did before now (Wrote piece false ∷ []) → ServesBy run now
serves_behind_failed_write piece going did =
    serves_quietly (Wrote piece false) going did refl (does_failed_write (so_far_of_going going) piece)

-- ---- a good key file that was never read: memory ran out

pub serves_behind_unread : {run : ServiceRun} {before now : Told} {deeds : List ServiceDeed} (first rest : ToDo) (name octets : List ℕ)
    → Going run before deeds (and_then first rest) → Did before now (Fetched name (Gave octets) ∷ []) → IsDoneBy run deeds first (KeysFetched ∷ [])
    → ServesSoFar run.settings (acts_in_service deeds ++ Fetched name (Gave octets) ∷ []) (items_in_service deeds ++ KeysFetched ∷ [])
    → ServesBy run now
serves_behind_unread {run} {before} {now} {deeds} first rest name octets going did done so =
    let deed = deed_of (Fetched name (Gave octets)) (KeysFetched ∷ []) in
    let leads = leads_on run going.happenings deeds deed (and_then first rest) rest going.history (leaves_rest run deeds (KeysFetched ∷ []) first rest done) in
    record {
      deeds = deeds ++ deed ∷ [];
      did = did_on run before now deeds deed going.did did;
      happenings = going.happenings;
      history = begins_the_history run going.happenings (deeds ++ deed ∷ []) rest leads;
      always = each_on (λ ds. ServesSoFar run.settings (acts_in_service ds) (items_in_service ds)) deeds deed going.always (so_on run.settings deeds deed so);
      timely = timely_on deeds deed going.timely
          (All-cons (IsAtMoment (greatest_moment (acts_in_service deeds))) KeysFetched [] tt
          (All-nil (IsAtMoment (greatest_moment (acts_in_service deeds)))));
      fetched = λ front back e.
          elim (at_the_end deeds deed front back e) [
            | inl whole ↦ inr whole.1
            | inr earlier ↦ inl (going.fetched front earlier.0 earlier.1)
          ];
    }
