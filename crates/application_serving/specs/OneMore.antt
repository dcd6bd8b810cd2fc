-- Lemmas: what acts and items show, with more of them; for the proofs of the loop.
use Rattle.std.proofs.Common.{arith, true≢false, inl, inr, append-nil, append_assoc, ◌≡◌, ◌∙◌, ◌<◌, ◌+◌, ◌==◌, ◌||◌, ℕ, Bool, true, false, if◌then◌else◌}
use Rattle.std.proofs.Common.{List, [], ◌∷◌, ◌++◌, max, map, refl, sym, ap, fold}
use Rattle.std.specs.Prelude.{Option, Some}
use Rattle.std.specs.List.{flat_map}
use Rattle.std.proofs.lemmas.Bool.{cases_Bool, eqb-true, eq-eqb, ne_eqb, or_left, or_right}
use Rattle.std.proofs.lemmas.Grind.{flat_map-append}
use Rattle.std.proofs.lemmas.List.Elements.{filter_map-append}
use Rattle.std.proofs.lemmas.List.Folds.{list_any-append}
use Rattle.std.proofs.lemmas.List.Sums.{fold-append}
use Rattle.er_trace.specs.declared.event.Event.{Event}
use Rattle.er_trace.specs.Outcomes.{TraceOutcome}
use Rattle.link_trait.specs.Wires.{Reading}
use Rattle.link_trait.specs.declared.wires.Conn.{Conn}
use Rattle.link_trait.specs.declared.wires.Happening.TheVariants as happening
use Rattle.link_trait.specs.declared.wires.WriteAnswer.{WriteAnswer}
use Rattle.outside.specs.Acts.{Dialled, Turned, Read, Sent, Closed, Act, Called, Asked, moment_of_act, moments_in_acts}
use Rattle.application_lines.specs.Notices.{ApplicationNotice, notice_text}
use Rattle.application_model.specs.Ends.{KnownEnd, EventTime, EventAt, is_known, known_behind, without_end, numbers_known}
use Rattle.application_model.specs.Histories.{ServiceItem, Occurred, Informed}
use Rattle.application_model.specs.Services.{Attendance, Absent, Attached, Service, behind_item, behind_items, inform, informed}
use Rattle.application_model.specs.Claims.{RiseTo, events_of_item, outcomes_of_item, events_at, outcomes_at_connection}
use Rattle.application_model.specs.Laws.{readings_in}
use Rattle.application_ends.specs.Laws.{text_of_item, recording_of_service}
use Rattle.application_serving.specs.SeenOctets.{octets_read_by_call, octets_given_by_call, is_brought_by_call, is_closed_by_call, of_call_act, seen_to_say}
use Rattle.application_serving.specs.SeenOctets.{seen_to_get}
use Rattle.application_serving.specs.SeenOctets.{octets_of_reading, octets_of_writing, octets_read_of, octets_given_to, is_brought_in, is_closed_in}
use Rattle.application_serving.specs.SeenOctets.{SeenApplication, NobodySeen, SeenThere, seen_behind_act, application_in_acts}
use Rattle.application_serving.specs.Serving.{text_written_by_act, entries_by_act, text_written_by_acts, application_behind_item, application_in_items}
use Rattle.application_serving.specs.Serving.{octets_of_outcome, octets_told_at}
use Rattle.application_serving.specs.Serving.{octets_event_brings, octets_heard_at, key_files_in_acts, greatest_moment}

-- ---- nothing more

with_nothing : {A : Type 0} (xs ys : List A) → ys ≡ [] → xs ++ ys ≡ xs
with_nothing {A} xs ys none = ap (λ (zs : List A). xs ++ zs) none ∙ append-nil xs

or_nothing : (a b : Bool) → b ≡ false → (a || b) ≡ a
or_nothing true b none = refl
or_nothing false b none = none

if_same : {A : Type 0} (n : ℕ) (xs : List A) → (if n == n then xs else []) ≡ xs
if_same n xs = rw (eq-eqb n n refl) refl

-- ---- acts

pub text_written_more : (acts more : List Act) → text_written_by_acts (acts ++ more) ≡ text_written_by_acts acts ++ text_written_by_acts more
text_written_more acts more = flat_map-append text_written_by_act acts more

pub key_files_more : (acts more : List Act) → key_files_in_acts (acts ++ more) ≡ key_files_in_acts acts ++ key_files_in_acts more
key_files_more acts more = flat_map-append entries_by_act acts more

pub given_to_more : (conn : ℕ) (acts more : List Act) → octets_given_to conn (acts ++ more) ≡ octets_given_to conn acts ++ octets_given_to conn more
given_to_more conn acts more = flat_map-append (of_call_act [] (octets_given_by_call conn)) acts more

pub read_of_more : (conn : ℕ) (acts more : List Act) → octets_read_of conn (acts ++ more) ≡ octets_read_of conn acts ++ octets_read_of conn more
read_of_more conn acts more = flat_map-append (of_call_act [] (octets_read_by_call conn)) acts more

pub brought_in_more : (conn : ℕ) (acts more : List Act) → is_brought_in conn (acts ++ more) ≡ (is_brought_in conn acts || is_brought_in conn more)
brought_in_more conn acts more = list_any-append (of_call_act false (is_brought_by_call conn)) acts more

pub closed_in_more : (conn : ℕ) (acts more : List Act) → is_closed_in conn (acts ++ more) ≡ (is_closed_in conn acts || is_closed_in conn more)
closed_in_more conn acts more = list_any-append (of_call_act false (is_closed_by_call conn)) acts more

pub application_acts_more : (acts more : List Act) → application_in_acts (acts ++ more) ≡ fold seen_behind_act (application_in_acts acts) more
application_acts_more acts more = fold-append seen_behind_act NobodySeen acts more

-- what was brought or closed stays so
pub still_brought : (conn : ℕ) (acts more : List Act) → is_brought_in conn acts ≡ true → is_brought_in conn (acts ++ more) ≡ true
still_brought conn acts more is = brought_in_more conn acts more ∙ or_left (is_brought_in conn acts) (is_brought_in conn more) is

pub still_closed : (conn : ℕ) (acts more : List Act) → is_closed_in conn acts ≡ true → is_closed_in conn (acts ++ more) ≡ true
still_closed conn acts more is = closed_in_more conn acts more ∙ or_left (is_closed_in conn acts) (is_closed_in conn more) is

-- an act that none of them sees: nothing changes
pub given_to_quiet : (conn : ℕ) (acts : List Act) (act : Act) → octets_given_to conn (act ∷ []) ≡ []
    → octets_given_to conn (acts ++ act ∷ []) ≡ octets_given_to conn acts
given_to_quiet conn acts act none = given_to_more conn acts (act ∷ []) ∙ with_nothing (octets_given_to conn acts) (octets_given_to conn (act ∷ [])) none

pub read_of_quiet : (conn : ℕ) (acts : List Act) (act : Act) → octets_read_of conn (act ∷ []) ≡ []
    → octets_read_of conn (acts ++ act ∷ []) ≡ octets_read_of conn acts
read_of_quiet conn acts act none = read_of_more conn acts (act ∷ []) ∙ with_nothing (octets_read_of conn acts) (octets_read_of conn (act ∷ [])) none

pub brought_in_quiet : (conn : ℕ) (acts : List Act) (act : Act) → is_brought_in conn (act ∷ []) ≡ false
    → is_brought_in conn (acts ++ act ∷ []) ≡ is_brought_in conn acts
brought_in_quiet conn acts act none = brought_in_more conn acts (act ∷ []) ∙ or_nothing (is_brought_in conn acts) (is_brought_in conn (act ∷ [])) none

pub closed_in_quiet : (conn : ℕ) (acts : List Act) (act : Act) → is_closed_in conn (act ∷ []) ≡ false
    → is_closed_in conn (acts ++ act ∷ []) ≡ is_closed_in conn acts
closed_in_quiet conn acts act none = closed_in_more conn acts (act ∷ []) ∙ or_nothing (is_closed_in conn acts) (is_closed_in conn (act ∷ [])) none

pub text_written_quiet : (acts : List Act) (act : Act) → text_written_by_acts (act ∷ []) ≡ []
    → text_written_by_acts (acts ++ act ∷ []) ≡ text_written_by_acts acts
text_written_quiet acts act none = text_written_more acts (act ∷ []) ∙ with_nothing (text_written_by_acts acts) (text_written_by_acts (act ∷ [])) none

pub key_files_quiet : (acts : List Act) (act : Act) → key_files_in_acts (act ∷ []) ≡ [] → key_files_in_acts (acts ++ act ∷ []) ≡ key_files_in_acts acts
key_files_quiet acts act none = key_files_more acts (act ∷ []) ∙ with_nothing (key_files_in_acts acts) (key_files_in_acts (act ∷ [])) none

-- a write to a connection, and to another
pub given_at_sent : (conn : ℕ) (acts : List Act) (piece : List ℕ) (answer : WriteAnswer)
    → octets_given_to conn (acts ++ Called (Sent conn piece answer) ∷ []) ≡ octets_given_to conn acts ++ octets_of_writing piece answer
given_at_sent conn acts piece answer =
    given_to_more conn acts (Called (Sent conn piece answer) ∷ [])
    ∙ ap (λ (os : List ℕ). octets_given_to conn acts ++ os)
    (append-nil (if conn == conn then octets_of_writing piece answer else []) ∙ if_same conn (octets_of_writing piece answer))

pub given_to_others : (conn to : ℕ) (acts : List Act) (piece : List ℕ) (answer : WriteAnswer) → (to == conn) ≡ false
    → octets_given_to conn (acts ++ Called (Sent to piece answer) ∷ []) ≡ octets_given_to conn acts
given_to_others conn to acts piece answer other = given_to_quiet conn acts (Called (Sent to piece answer)) (rw other refl)

-- a read of a connection, and of another
pub read_at_read : (conn size : ℕ) (acts : List Act) (reading : Reading)
    → octets_read_of conn (acts ++ Called (Read conn size reading) ∷ []) ≡ octets_read_of conn acts ++ octets_of_reading reading
read_at_read conn size acts reading =
    read_of_more conn acts (Called (Read conn size reading) ∷ [])
    ∙ ap (λ (os : List ℕ). octets_read_of conn acts ++ os)
    (append-nil (if conn == conn then octets_of_reading reading else []) ∙ if_same conn (octets_of_reading reading))

pub read_of_others : (conn from size : ℕ) (acts : List Act) (reading : Reading) → (from == conn) ≡ false
    → octets_read_of conn (acts ++ Called (Read from size reading) ∷ []) ≡ octets_read_of conn acts
read_of_others conn from size acts reading other = read_of_quiet conn acts (Called (Read from size reading)) (rw other refl)

pub closed_at_closed : (conn : ℕ) (acts : List Act) → is_closed_in conn (acts ++ Called (Closed conn) ∷ []) ≡ true
closed_at_closed conn acts =
    closed_in_more conn acts (Called (Closed conn) ∷ [])
    ∙ or_right (is_closed_in conn acts) (is_closed_in conn (Called (Closed conn) ∷ [])) (rw (eq-eqb conn conn refl) refl)

pub closed_of_others : (conn at : ℕ) (acts : List Act) → (at == conn) ≡ false → is_closed_in conn (acts ++ Called (Closed at) ∷ []) ≡ is_closed_in conn acts
closed_of_others conn at acts other = closed_in_quiet conn acts (Called (Closed at)) (rw other refl)

pub brought_by_accepted : (c : Conn) (until : Option ℕ) (acts : List Act) → is_brought_in c.0 (acts ++ Called (Turned until (happening.Accepted c)) ∷ []) ≡ true
brought_by_accepted c until acts =
    brought_in_more c.0 acts (Called (Turned until (happening.Accepted c)) ∷ [])
    ∙ or_right (is_brought_in c.0 acts) (is_brought_in c.0 (Called (Turned until (happening.Accepted c)) ∷ [])) (rw (eq-eqb c.0 c.0 refl) refl)

pub brought_by_dialled : (conn : ℕ) (address : List ℕ) (acts : List Act) → is_brought_in conn (acts ++ Called (Dialled address (Some conn)) ∷ []) ≡ true
brought_by_dialled conn address acts =
    brought_in_more conn acts (Called (Dialled address (Some conn)) ∷ [])
    ∙ or_right (is_brought_in conn acts) (is_brought_in conn (Called (Dialled address (Some conn)) ∷ [])) (rw (eq-eqb conn conn refl) refl)

-- the application
pub application_quiet : (acts : List Act) (act : Act) → seen_behind_act (application_in_acts acts) act ≡ application_in_acts acts
    → application_in_acts (acts ++ act ∷ []) ≡ application_in_acts acts
application_quiet acts act none = application_acts_more acts (act ∷ []) ∙ none

pub application_one : (acts : List Act) (act : Act) → application_in_acts (acts ++ act ∷ []) ≡ seen_behind_act (application_in_acts acts) act
application_one acts act = application_acts_more acts (act ∷ [])

pub application_comes : (acts : List Act) (until : Option ℕ) (c : Conn) → c.0 ≡ 0 → application_in_acts acts ≡ NobodySeen
    → application_in_acts (acts ++ Called (Turned until (happening.Writable c)) ∷ []) ≡ SeenThere [] []
application_comes acts until c is none =
    let mine : (c.0 == 0) ≡ true = eq-eqb c.0 0 is in
    application_one acts (Called (Turned until (happening.Writable c))) ∙ rw (mine, none) refl

pub application_says : (acts : List Act) (size : ℕ) (reading : Reading) (read given : List ℕ) → application_in_acts acts ≡ SeenThere read given
    → application_in_acts (acts ++ Called (Read 0 size reading) ∷ []) ≡ SeenThere (read ++ octets_of_reading reading) given
application_says acts size reading read given there = application_one acts (Called (Read 0 size reading)) ∙ ap (seen_to_say (octets_of_reading reading)) there

pub application_gets : (acts : List Act) (piece : List ℕ) (answer : WriteAnswer) (read given : List ℕ) → application_in_acts acts ≡ SeenThere read given
    → application_in_acts (acts ++ Called (Sent 0 piece answer) ∷ []) ≡ SeenThere read (given ++ octets_of_writing piece answer)
application_gets acts piece answer read given there =
    application_one acts (Called (Sent 0 piece answer)) ∙ ap (seen_to_get (octets_of_writing piece answer)) there

pub application_leaves : (acts : List Act) → application_in_acts (acts ++ Called (Closed 0) ∷ []) ≡ NobodySeen
application_leaves acts = application_one acts (Called (Closed 0))

-- the clock
pub moment_asked : (acts : List Act) (moment : ℕ) → greatest_moment (acts ++ Asked moment ∷ []) ≡ max (greatest_moment acts) moment
moment_asked acts moment =
    ap (fold max 0) (filter_map-append moment_of_act acts (Asked moment ∷ [])) ∙ fold-append max 0 (moments_in_acts acts) (moment ∷ [])

pub moment_quiet : (acts : List Act) (act : Act) → moments_in_acts (act ∷ []) ≡ [] → greatest_moment (acts ++ act ∷ []) ≡ greatest_moment acts
moment_quiet acts act none =
    ap (fold max 0) (filter_map-append moment_of_act acts (act ∷ []) ∙ with_nothing (moments_in_acts acts) (moments_in_acts (act ∷ [])) none)

-- ---- items

pub behind_more : (s : Service) (items more : List ServiceItem) → behind_items s (items ++ more) ≡ behind_items (behind_items s items) more
unfolding behind_items
behind_more s [] more = refl
behind_more s (item ∷ items) more = behind_more (behind_item s item) items more

pub behind_none : (s : Service) → behind_items s [] ≡ s
unfolding behind_items
behind_none s = refl

pub behind_one : (s : Service) (item : ServiceItem) → behind_items s (item ∷ []) ≡ behind_item s item
unfolding behind_items
behind_one s item = refl

pub behind_first : (s : Service) (item : ServiceItem) (more : List ServiceItem) → behind_items s (item ∷ more) ≡ behind_items (behind_item s item) more
unfolding behind_items
behind_first s item more = refl

pub events_more : (conn : ℕ) (items more : List ServiceItem) → events_at conn (items ++ more) ≡ events_at conn items ++ events_at conn more
events_more conn [] more = refl
events_more conn (item ∷ items) more =
    ap (λ (x : List EventAt). events_of_item conn item ++ x) (events_more conn items more)
    ∙ sym (append_assoc (events_of_item conn item) (events_at conn items) (events_at conn more))

pub outcomes_more : (conn : ℕ) (items more : List ServiceItem)
    → outcomes_at_connection conn (items ++ more) ≡ outcomes_at_connection conn items ++ outcomes_at_connection conn more
outcomes_more conn [] more = refl
outcomes_more conn (item ∷ items) more =
    ap (λ (x : List TraceOutcome). outcomes_of_item conn item ++ x) (outcomes_more conn items more)
    ∙ sym (append_assoc (outcomes_of_item conn item) (outcomes_at_connection conn items) (outcomes_at_connection conn more))

pub told_more_at : (conn : ℕ) (items more : List ServiceItem) → octets_told_at conn (items ++ more) ≡ octets_told_at conn items ++ octets_told_at conn more
told_more_at conn items more =
    ap (flat_map octets_of_outcome) (outcomes_more conn items more)
    ∙ flat_map-append octets_of_outcome (outcomes_at_connection conn items) (outcomes_at_connection conn more)

pub heard_more_at : (conn : ℕ) (items more : List ServiceItem) → octets_heard_at conn (items ++ more) ≡ octets_heard_at conn items ++ octets_heard_at conn more
heard_more_at conn items more =
    ap (flat_map (λ (x : EventAt). octets_event_brings x.event)) (events_more conn items more)
    ∙ flat_map-append (λ (x : EventAt). octets_event_brings x.event) (events_at conn items) (events_at conn more)

pub recording_more : (items more : List ServiceItem) → recording_of_service (items ++ more) ≡ recording_of_service items ++ recording_of_service more
recording_more items more = flat_map-append text_of_item items more

pub readings_more : (items more : List ServiceItem) → readings_in (items ++ more) ≡ readings_in items + readings_in more
readings_more [] more = omega arith
readings_more (item ∷ items) more = let rest = readings_more items more in omega (arith, rest)

pub application_items_more : (items more : List ServiceItem)
    → application_in_items (items ++ more) ≡ fold application_behind_item (application_in_items items) more
application_items_more items more = fold-append application_behind_item NobodySeen items more

-- notices alone
pub notices_no_events : (conn : ℕ) (notices : List ApplicationNotice) → events_at conn (map inform notices) ≡ []
notices_no_events conn [] = refl
notices_no_events conn (notice ∷ notices) = notices_no_events conn notices

pub notices_no_outcomes : (conn : ℕ) (notices : List ApplicationNotice) → outcomes_at_connection conn (map inform notices) ≡ []
notices_no_outcomes conn [] = refl
notices_no_outcomes conn (notice ∷ notices) = notices_no_outcomes conn notices

pub notices_no_text : (notices : List ApplicationNotice) → recording_of_service (map inform notices) ≡ []
notices_no_text [] = refl
notices_no_text (notice ∷ notices) = notices_no_text notices

pub notices_no_readings : (notices : List ApplicationNotice) → readings_in (map inform notices) ≡ 0
notices_no_readings [] = refl
notices_no_readings (notice ∷ notices) = let rest = notices_no_readings notices in omega (arith, rest)

-- what is told with an event, where an application is there
pub informed_no_events : (conn : ℕ) (there : Attendance) (notices : List ApplicationNotice) → events_at conn (informed there notices) ≡ []
informed_no_events conn Absent notices = refl
informed_no_events conn (Attached standing waiting) notices = notices_no_events conn notices

pub informed_no_outcomes : (conn : ℕ) (there : Attendance) (notices : List ApplicationNotice) → outcomes_at_connection conn (informed there notices) ≡ []
informed_no_outcomes conn Absent notices = refl
informed_no_outcomes conn (Attached standing waiting) notices = notices_no_outcomes conn notices

pub informed_no_text : (there : Attendance) (notices : List ApplicationNotice) → recording_of_service (informed there notices) ≡ []
informed_no_text Absent notices = refl
informed_no_text (Attached standing waiting) notices = notices_no_text notices

pub informed_no_readings : (there : Attendance) (notices : List ApplicationNotice) → readings_in (informed there notices) ≡ 0
informed_no_readings Absent notices = refl
informed_no_readings (Attached standing waiting) notices = notices_no_readings notices

told_all : (notices : List ApplicationNotice) (brought told : List ℕ)
    → fold application_behind_item (SeenThere brought told) (map inform notices) ≡ SeenThere brought (told ++ flat_map notice_text notices)
told_all [] brought told = ap (SeenThere brought) (sym (append-nil told))
told_all (notice ∷ notices) brought told =
    told_all notices brought (told ++ notice_text notice)
    ∙ ap (SeenThere brought) (append_assoc told (notice_text notice) (flat_map notice_text notices))

-- the application's told side grows by the texts of the notices
pub application_told : (items : List ServiceItem) (notices : List ApplicationNotice) (brought told : List ℕ)
    → application_in_items items ≡ SeenThere brought told
    → application_in_items (items ++ map inform notices) ≡ SeenThere brought (told ++ flat_map notice_text notices)
application_told items notices brought told there =
    application_items_more items (map inform notices)
    ∙ ap (λ (seen : SeenApplication). fold application_behind_item seen (map inform notices)) there
    ∙ told_all notices brought told

-- an event, with what is told of it
event_outcomes_at : (c conn : ℕ) (time : EventTime) (what : Event) (outcomes : List TraceOutcome) (there : Attendance) (notices : List ApplicationNotice)
    → outcomes_at_connection c (Occurred time conn what outcomes ∷ informed there notices) ≡ (if c == conn then outcomes else [])
event_outcomes_at c conn time what outcomes there notices =
    with_nothing (if c == conn then outcomes else []) (outcomes_at_connection c (informed there notices)) (informed_no_outcomes c there notices)

event_events_at : (c conn : ℕ) (time : EventTime) (what : Event) (outcomes : List TraceOutcome) (there : Attendance) (notices : List ApplicationNotice)
    → events_at c (Occurred time conn what outcomes ∷ informed there notices) ≡ (if c == conn then record { time = time; event = what } ∷ [] else [])
event_events_at c conn time what outcomes there notices =
    with_nothing (if c == conn then record { time = time; event = what } ∷ [] else []) (events_at c (informed there notices))
    (informed_no_events c there notices)

module _ (items : List ServiceItem) (time : EventTime) (conn : ℕ) (what : Event) (outcomes : List TraceOutcome) (there : Attendance)
    (notices : List ApplicationNotice) where
  pub event_told : octets_told_at conn (items ++ Occurred time conn what outcomes ∷ informed there notices)
      ≡ octets_told_at conn items ++ flat_map octets_of_outcome outcomes
  event_told =
      told_more_at conn items (Occurred time conn what outcomes ∷ informed there notices)
      ∙ ap (λ (os : List TraceOutcome). octets_told_at conn items ++ flat_map octets_of_outcome os)
      (event_outcomes_at conn conn time what outcomes there notices ∙ if_same conn outcomes)

  pub event_heard : octets_heard_at conn (items ++ Occurred time conn what outcomes ∷ informed there notices)
      ≡ octets_heard_at conn items ++ octets_event_brings what
  event_heard =
      heard_more_at conn items (Occurred time conn what outcomes ∷ informed there notices)
      ∙ ap (λ (xs : List EventAt). octets_heard_at conn items ++ flat_map (λ (x : EventAt). octets_event_brings x.event) xs)
      (event_events_at conn conn time what outcomes there notices ∙ if_same conn (record { time = time; event = what } ∷ []))
      ∙ ap (λ (os : List ℕ). octets_heard_at conn items ++ os) (append-nil (octets_event_brings what))

  pub event_told_others : (c : ℕ) → (c == conn) ≡ false
      → octets_told_at c (items ++ Occurred time conn what outcomes ∷ informed there notices) ≡ octets_told_at c items
  event_told_others c other =
      let none : outcomes_at_connection c (Occurred time conn what outcomes ∷ informed there notices) ≡ [] =
      event_outcomes_at c conn time what outcomes there notices ∙ rw other refl in
      told_more_at c items (Occurred time conn what outcomes ∷ informed there notices)
      ∙ with_nothing (octets_told_at c items) (octets_told_at c (Occurred time conn what outcomes ∷ informed there notices))
      (ap (flat_map octets_of_outcome) none)

  pub event_heard_others : (c : ℕ) → (c == conn) ≡ false
      → octets_heard_at c (items ++ Occurred time conn what outcomes ∷ informed there notices) ≡ octets_heard_at c items
  event_heard_others c other =
      let none : events_at c (Occurred time conn what outcomes ∷ informed there notices) ≡ [] =
      event_events_at c conn time what outcomes there notices ∙ rw other refl in
      heard_more_at c items (Occurred time conn what outcomes ∷ informed there notices)
      ∙ with_nothing (octets_heard_at c items) (octets_heard_at c (Occurred time conn what outcomes ∷ informed there notices))
      (ap (flat_map (λ (x : EventAt). octets_event_brings x.event)) none)

  pub event_events_others : (c : ℕ) → (c == conn) ≡ false
      → events_at c (items ++ Occurred time conn what outcomes ∷ informed there notices) ≡ events_at c items
  event_events_others c other =
      let none : events_at c (Occurred time conn what outcomes ∷ informed there notices) ≡ [] =
      event_events_at c conn time what outcomes there notices ∙ rw other refl in
      events_more c items (Occurred time conn what outcomes ∷ informed there notices)
      ∙ with_nothing (events_at c items) (events_at c (Occurred time conn what outcomes ∷ informed there notices)) none

  pub event_text : recording_of_service (items ++ Occurred time conn what outcomes ∷ informed there notices)
      ≡ recording_of_service items ++ text_of_item (Occurred time conn what outcomes)
  event_text =
      recording_more items (Occurred time conn what outcomes ∷ informed there notices)
      ∙ ap (λ (os : List ℕ). recording_of_service items ++ os)
      (with_nothing (text_of_item (Occurred time conn what outcomes)) (recording_of_service (informed there notices)) (informed_no_text there notices))

-- ---- what is known

-- an event changes no number
pub known_same : (c conn : ℕ) (outcomes : List TraceOutcome) (known : List KnownEnd) → is_known c (known_behind conn outcomes known) ≡ is_known c known
known_same c conn outcomes [] = refl
known_same c conn outcomes (k ∷ known) =
    let rest = known_same c conn outcomes known in
    elim (cases_Bool (k.number == conn)) [
      | inl mine ↦ rw mine (ap (λ (b : Bool). (k.number == c) || b) rest)
      | inr other ↦ rw other (ap (λ (b : Bool). (k.number == c) || b) rest)
    ]

pub numbers_same : (conn : ℕ) (outcomes : List TraceOutcome) (known : List KnownEnd) → numbers_known (known_behind conn outcomes known) ≡ numbers_known known
numbers_same conn outcomes [] = refl
numbers_same conn outcomes (k ∷ known) =
    let rest = numbers_same conn outcomes known in
    elim (cases_Bool (k.number == conn)) [
      | inl mine ↦ rw mine (ap (λ (ns : List ℕ). k.number ∷ ns) rest)
      | inr other ↦ rw other (ap (λ (ns : List ℕ). k.number ∷ ns) rest)
    ]

-- nor does what is told alone
pub known_behind_notices : (s : Service) (notices : List ApplicationNotice) → (behind_items s (map inform notices)).known ≡ s.known
unfolding behind_items
known_behind_notices s [] = refl
known_behind_notices s (notice ∷ notices) = known_behind_notices (behind_item s (Informed notice)) notices

pub known_behind_informed : (s : Service) (there : Attendance) (notices : List ApplicationNotice) → (behind_items s (informed there notices)).known ≡ s.known
known_behind_informed s Absent notices = ap (λ (x : Service). x.known) (behind_none s)
known_behind_informed s (Attached standing waiting) notices = known_behind_notices s notices

pub gone_without : (conn : ℕ) (known : List KnownEnd) → is_known conn (without_end conn known) ≡ false
gone_without conn [] = refl
gone_without conn (k ∷ known) =
    let rest = gone_without conn known in
    elim (cases_Bool (k.number == conn)) [ inl mine ↦ rw mine rest | inr other ↦ rw (other, other) rest ]

pub others_without : (c conn : ℕ) (known : List KnownEnd) → (c == conn) ≡ false → is_known c (without_end conn known) ≡ is_known c known
others_without c conn [] other = refl
others_without c conn (k ∷ known) other =
    let rest = others_without c conn known other in
    elim (cases_Bool (k.number == conn)) [
      | inl mine ↦
          let apart : (k.number == c) ≡ false =
          ne_eqb k.number c (λ is. true≢false (sym (eq-eqb c conn (sym is ∙ eqb-true k.number conn mine)) ∙ other)) in
          rw (mine, apart) rest
      | inr kept ↦ rw kept (ap (λ (b : Bool). (k.number == c) || b) rest)
    ]

-- numbers that rise from above nothing
pub none_is_zero : (known : List KnownEnd) (top : ℕ) → RiseTo 0 (numbers_known known) top → is_known 0 known ≡ false
none_is_zero known top rise = none_below known 0 top rise
  where
    above_not_zero : (n low : ℕ) → low < n → (n == 0) ≡ false
    above_not_zero n low above = ne_eqb n 0 (λ is. let e : n ≡ 0 = is in absurd (omega (arith, above, e)))

    none_below : (known : List KnownEnd) (low top : ℕ) → RiseTo low (numbers_known known) top → is_known 0 known ≡ false
    none_below [] low top rise = refl
    none_below (k ∷ known) low top rise = rw (above_not_zero k.number low rise.0) (none_below known k.number top rise.1)
