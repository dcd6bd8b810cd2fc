-- The deed of an event at a link: its lines are written; and what that leaves as it was.
use Rattle.std.proofs.Common.{◌≡◌, ◌∙◌, ℕ, Bool, true, false, if◌then◌else◌, List, [], ◌∷◌, ◌++◌, map, length, refl, sym, ap, subst, append_assoc, append-nil}
use Rattle.std.specs.List.{flat_map}
use Rattle.safety_automaton.specs.Keys.{KmacEntry}
use Rattle.er_trace.specs.declared.event.Event.{Event}
use Rattle.er_trace.specs.Outcomes.{TraceOutcome}
use Rattle.er_end_model.specs.Outcomes.{Outcome, ConnectedTo, Accepted, Taken, NothingToTake, Refused, RefusedReleased, RefusedNotConnected, RefusedLength, RefusedFull, WasReleased, Octets}
use Rattle.trace_model.specs.Printed.{trace_outcome_of}
use Rattle.loop_model.specs.Sessions.{octets_in}
use Rattle.loop_session.specs.Giving.{too_many, joined_to}
use Rattle.outside.specs.Acts.{Wrote}
use Rattle.application_port.specs.Ports.{PortState, NobodyThere, Talking, attendance_of, told_at_port}
use Rattle.application_lines.specs.Notices.{ApplicationNotice, notice_text}
use Rattle.application_model.specs.Ends.{EventTime, EventAt, texts_taken}
use Rattle.application_model.specs.Histories.{ServiceItem, Occurred, Informed}
use Rattle.application_model.specs.Services.{Attendance, Absent, Attached, Service, behind_item, behind_items, behind_event, inform, informed, connections_made, counted_up}
use Rattle.application_ends.specs.StackEnds.{HeldKeys}
use Rattle.application_ends.specs.Laws.{text_of_item, recording_of_service}
use Rattle.application_serving.specs.SeenOctets.{octets_given_to, octets_read_of, is_brought_in, is_closed_in, SeenApplication, SeenThere, application_in_acts}
use Rattle.application_serving.specs.Serving.{octets_of_outcome, octets_told_at, octets_event_brings, octets_heard_at, ServiceDeed, acts_in_service, items_in_service, greatest_moment}
use Rattle.application_serving.specs.Serving.{text_written_by_acts, application_behind_item, application_in_items}
use Rattle.application_serving.specs.OneMore.{given_to_quiet, read_of_quiet, brought_in_quiet, closed_in_quiet, event_told, event_heard, event_told_others, event_heard_others}
use Rattle.application_serving.specs.OneMore.{behind_first, application_items_more, application_told, application_quiet, moment_quiet, text_written_more, event_text}
use Rattle.application_serving.specs.Going.{ServiceRun, service_behind, held_behind}
use Rattle.application_serving.specs.GoingSteps.{deed_of, acts_one_more, items_one_more, service_one_more, held_without_file}
use Rattle.application_loop.specs.StackSteps.{StandsBehind}
use Rattle.application_loop.specs.Occurring.{CountsOn}
use Rattle.application_loop.specs.Standing.{LinkIs, IsFresh, IsAtPort, DeskIs}
use Rattle.application_loop.specs.declared.desk.Desk.{Desk}
use Rattle.application_loop.specs.declared.link.Link.{Link}
use Rattle.application_loop.proofs.LinkLists.{IsApart}

-- ---- what is told with an event changes nothing but who waits for what

pub record Keeps (s t : Service) : Type 0 where
  pub known : t.known ≡ s.known
  pub ends : (conn : ℕ) → t.ends conn ≡ s.ends conn
  pub opened : t.opened ≡ s.opened
  pub connected : t.connected ≡ s.connected
  pub messages : t.messages ≡ s.messages
  pub draining : t.draining ≡ s.draining
  pub keys : t.keys ≡ s.keys

keeps_itself : (s : Service) → Keeps s s
keeps_itself s = record { known = refl; ends = λ conn. refl; opened = refl; connected = refl; messages = refl; draining = refl; keys = refl }

told_keeps : (s : Service) (notices : List ApplicationNotice) → Keeps s (behind_items s (map inform notices))
unfolding behind_items
told_keeps s [] = keeps_itself s
told_keeps s (notice ∷ notices) =
    let rest = told_keeps (behind_item s (Informed notice)) notices in
    record {
      known = rest.known;
      ends = rest.ends;
      opened = rest.opened;
      connected = rest.connected;
      messages = rest.messages;
      draining = rest.draining;
      keys = rest.keys;
    }

pub informed_keeps : (s : Service) (there : Attendance) (notices : List ApplicationNotice) → Keeps s (behind_items s (informed there notices))
unfolding behind_items
informed_keeps s Absent notices = keeps_itself s
informed_keeps s (Attached standing waiting) notices = told_keeps s notices

-- ---- octets that an end told

pub octets_told : (outcomes : List Outcome) → flat_map octets_of_outcome (map trace_outcome_of outcomes) ≡ octets_in outcomes
octets_told [] = refl
octets_told (ConnectedTo peer ∷ outcomes) = octets_told outcomes
octets_told (Accepted message ∷ outcomes) = octets_told outcomes
octets_told (Taken message ∷ outcomes) = octets_told outcomes
octets_told (NothingToTake ∷ outcomes) = octets_told outcomes
octets_told (Refused (RefusedReleased release) ∷ outcomes) = octets_told outcomes
octets_told (Refused RefusedNotConnected ∷ outcomes) = octets_told outcomes
octets_told (Refused (RefusedLength found) ∷ outcomes) = octets_told outcomes
octets_told (Refused (RefusedFull waiting) ∷ outcomes) = octets_told outcomes
octets_told (WasReleased release ∷ outcomes) = octets_told outcomes
octets_told (Octets octets ∷ outcomes) = ap (λ (os : List ℕ). octets ++ os) (octets_told outcomes)

pub joined_where_fits : (waits octets : List ℕ) → too_many waits octets ≡ false → joined_to waits octets ≡ waits ++ octets
joined_where_fits waits octets fits = rw fits refl

-- ---- the application, behind lines that are told with an event

event_alone : (items : List ServiceItem) (item : ServiceItem) → ((seen : SeenApplication) → application_behind_item seen item ≡ seen)
    → application_in_items (items ++ item ∷ []) ≡ application_in_items items
event_alone items item none = application_items_more items (item ∷ []) ∙ none (application_in_items items)

port_then : (items : List ServiceItem) (time : EventTime) (n : ℕ) (what : Event) (outcomes : List TraceOutcome) (there : Attendance) (notices : List ApplicationNotice)
    (seen : SeenApplication) (held : List ℕ) (port : PortState) → there ≡ attendance_of port → IsAtPort seen (application_in_items items) held port
    → IsAtPort seen (application_in_items (items ++ Occurred time n what outcomes ∷ informed there notices)) held (told_at_port (flat_map notice_text notices) port)
port_then items time n what outcomes there notices seen held NobodyThere is_there at = (
  at.0,
  ap (λ (a : Attendance). application_in_items (items ++ Occurred time n what outcomes ∷ informed a notices)) is_there
      ∙ event_alone items (Occurred time n what outcomes) (λ x. refl)
      ∙ at.1,
)
port_then items time n what outcomes there notices seen held (Talking standing output) is_there at =
    record {
      brought = at.brought;
      given = at.given;
      acts = at.acts;
      items =
          ap (λ (a : Attendance). application_in_items (items ++ Occurred time n what outcomes ∷ informed a notices)) is_there
          ∙ ap application_in_items (sym (append_assoc items (Occurred time n what outcomes ∷ []) (map inform notices)))
          ∙ application_told (items ++ Occurred time n what outcomes ∷ []) notices at.brought (at.given ++ output)
          (event_alone items (Occurred time n what outcomes) (λ x. refl) ∙ at.items)
          ∙ ap (SeenThere at.brought) (append_assoc at.given output (flat_map notice_text notices));
    }

-- ---- one deed more: the lines of an event are written

module _ (run : ServiceRun) (deeds : List ServiceDeed) (piece : List ℕ) (time : EventTime) (n : ℕ) (what : Event) (outcomes : List TraceOutcome)
    (there : Attendance) (notices : List ApplicationNotice) where
  abbrev pub event_items : List ServiceItem
  event_items = Occurred time n what outcomes ∷ informed there notices

  abbrev pub event_deed : ServiceDeed
  event_deed = deed_of (Wrote piece true) event_items

  abbrev pub deeds_then : List ServiceDeed
  deeds_then = deeds ++ event_deed ∷ []

  pub acts_then : acts_in_service deeds_then ≡ acts_in_service deeds ++ Wrote piece true ∷ []
  acts_then = acts_one_more deeds event_deed

  pub items_then : items_in_service deeds_then ≡ items_in_service deeds ++ event_items
  items_then = items_one_more deeds event_deed

  pub event_keeps : Keeps (behind_event (service_behind deeds) time n what outcomes) (service_behind deeds_then)
  event_keeps =
      subst (Keeps (behind_event (service_behind deeds) time n what outcomes))
      (sym (service_one_more deeds event_deed ∙ behind_first (service_behind deeds) (Occurred time n what outcomes) (informed there notices)))
      (informed_keeps (behind_event (service_behind deeds) time n what outcomes) there notices)

  pub given_same : (c : ℕ) → octets_given_to c (acts_in_service deeds_then) ≡ octets_given_to c (acts_in_service deeds)
  given_same c = ap (octets_given_to c) acts_then ∙ given_to_quiet c (acts_in_service deeds) (Wrote piece true) refl

  pub read_same : (c : ℕ) → octets_read_of c (acts_in_service deeds_then) ≡ octets_read_of c (acts_in_service deeds)
  read_same c = ap (octets_read_of c) acts_then ∙ read_of_quiet c (acts_in_service deeds) (Wrote piece true) refl

  pub brought_same : (c : ℕ) → is_brought_in c (acts_in_service deeds_then) ≡ is_brought_in c (acts_in_service deeds)
  brought_same c = ap (is_brought_in c) acts_then ∙ brought_in_quiet c (acts_in_service deeds) (Wrote piece true) refl

  pub closed_same : (c : ℕ) → is_closed_in c (acts_in_service deeds_then) ≡ is_closed_in c (acts_in_service deeds)
  closed_same c = ap (is_closed_in c) acts_then ∙ closed_in_quiet c (acts_in_service deeds) (Wrote piece true) refl

  pub fresh_then : (c : ℕ) → IsFresh c (acts_in_service deeds) → IsFresh c (acts_in_service deeds_then)
  fresh_then c fresh = record {
    read = read_same c ∙ fresh.read;
    given = given_same c ∙ fresh.given;
    brought = brought_same c ∙ fresh.brought;
    closed = closed_same c ∙ fresh.closed;
  }

  pub held_same : (later : List (List KmacEntry)) → held_behind run deeds_then later ≡ held_behind run deeds later
  held_same later = held_without_file run deeds event_deed later refl

  -- another link
  pub other_link : (left left' : ℕ → List ℕ) (l : Link) → IsApart n l → left' l.number ≡ left l.number → LinkIs run deeds left l → LinkIs run deeds_then left' l
  other_link left left' l apart same is =
      let ends : (service_behind deeds_then).ends l.number ≡ (service_behind deeds).ends l.number =
      event_keeps.ends l.number
      ∙ ap (λ (b : Bool). if b then (service_behind deeds).ends l.number ++ record { time = time; event = what } ∷ [] else (service_behind deeds).ends l.number) apart in
      record {
        end = λ later.
            subst (λ (h : HeldKeys). StandsBehind run.settings h ((service_behind deeds_then).ends l.number) l.end.value) (sym (held_same later))
            (subst (λ (es : List EventAt). StandsBehind run.settings (held_behind run deeds later) es l.end.value) (sym ends) (is.end later));
        waits = λ whole.
            ap (octets_told_at l.number) items_then
            ∙ event_told_others (items_in_service deeds) time n what outcomes there notices l.number apart
            ∙ is.waits whole
            ∙ ap (λ (os : List ℕ). os ++ l.output.items) (sym (given_same l.number));
        heard = λ whole.
            ap (λ (os : List ℕ). os ++ left' l.number)
            (ap (octets_heard_at l.number) items_then
            ∙ event_heard_others (items_in_service deeds) time n what outcomes there notices l.number apart)
            ∙ ap (λ (os : List ℕ). octets_heard_at l.number (items_in_service deeds) ++ os) same
            ∙ is.heard whole
            ∙ sym (read_same l.number);
        brought = brought_same l.number ∙ is.brought;
      }

  -- the link at which it came: what its end told joined what waits, and what it heard isn't left
  pub this_link : (left left' : ℕ → List ℕ) (old now : Link) (os : List Outcome) → outcomes ≡ map trace_outcome_of os → old.number ≡ n → now.number ≡ n
      → now.output.items ≡ joined_to old.output.items (octets_in os)
      → (now.broken ≡ false → (old.broken ≡ false) × (too_many old.output.items (octets_in os) ≡ false))
      → left n ≡ octets_event_brings what ++ left' n
      → ((later : List (List KmacEntry))
      → StandsBehind run.settings (held_behind run deeds later) ((behind_items (service_behind deeds) event_items).ends now.number) now.end.value)
      → LinkIs run deeds left old → LinkIs run deeds_then left' now
  this_link left left' old now os are old_is now_is output unbroken leaves stands is =
      let told_n : octets_told_at n (items_in_service deeds_then) ≡ octets_told_at n (items_in_service deeds) ++ octets_in os =
      ap (octets_told_at n) items_then
      ∙ event_told (items_in_service deeds) time n what outcomes there notices
      ∙ ap (λ (x : List ℕ). octets_told_at n (items_in_service deeds) ++ x) (ap (flat_map octets_of_outcome) are ∙ octets_told os) in
      let heard_n : octets_heard_at n (items_in_service deeds_then) ≡ octets_heard_at n (items_in_service deeds) ++ octets_event_brings what =
      ap (octets_heard_at n) items_then ∙ event_heard (items_in_service deeds) time n what outcomes there notices in
      record {
        end = λ later.
            subst (λ (h : HeldKeys). StandsBehind run.settings h ((service_behind deeds_then).ends now.number) now.end.value) (sym (held_same later))
            (subst (λ (s : Service). StandsBehind run.settings (held_behind run deeds later) (s.ends now.number) now.end.value)
            (sym (service_one_more deeds event_deed)) (stands later));
        waits = λ whole.
            let u = unbroken whole in
            let was : octets_told_at n (items_in_service deeds) ≡ octets_given_to n (acts_in_service deeds) ++ old.output.items =
            subst (λ (c : ℕ). octets_told_at c (items_in_service deeds) ≡ octets_given_to c (acts_in_service deeds) ++ old.output.items) old_is (is.waits u.0) in
            subst (λ (c : ℕ). octets_told_at c (items_in_service deeds_then) ≡ octets_given_to c (acts_in_service deeds_then) ++ now.output.items) (sym now_is)
            (told_n
            ∙ ap (λ (x : List ℕ). x ++ octets_in os) was
            ∙ append_assoc (octets_given_to n (acts_in_service deeds)) old.output.items (octets_in os)
            ∙ ap (λ (x : List ℕ). octets_given_to n (acts_in_service deeds) ++ x) (sym (output ∙ joined_where_fits old.output.items (octets_in os) u.1))
            ∙ ap (λ (x : List ℕ). x ++ now.output.items) (sym (given_same n)));
        heard = λ whole.
            let u = unbroken whole in
            let was : octets_heard_at n (items_in_service deeds) ++ left n ≡ octets_read_of n (acts_in_service deeds) =
            subst (λ (c : ℕ). octets_heard_at c (items_in_service deeds) ++ left c ≡ octets_read_of c (acts_in_service deeds)) old_is (is.heard u.0) in
            subst (λ (c : ℕ). octets_heard_at c (items_in_service deeds_then) ++ left' c ≡ octets_read_of c (acts_in_service deeds_then)) (sym now_is)
            (ap (λ (x : List ℕ). x ++ left' n) heard_n
            ∙ append_assoc (octets_heard_at n (items_in_service deeds)) (octets_event_brings what) (left' n)
            ∙ ap (λ (x : List ℕ). octets_heard_at n (items_in_service deeds) ++ x) (sym leaves)
            ∙ was
            ∙ sym (read_same n));
        brought =
            subst (λ (c : ℕ). is_brought_in c (acts_in_service deeds_then) ≡ true) (sym now_is)
            (brought_same n ∙ subst (λ (c : ℕ). is_brought_in c (acts_in_service deeds) ≡ true) old_is is.brought);
      }

  -- the desk
  pub desk_then : (held : List ℕ) (desk after : Desk) (os : List Outcome) → outcomes ≡ map trace_outcome_of os
      → there ≡ attendance_of desk.port → after.port ≡ told_at_port (flat_map notice_text notices) desk.port
      → (service_behind deeds_then).application ≡ attendance_of after.port → CountsOn os desk after → DeskIs deeds held desk → DeskIs deeds_then held after
  desk_then held desk after os are is_there told attends counts is =
      record {
        application = attends;
        port =
            subst (IsAtPort (application_in_acts (acts_in_service deeds_then)) (application_in_items (items_in_service deeds_then)) held) (sym told)
            (subst (λ (x : SeenApplication). IsAtPort x (application_in_items (items_in_service deeds_then)) held (told_at_port (flat_map notice_text notices) desk.port))
            (sym (ap application_in_acts acts_then ∙ application_quiet (acts_in_service deeds) (Wrote piece true) refl))
            (subst (λ (x : List ServiceItem). IsAtPort (application_in_acts (acts_in_service deeds)) (application_in_items x) held (told_at_port (flat_map notice_text notices) desk.port))
            (sym items_then)
            (port_then (items_in_service deeds) time n what outcomes there notices (application_in_acts (acts_in_service deeds)) held desk.port is_there is.port)));
        opened = counts.opened ∙ is.opened ∙ sym event_keeps.opened;
        connected =
            counts.connected
            ∙ ap (λ (x : ℕ). counted_up x (connections_made (map trace_outcome_of os))) is.connected
            ∙ ap (λ (x : List TraceOutcome). counted_up (service_behind deeds).connected (connections_made x)) (sym are)
            ∙ sym event_keeps.connected;
        messages =
            counts.messages
            ∙ ap (λ (x : ℕ). counted_up x (length (texts_taken (map trace_outcome_of os)))) is.messages
            ∙ ap (λ (x : List TraceOutcome). counted_up (service_behind deeds).messages (length (texts_taken x))) (sym are)
            ∙ sym event_keeps.messages;
      }

  pub written_then : (header : List ℕ) → piece ≡ text_of_item (Occurred time n what outcomes)
      → text_written_by_acts (acts_in_service deeds) ≡ header ++ recording_of_service (items_in_service deeds)
      → text_written_by_acts (acts_in_service deeds_then) ≡ header ++ recording_of_service (items_in_service deeds_then)
  written_then header text is =
      ap text_written_by_acts acts_then
      ∙ text_written_more (acts_in_service deeds) (Wrote piece true ∷ [])
      ∙ ap (λ (x : List ℕ). x ++ (piece ++ [])) is
      ∙ ap (λ (x : List ℕ). (header ++ recording_of_service (items_in_service deeds)) ++ x) (append-nil piece ∙ text)
      ∙ append_assoc header (recording_of_service (items_in_service deeds)) (text_of_item (Occurred time n what outcomes))
      ∙ ap (λ (x : List ℕ). header ++ x)
      (sym (ap recording_of_service items_then ∙ event_text (items_in_service deeds) time n what outcomes there notices))

  pub moment_then : greatest_moment (acts_in_service deeds_then) ≡ greatest_moment (acts_in_service deeds)
  moment_then = ap greatest_moment acts_then ∙ moment_quiet (acts_in_service deeds) (Wrote piece true) refl
