-- A connection that gets no end: it is opened by an event that says so, and closed.
use Rattle.std.proofs.Common.{arith, ◌≡◌, ◌∙◌, ◌<◌, ◌≤◌, ◌==◌, ◌+◌, ℕ, Bool, true, false, List, [], ◌∷◌, ◌++◌, length, slice_index_or, map, refl, sym, ap, subst, append-nil}
use Rattle.std.specs.List.{All}
use Rattle.std.proofs.lemmas.List.Elements.{All-nil, All-map, All-same, All-push}
use Rattle.er_base.specs.LineTexts.{line_text}
use Rattle.safety_automaton.specs.Keys.{KmacEntry}
use Rattle.er_settings.specs.Values.{Settings}
use Rattle.er_trace.specs.declared.event.Event.TheVariants as event
use Rattle.er_trace.specs.Texts.{header_words}
use Rattle.er_end.specs.KeptEnds.{waiting_in}
use Rattle.outside.specs.Acts.{Wrote, Called, Closed}
use Rattle.outside.specs.Doings.{Told, Did}
use Rattle.application_model.specs.Ends.{SettingUp, KnownEnd, EventTime, EventAt, numbers_known, without_end}
use Rattle.application_model.specs.Claims.{RiseTo}
use Rattle.application_model.specs.Histories.{Came, Opens, Closes}
use Rattle.application_model.specs.Services.{Service, service_behind_happening, behind_event, has_room, came_alone, meets}
use Rattle.application_port.specs.Ports.{PortState, attendance_of}
use Rattle.application_ends.specs.StackEnds.{HeldKeys, texts_waiting_at, stack_end_behind, stack_kind}
use Rattle.application_ends.specs.Laws.{recording_of_service}
use Rattle.application_serving.specs.Serving.{ServiceDeed, acts_in_service, items_in_service, greatest_moment, text_written_by_acts}
use Rattle.application_serving.specs.Going.{ServiceRun, ToDo, and_then, nothing_to_do, service_behind, held_behind, kind_behind, Going}
use Rattle.application_serving.specs.ActDeeds.{does_closed}
use Rattle.application_serving.specs.ModelSteps.{meets_closes, takes_waiting_rests}
use Rattle.application_serving.specs.GoingSteps.{deed_of, begins_to_meet, going_first_as, going_by_act, going_and_nothing, going_regrouped, going_past, timely_behind}
use Rattle.application_loop.specs.Standing.{Beside, Scene, scene, Standing, Serving, Rested, AtRest, LinkIs, known_of_link, number_of_link}
use Rattle.application_loop.specs.declared.link.Link.{Link}
use Rattle.application_loop.specs.declared.desk.Desk.{Desk}
use Rattle.application_loop.proofs.Happenings.{takes_then, takes_end}
use Rattle.application_loop.proofs.StandingOpens.{CountsOpening, items_of_opening, apart_from, fresh_still, desk_opened, written_on, same_held, service_is, above}
use Rattle.application_loop.proofs.StandingOpens.{moment_opened, link_beside, known_behind_opening, ends_opened}
use Rattle.application_loop.proofs.StandingCloses.{known_but_last, closed_service, closed_held, closed_recorded, closed_written, closed_moment, closed_link}
use Rattle.application_loop.proofs.StandingCloses.{closed_fresh, closed_desk}
use Rattle.application_loop.proofs.Openings.{OpensBy, going_opened}

rises_to_more : (low top most : ℕ) (ns : List ℕ) → RiseTo low ns top → top ≤ most → RiseTo low ns most
rises_to_more low top most [] rise more = omega (arith, rise, more)
rises_to_more low top most (n ∷ ns) rise more = (rise.0, rises_to_more n top most ns rise.1 more)

-- at a connection without an end no message waits
none_at_full : (settings : Settings) (held : HeldKeys) (time : EventTime) (count : ℕ)
    → (stack_kind settings held).waiting (record { time = time; event = event.Full count } ∷ []) ≡ []
unfolding stack_end_behind
none_at_full settings held time count = refl

none_waits_at : (run : ServiceRun) (deeds : List ServiceDeed) (left : ℕ → List ℕ) (link : Link) (later : List (List KmacEntry)) → LinkIs run deeds left link
    → waiting_in link.end.value ≡ [] → (kind_behind run deeds later).waiting ((service_behind deeds).ends link.number) ≡ []
none_waits_at run deeds left link later is none =
    let behind = is.end later in
    ap texts_waiting_at behind.is ∙ sym behind.stands.core.upper.waits ∙ none

module _ (run : ServiceRun) (beside : Beside) (x : Scene) (serving : Serving run beside (λ kind s. []) x) (rested : Rested x) (conn : ℕ) (piece : List ℕ) (live : ℕ)
    (opens : OpensBy run serving.deeds beside conn piece (event.Full live) []) (between told : Told) (desk : Desk)
    (counts : CountsOpening [] x.desk desk) (wrote : Did x.told between (Wrote piece true ∷ [])) (closed : Did between told (Called (Closed conn) ∷ []))
    (number : conn ≡ beside.numbered) (accepts : Bool) where
  abbrev time : EventTime
  time = record { moment = beside.moment; keys = beside.keys }

  abbrev deeds : List ServiceDeed
  deeds = serving.deeds

  abbrev opened : List ServiceDeed
  opened = deeds ++ deed_of (Wrote piece true) (items_of_opening conn time (event.Full live) []) ∷ []

  abbrev all : List ServiceDeed
  all = opened ++ deed_of (Called (Closed conn)) (Came (Closes conn) ∷ []) ∷ []

  stands : Standing run deeds beside x
  stands = serving.stands

  apart : All (λ (l : Link). (l.number == conn) ≡ false) x.links
  apart = apart_from 0 beside.opened conn x.links stands.rise (above run deeds beside x stands conn piece time (event.Full live) [] opens.next)

  some : 0 < conn
  some = let next = opens.next in omega (arith, next)

  link_there : (i : ℕ) (d : Link) → (within : i < length x.links) → LinkIs run opened beside.left (slice_index_or x.links i d)
  link_there i d within =
      link_beside run deeds beside x stands conn piece time (event.Full live) [] opens.next _ (apart i d within) (stands.each i d within)

  known_there : (service_behind opened).known ≡ map known_of_link x.links ++ record { number = conn; stage = SettingUp } ∷ []
  known_there = known_behind_opening run deeds beside x stands conn piece time (event.Full live) [] opens.next

  service_there : service_behind opened
      ≡ behind_event (service_behind_happening (service_behind deeds) (Opens (event.Full live))) time conn (event.Full live) []
  service_there = service_is run deeds beside x stands conn piece time (event.Full live) [] opens.next

  none_there : (later : List (List KmacEntry)) → has_room (service_behind opened).application ≡ true
      → All (λ (c : ℕ). (kind_behind run opened later).waiting ((service_behind opened).ends c) ≡ []) (numbers_known (service_behind opened).known)
  none_there later room =
      let Waits : ℕ → Type 0 = λ c. (kind_behind run opened later).waiting ((service_behind opened).ends c) ≡ [] in
      let new : KnownEnd = record { number = conn; stage = SettingUp } in
      let there : has_room (attendance_of x.desk.port) ≡ true =
      ap has_room (sym stands.desk.application) ∙ ap (λ (s : Service). has_room s.application) (sym service_there) ∙ room in
      let none = rested there in
      let last : Waits conn =
      ap (λ (e : List EventAt). (kind_behind run opened later).waiting e)
      (ends_opened run deeds beside x stands conn piece time (event.Full live) [] opens.next opens.newcomer.ends)
      ∙ none_at_full run.settings (held_behind run opened later) time live in
      All-same Waits (numbers_known (service_behind opened).known) (numbers_known (map known_of_link x.links ++ new ∷ [])) (ap numbers_known known_there)
      (All-map Waits (λ (k : KnownEnd). k.number) (map known_of_link x.links ++ new ∷ [])
      (All-push (λ (k : KnownEnd). Waits k.number) (map known_of_link x.links) new
      (All-map (λ (k : KnownEnd). Waits k.number) known_of_link x.links
      (λ i d within. none_waits_at run opened beside.left _ later (link_there i d within) (none i d within)))
      last))

  written_there : text_written_by_acts (acts_in_service opened) ≡ line_text (header_words run.settings) ++ recording_of_service (items_in_service opened)
  written_there = written_on run deeds beside x stands conn piece time (event.Full live) [] opens.next opens.text

  going_closed : Going run told all (and_then (takes_then beside.moment) nothing_to_do)
  going_closed =
      let takes = takes_then beside.moment in
      let meets_it : ToDo = λ kind s. meets kind beside.moment (Closes conn) s in
      let alone : ToDo = λ kind s. came_alone (Closes conn) s in
      let going = going_opened run deeds beside x stands conn piece (event.Full live) [] opens between serving.going wrote in
      let past =
      going_past takes nothing_to_do going
      (λ later. takes_waiting_rests (kind_behind run opened later) beside.moment (service_behind opened) (none_there later)) in
      let begun = going_regrouped meets_it takes nothing_to_do (going_and_nothing (begins_to_meet beside.moment (Closes conn) past)) in
      let met =
      going_first_as meets_it alone (and_then takes nothing_to_do) begun
      (λ later. meets_closes (kind_behind run opened later) beside.moment conn (service_behind opened)) in
      let so = does_closed (past.always opened [] (sym (append-nil opened))) written_there conn some in
      going_by_act alone (and_then takes nothing_to_do) (Called (Closed conn)) (Came (Closes conn) ∷ []) met closed refl (λ later. refl) so
      (timely_behind (greatest_moment (acts_in_service opened)) (Came (Closes conn)) [] tt (All-nil _)) refl

  stands_closed : Standing run all (record beside { opened = conn; accepts = accepts }) (scene told x.links desk)
  stands_closed = let next = opens.next in record {
    each = λ i d within. closed_link run opened conn beside.left _ (link_there i d within);
    known =
        ap (λ (s : Service). s.known) (closed_service run opened conn)
        ∙ ap (without_end conn) known_there
        ∙ known_but_last conn SettingUp x.links apart;
    rise = let up : beside.opened ≤ conn = omega (arith, next) in rises_to_more 0 beside.opened conn (map number_of_link x.links) stands.rise up;
    below = λ accepting. number;
    fresh = λ c beyond.
        closed_fresh run opened conn c (subst (λ (n : ℕ). n < c) (sym number) beyond)
        (fresh_still run deeds beside x stands conn piece time (event.Full live) [] opens.next c (stands.fresh c beyond));
    desk =
        closed_desk run opened conn beside.held desk some
        (desk_opened run deeds beside x stands conn piece time (event.Full live) [] opens.next desk counts);
    written =
        closed_written run opened conn
        ∙ written_there
        ∙ ap (λ (t : List ℕ). line_text (header_words run.settings) ++ t) (sym (closed_recorded run opened conn));
    moment = closed_moment run opened conn ∙ moment_opened run deeds beside x stands conn piece time (event.Full live) [] opens.next;
    finds = λ later.
        ap (λ (h : HeldKeys). h beside.keys)
        (closed_held run opened conn later ∙ same_held run deeds beside x stands conn piece time (event.Full live) [] opens.next later)
        ∙ stands.finds later;
    keys = ap (λ (s : Service). s.keys) (closed_service run opened conn) ∙ ap (λ (s : Service). s.keys) service_there ∙ stands.keys;
    draining = ap (λ (s : Service). s.draining) (closed_service run opened conn) ∙ ap (λ (s : Service). s.draining) service_there ∙ stands.draining;
    opened =
        ap (λ (s : Service). s.opened) (closed_service run opened conn)
        ∙ ap (λ (s : Service). s.opened) service_there
        ∙ ap (λ (n : ℕ). n + 1) stands.opened
        ∙ sym next;
    numbered = closed.wires.opened ∙ wrote.wires.opened ∙ stands.numbered;
  }

  pub turned_away : AtRest run (record beside { opened = conn; accepts = accepts }) (scene told x.links desk)
  turned_away =
      let still : Rested (scene told x.links desk) = λ room. rested (ap (λ (p : PortState). has_room (attendance_of p)) (sym counts.port) ∙ room) in
      record {
        serving =
            takes_end run (record beside { opened = conn; accepts = accepts }) (scene told x.links desk) beside.moment nothing_to_do still
            (record { deeds = all; going = going_closed; stands = stands_closed });
        rested = still;
      }
