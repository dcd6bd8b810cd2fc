-- A connection is opened by an event that tells the application nothing: its end joins those that stand.
use Rattle.std.proofs.Common.{arith, ◌≡◌, ◌∙◌, ◌<◌, ◌≤◌, ◌+◌, ◌==◌, ℕ, Bool, true, false, if◌then◌else◌, List, [], ◌∷◌, ◌++◌, length, map, refl, sym, ap, subst, append-nil, append_assoc, eq-eqb}
use Rattle.std.specs.List.{All, flat_map}
use Rattle.std.proofs.lemmas.Bool.{ne_eqb}
use Rattle.std.proofs.lemmas.List.{map-append}
use Rattle.std.proofs.lemmas.List.Elements.{All-nil, All-cons, All-push}
use Rattle.er_base.specs.LineTexts.{line_text}
use Rattle.safety_automaton.specs.Keys.{KmacEntry}
use Rattle.er_trace.specs.declared.event.Event.{Event}
use Rattle.er_trace.specs.Outcomes.{TraceOutcome}
use Rattle.er_trace.specs.Texts.{header_words}
use Rattle.outside.specs.Acts.{Wrote}
use Rattle.outside.specs.Doings.{Told}
use Rattle.application_model.specs.Ends.{SettingUp, KnownEnd, EventTime, EventAt, learning, end_stage_behind}
use Rattle.application_model.specs.Claims.{RiseTo}
use Rattle.application_model.specs.Histories.{ServiceItem, Came, Opens, Occurred}
use Rattle.application_model.specs.Services.{Absent, Service, service_behind_happening, behind_event, behind_items, connections_made, counted_up}
use Rattle.application_model.specs.Ends.{texts_taken}
use Rattle.application_port.specs.Ports.{PortState, attendance_of}
use Rattle.application_ends.specs.StackEnds.{HeldKeys}
use Rattle.application_ends.specs.Laws.{text_of_item, recording_of_service}
use Rattle.application_serving.specs.SeenOctets.{SeenApplication, octets_given_to, octets_read_of, is_brought_in, is_closed_in, application_in_acts}
use Rattle.application_serving.specs.Serving.{ServiceDeed, acts_in_service, items_in_service, greatest_moment, text_written_by_acts, octets_of_outcome}
use Rattle.application_serving.specs.Serving.{application_in_items, octets_told_at, octets_heard_at, octets_event_brings}
use Rattle.application_serving.specs.Going.{ServiceRun, service_behind, held_behind}
use Rattle.application_serving.specs.OneMore.{given_to_quiet, read_of_quiet, brought_in_quiet, closed_in_quiet, text_written_more, application_quiet, moment_quiet}
use Rattle.application_serving.specs.OneMore.{told_more_at, heard_more_at, recording_more, event_told, event_heard, event_told_others, event_heard_others, event_text, application_items_more}
use Rattle.application_serving.specs.GoingSteps.{deed_of, acts_one_more, items_one_more, service_one_more, held_without_file}
use Rattle.application_loop.specs.StackSteps.{StandsBehind}
use Rattle.application_loop.specs.Standing.{Beside, Scene, scene, IsFresh, LinkIs, IsAtPort, DeskIs, Standing, known_of_link, number_of_link}
use Rattle.application_loop.specs.Turning.{IsNewcomer}
use Rattle.application_loop.specs.declared.link.Link.{Link}
use Rattle.application_loop.specs.declared.desk.Desk.{Desk}

-- ---- numbers that rise

rises_on : (low top n : ℕ) (ns : List ℕ) → RiseTo low ns top → top < n → RiseTo low (ns ++ n ∷ []) n
rises_on low top n [] rise above = let first : low < n = omega (arith, rise, above) in let last : n ≤ n = omega arith in (first, last)
rises_on low top n (m ∷ ns) rise above = (rise.0, rises_on m top n ns rise.1 above)

first_below : (low n top : ℕ) (ns : List ℕ) → RiseTo n ns top → n ≤ top
first_below low n top [] rise = rise
first_below low n top (m ∷ ns) rise = let next = first_below n m top ns rise.1 in let less = rise.0 in omega (arith, less, next)

pub apart_from : (low top conn : ℕ) (links : List Link) → RiseTo low (map number_of_link links) top → top < conn
    → All (λ (l : Link). (l.number == conn) ≡ false) links
apart_from low top conn [] rise above = All-nil _
apart_from low top conn (link ∷ links) rise above =
    let most = first_below low link.number top (map number_of_link links) rise.1 in
    let less : link.number < conn = omega (arith, most, above) in
    All-cons (λ (l : Link). (l.number == conn) ≡ false) link links
    (ne_eqb link.number conn (λ same. let e : link.number ≡ conn = same in omega (arith, less, e))) (apart_from link.number top conn links rise.1 above)

-- what is known of others stays
untouched : (low top conn : ℕ) (outcomes : List TraceOutcome) (links : List Link) → RiseTo low (map number_of_link links) top → top < conn
    → map (learning conn outcomes) (map known_of_link links) ≡ map known_of_link links
untouched low top conn outcomes [] rise above = refl
untouched low top conn outcomes (link ∷ links) rise above =
    let most = first_below low link.number top (map number_of_link links) rise.1 in
    let less : link.number < conn = omega (arith, most, above) in
    let other : (link.number == conn) ≡ false = ne_eqb link.number conn (λ same. let e : link.number ≡ conn = same in omega (arith, less, e)) in
    ap (λ (k : KnownEnd). k ∷ map (learning conn outcomes) (map known_of_link links))
    (ap (λ (b : Bool). if b then record (known_of_link link) { stage = end_stage_behind (known_of_link link).stage outcomes } else known_of_link link) other)
    ∙ ap (λ (ks : List KnownEnd). known_of_link link ∷ ks) (untouched link.number top conn outcomes links rise.1 above)

-- ---- a connection is opened

-- the desk counts it, and its application is told nothing
pub record CountsOpening (outcomes : List TraceOutcome) (old now : Desk) : Type 0 where
  pub port : now.port ≡ old.port
  pub opened : now.opened ≡ old.opened + 1
  pub connected : now.connected ≡ counted_up old.connected (connections_made outcomes)
  pub messages : now.messages ≡ counted_up old.messages (length (texts_taken outcomes))

-- the end that was opened, and the octets that it told
pub record IsOpened (run : ServiceRun) (deeds : List ServiceDeed) (conn : ℕ) (time : EventTime) (what : Event) (outcomes : List TraceOutcome) (link : Link)
    : Type 0 where
  pub number : link.number ≡ conn
  pub end : (later : List (List KmacEntry))
      → StandsBehind run.settings (held_behind run deeds later) (record { time = time; event = what } ∷ []) link.end.value
  pub output : link.broken ≡ false → link.output.items ≡ flat_map octets_of_outcome outcomes
  pub known : known_of_link link ≡ record { number = conn; stage = end_stage_behind SettingUp outcomes }

-- as `LinkIs`, of the link of this number
record LinkAt (run : ServiceRun) (deeds : List ServiceDeed) (left : ℕ → List ℕ) (n : ℕ) (link : Link) : Type 0 where
  pub end : (later : List (List KmacEntry)) → StandsBehind run.settings (held_behind run deeds later) ((service_behind deeds).ends n) link.end.value
  pub waits : link.broken ≡ false → octets_told_at n (items_in_service deeds) ≡ octets_given_to n (acts_in_service deeds) ++ link.output.items
  pub heard : octets_heard_at n (items_in_service deeds) ++ left n ≡ octets_read_of n (acts_in_service deeds)
  pub brought : is_brought_in n (acts_in_service deeds) ≡ true

abbrev pub items_of_opening : ℕ → EventTime → Event → List TraceOutcome → List ServiceItem
items_of_opening conn time what outcomes = Came (Opens what) ∷ Occurred time conn what outcomes ∷ []

module _ (run : ServiceRun) (deeds : List ServiceDeed) (beside : Beside) (x : Scene) (stands : Standing run deeds beside x)
    (conn : ℕ) (piece : List ℕ) (time : EventTime) (what : Event) (outcomes : List TraceOutcome) (next : conn ≡ beside.opened + 1) where
  abbrev pub opening : ServiceDeed
  opening = deed_of (Wrote piece true) (items_of_opening conn time what outcomes)

  abbrev pub more : List ServiceDeed
  more = deeds ++ opening ∷ []

  abbrev behind : Service
  behind = behind_event (service_behind_happening (service_behind deeds) (Opens what)) time conn what outcomes

  pub more_acts : acts_in_service more ≡ acts_in_service deeds ++ Wrote piece true ∷ []
  more_acts = acts_one_more deeds opening

  more_items : items_in_service more ≡ items_in_service deeds ++ items_of_opening conn time what outcomes
  more_items = items_one_more deeds opening

  -- as one item behind the other
  items_apart : items_in_service more ≡ (items_in_service deeds ++ Came (Opens what) ∷ []) ++ Occurred time conn what outcomes ∷ []
  items_apart = more_items ∙ sym (append_assoc (items_in_service deeds) (Came (Opens what) ∷ []) (Occurred time conn what outcomes ∷ []))

  pub service_is : service_behind more ≡ behind
  unfolding behind_items
  service_is = service_one_more deeds opening

  pub same_held : (later : List (List KmacEntry)) → held_behind run more later ≡ held_behind run deeds later
  same_held later = held_without_file run deeds opening later refl

  pub above : beside.opened < conn
  above = omega (arith, next)

  -- what acts show
  same_given : (c : ℕ) → octets_given_to c (acts_in_service more) ≡ octets_given_to c (acts_in_service deeds)
  same_given c = ap (octets_given_to c) more_acts ∙ given_to_quiet c (acts_in_service deeds) (Wrote piece true) refl

  same_read : (c : ℕ) → octets_read_of c (acts_in_service more) ≡ octets_read_of c (acts_in_service deeds)
  same_read c = ap (octets_read_of c) more_acts ∙ read_of_quiet c (acts_in_service deeds) (Wrote piece true) refl

  same_brought : (c : ℕ) → is_brought_in c (acts_in_service more) ≡ is_brought_in c (acts_in_service deeds)
  same_brought c = ap (is_brought_in c) more_acts ∙ brought_in_quiet c (acts_in_service deeds) (Wrote piece true) refl

  same_closed : (c : ℕ) → is_closed_in c (acts_in_service more) ≡ is_closed_in c (acts_in_service deeds)
  same_closed c = ap (is_closed_in c) more_acts ∙ closed_in_quiet c (acts_in_service deeds) (Wrote piece true) refl

  same_seen : application_in_acts (acts_in_service more) ≡ application_in_acts (acts_in_service deeds)
  same_seen = ap application_in_acts more_acts ∙ application_quiet (acts_in_service deeds) (Wrote piece true) refl

  -- what items show
  came_told : (c : ℕ) → octets_told_at c (items_in_service deeds ++ Came (Opens what) ∷ []) ≡ octets_told_at c (items_in_service deeds)
  came_told c = told_more_at c (items_in_service deeds) (Came (Opens what) ∷ []) ∙ append-nil (octets_told_at c (items_in_service deeds))

  came_heard : (c : ℕ) → octets_heard_at c (items_in_service deeds ++ Came (Opens what) ∷ []) ≡ octets_heard_at c (items_in_service deeds)
  came_heard c = heard_more_at c (items_in_service deeds) (Came (Opens what) ∷ []) ∙ append-nil (octets_heard_at c (items_in_service deeds))

  told_others : (c : ℕ) → (c == conn) ≡ false → octets_told_at c (items_in_service more) ≡ octets_told_at c (items_in_service deeds)
  told_others c other =
      ap (octets_told_at c) items_apart
      ∙ event_told_others (items_in_service deeds ++ Came (Opens what) ∷ []) time conn what outcomes Absent [] c other
      ∙ came_told c

  heard_others : (c : ℕ) → (c == conn) ≡ false → octets_heard_at c (items_in_service more) ≡ octets_heard_at c (items_in_service deeds)
  heard_others c other =
      ap (octets_heard_at c) items_apart
      ∙ event_heard_others (items_in_service deeds ++ Came (Opens what) ∷ []) time conn what outcomes Absent [] c other
      ∙ came_heard c

  told_there : octets_told_at conn (items_in_service more) ≡ octets_told_at conn (items_in_service deeds) ++ flat_map octets_of_outcome outcomes
  told_there =
      ap (octets_told_at conn) items_apart
      ∙ event_told (items_in_service deeds ++ Came (Opens what) ∷ []) time conn what outcomes Absent []
      ∙ ap (λ (o : List ℕ). o ++ flat_map octets_of_outcome outcomes) (came_told conn)

  heard_there : octets_heard_at conn (items_in_service more) ≡ octets_heard_at conn (items_in_service deeds) ++ octets_event_brings what
  heard_there =
      ap (octets_heard_at conn) items_apart
      ∙ event_heard (items_in_service deeds ++ Came (Opens what) ∷ []) time conn what outcomes Absent []
      ∙ ap (λ (o : List ℕ). o ++ octets_event_brings what) (came_heard conn)

  recorded : recording_of_service (items_in_service more) ≡ recording_of_service (items_in_service deeds) ++ text_of_item (Occurred time conn what outcomes)
  recorded =
      ap recording_of_service items_apart
      ∙ event_text (items_in_service deeds ++ Came (Opens what) ∷ []) time conn what outcomes Absent []
      ∙ ap (λ (t : List ℕ). t ++ text_of_item (Occurred time conn what outcomes))
      (recording_more (items_in_service deeds) (Came (Opens what) ∷ []) ∙ append-nil (recording_of_service (items_in_service deeds)))

  -- another link
  pub link_beside : (link : Link) → (link.number == conn) ≡ false → LinkIs run deeds beside.left link → LinkIs run more beside.left link
  link_beside link other is = let n = link.number in record {
    end = λ later.
        subst (λ (h : HeldKeys). StandsBehind run.settings h ((service_behind more).ends n) link.end.value) (sym (same_held later))
        (subst (λ (s : Service). StandsBehind run.settings (held_behind run deeds later) (s.ends n) link.end.value) (sym service_is)
        (subst (λ (b : Bool). StandsBehind run.settings (held_behind run deeds later)
        (if b then (service_behind deeds).ends n ++ record { time = time; event = what } ∷ [] else (service_behind deeds).ends n) link.end.value)
        (sym other) (is.end later)));
    waits = λ whole. told_others n other ∙ is.waits whole ∙ ap (λ (o : List ℕ). o ++ link.output.items) (sym (same_given n));
    heard = λ whole. ap (λ (o : List ℕ). o ++ beside.left n) (heard_others n other) ∙ is.heard whole ∙ sym (same_read n);
    brought = same_brought n ∙ is.brought;
  }

  -- what came at the end
  pub ends_opened : (service_behind deeds).ends conn ≡ [] → (service_behind more).ends conn ≡ record { time = time; event = what } ∷ []
  ends_opened none =
      ap (λ (s : Service). s.ends conn) service_is
      ∙ ap (λ (b : Bool). if b then (service_behind deeds).ends conn ++ record { time = time; event = what } ∷ [] else (service_behind deeds).ends conn)
      (eq-eqb conn conn refl)
      ∙ ap (λ (e : List EventAt). e ++ record { time = time; event = what } ∷ []) none

  -- the new one
  link_opened : (link : Link) → IsOpened run deeds conn time what outcomes link → IsNewcomer conn deeds → octets_event_brings what ≡ [] → beside.left conn ≡ []
      → LinkIs run more beside.left link
  link_opened link opened newcomer brings none =
      let is : LinkAt run more beside.left conn link = record {
        end = λ later.
            subst (λ (h : HeldKeys). StandsBehind run.settings h ((service_behind more).ends conn) link.end.value) (sym (same_held later))
            (subst (λ (e : List EventAt). StandsBehind run.settings (held_behind run deeds later) e link.end.value) (sym (ends_opened newcomer.ends))
            (opened.end later));
        waits = λ whole.
            told_there
            ∙ ap (λ (o : List ℕ). o ++ flat_map octets_of_outcome outcomes) newcomer.told
            ∙ sym (opened.output whole)
            ∙ ap (λ (o : List ℕ). o ++ link.output.items) (sym (same_given conn ∙ newcomer.given));
        heard =
            ap (λ (o : List ℕ). octets_heard_at conn (items_in_service more) ++ o) none
            ∙ append-nil (octets_heard_at conn (items_in_service more))
            ∙ heard_there
            ∙ ap (λ (o : List ℕ). o ++ octets_event_brings what) newcomer.heard
            ∙ brings
            ∙ sym (same_read conn ∙ newcomer.read);
        brought = same_brought conn ∙ newcomer.brought;
      } in
      let here : LinkAt run more beside.left link.number link = subst (λ (n : ℕ). LinkAt run more beside.left n link) (sym opened.number) is in
      record { end = here.end; waits = here.waits; heard = λ whole. here.heard; brought = here.brought }

  pub known_behind_opening : (service_behind more).known ≡ map known_of_link x.links ++ record { number = conn; stage = end_stage_behind SettingUp outcomes } ∷ []
  known_behind_opening =
      let count : (service_behind deeds).opened + 1 ≡ conn = ap (λ (n : ℕ). n + 1) stands.opened ∙ sym next in
      let new : KnownEnd = record { number = conn; stage = SettingUp } in
      ap (λ (s : Service). s.known) service_is
      ∙ ap (λ (n : ℕ). map (learning conn outcomes) ((service_behind deeds).known ++ record { number = n; stage = SettingUp } ∷ [])) count
      ∙ ap (λ (ks : List KnownEnd). map (learning conn outcomes) (ks ++ new ∷ [])) stands.known
      ∙ map-append (learning conn outcomes) (map known_of_link x.links) (new ∷ [])
      ∙ ap (λ (ks : List KnownEnd). ks ++ learning conn outcomes new ∷ []) (untouched 0 beside.opened conn outcomes x.links stands.rise above)
      ∙ ap (λ (k : KnownEnd). map known_of_link x.links ++ k ∷ [])
      (ap (λ (b : Bool). if b then record { number = conn; stage = end_stage_behind SettingUp outcomes } else new) (eq-eqb conn conn refl))

  known_opened : (link : Link) → IsOpened run deeds conn time what outcomes link
      → (service_behind more).known ≡ map known_of_link (x.links ++ link ∷ [])
  known_opened link opened =
      known_behind_opening
      ∙ ap (λ (k : KnownEnd). map known_of_link x.links ++ k ∷ []) (sym opened.known)
      ∙ sym (map-append known_of_link x.links (link ∷ []))

  pub desk_opened : (desk : Desk) → CountsOpening outcomes x.desk desk → DeskIs more beside.held desk
  desk_opened desk counts = record {
    application = ap (λ (s : Service). s.application) service_is ∙ stands.desk.application ∙ ap attendance_of (sym counts.port);
    port =
        subst (λ (seen : SeenApplication). IsAtPort seen (application_in_items (items_in_service more)) beside.held desk.port) (sym same_seen)
        (subst (λ (told : SeenApplication). IsAtPort (application_in_acts (acts_in_service deeds)) told beside.held desk.port)
        (sym (ap application_in_items more_items ∙ application_items_more (items_in_service deeds) (items_of_opening conn time what outcomes)))
        (subst (λ (p : PortState). IsAtPort (application_in_acts (acts_in_service deeds)) (application_in_items (items_in_service deeds)) beside.held p)
        (sym counts.port) stands.desk.port));
    opened = counts.opened ∙ ap (λ (n : ℕ). n + 1) stands.desk.opened ∙ ap (λ (s : Service). s.opened) (sym service_is);
    connected =
        counts.connected
        ∙ ap (λ (n : ℕ). counted_up n (connections_made outcomes)) stands.desk.connected
        ∙ ap (λ (s : Service). s.connected) (sym service_is);
    messages =
        counts.messages
        ∙ ap (λ (n : ℕ). counted_up n (length (texts_taken outcomes))) stands.desk.messages
        ∙ ap (λ (s : Service). s.messages) (sym service_is);
  }

  pub fresh_still : (c : ℕ) → IsFresh c (acts_in_service deeds) → IsFresh c (acts_in_service more)
  fresh_still c is = record {
    read = same_read c ∙ is.read;
    given = same_given c ∙ is.given;
    brought = same_brought c ∙ is.brought;
    closed = same_closed c ∙ is.closed;
  }

  pub written_on : piece ≡ text_of_item (Occurred time conn what outcomes)
      → text_written_by_acts (acts_in_service more) ≡ line_text (header_words run.settings) ++ recording_of_service (items_in_service more)
  written_on text =
      ap text_written_by_acts more_acts
      ∙ text_written_more (acts_in_service deeds) (Wrote piece true ∷ [])
      ∙ ap (λ (t : List ℕ). text_written_by_acts (acts_in_service deeds) ++ t) (append-nil piece ∙ text)
      ∙ ap (λ (t : List ℕ). t ++ text_of_item (Occurred time conn what outcomes)) stands.written
      ∙ append_assoc (line_text (header_words run.settings)) (recording_of_service (items_in_service deeds)) (text_of_item (Occurred time conn what outcomes))
      ∙ ap (λ (t : List ℕ). line_text (header_words run.settings) ++ t) (sym recorded)

  pub moment_opened : greatest_moment (acts_in_service more) ≡ beside.moment
  moment_opened = ap greatest_moment more_acts ∙ moment_quiet (acts_in_service deeds) (Wrote piece true) refl ∙ stands.moment

  pub stands_opened : (told : Told) (link : Link) (desk : Desk) (accepts : Bool) → told.wires.opened ≡ x.told.wires.opened → conn ≡ beside.numbered
      → piece ≡ text_of_item (Occurred time conn what outcomes) → IsOpened run deeds conn time what outcomes link → IsNewcomer conn deeds
      → octets_event_brings what ≡ [] → beside.left conn ≡ [] → CountsOpening outcomes x.desk desk
      → Standing run more (record beside { opened = conn; accepts = accepts }) (scene told (x.links ++ link ∷ []) desk)
  stands_opened told link desk accepts wires number text opened newcomer brings none counts =
      let apart = apart_from 0 beside.opened conn x.links stands.rise above in
      record {
        each =
            All-push (LinkIs run more beside.left) x.links link
            (λ i d within. link_beside _ (apart i d within) (stands.each i d within))
            (link_opened link opened newcomer brings none);
        known = known_opened link opened;
        rise =
            subst (λ (ns : List ℕ). RiseTo 0 ns conn) (sym (map-append number_of_link x.links (link ∷ [])))
            (subst (λ (n : ℕ). RiseTo 0 (map number_of_link x.links ++ n ∷ []) conn) (sym opened.number)
            (rises_on 0 beside.opened conn (map number_of_link x.links) stands.rise above));
        below = λ accepting. number;
        fresh = λ c beyond. fresh_still c (stands.fresh c beyond);
        desk = desk_opened desk counts;
        written = written_on text;
        moment = moment_opened;
        finds = λ later. ap (λ (h : HeldKeys). h beside.keys) (same_held later) ∙ stands.finds later;
        keys = ap (λ (s : Service). s.keys) service_is ∙ stands.keys;
        draining = ap (λ (s : Service). s.draining) service_is ∙ stands.draining;
        opened = ap (λ (s : Service). s.opened) service_is ∙ ap (λ (n : ℕ). n + 1) stands.opened ∙ sym next;
        numbered = wires ∙ stands.numbered;
      }
