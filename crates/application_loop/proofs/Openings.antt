-- A connection is opened by an event: what the model does then, and what is left of it.
use Rattle.std.proofs.Common.{◌≡◌, ◌∙◌, ◌+◌, ℕ, Bool, true, false, List, [], ◌∷◌, ◌++◌, refl, sym, ap, append-nil}
use Rattle.safety_automaton.specs.Keys.{KmacEntry}
use Rattle.er_trace.specs.declared.event.Event.{Event}
use Rattle.er_trace.specs.Outcomes.{TraceOutcome}
use Rattle.outside.specs.Acts.{Wrote}
use Rattle.outside.specs.Doings.{Told, Did}
use Rattle.application_model.specs.Ends.{EventTime, EventAt, EndKind}
use Rattle.application_model.specs.Lines.{notices_of_event}
use Rattle.application_model.specs.Histories.{ServiceItem, Came, Opens, Occurred}
use Rattle.application_model.specs.Services.{Absent, behind_items, one_then, informed, came_alone, is_of_outside, occurs, meets}
use Rattle.application_model.specs.Claims.{IsBeginning}
use Rattle.application_ends.specs.Laws.{text_of_item}
use Rattle.application_serving.specs.SeenOctets.{octets_read_of, is_closed_in}
use Rattle.application_serving.specs.Serving.{ServiceDeed, acts_in_service, items_in_service, greatest_moment, octets_heard_at, octets_event_brings}
use Rattle.application_serving.specs.Going.{ServiceRun, ToDo, and_then, nothing_to_do, service_behind, kind_behind, Going}
use Rattle.application_serving.specs.ActDeeds.{does_opened}
use Rattle.application_serving.specs.ModelSteps.{meets_opens}
use Rattle.application_serving.specs.GoingSteps.{deed_of, begins_to_meet, going_first_as, going_by_act, going_and_nothing, going_regrouped, event_is_timely, timely_behind}
use Rattle.application_loop.specs.Standing.{Beside, Scene, scene, Standing, Serving}
use Rattle.application_loop.specs.Turning.{IsNewcomer}
use Rattle.application_loop.specs.declared.link.Link.{Link}
use Rattle.application_loop.specs.declared.desk.Desk.{Desk}
use Rattle.application_loop.proofs.Happenings.{takes_then}
use Rattle.application_loop.proofs.StandingOpens.{CountsOpening, IsOpened, items_of_opening, stands_opened}

-- a connection that came is to be opened by this event, of which these outcomes come
pub record OpensBy (run : ServiceRun) (deeds : List ServiceDeed) (beside : Beside) (conn : ℕ) (piece : List ℕ) (what : Event) (outcomes : List TraceOutcome)
    : Type 0 where
  pub next : conn ≡ beside.opened + 1
  pub draining : beside.draining ≡ false
  pub outside : is_of_outside what ≡ true
  pub brings : octets_event_brings what ≡ []
  pub tells : (later : List (List KmacEntry)) → (kind_behind run deeds later).tells [] (record { moment = beside.moment; keys = beside.keys }) what ≡ outcomes
  pub silent : informed (service_behind deeds).application (notices_of_event conn what outcomes) ≡ []
  pub text : piece ≡ text_of_item (Occurred (record { moment = beside.moment; keys = beside.keys }) conn what outcomes)
  pub newcomer : IsNewcomer conn deeds

module _ (run : ServiceRun) (deeds : List ServiceDeed) (beside : Beside) (x : Scene) (stands : Standing run deeds beside x) (conn : ℕ) (piece : List ℕ)
    (what : Event) (outcomes : List TraceOutcome) (opens : OpensBy run deeds beside conn piece what outcomes) where
  abbrev pub time : EventTime
  time = record { moment = beside.moment; keys = beside.keys }

  abbrev came : ToDo
  came kind s = came_alone (Opens what) s

  abbrev first : ToDo
  first kind s = meets kind beside.moment (Opens what) s

  abbrev occurs_next : ToDo
  occurs_next kind s = occurs kind beside.moment ((service_behind deeds).opened + 1) what s

  count : (service_behind deeds).opened + 1 ≡ conn
  count = ap (λ (n : ℕ). n + 1) stands.opened ∙ sym opens.next

  same_time : {A : Type 0} (f : EventTime → A) → f (record { moment = beside.moment; keys = (service_behind deeds).keys }) ≡ f time
  same_time {A} f = ap (λ (k : ℕ). f (record { moment = beside.moment; keys = k })) stands.keys

  yields : (kind : EndKind) → kind.tells [] time what ≡ outcomes
      → one_then (came kind) (occurs_next kind) (service_behind deeds) ≡ items_of_opening conn time what outcomes
  unfolding one_then behind_items
  yields kind tells =
      let s = service_behind deeds in
      let f : EventTime → ℕ → List TraceOutcome → List ServiceItem =
      λ t n os. Came (Opens what) ∷ Occurred t n what os ∷ informed s.application (notices_of_event n what os) in
      ap (λ (n : ℕ). f (record { moment = beside.moment; keys = s.keys }) n (kind.tells (s.ends n) (record { moment = beside.moment; keys = s.keys }) what)) count
      ∙ same_time (λ (t : EventTime). f t conn (kind.tells (s.ends conn) t what))
      ∙ ap (f time conn) (ap (λ (e : List EventAt). kind.tells e time what) opens.newcomer.ends ∙ tells)
      ∙ ap (λ (l : List ServiceItem). Came (Opens what) ∷ Occurred time conn what outcomes ∷ l) opens.silent

  pub going_opened : (told : Told) → Going run x.told deeds (λ kind s. []) → Did x.told told (Wrote piece true ∷ [])
      → Going run told (deeds ++ deed_of (Wrote piece true) (items_of_opening conn time what outcomes) ∷ []) (and_then (takes_then beside.moment) nothing_to_do)
  going_opened told going did =
      let s = service_behind deeds in
      let acts = acts_in_service deeds in
      let takes = takes_then beside.moment in
      let begun = going_regrouped first takes nothing_to_do (going_and_nothing (begins_to_meet beside.moment (Opens what) going)) in
      let met =
      going_first_as first (and_then came occurs_next) (and_then takes nothing_to_do) begun
      (λ later. meets_opens (kind_behind run deeds later) beside.moment what s opens.outside (stands.draining ∙ opens.draining)) in
      let heard : octets_heard_at conn (items_in_service deeds) ++ octets_event_brings what ≡ [] =
      ap (λ (o : List ℕ). o ++ octets_event_brings what) opens.newcomer.heard ∙ opens.brings in
      let hears : IsBeginning (octets_heard_at conn (items_in_service deeds) ++ octets_event_brings what) (octets_read_of conn acts) =
      record { rest = []; is = opens.newcomer.read ∙ sym (append-nil (octets_heard_at conn (items_in_service deeds) ++ octets_event_brings what) ∙ heard) } in
      let so =
      does_opened (going.always deeds [] (sym (append-nil deeds))) stands.written piece time conn what outcomes Absent [] what opens.text opens.newcomer.brought
      (ap (λ (n : ℕ). is_closed_in n acts) count ∙ opens.newcomer.closed) hears in
      let timely =
      timely_behind (greatest_moment acts) (Came (Opens what)) (Occurred time conn what outcomes ∷ []) tt
      (event_is_timely (greatest_moment acts) time conn what outcomes Absent [] (sym stands.moment)) in
      going_by_act (and_then came occurs_next) (and_then takes nothing_to_do) (Wrote piece true) (items_of_opening conn time what outcomes) met did refl
      (λ later. yields (kind_behind run deeds later) (opens.tells later)) so timely refl

-- behind it the end stands with the others, and the messages that wait are to be taken
pub serves_opened : (run : ServiceRun) (beside : Beside) (x : Scene) (serving : Serving run beside (λ kind s. []) x) (conn : ℕ) (piece : List ℕ) (what : Event)
    (outcomes : List TraceOutcome) (told : Told) (link : Link) (desk : Desk) (accepts : Bool)
    → OpensBy run serving.deeds beside conn piece what outcomes → Did x.told told (Wrote piece true ∷ []) → conn ≡ beside.numbered
    → IsOpened run serving.deeds conn (record { moment = beside.moment; keys = beside.keys }) what outcomes link → beside.left conn ≡ []
    → CountsOpening outcomes x.desk desk
    → Serving run (record beside { opened = conn; accepts = accepts }) (and_then (takes_then beside.moment) nothing_to_do) (scene told (x.links ++ link ∷ []) desk)
serves_opened run beside x serving conn piece what outcomes told link desk accepts opens did number opened none counts =
    let deeds = serving.deeds in
    let time : EventTime = record { moment = beside.moment; keys = beside.keys } in
    record {
      deeds = deeds ++ deed_of (Wrote piece true) (items_of_opening conn time what outcomes) ∷ [];
      going = going_opened run deeds beside x serving.stands conn piece what outcomes opens told serving.going did;
      stands =
          stands_opened run deeds beside x serving.stands conn piece time what outcomes opens.next told link desk accepts did.wires.opened number opens.text opened
          opens.newcomer opens.brings none counts;
    }
