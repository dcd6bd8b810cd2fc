-- How a happening begins at a connection, and how it ends where no message waits that could be taken.
use Rattle.std.proofs.Common.{◌≡◌, ◌∙◌, ℕ, ◌==◌, true, List, [], ◌∷◌, map, Some, Result, Ok, Err, OnOk, refl, sym, ap, subst, append-nil, eq-eqb, ◌<◌}
use Rattle.std.specs.List.{slice_get, All}
use Rattle.std.specs.Result.{IsErrAnd}
use Rattle.std.proofs.lemmas.List.{get_or-map, length-map}
use Rattle.std.proofs.lemmas.List.Folds.{list_any_at}
use Rattle.std.proofs.lemmas.Option.{slice_get_within, get_or_from_slice_get}
use Rattle.std.proofs.lemmas.List.Elements.{All-nil, All-map, All-same}
use Rattle.safety_automaton.specs.Keys.{KmacEntry}
use Rattle.er_trace.specs.declared.event.Event.{Event}
use Rattle.er_end.specs.KeptEnds.{KEnd, waiting_in}
use Rattle.loop_model.specs.Sessions.{GivenToSession, Begins, Hears, Sends, Takes, Leaves, Ticks, Ends, Faults, Stalls, journal_event_of_given}
use Rattle.loop_session.specs.Keeping.{kept_ends}
use Rattle.application_model.specs.Ends.{KnownEnd, is_known, numbers_known}
use Rattle.application_model.specs.Histories.{Came, Befalls}
use Rattle.application_model.specs.Services.{Service, has_room, came_alone, meets, occurs, takes_waiting, is_of_outside, behind_items}
use Rattle.application_ends.specs.StackEnds.{texts_waiting_at}
use Rattle.application_serving.specs.Serving.{ServiceDeed, acts_in_service, items_in_service, greatest_moment}
use Rattle.application_serving.specs.SeenOctets.{SeenApplication, application_in_acts}
use Rattle.application_serving.specs.Going.{ServiceRun, ToDo, and_then, nothing_to_do, service_behind, kind_behind, Went, ServesBy}
use Rattle.application_serving.specs.ItemDeeds.{does_befalls}
use Rattle.application_serving.specs.OneMore.{application_items_more, behind_one}
use Rattle.application_serving.specs.ModelSteps.{meets_befalls, takes_waiting_rests}
use Rattle.application_serving.specs.GoingSteps.{begins_to_meet, going_first_as, going_regrouped, going_and_nothing, going_past, deed_without_act, timely_behind}
use Rattle.application_loop.specs.Standing.{Beside, Scene, known_of_link, Standing, Serving, AtRest, Rested, LinkIs, IsAtPort}
use Rattle.application_loop.specs.ServingParts.{ServesOn, RestsOr, IsOfClock, IsWithoutOctets}
use Rattle.application_loop.specs.declared.link.Link.{Link}
use Rattle.application_loop.proofs.Asides.{AreSilent, no_act_aside, desk_aside}
use Rattle.application_loop.proofs.Telling.{goes_aside, serves_aside}

abbrev pub takes_then : ℕ → ToDo
takes_then moment kind s = takes_waiting kind moment s

abbrev pub occurs_then : ℕ → ℕ → Event → ToDo
occurs_then moment conn what kind s = occurs kind moment conn what s

-- what is left as an event befalls a connection
abbrev pub event_then_takes : ℕ → ℕ → Event → ToDo
event_then_takes moment conn what = and_then (occurs_then moment conn what) (and_then (takes_then moment) nothing_to_do)

-- ---- how it begins

same_itself : (n : ℕ) → (n == n) ≡ true
same_itself n = eq-eqb n n refl

-- a link's connection is known
pub known_at : (links : List Link) (place : ℕ) (link : Link) → slice_get links place ≡ Some link → is_known link.number (map known_of_link links) ≡ true
known_at links place link is =
    let within = slice_get_within links place link is in
    list_any_at (λ (k : KnownEnd). k.number == link.number) (map known_of_link links) place (known_of_link link)
    (subst (λ (n : ℕ). place < n) (sym (length-map links known_of_link)) within)
    (ap (λ (k : KnownEnd). k.number == link.number)
    (get_or-map known_of_link links place link (known_of_link link) within ∙ ap known_of_link (get_or_from_slice_get links place link link is))
    ∙ same_itself link.number)

befalls_silent : (s : Service) (conn : ℕ) (what : Event) → AreSilent s (Came (Befalls conn what) ∷ [])
unfolding behind_items
befalls_silent s conn what = record {
  records = refl;
  told = λ c. refl;
  heard = λ c. refl;
  ends = refl;
  known = refl;
  opened = refl;
  connected = refl;
  messages = refl;
}

pub befalls_begins : (run : ServiceRun) (beside : Beside) (x : Scene) (moment place : ℕ) (link : Link) (what : Event) → slice_get x.links place ≡ Some link
    → is_of_outside what ≡ true → AtRest run beside x → Serving run beside (event_then_takes moment link.number what) x
befalls_begins run beside x moment place link what is outside at_rest =
    let deeds = at_rest.serving.deeds in
    let stands = at_rest.serving.stands in
    let n = link.number in
    let items = Came (Befalls n what) ∷ [] in
    let known : is_known n (service_behind deeds).known ≡ true = ap (is_known n) stands.known ∙ known_at x.links place link is in
    let came : ToDo = λ kind s. came_alone (Befalls n what) s in
    let meets_it : ToDo = λ kind s. meets kind moment (Befalls n what) s in
    let first = occurs_then moment n what in
    let takes = takes_then moment in
    let silent = befalls_silent (service_behind deeds) n what in
    let same : behind_items (service_behind deeds) items ≡ service_behind deeds = behind_one (service_behind deeds) (Came (Befalls n what)) in
    let begun = begins_to_meet moment (Befalls n what) at_rest.serving.going in
    let met =
    going_first_as meets_it (and_then came first) takes begun
    (λ later. meets_befalls (kind_behind run deeds later) moment n what (service_behind deeds) outside known) in
    let on =
    desk_aside deeds (deed_without_act items) no_act_aside silent beside.held beside.held x.desk x.desk stands.desk refl refl refl
    (ap (λ (s : Service). s.application) same ∙ stands.desk.application)
    (subst (λ (a : SeenApplication). IsAtPort (application_in_acts (acts_in_service deeds)) a beside.held x.desk.port)
    (sym (application_items_more (items_in_service deeds) items)) stands.desk.port) in
    let begins : Serving run beside (and_then first takes) x =
    serves_aside came (and_then first takes) items beside x.desk
    (record { deeds = deeds; going = going_regrouped came first takes met; stands = stands })
    (record {
      done = λ later. refl;
      silent = silent;
      so = does_befalls (at_rest.serving.going.always deeds [] (sym (append-nil deeds))) stands.written n what;
      timely = timely_behind (greatest_moment (acts_in_service deeds)) (Came (Befalls n what)) [] tt (All-nil _);
      unread = refl;
    })
    (goes_aside items beside.held x.desk stands (ap (λ (s : Service). s.draining) same) (ap (λ (s : Service). s.keys) same) on) in
    record { deeds = begins.deeds; going = going_regrouped first takes nothing_to_do (going_and_nothing begins.going); stands = begins.stands }

-- ---- how it ends

-- where no message waits at an end that the code keeps, none waits at those of the model
none_waits : (run : ServiceRun) (deeds : List ServiceDeed) (left : ℕ → List ℕ) (link : Link) (later : List (List KmacEntry)) → LinkIs run deeds left link
    → waiting_in link.end.value ≡ [] → (kind_behind run deeds later).waiting ((service_behind deeds).ends link.number) ≡ []
none_waits run deeds left link later is none =
    let behind = is.end later in
    ap texts_waiting_at behind.is ∙ sym behind.stands.core.upper.waits ∙ none

pub none_known_waits : (run : ServiceRun) (beside : Beside) (x : Scene) (deeds : List ServiceDeed) (later : List (List KmacEntry)) → Standing run deeds beside x
    → Rested x → has_room (service_behind deeds).application ≡ true
    → All (λ (conn : ℕ). (kind_behind run deeds later).waiting ((service_behind deeds).ends conn) ≡ []) (numbers_known (service_behind deeds).known)
none_known_waits run beside x deeds later stands rested room =
    let Waits : ℕ → Type 0 = λ conn. (kind_behind run deeds later).waiting ((service_behind deeds).ends conn) ≡ [] in
    let none = rested (ap has_room (sym stands.desk.application) ∙ room) in
    All-same Waits (numbers_known (service_behind deeds).known) (numbers_known (map known_of_link x.links)) (ap numbers_known stands.known)
    (All-map Waits (λ (k : KnownEnd). k.number) (map known_of_link x.links)
    (All-map (λ (k : KnownEnd). Waits k.number) known_of_link x.links
    (λ place d within. none_waits run deeds beside.left _ later (stands.each place d within) (none place d within))))

pub takes_end : (run : ServiceRun) (beside : Beside) (x : Scene) (moment : ℕ) (rest : ToDo) → Rested x → Serving run beside (and_then (takes_then moment) rest) x
    → Serving run beside rest x
takes_end run beside x moment rest rested serving = record {
  deeds = serving.deeds;
  going = going_past (takes_then moment) rest serving.going
      (λ later. takes_waiting_rests (kind_behind run serving.deeds later) moment (service_behind serving.deeds)
      (none_known_waits run beside x serving.deeds later serving.stands rested));
  stands = serving.stands;
}

-- ---- both

-- a part was done to its end
pub went_on : (run : ServiceRun) (beside : Beside) (rest : ToDo) (x : Scene) → Went run x.told rest (λ deeds. Standing run deeds beside x)
    → Serving run beside rest x
went_on run beside rest x went = record { deeds = went.deeds; going = went.going; stands = went.leaves }

pub went_to_rest : (run : ServiceRun) (beside : Beside) (x : Scene) → Went run x.told nothing_to_do (λ deeds. Standing run deeds beside x) → Rested x
    → AtRest run beside x
went_to_rest run beside x went rested = record { serving = went_on run beside nothing_to_do x went; rested = rested }

-- behind an event and the takes all that came is done, or one of them broke off
pub befell : {T E : Type 0} (run : ServiceRun) (beside : Beside) (x : Scene) (result : Result T E) → ServesOn run beside nothing_to_do x result
    → OnOk result (Rested x) → RestsOr run beside x result
befell run beside x (Ok done) went rests =
    record { serving = record { deeds = went.deeds; going = went.going; stands = went.leaves }; rested = rests }
befell run beside x (Err fault) went rests = went

-- one of them broke off
pub broke_off : {T F : Type 0} (P : F → Type 0) (run : ServiceRun) (beside : Beside) (x : Scene) (result : Result T F) → IsErrAnd result P
    → ServesBy run x.told → RestsOr run beside x result
broke_off P run beside x (Ok done) broke serves = absurd broke
broke_off P run beside x (Err fault) broke serves = serves

pub part_broke_off : {T F : Type 0} (P : F → Type 0) (run : ServiceRun) (beside : Beside) (rest : ToDo) (x : Scene) (result : Result T F) → IsErrAnd result P
    → ServesBy run x.told → ServesOn run beside rest x result
part_broke_off P run beside rest x (Ok done) broke serves = absurd broke
part_broke_off P run beside rest x (Err fault) broke serves = serves

-- ---- events by the clock and the line

pub clock_without_octets : (g : GivenToSession) → IsOfClock g → IsWithoutOctets g
clock_without_octets (Begins engine rbc rb) clock = absurd clock
clock_without_octets (Hears octets) clock = absurd clock
clock_without_octets (Sends text) clock = absurd clock
clock_without_octets Takes clock = absurd clock
clock_without_octets (Leaves sub) clock = absurd clock
clock_without_octets Ticks clock = tt
clock_without_octets Ends clock = tt
clock_without_octets Faults clock = tt
clock_without_octets Stalls clock = tt

pub clock_is_outside : (k : KEnd) (g : GivenToSession) → IsOfClock g → is_of_outside (journal_event_of_given kept_ends k g) ≡ true
clock_is_outside k (Begins engine rbc rb) clock = absurd clock
clock_is_outside k (Hears octets) clock = absurd clock
clock_is_outside k (Sends text) clock = absurd clock
clock_is_outside k Takes clock = absurd clock
clock_is_outside k (Leaves sub) clock = absurd clock
clock_is_outside k Ticks clock = refl
clock_is_outside k Ends clock = refl
clock_is_outside k Faults clock = refl
clock_is_outside k Stalls clock = refl
