-- A part at the connections, or a line that is told, of a loop that stands where what was done leads.
use Rattle.std.proofs.Common.{◌≡◌, ◌∙◌, ℕ, true, false, Bool, if◌then◌else◌, List, [], ◌∷◌, map, Option, Some, None, Result, Ok, Err, refl, sym, ap, subst}
use Rattle.std.specs.Prelude.{option_map, IsErrAnd}
use Rattle.std.specs.List.{slice_get}
use Rattle.std.proofs.lemmas.Option.{slice_get-map}
use Rattle.er_end.specs.KeptEnds.{KEnd}
use Rattle.er_trace.specs.declared.event.Event.{Event}
use Rattle.loop_model.specs.Sessions.{GivenToSession, journal_event_of_given}
use Rattle.loop_session.specs.Keeping.{kept_ends}
use Rattle.outside.specs.Doings.{Told}
use Rattle.application_lines.specs.Notices.{ApplicationNotice, Gone}
use Rattle.application_model.specs.Ends.{is_known}
use Rattle.application_model.specs.Services.{informs, occurs, at_live}
use Rattle.application_serving.specs.Going.{ServiceRun, ToDo, and_then, service_behind, kind_behind, ServesBy}
use Rattle.application_serving.specs.GoingSteps.{serves_of_going, YieldsSame, going_first_as}
use Rattle.application_loop.specs.Standing.{Beside, Scene, scene, known_of_link, number_of_link, Serving}
use Rattle.application_loop.specs.ServingParts.{DoesPart, ServesOn}
use Rattle.safety_automaton.specs.Keys.{key_at}
use Rattle.application_loop.specs.Living.{entries_for_service, scene_of_live, accepts_more, Living, LivingOr, RestingOr}
use Rattle.application_loop.specs.Telling.{DeskTells}
use Rattle.application_loop.specs.declared.link.Link.{Link}
use Rattle.application_loop.specs.declared.live_service.LiveService.{LiveService}
use Rattle.application_loop.specs.declared.service_keys.ServiceKeys.{ServiceKeys}
use Rattle.application_loop.proofs.Happenings.{known_at}
use Rattle.application_loop.proofs.Telling.{tells_notice}

-- what a part at the connections leaves of the loop
pub record KeepsBeside (old now : LiveService) : Type 0 where
  pub keys : now.keys ≡ old.keys
  pub held : now.speaker.held.items ≡ old.speaker.held.items
  pub moment : now.moment ≡ old.moment
  pub draining : now.draining ≡ old.draining
  pub calls : now.calls ≡ old.calls

pub keeps_itself : (live : LiveService) → KeepsBeside live live
keeps_itself live = record { keys = refl; held = refl; moment = refl; draining = refl; calls = refl }

pub living_serves : {run : ServiceRun} {told : Told} {rest : ToDo} {live : LiveService} → Living run told rest live → ServesBy run told
living_serves living = serves_of_going living.serving.going

-- the same stands beside
pub living_beside : {run : ServiceRun} {told told' : Told} {rest rest' : ToDo} {old now : LiveService} (living : Living run told rest old) → KeepsBeside old now
    → Serving run living.beside rest' (scene_of_live told' now) → Living run told' rest' now
living_beside {old = old} {now = now} living keeps serving = record {
  beside = living.beside;
  serving = serving;
  moment = living.moment ∙ sym keeps.moment;
  finds = living.finds ∙ ap (λ (keys : ServiceKeys). key_at (entries_for_service keys)) (sym keeps.keys);
  held = living.held ∙ sym keeps.held;
  draining = living.draining ∙ sym keeps.draining;
  accepts =
      living.accepts
      ∙ ap (λ (d : Bool). accepts_more d old.calls) (sym keeps.draining)
      ∙ ap (λ (c : Bool). accepts_more now.draining c) (sym keeps.calls);
  left = living.left;
}

pub serving_first_as : {run : ServiceRun} {beside : Beside} {x : Scene} (first first' rest : ToDo) (serving : Serving run beside (and_then first rest) x)
    → YieldsSame run serving.deeds first first' → Serving run beside (and_then first' rest) x
serving_first_as first first' rest serving same = record {
  deeds = serving.deeds;
  going = going_first_as first first' rest serving.going same;
  stands = serving.stands;
}

-- ---- a part that broke off

pub living_broke_off : {T F : Type 0} {run : ServiceRun} (P : F → Type 0) (told : Told) (rest : ToDo) (live : LiveService) (result : Result T F)
    → IsErrAnd result P → ServesBy run told → LivingOr run told rest live result
living_broke_off P told rest live (Ok done) broke serves = absurd broke
living_broke_off P told rest live (Err fault) broke serves = serves

pub resting_broke_off : {T F : Type 0} {run : ServiceRun} (P : F → Type 0) (told : Told) (live : LiveService) (result : Result T F) → IsErrAnd result P
    → ServesBy run told → RestingOr run told live result
resting_broke_off P told live (Ok done) broke serves = absurd broke
resting_broke_off P told live (Err fault) broke serves = serves

-- ---- a part at the connections

lives_on : {T E : Type 0} {run : ServiceRun} {told : Told} {rest' : ToDo} {old : LiveService} (told' : Told) (rest : ToDo) (now : LiveService)
    (result : Result T E) (living : Living run told rest' old) → KeepsBeside old now → ServesOn run living.beside rest (scene_of_live told' now) result
    → LivingOr run told' rest now result
lives_on told' rest now (Ok done) living keeps went =
    living_beside living keeps (record { deeds = went.deeds; going = went.going; stands = went.leaves })
lives_on told' rest now (Err fault) living keeps serves = serves

pub lives_by_part : {T E : Type 0} {run : ServiceRun} {told : Told} {old : LiveService} (told' : Told) (now : LiveService) (what rest : ToDo) (moment : ℕ)
    (result : Result T E) → moment ≡ old.moment → DoesPart what moment (scene_of_live told old) (scene_of_live told' now) result → KeepsBeside old now
    → Living run told (and_then what rest) old → LivingOr run told' rest now result
lives_by_part {run = run} told' now what rest moment result at does keeps living =
    lives_on told' rest now result living keeps (does run living.beside rest (living.moment ∙ sym at) living.serving)

-- ---- an event at a connection that is live

linked : (conn : ℕ) (at : Option Link) → option_map number_of_link at ≡ Some conn → (link : Link) × (at ≡ Some link) × (link.number ≡ conn)
linked conn None is = absurd (let none : None ≡ Some conn = is in cc)
linked conn (Some link) is = (link, refl, let some : Some link.number ≡ Some conn = is in cc)

pub link_at : (links : List Link) (place conn : ℕ) → slice_get (map number_of_link links) place ≡ Some conn
    → (link : Link) × (slice_get links place ≡ Some link) × (link.number ≡ conn)
link_at links place conn is = linked conn (slice_get links place) (sym (slice_get-map number_of_link links place) ∙ is)

pub lives_at_live : {T E : Type 0} {run : ServiceRun} {told : Told} {old : LiveService} (told' : Told) (now : LiveService) (rest : ToDo)
    (place conn moment : ℕ) (what : Event) (g : GivenToSession) (result : Result T E) → slice_get (map number_of_link old.links.list.items) place ≡ Some conn
    → ((k : KEnd) → journal_event_of_given kept_ends k g ≡ what) → moment ≡ old.moment
    → ((link : Link) → slice_get old.links.list.items place ≡ Some link
    → DoesPart (λ kind s. occurs kind moment link.number (journal_event_of_given kept_ends link.end.value g) s) moment (scene_of_live told old)
    (scene_of_live told' now) result)
    → KeepsBeside old now → Living run told (and_then (λ kind s. at_live kind old.moment conn what s) rest) old → LivingOr run told' rest now result
lives_at_live {run = run} {told = told} {old = old} told' now rest place conn moment what g result found gives at does keeps living =
    let (link, is, number) = link_at old.links.list.items place conn found in
    let event : Event = journal_event_of_given kept_ends link.end.value g in
    let live : ToDo = λ kind s. at_live kind old.moment conn what s in
    let occurs_there : ToDo = λ kind s. occurs kind moment link.number event s in
    let deeds = living.serving.deeds in
    let known : is_known conn (service_behind deeds).known ≡ true =
    ap (is_known conn) living.serving.stands.known
    ∙ subst (λ (c : ℕ). is_known c (map known_of_link old.links.list.items) ≡ true) number (known_at old.links.list.items place link is) in
    let same : YieldsSame run deeds live occurs_there = λ later.
    ap (λ (b : Bool). if b then occurs (kind_behind run deeds later) old.moment conn what (service_behind deeds) else informs (Gone conn ∷ []) (service_behind deeds))
    known
    ∙ ap (λ (m : ℕ). occurs (kind_behind run deeds later) m conn what (service_behind deeds)) (sym at)
    ∙ ap (λ (c : ℕ). occurs (kind_behind run deeds later) moment c what (service_behind deeds)) (sym number)
    ∙ ap (λ (e : Event). occurs (kind_behind run deeds later) moment link.number e (service_behind deeds)) (sym (gives link.end.value)) in
    lives_by_part told' now occurs_there rest moment result at (does link is) keeps
    (living_beside living (keeps_itself old) (serving_first_as live occurs_there rest living.serving same))

-- ---- a line that is told

pub lives_by_notice : {run : ServiceRun} {told : Told} {old now : LiveService} (rest : ToDo) (notice : ApplicationNotice) → DeskTells notice old.desk now.desk
    → now.links.list.items ≡ old.links.list.items → KeepsBeside old now → Living run told (and_then (λ kind s. informs (notice ∷ []) s) rest) old
    → Living run told rest now
lives_by_notice {run = run} {told = told} {now = now} rest notice tells links keeps living =
    living_beside living keeps
    (subst (λ (l : List Link). Serving run living.beside rest (scene told l now.desk)) (sym links)
    (tells_notice rest notice now.desk tells.port tells.opened tells.connected tells.messages living.serving))

pub lives_by_gone : {run : ServiceRun} {told : Told} {old now : LiveService} (rest : ToDo) (conn : ℕ) (what : Event)
    → is_known conn (map known_of_link old.links.list.items) ≡ false → DeskTells (Gone conn) old.desk now.desk
    → now.links.list.items ≡ old.links.list.items → KeepsBeside old now
    → Living run told (and_then (λ kind s. at_live kind old.moment conn what s) rest) old → Living run told rest now
lives_by_gone {run = run} {old = old} rest conn what unknown tells links keeps living =
    let deeds = living.serving.deeds in
    let live : ToDo = λ kind s. at_live kind old.moment conn what s in
    let gone : ToDo = λ kind s. informs (Gone conn ∷ []) s in
    let same : YieldsSame run deeds live gone = λ later.
    ap (λ (b : Bool). if b then occurs (kind_behind run deeds later) old.moment conn what (service_behind deeds) else informs (Gone conn ∷ []) (service_behind deeds))
    (ap (is_known conn) living.serving.stands.known ∙ unknown) in
    lives_by_notice rest (Gone conn) tells links keeps
    (living_beside living (keeps_itself old) (serving_first_as live gone rest living.serving same))
