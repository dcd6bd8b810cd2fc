-- Behind writes to the application it is left to take messages: it took octets, or it departed.
use Rattle.std.proofs.Common.{◌≡◌, ◌∙◌, ◌+◌, ◌-◌, ℕ, List, [], ◌∷◌, ◌++◌, length, arith, refl, sym, ap, subst, append-nil, append_assoc}
use Rattle.std.specs.Prelude.{Result, OnOk}
use Rattle.std.proofs.lemmas.Bool.{ne_eqb}
use Rattle.std.proofs.lemmas.List.{length-append}
use Rattle.std.proofs.lemmas.List.Elements.{All-nil}
use Rattle.er_base.specs.LineTexts.{line_text}
use Rattle.er_trace.specs.Texts.{header_words}
use Rattle.outside.specs.Acts.{Called, Closed}
use Rattle.outside.specs.Doings.{Told, Did}
use Rattle.application_model.specs.Histories.{Came, Takes, ServiceItem}
use Rattle.application_model.specs.Services.{Service, Attached, behind_items, meets, octets_taken_by}
use Rattle.application_port.specs.Ports.{PortState, NobodyThere, Talking, attendance_of, output_of}
use Rattle.application_ends.specs.Laws.{recording_of_service}
use Rattle.application_serving.specs.SeenOctets.{SeenThere, application_in_acts}
use Rattle.application_serving.specs.Serving.{ServiceDeed, acts_in_service, items_in_service, application_in_items, text_written_by_acts, greatest_moment, IsAtMoment}
use Rattle.application_serving.specs.Going.{ServiceRun, ToDo, and_then, service_behind, kind_behind}
use Rattle.application_serving.specs.OneMore.{application_items_more, behind_one}
use Rattle.application_serving.specs.ItemDeeds.{does_takes}
use Rattle.application_serving.specs.ModelSteps.{meets_takes}
use Rattle.application_serving.specs.GoingSteps.{deed_without_act, acts_without_act, items_one_more, service_one_more, begins_to_meet, going_by_items, going_and_nothing, timely_behind}
use Rattle.application_loop.specs.Writing.{WritesFrom, IsWrittenFrom}
use Rattle.application_loop.specs.Living.{scene_of_live, Living, Resting, RestingOr}
use Rattle.application_loop.specs.ServingParts.{DoesPart}
use Rattle.application_loop.specs.Standing.{Beside, Scene, scene, IsTalking, IsAtPort, Serving, Rested}
use Rattle.application_loop.specs.declared.desk.Desk.{Desk}
use Rattle.application_loop.specs.declared.live_service.LiveService.{LiveService}
use Rattle.application_loop.proofs.ActServing.{IsSilent, GoesAside, aside_items, aside_then, desk_on, standing_aside}
use Rattle.application_loop.proofs.Departing.{nobody_at, departs_behind}
use Rattle.application_loop.proofs.Happenings.{takes_then, befell}
use Rattle.application_loop.proofs.LivingParts.{beside_live, living_of, besides_same, resting_of}
use Rattle.application_loop.proofs.Sending.{SendsTo, SentToApplication, application_sent_all}

abbrev pub talking_at : Desk → PortState → Desk
talking_at desk port = record desk { port = port }

takes_silent : (s : Service) (count : ℕ) → IsSilent s (deed_without_act (Came (Takes count) ∷ []))
unfolding behind_items
takes_silent s count = record {
  told = λ conn. refl;
  heard = λ conn. refl;
  records = refl;
  keeps = refl;
  files = refl;
  text = refl;
  brings = λ conn. refl;
}

-- writes to the application are at no connection
aside_sends : {deeds more : List ServiceDeed} → SendsTo 0 deeds more → GoesAside deeds more
aside_sends sends = record {
  adds = sends.adds;
  given = λ conn above. sends.given conn (ne_eqb 0 conn (λ is. let e : 0 ≡ conn = is in absurd (omega (arith, above, e))));
  read = λ conn above. sends.read conn;
  closed = λ conn above. sends.closed conn;
}

left_over : (took new old : List ℕ) → took ++ new ≡ old → length old - length took ≡ length new
left_over took new old is =
    let split : length took + length new ≡ length old = sym (length-append took new) ∙ ap length is in
    omega (arith, split)

-- the application that is there, and what was written to it
module _ {run : ServiceRun} {beside : Beside} {x : Scene} (serving : Serving run beside (λ kind s. []) x) (standing : _) (old : List ℕ)
    (port : x.desk.port ≡ Talking standing old) where
  talking : IsTalking (application_in_acts (acts_in_service serving.deeds)) (application_in_items (items_in_service serving.deeds)) beside.held old
  talking =
      subst (IsAtPort (application_in_acts (acts_in_service serving.deeds)) (application_in_items (items_in_service serving.deeds)) beside.held) port
      serving.stands.desk.port

  sent : (now : Told) (new : List ℕ) → WritesFrom 0 x.told now old new
      → SentToApplication run (λ kind s. []) serving.deeds x.told now (talking.brought ++ beside.held) talking.given old new
  sent now new w =
      application_sent_all run (λ kind s. []) serving.deeds x.told (talking.brought ++ beside.held) talking.brought talking.given old serving.going talking.acts
      talking.items w.answers now new w.wrote

  -- it took some of what waited
  pub takes_behind : (now : Told) (new : List ℕ) (moment : ℕ) → WritesFrom 0 x.told now old new
      → Serving run beside (and_then (takes_then moment) (λ kind s. [])) (scene now x.links (talking_at x.desk (Talking standing new)))
  takes_behind now new moment w =
      let p = sent now new w in
      let talk = talking in
      let count = length p.took in
      let items : List ServiceItem = Came (Takes count) ∷ [] in
      let acts = acts_in_service p.more in
      let deed = deed_without_act items in
      let s = service_behind p.more in
      let met : ToDo = λ kind s'. meets kind moment (Takes count) s' in
      let stands = serving.stands in
      let aside = aside_sends p.sends in
      let recorded : text_written_by_acts acts ≡ line_text (header_words run.settings) ++ recording_of_service (items_in_service p.more) =
      aside.adds.written ∙ stands.written ∙ ap (λ (t : List ℕ). line_text (header_words run.settings) ++ t) (sym aside.adds.recorded) in
      let so = does_takes (p.going.always p.more [] (sym (append-nil p.more))) recorded count in
      let on = going_by_items met (takes_then moment) items (begins_to_meet moment (Takes count) p.going)
      (λ later. meets_takes (kind_behind run p.more later) moment count s) so
      (timely_behind (greatest_moment acts) (Came (Takes count)) [] tt (All-nil (IsAtMoment (greatest_moment acts)))) refl in
      let goes = aside_then aside (aside_items p.more items (takes_silent s count)) in
      let behind : service_behind (p.more ++ deed ∷ []) ≡ record s { application = octets_taken_by count s.application } =
      service_one_more p.more deed ∙ behind_one s (Came (Takes count)) in
      let attends : (service_behind (p.more ++ deed ∷ [])).application ≡ attendance_of (Talking standing new) =
      ap (λ (t : Service). t.application) behind
      ∙ ap (octets_taken_by count) (ap (λ (t : Service). t.application) p.sends.service ∙ stands.desk.application ∙ ap attendance_of port)
      ∙ ap (Attached standing) (left_over p.took new old p.front) in
      let now_at : IsAtPort (application_in_acts (acts_in_service (p.more ++ deed ∷ []))) (application_in_items (items_in_service (p.more ++ deed ∷ [])))
      beside.held (Talking standing new) = record {
        brought = talk.brought;
        given = talk.given ++ p.took;
        acts = ap application_in_acts (acts_without_act p.more items) ∙ p.seen;
        items =
            ap application_in_items (items_one_more p.more deed)
            ∙ application_items_more (items_in_service p.more) items
            ∙ ap application_in_items p.sends.items
            ∙ talk.items
            ∙ ap (λ (o : List ℕ). SeenThere talk.brought (talk.given ++ o)) (sym p.front)
            ∙ ap (SeenThere talk.brought) (sym (append_assoc talk.given p.took new));
      } in
      record {
        deeds = p.more ++ deed ∷ [];
        going = going_and_nothing on;
        stands = standing_aside goes stands beside.moment beside.held now (talking_at x.desk (Talking standing new))
            (ap (λ (t : Service). t.known) behind ∙ ap (λ (t : Service). t.known) p.sends.service)
            (desk_on goes.adds beside.held beside.held x.desk (talking_at x.desk (Talking standing new)) stands.desk attends now_at refl refl refl)
            (ap greatest_moment (acts_without_act p.more items) ∙ p.sends.moment ∙ stands.moment) p.wires;
      }

  -- a write failed, and it departed
  pub fails_behind : (then now : Told) (new : List ℕ) (moment : ℕ) → WritesFrom 0 x.told then old new → Did then now (Called (Closed 0) ∷ [])
      → Serving run beside (and_then (takes_then moment) (λ kind s. [])) (scene now x.links (nobody_at x.desk))
  fails_behind then now new moment w did =
      let p = sent then new w in
      departs_behind then now moment beside.held serving.stands (aside_sends p.sends) (ap (λ (t : Service). t.known) p.sends.service)
      (p.sends.moment ∙ serving.stands.moment) p.wires p.going did

-- ---- a loop that is at rest

record WasTalking (old now : PortState) : Type 0 where
  standing : _
  before : old ≡ Talking standing (output_of old)
  behind : now ≡ Talking standing (output_of now)

was_talking : (old now : PortState) → IsWrittenFrom old now → (output_of old ≡ [] → ⊥) → WasTalking old now
was_talking NobodyThere now is some = absurd (some refl)
was_talking (Talking standing output) now is some = record { standing = standing; before = refl; behind = is }

-- it took some of what waited
pub lives_written : {run : ServiceRun} {told : Told} {live : LiveService} (now : Told) (other : LiveService) (port : PortState) → Resting run told live
    → (output_of live.desk.port ≡ [] → ⊥) → WritesFrom 0 told now (output_of live.desk.port) (output_of port) → IsWrittenFrom live.desk.port port
    → other ≡ record live { desk = talking_at live.desk port; speaker = other.speaker } → other.speaker.held.items ≡ live.speaker.held.items
    → Living run now (and_then (takes_then live.moment) (λ kind s. [])) other
lives_written {run} {told} {live} now other port rests some writes written is held =
    let living = rests.living in
    let t = was_talking live.desk.port port written some in
    let served = takes_behind living.serving t.standing (output_of live.desk.port) t.before now (output_of port) live.moment writes in
    living_of now (and_then (takes_then live.moment) (λ kind s. [])) other living.beside
    (besides_same living.beside live other (beside_live living) held (ap (λ (l : LiveService). l.keys) is) (ap (λ (l : LiveService). l.moment) is)
    (ap (λ (l : LiveService). l.draining) is) (ap (λ (l : LiveService). l.calls) is))
    (subst (λ (l : LiveService). Serving run living.beside (and_then (takes_then live.moment) (λ kind s. [])) (scene_of_live now l)) (sym is)
    (subst
    (λ (p : PortState). Serving run living.beside (and_then (takes_then live.moment) (λ kind s. [])) (scene now live.links.list.items (talking_at live.desk p)))
    (sym t.behind) served))

-- a write failed
pub lives_departed : {run : ServiceRun} {told : Told} {live : LiveService} (then now : Told) (other : LiveService) (port : PortState) → Resting run told live
    → (output_of live.desk.port ≡ [] → ⊥) → WritesFrom 0 told then (output_of live.desk.port) (output_of port) → IsWrittenFrom live.desk.port port
    → Did then now (Called (Closed 0) ∷ []) → other ≡ record live { desk = nobody_at live.desk }
    → Living run now (and_then (takes_then live.moment) (λ kind s. [])) other
lives_departed {run} {told} {live} then now other port rests some writes written did is =
    let living = rests.living in
    let t = was_talking live.desk.port port written some in
    let served = fails_behind living.serving t.standing (output_of live.desk.port) t.before then now (output_of port) live.moment writes did in
    living_of now (and_then (takes_then live.moment) (λ kind s. [])) other living.beside
    (besides_same living.beside live other (beside_live living) (ap (λ (l : LiveService). l.speaker.held.items) is) (ap (λ (l : LiveService). l.keys) is)
    (ap (λ (l : LiveService). l.moment) is) (ap (λ (l : LiveService). l.draining) is) (ap (λ (l : LiveService). l.calls) is))
    (subst (λ (l : LiveService). Serving run living.beside (and_then (takes_then live.moment) (λ kind s. [])) (scene_of_live now l)) (sym is) served)

-- the messages are taken that were left to be taken
pub rests_behind_takes : {T E : Type 0} {run : ServiceRun} (told now : Told) (live other : LiveService) (moment : ℕ) (result : Result T E)
    → Living run told (and_then (takes_then moment) (λ kind s. [])) live → live.moment ≡ moment
    → DoesPart (takes_then moment) moment (scene_of_live told live) (scene_of_live now other) result → OnOk result (Rested (scene_of_live now other))
    → other ≡ record live { links = other.links; desk = other.desk } → RestingOr run now other result
rests_behind_takes {run = run} told now live other moment result living at does rests is =
    let beside = living.beside in
    resting_of run now other beside result
    (besides_same beside live other (beside_live living) (ap (λ (l : LiveService). l.speaker.held.items) is) (ap (λ (l : LiveService). l.keys) is)
    (ap (λ (l : LiveService). l.moment) is) (ap (λ (l : LiveService). l.draining) is) (ap (λ (l : LiveService). l.calls) is))
    (befell run beside (scene_of_live now other) result (does run beside (λ kind s. []) (living.moment ∙ at) living.serving) rests)
