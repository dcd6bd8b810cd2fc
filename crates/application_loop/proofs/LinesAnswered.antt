-- A line of the application is answered, and then the messages that wait are taken; and one by which nothing more is accepted.
use Rattle.std.proofs.Common.{◌≡◌, ◌∙◌, ℕ, true, false, [], ◌∷◌, ◌++◌, Result, Ok, Err, refl, sym, ap, subst, append-nil}
use Rattle.std.specs.Prelude.{OnOk}
use Rattle.std.proofs.lemmas.List.Elements.{All-nil}
use Rattle.outside.specs.Doings.{Told}
use Rattle.application_lines.specs.declared.application_line.ApplicationLine.{ApplicationLine}
use Rattle.application_lines.specs.declared.application_line.ApplicationLine.TheVariants.{Asks}
use Rattle.application_lines.specs.declared.request.Request.TheVariants.{Drain}
use Rattle.application_model.specs.Ends.{numbers_unparted}
use Rattle.application_model.specs.Histories.{LineRead}
use Rattle.application_model.specs.Services.{Service, behind_items, is_attached, reads, reads_line, releases_all}
use Rattle.application_port.specs.Ports.{attendance_of}
use Rattle.application_ends.specs.StackEnds.{HeldKeys}
use Rattle.application_serving.specs.SeenOctets.{SeenApplication, application_in_acts}
use Rattle.application_serving.specs.Serving.{acts_in_service, items_in_service, greatest_moment, IsAtMoment}
use Rattle.application_serving.specs.Going.{ServiceRun, ToDo, and_then, nothing_to_do, service_behind, kind_behind, Going}
use Rattle.application_serving.specs.OneMore.{application_items_more, behind_one}
use Rattle.application_serving.specs.ItemDeeds.{does_line_read}
use Rattle.application_serving.specs.ModelSteps.{reads_line_there}
use Rattle.application_serving.specs.GoingSteps.{deed_without_act, held_without_file, going_regrouped, going_first_as, going_and_nothing, timely_behind}
use Rattle.application_loop.specs.Standing.{Beside, IsAtPort, DeskIs, Serving, Rested}
use Rattle.application_loop.specs.ServingParts.{DoesPart}
use Rattle.application_loop.specs.Living.{scene_of_live, Living, LivingOr, RestingOr}
use Rattle.application_loop.specs.declared.live_service.LiveService.{LiveService}
use Rattle.application_loop.proofs.Happenings.{takes_then}
use Rattle.application_loop.proofs.Asides.{no_act_aside, GoesAside, desk_aside}
use Rattle.application_loop.proofs.Telling.{serves_aside}
use Rattle.application_loop.proofs.LinesRead.{line_item, line_silent}
use Rattle.application_loop.proofs.RequestParts.{KeepsBeside, keeps_itself, living_beside, lives_by_part}

pub line_whole : {run : ServiceRun} {told : Told} {live : LiveService} (moment : ℕ) (said line : ApplicationLine) (rest : ToDo) → said ≡ line
    → Living run told (and_then (λ kind s. reads_line kind moment said s) rest) live
    → Living run told (and_then (λ kind s. reads_line kind moment line s) rest) live
line_whole {run = run} {told = told} {live = live} moment said line rest is living =
    subst (λ (l : ApplicationLine). Living run told (and_then (λ kind s. reads_line kind moment l s) rest) live) is living

-- ---- the messages that wait are taken

comes_to_rest : {T E : Type 0} (run : ServiceRun) (told : Told) (live : LiveService) (result : Result T E) → LivingOr run told nothing_to_do live result
    → OnOk result (Rested (scene_of_live told live)) → RestingOr run told live result
comes_to_rest run told live (Ok done) living rested = record { living = living; rested = rested }
comes_to_rest run told live (Err fault) serves rested = serves

pub takes_to_rest : {T E : Type 0} {run : ServiceRun} {told : Told} {old : LiveService} (told' : Told) (now : LiveService) (moment at : ℕ)
    (result : Result T E) → moment ≡ at → at ≡ old.moment
    → DoesPart (takes_then at) at (scene_of_live told old) (scene_of_live told' now) result → OnOk result (Rested (scene_of_live told' now))
    → KeepsBeside old now → Living run told (takes_then moment) old → RestingOr run told' now result
takes_to_rest {run = run} {told = told} {old = old} told' now moment at result same now_at does rested keeps living =
    let serving = living.serving in
    let left : Serving run living.beside (and_then (takes_then at) nothing_to_do) (scene_of_live told old) = record {
      deeds = serving.deeds;
      going = going_and_nothing (subst (λ (m : ℕ). Going run told serving.deeds (takes_then m)) same serving.going);
      stands = serving.stands;
    } in
    comes_to_rest run told' now result
    (lives_by_part told' now (takes_then at) nothing_to_do at result now_at does keeps (living_beside living (keeps_itself old) left)) rested

-- ---- nothing more is accepted

pub drain_read : {run : ServiceRun} {told : Told} {live : LiveService} (moment : ℕ) (rest : ToDo) → is_attached (attendance_of live.desk.port) ≡ true
    → Living run told (and_then (λ kind s. reads_line kind moment (Asks Drain) s) rest) live
    → Living run told (and_then (λ kind s. releases_all kind moment (numbers_unparted s.known) s) rest) (record live { draining = true })
drain_read {run = run} {told = told} {live = live} moment rest there living =
    let beside = living.beside in
    let drained : Beside = record beside { draining = true; accepts = false } in
    let deeds = living.serving.deeds in
    let stands = living.serving.stands in
    let s = service_behind deeds in
    let line : ApplicationLine = Asks Drain in
    let whole : ToDo = λ kind x. reads_line kind moment line x in
    let read : ToDo = λ kind x. reads line x in
    let answer : ToDo = λ kind x. releases_all kind moment (numbers_unparted x.known) x in
    let items = line_item line in
    let silent = line_silent s line in
    let behind : behind_items s items ≡ record s { draining = true } = behind_one s (LineRead line) in
    let begins : Serving run beside (and_then read (and_then answer rest)) (scene_of_live told live) = record {
      deeds = deeds;
      going = going_regrouped read answer rest (going_first_as whole (and_then read answer) rest living.serving.going
          (λ later. reads_line_there (kind_behind run deeds later) moment line s (ap is_attached stands.desk.application ∙ there)));
      stands = stands;
    } in
    let on : DeskIs (deeds ++ deed_without_act items ∷ []) beside.held live.desk =
    desk_aside deeds (deed_without_act items) no_act_aside silent beside.held beside.held live.desk live.desk stands.desk refl refl refl
    (ap (λ (x : Service). x.application) behind ∙ stands.desk.application)
    (subst (λ (t : SeenApplication). IsAtPort (application_in_acts (acts_in_service deeds)) t beside.held live.desk.port)
    (sym (application_items_more (items_in_service deeds) items)) stands.desk.port) in
    let goes : GoesAside deeds (deed_without_act items) run beside drained live.desk = record {
      stands = on;
      moment = refl;
      left = refl;
      opened = refl;
      numbered = refl;
      drains = λ going. absurd (let never : false ≡ true = going in cc);
      draining = ap (λ (x : Service). x.draining) behind;
      keys = ap (λ (x : Service). x.keys) behind ∙ stands.keys;
      finds = λ later. ap (λ (h : HeldKeys). h beside.keys) (held_without_file run deeds (deed_without_act items) later refl) ∙ stands.finds later;
    } in
    record {
      beside = drained;
      serving =
          serves_aside read (and_then answer rest) items drained live.desk begins
          record {
            done = λ later. refl;
            silent = silent;
            so = does_line_read (living.serving.going.always deeds [] (sym (append-nil deeds))) stands.written line;
            timely = timely_behind (greatest_moment (acts_in_service deeds)) (LineRead line) [] tt (All-nil (IsAtMoment (greatest_moment (acts_in_service deeds))));
            unread = refl;
          }
          goes;
      moment = living.moment;
      finds = living.finds;
      held = living.held;
      draining = refl;
      accepts = refl;
      left = living.left;
    }

-- and all connections are released
pub drained_by : {T E : Type 0} {run : ServiceRun} {told : Told} {old : LiveService} (told' : Told) (now : LiveService) (rest : ToDo) (at : ℕ)
    (result : Result T E) → at ≡ old.moment
    → DoesPart (λ kind s. releases_all kind at (numbers_unparted s.known) s) at (scene_of_live told old) (scene_of_live told' now) result
    → KeepsBeside (record old { draining = true }) now → is_attached (attendance_of old.desk.port) ≡ true
    → Living run told (and_then (λ kind s. reads_line kind old.moment (Asks Drain) s) rest) old → LivingOr run told' rest now result
drained_by {run = run} {told = told} {old = old} told' now rest at result same does keeps there living =
    let lined = subst (λ (m : ℕ). Living run told (and_then (λ kind s. reads_line kind m (Asks Drain) s) rest) old) (sym same) living in
    lives_by_part {old = record old { draining = true }} told' now (λ kind s. releases_all kind at (numbers_unparted s.known) s) rest at result same does keeps
    (drain_read at rest there lined)
