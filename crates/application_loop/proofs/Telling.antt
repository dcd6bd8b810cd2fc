-- A part of the model is done without an act, at no connection; so a line is told to the application.
use Rattle.std.proofs.Common.{◌≡◌, ◌∙◌, ℕ, List, [], ◌∷◌, ◌++◌, refl, sym, ap, subst, append-nil, append_assoc}
use Rattle.std.specs.List.{All}
use Rattle.std.proofs.lemmas.List.{length-append}
use Rattle.application_lines.specs.Notices.{ApplicationNotice, notice_text}
use Rattle.application_model.specs.Histories.{ServiceItem}
use Rattle.application_model.specs.Services.{Attendance, Absent, Attached, Service, behind_items, informed, informs, waiting_more}
use Rattle.application_model.specs.Laws.{readings_in}
use Rattle.application_port.specs.Ports.{PortState, NobodyThere, Talking, attendance_of, told_at_port}
use Rattle.application_ends.specs.StackEnds.{HeldKeys}
use Rattle.application_serving.specs.SeenOctets.{SeenApplication, SeenThere}
use Rattle.application_serving.specs.Serving.{ServesSoFar, ServiceDeed, acts_in_service, items_in_service, application_in_items, greatest_moment, IsAtMoment}
use Rattle.application_serving.specs.Going.{ServiceRun, ToDo, and_then, service_behind}
use Rattle.application_serving.specs.OneMore.{application_told, informed_no_readings}
use Rattle.application_serving.specs.ItemDeeds.{does_informed_there}
use Rattle.application_serving.specs.GoingSteps.{deed_without_act, IsDoneBy, going_by_items, held_without_file, informed_is_timely}
use Rattle.application_loop.proofs.Asides.{no_act_aside, AreSilent, GoesAside, stands_aside, desk_aside}
use Rattle.application_loop.specs.Standing.{Beside, Scene, scene, IsAtPort, DeskIs, Standing, Serving}
use Rattle.application_loop.specs.declared.desk.Desk.{Desk}

-- ---- a part of the model without an act

-- the first part of what is left is these items, which say nothing of a connection
pub record IsDoneAside (run : ServiceRun) (deeds : List ServiceDeed) (first : ToDo) (items : List ServiceItem) : Type 0 where
  pub done : IsDoneBy run deeds first items
  pub silent : AreSilent (service_behind deeds) items
  pub so : ServesSoFar run.settings (acts_in_service deeds) (items_in_service deeds ++ items)
  pub timely : All (IsAtMoment (greatest_moment (acts_in_service deeds))) items
  pub unread : readings_in items ≡ 0

-- nothing changes beside, but what is held of the application's octets
pub goes_aside : {run : ServiceRun} {deeds : List ServiceDeed} {beside : Beside} {x : Scene} (items : List ServiceItem) (held : List ℕ) (desk : Desk)
    → Standing run deeds beside x → (behind_items (service_behind deeds) items).draining ≡ (service_behind deeds).draining
    → (behind_items (service_behind deeds) items).keys ≡ (service_behind deeds).keys → DeskIs (deeds ++ deed_without_act items ∷ []) held desk
    → GoesAside deeds (deed_without_act items) run beside (record beside { held = held }) desk
goes_aside {run = run} {deeds = deeds} {beside = beside} items held desk is draining keys stands = record {
  stands = stands;
  moment = refl;
  left = refl;
  opened = refl;
  numbered = refl;
  drains = λ going. going;
  draining = draining ∙ is.draining;
  keys = keys ∙ is.keys;
  finds = λ later. ap (λ (h : HeldKeys). h beside.keys) (held_without_file run deeds (deed_without_act items) later refl) ∙ is.finds later;
}

pub serves_aside : {run : ServiceRun} {beside : Beside} {x : Scene} (first rest : ToDo) (items : List ServiceItem) (beside' : Beside) (desk : Desk)
    (serving : Serving run beside (and_then first rest) x) → IsDoneAside run serving.deeds first items
    → GoesAside serving.deeds (deed_without_act items) run beside beside' desk → Serving run beside' rest (scene x.told x.links desk)
serves_aside {x = x} first rest items beside' desk serving is goes = record {
  deeds = serving.deeds ++ deed_without_act items ∷ [];
  going = going_by_items first rest items serving.going is.done is.so is.timely is.unread;
  stands = stands_aside serving.deeds (deed_without_act items) no_act_aside is.silent beside' x.told desk serving.stands refl goes;
}

-- ---- a line is told

informed_silent : (s : Service) (there : Attendance) (notice : ApplicationNotice) → AreSilent s (informed there (notice ∷ []))
unfolding behind_items
informed_silent s Absent notice = record {
  records = refl;
  told = λ conn. refl;
  heard = λ conn. refl;
  ends = refl;
  known = refl;
  opened = refl;
  connected = refl;
  messages = refl;
}
informed_silent s (Attached standing waiting) notice = record {
  records = refl;
  told = λ conn. refl;
  heard = λ conn. refl;
  ends = refl;
  known = refl;
  opened = refl;
  connected = refl;
  messages = refl;
}

informed_same_draining : (s : Service) (there : Attendance) (notice : ApplicationNotice) → (behind_items s (informed there (notice ∷ []))).draining ≡ s.draining
unfolding behind_items
informed_same_draining s Absent notice = refl
informed_same_draining s (Attached standing waiting) notice = refl

informed_same_keys : (s : Service) (there : Attendance) (notice : ApplicationNotice) → (behind_items s (informed there (notice ∷ []))).keys ≡ s.keys
unfolding behind_items
informed_same_keys s Absent notice = refl
informed_same_keys s (Attached standing waiting) notice = refl

-- more waits for it then
informed_attends : (s : Service) (notice : ApplicationNotice) (port : PortState) → s.application ≡ attendance_of port
    → (behind_items s (informed (attendance_of port) (notice ∷ []))).application ≡ attendance_of (told_at_port (notice_text notice) port)
unfolding behind_items
informed_attends s notice NobodyThere is = is
informed_attends s notice (Talking standing output) is =
    ap (waiting_more (notice_text notice)) is ∙ ap (Attached standing) (sym (length-append output (notice_text notice)))

informed_at_port : (items : List ServiceItem) (notice : ApplicationNotice) (seen : SeenApplication) (held : List ℕ) (port : PortState)
    → IsAtPort seen (application_in_items items) held port
    → IsAtPort seen (application_in_items (items ++ informed (attendance_of port) (notice ∷ []))) held (told_at_port (notice_text notice) port)
informed_at_port items notice seen held NobodyThere is = (is.0, ap application_in_items (append-nil items) ∙ is.1)
informed_at_port items notice seen held (Talking standing output) is = record {
  brought = is.brought;
  given = is.given;
  acts = is.acts;
  items =
      application_told items (notice ∷ []) is.brought (is.given ++ output) is.items
      ∙ ap (λ (text : List ℕ). SeenThere is.brought ((is.given ++ output) ++ text)) (append-nil (notice_text notice))
      ∙ ap (SeenThere is.brought) (append_assoc is.given output (notice_text notice));
}

-- a line is told to the application, where it is there, and this is left behind it
pub tells_notice : {run : ServiceRun} {beside : Beside} {x : Scene} (rest : ToDo) (notice : ApplicationNotice) (desk : Desk)
    → desk.port ≡ told_at_port (notice_text notice) x.desk.port → desk.opened ≡ x.desk.opened → desk.connected ≡ x.desk.connected
    → desk.messages ≡ x.desk.messages → Serving run beside (and_then (λ kind s. informs (notice ∷ []) s) rest) x
    → Serving run beside rest (scene x.told x.links desk)
tells_notice {run = run} {beside = beside} {x = x} rest notice desk port opened connected messages serving =
    let deeds = serving.deeds in
    let stands = serving.stands in
    let s = service_behind deeds in
    let there = attendance_of x.desk.port in
    let items = informed there (notice ∷ []) in
    let silent = informed_silent s there notice in
    let on : DeskIs (deeds ++ deed_without_act items ∷ []) beside.held desk =
    desk_aside deeds (deed_without_act items) no_act_aside silent beside.held beside.held x.desk desk stands.desk opened connected messages
    (informed_attends s notice x.desk.port stands.desk.application ∙ ap attendance_of (sym port))
    (subst (IsAtPort _ _ beside.held) (sym port) (informed_at_port (items_in_service deeds) notice _ beside.held x.desk.port stands.desk.port)) in
    serves_aside (λ kind s. informs (notice ∷ []) s) rest items beside desk serving
    record {
      done = λ later. ap (λ (a : Attendance). informed a (notice ∷ [])) stands.desk.application;
      silent = silent;
      so = does_informed_there (serving.going.always deeds [] (sym (append-nil deeds))) stands.written there (notice ∷ []);
      timely = informed_is_timely (greatest_moment (acts_in_service deeds)) there (notice ∷ []);
      unread = informed_no_readings there (notice ∷ []);
    }
    (goes_aside items beside.held desk stands (informed_same_draining s there notice) (informed_same_keys s there notice) on)
