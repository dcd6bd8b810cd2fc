-- A line of the application is read, by a loop that stands where what was done leads.
use Rattle.std.proofs.Common.{◌≡◌, ◌∙◌, ℕ, true, List, [], ◌∷◌, ◌++◌, length, refl, sym, ap, subst, append-nil}
use Rattle.std.proofs.lemmas.List.{length-map}
use Rattle.std.proofs.lemmas.List.Elements.{All-nil}
use Rattle.outside.specs.Doings.{Told}
use Rattle.application_lines.specs.declared.application_line.ApplicationLine.{ApplicationLine}
use Rattle.application_lines.specs.declared.application_line.ApplicationLine.TheVariants.{Asks, Faulty}
use Rattle.application_lines.specs.declared.request.Request.{Request}
use Rattle.application_lines.specs.declared.request.Request.TheVariants as request
use Rattle.application_lines.specs.Notices.{Counts}
use Rattle.application_model.specs.Histories.{ServiceItem, LineRead}
use Rattle.application_model.specs.Services.{Service, behind_items, behind_line, is_attached, informs, reads, reads_line, answers_line}
use Rattle.application_port.specs.Ports.{attendance_of}
use Rattle.application_serving.specs.SeenOctets.{SeenApplication, application_in_acts}
use Rattle.application_serving.specs.Serving.{acts_in_service, items_in_service, greatest_moment, IsAtMoment}
use Rattle.application_serving.specs.Going.{ServiceRun, ToDo, and_then, service_behind, kind_behind}
use Rattle.application_serving.specs.OneMore.{application_items_more, behind_one}
use Rattle.application_serving.specs.ItemDeeds.{does_line_read}
use Rattle.application_serving.specs.ModelSteps.{reads_line_there}
use Rattle.application_serving.specs.GoingSteps.{deed_without_act, going_regrouped, going_first_as, timely_behind, YieldsSame}
use Rattle.application_loop.specs.Standing.{IsAtPort, DeskIs, Serving, known_of_link}
use Rattle.application_loop.specs.Living.{scene_of_live, Living}
use Rattle.application_loop.specs.Telling.{DeskTells}
use Rattle.application_loop.specs.declared.live_service.LiveService.{LiveService}
use Rattle.application_loop.proofs.Asides.{no_act_aside, AreSilent, desk_aside}
use Rattle.application_loop.proofs.Telling.{goes_aside, serves_aside}
use Rattle.application_loop.proofs.RequestParts.{KeepsBeside, keeps_itself, living_beside, serving_first_as, lives_by_notice}

abbrev pub line_item : ApplicationLine → List ServiceItem
line_item line = LineRead line ∷ []

pub line_silent : (s : Service) (line : ApplicationLine) → AreSilent s (line_item line)
unfolding behind_items
line_silent s (Asks (request.Send conn text)) = record { records = refl; told = λ c. refl; heard = λ c. refl; ends = refl; known = refl; opened = refl; connected = refl; messages = refl }
line_silent s (Asks (request.Release conn sub)) = record { records = refl; told = λ c. refl; heard = λ c. refl; ends = refl; known = refl; opened = refl; connected = refl; messages = refl }
line_silent s (Asks request.Drain) = record { records = refl; told = λ c. refl; heard = λ c. refl; ends = refl; known = refl; opened = refl; connected = refl; messages = refl }
line_silent s (Asks request.Keys) = record { records = refl; told = λ c. refl; heard = λ c. refl; ends = refl; known = refl; opened = refl; connected = refl; messages = refl }
line_silent s (Asks request.Counts) = record { records = refl; told = λ c. refl; heard = λ c. refl; ends = refl; known = refl; opened = refl; connected = refl; messages = refl }
line_silent s (Faulty line why) = record { records = refl; told = λ c. refl; heard = λ c. refl; ends = refl; known = refl; opened = refl; connected = refl; messages = refl }

-- a line by which nothing of the model changes
pub line_read : {run : ServiceRun} {told : Told} {live : LiveService} (moment : ℕ) (line : ApplicationLine) (rest : ToDo)
    → ((s : Service) → behind_line s line ≡ s) → is_attached (attendance_of live.desk.port) ≡ true
    → Living run told (and_then (λ kind s. reads_line kind moment line s) rest) live
    → Living run told (and_then (λ kind s. answers_line kind moment line s) rest) live
line_read {run = run} {told = told} {live = live} moment line rest same there living =
    let beside = living.beside in
    let deeds = living.serving.deeds in
    let stands = living.serving.stands in
    let s = service_behind deeds in
    let whole : ToDo = λ kind x. reads_line kind moment line x in
    let read : ToDo = λ kind x. reads line x in
    let answer : ToDo = λ kind x. answers_line kind moment line x in
    let items = line_item line in
    let silent = line_silent s line in
    let behind : behind_items s items ≡ s = behind_one s (LineRead line) ∙ same s in
    let begins : Serving run beside (and_then read (and_then answer rest)) (scene_of_live told live) = record {
      deeds = deeds;
      going = going_regrouped read answer rest (going_first_as whole (and_then read answer) rest living.serving.going
          (λ later. reads_line_there (kind_behind run deeds later) moment line s (ap is_attached stands.desk.application ∙ there)));
      stands = stands;
    } in
    let on : DeskIs (deeds ++ deed_without_act items ∷ []) beside.held live.desk =
    desk_aside deeds (deed_without_act items) no_act_aside silent beside.held beside.held live.desk live.desk stands.desk refl refl refl
    (ap (λ (x : Service). x.application) behind ∙ stands.desk.application)
    (subst (λ (t : SeenApplication). IsAtPort (application_in_acts (acts_in_service deeds)) t beside.held live.desk.port)
    (sym (application_items_more (items_in_service deeds) items)) stands.desk.port) in
    living_beside living (keeps_itself live)
    (serves_aside read (and_then answer rest) items beside live.desk begins
    record {
      done = λ later. refl;
      silent = silent;
      so = does_line_read (living.serving.going.always deeds [] (sym (append-nil deeds))) stands.written line;
      timely = timely_behind (greatest_moment (acts_in_service deeds)) (LineRead line) [] tt (All-nil (IsAtMoment (greatest_moment (acts_in_service deeds))));
      unread = refl;
    }
    (goes_aside items beside.held live.desk stands (ap (λ (x : Service). x.draining) behind) (ap (λ (x : Service). x.keys) behind) on))

-- what the line asks for
pub asked_whole : {run : ServiceRun} {told : Told} {live : LiveService} (moment : ℕ) (asked what : Request) (rest : ToDo) → asked ≡ what
    → Living run told (and_then (λ kind s. reads_line kind moment (Asks asked) s) rest) live
    → Living run told (and_then (λ kind s. reads_line kind moment (Asks what) s) rest) live
asked_whole {run = run} {told = told} {live = live} moment asked what rest is living =
    subst (λ (r : Request). Living run told (and_then (λ kind s. reads_line kind moment (Asks r) s) rest) live) is living

pub asked_for : {run : ServiceRun} {told : Told} {live : LiveService} (moment : ℕ) (asked what : Request) (rest : ToDo) → asked ≡ what
    → ((s : Service) → behind_line s (Asks what) ≡ s) → is_attached (attendance_of live.desk.port) ≡ true
    → Living run told (and_then (λ kind s. reads_line kind moment (Asks asked) s) rest) live
    → Living run told (and_then (λ kind s. answers_line kind moment (Asks what) s) rest) live
asked_for moment asked what rest is same there living = line_read moment (Asks what) rest same there (asked_whole moment asked what rest is living)

-- the counts are told
pub counts_told : {run : ServiceRun} {told : Told} {old now : LiveService} (moment : ℕ) (rest : ToDo) (count : ℕ) → count ≡ length old.links.list.items
    → DeskTells (Counts count old.desk.opened old.desk.connected old.desk.messages) old.desk now.desk → now.links.list.items ≡ old.links.list.items
    → KeepsBeside old now → Living run told (and_then (λ kind s. answers_line kind moment (Asks request.Counts) s) rest) old → Living run told rest now
counts_told {run = run} {old = old} moment rest count is tells links keeps living =
    let deeds = living.serving.deeds in
    let stands = living.serving.stands in
    let s = service_behind deeds in
    let counts : ToDo = λ kind x. answers_line kind moment (Asks request.Counts) x in
    let notice = Counts count old.desk.opened old.desk.connected old.desk.messages in
    let told : ToDo = λ kind x. informs (notice ∷ []) x in
    let live : length s.known ≡ count = ap length stands.known ∙ length-map old.links.list.items known_of_link ∙ sym is in
    let same : YieldsSame run deeds counts told = λ later.
    ap (λ (n : ℕ). informs (Counts n s.opened s.connected s.messages ∷ []) s) live
    ∙ ap (λ (n : ℕ). informs (Counts count n s.connected s.messages ∷ []) s) (sym stands.desk.opened)
    ∙ ap (λ (n : ℕ). informs (Counts count old.desk.opened n s.messages ∷ []) s) (sym stands.desk.connected)
    ∙ ap (λ (n : ℕ). informs (Counts count old.desk.opened old.desk.connected n ∷ []) s) (sym stands.desk.messages) in
    lives_by_notice rest notice tells links keeps (living_beside living (keeps_itself old) (serving_first_as counts told rest living.serving same))
