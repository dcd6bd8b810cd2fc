-- Octets of the application that were read and are held are heard, up to the end of a line.
use Rattle.std.proofs.Common.{◌≡◌, ◌∙◌, ℕ, Bool, true, List, [], ◌∷◌, ◌++◌, take, drop, Option, None, Some, refl, sym, ap, subst, append-nil, append_assoc}
use Rattle.std.specs.List.{All}
use Rattle.std.proofs.lemmas.List.{take-append-drop}
use Rattle.std.proofs.lemmas.List.Elements.{All-nil}
use Rattle.safety_automaton.specs.Keys.{key_at}
use Rattle.er_end.specs.KeptEnds.{waiting_in}
use Rattle.er_settings.specs.Values.{Settings}
use Rattle.outside.specs.Acts.{Act}
use Rattle.outside.specs.Doings.{Told}
use Rattle.application_lines.specs.declared.application_line.ApplicationLine.{ApplicationLine}
use Rattle.application_model.specs.Histories.{ServiceItem, Came, Brings}
use Rattle.application_model.specs.Services.{Attendance, has_room, is_attached, Service, behind_items, came_alone, heard_from, lines_brought, meets, reads_line, reads_lines}
use Rattle.application_port.specs.Ports.{PortState, NobodyThere, Talking, attendance_of, one_line_at_most, HearsAtPort}
use Rattle.application_serving.specs.SeenOctets.{SeenApplication, SeenThere, application_in_acts}
use Rattle.application_serving.specs.Serving.{ServesSoFar, acts_in_service, items_in_service, application_in_items, greatest_moment, told_to_come}
use Rattle.application_serving.specs.Going.{ServiceRun, ToDo, and_then, service_behind, kind_behind}
use Rattle.application_serving.specs.OneMore.{application_items_more, behind_one}
use Rattle.application_serving.specs.ItemDeeds.{IsRecorded}
use Rattle.application_serving.specs.ItemDeeds.{does_brings}
use Rattle.application_serving.specs.ModelSteps.{then_nothing, reads_lines_none, reads_lines_one, meets_brings}
use Rattle.application_serving.specs.GoingSteps.{deed_without_act, begins_to_meet, going_first_as, going_regrouped, going_and_nothing, going_past, timely_behind, YieldsSame}
use Rattle.application_loop.specs.Standing.{Beside, Scene, scene, IsAtPort, IsTalking, DeskIs, Serving, Rested}
use Rattle.application_loop.specs.Living.{entries_for_service, scene_of_live, accepts_more, Living, Resting}
use Rattle.application_loop.specs.declared.link.Link.{Link}
use Rattle.application_loop.specs.declared.service_keys.ServiceKeys.{ServiceKeys}
use Rattle.application_loop.specs.declared.live_service.LiveService.{LiveService}
use Rattle.application_loop.proofs.Happenings.{takes_then, takes_end}
use Rattle.application_loop.proofs.Asides.{no_act_aside, AreSilent, desk_aside}
use Rattle.application_loop.proofs.Telling.{goes_aside, serves_aside}
use Rattle.application_loop.proofs.RequestParts.{serving_first_as, living_beside, keeps_itself}

abbrev pub brings : List ℕ → List ServiceItem
brings piece = Came (Brings piece) ∷ []

-- what is left of the lines of a piece
abbrev pub lines_then_takes : ℕ → Option ApplicationLine → ToDo
lines_then_takes moment line = and_then (λ kind s. reads_lines kind moment (one_line_at_most line) s) (takes_then moment)

abbrev pub line_then_takes : ℕ → ApplicationLine → ToDo
line_then_takes moment line = and_then (λ kind s. reads_line kind moment line s) (takes_then moment)

brings_silent : (s : Service) (piece : List ℕ) → AreSilent s (brings piece)
unfolding behind_items
brings_silent s piece = record {
  records = refl;
  told = λ conn. refl;
  heard = λ conn. refl;
  ends = refl;
  known = refl;
  opened = refl;
  connected = refl;
  messages = refl;
}

-- ---- the port

module _ (piece : List ℕ) (line : Option ApplicationLine) where
  heard_attends : (old now : PortState) (there : Attendance) → HearsAtPort old now piece line → there ≡ attendance_of old
      → heard_from piece there ≡ attendance_of now
  heard_attends NobodyThere now there hears is = absurd hears
  heard_attends (Talking standing output) now there hears is = ap (heard_from piece) is ∙ ap attendance_of (sym hears.0)

  heard_lines : (old now : PortState) (there : Attendance) → HearsAtPort old now piece line → there ≡ attendance_of old
      → lines_brought piece there ≡ one_line_at_most line
  heard_lines NobodyThere now there hears is = absurd hears
  heard_lines (Talking standing output) now there hears is = ap (lines_brought piece) is ∙ hears.1

  pub heard_room : (old now : PortState) → HearsAtPort old now piece line → has_room (attendance_of now) ≡ has_room (attendance_of old)
  heard_room NobodyThere now hears = absurd hears
  heard_room (Talking standing output) now hears = ap (λ (p : PortState). has_room (attendance_of p)) hears.0

  pub heard_attached : (old now : PortState) → HearsAtPort old now piece line → is_attached (attendance_of now) ≡ true
  heard_attached NobodyThere now hears = absurd hears
  heard_attached (Talking standing output) now hears = ap (λ (p : PortState). is_attached (attendance_of p)) hears.0

  module _ (seen : SeenApplication) (items : List ServiceItem) (held left : List ℕ) (front : held ≡ piece ++ left) where
    talks : (output : List ℕ) → IsTalking seen (application_in_items items) held output
        → IsTalking seen (application_in_items (items ++ brings piece)) left output
    talks output is = record {
      brought = is.brought ++ piece;
      given = is.given;
      acts = is.acts ∙ ap (λ (h : List ℕ). SeenThere (is.brought ++ h) is.given) front ∙ ap (λ (h : List ℕ). SeenThere h is.given) (sym (append_assoc is.brought piece left));
      items = application_items_more items (brings piece) ∙ ap (told_to_come (Brings piece)) is.items;
    }

    heard_at_port : (old now : PortState) → HearsAtPort old now piece line → IsAtPort seen (application_in_items items) held old
        → IsAtPort seen (application_in_items (items ++ brings piece)) left now
    heard_at_port NobodyThere now hears is = absurd hears
    heard_at_port (Talking standing output) now hears is =
        subst (IsAtPort seen (application_in_items (items ++ brings piece)) left) (sym hears.0) (talks output is)

  heard_so : {settings : Settings} {acts : List Act} {items : List ServiceItem} (held left : List ℕ) → ServesSoFar settings acts items
      → IsRecorded settings acts items → held ≡ piece ++ left → (old now : PortState) → HearsAtPort old now piece line
      → IsAtPort (application_in_acts acts) (application_in_items items) held old → ServesSoFar settings acts (items ++ brings piece)
  heard_so held left so recorded front NobodyThere now hears is = absurd hears
  heard_so held left so recorded front (Talking standing output) now hears is =
      does_brings so recorded piece is.brought held is.given (is.given ++ output) is.acts is.items (record { rest = left; is = front })

-- ---- the loop

-- what is heard of the application changes nothing else
pub record HearsPiece (piece : List ℕ) (line : Option ApplicationLine) (old now : LiveService) : Type 0 where
  pub room : has_room (attendance_of old.desk.port) ≡ true
  pub hears : HearsAtPort old.desk.port now.desk.port piece line
  pub front : old.speaker.held.items ≡ piece ++ now.speaker.held.items
  pub links : now.links.list.items ≡ old.links.list.items
  pub opened : now.desk.opened ≡ old.desk.opened
  pub connected : now.desk.connected ≡ old.desk.connected
  pub messages : now.desk.messages ≡ old.desk.messages
  pub keys : now.keys ≡ old.keys
  pub moment : now.moment ≡ old.moment
  pub draining : now.draining ≡ old.draining
  pub calls : now.calls ≡ old.calls

-- so it is where so many of the octets that are held were taken
pub hears_piece : {old now : LiveService} (used : ℕ) (octets : List ℕ) (said line : Option ApplicationLine) → has_room (attendance_of old.desk.port) ≡ true
    → octets ≡ old.speaker.held.items → HearsAtPort old.desk.port now.desk.port (take used octets) said → said ≡ line
    → now.speaker.held.items ≡ drop used old.speaker.held.items → now.links.list.items ≡ old.links.list.items → now.desk.opened ≡ old.desk.opened
    → now.desk.connected ≡ old.desk.connected → now.desk.messages ≡ old.desk.messages → now.keys ≡ old.keys → now.moment ≡ old.moment
    → now.draining ≡ old.draining → now.calls ≡ old.calls → HearsPiece (take used octets) line old now
hears_piece {old = old} {now = now} used octets said line room held hears says left links opened connected messages keys moment draining calls = record {
  room = room;
  hears = subst (HearsAtPort old.desk.port now.desk.port (take used octets)) says hears;
  front =
      sym held ∙ sym (take-append-drop used octets) ∙ ap (λ (o : List ℕ). take used octets ++ drop used o) held
      ∙ ap (λ (o : List ℕ). take used octets ++ o) (sym left);
  links = links;
  opened = opened;
  connected = connected;
  messages = messages;
  keys = keys;
  moment = moment;
  draining = draining;
  calls = calls;
}

serving_brings : {run : ServiceRun} {told : Told} {old now : LiveService} (piece : List ℕ) (line : Option ApplicationLine) (beside : Beside) (moment : ℕ)
    → HearsPiece piece line old now → beside.held ≡ old.speaker.held.items → Serving run beside (λ kind s. []) (scene_of_live told old)
    → Serving run (record beside { held = now.speaker.held.items }) (lines_then_takes moment line) (scene told old.links.list.items now.desk)
serving_brings {run = run} {told = told} {old = old} {now = now} piece line beside moment hears held serving =
    let deeds = serving.deeds in
    let stands = serving.stands in
    let s = service_behind deeds in
    let items = brings piece in
    let left = now.speaker.held.items in
    let front : beside.held ≡ piece ++ left = held ∙ hears.front in
    let room : has_room s.application ≡ true = ap has_room stands.desk.application ∙ hears.room in
    let came : ToDo = λ kind s. came_alone (Brings piece) s in
    let meets_it : ToDo = λ kind s. meets kind moment (Brings piece) s in
    let lines : ToDo = λ kind s. reads_lines kind moment (one_line_at_most line) s in
    let met : YieldsSame run deeds meets_it (and_then came lines) = λ later.
    meets_brings (kind_behind run deeds later) moment piece s room
    ∙ ap (λ (l : List ApplicationLine). and_then came (λ kind at. reads_lines kind moment l at) (kind_behind run deeds later) s)
    (heard_lines piece line old.desk.port now.desk.port s.application hears.hears stands.desk.application) in
    let parts = going_first_as meets_it (and_then came lines) (takes_then moment) (begins_to_meet moment (Brings piece) serving.going) met in
    let whole : Serving run beside (and_then came (lines_then_takes moment line)) (scene_of_live told old) =
    record { deeds = deeds; going = going_regrouped came lines (takes_then moment) parts; stands = stands } in
    let on : DeskIs (deeds ++ deed_without_act items ∷ []) left now.desk =
    desk_aside deeds (deed_without_act items) no_act_aside (brings_silent s piece) beside.held left old.desk now.desk stands.desk hears.opened
    hears.connected hears.messages
    (ap (λ (x : Service). x.application) (behind_one s (Came (Brings piece)))
    ∙ heard_attends piece line old.desk.port now.desk.port s.application hears.hears stands.desk.application)
    (heard_at_port piece line _ (items_in_service deeds) beside.held left front old.desk.port now.desk.port hears.hears stands.desk.port) in
    serves_aside came (lines_then_takes moment line) items (record beside { held = left }) now.desk whole
    record {
      done = λ later. refl;
      silent = brings_silent s piece;
      so = heard_so piece line beside.held left (serving.going.always deeds [] (sym (append-nil deeds))) stands.written front old.desk.port now.desk.port
          hears.hears stands.desk.port;
      timely = timely_behind (greatest_moment (acts_in_service deeds)) (Came (Brings piece)) [] tt (All-nil _);
      unread = refl;
    }
    (goes_aside items left now.desk stands (ap (λ (x : Service). x.draining) (behind_one s (Came (Brings piece))))
    (ap (λ (x : Service). x.keys) (behind_one s (Came (Brings piece)))) on)

pub living_brings : {run : ServiceRun} {told : Told} {old now : LiveService} (piece : List ℕ) (line : Option ApplicationLine)
    → HearsPiece piece line old now → Resting run told old → Living run told (lines_then_takes old.moment line) now
living_brings {run = run} {told = told} {old = old} {now = now} piece line hears rests =
    let living = rests.living in
    record {
      beside = record living.beside { held = now.speaker.held.items };
      serving =
          subst (λ (l : List Link). Serving run (record living.beside { held = now.speaker.held.items }) (lines_then_takes old.moment line) (scene told l now.desk))
          (sym hears.links) (serving_brings piece line living.beside old.moment hears living.held living.serving);
      moment = living.moment ∙ sym hears.moment;
      finds = living.finds ∙ ap (λ (keys : ServiceKeys). key_at (entries_for_service keys)) (sym hears.keys);
      held = refl;
      draining = living.draining ∙ sym hears.draining;
      accepts =
          living.accepts
          ∙ ap (λ (d : Bool). accepts_more d old.calls) (sym hears.draining)
          ∙ ap (λ (c : Bool). accepts_more now.draining c) (sym hears.calls);
      left = living.left;
    }

-- the messages that wait are taken, of which there are none
pub takes_rest : (run : ServiceRun) (beside : Beside) (x : Scene) (moment : ℕ) → Rested x → Serving run beside (takes_then moment) x
    → Serving run beside (λ kind s. []) x
takes_rest run beside x moment rested serving =
    takes_end run beside x moment (λ kind s. []) rested
    (record { deeds = serving.deeds; going = going_and_nothing serving.going; stands = serving.stands })

pub still_rested : (told : Told) {old now : LiveService} (piece : List ℕ) (line : Option ApplicationLine) → HearsPiece piece line old now
    → Rested (scene_of_live told old) → Rested (scene_of_live told now)
still_rested told {old = old} {now = now} piece line hears rested room =
    subst (λ (l : List Link). All (λ (k : Link). waiting_in k.end.value ≡ []) l) (sym hears.links)
    (rested (sym (heard_room piece line old.desk.port now.desk.port hears.hears) ∙ room))

-- there was no line
pub rests_by_piece : {run : ServiceRun} {told : Told} {old now : LiveService} (piece : List ℕ) → HearsPiece piece None old now → Resting run told old
    → Resting run told now
rests_by_piece {run = run} {told = told} {old = old} {now = now} piece hears rests =
    let living = living_brings piece None hears rests in
    let rested = still_rested told piece None hears rests.rested in
    let none : ToDo = λ kind s. reads_lines kind old.moment [] s in
    let serving = living.serving in
    let past : Serving run living.beside (takes_then old.moment) (scene_of_live told now) = record {
      deeds = serving.deeds;
      going = going_past none (takes_then old.moment) serving.going
          (λ later. reads_lines_none (kind_behind run serving.deeds later) old.moment (service_behind serving.deeds));
      stands = serving.stands;
    } in
    record {
      living = living_beside living (keeps_itself now) (takes_rest run living.beside (scene_of_live told now) old.moment rested past);
      rested = rested;
    }

-- there was one, which is to be answered
pub living_with_line : {run : ServiceRun} {told : Told} {old now : LiveService} (piece : List ℕ) (line : ApplicationLine) → HearsPiece piece (Some line) old now
    → Resting run told old → Living run told (line_then_takes old.moment line) now
living_with_line {run = run} {old = old} {now = now} piece line hears rests =
    let living = living_brings piece (Some line) hears rests in
    let one : ToDo = λ kind s. reads_line kind old.moment line s in
    let lines : ToDo = λ kind s. reads_lines kind old.moment (line ∷ []) s in
    let same : YieldsSame run living.serving.deeds lines one = λ later.
    reads_lines_one (kind_behind run living.serving.deeds later) old.moment line [] (service_behind living.serving.deeds)
    ∙ then_nothing (one (kind_behind run living.serving.deeds later)) (λ s. reads_lines (kind_behind run living.serving.deeds later) old.moment [] s)
    (service_behind living.serving.deeds) (reads_lines_none (kind_behind run living.serving.deeds later) old.moment) in
    living_beside living (keeps_itself now) (serving_first_as lines one (takes_then old.moment) living.serving same)
