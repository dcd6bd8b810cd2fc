-- An application that comes is told of each connection that stands.
use Rattle.std.proofs.Common.{◌≡◌, ◌∙◌, ◌<◌, ◌+◌, ℕ, List, [], ◌∷◌, ◌++◌, map, length, drop, slice_index_or, refl, sym, ap, subst, append-nil}
use Rattle.std.specs.List.{flat_map}
use Rattle.std.proofs.lemmas.List.{map-append, drop_more}
use Rattle.application_lines.specs.Notices.{ApplicationNotice, Connected, notice_text}
use Rattle.application_lines.specs.Standings.{LineStanding}
use Rattle.application_model.specs.Ends.{KnownEnd, EndStage, SettingUp, Speaking, Parted}
use Rattle.application_model.specs.Lines.{stage_line, connected_lines}
use Rattle.application_model.specs.Histories.{ServiceItem, Informed}
use Rattle.application_model.specs.Services.{Attendance, Absent, Attached, Service, behind_item, behind_items, one_then, inform, informed, informs, waiting_more}
use Rattle.application_port.specs.Ports.{PortState, NobodyThere, Talking, attendance_of, told_at_port}
use Rattle.application_serving.specs.SeenOctets.{application_in_acts}
use Rattle.application_serving.specs.Serving.{ServiceDeed, acts_in_service, items_in_service, application_in_items}
use Rattle.application_serving.specs.Going.{ServiceRun, ToDo, and_then, service_behind}
use Rattle.application_serving.specs.GoingSteps.{going_past, going_first_as, going_regrouped}
use Rattle.application_loop.specs.Standing.{Beside, Scene, scene, known_of_link, IsAtPort, DeskIs, Serving}
use Rattle.application_loop.specs.declared.link.Link.{Link}
use Rattle.application_loop.specs.declared.desk.Desk.{Desk}
use Rattle.application_loop.proofs.Telling.{tells_notice}

-- what the application is told of these connections
abbrev pub lines_of : List Link → List ApplicationNotice
lines_of links = connected_lines (map known_of_link links)

abbrev pub introduces : List Link → ToDo
introduces links kind s = informs (lines_of links) s

abbrev pub introduces_one : Link → ToDo
introduces_one link kind s = informs (stage_line link.number (known_of_link link).stage) s

-- ---- nothing, and one and then more

informs_nothing : (s : Service) → informs [] s ≡ []
informs_nothing s = nothing s.application
  where
    nothing : (there : Attendance) → informed there [] ≡ []
    nothing Absent = refl
    nothing (Attached standing waiting) = refl

-- where more lines were told, an application that is there is there still
still_told : (s : Service) (standing : LineStanding) (waiting : ℕ) (lines more : List ApplicationNotice) → s.application ≡ Attached standing waiting
    → informed (behind_items s (map inform lines)).application more ≡ map inform more
unfolding behind_items
still_told s standing waiting [] more there = ap (λ (a : Attendance). informed a more) there
still_told s standing waiting (line ∷ lines) more there = still_told (behind_item s (Informed line)) standing _ lines more (ap (waiting_more (notice_text line)) there)

informs_in_turn : (first more : List ApplicationNotice) (s : Service) → informs (first ++ more) s ≡ one_then (informs first) (informs more) s
unfolding one_then behind_items
informs_in_turn first more s = told_in_turn s.application refl
  where
    told_in_turn : (there : Attendance) → s.application ≡ there
        → informed there (first ++ more) ≡ informed there first ++ informed (behind_items s (informed there first)).application more
    told_in_turn Absent is = sym (ap (λ (a : Attendance). informed a more) is)
    told_in_turn (Attached standing waiting) is =
        map-append inform first more ∙ ap (λ (x : List ServiceItem). map inform first ++ x) (sym (still_told s standing waiting first more is))

told_nothing : (port : PortState) → told_at_port [] port ≡ port
told_nothing NobodyThere = refl
told_nothing (Talking standing output) = ap (Talking standing) (append-nil output)

desk_same : {deeds : List ServiceDeed} {held : List ℕ} {old : Desk} (now : Desk) → DeskIs deeds held old → now.port ≡ old.port → now.opened ≡ old.opened
    → now.connected ≡ old.connected → now.messages ≡ old.messages → DeskIs deeds held now
desk_same {deeds = deeds} {held = held} now is port opened connected messages = record {
  application = is.application ∙ ap attendance_of (sym port);
  port = subst (IsAtPort (application_in_acts (acts_in_service deeds)) (application_in_items (items_in_service deeds)) held) (sym port) is.port;
  opened = opened ∙ is.opened;
  connected = connected ∙ is.connected;
  messages = messages ∙ is.messages;
}

-- nothing is told
tells_nothing : {run : ServiceRun} {beside : Beside} {x : Scene} (rest : ToDo) (desk : Desk) → desk.port ≡ x.desk.port → desk.opened ≡ x.desk.opened
    → desk.connected ≡ x.desk.connected → desk.messages ≡ x.desk.messages → Serving run beside (and_then (λ kind s. informs [] s) rest) x
    → Serving run beside rest (scene x.told x.links desk)
tells_nothing rest desk port opened connected messages serving = record {
  deeds = serving.deeds;
  going = going_past (λ kind s. informs [] s) rest serving.going (λ later. informs_nothing (service_behind serving.deeds));
  stands = record {
    each = serving.stands.each;
    known = serving.stands.known;
    rise = serving.stands.rise;
    below = serving.stands.below;
    fresh = serving.stands.fresh;
    desk = desk_same desk serving.stands.desk port opened connected messages;
    written = serving.stands.written;
    moment = serving.stands.moment;
    finds = serving.stands.finds;
    keys = serving.stands.keys;
    draining = serving.stands.draining;
    opened = serving.stands.opened;
    numbered = serving.stands.numbered;
  };
}

-- ---- one connection, by its stage

tells_stage : {run : ServiceRun} {beside : Beside} {x : Scene} (rest : ToDo) (number : ℕ) (stage : EndStage) (desk : Desk)
    → desk.port ≡ told_at_port (flat_map notice_text (stage_line number stage)) x.desk.port → desk.opened ≡ x.desk.opened
    → desk.connected ≡ x.desk.connected → desk.messages ≡ x.desk.messages → Serving run beside (and_then (λ kind s. informs (stage_line number stage) s) rest) x
    → Serving run beside rest (scene x.told x.links desk)
tells_stage {x = x} rest number SettingUp desk port opened connected messages serving =
    tells_nothing rest desk (port ∙ told_nothing x.desk.port) opened connected messages serving
tells_stage {x = x} rest number (Speaking peer) desk port opened connected messages serving =
    tells_notice rest (Connected number peer) desk
    (port ∙ ap (λ (text : List ℕ). told_at_port text x.desk.port) (append-nil (notice_text (Connected number peer)))) opened connected messages serving
tells_stage {x = x} rest number Parted desk port opened connected messages serving =
    tells_nothing rest desk (port ∙ told_nothing x.desk.port) opened connected messages serving

-- ---- all of them

-- those that are known are those of the links
pub introduces_begins : {run : ServiceRun} {beside : Beside} {x : Scene} (rest : ToDo)
    → Serving run beside (and_then (λ kind s. informs (connected_lines s.known) s) rest) x → Serving run beside (and_then (introduces x.links) rest) x
introduces_begins {x = x} rest serving = record {
  deeds = serving.deeds;
  going = going_first_as (λ kind s. informs (connected_lines s.known) s) (introduces x.links) rest serving.going
      (λ later. ap (λ (k : List KnownEnd). informs (connected_lines k) (service_behind serving.deeds)) serving.stands.known);
  stands = serving.stands;
}

pub introduces_next : {run : ServiceRun} {beside : Beside} {x : Scene} (rest : ToDo) (link : Link) (links : List Link) (desk : Desk)
    → desk.port ≡ told_at_port (flat_map notice_text (stage_line link.number (known_of_link link).stage)) x.desk.port → desk.opened ≡ x.desk.opened
    → desk.connected ≡ x.desk.connected → desk.messages ≡ x.desk.messages → Serving run beside (and_then (introduces (link ∷ links)) rest) x
    → Serving run beside (and_then (introduces links) rest) (scene x.told x.links desk)
introduces_next rest link links desk port opened connected messages serving =
    let first = introduces_one link in
    tells_stage (and_then (introduces links) rest) link.number (known_of_link link).stage desk port opened connected messages
    record {
      deeds = serving.deeds;
      going = going_regrouped first (introduces links) rest
          (going_first_as (introduces (link ∷ links)) (and_then first (introduces links)) rest serving.going
          (λ later. informs_in_turn (stage_line link.number (known_of_link link).stage) (lines_of links) (service_behind serving.deeds)));
      stands = serving.stands;
    }

pub introduces_ends : {run : ServiceRun} {beside : Beside} {x : Scene} (rest : ToDo) → Serving run beside (and_then (introduces []) rest) x
    → Serving run beside rest x
introduces_ends rest serving = record {
  deeds = serving.deeds;
  going = going_past (introduces []) rest serving.going (λ later. informs_nothing (service_behind serving.deeds));
  stands = serving.stands;
}

-- one more of the links was visited
pub one_visited : (links : List Link) (place : ℕ) (link : Link) → place < length links → link ≡ slice_index_or links place link
    → drop place links ≡ link ∷ drop (place + 1) links
one_visited links place link within is = drop_more links place link within ∙ ap (λ (l : Link). l ∷ drop (place + 1) links) (sym is)
