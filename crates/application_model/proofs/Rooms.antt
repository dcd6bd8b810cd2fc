-- A message is taken only where there is room, and a connection is opened only where nothing was drained.
use Rattle.std.proofs.Common.{Bool, ◌||◌, false, sym, ◌∙◌, refl, ap, ◌≡◌, ℕ, true, List, [], ◌∷◌, ◌++◌, map, subst}
use Rattle.er_trace.specs.declared.event.Event.{Event}
use Rattle.er_trace.specs.declared.event.Event.TheVariants as event
use Rattle.er_trace.specs.Outcomes.{TraceOutcome}
use Rattle.application_lines.specs.declared.application_line.ApplicationLine.{ApplicationLine}
use Rattle.application_lines.specs.declared.application_line.ApplicationLine.TheVariants.{Asks, Faulty}
use Rattle.application_lines.specs.declared.request.Request.TheVariants as request
use Rattle.application_lines.specs.Notices.{ApplicationNotice}
use Rattle.application_model.specs.Ends.{EventTime, EndKind}
use Rattle.application_model.specs.Lines.{notices_of_event, connected_lines}
use Rattle.application_model.specs.Histories.{ServiceHappening, Attaches, Departs, Brings, Takes, Opens, Befalls, Closes, KeysRead, ServiceItem, Came}
use Rattle.application_model.specs.Histories.{LineRead, Occurred, Informed, KeysFetched}
use Rattle.application_model.specs.Services.{Attendance, Absent, Attached, has_room, Service, at_start, behind_line, service_behind_happening, behind_item}
use Rattle.application_model.specs.Services.{behind_items, inform, informed, keys_notice, is_of_outside, time_at, occurs}
use Rattle.application_model.specs.Claims.{IsTakenWithRoom, is_drain, is_drain_item, was_drained, OpensNothingDrained}
use Rattle.application_model.proofs.Steadies.{Family, IsPlain, IsSteady, KeepsAnswers, line_keeps}

abbrev HasRoomAtEvent : Service → Event → Type 0
HasRoomAtEvent s event.Take = has_room s.application ≡ true
HasRoomAtEvent s what = Unit {0}

abbrev MayComeAt : Service → ServiceHappening → Type 0
MayComeAt s (Opens what) = s.draining ≡ false
MayComeAt s happening = Unit {0}

abbrev HasRoomAtItem : Service → ServiceItem → Type 0
HasRoomAtItem s (Came happening) = MayComeAt s happening
HasRoomAtItem s (LineRead line) = Unit {0}
HasRoomAtItem s (Occurred time conn what outcomes) = HasRoomAtEvent s what
HasRoomAtItem s (Informed notice) = Unit {0}
HasRoomAtItem s KeysFetched = Unit {0}

abbrev pub HasRoomAtTakes : Family
HasRoomAtTakes s [] = Unit {0}
HasRoomAtTakes s (item ∷ items) = HasRoomAtItem s item × HasRoomAtTakes (behind_item s item) items

follow_room : (s : Service) (a b : List ServiceItem) → HasRoomAtTakes s a → HasRoomAtTakes (behind_items s a) b → HasRoomAtTakes s (a ++ b)
unfolding behind_items
follow_room s [] b p q = q
follow_room s (item ∷ a) b p q = (p.0, follow_room (behind_item s item) a b p.1 q)

all_informed : (s : Service) (notices : List ApplicationNotice) → HasRoomAtTakes s (map inform notices)
all_informed s [] = tt
all_informed s (notice ∷ notices) = (tt, all_informed (behind_item s (Informed notice)) notices)

informed_room : (s : Service) (application : Attendance) (notices : List ApplicationNotice) → HasRoomAtTakes s (informed application notices)
informed_room s Absent notices = tt
informed_room s (Attached standing waiting) notices = all_informed s notices

outside_room : (s : Service) (what : Event) → is_of_outside what ≡ true → HasRoomAtEvent s what
outside_room s (event.Call engine rbc rb) own = tt
outside_room s (event.Answer rbc ra) own = tt
outside_room s (event.Octets octets) own = tt
outside_room s (event.Send text) own = tt
outside_room s event.Take own = absurd (cc)
outside_room s (event.Release sub) own = tt
outside_room s event.Tick own = tt
outside_room s event.Ended own = tt
outside_room s event.Fault own = tt
outside_room s event.Stalled own = tt
outside_room s (event.Full count) own = tt
outside_room s (event.Unserved count) own = tt

may_come : (s : Service) (happening : ServiceHappening) → IsPlain happening → MayComeAt s happening
may_come s Attaches plain = absurd plain
may_come s Departs plain = tt
may_come s (Brings octets) plain = tt
may_come s (Takes count) plain = tt
may_come s (Opens what) plain = absurd plain
may_come s (Befalls c what) plain = tt
may_come s (Closes c) plain = tt
may_come s (KeysRead answer) plain = tt

module _ (kind : EndKind) where
  event_room : (moment conn : ℕ) (what : Event) (s : Service) → HasRoomAtEvent s what → HasRoomAtTakes s (occurs kind moment conn what s)
  event_room moment conn what s room =
      let outcomes = kind.tells (s.ends conn) (time_at moment s) what in
      (room, informed_room (behind_item s (Occurred (time_at moment s) conn what outcomes)) s.application (notices_of_event conn what outcomes))

  answers_room : KeepsAnswers kind HasRoomAtTakes
  answers_room =
      record {
        none = λ s. tt;
        follows = follow_room;
        line_read = λ line s. (tt, tt);
        send = λ moment conn text s. event_room moment conn (event.Send text) s tt;
        release = λ moment conn sub s. event_room moment conn (event.Release sub) s tt;
        answer = λ notice s other. informed_room s s.application (notice ∷ []);
        fetched = λ s. (tt, tt);
      }

  pub room_steadily : IsSteady kind HasRoomAtTakes
  room_steadily =
      record {
        none = λ s. tt;
        follows = follow_room;
        came = λ happening s plain. (may_come s happening plain, tt);
        opened = λ what s still. (still, tt);
        attached = λ s. (tt, all_informed (behind_item s (Came Attaches)) (connected_lines s.known));
        outside = λ moment conn what s own. event_room moment conn what s (outside_room s what own);
        take = λ moment conn s room. event_room moment conn event.Take s room;
        line = λ moment line s there. line_keeps kind HasRoomAtTakes answers_room moment line s;
        keys = λ answer s. informed_room s s.application (keys_notice answer ∷ []);
      }

room_at : (s : Service) (before after : List ServiceItem) (time : EventTime) (conn : ℕ) (outcomes : List TraceOutcome)
    → HasRoomAtTakes s (before ++ Occurred time conn event.Take outcomes ∷ after) → has_room (behind_items s before).application ≡ true
unfolding behind_items
room_at s [] after time conn outcomes p = p.0
room_at s (item ∷ before) after time conn outcomes p = room_at (behind_item s item) before after time conn outcomes p.1

pub taken_with_room : (items : List ServiceItem) → HasRoomAtTakes at_start items → IsTakenWithRoom items
taken_with_room items p before after time conn outcomes e =
    room_at at_start before after time conn outcomes (subst (HasRoomAtTakes at_start) e p)

-- ---- where nothing was drained

open_at : (s : Service) (before after : List ServiceItem) (what : Event)
    → HasRoomAtTakes s (before ++ Came (Opens what) ∷ after) → (behind_items s before).draining ≡ false
unfolding behind_items
open_at s [] after what p = p.0
open_at s (item ∷ before) after what p = open_at (behind_item s item) before after what p.1

-- a drain isn't forgotten
came_drained : (s : Service) (happening : ServiceHappening) → (service_behind_happening s happening).draining ≡ s.draining
came_drained s Attaches = refl
came_drained s Departs = refl
came_drained s (Brings octets) = refl
came_drained s (Takes count) = refl
came_drained s (Opens what) = refl
came_drained s (Befalls c what) = refl
came_drained s (Closes c) = refl
came_drained s (KeysRead answer) = refl

line_drained : (s : Service) (line : ApplicationLine) → (behind_line s line).draining ≡ is_drain line || s.draining
line_drained s (Asks (request.Send conn text)) = refl
line_drained s (Asks (request.Release conn sub)) = refl
line_drained s (Asks request.Drain) = refl
line_drained s (Asks request.Keys) = refl
line_drained s (Asks request.Counts) = refl
line_drained s (Faulty line why) = refl

or_back : (a b c : Bool) → a || (b || c) ≡ (b || a) || c
or_back true true c = refl
or_back true false c = refl
or_back false true c = refl
or_back false false c = refl

item_drained : (s : Service) (item : ServiceItem) → (behind_item s item).draining ≡ is_drain_item item || s.draining
item_drained s (Came happening) = came_drained s happening
item_drained s (LineRead line) = line_drained s line
item_drained s (Occurred time c what outcomes) = refl
item_drained s (Informed notice) = refl
item_drained s KeysFetched = refl

drained_behind : (s : Service) (items : List ServiceItem) → (behind_items s items).draining ≡ was_drained items || s.draining
unfolding behind_items
drained_behind s [] = refl
drained_behind s (item ∷ items) =
    drained_behind (behind_item s item) items
    ∙ ap (λ (d : Bool). was_drained items || d) (item_drained s item)
    ∙ or_back (was_drained items) (is_drain_item item) s.draining

or_false : (a : Bool) → a || false ≡ a
or_false true = refl
or_false false = refl

pub opens_nothing_drained : (items : List ServiceItem) → HasRoomAtTakes at_start items → OpensNothingDrained items
opens_nothing_drained items p before after what e =
    sym (or_false (was_drained before)) ∙ sym (drained_behind at_start before) ∙ open_at at_start before after what (subst (HasRoomAtTakes at_start) e p)
