-- An event at a link is that event of the model.
use Rattle.std.proofs.Common.{◌≡◌, ◌∙◌, ℕ, ◌==◌, Bool, true, if◌then◌else◌, List, [], ◌∷◌, ◌++◌, map, refl, sym, ap, subst, append-nil, eq-eqb}
use Rattle.std.specs.List.{flat_map}
use Rattle.er_base.specs.LineTexts.{line_text, lines_text}
use Rattle.er_trace.specs.declared.event.Event.{Event}
use Rattle.er_trace.specs.Outcomes as trace
use Rattle.er_trace.specs.Outcomes.{TraceOutcome}
use Rattle.er_trace.specs.Texts.{entry_words, outcome_words}
use Rattle.er_end_model.specs.Outcomes.{Outcome}
use Rattle.er_end.specs.KeptEnds.{KEnd}
use Rattle.trace_model.specs.Printed.{trace_outcome_of, outcomes_text}
use Rattle.loop_model.specs.Journals.{entry_text}
use Rattle.loop_model.specs.Sessions.{Rules, GivenToSession, Begins, Hears, Sends, Takes, Leaves, Ticks, Ends, Faults, Stalls, journal_event_of_given, end_after}
use Rattle.loop_session.specs.Keeping.{kept_ends}
use Rattle.application_lines.specs.Notices.{NoticeRefusal, ApplicationNotice, notice_text}
use Rattle.application_model.specs.Ends.{EventAt}
use Rattle.application_model.specs.Lines.{send_refused, notices_of_outcome, notices_of_event}
use Rattle.application_model.specs.Histories.{Occurred, Informed}
use Rattle.application_model.specs.Services.{Attendance, Absent, Attached, Service, behind_item, behind_items, inform, informed, time_at, occurs}
use Rattle.application_port.specs.Ports.{attendance_of, told_at_port}
use Rattle.application_telling.specs.Texts.{event_of_sent, application_text}
use Rattle.application_telling.specs.Laws.{PortGoesByTheModel}
use Rattle.application_ends.specs.StackEnds.{stack_kind}
use Rattle.application_ends.specs.Laws.{recording_of_service, text_of_item}
use Rattle.application_loop.specs.StackSteps.{StandsBehind, IsNoBeginning, given_at, KeptGoOnAlike}
use Rattle.application_loop.specs.Occurring.{message_sent_by, outcomes_at_link, entry_at_link}
use Rattle.application_loop.specs.declared.link.Link.{Link}
use Rattle.application_loop.specs.LinkGoing.{OccursByTheModel}

-- ---- lines that are told

told_ends : (s : Service) (notices : List ApplicationNotice) (conn : ℕ) → (behind_items s (map inform notices)).ends conn ≡ s.ends conn
unfolding behind_items
told_ends s [] conn = refl
told_ends s (notice ∷ notices) conn = told_ends (behind_item s (Informed notice)) notices conn

informed_ends : (s : Service) (application : Attendance) (notices : List ApplicationNotice) (conn : ℕ)
    → (behind_items s (informed application notices)).ends conn ≡ s.ends conn
unfolding behind_items
informed_ends s Absent notices conn = refl
informed_ends s (Attached standing waiting) notices conn = told_ends s notices conn

told_records : (notices : List ApplicationNotice) → recording_of_service (map inform notices) ≡ []
told_records [] = refl
told_records (notice ∷ notices) = told_records notices

informed_records : (application : Attendance) (notices : List ApplicationNotice) → recording_of_service (informed application notices) ≡ []
informed_records Absent notices = refl
informed_records (Attached standing waiting) notices = told_records notices

-- ---- lines of an event

lines_alike : (conn : ℕ) (outcomes : List Outcome) → outcomes_text conn outcomes ≡ lines_text (map (outcome_words conn) (map trace_outcome_of outcomes))
unfolding outcomes_text
lines_alike conn outcomes = ap lines_text (map_twice outcomes)
  where
    map_twice : (os : List Outcome) → map (λ (o : Outcome). outcome_words conn (trace_outcome_of o)) os ≡ map (outcome_words conn) (map trace_outcome_of os)
    map_twice [] = refl
    map_twice (o ∷ os) = ap (λ (w : List (List (List ℕ))). outcome_words conn (trace_outcome_of o) ∷ w) (map_twice os)

-- an event is told by its outcomes, and by its message where it sent one
module _ (conn : ℕ) (a b : Event) (same : (why : NoticeRefusal) → send_refused conn a why ≡ send_refused conn b why) where
  outcome_told : (o : TraceOutcome) → notices_of_outcome conn a o ≡ notices_of_outcome conn b o
  outcome_told (trace.Connected peer) = refl
  outcome_told (trace.Accepted text) = refl
  outcome_told (trace.Taken text) = refl
  outcome_told trace.Empty = refl
  outcome_told (trace.RefusedReleased release) = same _
  outcome_told trace.RefusedNotConnected = same _
  outcome_told (trace.RefusedLength octets) = same _
  outcome_told (trace.RefusedFull waiting) = same _
  outcome_told (trace.Released release) = refl
  outcome_told (trace.Octets octets) = refl

  event_told : (os : List TraceOutcome) → notices_of_event conn a os ≡ notices_of_event conn b os
  event_told [] = refl
  event_told (o ∷ os) =
      ap (λ (n : List ApplicationNotice). n ++ notices_of_event conn a os) (outcome_told o)
      ∙ ap (λ (n : List ApplicationNotice). notices_of_outcome conn b o ++ n) (event_told os)

sent_same : (conn : ℕ) (k : KEnd) (g : GivenToSession) → IsNoBeginning g → (why : NoticeRefusal)
    → send_refused conn (event_of_sent (message_sent_by g)) why ≡ send_refused conn (journal_event_of_given kept_ends k g) why
sent_same conn k (Begins engine rbc rb) other why = absurd other
sent_same conn k (Hears octets) other why = refl
sent_same conn k (Sends text) other why = refl
sent_same conn k Takes other why = refl
sent_same conn k (Leaves sub) other why = refl
sent_same conn k Ticks other why = refl
sent_same conn k Ends other why = refl
sent_same conn k Faults other why = refl
sent_same conn k Stalls other why = refl

-- ---- an event

itself : (c : ℕ) → (c == c) ≡ true
itself c = eq-eqb c c refl

-- its lines are those of its item, and the application is told the lines of its outcomes
pub lines_of_event : (moment : ℕ) (r : Rules) (g : GivenToSession) (old : Link)
    → entry_text (entry_at_link r moment old g)
    ≡ line_text (entry_words moment old.number (journal_event_of_given kept_ends old.end.value g))
    ++ lines_text (map (outcome_words old.number) (map trace_outcome_of (outcomes_at_link r moment old g)))
unfolding entry_text
lines_of_event moment r g old =
    ap (λ (l : List ℕ). line_text (entry_words moment old.number (journal_event_of_given kept_ends old.end.value g)) ++ l)
    (lines_alike old.number (outcomes_at_link r moment old g))

pub told_of_event : (moment : ℕ) (r : Rules) (g : GivenToSession) (old : Link) → IsNoBeginning g
    → application_text old.number (event_of_sent (message_sent_by g)) (outcomes_at_link r moment old g)
    ≡ flat_map notice_text (notices_of_event old.number (journal_event_of_given kept_ends old.end.value g) (map trace_outcome_of (outcomes_at_link r moment old g)))
unfolding application_text
told_of_event moment r g old other =
    ap (flat_map notice_text)
    (event_told old.number (event_of_sent (message_sent_by g)) (journal_event_of_given kept_ends old.end.value g) (sent_same old.number old.end.value g other)
    (map trace_outcome_of (outcomes_at_link r moment old g)))

pub occurs_by_the_model : KeptGoOnAlike → PortGoesByTheModel → OccursByTheModel
unfolding behind_items entry_text application_text
occurs_by_the_model on port settings held s moment r g old now desk after other keys stands occurred =
    let n = old.number in
    let what = journal_event_of_given kept_ends old.end.value g in
    let time = time_at moment s in
    let alike = on settings held r time (s.ends n) old.end.value g other keys stands.end in
    let outcomes = (stack_kind settings held).tells (s.ends n) time what in
    let notices = notices_of_event n what outcomes in
    let t = behind_item s (Occurred time n what outcomes) in
    let items = occurs (stack_kind settings held) moment n what s in
    let came : (behind_items s items).ends n ≡ s.ends n ++ given_at r time old.end.value g ∷ [] =
    informed_ends t s.application notices n
    ∙ ap (λ (b : Bool). if b then s.ends n ++ given_at r time old.end.value g ∷ [] else s.ends n) (itself n) in
    let told : after.port ≡ told_at_port (flat_map notice_text notices) desk.port =
    occurred.told
    ∙ ap (λ (l : List ApplicationNotice). told_at_port (flat_map notice_text l) desk.port)
    (event_told n (event_of_sent (message_sent_by g)) what (sent_same n old.end.value g other) (map trace_outcome_of (outcomes_at_link r moment old g))
    ∙ ap (notices_of_event n what) alike.tells) in
    record {
      number = occurred.number;
      stands = record {
        end =
            subst (StandsBehind settings held ((behind_items s items).ends now.number)) (sym occurred.end)
            (subst (λ (c : ℕ). StandsBehind settings held ((behind_items s items).ends c) (end_after kept_ends r moment old.end.value g)) (sym occurred.number)
            (subst (λ (e : List EventAt). StandsBehind settings held e (end_after kept_ends r moment old.end.value g)) (sym came) alike.stands));
        application = port.told t desk.port notices stands.application ∙ ap attendance_of (sym told);
      };
      lines =
          occurred.lines.text
          ∙ ap (λ (l : List ℕ). line_text (entry_words moment n what) ++ l) (lines_alike n (outcomes_at_link r moment old g))
          ∙ ap (λ (o : List TraceOutcome). line_text (entry_words moment n what) ++ lines_text (map (outcome_words n) o)) alike.tells
          ∙ sym (append-nil (text_of_item (Occurred time n what outcomes)))
          ∙ ap (λ (l : List ℕ). text_of_item (Occurred time n what outcomes) ++ l) (sym (informed_records s.application notices));
      others = λ conn apart.
          informed_ends t s.application notices conn
          ∙ ap (λ (b : Bool). if b then s.ends conn ++ given_at r time old.end.value g ∷ [] else s.ends conn) apart;
    }
