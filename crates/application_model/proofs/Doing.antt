-- The lines of an application are done in turn: each send and release is an event of its connection or one `gone`.
use Rattle.std.proofs.Common.{◌≡◌, ℕ, true, inl, inr, List, [], ◌∷◌, ◌++◌, length, map, Some, None, refl}
use Rattle.std.proofs.lemmas.Bool.{cases_Bool}
use Rattle.er_trace.specs.declared.event.Event.{Event}
use Rattle.er_trace.specs.declared.event.Event.TheVariants as event
use Rattle.er_trace.specs.Outcomes as trace
use Rattle.er_trace.specs.Outcomes.{TraceOutcome}
use Rattle.application_lines.specs.declared.application_line.ApplicationLine.{ApplicationLine}
use Rattle.application_lines.specs.declared.application_line.ApplicationLine.TheVariants.{Asks, Faulty}
use Rattle.application_lines.specs.declared.request.Request.TheVariants as request
use Rattle.application_lines.specs.Notices.{NoticeRefusal, ApplicationNotice, Gone, Counts, Fault}
use Rattle.application_model.specs.Ends.{EndStage, SettingUp, Speaking, Parted, KnownEnd, EndKind, is_known, numbers_unparted}
use Rattle.application_model.specs.Lines.{send_refused, notices_of_outcome, notices_of_event, stage_line, connected_lines}
use Rattle.application_model.specs.Histories.{KeysAnswer, Hold, AreFaulty, Attaches, Came, Occurred, Informed}
use Rattle.application_model.specs.Services.{Attendance, Absent, Attached, Service, behind_item, behind_items, behind_line, is_attached, one_then, inform}
use Rattle.application_model.specs.Services.{informed, reads, keys_notice, is_of_outside, time_at, occurs, releases_all, at_live, answers_line}
use Rattle.application_model.specs.Turns.{IsDoneInTurn}
use Rattle.application_model.specs.Claims.{RequestDeed, AtEnd, deed_where_live, deeds_asked, deed_of_event, deed_of_notice, deeds_due}
use Rattle.application_model.proofs.Steadies.{Family, IsSteady}
use Rattle.application_model.proofs.Turning.{turn_append}

abbrev pub DoneOf : Family
DoneOf s items = IsDoneInTurn deeds_due s [] items []

-- ---- lines that are no deed

abbrev AreNoDeeds : List ApplicationNotice → Type 0
AreNoDeeds [] = Unit {0}
AreNoDeeds (notice ∷ notices) = (deed_of_notice notice ≡ None) × AreNoDeeds notices

no_deeds_append : (a b : List ApplicationNotice) → AreNoDeeds a → AreNoDeeds b → AreNoDeeds (a ++ b)
no_deeds_append [] b p q = q
no_deeds_append (notice ∷ a) b p q = (p.0, no_deeds_append a b p.1 q)

refused_no_deed : (conn : ℕ) (what : Event) (why : NoticeRefusal) → AreNoDeeds (send_refused conn what why)
refused_no_deed conn (event.Call engine rbc rb) why = tt
refused_no_deed conn (event.Answer rbc ra) why = tt
refused_no_deed conn (event.Octets octets) why = tt
refused_no_deed conn (event.Send text) why = (refl, tt)
refused_no_deed conn event.Take why = tt
refused_no_deed conn (event.Release sub) why = tt
refused_no_deed conn event.Tick why = tt
refused_no_deed conn event.Ended why = tt
refused_no_deed conn event.Fault why = tt
refused_no_deed conn event.Stalled why = tt
refused_no_deed conn (event.Full count) why = tt
refused_no_deed conn (event.Unserved count) why = tt

outcome_no_deed : (conn : ℕ) (what : Event) (outcome : TraceOutcome) → AreNoDeeds (notices_of_outcome conn what outcome)
outcome_no_deed conn what (trace.Connected peer) = (refl, tt)
outcome_no_deed conn what (trace.Accepted text) = tt
outcome_no_deed conn what (trace.Taken text) = (refl, tt)
outcome_no_deed conn what trace.Empty = tt
outcome_no_deed conn what (trace.RefusedReleased release) = refused_no_deed conn what _
outcome_no_deed conn what trace.RefusedNotConnected = refused_no_deed conn what _
outcome_no_deed conn what (trace.RefusedLength octets) = refused_no_deed conn what _
outcome_no_deed conn what (trace.RefusedFull waiting) = refused_no_deed conn what _
outcome_no_deed conn what (trace.Released release) = (refl, tt)
outcome_no_deed conn what (trace.Octets octets) = tt

event_no_deed : (conn : ℕ) (what : Event) (outcomes : List TraceOutcome) → AreNoDeeds (notices_of_event conn what outcomes)
event_no_deed conn what [] = tt
event_no_deed conn what (outcome ∷ outcomes) =
    no_deeds_append (notices_of_outcome conn what outcome) (notices_of_event conn what outcomes) (outcome_no_deed conn what outcome) (event_no_deed conn what outcomes)

stage_no_deed : (number : ℕ) (stage : EndStage) → AreNoDeeds (stage_line number stage)
stage_no_deed number SettingUp = tt
stage_no_deed number (Speaking peer) = (refl, tt)
stage_no_deed number Parted = tt

known_no_deed : (known : List KnownEnd) → AreNoDeeds (connected_lines known)
known_no_deed [] = tt
known_no_deed (k ∷ known) = no_deeds_append (stage_line k.number k.stage) (connected_lines known) (stage_no_deed k.number k.stage) (known_no_deed known)

-- they change nothing of what is owed
no_deeds_done : (s : Service) (owed : List RequestDeed) (notices : List ApplicationNotice) → AreNoDeeds notices
    → IsDoneInTurn deeds_due s owed (map inform notices) owed
no_deeds_done s owed [] none = refl
no_deeds_done s owed (notice ∷ notices) none = rw none.0 (no_deeds_done (behind_item s (Informed notice)) owed notices none.1)

informed_none : (s : Service) (owed : List RequestDeed) (application : Attendance) (notices : List ApplicationNotice) → AreNoDeeds notices
    → IsDoneInTurn deeds_due s owed (informed application notices) owed
informed_none s owed Absent notices none = refl
informed_none s owed (Attached standing waiting) notices none = no_deeds_done s owed notices none

-- ---- events

no_deed_outside : (conn : ℕ) (what : Event) → is_of_outside what ≡ true → deed_of_event conn what ≡ None
no_deed_outside conn (event.Call engine rbc rb) own = refl
no_deed_outside conn (event.Answer rbc ra) own = refl
no_deed_outside conn (event.Octets octets) own = refl
no_deed_outside conn (event.Send text) own = absurd (cc)
no_deed_outside conn event.Take own = refl
no_deed_outside conn (event.Release sub) own = absurd (cc)
no_deed_outside conn event.Tick own = refl
no_deed_outside conn event.Ended own = refl
no_deed_outside conn event.Fault own = refl
no_deed_outside conn event.Stalled own = refl
no_deed_outside conn (event.Full count) own = refl
no_deed_outside conn (event.Unserved count) own = refl

module _ (kind : EndKind) where
  other_event : (moment conn : ℕ) (what : Event) (s : Service) → deed_of_event conn what ≡ None → DoneOf s (occurs kind moment conn what s)
  other_event moment conn what s none =
      let outcomes = kind.tells (s.ends conn) (time_at moment s) what in
      rw none (informed_none (behind_item s (Occurred (time_at moment s) conn what outcomes)) [] s.application (notices_of_event conn what outcomes) (event_no_deed conn what outcomes))

  own_event : (moment conn : ℕ) (what : Event) (s : Service) (owed : List RequestDeed) → deed_of_event conn what ≡ Some (AtEnd conn what)
      → IsDoneInTurn deeds_due s (AtEnd conn what ∷ owed) (occurs kind moment conn what s) owed
  own_event moment conn what s owed mine =
      let outcomes = kind.tells (s.ends conn) (time_at moment s) what in
      rw mine
      (owed, refl, informed_none (behind_item s (Occurred (time_at moment s) conn what outcomes)) owed s.application (notices_of_event conn what outcomes) (event_no_deed conn what outcomes))

  releases_done : (moment : ℕ) (conns : List ℕ) (s : Service)
      → IsDoneInTurn deeds_due s (map (λ (conn : ℕ). AtEnd conn (event.Release 0)) conns) (releases_all kind moment conns s) []
  unfolding releases_all one_then
  releases_done moment [] s = refl
  releases_done moment (conn ∷ conns) s =
      let owed = map (λ (c : ℕ). AtEnd c (event.Release 0)) conns in
      let first = occurs kind moment conn (event.Release 0) s in
      turn_append deeds_due s (AtEnd conn (event.Release 0) ∷ owed) first (releases_all kind moment conns (behind_items s first)) owed []
      (own_event moment conn (event.Release 0) s owed refl) (releases_done moment conns (behind_items s first))

  -- ---- lines

  informed_there : (application : Attendance) (notices : List ApplicationNotice) → is_attached application ≡ true → informed application notices ≡ map inform notices
  informed_there Absent notices there = absurd (cc)
  informed_there (Attached standing waiting) notices there = refl

  live_done : (moment conn : ℕ) (what : Event) (s : Service) → is_attached s.application ≡ true → deed_of_event conn what ≡ Some (AtEnd conn what)
      → IsDoneInTurn deeds_due s (deed_where_live s.known conn what) (at_live kind moment conn what s) []
  live_done moment conn what s there mine =
      elim (cases_Bool (is_known conn s.known)) [
        | inl live ↦ rw live (own_event moment conn what s [] mine)
        | inr other ↦ rw (other, informed_there s.application (Gone conn ∷ []) there) ([], refl, refl)
      ]

  answer_done : (moment : ℕ) (line : ApplicationLine) (s : Service) → is_attached s.application ≡ true
      → IsDoneInTurn deeds_due (behind_line s line) (deeds_asked s.known line) (answers_line kind moment line (behind_line s line)) []
  answer_done moment (Asks (request.Send conn text)) s there = live_done moment conn (event.Send text) s there refl
  answer_done moment (Asks (request.Release conn sub)) s there = live_done moment conn (event.Release sub) s there refl
  answer_done moment (Asks request.Drain) s there = releases_done moment (numbers_unparted s.known) (behind_line s (Asks request.Drain))
  answer_done moment (Asks request.Keys) s there = refl
  answer_done moment (Asks request.Counts) s there = informed_none s [] s.application (Counts (length s.known) s.opened s.connected s.messages ∷ []) (refl, tt)
  answer_done moment (Faulty line why) s there = informed_none s [] s.application (Fault line why ∷ []) (refl, tt)

  line_done : (moment : ℕ) (line : ApplicationLine) (s : Service) → is_attached s.application ≡ true
      → DoneOf s (one_then (reads line) (answers_line kind moment line) s)
  unfolding one_then behind_items
  line_done moment line s there = answer_done moment line s there

  no_deed_of_keys : (answer : KeysAnswer) → AreNoDeeds (keys_notice answer ∷ [])
  no_deed_of_keys (Hold entries) = (refl, tt)
  no_deed_of_keys (AreFaulty words) = (refl, tt)

  pub done_steadily : IsSteady kind DoneOf
  done_steadily =
      record {
        none = λ s. refl;
        follows = λ s a b p q. turn_append deeds_due s [] a b [] [] p q;
        came = λ happening s plain. refl;
        opened = λ what s still. refl;
        attached = λ s. no_deeds_done (behind_item s (Came Attaches)) [] (connected_lines s.known) (known_no_deed s.known);
        outside = λ moment conn what s own. other_event moment conn what s (no_deed_outside conn what own);
        take = λ moment conn s room. other_event moment conn event.Take s refl;
        line = line_done;
        keys = λ answer s. informed_none s [] s.application (keys_notice answer ∷ []) (no_deed_of_keys answer);
      }
