-- What a loop with an application goes by, and what it does when something comes (this profile): who is told what, which lines are taken, where room counts.
use Rattle.std.specs.Prelude.{ℕ, zero, suc, ◌+◌, ◌-◌, min, ◌==◌, nat_lt, Bool, true, false, not, ◌&&◌, if◌then◌else◌, List, [], ◌∷◌, ◌++◌, length, map}
use Rattle.er_trace.specs.declared.event.Event.{Event}
use Rattle.er_trace.specs.declared.event.Event.TheVariants as event
use Rattle.er_trace.specs.Outcomes as trace
use Rattle.er_trace.specs.Outcomes.{TraceOutcome}
use Rattle.application_lines.specs.declared.application_line.ApplicationLine.{ApplicationLine}
use Rattle.application_lines.specs.declared.application_line.ApplicationLine.TheVariants.{Asks, Faulty}
use Rattle.application_lines.specs.declared.request.Request.{Request}
use Rattle.application_lines.specs.declared.request.Request.TheVariants as request
use Rattle.application_lines.specs.Notices.{ApplicationNotice, Gone, Counts, Keys, KeysFault, Fault, notice_text}
use Rattle.application_lines.specs.Standings.{LineStanding, at_first_line, line_standing_from, says_from}
use Rattle.application_model.specs.Ends.{SettingUp, KnownEnd, known_behind, without_end, is_known, numbers_known, numbers_unparted, EventTime, EventAt}
use Rattle.application_model.specs.Ends.{EndKind}
use Rattle.application_model.specs.Ends.{texts_taken}
use Rattle.application_model.specs.Lines.{notices_of_event, connected_lines}
use Rattle.application_model.specs.Histories.{KeysAnswer, Hold, AreFaulty, ServiceHappening, Attaches, Departs, Brings, Takes, Opens, Befalls, Closes}
use Rattle.application_model.specs.Histories.{KeysRead}
use Rattle.application_model.specs.Histories.{ServiceItem, Came, LineRead, Occurred, Informed, KeysFetched}

-- no application is there; or one is, where its stream stands, and how many octets wait for it
pub data Attendance : Type 0 where
  Absent : Attendance
  Attached : LineStanding → (waiting : ℕ) → Attendance

-- what the loop goes by: its live connections, numbers rising, and what came at the end of each; how many were opened, how many connected and how many
-- messages were taken since the start; the application; whether nothing more is accepted; and how often the key file was read again, with success
pub record Service : Type 0 where
  pub known : List KnownEnd
  pub ends : ℕ → List EventAt
  pub opened : ℕ
  pub connected : ℕ
  pub messages : ℕ
  pub application : Attendance
  pub draining : Bool
  pub keys : ℕ

-- the most octets that may wait for an application where a message is taken
abbrev pub most_for_application : ℕ
most_for_application = 262144

abbrev pub is_attached : Attendance → Bool
is_attached Absent = false
is_attached (Attached standing waiting) = true

-- the application is there, and not too much waits for it
abbrev pub has_room : Attendance → Bool
has_room Absent = false
has_room (Attached standing waiting) = not (nat_lt most_for_application waiting)

-- ---- what is known behind an item of the history

abbrev pub heard_from : List ℕ → Attendance → Attendance
heard_from octets Absent = Absent
heard_from octets (Attached standing waiting) = Attached (line_standing_from standing octets) waiting

abbrev pub octets_taken_by : ℕ → Attendance → Attendance
octets_taken_by count Absent = Absent
octets_taken_by count (Attached standing waiting) = Attached standing (waiting - count)

abbrev pub waiting_more : List ℕ → Attendance → Attendance
waiting_more text Absent = Absent
waiting_more text (Attached standing waiting) = Attached standing (waiting + length text)

abbrev pub connections_made : List TraceOutcome → ℕ
connections_made [] = 0
connections_made (trace.Connected peer ∷ outcomes) = 1 + connections_made outcomes
connections_made (trace.Accepted text ∷ outcomes) = connections_made outcomes
connections_made (trace.Taken text ∷ outcomes) = connections_made outcomes
connections_made (trace.Empty ∷ outcomes) = connections_made outcomes
connections_made (trace.RefusedReleased release ∷ outcomes) = connections_made outcomes
connections_made (trace.RefusedNotConnected ∷ outcomes) = connections_made outcomes
connections_made (trace.RefusedLength octets ∷ outcomes) = connections_made outcomes
connections_made (trace.RefusedFull waiting ∷ outcomes) = connections_made outcomes
connections_made (trace.Released release ∷ outcomes) = connections_made outcomes
connections_made (trace.Octets octets ∷ outcomes) = connections_made outcomes

-- nothing came
abbrev pub at_start : Service
at_start = record {
  known = [];
  ends = λ conn. [];
  opened = 0;
  connected = 0;
  messages = 0;
  application = Absent;
  draining = false;
  keys = 0;
}

abbrev pub readings_in_answer : KeysAnswer → ℕ
readings_in_answer (Hold entries) = 1
readings_in_answer (AreFaulty words) = 0

abbrev pub service_behind_happening : Service → ServiceHappening → Service
service_behind_happening s Attaches = record s { application = Attached at_first_line 0 }
service_behind_happening s Departs = record s { application = Absent }
service_behind_happening s (Brings octets) = record s { application = heard_from octets s.application }
service_behind_happening s (Takes count) = record s { application = octets_taken_by count s.application }
service_behind_happening s (Opens what) = record s { known = s.known ++ record { number = s.opened + 1; stage = SettingUp } ∷ []; opened = s.opened + 1 }
service_behind_happening s (Befalls conn what) = s
service_behind_happening s (Closes conn) = record s { known = without_end conn s.known }
service_behind_happening s (KeysRead answer) = record s { keys = s.keys + readings_in_answer answer }

abbrev pub behind_request : Service → Request → Service
behind_request s (request.Send conn text) = s
behind_request s (request.Release conn sub) = s
behind_request s request.Drain = record s { draining = true }
behind_request s request.Keys = s
behind_request s request.Counts = s

abbrev pub behind_line : Service → ApplicationLine → Service
behind_line s (Asks asked) = behind_request s asked
behind_line s (Faulty line why) = s

-- a count that stays at 2 ^ 64 - 1
abbrev pub counted_up : ℕ → ℕ → ℕ
counted_up count more = min (count + more) 18446744073709551615

abbrev pub behind_event : Service → EventTime → ℕ → Event → List TraceOutcome → Service
behind_event s time conn what outcomes = record s {
  known = known_behind conn outcomes s.known;
  ends = λ (c : ℕ). if c == conn then s.ends c ++ record { time = time; event = what } ∷ [] else s.ends c;
  connected = counted_up s.connected (connections_made outcomes);
  messages = counted_up s.messages (length (texts_taken outcomes));
}

abbrev pub behind_item : Service → ServiceItem → Service
behind_item s (Came happening) = service_behind_happening s happening
behind_item s (LineRead line) = behind_line s line
behind_item s (Occurred time conn what outcomes) = behind_event s time conn what outcomes
behind_item s (Informed notice) = record s { application = waiting_more (notice_text notice) s.application }
behind_item s KeysFetched = s

unfoldable pub behind_items : Service → List ServiceItem → Service
behind_items s [] = s
behind_items s (item ∷ items) = behind_items (behind_item s item) items

-- ---- what the loop does

-- one thing, and what follows it from what is known then
unfoldable pub one_then : (Service → List ServiceItem) → (Service → List ServiceItem) → Service → List ServiceItem
one_then first rest s = first s ++ rest (behind_items s (first s))

abbrev pub inform : ApplicationNotice → ServiceItem
inform notice = Informed notice

-- lines are told to an application that is there
abbrev pub informed : Attendance → List ApplicationNotice → List ServiceItem
informed Absent notices = []
informed (Attached standing waiting) notices = map inform notices

abbrev pub informs : List ApplicationNotice → Service → List ServiceItem
informs notices s = informed s.application notices

abbrev pub came_alone : ServiceHappening → Service → List ServiceItem
came_alone happening s = Came happening ∷ []

abbrev pub reads : ApplicationLine → Service → List ServiceItem
reads line s = LineRead line ∷ []

-- an application comes: who is connected is told before all else
abbrev pub attaches : Service → List ServiceItem
attaches s = Came Attaches ∷ map inform (connected_lines s.known)

abbrev pub keys_notice : KeysAnswer → ApplicationNotice
keys_notice (Hold entries) = Keys entries
keys_notice (AreFaulty words) = KeysFault words

-- what the octets say that come from an application
abbrev pub lines_brought : List ℕ → Attendance → List ApplicationLine
lines_brought octets Absent = []
lines_brought octets (Attached standing waiting) = says_from standing octets

-- an event that is neither the application's nor a take
abbrev pub is_of_outside : Event → Bool
is_of_outside (event.Call engine rbc rb) = true
is_of_outside (event.Answer rbc ra) = true
is_of_outside (event.Octets octets) = true
is_of_outside (event.Send text) = false
is_of_outside event.Take = false
is_of_outside (event.Release sub) = false
is_of_outside event.Tick = true
is_of_outside event.Ended = true
is_of_outside event.Fault = true
is_of_outside event.Stalled = true
is_of_outside (event.Full count) = true
is_of_outside (event.Unserved count) = true

-- an event at this moment
abbrev pub time_at : ℕ → Service → EventTime
time_at moment s = record { moment = moment; keys = s.keys }

-- ---- the same over ends of a kind

module _ (kind : EndKind) where
  -- an event at the end of a connection, and its lines
  abbrev pub occurs : ℕ → ℕ → Event → Service → List ServiceItem
  occurs moment conn what s =
      let outcomes = kind.tells (s.ends conn) (time_at moment s) what in
      Occurred (time_at moment s) conn what outcomes ∷ informed s.application (notices_of_event conn what outcomes)

  -- a message is taken where one waits and there is room, so many times at the most
  unfoldable pub takes_most : ℕ → ℕ → ℕ → Service → List ServiceItem
  takes_most moment conn zero s = []
  takes_most moment conn (suc most) s =
      if has_room s.application && nat_lt 0 (length (kind.waiting (s.ends conn)))
      then one_then (occurs moment conn event.Take) (takes_most moment conn most) s
      else []

  -- all that wait at these connections, one connection behind the other
  unfoldable pub takes_at : ℕ → List ℕ → Service → List ServiceItem
  takes_at moment [] s = []
  takes_at moment (conn ∷ conns) s = one_then (takes_most moment conn (length (kind.waiting (s.ends conn)))) (takes_at moment conns) s

  unfoldable pub takes_waiting : ℕ → Service → List ServiceItem
  takes_waiting moment s = takes_at moment (numbers_known s.known) s

  -- ---- lines of the application

  unfoldable pub releases_all : ℕ → List ℕ → Service → List ServiceItem
  releases_all moment [] s = []
  releases_all moment (conn ∷ conns) s = one_then (occurs moment conn (event.Release 0)) (releases_all moment conns) s

  abbrev pub at_live : ℕ → ℕ → Event → Service → List ServiceItem
  at_live moment conn what s = if is_known conn s.known then occurs moment conn what s else informs (Gone conn ∷ []) s

  abbrev pub answers_request : ℕ → Request → Service → List ServiceItem
  answers_request moment (request.Send conn text) s = at_live moment conn (event.Send text) s
  answers_request moment (request.Release conn sub) s = at_live moment conn (event.Release sub) s
  answers_request moment request.Drain s = releases_all moment (numbers_unparted s.known) s
  answers_request moment request.Keys s = KeysFetched ∷ []
  answers_request moment request.Counts s = informs (Counts (length s.known) s.opened s.connected s.messages ∷ []) s

  abbrev pub answers_line : ℕ → ApplicationLine → Service → List ServiceItem
  answers_line moment (Asks asked) s = answers_request moment asked s
  answers_line moment (Faulty line why) s = informs (Fault line why ∷ []) s

  -- a line of an application that is there is read, and answered before the next
  unfoldable pub reads_line : ℕ → ApplicationLine → Service → List ServiceItem
  reads_line moment line s = if is_attached s.application then one_then (reads line) (answers_line moment line) s else []

  unfoldable pub reads_lines : ℕ → List ApplicationLine → Service → List ServiceItem
  reads_lines moment [] s = []
  reads_lines moment (line ∷ lines) s = one_then (reads_line moment line) (reads_lines moment lines) s

  -- ---- what comes

  -- what comes, and what the loop does first: a second application is closed at once; where too much waits for the application, it isn't read
  unfoldable pub meets : ℕ → ServiceHappening → Service → List ServiceItem
  meets moment Attaches s = if is_attached s.application then [] else attaches s
  meets moment Departs s = came_alone Departs s
  meets moment (Brings octets) s =
      if has_room s.application then one_then (came_alone (Brings octets)) (reads_lines moment (lines_brought octets s.application)) s else []
  meets moment (Takes count) s = came_alone (Takes count) s
  meets moment (Opens what) s =
      if is_of_outside what && not s.draining then one_then (came_alone (Opens what)) (occurs moment (s.opened + 1) what) s else []
  meets moment (Befalls conn what) s =
      if is_of_outside what && is_known conn s.known then one_then (came_alone (Befalls conn what)) (occurs moment conn what) s else []
  meets moment (Closes conn) s = came_alone (Closes conn) s
  meets moment (KeysRead answer) s = one_then (came_alone (KeysRead answer)) (informs (keys_notice answer ∷ [])) s

  -- then the messages that wait are taken
  unfoldable pub serves_one : ℕ → ServiceHappening → Service → List ServiceItem
  serves_one moment happening s = one_then (meets moment happening) (takes_waiting moment) s

  -- all that comes, each with its moment
  unfoldable pub serves_all : List (ℕ × ServiceHappening) → Service → List ServiceItem
  serves_all [] s = []
  serves_all (next ∷ happenings) s = one_then (serves_one next.0 next.1) (serves_all happenings) s

  -- the history of a loop from its start
  abbrev pub service_history : List (ℕ × ServiceHappening) → List ServiceItem
  service_history happenings = serves_all happenings at_start
