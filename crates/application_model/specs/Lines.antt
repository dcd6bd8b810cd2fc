-- What an application is told of the events of a connection (this profile): the lines of its journal, in the words of the recording.
use Rattle.std.specs.Prelude.{ℕ, ◌==◌, Bool, false, List, [], ◌∷◌, filter}
use Rattle.std.specs.List.{flat_map}
use Rattle.er_trace.specs.declared.event.Event.{Event}
use Rattle.er_trace.specs.declared.event.Event.TheVariants as event
use Rattle.er_trace.specs.Outcomes as trace
use Rattle.er_trace.specs.Outcomes.{TraceOutcome}
use Rattle.application_lines.specs.Notices.{NoticeRefusal, EndReleased, Unconnected, OfLength, Overfull, ApplicationNotice, Connected, Message, Refused}
use Rattle.application_lines.specs.Notices.{Released, Gone, Counts, Keys, KeysFault, Fault}
use Rattle.application_model.specs.Ends.{EndStage, SettingUp, Speaking, Parted, KnownEnd}

-- a send of the application was refused; nothing else is refused
abbrev pub send_refused : ℕ → Event → NoticeRefusal → List ApplicationNotice
send_refused conn (event.Call engine rbc rb) why = []
send_refused conn (event.Answer rbc ra) why = []
send_refused conn (event.Octets octets) why = []
send_refused conn (event.Send text) why = Refused conn text why ∷ []
send_refused conn event.Take why = []
send_refused conn (event.Release sub) why = []
send_refused conn event.Tick why = []
send_refused conn event.Ended why = []
send_refused conn event.Fault why = []
send_refused conn event.Stalled why = []
send_refused conn (event.Full count) why = []
send_refused conn (event.Unserved count) why = []

-- the line of one outcome of an event, where it has one: a message is told as it is taken, and not as it is accepted
abbrev pub notices_of_outcome : ℕ → Event → TraceOutcome → List ApplicationNotice
notices_of_outcome conn what (trace.Connected peer) = Connected conn peer ∷ []
notices_of_outcome conn what (trace.Accepted text) = []
notices_of_outcome conn what (trace.Taken text) = Message conn text ∷ []
notices_of_outcome conn what trace.Empty = []
notices_of_outcome conn what (trace.RefusedReleased release) = send_refused conn what (EndReleased release.reason release.sub)
notices_of_outcome conn what trace.RefusedNotConnected = send_refused conn what Unconnected
notices_of_outcome conn what (trace.RefusedLength octets) = send_refused conn what (OfLength octets)
notices_of_outcome conn what (trace.RefusedFull waiting) = send_refused conn what (Overfull waiting)
notices_of_outcome conn what (trace.Released release) = Released conn release ∷ []
notices_of_outcome conn what (trace.Octets octets) = []

abbrev pub notices_of_event : ℕ → Event → List TraceOutcome → List ApplicationNotice
notices_of_event conn what outcomes = flat_map (notices_of_outcome conn what) outcomes

-- who is connected is told first where an application comes
abbrev pub stage_line : ℕ → EndStage → List ApplicationNotice
stage_line number SettingUp = []
stage_line number (Speaking peer) = Connected number peer ∷ []
stage_line number Parted = []

abbrev pub connected_lines : List KnownEnd → List ApplicationNotice
connected_lines known = flat_map (λ (k : KnownEnd). stage_line k.number k.stage) known

-- whether a line is one of a connection's journal; `gone`, `counts`, `keys` and `fault` answer the application
abbrev pub is_line_of : ℕ → ApplicationNotice → Bool
is_line_of conn (Connected c peer) = c == conn
is_line_of conn (Message c text) = c == conn
is_line_of conn (Refused c text why) = c == conn
is_line_of conn (Released c release) = c == conn
is_line_of conn (Gone c) = false
is_line_of conn (Counts live opened connected messages) = false
is_line_of conn (Keys entries) = false
is_line_of conn (KeysFault words) = false
is_line_of conn (Fault line why) = false

abbrev pub lines_of_connection : ℕ → List ApplicationNotice → List ApplicationNotice
lines_of_connection conn notices = filter (is_line_of conn) notices
