-- What is claimed of a loop with an application, of histories alone (this profile).
use Rattle.std.specs.Prelude.{Bool, false, true, ◌<◌, ◌≤◌, ◌||◌, ◌≡◌, ℕ, ◌==◌, if◌then◌else◌, List, [], ◌∷◌, ◌++◌, map, Option, Some, None}
use Rattle.er_trace.specs.declared.event.Event.{Event}
use Rattle.er_trace.specs.declared.event.Event.TheVariants as event
use Rattle.er_trace.specs.Outcomes.{TraceOutcome}
use Rattle.application_lines.specs.declared.application_line.ApplicationLine.{ApplicationLine}
use Rattle.application_lines.specs.declared.application_line.ApplicationLine.TheVariants.{Asks, Faulty}
use Rattle.application_lines.specs.declared.request.Request.{Request}
use Rattle.application_lines.specs.declared.request.Request.TheVariants as request
use Rattle.application_lines.specs.Notices.{ApplicationNotice, Connected, Message, Refused, Released, Gone, Counts, Keys, KeysFault, Fault}
use Rattle.application_model.specs.Ends.{KnownEnd, is_known, numbers_known, numbers_unparted, EventTime, EventAt, EndKind, KeepsMessages, texts_accepted}
use Rattle.application_model.specs.Ends.{texts_taken}
use Rattle.application_model.specs.Lines.{notices_of_event, connected_lines, is_line_of, lines_of_connection}
use Rattle.application_model.specs.Histories.{ServiceHappening, Attaches, Departs, Brings, Takes, Opens, Befalls, Closes, KeysRead, ServiceItem, Came}
use Rattle.application_model.specs.Histories.{LineRead}
use Rattle.application_model.specs.Histories.{Occurred, Informed, KeysFetched}
use Rattle.application_model.specs.Services.{Attendance, Absent, Attached, has_room, Service, at_start, behind_items, inform}
use Rattle.application_model.specs.Turns.{Debt, IsDoneInTurn}

-- ---- told: an application is told of a connection the lines of its journal from where it attached on, in order, each once, and none before its event

-- the lines of an event that an application which is there is owed
abbrev pub lines_if_there : ℕ → Attendance → List ApplicationNotice → List ApplicationNotice
lines_if_there conn Absent notices = []
lines_if_there conn (Attached standing waiting) notices = lines_of_connection conn notices

abbrev pub owed_at_happening : ℕ → Service → ServiceHappening → List ApplicationNotice → List ApplicationNotice
owed_at_happening conn s Attaches owed = lines_of_connection conn (connected_lines s.known)
owed_at_happening conn s Departs owed = []
owed_at_happening conn s (Brings octets) owed = owed
owed_at_happening conn s (Takes count) owed = owed
owed_at_happening conn s (Opens what) owed = owed
owed_at_happening conn s (Befalls c what) owed = owed
owed_at_happening conn s (Closes c) owed = owed
owed_at_happening conn s (KeysRead answer) owed = owed

abbrev pub lines_owed : ℕ → Service → ServiceItem → List ApplicationNotice → List ApplicationNotice
lines_owed conn s (Came happening) owed = owed_at_happening conn s happening owed
lines_owed conn s (LineRead line) owed = owed
lines_owed conn s (Occurred time c what outcomes) owed = owed ++ lines_if_there conn s.application (notices_of_event c what outcomes)
lines_owed conn s (Informed notice) owed = owed
lines_owed conn s KeysFetched owed = owed

abbrev pub line_informed : ℕ → ServiceItem → Option ApplicationNotice
line_informed conn (Came happening) = None
line_informed conn (LineRead line) = None
line_informed conn (Occurred time c what outcomes) = None
line_informed conn (Informed notice) = if is_line_of conn notice then Some notice else None
line_informed conn KeysFetched = None

abbrev pub lines_due : ℕ → Debt ApplicationNotice
lines_due conn = record { grows = lines_owed conn; does = line_informed conn }

-- ---- said: each send and release that was read is one event of that connection, in the order read, or one `gone`; a drain releases whoever isn't released

-- what a line asks for: an event at a connection, or `gone`
pub data RequestDeed : Type 0 where
  AtEnd : (conn : ℕ) → Event → RequestDeed
  AsGone : (conn : ℕ) → RequestDeed

abbrev pub deed_where_live : List KnownEnd → ℕ → Event → List RequestDeed
deed_where_live known conn what = if is_known conn known then AtEnd conn what ∷ [] else AsGone conn ∷ []

abbrev pub deeds_of_request : List KnownEnd → Request → List RequestDeed
deeds_of_request known (request.Send conn text) = deed_where_live known conn (event.Send text)
deeds_of_request known (request.Release conn sub) = deed_where_live known conn (event.Release sub)
deeds_of_request known request.Drain = map (λ (conn : ℕ). AtEnd conn (event.Release 0)) (numbers_unparted known)
deeds_of_request known request.Keys = []
deeds_of_request known request.Counts = []

abbrev pub deeds_asked : List KnownEnd → ApplicationLine → List RequestDeed
deeds_asked known (Asks asked) = deeds_of_request known asked
deeds_asked known (Faulty line why) = []

abbrev pub deeds_owed : Service → ServiceItem → List RequestDeed → List RequestDeed
deeds_owed s (Came happening) owed = owed
deeds_owed s (LineRead line) owed = owed ++ deeds_asked s.known line
deeds_owed s (Occurred time c what outcomes) owed = owed
deeds_owed s (Informed notice) owed = owed
deeds_owed s KeysFetched owed = owed

-- the events that are the application's, and `gone`
abbrev pub deed_of_event : ℕ → Event → Option RequestDeed
deed_of_event conn (event.Call engine rbc rb) = None
deed_of_event conn (event.Answer rbc ra) = None
deed_of_event conn (event.Octets octets) = None
deed_of_event conn (event.Send text) = Some (AtEnd conn (event.Send text))
deed_of_event conn event.Take = None
deed_of_event conn (event.Release sub) = Some (AtEnd conn (event.Release sub))
deed_of_event conn event.Tick = None
deed_of_event conn event.Ended = None
deed_of_event conn event.Fault = None
deed_of_event conn event.Stalled = None
deed_of_event conn (event.Full count) = None
deed_of_event conn (event.Unserved count) = None

abbrev pub deed_of_notice : ApplicationNotice → Option RequestDeed
deed_of_notice (Connected c peer) = None
deed_of_notice (Message c text) = None
deed_of_notice (Refused c text why) = None
deed_of_notice (Released c release) = None
deed_of_notice (Gone c) = Some (AsGone c)
deed_of_notice (Counts live opened connected messages) = None
deed_of_notice (Keys entries) = None
deed_of_notice (KeysFault words) = None
deed_of_notice (Fault line why) = None

abbrev pub deed_done : ServiceItem → Option RequestDeed
deed_done (Came happening) = None
deed_done (LineRead line) = None
deed_done (Occurred time conn what outcomes) = deed_of_event conn what
deed_done (Informed notice) = deed_of_notice notice
deed_done KeysFetched = None

abbrev pub deeds_due : Debt RequestDeed
deeds_due = record { grows = deeds_owed; does = deed_done }

-- ---- isolated: the outcomes of a connection are those of its own events

-- the events at a connection, and their outcomes
abbrev pub events_of_item : ℕ → ServiceItem → List EventAt
events_of_item conn (Came happening) = []
events_of_item conn (LineRead line) = []
events_of_item conn (Occurred time c what outcomes) = if conn == c then record { time = time; event = what } ∷ [] else []
events_of_item conn (Informed notice) = []
events_of_item conn KeysFetched = []

abbrev pub outcomes_of_item : ℕ → ServiceItem → List TraceOutcome
outcomes_of_item conn (Came happening) = []
outcomes_of_item conn (LineRead line) = []
outcomes_of_item conn (Occurred time c what outcomes) = if conn == c then outcomes else []
outcomes_of_item conn (Informed notice) = []
outcomes_of_item conn KeysFetched = []

abbrev pub events_at : ℕ → List ServiceItem → List EventAt
events_at conn [] = []
events_at conn (item ∷ items) = events_of_item conn item ++ events_at conn items

abbrev pub outcomes_at_connection : ℕ → List ServiceItem → List TraceOutcome
outcomes_at_connection conn [] = []
outcomes_at_connection conn (item ∷ items) = outcomes_of_item conn item ++ outcomes_at_connection conn items

-- the outcomes of events alone, behind those that came before
abbrev pub outcomes_alone : EndKind → List EventAt → List EventAt → List TraceOutcome
outcomes_alone kind before [] = []
outcomes_alone kind before (x ∷ xs) = kind.tells before x.time x.event ++ outcomes_alone kind (before ++ x ∷ []) xs

abbrev pub GoesByItsEvents : EndKind → List ServiceItem → Type 0
GoesByItsEvents kind items = (conn : ℕ) → outcomes_at_connection conn items ≡ outcomes_alone kind [] (events_at conn items)

-- ---- no loss: each message that was accepted was taken, or waits, in order; it is taken only where the application is there and there is room

abbrev pub LosesNothing : EndKind → List ServiceItem → Type 0
LosesNothing kind items = (conn : ℕ)
    → texts_accepted (outcomes_at_connection conn items) ≡ texts_taken (outcomes_at_connection conn items) ++ kind.waiting (events_at conn items)

abbrev pub IsTakenWithRoom : List ServiceItem → Type 0
IsTakenWithRoom items = (before after : List ServiceItem) (time : EventTime) (conn : ℕ) (outcomes : List TraceOutcome)
    → items ≡ before ++ Occurred time conn event.Take outcomes ∷ after → has_room (behind_items at_start before).application ≡ true

-- ---- a drain: nothing more is accepted

abbrev pub is_drain : ApplicationLine → Bool
is_drain (Asks (request.Send conn text)) = false
is_drain (Asks (request.Release conn sub)) = false
is_drain (Asks request.Drain) = true
is_drain (Asks request.Keys) = false
is_drain (Asks request.Counts) = false
is_drain (Faulty line why) = false

abbrev pub is_drain_item : ServiceItem → Bool
is_drain_item (Came happening) = false
is_drain_item (LineRead line) = is_drain line
is_drain_item (Occurred time conn what outcomes) = false
is_drain_item (Informed notice) = false
is_drain_item KeysFetched = false

-- the line was read
abbrev pub was_drained : List ServiceItem → Bool
was_drained [] = false
was_drained (item ∷ items) = is_drain_item item || was_drained items

abbrev pub OpensNothingDrained : List ServiceItem → Type 0
OpensNothingDrained items = (before after : List ServiceItem) (what : Event) → items ≡ before ++ Came (Opens what) ∷ after → was_drained before ≡ false

-- ---- an application that comes is told of each connected end, numbers rising, before all else

-- numbers that rise from above one to another at the most
abbrev pub RiseTo : ℕ → List ℕ → ℕ → Type 0
RiseTo low [] top = low ≤ top
RiseTo low (n ∷ ns) top = (low < n) × RiseTo n ns top

-- a list that begins another
pub record IsBeginning {A : Type 0} (front whole : List A) : Type 0 where
  pub rest : List A
  pub is : whole ≡ front ++ rest

abbrev pub TellsFirst : List ServiceItem → Type 0
TellsFirst items = (before after : List ServiceItem) → items ≡ before ++ Came Attaches ∷ after
    → IsBeginning (map inform (connected_lines (behind_items at_start before).known)) after

abbrev pub NumbersRise : List ServiceItem → Type 0
NumbersRise items = RiseTo 0 (numbers_known (behind_items at_start items).known) (behind_items at_start items).opened

-- ---- all

pub record ServesItsApplication (kind : EndKind) (items : List ServiceItem) : Type 0 where
  pub told : (conn : ℕ) → IsDoneInTurn (lines_due conn) at_start [] items []
  pub said : IsDoneInTurn deeds_due at_start [] items []
  pub isolated : GoesByItsEvents kind items
  pub kept : KeepsMessages kind → LosesNothing kind items
  pub room : IsTakenWithRoom items
  pub drained : OpensNothingDrained items
  pub first : TellsFirst items
  pub rise : NumbersRise items
