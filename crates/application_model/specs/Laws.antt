-- What the definitions of a loop with an application imply.
use Rattle.std.specs.Prelude.{true, take, drop, ◌≡◌, ◌≢◌, ℕ, ◌+◌, ◌==◌, if◌then◌else◌, List, [], ◌∷◌, ◌++◌, Option, Some, None, codes}
use Rattle.std.specs.List.{All, flat_map, filter_map}
use Rattle.std.specs.Fmt.{decimal}
use Rattle.er_base.specs.declared.release.Release.{Release}
use Rattle.er_base.specs.Hexadecimal.{hex_of}
use Rattle.er_trace.specs.declared.event.Event.{Event}
use Rattle.er_trace.specs.declared.event.Event.TheVariants as event
use Rattle.er_trace.specs.Outcomes as trace
use Rattle.er_trace.specs.Outcomes.{TraceOutcome}
use Rattle.er_trace.specs.Texts.{words_of_outcome}
use Rattle.application_lines.specs.declared.application_line.ApplicationLine.{ApplicationLine}
use Rattle.application_lines.specs.Streams.{stream_says}
use Rattle.application_lines.specs.Notices.{ApplicationNotice, Connected, Message, Refused, Released, Gone, Counts, Keys, KeysFault, Fault, EndReleased}
use Rattle.application_lines.specs.Notices.{Unconnected, OfLength, Overfull, notice_words}
use Rattle.application_model.specs.Ends.{SettingUp, KnownEnd, end_stage_behind, is_known, EventTime, EventAt, EndKind, KeepsMessages, texts_accepted}
use Rattle.application_model.specs.Ends.{texts_taken}
use Rattle.application_model.specs.Lines.{connected_lines, lines_of_connection, notices_of_event}
use Rattle.application_model.specs.Histories.{ServiceHappening, Attaches, Departs, Brings, Takes, Opens, Befalls, Closes, KeysRead, ServiceItem, Came}
use Rattle.application_model.specs.Histories.{LineRead, Occurred, Informed, KeysFetched}
use Rattle.application_model.specs.Services.{lines_brought, readings_in_answer, has_room, Service, at_start, behind_item, behind_items, service_history}
use Rattle.application_model.specs.Turns.{Debt, IsDoneInTurn}
use Rattle.application_model.specs.Claims.{IsBeginning, lines_due, RequestDeed, deeds_owed, deed_done, deeds_due, GoesByItsEvents, LosesNothing}
use Rattle.application_model.specs.Claims.{IsTakenWithRoom, OpensNothingDrained}
use Rattle.application_model.specs.Claims.{NumbersRise, ServesItsApplication}
use Rattle.application_model.specs.Claims.{events_at, outcomes_at_connection, outcomes_alone}

-- whatever comes, the loop does as is claimed
abbrev pub ServiceIsAsClaimed : Type 0
ServiceIsAsClaimed = (kind : EndKind) (happenings : List (ℕ × ServiceHappening)) → ServesItsApplication kind (service_history kind happenings)

-- ---- what waits is taken where there is room

-- a take takes the oldest message that waits
abbrev pub TakesTheOldest : EndKind → Type 0
TakesTheOldest kind = (before : List EventAt) (time : EventTime)
    → kind.waiting (before ++ record { time = time; event = event.Take } ∷ []) ≡ drop 1 (kind.waiting before)

-- behind all that comes: where the application is there and has room, no message waits at a live connection
abbrev pub WaitsForRoomAlone : Type 0
WaitsForRoomAlone =
    (kind : EndKind) (happenings : List (ℕ × ServiceHappening)) (conn : ℕ) → TakesTheOldest kind
    → has_room (behind_items at_start (service_history kind happenings)).application ≡ true
    → is_known conn (behind_items at_start (service_history kind happenings)).known ≡ true
    → kind.waiting ((behind_items at_start (service_history kind happenings)).ends conn) ≡ []

-- ---- what is accepted is told

-- nothing but a take takes a message
abbrev pub TakesAlone : EndKind → Type 0
TakesAlone kind = (before : List EventAt) (time : EventTime) (what : Event) → what ≢ event.Take → texts_taken (kind.tells before time what) ≡ []

-- what an application was told, and of it the messages of a connection
abbrev pub told_in_item : ServiceItem → List ApplicationNotice
told_in_item (Came happening) = []
told_in_item (LineRead line) = []
told_in_item (Occurred time conn what outcomes) = []
told_in_item (Informed notice) = notice ∷ []
told_in_item KeysFetched = []

abbrev pub text_told : ℕ → ApplicationNotice → List (List ℕ)
text_told conn (Connected c peer) = []
text_told conn (Message c text) = if conn == c then text ∷ [] else []
text_told conn (Refused c text why) = []
text_told conn (Released c release) = []
text_told conn (Gone c) = []
text_told conn (Counts live opened connected messages) = []
text_told conn (Keys entries) = []
text_told conn (KeysFault words) = []
text_told conn (Fault line why) = []

abbrev pub texts_told : ℕ → List ServiceItem → List (List ℕ)
texts_told conn items = flat_map (text_told conn) (flat_map told_in_item items)

-- behind all that comes: the messages that the end of a connection accepted are those that were told, in order, and then those that wait at it
abbrev pub AcceptedAreTold : Type 0
AcceptedAreTold =
    (kind : EndKind) (happenings : List (ℕ × ServiceHappening)) (conn : ℕ) → KeepsMessages kind → TakesAlone kind
    → texts_accepted (outcomes_at_connection conn (service_history kind happenings))
    ≡ texts_told conn (service_history kind happenings)
    ++ kind.waiting ((behind_items at_start (service_history kind happenings)).ends conn)

-- ---- what is known of a live connection

-- what came at the end of a connection is its events, in order
abbrev pub EndsHaveTheirEvents : Type 0
EndsHaveTheirEvents = (items : List ServiceItem) (conn : ℕ) → (behind_items at_start items).ends conn ≡ events_at conn items

-- how far its end is by all that the events at it told
abbrev pub IsKnownByEvents : EndKind → (ℕ → List EventAt) → KnownEnd → Type 0
IsKnownByEvents kind ends known = known.stage ≡ end_stage_behind SettingUp (outcomes_alone kind [] (ends known.number))

-- behind all that comes
abbrev pub KnowsByEvents : Type 0
KnowsByEvents =
    (kind : EndKind) (happenings : List (ℕ × ServiceHappening))
    → All (IsKnownByEvents kind (behind_items at_start (service_history kind happenings)).ends)
    (behind_items at_start (service_history kind happenings)).known

-- what comes of an event is what its end tells behind the events that came at it before
abbrev pub EachTellsItsOwn : Type 0
EachTellsItsOwn =
    (kind : EndKind) (happenings : List (ℕ × ServiceHappening)) (before after : List ServiceItem) (time : EventTime) (conn : ℕ) (what : Event)
    (outcomes : List TraceOutcome) → service_history kind happenings ≡ before ++ Occurred time conn what outcomes ∷ after
    → outcomes ≡ kind.tells (events_at conn before) time what

-- ---- which keys hold

-- how often the key file was read again, with success
abbrev pub readings_in_item : ServiceItem → ℕ
readings_in_item (Came Attaches) = 0
readings_in_item (Came Departs) = 0
readings_in_item (Came (Brings octets)) = 0
readings_in_item (Came (Takes count)) = 0
readings_in_item (Came (Opens what)) = 0
readings_in_item (Came (Befalls conn what)) = 0
readings_in_item (Came (Closes conn)) = 0
readings_in_item (Came (KeysRead answer)) = readings_in_answer answer
readings_in_item (LineRead line) = 0
readings_in_item (Occurred time conn what outcomes) = 0
readings_in_item (Informed notice) = 0
readings_in_item KeysFetched = 0

abbrev pub readings_in : List ServiceItem → ℕ
readings_in [] = 0
readings_in (item ∷ items) = readings_in_item item + readings_in items

-- an event comes under the keys of the newest reading before it
abbrev pub EventsHaveTheNewestKeys : Type 0
EventsHaveTheNewestKeys =
    (kind : EndKind) (happenings : List (ℕ × ServiceHappening)) (before after : List ServiceItem) (time : EventTime) (conn : ℕ) (what : Event)
    (outcomes : List TraceOutcome) → service_history kind happenings ≡ before ++ Occurred time conn what outcomes ∷ after
    → time.keys ≡ readings_in before

-- ---- what it means that an application is told in turn

-- no application comes or leaves
abbrev pub IsNoChange : ServiceItem → Type 0
IsNoChange (Came Attaches) = ⊥
IsNoChange (Came Departs) = ⊥
IsNoChange item = Unit {0}

abbrev pub AreNoChanges : List ServiceItem → Type 0
AreNoChanges [] = Unit {0}
AreNoChanges (item ∷ items) = IsNoChange item × AreNoChanges items

-- the lines of the events of a history
abbrev pub journal_of_item : ServiceItem → List ApplicationNotice
journal_of_item (Came happening) = []
journal_of_item (LineRead line) = []
journal_of_item (Occurred time conn what outcomes) = notices_of_event conn what outcomes
journal_of_item (Informed notice) = []
journal_of_item KeysFetched = []

-- from where an application attached on, up to any moment while it is there: of each connection it was told a beginning of who was connected, and of the lines
-- of its journal
abbrev pub ToldBeginsTheJournal : Type 0
ToldBeginsTheJournal =
    (conn : ℕ) (before during after : List ServiceItem) (last : List ApplicationNotice)
    → IsDoneInTurn (lines_due conn) at_start [] (before ++ Came Attaches ∷ (during ++ after)) last → AreNoChanges during
    → IsBeginning (lines_of_connection conn (flat_map told_in_item during))
    (lines_of_connection conn (connected_lines (behind_items at_start before).known ++ flat_map journal_of_item during))

-- ---- which lines are read

abbrev pub lines_to_read_at : Service → ServiceHappening → List ApplicationLine → List ApplicationLine
lines_to_read_at s Attaches owed = []
lines_to_read_at s Departs owed = []
lines_to_read_at s (Brings octets) owed = owed ++ lines_brought octets s.application
lines_to_read_at s (Takes count) owed = owed
lines_to_read_at s (Opens what) owed = owed
lines_to_read_at s (Befalls conn what) owed = owed
lines_to_read_at s (Closes conn) owed = owed
lines_to_read_at s (KeysRead answer) owed = owed

abbrev pub lines_to_read : Service → ServiceItem → List ApplicationLine → List ApplicationLine
lines_to_read s (Came happening) owed = lines_to_read_at s happening owed
lines_to_read s (LineRead line) owed = owed
lines_to_read s (Occurred time conn what outcomes) owed = owed
lines_to_read s (Informed notice) owed = owed
lines_to_read s KeysFetched owed = owed

abbrev pub line_read_by : ServiceItem → Option ApplicationLine
line_read_by (Came happening) = None
line_read_by (LineRead line) = Some line
line_read_by (Occurred time conn what outcomes) = None
line_read_by (Informed notice) = None
line_read_by KeysFetched = None

-- an application's octets owe the lines that they say, each of which is read
abbrev pub lines_due_to_read : Debt ApplicationLine
lines_due_to_read = record { grows = lines_to_read; does = line_read_by }

-- whatever comes: each line is read in turn, and none twice
abbrev pub LinesAreRead : Type 0
LinesAreRead =
    (kind : EndKind) (happenings : List (ℕ × ServiceHappening))
    → IsDoneInTurn lines_due_to_read at_start [] (service_history kind happenings) []

-- what an application brought in a part of a history, and the lines that were read there
abbrev pub octets_brought_by : ServiceItem → List ℕ
octets_brought_by (Came Attaches) = []
octets_brought_by (Came Departs) = []
octets_brought_by (Came (Brings octets)) = octets
octets_brought_by (Came (Takes count)) = []
octets_brought_by (Came (Opens what)) = []
octets_brought_by (Came (Befalls conn what)) = []
octets_brought_by (Came (Closes conn)) = []
octets_brought_by (Came (KeysRead answer)) = []
octets_brought_by (LineRead line) = []
octets_brought_by (Occurred time conn what outcomes) = []
octets_brought_by (Informed notice) = []
octets_brought_by KeysFetched = []

-- so the lines that were read of an application since it came begin what its octets say that it brought
abbrev pub ReadBeginsTheSaid : Type 0
ReadBeginsTheSaid =
    (before during after : List ServiceItem) (last : List ApplicationLine)
    → IsDoneInTurn lines_due_to_read at_start [] (before ++ Came Attaches ∷ (during ++ after)) last → AreNoChanges during
    → IsBeginning (filter_map line_read_by during) (stream_says (flat_map octets_brought_by during))

-- ---- what it means that its lines are done in turn

-- what was asked for in a history that begins where the loop goes by this, and what was done of it
abbrev pub deeds_asked_in : Service → List ServiceItem → List RequestDeed
deeds_asked_in s [] = []
deeds_asked_in s (item ∷ items) = deeds_owed s item [] ++ deeds_asked_in (behind_item s item) items

abbrev pub deeds_done_in : List ServiceItem → List RequestDeed
deeds_done_in items = filter_map deed_done items

-- at each moment: what was done is a beginning of what was asked for
abbrev pub DoneBeginsTheAsked : Type 0
DoneBeginsTheAsked =
    (front back : List ServiceItem) (last : List RequestDeed) → IsDoneInTurn deeds_due at_start [] (front ++ back) last
    → IsBeginning (deeds_done_in front) (deeds_asked_in at_start front)

-- and where nothing is owed any more, it is all of that
abbrev pub AllAskedIsDone : Type 0
AllAskedIsDone = (items : List ServiceItem) → IsDoneInTurn deeds_due at_start [] items [] → deeds_asked_in at_start items ≡ deeds_done_in items

-- ---- at each moment

-- what is claimed of a history, of one that may go on: lines and deeds may still be owed
pub record ServesItSoFar (kind : EndKind) (items : List ServiceItem) : Type 0 where
  pub told : (conn : ℕ) → (owed : List ApplicationNotice) × IsDoneInTurn (lines_due conn) at_start [] items owed
  pub read : (owed : List ApplicationLine) × IsDoneInTurn lines_due_to_read at_start [] items owed
  pub said : (owed : List RequestDeed) × IsDoneInTurn deeds_due at_start [] items owed
  pub isolated : GoesByItsEvents kind items
  pub kept : KeepsMessages kind → LosesNothing kind items
  pub room : IsTakenWithRoom items
  pub drained : OpensNothingDrained items
  pub rise : NumbersRise items

-- wherever a history is cut
abbrev pub EachBeginningIsAsClaimed : Type 0
EachBeginningIsAsClaimed =
    (kind : EndKind) (happenings : List (ℕ × ServiceHappening)) (front back : List ServiceItem) → service_history kind happenings ≡ front ++ back
    → ServesItSoFar kind front

-- ---- the words of the recording

-- the words of an outcome's line, with its connection, and perhaps a message, behind the first
abbrev pub words_with : List (List ℕ) → List (List ℕ) → List (List ℕ)
words_with more words = take 1 words ++ (more ++ drop 1 words)

-- the lines of a connection that is made, of a release and of a refusal have the words of the recording, and that of a message its octets
pub record HasWordsOfRecording : Type 0 where
  pub connected : (conn peer : ℕ) → notice_words (Connected conn peer) ≡ words_with (decimal conn ∷ []) (words_of_outcome (trace.Connected peer))
  pub released : (conn : ℕ) (r : Release) → notice_words (Released conn r) ≡ words_with (decimal conn ∷ []) (words_of_outcome (trace.Released r))
  pub message : (conn : ℕ) (text : List ℕ) → notice_words (Message conn text) ≡ codes "message" ∷ decimal conn ∷ drop 1 (words_of_outcome (trace.Taken text))
  pub refused_released : (conn : ℕ) (text : List ℕ) (r : Release)
      → notice_words (Refused conn text (EndReleased r.reason r.sub))
      ≡ words_with (decimal conn ∷ hex_of text ∷ []) (words_of_outcome (trace.RefusedReleased r))
  pub unconnected : (conn : ℕ) (text : List ℕ)
      → notice_words (Refused conn text Unconnected) ≡ words_with (decimal conn ∷ hex_of text ∷ []) (words_of_outcome trace.RefusedNotConnected)
  pub of_length : (conn : ℕ) (text : List ℕ) (octets : ℕ)
      → notice_words (Refused conn text (OfLength octets)) ≡ words_with (decimal conn ∷ hex_of text ∷ []) (words_of_outcome (trace.RefusedLength octets))
  pub overfull : (conn : ℕ) (text : List ℕ) (waiting : ℕ)
      → notice_words (Refused conn text (Overfull waiting)) ≡ words_with (decimal conn ∷ hex_of text ∷ []) (words_of_outcome (trace.RefusedFull waiting))
