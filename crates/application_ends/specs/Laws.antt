-- What the ends of this stack are to a loop with an application.
use Rattle.std.specs.Prelude.{ℕ, true, ◌≡◌, if◌then◌else◌, ◌==◌, List, [], ◌∷◌, ◌++◌, map, Option, None}
use Rattle.std.specs.List.{All, flat_map}
use Rattle.er_base.specs.LineTexts.{line_text, lines_text}
use Rattle.er_settings.specs.Values.{Settings}
use Rattle.er_trace.specs.declared.entry.Entry.{Entry}
use Rattle.er_trace.specs.Texts.{header_words, entry_words, outcome_words}
use Rattle.er_end_model.specs.Steps.{Finds}
use Rattle.er_end_model.specs.Ends.{End}
use Rattle.trace_model.specs.Checks.{fault_of_trace_event}
use Rattle.trace_model.specs.Replays.{AreTaken}
use Rattle.trace_model.specs.Printed.{trace_outcome_of, outcomes_at, text_of_trace}
use Rattle.application_model.specs.Ends.{SettingUp, KnownEnd, end_stage_behind, is_known, EventTime, EventAt, KeepsMessages}
use Rattle.application_model.specs.Histories.{ServiceHappening, ServiceItem, Came, LineRead, Occurred, Informed, KeysFetched}
use Rattle.application_model.specs.Services.{has_room, Service, at_start, behind_items, service_history}
use Rattle.application_model.specs.Claims.{outcomes_alone}
use Rattle.application_model.specs.Laws.{TakesTheOldest, TakesAlone, texts_told}
use Rattle.application_ends.specs.StackEnds.{HeldKeys, end_of_events, texts_accepted_at, texts_waiting_at, stack_kind, stage_of_end}

-- ---- a kind of ends as the laws of any kind want it

abbrev pub StackKeepsMessages : Type 0
StackKeepsMessages = (settings : Settings) (held : HeldKeys) → KeepsMessages (stack_kind settings held)

abbrev pub StackTakesTheOldest : Type 0
StackTakesTheOldest = (settings : Settings) (held : HeldKeys) → TakesTheOldest (stack_kind settings held)

abbrev pub StackTakesAlone : Type 0
StackTakesAlone = (settings : Settings) (held : HeldKeys) → TakesAlone (stack_kind settings held)

-- ---- no loss

-- what a loop over these ends does, where it stands then, and the end of a connection then
abbrev pub stack_history : Settings → HeldKeys → List (ℕ × ServiceHappening) → List ServiceItem
stack_history settings held happenings = service_history (stack_kind settings held) happenings

abbrev pub stack_service : Settings → HeldKeys → List (ℕ × ServiceHappening) → Service
stack_service settings held happenings = behind_items at_start (stack_history settings held happenings)

abbrev pub end_of_connection : Settings → HeldKeys → List (ℕ × ServiceHappening) → ℕ → Option End
end_of_connection settings held happenings conn = end_of_events settings held ((stack_service settings held happenings).ends conn)

-- the messages that the end of a connection accepted are those that an application was told, in order, and then those that wait at the end; and none waits
-- where the connection is live and an application is there and has room
pub record LosesNoMessage (settings : Settings) (held : HeldKeys) (happenings : List (ℕ × ServiceHappening)) (conn : ℕ) : Type 0 where
  pub told : texts_accepted_at (end_of_connection settings held happenings conn)
      ≡ texts_told conn (stack_history settings held happenings) ++ texts_waiting_at (end_of_connection settings held happenings conn)
  pub none_waits : has_room (stack_service settings held happenings).application ≡ true → is_known conn (stack_service settings held happenings).known ≡ true
      → texts_waiting_at (end_of_connection settings held happenings conn) ≡ []

abbrev pub StackLosesNothing : Type 0
StackLosesNothing = (settings : Settings) (held : HeldKeys) (happenings : List (ℕ × ServiceHappening)) (conn : ℕ) → LosesNoMessage settings held happenings conn

-- ---- how far an end is

-- what the outcomes of all events at an end say of it is its own state
abbrev pub OutcomesSayTheStage : Type 0
OutcomesSayTheStage =
    (settings : Settings) (held : HeldKeys) (events : List EventAt)
    → end_stage_behind SettingUp (outcomes_alone (stack_kind settings held) [] events) ≡ stage_of_end (end_of_events settings held events)

-- so what a loop knows of each live connection
abbrev pub KnownStagesAreTrue : Type 0
KnownStagesAreTrue =
    (settings : Settings) (held : HeldKeys) (happenings : List (ℕ × ServiceHappening))
    → All (λ (known : KnownEnd). known.stage ≡ stage_of_end (end_of_connection settings held happenings known.number))
    (stack_service settings held happenings).known

-- ---- the words of a recording

-- a trace doesn't say which keys held: a replay looks up by one key file
abbrev pub at_start_of_keys : ℕ → EventTime
at_start_of_keys moment = record { moment = moment; keys = 0 }

abbrev pub held_alone : Finds → HeldKeys
held_alone finds keys = finds

-- the events of a trace at a connection
abbrev pub events_of_entry : ℕ → Entry → List EventAt
events_of_entry conn entry = if entry.conn == conn then record { time = at_start_of_keys entry.moment; event = entry.event } ∷ [] else []

abbrev pub events_in_trace : ℕ → List Entry → List EventAt
events_in_trace conn [] = []
events_in_trace conn (entry ∷ entries) = events_of_entry conn entry ++ events_in_trace conn entries

-- behind events of a trace that are taken, what comes of one more that is taken is what a replay prints of it
abbrev pub ReplaysTellTheSame : Type 0
ReplaysTellTheSame =
    (settings : Settings) (finds : Finds) (before : List Entry) (entry : Entry) → AreTaken settings finds before
    → fault_of_trace_event settings finds before entry ≡ None
    → (stack_kind settings (held_alone finds)).tells (events_in_trace entry.conn before) (at_start_of_keys entry.moment) entry.event
    ≡ map trace_outcome_of (outcomes_at settings finds before entry)

-- what a loop records: of each event its line, and those of its outcomes
abbrev pub text_of_item : ServiceItem → List ℕ
text_of_item (Came happening) = []
text_of_item (LineRead line) = []
text_of_item (Occurred time conn what outcomes) = line_text (entry_words time.moment conn what) ++ lines_text (map (outcome_words conn) outcomes)
text_of_item (Informed notice) = []
text_of_item KeysFetched = []

abbrev pub recording_of_service : List ServiceItem → List ℕ
recording_of_service items = flat_map text_of_item items

-- its events as those of a trace; their lines aren't numbered here
abbrev pub entries_of_item : ServiceItem → List Entry
entries_of_item (Came happening) = []
entries_of_item (LineRead line) = []
entries_of_item (Occurred time conn what outcomes) = record { line = 0; moment = time.moment; conn = conn; event = what } ∷ []
entries_of_item (Informed notice) = []
entries_of_item KeysFetched = []

abbrev pub entries_of_service : List ServiceItem → List Entry
entries_of_service items = flat_map entries_of_item items

-- what a replay looks up at the moment of an event is what the keys gave that held as it came
abbrev pub LooksUpAsThen : HeldKeys → Finds → ServiceItem → Type 0
LooksUpAsThen held finds (Came happening) = Unit {0}
LooksUpAsThen held finds (LineRead line) = Unit {0}
LooksUpAsThen held finds (Occurred time conn what outcomes) = held time.keys time.moment ≡ finds time.moment
LooksUpAsThen held finds (Informed notice) = Unit {0}
LooksUpAsThen held finds KeysFetched = Unit {0}

abbrev pub AllLookUpAsThen : HeldKeys → Finds → List ServiceItem → Type 0
AllLookUpAsThen held finds [] = Unit {0}
AllLookUpAsThen held finds (item ∷ items) = LooksUpAsThen held finds item × AllLookUpAsThen held finds items

-- under such a key file, and where all events are taken, a replay of them prints what a loop over these ends records, at each moment
abbrev pub ReplaysPrintRecordings : Type 0
ReplaysPrintRecordings =
    (settings : Settings) (held : HeldKeys) (finds : Finds) (happenings : List (ℕ × ServiceHappening)) (front back : List ServiceItem)
    → stack_history settings held happenings ≡ front ++ back → AllLookUpAsThen held finds front
    → AreTaken settings finds (entries_of_service front)
    → text_of_trace settings finds (entries_of_service front)
    ≡ line_text (header_words settings) ++ recording_of_service front
