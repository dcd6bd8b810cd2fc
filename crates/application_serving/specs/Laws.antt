-- What follows of what a loop with an application did, at each moment.
use Rattle.std.specs.Prelude.{ℕ, ◌<◌, ◌≡◌, ◌≢◌, List, [], ◌∷◌, ◌++◌, filter_map}
use Rattle.std.specs.List.{flat_map}
use Rattle.er_base.specs.LineTexts.{line_text}
use Rattle.er_settings.specs.Values.{Settings}
use Rattle.er_trace.specs.Texts.{header_words}
use Rattle.er_end_model.specs.Steps.{Finds}
use Rattle.trace_model.specs.Printed.{text_of_trace}
use Rattle.trace_model.specs.Replays.{AreTaken}
use Rattle.outside.specs.Doings.{Told}
use Rattle.application_lines.specs.Notices.{notice_text}
use Rattle.application_lines.specs.Streams.{stream_says}
use Rattle.application_model.specs.Ends.{EndKind}
use Rattle.application_model.specs.Histories.{ServiceItem, Attaches, Came}
use Rattle.application_model.specs.Lines.{connected_lines, lines_of_connection}
use Rattle.application_model.specs.Services.{at_start, behind_items}
use Rattle.application_model.specs.Claims.{IsBeginning, LosesNothing}
use Rattle.application_model.specs.Laws.{ServesItSoFar, AreNoChanges, told_in_item, journal_of_item, line_read_by, deeds_asked_in, deeds_done_in}
use Rattle.application_ends.specs.Laws.{recording_of_service, AllLookUpAsThen, entries_of_service}
use Rattle.application_serving.specs.SeenOctets.{octets_given_to, SeenThere, application_in_acts}
use Rattle.application_serving.specs.Serving.{text_written_by_acts, octets_told_at, key_files_in_acts, held_by_files, kind_by_acts, ServiceDeed, acts_in_service}
use Rattle.application_serving.specs.Serving.{items_in_service, Serves}

-- this holds of what was done, and of the history, by each moment of what was done
abbrev pub AtEachMoment : (Settings → EndKind → List ServiceDeed → Type 0) → Type 0
AtEachMoment Holds =
    (settings : Settings) (start : Finds) (before now : Told) (serves : Serves settings start before now) (front rest : List ServiceDeed)
    → serves.deeds ≡ front ++ rest → Holds settings (kind_by_acts settings start (acts_in_service serves.deeds)) front

-- all is so that the model of the loop claims
abbrev pub ServesByTheModel : Type 0
ServesByTheModel = AtEachMoment (λ settings kind front. ServesItSoFar kind (items_in_service front))

-- each message that an end accepted was taken, or waits at it, in order
abbrev pub LosesNoneSoFar : Type 0
LosesNoneSoFar = AtEachMoment (λ settings kind front. LosesNothing kind (items_in_service front))

-- ---- recorded before

-- what was given to a connection, its end told in events that were recorded
pub record IsRecordedFirst (settings : Settings) (written given : List ℕ) (conn : ℕ) (items : List ServiceItem) : Type 0 where
  pub recorded : written ≡ line_text (header_words settings) ++ recording_of_service items
  pub told : IsBeginning given (octets_told_at conn items)

abbrev pub RecordsFirst : Type 0
RecordsFirst =
    AtEachMoment
    (λ settings kind front.
    (conn : ℕ) → 0 < conn → octets_given_to conn (acts_in_service front) ≢ []
    → IsRecordedFirst settings (text_written_by_acts (acts_in_service front)) (octets_given_to conn (acts_in_service front)) conn (items_in_service front))

-- ---- replayed

-- what was written is what a replay prints, under a key file that gives the keys that held at the moment of each event
abbrev pub WritesWhatReplays : Type 0
WritesWhatReplays =
    (settings : Settings) (start : Finds) (before now : Told) (serves : Serves settings start before now) (front rest : List ServiceDeed) (finds : Finds)
    → serves.deeds ≡ front ++ rest
    → AllLookUpAsThen (held_by_files start (key_files_in_acts (acts_in_service serves.deeds))) finds (items_in_service front)
    → AreTaken settings finds (entries_of_service (items_in_service front)) → text_written_by_acts (acts_in_service front) ≢ []
    → text_written_by_acts (acts_in_service front) ≡ text_of_trace settings finds (entries_of_service (items_in_service front))

-- ---- told

-- what was given to an application begins the texts of lines, and of each connection these begin the lines of its journal from where the application came
pub record IsGivenInOrder (given : List ℕ) (earlier during : List ServiceItem) : Type 0 where
  pub told : IsBeginning given (flat_map notice_text (flat_map told_in_item during))
  pub journal : (conn : ℕ)
      → IsBeginning (lines_of_connection conn (flat_map told_in_item during))
      (lines_of_connection conn (connected_lines (behind_items at_start earlier).known ++ flat_map journal_of_item during))

abbrev pub GivesInOrder : Type 0
GivesInOrder =
    AtEachMoment
    (λ settings kind front.
    (earlier during : List ServiceItem) (read given : List ℕ) → items_in_service front ≡ earlier ++ Came Attaches ∷ during → AreNoChanges during
    → application_in_acts (acts_in_service front) ≡ SeenThere read given → IsGivenInOrder given earlier during)

-- ---- said

-- the lines that were read of an application begin what the octets say that were read of it since it came
abbrev pub ReadsInOrder : Type 0
ReadsInOrder =
    AtEachMoment
    (λ settings kind front.
    (earlier during : List ServiceItem) (read given : List ℕ) → items_in_service front ≡ earlier ++ Came Attaches ∷ during → AreNoChanges during
    → application_in_acts (acts_in_service front) ≡ SeenThere read given → IsBeginning (filter_map line_read_by during) (stream_says read))

-- what was done of the application's lines begins what they asked for, in order
abbrev pub DoesInOrder : Type 0
DoesInOrder = AtEachMoment (λ settings kind front. IsBeginning (deeds_done_in (items_in_service front)) (deeds_asked_in at_start (items_in_service front)))
