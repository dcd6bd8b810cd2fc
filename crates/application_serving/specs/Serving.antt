-- What a loop with an application did, by all the acts of its outside (this profile): there is a history of the model of which each moment is a part. What was
-- written is its recording; what was given to the application is what it was told; what was given to a connection, its end told.
use Rattle.std.specs.Prelude.{ℕ, zero, suc, ◌<◌, ◌≡◌, ◌⊎◌, true, false, List, [], ◌∷◌, ◌++◌, length, max, fold, Option, Result, Ok, Err, filter_map}
use Rattle.std.specs.List.{All, flat_map}
use Rattle.er_base.specs.LineTexts.{line_text}
use Rattle.er_settings.specs.Values.{Settings}
use Rattle.safety_automaton.specs.Keys.{KmacEntry, key_at}
use Rattle.key_store.specs.declared.key_file_fault.KeyFileFault.{KeyFileFault}
use Rattle.key_store.specs.KeyFiles.{keys_of}
use Rattle.er_end_model.specs.Steps.{Finds}
use Rattle.er_trace.specs.declared.event.Event.{Event}
use Rattle.er_trace.specs.declared.event.Event.TheVariants as event
use Rattle.er_trace.specs.Outcomes as trace
use Rattle.er_trace.specs.Outcomes.{TraceOutcome}
use Rattle.er_trace.specs.Texts.{header_words}
use Rattle.outside.specs.Acts.{Fetch, Gave, Failed, Spent, Act, Fetched, Wrote, Called, Asked, Drew, moments_in_acts}
use Rattle.outside.specs.Doings.{Told, Did}
use Rattle.application_lines.specs.Notices.{notice_text}
use Rattle.application_model.specs.Ends.{EventAt, is_known, EndKind}
use Rattle.application_model.specs.Histories.{ServiceHappening, Attaches, Departs, Brings, Takes, Opens, Befalls, Closes, KeysRead, ServiceItem, Came}
use Rattle.application_model.specs.Histories.{LineRead, Occurred}
use Rattle.application_model.specs.Histories.{Informed, KeysFetched}
use Rattle.application_model.specs.Services.{at_start, behind_items, service_history}
use Rattle.application_model.specs.Claims.{IsBeginning, events_at, outcomes_at_connection}
use Rattle.application_model.specs.Laws.{readings_in}
use Rattle.application_ends.specs.StackEnds.{HeldKeys, stack_kind}
use Rattle.application_ends.specs.Laws.{recording_of_service}
use Rattle.application_serving.specs.SeenOctets.{octets_read_of, octets_given_to, is_brought_in, is_closed_in, SeenApplication, NobodySeen, SeenThere}
use Rattle.application_serving.specs.SeenOctets.{application_in_acts}

-- ---- what was written

-- the text that an act wrote: where a write failed, none counts
abbrev pub text_written_by_act : Act → List ℕ
text_written_by_act (Fetched name answer) = []
text_written_by_act (Wrote piece true) = piece
text_written_by_act (Wrote piece false) = []
text_written_by_act (Called call) = []
text_written_by_act (Asked moment) = []
text_written_by_act (Drew word) = []

abbrev pub text_written_by_acts : List Act → List ℕ
text_written_by_acts acts = flat_map text_written_by_act acts

-- nothing yet, and nothing happened; or the header and what the history records
abbrev pub IsWrittenOf : Settings → (written : List ℕ) → List ServiceItem → Type 0
IsWrittenOf settings written items =
    ((written ≡ []) × (items ≡ [])) ⊎ (written ≡ line_text (header_words settings) ++ recording_of_service items)

-- ---- what an application is told and says, by a history

abbrev pub told_to_come : ServiceHappening → SeenApplication → SeenApplication
told_to_come Attaches there = SeenThere [] []
told_to_come Departs there = NobodySeen
told_to_come (Brings octets) NobodySeen = NobodySeen
told_to_come (Brings octets) (SeenThere brought told) = SeenThere (brought ++ octets) told
told_to_come (Takes count) there = there
told_to_come (Opens what) there = there
told_to_come (Befalls conn what) there = there
told_to_come (Closes conn) there = there
told_to_come (KeysRead answer) there = there

abbrev pub told_more : List ℕ → SeenApplication → SeenApplication
told_more text NobodySeen = NobodySeen
told_more text (SeenThere brought told) = SeenThere brought (told ++ text)

abbrev pub application_behind_item : SeenApplication → ServiceItem → SeenApplication
application_behind_item there (Came happening) = told_to_come happening there
application_behind_item there (LineRead line) = there
application_behind_item there (Occurred time conn what outcomes) = there
application_behind_item there (Informed notice) = told_more (notice_text notice) there
application_behind_item there KeysFetched = there

-- nobody is there; or what it brought since it came, and the texts of the lines that it was told
abbrev pub application_in_items : List ServiceItem → SeenApplication
application_in_items items = fold application_behind_item NobodySeen items

-- what was given to it begins what it was told, and what it brought begins what was read of it
abbrev pub IsServedAs : (seen told : SeenApplication) → Type 0
IsServedAs NobodySeen NobodySeen = Unit {0}
IsServedAs NobodySeen (SeenThere brought told) = ⊥
IsServedAs (SeenThere read given) NobodySeen = ⊥
IsServedAs (SeenThere read given) (SeenThere brought told) = IsBeginning given told × IsBeginning brought read

-- ---- what connections get and give, by a history

abbrev pub octets_of_outcome : TraceOutcome → List ℕ
octets_of_outcome (trace.Connected peer) = []
octets_of_outcome (trace.Accepted text) = []
octets_of_outcome (trace.Taken text) = []
octets_of_outcome trace.Empty = []
octets_of_outcome (trace.RefusedReleased release) = []
octets_of_outcome trace.RefusedNotConnected = []
octets_of_outcome (trace.RefusedLength count) = []
octets_of_outcome (trace.RefusedFull waiting) = []
octets_of_outcome (trace.Released release) = []
octets_of_outcome (trace.Octets octets) = octets

-- the octets that its end told
abbrev pub octets_told_at : (conn : ℕ) → List ServiceItem → List ℕ
octets_told_at conn items = flat_map octets_of_outcome (outcomes_at_connection conn items)

abbrev pub octets_event_brings : Event → List ℕ
octets_event_brings (event.Call engine rbc rb) = []
octets_event_brings (event.Answer rbc ra) = []
octets_event_brings (event.Octets octets) = octets
octets_event_brings (event.Send text) = []
octets_event_brings event.Take = []
octets_event_brings (event.Release sub) = []
octets_event_brings event.Tick = []
octets_event_brings event.Ended = []
octets_event_brings event.Fault = []
octets_event_brings event.Stalled = []
octets_event_brings (event.Full count) = []
octets_event_brings (event.Unserved count) = []

-- those that its end heard
abbrev pub octets_heard_at : (conn : ℕ) → List ServiceItem → List ℕ
octets_heard_at conn items = flat_map (λ (x : EventAt). octets_event_brings x.event) (events_at conn items)

-- ---- which keys hold

abbrev pub entries_if_read : Result (List KmacEntry) KeyFileFault → List (List KmacEntry)
entries_if_read (Ok entries) = entries ∷ []
entries_if_read (Err fault) = []

abbrev pub entries_fetched : Fetch → List (List KmacEntry)
entries_fetched (Gave octets) = entries_if_read (keys_of octets)
entries_fetched Failed = []
entries_fetched Spent = []

abbrev pub entries_by_act : Act → List (List KmacEntry)
entries_by_act (Fetched name answer) = entries_fetched answer
entries_by_act (Wrote piece done) = []
entries_by_act (Called call) = []
entries_by_act (Asked moment) = []
entries_by_act (Drew word) = []

-- the entries of each key file that was fetched and can be read
abbrev pub key_files_in_acts : List Act → List (List KmacEntry)
key_files_in_acts acts = flat_map entries_by_act acts

abbrev pub found_in_entries : List KmacEntry → Finds
found_in_entries entries now engine rbc = key_at entries now engine rbc

-- the keys of the start, and then those of each file
abbrev pub held_by_files : Finds → List (List KmacEntry) → HeldKeys
held_by_files start files zero = start
held_by_files start [] (suc n) = start
held_by_files start (file ∷ files) (suc n) = held_by_files (found_in_entries file) files n

-- the ends of this stack under the keys that these acts fetched
abbrev pub kind_by_acts : Settings → (start : Finds) → List Act → EndKind
kind_by_acts settings start acts = stack_kind settings (held_by_files start (key_files_in_acts acts))

-- ---- at each moment

-- these acts were done, and this is the history by then
pub record ServesSoFar (settings : Settings) (acts : List Act) (items : List ServiceItem) : Type 0 where
  pub written : IsWrittenOf settings (text_written_by_acts acts) items
  pub served : IsServedAs (application_in_acts acts) (application_in_items items)
  pub given : (conn : ℕ) → 0 < conn → IsBeginning (octets_given_to conn acts) (octets_told_at conn items)
  pub heard : (conn : ℕ) → IsBeginning (octets_heard_at conn items) (octets_read_of conn acts)
  pub brought : (conn : ℕ) → is_brought_in conn acts ≡ false → events_at conn items ≡ []
  pub closed : (conn : ℕ) → is_closed_in conn acts ≡ true → is_known conn (behind_items at_start items).known ≡ false

-- an act, or none, and what it is in the history
pub record ServiceDeed : Type 0 where
  pub act : Option Act
  pub items : List ServiceItem

abbrev pub act_of_deed : ServiceDeed → Option Act
act_of_deed deed = deed.act

abbrev pub items_of_deed : ServiceDeed → List ServiceItem
items_of_deed deed = deed.items

abbrev pub acts_in_service : List ServiceDeed → List Act
acts_in_service deeds = filter_map act_of_deed deeds

abbrev pub items_in_service : List ServiceDeed → List ServiceItem
items_in_service deeds = flat_map items_of_deed deeds

-- an event comes at the greatest moment that the clock had answered
abbrev pub greatest_moment : List Act → ℕ
greatest_moment acts = fold max 0 (moments_in_acts acts)

abbrev pub IsAtMoment : ℕ → ServiceItem → Type 0
IsAtMoment now (Came happening) = Unit {0}
IsAtMoment now (LineRead line) = Unit {0}
IsAtMoment now (Occurred time conn what outcomes) = time.moment ≡ now
IsAtMoment now (Informed notice) = Unit {0}
IsAtMoment now KeysFetched = Unit {0}

-- these acts were done and nothing else, and what they are is the beginning of a history of the model, for happenings that came; so it serves at each moment
pub record Serves (settings : Settings) (start : Finds) (before now : Told) : Type 0 where
  pub deeds : List ServiceDeed
  pub did : Did before now (acts_in_service deeds)
  pub happenings : List (ℕ × ServiceHappening)
  pub history : IsBeginning (items_in_service deeds) (service_history (kind_by_acts settings start (acts_in_service deeds)) happenings)
  pub always : (front rest : List ServiceDeed) → deeds ≡ front ++ rest → ServesSoFar settings (acts_in_service front) (items_in_service front)
  pub timely : (front rest : List ServiceDeed) (deed : ServiceDeed) → deeds ≡ front ++ deed ∷ rest
      → All (IsAtMoment (greatest_moment (acts_in_service front))) deed.items
  -- a key file that was fetched isn't read only where memory ran out, and nothing is done then
  pub fetched : (front rest : List ServiceDeed) → deeds ≡ front ++ rest
      → (readings_in (items_in_service front) ≡ length (key_files_in_acts (acts_in_service front))) ⊎ (rest ≡ [])
