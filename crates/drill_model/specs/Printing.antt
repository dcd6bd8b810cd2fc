-- What is claimed of what is printed (this profile): each link's lines have the marks by which its facts are judged, and the lines of one event at an end
-- come in the order of the table of lines.
use Rattle.std.specs.Prelude.{ℕ, ◌≡◌, ◌≤◌, ◌==◌, Bool, if◌then◌else◌, List, [], ◌∷◌, Option}
use Rattle.std.specs.List.{flat_map, AllByRecursion}
use Rattle.des_block.specs.declared.triple_key.TripleKey.{TripleKey}
use Rattle.hdlc_station_model.specs.Stations.{Station}
use Rattle.hdlc_station_model.specs.Events.{news}
use Rattle.hdlc_station_model.specs.Events as station_events
use Rattle.drill_model.specs.Outcomes.{DrillOutcome}
use Rattle.er_end_model.specs.Layers.{model}
use Rattle.er_end_model.specs.Steps.{new_event_at}
use Rattle.er_end_model.specs.Ends.{End as Stack}
use Rattle.drill_model.specs.StationEnds.{heard_parts}
use Rattle.drill_model.specs.StackEnds.{stack_parts}
use Rattle.drill_model.specs.Ends.{EndAtLevel, OfSafe, OfStation, OfStack, EndEvent, station_end_step, stack_end_step, end_step}
use Rattle.drill_model.specs.Ends as event
use Rattle.drill_model.specs.Worlds.{Came, history_on}
use Rattle.drill_model.specs.Marks.{MarkedOccurrence, MarkedCame, MarkedOn, MarkedDrain, marks_behind, marks_from}
use Rattle.drill_model.specs.Texts.{place_of}

-- the marks at link n among those of a world
abbrev pub marks_at : ℕ → MarkedCame → List MarkedOccurrence
marks_at n (MarkedOn link m) = if link == n then m ∷ [] else []
marks_at n (MarkedDrain link passes) = []

abbrev pub marks_on : ℕ → List MarkedCame → List MarkedOccurrence
marks_on n marks = flat_map (marks_at n) marks

-- each link's occurrences are printed with the marks by which they are judged, those of its own facts
abbrev pub PrintedAsMarked : Type 0
PrintedAsMarked = (n : ℕ) (came : List Came) → marks_on n (marks_from [] came) ≡ marks_behind [] (history_on n came)

-- numbers that don't fall
abbrev pub IsRising : List ℕ → Type 0
IsRising [] = Unit {0}
IsRising (n ∷ []) = Unit {0}
IsRising (n ∷ m ∷ more) = (n ≤ m) × IsRising (m ∷ more)

-- the outcomes of an event at an end in parts: of octets in which several frames close, one part a frame
abbrev pub station_parts : (selective : Bool) (moment : ℕ) → Station → (stream : List ℕ) → EndEvent → List (List DrillOutcome)
station_parts selective moment s stream event.Start = (station_end_step selective moment s stream event.Start).1 ∷ []
station_parts selective moment s stream (event.Receive octets) = heard_parts selective moment (news stream octets) s
station_parts selective moment s stream (event.Send payload) = (station_end_step selective moment s stream (event.Send payload)).1 ∷ []
station_parts selective moment s stream event.Take = (station_end_step selective moment s stream event.Take).1 ∷ []
station_parts selective moment s stream (event.Release sub) = (station_end_step selective moment s stream (event.Release sub)).1 ∷ []
station_parts selective moment s stream event.Tick = (station_end_step selective moment s stream event.Tick).1 ∷ []

abbrev pub parts_of_stack : (ℕ → ℕ → Option TripleKey) → (moment : ℕ) → Stack → EndEvent → List (List DrillOutcome)
parts_of_stack key_of moment m event.Start = (stack_end_step key_of moment m event.Start).1 ∷ []
parts_of_stack key_of moment m (event.Receive octets) =
    stack_parts (λ now. key_of) moment (station_events.news m.stream octets) (new_event_at model moment m.core)
parts_of_stack key_of moment m (event.Send user) = (stack_end_step key_of moment m (event.Send user)).1 ∷ []
parts_of_stack key_of moment m event.Take = (stack_end_step key_of moment m event.Take).1 ∷ []
parts_of_stack key_of moment m (event.Release sub) = (stack_end_step key_of moment m (event.Release sub)).1 ∷ []
parts_of_stack key_of moment m event.Tick = (stack_end_step key_of moment m event.Tick).1 ∷ []

abbrev pub parts_of : (ℕ → ℕ → Option TripleKey) → (moment : ℕ) → EndAtLevel → EndEvent → List (List DrillOutcome)
parts_of key_of moment (OfSafe s) event = (end_step key_of moment (OfSafe s) event).1 ∷ []
parts_of key_of moment (OfStation selective s stream) event = station_parts selective moment s stream event
parts_of key_of moment (OfStack m) event = parts_of_stack key_of moment m event

-- the parts are all that came of the event, and the lines of each come in the order of the table of lines
abbrev pub LinesInOrder : Type 0
LinesInOrder =
    (key_of : ℕ → ℕ → Option TripleKey) (moment : ℕ) (end : EndAtLevel) (event : EndEvent)
    → (flat_map (λ part. part) (parts_of key_of moment end event) ≡ (end_step key_of moment end event).1)
    × AllByRecursion (λ part. IsRising (flat_map place_of part)) (parts_of key_of moment end event)
