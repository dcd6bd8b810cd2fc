-- The end of a link at level full: a station (ISO/IEC 13239), network blocks (ITU-T T.70), a transport (ITU-T X.224 class 2) and a safety
-- side (UNISIG SUBSET-037), one above the other; and what an event at it tells and sends (this profile).
use Rattle.std.specs.Prelude.{ℕ, List, [], ◌∷◌, ◌++◌, map, Option, Some, None}
use Rattle.hdlc_frames.specs.Framing.{Verdict}
use Rattle.safety_pair_laws.specs.Facts.{facts_of}
use Rattle.hdlc_station_model.specs.Events.{said_octets, news}
use Rattle.er_end_model.specs.Layers.{Spoken, Core, model}
use Rattle.er_end_model.specs.Steps.{Finds, new_event_at, step_frame, refusal_of}
use Rattle.er_end_model.specs.Ends.{End as Stack, Event, Start, Come, Send, Take, Leave, Tick, step_event, finds_expired}
use Rattle.er_end_model.specs.Outcomes.{SendRefusal}
use Rattle.drill_model.specs.Outcomes.{DrillOutcome, OfSafety, Took, NothingToTake, Refused, Frame}
use Rattle.drill_model.specs.StationEnds.{if_released, if_expired}

-- ---- a call

-- the facts of the step that the safety side took, if it took one
abbrev pub facts_told : Option Spoken → List DrillOutcome
facts_told None = []
facts_told (Some spoken) = map OfSafety (facts_of spoken.event spoken.outcome)

-- what a call that leads here told, and then the frames that it sent
abbrev pub outcomes_told_by_stack : Core → List DrillOutcome
outcomes_told_by_stack x = facts_told x.upper.spoke ++ (if_released x.leaves ++ map Frame (said_octets x.line))

-- the stack behind an event
abbrev pub stack_behind_event : (moment : ℕ) → Event → Stack → Stack
stack_behind_event moment event m = (step_event moment event m).0

-- an event that leads to this stack, and what came of it
abbrev pub stack_and_told : Stack → Stack × List DrillOutcome
stack_and_told m = (m, outcomes_told_by_stack m.core)

-- the end that calls is to begin
abbrev pub stack_start : (moment : ℕ) → Stack → Stack × List DrillOutcome
stack_start moment m = stack_and_told (stack_behind_event moment Start m)

-- ---- octets come

-- what came of each frame, one after the other
abbrev pub stack_parts : Finds → (moment : ℕ) → List Verdict → Core → List (List DrillOutcome)
stack_parts finds moment [] x = []
stack_parts finds moment (verdict ∷ verdicts) x =
    let y = step_frame model finds moment verdict x in
    outcomes_told_by_stack y ∷ stack_parts finds moment verdicts y

abbrev pub stack_told : Finds → (moment : ℕ) → List Verdict → Core → List DrillOutcome
stack_told finds moment [] x = []
stack_told finds moment (verdict ∷ verdicts) x =
    let y = step_frame model finds moment verdict x in
    outcomes_told_by_stack y ++ stack_told finds moment verdicts y

-- each frame that the octets close is one event
abbrev pub stack_hear : Finds → (moment : ℕ) → (octets : List ℕ) → Stack → Stack × List DrillOutcome
stack_hear finds moment octets m =
    (stack_behind_event moment (Come finds octets) m, stack_told finds moment (news m.stream octets) (new_event_at model moment m.core))

-- ---- the user sends, takes, releases

-- a send is refused, or led to this
abbrev pub told_unless : Option SendRefusal → Core → List DrillOutcome
told_unless (Some refusal) x = Refused refusal ∷ []
told_unless None x = outcomes_told_by_stack x

abbrev pub stack_send : (moment : ℕ) → (user : List ℕ) → Stack → Stack × List DrillOutcome
stack_send moment user m =
    let n = stack_behind_event moment (Send user) m in
    (n, told_unless (refusal_of model user m.core) n.core)

-- the oldest message was taken, or none was there
abbrev pub told_of_take : Option (List ℕ) → List DrillOutcome
told_of_take None = NothingToTake ∷ []
told_of_take (Some message) = Took message ∷ []

abbrev pub stack_take : (moment : ℕ) → Stack → Stack × List DrillOutcome
stack_take moment m =
    let n = stack_behind_event moment Take m in
    (n, told_of_take (model.oldest m.core.upper) ++ outcomes_told_by_stack n.core)

-- a stack that was released before does nothing
abbrev pub stack_release : (moment : ℕ) → (sub : ℕ) → Stack → Stack × List DrillOutcome
stack_release moment sub m = stack_and_told (stack_behind_event moment (Leave sub) m)

-- ---- the moment has come

abbrev pub stack_tick : (moment : ℕ) → Stack → Stack × List DrillOutcome
stack_tick moment m =
    let n = stack_behind_event moment Tick m in
    (n, if_expired (finds_expired (new_event_at model moment m.core)) ++ outcomes_told_by_stack n.core)
