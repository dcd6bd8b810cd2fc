-- The text of a drill: a line for each thing that came and is printed, and a closing line for each link (this profile).
use Rattle.std.specs.Prelude.{ℕ, zero, suc, ◌+◌, ◌-◌, ◌^◌, min, Bool, true, false, if◌then◌else◌, List, [], ◌∷◌, ◌++◌, length, codes, Option, Some, None}
use Rattle.std.specs.List.{flat_map}
use Rattle.std.specs.Fmt.{decimal}
use Rattle.er_base.specs.declared.release.Release.{Release}
use Rattle.er_base.specs.declared.side.Side.{Side}
use Rattle.er_base.specs.Sides.{side_word}
use Rattle.er_base.specs.Hexadecimal.{hex_of}
use Rattle.er_scenario.specs.declared.step.Step.{Step}
use Rattle.er_scenario.specs.declared.scenario.Scenario.{Scenario}
use Rattle.safety_pair_laws.specs.Facts.{Fact, Sent, Sealed, Verified, Connected, Accepted}
use Rattle.er_end_model.specs.Outcomes.{SendRefusal, RefusedReleased, RefusedNotConnected, RefusedLength, RefusedFull}
use Rattle.drill_model.specs.Outcomes.{DrillOutcome, OfSafety, Handed, Arrived, Up, Took, NothingToTake, Refused, Released, Frame, Expired, UserReleased}
use Rattle.drill_model.specs.Outcomes.{Passed, Lost, Repeated, Altered, Inserted, NothingWaits, IsShort}
use Rattle.drill_model.specs.Links.{Link}
use Rattle.drill_model.specs.Worlds.{DrillPlan, World, Came, plan_of, steps_of, link_at, history_on, world_step, world_run}
use Rattle.drill_model.specs.Marks.{MarkedOccurrence, MarkedCame, MarkedOn, MarkedDrain, marks_from}
use Rattle.drill_model.specs.Kinds.{deliveries}

-- ---- lines

-- the head of a line: the link's number and the end
unfoldable pub head : ℕ → Side → List ℕ
head number side = decimal number ++ (codes " " ++ side_word side)

abbrev pub forged_word : Bool → List ℕ
forged_word true = codes " forged\n"
forged_word false = codes "\n"

abbrev pub by_word : Bool → List ℕ
by_word true = codes " peer\n"
by_word false = codes " local\n"

-- a reason and a sub-reason
unfoldable pub release_words : Release → List ℕ
release_words release = decimal release.reason ++ (codes " " ++ decimal release.sub)

unfoldable pub up_line : ℕ → Side → List ℕ
up_line number side = head number side ++ codes " up\n"

unfoldable pub connected_line : ℕ → Side → (peer : ℕ) → Bool → List ℕ
connected_line number side peer forged = head number side ++ (codes " connected " ++ (decimal peer ++ forged_word forged))

unfoldable pub accepted_line : ℕ → Side → (user : List ℕ) → Bool → List ℕ
accepted_line number side user forged = head number side ++ (codes " accepted " ++ (hex_of user ++ forged_word forged))

unfoldable pub taken_line : ℕ → Side → (message : List ℕ) → List ℕ
taken_line number side message = head number side ++ (codes " taken " ++ (hex_of message ++ codes "\n"))

unfoldable pub none_line : ℕ → Side → List ℕ
none_line number side = head number side ++ codes " none\n"

unfoldable pub refused_line : ℕ → Side → SendRefusal → List ℕ
refused_line number side (RefusedReleased release) = head number side ++ (codes " refused released " ++ (release_words release ++ codes "\n"))
refused_line number side RefusedNotConnected = head number side ++ codes " refused notconnected\n"
refused_line number side (RefusedLength found) = head number side ++ (codes " refused length " ++ (decimal found ++ codes "\n"))
refused_line number side (RefusedFull waiting) = head number side ++ (codes " refused full " ++ (decimal waiting ++ codes "\n"))

unfoldable pub released_line : ℕ → Side → Release → List ℕ
released_line number side release = head number side ++ (codes " released " ++ (release_words release ++ by_word release.by_peer))

unfoldable pub frame_line : ℕ → Side → (octets : List ℕ) → List ℕ
frame_line number side octets = head number side ++ (codes " frame " ++ (hex_of octets ++ codes "\n"))

unfoldable pub empty_line : ℕ → Side → List ℕ
empty_line number side = head number side ++ codes " empty\n"

unfoldable pub short_line : ℕ → Side → (found : ℕ) → List ℕ
short_line number side found = head number side ++ (codes " short " ++ (decimal found ++ codes "\n"))

-- the line of a drain
unfoldable pub passes_line : ℕ → (passes : ℕ) → List ℕ
passes_line number passes = decimal number ++ (codes " passes " ++ (decimal passes ++ codes "\n"))

-- ---- the line of what came, where it has one

abbrev pub fact_line : ℕ → Side → Fact → (forged : Bool) → List ℕ
fact_line number side (Sent user key text) forged = []
fact_line number side (Sealed key text) forged = []
fact_line number side (Verified heard key text) forged = []
fact_line number side (Connected heard connection text) forged = connected_line number side connection.peer forged
fact_line number side (Accepted heard user key text) forged = accepted_line number side user forged

-- frames are shown or not
abbrev pub outcome_line : (show : Bool) → ℕ → Side → DrillOutcome → (forged : Bool) → List ℕ
outcome_line show number side (OfSafety fact) forged = fact_line number side fact forged
outcome_line show number side (Handed payload) forged = []
outcome_line show number side (Arrived payload) forged = accepted_line number side payload false
outcome_line show number side Up forged = up_line number side
outcome_line show number side (Took message) forged = taken_line number side message
outcome_line show number side NothingToTake forged = none_line number side
outcome_line show number side (Refused refusal) forged = refused_line number side refusal
outcome_line show number side (Released release) forged = released_line number side release
outcome_line show number side (Frame octets) forged = if show then frame_line number side octets else []
outcome_line show number side Expired forged = []
outcome_line show number side (UserReleased sub) forged = []
outcome_line show number side (Passed octets) forged = []
outcome_line show number side Lost forged = []
outcome_line show number side Repeated forged = []
outcome_line show number side Altered forged = []
outcome_line show number side Inserted forged = []
outcome_line show number side NothingWaits forged = empty_line number side
outcome_line show number side (IsShort found) forged = short_line number side found

abbrev pub marked_line : Bool → ℕ → MarkedOccurrence → List ℕ
marked_line show number m = outcome_line show number m.side m.outcome m.forged

-- the lines of what came at one link
abbrev pub link_lines : Bool → ℕ → List MarkedOccurrence → List ℕ
link_lines show number marks = flat_map (marked_line show number) marks

abbrev pub came_line : Bool → MarkedCame → List ℕ
came_line show (MarkedOn link m) = marked_line show link m
came_line show (MarkedDrain link passes) = passes_line link passes

-- the lines of what came in a world
abbrev pub lines : Bool → List MarkedCame → List ℕ
lines show marks = flat_map (came_line show) marks

-- ---- the closing lines

-- of a link: the number of passes, which as a printed number stays at 2^64 - 1, and the frames of e and of r that wait
unfoldable pub closing_line : ℕ → (passes from_e from_r : ℕ) → List ℕ
closing_line number passes from_e from_r =
    (decimal number ++ (codes " end passes " ++ decimal (min passes (2 ^ 64 - 1))))
    ++ ((codes " waiting " ++ decimal from_e) ++ (codes " " ++ (decimal from_r ++ codes "\n")))

abbrev pub closing_text_at : ℕ → Option Link → List Came → List ℕ
closing_text_at number None came = []
closing_text_at number (Some l) came = closing_line number (deliveries (history_on number came)) (length l.from_e) (length l.from_r)

-- of the links from this number on, so many
unfoldable pub closing_from : World × List Came → (number count : ℕ) → List ℕ
closing_from a number zero = []
closing_from a number (suc count) = closing_text_at number (link_at a.0 number) a.1 ++ closing_from a (number + 1) count

-- of a world and all that came in it: a line for each link that was opened, their numbers rising
abbrev pub summary : World × List Came → List ℕ
summary a = closing_from a 1 64

-- ---- the text of steps

-- the lines of a step behind the steps before it
abbrev pub step_lines : DrillPlan → (before : List Step) → Step → List ℕ
step_lines plan before s =
    lines plan.show (marks_from (world_run plan before).1 (world_step plan (world_run plan before).0 s).1)

-- the lines of the first steps of a drill
abbrev pub first_lines : DrillPlan → List Step → List ℕ
first_lines plan steps = lines plan.show (marks_from [] (world_run plan steps).1)

-- the closing lines behind them
abbrev pub last_lines : DrillPlan → List Step → List ℕ
last_lines plan steps = summary (world_run plan steps)

-- DrillText: what a drill prints whose steps are all done
abbrev pub drill_text : Scenario → List ℕ
drill_text scenario =
    first_lines (plan_of scenario) (steps_of scenario) ++ last_lines (plan_of scenario) (steps_of scenario)

-- ---- the order of lines within one event

-- the place of an outcome's line in the table of lines, where it has one
abbrev pub place_of : DrillOutcome → List ℕ
place_of (OfSafety (Sent user key text)) = []
place_of (OfSafety (Sealed key text)) = []
place_of (OfSafety (Verified heard key text)) = []
place_of (OfSafety (Connected heard connection text)) = 2 ∷ []
place_of (OfSafety (Accepted heard user key text)) = 3 ∷ []
place_of (Handed payload) = []
place_of (Arrived payload) = 3 ∷ []
place_of Up = 1 ∷ []
place_of (Took message) = 4 ∷ []
place_of NothingToTake = 4 ∷ []
place_of (Refused refusal) = 5 ∷ []
place_of (Released release) = 6 ∷ []
place_of (Frame octets) = 7 ∷ []
place_of Expired = []
place_of (UserReleased sub) = []
place_of (Passed octets) = []
place_of Lost = []
place_of Repeated = []
place_of Altered = []
place_of Inserted = []
place_of NothingWaits = 8 ∷ []
place_of (IsShort found) = 8 ∷ []
