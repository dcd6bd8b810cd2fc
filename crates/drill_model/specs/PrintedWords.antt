-- What is claimed of the printed text of a drill (this profile): from it alone all can be told again that came and is printed, in its order and
-- with its marks, and what its closing lines say.
use Rattle.std.specs.Prelude.{ℕ, ◌≡◌, ◌<◌, ◌^◌, Bool, true, false, List, [], ◌∷◌, ◌++◌, map}
use Rattle.std.specs.List.{flat_map, AllByRecursion}
use Rattle.er_base.specs.declared.side.Side.{Side}
use Rattle.er_base.specs.LineTexts.{lines_text}
use Rattle.er_base.specs.Octets.{AreOctets}
use Rattle.er_scenario.specs.declared.scenario.Scenario.{Scenario}
use Rattle.safety_pair_laws.specs.Facts.{Sent, Sealed, Verified, Connected, Accepted}
use Rattle.er_end_model.specs.Outcomes.{SendRefusal, RefusedReleased, RefusedNotConnected, RefusedLength, RefusedFull}
use Rattle.drill_model.specs.Outcomes.{DrillOutcome, OfSafety, Handed, Arrived, Up, Took, NothingToTake, Refused, Released, Frame, Expired, UserReleased}
use Rattle.drill_model.specs.Outcomes.{Passed, Lost, Repeated, Altered, Inserted, NothingWaits, IsShort}
use Rattle.drill_model.specs.Worlds.{plan_of, steps_of, world_run}
use Rattle.drill_model.specs.Marks.{MarkedCame, MarkedOn, MarkedDrain, marks_from}
use Rattle.drill_model.specs.Texts.{lines, drill_text}
use Rattle.drill_model.specs.PrintedCounts.{at_most_printed, Closing, closing_words, HasClosingLines}

-- ---- what a line tells

-- of an end, or of what it sent
pub data Saying : Type 0 where
  SaysUp : Saying
  -- the peer of a connection, and whether it is marked as forged
  SaysConnected : (peer : ℕ) (forged : Bool) → Saying
  -- the octets of a message that was accepted, and whether it is marked as forged
  SaysAccepted : (octets : List ℕ) (forged : Bool) → Saying
  SaysTaken : (octets : List ℕ) → Saying
  SaysNothingToTake : Saying
  -- a send was refused, and why
  SaysRefusedReleased : (reason sub : ℕ) → Saying
  SaysRefusedNotConnected : Saying
  SaysRefusedLength : (found : ℕ) → Saying
  SaysRefusedFull : (waiting : ℕ) → Saying
  SaysReleased : (reason sub : ℕ) (by_peer : Bool) → Saying
  SaysFrame : (octets : List ℕ) → Saying
  SaysNothingWaits : Saying
  SaysShort : (found : ℕ) → Saying

-- a line: of an end of a link, and what is said of it; of a drain of a link; the closing line of a link
pub data PrintedLine : Type 0 where
  OfEnd : (link : ℕ) (side : Side) (saying : Saying) → PrintedLine
  OfDrain : (link passes : ℕ) → PrintedLine
  OfClosing : (link passes from_e from_r : ℕ) → PrintedLine

-- ---- what is to be told

abbrev pub said_of_refusal : SendRefusal → Saying
said_of_refusal (RefusedReleased release) = SaysRefusedReleased release.reason release.sub
said_of_refusal RefusedNotConnected = SaysRefusedNotConnected
said_of_refusal (RefusedLength found) = SaysRefusedLength found
said_of_refusal (RefusedFull waiting) = SaysRefusedFull waiting

-- a frame, where frames are shown
abbrev pub said_of_frame : (show : Bool) → (octets : List ℕ) → List Saying
said_of_frame true octets = SaysFrame octets ∷ []
said_of_frame false octets = []

-- of an outcome with its mark, one row an outcome: one thing or nothing
abbrev pub said_of : (show : Bool) → DrillOutcome → (forged : Bool) → List Saying
said_of show (OfSafety (Sent user key text)) forged = []
said_of show (OfSafety (Sealed key text)) forged = []
said_of show (OfSafety (Verified heard key text)) forged = []
said_of show (OfSafety (Connected heard connection text)) forged = SaysConnected connection.peer forged ∷ []
said_of show (OfSafety (Accepted heard user key text)) forged = SaysAccepted user forged ∷ []
said_of show (Handed payload) forged = []
said_of show (Arrived payload) forged = SaysAccepted payload false ∷ []
said_of show Up forged = SaysUp ∷ []
said_of show (Took message) forged = SaysTaken message ∷ []
said_of show NothingToTake forged = SaysNothingToTake ∷ []
said_of show (Refused refusal) forged = said_of_refusal refusal ∷ []
said_of show (Released release) forged = SaysReleased release.reason release.sub release.by_peer ∷ []
said_of show (Frame octets) forged = said_of_frame show octets
said_of show Expired forged = []
said_of show (UserReleased sub) forged = []
said_of show (Passed octets) forged = []
said_of show Lost forged = []
said_of show Repeated forged = []
said_of show Altered forged = []
said_of show Inserted forged = []
said_of show NothingWaits forged = SaysNothingWaits ∷ []
said_of show (IsShort found) forged = SaysShort found ∷ []

abbrev pub told_of : (show : Bool) → MarkedCame → List PrintedLine
told_of show (MarkedOn link m) = map (OfEnd link m.side) (said_of show m.outcome m.forged)
told_of show (MarkedDrain link passes) = OfDrain link passes ∷ []

abbrev pub told_of_closing : Closing → PrintedLine
told_of_closing c = OfClosing c.link (at_most_printed c.passes) c.from_e c.from_r

-- of all that came, and then of the links that are closed
abbrev pub told : (show : Bool) → List MarkedCame → List Closing → List PrintedLine
told show came closings = flat_map (told_of show) came ++ map told_of_closing closings

-- the text of all of it
abbrev pub text_with_closings : (show : Bool) → List MarkedCame → List Closing → List ℕ
text_with_closings show came closings = lines show came ++ lines_text (map closing_words closings)

-- ---- the claim

-- numbers have 64 bits, and octets are octets, as the types of a program have them
abbrev pub FitsSaying : Saying → Type 0
FitsSaying SaysUp = Unit {0}
FitsSaying (SaysConnected peer forged) = peer < 2 ^ 64
FitsSaying (SaysAccepted octets forged) = AreOctets octets
FitsSaying (SaysTaken octets) = AreOctets octets
FitsSaying SaysNothingToTake = Unit {0}
FitsSaying (SaysRefusedReleased reason sub) = (reason < 2 ^ 64) × (sub < 2 ^ 64)
FitsSaying SaysRefusedNotConnected = Unit {0}
FitsSaying (SaysRefusedLength found) = found < 2 ^ 64
FitsSaying (SaysRefusedFull waiting) = waiting < 2 ^ 64
FitsSaying (SaysReleased reason sub by_peer) = (reason < 2 ^ 64) × (sub < 2 ^ 64)
FitsSaying (SaysFrame octets) = AreOctets octets
FitsSaying SaysNothingWaits = Unit {0}
FitsSaying (SaysShort found) = found < 2 ^ 64

abbrev pub FitsLine : PrintedLine → Type 0
FitsLine (OfEnd link side saying) = (link < 2 ^ 64) × FitsSaying saying
FitsLine (OfDrain link passes) = (link < 2 ^ 64) × (passes < 2 ^ 64)
FitsLine (OfClosing link passes from_e from_r) = (link < 2 ^ 64) × (passes < 2 ^ 64) × (from_e < 2 ^ 64) × (from_r < 2 ^ 64)

-- where the text is the same, what is told is the same
abbrev pub TextReadsBack : Type 0
TextReadsBack =
    (show : Bool) (one two : List MarkedCame) (closed others : List Closing)
    → AllByRecursion FitsLine (told show one closed) → AllByRecursion FitsLine (told show two others)
    → text_with_closings show one closed ≡ text_with_closings show two others → told show one closed ≡ told show two others

-- ---- of whole drills

-- these lines tell of a drill: of all that came in it, with marks, and of its links at the end
pub record TellsOfDrill (scenario : Scenario) (printed : List PrintedLine) : Type 0 where
  pub last : HasClosingLines (world_run (plan_of scenario) (steps_of scenario)).0 (world_run (plan_of scenario) (steps_of scenario)).1
  pub are : printed ≡ told scenario.show (marks_from [] (world_run (plan_of scenario) (steps_of scenario)).1) last.closings

-- each drill has such lines
abbrev pub DrillsAreTold : Type 0
DrillsAreTold = (scenario : Scenario) → (printed : List PrintedLine) × TellsOfDrill scenario printed

-- two drills that show frames, or two that don't, have the same lines where they have the same text
abbrev pub DrillTextReadsBack : Type 0
DrillTextReadsBack =
    (one two : Scenario) (first second : List PrintedLine) → one.show ≡ two.show → TellsOfDrill one first → TellsOfDrill two second
    → AllByRecursion FitsLine first → AllByRecursion FitsLine second → drill_text one ≡ drill_text two → first ≡ second
