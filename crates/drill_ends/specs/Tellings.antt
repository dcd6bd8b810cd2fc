-- Contract: what an end of the code tells of its outcomes.
use Rattle.std.specs.Prelude.{◌≡◌, List, [], ◌∷◌}
use Rattle.std.specs.List.{flat_map}
use Rattle.safety_pair_laws.specs.Facts.{Fact, Sent, Sealed, Verified, Connected, Accepted}
use Rattle.er_end_model.specs.Outcomes.{SendRefusal}
use Rattle.drill_model.specs.Outcomes.{DrillOutcome, OfSafety, Handed, Arrived, Up, Took, NothingToTake, Refused, Released, Frame, Expired, UserReleased}
use Rattle.drill_model.specs.Outcomes.{Passed, Lost, Repeated, Altered, Inserted, NothingWaits, IsShort}
use Rattle.drill_ends.specs.declared.refusal.Refusal.{Refusal}
use Rattle.drill_ends.specs.declared.told.Told.{Told}
use Rattle.drill_ends.specs.declared.told.Told.TheVariants as told
use Rattle.drill_ends.specs.Refusals.{shown_refusal}

-- what is told of a fact of the safety layer
abbrev pub IsToldFact : Fact → Told → Type 0
IsToldFact (Sent user key text) t = t ≡ told.Sealed key text
IsToldFact (Sealed key text) t = t ≡ told.Sealed key text
IsToldFact (Verified heard key text) t = t ≡ told.Verified key text
IsToldFact (Connected heard connection text) t = t ≡ told.Connected connection.peer connection.session text
IsToldFact (Accepted heard user key text) t = t ≡ told.Accepted user key text

-- a send was refused so
pub record IsToldRefusal (refusal : SendRefusal) (t : Told) : Type 0 where
  pub refused : Refusal
  pub told_is : t ≡ told.Refused refused
  pub is : refusal ≡ shown_refusal refused

-- what is told of an outcome of an end; no end that is built has the others
abbrev pub IsTold : DrillOutcome → Told → Type 0
IsTold (OfSafety fact) t = IsToldFact fact t
IsTold (Refused refusal) t = IsToldRefusal refusal t
IsTold (Released release) t = t ≡ told.Released release
IsTold (Frame octets) t = t ≡ told.Frame octets
IsTold (Handed payload) t = ⊥
IsTold (Arrived payload) t = t ≡ told.Arrived payload
IsTold Up t = t ≡ told.Up
IsTold (Took message) t = t ≡ told.Took message
IsTold NothingToTake t = t ≡ told.NothingToTake
IsTold Expired t = ⊥
IsTold (UserReleased sub) t = ⊥
IsTold (Passed octets) t = ⊥
IsTold Lost t = ⊥
IsTold Repeated t = ⊥
IsTold Altered t = ⊥
IsTold Inserted t = ⊥
IsTold NothingWaits t = ⊥
IsTold (IsShort found) t = ⊥

-- nothing is told of an outcome of an end that is neither marked nor printed nor queued
abbrev pub told_outcomes_of : DrillOutcome → List DrillOutcome
told_outcomes_of (OfSafety fact) = OfSafety fact ∷ []
told_outcomes_of (Refused refusal) = Refused refusal ∷ []
told_outcomes_of (Released release) = Released release ∷ []
told_outcomes_of (Frame octets) = Frame octets ∷ []
told_outcomes_of (Handed payload) = []
told_outcomes_of (Arrived payload) = Arrived payload ∷ []
told_outcomes_of Up = Up ∷ []
told_outcomes_of (Took message) = Took message ∷ []
told_outcomes_of NothingToTake = NothingToTake ∷ []
told_outcomes_of Expired = []
told_outcomes_of (UserReleased sub) = UserReleased sub ∷ []
told_outcomes_of (Passed octets) = Passed octets ∷ []
told_outcomes_of Lost = Lost ∷ []
told_outcomes_of Repeated = Repeated ∷ []
told_outcomes_of Altered = Altered ∷ []
told_outcomes_of Inserted = Inserted ∷ []
told_outcomes_of NothingWaits = NothingWaits ∷ []
told_outcomes_of (IsShort found) = IsShort found ∷ []

abbrev pub told_outcomes_in : List DrillOutcome → List DrillOutcome
told_outcomes_in outcomes = flat_map told_outcomes_of outcomes

-- each of these outcomes is told, in their order
abbrev pub EachTold : List DrillOutcome → List Told → Type 0
EachTold [] [] = Unit {0}
EachTold [] (t ∷ ts) = ⊥
EachTold (o ∷ os) [] = ⊥
EachTold (o ∷ os) (t ∷ ts) = IsTold o t × EachTold os ts

-- what an end tells of its outcomes
abbrev pub AreTold : List DrillOutcome → List Told → Type 0
AreTold outcomes list = EachTold (told_outcomes_in outcomes) list
