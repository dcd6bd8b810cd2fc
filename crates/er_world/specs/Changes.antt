-- Representation: what the code does to the frames that wait in one direction, and what comes of it; no claim rests on it.
use Rattle.std.specs.Prelude.{ℕ, ◌≡◌, List, [], ◌∷◌, Option, Some, None}
use Rattle.er_base.specs.declared.side.Side.{Side}
use Rattle.drill_model.specs.Outcomes.{DrillOutcome, Lost, Repeated, Altered, Inserted, NothingWaits, IsShort}
use Rattle.drill_model.specs.Waiting.{LineChange, Lose, Repeat, Alter, Put}
use Rattle.drill_model.specs.Links.{LinkStep, Send, Pass, Change, Take, Release}
use Rattle.drill_model.specs.Texts.{empty_line, short_line}
use Rattle.er_world.specs.declared.waiting.Change.{Change as CodeResult}
use Rattle.er_world.specs.declared.waiting.Change.TheVariants as result
use Rattle.er_world.specs.declared.action.LineChange.{LineChange as CodeChange}
use Rattle.er_world.specs.declared.action.LineChange.TheVariants as how
use Rattle.er_world.specs.declared.action.Action.{Action}
use Rattle.er_world.specs.declared.action.Action.TheVariants as does
use Rattle.er_world.specs.declared.place.Place.{Place}

-- what came of it
abbrev pub outcomes_of_line_change : CodeResult → List DrillOutcome
outcomes_of_line_change result.Empty = NothingWaits ∷ []
outcomes_of_line_change (result.Short found) = IsShort found ∷ []
outcomes_of_line_change result.Lost = Lost ∷ []
outcomes_of_line_change result.Repeated = Repeated ∷ []
outcomes_of_line_change result.Altered = Altered ∷ []
outcomes_of_line_change result.Inserted = Inserted ∷ []
outcomes_of_line_change result.Unchanged = []

-- its line
abbrev pub change_line : Place → CodeResult → List ℕ
change_line place result.Empty = empty_line place.number place.side
change_line place (result.Short found) = short_line place.number place.side found
change_line place result.Lost = []
change_line place result.Repeated = []
change_line place result.Altered = []
change_line place result.Inserted = []
change_line place result.Unchanged = []

-- the first frame and the others
abbrev pub IsFirstWaitingFrame : List (List ℕ) → Option (List ℕ) → List (List ℕ) → Type 0
IsFirstWaitingFrame old None new = (old ≡ []) × (new ≡ [])
IsFirstWaitingFrame old (Some frame) new = old ≡ frame ∷ new

-- a change, as the model has it
abbrev pub change_of : CodeChange → LineChange
change_of how.Lose = Lose
change_of how.Repeat = Repeat
change_of (how.Alter place mask) = Alter place mask
change_of (how.Put frame) = Put frame.now

-- what is done at an end, as a step of its link
abbrev pub action_step : Side → Action → LinkStep
action_step side (does.Send user) = Send side user.now
action_step side does.Pass = Pass side
action_step side (does.Change change) = Change side (change_of change)
action_step side does.Take = Take side
action_step side (does.Release sub) = Release side sub
