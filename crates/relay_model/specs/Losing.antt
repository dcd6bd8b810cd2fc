-- A line that only loses and repeats (this profile): what is found on it of what was sent.
use Rattle.std.specs.Prelude.{◌≡◌, ℕ, true, List, [], ◌∷◌, ◌++◌, replicate}
use Rattle.er_base.specs.declared.side.Side.{Side}
use Rattle.relay_script.specs.declared.change.Change.{Change}
use Rattle.relay_script.specs.declared.change.Change.TheVariants.{Lose, Repeat, Alter, Put, Delay, Close}
use Rattle.relay_script.specs.declared.script_line.ScriptLine.{ScriptLine}
use Rattle.relay_model.specs.Loads.{is_same_side}

-- in order each stands in its place any number of times: none where it was lost, and more where it was repeated
abbrev pub LosesAndRepeats : {A : Type 0} (sent found : List A) → Type 0
LosesAndRepeats [] found = found ≡ []
LosesAndRepeats {A = A} (x ∷ sent) found = (times : ℕ) × ((rest : List A) × ((found ≡ replicate times x ++ rest) × LosesAndRepeats sent rest))

-- a line of a script that loses, repeats or delays
abbrev pub IsLosingChange : Change → Type 0
IsLosingChange Lose = Unit {0}
IsLosingChange Repeat = Unit {0}
IsLosingChange (Alter place mask) = ⊥
IsLosingChange (Put text) = ⊥
IsLosingChange (Delay milliseconds) = Unit {0}
IsLosingChange Close = ⊥

-- all lines for a side are such lines
abbrev pub LoseOnly : Side → List ScriptLine → Type 0
LoseOnly side [] = Unit {0}
LoseOnly side (line ∷ lines) = (is_same_side line.side side ≡ true → IsLosingChange line.change) × LoseOnly side lines

-- no line is for a side
abbrev pub NoneFor : Side → List ScriptLine → Type 0
NoneFor side [] = Unit {0}
NoneFor side (line ∷ lines) = (is_same_side line.side side ≡ true → ⊥) × NoneFor side lines
