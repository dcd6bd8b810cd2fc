-- A side whose units no line delays (this profile).
use Rattle.std.specs.Prelude.{◌≡◌, true, List, [], ◌∷◌}
use Rattle.er_base.specs.declared.side.Side.{Side}
use Rattle.relay_script.specs.declared.change.Change.{Change}
use Rattle.relay_script.specs.declared.change.Change.TheVariants.{Lose, Repeat, Alter, Put, Delay, Close}
use Rattle.relay_script.specs.declared.script_line.ScriptLine.{ScriptLine}
use Rattle.relay_model.specs.Loads.{is_same_side}

abbrev pub IsPromptChange : Change → Type 0
IsPromptChange Lose = Unit {0}
IsPromptChange Repeat = Unit {0}
IsPromptChange (Alter place mask) = Unit {0}
IsPromptChange (Put text) = Unit {0}
IsPromptChange (Delay milliseconds) = ⊥
IsPromptChange Close = Unit {0}

-- no line delays what is given of a side
abbrev pub NoneDelays : Side → List ScriptLine → Type 0
NoneDelays side [] = Unit {0}
NoneDelays side (line ∷ lines) = (is_same_side line.side side ≡ true → IsPromptChange line.change) × NoneDelays side lines
