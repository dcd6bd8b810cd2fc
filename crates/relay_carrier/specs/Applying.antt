-- Representation: what a line makes of what the code keeps of a load; no claim rests on it.
use Rattle.std.specs.Prelude.{ℕ, List, if◌then◌else◌}
use Rattle.er_base.specs.declared.side.Side.{Side}
use Rattle.relay_script.specs.declared.script_line.ScriptLine.{ScriptLine}
use Rattle.relay_model.specs.Loads as model
use Rattle.relay_model.specs.Loads.{line_names, load_changed}
use Rattle.relay_carrier.specs.declared.load.Load.{Load}
use Rattle.relay_carrier.specs.Counting.{KeepsLoad}

-- whatever is given so far, as the line changes it where it names the unit
abbrev pub Applies : ScriptLine → Side → (before : List (List ℕ)) → (unit : List ℕ) → (old new : Load) → Type 0
Applies line side before unit old new =
    (load : model.Load) → KeepsLoad old load
    → KeepsLoad new (if line_names line side before unit then load_changed line.change unit load else load)
