-- The ranges of what a line of a script says (this profile).
use Rattle.std.specs.Prelude.{ℕ, ◌<◌, ◌≤◌, List, [], ◌∷◌, length}
use Rattle.er_base.specs.Octets.{AreOctets}
use Rattle.relay_script.specs.declared.change.Change.{Change}
use Rattle.relay_script.specs.declared.change.Change.TheVariants.{Lose, Repeat, Alter, Put, Delay, Close}
use Rattle.relay_script.specs.declared.script.Script.{Script}
use Rattle.relay_script.specs.declared.script_line.ScriptLine.{ScriptLine}

-- which unit or octet, from 1 to 10 ^ 9
abbrev pub IsOrdinal : ℕ → Type 0
IsOrdinal n = (1 ≤ n) × (n ≤ 1000000000)

-- milliseconds, at most 10 ^ 9
abbrev pub IsDelay : ℕ → Type 0
IsDelay n = n ≤ 1000000000

-- an octet other than 00
abbrev pub IsMask : ℕ → Type 0
IsMask n = (1 ≤ n) × (n < 256)

-- at most 4,096 octets
abbrev pub IsPutText : List ℕ → Type 0
IsPutText text = (length text ≤ 4096) × AreOctets text

abbrev pub IsChangeInRange : Change → Type 0
IsChangeInRange Lose = Unit {0}
IsChangeInRange Repeat = Unit {0}
IsChangeInRange (Alter place mask) = IsOrdinal place × IsMask mask
IsChangeInRange (Put text) = IsPutText text
IsChangeInRange (Delay milliseconds) = IsDelay milliseconds
IsChangeInRange Close = Unit {0}

-- what a line says, its numbers in their ranges
abbrev pub IsLineInRange : ScriptLine → Type 0
IsLineInRange line = IsOrdinal line.number × IsChangeInRange line.change

abbrev pub AreLinesInRange : List ScriptLine → Type 0
AreLinesInRange [] = Unit {0}
AreLinesInRange (line ∷ lines) = IsLineInRange line × AreLinesInRange lines

-- a script that `read` can answer
pub record IsScriptInRange (script : Script) : Type 0 where
  pub lines : AreLinesInRange script.lines
