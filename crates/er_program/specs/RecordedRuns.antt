-- Recorded before it goes, for a run of the program: what a command that needs wires gives to connections (this profile).
use Rattle.std.specs.Prelude.{◌≡◌, true}
use Rattle.outside.specs.Doings.{Told}
use Rattle.er_serving.specs.RecordedLines.{IsLineRecorded}
use Rattle.er_program.specs.Commands.{Command, needs_wires}

-- by all that was done to the outside, in its one order
abbrev pub IsRunRecorded : Command → Told → Told → Type 0
IsRunRecorded command before now = needs_wires command ≡ true → IsLineRecorded before now
