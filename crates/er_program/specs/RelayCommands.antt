-- The words of `relay SCRIPT LISTEN DIAL TURNS` (this profile).
use Rattle.std.specs.Prelude.{ℕ, if◌then◌else◌, List, [], ◌∷◌, Option, Some, None, codes}
use Rattle.std.specs.Str.{bytes_eq}
use Rattle.er_program.specs.Commands.{turns_number}
use Rattle.er_program.specs.declared.relay.RelayCommand.{RelayCommand}

pub record Relay : Type 0 where
  -- the name of the script
  pub script : List ℕ
  -- the addresses
  pub listen : List ℕ
  pub dial : List ℕ
  pub turns : ℕ

abbrev pub relay_of : (script listen dial : List ℕ) → (turns : Option ℕ) → Option Relay
relay_of script listen dial None = None
relay_of script listen dial (Some turns) = Some (record { script = script; listen = listen; dial = dial; turns = turns })

-- the command, where these words fit it
abbrev pub relay_command_of : List (List ℕ) → Option Relay
relay_command_of [] = None
relay_command_of (command ∷ []) = None
relay_command_of (command ∷ first ∷ []) = None
relay_command_of (command ∷ first ∷ second ∷ []) = None
relay_command_of (command ∷ first ∷ second ∷ third ∷ []) = None
relay_command_of (command ∷ script ∷ listen ∷ dial ∷ turns ∷ []) =
    if bytes_eq command (codes "relay") then relay_of script listen dial (turns_number turns) else None
relay_command_of (command ∷ first ∷ second ∷ third ∷ fourth ∷ fifth ∷ rest) = None

-- the command of the code as the definition has it
abbrev pub relay_view : RelayCommand → Relay
relay_view command = record { script = command.script.now; listen = command.listen.now; dial = command.dial.now; turns = command.turns }
