-- The words of `serve` and `call` with an application: those of the command without one, and behind them the name of the file at which the application comes
-- (this profile).
use Rattle.std.specs.Prelude.{ℕ, List, [], ◌∷◌, Option, Some, None}
use Rattle.er_program.specs.Commands.{Command, Misused, Drill, Bits, Migrate, Replay, Check, Audit, Bulk, Serve, Call, command_of}

pub data ApplicationCommand : Type 0 where
  -- `serve KEYS ADDRESS RBC TURNS APPLICATION`
  ServeBeside : (keys address : List ℕ) (rbc turns : ℕ) (application : List ℕ) → ApplicationCommand
  -- `call KEYS ADDRESS ENGINE RBC TURNS APPLICATION`
  CallBeside : (keys address : List ℕ) (engine rbc turns : ℕ) (application : List ℕ) → ApplicationCommand

-- the name of its key file
abbrev pub key_file_beside : ApplicationCommand → List ℕ
key_file_beside (ServeBeside keys address rbc turns application) = keys
key_file_beside (CallBeside keys address engine rbc turns application) = keys

-- `serve` or `call` and a further word; no other command has an application
abbrev pub beside : Command → (application : List ℕ) → Option ApplicationCommand
beside Misused application = None
beside (Drill name) application = None
beside (Bits name) application = None
beside (Migrate keys) application = None
beside (Replay keys trace) application = None
beside (Check keys trace) application = None
beside (Audit keys tap ends) application = None
beside (Bulk seed count) application = None
beside (Serve keys address rbc turns) application = Some (ServeBeside keys address rbc turns application)
beside (Call keys address engine rbc turns) application = Some (CallBeside keys address engine rbc turns application)

-- the command with an application, where these words fit it
abbrev pub application_command_of : List (List ℕ) → Option ApplicationCommand
application_command_of [] = None
application_command_of (a ∷ []) = None
application_command_of (a ∷ b ∷ []) = None
application_command_of (a ∷ b ∷ c ∷ []) = None
application_command_of (a ∷ b ∷ c ∷ d ∷ []) = None
application_command_of (a ∷ b ∷ c ∷ d ∷ e ∷ []) = None
application_command_of (a ∷ b ∷ c ∷ d ∷ e ∷ last ∷ []) = beside (command_of (a ∷ b ∷ c ∷ d ∷ e ∷ [])) last
application_command_of (a ∷ b ∷ c ∷ d ∷ e ∷ f ∷ last ∷ []) = beside (command_of (a ∷ b ∷ c ∷ d ∷ e ∷ f ∷ [])) last
application_command_of (a ∷ b ∷ c ∷ d ∷ e ∷ f ∷ g ∷ h ∷ rest) = None
