-- The commands that run the readiness loop, and so need wires, a clock and random words: `serve` and `call` (this profile).
use Rattle.std.specs.Prelude.{ℕ, List, Option}
use Rattle.er_serving.specs.Outsides.{IsUnasked, IsAskedOnceAtMost}

pub data LineCommand : Type 0 where
  -- `serve KEYS ADDRESS RBC TURNS`
  Serve : (keys address : List ℕ) (rbc turns : ℕ) → LineCommand
  -- `call KEYS ADDRESS ENGINE RBC TURNS`
  Call : (keys address : List ℕ) (engine rbc turns : ℕ) → LineCommand

-- the name of its key file
abbrev pub key_file_of : LineCommand → List ℕ
key_file_of (Serve keys address rbc turns) = keys
key_file_of (Call keys address engine rbc turns) = keys

-- what it asks the clock for before its loop: nothing, but a call for the moment of its look-up
abbrev pub AsksClock : LineCommand → (before now : Option (List ℕ)) → Type 0
AsksClock (Serve keys address rbc turns) before now = IsUnasked before now
AsksClock (Call keys address engine rbc turns) before now = IsAskedOnceAtMost before now
