-- The words of the program and the commands that they fit (this profile).
use Rattle.std.specs.Prelude.{ℕ, Bool, true, false, nat_le, ◌&&◌, if◌then◌else◌, List, [], ◌∷◌, Option, Some, None, map, String, string_bytes, codes}
use Rattle.std.specs.Global.{Global}
use Rattle.std.specs.Str.{bytes_eq}
use Rattle.er_base.specs.Numbers.{decimal_of}
use Rattle.er_program.specs.BulkTexts.{most_messages}

pub data Command : Type 0 where
  -- the words fit no command
  Misused : Command
  -- `drill SCENARIO`: the file word
  Drill : (name : List ℕ) → Command
  -- `bits FILE`: the file word
  Bits : (name : List ℕ) → Command
  -- `migrate KEYS`: the file word
  Migrate : (keys : List ℕ) → Command
  -- `replay KEYS TRACE`: the file words
  Replay : (keys trace : List ℕ) → Command
  -- `check KEYS TRACE`: the file words
  Check : (keys trace : List ℕ) → Command
  -- `audit KEYS TAP`, or with `ends` behind it: the file words, and whether ends are asked for
  Audit : (keys tap : List ℕ) (ends : Bool) → Command
  -- `bulk SEED COUNT`: the numbers
  Bulk : (seed count : ℕ) → Command
  -- `serve KEYS ADDRESS RBC TURNS`
  Serve : (keys address : List ℕ) (rbc turns : ℕ) → Command
  -- `call KEYS ADDRESS ENGINE RBC TURNS`
  Call : (keys address : List ℕ) (engine rbc turns : ℕ) → Command

-- words as octets
abbrev pub octets_of_words : List (String Global) → List (List ℕ)
octets_of_words words = map string_bytes words

-- ---- numbers

-- the most turns, and what stands for no bound: more than can ever be done
abbrev pub most_turns : ℕ
most_turns = 1000000000

abbrev pub no_bound : ℕ
no_bound = 18446744073709551615

-- a number that is at most this
abbrev pub at_most : ℕ → Option ℕ → Option ℕ
at_most most None = None
at_most most (Some n) = if nat_le n most then Some n else None

-- an ETCS number, which is below 2^24, as a decimal word
abbrev pub etcs_number : List ℕ → Option ℕ
etcs_number word = at_most 16777215 (decimal_of word)

-- a number of turns, as a decimal word or `-` for no bound
abbrev pub turns_number : List ℕ → Option ℕ
turns_number word = if bytes_eq word (codes "-") then Some no_bound else at_most most_turns (decimal_of word)

-- ---- commands by the number of their words

-- two words
abbrev pub command_of_two : List ℕ → List ℕ → Command
command_of_two command name =
    if bytes_eq command (codes "drill") then Drill name else
    if bytes_eq command (codes "bits") then Bits name else
    if bytes_eq command (codes "migrate") then Migrate name else Misused

-- a bulk run has a seed of 64 bits and not too many messages, both decimal
abbrev pub bulk_of : (seed count : Option ℕ) → Command
bulk_of None count = Misused
bulk_of (Some seed) None = Misused
bulk_of (Some seed) (Some count) = if nat_le count most_messages then Bulk seed count else Misused

-- three words
abbrev pub command_of_three : List ℕ → List ℕ → List ℕ → Command
command_of_three command first second =
    if bytes_eq command (codes "replay") then Replay first second else
    if bytes_eq command (codes "check") then Check first second else
    if bytes_eq command (codes "audit") then Audit first second false else
    if bytes_eq command (codes "bulk") then bulk_of (decimal_of first) (decimal_of second) else Misused

-- four words
abbrev pub command_of_four : (command keys tap asked : List ℕ) → Command
command_of_four command keys tap asked =
    if bytes_eq command (codes "audit") && bytes_eq asked (codes "ends") then Audit keys tap true else Misused

abbrev pub serve_of : (keys address : List ℕ) → (rbc turns : Option ℕ) → Command
serve_of keys address None turns = Misused
serve_of keys address (Some rbc) None = Misused
serve_of keys address (Some rbc) (Some turns) = Serve keys address rbc turns

-- five words
abbrev pub command_of_five : (command keys address rbc turns : List ℕ) → Command
command_of_five command keys address rbc turns =
    if bytes_eq command (codes "serve") then serve_of keys address (etcs_number rbc) (turns_number turns) else Misused

abbrev pub call_command_of : (keys address : List ℕ) → (engine rbc turns : Option ℕ) → Command
call_command_of keys address None rbc turns = Misused
call_command_of keys address (Some engine) None turns = Misused
call_command_of keys address (Some engine) (Some rbc) None = Misused
call_command_of keys address (Some engine) (Some rbc) (Some turns) = Call keys address engine rbc turns

-- six words
abbrev pub command_of_six : (command keys address engine rbc turns : List ℕ) → Command
command_of_six command keys address engine rbc turns =
    if bytes_eq command (codes "call") then call_command_of keys address (etcs_number engine) (etcs_number rbc) (turns_number turns) else Misused

abbrev pub command_of : List (List ℕ) → Command
command_of [] = Misused
command_of (command ∷ []) = Misused
command_of (command ∷ name ∷ []) = command_of_two command name
command_of (command ∷ first ∷ second ∷ []) = command_of_three command first second
command_of (command ∷ keys ∷ tap ∷ asked ∷ []) = command_of_four command keys tap asked
command_of (command ∷ keys ∷ address ∷ rbc ∷ turns ∷ []) = command_of_five command keys address rbc turns
command_of (command ∷ keys ∷ address ∷ engine ∷ rbc ∷ turns ∷ []) = command_of_six command keys address engine rbc turns
command_of (command ∷ first ∷ second ∷ third ∷ fourth ∷ fifth ∷ more ∷ rest) = Misused

-- ---- what a command asks for

-- the file words of a command, in their order
abbrev pub names_of : Command → List (List ℕ)
names_of Misused = []
names_of (Drill name) = name ∷ []
names_of (Bits name) = name ∷ []
names_of (Migrate keys) = keys ∷ []
names_of (Replay keys trace) = keys ∷ trace ∷ []
names_of (Check keys trace) = keys ∷ trace ∷ []
names_of (Audit keys tap ends) = keys ∷ tap ∷ []
names_of (Bulk seed count) = []
names_of (Serve keys address rbc turns) = keys ∷ []
names_of (Call keys address engine rbc turns) = keys ∷ []

-- whether it runs the readiness loop, and so needs wires, a clock and random words
abbrev pub needs_wires : Command → Bool
needs_wires Misused = false
needs_wires (Drill name) = false
needs_wires (Bits name) = false
needs_wires (Migrate keys) = false
needs_wires (Replay keys trace) = false
needs_wires (Check keys trace) = false
needs_wires (Audit keys tap ends) = false
needs_wires (Bulk seed count) = false
needs_wires (Serve keys address rbc turns) = true
needs_wires (Call keys address engine rbc turns) = true
