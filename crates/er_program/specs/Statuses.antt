-- What is claimed of a run of the program (this profile): the closed list of statuses of each command, what each status means, what the run
-- left alone, which names it asked for, and that each status comes exactly where its cause is met.
use Rattle.std.specs.Prelude.{◌≡◌, ◌≢◌, ◌⊎◌, ℕ, List, [], ◌∷◌, ◌++◌}
use Rattle.link_trait.specs.Outside.{Grew, GrewPart, Rose, HasFile}
use Rattle.er_program.specs.Commands.{Command, Misused, Drill, Bits, Migrate, Replay, Check, Audit, Bulk, Serve, Call, names_of}
use Rattle.er_serving.specs.Outsides.{Outside, traffic_of, IsUnasked, IsLeftAlone, IsSteady}
use Rattle.er_serving.specs.LineCommands as line
use Rattle.er_statuses.specs.LastLines.{usage_line, fetch_line, memory_line}
use Rattle.er_program.specs.Answers.{bits_answer}
use Rattle.er_program.specs.Runs.{Drilled, BitsRead, Migrated, Replayed, BulkCounted, IsOutOfForm, IsDrillBrokenOff, BitsTooLong, IsTraceOutOfForm}
use Rattle.er_program.specs.Runs.{IsEventRefused, IsBulkOverfull, IsSpent, IsTextBegun, HasStatus, HasKeysStatus, HasKeyedStatus, HasTraceStatus, HasBulkStatus}
use Rattle.er_statuses.specs.Answers.{AreKeysRefused}
use Rattle.er_program.specs.AuditRuns.{Audited, IsTapOutOfForm, IsTapLineRefused, HasTapStatus}
use Rattle.er_program.specs.CheckRuns.{Checked, IsRecordingOutOfForm, IsRecordedEventRefused, IsDifferent, HasRecordingStatus}
use Rattle.er_serving.specs.LineRuns.{IsLineStatus, GivenToLoop, IsServed, IsPairKeyless, IsLineBegun, IsLoopFailed, IsMemoryTold, IsLineIdle, HasLineStatus}

-- ---- the closed list of statuses

-- of a command that needs no wires
abbrev pub IsFileStatus : ℕ → Type 0
IsFileStatus s = (s ≡ 0) ⊎ (s ≡ 1) ⊎ (s ≡ 2) ⊎ (s ≡ 3) ⊎ (s ≡ 4) ⊎ (s ≡ 5) ⊎ (s ≡ 7) ⊎ (s ≡ 8) ⊎ (s ≡ 9)

-- of a command
abbrev pub IsStatusOf : Command → ℕ → Type 0
IsStatusOf Misused s = IsFileStatus s
IsStatusOf (Drill name) s = IsFileStatus s
IsStatusOf (Bits name) s = IsFileStatus s
IsStatusOf (Migrate keys) s = IsFileStatus s
IsStatusOf (Replay keys trace) s = IsFileStatus s
IsStatusOf (Check keys trace) s = IsFileStatus s
IsStatusOf (Audit keys tap ends) s = IsFileStatus s
IsStatusOf (Bulk seed count) s = IsFileStatus s
IsStatusOf (Serve keys address rbc turns) s = IsLineStatus s
IsStatusOf (Call keys address engine rbc turns) s = IsLineStatus s

-- ---- what each status means

-- status 0: all was done and all was printed; of `serve` and `call` the loop answered that it served
abbrev pub IsDone : Command → GivenToLoop → Outside → Outside → Type 0
IsDone Misused g before now = ⊥
IsDone (Drill name) g before now = Drilled name now.files before.held now.held
IsDone (Bits name) g before now = BitsRead name now.files before.held now.held
IsDone (Migrate keys) g before now = Migrated keys now.files before.held now.held
IsDone (Replay keys trace) g before now = Replayed keys trace now.files before.held now.held
IsDone (Check keys trace) g before now = Checked keys trace now.files before.held now.held
IsDone (Audit keys tap ends) g before now = Audited ends keys tap now.files before.held now.held
IsDone (Bulk seed count) g before now = BulkCounted seed count before.held now.held
IsDone (Serve keys address rbc turns) g before now = IsServed (line.Serve keys address rbc turns) g before now
IsDone (Call keys address engine rbc turns) g before now = IsServed (line.Call keys address engine rbc turns) g before now

-- status 1: the words fit no command
abbrev pub IsMisused : Command → Outside → Outside → Type 0
IsMisused Misused before now = Grew before.held now.held usage_line
IsMisused (Drill name) before now = ⊥
IsMisused (Bits name) before now = ⊥
IsMisused (Migrate keys) before now = ⊥
IsMisused (Replay keys trace) before now = ⊥
IsMisused (Check keys trace) before now = ⊥
IsMisused (Audit keys tap ends) before now = ⊥
IsMisused (Bulk seed count) before now = ⊥
IsMisused (Serve keys address rbc turns) before now = ⊥
IsMisused (Call keys address engine rbc turns) before now = ⊥

-- status 2: the fetch of a file word failed, the last name that was asked for; the file words before it were asked for before
pub record IsUnfetched (command : Command) (before now : Outside) : Type 0 where
  pub first : List (List ℕ)
  pub name : List ℕ
  pub rest : List (List ℕ)
  pub is : names_of command ≡ first ++ name ∷ rest
  pub asked_for : Grew before.asked now.asked (first ++ name ∷ [])
  pub rose : Rose before.unfetched now.unfetched
  pub printed : Grew before.held now.held (fetch_line name)

-- status 3: the file is out of its grammar, or a step, an event or a line of a tap is refused
abbrev pub IsRefused : Command → Outside → Outside → Type 0
IsRefused Misused before now = ⊥
IsRefused (Drill name) before now = IsOutOfForm name now.files before.held now.held ⊎ IsDrillBrokenOff name now.files 3 before.held now.held
IsRefused (Bits name) before now = BitsTooLong name now.files before.held now.held
IsRefused (Migrate keys) before now = ⊥
IsRefused (Replay keys trace) before now = IsTraceOutOfForm keys trace now.files before.held now.held ⊎ IsEventRefused keys trace now.files before.held now.held
IsRefused (Check keys trace) before now =
    IsRecordingOutOfForm keys trace now.files before.held now.held ⊎ IsRecordedEventRefused keys trace now.files before.held now.held
IsRefused (Audit keys tap ends) before now = IsTapOutOfForm keys tap now.files before.held now.held ⊎ IsTapLineRefused keys tap now.files before.held now.held
IsRefused (Bulk seed count) before now = ⊥
IsRefused (Serve keys address rbc turns) before now = ⊥
IsRefused (Call keys address engine rbc turns) before now = ⊥

-- status 4: the key file is refused, or no key of a call's pair holds
abbrev pub IsKeyless : Command → Outside → Outside → Type 0
IsKeyless Misused before now = ⊥
IsKeyless (Drill name) before now = ⊥
IsKeyless (Bits name) before now = ⊥
IsKeyless (Migrate keys) before now = AreKeysRefused keys now.files before.asked now.asked before.held now.held
IsKeyless (Replay keys trace) before now = AreKeysRefused keys now.files before.asked now.asked before.held now.held
IsKeyless (Check keys trace) before now = AreKeysRefused keys now.files before.asked now.asked before.held now.held
IsKeyless (Audit keys tap ends) before now = AreKeysRefused keys now.files before.asked now.asked before.held now.held
IsKeyless (Bulk seed count) before now = ⊥
IsKeyless (Serve keys address rbc turns) before now = AreKeysRefused keys now.files before.asked now.asked before.held now.held
IsKeyless (Call keys address engine rbc turns) before now =
    AreKeysRefused keys now.files before.asked now.asked before.held now.held ⊎ IsPairKeyless (line.Call keys address engine rbc turns) before now

-- a beginning of what the run would have printed
abbrev pub HasPrintedBeginning : Command → GivenToLoop → Outside → Outside → Type 0
HasPrintedBeginning Misused g before now = IsTextBegun Misused now.files before.unfetched now.unfetched before.held now.held
HasPrintedBeginning (Drill name) g before now = IsTextBegun (Drill name) now.files before.unfetched now.unfetched before.held now.held
HasPrintedBeginning (Bits name) g before now = IsTextBegun (Bits name) now.files before.unfetched now.unfetched before.held now.held
HasPrintedBeginning (Migrate keys) g before now = IsTextBegun (Migrate keys) now.files before.unfetched now.unfetched before.held now.held
HasPrintedBeginning (Replay keys trace) g before now = IsTextBegun (Replay keys trace) now.files before.unfetched now.unfetched before.held now.held
HasPrintedBeginning (Check keys trace) g before now = IsTextBegun (Check keys trace) now.files before.unfetched now.unfetched before.held now.held
HasPrintedBeginning (Audit keys tap ends) g before now = IsTextBegun (Audit keys tap ends) now.files before.unfetched now.unfetched before.held now.held
HasPrintedBeginning (Bulk seed count) g before now = IsTextBegun (Bulk seed count) now.files before.unfetched now.unfetched before.held now.held
HasPrintedBeginning (Serve keys address rbc turns) g before now = IsLineBegun (line.Serve keys address rbc turns) g before now
HasPrintedBeginning (Call keys address engine rbc turns) g before now = IsLineBegun (line.Call keys address engine rbc turns) g before now

-- status 5: a write of the sink failed
pub record IsSinkFailed (command : Command) (g : GivenToLoop) (before now : Outside) : Type 0 where
  pub rose : Rose before.sunk now.sunk
  pub beginning : HasPrintedBeginning command g before now

-- status 6: a listen, dial or turn of the wires failed
abbrev pub AreWiresFailed : Command → GivenToLoop → Outside → Outside → Type 0
AreWiresFailed Misused g before now = ⊥
AreWiresFailed (Drill name) g before now = ⊥
AreWiresFailed (Bits name) g before now = ⊥
AreWiresFailed (Migrate keys) g before now = ⊥
AreWiresFailed (Replay keys trace) g before now = ⊥
AreWiresFailed (Check keys trace) g before now = ⊥
AreWiresFailed (Audit keys tap ends) g before now = ⊥
AreWiresFailed (Bulk seed count) g before now = ⊥
AreWiresFailed (Serve keys address rbc turns) g before now = IsLoopFailed (line.Serve keys address rbc turns) g before now
AreWiresFailed (Call keys address engine rbc turns) g before now = IsLoopFailed (line.Call keys address engine rbc turns) g before now

-- status 7: memory ran out
abbrev pub IsOutOfMemory : Command → GivenToLoop → Outside → Outside → Type 0
IsOutOfMemory Misused g before now = IsSpent Misused now.files before.held now.held
IsOutOfMemory (Drill name) g before now = IsSpent (Drill name) now.files before.held now.held
IsOutOfMemory (Bits name) g before now = IsSpent (Bits name) now.files before.held now.held
IsOutOfMemory (Migrate keys) g before now = IsSpent (Migrate keys) now.files before.held now.held
IsOutOfMemory (Replay keys trace) g before now = IsSpent (Replay keys trace) now.files before.held now.held
IsOutOfMemory (Check keys trace) g before now = IsSpent (Check keys trace) now.files before.held now.held
IsOutOfMemory (Audit keys tap ends) g before now = IsSpent (Audit keys tap ends) now.files before.held now.held
IsOutOfMemory (Bulk seed count) g before now = IsSpent (Bulk seed count) now.files before.held now.held
IsOutOfMemory (Serve keys address rbc turns) g before now =
    IsMemoryTold (line.Serve keys address rbc turns) g before now (λ held held_now. Grew held held_now memory_line)
IsOutOfMemory (Call keys address engine rbc turns) g before now =
    IsMemoryTold (line.Call keys address engine rbc turns) g before now (λ held held_now. Grew held held_now memory_line)

-- status 8: a frame would be one more than may wait in one direction
abbrev pub IsOverfull : Command → Outside → Outside → Type 0
IsOverfull Misused before now = ⊥
IsOverfull (Drill name) before now = IsDrillBrokenOff name now.files 8 before.held now.held
IsOverfull (Bits name) before now = ⊥
IsOverfull (Migrate keys) before now = ⊥
IsOverfull (Replay keys trace) before now = ⊥
IsOverfull (Check keys trace) before now = ⊥
IsOverfull (Audit keys tap ends) before now = ⊥
IsOverfull (Bulk seed count) before now = IsBulkOverfull seed count before.held now.held
IsOverfull (Serve keys address rbc turns) before now = ⊥
IsOverfull (Call keys address engine rbc turns) before now = ⊥

-- status 9: a checked recording isn't what its replay prints
abbrev pub IsUnlikeReplay : Command → Outside → Outside → Type 0
IsUnlikeReplay Misused before now = ⊥
IsUnlikeReplay (Drill name) before now = ⊥
IsUnlikeReplay (Bits name) before now = ⊥
IsUnlikeReplay (Migrate keys) before now = ⊥
IsUnlikeReplay (Replay keys trace) before now = ⊥
IsUnlikeReplay (Check keys trace) before now = IsDifferent keys trace now.files before.held now.held
IsUnlikeReplay (Audit keys tap ends) before now = ⊥
IsUnlikeReplay (Bulk seed count) before now = ⊥
IsUnlikeReplay (Serve keys address rbc turns) before now = ⊥
IsUnlikeReplay (Call keys address engine rbc turns) before now = ⊥

pub record Means (command : Command) (g : GivenToLoop) (before now : Outside) (status : ℕ) : Type 0 where
  pub done : status ≡ 0 → IsDone command g before now
  pub misused : status ≡ 1 → IsMisused command before now
  pub unfetched : status ≡ 2 → IsUnfetched command before now
  pub refused : status ≡ 3 → IsRefused command before now
  pub keyless : status ≡ 4 → IsKeyless command before now
  pub sunk : status ≡ 5 → IsSinkFailed command g before now
  pub wires : status ≡ 6 → AreWiresFailed command g before now
  pub memory : status ≡ 7 → IsOutOfMemory command g before now
  pub overfull : status ≡ 8 → IsOverfull command before now
  pub unlike : status ≡ 9 → IsUnlikeReplay command before now

-- ---- what the outside got

-- the wires of a command that needs none get no call, whatever its status; of `serve` and `call` the statuses 5, 6 and 7 tell what the loop
-- called, or that it didn't begin and the wires were left alone
abbrev pub IsIdle : Command → Outside → Outside → ℕ → Type 0
IsIdle Misused before now status = IsLeftAlone IsUnasked (traffic_of before) (traffic_of now)
IsIdle (Drill name) before now status = IsLeftAlone IsUnasked (traffic_of before) (traffic_of now)
IsIdle (Bits name) before now status = IsLeftAlone IsUnasked (traffic_of before) (traffic_of now)
IsIdle (Migrate keys) before now status = IsLeftAlone IsUnasked (traffic_of before) (traffic_of now)
IsIdle (Replay keys trace) before now status = IsLeftAlone IsUnasked (traffic_of before) (traffic_of now)
IsIdle (Check keys trace) before now status = IsLeftAlone IsUnasked (traffic_of before) (traffic_of now)
IsIdle (Audit keys tap ends) before now status = IsLeftAlone IsUnasked (traffic_of before) (traffic_of now)
IsIdle (Bulk seed count) before now status = IsLeftAlone IsUnasked (traffic_of before) (traffic_of now)
IsIdle (Serve keys address rbc turns) before now status = IsLineIdle (line.Serve keys address rbc turns) before now status
IsIdle (Call keys address engine rbc turns) before now status = IsLineIdle (line.Call keys address engine rbc turns) before now status

-- the file words are asked for in their order, each once, and nothing else is; at statuses 2 and 4 these tell up to which one
pub record AreAsked (command : Command) (before now : Outside) (status : ℕ) : Type 0 where
  pub part : GrewPart before.asked now.asked (names_of command)
  pub all : status ≢ 2 → status ≢ 4 → status ≢ 5 → status ≢ 7 → Grew before.asked now.asked (names_of command)

-- ---- completeness

-- where no call that the command makes failed, its words, its files and for a call the moment give the status, want of memory aside: in
-- particular 0 where the file is good and all its steps or events are done
abbrev pub IsComplete : Command → Outside → Outside → ℕ → Type 0
IsComplete Misused before now status = (Rose before.sunk now.sunk → ⊥) → (status ≡ 1) ⊎ (status ≡ 7)
IsComplete (Drill name) before now status = (Rose before.unfetched now.unfetched → ⊥) → (Rose before.sunk now.sunk → ⊥)
    → ((file : List ℕ) × HasFile now.files name file × HasStatus file status) ⊎ (status ≡ 7)
IsComplete (Bits name) before now status = (Rose before.unfetched now.unfetched → ⊥) → (Rose before.sunk now.sunk → ⊥)
    → ((file : List ℕ) × HasFile now.files name file × (status ≡ (bits_answer file).status)) ⊎ (status ≡ 7)
IsComplete (Migrate keys) before now status = (Rose before.unfetched now.unfetched → ⊥) → (Rose before.sunk now.sunk → ⊥)
    → ((file : List ℕ) × HasFile now.files keys file × HasKeysStatus file status) ⊎ (status ≡ 7)
IsComplete (Replay keys trace) before now status = (Rose before.unfetched now.unfetched → ⊥) → (Rose before.sunk now.sunk → ⊥)
    → HasKeyedStatus HasTraceStatus keys trace now.files status ⊎ (status ≡ 7)
IsComplete (Check keys trace) before now status = (Rose before.unfetched now.unfetched → ⊥) → (Rose before.sunk now.sunk → ⊥)
    → HasKeyedStatus HasRecordingStatus keys trace now.files status ⊎ (status ≡ 7)
IsComplete (Audit keys tap ends) before now status = (Rose before.unfetched now.unfetched → ⊥) → (Rose before.sunk now.sunk → ⊥)
    → HasKeyedStatus (HasTapStatus ends) keys tap now.files status ⊎ (status ≡ 7)
IsComplete (Bulk seed count) before now status = (Rose before.sunk now.sunk → ⊥) → HasBulkStatus seed count status ⊎ (status ≡ 7)
IsComplete (Serve keys address rbc turns) before now status = (Rose before.unfetched now.unfetched → ⊥) → (Rose before.sunk now.sunk → ⊥)
    → (Rose before.turns_failed now.turns_failed → ⊥)
    → HasLineStatus (line.Serve keys address rbc turns) before now status ⊎ (status ≡ 7)
IsComplete (Call keys address engine rbc turns) before now status = (Rose before.unfetched now.unfetched → ⊥) → (Rose before.sunk now.sunk → ⊥)
    → (Rose before.turns_failed now.turns_failed → ⊥)
    → HasLineStatus (line.Call keys address engine rbc turns) before now status ⊎ (status ≡ 7)

-- ---- a run

-- all of this
pub record IsRun (command : Command) (g : GivenToLoop) (before now : Outside) (status : ℕ) : Type 0 where
  pub known : IsStatusOf command status
  pub means : Means command g before now status
  pub idle : IsIdle command before now status
  pub asked : AreAsked command before now status
  pub complete : IsComplete command before now status
  pub steady : IsSteady before now
