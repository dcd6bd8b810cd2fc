-- What is claimed of a run of `serve` or `call` (this profile): the statuses, what the loop did, what the sink got, and why it ended otherwise.
use Rattle.std.specs.Prelude.{◌≡◌, ◌⊎◌, ℕ, List, [], ◌∷◌, Option, Some, None, Result, Ok, Err, codes}
use Rattle.std.specs.Fmt.{decimal}
use Rattle.rand_core.specs.Stream.{Stream}
use Rattle.er_base.specs.LineTexts.{line_text}
use Rattle.er_settings.specs.Making.{usual_settings}
use Rattle.er_users.specs.Users.{Mind}
use Rattle.des_block.specs.declared.triple_key.TripleKey.{TripleKey}
use Rattle.safety_automaton.specs.Keys.{KmacEntry, key_at}
use Rattle.key_store.specs.declared.key_file_fault.KeyFileFault.{KeyFileFault}
use Rattle.key_store.specs.KeyFiles.{keys_of}
use Rattle.link_trait.specs.Outside.{Grew, GrewPart, Rose, HasFile}
use Rattle.readiness_loop.specs.declared.line_plan.LinePlan.{LinePlan}
use Rattle.readiness_loop.specs.declared.line_plan.LoopStop.{LoopStop}
use Rattle.readiness_loop.specs.Claims.{serving, dialling, halt_for, HasServed, FailsToServe, BreaksOffServing, HasDialled, FailsToDial, BreaksOffDialling}
use Rattle.er_serving.specs.LineCommands.{LineCommand, Serve, Call, key_file_of, AsksClock}
use Rattle.er_serving.specs.Outsides.{Outside, Traffic, traffic_of, of_loop, IsLeftAlone}
use Rattle.er_statuses.specs.LastLines.{fetch_line, memory_line}
use Rattle.er_statuses.specs.Answers.{Files, keys_answer}

-- the closed list of statuses
abbrev pub IsLineStatus : ℕ → Type 0
IsLineStatus s = (s ≡ 0) ⊎ (s ≡ 2) ⊎ (s ≡ 4) ⊎ (s ≡ 5) ⊎ (s ≡ 6) ⊎ (s ≡ 7)

-- status 6
abbrev pub wires_line : List ℕ
wires_line = codes "! wires\n"

-- status 4: the pair of a call has no key that holds
abbrev pub no_key_line : (engine rbc : ℕ) → List ℕ
no_key_line engine rbc = line_text (codes "!" ∷ codes "keys" ∷ codes "none" ∷ decimal engine ∷ decimal rbc ∷ [])

-- the usual settings, and so many turns
abbrev pub usual : ℕ → LinePlan
usual turns = record { settings = usual_settings; turns = turns }

-- what a loop is given: how many users, their minds, and the random words
pub record GivenToLoop : Type 0 where
  pub handed : ℕ
  pub minds : List Mind
  pub words : Stream

abbrev pub given_to_loop : ℕ → List Mind → Stream → GivenToLoop
given_to_loop handed minds words = record { handed = handed; minds = minds; words = words }

-- the file of that name is a key file with these entries
pub record HasKeys (name : List ℕ) (files : Files) (entries : List KmacEntry) : Type 0 where
  pub file : List ℕ
  pub stands : HasFile files name file
  pub spelled : keys_of file ≡ Ok entries

-- ---- the loop of a command, with these entries of its key file

-- what was told behind some answers of the clock
abbrev pub with_clock : Traffic → Option (List ℕ) → Traffic
with_clock o clock = record {
  held = o.held;
  sunk = o.sunk;
  calls = o.calls;
  failed = o.failed;
  turns_failed = o.turns_failed;
  listening = o.listening;
  clock = clock;
}

-- what was told when the sink had these octets and faults
abbrev pub with_sink : Traffic → Option (List ℕ) → ℕ → Traffic
with_sink o held sunk = record {
  held = held;
  sunk = sunk;
  calls = o.calls;
  failed = o.failed;
  turns_failed = o.turns_failed;
  listening = o.listening;
  clock = o.clock;
}

-- before its look-up, a call asked the clock, once, and the pair's key holds at that moment; the loop begins behind that
pub record IsKeyed (entries : List KmacEntry) (engine rbc : ℕ) (before : Traffic) (Loop : TripleKey → Traffic → Type 0) : Type 0 where
  pub moment : ℕ
  pub clock : Option (List ℕ)
  pub asked : Grew before.clock clock (moment ∷ [])
  pub kmac : TripleKey
  pub holds : key_at entries moment engine rbc ≡ Some kmac
  pub loop : Loop kmac (with_clock before clock)

-- the loop answered that it served: so many turns, and why it stopped
pub record HasLoopStopped (HasLooped : ℕ → LoopStop → Type 0) : Type 0 where
  pub turns : ℕ
  pub why : LoopStop
  pub has : HasLooped turns why

abbrev pub Looped : LineCommand → List KmacEntry → GivenToLoop → Traffic → Traffic → Type 0
Looped (Serve keys address rbc turns) entries g before now =
    HasLoopStopped (λ count why. HasServed (of_loop before) (of_loop now) (serving entries (usual turns) rbc g.handed) address g.minds g.words count
    (halt_for why))
Looped (Call keys address engine rbc turns) entries g before now =
    IsKeyed entries engine rbc before (λ kmac began. HasLoopStopped (λ count why.
    HasDialled (of_loop began) (of_loop now) (dialling kmac (usual turns) engine rbc g.handed) (record { engine = engine; kmac = kmac }) address g.minds
    g.words count (halt_for why)))

-- a listen, dial or turn of the wires failed in it
abbrev pub LoopFails : LineCommand → List KmacEntry → GivenToLoop → Traffic → Traffic → Type 0
LoopFails (Serve keys address rbc turns) entries g before now =
    (left : Stream) × FailsToServe (of_loop before) (of_loop now) (serving entries (usual turns) rbc g.handed) address g.minds g.words left
LoopFails (Call keys address engine rbc turns) entries g before now =
    IsKeyed entries engine rbc before (λ kmac began.
    (left : Stream) × FailsToDial (of_loop began) (of_loop now) (dialling kmac (usual turns) engine rbc g.handed) (record { engine = engine; kmac = kmac })
    address g.minds g.words left)

-- a write of the sink failed or memory ran out in it: a beginning was printed and called
abbrev pub LoopBreaks : LineCommand → List KmacEntry → GivenToLoop → Traffic → Traffic → Type 0
LoopBreaks (Serve keys address rbc turns) entries g before now =
    BreaksOffServing (of_loop before) (of_loop now) (serving entries (usual turns) rbc g.handed) address g.minds g.words
LoopBreaks (Call keys address engine rbc turns) entries g before now =
    IsKeyed entries engine rbc before (λ kmac began.
    BreaksOffDialling (of_loop began) (of_loop now) (dialling kmac (usual turns) engine rbc g.handed) (record { engine = engine; kmac = kmac }) address
    g.minds g.words)

-- the wires failed, and then a part of the last line was written
pub record FailsWith (command : LineCommand) (entries : List KmacEntry) (g : GivenToLoop) (before now : Traffic)
    (Last : Option (List ℕ) → Option (List ℕ) → Type 0) : Type 0 where
  pub held : Option (List ℕ)
  pub sunk : ℕ
  pub fails : LoopFails command entries g before (with_sink now held sunk)
  pub last : Last held now.held

-- no entry of the pair of a call holds at the moment that the clock was asked for, once
pub record HasNoKey (engine rbc : ℕ) (entries : List KmacEntry) (before now : Option (List ℕ)) : Type 0 where
  pub moment : ℕ
  pub asked : Grew before now (moment ∷ [])
  pub none : key_at entries moment engine rbc ≡ None

abbrev pub LacksKey : LineCommand → List KmacEntry → Traffic → Traffic → (List ℕ → Type 0) → Type 0
LacksKey (Serve keys address rbc turns) entries before now Written = ⊥
LacksKey (Call keys address engine rbc turns) entries before now Written =
    HasNoKey engine rbc entries before.clock now.clock × Written (no_key_line engine rbc)

-- ---- status 0

-- the key file is good, and the loop answered that it served
pub record IsServed (command : LineCommand) (g : GivenToLoop) (before now : Outside) : Type 0 where
  pub entries : List KmacEntry
  pub keys : HasKeys (key_file_of command) now.files entries
  pub looped : Looped command entries g (traffic_of before) (traffic_of now)

-- ---- status 4

-- the key file is good, and the pair of a call has no key that holds, which is printed alone
pub record IsPairKeyless (command : LineCommand) (before now : Outside) : Type 0 where
  pub asked_for : Grew before.asked now.asked (key_file_of command ∷ [])
  pub entries : List KmacEntry
  pub keys : HasKeys (key_file_of command) now.files entries
  pub lacks : LacksKey command entries (traffic_of before) (traffic_of now) (Grew before.held now.held)

-- ---- status 5

-- a beginning of what would have been written in place of the loop's text: the last line of status 2 or 4
pub data IsLastLineBegun (command : LineCommand) (before now : Outside) : Type 0 where
  OfFetch : Rose before.unfetched now.unfetched → GrewPart before.held now.held (fetch_line (key_file_of command))
      → IsLastLineBegun command before now
  OfKeyFile : (file : List ℕ) → HasFile now.files (key_file_of command) file → (fault : KeyFileFault) → keys_of file ≡ Err fault
      → GrewPart before.held now.held (keys_answer fault).text → IsLastLineBegun command before now
  OfPair : (entries : List KmacEntry) → HasKeys (key_file_of command) now.files entries
      → LacksKey command entries (traffic_of before) (traffic_of now) (GrewPart before.held now.held) → IsLastLineBegun command before now

-- a beginning of the loop's text; or, where the wires failed, all of it and a beginning of the last line
pub record IsLoopBegun (command : LineCommand) (g : GivenToLoop) (before now : Outside) : Type 0 where
  pub entries : List KmacEntry
  pub keys : HasKeys (key_file_of command) now.files entries
  pub begun : LoopBreaks command entries g (traffic_of before) (traffic_of now)
      ⊎ FailsWith command entries g (traffic_of before) (traffic_of now) (λ held held_now. GrewPart held held_now wires_line)

-- memory ran out: before the loop, and nothing was printed or called; or in it, and a beginning was printed and called
pub data RunsOut (command : LineCommand) (g : GivenToLoop) (files : Files) (before now : Traffic) : Type 0 where
  BeforeLoop : Grew before.held now.held [] → IsLeftAlone (AsksClock command) before now → RunsOut command g files before now
  WithinLoop : (entries : List KmacEntry) → HasKeys (key_file_of command) files entries → LoopBreaks command entries g before now
      → RunsOut command g files before now

-- memory ran out, and then a part of the last line of status 7 was written
pub record IsMemoryTold (command : LineCommand) (g : GivenToLoop) (before now : Outside) (Last : Option (List ℕ) → Option (List ℕ) → Type 0) : Type 0 where
  pub held : Option (List ℕ)
  pub sunk : ℕ
  pub out : RunsOut command g now.files (traffic_of before) (with_sink (traffic_of now) held sunk)
  pub last : Last held now.held

-- a write failed: before the loop, and the wires were left alone; or in it; or behind want of memory
pub data IsLineBegun (command : LineCommand) (g : GivenToLoop) (before now : Outside) : Type 0 where
  NotLooped : IsLastLineBegun command before now → IsLeftAlone (AsksClock command) (traffic_of before) (traffic_of now) → IsLineBegun command g before now
  Looping : IsLoopBegun command g before now → IsLineBegun command g before now
  Spent : IsMemoryTold command g before now (λ held held_now. GrewPart held held_now memory_line) → IsLineBegun command g before now

-- ---- status 6

-- a listen, dial or turn of the wires failed, and the last line stands behind what the loop printed
pub record IsLoopFailed (command : LineCommand) (g : GivenToLoop) (before now : Outside) : Type 0 where
  pub rose : Rose before.turns_failed now.turns_failed
  pub entries : List KmacEntry
  pub keys : HasKeys (key_file_of command) now.files entries
  pub failed : FailsWith command entries g (traffic_of before) (traffic_of now) (λ held held_now. Grew held held_now wires_line)

-- ---- completeness

-- the status of a key file that is refused is that of its line; one that is good leaves it to the loop, or to the pair's key
abbrev pub IsStatusOfPair : Option TripleKey → ℕ → Type 0
IsStatusOfPair None status = status ≡ 4
IsStatusOfPair (Some kmac) status = status ≡ 0

-- of the answers of the clock in this run, the first is the moment of the look-up
pub record HasPairStatus (entries : List KmacEntry) (engine rbc : ℕ) (before now : Option (List ℕ)) (status : ℕ) : Type 0 where
  pub moment : ℕ
  pub clock : Option (List ℕ)
  pub asked : Grew before clock (moment ∷ [])
  pub more : List ℕ
  pub later : Grew clock now more
  pub is : IsStatusOfPair (key_at entries moment engine rbc) status

abbrev pub IsStatusOfLoop : LineCommand → List KmacEntry → Outside → Outside → ℕ → Type 0
IsStatusOfLoop (Serve keys address rbc turns) entries before now status = status ≡ 0
IsStatusOfLoop (Call keys address engine rbc turns) entries before now status = HasPairStatus entries engine rbc before.clock now.clock status

abbrev pub IsStatusBehindKeyFile : LineCommand → Result (List KmacEntry) KeyFileFault → Outside → Outside → ℕ → Type 0
IsStatusBehindKeyFile command (Err fault) before now status = status ≡ (keys_answer fault).status
IsStatusBehindKeyFile command (Ok entries) before now status = IsStatusOfLoop command entries before now status

-- the key file's status, and that of the loop where it is good
pub record HasLineStatus (command : LineCommand) (before now : Outside) (status : ℕ) : Type 0 where
  pub file : List ℕ
  pub stands : HasFile now.files (key_file_of command) file
  pub is : IsStatusBehindKeyFile command (keys_of file) before now status

-- ---- what is left alone

-- the wires are left alone where the key file can't be fetched or isn't good, or the pair has no key
pub record IsLineIdle (command : LineCommand) (before now : Outside) (status : ℕ) : Type 0 where
  pub unfetched : status ≡ 2 → IsLeftAlone (AsksClock command) (traffic_of before) (traffic_of now)
  pub keyless : status ≡ 4 → IsLeftAlone (AsksClock command) (traffic_of before) (traffic_of now)
