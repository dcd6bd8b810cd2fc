-- The program's outside, as its clauses see it: a cabinet of files, a sink, wires and a clock (this profile).
use Rattle.std.specs.Prelude.{◌≡◌, ◌≤◌, ◌⊎◌, ℕ, Bool, List, [], ◌∷◌, Option}
use Rattle.link_trait.specs.Outside.{Grew, HasStayedAsTold}
use Rattle.link_trait.specs.Wires.{Call as WiresCall}
use Rattle.outside.specs.Doings.{Told}
use Rattle.readiness_loop.specs.Claims as loop

pub record Outside : Type 0 where
  -- the cabinet: its files, name and octets, the names that it was asked for, and how often a fetch failed
  pub files : Option (List (List ℕ × List ℕ))
  pub asked : Option (List (List ℕ))
  pub unfetched : ℕ
  -- the sink: the octets that it holds, and how often a write failed
  pub held : Option (List ℕ)
  pub sunk : ℕ
  -- the wires: the calls made on them, how often one failed, how often a listen, dial or turn did, and whether they listen
  pub calls : Option (List WiresCall)
  pub failed : ℕ
  pub turns_failed : ℕ
  pub listening : Bool
  -- the clock: its answers
  pub clock : Option (List ℕ)

-- what an outside tells
abbrev pub outside_of : Told → Outside
outside_of told = record {
  files = told.cabinet.files;
  asked = told.cabinet.asked;
  unfetched = told.cabinet.faults;
  held = told.sink.held;
  sunk = told.sink.faults;
  calls = told.wires.calls;
  failed = told.wires.faults;
  turns_failed = told.wires.turn_faults;
  listening = told.wires.listening;
  clock = told.clock.answers;
}

-- all of it but the cabinet
pub record Traffic : Type 0 where
  pub held : Option (List ℕ)
  pub sunk : ℕ
  pub calls : Option (List WiresCall)
  pub failed : ℕ
  pub turns_failed : ℕ
  pub listening : Bool
  pub clock : Option (List ℕ)

abbrev pub traffic_of : Outside → Traffic
traffic_of o = record {
  held = o.held;
  sunk = o.sunk;
  calls = o.calls;
  failed = o.failed;
  turns_failed = o.turns_failed;
  listening = o.listening;
  clock = o.clock;
}

-- the same of what an outside tells
abbrev pub traffic_at : Told → Traffic
traffic_at told = traffic_of (outside_of told)

-- the part of it of which the readiness loop's claims speak
abbrev pub of_loop : Traffic → loop.LoopOutside
of_loop o = record { held = o.held; sunk = o.sunk; calls = o.calls; failed = o.failed; listening = o.listening; clock = o.clock }

-- ---- what a run leaves alone

-- the clock wasn't asked
abbrev pub IsUnasked : (before now : Option (List ℕ)) → Type 0
IsUnasked before now = now ≡ before

-- it was asked once at most
abbrev pub IsAskedOnceAtMost : (before now : Option (List ℕ)) → Type 0
IsAskedOnceAtMost before now = (now ≡ before) ⊎ ((moment : ℕ) × Grew before now (moment ∷ []))

-- no call was made on the wires, and of the clock no more was asked than this
pub record IsLeftAlone (IsAsked : (before now : Option (List ℕ)) → Type 0) (before now : Traffic) : Type 0 where
  pub calls : now.calls ≡ before.calls
  pub failed : now.failed ≡ before.failed
  pub turns_failed : now.turns_failed ≡ before.turns_failed
  pub listening : now.listening ≡ before.listening
  pub clock : IsAsked before.clock now.clock

-- the cabinet's files stay, and the counts of failed fetches and writes don't fall
pub record IsSteady (before now : Outside) : Type 0 where
  pub files : HasStayedAsTold before.files now.files
  pub unfetched : before.unfetched ≤ now.unfetched
  pub sunk : before.sunk ≤ now.sunk
