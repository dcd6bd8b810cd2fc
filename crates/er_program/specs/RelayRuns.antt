-- What `relay` does: its script, its loop, and how it ends (this profile).
use Rattle.std.specs.Prelude.{◌≡◌, ◌⊎◌, ℕ, false, List, [], ◌∷◌, Result, Ok, Err}
use Rattle.std.specs.Net.Grammar.{IsSocketText}
use Rattle.std.specs.declared.net.socket_addr.SocketAddr.{SocketAddr}
use Rattle.er_base.specs.declared.no_memory.NoMemory.{NoMemory as Want}
use Rattle.er_base.specs.declared.text_fault.TextFault.{TextFault}
use Rattle.er_base.specs.declared.text_fault.TextFault.TheVariants.{At, NoMemory}
use Rattle.relay_script.specs.declared.script.Script.{Script}
use Rattle.relay_script.specs.Files.{script_of}
use Rattle.relay_loop.specs.declared.fault.RelayFault.{RelayFault}
use Rattle.relay_loop.specs.declared.fault.RelayFault.TheVariants as fault
use Rattle.relay_loop.specs.Relays.{Relays}
use Rattle.relay_loop.specs.Endings.{EndsByCause}
use Rattle.outside.specs.Acts.{Fetch, Gave, Failed, Spent, Fetched, Wrote}
use Rattle.outside.specs.Doings.{Told, Did}
use Rattle.outside.specs.Scripts.{End, With, Sunk, OutOfMemory, Does, says_last, printing}
use Rattle.er_statuses.specs.LastLines.{fetch_line, fault_line, why_word, memory_line}
use Rattle.er_serving.specs.LineRuns.{wires_line}
use Rattle.er_program.specs.RelayCommands.{Relay}

-- the closed list of statuses
abbrev pub IsRelayStatus : ℕ → Type 0
IsRelayStatus s = (s ≡ 0) ⊎ (s ≡ 2) ⊎ (s ≡ 3) ⊎ (s ≡ 5) ⊎ (s ≡ 6) ⊎ (s ≡ 7)

-- an IP address and a port, as a text
abbrev pub IsAddressText : List ℕ → Type 0
IsAddressText text = (address : SocketAddr) × IsSocketText text address

-- the text is none
abbrev pub IsNoAddressText : List ℕ → Type 0
IsNoAddressText text = (address : SocketAddr) → IsSocketText text address → ⊥

-- DIAL is an address; the loop ran, and ended so by what it did
pub record HasRelayed (result : Result (Unit {0}) RelayFault) (script : Script) (command : Relay) (before now : Told) : Type 0 where
  pub address : IsAddressText command.dial
  pub relays : Relays script command.dial before now
  pub cause : EndsByCause result command.listen command.turns before now

-- memory ran out as it relayed
pub record RanOutRelaying (script : Script) (command : Relay) (before now : Told) (end : End) : Type 0 where
  pub want : Want
  pub relayed : HasRelayed (Err (fault.NoMemory want)) script command before now
  pub is : end ≡ OutOfMemory

-- the wires failed, and behind that the last line was said
pub record RelaysAndSays (script : Script) (command : Relay) (before now : Told) (end : End) : Type 0 where
  pub mid : Told
  pub relayed : HasRelayed (Err fault.Wires) script command before mid
  pub says : Does (says_last 6 wires_line) mid now end

-- DIAL is no address: the last line is said, and nothing is asked of the wires
pub record DialsNothing (command : Relay) (before now : Told) (end : End) : Type 0 where
  pub none : IsNoAddressText command.dial
  pub says : Does (says_last 6 wires_line) before now end

-- how a relay ends whose script is good: all turns were done, or the wires ended; or a write failed; or memory ran out; or the wires failed; or DIAL is no
-- address; or memory ran out before
abbrev pub EndsLoop : Script → Relay → (before now : Told) → End → Type 0
EndsLoop script command before now end =
    ((end ≡ With 0) × HasRelayed (Ok tt) script command before now)
    ⊎ ((end ≡ Sunk) × HasRelayed (Err fault.Sink) script command before now)
    ⊎ RanOutRelaying script command before now end
    ⊎ RelaysAndSays script command before now end
    ⊎ DialsNothing command before now end
    ⊎ ((end ≡ OutOfMemory) × (now ≡ before))

-- what follows a script, by what its file says: one that is refused prints its first fault alone, and nothing is asked of the wires
abbrev pub EndsScript : Result Script TextFault → Relay → (before now : Told) → End → Type 0
EndsScript (Ok script) command before now end = EndsLoop script command before now end
EndsScript (Err (At line why)) command before now end = Does (says_last 3 (fault_line line (why_word why))) before now end
EndsScript (Err (NoMemory want)) command before now end = (now ≡ before) × (end ≡ OutOfMemory)

-- what follows the fetch of the script, by what it gave
abbrev pub EndsFetch : Relay → Fetch → (before now : Told) → End → Type 0
EndsFetch command (Gave file) before now end = EndsScript (script_of file) command before now end
EndsFetch command Failed before now end = Does (says_last 2 (fetch_line command.script)) before now end
EndsFetch command Spent before now end = (now ≡ before) × (end ≡ OutOfMemory)

-- the script is fetched first, and what follows rests on it
pub record EndsRelay (command : Relay) (before now : Told) (end : End) : Type 0 where
  pub answer : Fetch
  pub mid : Told
  pub fetched : Did before mid (Fetched command.script answer ∷ [])
  pub follows : EndsFetch command answer mid now end

-- the status of an end; where memory ran out its line was printed, or that failed
abbrev pub ExitsWith : End → (before now : Told) → (status : ℕ) → Type 0
ExitsWith (With s) before now status = (status ≡ s) × (now ≡ before)
ExitsWith Sunk before now status = (status ≡ 5) × (now ≡ before)
ExitsWith OutOfMemory before now status =
    ((status ≡ 7) × Did before now (printing memory_line)) ⊎ ((status ≡ 5) × Did before now (Wrote memory_line false ∷ []))

-- a run, with its status
pub record RunsRelay (command : Relay) (before now : Told) (status : ℕ) : Type 0 where
  pub end : End
  pub mid : Told
  pub ends : EndsRelay command before mid end
  pub exits : ExitsWith end mid now status
