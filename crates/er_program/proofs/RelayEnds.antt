-- How a run of `relay` ends.
use Rattle.std.proofs.Common.{◌≡◌, ◌⊎◌, ℕ, inl, inr, List, [], ◌∷◌, Result, Ok, Err, refl, sym, subst, ◌∙◌}
use Rattle.er_base.specs.declared.no_memory.NoMemory.{NoMemory as Want}
use Rattle.er_base.specs.declared.text_fault.TextFault.{TextFault}
use Rattle.er_base.specs.declared.text_fault.TextFault.TheVariants.{At, NoMemory}
use Rattle.relay_script.specs.declared.script.Script.{Script}
use Rattle.relay_script.specs.Files.{script_of}
use Rattle.relay_loop.specs.declared.fault.RelayFault.{RelayFault}
use Rattle.relay_loop.specs.declared.fault.RelayFault.TheVariants as fault
use Rattle.relay_loop.specs.Relays.{Relays}
use Rattle.relay_loop.specs.Endings.{EndsByCause}
use Rattle.outside.specs.Acts.{Act, Fetch, Gave, Failed, Spent, Fetched}
use Rattle.outside.specs.Doings.{Told, Did}
use Rattle.outside.specs.Scripts.{End, With, Sunk, OutOfMemory, Ends, RunsScript, Does, says_last}
use Rattle.outside.specs.ScriptSteps.{does_spent}
use Rattle.er_statuses.specs.LastLines.{fetch_line, fault_line, why_word}
use Rattle.er_serving.specs.LineRuns.{wires_line}
use Rattle.er_program.specs.RelayCommands.{Relay}
use Rattle.er_program.specs.RelayRuns.{IsRelayStatus, IsAddressText, IsNoAddressText, EndsLoop, EndsScript, EndsFetch, EndsRelay, ExitsWith, RunsRelay}

-- a text and a status end with that status, or the write failed, or memory ran out
pub said_ends : (status : ℕ) (text : List ℕ) (acts : List Act) (end : End) → RunsScript (says_last status text) acts end
    → (end ≡ With status) ⊎ (end ≡ Sunk) ⊎ (end ≡ OutOfMemory)
unfolding RunsScript
said_ends status text acts end (inl printed) = inl printed.follows.1
said_ends status text acts end (inr (inl unprinted)) = inr (inl unprinted.sunk)
said_ends status text acts end (inr (inr spent)) = inr (inr spent.1)

-- ---- the loop, by what it answered

-- a script that is good, and DIAL, as the loop is called
abbrev RelaysSo : Result (Unit {0}) RelayFault → Script → Relay → (before now : Told) → Type 0
RelaysSo result script command before now = Relays script command.dial before now × EndsByCause result command.listen command.turns before now

pub loop_done : (script : Script) (command : Relay) (before now : Told) → IsAddressText command.dial → RelaysSo (Ok tt) script command before now
    → EndsLoop script command before now (With 0)
loop_done script command before now address so = inl (refl, record { address = address; relays = so.0; cause = so.1 })

pub loop_sunk : (script : Script) (command : Relay) (before now : Told) → IsAddressText command.dial → RelaysSo (Err fault.Sink) script command before now
    → EndsLoop script command before now Sunk
loop_sunk script command before now address so = inr (inl (refl, record { address = address; relays = so.0; cause = so.1 }))

pub loop_spent : (want : Want) (script : Script) (command : Relay) (before now : Told) → IsAddressText command.dial
    → RelaysSo (Err (fault.NoMemory want)) script command before now → EndsLoop script command before now OutOfMemory
loop_spent want script command before now address so =
    inr (inr (inl (record { want = want; relayed = record { address = address; relays = so.0; cause = so.1 }; is = refl })))

-- the wires failed, behind what was done before
pub wires_end : (script : Script) (command : Relay) (before mid now : Told) (end : End) → IsAddressText command.dial
    → RelaysSo (Err fault.Wires) script command before mid → Does (says_last 6 wires_line) mid now end → EndsLoop script command before now end
wires_end script command before mid now end address so says =
    inr (inr (inr (inl (record { mid = mid; relayed = record { address = address; relays = so.0; cause = so.1 }; says = says }))))

-- DIAL is no address
pub address_ends : (script : Script) (command : Relay) (before now : Told) (end : End) → IsNoAddressText command.dial
    → Does (says_last 6 wires_line) before now end → EndsLoop script command before now end
address_ends script command before now end none says = inr (inr (inr (inr (inl (record { none = none; says = says })))))

-- memory ran out as the script was read
pub spent_script : (said : Result Script TextFault) (command : Relay) (t : Told) → EndsScript said command t t OutOfMemory
spent_script (Ok script) command t = inr (inr (inr (inr (inr (refl, refl)))))
spent_script (Err (At line why)) command t = does_spent (λ text. text ≡ fault_line line (why_word why)) (Ends 3) t
spent_script (Err (NoMemory want)) command t = (refl, refl)

-- ---- the closed list of statuses

-- the ends of a run
abbrev IsEnd : End → Type 0
IsEnd (With s) = (s ≡ 0) ⊎ (s ≡ 2) ⊎ (s ≡ 3) ⊎ (s ≡ 6)
IsEnd Sunk = Unit {0}
IsEnd OutOfMemory = Unit {0}

-- which end it is
six_is_end : (end : End) → (end ≡ With 6) ⊎ (end ≡ Sunk) ⊎ (end ≡ OutOfMemory) → IsEnd end
six_is_end end (inl e) = subst IsEnd (sym e) (inr (inr (inr refl)))
six_is_end end (inr (inl e)) = subst IsEnd (sym e) tt
six_is_end end (inr (inr e)) = subst IsEnd (sym e) tt

loop_is_end : (script : Script) (command : Relay) (before now : Told) (end : End) → EndsLoop script command before now end → IsEnd end
loop_is_end script command before now end (inl done) = subst IsEnd (sym done.0) (inl refl)
loop_is_end script command before now end (inr (inl sunk)) = subst IsEnd (sym sunk.0) tt
loop_is_end script command before now end (inr (inr (inl spent))) = subst IsEnd (sym spent.is) tt
loop_is_end script command before now end (inr (inr (inr (inl broke)))) = six_is_end end (said_ends 6 wires_line broke.says.acts end broke.says.runs)
loop_is_end script command before now end (inr (inr (inr (inr (inl none))))) = six_is_end end (said_ends 6 wires_line none.says.acts end none.says.runs)
loop_is_end script command before now end (inr (inr (inr (inr (inr spent))))) = subst IsEnd (sym spent.0) tt

two_is_end : (end : End) → (end ≡ With 2) ⊎ (end ≡ Sunk) ⊎ (end ≡ OutOfMemory) → IsEnd end
two_is_end end (inl e) = subst IsEnd (sym e) (inr (inl refl))
two_is_end end (inr (inl e)) = subst IsEnd (sym e) tt
two_is_end end (inr (inr e)) = subst IsEnd (sym e) tt

three_is_end : (end : End) → (end ≡ With 3) ⊎ (end ≡ Sunk) ⊎ (end ≡ OutOfMemory) → IsEnd end
three_is_end end (inl e) = subst IsEnd (sym e) (inr (inr (inl refl)))
three_is_end end (inr (inl e)) = subst IsEnd (sym e) tt
three_is_end end (inr (inr e)) = subst IsEnd (sym e) tt

script_is_end : (said : Result Script TextFault) (command : Relay) (before now : Told) (end : End) → EndsScript said command before now end → IsEnd end
script_is_end (Ok script) command before now end h = loop_is_end script command before now end h
script_is_end (Err (At line why)) command before now end h = three_is_end end (said_ends 3 (fault_line line (why_word why)) h.acts end h.runs)
script_is_end (Err (NoMemory want)) command before now end h = subst IsEnd (sym h.1) tt

fetch_is_end : (command : Relay) (answer : Fetch) (before now : Told) (end : End) → EndsFetch command answer before now end → IsEnd end
fetch_is_end command (Gave file) before now end h = script_is_end (script_of file) command before now end h
fetch_is_end command Failed before now end h = two_is_end end (said_ends 2 (fetch_line command.script) h.acts end h.runs)
fetch_is_end command Spent before now end h = subst IsEnd (sym h.1) tt

status_known : (end : End) (before now : Told) (status : ℕ) → IsEnd end → ExitsWith end before now status → IsRelayStatus status
status_known (With s) before now status (inl e) x = inl (x.0 ∙ e)
status_known (With s) before now status (inr (inl e)) x = inr (inl (x.0 ∙ e))
status_known (With s) before now status (inr (inr (inl e))) x = inr (inr (inl (x.0 ∙ e)))
status_known (With s) before now status (inr (inr (inr e))) x = inr (inr (inr (inr (inl (x.0 ∙ e)))))
status_known Sunk before now status h x = inr (inr (inr (inl x.0)))
status_known OutOfMemory before now status h (inl x) = inr (inr (inr (inr (inr x.0))))
status_known OutOfMemory before now status h (inr x) = inr (inr (inr (inl x.0)))

pub known : (command : Relay) (before now : Told) (status : ℕ) → RunsRelay command before now status → IsRelayStatus status
known command before now status r = status_known r.end r.mid now status (fetch_is_end command r.ends.answer r.ends.mid r.mid r.end r.ends.follows) r.exits

-- ---- a run, with its status

pub runs_relay : (command : Relay) (before mid now : Told) (end : End) (status : ℕ) → EndsRelay command before mid end → ExitsWith end mid now status
    → RunsRelay command before now status
runs_relay command before mid now end status ends exits = record { end = end; mid = mid; ends = ends; exits = exits }

pub ends_relay : (command : Relay) (answer : Fetch) (before mid now : Told) (end : End) → Did before mid (Fetched command.script answer ∷ [])
    → EndsFetch command answer mid now end → EndsRelay command before now end
ends_relay command answer before mid now end fetched follows = record { answer = answer; mid = mid; fetched = fetched; follows = follows }
