-- The ends of the connections of a trace (this profile): what each event is to the end of its connection. The events of all other
-- connections are left out.
use Rattle.std.specs.Prelude.{ℕ, ◌==◌, if◌then◌else◌, List, [], ◌∷◌, Option, Some, None}
use Rattle.des_block.specs.declared.triple_key.TripleKey.{TripleKey}
use Rattle.er_settings.specs.Values.{Settings}
use Rattle.er_trace.specs.declared.entry.Entry.{Entry}
use Rattle.er_trace.specs.declared.event.Event.{Event}
use Rattle.er_trace.specs.declared.event.Event.TheVariants.{Call, Answer, Octets, Send, Take, Release, Tick, Ended, Fault, Stalled, Full, Unserved}
use Rattle.er_end_model.specs.Outcomes.{Outcome}
use Rattle.er_end_model.specs.Steps.{Finds}
use Rattle.er_end_model.specs.Ends.{End, opened, step_event}
use Rattle.er_end_model.specs.Ends as at_end

-- one more event of an end that was opened: the end behind it, and its outcomes
abbrev pub goes_on : ℕ → at_end.Event → Option End → Option End × List Outcome
goes_on now event None = (None, [])
goes_on now event (Some m) = let r = step_event now event m in (Some r.0, r.1)

-- a call: the opening with the KMAC of its pair, where there is one, and the start
abbrev pub end_behind_call : Settings → (now engine rbc rb : ℕ) → Option TripleKey → Option End → Option End × List Outcome
end_behind_call settings now engine rbc rb None m = (m, [])
end_behind_call settings now engine rbc rb (Some kmac) m = goes_on now at_end.Start (Some (opened (at_end.Call settings engine rbc kmac rb now)))

-- an event at its moment, by settings and by how KMACs are looked up
abbrev pub happens : Settings → Finds → ℕ → Event → Option End → Option End × List Outcome
happens settings finds now (Call engine rbc rb) m = end_behind_call settings now engine rbc rb (finds now engine rbc) m
happens settings finds now (Answer rbc ra) m = (Some (opened (at_end.Answer settings rbc ra now)), [])
happens settings finds now (Octets octets) m = goes_on now (at_end.Come finds octets) m
happens settings finds now (Send text) m = goes_on now (at_end.Send text) m
happens settings finds now Take m = goes_on now at_end.Take m
happens settings finds now (Release sub) m = goes_on now (at_end.Leave sub) m
happens settings finds now Tick m = goes_on now at_end.Tick m
happens settings finds now Ended m = goes_on now at_end.Ended m
happens settings finds now Fault m = goes_on now at_end.Fault m
happens settings finds now Stalled m = goes_on now at_end.Stalled m
happens settings finds now (Full count) m = (m, [])
happens settings finds now (Unserved count) m = (m, [])

-- an event of this connection, or of another
abbrev pub happens_at : Settings → Finds → ℕ → Option End → Entry → Option End
happens_at settings finds conn m entry =
    if entry.conn == conn then (happens settings finds entry.moment entry.event m).0 else m

-- the end of a connection behind events
unfoldable pub end_behind : Settings → Finds → ℕ → Option End → List Entry → Option End
end_behind settings finds conn m [] = m
end_behind settings finds conn m (entry ∷ entries) = end_behind settings finds conn (happens_at settings finds conn m entry) entries

abbrev pub end_at : Settings → Finds → ℕ → List Entry → Option End
end_at settings finds conn before = end_behind settings finds conn None before
