-- The ends of this stack as a kind of ends of a loop (this profile): from the event on that opens one, by the end model, in the words of a recording.
use Rattle.std.specs.Prelude.{ℕ, if◌then◌else◌, List, [], ◌∷◌, map, drop, Option, Some, None}
use Rattle.er_base.specs.declared.release.Release.{Release}
use Rattle.er_settings.specs.Values.{Settings}
use Rattle.safety_automaton.specs.Safety.{Phase, Ready, WaitAu1, WaitAu2, WaitAu3, WaitAr, Connected, Released}
use Rattle.er_trace.specs.declared.event.Event.{Event}
use Rattle.er_end_model.specs.Outcomes.{Outcome}
use Rattle.er_end_model.specs.Steps.{Finds}
use Rattle.er_end_model.specs.Ends.{End}
use Rattle.trace_model.specs.Connections.{happens}
use Rattle.trace_model.specs.Checks.{role_of, is_opening_role}
use Rattle.trace_model.specs.Printed.{trace_outcome_of}
use Rattle.application_model.specs.Ends.{EndStage, SettingUp, Speaking, Parted, EventTime, EventAt, EndKind}

-- an event at a connection, by settings and by how KMACs are looked up. An end is opened once: an event that would open it again is nothing to it
abbrev pub befalls_end : Settings → Finds → ℕ → Event → Option End → Option End × List Outcome
befalls_end settings finds now what None = happens settings finds now what None
befalls_end settings finds now what (Some m) =
    if is_opening_role (role_of what) then (Some m, []) else happens settings finds now what (Some m)

-- how KMACs are looked up under the keys of each reading of the key file, the first of which is 0
abbrev pub HeldKeys : Type 0
HeldKeys = ℕ → Finds

-- an event goes by the keys that hold as it comes
abbrev pub befalls_at : Settings → HeldKeys → EventTime → Event → Option End → Option End × List Outcome
befalls_at settings held time what m = befalls_end settings (held time.keys) time.moment what m

-- the end behind events, where one of them opened it
unfoldable pub stack_end_behind : Settings → HeldKeys → Option End → List EventAt → Option End
stack_end_behind settings held m [] = m
stack_end_behind settings held m (x ∷ xs) = stack_end_behind settings held (befalls_at settings held x.time x.event m).0 xs

abbrev pub end_of_events : Settings → HeldKeys → List EventAt → Option End
end_of_events settings held before = stack_end_behind settings held None before

-- the messages that it accepted, and those of them that its user didn't take
abbrev pub texts_accepted_at : Option End → List (List ℕ)
texts_accepted_at None = []
texts_accepted_at (Some m) = m.core.upper.accepted

abbrev pub texts_waiting_at : Option End → List (List ℕ)
texts_waiting_at None = []
texts_waiting_at (Some m) = drop m.core.upper.used m.core.upper.accepted

-- what comes of an event is what the end tells, as a trace says it
abbrev pub stack_kind : Settings → HeldKeys → EndKind
stack_kind settings held = record {
  tells = λ before time what. map trace_outcome_of (befalls_at settings held time what (end_of_events settings held before)).1;
  waiting = λ before. texts_waiting_at (end_of_events settings held before);
}

-- ---- how far an end is, by its own state

abbrev pub stage_of_phase : Phase → EndStage
stage_of_phase (Ready peer kmac rb) = SettingUp
stage_of_phase (WaitAu1 ra) = SettingUp
stage_of_phase (WaitAu2 peer kmac rb) = SettingUp
stage_of_phase (WaitAu3 connection) = SettingUp
stage_of_phase (WaitAr connection) = SettingUp
stage_of_phase (Connected peer session) = Speaking peer
stage_of_phase (Released release session) = Parted

-- the end is released, or its safety side says it
abbrev pub stage_of_sides : Option Release → Phase → EndStage
stage_of_sides (Some why) phase = Parted
stage_of_sides None phase = stage_of_phase phase

abbrev pub stage_of_end : Option End → EndStage
stage_of_end None = SettingUp
stage_of_end (Some m) = stage_of_sides m.core.released m.core.safe.safety.phase
