-- Which events of a trace are taken (this profile).
use Rattle.std.specs.Prelude.{◌≡◌, List, ◌∷◌, ◌++◌, Some, None}
use Rattle.er_settings.specs.Values.{Settings}
use Rattle.er_trace.specs.declared.entry.Entry.{Entry}
use Rattle.er_end_model.specs.Steps.{Finds}
use Rattle.trace_model.specs.declared.replay_fault.ReplayFault.{ReplayFault}
use Rattle.trace_model.specs.Checks.{fault_of_trace_event}

-- each of the events is taken behind those before it
abbrev pub AreTaken : Settings → Finds → List Entry → Type 0
AreTaken settings finds entries =
    (first : List Entry) (entry : Entry) (rest : List Entry) → entries ≡ first ++ entry ∷ rest → fault_of_trace_event settings finds first entry ≡ None

-- the first event that isn't taken, for this fault
pub record HasFirstRefusedEvent (settings : Settings) (finds : Finds) (entries : List Entry) (fault : ReplayFault) : Type 0 where
  pub first : List Entry
  pub entry : Entry
  pub rest : List Entry
  pub is : entries ≡ first ++ entry ∷ rest
  pub taken : AreTaken settings finds first
  pub refused : fault_of_trace_event settings finds first entry ≡ Some fault
