-- An end behind parts of what it does with a frame, and behind several frames.
use Rattle.std.proofs.Common.{◌≡◌, ℕ, List, [], ◌∷◌, ◌++◌, ◌∙◌, refl, sym, ap, append_assoc}
use Rattle.hdlc_frames.specs.Framing.{Verdict}
use Rattle.t70_header.specs.Joining as joining
use Rattle.er_end_model.specs.Outcomes.{Outcome}
use Rattle.er_end_model.specs.Steps.{Finds, new_event_at, step_frame, outcomes_of}
use Rattle.er_end_model.specs.Layers.{Core, model}
use Rattle.er_end_model.specs.Ends.{hears_each, told_of_each}
use Rattle.er_end_model.specs.Hearing.{station_behind}

-- behind the station, the blocks and the transport
abbrev pub taken_at : ℕ → Verdict → Core → Core
taken_at now verdict x = record (new_event_at model now x) { line = station_behind x now verdict }

abbrev pub joined_at : ℕ → Verdict → Core → List ℕ → Core
joined_at now verdict x payload = record (taken_at now verdict x) { joined = (joining.block_step x.joined payload).0 }

abbrev pub heard_at : ℕ → Verdict → Core → List ℕ → List ℕ → Core
heard_at now verdict x payload tpdu = record (joined_at now verdict x payload) { upper = model.hears (joined_at now verdict x payload).upper tpdu }

-- frames in two parts
pub hears_parts : (finds : Finds) (now : ℕ) (vs us : List Verdict) (x : Core) → hears_each finds now (vs ++ us) x ≡ hears_each finds now us (hears_each finds now vs x)
hears_parts finds now [] us x = refl
hears_parts finds now (v ∷ vs) us x = hears_parts finds now vs us (step_frame model finds now v x)

pub told_parts : (finds : Finds) (now : ℕ) (vs us : List Verdict) (x : Core)
    → told_of_each finds now (vs ++ us) x ≡ told_of_each finds now vs x ++ told_of_each finds now us (hears_each finds now vs x)
told_parts finds now [] us x = refl
told_parts finds now (v ∷ vs) us x =
    let y : Core = step_frame model finds now v x in
    ap (λ (os : List Outcome). outcomes_of model y ++ os) (told_parts finds now vs us y)
    ∙ sym (append_assoc (outcomes_of model y) (told_of_each finds now vs y) (told_of_each finds now us (hears_each finds now vs y)))
