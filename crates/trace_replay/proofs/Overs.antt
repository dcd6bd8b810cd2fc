-- An end that is over stays so, and what it shows of an event is fixed.
use Rattle.std.proofs.Common.{◌≡◌, ◌-◌, ℕ, false, List, [], ◌∷◌, length, Some, None, refl, arith}
use Rattle.std.proofs.lemmas.Option.{slice_get_past}
use Rattle.er_base.specs.declared.release.Release.{Release}
use Rattle.er_settings.specs.Values.{Settings}
use Rattle.hdlc_frames.specs.Framing.{Verdict}
use Rattle.er_trace.specs.declared.event.Event.{Event}
use Rattle.er_trace.specs.declared.event.Event.TheVariants as event
use Rattle.er_end_model.specs.Steps.{Finds, new_event_at, step_frame, step_take}
use Rattle.er_end_model.specs.Layers.{Core, model}
use Rattle.hdlc_station_model.specs.Events.{news}
use Rattle.er_end_model.specs.Ends.{End, hears_each, told_of_each}
use Rattle.trace_model.specs.Connections.{happens}
use Rattle.trace_model.specs.Checks.{role_of, is_opening_role}
use Rattle.trace_replay.specs.Places.{IsOver}
use Rattle.trace_replay.specs.Takings.{told_over}

record Rest (why : Release) (x : Core) : Type 0 where
  released : x.released ≡ Some why
  untaken : model.untaken x.upper ≡ 0

-- frames
each_rests : (finds : Finds) (now : ℕ) (why : Release) (vs : List Verdict) (x : Core) → Rest why x
    → Rest why (hears_each finds now vs x) × (told_of_each finds now vs x ≡ [])
each_rests finds now why [] x r = (r, refl)
each_rests finds now why (v ∷ vs) x r =
    let is : step_frame model finds now v x ≡ new_event_at model now x = rw r.released refl in
    let more = each_rests finds now why vs (new_event_at model now x) (record { released = r.released; untaken = r.untaken }) in
    rw is more

-- a take
uses_is : (now : ℕ) (x : Core) → model.untaken x.upper ≡ 0 → step_take model now x ≡ new_event_at model now x
uses_is now x e = rw e refl

none_left : (x : Core) → model.untaken x.upper ≡ 0 → model.oldest x.upper ≡ None
none_left x e = slice_get_past x.upper.accepted x.upper.used (let p : length x.upper.accepted - x.upper.used ≡ 0 = e in omega (arith, p))

pub over_step : (settings : Settings) (finds : Finds) (now : ℕ) (why : Release) (e : Event) (m : End) → is_opening_role (role_of e) ≡ false
    → IsOver why (Some m) → IsOver why (happens settings finds now e (Some m)).0 × ((happens settings finds now e (Some m)).1 ≡ told_over why e)
over_step settings finds now why (event.Call engine rbc rb) m b o = absurd (let u : ⊥ = cc in u)
over_step settings finds now why (event.Answer rbc ra) m b o = absurd (let u : ⊥ = cc in u)
over_step settings finds now why (event.Octets octets) m b o =
    let r = each_rests finds now why (news m.stream octets) (new_event_at model now m.core) (record { released = o.0; untaken = o.1 }) in
    ((r.0.released, r.0.untaken), r.1)
over_step settings finds now why (event.Send text) m b o = rw o.0 ((refl, o.1), refl)
over_step settings finds now why event.Take m b o =
    let is = uses_is now m.core o.1 in
    let none = none_left m.core o.1 in
    rw (is, none) ((o.0, o.1), refl)
over_step settings finds now why (event.Release sub) m b o = rw o.0 ((refl, o.1), refl)
over_step settings finds now why event.Tick m b o = rw o.0 ((refl, o.1), refl)
over_step settings finds now why event.Ended m b o = rw o.0 ((refl, o.1), refl)
over_step settings finds now why event.Fault m b o = rw o.0 ((refl, o.1), refl)
over_step settings finds now why event.Stalled m b o = rw o.0 ((refl, o.1), refl)
over_step settings finds now why (event.Full count) m b o = (o, refl)
over_step settings finds now why (event.Unserved count) m b o = (o, refl)
