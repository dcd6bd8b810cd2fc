-- An end that calls looks no key up: each of its events is the same, however keys are looked up.
use Rattle.std.proofs.Common.{◌≡◌, ◌∙◌, ℕ, max, Bool, true, false, List, [], ◌∷◌, ◌++◌, Option, Some, None, Ok, Err, refl, sym, ap}
use Rattle.std.specs.Prelude.{is_some, if◌then◌else◌}
use Rattle.des_block.specs.declared.triple_key.TripleKey.{TripleKey}
use Rattle.er_base.specs.declared.release.Release.{Release}
use Rattle.er_base.specs.declared.cause.Cause.TheVariants.{LineEnded, LineFailed, LineStalled}
use Rattle.er_settings.specs.Values.{Settings}
use Rattle.hdlc_frames.specs.Framing.{Verdict}
use Rattle.t70_header.specs.Joining as joining
use Rattle.x224_class2.specs.Transport.{ReceptionDeed, Nothing, Called, Confirmed, Message, Disconnected}
use Rattle.x224_class2.specs.Transport as transport
use Rattle.safety_automaton.specs.Reports.{report_of}
use Rattle.safety_automaton.specs.Safety.{Safety, Received, octets_sent_in_outcome}
use Rattle.er_end_model.specs.Outcomes.{SendRefusal}
use Rattle.er_end_model.specs.Steps.{Finds, new_event_at, Carrier, InCr, InCc, InDt, on_safety_report, with_safety_step, on_text, on_transport_deed, on_tpdu, on_joined_block, on_block, on_link_told, conclude_event, on_frame, step_frame, refusal_of, step_send_unless, outcomes_of}
use Rattle.er_end_model.specs.Layers.{Spoken, Core, model}
use Rattle.er_end_model.specs.Ends as ends
use Rattle.hdlc_station_model.specs.Events.{news}
use Rattle.er_end_model.specs.Ends.{End, opened, hears_each, told_of_each}
use Rattle.er_end_model.specs.Laws.{IsSane, ShowsSafetyStep, SpeaksOnce, EventsSpeakOnce}
use Rattle.er_trace.specs.declared.event.Event.{Event}
use Rattle.er_trace.specs.declared.event.Event.TheVariants as event
use Rattle.trace_model.specs.Connections.{goes_on, end_behind_call, happens}
use Rattle.loop_recordings.proofs.Sides.{asks, same_step, quiet_step}

-- an end that calls, at each event
pub record Calls (x : Core) : Type 0 where
  pub sane : IsSane x
  pub quiet : asks x.safe.safety.phase ≡ false

quiet_behind : (key_of : ℕ → ℕ → Option TripleKey) (s : Safety) (spoke : Option Spoken) (y : Core) → asks s.phase ≡ false → ShowsSafetyStep key_of s spoke y
    → asks y.safe.safety.phase ≡ false
quiet_behind key_of s None y quiet is = ap (λ z. asks z.safety.phase) is.0 ∙ quiet
quiet_behind key_of s (Some t) y quiet is = ap (λ z. asks z.0.phase) (sym is.0) ∙ quiet_step key_of s t.event quiet

calls_behind : (key_of : ℕ → ℕ → Option TripleKey) (x y : Core) → Calls x → SpeaksOnce key_of x y → Calls y
calls_behind key_of x y h once =
    record { sane = once.sane; quiet = quiet_behind key_of x.safe.safety y.upper.spoke y h.quiet once.step }

-- ---- a frame, however keys are looked up

module _ (f g : Finds) where
  same_text : (carrier : Carrier) (text : List ℕ) (x : Core) → asks x.safe.safety.phase ≡ false → on_text model f carrier text x ≡ on_text model g carrier text x
  same_text carrier text x quiet =
      ap (λ a. on_safety_report model carrier (report_of a.1) (octets_sent_in_outcome a.1) (with_safety_step model (Received text) a x)) (same_step (f x.moment) (g x.moment) x.safe.safety (Received text) quiet)

  same_deed : (deed : ReceptionDeed) (x : Core) → asks x.safe.safety.phase ≡ false → on_transport_deed model f deed x ≡ on_transport_deed model g deed x
  same_deed Nothing x quiet = refl
  same_deed (Called user) x quiet = same_text InCr user x quiet
  same_deed (Confirmed user) x quiet = same_text InCc user x quiet
  same_deed (Message message) x quiet = same_text InDt message x quiet
  same_deed (Disconnected user) x quiet = refl
  same_deed (transport.Refused sub reason) x quiet = refl

  same_tpdu : (tpdu : List ℕ) (x : Core) → asks x.safe.safety.phase ≡ false → on_tpdu model f tpdu x ≡ on_tpdu model g tpdu x
  same_tpdu tpdu x quiet = same_deed (model.deed x.upper tpdu) (record x { upper = model.hears x.upper tpdu }) quiet

  same_joined : (answer : joining.BlockJoiningResult) (x : Core) → asks x.safe.safety.phase ≡ false → on_joined_block model f answer x ≡ on_joined_block model g answer x
  same_joined (Ok None) x quiet = refl
  same_joined (Ok (Some tpdu)) x quiet = same_tpdu tpdu x quiet
  same_joined (Err fault) x quiet = refl

  same_block : (block : List ℕ) (x : Core) → asks x.safe.safety.phase ≡ false → on_block model f block x ≡ on_block model g block x
  same_block block x quiet = same_joined (joining.block_step x.joined block).1 (record x { joined = (joining.block_step x.joined block).0 }) quiet

  same_link : (payload : Option (List ℕ)) (up : Bool) (released : Option Release) (x : Core) → asks x.safe.safety.phase ≡ false
      → on_link_told model f payload up released x ≡ on_link_told model g payload up released x
  same_link (Some payload) up released x quiet = same_block payload x quiet
  same_link None true released x quiet = refl
  same_link None false (Some why) x quiet = refl
  same_link None false None x quiet = refl

  same_received : (verdict : Verdict) (x : Core) → asks x.safe.safety.phase ≡ false → on_frame model f verdict x ≡ on_frame model g verdict x
  same_received verdict x quiet =
      let deed = model.told x.moment verdict x.line in
      ap (λ z. if is_some x.released then x else conclude_event model z)
      (same_link deed.payload deed.up deed.released (record x { line = model.receives x.moment verdict x.line }) quiet)

  same_frame : (now : ℕ) (verdict : Verdict) (x : Core) → asks x.safe.safety.phase ≡ false → step_frame model f now verdict x ≡ step_frame model g now verdict x
  same_frame now verdict x quiet = same_received verdict (new_event_at model now x) quiet

-- ---- the events of an end that calls

module _ (speak : EventsSpeakOnce) where
  frame_calls : (f : Finds) (now : ℕ) (verdict : Verdict) (x : Core) → Calls x → Calls (step_frame model f now verdict x)
  frame_calls f now verdict x h = calls_behind (f (max x.moment now)) x (step_frame model f now verdict x) h (speak.comes f now verdict x h.sane)

  each_calls : (f : Finds) (now : ℕ) (verdicts : List Verdict) (x : Core) → Calls x → Calls (hears_each f now verdicts x)
  each_calls f now [] x h = h
  each_calls f now (verdict ∷ verdicts) x h = each_calls f now verdicts (step_frame model f now verdict x) (frame_calls f now verdict x h)

  same_hears : (f g : Finds) (now : ℕ) (verdicts : List Verdict) (x : Core) → Calls x → hears_each f now verdicts x ≡ hears_each g now verdicts x
  same_hears f g now [] x h = refl
  same_hears f g now (verdict ∷ verdicts) x h =
      same_hears f g now verdicts (step_frame model f now verdict x) (frame_calls f now verdict x h)
      ∙ ap (hears_each g now verdicts) (same_frame f g now verdict x h.quiet)

  same_told : (f g : Finds) (now : ℕ) (verdicts : List Verdict) (x : Core) → Calls x → told_of_each f now verdicts x ≡ told_of_each g now verdicts x
  same_told f g now [] x h = refl
  same_told f g now (verdict ∷ verdicts) x h =
      ap (λ z. outcomes_of model (step_frame model f now verdict x) ++ z) (same_told f g now verdicts (step_frame model f now verdict x) (frame_calls f now verdict x h))
      ∙ ap (λ y. outcomes_of model y ++ told_of_each g now verdicts y) (same_frame f g now verdict x h.quiet)

  begun_calls : (now : ℕ) (x : Core) → Calls x → Calls (new_event_at model now x)
  begun_calls now x h = record { sane = h.sane; quiet = h.quiet }

  same_come : (f g : Finds) (now : ℕ) (octets : List ℕ) (m : End) → Calls m.core → ends.step_event now (ends.Come f octets) m ≡ ends.step_event now (ends.Come g octets) m
  same_come f g now octets m h =
      let x = new_event_at model now m.core in
      let verdicts = news m.stream octets in
      let b = begun_calls now m.core h in
      ap (λ core. (record { stream = m.stream ++ octets; core = core }, told_of_each f now verdicts x)) (same_hears f g now verdicts x b)
      ∙ ap (λ told. (record { stream = m.stream ++ octets; core = hears_each g now verdicts x }, told)) (same_told f g now verdicts x b)

  sends_calls : (refusal : Option SendRefusal) (now : ℕ) (user : List ℕ) (x : Core) → Calls x → Calls (step_send_unless model refusal now user x)
  sends_calls (Some refusal) now user x h = h
  sends_calls None now user x h = calls_behind _ x _ h (speak.sends now user x h.sane)

  step_calls : (now : ℕ) (e : ends.Event) (m : End) → Calls m.core → Calls (ends.step_event now e m).0.core
  step_calls now ends.Start m h = calls_behind _ m.core _ h (speak.starts now m.core h.sane)
  step_calls now (ends.Come f octets) m h = each_calls f now (news m.stream octets) (new_event_at model now m.core) (begun_calls now m.core h)
  step_calls now (ends.Send user) m h = sends_calls (refusal_of model user m.core) now user m.core h
  step_calls now ends.Take m h = calls_behind _ m.core _ h (speak.uses now m.core h.sane)
  step_calls now (ends.Leave sub) m h = calls_behind _ m.core _ h (speak.leaves now sub m.core h.sane)
  step_calls now ends.Tick m h = calls_behind _ m.core _ h (speak.ticks now m.core h.sane)
  step_calls now ends.Ended m h = calls_behind _ m.core _ h (speak.breaks LineEnded m.core h.sane)
  step_calls now ends.Fault m h = calls_behind _ m.core _ h (speak.breaks LineFailed m.core h.sane)
  step_calls now ends.Stalled m h = calls_behind _ m.core _ h (speak.breaks LineStalled m.core h.sane)

-- ---- the events of a trace

-- no end, or one that calls
abbrev pub CallsIfAny : Option End → Type 0
CallsIfAny None = Unit {0}
CallsIfAny (Some m) = Calls m.core

-- an event at which both look-ups do the same: a call whose key they both find, or none; no answer
abbrev pub IsAlike : Finds → Finds → ℕ → Event → Type 0
IsAlike f g now (event.Call engine rbc rb) = f now engine rbc ≡ g now engine rbc
IsAlike f g now (event.Answer rbc ra) = ⊥
IsAlike f g now (event.Octets octets) = Unit {0}
IsAlike f g now (event.Send text) = Unit {0}
IsAlike f g now event.Take = Unit {0}
IsAlike f g now (event.Release sub) = Unit {0}
IsAlike f g now event.Tick = Unit {0}
IsAlike f g now event.Ended = Unit {0}
IsAlike f g now event.Fault = Unit {0}
IsAlike f g now event.Stalled = Unit {0}
IsAlike f g now (event.Full count) = Unit {0}
IsAlike f g now (event.Unserved count) = Unit {0}

module _ (speak : EventsSpeakOnce) where
  same_octets : (f g : Finds) (now : ℕ) (octets : List ℕ) (m : Option End) → CallsIfAny m → goes_on now (ends.Come f octets) m ≡ goes_on now (ends.Come g octets) m
  same_octets f g now octets None h = refl
  same_octets f g now octets (Some m) h = ap (λ r. (Some r.0, r.1)) (same_come speak f g now octets m h)

  pub same_happens : (settings : Settings) (f g : Finds) (now : ℕ) (e : Event) (m : Option End) → IsAlike f g now e → CallsIfAny m
      → happens settings f now e m ≡ happens settings g now e m
  same_happens settings f g now (event.Call engine rbc rb) m alike h = ap (λ key. end_behind_call settings now engine rbc rb key m) alike
  same_happens settings f g now (event.Answer rbc ra) m alike h = absurd alike
  same_happens settings f g now (event.Octets octets) m alike h = same_octets f g now octets m h
  same_happens settings f g now (event.Send text) m alike h = refl
  same_happens settings f g now event.Take m alike h = refl
  same_happens settings f g now (event.Release sub) m alike h = refl
  same_happens settings f g now event.Tick m alike h = refl
  same_happens settings f g now event.Ended m alike h = refl
  same_happens settings f g now event.Fault m alike h = refl
  same_happens settings f g now event.Stalled m alike h = refl
  same_happens settings f g now (event.Full count) m alike h = refl
  same_happens settings f g now (event.Unserved count) m alike h = refl

  goes_on_calls : (now : ℕ) (e : ends.Event) (m : Option End) → CallsIfAny m → CallsIfAny (goes_on now e m).0
  goes_on_calls now e None h = tt
  goes_on_calls now e (Some m) h = step_calls speak now e m h

  called_calls : (settings : Settings) (now engine rbc rb : ℕ) (key : Option TripleKey) (m : Option End) → CallsIfAny m → CallsIfAny (end_behind_call settings now engine rbc rb key m).0
  called_calls settings now engine rbc rb None m h = h
  called_calls settings now engine rbc rb (Some kmac) m h =
      let opening = ends.Call settings engine rbc kmac rb now in
      step_calls speak now ends.Start (opened opening) (record { sane = speak.made opening; quiet = refl })

  pub happens_calls : (settings : Settings) (f g : Finds) (now : ℕ) (e : Event) (m : Option End) → IsAlike f g now e → CallsIfAny m
      → CallsIfAny (happens settings f now e m).0
  happens_calls settings f g now (event.Call engine rbc rb) m alike h = called_calls settings now engine rbc rb (f now engine rbc) m h
  happens_calls settings f g now (event.Answer rbc ra) m alike h = absurd alike
  happens_calls settings f g now (event.Octets octets) m alike h = goes_on_calls now (ends.Come f octets) m h
  happens_calls settings f g now (event.Send text) m alike h = goes_on_calls now (ends.Send text) m h
  happens_calls settings f g now event.Take m alike h = goes_on_calls now ends.Take m h
  happens_calls settings f g now (event.Release sub) m alike h = goes_on_calls now (ends.Leave sub) m h
  happens_calls settings f g now event.Tick m alike h = goes_on_calls now ends.Tick m h
  happens_calls settings f g now event.Ended m alike h = goes_on_calls now ends.Ended m h
  happens_calls settings f g now event.Fault m alike h = goes_on_calls now ends.Fault m h
  happens_calls settings f g now event.Stalled m alike h = goes_on_calls now ends.Stalled m h
  happens_calls settings f g now (event.Full count) m alike h = h
  happens_calls settings f g now (event.Unserved count) m alike h = h
