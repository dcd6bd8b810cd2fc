-- An end that is released: no event gives its safety side octets, or its station a payload.
use Rattle.std.proofs.Common.{◌≡◌, ◌∙◌, ℕ, ◌-◌, List, [], ◌∷◌, ◌++◌, length, Option, Some, None, refl, ap}
use Rattle.std.specs.Prelude.{◌==◌, is_some, if◌then◌else◌}
use Rattle.er_base.specs.declared.release.Release.{Release}
use Rattle.er_base.specs.declared.cause.Cause.{Cause}
use Rattle.er_base.specs.declared.cause.Cause.TheVariants.{LineEnded, LineFailed, LineStalled}
use Rattle.hdlc_frames.specs.Framing.{Verdict}
use Rattle.hdlc_station_model.specs.Events.{news}
use Rattle.er_end_model.specs.Outcomes.{SendRefusal, RefusedReleased}
use Rattle.er_end_model.specs.Steps.{Finds, new_event, new_event_at, conclude_event, step_frame, step_start, refusal_of, refusal_at, is_connected, step_send_unless, step_take, step_release, step_tick, step_break}
use Rattle.er_end_model.specs.Layers.{Core, model}
use Rattle.er_end_model.specs.Ends.{Event, Start, Come, Send, Take, Leave, Tick, Ended, Fault, Stalled, End, Moment, hears_each, step_event, end_run}
use Rattle.tap_model.specs.Given.{received_by, received_of_each, received_unless, received_at, received}
use Rattle.tap_hearing.proofs.Noting.{Noted, noted, noted_if, concludes_noted}
use Rattle.tap_hearing.proofs.Runs.{Rests}

noted_where : (r : Option Release) (why : Release) (x y : Core) → r ≡ Some why → noted (if is_some r then x else y) ≡ noted x
noted_where None why x y e = absurd cc
noted_where (Some other) why x y e = refl

then_rests : (n : Noted) (g : List (List ℕ)) (m : Noted) (h : List (List ℕ)) (p : Noted) → Rests n g m → Rests m h p → Rests n (g ++ h) p
then_rests n g m h p a b = record {
  released = b.released ∙ a.released;
  none = ap (λ (z : List (List ℕ)). z ++ h) a.none ∙ b.none;
  taken = b.taken ∙ a.taken;
}

module _ (x : Core) (why : Release) (is : x.released ≡ Some why) (now : ℕ) where
  abbrev b : Core
  b = new_event_at model now x

  still : (y : Core) → noted y ≡ noted b → Rests (noted x) (received_by y) (noted y)
  still y e = record { released = ap (λ (n : Noted). n.released) e; none = ap (λ (n : Noted). n.received) e; taken = ap (λ (n : Noted). n.line.taken) e }

  comes_rest : (finds : Finds) (v : Verdict) → Rests (noted x) (received_by (step_frame model finds now v x)) (noted (step_frame model finds now v x))
  comes_rest finds v = still (step_frame model finds now v x) (noted_where x.released why b _ is)

  refused : (r : Option SendRefusal) (refusal : SendRefusal) (user : List ℕ) → r ≡ Some refusal
      → Rests (noted x) (received_unless r (step_send_unless model r now user x)) (noted (step_send_unless model r now user x))
  refused None refusal user e = absurd cc
  refused (Some other) refusal user e = record { released = refl; none = refl; taken = refl }

  used_rests : Rests (noted x) (received_by (step_take model now x)) (noted (step_take model now x))
  used_rests =
      let z : Core = record b { upper = model.uses b.upper } in
      still (step_take model now x) (noted_if (length x.upper.accepted - x.upper.used == 0) b (conclude_event model z) (noted b) refl (concludes_noted z))

  breaks_rest : (cause : Cause) → Rests (noted x) (received_by (step_break model cause x)) (noted (step_break model cause x))
  breaks_rest cause = still (step_break model cause x) (noted_where x.released why (new_event model x) _ is)

pub each_rests : (finds : Finds) (now : ℕ) (vs : List Verdict) (x : Core) (why : Release) → x.released ≡ Some why
    → Rests (noted x) (received_of_each finds now vs x) (noted (hears_each finds now vs x))
each_rests finds now [] x why is = record { released = refl; none = refl; taken = refl }
each_rests finds now (v ∷ vs) x why is =
    let y : Core = step_frame model finds now v x in
    let a : Rests (noted x) (received_by y) (noted y) = comes_rest x why is now finds v in
    then_rests (noted x) (received_by y) (noted y) (received_of_each finds now vs y) (noted (hears_each finds now vs y)) a (each_rests finds now vs y why (a.released ∙ is))

pub event_rests : (now : ℕ) (event : Event) (m : End) (why : Release) → m.core.released ≡ Some why
    → Rests (noted m.core) (received_at now event m) (noted (step_event now event m).0.core)
event_rests now Start m why is = still m.core why is now (step_start model now m.core) (noted_where m.core.released why (new_event_at model now m.core) _ is)
event_rests now (Come finds octets) m why is =
    let b : Core = new_event_at model now m.core in
    let a : Rests (noted m.core) [] (noted b) = record { released = refl; none = refl; taken = refl } in
    let vs : List Verdict = news m.stream octets in
    then_rests (noted m.core) [] (noted b) (received_of_each finds now vs b) (noted (hears_each finds now vs b)) a (each_rests finds now vs b why is)
event_rests now (Send user) m why is =
    let x : Core = m.core in
    refused x why is now (refusal_of model user x) (RefusedReleased why) user
    (ap (λ (r : Option Release). refusal_at r (is_connected x.safe.safety.phase) user (model.waiting x.upper)) is)
event_rests now Take m why is = used_rests m.core why is now
event_rests now (Leave sub) m why is = still m.core why is now (step_release model now sub m.core) (noted_where m.core.released why (new_event_at model now m.core) _ is)
event_rests now Tick m why is = still m.core why is now (step_tick model now m.core) (noted_where m.core.released why (new_event_at model now m.core) _ is)
event_rests now Ended m why is = breaks_rest m.core why is now LineEnded
event_rests now Fault m why is = breaks_rest m.core why is now LineFailed
event_rests now Stalled m why is = breaks_rest m.core why is now LineStalled

pub run_rests : (events : List Moment) (m : End) (why : Release) → m.core.released ≡ Some why → Rests (noted m.core) (received events m) (noted (end_run events m).core)
run_rests [] m why is = record { released = refl; none = refl; taken = refl }
run_rests (e ∷ events) m why is =
    let n : End = (step_event e.now e.event m).0 in
    let a : Rests (noted m.core) (received_at e.now e.event m) (noted n.core) = event_rests e.now e.event m why is in
    then_rests (noted m.core) (received_at e.now e.event m) (noted n.core) (received events n) (noted (end_run events n).core) a (run_rests events n why (a.released ∙ is))
