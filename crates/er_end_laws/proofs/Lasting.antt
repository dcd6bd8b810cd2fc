-- What an end sends last, as one table; and that ends behind events are such as the table speaks of.
use Rattle.std.proofs.Common.{◌≡◌, inl, inr, ◌∙◌, ℕ, List, [], ◌∷◌, Option, Some, None, refl, sym, ap, arith}
use Rattle.std.specs.Prelude.{◌-◌, ◌==◌, length, is_some, if◌then◌else◌}
use Rattle.std.proofs.lemmas.Bool.{cond_both}
use Rattle.er_base.specs.declared.release.Release.{Release}
use Rattle.er_base.specs.declared.cause.Cause.{Cause}
use Rattle.er_base.specs.declared.cause.Cause.TheVariants as cause
use Rattle.hdlc_frames.specs.Framing.{Verdict}
use Rattle.hdlc_station_model.specs.Laws as stations
use Rattle.hdlc_station_model.specs.Reports.{ReleasesAreTold}
use Rattle.hdlc_station_model.specs.Events.{news}
use Rattle.safety_automaton.specs.Rules.{StepsOnly, StepsEach, CauseReleases}
use Rattle.er_end_model.specs.Outcomes.{SendRefusal}
use Rattle.er_end_model.specs.Steps.{Finds, new_event, new_event_at, refusal_at, refusal_of, is_connected, step_send_unless, step_start, step_frame, step_take, step_release, step_tick, step_break, conclude_event}
use Rattle.er_end_model.specs.Layers.{Core, model}
use Rattle.er_end_model.specs.Ends.{Opening, Call, Answer, Event, Start, Come, Send, Take, Leave, Tick, Ended, Fault, Stalled, End, Moment, opened, hears_each, step_event, end_run}
use Rattle.er_end_laws.specs.LastTpdus.{LastTpdus, EndsAreLive, IsLiveUnlessReleased, IsLive}
use Rattle.er_end_laws.proofs.Ending.{frame_ends, tick_ends, release_ends, break_ends}
use Rattle.er_end_laws.proofs.GoingOn.{goes_on, live_behind, start_quiet, send_quiet, take_quiet, tick_quiet, frame_quiet}

module _ (told : ReleasesAreTold) (receives : stations.ReceivesGive) (steps_only : StepsOnly) (steps_each : StepsEach) (causes : CauseReleases) where
  pub last_tpdus : LastTpdus
  last_tpdus = record {
    frame = λ finds now verdict x why last h row. frame_ends steps_each causes finds now verdict x h why last row;
    tick = λ now x why last h row. tick_ends steps_each causes now x h why last row;
    release = λ now sub x h. release_ends steps_each causes now sub x h;
    breaks = λ of x h. break_ends steps_each causes of x h;
    frame_only = λ finds now verdict x h. elim (frame_quiet told receives steps_only finds now verdict x h) [ inl q ↦ inl (goes_on x _ q) | inr row ↦ inr row ];
    tick_only = λ now x h. elim (tick_quiet told now x h) [ inl q ↦ inl (goes_on x _ q) | inr row ↦ inr row ];
    start = λ now x h. goes_on x _ (start_quiet told now x h);
    send = λ now user x h. goes_on x _ (send_quiet told now user x h);
    take = λ now x h. goes_on x _ (take_quiet told now x h);
  }

  -- ---- one event

  -- a released end stays so, and a live one was
  abbrev Keeps : Core → Core → Type 0
  Keeps x y = IsLiveUnlessReleased x → IsLiveUnlessReleased y

  gone : (why : Release) (y : Core) → y.released ≡ Some why → IsLiveUnlessReleased y
  gone why y e none = absurd (let f = sym e ∙ none in cc)

  -- by whether it was released
  by_release : (x y : Core) → ((why : Release) → x.released ≡ Some why → y.released ≡ Some why) → (IsLive x → IsLiveUnlessReleased y) → Keeps x y
  by_release x y stays lives h = by_released x.released refl
    where
      by_released : (r : Option Release) → x.released ≡ r → IsLiveUnlessReleased y
      by_released None e = lives (h e)
      by_released (Some why) e = gone why y (stays why e)

  unless : (x b y : Core) (why : Release) → x.released ≡ Some why → b.released ≡ x.released → (if is_some x.released then b else y).released ≡ Some why
  unless x b y why e k = ap (λ (r : Option Release). (if is_some r then b else y).released) e ∙ k ∙ e

  frame_keeps : (finds : Finds) (now : ℕ) (verdict : Verdict) (x : Core) → Keeps x (step_frame model finds now verdict x)
  frame_keeps finds now verdict x = by_release x (step_frame model finds now verdict x) (λ why e. unless x (new_event_at model now x) _ why e refl)
      (λ h. elim (frame_quiet told receives steps_only finds now verdict x h) [
        | inl q ↦ (λ none. live_behind x _ q)
        | inr row ↦ gone row.0 _ (frame_ends steps_each causes finds now verdict x h row.0 row.1 row.2).0
      ])

  frames_keep : (finds : Finds) (now : ℕ) (verdicts : List Verdict) (x : Core) → Keeps x (hears_each finds now verdicts x)
  frames_keep finds now [] x h = h
  frames_keep finds now (v ∷ vs) x h = frames_keep finds now vs (step_frame model finds now v x) (frame_keeps finds now v x h)

  begins_keep : (now : ℕ) (x : Core) → Keeps x (new_event_at model now x)
  begins_keep now x h none = let l = h none in record { released = none; open_side = l.open_side; handed = l.handed }

  tick_keeps : (now : ℕ) (x : Core) → Keeps x (step_tick model now x)
  tick_keeps now x = by_release x (step_tick model now x) (λ why e. unless x (new_event_at model now x) _ why e refl)
      (λ h. elim (tick_quiet told now x h) [
        | inl q ↦ (λ none. live_behind x _ q)
        | inr row ↦ gone row.0 _ (tick_ends steps_each causes now x h row.0 row.1 row.2).0
      ])

  start_keeps : (now : ℕ) (x : Core) → Keeps x (step_start model now x)
  start_keeps now x = by_release x (step_start model now x) (λ why e. unless x (new_event_at model now x) _ why e refl) (λ h none. live_behind x _ (start_quiet told now x h))

  release_keeps : (now sub : ℕ) (x : Core) → Keeps x (step_release model now sub x)
  release_keeps now sub x = by_release x (step_release model now sub x) (λ why e. unless x (new_event_at model now x) _ why e refl)
      (λ h. gone _ _ (release_ends steps_each causes now sub x h).0)

  break_keeps : (of : Cause) (x : Core) → Keeps x (step_break model of x)
  break_keeps of x = by_release x (step_break model of x) (λ why e. unless x (new_event model x) _ why e refl) (λ h. gone _ _ (break_ends steps_each causes of x h).0)

  take_keeps : (now : ℕ) (x : Core) → Keeps x (step_take model now x)
  take_keeps now x = by_release x (step_take model now x) stays (λ h none. live_behind x _ (take_quiet told now x h))
    where
      stays : (why : Release) → x.released ≡ Some why → (step_take model now x).released ≡ Some why
      stays why e =
          let b : Core = new_event_at model now x in
          let z : Core = record b { upper = model.uses b.upper } in
          cond_both (length x.upper.accepted - x.upper.used == 0) b (conclude_event model z) (λ y. y.released ≡ Some why) (λ none. e) (λ some. unless x z _ why e refl)

  send_keeps : (now : ℕ) (user : List ℕ) (x : Core) (r : Option SendRefusal) → refusal_of model user x ≡ r → Keeps x (step_send_unless model r now user x)
  send_keeps now user x (Some refusal) is h none = h none
  send_keeps now user x None is h none = live_behind x _ (send_quiet told now user x (h (was_live x.released refl)))
    where
      was_live : (r : Option Release) → x.released ≡ r → x.released ≡ None
      was_live None e = e
      was_live (Some why) e =
          absurd (let f = sym (ap (λ (o : Option Release). refusal_at o (is_connected x.safe.safety.phase) user (model.waiting x.upper)) e) ∙ is in cc)

  event_keeps : (now : ℕ) (event : Event) (m : End) → Keeps m.core (step_event now event m).0.core
  event_keeps now Start m = start_keeps now m.core
  event_keeps now (Come finds octets) m = λ h. frames_keep finds now (news m.stream octets) (new_event_at model now m.core) (begins_keep now m.core h)
  event_keeps now (Send user) m = send_keeps now user m.core (refusal_of model user m.core) refl
  event_keeps now Take m = take_keeps now m.core
  event_keeps now (Leave sub) m = release_keeps now sub m.core
  event_keeps now Tick m = tick_keeps now m.core
  event_keeps now Ended m = break_keeps cause.LineEnded m.core
  event_keeps now Fault m = break_keeps cause.LineFailed m.core
  event_keeps now Stalled m = break_keeps cause.LineStalled m.core

  -- ---- a run

  run_keeps : (events : List Moment) (m : End) → IsLiveUnlessReleased m.core → IsLiveUnlessReleased (end_run events m).core
  run_keeps [] m h = h
  run_keeps (e ∷ events) m h = run_keeps events (step_event e.now e.event m).0 (event_keeps e.now e.event m h)

  opened_live : (opening : Opening) → IsLiveUnlessReleased (opened opening).core
  opened_live (Call settings me peer kmac rb now) none = record { released = none; open_side = tt; handed = omega arith }
  opened_live (Answer settings me ra now) none = record { released = none; open_side = tt; handed = omega arith }

  pub ends_are_live : EndsAreLive
  ends_are_live = record {
    events = λ opening events. run_keeps events (opened opening) (opened_live opening);
    frames = λ opening events finds now first.
        let m : End = end_run events (opened opening) in
        frames_keep finds now first (new_event_at model now m.core) (begins_keep now m.core (run_keeps events (opened opening) (opened_live opening)));
  }
