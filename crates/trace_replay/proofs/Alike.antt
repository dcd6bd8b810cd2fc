-- Ends that differ in what the last event showed alone go on alike; so a step of what is kept is one of the end that it stands for.
use Rattle.std.proofs.Common.{◌≡◌, ◌≤◌, ◌∙◌, ℕ, List, [], ◌++◌, Option, Some, None, is_some, refl, sym, ap, ap₂, subst, arith, if◌then◌else◌}
use Rattle.er_base.specs.declared.release.Release.{Release}
use Rattle.er_base.specs.declared.cause.Cause.{Cause}
use Rattle.er_base.specs.declared.cause.Cause.TheVariants.{LineEnded, LineFailed, LineStalled}
use Rattle.er_base.specs.Causes.{release_of}
use Rattle.er_end_model.specs.Outcomes.{Outcome, SendRefusal}
use Rattle.er_end_model.specs.Steps.{new_event_at, on_start, on_release, on_tick, on_take, step_break, on_send, refusal_of, step_send_unless, outcomes_of, if_taken}
use Rattle.er_end_model.specs.Layers.{Core, model}
use Rattle.hdlc_station_model.specs.Events.{news}
use Rattle.er_end_model.specs.Ends.{End, Event, Start, Come, Send, Take, Leave, Tick, Ended, Fault, Stalled, hears_each, told_of_each, step_event, with_core, refusal_or_outcomes}
use Rattle.er_end.specs.KeptEnds.{KEnd, kept_end_behind_event, tells}
use Rattle.er_end.specs.Standing.{StepsAlike, event_of}
use Rattle.trace_replay.specs.Places.{AlikeFrom, StandsForAlikeEnd}

pub alike_same : (now : ℕ) (m n : End) → m ≡ n → AlikeFrom now m n
alike_same now m n p = record {
  stream = ap (λ (e : End). e.stream) p;
  begun = λ at le. ap (λ (e : End). new_event_at model at e.core) p;
}

pub alike_later : (last now : ℕ) (m n : End) → last ≤ now → AlikeFrom last m n → AlikeFrom now m n
alike_later last now m n le a = record {
  stream = a.stream;
  begun = λ at more. a.begun at (let p : last ≤ at = omega arith in p);
}

-- an event that does this with what began
led_alike : (now : ℕ) (m n : End) (x y : Core) (f : Core → Core) → m.stream ≡ n.stream → x ≡ y → AlikeFrom now (with_core m (f x)) (with_core n (f y))
led_alike now m n x y f s p =
    alike_same now (with_core m (f x)) (with_core n (f y)) (ap₂ (λ (t : List ℕ) (z : Core). let e : End = record { stream = t; core = f z } in e) s p)

-- a break
abbrev broke : Cause → Core → Core
broke cause y = if is_some y.released then y else record y { released = Some (release_of cause) }

break_begun : (cause : Cause) (at : ℕ) (x : Core) (o : Option Release) → x.released ≡ o → new_event_at model at (step_break model cause x) ≡ broke cause (new_event_at model at x)
break_begun cause at x None e = rw e refl
break_begun cause at x (Some why) e = rw e refl

abbrev told_broken : Cause → Option Release → List Outcome
told_broken cause o = if is_some o then [] else Rattle.er_end_model.specs.Steps.if_released (Some (release_of cause))

break_told : (cause : Cause) (x : Core) (o : Option Release) → x.released ≡ o → outcomes_of model (step_break model cause x) ≡ told_broken cause o
break_told cause x None e = rw e refl
break_told cause x (Some why) e = rw e refl

pub released_alike : (last : ℕ) (m n : End) → AlikeFrom last m n → m.core.released ≡ n.core.released
released_alike last m n a = ap (λ (x : Core). x.released) (a.begun last (let p : last ≤ last = omega arith in p))

pub untaken_alike : (last : ℕ) (m n : End) → AlikeFrom last m n → model.untaken m.core.upper ≡ model.untaken n.core.upper
untaken_alike last m n a = ap (λ (x : Core). model.untaken x.upper) (a.begun last (let p : last ≤ last = omega arith in p))

breaks_alike : (last now : ℕ) (cause : Cause) (m n : End) → AlikeFrom last m n → last ≤ now
    → AlikeFrom now (with_core m (step_break model cause m.core)) (with_core n (step_break model cause n.core))
    × (outcomes_of model (step_break model cause m.core) ≡ outcomes_of model (step_break model cause n.core))
breaks_alike last now cause m n a le = (
  record {
    stream = a.stream;
    begun = λ at more.
        break_begun cause at m.core m.core.released refl
        ∙ ap (λ (x : Core). broke cause x) (a.begun at (let p : last ≤ at = omega arith in p))
        ∙ sym (break_begun cause at n.core n.core.released refl);
  },
  break_told cause m.core m.core.released refl
      ∙ ap (λ (o : Option Release). told_broken cause o) (released_alike last m n a)
      ∙ sym (break_told cause n.core n.core.released refl),
)

-- a send, by why it is refused, where it is
sends_alike : (last now : ℕ) (user : List ℕ) (m n : End) (r : Option SendRefusal) → AlikeFrom last m n → last ≤ now
    → AlikeFrom now (with_core m (step_send_unless model r now user m.core)) (with_core n (step_send_unless model r now user n.core))
    × (refusal_or_outcomes r (outcomes_of model (step_send_unless model r now user m.core)) ≡ refusal_or_outcomes r (outcomes_of model (step_send_unless model r now user n.core)))
sends_alike last now user m n (Some refusal) a le = (alike_later last now m n le a, refl)
sends_alike last now user m n None a le =
    let p = a.begun now le in (
      led_alike now m n (new_event_at model now m.core) (new_event_at model now n.core) (λ x. on_send model user x) a.stream p,
      ap (λ (x : Core). outcomes_of model (on_send model user x)) p,
    )

refusal_alike : (last : ℕ) (user : List ℕ) (m n : End) → AlikeFrom last m n → refusal_of model user m.core ≡ refusal_of model user n.core
refusal_alike last user m n a = ap (λ (x : Core). refusal_of model user x) (a.begun last (let p : last ≤ last = omega arith in p))

abbrev sent_unless : ℕ → List ℕ → Option SendRefusal → End → End × List Outcome
sent_unless now user r n = let x = step_send_unless model r now user n.core in (with_core n x, refusal_or_outcomes r (outcomes_of model x))

pub alike_step : (last now : ℕ) (event : Event) (m n : End) → AlikeFrom last m n → last ≤ now
    → AlikeFrom now (step_event now event m).0 (step_event now event n).0 × ((step_event now event m).1 ≡ (step_event now event n).1)
alike_step last now Start m n a le =
    let p = a.begun now le in (
      led_alike now m n (new_event_at model now m.core) (new_event_at model now n.core) (λ x. on_start model x) a.stream p,
      ap (λ (x : Core). outcomes_of model (on_start model x)) p,
    )
alike_step last now (Come finds octets) m n a le =
    let p = a.begun now le in
    let q : news m.stream octets ≡ news n.stream octets = ap (λ (s : List ℕ). news s octets) a.stream in (
      alike_same now (step_event now (Come finds octets) m).0 (step_event now (Come finds octets) n).0
          (ap₂ (λ (s : List ℕ) (x : Core). let e : End = record { stream = s ++ octets; core = hears_each finds now (news s octets) x } in e) a.stream p),
      ap₂ (λ (s : List ℕ) (x : Core). told_of_each finds now (news s octets) x) a.stream p,
    )
alike_step last now (Send user) m n a le =
    let r = refusal_of model user m.core in
    subst
    (λ (o : Option SendRefusal). AlikeFrom now (sent_unless now user r m).0 (sent_unless now user o n).0 × ((sent_unless now user r m).1 ≡ (sent_unless now user o n).1))
    (refusal_alike last user m n a) (sends_alike last now user m n r a le)
alike_step last now Take m n a le =
    let p = a.begun now le in (
      led_alike now m n (new_event_at model now m.core) (new_event_at model now n.core) (λ x. on_take model x) a.stream p,
      ap (λ (x : Core). if_taken (model.oldest x.upper) ++ outcomes_of model (on_take model x)) p,
    )
alike_step last now (Leave sub) m n a le =
    let p = a.begun now le in (
      led_alike now m n (new_event_at model now m.core) (new_event_at model now n.core) (λ x. on_release model sub x) a.stream p,
      ap (λ (x : Core). outcomes_of model (on_release model sub x)) p,
    )
alike_step last now Tick m n a le =
    let p = a.begun now le in (
      led_alike now m n (new_event_at model now m.core) (new_event_at model now n.core) (λ x. on_tick model x) a.stream p,
      ap (λ (x : Core). outcomes_of model (on_tick model x)) p,
    )
alike_step last now Ended m n a le = breaks_alike last now LineEnded m n a le
alike_step last now Fault m n a le = breaks_alike last now LineFailed m n a le
alike_step last now Stalled m n a le = breaks_alike last now LineStalled m n a le

-- a call of what is kept
pub follows_step : StepsAlike → (last now : ℕ) (event : Event) (k : KEnd) (m : End) → StandsForAlikeEnd last k m → last ≤ now
    → StandsForAlikeEnd now (kept_end_behind_event now event k) (step_event now (event_of k event) m).0 × (tells now event k ≡ (step_event now (event_of k event) m).1)
follows_step law last now event k m f le =
    let s = law now event k f.exact f.stands in
    let a = alike_step last now (event_of k event) f.exact m f.alike le in
    (record { exact = (step_event now (event_of k event) f.exact).0; stands = s.0; alike = a.0 }, s.1 ∙ a.1)

pub follows_later : (last now : ℕ) (k : KEnd) (m : End) → last ≤ now → StandsForAlikeEnd last k m → StandsForAlikeEnd now k m
follows_later last now k m le f = record { exact = f.exact; stands = f.stands; alike = alike_later last now f.exact m le f.alike }
