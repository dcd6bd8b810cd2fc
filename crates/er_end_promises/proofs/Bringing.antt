-- Each verified message that comes to an end that isn't released is accepted.
use Rattle.std.proofs.Common.{◌≡◌, ◌∙◌, ◌+◌, ◌≤◌, ℕ, max, List, [], ◌∷◌, ◌++◌, length, Option, Some, None, refl, sym, ap, subst, arith, append_assoc, length-append}
use Rattle.std.specs.Option.{option_to_list}
use Rattle.des_block.specs.declared.triple_key.TripleKey.{TripleKey}
use Rattle.er_base.specs.declared.cause.Cause.TheVariants.{LineEnded, LineFailed, LineStalled}
use Rattle.hdlc_frames.specs.Framing.{Verdict}
use Rattle.hdlc_station_model.specs.Events.{news}
use Rattle.safety_automaton.specs.Safety.{Safety, Received, SafetyOutcome, AcceptedDt, step}
use Rattle.safety_automaton.specs.Laws.{IsVerifiedMessage, VerifiedAccepts}
use Rattle.er_end_model.specs.Outcomes.{SendRefusal}
use Rattle.er_end_model.specs.Steps.{Finds, new_event_at, step_frame, refusal_of, step_send_unless, outcomes_of}
use Rattle.er_end_model.specs.Layers.{Spoken, Core, model, written_by}
use Rattle.er_end_model.specs.Ends.{End, Event, Start, Come, Send, Take, Leave, Tick, Ended, Fault, Stalled, Moment, opened, hears_each, told_of_each, step_event, end_run}
use Rattle.er_end_model.specs.Hearing.{IsTextOf}
use Rattle.er_end_model.specs.Giving.{IsGiven, EventsGive}
use Rattle.er_end_model.specs.Laws.{accepted_safety_message, ShowsSafetyStep, IsSane, EventsSpeakOnce}
use Rattle.er_end_model.specs.Origins.{core_behind_frames}
use Rattle.er_end.specs.KeptEnds.{KEnd, kept_opened, tells}
use Rattle.er_end.specs.Keeping.{accepted_in}
use Rattle.er_end.specs.Standing.{EndStands, MadeStands, StepsAlike, RunsAlike, events_of, kept_run}
use Rattle.er_end_promises.specs.Verified.{AcceptsOneAtMost, VerifiedAreAccepted, end_before}
use Rattle.er_end_promises.proofs.Telling.{accepted-append, accepted_shown}

-- ---- the safe connection stands on one of the transport, behind any events

module _ (speaks : EventsSpeakOnce) where
  sane_frames : (finds : Finds) (now : ℕ) (verdicts : List Verdict) (x : Core) → IsSane x → IsSane (hears_each finds now verdicts x)
  sane_frames finds now [] x h = h
  sane_frames finds now (verdict ∷ verdicts) x h = sane_frames finds now verdicts (step_frame model finds now verdict x) (speaks.comes finds now verdict x h).sane

  sane_send : (refusal : Option SendRefusal) (now : ℕ) (user : List ℕ) (x : Core) → IsSane x → IsSane (step_send_unless model refusal now user x)
  sane_send (Some refusal) now user x h = h
  sane_send None now user x h = (speaks.sends now user x h).sane

  sane_event : (now : ℕ) (event : Event) (m : End) → IsSane m.core → IsSane (step_event now event m).0.core
  sane_event now Start m h = (speaks.starts now m.core h).sane
  sane_event now (Come finds octets) m h = sane_frames finds now (news m.stream octets) (new_event_at model now m.core) h
  sane_event now (Send user) m h = sane_send (refusal_of model user m.core) now user m.core h
  sane_event now Take m h = (speaks.uses now m.core h).sane
  sane_event now (Leave sub) m h = (speaks.leaves now sub m.core h).sane
  sane_event now Tick m h = (speaks.ticks now m.core h).sane
  sane_event now Ended m h = (speaks.breaks LineEnded m.core h).sane
  sane_event now Fault m h = (speaks.breaks LineFailed m.core h).sane
  sane_event now Stalled m h = (speaks.breaks LineStalled m.core h).sane

  sane_run : (events : List Moment) (m : End) → IsSane m.core → IsSane (end_run events m).core
  sane_run [] m h = h
  sane_run (e ∷ events) m h = sane_run events (step_event e.now e.event m).0 (sane_event e.now e.event m h)

-- ---- a frame

module _ (give : EventsGive) (speaks : EventsSpeakOnce) (each : VerifiedAccepts) where
  -- the step of the safety side is the one that the text gives
  accepts_by : (key_of : ℕ → ℕ → Option TripleKey) (s : Safety) (y : Core) (keys : TripleKey) (text user sealed : List ℕ) (spoke : Option Spoken) → IsVerifiedMessage s keys text user sealed
      → IsGiven (Received text) spoke → ShowsSafetyStep key_of s spoke y → y.upper.news ≡ Some user
  accepts_by key_of s y keys text user sealed None verified given shows = absurd given
  accepts_by key_of s y keys text user sealed (Some t) verified given shows =
      let stepped : step key_of s t.event ≡ (s, AcceptedDt keys user sealed) = ap (λ e. step key_of s e) given ∙ each key_of s keys text user sealed verified in
      let outcome : t.outcome ≡ AcceptedDt keys user sealed = ap (λ (a : Safety × SafetyOutcome). a.1) (sym shows.0 ∙ stepped) in
      shows.4 ∙ ap accepted_safety_message outcome

  frame_accepts : (finds : Finds) (now : ℕ) (verdict : Verdict) (x : Core) (keys : TripleKey) (text user sealed : List ℕ) → IsSane x → x.released ≡ None → IsTextOf x now verdict text
      → IsVerifiedMessage x.safe.safety keys text user sealed → accepted_in (outcomes_of model (step_frame model finds now verdict x)) ≡ user ∷ []
  frame_accepts finds now verdict x keys text user sealed sane live is_text verified =
      let y : Core = step_frame model finds now verdict x in
      let is : y.upper.news ≡ Some user =
      accepts_by (finds (max x.moment now)) x.safe.safety y keys text user sealed y.upper.spoke verified (give.each_text finds now verdict x text live is_text)
      (speaks.comes finds now verdict x sane).step in
      accepted_shown y.connected y.upper.news y.leaves (written_by y.line) ∙ ap (λ (m : Option (List ℕ)). option_to_list m) is

  -- ---- octets

  told_split : (finds : Finds) (now : ℕ) (first : List Verdict) (verdict : Verdict) (later : List Verdict) (x : Core)
      → told_of_each finds now (first ++ verdict ∷ later) x
      ≡ told_of_each finds now first x ++ (outcomes_of model (step_frame model finds now verdict (hears_each finds now first x))
      ++ told_of_each finds now later (step_frame model finds now verdict (hears_each finds now first x)))
  told_split finds now [] verdict later x = refl
  told_split finds now (v ∷ first) verdict later x =
      let y : Core = step_frame model finds now v x in
      let told = outcomes_of model (step_frame model finds now verdict (hears_each finds now first y)) in
      let last = told_of_each finds now later (step_frame model finds now verdict (hears_each finds now first y)) in
      ap (λ z. outcomes_of model y ++ z) (told_split finds now first verdict later y) ∙ sym (append_assoc (outcomes_of model y) (told_of_each finds now first y) (told ++ last))

  alone : (a c : List (List ℕ)) (m : List ℕ) → length (a ++ (m ∷ c)) ≤ 1 → a ++ (m ∷ c) ≡ m ∷ []
  alone [] [] m h = refl
  alone [] (n ∷ c) m h = absurd (omega (arith, h))
  alone (n ∷ a) c m h = absurd (let l : length (a ++ (m ∷ c)) ≡ length a + length (m ∷ c) = length-append a (m ∷ c) in omega (arith, h, l))

  pub verified_are_accepted : MadeStands → StepsAlike → RunsAlike → AcceptsOneAtMost → VerifiedAreAccepted
  verified_are_accepted made steps runs one opening calls now finds octets message allowed brings live =
      let k : KEnd = kept_run calls (kept_opened opening) in
      let m : End = end_before opening calls in
      let x : Core = new_event_at model now m.core in
      let stands : EndStands k m = (runs calls (kept_opened opening) (opened opening) (made opening allowed)).0 in
      let at : Core = core_behind_frames finds now brings.first m in
      let sane : IsSane at = sane_frames speaks finds now brings.first x (sane_run speaks (events_of calls (kept_opened opening)) (opened opening) (speaks.made opening)) in
      let y : Core = step_frame model finds now brings.verdict at in
      let a = told_of_each finds now brings.first x in
      let b = outcomes_of model y in
      let c = told_of_each finds now brings.later y in
      let heard : accepted_in b ≡ message ∷ [] =
      frame_accepts finds now brings.verdict at brings.does.0 brings.text message brings.does.1 sane live brings.is_text brings.does.2 in
      let told : tells now (Come finds octets) k ≡ a ++ (b ++ c) =
      (steps now (Come finds octets) k m stands).1 ∙ ap (λ (vs : List Verdict). told_of_each finds now vs x) brings.frames
      ∙ told_split finds now brings.first brings.verdict brings.later x in
      let all : accepted_in (tells now (Come finds octets) k) ≡ accepted_in a ++ (message ∷ accepted_in c) =
      ap accepted_in told ∙ accepted-append a (b ++ c) ∙ ap (λ z. accepted_in a ++ z) (accepted-append b c ∙ ap (λ z. z ++ accepted_in c) heard) in
      all ∙ alone (accepted_in a) (accepted_in c) message (subst (λ (ms : List (List ℕ)). length ms ≤ 1) all (one now (Come finds octets) k))
