-- How far a safety side is, over the events at its end.
use Rattle.std.proofs.Common.{◌≡◌, ◌∙◌, inl, ℕ, max, Bool, true, false, not, List, [], ◌∷◌, ◌++◌, Option, Some, None, refl, sym, ap, subst, append_assoc, append-nil}
use Rattle.std.specs.Prelude.{if◌then◌else◌}
use Rattle.std.specs.Option.{option_to_list}
use Rattle.er_base.specs.declared.release.Release.{Release}
use Rattle.er_base.specs.declared.cause.Cause.TheVariants.{LineEnded, LineFailed, LineStalled}
use Rattle.des_block.specs.declared.triple_key.TripleKey.{TripleKey}
use Rattle.hdlc_frames.specs.Framing.{Verdict}
use Rattle.hdlc_station_model.specs.Events.{news}
use Rattle.sapdu.specs.Messages.{is_message}
use Rattle.safety_automaton.specs.Safety.{no_keys, Safety, Phase, Ready, WaitAu1, WaitAu2, WaitAu3, WaitAr, Connected, Released, SafetyOutcome, sends, sends_dt}
use Rattle.safety_automaton.specs.Reports.{KeptSafe}
use Rattle.safety_automaton.specs.Safety as safety
use Rattle.safety_automaton.specs.Rules.{StepsOnly}
use Rattle.safety_automaton.specs.Rules as rules
use Rattle.safety_automaton.specs.Laws.{StaysItself}
use Rattle.er_end_model.specs.Outcomes.{SendRefusal}
use Rattle.er_end_model.specs.Steps.{Finds, new_event_at, step_frame, step_start, refusal_at, refusal_of, on_send, step_send_unless, step_take, step_release, step_tick, step_break, is_connected}
use Rattle.er_end_model.specs.Layers.{Spoken, Core, model}
use Rattle.er_end_model.specs.Laws.{ShowsSafetyStep, IsSane, SpeaksOnce, EventsSpeakOnce}
use Rattle.er_end_model.specs.Ends.{Opening, Call, Answer, Event, Start, Come, Send, Take, Leave, Tick, Ended, Fault, Stalled, End, Moment, opened, hears_each, step_event, end_run}
use Rattle.tap_model.specs.Given.{received_in, received_of, received_by, received_of_each, received_unless, received_at, received}
use Rattle.tap_laws.specs.LookingUp.{LooksUp, AllLookUp}
use Rattle.tap_laws.specs.Progress.{etcs_number_of_end, role_of_opened_end, IsKmacFound, GotNone, Stage, Begins, Speaks, Progresses, SidesProgress}
use Rattle.tap_laws.proofs.Stages.{level, stays, speaks_of, step_stage}
use Rattle.tap_laws.proofs.Growing.{lists, Grows, comes_grow, starts_grow, uses_grow, leaves_grow, ticks_grow, breaks_grow, sent_grows, sent_safe}

-- ---- sends

connected_level : (p : Phase) → is_connected p ≡ true → level p ≡ 2
connected_level (Ready peer kmac rb) e = absurd cc
connected_level (WaitAu1 ra) e = absurd cc
connected_level (WaitAu2 peer kmac rb) e = absurd cc
connected_level (WaitAu3 connection) e = absurd cc
connected_level (WaitAr connection) e = absurd cc
connected_level (Connected peer session) e = refl
connected_level (Released release session) e = absurd cc

-- where it is connected any number of messages may have been sent
more_sent : (finds : Finds) (o : Opening) (p : Phase) (g a t u : List (List ℕ)) → is_connected p ≡ true → Stage finds o p g a t → Stage finds o p g a u
more_sent finds o p g a t u c stage = let s = speaks_of finds o p g a t (connected_level p c) stage in Speaks s.0 s.1 s.2

abbrev side_in : Safety × SafetyOutcome → Safety
side_in r = r.0

first_same : (b : Bool) (s : Safety) (m n : SafetyOutcome) → side_in (if b then (s, m) else (s, n)) ≡ s
first_same true s m n = refl
first_same false s m n = refl

send_stays : (s : Safety) (p : Phase) (user : List ℕ) → is_connected p ≡ true → (sends s p user).0 ≡ s
send_stays s (Ready peer kmac rb) user e = refl
send_stays s (WaitAu1 ra) user e = refl
send_stays s (WaitAu2 peer kmac rb) user e = refl
send_stays s (WaitAu3 connection) user e = refl
send_stays s (WaitAr connection) user e = refl
send_stays s (Connected peer session) user e = first_same (not (is_message user)) s _ (sends_dt s peer session user).1
send_stays s (Released release session) user e = refl

may_send : (r : Option Release) (c : Bool) (user : List ℕ) (waiting : ℕ) → refusal_at r c user waiting ≡ None → c ≡ true
may_send (Some why) c user waiting e = absurd cc
may_send None true user waiting e = refl
may_send None false user waiting e = absurd cc

no_key : (finds : Finds) (engine rbc : ℕ) (kmac : TripleKey) → no_keys engine rbc ≡ Some kmac → IsKmacFound finds engine rbc kmac
no_key finds engine rbc kmac e = absurd cc

module _ (steps : StepsOnly) (itself : StaysItself) (once : EventsSpeakOnce) (finds : Finds) (o : Opening) where
  -- ---- one step of the safety side at most

  module _ (key_of : ℕ → ℕ → Option TripleKey) (keyed : (engine rbc : ℕ) (kmac : TripleKey) → key_of engine rbc ≡ Some kmac → IsKmacFound finds engine rbc kmac)
      (given : List (List ℕ)) (x y : Core) (p : Progresses finds o given x) where
    abbrev s : Safety
    s = x.safe.safety

    -- the own number and role stay, and it is this far
    abbrev Then : List (List ℕ) → List (List ℕ) → Type 0
    Then more accepted =
        (y.safe.safety.me ≡ etcs_number_of_end o) × (y.safe.safety.role ≡ role_of_opened_end o) × Stage finds o y.safe.safety.phase (given ++ more) accepted x.upper.sent

    by_spoke : (spoke : Option Spoken) → ShowsSafetyStep key_of s spoke y → Then (received_of spoke) (x.upper.accepted ++ option_to_list y.upper.news)
    by_spoke None h =
        let e : y.safe.safety ≡ s = ap (λ (k : KeptSafe). k.safety) h.0 in (
          ap (λ (z : Safety). z.me) e ∙ p.me,
          ap (λ (z : Safety). z.role) e ∙ p.role,
          subst (λ (n : Option (List ℕ)). Stage finds o y.safe.safety.phase (given ++ []) (x.upper.accepted ++ option_to_list n) x.upper.sent) (sym h.2)
              (stays finds o given x.upper.accepted x.upper.sent s.phase y.safe.safety.phase (ap (λ (z : Safety). z.phase) e) p.stage),
        )
    by_spoke (Some t) h =
        let e : safety.step key_of s t.event ≡ (y.safe.safety, t.outcome) = h.0 in
        let row : rules.IsStep key_of s t.event y.safe.safety t.outcome =
        subst (λ (r : Safety × SafetyOutcome). rules.IsStep key_of s t.event r.0 r.1) e (steps key_of s t.event) in
        let same = itself key_of s t.event in (
          sym (ap (λ (r : Safety × SafetyOutcome). r.0.me) e) ∙ same.0 ∙ p.me,
          sym (ap (λ (r : Safety × SafetyOutcome). r.0.role) e) ∙ same.1 ∙ p.role,
          subst (λ (n : Option (List ℕ)). Stage finds o y.safe.safety.phase (given ++ received_in t.event) (x.upper.accepted ++ option_to_list n) x.upper.sent) (sym h.4)
              (step_stage key_of finds keyed o s p.me p.role t.event y.safe.safety given x.upper.accepted x.upper.sent t.outcome row p.stage),
        )

    -- with what was sent
    follows : (on_send : List (List ℕ)) → SpeaksOnce key_of x y → Grows x.upper.accepted on_send (lists y)
        → (Stage finds o y.safe.safety.phase (given ++ received_by y) (x.upper.accepted ++ option_to_list y.upper.news) x.upper.sent
        → Stage finds o y.safe.safety.phase (given ++ received_by y) (x.upper.accepted ++ option_to_list y.upper.news) on_send)
        → Progresses finds o (given ++ received_by y) y
    follows on_send speaks grows more =
        let h = by_spoke y.upper.spoke speaks.step in
        record {
          me = h.0;
          role = h.1;
          stage =
              subst (λ (a : List (List ℕ)). Stage finds o y.safe.safety.phase (given ++ received_by y) a y.upper.sent) (sym grows.accepted_is)
              (subst (λ (t : List (List ℕ)). Stage finds o y.safe.safety.phase (given ++ received_by y) (x.upper.accepted ++ option_to_list y.upper.news) t) (sym grows.sent_is) (more h.2));
        }

    follows_so : SpeaksOnce key_of x y → Grows x.upper.accepted x.upper.sent (lists y) → Progresses finds o (given ++ received_by y) y
    follows_so speaks grows = follows x.upper.sent speaks grows (λ stage. stage)

  -- ---- the events

  -- it is this far, and sane
  abbrev Stands : List (List ℕ) → Core → Type 0
  Stands given x = Progresses finds o given x × IsSane x

  nothing_given : (given : List (List ℕ)) (x : Core) → Stands given x → Stands (given ++ []) x
  nothing_given given x p = subst (λ (g : List (List ℕ)). Stands g x) (sym (append-nil given)) p

  frame_stands : (now : ℕ) (v : Verdict) (given : List (List ℕ)) (x : Core) → Stands given x
      → Stands (given ++ received_by (step_frame model finds now v x)) (step_frame model finds now v x)
  frame_stands now v given x p =
      let y : Core = step_frame model finds now v x in
      let speaks = once.comes finds now v x p.1 in
      (follows_so (finds (max x.moment now)) (λ engine rbc kmac e. (max x.moment now, e)) given x y p.0 speaks (comes_grow now x finds v), speaks.sane)

  each_stands : (now : ℕ) (vs : List Verdict) (given : List (List ℕ)) (x : Core) → Stands given x
      → Stands (given ++ received_of_each finds now vs x) (hears_each finds now vs x)
  each_stands now [] given x p = nothing_given given x p
  each_stands now (v ∷ vs) given x p =
      let y : Core = step_frame model finds now v x in
      subst (λ (g : List (List ℕ)). Stands g (hears_each finds now vs y)) (append_assoc given (received_by y) (received_of_each finds now vs y))
      (each_stands now vs (given ++ received_by y) y (frame_stands now v given x p))

  send_stands : (now : ℕ) (user : List ℕ) (given : List (List ℕ)) (x : Core) (r : Option SendRefusal) → refusal_of model user x ≡ r → Stands given x
      → Stands (given ++ received_unless r (step_send_unless model r now user x)) (step_send_unless model r now user x)
  send_stands now user given x (Some refusal) e p = nothing_given given x p
  send_stands now user given x None e p =
      let y : Core = on_send model user (new_event_at model now x) in
      let speaks = once.sends now user x p.1 in
      let c : is_connected x.safe.safety.phase ≡ true = may_send x.released (is_connected x.safe.safety.phase) user (model.waiting x.upper) e in
      let kept : y.safe.safety ≡ x.safe.safety = sent_safe now x user ∙ send_stays x.safe.safety x.safe.safety.phase user c in (
        follows no_keys (no_key finds) given x y p.0 (x.upper.sent ++ user ∷ []) speaks (sent_grows now x user)
            (λ stage. more_sent finds o y.safe.safety.phase _ _ x.upper.sent (x.upper.sent ++ user ∷ []) (ap (λ (s : Safety). is_connected s.phase) kept ∙ c) stage),
        speaks.sane,
      )

  plain_stands : (given : List (List ℕ)) (x y : Core) → Stands given x → SpeaksOnce no_keys x y → Grows x.upper.accepted x.upper.sent (lists y) → Stands (given ++ received_by y) y
  plain_stands given x y p speaks grows = (follows_so no_keys (no_key finds) given x y p.0 speaks grows, speaks.sane)

  event_stands : (now : ℕ) (event : Event) (m : End) (given : List (List ℕ)) → LooksUp finds event → Stands given m.core
      → Stands (given ++ received_at now event m) (step_event now event m).0.core
  event_stands now Start m given looks p = plain_stands given m.core (step_start model now m.core) p (once.starts now m.core p.1) (starts_grow now m.core)
  event_stands now (Come own octets) m given looks p =
      subst (λ (f : Finds). Stands (given ++ received_at now (Come f octets) m) (step_event now (Come f octets) m).0.core) (sym looks)
      (each_stands now (news m.stream octets) given (new_event_at model now m.core) (record { me = p.0.me; role = p.0.role; stage = p.0.stage }, p.1))
  event_stands now (Send user) m given looks p = send_stands now user given m.core (refusal_of model user m.core) refl p
  event_stands now Take m given looks p = plain_stands given m.core (step_take model now m.core) p (once.uses now m.core p.1) (uses_grow now m.core)
  event_stands now (Leave sub) m given looks p = plain_stands given m.core (step_release model now sub m.core) p (once.leaves now sub m.core p.1) (leaves_grow now m.core sub)
  event_stands now Tick m given looks p = plain_stands given m.core (step_tick model now m.core) p (once.ticks now m.core p.1) (ticks_grow now m.core)
  event_stands now Ended m given looks p = plain_stands given m.core (step_break model LineEnded m.core) p (once.breaks LineEnded m.core p.1) (breaks_grow now m.core LineEnded)
  event_stands now Fault m given looks p = plain_stands given m.core (step_break model LineFailed m.core) p (once.breaks LineFailed m.core p.1) (breaks_grow now m.core LineFailed)
  event_stands now Stalled m given looks p = plain_stands given m.core (step_break model LineStalled m.core) p (once.breaks LineStalled m.core p.1) (breaks_grow now m.core LineStalled)

  run_stands : (events : List Moment) (m : End) (given : List (List ℕ)) → AllLookUp finds events → Stands given m.core → Stands (given ++ received events m) (end_run events m).core
  run_stands [] m given looks p = nothing_given given m.core p
  run_stands (e ∷ events) m given looks p =
      let n : End = (step_event e.now e.event m).0 in
      subst (λ (g : List (List ℕ)). Stands g (end_run events n).core) (append_assoc given (received_at e.now e.event m) (received events n))
      (run_stands events n (given ++ received_at e.now e.event m) looks.1 (event_stands e.now e.event m given looks.0 p))

none_got : GotNone [] [] []
none_got = record { given_is = refl; accepted_is = refl; sent_is = refl }

made_progress : (finds : Finds) (o : Opening) → Progresses finds o [] (opened o).core
made_progress finds (Call settings me peer kmac rb now) = record { me = refl; role = refl; stage = Begins (inl refl) none_got }
made_progress finds (Answer settings me ra now) = record { me = refl; role = refl; stage = Begins refl none_got }

pub sides_progress : StepsOnly → StaysItself → EventsSpeakOnce → SidesProgress
sides_progress steps itself once o finds events looks =
    (run_stands steps itself once finds o events (opened o) [] looks (made_progress finds o, once.made o)).0
