-- What the user of an end took is a prefix of what the end accepted, and each take gives the oldest that is left.
use Rattle.std.proofs.Common.{◌≡◌, inl, inr, ℕ, zero, suc, ◌+◌, ◌-◌, ◌≤◌, ◌<◌, ◌==◌, nat_lt, not, max, if◌then◌else◌, true, false, Bool, List, [], ◌∷◌, ◌++◌, length, map, take, drop, get_or, slice_get, refl, sym, ap, ap₂, subst, ◌∙◌, append-nil, append_assoc, arith}
use Rattle.std.specs.Prelude.{Option, Some, None}
use Rattle.std.specs.List.{flat_map}
use Rattle.std.proofs.lemmas.Bool.{cases_lt, eq-eqb, ne_eqb}
use Rattle.std.proofs.lemmas.List.{take-append-le, take_more, length-take-le, length-append}
use Rattle.std.proofs.lemmas.List.Concat.{flat_map-append}
use Rattle.std.proofs.lemmas.Option.{slice_get-get_or, slice_get_past}
use Rattle.er_base.specs.declared.release.Release.{Release}
use Rattle.er_base.specs.declared.side.Side.{Side}
use Rattle.er_base.specs.declared.side.Side.TheVariants.{E, R}
use Rattle.er_base.specs.Sides.{other}
use Rattle.er_settings.specs.Values.{Settings}
use Rattle.er_scenario.specs.declared.step.Step.{Step}
use Rattle.des_block.specs.declared.triple_key.TripleKey.{TripleKey}
use Rattle.hdlc_frames.specs.Framing.{Verdict}
use Rattle.safety_automaton.specs.Rules.{StepsOnly}
use Rattle.safety_automaton.specs.Safety.{Safety, SafetyEvent, SafetyOutcome, SentAu1, SentAu2, SentAu3, SentAr, ReceivedAr, AcceptedDt, SentDt, Refused, ReleasedLocally, ReleasedByPeer, NothingDone}
use Rattle.safety_automaton.specs.Safety as safety
use Rattle.safety_pair_laws.specs.Facts.{Fact, is_side, heard_in, facts_of}
use Rattle.safety_pair_laws.specs.Openings.{OfFixed, OfKeys}
use Rattle.hdlc_station_model.specs.Stations.{Station, made, settled, is_down}
use Rattle.hdlc_station_model.specs.Sending.{is_due}
use Rattle.hdlc_station_model.specs.Selective.{receives_as}
use Rattle.hdlc_station_model.specs.Calls.{finishes, starts as station_starts, hands as station_hands, ticks as station_ticks}
use Rattle.hdlc_station_model.specs.Events.{news, said_octets, news as station_news, quits}
use Rattle.hdlc_station_model.specs.Lines.{IsPrefix, altered}
use Rattle.er_end_model.specs.Outcomes.{SendRefusal}
use Rattle.er_end_model.specs.Layers.{Spoken, Core, model}
use Rattle.er_end_model.specs.Steps.{Finds, new_event_at, step_start, step_frame, refusal_of, step_send_unless, step_take, step_release, step_tick}
use Rattle.er_end_model.specs.Ends.{End as Stack, Event, Start, Come, Send as SendEvent, Take as TakeEvent, Leave, Tick as TickEvent, hears_each, step_event, finds_expired}
use Rattle.er_end_model.specs.Ends as stacks
use Rattle.drill_model.specs.Outcomes.{DrillOutcome, OfSafety, Arrived, Frame, UserReleased, Passed, NothingWaits, IsShort, Altered, Occurrence, at_end}
use Rattle.drill_model.specs.StationEnds.{if_up, if_arrived, if_released, if_expired, outcomes_told_by_station, station_and_told, frames_heard, handed_unless}
use Rattle.drill_model.specs.StationEnds as station
use Rattle.drill_model.specs.StackEnds.{facts_told, outcomes_told_by_stack, stack_told, told_unless, told_of_take}
use Rattle.drill_model.specs.StackReports.{OpensOrderly, CallsReport, IsOrderly}
use Rattle.drill_model.specs.Ends.{EndAtLevel, OfSafe, OfStation, OfStack, EndEvent, outcomes_by, end_step}
use Rattle.drill_model.specs.Ends as event
use Rattle.drill_model.specs.Waiting.{LineChange, Lose, Repeat, Alter, Put, change_first}
use Rattle.drill_model.specs.Links.{Link, LinkOpening, OfPair, OfStations, OfStacks, end_of, waiting_of, with_waiting, key_on, give, link_of, joined_pair, opened_link, LinkStep, Send, Pass, Change, Take, Release as ReleaseStep, Tick, pass, link_step}
use Rattle.drill_model.specs.Worlds.{DrillPlan, World, link_at, history_on, at_link, world_run}
use Rattle.drill_model.specs.Kinds.{accepted_in, accepted_by, took_in, taken_by}
use Rattle.drill_model.specs.Claims.{told_of_left, TakeTells, IsToldOfTake, TakesInOrder, IsEmpty}
use Rattle.drill_model.specs.Growth.{FactsGrow, HistoryGrows, HistoryOfOwn, HistoryOfOther}
use Rattle.drill_laws.proofs.StackKeeping.{starts_keep, comes_keep, leaves_keep, ticks_keep, uses_none, uses_one, sends_keep}
use Rattle.drill_laws.proofs.StackGoing.{StackDoes, stack_does}
use Rattle.drill_laws.proofs.Worlds.{AtPlace, Keeps as KeepsWorld, world_lives}
use Rattle.drill_laws.proofs.Wiring.{flat_mapped, accepted_grows, accepted_e_e, accepted_e_r, accepted_r_r, accepted_r_e}
use Rattle.drill_laws.specs.LawsOfEnds.{StationLaws}
use Rattle.drill_laws.proofs.Emptied.{HasUsedAll, IsUsedUp}
use Rattle.drill_laws.proofs.OneLink.{here}
use Rattle.drill_laws.proofs.Stationed.{Either}
use Rattle.drill_laws.proofs.Talking.{Speaks, any_steps, world_stands}

-- the messages that outcomes say were taken
abbrev told_taken : List DrillOutcome → List (List ℕ)
told_taken os = flat_map took_in os

abbrev told_accepted : List DrillOutcome → List (List ℕ)
told_accepted os = flat_map accepted_in os

taken_append : (xs ys : List DrillOutcome) → told_taken (xs ++ ys) ≡ told_taken xs ++ told_taken ys
taken_append xs ys = flat_map-append took_in xs ys

-- ---- outcomes that say of no message that it was taken

frames_take : (frames : List (List ℕ)) → told_taken (map Frame frames) ≡ []
frames_take [] = refl
frames_take (frame ∷ frames) = frames_take frames

release_takes : (released : Option Release) (frames : List (List ℕ)) → told_taken (if_released released ++ map Frame frames) ≡ []
release_takes None frames = frames_take frames
release_takes (Some release) frames = frames_take frames

run_takes : (more : List (List ℕ)) (released : Option Release) (frames : List (List ℕ))
    → told_taken ((map Arrived more ++ if_released released) ++ map Frame frames) ≡ []
run_takes [] released frames = release_takes released frames
run_takes (payload ∷ more) released frames = run_takes more released frames

parts_take : (up : Bool) (payload : Option (List ℕ)) (more : List (List ℕ)) (released : Option Release) (frames : List (List ℕ))
    → told_taken (((if_up up ++ (if_arrived payload ++ map Arrived more)) ++ if_released released) ++ map Frame frames) ≡ []
parts_take true (Some payload) more released frames = run_takes more released frames
parts_take true None more released frames = run_takes more released frames
parts_take false (Some payload) more released frames = run_takes more released frames
parts_take false None more released frames = run_takes more released frames

call_takes : (s : Station) → told_taken (outcomes_told_by_station s) ≡ []
call_takes s = parts_take s.deed.up s.deed.payload s.deed.more s.deed.released (said_octets s)

heard_take : (selective : Bool) (moment : ℕ) (vs : List Verdict) (s : Station) → told_taken (frames_heard selective moment vs s).1 ≡ []
heard_take selective moment [] s = refl
heard_take selective moment (v ∷ vs) s =
    let u : Station = finishes (receives_as selective moment v s) in
    taken_append (outcomes_told_by_station u) (frames_heard selective moment vs (settled u)).1
    ∙ ap₂ (λ (xs ys : List (List ℕ)). xs ++ ys) (call_takes u) (heard_take selective moment vs (settled u))

if_takes : (b : Bool) (x y : Station × List DrillOutcome) → told_taken x.1 ≡ [] → told_taken y.1 ≡ [] → told_taken (if b then x else y).1 ≡ []
if_takes true x y hx hy = hx
if_takes false x y hx hy = hy

handed_takes : (refusal : Option SendRefusal) (moment : ℕ) (payload : List ℕ) (s : Station) → told_taken (handed_unless refusal moment payload s).1 ≡ []
handed_takes (Some refusal) moment payload s = refl
handed_takes None moment payload s = call_takes (finishes (station_hands moment payload s))

expired_takes : (b : Bool) (os : List DrillOutcome) → told_taken (if_expired b ++ os) ≡ told_taken os
expired_takes true os = refl
expired_takes false os = refl

outcome_takes : (heard : List ℕ) (o : SafetyOutcome) → told_taken (outcomes_by heard o) ≡ []
outcome_takes heard (SentAu1 octets) = refl
outcome_takes heard (SentAu2 session sealed octets) = refl
outcome_takes heard (SentAu3 session verified sealed octets) = refl
outcome_takes heard (SentAr connection verified sealed octets) = refl
outcome_takes heard (ReceivedAr connection verified) = refl
outcome_takes heard (AcceptedDt session user verified) = refl
outcome_takes heard (SentDt session user sealed octets) = refl
outcome_takes heard (Refused refusal) = refl
outcome_takes heard (ReleasedLocally release octets) = refl
outcome_takes heard (ReleasedByPeer release) = refl
outcome_takes heard NothingDone = refl

facts_take : (fs : List Fact) → told_taken (map OfSafety fs) ≡ []
facts_take [] = refl
facts_take (fact ∷ fs) = facts_take fs

spoke_takes : (spoke : Option Spoken) → told_taken (facts_told spoke) ≡ []
spoke_takes None = refl
spoke_takes (Some s) = facts_take (facts_of s.event s.outcome)

core_takes : (x : Core) → told_taken (outcomes_told_by_stack x) ≡ []
core_takes x =
    taken_append (facts_told x.upper.spoke) (if_released x.leaves ++ map Frame (said_octets x.line))
    ∙ ap₂ (λ (xs ys : List (List ℕ)). xs ++ ys) (spoke_takes x.upper.spoke) (release_takes x.leaves (said_octets x.line))

stack_heard_takes : (look : Finds) (moment : ℕ) (vs : List Verdict) (x : Core) → told_taken (stack_told look moment vs x) ≡ []
stack_heard_takes look moment [] x = refl
stack_heard_takes look moment (v ∷ vs) x =
    let y : Core = step_frame model look moment v x in
    taken_append (outcomes_told_by_stack y) (stack_told look moment vs y)
    ∙ ap₂ (λ (xs ys : List (List ℕ)). xs ++ ys) (core_takes y) (stack_heard_takes look moment vs y)

unless_takes : (refusal : Option SendRefusal) (x : Core) → told_taken (told_unless refusal x) ≡ []
unless_takes (Some refusal) x = refl
unless_takes None x = core_takes x

-- ---- an end

-- a stack whose user took so many of the messages that it accepted
record StackTakes (m : Stack) (taken accepted : List (List ℕ)) : Type 0 where
  pub orderly : IsOrderly m.core
  pub accepted_is : m.core.upper.accepted ≡ accepted
  pub taken_is : taken ≡ take m.core.upper.used m.core.upper.accepted
  pub within : m.core.upper.used ≤ length m.core.upper.accepted

-- what is taken at levels safe, link and link-sr counts as taken at once, and is not told
abbrev TakesAt : EndAtLevel → (taken accepted : List (List ℕ)) → Type 0
TakesAt (OfSafe s) taken accepted = taken ≡ []
TakesAt (OfStation selective s stream) taken accepted = taken ≡ []
TakesAt (OfStack m) taken accepted = StackTakes m taken accepted

none_more : (taken more : List (List ℕ)) → taken ≡ [] → more ≡ [] → taken ++ more ≡ []
none_more taken more t m = ap₂ (λ (xs ys : List (List ℕ)). xs ++ ys) t m

-- none was taken in an event
kept_takes : (m n : Stack) (taken accepted more_taken more : List (List ℕ)) → StackTakes m taken accepted → n.core.upper.used ≡ m.core.upper.used
    → n.core.upper.accepted ≡ m.core.upper.accepted ++ more → more_taken ≡ [] → IsOrderly n.core → StackTakes n (taken ++ more_taken) (accepted ++ more)
kept_takes m n taken accepted more_taken more h used grew none orderly =
    let u : ℕ = m.core.upper.used in
    let A : List (List ℕ) = m.core.upper.accepted in
    record {
      orderly = orderly;
      accepted_is = grew ∙ ap (λ (xs : List (List ℕ)). xs ++ more) h.accepted_is;
      taken_is = ap₂ (λ (xs ys : List (List ℕ)). xs ++ ys) h.taken_is none ∙ append-nil (take u A) ∙ sym (take-append-le u A more h.within)
          ∙ ap₂ (λ (i : ℕ) (xs : List (List ℕ)). take i xs) (sym used) (sym grew);
      within = subst (λ (xs : List (List ℕ)). n.core.upper.used ≤ length xs) (sym grew) (longer n.core.upper.used u A more used h.within);
    }
  where
    longer : (i u : ℕ) (xs ys : List (List ℕ)) → i ≡ u → u ≤ length xs → i ≤ length (xs ++ ys)
    longer i u xs ys is within = omega (arith, length-append xs ys)

-- one was taken, the oldest
one_takes : (m n : Stack) (taken accepted more : List (List ℕ)) (message : List ℕ) → StackTakes m taken accepted → m.core.upper.used < length m.core.upper.accepted
    → get_or m.core.upper.accepted m.core.upper.used [] ≡ message → n.core.upper.used ≡ m.core.upper.used + 1 → n.core.upper.accepted ≡ m.core.upper.accepted ++ more
    → IsOrderly n.core → StackTakes n (taken ++ message ∷ []) (accepted ++ more)
one_takes m n taken accepted more message h waits oldest used grew orderly =
    let u : ℕ = m.core.upper.used in
    let A : List (List ℕ) = m.core.upper.accepted in
    record {
      orderly = orderly;
      accepted_is = grew ∙ ap (λ (xs : List (List ℕ)). xs ++ more) h.accepted_is;
      taken_is = ap₂ (λ (xs : List (List ℕ)) (x : List ℕ). xs ++ x ∷ []) h.taken_is (sym oldest) ∙ sym (take_more A u [] waits)
          ∙ sym (take-append-le (u + 1) A more (omega arith)) ∙ ap₂ (λ (i : ℕ) (xs : List (List ℕ)). take i xs) (sym used) (sym grew);
      within = subst (λ (xs : List (List ℕ)). n.core.upper.used ≤ length xs) (sym grew) (longer n.core.upper.used u A more used waits);
    }
  where
    longer : (i u : ℕ) (xs ys : List (List ℕ)) → i ≡ u + 1 → u < length xs → i ≤ length (xs ++ ys)
    longer i u xs ys is within = omega (arith, length-append xs ys)

module _ (only : StepsOnly) (reports : CallsReport) where
  -- what is kept of an event in which none is taken
  stack_keeps : (key_of : ℕ → ℕ → Option TripleKey) (moment : ℕ) (m : Stack) (given : EndEvent) (event : Event) (os : List DrillOutcome) (late : Bool) (taken accepted : List (List ℕ))
      → StackTakes m taken accepted → StackDoes moment event m os late → (step_event moment event m).0.core.upper.used ≡ m.core.upper.used → told_taken os ≡ []
      → StackTakes (step_event moment event m).0 (taken ++ told_taken os) (accepted ++ told_accepted os)
  stack_keeps key_of moment m given event os late taken accepted h d used none =
      kept_takes m (step_event moment event m).0 taken accepted (told_taken os) (told_accepted os) h used d.says.accepted_is none d.orderly

  heard_used : (look : Finds) (moment : ℕ) (vs : List Verdict) (x : Core) → (hears_each look moment vs x).upper.used ≡ x.upper.used
  heard_used look moment [] x = refl
  heard_used look moment (v ∷ vs) x =
      heard_used look moment vs (step_frame model look moment v x) ∙ (comes_keep only look moment v x).0

  sent_used : (moment : ℕ) (user : List ℕ) (x : Core) (refusal : Option SendRefusal) → refusal_of model user x ≡ refusal
      → (step_send_unless model refusal moment user x).upper.used ≡ x.upper.used
  sent_used moment user x (Some refusal) is = refl
  sent_used moment user x None is = (sends_keep moment user x is).0

  -- the oldest one is taken, where one waits
  stack_uses : (moment : ℕ) (m : Stack) (taken accepted : List (List ℕ)) → StackTakes m taken accepted
      → let os = told_of_take (model.oldest m.core.upper) ++ outcomes_told_by_stack (step_take model moment m.core) in
      StackDoes moment TakeEvent m os false → StackTakes (step_event moment TakeEvent m).0 (taken ++ told_taken os) (accepted ++ told_accepted os)
  stack_uses moment m taken accepted h d =
      let u : ℕ = m.core.upper.used in
      let A : List (List ℕ) = m.core.upper.accepted in
      let x : Core = step_take model moment m.core in
      let n : Stack = (step_event moment TakeEvent m).0 in
      let os : List DrillOutcome = told_of_take (slice_get A u) ++ outcomes_told_by_stack x in
      elim (cases_lt u (length A)) [
        | inl waits ↦
            let message : List ℕ = get_or A u [] in
            let oldest : slice_get A u ≡ Some message = slice_get-get_or A u [] waits in
            let some : (length A - u == 0) ≡ false = ne_eqb (length A - u) 0 (λ e. some_left (length A) u waits e) in
            let tells : told_taken os ≡ message ∷ [] =
            ap (λ (o : Option (List ℕ)). told_taken (told_of_take o ++ outcomes_told_by_stack x)) oldest ∙ ap (λ (xs : List (List ℕ)). message ∷ xs) (core_takes x) in
            subst (λ (xs : List (List ℕ)). StackTakes n (taken ++ xs) (accepted ++ told_accepted os)) (sym tells)
            (one_takes m n taken accepted (told_accepted os) message h waits refl (uses_one moment m.core some).0 d.says.accepted_is d.orderly)
        | inr past ↦
            let oldest : slice_get A u ≡ None = slice_get_past A u past in
            let none : (length A - u == 0) ≡ true = eq-eqb (length A - u) 0 (omega arith) in
            let tells : told_taken os ≡ [] =
            ap (λ (o : Option (List ℕ)). told_taken (told_of_take o ++ outcomes_told_by_stack x)) oldest ∙ core_takes x in
            kept_takes m n taken accepted (told_taken os) (told_accepted os) h (uses_none moment m.core none).0 d.says.accepted_is tells d.orderly
      ]
    where
      some_left : (i j : ℕ) → j < i → i - j ≡ 0 → ⊥
      some_left i j below e = omega arith

  stack_takes : (key_of : ℕ → ℕ → Option TripleKey) (moment : ℕ) (m : Stack) (given : EndEvent) (taken accepted : List (List ℕ)) → StackTakes m taken accepted
      → let a = end_step key_of moment (OfStack m) given in TakesAt a.0 (taken ++ told_taken a.1) (accepted ++ told_accepted a.1)
  stack_takes key_of moment m event.Start taken accepted h =
      stack_keeps key_of moment m event.Start Start (outcomes_told_by_stack (step_start model moment m.core)) false taken accepted h
      (stack_does only reports key_of moment m event.Start h.orderly) (starts_keep only moment m.core).0 (core_takes (step_start model moment m.core))
  stack_takes key_of moment m (event.Receive octets) taken accepted h =
      let x : Core = new_event_at model moment m.core in
      let vs : List Verdict = news m.stream octets in
      stack_keeps key_of moment m (event.Receive octets) (Come (λ now. key_of) octets) (stack_told (λ now. key_of) moment vs x) false taken accepted h
      (stack_does only reports key_of moment m (event.Receive octets) h.orderly) (heard_used (λ now. key_of) moment vs x) (stack_heard_takes (λ now. key_of) moment vs x)
  stack_takes key_of moment m (event.Send user) taken accepted h =
      let o : Option SendRefusal = refusal_of model user m.core in
      stack_keeps key_of moment m (event.Send user) (SendEvent user) (told_unless o (step_send_unless model o moment user m.core)) false taken accepted h
      (stack_does only reports key_of moment m (event.Send user) h.orderly) (sent_used moment user m.core o refl) (unless_takes o (step_send_unless model o moment user m.core))
  stack_takes key_of moment m event.Take taken accepted h = stack_uses moment m taken accepted h (stack_does only reports key_of moment m event.Take h.orderly)
  stack_takes key_of moment m (event.Release sub) taken accepted h =
      stack_keeps key_of moment m (event.Release sub) (Leave sub) (outcomes_told_by_stack (step_release model moment sub m.core)) false taken accepted h
      (stack_does only reports key_of moment m (event.Release sub) h.orderly) (leaves_keep only moment sub m.core).0 (core_takes (step_release model moment sub m.core))
  stack_takes key_of moment m event.Tick taken accepted h =
      let late : Bool = finds_expired (new_event_at model moment m.core) in
      stack_keeps key_of moment m event.Tick TickEvent (if_expired late ++ outcomes_told_by_stack (step_tick model moment m.core)) late taken accepted h
      (stack_does only reports key_of moment m event.Tick h.orderly) (ticks_keep only moment m.core).0
      (expired_takes late (outcomes_told_by_stack (step_tick model moment m.core)) ∙ core_takes (step_tick model moment m.core))

  safe_takes : (key_of : ℕ → ℕ → Option TripleKey) (s : Safety) (given : SafetyEvent) → told_taken (outcomes_by (heard_in given) (safety.step key_of s given).1) ≡ []
  safe_takes key_of s given = outcome_takes (heard_in given) (safety.step key_of s given).1

  -- an event at an end
  end_takes : (key_of : ℕ → ℕ → Option TripleKey) (moment : ℕ) (end : EndAtLevel) (given : EndEvent) (taken accepted : List (List ℕ)) → TakesAt end taken accepted
      → let a = end_step key_of moment end given in TakesAt a.0 (taken ++ told_taken a.1) (accepted ++ told_accepted a.1)
  end_takes key_of moment (OfSafe s) event.Start taken accepted h = none_more taken _ h (safe_takes key_of s safety.ConnectRequest)
  end_takes key_of moment (OfSafe s) (event.Receive octets) taken accepted h = none_more taken _ h (safe_takes key_of s (safety.Received octets))
  end_takes key_of moment (OfSafe s) (event.Send octets) taken accepted h = none_more taken _ h (safe_takes key_of s (safety.DataRequest octets))
  end_takes key_of moment (OfSafe s) event.Take taken accepted h = none_more taken [] h refl
  end_takes key_of moment (OfSafe s) (event.Release sub) taken accepted h = none_more taken _ h (safe_takes key_of s (safety.DisconnectRequest sub))
  end_takes key_of moment (OfSafe s) event.Tick taken accepted h = none_more taken [] h refl
  end_takes key_of moment (OfStation selective s stream) event.Start taken accepted h = none_more taken _ h (call_takes (finishes (station_starts moment s)))
  end_takes key_of moment (OfStation selective s stream) (event.Receive octets) taken accepted h = none_more taken _ h (heard_take selective moment (station_news stream octets) s)
  end_takes key_of moment (OfStation selective s stream) (event.Send octets) taken accepted h =
      none_more taken _ h (handed_takes (station.payload_refusal_of_station s octets s.released) moment octets s)
  end_takes key_of moment (OfStation selective s stream) event.Take taken accepted h = none_more taken [] h refl
  end_takes key_of moment (OfStation selective s stream) (event.Release sub) taken accepted h =
      none_more taken _ h (if_takes (is_down s.phase) (s, []) (station_and_told (quits sub s)) refl (call_takes (quits sub s)))
  end_takes key_of moment (OfStation selective s stream) event.Tick taken accepted h =
      let u : Station = finishes (station_ticks moment s) in
      none_more taken _ h (expired_takes (is_due s.timer (max s.moment moment)) (outcomes_told_by_station u) ∙ call_takes u)
  end_takes key_of moment (OfStack m) given taken accepted h = stack_takes key_of moment m given taken accepted h

  -- ---- a link

  abbrev taken_of : Side → Occurrence → List (List ℕ)
  taken_of s o = if is_side s o.side then took_in o.outcome else []

  abbrev nowhere : DrillOutcome → List (List ℕ)
  nowhere o = []

  flat_nowhere : (os : List DrillOutcome) → flat_map nowhere os ≡ []
  flat_nowhere [] = refl
  flat_nowhere (o ∷ os) = flat_nowhere os

  taken_grows : (s : Side) (history more : List Occurrence) → taken_by s (history ++ more) ≡ taken_by s history ++ taken_by s more
  taken_grows s history more = flat_map-append (taken_of s) history more

  -- what a side took and accepted, by the link's ends
  abbrev TakesIn : Link → List Occurrence → Type 0
  TakesIn l history = TakesAt l.e (taken_by E history) (accepted_by E history) × TakesAt l.r (taken_by R history) (accepted_by R history)

  same_takes : (end : EndAtLevel) (taken there accepted here : List (List ℕ)) → taken ≡ there → accepted ≡ here → TakesAt end taken accepted → TakesAt end there here
  same_takes end taken there accepted here t a h =
      subst (λ (xs : List (List ℕ)). TakesAt end there xs) a (subst (λ (xs : List (List ℕ)). TakesAt end xs accepted) t h)

  -- outcomes of the side itself, and of the other
  own_side : (s : Side) (end : EndAtLevel) (history : List Occurrence) (os : List DrillOutcome) → TakesAt end (taken_by s history ++ told_taken os) (accepted_by s history ++ told_accepted os)
      → TakesAt end (taken_by s (history ++ map (at_end s) os)) (accepted_by s (history ++ map (at_end s) os))
  own_side E end history os h =
      same_takes end _ _ _ _
      (sym (taken_grows E history (map (at_end E) os) ∙ ap (λ (xs : List (List ℕ)). taken_by E history ++ xs) (flat_mapped (taken_of E) took_in E (λ o. refl) os)))
      (sym (accepted_grows E history (map (at_end E) os) ∙ ap (λ (xs : List (List ℕ)). accepted_by E history ++ xs) (accepted_e_e os))) h
  own_side R end history os h =
      same_takes end _ _ _ _
      (sym (taken_grows R history (map (at_end R) os) ∙ ap (λ (xs : List (List ℕ)). taken_by R history ++ xs) (flat_mapped (taken_of R) took_in R (λ o. refl) os)))
      (sym (accepted_grows R history (map (at_end R) os) ∙ ap (λ (xs : List (List ℕ)). accepted_by R history ++ xs) (accepted_r_r os))) h

  other_side : (s : Side) (end : EndAtLevel) (history : List Occurrence) (os : List DrillOutcome) → TakesAt end (taken_by (other s) history) (accepted_by (other s) history)
      → TakesAt end (taken_by (other s) (history ++ map (at_end s) os)) (accepted_by (other s) (history ++ map (at_end s) os))
  other_side E end history os h =
      same_takes end _ _ _ _
      (sym (taken_grows R history (map (at_end E) os)
      ∙ ap (λ (xs : List (List ℕ)). taken_by R history ++ xs) (flat_mapped (taken_of R) nowhere E (λ o. refl) os ∙ flat_nowhere os) ∙ append-nil (taken_by R history)))
      (sym (accepted_grows R history (map (at_end E) os) ∙ ap (λ (xs : List (List ℕ)). accepted_by R history ++ xs) (accepted_r_e os) ∙ append-nil (accepted_by R history))) h
  other_side R end history os h =
      same_takes end _ _ _ _
      (sym (taken_grows E history (map (at_end R) os)
      ∙ ap (λ (xs : List (List ℕ)). taken_by E history ++ xs) (flat_mapped (taken_of E) nowhere R (λ o. refl) os ∙ flat_nowhere os) ∙ append-nil (taken_by E history)))
      (sym (accepted_grows E history (map (at_end R) os) ∙ ap (λ (xs : List (List ℕ)). accepted_by E history ++ xs) (accepted_e_r os) ∙ append-nil (accepted_by E history))) h

  give_takes : (l : Link) (history : List Occurrence) (side : Side) (given : EndEvent) → TakesIn l history
      → TakesIn (give l side given).0 (history ++ (give l side given).1)
  give_takes l history E given h =
      let a : EndAtLevel × List DrillOutcome = end_step (key_on l.opening) l.moment l.e given in
      (own_side E a.0 history a.1 (end_takes (key_on l.opening) l.moment l.e given (taken_by E history) (accepted_by E history) h.0), other_side E l.r history a.1 h.1)
  give_takes l history R given h =
      let a : EndAtLevel × List DrillOutcome = end_step (key_on l.opening) l.moment l.r given in
      (other_side R l.e history a.1 h.0, own_side R a.0 history a.1 (end_takes (key_on l.opening) l.moment l.r given (taken_by R history) (accepted_by R history) h.1))

  -- outcomes that say of no message
  abbrev SaysNone : List DrillOutcome → Type 0
  SaysNone os = (told_taken os ≡ []) × (told_accepted os ≡ [])

  add_none : (end : EndAtLevel) (taken accepted : List (List ℕ)) (os : List DrillOutcome) → SaysNone os → TakesAt end taken accepted
      → TakesAt end (taken ++ told_taken os) (accepted ++ told_accepted os)
  add_none end taken accepted os none h =
      same_takes end taken _ accepted _ (sym (ap (λ (xs : List (List ℕ)). taken ++ xs) none.0 ∙ append-nil taken))
      (sym (ap (λ (xs : List (List ℕ)). accepted ++ xs) none.1 ∙ append-nil accepted)) h

  silent_takes : (l : Link) (history : List Occurrence) (side : Side) (os : List DrillOutcome) → SaysNone os → TakesIn l history → TakesIn l (history ++ map (at_end side) os)
  silent_takes l history E os none h =
      (own_side E l.e history os (add_none l.e (taken_by E history) (accepted_by E history) os none h.0), other_side E l.r history os h.1)
  silent_takes l history R os none h =
      (other_side R l.e history os h.0, own_side R l.r history os (add_none l.r (taken_by R history) (accepted_by R history) os none h.1))

  waiting_takes : (l : Link) (history : List Occurrence) (side : Side) (frames : List (List ℕ)) → TakesIn l history → TakesIn (with_waiting l side frames) history
  waiting_takes l history E frames h = h
  waiting_takes l history R frames h = h

  -- an outcome that says of no message, and then an event
  onto_takes : (l : Link) (history : List Occurrence) (first : Side) (os : List DrillOutcome) (side : Side) (given : EndEvent) → SaysNone os → TakesIn l history
      → TakesIn (give l side given).0 (history ++ (map (at_end first) os ++ (give l side given).1))
  onto_takes l history first os side given none h =
      let a : Link × List Occurrence = give l side given in
      subst (λ (xs : List Occurrence). TakesIn a.0 xs) (append_assoc history (map (at_end first) os) a.1)
      (give_takes l (history ++ map (at_end first) os) side given (silent_takes l history first os none h))

  pass_takes : (l : Link) (history : List Occurrence) (side : Side) (frames : List (List ℕ)) → TakesIn l history
      → TakesIn (pass l side frames).0 (history ++ (pass l side frames).1)
  pass_takes l history side [] h = silent_takes l history side (NothingWaits ∷ []) (refl, refl) h
  pass_takes l history side (frame ∷ frames) h =
      onto_takes (with_waiting l side frames) history side (Passed frame ∷ []) (other side) (event.Receive frame) (refl, refl) (waiting_takes l history side frames h)

  none_if : (b : Bool) (x y : List (List ℕ) × List DrillOutcome) → SaysNone x.1 → SaysNone y.1 → SaysNone (if b then x else y).1
  none_if true x y hx hy = hx
  none_if false x y hx hy = hy

  changes_say : (change : LineChange) (frames : List (List ℕ)) → SaysNone (change_first change frames).1
  changes_say Lose [] = (refl, refl)
  changes_say Lose (frame ∷ frames) = (refl, refl)
  changes_say Repeat [] = (refl, refl)
  changes_say Repeat (frame ∷ frames) = (refl, refl)
  changes_say (Alter place mask) [] = (refl, refl)
  changes_say (Alter place mask) (frame ∷ frames) =
      none_if (not (nat_lt place (length frame))) (frame ∷ frames, IsShort (length frame) ∷ [])
      (if mask == 0 then (frame ∷ frames, []) else (altered frame place mask ∷ frames, Altered ∷ [])) (refl, refl)
      (none_if (mask == 0) (frame ∷ frames, []) (altered frame place mask ∷ frames, Altered ∷ []) (refl, refl) (refl, refl))
  changes_say (Put octets) frames = (refl, refl)

  step_takes : (l : Link) (history : List Occurrence) (s : LinkStep) → TakesIn l history → TakesIn (link_step l s).0 (history ++ (link_step l s).1)
  step_takes l history (Send side octets) h = give_takes l history side (event.Send octets) h
  step_takes l history (Pass side) h = pass_takes l history side (waiting_of l side) h
  step_takes l history (Change side change) h =
      let a : List (List ℕ) × List DrillOutcome = change_first change (waiting_of l side) in
      silent_takes (with_waiting l side a.0) history side a.1 (changes_say change (waiting_of l side)) (waiting_takes l history side a.0 h)
  step_takes l history (Take side) h = give_takes l history side event.Take h
  step_takes l history (ReleaseStep side sub) h = onto_takes l history side (UserReleased sub ∷ []) side (event.Release sub) (refl, refl) h
  step_takes l history (Tick moment) h =
      let m : Link = record l { moment = max l.moment moment } in
      let a : Link × List Occurrence = give m E event.Tick in
      let b : Link × List Occurrence = give a.0 R event.Tick in
      subst (λ (xs : List Occurrence). TakesIn b.0 xs) (append_assoc history a.1 b.1)
      (give_takes a.0 (history ++ a.1) R event.Tick (give_takes m history E event.Tick h))

  module _ (opens : OpensOrderly) where
    stack_made : (opening : stacks.Opening) → StackTakes (stacks.opened opening) [] []
    stack_made (stacks.Call settings me peer kmac rb now) =
        record { orderly = opens (stacks.Call settings me peer kmac rb now); accepted_is = refl; taken_is = refl; within = omega arith }
    stack_made (stacks.Answer settings me ra now) =
        record { orderly = opens (stacks.Answer settings me ra now); accepted_is = refl; taken_is = refl; within = omega arith }

    opened_takes : (settings : Settings) (moment : ℕ) (opening : LinkOpening) → TakesIn (opened_link settings moment opening).0 (opened_link settings moment opening).1
    opened_takes settings moment (OfPair (OfFixed engine rbc ke kr)) = (refl, refl)
    opened_takes settings moment (OfPair (OfKeys engine rbc ke kr ra rb)) =
        give_takes (joined_pair (OfKeys engine rbc ke kr ra rb) moment) [] E event.Start (refl, refl)
    opened_takes settings moment (OfStations selective) =
        give_takes
        (link_of (OfStations selective) moment (OfStation selective (made true (settings.modulo == 128) settings.window settings.n2 settings.t1) [])
        (OfStation selective (made false (settings.modulo == 128) settings.window settings.n2 settings.t1) []))
        [] E event.Start (refl, refl)
    opened_takes settings moment (OfStacks engine rbc ke kr ra rb) =
        give_takes
        (link_of (OfStacks engine rbc ke kr ra rb) moment (OfStack (stacks.opened (stacks.Call settings engine rbc ke rb moment)))
        (OfStack (stacks.opened (stacks.Answer settings rbc ra moment))))
        [] E event.Start (stack_made (stacks.Call settings engine rbc ke rb moment), stack_made (stacks.Answer settings rbc ra moment))

    taking : (settings : Settings) → KeepsWorld settings (λ o. Unit {0}) (λ s. Unit {0}) TakesIn
    taking settings = record {
      opens = λ moment opening fit. opened_takes settings moment opening;
      steps = λ l history s fit h. step_takes l history s h;
      others = λ s none. tt;
    }

    -- what an end took is a beginning of what it accepted
    end_prefix : (end : EndAtLevel) (taken accepted : List (List ℕ)) → TakesAt end taken accepted → IsPrefix taken accepted
    end_prefix (OfSafe s) taken accepted h = rw h refl
    end_prefix (OfStation selective s stream) taken accepted h = rw h refl
    end_prefix (OfStack m) taken accepted h =
        let whole : taken ≡ take m.core.upper.used accepted =
        h.taken_is ∙ ap (λ (xs : List (List ℕ)). take m.core.upper.used xs) h.accepted_is in
        let many : length taken ≡ m.core.upper.used = ap length h.taken_is ∙ length-take-le m.core.upper.used m.core.upper.accepted h.within in
        whole ∙ ap (λ (i : ℕ). take i accepted) (sym many)

    place_prefix : (place : Option Link) (history : List Occurrence) (side : Side) → AtPlace TakesIn place history
        → IsPrefix (taken_by side history) (accepted_by side history)
    place_prefix None history side h = rw h refl
    place_prefix (Some l) history E h = end_prefix l.e (taken_by E history) (accepted_by E history) h.0
    place_prefix (Some l) history R h = end_prefix l.r (taken_by R history) (accepted_by R history) h.1

    -- ---- what is left to take

    used_all : (end : EndAtLevel) (taken accepted : List (List ℕ)) → TakesAt end taken accepted → taken ≡ accepted → HasUsedAll end
    used_all (OfSafe s) taken accepted h all = tt
    used_all (OfStation selective s stream) taken accepted h all = tt
    used_all (OfStack m) taken accepted h all =
        sym (length-take-le m.core.upper.used m.core.upper.accepted h.within) ∙ ap length (sym h.taken_is ∙ all ∙ sym h.accepted_is)

    used_up : (o : LinkOpening) (l : Link) (history : List Occurrence) → TakesIn l history → IsEmpty o history l → IsUsedUp o l
    used_up (OfPair opening) l history h empty = empty
    used_up (OfStations selective) l history h empty = empty
    used_up (OfStacks engine rbc ke kr ra rb) l history h empty = (
      empty.0,
      empty.1,
      used_all l.e (taken_by E history) (accepted_by E history) h.0 empty.2,
      used_all l.r (taken_by R history) (accepted_by R history) h.1 empty.3,
    )

    module _ (grow : HistoryGrows) (own : HistoryOfOwn) (other : HistoryOfOther) where
      takes_at : (plan : DrillPlan) (steps : List Step) (n : ℕ) → AtPlace TakesIn (link_at (world_run plan steps).0 n) (history_on n (world_run plan steps).1)
      takes_at plan steps n = world_lives grow own other plan (λ o. Unit {0}) (λ s. Unit {0}) TakesIn (taking plan.settings) steps (any_steps plan steps) n

      -- an empty link is one from which its stacks count every message as taken
      pub empty_is_used_up : (plan : DrillPlan) (steps : List Step) (n : ℕ) (l : Link) → link_at (world_run plan steps).0 n ≡ Some l
          → IsEmpty l.opening (history_on n (world_run plan steps).1) l → IsUsedUp l.opening l
      empty_is_used_up plan steps n l is empty =
          let history : List Occurrence = history_on n (world_run plan steps).1 in
          used_up l.opening l history (subst (λ (place : Option Link). AtPlace TakesIn place history) is (takes_at plan steps n)) empty

      -- ---- the oldest that is left

      parts_of : (u : ℕ) (xs : List (List ℕ)) → xs ≡ take u xs ++ drop u xs
      parts_of zero xs = refl
      parts_of (suc u) [] = refl
      parts_of (suc u) (x ∷ xs) = ap (λ (ys : List (List ℕ)). x ∷ ys) (parts_of u xs)

      oldest_left : (xs : List (List ℕ)) (u : ℕ) → told_of_take (slice_get xs u) ≡ told_of_left (drop u xs) ∷ []
      oldest_left [] zero = refl
      oldest_left [] (suc u) = refl
      oldest_left (x ∷ xs) zero = refl
      oldest_left (x ∷ xs) (suc u) = oldest_left xs u

      -- outcomes that say of no message that it was taken
      none_taken : (s side : Side) (os : List DrillOutcome) → told_taken os ≡ [] → taken_by s (map (at_end side) os) ≡ []
      none_taken E E os none = flat_mapped (taken_of E) took_in E (λ o. refl) os ∙ none
      none_taken E R os none = flat_mapped (taken_of E) nowhere R (λ o. refl) os ∙ flat_nowhere os
      none_taken R E os none = flat_mapped (taken_of R) nowhere E (λ o. refl) os ∙ flat_nowhere os
      none_taken R R os none = flat_mapped (taken_of R) took_in R (λ o. refl) os ∙ none

      stack_tells : (m : Stack) (moment : ℕ) (side : Side) (history came : List Occurrence) → StackTakes m (taken_by side history) (accepted_by side history)
          → came ≡ map (at_end side) (told_of_take (model.oldest m.core.upper) ++ outcomes_told_by_stack (step_take model moment m.core)) → TakeTells side history came
      stack_tells m moment side history came h is =
          let u : ℕ = m.core.upper.used in
          let A : List (List ℕ) = m.core.upper.accepted in
          let os : List DrillOutcome = outcomes_told_by_stack (step_take model moment m.core) in
          record {
            left = drop u A;
            accepted = sym h.accepted_is ∙ parts_of u A ∙ ap (λ (xs : List (List ℕ)). xs ++ drop u A) (sym h.taken_is);
            later = map (at_end side) os;
            is = is ∙ ap (λ (xs : List DrillOutcome). map (at_end side) (xs ++ os)) (oldest_left A u);
            once = λ s. none_taken s side os (core_takes (step_take model moment m.core));
          }

      at_side : (l : Link) (history : List Occurrence) (side : Side) → TakesIn l history → TakesAt (end_of l side) (taken_by side history) (accepted_by side history)
      at_side l history E h = h.0
      at_side l history R h = h.1

      -- what comes of a take at each kind of end
      safe_take : (l : Link) (side : Side) (s : Safety) → end_of l side ≡ OfSafe s → (link_step l (Take side)).1 ≡ []
      safe_take l side s is = ap (λ (end : EndAtLevel). map (at_end side) (end_step (key_on l.opening) l.moment end event.Take).1) is

      station_take : (l : Link) (side : Side) (selective : Bool) (s : Station) (stream : List ℕ) → end_of l side ≡ OfStation selective s stream
          → (link_step l (Take side)).1 ≡ []
      station_take l side selective s stream is = ap (λ (end : EndAtLevel). map (at_end side) (end_step (key_on l.opening) l.moment end event.Take).1) is

      stack_take : (l : Link) (history : List Occurrence) (side : Side) (m : Stack) → end_of l side ≡ OfStack m → TakesIn l history
          → TakeTells side history (link_step l (Take side)).1
      stack_take l history side m is h =
          stack_tells m l.moment side history (link_step l (Take side)).1
          (subst (λ (end : EndAtLevel). TakesAt end (taken_by side history) (accepted_by side history)) is (at_side l history side h))
          (ap (λ (end : EndAtLevel). map (at_end side) (end_step (key_on l.opening) l.moment end event.Take).1) is)

      module _ (facts : FactsGrow) where
        take_tells : (settings : Settings) (l : Link) (history : List Occurrence) (side : Side) → TakesIn l history → Either settings (Speaks facts) l history
            → IsToldOfTake l.opening side history (link_step l (Take side)).1
        take_tells settings l history side h (inl (inl t)) =
            subst (λ (o : LinkOpening). IsToldOfTake o side history (link_step l (Take side)).1) (sym t.opening_is) (of_side side)
          where
            of_side : (s : Side) → (link_step l (Take s)).1 ≡ []
            of_side E = safe_take l E t.pair.e t.e_is
            of_side R = safe_take l R t.pair.r t.r_is
        take_tells settings l history side h (inl (inr t)) =
            subst (λ (o : LinkOpening). IsToldOfTake o side history (link_step l (Take side)).1) (sym t.opening_is) (of_side side)
          where
            of_side : (s : Side) → TakeTells s history (link_step l (Take s)).1
            of_side E = stack_take l history E t.e t.e_is h
            of_side R = stack_take l history R t.r t.r_is h
        take_tells settings l history side h (inr w) =
            subst (λ (o : LinkOpening). IsToldOfTake o side history (link_step l (Take side)).1) (sym w.1.sees.opening_is) (of_side side)
          where
            of_side : (s : Side) → (link_step l (Take s)).1 ≡ []
            of_side E = station_take l E _ _ _ w.1.sees.e_is
            of_side R = station_take l R _ _ _ w.1.sees.r_is

        pub takes_in_order : StationLaws → (plan : DrillPlan) (steps : List Step) → TakesInOrder plan steps
        takes_in_order laws plan steps = record {
          prefix = λ n side. place_prefix (link_at (world_run plan steps).0 n) (history_on n (world_run plan steps).1) side (takes_at plan steps n);
          oldest = λ before after n side l split is.
              let w : World = (world_run plan before).0 in
              let history : List Occurrence = history_on n (world_run plan before).1 in
              let came : history_on n (at_link w n (link_at w n) (Take side)).1 ≡ (link_step l (Take side)).1 = (here grow own other w n l (Take side) is).came in
              subst (IsToldOfTake l.opening side history) (sym came)
              (take_tells plan.settings l history side (subst (λ (place : Option Link). AtPlace TakesIn place history) is (takes_at plan before n))
              (subst (λ (place : Option Link). AtPlace (Either plan.settings (Speaks facts)) place history) is (world_stands laws facts grow own other plan before n)));
        }
