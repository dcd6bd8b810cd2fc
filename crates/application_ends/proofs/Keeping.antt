-- The ends of the stack, event by event: their messages, and how far they are.
use Rattle.std.proofs.Common.{arith, ◌≡◌, ◌≢◌, ◌∙◌, ◌≤◌, ◌<◌, ◌+◌, ◌-◌, inl, inr, ℕ, true, false, List, [], ◌∷◌, ◌++◌, length, drop, Option, Some, None, refl}
use Rattle.std.proofs.Common.{sym, ap, append-nil}
use Rattle.std.specs.Prelude.{◌==◌}
use Rattle.std.specs.List.{slice_get}
use Rattle.std.proofs.lemmas.Bool.{ne_eqb}
use Rattle.std.proofs.lemmas.List.{drop_all, drop_more, drop-append-le, length-append}
use Rattle.std.proofs.lemmas.Option.{slice_get_cases}
use Rattle.er_base.specs.declared.cause.Cause.TheVariants.{LineEnded, LineFailed, LineStalled}
use Rattle.er_settings.specs.Values.{Settings}
use Rattle.des_block.specs.declared.triple_key.TripleKey.{TripleKey}
use Rattle.hdlc_station_model.specs.Events.{news}
use Rattle.safety_automaton.specs.Rules.{StepsOnly}
use Rattle.er_trace.specs.declared.event.Event.{Event}
use Rattle.er_trace.specs.declared.event.Event.TheVariants as event
use Rattle.trace_model.specs.Connections.{goes_on, end_behind_call}
use Rattle.er_end_model.specs.Outcomes.{Outcome, Taken, NothingToTake}
use Rattle.er_end_model.specs.Steps.{Finds, new_event_at, conclude_event, step_start, step_take, step_release, step_tick, step_break, outcomes_of, if_taken}
use Rattle.er_end_model.specs.Layers.{Core, model}
use Rattle.er_end_model.specs.Ends as end
use Rattle.er_end_model.specs.Ends.{End, Opening, opened, step_event, hears_each, told_of_each}
use Rattle.application_model.specs.Ends.{EndStage, end_stage_behind, texts_accepted, texts_taken, EventAt, KeepsMessages}
use Rattle.application_model.specs.Laws.{TakesTheOldest, TakesAlone}
use Rattle.application_ends.specs.StackEnds.{HeldKeys, befalls_end, befalls_at, stack_end_behind, end_of_events, texts_accepted_at, texts_waiting_at}
use Rattle.application_ends.specs.StackEnds.{stack_kind, stage_of_end}
use Rattle.application_ends.proofs.Faces.{Face, face_then, face_else, face_concludes}
use Rattle.application_ends.proofs.Leading.{said, stage_at, Leads, rests, octets_lead, start_leads, send_leads, leave_leads, tick_leads, break_leads}

-- ---- a take

-- the oldest of the messages that weren't taken; or there is none
pub data Oldest (texts : List (List ℕ)) (used : ℕ) : Type 0 where
  IsNone : slice_get texts used ≡ None → (length texts - used == 0) ≡ true → drop used texts ≡ [] → Oldest texts used
  IsSome : (text : List ℕ) → slice_get texts used ≡ Some text → (length texts - used == 0) ≡ false → drop used texts ≡ text ∷ drop (used + 1) texts
      → used < length texts → Oldest texts used

pub oldest_of : (texts : List (List ℕ)) (used : ℕ) → Oldest texts used
oldest_of texts used = elim ((slice_get_cases texts used).1) [
  | inl (text, within, is, read) ↦
      IsSome text is (ne_eqb (length texts - used) 0 (λ e. absurd (omega (arith, e, within))))
      (drop_more texts used text within ∙ ap (λ (t : List ℕ). t ∷ drop (used + 1) texts) read) within
  | inr (past, none) ↦
      let e : length texts - used ≡ 0 = omega (arith, past) in
      IsNone none (rw e refl) (drop_all used texts past)
]

-- ---- an event of an end

-- what it accepted it has, and what waited and what it accepted it tells as taken, or it waits; an end that took no more than it had does so behind it
pub record Holds (x : Core) (outcomes : List Outcome) (z : Core) : Type 0 where
  pub accepted : z.upper.accepted ≡ x.upper.accepted ++ texts_accepted (said outcomes)
  pub waits : x.upper.used ≤ length x.upper.accepted
      → drop x.upper.used x.upper.accepted ++ texts_accepted (said outcomes) ≡ texts_taken (said outcomes) ++ drop z.upper.used z.upper.accepted
  pub bound : x.upper.used ≤ length x.upper.accepted → z.upper.used ≤ length z.upper.accepted
  pub stage : end_stage_behind (stage_at x) (said outcomes) ≡ stage_at z

longer : (used : ℕ) (texts more : List (List ℕ)) → used ≤ length texts → used ≤ length (texts ++ more)
longer used texts more p = let e = length-append texts more in omega (arith, p, e)

holds_of : (x : Core) (outcomes : List Outcome) (z : Core) → Leads x outcomes z → Holds x outcomes z
holds_of x outcomes z l =
    let new = texts_accepted (said outcomes) in
    record {
      accepted = l.accepted;
      waits = λ p.
          sym (drop-append-le x.upper.used x.upper.accepted new p)
          ∙ ap (λ (t : List (List ℕ)). drop x.upper.used t) (sym l.accepted)
          ∙ ap (λ (n : ℕ). drop n z.upper.accepted) (sym l.used)
          ∙ ap (λ (t : List (List ℕ)). t ++ drop z.upper.used z.upper.accepted) (sym l.taken);
      bound = λ p. rw (l.used, l.accepted) (longer x.upper.used x.upper.accepted new p);
      stage = l.stage;
    }

-- behind a take
abbrev uses : Core → Core
uses x = record x { upper = model.uses x.upper }

nothing_taken : (x z : Core) (outcomes : List Outcome) → Leads x outcomes z → Holds x (NothingToTake ∷ outcomes) z
nothing_taken x z outcomes l = let h = holds_of x outcomes z l in record { accepted = h.accepted; waits = h.waits; bound = h.bound; stage = h.stage }

one_taken : (x z : Core) (text : List ℕ) (outcomes : List Outcome) → drop x.upper.used x.upper.accepted ≡ text ∷ drop (x.upper.used + 1) x.upper.accepted
    → x.upper.used < length x.upper.accepted → Leads (uses x) outcomes z → Holds x (Taken text ∷ outcomes) z
one_taken x z text outcomes left within l =
    let h = holds_of (uses x) outcomes z l in
    let more : x.upper.used + 1 ≤ length x.upper.accepted = omega (arith, within) in
    record {
      accepted = h.accepted;
      waits = λ p. ap (λ (t : List (List ℕ)). t ++ texts_accepted (said outcomes)) left ∙ ap (λ (t : List (List ℕ)). text ∷ t) (h.waits more);
      bound = λ p. h.bound more;
      stage = h.stage;
    }

take_at : (now : ℕ) (x : Core) → Oldest x.upper.accepted x.upper.used
    → Holds x (if_taken (slice_get x.upper.accepted x.upper.used) ++ outcomes_of model (step_take model now x)) (step_take model now x)
take_at now x (IsNone none empty left) =
    let begins : Core = new_event_at model now x in
    let z : Core = step_take model now x in
    rw none (nothing_taken x z (outcomes_of model z) (rests x z (face_then (model.untaken x.upper == 0) begins (conclude_event model (uses begins)) empty)))
take_at now x (IsSome text some full left within) =
    let begins : Core = new_event_at model now x in
    let z : Core = step_take model now x in
    rw some
    (one_taken x z text (outcomes_of model z) left within
    (rests (uses x) z (face_else (model.untaken x.upper == 0) begins (conclude_event model (uses begins)) full ∙ face_concludes (uses begins))))

-- each event
pub event_holds : StepsOnly → (now : ℕ) (what : end.Event) (m : End) → Holds m.core (step_event now what m).1 (step_event now what m).0.core
event_holds steps_only now end.Start m = holds_of m.core _ (step_start model now m.core) (start_leads now m.core)
event_holds steps_only now (end.Come finds octets) m =
    let verdicts = news m.stream octets in
    holds_of m.core (told_of_each finds now verdicts (new_event_at model now m.core)) (hears_each finds now verdicts (new_event_at model now m.core))
    (octets_lead steps_only finds now verdicts m.core)
event_holds steps_only now (end.Send user) m =
    holds_of m.core (step_event now (end.Send user) m).1 (step_event now (end.Send user) m).0.core (send_leads now user m.core)
event_holds steps_only now end.Take m = take_at now m.core (oldest_of m.core.upper.accepted m.core.upper.used)
event_holds steps_only now (end.Leave sub) m = holds_of m.core _ (step_release model now sub m.core) (leave_leads now sub m.core)
event_holds steps_only now end.Tick m = holds_of m.core _ (step_tick model now m.core) (tick_leads now m.core)
event_holds steps_only now end.Ended m = holds_of m.core _ (step_break model LineEnded m.core) (break_leads LineEnded m.core)
event_holds steps_only now end.Fault m = holds_of m.core _ (step_break model LineFailed m.core) (break_leads LineFailed m.core)
event_holds steps_only now end.Stalled m = holds_of m.core _ (step_break model LineStalled m.core) (break_leads LineStalled m.core)

-- ---- an event of a trace, at a connection

abbrev IsBounded : Option End → Type 0
IsBounded None = Unit {0}
IsBounded (Some m) = m.core.upper.used ≤ length m.core.upper.accepted

pub record Befalls (m : Option End) (outcomes : List Outcome) (n : Option End) : Type 0 where
  pub accepted : texts_accepted_at n ≡ texts_accepted_at m ++ texts_accepted (said outcomes)
  pub waits : IsBounded m → texts_waiting_at m ++ texts_accepted (said outcomes) ≡ texts_taken (said outcomes) ++ texts_waiting_at n
  pub bound : IsBounded m → IsBounded n
  pub stage : end_stage_behind (stage_of_end m) (said outcomes) ≡ stage_of_end n

befalls_nothing : (m : Option End) → Befalls m [] m
befalls_nothing m =
    record { accepted = sym (append-nil (texts_accepted_at m)); waits = λ p. append-nil (texts_waiting_at m); bound = λ p. p; stage = refl }

befalls_on : StepsOnly → (now : ℕ) (what : end.Event) (m : Option End) → Befalls m (goes_on now what m).1 (goes_on now what m).0
befalls_on steps_only now what None = befalls_nothing None
befalls_on steps_only now what (Some m) =
    let h = event_holds steps_only now what m in record { accepted = h.accepted; waits = h.waits; bound = h.bound; stage = h.stage }

-- an end that was just opened is as none
opened_alike : (opening : Opening) → Befalls None [] (Some (opened opening))
opened_alike (end.Call settings me peer kmac rb now) = record { accepted = refl; waits = λ p. refl; bound = λ p. omega arith; stage = refl }
opened_alike (end.Answer settings me ra now) = record { accepted = refl; waits = λ p. refl; bound = λ p. omega arith; stage = refl }

befalls_then : (l m n : Option End) (outcomes : List Outcome) → Befalls l [] m → Befalls m outcomes n → Befalls l outcomes n
befalls_then l m n outcomes p q =
    let new = texts_accepted (said outcomes) in
    record {
      accepted = q.accepted ∙ ap (λ (t : List (List ℕ)). t ++ new) (p.accepted ∙ append-nil (texts_accepted_at l));
      waits = λ b.
          ap (λ (t : List (List ℕ)). t ++ new) (sym (append-nil (texts_waiting_at l)) ∙ p.waits b) ∙ q.waits (p.bound b);
      bound = λ b. q.bound (p.bound b);
      stage = ap (λ (s : EndStage). end_stage_behind s (said outcomes)) p.stage ∙ q.stage;
    }

call_befalls : StepsOnly → (settings : Settings) (now engine rbc rb : ℕ) (found : Option TripleKey)
    → Befalls None (end_behind_call settings now engine rbc rb found None).1 (end_behind_call settings now engine rbc rb found None).0
call_befalls steps_only settings now engine rbc rb None = befalls_nothing None
call_befalls steps_only settings now engine rbc rb (Some kmac) =
    let m : End = opened (end.Call settings engine rbc kmac rb now) in
    let r = step_event now end.Start m in
    befalls_then None (Some m) (Some r.0) r.1 (opened_alike (end.Call settings engine rbc kmac rb now)) (befalls_on steps_only now end.Start (Some m))

-- one event more
pub end_on : (settings : Settings) (held : HeldKeys) (m : Option End) (xs : List EventAt) (x : EventAt)
    → stack_end_behind settings held m (xs ++ x ∷ []) ≡ (befalls_at settings held x.time x.event (stack_end_behind settings held m xs)).0
unfolding stack_end_behind
end_on settings held m [] x = refl
end_on settings held m (y ∷ ys) x = end_on settings held (befalls_at settings held y.time y.event m).0 ys x

module _ (steps_only : StepsOnly) (settings : Settings) (finds : Finds) where
  pub befalls : (now : ℕ) (what : Event) (m : Option End) → Befalls m (befalls_end settings finds now what m).1 (befalls_end settings finds now what m).0
  befalls now (event.Call engine rbc rb) None = call_befalls steps_only settings now engine rbc rb (finds now engine rbc)
  befalls now (event.Answer rbc ra) None = opened_alike (end.Answer settings rbc ra now)
  befalls now (event.Call engine rbc rb) (Some m) = befalls_nothing (Some m)
  befalls now (event.Answer rbc ra) (Some m) = befalls_nothing (Some m)
  befalls now (event.Octets octets) None = befalls_nothing None
  befalls now (event.Octets octets) (Some m) = befalls_on steps_only now (end.Come finds octets) (Some m)
  befalls now (event.Send text) None = befalls_nothing None
  befalls now (event.Send text) (Some m) = befalls_on steps_only now (end.Send text) (Some m)
  befalls now event.Take None = befalls_nothing None
  befalls now event.Take (Some m) = befalls_on steps_only now end.Take (Some m)
  befalls now (event.Release sub) None = befalls_nothing None
  befalls now (event.Release sub) (Some m) = befalls_on steps_only now (end.Leave sub) (Some m)
  befalls now event.Tick None = befalls_nothing None
  befalls now event.Tick (Some m) = befalls_on steps_only now end.Tick (Some m)
  befalls now event.Ended None = befalls_nothing None
  befalls now event.Ended (Some m) = befalls_on steps_only now end.Ended (Some m)
  befalls now event.Fault None = befalls_nothing None
  befalls now event.Fault (Some m) = befalls_on steps_only now end.Fault (Some m)
  befalls now event.Stalled None = befalls_nothing None
  befalls now event.Stalled (Some m) = befalls_on steps_only now end.Stalled (Some m)
  befalls now (event.Full count) None = befalls_nothing None
  befalls now (event.Full count) (Some m) = befalls_nothing (Some m)
  befalls now (event.Unserved count) None = befalls_nothing None
  befalls now (event.Unserved count) (Some m) = befalls_nothing (Some m)

-- ---- all events

module _ (steps_only : StepsOnly) (settings : Settings) (held : HeldKeys) where
  all_bounded : (m : Option End) (xs : List EventAt) → IsBounded m → IsBounded (stack_end_behind settings held m xs)
  unfolding stack_end_behind
  all_bounded m [] p = p
  all_bounded m (x ∷ xs) p = all_bounded (befalls_at settings held x.time x.event m).0 xs ((befalls steps_only settings (held x.time.keys) x.time.moment x.event m).bound p)

  pub keeps : KeepsMessages (stack_kind settings held)
  unfolding stack_end_behind
  keeps =
      record {
        none = refl;
        each = λ before time what.
            let m = end_of_events settings held before in
            let told = (befalls_at settings held time what m).1 in
            (befalls steps_only settings (held time.keys) time.moment what m).waits (all_bounded None before tt)
            ∙ ap (λ (n : Option End). texts_taken (said told) ++ texts_waiting_at n) (sym (end_on settings held None before (record { time = time; event = what })));
      }

-- ---- takes

take_leaves : (now : ℕ) (x : Core) → Oldest x.upper.accepted x.upper.used
    → drop (step_take model now x).upper.used (step_take model now x).upper.accepted ≡ drop 1 (drop x.upper.used x.upper.accepted)
take_leaves now x (IsNone none empty left) =
    let begins : Core = new_event_at model now x in
    let same = face_then (model.untaken x.upper == 0) begins (conclude_event model (uses begins)) empty in
    ap (λ (f : Face). drop f.used f.accepted) same ∙ left ∙ sym (ap (λ (t : List (List ℕ)). drop 1 t) left)
take_leaves now x (IsSome text some full left within) =
    let begins : Core = new_event_at model now x in
    let same = face_else (model.untaken x.upper == 0) begins (conclude_event model (uses begins)) full ∙ face_concludes (uses begins) in
    ap (λ (f : Face). drop f.used f.accepted) same ∙ sym (ap (λ (t : List (List ℕ)). drop 1 t) left)

take_befalls : (settings : Settings) (finds : Finds) (now : ℕ) (m : Option End)
    → texts_waiting_at (befalls_end settings finds now event.Take m).0 ≡ drop 1 (texts_waiting_at m)
take_befalls settings finds now None = refl
take_befalls settings finds now (Some m) = take_leaves now m.core (oldest_of m.core.upper.accepted m.core.upper.used)

pub takes_oldest : (settings : Settings) (held : HeldKeys) → TakesTheOldest (stack_kind settings held)
takes_oldest settings held before time =
    ap texts_waiting_at (end_on settings held None before (record { time = time; event = event.Take }))
    ∙ take_befalls settings (held time.keys) time.moment (end_of_events settings held before)

-- ---- nothing but a take takes

untaken : StepsOnly → (now : ℕ) (what : end.Event) (m : End) → what ≢ end.Take → texts_taken (said (step_event now what m).1) ≡ []
untaken steps_only now end.Start m other = (start_leads now m.core).taken
untaken steps_only now (end.Come finds octets) m other = (octets_lead steps_only finds now (news m.stream octets) m.core).taken
untaken steps_only now (end.Send user) m other = (send_leads now user m.core).taken
untaken steps_only now end.Take m other = absurd (other refl)
untaken steps_only now (end.Leave sub) m other = (leave_leads now sub m.core).taken
untaken steps_only now end.Tick m other = (tick_leads now m.core).taken
untaken steps_only now end.Ended m other = (break_leads LineEnded m.core).taken
untaken steps_only now end.Fault m other = (break_leads LineFailed m.core).taken
untaken steps_only now end.Stalled m other = (break_leads LineStalled m.core).taken

untaken_on : StepsOnly → (now : ℕ) (what : end.Event) (m : Option End) → what ≢ end.Take → texts_taken (said (goes_on now what m).1) ≡ []
untaken_on steps_only now what None other = refl
untaken_on steps_only now what (Some m) other = untaken steps_only now what m other

untaken_at_call : StepsOnly → (settings : Settings) (now engine rbc rb : ℕ) (found : Option TripleKey)
    → texts_taken (said (end_behind_call settings now engine rbc rb found None).1) ≡ []
untaken_at_call steps_only settings now engine rbc rb None = refl
untaken_at_call steps_only settings now engine rbc rb (Some kmac) =
    untaken steps_only now end.Start (opened (end.Call settings engine rbc kmac rb now)) (λ e. absurd (cc))

untaken_at : StepsOnly → (settings : Settings) (finds : Finds) (now : ℕ) (what : Event) (m : Option End) → what ≢ event.Take
    → texts_taken (said (befalls_end settings finds now what m).1) ≡ []
untaken_at steps_only settings finds now (event.Call engine rbc rb) None other = untaken_at_call steps_only settings now engine rbc rb (finds now engine rbc)
untaken_at steps_only settings finds now (event.Call engine rbc rb) (Some m) other = refl
untaken_at steps_only settings finds now (event.Answer rbc ra) None other = refl
untaken_at steps_only settings finds now (event.Answer rbc ra) (Some m) other = refl
untaken_at steps_only settings finds now (event.Octets octets) None other = refl
untaken_at steps_only settings finds now (event.Octets octets) (Some m) other = untaken_on steps_only now (end.Come finds octets) (Some m) (λ e. absurd (cc))
untaken_at steps_only settings finds now (event.Send text) None other = refl
untaken_at steps_only settings finds now (event.Send text) (Some m) other = untaken_on steps_only now (end.Send text) (Some m) (λ e. absurd (cc))
untaken_at steps_only settings finds now event.Take m other = absurd (other refl)
untaken_at steps_only settings finds now (event.Release sub) None other = refl
untaken_at steps_only settings finds now (event.Release sub) (Some m) other = untaken_on steps_only now (end.Leave sub) (Some m) (λ e. absurd (cc))
untaken_at steps_only settings finds now event.Tick None other = refl
untaken_at steps_only settings finds now event.Tick (Some m) other = untaken_on steps_only now end.Tick (Some m) (λ e. absurd (cc))
untaken_at steps_only settings finds now event.Ended None other = refl
untaken_at steps_only settings finds now event.Ended (Some m) other = untaken_on steps_only now end.Ended (Some m) (λ e. absurd (cc))
untaken_at steps_only settings finds now event.Fault None other = refl
untaken_at steps_only settings finds now event.Fault (Some m) other = untaken_on steps_only now end.Fault (Some m) (λ e. absurd (cc))
untaken_at steps_only settings finds now event.Stalled None other = refl
untaken_at steps_only settings finds now event.Stalled (Some m) other = untaken_on steps_only now end.Stalled (Some m) (λ e. absurd (cc))
untaken_at steps_only settings finds now (event.Full count) None other = refl
untaken_at steps_only settings finds now (event.Full count) (Some m) other = refl
untaken_at steps_only settings finds now (event.Unserved count) None other = refl
untaken_at steps_only settings finds now (event.Unserved count) (Some m) other = refl

pub takes_alone : StepsOnly → (settings : Settings) (held : HeldKeys) → TakesAlone (stack_kind settings held)
takes_alone steps_only settings held before time what other =
    untaken_at steps_only settings (held time.keys) time.moment what (end_of_events settings held before) other
