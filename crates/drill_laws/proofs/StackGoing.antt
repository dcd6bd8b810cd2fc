-- An event at a stack is that event at an end of a pair of stacks: it sends the same frames, and its outcomes say how the end's lists grew.
use Rattle.std.proofs.Common.{◌≡◌, ℕ, true, false, Bool, ◌||◌, List, [], ◌∷◌, ◌++◌, map, refl, sym, ap, ap₂, subst, ◌∙◌, append-nil, append_assoc}
use Rattle.std.specs.Prelude.{Option, Some, None}
use Rattle.std.specs.List.{flat_map, list_any, AllByRecursion}
use Rattle.std.proofs.lemmas.List.Concat.{flat_map-append}
use Rattle.std.proofs.lemmas.List.Folds.{list_any-append}
use Rattle.er_base.specs.declared.release.Release.{Release}
use Rattle.des_block.specs.declared.triple_key.TripleKey.{TripleKey}
use Rattle.hdlc_frames.specs.Framing.{Verdict}
use Rattle.safety_automaton.specs.Rules.{StepsOnly}
use Rattle.hdlc_station_model.specs.Events.{said_octets, news}
use Rattle.er_end_model.specs.Outcomes.{SendRefusal}
use Rattle.er_end_model.specs.Layers.{Core, model}
use Rattle.er_end_model.specs.Steps.{Finds, new_event_at, step_start, step_frame, refusal_of, step_send_unless, step_take, step_release, step_tick}
use Rattle.er_end_model.specs.Ends.{End as Stack, Event, Start, Come, Send, Take, Leave, Tick, hears_each, step_event, finds_expired}
use Rattle.er_end_pair_laws.specs.Links.{frames_said, frames_of_each, frames_unless, frames_by}
use Rattle.drill_model.specs.Outcomes.{DrillOutcome, Refused, Took, NothingToTake, Frame, Expired, frames_of_outcome, frames_in}
use Rattle.drill_model.specs.StationEnds.{if_released, if_expired}
use Rattle.drill_model.specs.StackEnds.{facts_told, outcomes_told_by_stack, stack_told, told_unless, told_of_take}
use Rattle.drill_model.specs.StackReports.{IsOrderly, CallsReport}
use Rattle.drill_model.specs.Kinds.{sent_in, accepted_in, released_in, passed_in, is_disorder, is_disturbance}
use Rattle.drill_model.specs.Ends.{OfStack, EndEvent, stack_end_step}
use Rattle.drill_model.specs.Ends as event
use Rattle.drill_laws.proofs.Tellings.{all_kept, all_push, frames_released, frames_append}
use Rattle.drill_laws.proofs.StackSaying.{Says, starts_went, comes_went, leaves_went, ticks_went, uses_went, sends_went, spoke_none, call_says}

-- ---- outcomes one after the other

-- a core was released so
abbrev IsReleaseOf : Core → Release → Type 0
IsReleaseOf x release = x.released ≡ Some release

grown : (a b c xs ys : List (List ℕ)) → b ≡ a ++ xs → c ≡ b ++ ys → c ≡ a ++ (xs ++ ys)
grown a b c xs ys x y = y ∙ ap (λ (zs : List (List ℕ)). zs ++ ys) x ∙ append_assoc a xs ys

says_then : (a b c : Core) (os ps : List DrillOutcome) (late later : Bool) → Says a b os late → Says b c ps later → Says a c (os ++ ps) (late || later)
says_then a b c os ps late later x y =
    record {
      sent_is = grown a.upper.sent b.upper.sent c.upper.sent (flat_map sent_in os) (flat_map sent_in ps) x.sent_is y.sent_is
          ∙ ap (λ (zs : List (List ℕ)). a.upper.sent ++ zs) (sym (flat_map-append sent_in os ps));
      accepted_is = grown a.upper.accepted b.upper.accepted c.upper.accepted (flat_map accepted_in os) (flat_map accepted_in ps) x.accepted_is y.accepted_is
          ∙ ap (λ (zs : List (List ℕ)). a.upper.accepted ++ zs) (sym (flat_map-append accepted_in os ps));
      releases = subst (λ (rs : List Release). AllByRecursion (λ (r : Release). c.released ≡ Some r) rs) (sym (flat_map-append released_in os ps))
          (all_push (IsReleaseOf c) (flat_map released_in os) (flat_map released_in ps) (all_kept (IsReleaseOf b) (IsReleaseOf c) (flat_map released_in os) y.stays x.releases) y.releases);
      stays = λ r is. y.stays r (x.stays r is);
      disorder_is = list_any-append is_disorder os ps ∙ ap₂ (λ (p q : Bool). p || q) x.disorder_is y.disorder_is;
      disturbed_is = list_any-append is_disturbance os ps ∙ ap₂ (λ (p q : Bool). p || q) x.disturbed_is y.disturbed_is;
      passes_are = flat_map-append passed_in os ps ∙ ap₂ (λ (p q : List (List ℕ)). p ++ q) x.passes_are y.passes_are;
    }

-- outcomes that say nothing of lists, of a core that keeps its lists and its release
silent_says : (a b : Core) (os : List DrillOutcome) (late : Bool) → b.upper.sent ≡ a.upper.sent → b.upper.accepted ≡ a.upper.accepted → b.released ≡ a.released
    → flat_map sent_in os ≡ [] → flat_map accepted_in os ≡ [] → flat_map released_in os ≡ [] → list_any is_disorder os ≡ false → list_any is_disturbance os ≡ late
    → flat_map passed_in os ≡ [] → Says a b os late
silent_says a b os late sent accepted released s t r d l p =
    record {
      sent_is = sent ∙ sym (append-nil a.upper.sent) ∙ ap (λ (zs : List (List ℕ)). a.upper.sent ++ zs) (sym s);
      accepted_is = accepted ∙ sym (append-nil a.upper.accepted) ∙ ap (λ (zs : List (List ℕ)). a.upper.accepted ++ zs) (sym t);
      releases = subst (λ (rs : List Release). AllByRecursion (λ (y : Release). b.released ≡ Some y) rs) (sym r) tt;
      stays = λ y is. released ∙ is;
      disorder_is = d;
      disturbed_is = l;
      passes_are = p;
    }

-- ---- the frames of a call

frames_told : (x : Core) → frames_in (outcomes_told_by_stack x) ≡ frames_said x
frames_told x =
    flat_map-append frames_of_outcome (facts_told x.upper.spoke) (if_released x.leaves ++ map Frame (said_octets x.line))
    ∙ ap₂ (λ (a b : List (List ℕ)). a ++ b) (spoke_none frames_of_outcome (λ fact. refl) x.upper.spoke) (frames_released x.leaves (said_octets x.line))

-- ---- the events

-- at a moment a stack does with an event what the end of a pair does with it, and these outcomes say so
pub record StackDoes (moment : ℕ) (event : Event) (m : Stack) (os : List DrillOutcome) (late : Bool) : Type 0 where
  pub says : Says m.core (step_event moment event m).0.core os late
  pub frames : frames_in os ≡ frames_by moment event m
  pub orderly : IsOrderly (step_event moment event m).0.core

module _ (only : StepsOnly) (reports : CallsReport) where
  -- frame by frame
  heard_says : (finds : Finds) (moment : ℕ) (vs : List Verdict) (x : Core) → IsOrderly x
      → Says x (hears_each finds moment vs x) (stack_told finds moment vs x) false
  heard_says finds moment [] x orderly = silent_says x x [] false refl refl refl refl refl refl refl refl refl
  heard_says finds moment (v ∷ vs) x orderly =
      let y : Core = step_frame model finds moment v x in
      let r = (reports x orderly).1 finds moment v in
      says_then x y (hears_each finds moment vs y) (outcomes_told_by_stack y) (stack_told finds moment vs y) false false
      (call_says x y (comes_went only finds moment v x) r.1) (heard_says finds moment vs y r.0)

  heard_frames : (finds : Finds) (moment : ℕ) (vs : List Verdict) (x : Core) → frames_in (stack_told finds moment vs x) ≡ frames_of_each finds moment vs x
  heard_frames finds moment [] x = refl
  heard_frames finds moment (v ∷ vs) x =
      let y : Core = step_frame model finds moment v x in
      frames_append (outcomes_told_by_stack y) (stack_told finds moment vs y)
      ∙ ap₂ (λ (a b : List (List ℕ)). a ++ b) (frames_told y) (heard_frames finds moment vs y)

  heard_orderly : (finds : Finds) (moment : ℕ) (vs : List Verdict) (x : Core) → IsOrderly x → IsOrderly (hears_each finds moment vs x)
  heard_orderly finds moment [] x orderly = orderly
  heard_orderly finds moment (v ∷ vs) x orderly = heard_orderly finds moment vs (step_frame model finds moment v x) ((reports x orderly).1 finds moment v).0

  begins_does : (moment : ℕ) (m : Stack) → IsOrderly m.core → StackDoes moment Start m (outcomes_told_by_stack (step_event moment Start m).0.core) false
  begins_does moment m orderly =
      let x : Core = step_start model moment m.core in
      let r = (reports m.core orderly).0 moment in
      record { says = call_says m.core x (starts_went moment m.core) r.1; frames = frames_told x; orderly = r.0 }

  hears_does : (finds : Finds) (moment : ℕ) (octets : List ℕ) (m : Stack) → IsOrderly m.core
      → StackDoes moment (Come finds octets) m (stack_told finds moment (news m.stream octets) (new_event_at model moment m.core)) false
  hears_does finds moment octets m orderly =
      let x : Core = new_event_at model moment m.core in
      let vs : List Verdict = news m.stream octets in
      let first : Says m.core x [] false = silent_says m.core x [] false refl refl refl refl refl refl refl refl refl in
      record {
        says = says_then m.core x (hears_each finds moment vs x) [] (stack_told finds moment vs x) false false first (heard_says finds moment vs x orderly);
        frames = heard_frames finds moment vs x;
        orderly = heard_orderly finds moment vs x orderly;
      }

  -- a send, by whether it is refused
  sent_says : (moment : ℕ) (user : List ℕ) (x : Core) → IsOrderly x → (o : Option SendRefusal) → refusal_of model user x ≡ o
      → let y = step_send_unless model o moment user x in Says x y (told_unless o y) false × IsOrderly y
  sent_says moment user x orderly (Some refusal) is =
      (silent_says x x (Refused refusal ∷ []) false refl refl refl refl refl refl refl refl refl, orderly)
  sent_says moment user x orderly None is =
      let y : Core = step_send_unless model None moment user x in
      let r = (reports x orderly).2 moment user in
      (call_says x y (sends_went moment user x is) r.1, r.0)

  sent_frames : (o : Option SendRefusal) (x : Core) → frames_in (told_unless o x) ≡ frames_unless o x
  sent_frames (Some refusal) x = refl
  sent_frames None x = frames_told x

  sends_does : (moment : ℕ) (user : List ℕ) (m : Stack) → IsOrderly m.core
      → StackDoes moment (Send user) m (told_unless (refusal_of model user m.core) (step_event moment (Send user) m).0.core) false
  sends_does moment user m orderly =
      let o : Option SendRefusal = refusal_of model user m.core in
      let both = sent_says moment user m.core orderly o refl in
      record { says = both.0; frames = sent_frames o (step_event moment (Send user) m).0.core; orderly = both.1 }

  took_says : (x : Core) (o : Option (List ℕ)) → Says x x (told_of_take o) false
  took_says x None = silent_says x x (NothingToTake ∷ []) false refl refl refl refl refl refl refl refl refl
  took_says x (Some message) = silent_says x x (Took message ∷ []) false refl refl refl refl refl refl refl refl refl

  took_frames : (o : Option (List ℕ)) (os : List DrillOutcome) → frames_in (told_of_take o ++ os) ≡ frames_in os
  took_frames None os = refl
  took_frames (Some message) os = refl

  takes_does : (moment : ℕ) (m : Stack) → IsOrderly m.core
      → StackDoes moment Take m (told_of_take (model.oldest m.core.upper) ++ outcomes_told_by_stack (step_event moment Take m).0.core) false
  takes_does moment m orderly =
      let x : Core = step_take model moment m.core in
      let r = (reports m.core orderly).3 moment in
      let o : Option (List ℕ) = model.oldest m.core.upper in
      record {
        says = says_then m.core m.core x (told_of_take o) (outcomes_told_by_stack x) false false (took_says m.core o) (call_says m.core x (uses_went moment m.core) r.1);
        frames = took_frames o (outcomes_told_by_stack x) ∙ frames_told x;
        orderly = r.0;
      }

  leaves_does : (moment sub : ℕ) (m : Stack) → IsOrderly m.core → StackDoes moment (Leave sub) m (outcomes_told_by_stack (step_event moment (Leave sub) m).0.core) false
  leaves_does moment sub m orderly =
      let x : Core = step_release model moment sub m.core in
      let r = (reports m.core orderly).4 moment sub in
      record { says = call_says m.core x (leaves_went only moment sub m.core) r.1; frames = frames_told x; orderly = r.0 }

  expired_says : (x : Core) (b : Bool) → Says x x (if_expired b) b
  expired_says x true = silent_says x x (Expired ∷ []) true refl refl refl refl refl refl refl refl refl
  expired_says x false = silent_says x x [] false refl refl refl refl refl refl refl refl refl

  expired_frames : (b : Bool) (os : List DrillOutcome) → frames_in (if_expired b ++ os) ≡ frames_in os
  expired_frames true os = refl
  expired_frames false os = refl

  or_false : (b : Bool) → (b || false) ≡ b
  or_false true = refl
  or_false false = refl

  ticks_does : (moment : ℕ) (m : Stack) → IsOrderly m.core
      → StackDoes moment Tick m (if_expired (finds_expired (new_event_at model moment m.core)) ++ outcomes_told_by_stack (step_event moment Tick m).0.core)
      (finds_expired (new_event_at model moment m.core))
  ticks_does moment m orderly =
      let x : Core = step_tick model moment m.core in
      let r = (reports m.core orderly).5 moment in
      let late : Bool = finds_expired (new_event_at model moment m.core) in
      let both : Says m.core x (if_expired late ++ outcomes_told_by_stack x) (late || false) =
      says_then m.core m.core x (if_expired late) (outcomes_told_by_stack x) late false (expired_says m.core late) (call_says m.core x (ticks_went moment m.core) r.1) in
      record {
        says = subst (λ (b : Bool). Says m.core x (if_expired late ++ outcomes_told_by_stack x) b) (or_false late) both;
        frames = expired_frames late (outcomes_told_by_stack x) ∙ frames_told x;
        orderly = r.0;
      }

  -- ---- any event

  -- an event at an end of a drill's link, as the pair has it
  abbrev pub as_given : (ℕ → ℕ → Option TripleKey) → EndEvent → Event
  as_given key_of event.Start = Start
  as_given key_of (event.Receive octets) = Come (λ now. key_of) octets
  as_given key_of (event.Send user) = Send user
  as_given key_of event.Take = Take
  as_given key_of (event.Release sub) = Leave sub
  as_given key_of event.Tick = Tick

  -- whether it finds an expired timer
  abbrev pub is_late_at : (moment : ℕ) → Stack → EndEvent → Bool
  is_late_at moment m event.Tick = finds_expired (new_event_at model moment m.core)
  is_late_at moment m _ = false

  pub stack_leads : (key_of : ℕ → ℕ → Option TripleKey) (moment : ℕ) (m : Stack) (given : EndEvent)
      → (stack_end_step key_of moment m given).0 ≡ OfStack (step_event moment (as_given key_of given) m).0
  stack_leads key_of moment m event.Start = refl
  stack_leads key_of moment m (event.Receive octets) = refl
  stack_leads key_of moment m (event.Send user) = refl
  stack_leads key_of moment m event.Take = refl
  stack_leads key_of moment m (event.Release sub) = refl
  stack_leads key_of moment m event.Tick = refl

  pub stack_does : (key_of : ℕ → ℕ → Option TripleKey) (moment : ℕ) (m : Stack) (given : EndEvent) → IsOrderly m.core
      → StackDoes moment (as_given key_of given) m (stack_end_step key_of moment m given).1 (is_late_at moment m given)
  stack_does key_of moment m event.Start orderly = begins_does moment m orderly
  stack_does key_of moment m (event.Receive octets) orderly = hears_does (λ now. key_of) moment octets m orderly
  stack_does key_of moment m (event.Send user) orderly = sends_does moment user m orderly
  stack_does key_of moment m event.Take orderly = takes_does moment m orderly
  stack_does key_of moment m (event.Release sub) orderly = leaves_does moment sub m orderly
  stack_does key_of moment m event.Tick orderly = ticks_does moment m orderly
