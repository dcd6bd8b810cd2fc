-- What an event at a stack tells as one step of its safety side, or as none: its facts, and what was sent and accepted by it.
use Rattle.std.proofs.Common.{◌≡◌, ℕ, suc, zero, if◌then◌else◌, true, false, Bool, List, [], ◌++◌, map, refl, ap₂, subst, ◌∙◌, append-nil}
use Rattle.std.specs.Prelude.{Option, Some, None, is_some}
use Rattle.std.specs.List.{flat_map}
use Rattle.std.specs.Option.{option_to_list}
use Rattle.std.proofs.lemmas.List.Concat.{flat_map-append}
use Rattle.er_base.specs.declared.release.Release.{Release}
use Rattle.er_base.specs.declared.side.Side.{Side}
use Rattle.er_base.specs.declared.cause.Cause.TheVariants.{SetUpTimeSpent}
use Rattle.er_base.specs.Causes.{release_of}
use Rattle.des_block.specs.declared.triple_key.TripleKey.{TripleKey}
use Rattle.x224_class2.specs.Tpdus.{Dr}
use Rattle.safety_automaton.specs.Safety.{Safety}
use Rattle.safety_pair_laws.specs.Facts.{Fact, SideFact, at_side, facts_of}
use Rattle.safety_pair_laws.specs.Openings.{PairOpening}
use Rattle.hdlc_station_model.specs.Events.{said_octets}
use Rattle.er_end_model.specs.Outcomes.{SendRefusal}
use Rattle.er_end_model.specs.Layers.{Spoken, Core, model}
use Rattle.er_end_model.specs.Steps.{new_event_at, with_release, hand_tpdu, close_link, send_owed_answer, send_dr, hand_next_tpdu, has_next_tpdu, hand_waiting_tpdus, most_offers, conclude_event, step_start, step_send_unless, is_spent, di_of, on_expiry, step_tick, normal_disconnect}
use Rattle.drill_model.specs.Outcomes.{DrillOutcome, Frame, at_end, facts_in}
use Rattle.drill_model.specs.Growth.{FactsGrow}
use Rattle.drill_model.specs.StationEnds.{if_released, if_expired}
use Rattle.drill_model.specs.StackEnds.{facts_told, outcomes_told_by_stack, told_unless, told_of_take}
use Rattle.drill_model.specs.StackReports.{user_octets_spoken}
use Rattle.drill_model.specs.Kinds.{sent_in, accepted_in}
use Rattle.drill_laws.proofs.Speaking.{Speaks, Spoke, sends_spoke, facts_append, facts_of_facts, rest_silent, expired_silent}
use Rattle.drill_laws.proofs.StackSaying.{sent_in_step, call_sent, call_accepted}

-- ---- an event in which the safety side takes no step

module _ (before : Safety) where
  abbrev Rests : Core → Type 0
  Rests x = (x.upper.spoke ≡ None) × (x.safe.safety ≡ before)

  rests_if : (b : Bool) (x y : Core) → Rests x → Rests y → Rests (if b then x else y)
  rests_if true x y hx hy = hx
  rests_if false x y hx hy = hy

  departs_rests : (why : Release) (reason : ℕ) (user : List ℕ) (x : Core) → Rests x → Rests (send_dr model why reason user x)
  departs_rests why reason user x h = if_rests (model.may_send x.line) (hand_tpdu model (Dr reason user) x) x h h
    where
      if_rests : (b : Bool) (y z : Core) → Rests y → Rests z → Rests (with_release why (close_link model (if b then y else z)))
      if_rests true y z hy hz = hy
      if_rests false y z hy hz = hz

  offers_rest : (n : ℕ) (x : Core) → Rests x → Rests (hand_waiting_tpdus model n x)
  unfolding hand_waiting_tpdus
  offers_rest zero x h = h
  offers_rest (suc n) x h = rests_if (has_next_tpdu model x) (hand_waiting_tpdus model n (hand_next_tpdu model x)) x (offers_rest n (hand_next_tpdu model x) h) h

  concludes_rests : (x : Core) → Rests x → Rests (conclude_event model x)
  concludes_rests x h = rests_if (is_some x.released) x (send_owed_answer model (hand_waiting_tpdus model most_offers x)) h (offers_rest most_offers x h)

  time_rests : (why : Option Release) (x : Core) → Rests x → Rests (on_expiry model why x)
  time_rests (Some why) x h = h
  time_rests None x h =
      let why : Release = release_of SetUpTimeSpent in
      rests_if (is_spent x) (send_dr model why normal_disconnect (di_of why x.safe.safety) x) x
      (departs_rests why normal_disconnect (di_of why x.safe.safety) x h) h

pub starts_rest : (now : ℕ) (x : Core) → Rests x.safe.safety (step_start model now x)
starts_rest now x =
    let y : Core = new_event_at model now x in
    let z : Core = record y { line = model.starts y.moment y.line } in
    rests_if x.safe.safety (is_some y.released) y (conclude_event model z) (refl, refl) (concludes_rests x.safe.safety z (refl, refl))

pub ticks_rest : (now : ℕ) (x : Core) → Rests x.safe.safety (step_tick model now x)
ticks_rest now x =
    let s : Safety = x.safe.safety in
    let y : Core = new_event_at model now x in
    let z : Core = record y { line = model.ticks y.moment y.line } in
    let why : Option Release = model.given_up y.moment y.line in
    rests_if s (is_some y.released) y (conclude_event model (on_expiry model why z)) (refl, refl)
    (concludes_rests s (on_expiry model why z) (time_rests s why z (refl, refl)))

-- ---- what outcomes tell

abbrev pub facts_spoken : Option Spoken → List Fact
facts_spoken None = []
facts_spoken (Some s) = facts_of s.event s.outcome

-- outcomes tell this step, or none
pub record Tells (spoke : Option Spoken) (os : List DrillOutcome) : Type 0 where
  pub facts_are : (side : Side) → facts_in (map (at_end side) os) ≡ map (at_side side) (facts_spoken spoke)
  pub sent_is : flat_map sent_in os ≡ sent_in_step spoke
  pub accepted_is : flat_map accepted_in os ≡ option_to_list (user_octets_spoken spoke)

-- a side that looks KMACs up so took the step that the outcomes tell
pub record Calls (key_of : ℕ → ℕ → Option TripleKey) (before : Safety) (os : List DrillOutcome) (after : Safety) : Type 0 where
  pub spoke : Option Spoken
  pub speaks : Speaks key_of before spoke after
  pub tells : Tells spoke os

module _ (grow : FactsGrow) (opening : PairOpening) where
  told_facts : (side : Side) (spoke : Option Spoken) → facts_in (map (at_end side) (facts_told spoke)) ≡ map (at_side side) (facts_spoken spoke)
  told_facts side None = refl
  told_facts side (Some s) = facts_of_facts grow opening side (facts_of s.event s.outcome)

  pub told_tells : (x : Core) → Tells x.upper.spoke (outcomes_told_by_stack x)
  told_tells x = record {
    facts_are = λ side.
        facts_append grow opening side (facts_told x.upper.spoke) (if_released x.leaves ++ map Frame (said_octets x.line))
        ∙ ap₂ (λ (fs gs : List SideFact). fs ++ gs) (told_facts side x.upper.spoke) (rest_silent grow opening side x.leaves (said_octets x.line))
        ∙ append-nil (map (at_side side) (facts_spoken x.upper.spoke));
    sent_is = call_sent x;
    accepted_is = call_accepted x;
  }

  -- behind outcomes that tell nothing of this
  pub tells_behind : (spoke : Option Spoken) (first os : List DrillOutcome) → ((side : Side) → facts_in (map (at_end side) first) ≡ []) → flat_map sent_in first ≡ []
      → flat_map accepted_in first ≡ [] → Tells spoke os → Tells spoke (first ++ os)
  tells_behind spoke first os facts sent accepted h = record {
    facts_are = λ side. facts_append grow opening side first os ∙ ap₂ (λ (fs gs : List SideFact). fs ++ gs) (facts side) (h.facts_are side);
    sent_is = flat_map-append sent_in first os ∙ ap₂ (λ (xs ys : List (List ℕ)). xs ++ ys) sent h.sent_is;
    accepted_is = flat_map-append accepted_in first os ∙ ap₂ (λ (xs ys : List (List ℕ)). xs ++ ys) accepted h.accepted_is;
  }

  -- ---- the events

  module _ (key_of : ℕ → ℕ → Option TripleKey) where
    told_calls : (before : Safety) (x : Core) → Spoke key_of before x → Calls key_of before (outcomes_told_by_stack x) x.safe.safety
    told_calls before x h = record { spoke = x.upper.spoke; speaks = h; tells = told_tells x }

    sends_call_at : (moment : ℕ) (user : List ℕ) (x : Core) (o : Option SendRefusal)
        → Calls key_of x.safe.safety (told_unless o (step_send_unless model o moment user x)) (step_send_unless model o moment user x).safe.safety
    sends_call_at moment user x (Some refusal) = record {
      spoke = None;
      speaks = refl;
      tells = record { facts_are = λ side. refl; sent_is = refl; accepted_is = refl };
    }
    sends_call_at moment user x None =
        told_calls x.safe.safety (step_send_unless model None moment user x) (sends_spoke key_of x.safe.safety moment user x refl)

    took_none : (message : Option (List ℕ)) → (flat_map sent_in (told_of_take message) ≡ []) × (flat_map accepted_in (told_of_take message) ≡ [])
    took_none None = (refl, refl)
    took_none (Some message) = (refl, refl)

  -- what a tick tells: no step
  expired_none : (b : Bool) → (flat_map sent_in (if_expired b) ≡ []) × (flat_map accepted_in (if_expired b) ≡ [])
  expired_none true = (refl, refl)
  expired_none false = (refl, refl)

  pub ticks_tell : (b : Bool) (x : Core) → x.upper.spoke ≡ None → Tells None (if_expired b ++ outcomes_told_by_stack x)
  ticks_tell b x none =
      let e = expired_none b in
      tells_behind None (if_expired b) (outcomes_told_by_stack x) (λ side. expired_silent grow opening side b) e.0 e.1
      (subst (λ (o : Option Spoken). Tells o (outcomes_told_by_stack x)) none (told_tells x))

  -- nor does a start
  pub starts_tell : (x : Core) → x.upper.spoke ≡ None → Tells None (outcomes_told_by_stack x)
  starts_tell x none = subst (λ (o : Option Spoken). Tells o (outcomes_told_by_stack x)) none (told_tells x)
