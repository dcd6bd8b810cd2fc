-- The lines of an event at a stack come in the order of the table, frame by frame.
use Rattle.std.proofs.Common.{◌≡◌, ℕ, zero, suc, ◌≤◌, if◌then◌else◌, true, false, Bool, List, [], ◌∷◌, ◌++◌, map, refl, ap, append-nil, arith}
use Rattle.std.specs.Prelude.{◌==◌, Option, Some, None, is_some}
use Rattle.std.specs.List.{flat_map, AllByRecursion}
use Rattle.er_base.specs.declared.release.Release.{Release}
use Rattle.des_block.specs.declared.triple_key.TripleKey.{TripleKey}
use Rattle.hdlc_frames.specs.Framing.{Verdict}
use Rattle.safety_automaton.specs.Safety.{SafetyOutcome, SentAr, ReceivedAr, AcceptedDt}
use Rattle.safety_pair_laws.specs.Facts.{heard_in, facts_by}
use Rattle.hdlc_station_model.specs.Events.{said_octets, news}
use Rattle.er_end_model.specs.Outcomes.{SendRefusal}
use Rattle.er_end_model.specs.Layers.{Spoken, Core, model}
use Rattle.er_end_model.specs.Steps.{Finds, new_event_at, hand_next_tpdu, has_next_tpdu, hand_waiting_tpdus, most_offers, send_owed_answer, conclude_event, step_frame, refusal_of, step_take}
use Rattle.er_end_model.specs.Ends.{End as Stack, finds_expired}
use Rattle.er_end_model.specs.Ends as stacks
use Rattle.drill_model.specs.Outcomes.{DrillOutcome, OfSafety, Frame}
use Rattle.drill_model.specs.StationEnds.{if_released, if_expired}
use Rattle.drill_model.specs.StackEnds.{facts_told, outcomes_told_by_stack, stack_behind_event, stack_parts, stack_told, told_unless, told_of_take}
use Rattle.drill_model.specs.Ends.{EndEvent, Start, stack_end_step}
use Rattle.drill_model.specs.Ends as event
use Rattle.drill_model.specs.Texts.{place_of}
use Rattle.drill_model.specs.Printing.{IsRising, parts_of_stack}

-- ---- one call

-- frames come last
up_frames : (n : ℕ) → n ≤ 7 → (frames : List (List ℕ)) → IsRising (n ∷ flat_map place_of (map Frame frames))
up_frames n low [] = tt
up_frames n low (f ∷ fs) = (low, up_frames 7 (omega arith) fs)

rising_frames : (frames : List (List ℕ)) → IsRising (flat_map place_of (map Frame frames))
rising_frames [] = tt
rising_frames (f ∷ fs) = up_frames 7 (omega arith) fs

up_rest : (n : ℕ) → n ≤ 6 → (released : Option Release) (frames : List (List ℕ)) → IsRising (n ∷ flat_map place_of (if_released released ++ map Frame frames))
up_rest n low None frames = up_frames n (omega arith) frames
up_rest n low (Some release) frames = (low, up_frames 6 (omega arith) frames)

rising_rest : (released : Option Release) (frames : List (List ℕ)) → IsRising (flat_map place_of (if_released released ++ map Frame frames))
rising_rest None frames = rising_frames frames
rising_rest (Some release) frames = up_frames 6 (omega arith) frames

rising_facts : (heard : List ℕ) (o : SafetyOutcome) (released : Option Release) (frames : List (List ℕ))
    → IsRising (flat_map place_of (map OfSafety (facts_by heard o) ++ (if_released released ++ map Frame frames)))
rising_facts heard (SentAr connection verified sealed octets) released frames = up_rest 2 (omega arith) released frames
rising_facts heard (ReceivedAr connection verified) released frames = up_rest 2 (omega arith) released frames
rising_facts heard (AcceptedDt session user verified) released frames = up_rest 3 (omega arith) released frames
rising_facts heard _ released frames = rising_rest released frames

rising_spoke : (spoke : Option Spoken) (released : Option Release) (frames : List (List ℕ))
    → IsRising (flat_map place_of (facts_told spoke ++ (if_released released ++ map Frame frames)))
rising_spoke None released frames = rising_rest released frames
rising_spoke (Some s) released frames = rising_facts (heard_in s.event) s.outcome released frames

rising_told : (x : Core) → IsRising (flat_map place_of (outcomes_told_by_stack x))
rising_told x = rising_spoke x.upper.spoke x.leaves (said_octets x.line)

-- ---- octets

each_rising : (finds : Finds) (moment : ℕ) (verdicts : List Verdict) (x : Core)
    → (flat_map (λ (part : List DrillOutcome). part) (stack_parts finds moment verdicts x) ≡ stack_told finds moment verdicts x)
    × AllByRecursion (λ (part : List DrillOutcome). IsRising (flat_map place_of part)) (stack_parts finds moment verdicts x)
each_rising finds moment [] x = (refl, tt)
each_rising finds moment (verdict ∷ verdicts) x =
    let y : Core = step_frame model finds moment verdict x in
    let rest = each_rising finds moment verdicts y in
    (ap (λ (os : List DrillOutcome). outcomes_told_by_stack y ++ os) rest.0, (rising_told y, rest.1))

-- ---- a take

-- a take asks nothing of the safety side
none_if : (b : Bool) (x y : Core) → x.upper.spoke ≡ None → y.upper.spoke ≡ None → (if b then x else y).upper.spoke ≡ None
none_if true x y hx hy = hx
none_if false x y hx hy = hy

none_offered : (n : ℕ) (x : Core) → x.upper.spoke ≡ None → (hand_waiting_tpdus model n x).upper.spoke ≡ None
unfolding hand_waiting_tpdus
none_offered zero x none = none
none_offered (suc n) x none = none_if (has_next_tpdu model x) (hand_waiting_tpdus model n (hand_next_tpdu model x)) x (none_offered n (hand_next_tpdu model x) none) none

none_used : (moment : ℕ) (x : Core) → (step_take model moment x).upper.spoke ≡ None
none_used moment x =
    let y : Core = new_event_at model moment x in
    let z : Core = record y { upper = model.uses y.upper } in
    none_if (model.untaken y.upper == 0) y (conclude_event model z) refl
    (none_if (is_some z.released) z (send_owed_answer model (hand_waiting_tpdus model most_offers z)) refl (none_offered most_offers z refl))

rising_took : (message : Option (List ℕ)) (spoke : Option Spoken) (released : Option Release) (frames : List (List ℕ)) → spoke ≡ None
    → IsRising (flat_map place_of (told_of_take message ++ (facts_told spoke ++ (if_released released ++ map Frame frames))))
rising_took None None released frames none = up_rest 4 (omega arith) released frames
rising_took (Some message) None released frames none = up_rest 4 (omega arith) released frames
rising_took message (Some s) released frames none = absurd (cc)

-- ---- the events

rising_unless : (refusal : Option SendRefusal) (x : Core) → IsRising (flat_map place_of (told_unless refusal x))
rising_unless (Some refusal) x = tt
rising_unless None x = rising_told x

rising_expired : (b : Bool) (x : Core) → IsRising (flat_map place_of (if_expired b ++ outcomes_told_by_stack x))
rising_expired true x = rising_told x
rising_expired false x = rising_told x

one_part : (os : List DrillOutcome) → IsRising (flat_map place_of os)
    → (flat_map (λ (part : List DrillOutcome). part) (os ∷ []) ≡ os) × AllByRecursion (λ (part : List DrillOutcome). IsRising (flat_map place_of part)) (os ∷ [])
one_part os rising = (append-nil os, (rising, tt))

pub stack_in_order : (key_of : ℕ → ℕ → Option TripleKey) (moment : ℕ) (m : Stack) (event : EndEvent)
    → (flat_map (λ part. part) (parts_of_stack key_of moment m event) ≡ (stack_end_step key_of moment m event).1)
    × AllByRecursion (λ part. IsRising (flat_map place_of part)) (parts_of_stack key_of moment m event)
stack_in_order key_of moment m Start = one_part _ (rising_told (stack_behind_event moment stacks.Start m).core)
stack_in_order key_of moment m (event.Receive octets) = each_rising (λ now. key_of) moment (news m.stream octets) (new_event_at model moment m.core)
stack_in_order key_of moment m (event.Send user) = one_part _ (rising_unless (refusal_of model user m.core) (stack_behind_event moment (stacks.Send user) m).core)
stack_in_order key_of moment m event.Take =
    let x : Core = step_take model moment m.core in
    one_part _ (rising_took (model.oldest m.core.upper) x.upper.spoke x.leaves (said_octets x.line) (none_used moment m.core))
stack_in_order key_of moment m (event.Release sub) = one_part _ (rising_told (stack_behind_event moment (stacks.Leave sub) m).core)
stack_in_order key_of moment m event.Tick = one_part _ (rising_expired (finds_expired (new_event_at model moment m.core)) (stack_behind_event moment stacks.Tick m).core)
