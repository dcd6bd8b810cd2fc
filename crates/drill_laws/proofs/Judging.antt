-- When an end refuses a send, and why: exactly where its reason is met.
use Rattle.std.proofs.Common.{◌≡◌, ◌⊎◌, inl, inr, ℕ, zero, suc, ◌+◌, ◌≤◌, ◌<◌, nat_le, nat_lt, not, ◌&&◌, if◌then◌else◌, true, false, Bool, List, [], ◌∷◌, ◌++◌, length, map, take, drop, refl, sym, ap, subst, ◌∙◌, arith}
use Rattle.std.specs.Prelude.{Option, Some, None}
use Rattle.std.proofs.lemmas.Bool.{cases_Bool, and_parts, leb-true, le-leb, ltb-false, ltb-true}
use Rattle.er_base.specs.declared.release.Release.{Release}
use Rattle.er_base.specs.declared.side.Side.{Side}
use Rattle.des_block.specs.declared.triple_key.TripleKey.{TripleKey}
use Rattle.sapdu.specs.Messages.{is_message}
use Rattle.x224_class2.specs.Segments.{Segment, messages_behind}
use Rattle.x224_class2.specs.Transport.{waiting_count}
use Rattle.safety_automaton.specs.Safety.{Safety, Phase, Connected, Released, sends as sends_side}
use Rattle.safety_pair_laws.specs.Messages.{IsConnectedPhase}
use Rattle.hdlc_station_model.specs.Stations.{Station}
use Rattle.hdlc_station_model.specs.Sending.{waiting}
use Rattle.hdlc_station_model.specs.Calls.{finishes, hands}
use Rattle.er_end_model.specs.Outcomes.{SendRefusal, RefusedReleased, RefusedNotConnected, RefusedLength, RefusedFull}
use Rattle.er_end_model.specs.Layers.{model}
use Rattle.er_end_model.specs.Steps.{is_connected, refusal_at, refusal_of, step_send_unless}
use Rattle.er_end_model.specs.Ends.{End as Stack}
use Rattle.drill_model.specs.Outcomes.{DrillOutcome, Refused, at_end}
use Rattle.drill_model.specs.StationEnds.{payload_refusal_of_station, handed_unless}
use Rattle.drill_model.specs.StackEnds.{told_unless}
use Rattle.drill_model.specs.Ends.{EndAtLevel, OfSafe, OfStation, OfStack, outcomes_by, end_step}
use Rattle.drill_model.specs.Ends as event
use Rattle.drill_model.specs.Links.{Link, end_of, key_on, Send, link_step}
use Rattle.drill_model.specs.Effects.{Effect, Sends}
use Rattle.drill_model.specs.Sides.{last_segments, IsUnreleasedEnd, MaySend, AreWaiting, IsRefusalAt, SendsAt}
use Rattle.drill_laws.proofs.StackKeeping.{sends_keep}
use Rattle.drill_laws.proofs.StepEffects.{told_effects, of_side, effects_at, call_tells, kept_tells, connected_is, is_the_connected}

-- what an end tells of a send: one refusal, which is met, or a send, where none is met
abbrev pub Judged : EndAtLevel → List ℕ → List DrillOutcome → Type 0
Judged end text os =
    ((refusal : SendRefusal) × IsRefusalAt end text refusal × (os ≡ Refused refusal ∷ []))
    ⊎ (((refusal : SendRefusal) → IsRefusalAt end text refusal → ⊥) × (told_effects os ≡ Sends text ∷ []))

both_ways : (b : Bool) → b ≡ true → b ≡ false → ⊥
both_ways b t f = let e : true ≡ false = sym t ∙ f in cc

-- ---- lengths

is_within : (most : ℕ) (n : ℕ) → (nat_le 1 n && nat_le n most) ≡ true → (1 ≤ n) × (n ≤ most)
is_within most n both =
    let parts : (nat_le 1 n ≡ true) × (nat_le n most ≡ true) = and_parts (nat_le 1 n) (nat_le n most) both in
    (leb-true 1 n parts.0, leb-true n most parts.1)

within_is : (most : ℕ) (n : ℕ) → 1 ≤ n → n ≤ most → (nat_le 1 n && nat_le n most) ≡ true
within_is most n least within =
    let a : nat_le 1 n ≡ true = le-leb 1 n least in
    let b : nat_le n most ≡ true = le-leb n most within in
    rw (a, b) refl

not_within : (most : ℕ) (n : ℕ) → (nat_le 1 n && nat_le n most) ≡ false → (1 ≤ n) × (n ≤ most) → ⊥
not_within most n none both = both_ways (nat_le 1 n && nat_le n most) (within_is most n both.0 both.1) none

-- ---- level safe

module _ (s : Safety) (text : List ℕ) where
  safe_judged : (p : Phase) → s.phase ≡ p → Judged (OfSafe s) text (outcomes_by [] (sends_side s p text).1)
  safe_judged (Released why session) is = inl (RefusedReleased why, (session, is), refl)
  safe_judged (Connected peer session) is =
      let unreleased : IsUnreleasedEnd (OfSafe s) = λ why met. absurd (apart why met.0 met.1) in
      let connected : MaySend (OfSafe s) = subst IsConnectedPhase (sym is) tt in
      elim (cases_Bool (is_message text)) [
        | inl message ↦ rw message (inr (none message, refl))
        | inr long ↦ rw long (inl (RefusedLength (length text), (unreleased, connected, not_within 1023 (length text) long, refl), refl))
      ]
    where
      apart : (why : Release) (other : Option TripleKey) → s.phase ≡ Released why other → ⊥
      apart why other e = let f : Connected peer session ≡ Released why other = sym is ∙ e in cc

      none : is_message text ≡ true → (refusal : SendRefusal) → IsRefusalAt (OfSafe s) text refusal → ⊥
      none message (RefusedReleased why) met = apart why met.0 met.1
      none message RefusedNotConnected met = met.1 (subst IsConnectedPhase (sym is) tt)
      none message (RefusedLength found) met = met.2 (is_within 1023 (length text) message)
      none message (RefusedFull n) met = let few : 16 ≤ n = met.3 in let zero_is : n ≡ 0 = met.4 in omega (arith)
  safe_judged p is = inl (RefusedNotConnected, (λ why met. apart why met.0 met.1, subst (λ (q : Phase). IsConnectedPhase q → ⊥) (sym is) (λ c. c)), refl)
    where
      apart : (why : Release) (other : Option TripleKey) → s.phase ≡ Released why other → ⊥
      apart why other e = let f : p ≡ Released why other = sym is ∙ e in cc

-- ---- stations

module _ (selective : Bool) (s : Station) (stream text : List ℕ) (moment : ℕ) where
  abbrev end : EndAtLevel
  end = OfStation selective s stream

  station_judged : (o : Option Release) → s.released ≡ o → Judged end text (handed_unless (payload_refusal_of_station s text o) moment text s).1
  station_judged (Some why) is = inl (RefusedReleased why, is, refl)
  station_judged None is =
      elim (cases_Bool (nat_le 1 (length text) && nat_le (length text) 1026)) [
        | inr long ↦ rw long (inl (RefusedLength (length text), (unreleased, tt, not_within 1026 (length text) long, refl), refl))
        | inl fits ↦
            elim (cases_Bool (nat_lt (waiting s) 16)) [
              | inl few ↦ rw (fits, few) (inr (none fits (ltb-true (waiting s) 16 few), ap (λ (es : List Effect). Sends text ∷ es) (call_tells (finishes (hands moment text s)))))
              | inr full ↦
                  rw (fits, full)
                  (inl (RefusedFull (waiting s), (unreleased, tt, is_within 1026 (length text) fits, ltb-false (waiting s) 16 full, refl), refl))
            ]
      ]
    where
      unreleased : IsUnreleasedEnd end
      unreleased why met = let e : None ≡ Some why = sym is ∙ met in cc

      none : (nat_le 1 (length text) && nat_le (length text) 1026) ≡ true → waiting s < 16 → (refusal : SendRefusal) → IsRefusalAt end text refusal → ⊥
      none fits few (RefusedReleased why) met = unreleased why met
      none fits few RefusedNotConnected met = met.1 tt
      none fits few (RefusedLength found) met = met.2 (is_within 1026 (length text) fits)
      none fits few (RefusedFull n) met = let many : 16 ≤ n = met.3 in let same : n ≡ waiting s = met.4 in omega (arith)

-- ---- stacks

count_messages : (begun : List ℕ) (ss : List Segment) → length (messages_behind begun ss) ≡ last_segments ss
count_messages begun [] = refl
count_messages begun ((true, octets) ∷ ss) = let rest : length (messages_behind [] ss) ≡ last_segments ss = count_messages [] ss in omega (arith)
count_messages begun ((false, octets) ∷ ss) = count_messages (begun ++ octets) ss

last_in_parts : (n : ℕ) (ss : List Segment) → last_segments (take n ss) + last_segments (drop n ss) ≡ last_segments ss
last_in_parts zero ss = omega arith
last_in_parts (suc n) [] = refl
last_in_parts (suc n) ((true, octets) ∷ ss) = let rest : last_segments (take n ss) + last_segments (drop n ss) ≡ last_segments ss = last_in_parts n ss in omega (arith)
last_in_parts (suc n) ((false, octets) ∷ ss) = last_in_parts n ss

-- the first of the tests that fails says why
abbrev FirstFails : Option Release → (connected fits full : Bool) → (found waits : ℕ) → Option SendRefusal → Type 0
FirstFails o connected fits full found waits None = (o ≡ None) × (connected ≡ true) × (fits ≡ true) × (full ≡ false)
FirstFails o connected fits full found waits (Some (RefusedReleased why)) = o ≡ Some why
FirstFails o connected fits full found waits (Some RefusedNotConnected) = (o ≡ None) × (connected ≡ false)
FirstFails o connected fits full found waits (Some (RefusedLength n)) = (o ≡ None) × (connected ≡ true) × (fits ≡ false) × (n ≡ found)
FirstFails o connected fits full found waits (Some (RefusedFull n)) = (o ≡ None) × (connected ≡ true) × (fits ≡ true) × (full ≡ true) × (n ≡ waits)

tests_fail : (connected fits full : Bool) (found waits : ℕ)
    → FirstFails None connected fits full found waits (
    if not connected then Some RefusedNotConnected
    else if not fits then Some (RefusedLength found)
    else if full then Some (RefusedFull waits)
    else None
    )
tests_fail false fits full found waits = (refl, refl)
tests_fail true false full found waits = (refl, refl, refl, refl)
tests_fail true true true found waits = (refl, refl, refl, refl, refl)
tests_fail true true false found waits = (refl, refl, refl, refl)

first_fails : (o : Option Release) (connected : Bool) (text : List ℕ) (waits : ℕ)
    → FirstFails o connected (is_message text) (nat_le 16 waits) (length text) waits (refusal_at o connected text waits)
first_fails (Some why) connected text waits = refl
first_fails None connected text waits = tests_fail connected (is_message text) (nat_le 16 waits) (length text) waits

module _ (m : Stack) (text : List ℕ) (moment : ℕ) where
  abbrev waits : ℕ
  waits = waiting_count m.core.upper.transport

  waits_so : AreWaiting (OfStack m) waits
  waits_so =
      let t = m.core.upper.transport in
      let counted : length (messages_behind [] (drop t.given t.segments)) ≡ last_segments (drop t.given t.segments) = count_messages [] (drop t.given t.segments) in
      let parts : last_segments (take t.given t.segments) + last_segments (drop t.given t.segments) ≡ last_segments t.segments = last_in_parts t.given t.segments in
      omega (arith)

  so_many : (n : ℕ) → AreWaiting (OfStack m) n → n ≡ waits
  so_many n are = let mine : AreWaiting (OfStack m) waits = waits_so in omega (arith)

  unreleased : m.core.released ≡ None → IsUnreleasedEnd (OfStack m)
  unreleased live why met = let e : None ≡ Some why = sym live ∙ met in cc

  unconnected : is_connected m.core.safe.safety.phase ≡ false → MaySend (OfStack m) → ⊥
  unconnected is c = both_ways (is_connected m.core.safe.safety.phase) (is_the_connected m.core.safe.safety.phase c) is

  stack_judged : (q : Option SendRefusal) → refusal_of model text m.core ≡ q
      → FirstFails m.core.released (is_connected m.core.safe.safety.phase) (is_message text) (nat_le 16 waits) (length text) waits q
      → Judged (OfStack m) text (told_unless q (step_send_unless model q moment text m.core))
  stack_judged (Some (RefusedReleased why)) is first = inl (RefusedReleased why, first, refl)
  stack_judged (Some RefusedNotConnected) is first = inl (RefusedNotConnected, (unreleased first.0, unconnected first.1), refl)
  stack_judged (Some (RefusedLength n)) is first =
      inl (RefusedLength n, (unreleased first.0, connected_is m.core.safe.safety.phase first.1, not_within 1023 (length text) first.2, first.3), refl)
  stack_judged (Some (RefusedFull n)) is first =
      inl (
        RefusedFull n,
        (
          unreleased first.0,
          connected_is m.core.safe.safety.phase first.1,
          is_within 1023 (length text) first.2,
          subst (λ (k : ℕ). 16 ≤ k) (sym first.4) (leb-true 16 waits first.3),
          subst (λ (k : ℕ). AreWaiting (OfStack m) k) (sym first.4) waits_so,
        ),
        refl,
      )
  stack_judged None is first = inr (none, kept_tells m.core.upper.used (text ∷ []) (step_send_unless model None moment text m.core) (sends_keep moment text m.core is))
    where
      none : (refusal : SendRefusal) → IsRefusalAt (OfStack m) text refusal → ⊥
      none (RefusedReleased why) met = unreleased first.0 why met
      none RefusedNotConnected met = met.1 (connected_is m.core.safe.safety.phase first.1)
      none (RefusedLength found) met = met.2 (is_within 1023 (length text) first.2)
      none (RefusedFull n) met =
          let full : nat_le 16 waits ≡ true = le-leb 16 waits (subst (λ (k : ℕ). 16 ≤ k) (so_many n met.4) met.3) in
          both_ways (nat_le 16 waits) full first.3

-- ---- any end

judged : (key_of : ℕ → ℕ → Option TripleKey) (moment : ℕ) (end : EndAtLevel) (text : List ℕ) → Judged end text (end_step key_of moment end (event.Send text)).1
judged key_of moment (OfSafe s) text = safe_judged s text s.phase refl
judged key_of moment (OfStation selective s stream) text = station_judged selective s stream text moment s.released refl
judged key_of moment (OfStack m) text =
    stack_judged m text moment (refusal_of model text m.core) refl (first_fails m.core.released (is_connected m.core.safe.safety.phase) text (waiting_count m.core.upper.transport))

pub sends_at : (l : Link) (side : Side) (text : List ℕ) → SendsAt side (end_of l side) text (link_step l (Send side text)).1
sends_at l side text =
    elim (judged (key_on l.opening) l.moment (end_of l side) text) [
      | inl refused ↦ inl (refused.0, refused.1, ap (map (at_end side)) refused.2)
      | inr sends ↦ inr (sends.0, effects_at side (end_step (key_on l.opening) l.moment (end_of l side) (event.Send text)).1 ∙ ap (of_side side) sends.1)
    ]
