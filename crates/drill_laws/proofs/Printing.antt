-- What is printed of a link has the marks by which it is judged, and the lines of one event come in the order of the table.
use Rattle.std.proofs.Common.{◌≡◌, ℕ, ◌≤◌, Bool, true, false, ◌==◌, inl, inr, List, [], ◌∷◌, ◌++◌, map, refl, sym, ap, ◌∙◌, append-nil, arith}
use Rattle.std.specs.Prelude.{Option, Some, None}
use Rattle.std.specs.List.{flat_map, AllByRecursion}
use Rattle.std.proofs.lemmas.Bool.{cases_eq, eq-eqb, ne_eqb, cond_both}
use Rattle.er_base.specs.declared.release.Release.{Release}
use Rattle.des_block.specs.declared.triple_key.TripleKey.{TripleKey}
use Rattle.safety_automaton.specs.Safety.{Safety, SafetyEvent, SafetyOutcome, SentAr, ReleasedLocally, step}
use Rattle.safety_pair_laws.specs.Facts.{SideFact, MarkedFact, heard_in, marked, marked_from}
use Rattle.safety_pair_laws.specs.Marks.{MarksGrow}
use Rattle.hdlc_frames.specs.Framing.{Verdict}
use Rattle.hdlc_station_model.specs.Stations.{Station, settled, is_down}
use Rattle.hdlc_station_model.specs.Calls.{starts, hands, finishes, ticks}
use Rattle.hdlc_station_model.specs.Selective.{receives_as}
use Rattle.hdlc_station_model.specs.Events.{said_octets, news, quits, is_late}
use Rattle.er_end_model.specs.Outcomes.{SendRefusal}
use Rattle.drill_model.specs.Outcomes.{DrillOutcome, Arrived, Frame, Occurrence, facts_at, facts_in}
use Rattle.drill_model.specs.StationEnds.{if_up, if_arrived, if_released, outcomes_told_by_station, station_and_told, frames_heard, heard_parts, payload_refusal_of_station, handed_unless, station_release, if_expired}
use Rattle.drill_model.specs.Ends.{OfSafe, OfStation, OfStack, EndEvent, safety_event, outcomes_by, safe_end_step, station_end_step}
use Rattle.drill_model.specs.Ends as event
use Rattle.drill_model.specs.Worlds.{Came, On, Drained, history_at, history_on, facts_on}
use Rattle.drill_model.specs.Marks.{MarkedOccurrence, MarkedOn, occurrence_with_mark, marks_behind, mark_came, marks_from}
use Rattle.drill_model.specs.Texts.{place_of}
use Rattle.drill_model.specs.Printing.{marks_at, marks_on, PrintedAsMarked, IsRising, station_parts, LinesInOrder}
use Rattle.drill_model.specs.Growth.{HistoryGrows, FactsGrow}
use Rattle.drill_laws.proofs.StackPrinting.{stack_in_order}

-- ---- marks

one_own : (n m : ℕ) (o : Occurrence) → m ≡ n → history_on n (On m o ∷ []) ≡ o ∷ []
one_own n m o e = let same : (m == n) ≡ true = eq-eqb m n e in rw same refl

one_other : (n m : ℕ) (o : Occurrence) → (m ≡ n → ⊥) → history_on n (On m o ∷ []) ≡ []
one_other n m o apart = let differs : (m == n) ≡ false = ne_eqb m n apart in rw differs refl

at_own : (n m : ℕ) (o : Occurrence) → m ≡ n → history_at n (On m o) ≡ o ∷ []
at_own n m o e = let same : (m == n) ≡ true = eq-eqb m n e in rw same refl

at_other : (n m : ℕ) (o : Occurrence) → (m ≡ n → ⊥) → history_at n (On m o) ≡ []
at_other n m o apart = let differs : (m == n) ≡ false = ne_eqb m n apart in rw differs refl

mark_own : (n m : ℕ) (x : MarkedOccurrence) → m ≡ n → marks_at n (MarkedOn m x) ≡ x ∷ []
mark_own n m x e = let same : (m == n) ≡ true = eq-eqb m n e in rw same refl

mark_other : (n m : ℕ) (x : MarkedOccurrence) → (m ≡ n → ⊥) → marks_at n (MarkedOn m x) ≡ []
mark_other n m x apart = let differs : (m == n) ≡ false = ne_eqb m n apart in rw differs refl

module _ (marks_grow : MarksGrow) (grow : HistoryGrows) (facts_grow : FactsGrow) where
  facts_own : (n m : ℕ) (seen : List Came) (o : Occurrence) → m ≡ n
      → marked (facts_on n (seen ++ On m o ∷ [])) ≡ marked (facts_on n seen) ++ marked_from (marked (facts_on n seen)) (facts_at o.side o.outcome)
  facts_own n m seen o e =
      let facts : facts_on n (seen ++ On m o ∷ []) ≡ facts_on n seen ++ facts_at o.side o.outcome =
      ap facts_in (grow n seen (On m o ∷ []) ∙ ap (λ (xs : List Occurrence). history_on n seen ++ xs) (one_own n m o e))
      ∙ facts_grow (history_on n seen) (o ∷ [])
      ∙ ap (λ (fs : List SideFact). facts_on n seen ++ fs) (append-nil (facts_at o.side o.outcome)) in
      ap marked facts ∙ marks_grow [] (facts_on n seen) (facts_at o.side o.outcome)

  facts_other : (n : ℕ) (seen more : List Came) → history_on n more ≡ [] → marked (facts_on n (seen ++ more)) ≡ marked (facts_on n seen)
  facts_other n seen more none =
      ap (λ (h : List Occurrence). marked (facts_in h))
      (grow n seen more ∙ ap (λ (xs : List Occurrence). history_on n seen ++ xs) none ∙ append-nil (history_on n seen))

  printed_behind : (n : ℕ) (seen came : List Came) → marks_on n (marks_from seen came) ≡ marks_behind (marked (facts_on n seen)) (history_on n came)
  printed_behind n seen [] = refl
  printed_behind n seen (On m o ∷ came) =
      let before : List MarkedFact = marked (facts_on n seen) in
      let next : List Came = seen ++ On m o ∷ [] in
      let others : marks_on n (marks_from next came) ≡ marks_behind (marked (facts_on n next)) (history_on n came) = printed_behind n next came in
      elim (cases_eq m n) [
        | inl e ↦
            let first : marks_at n (mark_came seen (On m o)) ≡ occurrence_with_mark before o ∷ [] =
            mark_own n m (occurrence_with_mark (marked (facts_on m seen)) o) e
            ∙ ap (λ (i : ℕ). occurrence_with_mark (marked (facts_on i seen)) o ∷ []) e in
            let rest : marks_behind (marked (facts_on n next)) (history_on n came)
            ≡ marks_behind (before ++ marked_from before (facts_at o.side o.outcome)) (history_on n came) =
            ap (λ (ms : List MarkedFact). marks_behind ms (history_on n came)) (facts_own n m seen o e) in
            ap (λ (xs : List MarkedOccurrence). xs ++ marks_on n (marks_from next came)) first
            ∙ ap (λ (xs : List MarkedOccurrence). occurrence_with_mark before o ∷ xs) (others ∙ rest)
            ∙ ap (λ (h : List Occurrence). marks_behind before (h ++ history_on n came)) (sym (at_own n m o e))
        | inr apart ↦
            let first : marks_at n (mark_came seen (On m o)) ≡ [] = mark_other n m (occurrence_with_mark (marked (facts_on m seen)) o) apart in
            let none : history_on n (On m o ∷ []) ≡ [] = one_other n m o apart in
            ap (λ (xs : List MarkedOccurrence). xs ++ marks_on n (marks_from next came)) first
            ∙ others
            ∙ ap (λ (ms : List MarkedFact). marks_behind ms (history_on n came)) (facts_other n seen (On m o ∷ []) none)
            ∙ ap (λ (h : List Occurrence). marks_behind before (h ++ history_on n came)) (sym (at_other n m o apart))
      ]
  printed_behind n seen (Drained m passes ∷ came) =
      printed_behind n (seen ++ Drained m passes ∷ []) came
      ∙ ap (λ (ms : List MarkedFact). marks_behind ms (history_on n came)) (facts_other n seen (Drained m passes ∷ []) refl)

  pub printed_as_marked : PrintedAsMarked
  printed_as_marked n came = printed_behind n [] came

-- ---- the order of lines

rising_outcomes : (heard : List ℕ) (outcome : SafetyOutcome) → IsRising (flat_map place_of (outcomes_by heard outcome))
rising_outcomes heard (SentAr connection verified sealed octets) = (omega arith, tt)
rising_outcomes heard (ReleasedLocally release octets) = (omega arith, tt)
rising_outcomes heard _ = tt

rising_safe : (key_of : ℕ → ℕ → Option TripleKey) (s : Safety) (event : Option SafetyEvent) → IsRising (flat_map place_of (safe_end_step key_of s event).1)
rising_safe key_of s None = tt
rising_safe key_of s (Some event) = rising_outcomes (heard_in event) (step key_of s event).1

-- frames alone, behind a line of the table
rising_frames : (n : ℕ) (frames : List (List ℕ)) → n ≤ 7 → IsRising (n ∷ flat_map place_of (map Frame frames))
rising_frames n [] small = tt
rising_frames n (f ∷ frames) small = (small, rising_frames 7 frames (omega arith))

only_frames : (frames : List (List ℕ)) → IsRising (flat_map place_of (map Frame frames))
only_frames [] = tt
only_frames (f ∷ frames) = rising_frames 7 frames (omega arith)

-- what a call of a station told
rising_end : (n : ℕ) (released : Option Release) (frames : List (List ℕ)) → n ≤ 6 → IsRising (n ∷ flat_map place_of (if_released released ++ map Frame frames))
rising_end n None frames small = rising_frames n frames (omega arith)
rising_end n (Some release) frames small = (small, rising_frames 6 frames (omega arith))

-- payloads, behind a line of the table
rising_run : (n : ℕ) (more : List (List ℕ)) (released : Option Release) (frames : List (List ℕ)) → n ≤ 3
    → IsRising (n ∷ flat_map place_of ((map Arrived more ++ if_released released) ++ map Frame frames))
rising_run n [] released frames small = rising_end n released frames (omega arith)
rising_run n (p ∷ more) released frames small = (small, rising_run 3 more released frames (omega arith))

only_run : (more : List (List ℕ)) (released : Option Release) (frames : List (List ℕ))
    → IsRising (flat_map place_of ((map Arrived more ++ if_released released) ++ map Frame frames))
only_run [] None frames = only_frames frames
only_run [] (Some release) frames = rising_frames 6 frames (omega arith)
only_run (p ∷ more) released frames = rising_run 3 more released frames (omega arith)

rising_deed : (up : Bool) (payload : Option (List ℕ)) (more : List (List ℕ)) (released : Option Release) (frames : List (List ℕ))
    → IsRising (flat_map place_of (((if_up up ++ (if_arrived payload ++ map Arrived more)) ++ if_released released) ++ map Frame frames))
rising_deed true (Some p) more released frames = (omega arith, rising_run 3 more released frames (omega arith))
rising_deed true None more released frames = rising_run 1 more released frames (omega arith)
rising_deed false (Some p) more released frames = rising_run 3 more released frames (omega arith)
rising_deed false None more released frames = only_run more released frames

rising_told : (t : Station) → IsRising (flat_map place_of (outcomes_told_by_station t))
rising_told t = rising_deed t.deed.up t.deed.payload t.deed.more t.deed.released (said_octets t)

rising_sends : (refusal : Option SendRefusal) (moment : ℕ) (payload : List ℕ) (s : Station) → IsRising (flat_map place_of (handed_unless refusal moment payload s).1)
rising_sends (Some refusal) moment payload s = tt
rising_sends None moment payload s = rising_told (finishes (hands moment payload s))

rising_expired : (late : Bool) (t : Station) → IsRising (flat_map place_of (if_expired late ++ outcomes_told_by_station t))
rising_expired true t = rising_told t
rising_expired false t = rising_told t

rising_releases : (sub : ℕ) (s : Station) → IsRising (flat_map place_of (station_release sub s).1)
rising_releases sub s =
    cond_both (is_down s.phase) (s, []) (station_and_told (quits sub s)) (λ (a : Station × List DrillOutcome). IsRising (flat_map place_of a.1)) (λ e. tt) (λ e. rising_told (quits sub s))

parts_are : (selective : Bool) (moment : ℕ) (verdicts : List Verdict) (s : Station)
    → flat_map (λ (part : List DrillOutcome). part) (heard_parts selective moment verdicts s) ≡ (frames_heard selective moment verdicts s).1
parts_are selective moment [] s = refl
parts_are selective moment (v ∷ vs) s =
    let t : Station = finishes (receives_as selective moment v s) in
    ap (λ (xs : List DrillOutcome). outcomes_told_by_station t ++ xs) (parts_are selective moment vs (settled t))

rising_parts : (selective : Bool) (moment : ℕ) (verdicts : List Verdict) (s : Station)
    → AllByRecursion (λ part. IsRising (flat_map place_of part)) (heard_parts selective moment verdicts s)
rising_parts selective moment [] s = tt
rising_parts selective moment (v ∷ vs) s =
    let t : Station = finishes (receives_as selective moment v s) in
    (rising_told t, rising_parts selective moment vs (settled t))

abbrev IsOrdered : List (List DrillOutcome) → List DrillOutcome → Type 0
IsOrdered parts outcomes = (flat_map (λ (part : List DrillOutcome). part) parts ≡ outcomes) × AllByRecursion (λ part. IsRising (flat_map place_of part)) parts

one_part : (outcomes : List DrillOutcome) → IsRising (flat_map place_of outcomes) → IsOrdered (outcomes ∷ []) outcomes
one_part outcomes rising = (append-nil outcomes, (rising, tt))

ordered_station : (selective : Bool) (moment : ℕ) (s : Station) (stream : List ℕ) (event : EndEvent)
    → IsOrdered (station_parts selective moment s stream event) (station_end_step selective moment s stream event).1
ordered_station selective moment s stream event.Start = one_part _ (rising_told (finishes (starts moment s)))
ordered_station selective moment s stream (event.Receive octets) = (parts_are selective moment (news stream octets) s, rising_parts selective moment (news stream octets) s)
ordered_station selective moment s stream (event.Send payload) = one_part _ (rising_sends (payload_refusal_of_station s payload s.released) moment payload s)
ordered_station selective moment s stream event.Take = one_part [] tt
ordered_station selective moment s stream (event.Release sub) = one_part _ (rising_releases sub s)
ordered_station selective moment s stream event.Tick = one_part _ (rising_expired (is_late moment s) (finishes (ticks moment s)))

pub lines_in_order : LinesInOrder
lines_in_order key_of moment (OfSafe s) event = one_part _ (rising_safe key_of s (safety_event event))
lines_in_order key_of moment (OfStation selective s stream) event = ordered_station selective moment s stream event
lines_in_order key_of moment (OfStack m) event = stack_in_order key_of moment m event
