-- What an event tells of a release: at an end that isn't released either none, or one, with the last frames behind it; at a released end no
-- more than may come there.
use Rattle.std.proofs.Common.{◌≡◌, ◌⊎◌, inl, inr, ℕ, true, false, Bool, List, [], ◌∷◌, ◌++◌, ◌-◌, if◌then◌else◌, length, map, refl, sym, ap, ap₂, subst, ◌∙◌, append-nil, append_assoc}
use Rattle.std.specs.Prelude.{◌==◌, Option, Some, None}
use Rattle.std.specs.List.{flat_map, AllByRecursion}
use Rattle.std.specs.Option.{option_to_list}
use Rattle.std.proofs.lemmas.Bool.{cases_Bool}
use Rattle.std.proofs.lemmas.List.Concat.{flat_map-append}
use Rattle.er_base.specs.declared.release.Release.{Release}
use Rattle.des_block.specs.declared.triple_key.TripleKey.{TripleKey}
use Rattle.hdlc_frames.specs.Framing.{Verdict}
use Rattle.hdlc_station_model.specs.declared.phase.Phase.{Phase as StationPhase}
use Rattle.hdlc_station_model.specs.declared.phase.Phase.TheVariants as phase
use Rattle.hdlc_station_model.specs.Frames.{Frame as LinkFrame, sent_octets}
use Rattle.hdlc_station_model.specs.Stations.{Station, Deed, no_deed, settled, is_down}
use Rattle.hdlc_station_model.specs.Calls.{starts, hands, finishes, ticks}
use Rattle.hdlc_station_model.specs.Selective.{receives_as}
use Rattle.hdlc_station_model.specs.Events.{said_octets, news, quits, is_late}
use Rattle.hdlc_pair_laws.specs.Timers.{TimersStart}
use Rattle.hdlc_pair_laws.specs.Keeping.{TellsWhatStationTakes}
use Rattle.safety_automaton.specs.Safety.{Safety, Phase, Connection, Ready, WaitAu1, WaitAu2, WaitAu3, WaitAr, Connected, SafetyEvent, ConnectRequest, Received, DataRequest, DisconnectRequest, SafetyOutcome, SentAu1, SentAu2, SentAu3, SentAr, ReceivedAr, AcceptedDt, SentDt, ReleasedLocally, ReleasedByPeer, NothingDone, session_in, connects, step_received_octets, sends as sends_side, disconnects, step}
use Rattle.safety_automaton.specs.Safety as safety
use Rattle.safety_automaton.specs.Rules.{StepsOnly, IsStep, StaysIdle, AtReceived, AtDisconnect, AtConnect}
use Rattle.safety_pair_laws.specs.Facts.{heard_in}
use Rattle.er_end_model.specs.Outcomes.{SendRefusal}
use Rattle.er_end_model.specs.Layers.{Core, model}
use Rattle.er_end_model.specs.Steps.{Finds, new_event_at, step_start, step_frame, refusal_of, step_send_unless, step_take, step_release, step_tick}
use Rattle.er_end_model.specs.Ends.{End as Stack, hears_each, finds_expired}
use Rattle.drill_model.specs.Outcomes.{DrillOutcome, Handed, Arrived, Released, Frame}
use Rattle.drill_model.specs.StationEnds.{if_up, if_arrived, all_arrived, if_released, outcomes_told_by_station, station_and_told, frames_heard, payload_refusal_of_station, handed_unless, station_release, if_expired, station_tick, station_start}
use Rattle.drill_model.specs.StackEnds.{facts_told, outcomes_told_by_stack, stack_told, told_unless, told_of_take}
use Rattle.drill_model.specs.Ends.{EndAtLevel, OfSafe, OfStation, OfStack, EndEvent, outcomes_by, safe_end_step, station_end_step, stack_end_step, end_step}
use Rattle.drill_model.specs.Ends as event
use Rattle.drill_model.specs.Kinds.{released_in}
use Rattle.drill_model.specs.Sides.{MayComeBehind}
use Rattle.drill_laws.specs.LawsOfEnds.{StationLaws}
use Rattle.drill_laws.proofs.Tellings.{says_told, LeavesRelease, GivesRelease, either_of, finished}
use Rattle.drill_laws.proofs.StackSaying.{spoke_none, Went as StackWent, starts_went, comes_went, leaves_went, ticks_went, uses_went, sends_went}

-- ---- released ends and others

-- a station that was released, behind its last call
pub record StationRests (why : Release) (s : Station) : Type 0 where
  pub down : is_down s.phase ≡ true
  pub released : s.released ≡ Some why
  pub stopped : s.timer ≡ None
  pub said : s.said ≡ []
  pub told : s.deed ≡ no_deed

-- one that wasn't, between two calls
pub record StationLives (s : Station) : Type 0 where
  pub up : is_down s.phase ≡ false
  pub unreleased : s.released ≡ None
  pub said : s.said ≡ []
  pub told : s.deed ≡ no_deed

abbrev pub Rests : Release → EndAtLevel → Type 0
Rests why (OfSafe s) = (session : Option TripleKey) × (s.phase ≡ safety.Released why session)
Rests why (OfStation selective s stream) = StationRests why s
Rests why (OfStack m) = m.core.released ≡ Some why

abbrev pub Lives : EndAtLevel → Type 0
Lives (OfSafe s) = (why : Release) (session : Option TripleKey) → s.phase ≡ safety.Released why session → ⊥
Lives (OfStation selective s stream) = StationLives s
Lives (OfStack m) = m.core.released ≡ None

-- the releases among outcomes
abbrev pub releases_told : List DrillOutcome → List Release
releases_told os = flat_map released_in os

abbrev pub AllMayCome : Release → List DrillOutcome → Type 0
AllMayCome why os = AllByRecursion (MayComeBehind why) os

-- these outcomes lead to this end: it goes on, or it was released
pub data Answers (next : EndAtLevel) (os : List DrillOutcome) : Type 0 where
  GoesOn : releases_told os ≡ [] → Lives next → Answers next os
  Leaves : (why : Release) (first : List DrillOutcome) (frames : List (List ℕ)) (rest : List DrillOutcome) → os ≡ first ++ Released why ∷ (map Frame frames ++ rest)
      → releases_told first ≡ [] → AllMayCome why rest → Rests why next → Answers next os

-- a released end stays so
abbrev pub StaysReleased : Release → EndAtLevel × List DrillOutcome → Type 0
StaysReleased why a = AllMayCome why a.1 × Rests why a.0

all_append : (why : Release) (xs ys : List DrillOutcome) → AllMayCome why xs → AllMayCome why ys → AllMayCome why (xs ++ ys)
all_append why [] ys hx hy = hy
all_append why (x ∷ xs) ys hx hy = (hx.0, all_append why xs ys hx.1 hy)

-- outcomes that tell no release, and then others
then_answers : (next : EndAtLevel) (before os : List DrillOutcome) → releases_told before ≡ [] → Answers next os → Answers next (before ++ os)
then_answers next before os none (GoesOn quiet lives) =
    GoesOn (flat_map-append released_in before os ∙ ap₂ (λ (a b : List Release). a ++ b) none quiet) lives
then_answers next before os none (Leaves why first frames rest is quiet may rests) =
    Leaves why (before ++ first) frames rest
    (ap (λ (xs : List DrillOutcome). before ++ xs) is ∙ sym (append_assoc before first (Released why ∷ (map Frame frames ++ rest))))
    (flat_map-append released_in before first ∙ ap₂ (λ (a b : List Release). a ++ b) none quiet) may rests

-- ---- level safe

module _ (only : StepsOnly) where
  safe_answers : (key_of : ℕ → ℕ → Option TripleKey) (s : Safety) (given : SafetyEvent) (next : Safety) (heard : List ℕ) (o : SafetyOutcome)
      → Lives (OfSafe s) → IsStep key_of s given next o → Answers (OfSafe next) (outcomes_by heard o)
  safe_answers key_of s given next heard (SentAu1 octets) lives row =
      GoesOn refl (λ why session e. let f = sym (ap (λ (n : Safety). n.phase) row.next_is) ∙ e in cc)
  safe_answers key_of s given next heard (SentAu2 session sealed octets) lives row =
      GoesOn refl (λ why keys e. let f = sym (ap (λ (n : Safety). n.phase) row.next_is) ∙ e in cc)
  safe_answers key_of s given next heard (SentAu3 session verified sealed octets) lives row =
      GoesOn refl (λ why keys e. let f = sym (ap (λ (n : Safety). n.phase) row.next_is) ∙ e in cc)
  safe_answers key_of s given next heard (SentAr connection verified sealed octets) lives row =
      GoesOn refl (λ why keys e. let f = sym (ap (λ (n : Safety). n.phase) row.next_is) ∙ e in cc)
  safe_answers key_of s given next heard (ReceivedAr connection verified) lives row =
      GoesOn refl (λ why keys e. let f = sym (ap (λ (n : Safety). n.phase) row.next_is) ∙ e in cc)
  safe_answers key_of s given next heard (AcceptedDt session user verified) lives row =
      GoesOn refl (subst (λ (n : Safety). Lives (OfSafe n)) (sym row.next_is) lives)
  safe_answers key_of s given next heard (SentDt session user sealed octets) lives row =
      GoesOn refl (subst (λ (n : Safety). Lives (OfSafe n)) (sym row.next_is) lives)
  safe_answers key_of s given next heard (safety.Refused refusal) lives row =
      GoesOn refl (subst (λ (n : Safety). Lives (OfSafe n)) (sym row.next_is) lives)
  safe_answers key_of s given next heard (ReleasedLocally release octets) lives row =
      Leaves release [] (octets ∷ []) [] refl refl tt (session_in s.phase, ap (λ (n : Safety). n.phase) row.releases.next_is)
  safe_answers key_of s given next heard (ReleasedByPeer release) lives row =
      Leaves release [] [] [] refl refl tt (session_in s.phase, ap (λ (n : Safety). n.phase) row.next_is)
  safe_answers key_of s given next heard NothingDone lives row = GoesOn refl (subst (λ (n : Safety). Lives (OfSafe n)) (sym (idle row)) lives)
    where
      idle : StaysIdle s given next → next ≡ s
      idle (AtReceived octets release session is at same) = same
      idle (AtDisconnect sub release session is at same) = same
      idle (AtConnect is unready same) = same

  safe_lives : (key_of : ℕ → ℕ → Option TripleKey) (s : Safety) (given : Option SafetyEvent) → Lives (OfSafe s)
      → Answers (safe_end_step key_of s given).0 (safe_end_step key_of s given).1
  safe_lives key_of s None lives = GoesOn refl lives
  safe_lives key_of s (Some given) lives =
      safe_answers key_of s given (step key_of s given).0 (heard_in given) (step key_of s given).1 lives (only key_of s given)

-- an outcome of a released side
abbrev StaysSafe : Release → List ℕ → Safety × SafetyOutcome → Type 0
StaysSafe why heard a = StaysReleased why (OfSafe a.0, outcomes_by heard a.1)

safe_rests : (key_of : ℕ → ℕ → Option TripleKey) (s : Safety) (given : Option SafetyEvent) (why : Release) → Rests why (OfSafe s) → StaysReleased why (safe_end_step key_of s given)
safe_rests key_of s None why rests = (tt, rests)
safe_rests key_of s (Some ConnectRequest) why rests =
    subst (λ (p : Phase). StaysSafe why [] (connects s p)) (sym rests.1) (tt, rests)
safe_rests key_of s (Some (Received octets)) why rests =
    subst (λ (p : Phase). StaysSafe why octets (step_received_octets key_of s p octets)) (sym rests.1) (tt, rests)
safe_rests key_of s (Some (DataRequest user)) why rests =
    subst (λ (p : Phase). StaysSafe why [] (sends_side s p user)) (sym rests.1) ((refl, tt), rests)
safe_rests key_of s (Some (DisconnectRequest sub)) why rests =
    subst (λ (p : Phase). StaysSafe why [] (disconnects s p sub)) (sym rests.1) (tt, rests)

-- ---- stations

is_down_phase : (p : StationPhase) → is_down p ≡ true → p ≡ phase.Down
is_down_phase phase.Idle down = absurd cc
is_down_phase phase.Setting down = absurd cc
is_down_phase phase.Up down = absurd cc
is_down_phase phase.Down down = refl

not_down : (p : StationPhase) → is_down p ≡ false → p ≡ phase.Down → ⊥
not_down phase.Down up e = cc
not_down _ up e = cc

both_ways : (b : Bool) → b ≡ true → b ≡ false → ⊥
both_ways b t f = let e : true ≡ false = sym t ∙ f in cc

-- the release by an end's own user
abbrev pub by_user : ℕ → Release
by_user sub = record { reason = 0; sub = sub; by_peer = false }

-- what a call tells before its release
abbrev told_first : Station → List DrillOutcome
told_first t = if_up t.deed.up ++ all_arrived t.deed

arrived_tell : (payloads : List (List ℕ)) → releases_told (map Arrived payloads) ≡ []
arrived_tell [] = refl
arrived_tell (payload ∷ payloads) = arrived_tell payloads

first_tells : (up : Bool) (payload : Option (List ℕ)) (more : List (List ℕ)) → releases_told (if_up up ++ (if_arrived payload ++ map Arrived more)) ≡ []
first_tells true (Some payload) more = arrived_tell more
first_tells true None more = arrived_tell more
first_tells false (Some payload) more = arrived_tell more
first_tells false None more = arrived_tell more

module _ (laws : StationLaws) (timers : TimersStart) (selective : Bool) (stream : List ℕ) where
  abbrev of_station : Station → EndAtLevel
  of_station s = OfStation selective s stream

  -- a call led to u, behind these outcomes, which tell no release
  call_answers : (s u : Station) (before : List DrillOutcome) → StationLives s → releases_told before ≡ [] → (LeavesRelease s u ⊎ GivesRelease u)
      → (is_down u.phase ≡ true → u.timer ≡ None) → Answers (of_station (settled u)) (before ++ outcomes_told_by_station u)
  call_answers s u before lives none (inl leaves) stops =
      then_answers (of_station (settled u)) before (outcomes_told_by_station u) none
      (GoesOn ((says_told u).releases_are ∙ ap option_to_list leaves.told)
      (record { up = leaves.down ∙ lives.up; unreleased = leaves.released ∙ lives.unreleased; said = refl; told = refl }))
  call_answers s u before lives none (inr gives) stops =
      then_answers (of_station (settled u)) before (outcomes_told_by_station u) none
      (Leaves gives.release (told_first u) (said_octets u) []
      (ap (λ (r : Option Release). (told_first u ++ if_released r) ++ map Frame (said_octets u)) gives.told
      ∙ append_assoc (told_first u) (Released gives.release ∷ []) (map Frame (said_octets u))
      ∙ ap (λ (os : List DrillOutcome). told_first u ++ Released gives.release ∷ os) (sym (append-nil (map Frame (said_octets u)))))
      (first_tells u.deed.up u.deed.payload u.deed.more) tt
      (record { down = gives.down; released = gives.released; stopped = stops gives.down; said = refl; told = refl }))

  -- with the answer that is still owed
  finish_answers : (s u : Station) (before : List DrillOutcome) → StationLives s → releases_told before ≡ [] → (LeavesRelease s u ⊎ GivesRelease u)
      → (u.phase ≡ phase.Down → u.timer ≡ None) → Answers (of_station (settled (finishes u))) (before ++ outcomes_told_by_station (finishes u))
  finish_answers s u before lives none does stops =
      call_answers s (finishes u) before lives none (finished laws s u does)
      (λ down.
      let was : is_down u.phase ≡ true = sym (ap is_down (laws.finish u).phase) ∙ down in
      ap (λ (t : Station). t.timer) ((laws.inert u was).finishes) ∙ stops (is_down_phase u.phase was))

  was_up : (s : Station) → StationLives s → s.phase ≡ phase.Down → ⊥
  was_up s lives = not_down s.phase lives.up

  starts_answer : (moment : ℕ) (s : Station) → StationLives s → Answers (of_station (station_start moment s).0) (station_start moment s).1
  starts_answer moment s lives =
      finish_answers s (starts moment s) [] lives refl (either_of s (starts moment s) (laws.releases moment s lives.told).2)
      ((timers.starts moment s lives.said).released (was_up s lives))

  hears_answer : (moment : ℕ) (v : Verdict) (s : Station) → StationLives s
      → Answers (of_station (settled (finishes (receives_as selective moment v s)))) (outcomes_told_by_station (finishes (receives_as selective moment v s)))
  hears_answer moment v s lives =
      let u : Station = receives_as selective moment v s in
      let got : TellsWhatStationTakes s u = laws.frames_give selective moment v s lives.told in
      finish_answers s u [] lives refl (either_of s u got.release) ((timers.receives selective moment v s lives.said).released (was_up s lives))

  -- a released station between two calls tells nothing
  rest_told : (s : Station) (why : Release) → StationRests why s → outcomes_told_by_station s ≡ []
  rest_told s why rests =
      ap₂ (λ (d : Deed) (fs : List LinkFrame). ((if_up d.up ++ all_arrived d) ++ if_released d.released) ++ map Frame (map (sent_octets s.calling s.extended) fs)) rests.told rests.said

  rest_settled : (s : Station) (why : Release) → StationRests why s → settled s ≡ s
  rest_settled s why rests = ap₂ (λ (fs : List LinkFrame) (d : Deed). record s { said = fs; deed = d }) (sym rests.said) (sym rests.told)

  rest_called : (s u : Station) (why : Release) → StationRests why s → u ≡ s → station_and_told (finishes u) ≡ (s, [])
  rest_called s u why rests same =
      ap (λ (t : Station). station_and_told (finishes t)) same
      ∙ ap station_and_told ((laws.inert s rests.down).finishes)
      ∙ ap₂ (λ (t : Station) (os : List DrillOutcome). (t, os)) (rest_settled s why rests) (rest_told s why rests)

  frames_rest : (moment : ℕ) (vs : List Verdict) (s : Station) (why : Release) → StationRests why s → frames_heard selective moment vs s ≡ (s, [])
  frames_rest moment [] s why rests = refl
  frames_rest moment (v ∷ vs) s why rests =
      let u : Station = receives_as selective moment v s in
      let same : u ≡ s = (laws.frames_give selective moment v s rests.told).inert rests.down in
      let one : station_and_told (finishes u) ≡ (s, []) = rest_called s u why rests same in
      ap (λ (a : Station × List DrillOutcome). let b = frames_heard selective moment vs a.0 in (b.0, a.1 ++ b.1)) one ∙ frames_rest moment vs s why rests

  -- frames that come behind others
  frames_behind : (moment : ℕ) (vs : List Verdict) (a : Station × List DrillOutcome)
      → ((s : Station) → StationLives s → Answers (of_station (frames_heard selective moment vs s).0) (frames_heard selective moment vs s).1)
      → Answers (of_station a.0) a.1
      → Answers (of_station (frames_heard selective moment vs a.0).0) (a.1 ++ (frames_heard selective moment vs a.0).1)
  frames_behind moment vs a each (GoesOn none lives) =
      then_answers (of_station (frames_heard selective moment vs a.0).0) a.1 (frames_heard selective moment vs a.0).1 none (each a.0 lives)
  frames_behind moment vs a each (Leaves why first frames rest is none may rests) =
      subst (λ (b : Station × List DrillOutcome). Answers (of_station b.0) (a.1 ++ b.1)) (sym (frames_rest moment vs a.0 why rests))
      (Leaves why first frames rest (append-nil a.1 ∙ is) none may rests)

  frames_answer : (moment : ℕ) (vs : List Verdict) (s : Station) → StationLives s
      → Answers (of_station (frames_heard selective moment vs s).0) (frames_heard selective moment vs s).1
  frames_answer moment [] s lives = GoesOn refl lives
  frames_answer moment (v ∷ vs) s lives =
      frames_behind moment vs (station_and_told (finishes (receives_as selective moment v s))) (frames_answer moment vs) (hears_answer moment v s lives)

  sends_answer : (moment : ℕ) (payload : List ℕ) (s : Station) (q : Option SendRefusal) → StationLives s
      → Answers (of_station (handed_unless q moment payload s).0) (handed_unless q moment payload s).1
  sends_answer moment payload s (Some refusal) lives = GoesOn refl lives
  sends_answer moment payload s None lives =
      finish_answers s (hands moment payload s) (Handed payload ∷ []) lives refl
      (either_of s (hands moment payload s) ((laws.releases moment s lives.told).3 payload)) ((timers.hands moment payload s lives.said).released (was_up s lives))

  expired_tells : (b : Bool) → releases_told (if_expired b) ≡ []
  expired_tells true = refl
  expired_tells false = refl

  ticks_answer : (moment : ℕ) (s : Station) → StationLives s → Answers (of_station (station_tick moment s).0) (station_tick moment s).1
  ticks_answer moment s lives =
      finish_answers s (ticks moment s) (if_expired (is_late moment s)) lives (expired_tells (is_late moment s))
      (either_of s (ticks moment s) (laws.releases moment s lives.told).1) ((timers.ticks moment s lives.said).released (was_up s lives))

  releases_at : (sub : ℕ) (s : Station) (b : Bool) → is_down s.phase ≡ b → StationLives s
      → Answers (of_station (if b then (s, []) else station_and_told (quits sub s)).0) (if b then (s, []) else station_and_told (quits sub s)).1
  releases_at sub s true down lives = absurd (both_ways (is_down s.phase) down lives.up)
  releases_at sub s false up lives =
      Leaves (by_user sub) [] (said_octets (quits sub s)) []
      (ap (λ (os : List DrillOutcome). Released (by_user sub) ∷ os) (sym (append-nil (map Frame (said_octets (quits sub s)))))) refl tt
      (record { down = rw up refl; released = refl; stopped = rw up refl; said = refl; told = refl })

  releases_answer : (sub : ℕ) (s : Station) → StationLives s → Answers (of_station (station_release sub s).0) (station_release sub s).1
  releases_answer sub s lives = releases_at sub s (is_down s.phase) refl lives

station_lives : (laws : StationLaws) (timers : TimersStart) (selective : Bool) (moment : ℕ) (s : Station) (stream : List ℕ) (given : EndEvent) → StationLives s
    → Answers (station_end_step selective moment s stream given).0 (station_end_step selective moment s stream given).1
station_lives laws timers selective moment s stream event.Start lives = starts_answer laws timers selective stream moment s lives
station_lives laws timers selective moment s stream (event.Receive octets) lives = frames_answer laws timers selective (stream ++ octets) moment (news stream octets) s lives
station_lives laws timers selective moment s stream (event.Send payload) lives =
    sends_answer laws timers selective stream moment payload s (payload_refusal_of_station s payload s.released) lives
station_lives laws timers selective moment s stream event.Take lives = GoesOn refl lives
station_lives laws timers selective moment s stream (event.Release sub) lives = releases_answer laws timers selective stream sub s lives
station_lives laws timers selective moment s stream event.Tick lives = ticks_answer laws timers selective stream moment s lives

-- an event leaves a released station as it was, and tells no more than may come
station_rests : (laws : StationLaws) (timers : TimersStart) (selective : Bool) (moment : ℕ) (s : Station) (stream : List ℕ) (given : EndEvent) (why : Release) → StationRests why s
    → StaysReleased why (station_end_step selective moment s stream given)
station_rests laws timers selective moment s stream event.Start why rests =
    let same : station_start moment s ≡ (s, []) = rest_called laws timers selective stream s (starts moment s) why rests ((laws.inert s rests.down).starts moment) in
    subst (λ (a : Station × List DrillOutcome). StaysReleased why (OfStation selective a.0 stream, a.1)) (sym same) (tt, rests)
station_rests laws timers selective moment s stream (event.Receive octets) why rests =
    subst (λ (a : Station × List DrillOutcome). StaysReleased why (OfStation selective a.0 (stream ++ octets), a.1))
    (sym (frames_rest laws timers selective stream moment (news stream octets) s why rests)) (tt, rests)
station_rests laws timers selective moment s stream (event.Send payload) why rests =
    subst (λ (o : Option Release). StaysReleased why (
      OfStation selective (handed_unless (payload_refusal_of_station s payload o) moment payload s).0 stream,
      (handed_unless (payload_refusal_of_station s payload o) moment payload s).1,
    )) (sym rests.released) ((refl, tt), rests)
station_rests laws timers selective moment s stream event.Take why rests = (tt, rests)
station_rests laws timers selective moment s stream (event.Release sub) why rests = by_test (is_down s.phase) rests.down
  where
    by_test : (b : Bool) → b ≡ true
        → StaysReleased why (OfStation selective (if b then (s, []) else station_and_told (quits sub s)).0 stream, (if b then (s, []) else station_and_told (quits sub s)).1)
    by_test true down = (tt, rests)
    by_test false up = absurd cc
station_rests laws timers selective moment s stream event.Tick why rests =
    let same : station_and_told (finishes (ticks moment s)) ≡ (s, []) =
    rest_called laws timers selective stream s (ticks moment s) why rests ((laws.inert s rests.down).ticks moment) in
    let stopped : is_late moment s ≡ false = rw rests.stopped refl in
    subst (λ (a : Station × List DrillOutcome). StaysReleased why (OfStation selective a.0 stream, if_expired (is_late moment s) ++ a.1)) (sym same)
    (late_may (is_late moment s) stopped, rests)
  where
    late_may : (b : Bool) → b ≡ false → AllMayCome why (if_expired b ++ [])
    late_may true late = absurd cc
    late_may false late = tt

-- ---- stacks

facts_tell : (x : Core) → releases_told (facts_told x.upper.spoke) ≡ []
facts_tell x = spoke_none released_in (λ fact. refl) x.upper.spoke

-- a call led to a core whose release, if it has one, is that of this call
core_answers : (stream : List ℕ) (x : Core) (left : Option Release) → x.leaves ≡ left → x.leaves ≡ x.released
    → Answers (OfStack (record { stream = stream; core = x })) (outcomes_told_by_stack x)
core_answers stream x None is same =
    let none : releases_told (if_released x.leaves ++ map Frame (said_octets x.line)) ≡ [] =
    ap (λ (r : Option Release). releases_told (if_released r ++ map Frame (said_octets x.line))) is ∙ frames_tell (said_octets x.line) in
    GoesOn (flat_map-append released_in (facts_told x.upper.spoke) (if_released x.leaves ++ map Frame (said_octets x.line)) ∙ ap₂ (λ (a b : List Release). a ++ b) (facts_tell x) none)
    (sym same ∙ is)
  where
    frames_tell : (frames : List (List ℕ)) → releases_told (map Frame frames) ≡ []
    frames_tell [] = refl
    frames_tell (frame ∷ frames) = frames_tell frames
core_answers stream x (Some why) is same =
    Leaves why (facts_told x.upper.spoke) (said_octets x.line) []
    (ap (λ (r : Option Release). facts_told x.upper.spoke ++ (if_released r ++ map Frame (said_octets x.line))) is
    ∙ ap (λ (os : List DrillOutcome). facts_told x.upper.spoke ++ Released why ∷ os) (sym (append-nil (map Frame (said_octets x.line)))))
    (facts_tell x) tt (sym same ∙ is)

none_some : (o : Option Release) (why : Release) → o ≡ None → o ≡ Some why → ⊥
none_some o why none some = let e : None ≡ Some why = sym none ∙ some in cc

-- from a core that isn't released
same_release : (x y : Core) → x.released ≡ None → StackWent x y → y.leaves ≡ y.released
same_release x y live (inl went) = went.1.release_is
same_release x y live (inr rests) = rests.left_is ∙ sym (rests.released_is ∙ live)

went_answers : (stream : List ℕ) (x y : Core) → x.released ≡ None → StackWent x y → Answers (OfStack (record { stream = stream; core = y })) (outcomes_told_by_stack y)
went_answers stream x y live went = core_answers stream y y.leaves refl (same_release x y live went)

-- a frame at a released core
frame_rests : (finds : Finds) (moment : ℕ) (v : Verdict) (x : Core) (why : Release) → x.released ≡ Some why
    → (outcomes_told_by_stack (step_frame model finds moment v x) ≡ []) × ((step_frame model finds moment v x).released ≡ Some why)
frame_rests finds moment v x why is = rw is (refl, refl)

frames_rest_stack : (finds : Finds) (moment : ℕ) (vs : List Verdict) (x : Core) (why : Release) → x.released ≡ Some why
    → (stack_told finds moment vs x ≡ []) × ((hears_each finds moment vs x).released ≡ Some why)
frames_rest_stack finds moment [] x why is = (refl, is)
frames_rest_stack finds moment (v ∷ vs) x why is =
    let y : Core = step_frame model finds moment v x in
    let one = frame_rests finds moment v x why is in
    let more = frames_rest_stack finds moment vs y why one.1 in
    (ap₂ (λ (a b : List DrillOutcome). a ++ b) one.0 more.0, more.1)

module _ (only : StepsOnly) (stream : List ℕ) where
  abbrev of_core : Core → EndAtLevel
  of_core x = OfStack (record { stream = stream; core = x })

  -- frames that come behind a call
  frames_behind_stack : (finds : Finds) (moment : ℕ) (vs : List Verdict) (y : Core)
      → (y.released ≡ None → Answers (of_core (hears_each finds moment vs y)) (stack_told finds moment vs y))
      → Answers (of_core y) (outcomes_told_by_stack y) → Answers (of_core (hears_each finds moment vs y)) (outcomes_told_by_stack y ++ stack_told finds moment vs y)
  frames_behind_stack finds moment vs y each (GoesOn none lives) =
      then_answers (of_core (hears_each finds moment vs y)) (outcomes_told_by_stack y) (stack_told finds moment vs y) none (each lives)
  frames_behind_stack finds moment vs y each (Leaves why first frames rest is none may rests) =
      let more = frames_rest_stack finds moment vs y why rests in
      Leaves why first frames rest (ap (λ (os : List DrillOutcome). outcomes_told_by_stack y ++ os) more.0 ∙ append-nil (outcomes_told_by_stack y) ∙ is) none may more.1

  frames_answer_stack : (finds : Finds) (moment : ℕ) (vs : List Verdict) (x : Core) → x.released ≡ None → Answers (of_core (hears_each finds moment vs x)) (stack_told finds moment vs x)
  frames_answer_stack finds moment [] x live = GoesOn refl live
  frames_answer_stack finds moment (v ∷ vs) x live =
      let y : Core = step_frame model finds moment v x in
      frames_behind_stack finds moment vs y (frames_answer_stack finds moment vs y) (went_answers stream x y live (comes_went only finds moment v x))

sent_answers : (moment : ℕ) (user stream : List ℕ) (x : Core) (q : Option SendRefusal) → refusal_of model user x ≡ q → x.released ≡ None
    → Answers (OfStack (record { stream = stream; core = step_send_unless model q moment user x })) (told_unless q (step_send_unless model q moment user x))
sent_answers moment user stream x (Some refusal) is live = GoesOn refl live
sent_answers moment user stream x None is live = went_answers stream x (step_send_unless model None moment user x) live (sends_went moment user x is)

took_tells : (message : Option (List ℕ)) → releases_told (told_of_take message) ≡ []
took_tells None = refl
took_tells (Some message) = refl

if_late_tells : (b : Bool) → releases_told (if_expired b) ≡ []
if_late_tells true = refl
if_late_tells false = refl

stack_lives : StepsOnly → (key_of : ℕ → ℕ → Option TripleKey) (moment : ℕ) (m : Stack) (given : EndEvent) → m.core.released ≡ None
    → Answers (stack_end_step key_of moment m given).0 (stack_end_step key_of moment m given).1
stack_lives only key_of moment m event.Start live = went_answers m.stream m.core (step_start model moment m.core) live (starts_went moment m.core)
stack_lives only key_of moment m (event.Receive octets) live =
    frames_answer_stack only (m.stream ++ octets) (λ now. key_of) moment (news m.stream octets) (new_event_at model moment m.core) live
stack_lives only key_of moment m (event.Send user) live = sent_answers moment user m.stream m.core (refusal_of model user m.core) refl live
stack_lives only key_of moment m event.Take live =
    let y : Core = step_take model moment m.core in
    then_answers (OfStack (record m { core = y })) (told_of_take (model.oldest m.core.upper)) (outcomes_told_by_stack y) (took_tells (model.oldest m.core.upper))
    (went_answers m.stream m.core y live (uses_went moment m.core))
stack_lives only key_of moment m (event.Release sub) live = went_answers m.stream m.core (step_release model moment sub m.core) live (leaves_went only moment sub m.core)
stack_lives only key_of moment m event.Tick live =
    let y : Core = step_tick model moment m.core in
    let late : Bool = finds_expired (new_event_at model moment m.core) in
    then_answers (OfStack (record m { core = y })) (if_expired late) (outcomes_told_by_stack y) (if_late_tells late)
    (went_answers m.stream m.core y live (ticks_went moment m.core))

took_may : (why : Release) (message : Option (List ℕ)) (os : List DrillOutcome) → os ≡ [] → AllMayCome why (told_of_take message ++ os)
took_may why None os none = (tt, subst (AllMayCome why) (sym none) tt)
took_may why (Some message) os none = (tt, subst (AllMayCome why) (sym none) tt)

stack_rests : (key_of : ℕ → ℕ → Option TripleKey) (moment : ℕ) (m : Stack) (given : EndEvent) (why : Release) → m.core.released ≡ Some why
    → StaysReleased why (stack_end_step key_of moment m given)
stack_rests key_of moment m event.Start why is = rw is (tt, refl)
stack_rests key_of moment m (event.Receive octets) why is =
    let rests = frames_rest_stack (λ now. key_of) moment (news m.stream octets) (new_event_at model moment m.core) why is in
    (subst (AllMayCome why) (sym rests.0) tt, rests.1)
stack_rests key_of moment m (event.Send user) why is = rw is ((refl, tt), refl)
stack_rests key_of moment m event.Take why is =
    let y : Core = step_take model moment m.core in
    let rests : (outcomes_told_by_stack y ≡ []) × (y.released ≡ Some why) = take_rests m.core why is moment in
    (took_may why (model.oldest m.core.upper) (outcomes_told_by_stack y) rests.0, rests.1)
  where
    take_rests : (x : Core) (why : Release) → x.released ≡ Some why → (now : ℕ)
        → (outcomes_told_by_stack (step_take model now x) ≡ []) × ((step_take model now x).released ≡ Some why)
    take_rests x why e now = elim (cases_Bool (length x.upper.accepted - x.upper.used == 0)) [
      | inl none ↦ rw none (refl, e)
      | inr some ↦ rw some (rw e (refl, refl))
    ]
stack_rests key_of moment m (event.Release sub) why is = rw is (tt, refl)
stack_rests key_of moment m event.Tick why is = rw is (tt, refl)

-- ---- any end

pub end_lives : StepsOnly → StationLaws → TimersStart → (key_of : ℕ → ℕ → Option TripleKey) (moment : ℕ) (end : EndAtLevel) (given : EndEvent) → Lives end
    → Answers (end_step key_of moment end given).0 (end_step key_of moment end given).1
end_lives only laws timers key_of moment (OfSafe s) given lives = safe_lives only key_of s (event.safety_event given) lives
end_lives only laws timers key_of moment (OfStation selective s stream) given lives = station_lives laws timers selective moment s stream given lives
end_lives only laws timers key_of moment (OfStack m) given lives = stack_lives only key_of moment m given lives

pub end_rests : StationLaws → TimersStart → (key_of : ℕ → ℕ → Option TripleKey) (moment : ℕ) (end : EndAtLevel) (given : EndEvent) (why : Release) → Rests why end
    → StaysReleased why (end_step key_of moment end given)
end_rests laws timers key_of moment (OfSafe s) given why rests = safe_rests key_of s (event.safety_event given) why rests
end_rests laws timers key_of moment (OfStation selective s stream) given why rests = station_rests laws timers selective moment s stream given why rests
end_rests laws timers key_of moment (OfStack m) given why rests = stack_rests key_of moment m given why rests
