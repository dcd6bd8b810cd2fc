-- A send is Ok exactly where it isn't refused: what an end tells of each event, at each level.
use Rattle.std.proofs.Common.{◌≡◌, ℕ, zero, suc, ◌+◌, Bool, true, false, if◌then◌else◌, List, [], ◌∷◌, ◌++◌, map, length, length-append, refl, sym, ap, ◌∙◌, subst, arith, Option, Some, None, Ok, Err}
use Rattle.hdlc_station_model.specs.Receiving.{is_some_octets}
use Rattle.std.specs.Prelude.{not, is_some, nat_le, ◌&&◌, ◌==◌}
use Rattle.std.specs.List.{flat_map}
use Rattle.std.proofs.lemmas.List.Concat.{flat_map-append}
use Rattle.er_base.specs.declared.release.Release.{Release}
use Rattle.des_block.specs.declared.triple_key.TripleKey.{TripleKey}
use Rattle.hdlc_frames.specs.Framing.{Verdict}
use Rattle.hdlc_station_model.specs.Stations.{Station, Deed as LinkDeed, is_down}
use Rattle.hdlc_station_model.specs.Calls.{starts as begins_station, hands, ticks as station_ticks, finishes as owes}
use Rattle.hdlc_station_model.specs.Selective.{receives_as}
use Rattle.hdlc_station_model.specs.Events.{said_octets, news, quits, is_late, news as stack_news}
use Rattle.t70_header.specs.Joining as joining
use Rattle.x224_class2.specs.Tpdus.{Dr, Dc}
use Rattle.x224_class2.specs.Refusals.{protocol_error}
use Rattle.x224_class2.specs.Transport.{ReceptionDeed, Nothing, Called, Confirmed, Message, Disconnected}
use Rattle.x224_class2.specs.Transport as transport
use Rattle.sapdu.specs.Spelling.{di_in}
use Rattle.sapdu.specs.Messages.{is_message}
use Rattle.er_base.specs.declared.cause.Cause.TheVariants.{User, BlockRefused, SetUpTimeSpent}
use Rattle.er_base.specs.Causes.{release_of, by_this_end}
use Rattle.safety_automaton.specs.Safety.{no_keys, Safety, Phase, Ready, WaitAu1, WaitAu2, WaitAu3, WaitAr, Connected, Released, SafetyEvent, ConnectRequest, Received, DataRequest, DisconnectRequest, SafetyOutcome, SentAu1, SentAu2, SentAu3, SentAr, ReceivedAr, AcceptedDt, SentDt, Refused, RefusedLength, ReleasedLocally, ReleasedByPeer, NothingDone, peer_flag, sends_dt, sends as sends_side, octets_sent_in_outcome, step}
use Rattle.safety_automaton.specs.Rules.{IsStep, StepsOnly}
use Rattle.safety_automaton.specs.Reports.{Report, ToldAnswered, ToldConnected, ToldAccepted, ToldReleased, ToldIgnored, report_of}
use Rattle.safety_pair_laws.specs.Facts.{Fact, Sent, Sealed, Verified, Connected as ConnectedFact, Accepted, facts_by, heard_in as octets_heard}
use Rattle.er_end_model.specs.Outcomes.{SendRefusal, RefusedNotConnected, RefusedLength as RefusedLong, RefusedFull}
use Rattle.er_end_model.specs.Layers.{Spoken, Core, model}
use Rattle.er_end_model.specs.Steps.{Finds, new_event_at, with_release, hand_tpdu, close_link, send_owed_answer, send_dr, answer_dr, end_after_di, on_safety_release, why_of, with_safety_step, hand_text, skip_message, Carrier, InCr, InCc, InDt, hand_answer, keep_message, on_safety_report, on_text, on_transport_deed, on_joined_block, is_ready, connect_with_text, on_link_up, on_link_told, on_link_deed, hand_next_tpdu, has_next_tpdu, hand_waiting_tpdus, most_offers, conclude_event, step_start, step_frame, is_connected, refusal_at, refusal_of, on_send, step_send_unless, step_take, step_release, is_spent, di_of, on_expiry, step_tick, normal_disconnect}
use Rattle.er_end_model.specs.Ends.{End as Stack, finds_expired}
use Rattle.drill_model.specs.Outcomes.{DrillOutcome, OfSafety, Arrived, Up, Took, NothingToTake, Released as ReleasedOut, Frame}
use Rattle.drill_model.specs.Outcomes as outcome
use Rattle.drill_model.specs.Kinds.{sent_in}
use Rattle.drill_model.specs.StationEnds.{if_up, if_arrived, all_arrived, if_released, if_expired, outcomes_told_by_station, frames_heard, handed_unless}
use Rattle.drill_model.specs.StationEnds as stations
use Rattle.drill_model.specs.StackEnds.{facts_told, outcomes_told_by_stack, stack_told, told_unless, told_of_take}
use Rattle.drill_model.specs.Ends.{EndAtLevel, OfSafe, OfStation, OfStack, EndEvent, Start, Receive, Send, Take, Release as Leave, Tick, safety_event, outcomes_by, safe_end_step, station_end_step, stack_end_step, end_step}
use Rattle.drill_ends.specs.declared.told.Told.{Told}
use Rattle.drill_ends.specs.Tellings.{IsToldFact, IsTold, EachTold, told_outcomes_of, told_outcomes_in}
use Rattle.drill_ends.specs.SendCounts.{is_refusal, begins_refused, sent_at, SendsAreTold}

-- ---- of outcomes

abbrev pub sent_of : List DrillOutcome → ℕ
sent_of os = length (flat_map sent_in os)

abbrev is_refused : DrillOutcome → Bool
is_refused (outcome.Refused refusal) = true
is_refused o = false

abbrev begins_so : List DrillOutcome → Bool
begins_so [] = false
begins_so (o ∷ os) = is_refused o

-- how many sends that were Ok an event is, by its outcomes
abbrev sends_at : EndEvent → List DrillOutcome → ℕ
sends_at Start os = 0
sends_at (Receive octets) os = 0
sends_at (Send octets) os = if begins_so os then 0 else 1
sends_at Take os = 0
sends_at (Leave sub) os = 0
sends_at Tick os = 0

abbrev SendsSo : EndEvent → List DrillOutcome → Type 0
SendsSo event os = sent_of os ≡ sends_at event (told_outcomes_in os)

refused_fact : (fact : Fact) (t : Told) → IsToldFact fact t → is_refusal t ≡ false
refused_fact (Sent user key text) t is = rw is refl
refused_fact (Sealed key text) t is = rw is refl
refused_fact (Verified heard key text) t is = rw is refl
refused_fact (ConnectedFact heard connection text) t is = rw is refl
refused_fact (Accepted heard user key text) t is = rw is refl

refused_alike : (o : DrillOutcome) (t : Told) → IsTold o t → is_refusal t ≡ is_refused o
refused_alike (OfSafety fact) t is = refused_fact fact t is
refused_alike (outcome.Refused refusal) t is = rw is.told_is refl
refused_alike (ReleasedOut release) t is = rw is refl
refused_alike (Frame octets) t is = rw is refl
refused_alike (Arrived payload) t is = rw is refl
refused_alike Up t is = rw is refl
refused_alike (Took message) t is = rw is refl
refused_alike NothingToTake t is = rw is refl
refused_alike o t is = absurd is

begins_alike : (os : List DrillOutcome) (list : List Told) → EachTold os list → begins_refused list ≡ begins_so os
begins_alike [] [] are = refl
begins_alike [] (t ∷ list) are = absurd are
begins_alike (o ∷ os) [] are = absurd are
begins_alike (o ∷ os) (t ∷ list) are = refused_alike o t are.0

sends_alike : (event : EndEvent) (os : List DrillOutcome) (list : List Told) → EachTold os list → sent_at event list ≡ sends_at event os
sends_alike (Send octets) os list are = ap (λ (b : Bool). if b then 0 else 1) (begins_alike os list are)
sends_alike Start os list are = refl
sends_alike (Receive octets) os list are = refl
sends_alike Take os list are = refl
sends_alike (Leave sub) os list are = refl
sends_alike Tick os list are = refl

-- ---- what tells of no send

sent_more : (xs ys : List DrillOutcome) → sent_of xs ≡ 0 → sent_of ys ≡ 0 → sent_of (xs ++ ys) ≡ 0
sent_more xs ys one two =
    ap length (flat_map-append sent_in xs ys) ∙ length-append (flat_map sent_in xs) (flat_map sent_in ys)
    ∙ two_none (sent_of xs) (sent_of ys) one two
  where
    two_none : (n m : ℕ) → n ≡ 0 → m ≡ 0 → n + m ≡ 0
    two_none n m p q = omega (arith, p, q)

frames_unsent : (frames : List (List ℕ)) → sent_of (map Frame frames) ≡ 0
frames_unsent [] = refl
frames_unsent (frame ∷ frames) = frames_unsent frames

frames_begin : (frames : List (List ℕ)) → begins_so (told_outcomes_in (map Frame frames)) ≡ false
frames_begin [] = refl
frames_begin (frame ∷ frames) = refl

released_unsent : (release : Option Release) (frames : List (List ℕ)) → sent_of (if_released release ++ map Frame frames) ≡ 0
released_unsent None frames = frames_unsent frames
released_unsent (Some release) frames = frames_unsent frames

expired_unsent : (b : Bool) (os : List DrillOutcome) → sent_of os ≡ 0 → sent_of (if_expired b ++ os) ≡ 0
expired_unsent true os none = none
expired_unsent false os none = none

-- ---- level safe

-- an outcome that isn't that of a send
abbrev NotData : SafetyEvent → Type 0
NotData ConnectRequest = Unit {0}
NotData (Received octets) = Unit {0}
NotData (DataRequest user) = ⊥
NotData (DisconnectRequest sub) = Unit {0}

module _ (key_of : ℕ → ℕ → Option TripleKey) (s : Safety) (event : SafetyEvent) (other : NotData event) (next : Safety) where
  outcome_unsent : (heard : List ℕ) (o : SafetyOutcome) → IsStep key_of s event next o → sent_of (outcomes_by heard o) ≡ 0
  outcome_unsent heard (SentAu1 octets) row = refl
  outcome_unsent heard (SentAu2 session sealed octets) row = refl
  outcome_unsent heard (SentAu3 session verified sealed octets) row = refl
  outcome_unsent heard (SentAr connection verified sealed octets) row = refl
  outcome_unsent heard (ReceivedAr connection verified) row = refl
  outcome_unsent heard (AcceptedDt session user verified) row = refl
  outcome_unsent heard (SentDt session user sealed octets) row = absurd (subst NotData row.event_is other)
  outcome_unsent heard (Refused refusal) row = refl
  outcome_unsent heard (ReleasedLocally release octets) row = refl
  outcome_unsent heard (ReleasedByPeer release) row = refl
  outcome_unsent heard NothingDone row = refl

  -- and its facts
  facts_unsent : (heard : List ℕ) (o : SafetyOutcome) → IsStep key_of s event next o → sent_of (map OfSafety (facts_by heard o)) ≡ 0
  facts_unsent heard (SentAu1 octets) row = refl
  facts_unsent heard (SentAu2 session sealed octets) row = refl
  facts_unsent heard (SentAu3 session verified sealed octets) row = refl
  facts_unsent heard (SentAr connection verified sealed octets) row = refl
  facts_unsent heard (ReceivedAr connection verified) row = refl
  facts_unsent heard (AcceptedDt session user verified) row = refl
  facts_unsent heard (SentDt session user sealed octets) row = absurd (subst NotData row.event_is other)
  facts_unsent heard (Refused refusal) row = refl
  facts_unsent heard (ReleasedLocally release octets) row = refl
  facts_unsent heard (ReleasedByPeer release) row = refl
  facts_unsent heard NothingDone row = refl

-- a send is Ok or refused
abbrev OneSend : Safety × SafetyOutcome → Type 0
OneSend a = sent_of (outcomes_by [] a.1) ≡ (if begins_so (told_outcomes_in (outcomes_by [] a.1)) then 0 else 1)

unless_one : (b : Bool) (x y : Safety × SafetyOutcome) → OneSend x → OneSend y → OneSend (if not b then x else y)
unless_one true x y hx hy = hy
unless_one false x y hx hy = hx

side_sends : (s : Safety) (phase : Phase) (user : List ℕ) → OneSend (sends_side s phase user)
side_sends s (Released release session) user = refl
side_sends s (Connected peer session) user = unless_one (is_message user) (s, Refused (RefusedLength (length user))) (sends_dt s peer session user) refl refl
side_sends s (Ready peer kmac rb) user = refl
side_sends s (WaitAu1 ra) user = refl
side_sends s (WaitAu2 peer kmac rb) user = refl
side_sends s (WaitAu3 connection) user = refl
side_sends s (WaitAr connection) user = refl

safe_sends : StepsOnly → (key_of : ℕ → ℕ → Option TripleKey) (s : Safety) (event : EndEvent) → SendsSo event (safe_end_step key_of s (safety_event event)).1
safe_sends only key_of s Start = outcome_unsent key_of s ConnectRequest tt (step key_of s ConnectRequest).0 [] (step key_of s ConnectRequest).1 (only key_of s ConnectRequest)
safe_sends only key_of s (Receive octets) = outcome_unsent key_of s (Received octets) tt (step key_of s (Received octets)).0 octets (step key_of s (Received octets)).1 (only key_of s (Received octets))
safe_sends only key_of s (Send user) = side_sends s s.phase user
safe_sends only key_of s Take = refl
safe_sends only key_of s (Leave sub) = outcome_unsent key_of s (DisconnectRequest sub) tt (step key_of s (DisconnectRequest sub)).0 [] (step key_of s (DisconnectRequest sub)).1 (only key_of s (DisconnectRequest sub))
safe_sends only key_of s Tick = refl

-- ---- levels link and link-sr

arrived_unsent : (more : List (List ℕ)) → sent_of (map Arrived more) ≡ 0
arrived_unsent [] = refl
arrived_unsent (payload ∷ more) = arrived_unsent more

up_unsent : (up : Bool) → sent_of (if_up up) ≡ 0
up_unsent true = refl
up_unsent false = refl

payload_unsent : (payload : Option (List ℕ)) → sent_of (if_arrived payload) ≡ 0
payload_unsent None = refl
payload_unsent (Some payload) = refl

release_unsent : (release : Option Release) → sent_of (if_released release) ≡ 0
release_unsent None = refl
release_unsent (Some release) = refl

station_unsent : (s : Station) → sent_of (outcomes_told_by_station s) ≡ 0
station_unsent s =
    sent_more ((if_up s.deed.up ++ all_arrived s.deed) ++ if_released s.deed.released) (map Frame (said_octets s))
    (sent_more (if_up s.deed.up ++ all_arrived s.deed) (if_released s.deed.released)
    (sent_more (if_up s.deed.up) (all_arrived s.deed) (up_unsent s.deed.up)
    (sent_more (if_arrived s.deed.payload) (map Arrived s.deed.more) (payload_unsent s.deed.payload) (arrived_unsent s.deed.more)))
    (release_unsent s.deed.released))
    (frames_unsent (said_octets s))

begins_more : (xs ys : List DrillOutcome) → begins_so (told_outcomes_in xs) ≡ false → begins_so (told_outcomes_in ys) ≡ false → begins_so (told_outcomes_in (xs ++ ys)) ≡ false
begins_more xs ys one two = ap begins_so (flat_map-append told_outcomes_of xs ys) ∙ either (told_outcomes_in xs) (told_outcomes_in ys) one two
  where
    either : (os ps : List DrillOutcome) → begins_so os ≡ false → begins_so ps ≡ false → begins_so (os ++ ps) ≡ false
    either [] ps one two = two
    either (o ∷ os) ps one two = one

arrived_begin : (more : List (List ℕ)) → begins_so (told_outcomes_in (map Arrived more)) ≡ false
arrived_begin [] = refl
arrived_begin (payload ∷ more) = refl

up_begins : (up : Bool) → begins_so (told_outcomes_in (if_up up)) ≡ false
up_begins true = refl
up_begins false = refl

payload_begins : (payload : Option (List ℕ)) → begins_so (told_outcomes_in (if_arrived payload)) ≡ false
payload_begins None = refl
payload_begins (Some payload) = refl

release_begins : (release : Option Release) → begins_so (told_outcomes_in (if_released release)) ≡ false
release_begins None = refl
release_begins (Some release) = refl

station_begins : (s : Station) → begins_so (told_outcomes_in (outcomes_told_by_station s)) ≡ false
station_begins s =
    begins_more ((if_up s.deed.up ++ all_arrived s.deed) ++ if_released s.deed.released) (map Frame (said_octets s))
    (begins_more (if_up s.deed.up ++ all_arrived s.deed) (if_released s.deed.released)
    (begins_more (if_up s.deed.up) (all_arrived s.deed) (up_begins s.deed.up)
    (begins_more (if_arrived s.deed.payload) (map Arrived s.deed.more) (payload_begins s.deed.payload) (arrived_begin s.deed.more)))
    (release_begins s.deed.released))
    (frames_begin (said_octets s))

heard_unsent : (selective : Bool) (moment : ℕ) (verdicts : List Verdict) (s : Station) → sent_of (frames_heard selective moment verdicts s).1 ≡ 0
heard_unsent selective moment [] s = refl
heard_unsent selective moment (verdict ∷ verdicts) s =
    let t : Station = owes (receives_as selective moment verdict s) in
    sent_more (outcomes_told_by_station t) (frames_heard selective moment verdicts (stations.station_and_told t).0).1 (station_unsent t) (heard_unsent selective moment verdicts (stations.station_and_told t).0)

hands_once : (refusal : Option SendRefusal) (moment : ℕ) (payload : List ℕ) (s : Station)
    → let os = (handed_unless refusal moment payload s).1 in sent_of os ≡ (if begins_so (told_outcomes_in os) then 0 else 1)
hands_once (Some refusal) moment payload s = refl
hands_once None moment payload s =
    let t : Station = owes (hands moment payload s) in
    ap suc (station_unsent t) ∙ sym (ap (λ (b : Bool). if b then 0 else 1) (station_begins t))

quits_unsent : (b : Bool) (sub : ℕ) (s : Station) → sent_of (if b then (s, []) else stations.station_and_told (quits sub s)).1 ≡ 0
quits_unsent true sub s = refl
quits_unsent false sub s = station_unsent (quits sub s)

station_sends : (selective : Bool) (moment : ℕ) (s : Station) (stream : List ℕ) (event : EndEvent) → SendsSo event (station_end_step selective moment s stream event).1
station_sends selective moment s stream Start = station_unsent (owes (begins_station moment s))
station_sends selective moment s stream (Receive octets) = heard_unsent selective moment (news stream octets) s
station_sends selective moment s stream (Send payload) = hands_once (stations.payload_refusal_of_station s payload s.released) moment payload s
station_sends selective moment s stream Take = refl
station_sends selective moment s stream (Leave sub) = quits_unsent (is_down s.phase) sub s
station_sends selective moment s stream Tick =
    expired_unsent (is_late moment s) (outcomes_told_by_station (owes (station_ticks moment s))) (station_unsent (owes (station_ticks moment s)))

-- ---- level full: what the safety side said in an event

if_core : (P : Core → Type 0) (b : Bool) (x y : Core) → P x → P y → P (if b then x else y)
if_core P true x y hx hy = hx
if_core P false x y hx hy = hy

module _ (P : Option Spoken → Type 0) where
  abbrev Said : Core → Type 0
  Said x = P x.upper.spoke

  departs_said : (why : Release) (reason : ℕ) (user : List ℕ) (x : Core) → Said x → Said (send_dr model why reason user x)
  departs_said why reason user x h = if_core (λ y. Said (with_release why (close_link model y))) (model.may_send x.line) (hand_tpdu model (Dr reason user) x) x h h

  cut_off_said : (why : Release) (x : Core) → Said x → Said (answer_dr model why x)
  cut_off_said why x h = if_core (λ y. Said (with_release why (send_owed_answer model y))) (model.may_send x.line) (hand_tpdu model Dc x) x h h

  parts_said : (why : Release) (di : List ℕ) (x : Core) → Said x → Said (on_safety_release model why di x)
  parts_said why di x h = if_core Said why.by_peer (end_after_di model why x) (send_dr model why normal_disconnect di x) h (departs_said why normal_disconnect di x h)

  says_said : (text : List ℕ) (x : Core) → Said x → Said (hand_text model text x)
  says_said text x h = if_core Said (is_some_octets text && model.may_hand x.upper) (record x { upper = model.hands_message x.upper text }) x h h

  answers_said : (carrier : Carrier) (text : List ℕ) (x : Core) → Said x → Said (hand_answer model carrier text x)
  answers_said InCr text x h = if_core Said (is_some_octets text) (record x { upper = model.accepts x.upper text }) x h h
  answers_said InCc text x h = says_said text x h
  answers_said InDt text x h = says_said text (skip_message model x) h

  keeps_said : (carrier : Carrier) (user : List ℕ) (x : Core) → Said x → Said (keep_message model carrier user x)
  keeps_said InCr user x h = h
  keeps_said InCc user x h = h
  keeps_said InDt user x h = h

  acts_said : (carrier : Carrier) (report : Report) (octets : List ℕ) (x : Core) → Said x → Said (on_safety_report model carrier report octets x)
  acts_said carrier ToldAnswered octets x h = answers_said carrier octets x h
  acts_said carrier (ToldConnected peer) octets x h = answers_said carrier octets x h
  acts_said carrier (ToldAccepted user) octets x h = keeps_said carrier user x h
  acts_said carrier (ToldReleased why) octets x h = parts_said why octets x h
  acts_said carrier ToldIgnored octets x h = h

  offers_said : (n : ℕ) (x : Core) → Said x → Said (hand_waiting_tpdus model n x)
  unfolding hand_waiting_tpdus
  offers_said zero x h = h
  offers_said (suc n) x h = if_core Said (has_next_tpdu model x) (hand_waiting_tpdus model n (hand_next_tpdu model x)) x (offers_said n (hand_next_tpdu model x) h) h

  concludes_said : (x : Core) → Said x → Said (conclude_event model x)
  concludes_said x h = if_core Said (is_some x.released) x (send_owed_answer model (hand_waiting_tpdus model most_offers x)) h (offers_said most_offers x h)

  module _ (none : P None) where
    starts_said : (now : ℕ) (x : Core) → Said (step_start model now x)
    starts_said now x =
        let y : Core = new_event_at model now x in
        let z : Core = record y { line = model.starts y.moment y.line } in
        if_core Said (is_some y.released) y (conclude_event model z) none (concludes_said z none)

    uses_said : (now : ℕ) (x : Core) → Said (step_take model now x)
    uses_said now x =
        let y : Core = new_event_at model now x in
        let z : Core = record y { upper = model.uses y.upper } in
        if_core Said (model.untaken y.upper == 0) y (conclude_event model z) none (concludes_said z none)

    time_said : (given_up : Option Release) (x : Core) → Said x → Said (on_expiry model given_up x)
    time_said (Some why) x h = h
    time_said None x h =
        let why : Release = release_of SetUpTimeSpent in
        if_core Said (is_spent x) (send_dr model why normal_disconnect (di_of why x.safe.safety) x) x (departs_said why normal_disconnect (di_of why x.safe.safety) x h) h

    ticks_said : (now : ℕ) (x : Core) → Said (step_tick model now x)
    ticks_said now x =
        let y : Core = new_event_at model now x in
        let z : Core = record y { line = model.ticks y.moment y.line } in
        let w : Core = on_expiry model (model.given_up y.moment y.line) z in
        if_core Said (is_some y.released) y (conclude_event model w) none (concludes_said w (time_said (model.given_up y.moment y.line) z none))

    -- a step of the side at an event that isn't a send
    module _ (others : (key_of : ℕ → ℕ → Option TripleKey) (s : Safety) (event : SafetyEvent) → NotData event → P (Some (record { event = event; outcome = (step key_of s event).1 }))) where
      leaves_said : (now sub : ℕ) (x : Core) → Said (step_release model now sub x)
      leaves_said now sub x =
          let y : Core = new_event_at model now x in
          let a : Safety × SafetyOutcome = step no_keys y.safe.safety (DisconnectRequest sub) in
          let z : Core = with_safety_step model (DisconnectRequest sub) a y in
          if_core Said (is_some y.released) y (send_dr model (release_of (User sub)) normal_disconnect (octets_sent_in_outcome a.1) z) none
          (departs_said (release_of (User sub)) normal_disconnect (octets_sent_in_outcome a.1) z (others no_keys y.safe.safety (DisconnectRequest sub) tt))

      text_said : (finds : Finds) (carrier : Carrier) (text : List ℕ) (x : Core) → Said (on_text model finds carrier text x)
      text_said finds carrier text x =
          let a : Safety × SafetyOutcome = step (finds x.moment) x.safe.safety (Received text) in
          acts_said carrier (report_of a.1) (octets_sent_in_outcome a.1) (with_safety_step model (Received text) a x) (others (finds x.moment) x.safe.safety (Received text) tt)

      does_said : (finds : Finds) (deed : ReceptionDeed) (x : Core) → Said x → Said (on_transport_deed model finds deed x)
      does_said finds Nothing x h = h
      does_said finds (Called user) x h = text_said finds InCr user x
      does_said finds (Confirmed user) x h = text_said finds InCc user x
      does_said finds (Message message) x h = text_said finds InDt message x
      does_said finds (Disconnected user) x h = cut_off_said (why_of (di_in user (peer_flag x.safe.safety))) x h
      does_said finds (transport.Refused sub reason) x h = departs_said (by_this_end 2 sub) reason [] x h

      block_said : (finds : Finds) (answer : joining.BlockJoiningResult) (x : Core) → Said x → Said (on_joined_block model finds answer x)
      block_said finds (Ok None) x h = h
      block_said finds (Ok (Some tpdu)) x h = does_said finds (model.deed x.upper tpdu) (record x { upper = model.hears x.upper tpdu }) h
      block_said finds (Err fault) x h = departs_said (release_of BlockRefused) protocol_error [] x h

      connects_said : (text : List ℕ) (x : Core) → Said x → Said (connect_with_text model text x)
      connects_said text x h = if_core Said (is_some_octets text) (record x { upper = model.connects x.upper text }) x h h

      up_said : (x : Core) → Said x → Said (on_link_up model x)
      up_said x h =
          let a : Safety × SafetyOutcome = step no_keys x.safe.safety ConnectRequest in
          let y : Core = with_safety_step model ConnectRequest a x in
          if_core Said (model.may_connect x.upper && is_ready x.safe.safety.phase) (connect_with_text model (octets_sent_in_outcome a.1) y) x
          (connects_said (octets_sent_in_outcome a.1) y (others no_keys x.safe.safety ConnectRequest tt)) h

      link_said : (finds : Finds) (payload : Option (List ℕ)) (up : Bool) (released : Option Release) (x : Core) → Said x → Said (on_link_told model finds payload up released x)
      link_said finds (Some payload) up released x h =
          let joined = joining.block_step x.joined payload in block_said finds joined.1 (record x { joined = joined.0 }) h
      link_said finds None true released x h = up_said x h
      link_said finds None false (Some why) x h = h
      link_said finds None false None x h = h

      comes_said : (finds : Finds) (now : ℕ) (verdict : Verdict) (x : Core) → Said (step_frame model finds now verdict x)
      comes_said finds now verdict x =
          let y : Core = new_event_at model now x in
          let deed : LinkDeed = model.told y.moment verdict y.line in
          let z : Core = record y { line = model.receives y.moment verdict y.line } in
          let w : Core = on_link_deed model finds deed z in
          if_core Said (is_some y.released) y (conclude_event model w) none (concludes_said w (link_said finds deed.payload deed.up deed.released z none))

-- ---- level full

abbrev Unsent : Option Spoken → Type 0
Unsent spoke = sent_of (facts_told spoke) ≡ 0

told_unsent : (x : Core) → Unsent x.upper.spoke → sent_of (outcomes_told_by_stack x) ≡ 0
told_unsent x none =
    sent_more (facts_told x.upper.spoke) (if_released x.leaves ++ map Frame (said_octets x.line)) none (released_unsent x.leaves (said_octets x.line))

-- a send that was Ok, before whatever else is told
abbrev Sends : Option Spoken → Type 0
Sends spoke = (rest : List DrillOutcome) → (sent_of (facts_told spoke ++ rest) ≡ suc (sent_of rest)) × (begins_so (told_outcomes_in (facts_told spoke ++ rest)) ≡ false)

side_sent : (s : Safety) (phase : Phase) (user : List ℕ) → is_connected phase ≡ true → is_message user ≡ true
    → Sends (Some (record { event = DataRequest user; outcome = (sends_side s phase user).1 }))
side_sent s (Connected peer session) user is message rest = rw message (refl, refl)
side_sent s phase user is message rest = absurd (cc)

-- nothing refuses it
may_send : (released : Option Release) (connected : Bool) (user : List ℕ) (waiting : ℕ) → refusal_at released connected user waiting ≡ None
    → (connected ≡ true) × (is_message user ≡ true)
may_send (Some why) connected user waiting none = absurd (cc)
may_send None connected user waiting none = by connected (is_message user) none
  where
    by : (c m : Bool) → (if not c then Some RefusedNotConnected else if not m then Some (RefusedLong (length user)) else if nat_le 16 waiting then Some (RefusedFull waiting) else None) ≡ None
        → (c ≡ true) × (m ≡ true)
    by false m none = absurd (cc)
    by true false none = absurd (cc)
    by true true none = (refl, refl)

sent_once : (now : ℕ) (user : List ℕ) (x : Core) → refusal_of model user x ≡ None → Sends (on_send model user (new_event_at model now x)).upper.spoke
sent_once now user x none =
    let y : Core = new_event_at model now x in
    let a : Safety × SafetyOutcome = step no_keys y.safe.safety (DataRequest user) in
    let z : Core = with_safety_step model (DataRequest user) a y in
    let w : Core = record z { upper = model.sends z.upper user } in
    let may = may_send x.released (is_connected x.safe.safety.phase) user (model.waiting x.upper) none in
    concludes_said Sends (hand_text model (octets_sent_in_outcome a.1) w) (says_said Sends (octets_sent_in_outcome a.1) w (side_sent x.safe.safety x.safe.safety.phase user may.0 may.1))

stack_sends_once : (now : ℕ) (user : List ℕ) (x : Core) (refusal : Option SendRefusal) → refusal_of model user x ≡ refusal
    → let os = told_unless refusal (step_send_unless model refusal now user x) in sent_of os ≡ (if begins_so (told_outcomes_in os) then 0 else 1)
stack_sends_once now user x (Some refusal) is = refl
stack_sends_once now user x None is =
    let y : Core = on_send model user (new_event_at model now x) in
    let rest : List DrillOutcome = if_released y.leaves ++ map Frame (said_octets y.line) in
    let once = sent_once now user x is rest in
    once.0 ∙ ap suc (released_unsent y.leaves (said_octets y.line)) ∙ sym (ap (λ (b : Bool). if b then 0 else 1) once.1)

took_unsent : (message : Option (List ℕ)) (os : List DrillOutcome) → sent_of os ≡ 0 → sent_of (told_of_take message ++ os) ≡ 0
took_unsent None os none = none
took_unsent (Some message) os none = none

module _ (only : StepsOnly) where
  others_unsent : (key_of : ℕ → ℕ → Option TripleKey) (s : Safety) (event : SafetyEvent) → NotData event
      → Unsent (Some (record { event = event; outcome = (step key_of s event).1 }))
  others_unsent key_of s event other = facts_unsent key_of s event other (step key_of s event).0 (octets_heard event) (step key_of s event).1 (only key_of s event)

  stack_unsent : (finds : Finds) (now : ℕ) (verdicts : List Verdict) (x : Core) → sent_of (stack_told finds now verdicts x) ≡ 0
  stack_unsent finds now [] x = refl
  stack_unsent finds now (verdict ∷ verdicts) x =
      let y : Core = step_frame model finds now verdict x in
      sent_more (outcomes_told_by_stack y) (stack_told finds now verdicts y) (told_unsent y (comes_said Unsent refl others_unsent finds now verdict x)) (stack_unsent finds now verdicts y)

  stack_sends_so : (key_of : ℕ → ℕ → Option TripleKey) (now : ℕ) (m : Stack) (event : EndEvent) → SendsSo event (stack_end_step key_of now m event).1
  stack_sends_so key_of now m Start = told_unsent (step_start model now m.core) (starts_said Unsent refl now m.core)
  stack_sends_so key_of now m (Receive octets) = stack_unsent (λ n. key_of) now (stack_news m.stream octets) (new_event_at model now m.core)
  stack_sends_so key_of now m (Send user) = stack_sends_once now user m.core (refusal_of model user m.core) refl
  stack_sends_so key_of now m Take =
      took_unsent (model.oldest m.core.upper) (outcomes_told_by_stack (step_take model now m.core)) (told_unsent (step_take model now m.core) (uses_said Unsent refl now m.core))
  stack_sends_so key_of now m (Leave sub) = told_unsent (step_release model now sub m.core) (leaves_said Unsent refl others_unsent now sub m.core)
  stack_sends_so key_of now m Tick =
      expired_unsent (finds_expired (new_event_at model now m.core)) (outcomes_told_by_stack (step_tick model now m.core)) (told_unsent (step_tick model now m.core) (ticks_said Unsent refl now m.core))

  -- ---- any level

  sends_so : (key_of : ℕ → ℕ → Option TripleKey) (moment : ℕ) (end : EndAtLevel) (event : EndEvent) → SendsSo event (end_step key_of moment end event).1
  sends_so key_of moment (OfSafe s) event = safe_sends only key_of s event
  sends_so key_of moment (OfStation selective s stream) event = station_sends selective moment s stream event
  sends_so key_of moment (OfStack m) event = stack_sends_so key_of moment m event

  -- by what was told
  pub sent_so : SendsAreTold
  sent_so key_of moment end event list are =
      sends_alike event (told_outcomes_in (end_step key_of moment end event).1) list are ∙ sym (sends_so key_of moment end event)
