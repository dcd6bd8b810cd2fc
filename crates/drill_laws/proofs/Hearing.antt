-- What an event at an end tells of octets that the end's safety side heard: only octets that the event gives it, and of any other event nothing.
use Rattle.std.proofs.Common.{◌≡◌, ℕ, if◌then◌else◌, true, false, Bool, List, [], ◌∷◌, ◌++◌, map, refl, sym, ap, subst, ◌∙◌, append_assoc}
use Rattle.std.specs.Prelude.{Option, Some, None}
use Rattle.std.specs.List.{AllByRecursion}
use Rattle.er_base.specs.declared.release.Release.{Release}
use Rattle.des_block.specs.declared.triple_key.TripleKey.{TripleKey}
use Rattle.hdlc_frames.specs.Framing.{Verdict}
use Rattle.safety_automaton.specs.Safety.{Safety, SafetyEvent, ConnectRequest, Received, DataRequest, DisconnectRequest, SafetyOutcome, SentAu1, SentAu2, SentAu3, SentAr, ReceivedAr, AcceptedDt, SentDt, ReleasedLocally, ReleasedByPeer, NothingDone, step}
use Rattle.safety_automaton.specs.Safety as safety
use Rattle.safety_automaton.specs.Rules.{IsStep, StepsOnly}
use Rattle.safety_pair_laws.specs.Facts.{Sent, Sealed, heard_in}
use Rattle.hdlc_station_model.specs.Stations.{Station, settled, is_down}
use Rattle.hdlc_station_model.specs.Selective.{receives_as}
use Rattle.hdlc_station_model.specs.Calls.{starts as station_starts, hands, finishes, ticks as station_ticks}
use Rattle.hdlc_station_model.specs.Events.{news, said_octets, news as station_news, quits, is_late}
use Rattle.er_end_model.specs.Layers.{Spoken, Core, model}
use Rattle.er_end_model.specs.Steps.{new_event_at, step_start, step_frame, refusal_of, step_send_unless, step_take, step_release, step_tick}
use Rattle.er_end_model.specs.Outcomes as stack
use Rattle.er_end_model.specs.Ends.{End as Stack, hears_each, finds_expired}
use Rattle.er_end_model.specs.Giving.{FrameGives, EventsGive}
use Rattle.er_end_model.specs.Outcomes.{SendRefusal}
use Rattle.drill_model.specs.Outcomes.{DrillOutcome, OfSafety, Handed, Arrived, Up, Took, NothingToTake, Refused, Released, Frame, Expired}
use Rattle.drill_model.specs.StationEnds.{if_up, if_arrived, all_arrived, if_released, outcomes_told_by_station, station_and_told, frames_heard, handed_unless, if_expired}
use Rattle.drill_model.specs.StationEnds as on_station
use Rattle.drill_model.specs.StackEnds.{facts_told, outcomes_told_by_stack, stack_told, told_unless, told_of_take}
use Rattle.drill_model.specs.Ends.{EndAtLevel, OfSafe, OfStation, OfStack, EndEvent, Start, Receive, Send, Take, Release as Leave, Tick, send_refusal_from_safety as refused_as, outcomes_by, station_end_step, stack_end_step, end_step}
use Rattle.drill_model.specs.Kinds.{passed_in}
use Rattle.drill_model.specs.Hearing.{heard_by, MakesTextOfOctets, IsHeard}
use Rattle.drill_laws.proofs.Speaking.{Speaks, comes_spoke, sends_spoke, leaves_spoke}

-- ---- lists

pub all_append : {X : Type 0} → (P : X → Type 0) (xs ys : List X) → AllByRecursion P xs → AllByRecursion P ys → AllByRecursion P (xs ++ ys)
all_append P [] ys hx hy = hy
all_append P (x ∷ xs) ys hx hy = (hx.0, all_append P xs ys hx.1 hy)

pub all_implied : {X : Type 0} → (P Q : X → Type 0) → ((x : X) → P x → Q x) → (xs : List X) → AllByRecursion P xs → AllByRecursion Q xs
all_implied P Q by [] h = tt
all_implied P Q by (x ∷ xs) h = (by x h.0, all_implied P Q by xs h.1)

-- ---- outcomes

-- the octets that an outcome says were heard
abbrev pub heard_told : DrillOutcome → Option (List ℕ)
heard_told (OfSafety fact) = heard_by fact
heard_told _ = None

-- an outcome is no pass, and the octets that it says were heard are such
abbrev pub Hears : (List ℕ → Type 0) → DrillOutcome → Type 0
Hears P o = (passed_in o ≡ []) × ((heard : List ℕ) → heard_told o ≡ Some heard → P heard)

abbrev pub AllHear : (List ℕ → Type 0) → List DrillOutcome → Type 0
AllHear P os = AllByRecursion (Hears P) os

abbrev pub Nothing : List ℕ → Type 0
Nothing heard = ⊥

no_some : (P : List ℕ → Type 0) (heard : List ℕ) → None ≡ Some heard → P heard
no_some P heard e = cc

pub silent : (P : List ℕ → Type 0) (o : DrillOutcome) → passed_in o ≡ [] → heard_told o ≡ None → Hears P o
silent P o none deaf = (none, λ heard is. no_some P heard (sym deaf ∙ is))

module _ (P : List ℕ → Type 0) where
  frames_hear : (frames : List (List ℕ)) → AllHear P (map Frame frames)
  frames_hear [] = tt
  frames_hear (frame ∷ frames) = (silent P (Frame frame) refl refl, frames_hear frames)

  up_hears : (up : Bool) → AllHear P (if_up up)
  up_hears true = (silent P Up refl refl, tt)
  up_hears false = tt

  arrived_hears : (payload : Option (List ℕ)) → AllHear P (if_arrived payload)
  arrived_hears None = tt
  arrived_hears (Some payload) = (silent P (Arrived payload) refl refl, tt)

  run_hears : (more : List (List ℕ)) → AllHear P (map Arrived more)
  run_hears [] = tt
  run_hears (payload ∷ more) = (silent P (Arrived payload) refl refl, run_hears more)

  released_hears : (release : Option Release) → AllHear P (if_released release)
  released_hears None = tt
  released_hears (Some release) = (silent P (Released release) refl refl, tt)

  expired_hears : (b : Bool) → AllHear P (if_expired b)
  expired_hears true = (silent P Expired refl refl, tt)
  expired_hears false = tt

  took_hears : (message : Option (List ℕ)) → AllHear P (told_of_take message)
  took_hears None = (silent P NothingToTake refl refl, tt)
  took_hears (Some message) = (silent P (Took message) refl refl, tt)

  rest_hears : (release : Option Release) (frames : List (List ℕ)) → AllHear P (if_released release ++ map Frame frames)
  rest_hears release frames = all_append (Hears P) (if_released release) (map Frame frames) (released_hears release) (frames_hear frames)

  -- ---- levels link and link-sr: a station tells nothing of a safety layer

  station_hears : (s : Station) → AllHear P (outcomes_told_by_station s)
  station_hears s =
      let up : List DrillOutcome = if_up s.deed.up in
      let arrived : List DrillOutcome = all_arrived s.deed in
      let left : List DrillOutcome = if_released s.deed.released in
      all_append (Hears P) ((up ++ arrived) ++ left) (map Frame (said_octets s))
      (all_append (Hears P) (up ++ arrived) left (all_append (Hears P) up arrived (up_hears s.deed.up)
      (all_append (Hears P) (if_arrived s.deed.payload) (map Arrived s.deed.more) (arrived_hears s.deed.payload) (run_hears s.deed.more))) (released_hears s.deed.released))
      (frames_hear (said_octets s))

  heard_frames_hear : (selective : Bool) (moment : ℕ) (verdicts : List Verdict) (s : Station) → AllHear P (frames_heard selective moment verdicts s).1
  heard_frames_hear selective moment [] s = tt
  heard_frames_hear selective moment (verdict ∷ verdicts) s =
      let t : Station = finishes (receives_as selective moment verdict s) in
      let rest : List DrillOutcome = (frames_heard selective moment verdicts (settled t)).1 in
      all_append (Hears P) (outcomes_told_by_station t) rest (station_hears t) (heard_frames_hear selective moment verdicts (settled t))

  handed_hears : (refusal : Option SendRefusal) (moment : ℕ) (payload : List ℕ) (s : Station) → AllHear P (handed_unless refusal moment payload s).1
  handed_hears (Some refusal) moment payload s = (silent P (Refused refusal) refl refl, tt)
  handed_hears None moment payload s = (silent P (Handed payload) refl refl, station_hears (finishes (hands moment payload s)))

  left_hears : (down : Bool) (x y : Station × List DrillOutcome) → AllHear P x.1 → AllHear P y.1 → AllHear P (if down then x else y).1
  left_hears true x y hx hy = hx
  left_hears false x y hx hy = hy

  station_event_hears : (selective : Bool) (moment : ℕ) (s : Station) (stream : List ℕ) (event : EndEvent) → AllHear P (station_end_step selective moment s stream event).1
  station_event_hears selective moment s stream Start = station_hears (finishes (station_starts moment s))
  station_event_hears selective moment s stream (Receive octets) = heard_frames_hear selective moment (station_news stream octets) s
  station_event_hears selective moment s stream (Send payload) = handed_hears (on_station.payload_refusal_of_station s payload s.released) moment payload s
  station_event_hears selective moment s stream Take = tt
  station_event_hears selective moment s stream (Leave sub) = left_hears (is_down s.phase) (s, []) (station_and_told (quits sub s)) tt (station_hears (quits sub s))
  station_event_hears selective moment s stream Tick =
      all_append (Hears P) (if_expired (is_late moment s)) (outcomes_told_by_station (finishes (station_ticks moment s))) (expired_hears (is_late moment s))
      (station_hears (finishes (station_ticks moment s)))

-- ---- a step of a safety side: what its facts say was heard, the event gave it

told_received : (event : SafetyEvent) (octets heard : List ℕ) → event ≡ Received octets → Some (heard_in event) ≡ Some heard → event ≡ Received heard
told_received _ octets heard is e = cc

abbrev IsGot : SafetyEvent → List ℕ → Type 0
IsGot event heard = event ≡ Received heard

row_hears : (key_of : ℕ → ℕ → Option TripleKey) (s : Safety) (event : SafetyEvent) (next : Safety) (outcome : SafetyOutcome) → IsStep key_of s event next outcome
    → AllHear (IsGot event) (outcomes_by (heard_in event) outcome)
row_hears key_of s event next (SentAu1 octets) r = (silent (IsGot event) (Frame octets) refl refl, tt)
row_hears key_of s event next (SentAu2 session sealed octets) r = (silent (IsGot event) (OfSafety (Sealed session sealed)) refl refl, (silent (IsGot event) (Frame octets) refl refl, tt))
row_hears key_of s event next (SentAu3 session verified sealed octets) r = (
  (refl, λ heard e. told_received event r.received.octets heard r.received.event_is e),
  (silent (IsGot event) (OfSafety (Sealed session sealed)) refl refl, (silent (IsGot event) (Frame octets) refl refl, tt)),
)
row_hears key_of s event next (SentAr connection verified sealed octets) r = (
  (refl, λ heard e. told_received event r.received.octets heard r.received.event_is e),
  (silent (IsGot event) (OfSafety (Sealed connection.session sealed)) refl refl, (silent (IsGot event) (Frame octets) refl refl, tt)),
)
row_hears key_of s event next (ReceivedAr connection verified) r = ((refl, λ heard e. told_received event r.received.octets heard r.received.event_is e), tt)
row_hears key_of s event next (AcceptedDt session user verified) r = ((refl, λ heard e. told_received event r.received.octets heard r.received.event_is e), tt)
row_hears key_of s event next (SentDt session user sealed octets) r = (silent (IsGot event) (OfSafety (Sent user session sealed)) refl refl, (silent (IsGot event) (Frame octets) refl refl, tt))
row_hears key_of s event next (safety.Refused refusal) r = (silent (IsGot event) (Refused (refused_as refusal)) refl refl, tt)
row_hears key_of s event next (ReleasedLocally release octets) r =
    (silent (IsGot event) (Released release) refl refl, (silent (IsGot event) (Frame octets) refl refl, tt))
row_hears key_of s event next (ReleasedByPeer release) r = (silent (IsGot event) (Released release) refl refl, tt)
row_hears key_of s event next NothingDone r = tt

facts_hear : (key_of : ℕ → ℕ → Option TripleKey) (s : Safety) (t : Spoken) (next : Safety) (outcome : SafetyOutcome) → t.outcome ≡ outcome
    → IsStep key_of s t.event next outcome → AllHear (IsGot t.event) (facts_told (Some (record { event = t.event; outcome = outcome })))
facts_hear key_of s t next (SentAu1 octets) is r = tt
facts_hear key_of s t next (SentAu2 session sealed octets) is r = (silent (IsGot t.event) (OfSafety (Sealed session sealed)) refl refl, tt)
facts_hear key_of s t next (SentAu3 session verified sealed octets) is r = (
  (refl, λ heard e. told_received t.event r.received.octets heard r.received.event_is e),
  (silent (IsGot t.event) (OfSafety (Sealed session sealed)) refl refl, tt),
)
facts_hear key_of s t next (SentAr connection verified sealed octets) is r = (
  (refl, λ heard e. told_received t.event r.received.octets heard r.received.event_is e),
  (silent (IsGot t.event) (OfSafety (Sealed connection.session sealed)) refl refl, tt),
)
facts_hear key_of s t next (ReceivedAr connection verified) is r = ((refl, λ heard e. told_received t.event r.received.octets heard r.received.event_is e), tt)
facts_hear key_of s t next (AcceptedDt session user verified) is r = ((refl, λ heard e. told_received t.event r.received.octets heard r.received.event_is e), tt)
facts_hear key_of s t next (SentDt session user sealed octets) is r = (silent (IsGot t.event) (OfSafety (Sent user session sealed)) refl refl, tt)
facts_hear key_of s t next _ is r = tt

-- an event that isn't the coming of octets
abbrev pub IsNoReceive : EndEvent → Type 0
IsNoReceive (Receive octets) = ⊥
IsNoReceive _ = Unit {0}

-- the stream of a stack is all octets that it was given
abbrev pub StreamIs : EndAtLevel → List ℕ → Type 0
StreamIs (OfSafe s) octets = Unit {0}
StreamIs (OfStation selective s stream) octets = Unit {0}
StreamIs (OfStack m) octets = m.stream ≡ octets

module _ (only : StepsOnly) (give : EventsGive) (key_of : ℕ → ℕ → Option TripleKey) where
  -- ---- level safe

  safe_hears : (s : Safety) (event : SafetyEvent) → AllHear (IsGot event) (outcomes_by (heard_in event) (step key_of s event).1)
  safe_hears s event = let a : Safety × SafetyOutcome = step key_of s event in row_hears key_of s event a.0 a.1 (only key_of s event)

  safe_deaf : (s : Safety) (event : SafetyEvent) → ((heard : List ℕ) → event ≡ Received heard → ⊥)
      → AllHear Nothing (outcomes_by (heard_in event) (step key_of s event).1)
  safe_deaf s event other =
      all_implied (Hears (IsGot event)) (Hears Nothing) (λ o h. (h.0, λ heard is. other heard (h.1 heard is))) _ (safe_hears s event)

  -- ---- level full: a call of a stack

  -- the step of the safety side, if it took one, was given such octets
  spoke_hears : (P : List ℕ → Type 0) (before : Safety) (spoke : Option Spoken) (after : Safety) → Speaks key_of before spoke after
      → ((t : Spoken) → spoke ≡ Some t → (heard : List ℕ) → t.event ≡ Received heard → P heard) → AllHear P (facts_told spoke)
  spoke_hears P before None after speaks by = tt
  spoke_hears P before (Some t) after speaks by =
      let a : Safety × SafetyOutcome = step key_of before t.event in
      let row : IsStep key_of before t.event a.0 t.outcome =
      subst (λ (o : SafetyOutcome). IsStep key_of before t.event a.0 o) (sym speaks.0) (only key_of before t.event) in
      all_implied (Hears (IsGot t.event)) (Hears P) (λ o h. (h.0, λ heard is. by t refl heard (h.1 heard is))) (facts_told (Some t))
      (facts_hear key_of before t a.0 t.outcome refl row)

  call_hears : (P : List ℕ → Type 0) (before : Safety) (x : Core) → Speaks key_of before x.upper.spoke x.safe.safety
      → ((t : Spoken) → x.upper.spoke ≡ Some t → (heard : List ℕ) → t.event ≡ Received heard → P heard) → AllHear P (outcomes_told_by_stack x)
  call_hears P before x speaks by =
      all_append (Hears P) (facts_told x.upper.spoke) (if_released x.leaves ++ map Frame (said_octets x.line))
      (spoke_hears P before x.upper.spoke x.safe.safety speaks by) (rest_hears P x.leaves (said_octets x.line))

  -- a call in which the safety side took no step
  mute_hears : (P : List ℕ → Type 0) (x : Core) → x.upper.spoke ≡ None → AllHear P (outcomes_told_by_stack x)
  mute_hears P x none =
      let rest : List DrillOutcome = if_released x.leaves ++ map Frame (said_octets x.line) in
      subst (λ (spoke : Option Spoken). AllHear P (facts_told spoke ++ rest)) (sym none) (rest_hears P x.leaves (said_octets x.line))

  sends_deaf : (moment : ℕ) (user : List ℕ) (m : Stack) (refusal : Option stack.SendRefusal)
      → AllHear Nothing (told_unless refusal (step_send_unless model refusal moment user m.core))
  sends_deaf moment user m (Some refusal) = (silent Nothing (Refused refusal) refl refl, tt)
  sends_deaf moment user m None =
      let x : Core = step_send_unless model None moment user m.core in
      call_hears Nothing m.core.safe.safety x (sends_spoke key_of m.core.safe.safety moment user m.core refl)
      (λ t is heard e. other user heard (sym (give.sends moment user m.core t is) ∙ e))
    where
      other : (user heard : List ℕ) → DataRequest user ≡ Received heard → ⊥
      other user heard e = cc

  stack_deaf : (moment : ℕ) (m : Stack) (event : EndEvent) → IsNoReceive event → AllHear Nothing (stack_end_step key_of moment m event).1
  stack_deaf moment m Start none = mute_hears Nothing (step_start model moment m.core) (give.starts moment m.core)
  stack_deaf moment m (Receive octets) none = absurd none
  stack_deaf moment m (Send user) none = sends_deaf moment user m (refusal_of model user m.core)
  stack_deaf moment m Take none =
      let message : Option (List ℕ) = model.oldest m.core.upper in
      all_append (Hears Nothing) (told_of_take message) (outcomes_told_by_stack (step_take model moment m.core)) (took_hears Nothing message)
      (mute_hears Nothing (step_take model moment m.core) (give.uses moment m.core))
  stack_deaf moment m (Leave sub) none =
      let x : Core = step_release model moment sub m.core in
      call_hears Nothing m.core.safe.safety x (leaves_spoke key_of m.core.safe.safety moment sub m.core refl)
      (λ t is heard e. other sub heard (sym (give.leaves moment sub m.core t is) ∙ e))
    where
      other : (sub : ℕ) (heard : List ℕ) → DisconnectRequest sub ≡ Received heard → ⊥
      other sub heard e = cc
  stack_deaf moment m Tick none =
      let found : Bool = finds_expired (new_event_at model moment m.core) in
      all_append (Hears Nothing) (if_expired found) (outcomes_told_by_stack (step_tick model moment m.core)) (expired_hears Nothing found)
      (mute_hears Nothing (step_tick model moment m.core) (give.ticks moment m.core))

  -- ---- level full: frames come

  abbrev behind_each : ℕ → List Verdict → Core → Core
  behind_each moment verdicts x = hears_each (λ now. key_of) moment verdicts x

  hears_more : (moment : ℕ) (verdicts : List Verdict) (verdict : Verdict) (x : Core)
      → behind_each moment (verdicts ++ verdict ∷ []) x ≡ step_frame model (λ now. key_of) moment verdict (behind_each moment verdicts x)
  hears_more moment [] verdict x = refl
  hears_more moment (v ∷ verdicts) verdict x = hears_more moment verdicts verdict (step_frame model (λ now. key_of) moment v x)

  each_hears : (moment : ℕ) (m : Stack) (earlier octets : List ℕ) → m.stream ≡ earlier → (rest first : List Verdict) → news earlier octets ≡ first ++ rest
      → AllHear (MakesTextOfOctets key_of moment m earlier octets) (stack_told (λ now. key_of) moment rest (behind_each moment first (new_event_at model moment m.core)))
  each_hears moment m earlier octets stream [] first split = tt
  each_hears moment m earlier octets stream (v ∷ rest) first split =
      let P : List ℕ → Type 0 = MakesTextOfOctets key_of moment m earlier octets in
      let x : Core = behind_each moment first (new_event_at model moment m.core) in
      let y : Core = step_frame model (λ now. key_of) moment v x in
      let here : AllHear P (outcomes_told_by_stack y) =
      call_hears P x.safe.safety y (comes_spoke key_of x.safe.safety moment v x refl) (λ t is heard e. record {
        stream = stream;
        first = first;
        verdict = v;
        later = rest;
        frames = split;
        made = subst (FrameGives x moment v) e (give.comes (λ now. key_of) moment v x t is);
      }) in
      let there : AllHear P (stack_told (λ now. key_of) moment rest y) =
      subst (λ (z : Core). AllHear P (stack_told (λ now. key_of) moment rest z)) (hears_more moment first v (new_event_at model moment m.core))
      (each_hears moment m earlier octets stream rest (first ++ v ∷ []) (split ∙ sym (append_assoc first (v ∷ []) rest))) in
      all_append (Hears P) (outcomes_told_by_stack y) (stack_told (λ now. key_of) moment rest y) here there

  -- ---- any level

  pub deaf : (moment : ℕ) (end : EndAtLevel) (event : EndEvent) → IsNoReceive event → AllHear Nothing (end_step key_of moment end event).1
  deaf moment (OfSafe s) Start none = safe_deaf s ConnectRequest (λ heard e. cc)
  deaf moment (OfSafe s) (Receive octets) none = absurd none
  deaf moment (OfSafe s) (Send user) none = safe_deaf s (DataRequest user) (λ heard e. cc)
  deaf moment (OfSafe s) Take none = tt
  deaf moment (OfSafe s) (Leave sub) none = safe_deaf s (DisconnectRequest sub) (λ heard e. cc)
  deaf moment (OfSafe s) Tick none = tt
  deaf moment (OfStation selective s stream) event none = station_event_hears Nothing selective moment s stream event
  deaf moment (OfStack m) event none = stack_deaf moment m event none

  pub hears : (moment : ℕ) (end : EndAtLevel) (earlier octets : List ℕ) → StreamIs end earlier
      → AllHear (IsHeard key_of moment end earlier octets) (end_step key_of moment end (Receive octets)).1
  hears moment (OfSafe s) earlier octets stream =
      all_implied (Hears (IsGot (Received octets))) (Hears (λ heard. heard ≡ octets)) (λ o h. (h.0, λ heard is. own heard octets (h.1 heard is))) _
      (safe_hears s (Received octets))
    where
      own : (heard octets : List ℕ) → Received octets ≡ Received heard → heard ≡ octets
      own heard octets e = cc
  hears moment (OfStation selective s stream) earlier octets is = station_event_hears Nothing selective moment s stream (Receive octets)
  hears moment (OfStack m) earlier octets stream =
      subst (λ (before : List ℕ). AllHear (MakesTextOfOctets key_of moment m earlier octets) (stack_told (λ now. key_of) moment (news before octets) (new_event_at model moment m.core)))
      (sym stream) (each_hears moment m earlier octets stream (news earlier octets) [] refl)

  -- an end goes on with the stream that it had, and what it is given
  pub keeps_stream : (moment : ℕ) (end : EndAtLevel) (event : EndEvent) (earlier : List ℕ) → IsNoReceive event → StreamIs end earlier
      → StreamIs (end_step key_of moment end event).0 earlier
  keeps_stream moment (OfSafe s) Start earlier none stream = tt
  keeps_stream moment (OfSafe s) (Receive octets) earlier none stream = absurd none
  keeps_stream moment (OfSafe s) (Send user) earlier none stream = tt
  keeps_stream moment (OfSafe s) Take earlier none stream = tt
  keeps_stream moment (OfSafe s) (Leave sub) earlier none stream = tt
  keeps_stream moment (OfSafe s) Tick earlier none stream = tt
  keeps_stream moment (OfStation selective s own) Start earlier none stream = tt
  keeps_stream moment (OfStation selective s own) (Receive octets) earlier none stream = absurd none
  keeps_stream moment (OfStation selective s own) (Send user) earlier none stream = tt
  keeps_stream moment (OfStation selective s own) Take earlier none stream = tt
  keeps_stream moment (OfStation selective s own) (Leave sub) earlier none stream = tt
  keeps_stream moment (OfStation selective s own) Tick earlier none stream = tt
  keeps_stream moment (OfStack m) Start earlier none stream = stream
  keeps_stream moment (OfStack m) (Receive octets) earlier none stream = absurd none
  keeps_stream moment (OfStack m) (Send user) earlier none stream = stream
  keeps_stream moment (OfStack m) Take earlier none stream = stream
  keeps_stream moment (OfStack m) (Leave sub) earlier none stream = stream
  keeps_stream moment (OfStack m) Tick earlier none stream = stream

  pub grows_stream : (moment : ℕ) (end : EndAtLevel) (octets earlier : List ℕ) → StreamIs end earlier → StreamIs (end_step key_of moment end (Receive octets)).0 (earlier ++ octets)
  grows_stream moment (OfSafe s) octets earlier stream = tt
  grows_stream moment (OfStation selective s own) octets earlier stream = tt
  grows_stream moment (OfStack m) octets earlier stream = ap (λ (before : List ℕ). before ++ octets) stream
