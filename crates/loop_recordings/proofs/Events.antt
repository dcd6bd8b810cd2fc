-- The events of an end, and of the end of a connection of a trace: all that they tell is short.
use Rattle.std.proofs.Common.{◌<◌, ◌≤◌, ℕ, Bool, true, false, List, [], ◌∷◌, ◌++◌, length, Option, Some, None, refl, arith}
use Rattle.std.specs.Prelude.{◌==◌, nat_le, not, is_some, if◌then◌else◌, ◌^◌}
use Rattle.er_base.specs.Octets.{AreOctets}
use Rattle.er_base.specs.declared.release.Release.{Release}
use Rattle.er_base.specs.declared.cause.Cause.{Cause}
use Rattle.er_base.specs.declared.cause.Cause.TheVariants.{SetUpTimeSpent, User, LineEnded, LineFailed, LineStalled}
use Rattle.er_base.specs.Causes.{release_of}
use Rattle.er_settings.specs.Making.{usual_settings}
use Rattle.des_block.specs.declared.triple_key.TripleKey.{TripleKey}
use Rattle.er_trace.specs.declared.entry.Entry.{Entry}
use Rattle.er_trace.specs.declared.event.Event.{Event as Trace_event}
use Rattle.er_trace.specs.declared.event.Event.TheVariants as trace
use Rattle.er_trace.specs.Ranges.{IsInRange}
use Rattle.er_trace.specs.Texts.{AreReadableEntries}
use Rattle.hdlc_frames.specs.Framing.{Verdict}
use Rattle.hdlc_station_model.specs.Stations.{settled}
use Rattle.hdlc_station_model.specs.Calls as station
use Rattle.hdlc_station_model.specs.Events.{news}
use Rattle.sapdu.specs.Messages.{IsMessage, is_message}
use Rattle.safety_automaton.specs.Safety.{no_keys, Safety, SafetyEvent, DataRequest, DisconnectRequest, SafetyOutcome, octets_sent_in_outcome, step as speaks}
use Rattle.safety_automaton.specs.Laws.{IsValid}
use Rattle.er_end_model.specs.Outcomes.{SendRefusal, RefusedNotConnected, RefusedLength, RefusedFull, Outcome}
use Rattle.er_end_model.specs.Steps.{Finds, new_event, new_event_at, send_dr, normal_disconnect, with_safety_step, hand_text, on_link_deed, conclude_event, step_start, step_frame, is_connected, refusal_at}
use Rattle.er_end_model.specs.Steps.{refusal_of, on_send, step_send_unless, step_take, step_release, is_spent, di_of, on_expiry, step_tick, step_break, if_connected, if_accepted, if_released}
use Rattle.er_end_model.specs.Steps.{if_octets, outcomes_of, if_taken}
use Rattle.er_end_model.specs.Layers.{Core, model, written_by}
use Rattle.er_end_model.specs.Ends.{Call, Event, Start, Come, Send, Take, Leave, Tick, Ended, Fault, Stalled, End, core_made, opened, hears_each, told_of_each}
use Rattle.er_end_model.specs.Ends.{with_core, refusal_or_outcomes, step_event}
use Rattle.trace_model.specs.Connections.{goes_on, end_behind_call, happens, happens_at, end_behind, end_at}
use Rattle.loop_recordings.specs.Shorts.{IsShortRefusal, AreShort, OutcomesAreShort}
use Rattle.loop_recordings.proofs.Lists.{Each, IfSome, each_append, each_get}
use Rattle.loop_recordings.proofs.Octets.{Octets, HasOctets, each_of, news_octets}
use Rattle.loop_recordings.proofs.Below.{Below}
use Rattle.loop_recordings.proofs.Lines.{settled_sends}
use Rattle.loop_recordings.proofs.Heard.{Fresh, receives_sends, ticks_sends, starts_sends}
use Rattle.loop_recordings.proofs.Holds.{IsPeer, HoldsOf, holds_if, with_line, one_more_holds, departs_holds, says_holds, spoken_holds, link_holds, concludes_holds}

-- ---- what is told of an end

short_append : (xs ys : List Outcome) → AreShort xs → AreShort ys → AreShort (xs ++ ys)
short_append [] ys h g = g
short_append (x ∷ xs) ys h g = (h.0, short_append xs ys h.1 g)

peers : (peer : Option ℕ) → IfSome IsPeer peer → AreShort (if_connected peer)
peers None h = tt
peers (Some peer) h = (h, tt)

messages : (message : Option (List ℕ)) → IfSome IsMessage message → AreShort (if_accepted message)
messages None h = tt
messages (Some message) h = (h, tt)

takes : (message : Option (List ℕ)) → IfSome IsMessage message → AreShort (if_taken message)
takes None h = (tt, tt)
takes (Some message) h = (h, tt)

releases : (why : Option Release) → AreShort (if_released why)
releases None = tt
releases (Some why) = (tt, tt)

lines : (octets : List ℕ) → length octets ≤ 2700 → AreShort (if_octets octets)
lines [] h = tt
lines (octet ∷ octets) h = (h, tt)

-- seven I frames of 272 octets and three others of 12 are 1,940
told_short : (x : Core) → HoldsOf x 3 → AreShort (outcomes_of model x)
told_short x h =
    let few : length (written_by x.line) ≤ 2700 = omega (arith, h.sends.octets, h.sends.ahead) in
    let a = short_append (if_connected x.connected) (if_accepted x.upper.news) (peers x.connected h.peer) (messages x.upper.news h.newest) in
    let b = short_append _ (if_released x.leaves) a (releases x.leaves) in
    short_append _ (if_octets (written_by x.line)) b (lines (written_by x.line) few)

-- an end between two events
abbrev Rests : Core → Type 0
Rests x = HoldsOf x 3

-- no fewer of them
fewer : (x : Core) (n m : ℕ) → n ≤ m → HoldsOf x n → HoldsOf x m
fewer x n m le h =
    with_line x x.line n m h
    (record { seven = h.sends.seven; order = h.sends.order; ahead = h.sends.ahead; blocks = h.sends.blocks; octets = omega (arith, h.sends.octets, le) })

-- an event has begun
begun_holds : (x : Core) → Rests x → HoldsOf (new_event model x) 0
begun_holds x h =
    record { sends = settled_sends x.line 3 h.sends; begun = h.begun; gives = h.gives; messages = h.messages; newest = tt; valid = h.valid; peer = tt }

module _ (laws : Below) where
  begun_fresh : (x : Core) → Rests x → Fresh laws (settled x.line)
  begun_fresh x h = record { empty = refl; sends = settled_sends x.line 3 h.sends; payload = tt }

  -- ---- the events of an end

  starts_rests : (now : ℕ) (x : Core) → Rests x → Rests (step_start model now x)
  starts_rests now x h =
      let b : Core = new_event_at model now x in
      let g : HoldsOf b 0 = begun_holds x h in
      let s = starts_sends laws b.moment b.line (begun_fresh x h) in
      let y : Core = record b { line = station.starts b.moment b.line } in
      holds_if 3 (is_some x.released) _ _ (λ e. fewer b 0 3 (omega arith) g)
      (λ e. fewer (conclude_event model y) 2 3 (omega arith) (concludes_holds laws y 1 (with_line b y.line 0 1 g s.0)))

  comes_rests : (finds : Finds) (now : ℕ) (verdict : Verdict) (x : Core) → HasOctets verdict → Rests x → Rests (step_frame model finds now verdict x)
  comes_rests finds now verdict x octets h =
      let b : Core = new_event_at model now x in
      let g : HoldsOf b 0 = begun_holds x h in
      let s = receives_sends laws b.moment verdict b.line octets (begun_fresh x h) in
      let y : Core = record b { line = station.receives b.moment verdict b.line } in
      let d = model.told b.moment verdict b.line in
      holds_if 3 (is_some x.released) _ _ (λ e. fewer b 0 3 (omega arith) g)
      (λ e.
      concludes_holds laws (on_link_deed model finds d y) 2 (link_holds laws finds d.payload d.up d.released y 1 s.1 (with_line b y.line 0 1 g s.0)))

  sent_rests : (now : ℕ) (user : List ℕ) (x : Core) → AreOctets user → Rests x → Rests (on_send model user (new_event_at model now x))
  sent_rests now user x octets h =
      let b : Core = new_event_at model now x in
      let event : SafetyEvent = DataRequest user in
      let a : Safety × SafetyOutcome = speaks no_keys b.safe.safety event in
      let y : Core = with_safety_step model event a b in
      let z : Core = record y { upper = model.sends y.upper user } in
      let g : HoldsOf z 0 = spoken_holds laws event a b 0 (laws.stays no_keys b.safe.safety event h.valid octets) (begun_holds x h) in
      fewer (conclude_event model (hand_text model (octets_sent_in_outcome a.1) z)) 1 3 (omega arith)
      (concludes_holds laws (hand_text model (octets_sent_in_outcome a.1) z) 0 (says_holds laws (octets_sent_in_outcome a.1) z 0 g))

  sends_rests : (refusal : Option SendRefusal) (now : ℕ) (user : List ℕ) (x : Core) → AreOctets user → Rests x → Rests (step_send_unless model refusal now user x)
  sends_rests (Some refusal) now user x octets h = h
  sends_rests None now user x octets h = sent_rests now user x octets h

  uses_rests : (now : ℕ) (x : Core) → Rests x → Rests (step_take model now x)
  uses_rests now x h =
      let b : Core = new_event_at model now x in
      let g : HoldsOf b 0 = begun_holds x h in
      let y : Core = record b { upper = model.uses b.upper } in
      let k : HoldsOf y 0 =
      record { sends = g.sends; begun = g.begun; gives = g.gives; messages = g.messages; newest = g.newest; valid = g.valid; peer = g.peer } in
      holds_if 3 (model.untaken b.upper == 0) _ _ (λ e. fewer b 0 3 (omega arith) g)
      (λ e. fewer (conclude_event model y) 1 3 (omega arith) (concludes_holds laws y 0 k))

  leaves_rests : (now sub : ℕ) (x : Core) → sub < 256 → Rests x → Rests (step_release model now sub x)
  leaves_rests now sub x fits h =
      let b : Core = new_event_at model now x in
      let event : SafetyEvent = DisconnectRequest sub in
      let a : Safety × SafetyOutcome = speaks no_keys b.safe.safety event in
      let y : Core = with_safety_step model event a b in
      let g : HoldsOf b 0 = begun_holds x h in
      let k : HoldsOf y 0 = spoken_holds laws event a b 0 (laws.stays no_keys b.safe.safety event h.valid fits) g in
      let why : Release = release_of (User sub) in
      holds_if 3 (is_some x.released) _ _ (λ e. fewer b 0 3 (omega arith) g)
      (λ e.
      fewer (send_dr model why normal_disconnect (octets_sent_in_outcome a.1) y) 1 3 (omega arith)
      (departs_holds laws why normal_disconnect (octets_sent_in_outcome a.1) y 0 (omega (arith, laws.few no_keys b.safe.safety event)) k))

  time_holds : (given_up : Option Release) (x : Core) → HoldsOf x 1 → HoldsOf (on_expiry model given_up x) 2
  time_holds (Some why) x h = one_more_holds x 1 h
  time_holds None x h =
      let why : Release = release_of SetUpTimeSpent in
      holds_if 2 (is_spent x) _ _ (λ e. departs_holds laws why normal_disconnect (di_of why x.safe.safety) x 1 (omega arith) h)
      (λ e. one_more_holds x 1 h)

  ticks_rests : (now : ℕ) (x : Core) → Rests x → Rests (step_tick model now x)
  ticks_rests now x h =
      let b : Core = new_event_at model now x in
      let g : HoldsOf b 0 = begun_holds x h in
      let s = ticks_sends laws b.moment b.line (begun_fresh x h) in
      let y : Core = record b { line = station.ticks b.moment b.line } in
      let why : Option Release = model.given_up b.moment b.line in
      holds_if 3 (is_some x.released) _ _ (λ e. fewer b 0 3 (omega arith) g)
      (λ e. concludes_holds laws (on_expiry model why y) 2 (time_holds why y (with_line b y.line 0 1 g s.0)))

  breaks_rests : (cause : Cause) (x : Core) → Rests x → Rests (step_break model cause x)
  breaks_rests cause x h =
      let b : Core = new_event model x in
      let g : HoldsOf b 3 = fewer b 0 3 (omega arith) (begun_holds x h) in
      holds_if 3 (is_some x.released) _ _ (λ e. g) (λ e. g)

  -- ---- octets, frame by frame

  hears_rests : (finds : Finds) (now : ℕ) (verdicts : List Verdict) (x : Core) → Each HasOctets verdicts → Rests x
      → Rests (hears_each finds now verdicts x) × AreShort (told_of_each finds now verdicts x)
  hears_rests finds now [] x each h = (h, tt)
  hears_rests finds now (verdict ∷ verdicts) x each h =
      let y : Core = step_frame model finds now verdict x in
      let k = comes_rests finds now verdict x each.0 h in
      let r = hears_rests finds now verdicts y each.1 k in
      (r.0, short_append (outcomes_of model y) (told_of_each finds now verdicts y) (told_short y k) r.1)

  -- ---- an event at a moment

  -- what its octets and numbers are
  abbrev Fits : Event → Type 0
  Fits Start = Unit {0}
  Fits (Come finds octets) = Octets octets
  Fits (Send user) = (length user ≤ 4096) × AreOctets user
  Fits Take = Unit {0}
  Fits (Leave sub) = sub < 256
  Fits Tick = Unit {0}
  Fits Ended = Unit {0}
  Fits Fault = Unit {0}
  Fits Stalled = Unit {0}

  abbrev EndRests : End → Type 0
  EndRests m = Octets m.stream × Rests m.core

  refusal_short : (x : Core) (user : List ℕ) → length user ≤ 4096 → Rests x → IfSome IsShortRefusal (refusal_of model user x)
  refusal_short x user few h = at x.released (is_connected x.safe.safety.phase)
    where
      first : (unless : Bool) (refusal : SendRefusal) (rest : Option SendRefusal) → IsShortRefusal refusal → IfSome IsShortRefusal rest
          → IfSome IsShortRefusal (if unless then Some refusal else rest)
      first true refusal rest r g = r
      first false refusal rest r g = g

      at : (released : Option Release) (connected : Bool) → IfSome IsShortRefusal (refusal_at released connected user (model.waiting x.upper))
      at (Some why) connected = tt
      at None connected =
          first (not connected) RefusedNotConnected _ tt
          (first (not (is_message user)) (RefusedLength (length user)) _ (omega (arith, few))
          (first (nat_le 16 (model.waiting x.upper)) (RefusedFull (model.waiting x.upper)) None (omega (arith, h.gives.few)) tt))

  refused_short : (refusal : Option SendRefusal) (told : List Outcome) → IfSome IsShortRefusal refusal → AreShort told → AreShort (refusal_or_outcomes refusal told)
  refused_short None told r h = h
  refused_short (Some refusal) told r h = (r, tt)

  abbrev Comes : End × List Outcome → Type 0
  Comes r = EndRests r.0 × AreShort r.1

  leads : (m : End) (x : Core) → EndRests m → Rests x → Comes (with_core m x, outcomes_of model x)
  leads m x r h = ((r.0, h), told_short x h)

  step_rests : (now : ℕ) (event : Event) (m : End) → Fits event → EndRests m → Comes (step_event now event m)
  step_rests now Start m fits r = leads m (step_start model now m.core) r (starts_rests now m.core r.1)
  step_rests now (Come finds octets) m fits r =
      let b : Core = new_event_at model now m.core in
      let g : Rests b = fewer b 0 3 (omega arith) (begun_holds m.core r.1) in
      let k = hears_rests finds now (news m.stream octets) b (news_octets m.stream octets r.0 fits) g in
      ((each_append _ m.stream octets r.0 fits, k.0), k.1)
  step_rests now (Send user) m fits r =
      let refusal : Option SendRefusal = refusal_of model user m.core in
      let x : Core = step_send_unless model refusal now user m.core in
      let h = sends_rests refusal now user m.core fits.1 r.1 in
      ((r.0, h), refused_short refusal (outcomes_of model x) (refusal_short m.core user fits.0 r.1) (told_short x h))
  step_rests now Take m fits r =
      let x : Core = step_take model now m.core in
      let h = uses_rests now m.core r.1 in
      let oldest : Option (List ℕ) = model.oldest m.core.upper in
      ((r.0, h), short_append (if_taken oldest) (outcomes_of model x) (takes oldest (each_get IsMessage m.core.upper.accepted m.core.upper.used r.1.messages)) (told_short x h))
  step_rests now (Leave sub) m fits r = leads m (step_release model now sub m.core) r (leaves_rests now sub m.core fits r.1)
  step_rests now Tick m fits r = leads m (step_tick model now m.core) r (ticks_rests now m.core r.1)
  step_rests now Ended m fits r = leads m (step_break model LineEnded m.core) r (breaks_rests LineEnded m.core r.1)
  step_rests now Fault m fits r = leads m (step_break model LineFailed m.core) r (breaks_rests LineFailed m.core r.1)
  step_rests now Stalled m fits r = leads m (step_break model LineStalled m.core) r (breaks_rests LineStalled m.core r.1)

  -- ---- the end of a connection

  made_rests : (calls : Bool) (side : Safety) (now : ℕ) → IsValid side → Rests (core_made calls usual_settings side now)
  made_rests calls side now valid = record {
    sends = record { seven = refl; order = omega arith; ahead = omega arith; blocks = tt; octets = omega arith };
    begun = tt;
    gives = record { least = omega arith; most = omega arith; user = tt; cut = tt; few = omega arith; octets = tt };
    messages = tt;
    newest = tt;
    valid = valid;
    peer = tt;
  }

  -- an end that was opened, and what was told
  abbrev Happens : Option End × List Outcome → Type 0
  Happens r = IfSome EndRests r.0 × AreShort r.1

  on_rests : (now : ℕ) (event : Event) (m : Option End) → Fits event → IfSome EndRests m → Happens (goes_on now event m)
  on_rests now event None fits h = (tt, tt)
  on_rests now event (Some m) fits h = step_rests now event m fits h

  called_rests : (now engine rbc rb : ℕ) (kmac : Option TripleKey) (m : Option End) → engine < 16777216 → rbc < 16777216 → rb < 2 ^ 64 → IfSome EndRests m
      → Happens (end_behind_call usual_settings now engine rbc rb kmac m)
  called_rests now engine rbc rb None m e r n h = (h, tt)
  called_rests now engine rbc rb (Some kmac) m e r n h =
      on_rests now Start (Some (opened (Call usual_settings engine rbc kmac rb now))) tt (tt, made_rests true _ now (laws.makes.initiators engine rbc rb kmac e r n))

  happens_rests : (finds : Finds) (now : ℕ) (event : Trace_event) (m : Option End) → IsInRange event → IfSome EndRests m → Happens (happens usual_settings finds now event m)
  happens_rests finds now (trace.Call engine rbc rb) m fits h = called_rests now engine rbc rb (finds now engine rbc) m fits.0 fits.1 fits.2 h
  happens_rests finds now (trace.Answer rbc ra) m fits h = ((tt, made_rests false _ now (laws.makes.responders rbc ra fits.0 fits.1)), tt)
  happens_rests finds now (trace.Octets octets) m fits h = on_rests now (Come finds octets) m (each_of octets fits.1) h
  happens_rests finds now (trace.Send text) m fits h = on_rests now (Send text) m fits h
  happens_rests finds now trace.Take m fits h = on_rests now Take m tt h
  happens_rests finds now (trace.Release sub) m fits h = on_rests now (Leave sub) m fits h
  happens_rests finds now trace.Tick m fits h = on_rests now Tick m tt h
  happens_rests finds now trace.Ended m fits h = on_rests now Ended m tt h
  happens_rests finds now trace.Fault m fits h = on_rests now Fault m tt h
  happens_rests finds now trace.Stalled m fits h = on_rests now Stalled m tt h
  happens_rests finds now (trace.Full count) m fits h = (h, tt)
  happens_rests finds now (trace.Unserved count) m fits h = (h, tt)

  behind_rests : (finds : Finds) (conn : ℕ) (m : Option End) (entries : List Entry) → AreReadableEntries entries → IfSome EndRests m
      → IfSome EndRests (end_behind usual_settings finds conn m entries)
  unfolding end_behind
  behind_rests finds conn m [] readable h = h
  behind_rests finds conn m (entry ∷ entries) readable h =
      behind_rests finds conn (happens_at usual_settings finds conn m entry) entries readable.1
      (one (entry.conn == conn) (happens_rests finds entry.moment entry.event m readable.0.event h).0)
    where
      one : (here : Bool) → IfSome EndRests (happens usual_settings finds entry.moment entry.event m).0
          → IfSome EndRests (if here then (happens usual_settings finds entry.moment entry.event m).0 else m)
      one true g = g
      one false g = h

  pub outcomes_are_short : OutcomesAreShort
  outcomes_are_short finds before entry readable fits =
      (happens_rests finds entry.moment entry.event (end_at usual_settings finds entry.conn before) fits.event
      (behind_rests finds entry.conn None before readable tt)).1
