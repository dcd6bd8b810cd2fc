-- An end at which no row of the table is met goes on.
use Rattle.std.proofs.Common.{◌≡◌, ◌⊎◌, inl, inr, ◌∙◌, ◌≤◌, ◌-◌, ℕ, zero, suc, max, Bool, true, false, not, ◌&&◌, ◌||◌, List, [], ◌++◌, length, Option, Some, None, Ok, Err, refl, sym, ap, subst, append_assoc, append-nil, leb-true, option_to_list, All}
use Rattle.std.specs.Prelude.{◌==◌, nat_le, is_some, if◌then◌else◌}
use Rattle.std.proofs.lemmas.Bool.{cond_both, and_parts}
use Rattle.std.proofs.lemmas.List.Elements.{All-nil, All-cons, All-append}
use Rattle.er_base.specs.declared.release.Release.{Release}
use Rattle.er_base.specs.declared.cause.Cause.TheVariants as cause
use Rattle.er_base.specs.Causes.{release_of, by_this_end, by_peer_di}
use Rattle.des_block.specs.declared.triple_key.TripleKey.{TripleKey}
use Rattle.hdlc_frames.specs.Framing.{Verdict}
use Rattle.hdlc_station_model.specs.Stations.{Station, Deed as LinkDeed, settled, is_down}
use Rattle.hdlc_station_model.specs.Receiving.{is_some_octets}
use Rattle.hdlc_station_model.specs.Laws as stations
use Rattle.hdlc_station_model.specs.Reports.{ReleasesAreTold, TellsRelease, is_release}
use Rattle.t70_header.specs.Blocks.{last_block}
use Rattle.t70_header.specs.Joining as joining
use Rattle.x224_class2.specs.Tpdus.{GivenTpdu, Cr, Cc}
use Rattle.x224_class2.specs.Transport.{Transport, ReceptionDeed, Nothing as NothingCame, Called, Confirmed, Message, Disconnected, TpduTurn, Rest, Opening, Acknowledgement, Data, turn_of, tpdu_at, state_behind, with_given, after_next, reception}
use Rattle.x224_class2.specs.Transport as transport
use Rattle.sapdu.specs.Spelling.{di_in}
use Rattle.sapdu.specs.Messages.{is_message}
use Rattle.safety_automaton.specs.Safety.{no_keys, Safety, Phase, Ready, WaitAu1, WaitAu2, WaitAu3, WaitAr, Connected, SafetyEvent, ConnectRequest, Received, DataRequest, SafetyOutcome, SentAu1, SentAu2, SentAu3, SentAr, ReceivedAr, AcceptedDt, SentDt, Refused, ReleasedLocally, ReleasedByPeer, NothingDone, octets_sent_in_outcome, peer_flag}
use Rattle.safety_automaton.specs.Safety as safety
use Rattle.safety_automaton.specs.Reports.{report_of}
use Rattle.safety_automaton.specs.Rules.{IsOpen, StepsOnly, IsStep, StaysIdle, AtReceived, AtDisconnect, AtConnect}
use Rattle.er_end_model.specs.Steps.{Finds, new_event_at, send_dr, answer_dr, why_of, with_safety_step, hand_text, skip_message, Carrier, InCr, InCc, InDt, hand_answer, keep_message, on_safety_report, on_text, on_transport_deed, on_joined_block, is_ready, connect_with_text, on_link_up, on_link_told, hand_next_tpdu, has_next_tpdu, hand_waiting_tpdus, most_offers, send_owed_answer, conclude_event, step_start, step_frame, on_send, step_take, is_spent, is_connected, di_of, on_expiry, step_tick}
use Rattle.er_end_model.specs.Layers.{Core, model}
use Rattle.er_end_model.specs.Hearing.{text_in_deed, station_behind, IsTextOf}
use Rattle.er_end_model.specs.Releasing.{IsDr, station_at}
use Rattle.er_end_laws.specs.LastTpdus.{LastSent, Nothing, Leaves, Confirms, Disconnects, own_di, FrameEnds, ByStation, ByBareDr, ByTpdu, ByBlock, BySafety, ByPeersDr, ByPeersDi, TimeEnds, ByT1, BySetUp, IsNoLast, IsNoDisc, GoesOn, IsLive}
use Rattle.er_end_laws.proofs.Hearing.{Received as GotFrame, IsOneDeed, received, ticked, handed_down, finished, started}
use Rattle.er_end_laws.proofs.Ending.{gave, reception_only, unless_released, taken_at, joined_at, heard_at, timed_at}

-- ---- what of an end is kept in view

pub record Kept : Type 0 where
  pub released : Option Release
  pub given : List GivenTpdu
  pub line : Station
  pub phase : Phase

abbrev pub kept : Core → Kept
kept y = record { released = y.released; given = gave y; line = y.line; phase = y.safe.safety.phase }

-- in the midst of an event that began at x
pub record Quiet (x : Core) (k : Kept) : Type 0 where
  pub live : k.released ≡ None
  pub tpdus : List GivenTpdu
  pub given : k.given ≡ gave x ++ tpdus
  pub none_last : All IsNoLast tpdus
  pub none_disc : All IsNoDisc k.line.said
  pub link : is_down k.line.phase ≡ is_down x.line.phase
  pub low : k.line.sent ≤ length k.line.handed
  pub open_side : IsOpen k.phase

pub goes_on : (x y : Core) → Quiet x (kept y) → GoesOn x y
goes_on x y q = record { live = q.live; tpdus = q.tpdus; given = q.given; none_last = q.none_last; none_disc = q.none_disc; link = q.link }

pub live_behind : (x y : Core) → Quiet x (kept y) → IsLive y
live_behind x y q = record { released = q.live; open_side = q.open_side; handed = q.low }

kept_if : (b : Bool) (y z : Core) (k : Kept) → kept y ≡ k → kept z ≡ k → kept (if b then y else z) ≡ k
kept_if true y z k h g = h
kept_if false y z k h g = g

same : (x y z : Core) → kept z ≡ kept y → Quiet x (kept y) → Quiet x (kept z)
same x y z e q = subst (Quiet x) (sym e) q

-- ---- the next TPDU is neither a DR nor a DC

turn_gives : (t : Transport) (turn : TpduTurn) → (with_given (state_behind t turn) (tpdu_at t turn)).gave ≡ t.gave ++ option_to_list (tpdu_at t turn)
turn_gives t Rest = sym (append-nil t.gave)
turn_gives t (Opening user) = refl
turn_gives t Acknowledgement = refl
turn_gives t Data = refl

turn_no_last : (t : Transport) (turn : TpduTurn) → All IsNoLast (option_to_list (tpdu_at t turn))
turn_no_last t Rest = All-nil IsNoLast
turn_no_last t (Opening user) =
    All-cons IsNoLast (if t.is_caller then Cr t.credit t.size user else Cc t.credit t.size user) []
    (cond_both t.is_caller (Cr t.credit t.size user) (Cc t.credit t.size user) IsNoLast (λ e. tt) (λ e. tt)) (All-nil IsNoLast)
turn_no_last t Acknowledgement = All-cons IsNoLast _ [] tt (All-nil IsNoLast)
turn_no_last t Data = All-cons IsNoLast _ [] tt (All-nil IsNoLast)

-- ---- what goes down behind an event

next_handed : (x y : Core) → Quiet x (kept y) → Quiet x (kept (hand_next_tpdu model y))
next_handed x y q =
    let t : Transport = y.upper.transport in
    let turn : TpduTurn = turn_of t in
    let g = handed_down y.moment (last_block (model.next y.upper)) y.line q.low q.none_disc in
    record {
      live = q.live;
      tpdus = q.tpdus ++ option_to_list (tpdu_at t turn);
      given = turn_gives t turn ∙ ap (λ (l : List GivenTpdu). l ++ option_to_list (tpdu_at t turn)) q.given ∙ append_assoc (gave x) q.tpdus (option_to_list (tpdu_at t turn));
      none_last = All-append IsNoLast q.tpdus (option_to_list (tpdu_at t turn)) q.none_last (turn_no_last t turn);
      none_disc = g.said;
      link = g.down ∙ q.link;
      low = g.sent;
      open_side = q.open_side;
    }

offered : (n : ℕ) (x y : Core) → Quiet x (kept y) → Quiet x (kept (hand_waiting_tpdus model n y))
unfolding hand_waiting_tpdus
offered zero x y q = q
offered (suc n) x y q =
    cond_both (has_next_tpdu model y) (hand_waiting_tpdus model n (hand_next_tpdu model y)) y (λ z. Quiet x (kept z)) (λ next. offered n x (hand_next_tpdu model y) (next_handed x y q)) (λ none. q)

owed_sent : (x y : Core) → Quiet x (kept y) → Quiet x (kept (send_owed_answer model y))
owed_sent x y q =
    let g = finished y.line q.low q.none_disc in
    record { live = q.live; tpdus = q.tpdus; given = q.given; none_last = q.none_last; none_disc = g.said; link = g.down ∙ q.link; low = g.sent; open_side = q.open_side }

concludes : (x y : Core) → Quiet x (kept y) → Quiet x (kept (conclude_event model y))
concludes x y q =
    let z : Core = hand_waiting_tpdus model most_offers y in
    cond_both (is_some y.released) y (send_owed_answer model z) (λ w. Quiet x (kept w)) (λ gone. q) (λ live. owed_sent x z (offered most_offers x y q))

-- ---- how an event begins

-- its station, which was settled, said no DISC, and is Down no more than it was
begins : (x : Core) (line : Station) (y : Core) → IsLive x → kept y ≡ record { released = x.released; given = gave x; line = line; phase = x.safe.safety.phase }
    → All IsNoDisc line.said → is_down line.phase ≡ is_down x.line.phase → line.sent ≤ length line.handed → Quiet x (kept y)
begins x line y h e said down low =
    subst (Quiet x) (sym e) (record {
      live = h.released;
      tpdus = [];
      given = sym (append-nil (gave x));
      none_last = All-nil IsNoLast;
      none_disc = said;
      link = down;
      low = low;
      open_side = h.open_side;
    })

-- its safety side takes a step that leaves it unreleased
steps_to : (x : Core) (y : Core) (event : SafetyEvent) (a : Safety × SafetyOutcome) → Quiet x (kept y) → IsOpen a.0.phase → Quiet x (kept (with_safety_step model event a y))
steps_to x y event a q o = record {
  live = q.live;
  tpdus = q.tpdus;
  given = q.given;
  none_last = q.none_last;
  none_disc = q.none_disc;
  link = q.link;
  low = q.low;
  open_side = o;
}

sends_stay : (s : Safety) (p : Phase) (user : List ℕ) → (safety.sends s p user).0 ≡ s
sends_stay s (Ready peer kmac rb) user = refl
sends_stay s (WaitAu1 ra) user = refl
sends_stay s (WaitAu2 peer kmac rb) user = refl
sends_stay s (WaitAu3 connection) user = refl
sends_stay s (WaitAr connection) user = refl
sends_stay s (Connected peer session) user =
    cond_both (not (is_message user)) (s, safety.Refused (safety.RefusedLength (length user))) (safety.sends_dt s peer session user) (λ (a : Safety × SafetyOutcome). a.0 ≡ s) (λ e. refl) (λ e. refl)
sends_stay s (safety.Released release session) user = refl

connects_open : (s : Safety) (p : Phase) → IsOpen s.phase → IsOpen (safety.connects s p).0.phase
connects_open s (Ready peer kmac rb) o = tt
connects_open s (WaitAu1 ra) o = o
connects_open s (WaitAu2 peer kmac rb) o = o
connects_open s (WaitAu3 connection) o = o
connects_open s (WaitAr connection) o = o
connects_open s (Connected peer session) o = o
connects_open s (safety.Released release session) o = o

-- ---- what changes nothing in view

kept_says : (text : List ℕ) (y : Core) → kept (hand_text model text y) ≡ kept y
kept_says text y = kept_if (is_some_octets text && model.may_hand y.upper) _ y (kept y) refl refl

kept_answers : (by : Carrier) (text : List ℕ) (y : Core) → kept (hand_answer model by text y) ≡ kept y
kept_answers InCr text y = kept_if (is_some_octets text) _ y (kept y) refl refl
kept_answers InCc text y = kept_says text y
kept_answers InDt text y = kept_says text (skip_message model y)

kept_keeps : (by : Carrier) (user : List ℕ) (y : Core) → kept (keep_message model by user y) ≡ kept y
kept_keeps InCr user y = refl
kept_keeps InCc user y = refl
kept_keeps InDt user y = refl

not_true : (b : Bool) → not b ≡ true → b ≡ false
not_true true e = absurd cc
not_true false e = refl

-- a station that told no release is Down where it was
down_as : (s t : Station) → TellsRelease s t → t.deed.released ≡ None → is_down t.phase ≡ is_down s.phase
down_as s t d e = d.down ∙ ap (λ (r : Option Release). is_down s.phase || is_release r) e ∙ or_false (is_down s.phase)
  where
    or_false : (b : Bool) → (b || false) ≡ b
    or_false true = refl
    or_false false = refl

module _ (told : ReleasesAreTold) where
  -- ---- the events at which no row can be met

  pub start_quiet : (now : ℕ) (x : Core) → IsLive x → Quiet x (kept (step_start model now x))
  start_quiet now x h =
      let b : Core = new_event_at model now x in
      let z : Core = record b { line = model.starts b.moment b.line } in
      let g = started b.moment (settled x.line) h.handed (All-nil IsNoDisc) in
      subst (λ (y : Core). Quiet x (kept y)) (sym (unless_released x b (conclude_event model z) h.released)) (concludes x z (begins x z.line z h refl g.said g.down g.sent))

  pub send_quiet : (now : ℕ) (user : List ℕ) (x : Core) → IsLive x → Quiet x (kept (on_send model user (new_event_at model now x)))
  send_quiet now user x h =
      let b : Core = new_event_at model now x in
      let a : Safety × SafetyOutcome = safety.step no_keys x.safe.safety (DataRequest user) in
      let y : Core = with_safety_step model (DataRequest user) a b in
      let z : Core = record y { upper = model.sends y.upper user } in
      let w : Core = hand_text model (octets_sent_in_outcome a.1) z in
      let o : IsOpen a.0.phase = subst (λ (t : Safety). IsOpen t.phase) (sym (sends_stay x.safe.safety x.safe.safety.phase user)) h.open_side in
      let q : Quiet x (kept y) = steps_to x b (DataRequest user) a (begins x (settled x.line) b h refl (All-nil IsNoDisc) refl h.handed) o in
      concludes x w (same x y w (kept_says (octets_sent_in_outcome a.1) z) q)

  pub take_quiet : (now : ℕ) (x : Core) → IsLive x → Quiet x (kept (step_take model now x))
  take_quiet now x h =
      let b : Core = new_event_at model now x in
      let z : Core = record b { upper = model.uses b.upper } in
      cond_both (length x.upper.accepted - x.upper.used == 0) b (conclude_event model z) (λ y. Quiet x (kept y))
      (λ none. begins x (settled x.line) b h refl (All-nil IsNoDisc) refl h.handed)
      (λ some. concludes x z (begins x (settled x.line) z h refl (All-nil IsNoDisc) refl h.handed))

  -- ---- a tick

  module _ (now : ℕ) (x : Core) (h : IsLive x) where
    abbrev Time : Type 0
    Time = (why : Release) × (last : LastSent) × TimeEnds now x why last

    -- T1 didn't expire, or the station goes on
    timed : (station_at x now).deed.released ≡ None → Quiet x (kept (timed_at now x))
    timed e =
        let s : Station = settled x.line in
        let g = ticked (max x.moment now) s h.handed (All-nil IsNoDisc) in
        begins x (station_at x now) (timed_at now x) h refl (g.said e) (down_as s (station_at x now) (told (max x.moment now) s refl).1 e) g.sent

    expiry : (g : Option Release) → (station_at x now).deed.released ≡ g → Quiet x (kept (on_expiry model g (timed_at now x))) ⊎ Time
    expiry (Some why) e = inr (why, Nothing, ByT1 e refl)
    expiry None e = by_time (is_spent (timed_at now x)) refl
      where
        by_time : (b : Bool) → is_spent (timed_at now x) ≡ b
            → Quiet x (kept (if b then send_dr model (release_of cause.SetUpTimeSpent) 128 (di_of (release_of cause.SetUpTimeSpent) x.safe.safety) (timed_at now x) else timed_at now x)) ⊎ Time
        by_time true s =
            let p = and_parts (not (is_connected x.safe.safety.phase)) (nat_le x.limit (max x.moment now)) s in
            let why : Release = release_of cause.SetUpTimeSpent in
            inr (why, Leaves 128 (own_di why x), BySetUp e (not_true (is_connected x.safe.safety.phase) p.0) (leb-true x.limit (max x.moment now) p.1) refl refl)
        by_time false s = inl (timed e)

    pub tick_quiet : Quiet x (kept (step_tick model now x)) ⊎ Time
    tick_quiet =
        let y : Core = on_expiry model (station_at x now).deed.released (timed_at now x) in
        elim (expiry (station_at x now).deed.released refl) [
          | inl q ↦ inl (subst (λ (z : Core). Quiet x (kept z)) (sym (unless_released x (new_event_at model now x) (conclude_event model y) h.released)) (concludes x y q))
          | inr row ↦ inr row
        ]

  -- ---- a frame

  module _ (receives : stations.ReceivesGive) (steps_only : StepsOnly) where
    module _ (finds : Finds) (now : ℕ) (verdict : Verdict) (x : Core) (h : IsLive x) where
      abbrev key_of : ℕ → ℕ → Option TripleKey
      key_of = finds (max x.moment now)

      abbrev s : Station
      s = station_behind x now verdict

      abbrev Row : Type 0
      Row = (why : Release) × (last : LastSent) × FrameEnds finds now x verdict why last

      abbrev Fate : Core → Type 0
      Fate y = Quiet x (kept y) ⊎ Row

      got : GotFrame (settled x.line) s
      got = received (max x.moment now) verdict (settled x.line) h.handed (inr refl) (All-nil IsNoDisc)

      -- a station that told no release
      calm : s.deed.released ≡ None → Quiet x (kept (taken_at now verdict x))
      calm e = begins x s (taken_at now verdict x) h refl got.said (down_as (settled x.line) s ((told (max x.moment now) (settled x.line) refl).0 verdict) e) got.sent

      -- ---- a text

      module _ (text : List ℕ) (is : IsTextOf x now verdict text) (y : Core) (c : Quiet x (kept y)) where
        abbrev side : Safety
        side = x.safe.safety

        abbrev next : Safety
        next = (safety.step key_of side (Received text)).0

        abbrev after : SafetyOutcome → Core
        after o = with_safety_step model (Received text) (next, o) y

        abbrev Comes : SafetyOutcome → Type 0
        Comes o = (safety.step key_of side (Received text)).1 ≡ o

        row : (o : SafetyOutcome) → Comes o → IsStep key_of side (Received text) next o
        row o e = subst (λ (p : SafetyOutcome). IsStep key_of side (Received text) next p) e (steps_only key_of side (Received text))

        -- the side isn't released, and what else was done changes nothing in view
        stays : (o : SafetyOutcome) (z : Core) → kept z ≡ kept (after o) → IsOpen next.phase → Fate z
        stays o z e left_open = inl (same x (after o) z e (steps_to x y (Received text) (next, o) c left_open))

        open_as : (t : Safety) → next ≡ t → IsOpen t.phase → IsOpen next.phase
        open_as t e o = subst (λ (u : Safety). IsOpen u.phase) (sym e) o

        acts : (by : Carrier) (o : SafetyOutcome) → Comes o → Fate (on_safety_report model by (report_of o) (octets_sent_in_outcome o) (after o))
        acts by (SentAu1 octets) e =
            let o : SafetyOutcome = SentAu1 octets in
            stays o (after o) refl (open_as _ (row o e).next_is tt)
        acts by (SentAu2 session sealed octets) e =
            let o : SafetyOutcome = SentAu2 session sealed octets in
            stays o (hand_answer model by octets (after o)) (kept_answers by octets (after o)) (open_as _ (row o e).next_is tt)
        acts by (SentAu3 session verified sealed octets) e =
            let o : SafetyOutcome = SentAu3 session verified sealed octets in
            stays o (hand_answer model by octets (after o)) (kept_answers by octets (after o)) (open_as _ (row o e).next_is tt)
        acts by (SentAr connection verified sealed octets) e =
            let o : SafetyOutcome = SentAr connection verified sealed octets in
            stays o (record (hand_answer model by octets (after o)) { connected = Some connection.peer }) (kept_answers by octets (after o)) (open_as _ (row o e).next_is tt)
        acts by (ReceivedAr connection verified) e =
            let o : SafetyOutcome = ReceivedAr connection verified in
            stays o (record (hand_answer model by [] (after o)) { connected = Some connection.peer }) (kept_answers by [] (after o)) (open_as _ (row o e).next_is tt)
        acts by (AcceptedDt session user verified) e =
            let o : SafetyOutcome = AcceptedDt session user verified in
            stays o (keep_message model by user (after o)) (kept_keeps by user (after o)) (open_as side (row o e).next_is h.open_side)
        acts by (SentDt session user sealed octets) e =
            let o : SafetyOutcome = SentDt session user sealed octets in
            stays o (after o) refl (open_as side (row o e).next_is h.open_side)
        acts by (Refused refusal) e =
            let o : SafetyOutcome = Refused refusal in
            stays o (after o) refl (open_as side (row o e).next_is h.open_side)
        acts by (ReleasedLocally release octets) e =
            let r = row (ReleasedLocally release octets) e in
            inr (release, Leaves 128 (own_di release x), BySafety r.cause (text, is, r.met) r.releases.release_is refl)
        acts by (ReleasedByPeer release) e =
            let r = row (ReleasedByPeer release) e in
            inr (release, Disconnects, ByPeersDi r.reason r.sub text is r.unreleased r.received r.release_is refl)
        acts by NothingDone e = stays NothingDone (after NothingDone) refl (idle (row NothingDone e))
          where
            idle : StaysIdle side (Received text) next → IsOpen next.phase
            idle (AtReceived octets release session is was n) = open_as side n h.open_side
            idle (AtDisconnect sub release session is was n) = open_as side n h.open_side
            idle (AtConnect is unready n) = open_as side n h.open_side

      text_comes : (payload tpdu : List ℕ) (c : Quiet x (kept (heard_at now verdict x payload tpdu))) (by : Carrier) (text : List ℕ) → IsTextOf x now verdict text
          → Fate (on_text model finds by text (heard_at now verdict x payload tpdu))
      text_comes payload tpdu c by text is = acts text is (heard_at now verdict x payload tpdu) c by (safety.step key_of x.safe.safety (Received text)).1 refl

      -- ---- a TPDU, a block, what the station tells

      dr_comes : (user : List ℕ) (y : Core) → IsDr user finds now x verdict → (di : Option (ℕ × ℕ)) → di_in user (peer_flag x.safe.safety) ≡ di → Fate (answer_dr model (why_of di) y)
      dr_comes user y is None e = inr (release_of cause.DisconnectWithoutDi, Confirms, ByBareDr (user, is, e) refl refl)
      dr_comes user y is (Some di) e = inr (by_peer_di di.0 di.1, Confirms, ByPeersDr di.0 di.1 user is e refl refl)

      deed_comes : (payload tpdu : List ℕ) (c : Quiet x (kept (heard_at now verdict x payload tpdu))) → s.deed.payload ≡ Some payload → (joining.block_step x.joined payload).1 ≡ Ok (Some tpdu)
          → (d : ReceptionDeed) → (reception x.upper.transport tpdu).1 ≡ d → Fate (on_transport_deed model finds d (heard_at now verdict x payload tpdu))
      deed_comes payload tpdu c t j NothingCame e = inl c
      deed_comes payload tpdu c t j (Called user) e =
          text_comes payload tpdu c InCr user (record { payload = payload; taken = t; tpdu = tpdu; joined = j; brought = ap text_in_deed e })
      deed_comes payload tpdu c t j (Confirmed user) e =
          text_comes payload tpdu c InCc user (record { payload = payload; taken = t; tpdu = tpdu; joined = j; brought = ap text_in_deed e })
      deed_comes payload tpdu c t j (Message message) e =
          text_comes payload tpdu c InDt message (record { payload = payload; taken = t; tpdu = tpdu; joined = j; brought = ap text_in_deed e })
      deed_comes payload tpdu c t j (Disconnected user) e =
          dr_comes user (heard_at now verdict x payload tpdu) (tpdu, record { payload = payload; taken = t; joined = j }, e) (di_in user (peer_flag x.safe.safety)) refl
      deed_comes payload tpdu c t j (transport.Refused sub reason) e =
          inr (by_this_end 2 sub, Leaves reason [], ByTpdu tpdu sub reason (record { payload = payload; taken = t; joined = j }) e refl refl)

      block_comes : (payload : List ℕ) → Quiet x (kept (taken_at now verdict x)) → s.deed.payload ≡ Some payload → (answer : joining.BlockJoiningResult)
          → (joining.block_step x.joined payload).1 ≡ answer → Fate (on_joined_block model finds answer (joined_at now verdict x payload))
      block_comes payload c t (Ok None) e = inl c
      block_comes payload c t (Ok (Some tpdu)) e =
          let y : Core = taken_at now verdict x in
          let z : Core = heard_at now verdict x payload tpdu in
          let q : Quiet x (kept z) = same x y z (ap (λ (g : List GivenTpdu). record { released = x.released; given = g; line = s; phase = x.safe.safety.phase }) (reception_only x.upper.transport tpdu)) c in
          deed_comes payload tpdu q t e (reception x.upper.transport tpdu).1 refl
      block_comes payload c t (Err fault) e = inr (release_of cause.BlockRefused, Leaves 133 [], ByBlock (payload, fault, t, e) refl refl)

      up_quiet : Quiet x (kept (taken_at now verdict x)) → Quiet x (kept (on_link_up model (taken_at now verdict x)))
      up_quiet c =
          let a : Safety × SafetyOutcome = safety.step no_keys x.safe.safety ConnectRequest in
          let y : Core = taken_at now verdict x in
          let z : Core = with_safety_step model ConnectRequest a y in
          let q : Quiet x (kept z) = steps_to x y ConnectRequest a c (connects_open x.safe.safety x.safe.safety.phase h.open_side) in
          cond_both (model.may_connect y.upper && is_ready y.safe.safety.phase) (connect_with_text model (octets_sent_in_outcome a.1) z) y (λ w. Quiet x (kept w))
          (λ may. same x z (connect_with_text model (octets_sent_in_outcome a.1) z) (kept_if (is_some_octets (octets_sent_in_outcome a.1)) _ z (kept z) refl refl) q) (λ cannot. c)

      -- the station tells one thing
      one_deed : (why : Release) (d : LinkDeed) → d.payload ≡ None → d.more ≡ [] → d.up ≡ false → d.released ≡ Some why → d ≡ record { up = false; payload = None; more = []; released = Some why }
      one_deed why d p m u r =
          ap (λ (v : Option (List ℕ)). record { up = d.up; payload = v; more = d.more; released = d.released }) p
          ∙ ap (λ (v : List (List ℕ)). record { up = d.up; payload = None; more = v; released = d.released }) m
          ∙ ap (λ (b : Bool). record { up = b; payload = None; more = []; released = d.released }) u
          ∙ ap (λ (o : Option Release). record { up = false; payload = None; more = []; released = o }) r

      none_with_payload : (d : LinkDeed) (payload : List ℕ) → IsOneDeed d → d.payload ≡ Some payload → d.released ≡ None
      none_with_payload d payload (inl none) p = absurd (let f = sym none.1 ∙ p in cc)
      none_with_payload d payload (inr none) p = none

      none_with_up : (d : LinkDeed) → IsOneDeed d → d.up ≡ true → d.released ≡ None
      none_with_up d (inl none) u = absurd (let f = sym none.0 ∙ u in cc)
      none_with_up d (inr none) u = none

      link_comes : (payload : Option (List ℕ)) (up : Bool) (released : Option Release) → s.deed.payload ≡ payload → s.deed.up ≡ up → s.deed.released ≡ released
          → Fate (on_link_told model finds payload up released (taken_at now verdict x))
      link_comes (Some payload) up released p u r = block_comes payload (calm (none_with_payload s.deed payload got.deed p)) p (joining.block_step x.joined payload).1 refl
      link_comes None true released p u r = inl (up_quiet (calm (none_with_up s.deed got.deed u)))
      link_comes None false (Some why) p u r =
          let given = receives (max x.moment now) verdict (settled x.line) refl in
          inr (why, Nothing, ByStation (one_deed why s.deed p given.single u r) refl)
      link_comes None false None p u r = inl (calm r)

      pub frame_quiet : Fate (step_frame model finds now verdict x)
      frame_quiet =
          let y : Core = on_link_told model finds s.deed.payload s.deed.up s.deed.released (taken_at now verdict x) in
          elim (link_comes s.deed.payload s.deed.up s.deed.released refl refl refl) [
            | inl q ↦ inl (subst (λ (z : Core). Quiet x (kept z)) (sym (unless_released x (new_event_at model now x) (conclude_event model y) h.released)) (concludes x y q))
            | inr row ↦ inr row
          ]
