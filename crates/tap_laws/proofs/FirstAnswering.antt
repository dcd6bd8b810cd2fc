-- What an end that answers sent, over its events: its CC first, or it accepted nothing, or it sent no I frame.
use Rattle.std.proofs.Common.{◌≡◌, ◌∙◌, ◌≤◌, ◌<◌, ◌⊎◌, inl, inr, ℕ, ◌-◌, ◌^◌, min, Bool, true, false, ◌&&◌, List, [], ◌++◌, length, Option, Some, None, Result, Ok, Err, refl, sym, ap, subst, arith}
use Rattle.std.specs.Prelude.{◌==◌, is_some, if◌then◌else◌}
use Rattle.std.proofs.lemmas.Bool.{cases_lt, lt-ltb}
use Rattle.er_base.specs.declared.release.Release.{Release}
use Rattle.er_base.specs.declared.cause.Cause.TheVariants.{BlockRefused, SetUpTimeSpent}
use Rattle.er_base.specs.Causes.{release_of, by_this_end}
use Rattle.des_block.specs.declared.triple_key.TripleKey.{TripleKey}
use Rattle.cbc_mac.specs.Mac.{mac_of}
use Rattle.er_settings.specs.Values.{Settings}
use Rattle.hdlc_frames.specs.Framing.{Verdict}
use Rattle.hdlc_station_model.specs.Frames.{Frame}
use Rattle.hdlc_station_model.specs.Stations.{Station, Deed, settled}
use Rattle.hdlc_station_model.specs.Receiving.{is_some_octets}
use Rattle.hdlc_station_model.specs.Sending.{waiting}
use Rattle.hdlc_station_model.specs.Calls as station
use Rattle.t70_header.specs.Blocks.{last_block}
use Rattle.t70_header.specs.Joining as joining
use Rattle.x224_tpdu.specs.declared.fault.TpFault.{TpFault}
use Rattle.x224_tpdu.specs.Spelling.{TransportPdu, connection_request, connection_confirm, disconnect_request, disconnect_confirm, data_tpdu, acknowledgement, tpdu_error}
use Rattle.x224_tpdu.specs.Spellings.{IsSize}
use Rattle.x224_tpdu.specs.ReadingLaws.{ReadingIsInRange}
use Rattle.x224_tpdu.specs.Function.{reading}
use Rattle.x224_class2.specs.declared.stage.Stage.TheVariants as stages
use Rattle.x224_class2.specs.Refusals.{dr_reason, protocol_error, tpdu_refused}
use Rattle.x224_class2.specs.Tpdus.{Cc, octets_given}
use Rattle.x224_class2.specs.Transport.{Transport, side_made, after_accept, next_tpdu, on_reading, reception, ReceptionDeed, Called}
use Rattle.x224_class2.specs.Transport as transport
use Rattle.sapdu.specs.Spelling.{Au2, spelling, read_of}
use Rattle.safety_automaton.specs.Safety.{Safety, WaitAu1, WaitAu2, WaitAu3, WaitAr, Connected, Released, ConnectRequest, Received, DataRequest, DisconnectRequest, SafetyOutcome, SentAu1, SentAu2, SentAu3, SentAr, ReceivedAr, AcceptedDt, SentDt, Refused, ReleasedLocally, ReleasedByPeer, NothingDone, responder, octets_sent_in_outcome, step}
use Rattle.safety_automaton.specs.Reports.{report_of}
use Rattle.safety_automaton.specs.Rules.{StepsOnly, IsStep, AtReceived, AtDisconnect, AtConnect}
use Rattle.er_end_model.specs.Outcomes.{RefusedNotConnected}
use Rattle.er_end_model.specs.Steps.{Finds, new_event_at, with_release, with_safety_step, send_dr, normal_disconnect, send_owed_answer, end_after_di, InCr, on_safety_report, on_text, on_transport_deed, on_tpdu, on_joined_block, on_link_up, on_link_told, hand_next_tpdu, has_next_tpdu, hand_waiting_tpdus, conclude_event, step_start, step_frame, refusal_of, refusal_at, is_connected, on_send, step_take, step_release, is_spent, di_of, on_expiry, step_tick, step_break}
use Rattle.er_end_model.specs.Layers.{Core, model, written_by}
use Rattle.tap_laws.proofs.FirstHeard.{octets_of_frames}
use Rattle.tap_laws.proofs.FirstWalk.{link_walks, offers_walk, concludes_walk}
use Rattle.tap_laws.proofs.FirstSent.{IsUnspoken, IsLost, Stays, Unspoken, Lost, Goes, goes_keeps, lost_keeps, first_goes, starts_stay, receives_stay, ticks_stay}
use Rattle.tap_laws.proofs.FirstRun.{KeepsOn, Told, NeverSent, Gone, goes_told, told_on, IsGone}
use Rattle.tap_laws.proofs.FirstEarly.{IsNew, Early, offers_one, concludes_live, early_again, early_now, departs_gone, live_if, break_gone, leave_gone, take_same, gone_concludes}

-- a payload is the block of a CC whose user data is the AU2 of an end
pub record IsAnswer (me ra : ℕ) (payload : List ℕ) : Type 0 where
  pub tpdu : List ℕ
  pub user : List ℕ
  pub credit : ℕ
  pub size : ℕ
  pub mac : ℕ
  pub block : payload ≡ last_block tpdu
  pub short : length tpdu ≤ 1024
  pub read : reading tpdu ≡ Ok (connection_confirm credit 1 1 size user)
  pub text : read_of user ≡ Ok (Au2 me 1 ra mac, true)

-- ---- the size that is agreed

min_one : (a b : ℕ) → (min a b ≡ a) ⊎ (min a b ≡ b)
min_one a b = by (cases_lt a b)
  where
    by : (a < b) ⊎ (b ≤ a) → (min a b ≡ a) ⊎ (min a b ≡ b)
    by (inl h) = inl (omega (arith, h))
    by (inr h) = inr (omega (arith, h))

min_size : (a b : ℕ) → IsSize a → IsSize b → IsSize (min a b)
min_size a b h g = elim (min_one a b) [ inl e ↦ subst IsSize (sym e) h | inr e ↦ subst IsSize (sym e) g ]

size_1024 : IsSize 1024
size_1024 = inr (inr (inr (inl refl)))

module _ (steps : StepsOnly) (in_range : ReadingIsInRange) (settings : Settings) (me ra : ℕ) (size_is : IsSize settings.size)
    (good : (n mac : ℕ) → IsSize n → mac < 2 ^ 64 → IsAnswer me ra (last_block (octets_given (Cc settings.credit n (spelling (Au2 me 1 ra mac) true))))) where
  abbrev own : Safety
  own = responder me ra

  abbrev P : List ℕ → Type 0
  P = IsAnswer me ra

  abbrev Any : Station → Type 0
  Any s = Unit {0}

  pub data Answers (sent : List ℕ) (x : Core) : Type 0 where
    Before : Early false settings own Any sent x → Answers sent x
    Answered : Told P false sent x → Answers sent x

  module _ (below : (session : TripleKey) (sealed : List ℕ) → mac_of session sealed < 2 ^ 64) (sent : List ℕ) (base : List Frame) (is : sent ≡ octets_of_frames false base) where
    abbrev Then : Core → Type 0
    Then y = Answers (sent ++ written_by y.line) y

    gone : (y : Core) → IsGone y → Then (conclude_event model y)
    gone y g = Answered (Gone (gone_concludes y g))

    abbrev with_transport : Core → Transport → Core
    with_transport z t = record z { upper = record z.upper { transport = t } }

    abbrev with_side : Core → Safety → Core
    with_side z side = record z { safe = record z.safe { safety = side } }

    abbrev made : Transport
    made = side_made false settings

    abbrev called : (credit size : ℕ) → Transport
    called credit size = record made { stage = stages.Called; size = min (min size 1024) settings.size; edge = credit }

    module _ (z : Core) (new : IsNew false settings own z) (u : IsUnspoken false base z.line) (none : z.line.handed ≡ []) where
      plain : Then (conclude_event model z)
      plain = Before (early_now false settings own Any sent base is z u none tt new)

      -- the CR that came, with this AU1
      module _ (credit size : ℕ) (sized : IsSize size) (finds : Finds) (user : List ℕ) where
        abbrev at_call : Core
        at_call = with_transport z (called credit size)

        abbrev after : Safety → SafetyOutcome → Core
        after next o = with_safety_step model (Received user) (next, o) at_call

        abbrev agreed : ℕ
        agreed = min (min size 1024) settings.size

        agreed_size : IsSize agreed
        agreed_size = min_size (min size 1024) settings.size (min_size size 1024 sized size_1024) size_is

        -- the CC goes down
        module _ (next : Safety) (o : SafetyOutcome) (octets : List ℕ) (mac : ℕ) (fits : mac < 2 ^ 64) (octets_are : octets ≡ spelling (Au2 me 1 ra mac) true) where
          abbrev accepted : Core
          accepted = with_transport (after next o) (after_accept (called credit size) octets)

          abbrev block : List ℕ
          block = last_block (octets_given (Cc settings.credit agreed octets))

          good_block : P block
          good_block = rw octets_are (good agreed mac agreed_size fits)

          is_free : has_next_tpdu model accepted ≡ true
          is_free =
              let zero_waits : waiting z.line ≡ 0 = ap (λ (l : List (List ℕ)). length l - z.line.sent) none ∙ omega arith in
              rw zero_waits refl

          concluded : conclude_event model accepted ≡ send_owed_answer model (hand_waiting_tpdus model 32 (hand_next_tpdu model accepted))
          concluded = concludes_live accepted new.released ∙ ap (send_owed_answer model) (offers_one 32 accepted is_free)

          goes : Goes P false base (conclude_event model accepted).line
          goes =
              let first : Goes P false base (hand_next_tpdu model accepted).line = first_goes P false base z.moment block z.line (Unspoken u none) good_block in
              let y : Core = hand_waiting_tpdus model 32 (hand_next_tpdu model accepted) in
              let all : Goes P false base y.line = offers_walk (Goes P false base) (goes_keeps P false base) 32 (hand_next_tpdu model accepted) first in
              subst (λ (x : Core). Goes P false base x.line) (sym concluded) ((goes_keeps P false base).finishes y.line all)

          some_octets : is_some_octets octets ≡ true
          some_octets = rw octets_are (lt-ltb 0 (length (spelling (Au2 me 1 ra mac) true)) (omega arith))

          answers : Then (conclude_event model (if is_some_octets octets then accepted else after next o))
          answers = rw some_octets (Answered (goes_told P false sent base is (conclude_event model accepted) goes))

        parted : (why : Release) (di : List ℕ) (y : Core) → y.upper.accepted ≡ [] → (b : Bool)
            → Then (conclude_event model (if b then end_after_di model why y else send_dr model why normal_disconnect di y))
        parted why di y left true = gone (end_after_di model why y) (record { why = why; released = refl; accepted = left })
        parted why di y left false = gone (send_dr model why normal_disconnect di y) (departs_gone why normal_disconnect di y left)

        -- what the safety side did with it
        by_outcome : (next : Safety) (o : SafetyOutcome) → IsStep (finds z.moment) own (Received user) next o
            → Then (conclude_event model (on_safety_report model InCr (report_of o) (octets_sent_in_outcome o) (after next o)))
        by_outcome next (SentAu1 octets) row = absurd (let k : Received user ≡ ConnectRequest = row.event_is in cc)
        by_outcome next (SentAu2 session sealed octets) row =
            let waits : WaitAu1 ra ≡ WaitAu1 row.connection.ra = row.waits in
            let own_ra : ra ≡ row.connection.ra = cc in
            answers next (SentAu2 session sealed octets) octets (mac_of session sealed) (below session sealed)
            (row.octets_is ∙ ap (λ (n : ℕ). spelling (Au2 me 1 n (mac_of session sealed)) true) (sym own_ra))
        by_outcome next (SentAu3 session verified sealed octets) row =
            absurd (let k : WaitAu1 ra ≡ WaitAu2 row.connection.peer row.kmac row.connection.rb = row.waits in cc)
        by_outcome next (SentAr connection verified sealed octets) row = absurd (let k : WaitAu1 ra ≡ WaitAu3 connection = row.waits in cc)
        by_outcome next (ReceivedAr connection verified) row = absurd (let k : WaitAu1 ra ≡ WaitAr connection = row.waits in cc)
        by_outcome next (AcceptedDt session text verified) row = absurd (let k : WaitAu1 ra ≡ Connected row.peer session = row.connected in cc)
        by_outcome next (SentDt session text sealed octets) row = absurd (let k : Received user ≡ DataRequest text = row.event_is in cc)
        by_outcome next (Refused refusal) row = absurd (let k : Received user ≡ DataRequest row.user = row.event_is in cc)
        by_outcome next (ReleasedLocally release octets) row = parted release octets (after next (ReleasedLocally release octets)) new.accepted_is release.by_peer
        by_outcome next (ReleasedByPeer release) row = parted release [] (after next (ReleasedByPeer release)) new.accepted_is release.by_peer
        by_outcome next NothingDone (AtReceived octets release session e phase same) = absurd (let k : WaitAu1 ra ≡ Released release session = phase in cc)
        by_outcome next NothingDone (AtDisconnect sub release session e phase same) = absurd (let k : Received user ≡ DisconnectRequest sub = e in cc)
        by_outcome next NothingDone (AtConnect e ready same) = absurd (let k : Received user ≡ ConnectRequest = e in cc)

        text_comes : Then (conclude_event model (on_text model finds InCr user at_call))
        text_comes =
            let a : Safety × SafetyOutcome = step (finds z.moment) own (Received user) in
            subst (λ (y : Core). Then (conclude_event model y)) (sym (ap (λ (side : Safety). on_text model finds InCr user (with_side at_call side)) new.safety_is))
            (by_outcome a.0 a.1 (steps (finds z.moment) own (Received user)))

      -- a TPDU
      module _ (finds : Finds) (tpdu : List ℕ) where
        abbrev behind : Transport × ReceptionDeed → Core
        behind r = on_transport_deed model finds r.1 (with_transport z r.0)

        refused : (reason : ℕ) → Then (conclude_event model (behind (transport.refusal_of_tpdu made tpdu_refused reason)))
        refused reason =
            let w : Core = with_transport z (record made { stage = stages.Over }) in
            gone (send_dr model (by_this_end 2 tpdu_refused) reason [] w) (departs_gone (by_this_end 2 tpdu_refused) reason [] w new.accepted_is)

        by_request : (credit size : ℕ) (user : List ℕ) → IsSize size → (b : Bool)
            → Then (conclude_event model (behind (if b then (called credit size, Called user) else transport.refusal_of_tpdu made tpdu_refused protocol_error)))
        by_request credit size user sized true = text_comes credit size sized finds user
        by_request credit size user sized false = refused protocol_error

        by_reading : (r : Result TransportPdu TpFault) → reading tpdu ≡ r → Then (conclude_event model (behind (on_reading made r)))
        by_reading (Ok (connection_request credit dst src size user)) e =
            by_request credit size user (in_range tpdu (connection_request credit dst src size user) e).0.1 ((dst == 0) && (src == 1))
        by_reading (Ok (connection_confirm credit dst src size user)) e = refused protocol_error
        by_reading (Ok (disconnect_request dst src reason user)) e = refused protocol_error
        by_reading (Ok (disconnect_confirm dst src)) e = refused protocol_error
        by_reading (Ok (data_tpdu dst last number user)) e = refused protocol_error
        by_reading (Ok (acknowledgement credit dst number)) e = refused protocol_error
        by_reading (Ok (tpdu_error dst cause)) e = refused protocol_error
        by_reading (Err fault) e = refused (dr_reason fault)

        tpdu_comes : Then (conclude_event model (on_tpdu model finds tpdu z))
        tpdu_comes =
            subst (λ (y : Core). Then (conclude_event model y)) (sym (ap (λ (t : Transport). on_tpdu model finds tpdu (with_transport z t)) new.transport_is))
            (by_reading (reading tpdu) refl)

    -- what the station tells
    module _ (finds : Finds) where
      by_block : (answer : joining.BlockJoiningResult) (z : Core) → IsNew false settings own z → IsUnspoken false base z.line → z.line.handed ≡ []
          → Then (conclude_event model (on_joined_block model finds answer z))
      by_block (Ok None) z new u none = plain z new u none
      by_block (Ok (Some tpdu)) z new u none = tpdu_comes z new u none finds tpdu
      by_block (Err fault) z new u none =
          gone (send_dr model (release_of BlockRefused) protocol_error [] z) (departs_gone (release_of BlockRefused) protocol_error [] z new.accepted_is)

      by_link : (payload : Option (List ℕ)) (up : Bool) (released : Option Release) (z : Core) → IsNew false settings own z → IsUnspoken false base z.line → z.line.handed ≡ []
          → Then (conclude_event model (on_link_told model finds payload up released z))
      by_link (Some payload) up released z new u none =
          let joined = joining.block_step z.joined payload in
          by_block joined.1 (record z { joined = joined.0 })
          (record { released = new.released; safety_is = new.safety_is; transport_is = new.transport_is; accepted_is = new.accepted_is }) u none
      by_link None true released z new u none =
          let same : on_link_up model z ≡ z =
          ap (λ (t : Transport). on_link_up model (with_transport z t)) new.transport_is ∙ sym (ap (with_transport z) new.transport_is) in
          subst (λ (y : Core). Then (conclude_event model y)) (sym same) (plain z new u none)
      by_link None false (Some why) z new u none = gone (with_release why z) (record { why = why; released = refl; accepted = new.accepted_is })
      by_link None false None z new u none = plain z new u none

    -- ---- the events

    module _ (now : ℕ) (x : Core) (e : Early false settings own Any sent x) (base_is : e.base ≡ base) where
      abbrev b : Core
      b = new_event_at model now x

      abbrev s : Station
      s = settled x.line

      unspoken : IsUnspoken false base s
      unspoken = subst (λ (fs : List Frame). IsUnspoken false fs s) base_is e.unspoken

      stays_now : Stays false base [] s
      stays_now = Unspoken unspoken e.handed

      new_as : (y : Core) → y.released ≡ x.released → y.safe.safety ≡ x.safe.safety → y.upper.transport ≡ x.upper.transport → y.upper.accepted ≡ x.upper.accepted → IsNew false settings own y
      new_as y released safety transport accepted = record {
        released = released ∙ e.new.released;
        safety_is = safety ∙ e.new.safety_is;
        transport_is = transport ∙ e.new.transport_is;
        accepted_is = accepted ∙ e.new.accepted_is;
      }

      -- where the station is down no I frame is sent any more
      down : (y : Core) → IsLost y.line → Then (conclude_event model y)
      down y l = Answered (NeverSent (concludes_walk IsLost lost_keeps y l))

      live : (p q : Core) → Then q → Then (if is_some x.released then p else q)
      live p q h = subst Then (sym (live_if false settings own x e.new p q)) h

      start_answers : Then (step_start model now x)
      start_answers = live b (conclude_event model z) (by (starts_stay P false base b.moment s stays_now))
        where
          z : Core
          z = record b { line = station.starts b.moment s }

          by : Stays false base [] z.line → Then (conclude_event model z)
          by (Unspoken u none) = plain z (new_as z refl refl refl refl) u none
          by (Lost l none) = down z l

      frame_answers : (finds : Finds) (v : Verdict) → Then (step_frame model finds now v x)
      frame_answers finds v = live b (conclude_event model (on_link_told model finds d.payload d.up d.released z)) (by (receives_stay P false base b.moment v s stays_now))
        where
          z : Core
          z = record b { line = station.receives b.moment v s }

          d : Deed
          d = z.line.deed

          by : Stays false base [] z.line → Then (conclude_event model (on_link_told model finds d.payload d.up d.released z))
          by (Unspoken u none) = by_link finds d.payload d.up d.released z (new_as z refl refl refl refl) u none
          by (Lost l none) = down (on_link_told model finds d.payload d.up d.released z) (link_walks IsLost lost_keeps finds d.payload d.up d.released z l)

      send_answers : (user : List ℕ) → refusal_of model user x ≡ None → Then (on_send model user b)
      send_answers user none =
          let refused : refusal_of model user x ≡ Some RefusedNotConnected =
          ap (λ (r : Option Release). refusal_at r (is_connected x.safe.safety.phase) user (model.waiting x.upper)) e.new.released
          ∙ ap (λ (side : Safety). refusal_at None (is_connected side.phase) user (model.waiting x.upper)) e.new.safety_is in
          absurd (let z : None ≡ Some RefusedNotConnected = sym none ∙ refused in cc)

      take_answers : Then (step_take model now x)
      take_answers =
          subst Then (sym (take_same false settings own x e.new now))
          (Before (early_again false settings own Any sent base is b unspoken e.handed tt (new_as b refl refl refl refl)))

      tick_answers : Then (step_tick model now x)
      tick_answers = live b (conclude_event model (on_expiry model given_up z)) (by given_up (ticks_stay P false base b.moment s stays_now))
        where
          z : Core
          z = record b { line = station.ticks b.moment s }

          new : IsNew false settings own z
          new = new_as z refl refl refl refl

          given_up : Option Release
          given_up = model.given_up b.moment s

          spent : Core
          spent = send_dr model (release_of SetUpTimeSpent) normal_disconnect (di_of (release_of SetUpTimeSpent) z.safe.safety) z

          by_time : (c : Bool) → Stays false base [] z.line → Then (conclude_event model (if c then spent else z))
          by_time true stays = gone spent (departs_gone (release_of SetUpTimeSpent) normal_disconnect (di_of (release_of SetUpTimeSpent) z.safe.safety) z new.accepted_is)
          by_time false (Unspoken u none) = plain z new u none
          by_time false (Lost l none) = down z l

          by : (why : Option Release) → Stays false base [] z.line → Then (conclude_event model (on_expiry model why z))
          by (Some why) stays = gone (with_release why z) (record { why = why; released = refl; accepted = new.accepted_is })
          by None stays = by_time (is_spent z) stays

  -- each event
  module _ (below : (session : TripleKey) (sealed : List ℕ) → mac_of session sealed < 2 ^ 64) where
    on_told : KeepsOn (Told P false)
    on_told = told_on P false

    pub answers_on : KeepsOn Answers
    answers_on = record {
      rest = rest;
      start = λ sent now x a. by sent x (step_start model now x) a (λ e. start_answers below sent e.base e.sent_is now x e refl) (on_told.start sent now x);
      frame = λ sent finds now v x a. by sent x (step_frame model finds now v x) a (λ e. frame_answers below sent e.base e.sent_is now x e refl finds v) (on_told.frame sent finds now v x);
      send = λ sent now user x none a.
          by sent x (on_send model user (new_event_at model now x)) a (λ e. send_answers below sent e.base e.sent_is now x e refl user none) (on_told.send sent now user x none);
      take = λ sent now x a. by sent x (step_take model now x) a (λ e. take_answers below sent e.base e.sent_is now x e refl) (on_told.take sent now x);
      leave = λ sent now sub x a. by sent x (step_release model now sub x) a (λ e. Answered (Gone (leave_gone false settings own x e.new now sub))) (on_told.leave sent now sub x);
      tick = λ sent now x a. by sent x (step_tick model now x) a (λ e. tick_answers below sent e.base e.sent_is now x e refl) (on_told.tick sent now x);
      break = λ sent cause x a. by sent x (step_break model cause x) a (λ e. Answered (Gone (break_gone false settings own x e.new cause))) (on_told.break sent cause x);
    }
      where
        rest : (sent : List ℕ) (now : ℕ) (x : Core) → Answers sent x → Answers sent (new_event_at model now x)
        rest sent now x (Before e) = Before (record {
          base = e.base;
          sent_is = e.sent_is;
          unspoken = e.unspoken;
          handed = e.handed;
          line = tt;
          new = record { released = e.new.released; safety_is = e.new.safety_is; transport_is = e.new.transport_is; accepted_is = e.new.accepted_is };
        })
        rest sent now x (Answered t) = Answered (on_told.rest sent now x t)

        by : (sent : List ℕ) (x y : Core) → Answers sent x → (Early false settings own Any sent x → Answers (sent ++ written_by y.line) y)
            → (Told P false sent x → Told P false (sent ++ written_by y.line) y) → Answers (sent ++ written_by y.line) y
        by sent x y (Before e) before told = before e
        by sent x y (Answered t) before told = Answered (told t)
