-- An end is released exactly where a row of the table of releases is met.
use Rattle.std.proofs.Common.{◌≡◌, ◌+◌, ◌≤◌, ◌⊎◌, inl, inr, ◌∙◌, ◌-◌, ℕ, max, Bool, true, false, ◌&&◌, not, List, [], ◌∷◌, ◌++◌, length, Option, Some, None, Result, Ok, Err, refl, sym, ap, ap₂, subst, append_assoc, leb-true}
use Rattle.hdlc_station_model.specs.Receiving.{is_some_octets}
use Rattle.std.specs.Prelude.{◌==◌, nat_lt, nat_le, is_some, if◌then◌else◌}
use Rattle.std.specs.List.{All, Contains}
use Rattle.std.proofs.lemmas.Bool.{le-leb}
use Rattle.std.proofs.lemmas.List.Elements.{All-nil, All-cons, All-append, All-contains, Contains-append_left, Contains-append_right}
use Rattle.er_base.specs.declared.release.Release.{Release}
use Rattle.er_base.specs.declared.cause.Cause.{Cause}
use Rattle.er_base.specs.declared.cause.Cause.TheVariants as cause
use Rattle.er_base.specs.Causes.{release_of, by_this_end, by_peer_di}
use Rattle.des_block.specs.declared.triple_key.TripleKey.{TripleKey}
use Rattle.hdlc_frames.specs.Framing.{Verdict}
use Rattle.hdlc_station_model.specs.Stations.{settled}
use Rattle.hdlc_station_model.specs.Stations.{Deed as LinkDeed}
use Rattle.hdlc_station_model.specs.Events.{news}
use Rattle.hdlc_station_model.specs.Laws as stations
use Rattle.t70_header.specs.Joining as joining
use Rattle.x224_tpdu.specs.declared.fault.TpFault.{TpFault}
use Rattle.x224_tpdu.specs.Spelling.{TransportPdu, connection_request, connection_confirm, disconnect_request, disconnect_confirm, data_tpdu, acknowledgement, tpdu_error}
use Rattle.x224_tpdu.specs.Function.{reading}
use Rattle.x224_class2.specs.Refusals.{tpdu_refused, message_too_long}
use Rattle.x224_class2.specs.Transport.{Transport, ReceptionDeed, Nothing, Called, Confirmed, Message, Disconnected, is_new, is_calling, is_open, is_over, reception, on_reading, number_named, on_named, is_expected}
use Rattle.x224_class2.specs.Transport as transport
use Rattle.x224_class2.specs.Segments.{text_so_far}
use Rattle.sapdu.specs.Spelling.{di_in}
use Rattle.safety_automaton.specs.Safety.{no_keys, Safety, ConnectRequest, Received, DataRequest, DisconnectRequest, SafetyOutcome, SentAu1, SentAu2, SentAu3, SentAr, ReceivedAr, AcceptedDt, SentDt, Refused, ReleasedLocally, ReleasedByPeer, NothingDone, octets_sent_in_outcome, peer_flag}
use Rattle.safety_automaton.specs.Reports.{report_of}
use Rattle.safety_automaton.specs.Safety as safety
use Rattle.safety_automaton.specs.Rules.{StepsOnly, StepsEach, CauseReleases, IsStep}
use Rattle.er_end_model.specs.Outcomes.{Outcome, WasReleased, SendRefusal}
use Rattle.er_end_model.specs.Outcomes as told
use Rattle.er_end_model.specs.Steps.{Finds, new_event, new_event_at, with_release, send_dr, answer_dr, why_of, with_safety_step, hand_text, Carrier, InCr, InCc, InDt, hand_answer, keep_message, on_safety_report, on_text, on_transport_deed, on_joined_block, is_ready, connect_with_text, on_link_up, on_link_told, on_link_deed, conclude_event, step_start, step_frame, refusal_of, step_send_unless, on_send, step_take, step_release, is_spent, is_connected, normal_disconnect, di_of, on_expiry, step_tick, step_break, outcomes_of, if_taken}
use Rattle.er_end_model.specs.Layers.{Core, model}
use Rattle.er_end_model.specs.Ends.{Event, Start, Come, Send, Take, Leave, Tick, Ended, Fault, Stalled, End, Moment, hears_each, told_of_each, refusal_or_outcomes, step_event, end_run}
use Rattle.er_end_model.specs.Hearing.{text_in_deed, station_behind, IsTextOf}
use Rattle.er_end_model.specs.Origins.{core_behind_frames}
use Rattle.er_end_model.specs.Releasing.{FrameFact, AtFrame, StationReleases, BlockIsFaulty, IsTpduOf, TpduIsRefused, IsDr, DrHasNoDi, SafetyMet, PeersDi, InDr, InOther, station_at, MeetsReleaseCause, ReleaseMet, ForCause, ByPeer, EndReleases, ReleasedIn, RunsRelease}
use Rattle.er_end_model.proofs.Behind.{taken_at, joined_at, heard_at, hears_parts, told_parts}
use Rattle.er_end_model.proofs.KeptReleases.{Kept, kept, calm, gone, kept_if, kept_concludes, kept_says, kept_answers, kept_keeps, kept_parts, Told, told_taken, told_all, gone_told}

-- ---- a frame

-- why a frame releases an end
data FrameWhy (finds : Finds) (now : ℕ) (x : Core) (verdict : Verdict) (why : Release) : Type 0 where
  IsError : StationReleases (release_of cause.FrameError) finds now x verdict → why ≡ release_of cause.FrameError → FrameWhy finds now x verdict why
  IsDisconnect : StationReleases (release_of cause.PeerDisconnected) finds now x verdict → why ≡ release_of cause.PeerDisconnected → FrameWhy finds now x verdict why
  IsBlock : BlockIsFaulty finds now x verdict → why ≡ release_of cause.BlockRefused → FrameWhy finds now x verdict why
  IsTpdu : TpduIsRefused tpdu_refused finds now x verdict → why ≡ release_of cause.TpduRefused → FrameWhy finds now x verdict why
  IsLong : TpduIsRefused message_too_long finds now x verdict → why ≡ release_of cause.MessageTooLong → FrameWhy finds now x verdict why
  IsNoDi : DrHasNoDi finds now x verdict → why ≡ release_of cause.DisconnectWithoutDi → FrameWhy finds now x verdict why
  IsSafety : (of : Cause) → SafetyMet of finds now x verdict → why ≡ release_of of → FrameWhy finds now x verdict why
  IsPeer : (reason sub : ℕ) → PeersDi reason sub finds now x verdict → why ≡ by_peer_di reason sub → FrameWhy finds now x verdict why

-- what an event made of an end that wasn't released
data Fate (Why : Release → Type 0) (k : Kept) : Type 0 where
  Stays : k ≡ calm → Fate Why k
  Goes : (why : Release) → k ≡ gone why → Why why → Fate Why k

fate_as : (Why : Release → Type 0) (k l : Kept) → l ≡ k → Fate Why k → Fate Why l
fate_as Why k l e f = subst (λ (j : Kept). Fate Why j) (sym e) f

-- a transport refuses by 2.2 or by 2.3
abbrev Refuses : ReceptionDeed → Type 0
Refuses Nothing = Unit {0}
Refuses (Called user) = Unit {0}
Refuses (Confirmed user) = Unit {0}
Refuses (Message message) = Unit {0}
Refuses (Disconnected user) = Unit {0}
Refuses (transport.Refused sub reason) = (sub ≡ tpdu_refused) ⊎ (sub ≡ message_too_long)

refuses_if : (b : Bool) (x y : Transport × ReceptionDeed) → Refuses x.1 → Refuses y.1 → Refuses (if b then x else y).1
refuses_if true x y h g = h
refuses_if false x y h g = g

named_refuses : (t : Transport) (credit : ℕ) (n : Option ℕ) → Refuses (on_named t credit n).1
named_refuses t credit None = inl refl
named_refuses t credit (Some n) = refuses_if (nat_lt (n + credit) t.edge) _ _ (inl refl) tt

message_refuses : (last : Bool) (text : List ℕ) → Refuses (if last then Message text else Nothing)
message_refuses true text = tt
message_refuses false text = tt

reading_refuses : (t : Transport) (answer : Result TransportPdu TpFault) → Refuses (on_reading t answer).1
reading_refuses t (Ok (connection_request credit dst src size user)) = refuses_if (not t.is_caller && is_new t.stage && (dst == 0) && (src == 1)) _ _ tt (inl refl)
reading_refuses t (Ok (connection_confirm credit dst src size user)) = refuses_if (is_calling t.stage && (dst == 1) && (src == 1) && nat_le size t.size) _ _ tt (inl refl)
reading_refuses t (Ok (disconnect_request dst src reason user)) = refuses_if (not (is_new t.stage) && (dst == 1) && (src == 1)) _ _ tt (inl refl)
reading_refuses t (Ok (disconnect_confirm dst src)) = inl refl
reading_refuses t (Ok (data_tpdu dst last number user)) =
    let text = text_so_far t.contents ++ user in
    refuses_if (not (is_expected t dst number user)) _ _ (inl refl)
    (refuses_if (nat_lt 1032 (length text)) _ (record t { contents = t.contents ++ (last, user) ∷ [] }, if last then Message text else Nothing) (inr refl) (message_refuses last text))
reading_refuses t (Ok (acknowledgement credit dst number)) = refuses_if (is_open t.stage && (dst == 1)) _ _ (named_refuses t credit (number_named t.acked (t.given - t.acked) number)) (inl refl)
reading_refuses t (Ok (tpdu_error dst cause)) = inl refl
reading_refuses t (Err fault) = inl refl

reception_refuses : (t : Transport) (octets : List ℕ) → Refuses (reception t octets).1
reception_refuses t octets = refuses_if (is_over t.stage) _ _ tt (reading_refuses t (reading octets))

module _ (receives : stations.ReceivesGive) (steps_only : StepsOnly) (steps_each : StepsEach) (causes : CauseReleases) where
  module _ (finds : Finds) (now : ℕ) (verdict : Verdict) (x : Core) where
    abbrev key_of : ℕ → ℕ → Option TripleKey
    key_of = finds (max x.moment now)

    abbrev Why : Release → Type 0
    Why why = FrameWhy finds now x verdict why

    abbrev Fated : Core → Type 0
    Fated y = Fate Why (kept y)

    -- ---- only for these

    module _ (text : List ℕ) (is : IsTextOf x now verdict text) (q : Safety) (y : Core) (c : kept y ≡ calm) where
      abbrev after : SafetyOutcome → Core
      after o = with_safety_step model (Received text) (q, o) y

      abbrev Comes : SafetyOutcome → Type 0
      Comes o = (safety.step key_of x.safe.safety (Received text)).1 ≡ o

      stays : (z : Core) → kept z ≡ kept y → Fated z
      stays z e = Stays (e ∙ c)

      row : (o : SafetyOutcome) → Comes o → IsStep key_of x.safe.safety (Received text) (safety.step key_of x.safe.safety (Received text)).0 o
      row o e = subst (λ (p : SafetyOutcome). IsStep key_of x.safe.safety (Received text) (safety.step key_of x.safe.safety (Received text)).0 p) e (steps_only key_of x.safe.safety (Received text))

      acts_fate : (by : Carrier) (o : SafetyOutcome) → Comes o → Fated (on_safety_report model by (report_of o) (octets_sent_in_outcome o) (after o))
      acts_fate by (SentAu1 octets) e = stays (after (SentAu1 octets)) refl
      acts_fate by (SentAu2 session sealed octets) e = stays (hand_answer model by octets (after (SentAu2 session sealed octets))) (kept_answers by octets (after (SentAu2 session sealed octets)))
      acts_fate by (SentAu3 session verified sealed octets) e =
          stays (hand_answer model by octets (after (SentAu3 session verified sealed octets))) (kept_answers by octets (after (SentAu3 session verified sealed octets)))
      acts_fate by (SentAr connection verified sealed octets) e =
          let o : SafetyOutcome = SentAr connection verified sealed octets in
          stays (record (hand_answer model by octets (after o)) { connected = Some connection.peer }) (kept_answers by octets (after o))
      acts_fate by (ReceivedAr connection verified) e =
          let o : SafetyOutcome = ReceivedAr connection verified in
          stays (record (hand_answer model by [] (after o)) { connected = Some connection.peer }) (kept_answers by [] (after o))
      acts_fate by (AcceptedDt session user verified) e =
          let o : SafetyOutcome = AcceptedDt session user verified in
          stays (keep_message model by user (after o)) (kept_keeps by user (after o))
      acts_fate by (SentDt session user sealed octets) e = stays (after (SentDt session user sealed octets)) refl
      acts_fate by (Refused refusal) e = stays (after (Refused refusal)) refl
      acts_fate by (ReleasedLocally release octets) e =
          let r = row (ReleasedLocally release octets) e in
          Goes release (kept_parts release octets (after (ReleasedLocally release octets))) (IsSafety r.cause (text, is, r.met) r.releases.release_is)
      acts_fate by (ReleasedByPeer release) e =
          let r = row (ReleasedByPeer release) e in
          Goes release (kept_parts release [] (after (ReleasedByPeer release))) (IsPeer r.reason r.sub (InOther text is r.unreleased r.received) r.release_is)
      acts_fate by NothingDone e = stays (after NothingDone) refl

    module _ (live : x.released ≡ None) where
      begun : kept (new_event_at model now x) ≡ calm
      begun = ap (λ (r : Option Release). record { leaves = None; released = r }) live

      text_fate : (payload tpdu : List ℕ) (by : Carrier) (text : List ℕ) → IsTextOf x now verdict text → Fated (on_text model finds by text (heard_at now verdict x payload tpdu))
      text_fate payload tpdu by text is =
          let a : Safety × SafetyOutcome = safety.step key_of x.safe.safety (Received text) in
          acts_fate text is a.0 (heard_at now verdict x payload tpdu) begun by a.1 refl

      dr_fate : (user : List ℕ) (y : Core) → IsDr user finds now x verdict → (di : Option (ℕ × ℕ)) → di_in user (peer_flag x.safe.safety) ≡ di → Fated (answer_dr model (why_of di) y)
      dr_fate user y is None e = Goes (release_of cause.DisconnectWithoutDi) refl (IsNoDi (user, is, e) refl)
      dr_fate user y is (Some di) e = Goes (by_peer_di di.0 di.1) refl (IsPeer di.0 di.1 (InDr user is e) refl)

      refused_fate : (tpdu : List ℕ) (sub reason : ℕ) (y : Core) → IsTpduOf x now verdict tpdu → (reception x.upper.transport tpdu).1 ≡ transport.Refused sub reason
          → (sub ≡ tpdu_refused) ⊎ (sub ≡ message_too_long) → Fated (send_dr model (by_this_end 2 sub) reason [] y)
      refused_fate tpdu sub reason y is e (inl s) =
          Goes (by_this_end 2 sub) refl (IsTpdu (tpdu, reason, is, e ∙ ap (λ (n : ℕ). transport.Refused n reason) s) (ap (λ (n : ℕ). by_this_end 2 n) s))
      refused_fate tpdu sub reason y is e (inr s) =
          Goes (by_this_end 2 sub) refl (IsLong (tpdu, reason, is, e ∙ ap (λ (n : ℕ). transport.Refused n reason) s) (ap (λ (n : ℕ). by_this_end 2 n) s))

      deed_fate : (payload tpdu : List ℕ) → (station_behind x now verdict).deed.payload ≡ Some payload → (joining.block_step x.joined payload).1 ≡ Ok (Some tpdu)
          → (d : ReceptionDeed) → (reception x.upper.transport tpdu).1 ≡ d → Refuses d → Fated (on_transport_deed model finds d (heard_at now verdict x payload tpdu))
      deed_fate payload tpdu t j Nothing e r = Stays begun
      deed_fate payload tpdu t j (Called user) e r =
          text_fate payload tpdu InCr user (record { payload = payload; taken = t; tpdu = tpdu; joined = j; brought = ap text_in_deed e })
      deed_fate payload tpdu t j (Confirmed user) e r =
          text_fate payload tpdu InCc user (record { payload = payload; taken = t; tpdu = tpdu; joined = j; brought = ap text_in_deed e })
      deed_fate payload tpdu t j (Message message) e r =
          text_fate payload tpdu InDt message (record { payload = payload; taken = t; tpdu = tpdu; joined = j; brought = ap text_in_deed e })
      deed_fate payload tpdu t j (Disconnected user) e r =
          dr_fate user (heard_at now verdict x payload tpdu) (tpdu, record { payload = payload; taken = t; joined = j }, e) (di_in user (peer_flag x.safe.safety)) refl
      deed_fate payload tpdu t j (transport.Refused sub reason) e r =
          refused_fate tpdu sub reason (heard_at now verdict x payload tpdu) (record { payload = payload; taken = t; joined = j }) e r

      block_fate : (payload : List ℕ) → (station_behind x now verdict).deed.payload ≡ Some payload → (answer : joining.BlockJoiningResult) → (joining.block_step x.joined payload).1 ≡ answer
          → Fated (on_joined_block model finds answer (joined_at now verdict x payload))
      block_fate payload t (Ok None) e = Stays begun
      block_fate payload t (Ok (Some tpdu)) e =
          deed_fate payload tpdu t e (reception x.upper.transport tpdu).1 refl (reception_refuses x.upper.transport tpdu)
      block_fate payload t (Err fault) e = Goes (release_of cause.BlockRefused) refl (IsBlock (payload, fault, t, e) refl)

      up_calm : kept (on_link_up model (taken_at now verdict x)) ≡ calm
      up_calm =
          let a : Safety × SafetyOutcome = safety.step no_keys x.safe.safety ConnectRequest in
          let y : Core = taken_at now verdict x in
          let z : Core = with_safety_step model ConnectRequest a y in
          kept_if (model.may_connect y.upper && is_ready y.safe.safety.phase) (connect_with_text model (octets_sent_in_outcome a.1) z) y calm
          (kept_if (is_some_octets (octets_sent_in_outcome a.1)) _ z calm begun begun) begun

      -- the station tells one thing
      one_deed : (why : Release) (d : LinkDeed) → d.payload ≡ None → d.more ≡ [] → d.up ≡ false → d.released ≡ Some why → d ≡ record { up = false; payload = None; more = []; released = Some why }
      one_deed why d p m u r =
          ap (λ (v : Option (List ℕ)). record { up = d.up; payload = v; more = d.more; released = d.released }) p
          ∙ ap (λ (v : List (List ℕ)). record { up = d.up; payload = None; more = v; released = d.released }) m
          ∙ ap (λ (b : Bool). record { up = b; payload = None; more = []; released = d.released }) u
          ∙ ap (λ (o : Option Release). record { up = false; payload = None; more = []; released = o }) r

      station_why : (why : Release) (d : LinkDeed) → (station_behind x now verdict).deed ≡ d → d.payload ≡ None → d.more ≡ [] → d.up ≡ false → d.released ≡ Some why
          → (d.released ≡ None) ⊎ (d.released ≡ Some (release_of cause.FrameError)) ⊎ (d.released ≡ Some (release_of cause.PeerDisconnected)) → Why why
      station_why why d e p m u r (inl none) = absurd (let f = sym r ∙ none in cc)
      station_why why d e p m u r (inr (inl f)) =
          let same : why ≡ release_of cause.FrameError = let g = sym r ∙ f in cc in
          IsError (e ∙ one_deed (release_of cause.FrameError) d p m u f) same
      station_why why d e p m u r (inr (inr f)) =
          let same : why ≡ release_of cause.PeerDisconnected = let g = sym r ∙ f in cc in
          IsDisconnect (e ∙ one_deed (release_of cause.PeerDisconnected) d p m u f) same

      link_fate : (payload : Option (List ℕ)) (up : Bool) (released : Option Release) → (station_behind x now verdict).deed.payload ≡ payload
          → (station_behind x now verdict).deed.up ≡ up → (station_behind x now verdict).deed.released ≡ released
          → Fated (on_link_told model finds payload up released (taken_at now verdict x))
      link_fate (Some payload) up released p u r = block_fate payload p (joining.block_step x.joined payload).1 refl
      link_fate None true released p u r = Stays up_calm
      link_fate None false (Some why) p u r =
          let given = receives (max x.moment now) verdict (settled x.line) refl in
          Goes why refl (station_why why (station_behind x now verdict).deed refl p given.single u r given.released)
      link_fate None false None p u r = Stays begun

      -- where the end is live, an event goes on
      goes_on_live : (y : Core) → (if is_some x.released then new_event_at model now x else y) ≡ y
      goes_on_live y = ap (λ (r : Option Release). if is_some r then new_event_at model now x else y) live

      frame_fate : Fated (step_frame model finds now verdict x)
      frame_fate =
          let d = (station_behind x now verdict).deed in
          let y : Core = on_link_told model finds d.payload d.up d.released (taken_at now verdict x) in
          fate_as Why (kept y) (kept (step_frame model finds now verdict x)) (ap kept (goes_on_live (conclude_event model y)) ∙ kept_concludes y) (link_fate d.payload d.up d.released refl refl refl)

      -- ---- and for each of these

      abbrev Gone : Release → Core → Type 0
      Gone why y = kept y ≡ gone why

      link_gone : (why : Release) → Gone why (on_link_deed model finds (station_behind x now verdict).deed (taken_at now verdict x)) → Gone why (step_frame model finds now verdict x)
      link_gone why g =
          let y : Core = on_link_deed model finds (station_behind x now verdict).deed (taken_at now verdict x) in
          ap kept (goes_on_live (conclude_event model y)) ∙ kept_concludes y ∙ g

      station_gone : (why : Release) → StationReleases why finds now x verdict → Gone why (step_frame model finds now verdict x)
      station_gone why e = link_gone why (subst (λ (d : LinkDeed). Gone why (on_link_deed model finds d (taken_at now verdict x))) (sym e) refl)

      payload_gone : (why : Release) (payload : List ℕ) → (station_behind x now verdict).deed.payload ≡ Some payload
          → Gone why (on_joined_block model finds (joining.block_step x.joined payload).1 (joined_at now verdict x payload)) → Gone why (step_frame model finds now verdict x)
      payload_gone why payload t g =
          let d = (station_behind x now verdict).deed in
          link_gone why (subst (λ (p : Option (List ℕ)). Gone why (on_link_told model finds p d.up d.released (taken_at now verdict x))) (sym t) g)

      block_gone : BlockIsFaulty finds now x verdict → Gone (release_of cause.BlockRefused) (step_frame model finds now verdict x)
      block_gone (payload, fault, t, e) =
          let why : Release = release_of cause.BlockRefused in
          payload_gone why payload t (subst (λ (a : joining.BlockJoiningResult). Gone why (on_joined_block model finds a (joined_at now verdict x payload))) (sym e) refl)

      tpdu_gone : (why : Release) (tpdu : List ℕ) (is : IsTpduOf x now verdict tpdu)
          → Gone why (on_transport_deed model finds (reception x.upper.transport tpdu).1 (heard_at now verdict x is.payload tpdu)) → Gone why (step_frame model finds now verdict x)
      tpdu_gone why tpdu is g =
          payload_gone why is.payload is.taken (subst (λ (a : joining.BlockJoiningResult). Gone why (on_joined_block model finds a (joined_at now verdict x is.payload))) (sym is.joined) g)

      refused_gone : (sub : ℕ) → TpduIsRefused sub finds now x verdict → Gone (by_this_end 2 sub) (step_frame model finds now verdict x)
      refused_gone sub (tpdu, reason, is, e) =
          let why : Release = by_this_end 2 sub in
          tpdu_gone why tpdu is (subst (λ (d : ReceptionDeed). Gone why (on_transport_deed model finds d (heard_at now verdict x is.payload tpdu))) (sym e) refl)

      dr_gone : (user : List ℕ) (di : Option (ℕ × ℕ)) → IsDr user finds now x verdict → di_in user (peer_flag x.safe.safety) ≡ di → Gone (why_of di) (step_frame model finds now verdict x)
      dr_gone user di (tpdu, is, e) f =
          let y : Core = heard_at now verdict x is.payload tpdu in
          tpdu_gone (why_of di) tpdu is (subst (λ (d : ReceptionDeed). Gone (why_of di) (on_transport_deed model finds d y)) (sym e)
          (subst (λ (o : Option (ℕ × ℕ)). Gone (why_of di) (answer_dr model (why_of o) y)) (sym f) refl))

      -- a text at which the safety side is released
      text_gone : (why : Release) (text : List ℕ) → IsTextOf x now verdict text
          → ((by : Carrier) (y : Core) → Gone why (on_safety_report model by (report_of (safety.step key_of x.safe.safety (Received text)).1) (octets_sent_in_outcome (safety.step key_of x.safe.safety (Received text)).1) y))
          → Gone why (step_frame model finds now verdict x)
      text_gone why text is h =
          let y : Core = heard_at now verdict x is.payload is.tpdu in
          tpdu_gone why is.tpdu (record { payload = is.payload; taken = is.taken; joined = is.joined }) (by_deed (reception x.upper.transport is.tpdu).1 is.brought)
        where
          by_deed : (d : ReceptionDeed) → text_in_deed d ≡ Some text → Gone why (on_transport_deed model finds d (heard_at now verdict x is.payload is.tpdu))
          by_deed Nothing e = absurd cc
          by_deed (Called user) e = by_text InCr user cc
            where
              by_text : (by : Carrier) (user : List ℕ) → user ≡ text → Gone why (on_text model finds by user (heard_at now verdict x is.payload is.tpdu))
              by_text by user e = subst (λ (u : List ℕ). Gone why (on_text model finds by u (heard_at now verdict x is.payload is.tpdu))) (sym e) (h by _)
          by_deed (Confirmed user) e = by_text InCc user cc
            where
              by_text : (by : Carrier) (user : List ℕ) → user ≡ text → Gone why (on_text model finds by user (heard_at now verdict x is.payload is.tpdu))
              by_text by user e = subst (λ (u : List ℕ). Gone why (on_text model finds by u (heard_at now verdict x is.payload is.tpdu))) (sym e) (h by _)
          by_deed (Message message) e = by_text InDt message cc
            where
              by_text : (by : Carrier) (user : List ℕ) → user ≡ text → Gone why (on_text model finds by user (heard_at now verdict x is.payload is.tpdu))
              by_text by user e = subst (λ (u : List ℕ). Gone why (on_text model finds by u (heard_at now verdict x is.payload is.tpdu))) (sym e) (h by _)
          by_deed (Disconnected user) e = absurd cc
          by_deed (transport.Refused sub reason) e = absurd cc

      safety_gone : (of : Cause) → SafetyMet of finds now x verdict → Gone (release_of of) (step_frame model finds now verdict x)
      safety_gone of (text, is, met) =
          let r = causes key_of x.safe.safety (Received text) of met in
          text_gone (release_of of) text is (λ by y. subst (λ (o : SafetyOutcome). Gone (release_of of) (on_safety_report model by (report_of o) (octets_sent_in_outcome o) y)) (sym (ap (λ (a : Safety × SafetyOutcome). a.1) r.3))
          (kept_parts r.1 r.2 y ∙ ap gone r.4.release_is))

      peers_gone : (reason sub : ℕ) → PeersDi reason sub finds now x verdict → Gone (by_peer_di reason sub) (step_frame model finds now verdict x)
      peers_gone reason sub (InDr user is e) = dr_gone user (Some (reason, sub)) is e
      peers_gone reason sub (InOther text is unreleased received) =
          let why : Release = by_peer_di reason sub in
          let s : Safety = x.safe.safety in
          let next : Safety = record s { phase = safety.Released why (safety.session_in s.phase) } in
          let e : safety.step key_of s (Received text) ≡ (next, ReleasedByPeer why) = steps_each key_of s (Received text) next (ReleasedByPeer why) (record {
            reason = reason;
            sub = sub;
            unreleased = unreleased;
            received = received;
            release_is = refl;
            next_is = refl;
          }) in
          text_gone why text is (λ by y. subst (λ (o : SafetyOutcome). Gone why (on_safety_report model by (report_of o) (octets_sent_in_outcome o) y)) (sym (ap (λ (a : Safety × SafetyOutcome). a.1) e)) (kept_parts why [] y))

-- of a fate
fate_why : (Why : Release → Type 0) (why : Release) (k : Kept) → Fate Why k → k.released ≡ Some why → Why why
fate_why Why why k (Stays e) r = absurd (let f = sym (ap (λ (j : Kept). j.released) e) ∙ r in cc)
fate_why Why why k (Goes w e h) r =
    let same : w ≡ why = let f = sym (ap (λ (j : Kept). j.released) e) ∙ r in cc in
    subst (λ (v : Release). Why v) same h

fate_told : (Why : Release → Type 0) (why : Release) (k : Kept) → Fate Why k → k.leaves ≡ Some why → k.released ≡ Some why
fate_told Why why k (Stays e) l = absurd (let f = sym (ap (λ (j : Kept). j.leaves) e) ∙ l in cc)
fate_told Why why k (Goes w e h) l =
    let same : w ≡ why = let f = sym (ap (λ (j : Kept). j.leaves) e) ∙ l in cc in
    ap (λ (j : Kept). j.released) e ∙ ap (λ (v : Release). Some v) same

-- ---- a released end stays so

stays_if : (why : Release) (r : Option Release) (x y : Core) → r ≡ Some why → x.released ≡ Some why → (if is_some r then x else y).released ≡ Some why
stays_if why None x y e h = absurd cc
stays_if why (Some w) x y e h = h

comes_stays : (finds : Finds) (now : ℕ) (verdict : Verdict) (x : Core) (why : Release) → x.released ≡ Some why → (step_frame model finds now verdict x).released ≡ Some why
comes_stays finds now verdict x why e =
    let d = (station_behind x now verdict).deed in
    stays_if why x.released (new_event_at model now x) (conclude_event model (on_link_told model finds d.payload d.up d.released (taken_at now verdict x))) e e

hears_stays : (finds : Finds) (now : ℕ) (vs : List Verdict) (x : Core) (why : Release) → x.released ≡ Some why → (hears_each finds now vs x).released ≡ Some why
hears_stays finds now [] x why e = e
hears_stays finds now (v ∷ vs) x why e = hears_stays finds now vs (step_frame model finds now v x) why (comes_stays finds now v x why e)

-- ---- the events

abbrev StepGone : ℕ → Event → End → Release → Type 0
StepGone now event m why = ((step_event now event m).0.core.released ≡ Some why) × Contains (step_event now event m).1 (WasReleased why)

-- behind a fact of a frame the end is released, and tells it
at_frame : (now : ℕ) (event : Event) (m : End) (Fact : FrameFact) (why : Release) → AtFrame now event m Fact
    → ((finds : Finds) (x : Core) (verdict : Verdict) → x.released ≡ None → Fact finds now x verdict → kept (step_frame model finds now verdict x) ≡ gone why)
    → StepGone now event m why
at_frame now event m Fact why h goes =
    let b : Core = new_event_at model now m.core in
    let x : Core = core_behind_frames h.finds now h.first m in
    let y : Core = step_frame model h.finds now h.verdict x in
    let g = goes h.finds x h.verdict h.live h.met in
    let kept_on : (hears_each h.finds now h.later y).released ≡ Some why = hears_stays h.finds now h.later y why (ap (λ (k : Kept). k.released) g) in
    let on_safety_release : hears_each h.finds now (h.first ++ h.verdict ∷ h.later) b ≡ hears_each h.finds now h.later y = hears_parts h.finds now h.first (h.verdict ∷ h.later) b in
    let out : List Outcome = told_of_each h.finds now h.later y in
    let here : Contains (outcomes_of model y ++ out) (WasReleased why) = Contains-append_left (outcomes_of model y) out (WasReleased why) (gone_told why y g) in
    let all : Contains (told_of_each h.finds now (h.first ++ h.verdict ∷ h.later) b) (WasReleased why) =
    subst (λ (os : List Outcome). Contains os (WasReleased why)) (sym (told_parts h.finds now h.first (h.verdict ∷ h.later) b))
    (Contains-append_right (told_of_each h.finds now h.first b) (outcomes_of model y ++ out) (WasReleased why) here) in
    let at_octets : StepGone now (Come h.finds h.octets) m why = (
      subst (λ (vs : List Verdict). (hears_each h.finds now vs b).released ≡ Some why) (sym h.frames) (ap (λ (z : Core). z.released) on_safety_release ∙ kept_on),
      subst (λ (vs : List Verdict). Contains (told_of_each h.finds now vs b) (WasReleased why)) (sym h.frames) all,
    ) in
    subst (λ (e : Event). StepGone now e m why) (sym h.came) at_octets

module _ (receives : stations.ReceivesGive) (time : stations.TicksGive) (steps_only : StepsOnly) (steps_each : StepsEach) (causes : CauseReleases) where
  -- ---- octets that come

  module _ (now : ℕ) (finds : Finds) (octets : List ℕ) (m : End) where
    abbrev came : Event
    came = Come finds octets

    -- a fact of a frame is a row of the table
    row_of : (first : List Verdict) (v : Verdict) (later : List Verdict) → news m.stream octets ≡ first ++ v ∷ later → (core_behind_frames finds now first m).released ≡ None
        → (why : Release) → FrameWhy finds now (core_behind_frames finds now first m) v why → ReleaseMet now came m why
    row_of first v later e live why w = by_why w
      where
        at : (Fact : FrameFact) → Fact finds now (core_behind_frames finds now first m) v → AtFrame now came m Fact
        at Fact met = record { finds = finds; octets = octets; came = refl; first = first; verdict = v; later = later; frames = e; live = live; met = met }

        by_safety : (of : Cause) → SafetyMet of finds now (core_behind_frames finds now first m) v → why ≡ release_of of → ReleaseMet now came m why
        by_safety (cause.User sub) f r = absurd (let g = f.2.1 in cc)
        by_safety cause.SetUpUnanswered f r = absurd f.2
        by_safety cause.NoProgress f r = absurd f.2
        by_safety cause.FrameError f r = absurd f.2
        by_safety cause.PeerDisconnected f r = absurd f.2
        by_safety cause.LineEnded f r = absurd f.2
        by_safety cause.LineFailed f r = absurd f.2
        by_safety cause.LineStalled f r = absurd f.2
        by_safety cause.DisconnectWithoutDi f r = absurd f.2
        by_safety cause.TpduRefused f r = absurd f.2
        by_safety cause.MessageTooLong f r = absurd f.2
        by_safety cause.BlockRefused f r = absurd f.2
        by_safety cause.NoKey f r = ForCause cause.NoKey (at (SafetyMet cause.NoKey) f) r
        by_safety cause.Au2MacWrong f r = ForCause cause.Au2MacWrong (at (SafetyMet cause.Au2MacWrong) f) r
        by_safety cause.Au3MacWrong f r = ForCause cause.Au3MacWrong (at (SafetyMet cause.Au3MacWrong) f) r
        by_safety cause.ArMacWrong f r = ForCause cause.ArMacWrong (at (SafetyMet cause.ArMacWrong) f) r
        by_safety cause.OtherResponder f r = ForCause cause.OtherResponder (at (SafetyMet cause.OtherResponder) f) r
        by_safety cause.OtherFeature f r = ForCause cause.OtherFeature (at (SafetyMet cause.OtherFeature) f) r
        by_safety cause.DtMacWrong f r = ForCause cause.DtMacWrong (at (SafetyMet cause.DtMacWrong) f) r
        by_safety cause.WrongDirection f r = ForCause cause.WrongDirection (at (SafetyMet cause.WrongDirection) f) r
        by_safety cause.Unexpected f r = ForCause cause.Unexpected (at (SafetyMet cause.Unexpected) f) r
        by_safety cause.Malformed f r = ForCause cause.Malformed (at (SafetyMet cause.Malformed) f) r
        by_safety cause.SetUpTimeSpent f r = absurd f.2

        by_why : FrameWhy finds now (core_behind_frames finds now first m) v why → ReleaseMet now came m why
        by_why (IsError f r) = ForCause cause.FrameError (at (StationReleases (release_of cause.FrameError)) f) r
        by_why (IsDisconnect f r) = ForCause cause.PeerDisconnected (at (StationReleases (release_of cause.PeerDisconnected)) f) r
        by_why (IsBlock f r) = ForCause cause.BlockRefused (at BlockIsFaulty f) r
        by_why (IsTpdu f r) = ForCause cause.TpduRefused (at (TpduIsRefused tpdu_refused) f) r
        by_why (IsLong f r) = ForCause cause.MessageTooLong (at (TpduIsRefused message_too_long) f) r
        by_why (IsNoDi f r) = ForCause cause.DisconnectWithoutDi (at DrHasNoDi f) r
        by_why (IsSafety of f r) = by_safety of f r
        by_why (IsPeer reason sub f r) = ByPeer reason sub (at (PeersDi reason sub) f) r

    come_only : (first vs : List Verdict) → news m.stream octets ≡ first ++ vs → (x : Core) → core_behind_frames finds now first m ≡ x → x.released ≡ None
        → (why : Release) → (hears_each finds now vs x).released ≡ Some why → ReleaseMet now came m why
    come_only first [] e x is live why r = absurd (let f = sym live ∙ r in cc)
    come_only first (v ∷ vs) e x is live why r =
        let b : Core = core_behind_frames finds now first m in
        let y : Core = step_frame model finds now v x in
        let before : b.released ≡ None = ap (λ (z : Core). z.released) is ∙ live in
        let same : step_frame model finds now v b ≡ y = ap (λ (z : Core). step_frame model finds now v z) is in
        by_fate (kept (step_frame model finds now v b)) (ap kept same) before (frame_fate receives steps_only steps_each causes finds now v b before)
        (λ l. come_only (first ++ v ∷ []) vs (e ∙ sym (append_assoc first (v ∷ []) vs)) y (hears_parts finds now first (v ∷ []) (new_event_at model now m.core) ∙ same) l why r)
      where
        by_fate : (k : Kept) → k ≡ kept (step_frame model finds now v x) → (core_behind_frames finds now first m).released ≡ None
            → Fate (λ w. FrameWhy finds now (core_behind_frames finds now first m) v w) k
            → ((step_frame model finds now v x).released ≡ None → ReleaseMet now came m why) → ReleaseMet now came m why
        by_fate k s before (Stays c) more = more (ap (λ (j : Kept). j.released) (sym s ∙ c))
        by_fate k s before (Goes w c f) more =
            let y : Core = step_frame model finds now v x in
            let last : (hears_each finds now vs y).released ≡ Some w = hears_stays finds now vs y w (ap (λ (j : Kept). j.released) (sym s ∙ c)) in
            let same : w ≡ why = let g = sym last ∙ r in cc in
            row_of first v vs e before why (subst (λ (q : Release). FrameWhy finds now (core_behind_frames finds now first m) v q) same f)

    -- what is told of a frame
    frame_told : (v : Verdict) (x : Core) (why : Release) → (step_frame model finds now v x).leaves ≡ Some why → (step_frame model finds now v x).released ≡ Some why
    frame_told v x why l = by_released x.released refl
      where
        by_released : (r : Option Release) → x.released ≡ r → (step_frame model finds now v x).released ≡ Some why
        by_released None live = fate_told (λ w. FrameWhy finds now x v w) why (kept (step_frame model finds now v x)) (frame_fate receives steps_only steps_each causes finds now v x live) l
        by_released (Some w) e =
            let d = (station_behind x now v).deed in
            let y : Core = conclude_event model (on_link_told model finds d.payload d.up d.released (taken_at now v x)) in
            let none : (if is_some x.released then new_event_at model now x else y).leaves ≡ None =
            ap (λ (r : Option Release). (if is_some r then new_event_at model now x else y).leaves) e in
            absurd (let f = sym none ∙ l in cc)

    come_told : (vs : List Verdict) (x : Core) (final : Option Release) → (hears_each finds now vs x).released ≡ final → All (Told final) (told_of_each finds now vs x)
    come_told [] x final e = All-nil (Told final)
    come_told (v ∷ vs) x final e =
        let y : Core = step_frame model finds now v x in
        All-append (Told final) (outcomes_of model y) (told_of_each finds now vs y)
        (told_all final y (λ why l. sym e ∙ hears_stays finds now vs y why (frame_told v x why l))) (come_told vs y final e)

  -- ---- the other events

  unless_live : (x : Core) → x.released ≡ None → (b y : Core) → (if is_some x.released then b else y) ≡ y
  unless_live x live b y = ap (λ (r : Option Release). if is_some r then b else y) live

  begun_calm : (x : Core) → x.released ≡ None → (moment : ℕ) → kept (new_event_at model moment x) ≡ calm
  begun_calm x live moment = ap (λ (r : Option Release). record { leaves = None; released = r }) live

  starts_calm : (now : ℕ) (x : Core) → x.released ≡ None → kept (step_start model now x) ≡ calm
  starts_calm now x live =
      let b : Core = new_event_at model now x in
      let z : Core = record b { line = model.starts b.moment b.line } in
      ap kept (unless_live x live b (conclude_event model z)) ∙ kept_concludes z ∙ begun_calm x live now

  sent_calm : (now : ℕ) (user : List ℕ) (x : Core) → x.released ≡ None → kept (on_send model user (new_event_at model now x)) ≡ calm
  sent_calm now user x live =
      let b : Core = new_event_at model now x in
      let a : Safety × SafetyOutcome = safety.step no_keys x.safe.safety (DataRequest user) in
      let y : Core = with_safety_step model (DataRequest user) a b in
      let z : Core = record y { upper = model.sends y.upper user } in
      kept_concludes (hand_text model (octets_sent_in_outcome a.1) z) ∙ kept_says (octets_sent_in_outcome a.1) z ∙ begun_calm x live now

  uses_calm : (now : ℕ) (x : Core) → x.released ≡ None → kept (step_take model now x) ≡ calm
  uses_calm now x live =
      let b : Core = new_event_at model now x in
      let z : Core = record b { upper = model.uses b.upper } in
      kept_if (length x.upper.accepted - x.upper.used == 0) b (conclude_event model z) calm (begun_calm x live now) (kept_concludes z ∙ begun_calm x live now)

  leaves_gone : (now sub : ℕ) (x : Core) → x.released ≡ None → kept (step_release model now sub x) ≡ gone (release_of (cause.User sub))
  leaves_gone now sub x live =
      let b : Core = new_event_at model now x in
      let a : Safety × SafetyOutcome = safety.step no_keys x.safe.safety (DisconnectRequest sub) in
      ap kept (unless_live x live b (send_dr model (release_of (cause.User sub)) normal_disconnect (octets_sent_in_outcome a.1) (with_safety_step model (DisconnectRequest sub) a b)))

  breaks_gone : (of : Cause) (x : Core) → x.released ≡ None → kept (step_break model of x) ≡ gone (release_of of)
  breaks_gone of x live = ap kept (unless_live x live (new_event model x) (with_release (release_of of) (new_event model x)))

  -- behind T1
  abbrev timed_at : ℕ → Core → Core
  timed_at now x = record (new_event_at model now x) { line = station_at x now }

  ticks_kept : (now : ℕ) (x : Core) → x.released ≡ None → kept (step_tick model now x) ≡ kept (on_expiry model (station_at x now).deed.released (timed_at now x))
  ticks_kept now x live =
      let y : Core = on_expiry model (station_at x now).deed.released (timed_at now x) in
      ap kept (unless_live x live (new_event_at model now x) (conclude_event model y)) ∙ kept_concludes y

  and_true : (a b : Bool) → (a && b) ≡ true → (a ≡ true) × (b ≡ true)
  and_true true b e = (refl, e)
  and_true false b e = absurd cc

  not_true : (b : Bool) → not b ≡ true → b ≡ false
  not_true true e = absurd cc
  not_true false e = refl

  tick_fate : (now : ℕ) (m : End) → m.core.released ≡ None → (g : Option Release) → (station_at m.core now).deed.released ≡ g
      → Fate (λ why. ReleaseMet now Tick m why) (kept (on_expiry model g (timed_at now m.core)))
  tick_fate now m live (Some why) e = Goes why refl (by_cause (time (max m.core.moment now) (settled m.core.line) refl).released)
    where
      by_cause : ((station_at m.core now).deed.released ≡ None) ⊎ ((station_at m.core now).deed.released ≡ Some (release_of cause.SetUpUnanswered))
          ⊎ ((station_at m.core now).deed.released ≡ Some (release_of cause.NoProgress)) → ReleaseMet now Tick m why
      by_cause (inl none) = absurd (let f = sym e ∙ none in cc)
      by_cause (inr (inl f)) = ForCause cause.SetUpUnanswered (refl, f) (let g = sym e ∙ f in cc)
      by_cause (inr (inr f)) = ForCause cause.NoProgress (refl, f) (let g = sym e ∙ f in cc)
  tick_fate now m live None e = by_time (is_spent (timed_at now m.core)) refl
    where
      by_time : (b : Bool) → is_spent (timed_at now m.core) ≡ b
          → Fate (λ why. ReleaseMet now Tick m why)
          (kept (if b then send_dr model (release_of cause.SetUpTimeSpent) normal_disconnect (di_of (release_of cause.SetUpTimeSpent) m.core.safe.safety) (timed_at now m.core) else timed_at now m.core))
      by_time true s =
          let p = and_true (not (is_connected m.core.safe.safety.phase)) (nat_le m.core.limit (max m.core.moment now)) s in
          Goes (release_of cause.SetUpTimeSpent) refl
          (ForCause cause.SetUpTimeSpent (refl, e, not_true (is_connected m.core.safe.safety.phase) p.0, leb-true m.core.limit (max m.core.moment now) p.1) refl)
      by_time false s = Stays (begun_calm m.core live now)

  -- a tick at which the station gives up, and one at which the time for the set-up is spent
  gives_up_gone : (now : ℕ) (x : Core) (why : Release) → x.released ≡ None → (station_at x now).deed.released ≡ Some why → kept (step_tick model now x) ≡ gone why
  gives_up_gone now x why live e =
      ticks_kept now x live ∙ ap (λ (g : Option Release). kept (on_expiry model g (timed_at now x))) e

  spent_gone : (now : ℕ) (x : Core) → x.released ≡ None → (station_at x now).deed.released ≡ None → is_connected x.safe.safety.phase ≡ false → x.limit ≤ max x.moment now
      → kept (step_tick model now x) ≡ gone (release_of cause.SetUpTimeSpent)
  spent_gone now x live none open' late =
      let z : Core = timed_at now x in
      let why : Release = release_of cause.SetUpTimeSpent in
      let y : Core = send_dr model why normal_disconnect (di_of why x.safe.safety) z in
      let spent : is_spent z ≡ true = ap₂ (λ (c l : Bool). not c && l) open' (le-leb x.limit (max x.moment now) late) in
      ticks_kept now x live ∙ ap (λ (g : Option Release). kept (on_expiry model g z)) none ∙ ap (λ (b : Bool). kept (if b then y else z)) spent

  -- ---- all events

  -- what an event other than octets makes of an end
  abbrev Made : ℕ → Event → End → Core → Type 0
  Made now event m y = Fate (λ why. ReleaseMet now event m why) (kept y)

  start_made : (now : ℕ) (m : End) → m.core.released ≡ None → Made now Start m (step_start model now m.core)
  start_made now m live = Stays (starts_calm now m.core live)

  unless_made : (now : ℕ) (user : List ℕ) (m : End) (r : Option SendRefusal) → m.core.released ≡ None → (step_send_unless model r now user m.core).released ≡ None
  unless_made now user m (Some refusal) live = live
  unless_made now user m None live = ap (λ (k : Kept). k.released) (sent_calm now user m.core live)

  take_made : (now : ℕ) (m : End) → m.core.released ≡ None → Made now Take m (step_take model now m.core)
  take_made now m live = Stays (uses_calm now m.core live)

  leave_made : (now sub : ℕ) (m : End) → m.core.released ≡ None → Made now (Leave sub) m (step_release model now sub m.core)
  leave_made now sub m live = Goes (release_of (cause.User sub)) (leaves_gone now sub m.core live) (ForCause (cause.User sub) refl refl)

  tick_made : (now : ℕ) (m : End) → m.core.released ≡ None → Made now Tick m (step_tick model now m.core)
  tick_made now m live =
      fate_as (λ why. ReleaseMet now Tick m why) (kept (on_expiry model (station_at m.core now).deed.released (timed_at now m.core))) (kept (step_tick model now m.core))
      (ticks_kept now m.core live) (tick_fate now m live (station_at m.core now).deed.released refl)

  broken_made : (now : ℕ) (event : Event) (m : End) (of : Cause) → MeetsReleaseCause now event m of → m.core.released ≡ None → Made now event m (step_break model of m.core)
  broken_made now event m of met live = Goes (release_of of) (breaks_gone of m.core live) (ForCause of met refl)

  only : (now : ℕ) (event : Event) (m : End) (why : Release) → m.core.released ≡ None → (step_event now event m).0.core.released ≡ Some why → ReleaseMet now event m why
  only now Start m why live r = fate_why (λ w. ReleaseMet now Start m w) why (kept (step_start model now m.core)) (start_made now m live) r
  only now (Come finds octets) m why live r = come_only now finds octets m [] (news m.stream octets) refl (new_event_at model now m.core) refl live why r
  only now (Send user) m why live r = absurd (let f = sym (unless_made now user m (refusal_of model user m.core) live) ∙ r in cc)
  only now Take m why live r = fate_why (λ w. ReleaseMet now Take m w) why (kept (step_take model now m.core)) (take_made now m live) r
  only now (Leave sub) m why live r = fate_why (λ w. ReleaseMet now (Leave sub) m w) why (kept (step_release model now sub m.core)) (leave_made now sub m live) r
  only now Tick m why live r = fate_why (λ w. ReleaseMet now Tick m w) why (kept (step_tick model now m.core)) (tick_made now m live) r
  only now Ended m why live r = fate_why (λ w. ReleaseMet now Ended m w) why (kept (step_break model cause.LineEnded m.core)) (broken_made now Ended m cause.LineEnded refl live) r
  only now Fault m why live r = fate_why (λ w. ReleaseMet now Fault m w) why (kept (step_break model cause.LineFailed m.core)) (broken_made now Fault m cause.LineFailed refl live) r
  only now Stalled m why live r = fate_why (λ w. ReleaseMet now Stalled m w) why (kept (step_break model cause.LineStalled m.core)) (broken_made now Stalled m cause.LineStalled refl live) r

  -- of one call
  gone_step : (why : Release) (y : Core) → kept y ≡ gone why → (y.released ≡ Some why) × Contains (outcomes_of model y) (WasReleased why)
  gone_step why y g = (ap (λ (k : Kept). k.released) g, gone_told why y g)

  at_text : (now : ℕ) (event : Event) (m : End) (of : Cause) → AtFrame now event m (SafetyMet of) → StepGone now event m (release_of of)
  at_text now event m of met = at_frame now event m (SafetyMet of) (release_of of) met (λ finds x verdict l f. safety_gone receives steps_only steps_each causes finds now verdict x l of f)

  each_cause : (now : ℕ) (event : Event) (m : End) (of : Cause) → m.core.released ≡ None → MeetsReleaseCause now event m of → StepGone now event m (release_of of)
  each_cause now event m (cause.User sub) live met =
      subst (λ (e : Event). StepGone now e m (release_of (cause.User sub))) (sym met) (gone_step (release_of (cause.User sub)) (step_release model now sub m.core) (leaves_gone now sub m.core live))
  each_cause now event m cause.SetUpUnanswered live met =
      let why : Release = release_of cause.SetUpUnanswered in
      subst (λ (e : Event). StepGone now e m why) (sym met.0) (gone_step why (step_tick model now m.core) (gives_up_gone now m.core why live met.1))
  each_cause now event m cause.NoProgress live met =
      let why : Release = release_of cause.NoProgress in
      subst (λ (e : Event). StepGone now e m why) (sym met.0) (gone_step why (step_tick model now m.core) (gives_up_gone now m.core why live met.1))
  each_cause now event m cause.FrameError live met =
      let why : Release = release_of cause.FrameError in
      at_frame now event m (StationReleases why) why met (λ finds x verdict l f. station_gone receives steps_only steps_each causes finds now verdict x l why f)
  each_cause now event m cause.PeerDisconnected live met =
      let why : Release = release_of cause.PeerDisconnected in
      at_frame now event m (StationReleases why) why met (λ finds x verdict l f. station_gone receives steps_only steps_each causes finds now verdict x l why f)
  each_cause now event m cause.LineEnded live met =
      let why : Release = release_of cause.LineEnded in
      subst (λ (e : Event). StepGone now e m why) (sym met) (gone_step why (step_break model cause.LineEnded m.core) (breaks_gone cause.LineEnded m.core live))
  each_cause now event m cause.LineFailed live met =
      let why : Release = release_of cause.LineFailed in
      subst (λ (e : Event). StepGone now e m why) (sym met) (gone_step why (step_break model cause.LineFailed m.core) (breaks_gone cause.LineFailed m.core live))
  each_cause now event m cause.LineStalled live met =
      let why : Release = release_of cause.LineStalled in
      subst (λ (e : Event). StepGone now e m why) (sym met) (gone_step why (step_break model cause.LineStalled m.core) (breaks_gone cause.LineStalled m.core live))
  each_cause now event m cause.DisconnectWithoutDi live met =
      at_frame now event m DrHasNoDi (release_of cause.DisconnectWithoutDi) met
      (λ finds x verdict l f. dr_gone receives steps_only steps_each causes finds now verdict x l f.0 None f.1 f.2)
  each_cause now event m cause.TpduRefused live met =
      at_frame now event m (TpduIsRefused tpdu_refused) (release_of cause.TpduRefused) met
      (λ finds x verdict l f. refused_gone receives steps_only steps_each causes finds now verdict x l tpdu_refused f)
  each_cause now event m cause.MessageTooLong live met =
      at_frame now event m (TpduIsRefused message_too_long) (release_of cause.MessageTooLong) met
      (λ finds x verdict l f. refused_gone receives steps_only steps_each causes finds now verdict x l message_too_long f)
  each_cause now event m cause.BlockRefused live met =
      at_frame now event m BlockIsFaulty (release_of cause.BlockRefused) met (λ finds x verdict l f. block_gone receives steps_only steps_each causes finds now verdict x l f)
  each_cause now event m cause.NoKey live met = at_text now event m cause.NoKey met
  each_cause now event m cause.Au2MacWrong live met = at_text now event m cause.Au2MacWrong met
  each_cause now event m cause.Au3MacWrong live met = at_text now event m cause.Au3MacWrong met
  each_cause now event m cause.ArMacWrong live met = at_text now event m cause.ArMacWrong met
  each_cause now event m cause.OtherResponder live met = at_text now event m cause.OtherResponder met
  each_cause now event m cause.OtherFeature live met = at_text now event m cause.OtherFeature met
  each_cause now event m cause.DtMacWrong live met = at_text now event m cause.DtMacWrong met
  each_cause now event m cause.WrongDirection live met = at_text now event m cause.WrongDirection met
  each_cause now event m cause.Unexpected live met = at_text now event m cause.Unexpected met
  each_cause now event m cause.Malformed live met = at_text now event m cause.Malformed met
  each_cause now event m cause.SetUpTimeSpent live met =
      let why : Release = release_of cause.SetUpTimeSpent in
      subst (λ (e : Event). StepGone now e m why) (sym met.0) (gone_step why (step_tick model now m.core) (spent_gone now m.core live met.1 met.2 met.3))

  each : (now : ℕ) (event : Event) (m : End) (why : Release) → m.core.released ≡ None → ReleaseMet now event m why → StepGone now event m why
  each now event m why live (ForCause of met e) = subst (λ (w : Release). StepGone now event m w) (sym e) (each_cause now event m of live met)
  each now event m why live (ByPeer reason sub met e) =
      subst (λ (w : Release). StepGone now event m w) (sym e)
      (at_frame now event m (PeersDi reason sub) (by_peer_di reason sub) met (λ finds x verdict l f. peers_gone receives steps_only steps_each causes finds now verdict x l reason sub f))

  event_told : (now : ℕ) (event : Event) (m : End) → m.core.released ≡ None → All (Told (step_event now event m).0.core.released) (step_event now event m).1
  event_told now Start m live =
      let y : Core = step_start model now m.core in
      told_all y.released y (λ why l. fate_told (λ w. ReleaseMet now Start m w) why (kept y) (start_made now m live) l)
  event_told now (Come finds octets) m live =
      let x : Core = new_event_at model now m.core in
      let vs : List Verdict = news m.stream octets in
      come_told now finds octets m vs x (hears_each finds now vs x).released refl
  event_told now (Send user) m live = by_refusal (refusal_of model user m.core)
    where
      by_refusal : (r : Option SendRefusal) → All (Told (step_send_unless model r now user m.core).released) (refusal_or_outcomes r (outcomes_of model (step_send_unless model r now user m.core)))
      by_refusal (Some refusal) = All-cons (Told m.core.released) (told.Refused refusal) [] tt (All-nil (Told m.core.released))
      by_refusal None =
          let y : Core = on_send model user (new_event_at model now m.core) in
          told_all y.released y (λ why l. absurd (let f = sym (ap (λ (k : Kept). k.leaves) (sent_calm now user m.core live)) ∙ l in cc))
  event_told now Take m live =
      let y : Core = step_take model now m.core in
      All-append (Told y.released) (if_taken (model.oldest m.core.upper)) (outcomes_of model y) (told_taken y.released (model.oldest m.core.upper))
      (told_all y.released y (λ why l. fate_told (λ w. ReleaseMet now Take m w) why (kept y) (take_made now m live) l))
  event_told now (Leave sub) m live =
      let y : Core = step_release model now sub m.core in
      told_all y.released y (λ why l. fate_told (λ w. ReleaseMet now (Leave sub) m w) why (kept y) (leave_made now sub m live) l)
  event_told now Tick m live =
      let y : Core = step_tick model now m.core in
      told_all y.released y (λ why l. fate_told (λ w. ReleaseMet now Tick m w) why (kept y) (tick_made now m live) l)
  event_told now Ended m live =
      let y : Core = step_break model cause.LineEnded m.core in
      told_all y.released y (λ why l. fate_told (λ w. ReleaseMet now Ended m w) why (kept y) (broken_made now Ended m cause.LineEnded refl live) l)
  event_told now Fault m live =
      let y : Core = step_break model cause.LineFailed m.core in
      told_all y.released y (λ why l. fate_told (λ w. ReleaseMet now Fault m w) why (kept y) (broken_made now Fault m cause.LineFailed refl live) l)
  event_told now Stalled m live =
      let y : Core = step_break model cause.LineStalled m.core in
      told_all y.released y (λ why l. fate_told (λ w. ReleaseMet now Stalled m w) why (kept y) (broken_made now Stalled m cause.LineStalled refl live) l)

  pub end_releases : EndReleases
  end_releases = record {
    only = only;
    each = each;
    told = λ now event m why live c. All-contains (Told (step_event now event m).0.core.released) (step_event now event m).1 (WasReleased why) (event_told now event m live) c;
  }

  -- ---- a run

  stays_uses : (now : ℕ) (x : Core) (why : Release) → x.released ≡ Some why → (step_take model now x).released ≡ Some why
  stays_uses now x why e =
      let b : Core = new_event_at model now x in
      let z : Core = record b { upper = model.uses b.upper } in
      by_count (length x.upper.accepted - x.upper.used == 0) (conclude_event model z) (ap (λ (k : Kept). k.released) (kept_concludes z) ∙ e)
    where
      by_count : (b : Bool) (y : Core) → y.released ≡ Some why → (if b then new_event_at model now x else y).released ≡ Some why
      by_count true y h = e
      by_count false y h = h

  stays_sends : (now : ℕ) (user : List ℕ) (x : Core) (why : Release) → x.released ≡ Some why → (r : Option SendRefusal) → (step_send_unless model r now user x).released ≡ Some why
  stays_sends now user x why e (Some refusal) = e
  stays_sends now user x why e None =
      let b : Core = new_event_at model now x in
      let a : Safety × SafetyOutcome = safety.step no_keys x.safe.safety (DataRequest user) in
      let y : Core = with_safety_step model (DataRequest user) a b in
      let z : Core = record y { upper = model.sends y.upper user } in
      ap (λ (k : Kept). k.released) (kept_concludes (hand_text model (octets_sent_in_outcome a.1) z) ∙ kept_says (octets_sent_in_outcome a.1) z) ∙ e

  step_stays : (now : ℕ) (event : Event) (m : End) (why : Release) → m.core.released ≡ Some why → (step_event now event m).0.core.released ≡ Some why
  step_stays now Start m why e = stays_if why m.core.released (new_event_at model now m.core) _ e e
  step_stays now (Come finds octets) m why e = hears_stays finds now (news m.stream octets) (new_event_at model now m.core) why e
  step_stays now (Send user) m why e = stays_sends now user m.core why e (refusal_of model user m.core)
  step_stays now Take m why e = stays_uses now m.core why e
  step_stays now (Leave sub) m why e = stays_if why m.core.released (new_event_at model now m.core) _ e e
  step_stays now Tick m why e = stays_if why m.core.released (new_event_at model now m.core) _ e e
  step_stays now Ended m why e = stays_if why m.core.released (new_event model m.core) _ e e
  step_stays now Fault m why e = stays_if why m.core.released (new_event model m.core) _ e e
  step_stays now Stalled m why e = stays_if why m.core.released (new_event model m.core) _ e e

  run_stays : (events : List Moment) (m : End) (why : Release) → m.core.released ≡ Some why → (end_run events m).core.released ≡ Some why
  run_stays [] m why e = e
  run_stays (moment ∷ events) m why e = run_stays events (step_event moment.now moment.event m).0 why (step_stays moment.now moment.event m why e)

  run_last : (before : List Moment) (moment : Moment) (m : End) → end_run (before ++ moment ∷ []) m ≡ (step_event moment.now moment.event (end_run before m)).0
  run_last [] moment m = refl
  run_last (e ∷ before) moment m = run_last before moment (step_event e.now e.event m).0

  run_only : (events before after : List Moment) (m n : End) (why : Release) → events ≡ before ++ after → end_run before m ≡ n → n.core.released ≡ None
      → (end_run after n).core.released ≡ Some why → ReleasedIn events m why
  run_only events before [] m n why e is live r = absurd (let f = sym live ∙ r in cc)
  run_only events before (moment ∷ after) m n why e is live r =
      let l : (end_run before m).core.released ≡ None = ap (λ (k : End). k.core.released) is ∙ live in
      let next : End = (step_event moment.now moment.event n).0 in
      let same : (step_event moment.now moment.event (end_run before m)).0 ≡ next = ap (λ (k : End). (step_event moment.now moment.event k).0) is in
      by_step next.core.released refl same l
      (λ still. run_only events (before ++ moment ∷ []) after m next why (e ∙ sym (append_assoc before (moment ∷ []) after)) (run_last before moment m ∙ same) still r)
    where
      by_step : (o : Option Release) → (step_event moment.now moment.event n).0.core.released ≡ o → (step_event moment.now moment.event (end_run before m)).0 ≡ (step_event moment.now moment.event n).0
          → (end_run before m).core.released ≡ None → ((step_event moment.now moment.event n).0.core.released ≡ None → ReleasedIn events m why) → ReleasedIn events m why
      by_step None f same l more = more f
      by_step (Some w) f same l more =
          let last : (end_run after (step_event moment.now moment.event n).0).core.released ≡ Some w = run_stays after (step_event moment.now moment.event n).0 w f in
          let is_why : w ≡ why = let g = sym last ∙ r in cc in
          record {
            before = before;
            now = moment.now;
            event = moment.event;
            after = after;
            events_are = e;
            live = l;
            met = only moment.now moment.event (end_run before m) why l (ap (λ (k : End). k.core.released) same ∙ f ∙ ap (λ (v : Release). Some v) is_why);
          }

  pub runs_release : RunsRelease
  runs_release events m why live r = run_only events [] events m m why refl refl live r
