-- Where a row of the table is met, an end ends with what stands there.
use Rattle.std.proofs.Common.{◌≡◌, inl, inr, ◌∙◌, ◌≤◌, ◌+◌, ◌-◌, ℕ, max, Bool, true, false, not, ◌&&◌, List, [], ◌∷◌, ◌++◌, length, Option, Some, None, Result, Ok, Err, refl, sym, ap, ap₂, subst, append_assoc, append-nil, true≢false, le-leb}
use Rattle.std.specs.Prelude.{◌==◌, nat_lt, nat_le, is_some, if◌then◌else◌}
use Rattle.std.proofs.lemmas.Bool.{cases_Bool, and_right}
use Rattle.std.proofs.lemmas.List.Elements.{All-nil}
use Rattle.er_base.specs.declared.release.Release.{Release}
use Rattle.er_base.specs.declared.cause.Cause.{Cause}
use Rattle.er_base.specs.declared.cause.Cause.TheVariants as cause
use Rattle.er_base.specs.Causes.{release_of, by_this_end, by_peer_di}
use Rattle.des_block.specs.declared.triple_key.TripleKey.{TripleKey}
use Rattle.hdlc_frames.specs.Framing.{Verdict}
use Rattle.hdlc_station_model.specs.declared.phase.Phase.{Phase}
use Rattle.hdlc_station_model.specs.Frames.{Frame, Rr, Disc}
use Rattle.hdlc_station_model.specs.Stations.{Station, Deed as LinkDeed, settled, is_down}
use Rattle.hdlc_station_model.specs.Calls.{hands, may_send}
use Rattle.t70_header.specs.Blocks.{last_block}
use Rattle.t70_header.specs.Joining as joining
use Rattle.x224_tpdu.specs.declared.fault.TpFault.{TpFault}
use Rattle.x224_tpdu.specs.Spelling.{TransportPdu, connection_request, connection_confirm, disconnect_request, disconnect_confirm, data_tpdu, acknowledgement, tpdu_error}
use Rattle.x224_tpdu.specs.Function.{reading}
use Rattle.x224_class2.specs.Segments.{text_so_far}
use Rattle.x224_class2.specs.Tpdus.{GivenTpdu, Dr, Dc, octets_given}
use Rattle.x224_class2.specs.Transport.{Transport, ReceptionDeed, Nothing as NothingCame, Called, Confirmed, Message, Disconnected, is_new, is_calling, is_open, is_over, reception, on_reading, number_named, on_named, is_expected}
use Rattle.x224_class2.specs.Transport as transport
use Rattle.sapdu.specs.Spelling.{Di, di_in}
use Rattle.safety_automaton.specs.Safety.{no_keys, Safety, Received, DisconnectRequest, SafetyOutcome, ReleasedLocally, ReleasedByPeer, octets_sent_in_outcome, peer_flag}
use Rattle.safety_automaton.specs.Safety as safety
use Rattle.safety_automaton.specs.Reports.{report_of}
use Rattle.safety_automaton.specs.Rules.{IsOpen, IsReceived, StepsEach, CauseReleases}
use Rattle.er_end_model.specs.Steps.{Finds, new_event, new_event_at, with_release, hand_tpdu, hand_tpdu_if_may, send_dr, answer_dr, end_after_di, on_safety_release, why_of, with_safety_step, Carrier, InCr, InCc, InDt, on_safety_report, on_text, on_transport_deed, on_joined_block, on_link_told, on_link_deed, hand_waiting_tpdus, most_offers, send_owed_answer, conclude_event, step_frame, step_release, is_spent, on_expiry, step_tick, step_break}
use Rattle.er_end_model.specs.Layers.{Core, model}
use Rattle.er_end_model.specs.Hearing.{text_in_deed, station_behind, IsTextOf}
use Rattle.er_end_model.specs.Releasing.{StationReleases, BlockIsFaulty, IsTpduOf, IsDr, SafetyMet, station_at}
use Rattle.er_end_laws.specs.LastTpdus.{LastSent, Nothing, Leaves, Confirms, Disconnects, own_di, FrameEnds, ByStation, ByBareDr, ByTpdu, ByBlock, BySafety, ByPeersDr, ByPeersDi, TimeEnds, ByT1, BySetUp, SendsAtOnce, frame_with, disc_at, owed_answer, Adds, Says, EndsWith, IsLive}
use Rattle.er_end_laws.proofs.Hearing.{received, ticked}
use Rattle.er_end_laws.proofs.Sending.{at_once, may_at_once, went_at_once, closed, finished_by}

abbrev pub gave : Core → List GivenTpdu
gave x = x.upper.transport.gave

-- ---- a TPDU that comes adds nothing to those that were given

reads_only : (b : Bool) (g : List GivenTpdu) (x y : Transport × ReceptionDeed) → x.0.gave ≡ g → y.0.gave ≡ g → (if b then x else y).0.gave ≡ g
reads_only true g x y h k = h
reads_only false g x y h k = k

named_only : (t : Transport) (credit : ℕ) (n : Option ℕ) → (on_named t credit n).0.gave ≡ t.gave
named_only t credit None = refl
named_only t credit (Some n) = reads_only (nat_lt (n + credit) t.edge) t.gave _ _ refl refl

reading_only : (t : Transport) (answer : Result TransportPdu TpFault) → (on_reading t answer).0.gave ≡ t.gave
reading_only t (Ok (connection_request credit dst src size user)) = reads_only (not t.is_caller && is_new t.stage && (dst == 0) && (src == 1)) t.gave _ _ refl refl
reading_only t (Ok (connection_confirm credit dst src size user)) = reads_only (is_calling t.stage && (dst == 1) && (src == 1) && nat_le size t.size) t.gave _ _ refl refl
reading_only t (Ok (disconnect_request dst src reason user)) = reads_only (not (is_new t.stage) && (dst == 1) && (src == 1)) t.gave _ _ refl refl
reading_only t (Ok (disconnect_confirm dst src)) = refl
reading_only t (Ok (data_tpdu dst last number user)) =
    let text = text_so_far t.contents ++ user in
    reads_only (not (is_expected t dst number user)) t.gave _ _ refl
    (reads_only (nat_lt 1032 (length text)) t.gave _ (record t { contents = t.contents ++ (last, user) ∷ [] }, if last then Message text else NothingCame) refl refl)
reading_only t (Ok (acknowledgement credit dst number)) =
    reads_only (is_open t.stage && (dst == 1)) t.gave _ _ (named_only t credit (number_named t.acked (t.given - t.acked) number)) refl
reading_only t (Ok (tpdu_error dst cause)) = refl
reading_only t (Err fault) = refl

pub reception_only : (t : Transport) (octets : List ℕ) → (reception t octets).0.gave ≡ t.gave
reception_only t octets = reads_only (is_over t.stage) t.gave _ _ refl (reading_only t (reading octets))

-- ---- an end of which these were given, and whose station sent no more than it was handed

none_owed : (s : Station) → s.owed ≡ false → owed_answer s ≡ []
none_owed s e =
    ap (λ (b : Bool). if not (is_down s.phase) && b then Rr (length s.taken) ∷ [] else []) e
    ∙ ap (λ (b : Bool). if b then Rr (length s.taken) ∷ [] else []) (and_right (not (is_down s.phase)) false refl)

module _ (why : Release) (x y : Core) (low : y.line.sent ≤ length y.line.handed) (same : gave y ≡ gave x) where
  abbrev handed_tpdu : GivenTpdu → Station
  handed_tpdu tpdu = hands y.moment (last_block (octets_given tpdu)) y.line

  none_given : gave y ≡ gave x ++ []
  none_given = same ∙ sym (append-nil (gave x))

  one_given : (tpdu : GivenTpdu) → gave y ++ tpdu ∷ [] ≡ gave x ++ tpdu ∷ []
  one_given tpdu = ap (λ (l : List GivenTpdu). l ++ tpdu ∷ []) same

  -- where it may, and where it may not
  goes : (tpdu : GivenTpdu) → may_send y.line ≡ true → hand_tpdu_if_may model tpdu y ≡ hand_tpdu model tpdu y
  goes tpdu may = ap (λ (b : Bool). if b then hand_tpdu model tpdu y else y) may

  stays : (tpdu : GivenTpdu) → may_send y.line ≡ false → hand_tpdu_if_may model tpdu y ≡ y
  stays tpdu cannot = ap (λ (b : Bool). if b then hand_tpdu model tpdu y else y) cannot

  by_sending : (P Q : Type 0) → (may_send y.line ≡ true → SendsAtOnce y.line → P) → (may_send y.line ≡ false → Q) → (SendsAtOnce y.line → P) × ((SendsAtOnce y.line → ⊥) → Q)
  by_sending P Q p q = elim (cases_Bool (may_send y.line)) [
    | inl may ↦ (λ h. p may h, λ never. absurd (never (at_once y.line low may)))
    | inr cannot ↦ (λ h. absurd (true≢false (sym (may_at_once y.line h) ∙ cannot)), λ never. q cannot)
  ]

  pub dr_says : (reason : ℕ) (user : List ℕ) → Says (Leaves reason user) y.line x (send_dr model why reason user y)
  dr_says reason user =
      let tpdu : GivenTpdu = Dr reason user in
      let ends : Core → Core = λ z. record z { line = model.closes z.line; leaves = Some why; released = Some why } in
      by_sending (Adds y.line x (send_dr model why reason user y) (tpdu ∷ []) (frame_with tpdu y.line ∷ Disc ∷ [])) (Adds y.line x (send_dr model why reason user y) [] (disc_at y.line.phase))
      (λ may h.
      let went = went_at_once y.moment (last_block (octets_given tpdu)) y.line h in
      subst (λ (z : Core). Adds y.line x (ends z) (tpdu ∷ []) (frame_with tpdu y.line ∷ Disc ∷ [])) (sym (goes tpdu may)) (record {
        given = one_given tpdu;
        said = closed (handed_tpdu tpdu)
            ∙ ap₂ (λ (l : List Frame) (p : Phase). l ++ disc_at p) went.said (went.phase ∙ h.up)
            ∙ append_assoc y.line.said (frame_with tpdu y.line ∷ []) (Disc ∷ []);
      }))
      (λ cannot. subst (λ (z : Core). Adds y.line x (ends z) [] (disc_at y.line.phase)) (sym (stays tpdu cannot)) (record { given = none_given; said = closed y.line }))

  pub dc_says : Says Confirms y.line x (answer_dr model why y)
  dc_says =
      let ends : Core → Core = λ z. record z { line = model.finishes z.line; leaves = Some why; released = Some why } in
      by_sending (Adds y.line x (answer_dr model why y) (Dc ∷ []) (frame_with Dc y.line ∷ [])) (Adds y.line x (answer_dr model why y) [] (owed_answer y.line))
      (λ may h.
      let went = went_at_once y.moment (last_block (octets_given Dc)) y.line h in
      subst (λ (z : Core). Adds y.line x (ends z) (Dc ∷ []) (frame_with Dc y.line ∷ [])) (sym (goes Dc may)) (record {
        given = one_given Dc;
        said = finished_by (handed_tpdu Dc)
            ∙ ap₂ (λ (l m : List Frame). l ++ m) went.said (none_owed (handed_tpdu Dc) went.owed)
            ∙ append-nil (y.line.said ++ frame_with Dc y.line ∷ []);
      }))
      (λ cannot. subst (λ (z : Core). Adds y.line x (ends z) [] (owed_answer y.line)) (sym (stays Dc cannot)) (record { given = none_given; said = finished_by y.line }))

  pub disc_says : Says Disconnects y.line x (end_after_di model why y)
  disc_says = record { given = none_given; said = closed y.line }

  pub nothing_says : Says Nothing y.line x (with_release why y)
  nothing_says = record { given = none_given; said = sym (append-nil y.line.said) }

-- a cause releases by this end
pub by_this : (of : Cause) → (release_of of).by_peer ≡ false
by_this (cause.User sub) = refl
by_this cause.SetUpUnanswered = refl
by_this cause.NoProgress = refl
by_this cause.FrameError = refl
by_this cause.PeerDisconnected = refl
by_this cause.LineEnded = refl
by_this cause.LineFailed = refl
by_this cause.LineStalled = refl
by_this cause.DisconnectWithoutDi = refl
by_this cause.TpduRefused = refl
by_this cause.MessageTooLong = refl
by_this cause.BlockRefused = refl
by_this cause.NoKey = refl
by_this cause.Au2MacWrong = refl
by_this cause.Au3MacWrong = refl
by_this cause.ArMacWrong = refl
by_this cause.OtherResponder = refl
by_this cause.OtherFeature = refl
by_this cause.DtMacWrong = refl
by_this cause.WrongDirection = refl
by_this cause.Unexpected = refl
by_this cause.Malformed = refl
by_this cause.SetUpTimeSpent = refl

-- a released end concludes nothing
pub concluded : (y : Core) (why : Release) → y.released ≡ Some why → conclude_event model y ≡ y
concluded y why e = ap (λ (r : Option Release). if is_some r then y else send_owed_answer model (hand_waiting_tpdus model most_offers y)) e

-- a live one goes on
pub unless_released : (x b y : Core) → x.released ≡ None → (if is_some x.released then b else y) ≡ y
unless_released x b y live = ap (λ (r : Option Release). if is_some r then b else y) live

-- ---- behind T1; behind the station, the blocks and the transport

abbrev pub timed_at : ℕ → Core → Core
timed_at now x = record (new_event_at model now x) { line = station_at x now }

abbrev pub taken_at : ℕ → Verdict → Core → Core
taken_at now verdict x = record (new_event_at model now x) { line = station_behind x now verdict }

abbrev pub joined_at : ℕ → Verdict → Core → List ℕ → Core
joined_at now verdict x payload = record (taken_at now verdict x) { joined = (joining.block_step x.joined payload).0 }

abbrev pub heard_at : ℕ → Verdict → Core → List ℕ → List ℕ → Core
heard_at now verdict x payload tpdu = record (joined_at now verdict x payload) { upper = model.hears (joined_at now verdict x payload).upper tpdu }

pub low_behind : (now : ℕ) (verdict : Verdict) (x : Core) → IsLive x → (station_behind x now verdict).sent ≤ length (station_behind x now verdict).handed
low_behind now verdict x h = (received (max x.moment now) verdict (settled x.line) h.handed (inr refl) (All-nil _)).sent

module _ (steps_each : StepsEach) (causes : CauseReleases) where
  module _ (finds : Finds) (now : ℕ) (verdict : Verdict) (x : Core) (h : IsLive x) where
    abbrev key_of : ℕ → ℕ → Option TripleKey
    key_of = finds (max x.moment now)

    abbrev s : Station
    s = station_behind x now verdict

    abbrev Ends : Release → LastSent → Core → Type 0
    Ends why last y = EndsWith why last s x y

    low : s.sent ≤ length s.handed
    low = low_behind now verdict x h

    link_ends : (why : Release) (last : LastSent) → Ends why last (on_link_deed model finds s.deed (taken_at now verdict x)) → Ends why last (step_frame model finds now verdict x)
    link_ends why last e =
        let y : Core = on_link_deed model finds s.deed (taken_at now verdict x) in
        subst (Ends why last) (sym (unless_released x (new_event_at model now x) (conclude_event model y) h.released ∙ concluded y why e.0)) e

    payload_ends : (why : Release) (last : LastSent) (payload : List ℕ) → s.deed.payload ≡ Some payload
        → Ends why last (on_joined_block model finds (joining.block_step x.joined payload).1 (joined_at now verdict x payload)) → Ends why last (step_frame model finds now verdict x)
    payload_ends why last payload t e =
        link_ends why last (subst (λ (p : Option (List ℕ)). Ends why last (on_link_told model finds p s.deed.up s.deed.released (taken_at now verdict x))) (sym t) e)

    tpdu_ends : (why : Release) (last : LastSent) (tpdu : List ℕ) (is : IsTpduOf x now verdict tpdu)
        → Ends why last (on_transport_deed model finds (reception x.upper.transport tpdu).1 (heard_at now verdict x is.payload tpdu)) → Ends why last (step_frame model finds now verdict x)
    tpdu_ends why last tpdu is e =
        payload_ends why last is.payload is.taken
        (subst (λ (a : joining.BlockJoiningResult). Ends why last (on_joined_block model finds a (joined_at now verdict x is.payload))) (sym is.joined) e)

    -- what comes behind a TPDU
    abbrev IsHeard : Core → Type 0
    IsHeard y = (y.line ≡ s) × (gave y ≡ gave x)

    dr_ends : (why : Release) (user : List ℕ) (di : Option (ℕ × ℕ)) → IsDr user finds now x verdict → di_in user (peer_flag x.safe.safety) ≡ di → why ≡ why_of di
        → Ends why Confirms (step_frame model finds now verdict x)
    dr_ends why user di (tpdu, is, e) f w =
        let y : Core = heard_at now verdict x is.payload tpdu in
        let gone : Ends (why_of di) Confirms (answer_dr model (why_of di) y) = (refl, dc_says (why_of di) x y low (reception_only x.upper.transport tpdu)) in
        subst (λ (r : Release). Ends r Confirms (step_frame model finds now verdict x)) (sym w)
        (tpdu_ends (why_of di) Confirms tpdu is (subst (λ (d : ReceptionDeed). Ends (why_of di) Confirms (on_transport_deed model finds d y)) (sym e)
        (subst (λ (o : Option (ℕ × ℕ)). Ends (why_of di) Confirms (answer_dr model (why_of o) y)) (sym f) gone)))

    tpdu_refused_ends : (tpdu : List ℕ) (sub reason : ℕ) → IsTpduOf x now verdict tpdu → (reception x.upper.transport tpdu).1 ≡ transport.Refused sub reason
        → Ends (by_this_end 2 sub) (Leaves reason []) (step_frame model finds now verdict x)
    tpdu_refused_ends tpdu sub reason is e =
        let why : Release = by_this_end 2 sub in
        let y : Core = heard_at now verdict x is.payload tpdu in
        tpdu_ends why (Leaves reason []) tpdu is (subst (λ (d : ReceptionDeed). Ends why (Leaves reason []) (on_transport_deed model finds d y)) (sym e)
        (refl, dr_says why x y low (reception_only x.upper.transport tpdu) reason []))

    block_ends : BlockIsFaulty finds now x verdict → Ends (release_of cause.BlockRefused) (Leaves 133 []) (step_frame model finds now verdict x)
    block_ends (payload, fault, t, e) =
        let why : Release = release_of cause.BlockRefused in
        let y : Core = joined_at now verdict x payload in
        payload_ends why (Leaves 133 []) payload t (subst (λ (a : joining.BlockJoiningResult). Ends why (Leaves 133 []) (on_joined_block model finds a y)) (sym e)
        (refl, dr_says why x y low refl 133 []))

    station_ends : (why : Release) → StationReleases why finds now x verdict → Ends why Nothing (step_frame model finds now verdict x)
    station_ends why e =
        link_ends why Nothing (subst (λ (d : LinkDeed). Ends why Nothing (on_link_deed model finds d (taken_at now verdict x))) (sym e)
        (refl, nothing_says why x (taken_at now verdict x) low refl))

    -- a text at which the safety side is released
    text_ends : (why : Release) (last : LastSent) (text : List ℕ) → IsTextOf x now verdict text
        → ((by : Carrier) (y : Core) → IsHeard y → Ends why last (on_safety_report model by (report_of (safety.step key_of x.safe.safety (Received text)).1) (octets_sent_in_outcome (safety.step key_of x.safe.safety (Received text)).1) y))
        → Ends why last (step_frame model finds now verdict x)
    text_ends why last text is g =
        tpdu_ends why last is.tpdu (record { payload = is.payload; taken = is.taken; joined = is.joined }) (by_deed (reception x.upper.transport is.tpdu).1 is.brought)
      where
        by_text : (by : Carrier) (user : List ℕ) → user ≡ text → Ends why last (on_text model finds by user (heard_at now verdict x is.payload is.tpdu))
        by_text by user e =
            subst (λ (u : List ℕ). Ends why last (on_text model finds by u (heard_at now verdict x is.payload is.tpdu))) (sym e)
            (g by _ (refl, reception_only x.upper.transport is.tpdu))

        by_deed : (d : ReceptionDeed) → text_in_deed d ≡ Some text → Ends why last (on_transport_deed model finds d (heard_at now verdict x is.payload is.tpdu))
        by_deed NothingCame e = absurd cc
        by_deed (Called user) e = by_text InCr user cc
        by_deed (Confirmed user) e = by_text InCc user cc
        by_deed (Message message) e = by_text InDt message cc
        by_deed (Disconnected user) e = absurd cc
        by_deed (transport.Refused sub reason) e = absurd cc

    local_says : (why : Release) (y : Core) → why.by_peer ≡ false → IsHeard y → Ends why (Leaves 128 (own_di why x)) (on_safety_release model why (own_di why x) y)
    local_says why y own e =
        let low_y : y.line.sent ≤ length y.line.handed = subst (λ (t : Station). t.sent ≤ length t.handed) (sym e.0) low in
        let gone : EndsWith why (Leaves 128 (own_di why x)) y.line x (send_dr model why 128 (own_di why x) y) = (refl, dr_says why x y low_y e.1 128 (own_di why x)) in
        subst (λ (b : Bool). Ends why (Leaves 128 (own_di why x)) (if b then end_after_di model why y else send_dr model why 128 (own_di why x) y)) (sym own)
        (subst (λ (t : Station). EndsWith why (Leaves 128 (own_di why x)) t x (send_dr model why 128 (own_di why x) y)) e.0 gone)

    safety_ends : (of : Cause) → SafetyMet of finds now x verdict → Ends (release_of of) (Leaves 128 (own_di (release_of of) x)) (step_frame model finds now verdict x)
    safety_ends of (text, is, met) =
        let why : Release = release_of of in
        let last : LastSent = Leaves 128 (own_di why x) in
        let r = causes key_of x.safe.safety (Received text) of met in
        let octets_are : r.2 ≡ own_di why x = r.4.octets_is ∙ ap (λ (w : Release). own_di w x) r.4.release_is in
        text_ends why last text is
        (λ by y e. subst (λ (o : SafetyOutcome). Ends why last (on_safety_report model by (report_of o) (octets_sent_in_outcome o) y)) (sym (ap (λ (a : Safety × SafetyOutcome). a.1) r.3))
        (subst (λ (w : Release). Ends why last (on_safety_release model w r.2 y)) (sym r.4.release_is)
        (subst (λ (o : List ℕ). Ends why last (on_safety_release model why o y)) (sym octets_are) (local_says why y (by_this of) e))))

    peers_ends : (reason sub : ℕ) (text : List ℕ) → IsTextOf x now verdict text → (unreleased : IsOpen x.safe.safety.phase)
        → IsReceived x.safe.safety (Received text) (Di reason sub) → Ends (by_peer_di reason sub) Disconnects (step_frame model finds now verdict x)
    peers_ends reason sub text is unreleased received =
        let why : Release = by_peer_di reason sub in
        let side : Safety = x.safe.safety in
        let next : Safety = record side { phase = safety.Released why (safety.session_in side.phase) } in
        let e : safety.step key_of side (Received text) ≡ (next, ReleasedByPeer why) = steps_each key_of side (Received text) next (ReleasedByPeer why) (record {
          reason = reason;
          sub = sub;
          unreleased = unreleased;
          received = received;
          release_is = refl;
          next_is = refl;
        }) in
        text_ends why Disconnects text is
        (λ by y f. subst (λ (o : SafetyOutcome). Ends why Disconnects (on_safety_report model by (report_of o) (octets_sent_in_outcome o) y)) (sym (ap (λ (a : Safety × SafetyOutcome). a.1) e))
        (subst (λ (t : Station). EndsWith why Disconnects t x (end_after_di model why y)) f.0
        (refl, disc_says why x y (subst (λ (t : Station). t.sent ≤ length t.handed) (sym f.0) low) f.1)))

    -- a row, under its own names
    named : (why w : Release) (last l : LastSent) → why ≡ w → last ≡ l → Ends w l (step_frame model finds now verdict x) → Ends why last (step_frame model finds now verdict x)
    named why w last l e f g =
        subst (λ (r : Release). Ends r last (step_frame model finds now verdict x)) (sym e) (subst (λ (k : LastSent). Ends w k (step_frame model finds now verdict x)) (sym f) g)

    pub frame_ends : (why : Release) (last : LastSent) → FrameEnds finds now x verdict why last → Ends why last (step_frame model finds now verdict x)
    frame_ends why last (ByStation met l) = named why why last Nothing refl l (station_ends why met)
    frame_ends why last (ByBareDr met w l) = named why why last Confirms refl l (dr_ends why met.0 None met.1 met.2 w)
    frame_ends why last (ByTpdu tpdu sub reason is e w l) = named why (by_this_end 2 sub) last (Leaves reason []) w l (tpdu_refused_ends tpdu sub reason is e)
    frame_ends why last (ByBlock met w l) = named why (release_of cause.BlockRefused) last (Leaves 133 []) w l (block_ends met)
    frame_ends why last (BySafety of met w l) =
        named why (release_of of) last (Leaves 128 (own_di (release_of of) x)) w (l ∙ ap (λ (r : Release). Leaves 128 (own_di r x)) w) (safety_ends of met)
    frame_ends why last (ByPeersDr reason sub user is f w l) = named why why last Confirms refl l (dr_ends why user (Some (reason, sub)) is f w)
    frame_ends why last (ByPeersDi reason sub text is unreleased came w l) = named why (by_peer_di reason sub) last Disconnects w l (peers_ends reason sub text is unreleased came)

  -- ---- a tick

  module _ (now : ℕ) (x : Core) (h : IsLive x) where
    tick_low : (station_at x now).sent ≤ length (station_at x now).handed
    tick_low = (ticked (max x.moment now) (settled x.line) h.handed (All-nil _)).sent

    tick_ends_by : (why : Release) (last : LastSent) → EndsWith why last (station_at x now) x (on_expiry model (station_at x now).deed.released (timed_at now x))
        → EndsWith why last (station_at x now) x (step_tick model now x)
    tick_ends_by why last e =
        let y : Core = on_expiry model (station_at x now).deed.released (timed_at now x) in
        subst (EndsWith why last (station_at x now) x) (sym (unless_released x (new_event_at model now x) (conclude_event model y) h.released ∙ concluded y why e.0)) e

    pub tick_ends : (why : Release) (last : LastSent) → TimeEnds now x why last → EndsWith why last (station_at x now) x (step_tick model now x)
    tick_ends why last (ByT1 e l) =
        tick_ends_by why last
        (subst (λ (k : LastSent). EndsWith why k (station_at x now) x (on_expiry model (station_at x now).deed.released (timed_at now x))) (sym l)
        (subst (λ (o : Option Release). EndsWith why Nothing (station_at x now) x (on_expiry model o (timed_at now x))) (sym e)
        (refl, nothing_says why x (timed_at now x) tick_low refl)))
    tick_ends why last (BySetUp e closed' late w l) =
        let y : Core = timed_at now x in
        let r : Release = release_of cause.SetUpTimeSpent in
        let spent : is_spent y ≡ true = ap₂ (λ (c d : Bool). not c && d) closed' (le-leb x.limit (max x.moment now) late) in
        let gone : EndsWith r (Leaves 128 (own_di r x)) (station_at x now) x (send_dr model r 128 (own_di r x) y) = (refl, dr_says r x y tick_low refl 128 (own_di r x)) in
        let same : last ≡ Leaves 128 (own_di r x) = l ∙ ap (λ (v : Release). Leaves 128 (own_di v x)) w in
        tick_ends_by why last
        (subst (λ (o : Option Release). EndsWith why last (station_at x now) x (on_expiry model o y)) (sym e)
        (subst (λ (b : Bool). EndsWith why last (station_at x now) x (if b then send_dr model r 128 (own_di r x) y else y)) (sym spent)
        (subst (λ (v : Release). EndsWith v last (station_at x now) x (send_dr model r 128 (own_di r x) y)) (sym w)
        (subst (λ (k : LastSent). EndsWith r k (station_at x now) x (send_dr model r 128 (own_di r x) y)) (sym same) gone))))

  -- ---- the user's release, and a line that broke

  pub release_ends : (now sub : ℕ) (x : Core) → IsLive x
      → EndsWith (release_of (cause.User sub)) (Leaves 128 (own_di (release_of (cause.User sub)) x)) (settled x.line) x (step_release model now sub x)
  release_ends now sub x h =
      let why : Release = release_of (cause.User sub) in
      let b : Core = new_event_at model now x in
      let a : Safety × SafetyOutcome = safety.step no_keys x.safe.safety (DisconnectRequest sub) in
      let r = causes no_keys x.safe.safety (DisconnectRequest sub) (cause.User sub) (h.open_side, refl) in
      let y : Core = with_safety_step model (DisconnectRequest sub) a b in
      let octets_are : octets_sent_in_outcome a.1 ≡ own_di why x =
      ap (λ (p : Safety × SafetyOutcome). octets_sent_in_outcome p.1) r.3 ∙ r.4.octets_is ∙ ap (λ (w : Release). own_di w x) r.4.release_is in
      let gone : EndsWith why (Leaves 128 (own_di why x)) (settled x.line) x (send_dr model why 128 (own_di why x) y) = (refl, dr_says why x y h.handed refl 128 (own_di why x)) in
      subst (EndsWith why (Leaves 128 (own_di why x)) (settled x.line) x)
      (sym (unless_released x b (send_dr model why 128 (octets_sent_in_outcome a.1) y) h.released ∙ ap (λ (o : List ℕ). send_dr model why 128 o y) octets_are)) gone

  pub break_ends : (of : Cause) (x : Core) → IsLive x → EndsWith (release_of of) Nothing (settled x.line) x (step_break model of x)
  break_ends of x h =
      let why : Release = release_of of in
      let b : Core = new_event model x in
      subst (EndsWith why Nothing (settled x.line) x) (sym (unless_released x b (with_release why b) h.released)) (refl, nothing_says why x b h.handed refl)
