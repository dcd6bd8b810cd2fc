-- What an end does with a payload that its station took, and what that is to an ear.
use Rattle.std.proofs.Common.{◌≡◌, ◌∙◌, ◌⊎◌, inl, inr, ℕ, ◌+◌, ◌-◌, Bool, true, false, ◌&&◌, not, List, [], ◌∷◌, ◌++◌, length, Option, Some, None, Result, Ok, Err, refl, sym, ap, subst, length-append}
use Rattle.hdlc_station_model.specs.Receiving.{is_some_octets}
use Rattle.std.specs.Prelude.{◌%◌, ◌==◌, min, nat_lt, nat_le, if◌then◌else◌}
use Rattle.std.specs.Option.{option_to_list}
use Rattle.er_base.specs.declared.release.Release.{Release}
use Rattle.er_base.specs.declared.cause.Cause.TheVariants.{BlockRefused}
use Rattle.er_base.specs.Causes.{release_of, by_this_end}
use Rattle.hdlc_station_model.specs.declared.phase.Phase.{Phase}
use Rattle.hdlc_station_model.specs.declared.phase.Phase.TheVariants.{Idle, Setting, Up, Down}
use Rattle.hdlc_station_model.specs.Stations.{Station, is_down}
use Rattle.hdlc_station_model.specs.Calls.{closes_at}
use Rattle.t70_header.specs.Joining as joining
use Rattle.x224_tpdu.specs.declared.fault.TpFault.{TpFault}
use Rattle.x224_tpdu.specs.Spelling.{TransportPdu, connection_request, connection_confirm, disconnect_request, disconnect_confirm, data_tpdu, acknowledgement, tpdu_error}
use Rattle.x224_tpdu.specs.Function.{reading}
use Rattle.x224_class2.specs.declared.stage.Stage.{Stage}
use Rattle.x224_class2.specs.declared.stage.Stage.TheVariants as stages
use Rattle.x224_class2.specs.Refusals.{protocol_error, tpdu_refused, message_too_long, dr_reason}
use Rattle.x224_class2.specs.Segments.{Segment, text_behind, text_so_far}
use Rattle.x224_class2.specs.Tpdus.{GivenTpdu, Dr, Dc}
use Rattle.x224_class2.specs.Transport.{Transport, ReceptionDeed, Nothing, Called, Confirmed, Message, Disconnected, is_new, is_calling, is_open, is_over, refusal_of_tpdu, is_expected, on_data, number_named, on_named, on_reading, reception}
use Rattle.sapdu.specs.Spelling.{di_in}
use Rattle.safety_automaton.specs.Reports.{Report, ToldAnswered, ToldConnected, ToldAccepted, ToldReleased, ToldIgnored, report_of}
use Rattle.safety_automaton.specs.Safety.{Safety, SafetyOutcome, Received, peer_flag, octets_sent_in_outcome, step}
use Rattle.er_end_model.specs.Steps.{Finds, hand_tpdu, hand_tpdu_if_may, close_link, send_owed_answer, send_dr, answer_dr, end_after_di, on_safety_release, why_of, normal_disconnect, with_safety_step, accept_text, skip_message, Carrier, InCr, InCc, InDt, hand_answer, keep_message, on_safety_report, on_text, on_transport_deed, on_tpdu, on_joined_block}
use Rattle.er_end_model.specs.Layers.{Core, model}
use Rattle.tap_model.specs.Given.{received_by}
use Rattle.tap_model.specs.Ears.{Ear, TapFrameTurn, GoesOn, Says, Parts, Ends, turn_at_data, turn_at_pdu, turn_at_block}
use Rattle.tap_hearing.proofs.Noting.{Tuned, Noted, noted, noted_if, hands_tuned, finishes_tuned, says_noted}
use Rattle.tap_hearing.proofs.Stations.{phase_at}

-- ---- an end that listens

-- the ear of an end that isn't released
abbrev pub ear_at : (opened : Bool) → Noted → Ear
ear_at opened n =
    record { opened = opened; count = length n.line.taken; held = n.joined; dts = length n.contents; begun = text_so_far n.contents }

-- nothing came before the link was opened
pub record Fresh (n : Noted) : Type 0 where
  pub taken : n.line.taken ≡ []
  pub joined : n.joined ≡ []
  pub contents : n.contents ≡ []

pub record Listens (opened calling : Bool) (n : Noted) : Type 0 where
  pub live : n.released ≡ None
  pub role : n.line.calling ≡ calling
  pub plain : n.line.extended ≡ false
  pub stands : n.line.phase ≡ phase_at opened calling
  pub going : n.over ≡ false
  pub fresh : opened ≡ false → Fresh n

-- ---- releases

-- it is released, and neither more was given nor more was taken
pub record LeftAs (x y : Core) : Type 0 where
  pub why : Release
  pub released : y.released ≡ Some why
  pub received : received_by y ≡ received_by x
  pub taken : y.line.taken ≡ x.line.taken

-- what was given and taken
abbrev Both : Type 0
Both = List (List ℕ) × List (List ℕ)

abbrev both : Core → Both
both x = (received_by x, x.line.taken)

both_if : (b : Bool) (x y : Core) (v : Both) → both x ≡ v → both y ≡ v → both (if b then x else y) ≡ v
both_if true x y v h g = h
both_if false x y v h g = g

closed_taken : (p : Phase) (s : Station) → (if is_down p then s else record (closes_at p s) { phase = Down; timer = None }).taken ≡ s.taken
closed_taken Idle s = refl
closed_taken Setting s = refl
closed_taken Up s = refl
closed_taken Down s = refl

shuts_both : (x : Core) → both (close_link model x) ≡ both x
shuts_both x = ap (λ (t : List (List ℕ)). (received_by x, t)) (closed_taken x.line.phase x.line)

gives_both : (g : GivenTpdu) (x : Core) → both (hand_tpdu_if_may model g x) ≡ both x
gives_both g x =
    both_if (model.may_send x.line) (hand_tpdu model g x) x (both x)
    (ap (λ (v : Tuned). (received_by x, v.taken)) (hands_tuned x.moment _ x.line)) refl

finishes_both : (x : Core) → both (send_owed_answer model x) ≡ both x
finishes_both x = ap (λ (v : Tuned). (received_by x, v.taken)) (finishes_tuned x.line)

left_by : (x y : Core) (why : Release) → y.released ≡ Some why → both y ≡ both x → LeftAs x y
left_by x y why r e = record { why = why; released = r; received = ap (λ (b : Both). b.0) e; taken = ap (λ (b : Both). b.1) e }

pub departs_left : (why : Release) (reason : ℕ) (user : List ℕ) (x : Core) → LeftAs x (send_dr model why reason user x)
departs_left why reason user x =
    let y : Core = hand_tpdu_if_may model (Dr reason user) x in
    left_by x (send_dr model why reason user x) why refl (shuts_both y ∙ gives_both (Dr reason user) x)

cut_off_left : (why : Release) (x : Core) → LeftAs x (answer_dr model why x)
cut_off_left why x =
    let y : Core = hand_tpdu_if_may model Dc x in
    left_by x (answer_dr model why x) why refl (finishes_both y ∙ gives_both Dc x)

parts_left : (why : Release) (di : List ℕ) (x : Core) → LeftAs x (on_safety_release model why di x)
parts_left why di x = by why.by_peer
  where
    by : (b : Bool) → LeftAs x (if b then end_after_di model why x else send_dr model why normal_disconnect di x)
    by true = left_by x (end_after_di model why x) why refl (shuts_both x)
    by false = departs_left why normal_disconnect di x

-- ---- a text

-- all stays as it was noted, or it is released
abbrev Kept : Core → Core → Type 0
Kept x y = (noted y ≡ noted x) ⊎ LeftAs x y

accepts_noted : (text : List ℕ) (x : Core) → (noted x).over ≡ false → noted (accept_text model text x) ≡ noted x
accepts_noted text x going =
    noted_if (is_some_octets text) _ x (noted x) (ap (λ (b : Bool). record (noted x) { over = b }) (sym going)) refl

answers_noted : (by : Carrier) (text : List ℕ) (x : Core) → (noted x).over ≡ false → noted (hand_answer model by text x) ≡ noted x
answers_noted InCr text x going = accepts_noted text x going
answers_noted InCc text x going = says_noted text x
answers_noted InDt text x going = says_noted text (skip_message model x)

keeps_noted : (by : Carrier) (user : List ℕ) (x : Core) → noted (keep_message model by user x) ≡ noted x
keeps_noted InCr user x = refl
keeps_noted InCc user x = refl
keeps_noted InDt user x = refl

acts_kept : (by : Carrier) (report : Report) (octets : List ℕ) (x : Core) → (noted x).over ≡ false → Kept x (on_safety_report model by report octets x)
acts_kept by ToldAnswered octets x going = inl (answers_noted by octets x going)
acts_kept by (ToldConnected peer) octets x going = inl (answers_noted by octets x going)
acts_kept by (ToldAccepted user) octets x going = inl (keeps_noted by user x)
acts_kept by (ToldReleased why) octets x going = inr (parts_left why octets x)
acts_kept by ToldIgnored octets x going = inl refl

-- ---- what follows of a turn

abbrev pub told : Option (List ℕ) → Ear → TapFrameTurn
told None next = GoesOn next
told (Some text) next = Says text next

-- it lives, and was given what the ear says; or it is released, and was given nothing, or that text
pub data Follows (calling : Bool) (taken : List (List ℕ)) (turn : TapFrameTurn) (n : Noted) : Type 0 where
  Live : (text : Option (List ℕ)) → n.received ≡ option_to_list text → Listens true calling n → turn ≡ told text (ear_at true n) → n.line.taken ≡ taken
      → Follows calling taken turn n
  Silent : (why : Release) → n.released ≡ Some why → n.received ≡ [] → n.line.taken ≡ taken → Follows calling taken turn n
  Last : (why : Release) (text : List ℕ) (next : Ear) → n.released ≡ Some why → n.received ≡ text ∷ [] → turn ≡ Says text next → n.line.taken ≡ taken
      → Follows calling taken turn n

-- the same end, but for what was given
listens_with : (calling : Bool) (n : Noted) (received : List (List ℕ)) → Listens true calling n → Listens true calling (record n { received = received })
listens_with calling n received l = record {
  live = l.live;
  role = l.role;
  plain = l.plain;
  stands = l.stands;
  going = l.going;
  fresh = λ e. absurd cc;
}

-- ---- messages that segments make

begun_anew : (user : List ℕ) (begun : List ℕ) (segments : List Segment) → text_behind begun (segments ++ (true, user) ∷ []) ≡ []
begun_anew user begun [] = refl
begun_anew user begun ((true, octets) ∷ segments) = begun_anew user [] segments
begun_anew user begun ((false, octets) ∷ segments) = begun_anew user (begun ++ octets) segments

begun_on : (user : List ℕ) (begun : List ℕ) (segments : List Segment) → text_behind begun (segments ++ (false, user) ∷ []) ≡ text_behind begun segments ++ user
begun_on user begun [] = refl
begun_on user begun ((true, octets) ∷ segments) = begun_on user [] segments
begun_on user begun ((false, octets) ∷ segments) = begun_on user (begun ++ octets) segments

-- the ear of an end with one more segment
ear_ended : (n : Noted) (user : List ℕ) → ear_at true (record n { contents = n.contents ++ (true, user) ∷ [] }) ≡ record (ear_at true n) { dts = length n.contents + 1; begun = [] }
ear_ended n user =
    ap (λ (m : ℕ). record (ear_at true n) { dts = m; begun = text_so_far (n.contents ++ (true, user) ∷ []) }) (length-append n.contents ((true, user) ∷ []))
    ∙ ap (λ (b : List ℕ). record (ear_at true n) { dts = length n.contents + 1; begun = b }) (begun_anew user [] n.contents)

ear_begun : (n : Noted) (user : List ℕ)
    → ear_at true (record n { contents = n.contents ++ (false, user) ∷ [] }) ≡ record (ear_at true n) { dts = length n.contents + 1; begun = text_so_far n.contents ++ user }
ear_begun n user =
    ap (λ (m : ℕ). record (ear_at true n) { dts = m; begun = text_so_far (n.contents ++ (false, user) ∷ []) }) (length-append n.contents ((false, user) ∷ []))
    ∙ ap (λ (b : List ℕ). record (ear_at true n) { dts = length n.contents + 1; begun = b }) (begun_on user [] n.contents)

-- the third of five tests
third : (a b c d e : Bool) → (a && b && c && d && e) ≡ true → c ≡ true
third a b true d e h = refl
third true true false d e h = absurd cc
third true false false d e h = absurd cc
third false b false d e h = absurd cc

module _ (calling : Bool) (finds : Finds) where
  silent : (x y : Core) (turn : TapFrameTurn) → received_by x ≡ [] → LeftAs x y → Follows calling x.line.taken turn (noted y)
  silent x y turn none l = Silent l.why l.released (l.received ∙ none) l.taken

  text_follows : (x : Core) (by : Carrier) (text : List ℕ) (turn : TapFrameTurn) → Listens true calling (noted x) → turn ≡ Says text (ear_at true (noted x))
      → Follows calling x.line.taken turn (noted (on_text model finds by text x))
  text_follows x by text turn l t =
      let a : Safety × SafetyOutcome = step (finds x.moment) x.safe.safety (Received text) in
      let z : Core = with_safety_step model (Received text) a x in
      let n : Noted = record (noted x) { received = text ∷ [] } in
      elim (acts_kept by (report_of a.1) (octets_sent_in_outcome a.1) z l.going) [
        | inl e ↦
            subst (λ (m : Noted). Follows calling x.line.taken turn m) (sym e)
            (Live (Some text) refl (listens_with calling (noted x) (text ∷ []) l) t refl)
        | inr left ↦ Last left.why text (ear_at true (noted x)) left.released left.received t left.taken
      ]

  -- ---- a TPDU

  -- behind what a reception came to
  abbrev behind : Transport × ReceptionDeed → Core → Core
  behind r x = on_transport_deed model finds r.1 (record x { upper = record (x.upper) { transport = r.0 } })

  module _ (x : Core) (l : Listens true calling (noted x)) (none : received_by x ≡ []) where
    abbrev t : Transport
    t = x.upper.transport

    abbrev k : Ear
    k = ear_at true (noted x)

    abbrev After : TapFrameTurn → Transport × ReceptionDeed → Type 0
    After turn r = Follows calling x.line.taken turn (noted (behind r x))

    refusal_follows : (turn : TapFrameTurn) (sub reason : ℕ) → After turn (refusal_of_tpdu t sub reason)
    refusal_follows turn sub reason =
        let y : Core = record x { upper = record (x.upper) { transport = record t { stage = stages.Over } } } in
        let left = departs_left (by_this_end 2 sub) reason [] y in
        Silent left.why left.released (left.received ∙ none) left.taken

    -- an end whose transport goes on with the same texts
    listens_at : (stage : Stage) (u : Transport) → is_over u.stage ≡ false → u.contents ≡ t.contents
        → noted (record x { upper = record (x.upper) { transport = u } }) ≡ noted x
    listens_at stage u over same =
        ap (λ (b : Bool). record (noted x) { over = b; contents = u.contents }) (over ∙ sym l.going)
        ∙ ap (λ (c : List Segment). record (noted x) { contents = c }) same

    -- it brought a text, and the transport has the same messages
    brought : (by : Carrier) (user : List ℕ) (u : Transport) → is_over u.stage ≡ false → u.contents ≡ t.contents
        → Follows calling x.line.taken (Says user k) (noted (on_text model finds by user (record x { upper = record (x.upper) { transport = u } })))
    brought by user u over same =
        let y : Core = record x { upper = record (x.upper) { transport = u } } in
        let e : noted y ≡ noted x = listens_at u.stage u over same in
        text_follows y by user (Says user k) (subst (λ (n : Noted). Listens true calling n) (sym e) l) (ap (λ (n : Noted). Says user (ear_at true n)) (sym e))

    request_follows : (user : List ℕ) (u : Transport) (b : Bool) → is_over u.stage ≡ false → u.contents ≡ t.contents
        → After (Says user k) (if b then (u, Called user) else refusal_of_tpdu t tpdu_refused protocol_error)
    request_follows user u true over same = brought InCr user u over same
    request_follows user u false over same = refusal_follows (Says user k) tpdu_refused protocol_error

    confirm_follows : (user : List ℕ) (u : Transport) (b : Bool) → is_over u.stage ≡ false → u.contents ≡ t.contents
        → After (Says user k) (if b then (u, Confirmed user) else refusal_of_tpdu t tpdu_refused protocol_error)
    confirm_follows user u true over same = brought InCc user u over same
    confirm_follows user u false over same = refusal_follows (Says user k) tpdu_refused protocol_error

    disconnect_follows : (user : List ℕ) (turn : TapFrameTurn) (b : Bool)
        → After turn (if b then (record t { stage = stages.Over }, Disconnected user) else refusal_of_tpdu t tpdu_refused protocol_error)
    disconnect_follows user turn true =
        let y : Core = record x { upper = record (x.upper) { transport = record t { stage = stages.Over } } } in
        let left = cut_off_left (why_of (di_in user (peer_flag x.safe.safety))) y in
        Silent left.why left.released (left.received ∙ none) left.taken
    disconnect_follows user turn false = refusal_follows turn tpdu_refused protocol_error

    named_follows : (credit : ℕ) (n : Option ℕ) → After (GoesOn k) (on_named t credit n)
    named_follows credit None = refusal_follows (GoesOn k) tpdu_refused protocol_error
    named_follows credit (Some n) = by (nat_lt (n + credit) t.edge)
      where
        by : (b : Bool) → After (GoesOn k) (if b then refusal_of_tpdu t tpdu_refused protocol_error else (record t { acked = n; edge = n + credit }, Nothing))
        by true = refusal_follows (GoesOn k) tpdu_refused protocol_error
        by false = Live None none l refl refl

    acknowledged : (credit number : ℕ) (b : Bool)
        → After (GoesOn k) (if b then on_named t credit (number_named t.acked (t.given - t.acked) number) else refusal_of_tpdu t tpdu_refused protocol_error)
    acknowledged credit number true = named_follows credit (number_named t.acked (t.given - t.acked) number)
    acknowledged credit number false = refusal_follows (GoesOn k) tpdu_refused protocol_error

    -- with one more segment
    listens_more : (segment : Segment) → Listens true calling (record (noted x) { contents = (noted x).contents ++ segment ∷ [] })
    listens_more segment = record {
      live = l.live;
      role = l.role;
      plain = l.plain;
      stands = l.stands;
      going = l.going;
      fresh = λ e. absurd cc;
    }

    abbrev more : Bool → List ℕ → Transport
    more last user = record t { contents = t.contents ++ (last, user) ∷ [] }

    segment_follows : (last : Bool) (user : List ℕ)
        → After (if last then Says (k.begun ++ user) (record k { dts = k.dts + 1; begun = [] }) else GoesOn (record k { dts = k.dts + 1; begun = k.begun ++ user }))
        (more last user, if last then Message (text_so_far t.contents ++ user) else Nothing)
    segment_follows true user =
        let y : Core = record x { upper = record (x.upper) { transport = more true user } } in
        text_follows y InDt (text_so_far t.contents ++ user) (Says (k.begun ++ user) (record k { dts = k.dts + 1; begun = [] })) (listens_more (true, user))
        (ap (λ (e : Ear). Says (k.begun ++ user) e) (sym (ear_ended (noted x) user)))
    segment_follows false user = Live None none (listens_more (false, user)) (ap GoesOn (sym (ear_begun (noted x) user))) refl

    -- by the tests of the end, and those of the ear
    data_by : (last : Bool) (number : ℕ) (user : List ℕ) (expected long counts : Bool) → (expected ≡ true → counts ≡ true)
        → After (
        if not counts then Ends
        else if long then Ends
        else if last then Says (k.begun ++ user) (record k { dts = k.dts + 1; begun = [] })
        else GoesOn (record k { dts = k.dts + 1; begun = k.begun ++ user }))
        (
        if not expected then refusal_of_tpdu t tpdu_refused protocol_error
        else if long then refusal_of_tpdu t message_too_long protocol_error
        else (more last user, if last then Message (text_so_far t.contents ++ user) else Nothing))
    data_by last number user false long counts h = refusal_follows _ tpdu_refused protocol_error
    data_by last number user true true counts h = refusal_follows _ message_too_long protocol_error
    data_by last number user true false true h = segment_follows last user
    data_by last number user true false false h = absurd (let e = h refl in cc)

    data_follows : (dst : ℕ) (last : Bool) (number : ℕ) (user : List ℕ) → After (turn_at_data k last number user) (on_data t dst last number user)
    data_follows dst last number user =
        data_by last number user (is_expected t dst number user) (nat_lt 1032 (length (text_so_far t.contents ++ user))) (number == length t.contents % 128)
        (third (is_open t.stage) (dst == 1) (number == length t.contents % 128) (nat_lt (length t.contents) (t.newest + t.credit)) (nat_le (length user) (t.size - 5)))

    pdu_follows : (read : Result TransportPdu TpFault) → After (turn_at_pdu k read) (on_reading t read)
    pdu_follows (Ok (connection_request credit dst src size user)) =
        request_follows user (record t { stage = stages.Called; size = min (min size 1024) t.size; edge = credit })
        (not t.is_caller && is_new t.stage && (dst == 0) && (src == 1)) refl refl
    pdu_follows (Ok (connection_confirm credit dst src size user)) =
        confirm_follows user (record t { stage = stages.Open; size = size; edge = credit })
        (is_calling t.stage && (dst == 1) && (src == 1) && nat_le size t.size) refl refl
    pdu_follows (Ok (disconnect_request dst src reason user)) = disconnect_follows user (Parts user) (not (is_new t.stage) && (dst == 1) && (src == 1))
    pdu_follows (Ok (disconnect_confirm dst src)) = refusal_follows Ends tpdu_refused protocol_error
    pdu_follows (Ok (data_tpdu dst last number user)) = data_follows dst last number user
    pdu_follows (Ok (acknowledgement credit dst number)) = acknowledged credit number (is_open t.stage && (dst == 1))
    pdu_follows (Ok (tpdu_error dst cause)) = refusal_follows Ends tpdu_refused protocol_error
    pdu_follows (Err fault) = refusal_follows Ends tpdu_refused (dr_reason fault)

    tpdu_follows : (tpdu : List ℕ) → Follows calling x.line.taken (turn_at_pdu k (reading tpdu)) (noted (on_tpdu model finds tpdu x))
    tpdu_follows tpdu =
        subst (λ (r : Transport × ReceptionDeed). After (turn_at_pdu k (reading tpdu)) r) (sym (unless_over t.stage (reception t tpdu) l.going)) (pdu_follows (reading tpdu))
      where
        unless_over : (stage : Stage) (r : Transport × ReceptionDeed) → is_over stage ≡ false → (if is_over stage then (t, Nothing) else on_reading t (reading tpdu)) ≡ on_reading t (reading tpdu)
        unless_over stage r e = rw e refl

    -- ---- a block
    pub block_follows : (answer : joining.BlockJoiningResult) → Follows calling x.line.taken (turn_at_block k answer) (noted (on_joined_block model finds answer x))
    block_follows (Ok None) = Live None none l refl refl
    block_follows (Ok (Some tpdu)) = tpdu_follows tpdu
    block_follows (Err fault) = silent x (send_dr model (release_of BlockRefused) protocol_error [] x) Ends none (departs_left (release_of BlockRefused) protocol_error [] x)
