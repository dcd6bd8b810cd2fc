-- An event that releases a stack hands no message to its transport, gives no CC, and in it the safety side seals and verifies nothing.
use Rattle.std.proofs.Common.{◌≡◌, ◌⊎◌, inl, inr, ℕ, zero, suc, ◌+◌, ◌-◌, length, if◌then◌else◌, true, false, Bool, List, [], ◌∷◌, ◌++◌, refl, ap, ◌∙◌}
use Rattle.hdlc_station_model.specs.Receiving.{is_some_octets}
use Rattle.std.specs.Prelude.{◌&&◌, ◌==◌, not, nat_lt, nat_le, Option, Some, None, is_some, Result, Ok, Err}
use Rattle.er_base.specs.declared.release.Release.{Release}
use Rattle.er_base.specs.declared.cause.Cause.TheVariants.{User, BlockRefused, SetUpTimeSpent}
use Rattle.er_base.specs.Causes.{release_of, by_this_end}
use Rattle.hdlc_frames.specs.Framing.{Verdict}
use Rattle.hdlc_station_model.specs.Stations.{Deed as LinkDeed}
use Rattle.t70_header.specs.Joining as joining
use Rattle.x224_tpdu.specs.Spelling.{TransportPdu, connection_request, connection_confirm, disconnect_request, data_tpdu, acknowledgement}
use Rattle.x224_tpdu.specs.declared.fault.TpFault.{TpFault}
use Rattle.x224_tpdu.specs.Function.{reading}
use Rattle.x224_class2.specs.Segments.{Segment, text_so_far}
use Rattle.x224_class2.specs.Tpdus.{GivenTpdu, Dr, Dc}
use Rattle.x224_class2.specs.Transport.{Transport, ReceptionDeed, Nothing, Called, Confirmed, Message, Disconnected, is_new, is_calling, is_open, is_over, refusal_of_tpdu, is_expected, number_named, on_named, on_reading, reception}
use Rattle.x224_class2.specs.Transport as transport
use Rattle.x224_class2.specs.Refusals.{protocol_error, tpdu_refused, message_too_long}
use Rattle.sapdu.specs.Spelling.{di_in}
use Rattle.safety_automaton.specs.Safety.{no_keys, Safety, SafetyEvent, ConnectRequest, Received, DataRequest, DisconnectRequest, SafetyOutcome, SentAu2, SentAu3, SentAr, ReceivedAr, AcceptedDt, SentDt, ReleasedLocally, ReleasedByPeer, peer_flag, octets_sent_in_outcome, step}
use Rattle.safety_automaton.specs.Rules.{StepsOnly, IsStep}
use Rattle.safety_automaton.specs.Reports.{report_of}
use Rattle.safety_pair_laws.specs.Facts.{facts_of}
use Rattle.er_end_model.specs.Outcomes.{SendRefusal}
use Rattle.er_end_model.specs.Layers.{Spoken, Core, model}
use Rattle.er_end_model.specs.Steps.{Finds, new_event_at, with_release, hand_tpdu, close_link, send_owed_answer, send_dr, answer_dr, end_after_di, on_safety_release, why_of, with_safety_step, hand_text, accept_text, skip_message, Carrier, InCr, InCc, InDt, hand_answer, keep_message, on_safety_report, on_text, on_transport_deed, on_joined_block, is_ready, connect_with_text, on_link_up, on_link_told, on_link_deed, hand_next_tpdu, has_next_tpdu, hand_waiting_tpdus, most_offers, conclude_event, step_start, step_frame, refusal_of, step_send_unless, step_take, step_release, is_spent, di_of, on_expiry, step_tick, normal_disconnect}
use Rattle.er_end_pair_laws.specs.Ordered.{is_cc, begins_with_cc}
use Rattle.drill_laws.proofs.StackCalls.{facts_spoken}

-- ---- a reception hands nothing and gives nothing

abbrev SameOf : Transport → Transport → Type 0
SameOf t u = (u.segments ≡ t.segments) × (u.gave ≡ t.gave)

same_if : (t : Transport) (b : Bool) (x y : Transport × ReceptionDeed) → SameOf t x.0 → SameOf t y.0 → SameOf t (if b then x else y).0
same_if t true x y hx hy = hx
same_if t false x y hx hy = hy

named_same : (t : Transport) (credit : ℕ) (named : Option ℕ) → SameOf t (on_named t credit named).0
named_same t credit None = (refl, refl)
named_same t credit (Some n) = same_if t (nat_lt (n + credit) t.edge) (refusal_of_tpdu t tpdu_refused protocol_error) _ (refl, refl) (refl, refl)

reading_same : (t : Transport) (read : Result TransportPdu TpFault) → SameOf t (on_reading t read).0
reading_same t (Ok (connection_request credit dst src size user)) =
    same_if t (not t.is_caller && is_new t.stage && (dst == 0) && (src == 1)) _ (refusal_of_tpdu t tpdu_refused protocol_error) (refl, refl) (refl, refl)
reading_same t (Ok (connection_confirm credit dst src size user)) =
    same_if t (is_calling t.stage && (dst == 1) && (src == 1) && nat_le size t.size) _ (refusal_of_tpdu t tpdu_refused protocol_error) (refl, refl) (refl, refl)
reading_same t (Ok (disconnect_request dst src reason user)) =
    same_if t (not (is_new t.stage) && (dst == 1) && (src == 1)) _ (refusal_of_tpdu t tpdu_refused protocol_error) (refl, refl) (refl, refl)
reading_same t (Ok (data_tpdu dst last number user)) =
    let text : List ℕ = text_so_far t.contents ++ user in
    let got : Transport × ReceptionDeed = (record t { contents = t.contents ++ (last, user) ∷ [] }, if last then Message text else Nothing) in
    same_if t (not (is_expected t dst number user)) (refusal_of_tpdu t tpdu_refused protocol_error) (if nat_lt 1032 (length text) then refusal_of_tpdu t message_too_long protocol_error else got) (refl, refl)
    (same_if t (nat_lt 1032 (length text)) (refusal_of_tpdu t message_too_long protocol_error) got (refl, refl) (refl, refl))
reading_same t (Ok (acknowledgement credit dst number)) =
    same_if t (is_open t.stage && (dst == 1)) (on_named t credit (number_named t.acked (t.given - t.acked) number)) (refusal_of_tpdu t tpdu_refused protocol_error)
    (named_same t credit (number_named t.acked (t.given - t.acked) number)) (refl, refl)
reading_same t _ = (refl, refl)

reception_same : (t : Transport) (tpdu : List ℕ) → SameOf t (reception t tpdu).0
reception_same t tpdu = same_if t (is_over t.stage) (t, Nothing) (on_reading t (reading tpdu)) (refl, refl) (reading_same t (reading tpdu))

-- a TPDU that is no CC
other_more : (gave : List GivenTpdu) (tpdu : GivenTpdu) → is_cc tpdu ≡ false → begins_with_cc (gave ++ tpdu ∷ []) ≡ begins_with_cc gave
other_more [] tpdu other = other
other_more (g ∷ gave) tpdu other = refl

if_core : (P : Core → Type 0) (b : Bool) (x y : Core) → P x → P y → P (if b then x else y)
if_core P true x y hx hy = hx
if_core P false x y hx hy = hy

-- ---- within an event, from these segments and this list of TPDUs on

module _ (S : List Segment) (C : Bool) where
  -- nothing was handed, no CC given, nothing sealed and nothing verified
  pub record Calm (x : Core) : Type 0 where
    pub segments_are : x.upper.transport.segments ≡ S
    pub cc_is : begins_with_cc x.upper.transport.gave ≡ C
    pub none : facts_spoken x.upper.spoke ≡ []

  -- the end is live, or it is calm
  abbrev pub Ended : Core → Type 0
  Ended x = (x.released ≡ None) ⊎ Calm x

  -- the side took no step yet
  record Fresh (x : Core) : Type 0 where
    pub live : x.released ≡ None
    pub segments_are : x.upper.transport.segments ≡ S
    pub cc_is : begins_with_cc x.upper.transport.gave ≡ C
    pub silent : x.upper.spoke ≡ None

  calm : (x : Core) → Fresh x → Calm x
  calm x h = record { segments_are = h.segments_are; cc_is = h.cc_is; none = no_facts x.upper.spoke h.silent }
    where
      no_facts : (spoke : Option Spoken) → spoke ≡ None → facts_spoken spoke ≡ []
      no_facts spoke none = ap facts_spoken none

  -- ---- releases

  gives_calm : (tpdu : GivenTpdu) (x : Core) → is_cc tpdu ≡ false → Calm x → Calm (hand_tpdu model tpdu x)
  gives_calm tpdu x other h =
      record { segments_are = h.segments_are; cc_is = other_more x.upper.transport.gave tpdu other ∙ h.cc_is; none = h.none }

  same_calm : (x y : Core) → y.upper ≡ x.upper → Calm x → Calm y
  same_calm x y same h =
      record {
        segments_are = ap (λ u. u.transport.segments) same ∙ h.segments_are;
        cc_is = ap (λ u. begins_with_cc u.transport.gave) same ∙ h.cc_is;
        none = ap (λ u. facts_spoken u.spoke) same ∙ h.none;
      }

  departs_calm : (why : Release) (reason : ℕ) (user : List ℕ) (x : Core) → Calm x → Calm (send_dr model why reason user x)
  departs_calm why reason user x h =
      if_core (λ y. Calm (with_release why (close_link model y))) (model.may_send x.line) (hand_tpdu model (Dr reason user) x) x
      (same_calm (hand_tpdu model (Dr reason user) x) _ refl (gives_calm (Dr reason user) x refl h)) (same_calm x _ refl h)

  cut_off_calm : (why : Release) (x : Core) → Calm x → Calm (answer_dr model why x)
  cut_off_calm why x h =
      if_core (λ y. Calm (with_release why (send_owed_answer model y))) (model.may_send x.line) (hand_tpdu model Dc x) x
      (same_calm (hand_tpdu model Dc x) _ refl (gives_calm Dc x refl h)) (same_calm x _ refl h)

  parts_calm : (why : Release) (di : List ℕ) (x : Core) → Calm x → Calm (on_safety_release model why di x)
  parts_calm why di x h =
      if_core Calm why.by_peer (end_after_di model why x) (send_dr model why normal_disconnect di x) (same_calm x (end_after_di model why x) refl h) (departs_calm why normal_disconnect di x h)

  -- ---- what keeps an end live

  abbrev Live : Core → Type 0
  Live x = x.released ≡ None

  says_live : (text : List ℕ) (x : Core) → Live x → Live (hand_text model text x)
  says_live text x h = if_core Live (is_some_octets text && model.may_hand x.upper) (record x { upper = model.hands_message x.upper text }) x h h

  accepts_live : (text : List ℕ) (x : Core) → Live x → Live (accept_text model text x)
  accepts_live text x h = if_core Live (is_some_octets text) (record x { upper = model.accepts x.upper text }) x h h

  answers_live : (carrier : Carrier) (text : List ℕ) (x : Core) → Live x → Live (hand_answer model carrier text x)
  answers_live InCr text x h = accepts_live text x h
  answers_live InCc text x h = says_live text x h
  answers_live InDt text x h = says_live text (skip_message model x) h

  keeps_live : (carrier : Carrier) (user : List ℕ) (x : Core) → Live x → Live (keep_message model carrier user x)
  keeps_live InCr user x h = h
  keeps_live InCc user x h = h
  keeps_live InDt user x h = h

  offers_released : (n : ℕ) (x : Core) → (hand_waiting_tpdus model n x).released ≡ x.released
  unfolding hand_waiting_tpdus
  offers_released zero x = refl
  offers_released (suc n) x =
      if_core (λ y. y.released ≡ x.released) (has_next_tpdu model x) (hand_waiting_tpdus model n (hand_next_tpdu model x)) x (offers_released n (hand_next_tpdu model x)) refl

  concludes_at : (x : Core) (o : Option Release) → x.released ≡ o → Ended x → Ended (if is_some o then x else send_owed_answer model (hand_waiting_tpdus model most_offers x))
  concludes_at x None is h = inl (offers_released most_offers x ∙ is)
  concludes_at x (Some why) is h = h

  concludes_ended : (x : Core) → Ended x → Ended (conclude_event model x)
  concludes_ended x h = concludes_at x x.released refl h

  -- ---- a text comes

  abbrev told : (carrier : Carrier) (event : SafetyEvent) (next : Safety) (outcome : SafetyOutcome) → Core → Core
  told carrier event next outcome x = on_safety_report model carrier (report_of outcome) (octets_sent_in_outcome outcome) (with_safety_step model event (next, outcome) x)

  -- a step of the safety side that has no facts
  spoken_calm : (event : SafetyEvent) (next : Safety) (outcome : SafetyOutcome) (x : Core) → facts_of event outcome ≡ [] → Fresh x
      → Calm (with_safety_step model event (next, outcome) x)
  spoken_calm event next outcome x none h = record { segments_are = h.segments_are; cc_is = h.cc_is; none = none }

  acts_ended : (carrier : Carrier) (text : List ℕ) (next : Safety) (outcome : SafetyOutcome) (x : Core) → Fresh x → Ended (told carrier (Received text) next outcome x)
  acts_ended carrier text next (SentAu2 session sealed octets) x h = inl (answers_live carrier octets (with_safety_step model (Received text) (next, SentAu2 session sealed octets) x) h.live)
  acts_ended carrier text next (SentAu3 session verified sealed octets) x h =
      inl (answers_live carrier octets (with_safety_step model (Received text) (next, SentAu3 session verified sealed octets) x) h.live)
  acts_ended carrier text next (SentAr c verified sealed octets) x h =
      inl (answers_live carrier octets (with_safety_step model (Received text) (next, SentAr c verified sealed octets) x) h.live)
  acts_ended carrier text next (ReceivedAr c verified) x h = inl (answers_live carrier [] (with_safety_step model (Received text) (next, ReceivedAr c verified) x) h.live)
  acts_ended carrier text next (AcceptedDt session user verified) x h =
      inl (keeps_live carrier user (with_safety_step model (Received text) (next, AcceptedDt session user verified) x) h.live)
  acts_ended carrier text next (ReleasedLocally why octets) x h =
      inr (parts_calm why octets (with_safety_step model (Received text) (next, ReleasedLocally why octets) x) (spoken_calm (Received text) next (ReleasedLocally why octets) x refl h))
  acts_ended carrier text next (ReleasedByPeer why) x h =
      inr (parts_calm why [] (with_safety_step model (Received text) (next, ReleasedByPeer why) x) (spoken_calm (Received text) next (ReleasedByPeer why) x refl h))
  acts_ended carrier text next _ x h = inl h.live

  module _ (finds : Finds) where
    text_ended : (carrier : Carrier) (text : List ℕ) (x : Core) → Fresh x → Ended (on_text model finds carrier text x)
    text_ended carrier text x h =
        let a : Safety × SafetyOutcome = step (finds x.moment) x.safe.safety (Received text) in
        acts_ended carrier text a.0 a.1 x h

    does_ended : (deed : ReceptionDeed) (x : Core) → Fresh x → Ended (on_transport_deed model finds deed x)
    does_ended Nothing x h = inl h.live
    does_ended (Called user) x h = text_ended InCr user x h
    does_ended (Confirmed user) x h = text_ended InCc user x h
    does_ended (Message message) x h = text_ended InDt message x h
    does_ended (Disconnected user) x h = inr (cut_off_calm (why_of (di_in user (peer_flag x.safe.safety))) x (calm x h))
    does_ended (transport.Refused sub reason) x h = inr (departs_calm (by_this_end 2 sub) reason [] x (calm x h))

    block_ended : (answer : joining.BlockJoiningResult) (x : Core) → Fresh x → Ended (on_joined_block model finds answer x)
    block_ended (Ok None) x h = inl h.live
    block_ended (Ok (Some tpdu)) x h =
        let same = reception_same x.upper.transport tpdu in
        does_ended (model.deed x.upper tpdu) (record x { upper = model.hears x.upper tpdu })
        (record { live = h.live; segments_are = same.0 ∙ h.segments_are; cc_is = ap begins_with_cc same.1 ∙ h.cc_is; silent = h.silent })
    block_ended (Err fault) x h = inr (departs_calm (release_of BlockRefused) protocol_error [] x (calm x h))

    comes_up_ended : (x : Core) → Fresh x → Ended (on_link_up model x)
    comes_up_ended x h =
        let a : Safety × SafetyOutcome = step no_keys x.safe.safety ConnectRequest in
        let y : Core = with_safety_step model ConnectRequest a x in
        if_core Ended (model.may_connect x.upper && is_ready x.safe.safety.phase) (connect_with_text model (octets_sent_in_outcome a.1) y) x
        (inl (if_core Live (is_some_octets (octets_sent_in_outcome a.1)) (record y { upper = model.connects y.upper (octets_sent_in_outcome a.1) }) y h.live h.live)) (inl h.live)

    link_ended : (payload : Option (List ℕ)) (up : Bool) (released : Option Release) (x : Core) → Fresh x → Ended (on_link_told model finds payload up released x)
    link_ended (Some payload) up released x h =
        block_ended (joining.block_step x.joined payload).1 (record x { joined = (joining.block_step x.joined payload).0 })
        (record { live = h.live; segments_are = h.segments_are; cc_is = h.cc_is; silent = h.silent })
    link_ended None true released x h = comes_up_ended x h
    link_ended None false (Some why) x h = inr (same_calm x (with_release why x) refl (calm x h))
    link_ended None false None x h = inl h.live

-- ---- the events

abbrev pub EndsCalmly : Core → Core → Type 0
EndsCalmly x y = Ended x.upper.transport.segments (begins_with_cc x.upper.transport.gave) y

-- an event that goes on only where the end is live
unless : (x y z : Core) (o : Option Release) → x.released ≡ o → z.released ≡ x.released → z.upper.transport.segments ≡ x.upper.transport.segments
    → begins_with_cc z.upper.transport.gave ≡ begins_with_cc x.upper.transport.gave → z.upper.spoke ≡ None
    → (x.released ≡ None → EndsCalmly x y) → EndsCalmly x (if is_some o then z else y)
unless x y z None is same segments cc silent live = live is
unless x y z (Some why) is same segments cc silent live =
    inr (record { segments_are = segments; cc_is = cc; none = ap facts_spoken silent })

pub starts_ended : (now : ℕ) (x : Core) → EndsCalmly x (step_start model now x)
starts_ended now x =
    let y : Core = new_event_at model now x in
    let z : Core = record y { line = model.starts y.moment y.line } in
    unless x (conclude_event model z) y x.released refl refl refl refl refl
    (λ live. concludes_ended x.upper.transport.segments (begins_with_cc x.upper.transport.gave) z (inl live))

pub comes_ended : (finds : Finds) (now : ℕ) (verdict : Verdict) (x : Core) → EndsCalmly x (step_frame model finds now verdict x)
comes_ended finds now verdict x =
    let S : List Segment = x.upper.transport.segments in
    let C : Bool = begins_with_cc x.upper.transport.gave in
    let y : Core = new_event_at model now x in
    let z : Core = record y { line = model.receives y.moment verdict y.line } in
    let deed : LinkDeed = model.told y.moment verdict y.line in
    unless x (conclude_event model (on_link_deed model finds deed z)) y x.released refl refl refl refl refl
    (λ live. concludes_ended S C (on_link_deed model finds deed z)
    (link_ended S C finds deed.payload deed.up deed.released z (record { live = live; segments_are = refl; cc_is = refl; silent = refl })))

-- a send, by whether it is refused
pub sends_ended : (now : ℕ) (user : List ℕ) (x : Core) (o : Option SendRefusal) → refusal_of model user x ≡ o → (step_send_unless model o now user x).released ≡ x.released
sends_ended now user x (Some refusal_of_tpdu) is = refl
sends_ended now user x None is =
    let S : List Segment = x.upper.transport.segments in
    let C : Bool = begins_with_cc x.upper.transport.gave in
    let y : Core = new_event_at model now x in
    let a : Safety × SafetyOutcome = step no_keys y.safe.safety (DataRequest user) in
    let z : Core = with_safety_step model (DataRequest user) a y in
    let w : Core = record z { upper = model.sends z.upper user } in
    let said : (hand_text model (octets_sent_in_outcome a.1) w).released ≡ x.released =
    if_core (λ v. v.released ≡ x.released) (is_some_octets (octets_sent_in_outcome a.1) && model.may_hand w.upper) (record w { upper = model.hands_message w.upper (octets_sent_in_outcome a.1) }) w refl refl in
    concluded (hand_text model (octets_sent_in_outcome a.1) w) ∙ said
  where
    concluded : (v : Core) → (conclude_event model v).released ≡ v.released
    concluded v = if_core (λ u. u.released ≡ v.released) (is_some v.released) v (send_owed_answer model (hand_waiting_tpdus model most_offers v)) refl (offers_released [] false most_offers v)

pub uses_ended : (now : ℕ) (x : Core) → EndsCalmly x (step_take model now x)
uses_ended now x =
    let S : List Segment = x.upper.transport.segments in
    let C : Bool = begins_with_cc x.upper.transport.gave in
    let y : Core = new_event_at model now x in
    let z : Core = record y { upper = model.uses y.upper } in
    let rest : Calm S C y = record { segments_are = refl; cc_is = refl; none = refl } in
    let taken : Calm S C z = record { segments_are = refl; cc_is = refl; none = refl } in
    if_core (Ended S C) (model.untaken y.upper == 0) y (conclude_event model z) (inr rest) (concludes_ended S C z (inr taken))

pub leaves_ended : StepsOnly → (now sub : ℕ) (x : Core) → EndsCalmly x (step_release model now sub x)
leaves_ended only now sub x =
    let S : List Segment = x.upper.transport.segments in
    let C : Bool = begins_with_cc x.upper.transport.gave in
    let y : Core = new_event_at model now x in
    let a : Safety × SafetyOutcome = step no_keys y.safe.safety (DisconnectRequest sub) in
    let z : Core = with_safety_step model (DisconnectRequest sub) a y in
    let none : facts_of (DisconnectRequest sub) a.1 ≡ [] = no_facts y.safe.safety a.0 a.1 sub (only no_keys y.safe.safety (DisconnectRequest sub)) in
    unless x (send_dr model (release_of (User sub)) normal_disconnect (octets_sent_in_outcome a.1) z) y x.released refl refl refl refl refl
    (λ live. inr (departs_calm S C (release_of (User sub)) normal_disconnect (octets_sent_in_outcome a.1) z (record { segments_are = refl; cc_is = refl; none = none })))
  where
    not_received : (sub : ℕ) (octets : List ℕ) → DisconnectRequest sub ≡ Received octets → ⊥
    not_received sub octets e = cc

    not_data : (sub : ℕ) (user : List ℕ) → DisconnectRequest sub ≡ DataRequest user → ⊥
    not_data sub user e = cc

    no_facts : (s next : Safety) (outcome : SafetyOutcome) (sub : ℕ) → IsStep no_keys s (DisconnectRequest sub) next outcome → facts_of (DisconnectRequest sub) outcome ≡ []
    no_facts s next (SentAu2 session sealed octets) sub r = absurd (not_received sub r.received.octets r.received.event_is)
    no_facts s next (SentAu3 session verified sealed octets) sub r = absurd (not_received sub r.received.octets r.received.event_is)
    no_facts s next (SentAr c verified sealed octets) sub r = absurd (not_received sub r.received.octets r.received.event_is)
    no_facts s next (ReceivedAr c verified) sub r = absurd (not_received sub r.received.octets r.received.event_is)
    no_facts s next (AcceptedDt session user verified) sub r = absurd (not_received sub r.received.octets r.received.event_is)
    no_facts s next (SentDt session user sealed octets) sub r = absurd (not_data sub user r.event_is)
    no_facts s next _ sub r = refl

pub ticks_ended : (now : ℕ) (x : Core) → EndsCalmly x (step_tick model now x)
ticks_ended now x =
    let S : List Segment = x.upper.transport.segments in
    let C : Bool = begins_with_cc x.upper.transport.gave in
    let y : Core = new_event_at model now x in
    let z : Core = record y { line = model.ticks y.moment y.line } in
    let why : Option Release = model.given_up y.moment y.line in
    unless x (conclude_event model (on_expiry model why z)) y x.released refl refl refl refl refl
    (λ live. concludes_ended S C (on_expiry model why z) (time_ended S C why z (record { live = live; segments_are = refl; cc_is = refl; silent = refl })))
  where
    time_ended : (S : List Segment) (C : Bool) (why : Option Release) (z : Core) → Fresh S C z → Ended S C (on_expiry model why z)
    time_ended S C (Some why) z h = inr (same_calm S C z (with_release why z) refl (calm S C z h))
    time_ended S C None z h =
        let why : Release = release_of SetUpTimeSpent in
        if_core (Ended S C) (is_spent z) (send_dr model why normal_disconnect (di_of why z.safe.safety) z) z
        (inr (departs_calm S C why normal_disconnect (di_of why z.safe.safety) z (calm S C z h))) (inl h.live)
