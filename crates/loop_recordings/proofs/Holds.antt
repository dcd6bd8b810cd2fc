-- What holds of an end behind each of its doings: what it says, hands down, took and accepted is short.
use Rattle.std.proofs.Common.{◌≡◌, ◌<◌, ◌≤◌, ℕ, zero, suc, Bool, true, false, List, [], length, Option, Some, None, Ok, Err, refl, subst, arith}
use Rattle.std.proofs.Common.{ltb-true}
use Rattle.hdlc_station_model.specs.Receiving.{is_some_octets}
use Rattle.std.specs.Prelude.{◌&&◌, is_some, if◌then◌else◌}
use Rattle.er_base.specs.declared.release.Release.{Release}
use Rattle.er_base.specs.declared.cause.Cause.TheVariants.{BlockRefused}
use Rattle.er_base.specs.Causes.{release_of, by_this_end}
use Rattle.des_block.specs.declared.triple_key.TripleKey.{TripleKey}
use Rattle.hdlc_station_model.specs.Stations.{Station}
use Rattle.hdlc_station_model.specs.Calls as station
use Rattle.t70_header.specs.Blocks.{last_block}
use Rattle.t70_header.specs.Joining as joining
use Rattle.x224_class2.specs.Refusals.{protocol_error}
use Rattle.x224_class2.specs.Tpdus.{GivenTpdu, Dr, Dc, octets_given}
use Rattle.x224_class2.specs.Transport.{Transport, ReceptionDeed, Nothing, Called, Confirmed, Message, Disconnected, is_open, waiting_count, reception, after_hand}
use Rattle.x224_class2.specs.Transport as transport
use Rattle.sapdu.specs.Messages.{IsMessage}
use Rattle.sapdu.specs.Spelling.{di_in}
use Rattle.safety_automaton.specs.Safety.{no_keys, Safety, SafetyEvent, ConnectRequest, Received, SafetyOutcome, SentAu1, SentAu2, SentAu3, SentAr, ReceivedAr, AcceptedDt, SentDt, Refused, ReleasedLocally, ReleasedByPeer, NothingDone, peer_flag, octets_sent_in_outcome, step}
use Rattle.safety_automaton.specs.Reports.{Report, ToldAnswered, ToldConnected, ToldAccepted, ToldReleased, ToldIgnored, report_of}
use Rattle.safety_automaton.specs.Rules.{IsStep}
use Rattle.safety_automaton.specs.Laws.{IsValid, HasOutcomeLength}
use Rattle.er_end_model.specs.Steps.{Finds, hand_tpdu_if_may, close_link, send_owed_answer, send_dr, answer_dr, on_safety_release, why_of, normal_disconnect, with_safety_step, hand_text, accept_text}
use Rattle.er_end_model.specs.Steps.{skip_message, Carrier, InCr, InCc, InDt, hand_answer, keep_message, on_safety_report, on_text, on_transport_deed, on_tpdu, on_joined_block, on_block, is_ready, connect_with_text}
use Rattle.er_end_model.specs.Steps.{on_link_up, on_link_told, hand_next_tpdu, has_next_tpdu, hand_waiting_tpdus, most_offers, conclude_event}
use Rattle.er_end_model.specs.Layers.{Core, model}
use Rattle.loop_recordings.proofs.Lists.{Each, IfSome, each_push}
use Rattle.loop_recordings.proofs.Octets.{Octets, all_of}
use Rattle.loop_recordings.proofs.Below.{Below}
use Rattle.loop_recordings.proofs.Lines.{IsBlock, SendsOf, one_more, left_part, right_part}
use Rattle.loop_recordings.proofs.Heard.{hands_sends, finishes_sends, closes_sends}
use Rattle.loop_recordings.proofs.Transports.{GivesOf, IfWhole, block_joined, due_gives, hand_gives, next_block, leave_block, confirm_block, next_gives}
use Rattle.loop_recordings.proofs.Receptions.{IfUp, reception_keeps}

abbrev pub IsPeer : ℕ → Type 0
IsPeer peer = peer < 16777216

-- what holds of an end that sent at most so many other frames than I frames in this event
pub record Holds (line : Station) (joined : List ℕ) (transport : Transport) (accepted : List (List ℕ)) (news : Option (List ℕ)) (safety : Safety)
    (connected : Option ℕ) (others : ℕ) : Type 0 where
  pub sends : SendsOf line others
  pub begun : Octets joined
  pub gives : GivesOf transport
  pub messages : Each IsMessage accepted
  pub newest : IfSome IsMessage news
  pub valid : IsValid safety
  pub peer : IfSome IsPeer connected

abbrev pub HoldsOf : Core → ℕ → Type 0
HoldsOf x others = Holds x.line x.joined x.upper.transport x.upper.accepted x.upper.news x.safe.safety x.connected others

pub holds_if : (others : ℕ) (b : Bool) (x y : Core) → (b ≡ true → HoldsOf x others) → (b ≡ false → HoldsOf y others) → HoldsOf (if b then x else y) others
holds_if others true x y h g = h refl
holds_if others false x y h g = g refl

pub with_line : (x : Core) (line : Station) (n others : ℕ) → HoldsOf x n → SendsOf line others → HoldsOf (record x { line = line }) others
with_line x line n others h s =
    record { sends = s; begun = h.begun; gives = h.gives; messages = h.messages; newest = h.newest; valid = h.valid; peer = h.peer }

with_transport : (x : Core) (t : Transport) (others : ℕ) → HoldsOf x others → GivesOf t → HoldsOf (record x { upper = record (x.upper) { transport = t } }) others
with_transport x t others h g =
    record { sends = h.sends; begun = h.begun; gives = g; messages = h.messages; newest = h.newest; valid = h.valid; peer = h.peer }

pub one_more_holds : (x : Core) (others : ℕ) → HoldsOf x others → HoldsOf x (suc others)
one_more_holds x others h = with_line x x.line others (suc others) h (one_more x.line others h.sends)

module _ (laws : Below) where
  -- ---- what goes down

  gives_holds : (tpdu : GivenTpdu) (x : Core) (others : ℕ) → IsBlock (last_block (octets_given tpdu)) → HoldsOf x others → HoldsOf (hand_tpdu_if_may model tpdu x) others
  gives_holds tpdu x others short h =
      holds_if others (model.may_send x.line) _ _
      (λ e.
      record {
        sends = hands_sends laws x.moment (last_block (octets_given tpdu)) x.line others short h.sends;
        begun = h.begun;
        gives = h.gives;
        messages = h.messages;
        newest = h.newest;
        valid = h.valid;
        peer = h.peer;
      })
      (λ e. h)

  shuts_holds : (x : Core) (others : ℕ) → HoldsOf x others → HoldsOf (close_link model x) (suc others)
  shuts_holds x others h = with_line x (station.closes x.line) others (suc others) h (closes_sends laws x.line others h.sends)

  finishes_holds : (x : Core) (others : ℕ) → HoldsOf x others → HoldsOf (send_owed_answer model x) (suc others)
  finishes_holds x others h = with_line x (station.finishes x.line) others (suc others) h (finishes_sends laws x.line others h.sends)

  pub departs_holds : (why : Release) (reason : ℕ) (user : List ℕ) (x : Core) (others : ℕ) → length user ≤ 32 → HoldsOf x others
      → HoldsOf (send_dr model why reason user x) (suc others)
  departs_holds why reason user x others short h =
      shuts_holds (hand_tpdu_if_may model (Dr reason user) x) others (gives_holds (Dr reason user) x others (leave_block reason user short) h)

  cut_off_holds : (why : Release) (x : Core) (others : ℕ) → HoldsOf x others → HoldsOf (answer_dr model why x) (suc others)
  cut_off_holds why x others h = finishes_holds (hand_tpdu_if_may model Dc x) others (gives_holds Dc x others confirm_block h)

  parts_holds : (why : Release) (di : List ℕ) (x : Core) (others : ℕ) → length di ≤ 32 → HoldsOf x others → HoldsOf (on_safety_release model why di x) (suc others)
  parts_holds why di x others short h =
      holds_if (suc others) why.by_peer _ _ (λ e. shuts_holds x others h) (λ e. departs_holds why normal_disconnect di x others short h)

  -- ---- what the safety side says

  pub says_holds : (text : List ℕ) (x : Core) (others : ℕ) → HoldsOf x others → HoldsOf (hand_text model text x) others
  says_holds text x others h =
      let some : Bool = is_some_octets text in
      let may : Bool = model.may_hand x.upper in
      holds_if others (some && may) _ _
      (λ e.
      let room = ltb-true (waiting_count x.upper.transport) 16 (right_part (is_open x.upper.transport.stage) _ (right_part some may e)) in
      with_transport x (after_hand x.upper.transport text) others h
      (hand_gives laws x.upper.transport text room (ltb-true 0 (length text) (left_part some may e)) h.gives))
      (λ e. h)

  accepts_holds : (text : List ℕ) (x : Core) (others : ℕ) → length text ≤ 32 → HoldsOf x others → HoldsOf (accept_text model text x) others
  accepts_holds text x others short h =
      holds_if others (is_some_octets text) _ _ (λ e. with_transport x _ others h (due_gives x.upper.transport text short h.gives)) (λ e. h)

  connects_holds : (text : List ℕ) (x : Core) (others : ℕ) → length text ≤ 32 → HoldsOf x others → HoldsOf (connect_with_text model text x) others
  connects_holds text x others short h =
      holds_if others (is_some_octets text) _ _ (λ e. with_transport x _ others h (due_gives x.upper.transport text short h.gives)) (λ e. h)

  skips_holds : (x : Core) (others : ℕ) → HoldsOf x others → HoldsOf (skip_message model x) others
  skips_holds x others h = with_transport x _ others h h.gives

  answers_holds : (by : Carrier) (text : List ℕ) (x : Core) (others : ℕ) → length text ≤ 32 → HoldsOf x others → HoldsOf (hand_answer model by text x) others
  answers_holds InCr text x others short h = accepts_holds text x others short h
  answers_holds InCc text x others short h = says_holds text x others h
  answers_holds InDt text x others short h = says_holds text (skip_message model x) others (skips_holds x others h)

  keeps_holds : (by : Carrier) (user : List ℕ) (x : Core) (others : ℕ) → IsMessage user → HoldsOf x others → HoldsOf (keep_message model by user x) others
  keeps_holds InCr user x others short h = h
  keeps_holds InCc user x others short h = h
  keeps_holds InDt user x others short h = record {
    sends = h.sends;
    begun = h.begun;
    gives = h.gives;
    messages = each_push IsMessage x.upper.accepted user h.messages short;
    newest = short;
    valid = h.valid;
    peer = h.peer;
  }

  -- a report of the safety side
  abbrev IsReported : Report → Type 0
  IsReported ToldAnswered = Unit {0}
  IsReported (ToldConnected peer) = IsPeer peer
  IsReported (ToldAccepted user) = IsMessage user
  IsReported (ToldReleased release) = Unit {0}
  IsReported ToldIgnored = Unit {0}

  acts_holds : (by : Carrier) (report : Report) (octets : List ℕ) (x : Core) (others : ℕ) → length octets ≤ 32 → IsReported report → HoldsOf x others
      → HoldsOf (on_safety_report model by report octets x) (suc others)
  acts_holds by ToldAnswered octets x others short r h =
      one_more_holds (hand_answer model by octets x) others (answers_holds by octets x others short h)
  acts_holds by (ToldConnected peer) octets x others short r h =
      let g = one_more_holds (hand_answer model by octets x) others (answers_holds by octets x others short h) in
      record { sends = g.sends; begun = g.begun; gives = g.gives; messages = g.messages; newest = g.newest; valid = g.valid; peer = r }
  acts_holds by (ToldAccepted user) octets x others short r h = one_more_holds (keep_message model by user x) others (keeps_holds by user x others r h)
  acts_holds by (ToldReleased release) octets x others short r h = parts_holds release octets x others short h
  acts_holds by ToldIgnored octets x others short r h = one_more_holds x others h

  -- behind a step of the safety side
  pub spoken_holds : (event : SafetyEvent) (a : Safety × SafetyOutcome) (x : Core) (others : ℕ) → IsValid a.0 → HoldsOf x others → HoldsOf (with_safety_step model event a x) others
  spoken_holds event a x others valid h =
      record { sends = h.sends; begun = h.begun; gives = h.gives; messages = h.messages; newest = h.newest; valid = valid; peer = h.peer }

  reported : (key_of : ℕ → ℕ → Option TripleKey) (s next : Safety) (event : SafetyEvent) (outcome : SafetyOutcome) → IsValid next → IsStep key_of s event next outcome
      → HasOutcomeLength outcome → IsReported (report_of outcome)
  reported key_of s next event (SentAu1 octets) valid only long = tt
  reported key_of s next event (SentAu2 session sealed octets) valid only long = tt
  reported key_of s next event (SentAu3 session verified sealed octets) valid only long = tt
  reported key_of s next event (SentAr connection verified sealed octets) valid only long = (subst IsValid only.next_is valid).phase
  reported key_of s next event (ReceivedAr connection verified) valid only long = (subst IsValid only.next_is valid).phase
  reported key_of s next event (AcceptedDt session user verified) valid only long = long
  reported key_of s next event (SentDt session user sealed octets) valid only long = tt
  reported key_of s next event (Refused refusal) valid only long = tt
  reported key_of s next event (ReleasedLocally release octets) valid only long = tt
  reported key_of s next event (ReleasedByPeer release) valid only long = tt
  reported key_of s next event NothingDone valid only long = tt

  text_holds : (finds : Finds) (by : Carrier) (text : List ℕ) (x : Core) (others : ℕ) → Octets text → HoldsOf x others → HoldsOf (on_text model finds by text x) (suc others)
  text_holds finds by text x others octets h =
      let event : SafetyEvent = Received text in
      let a : Safety × SafetyOutcome = step (finds x.moment) x.safe.safety event in
      let valid = laws.stays (finds x.moment) x.safe.safety event h.valid (all_of text octets) in
      let few = laws.few (finds x.moment) x.safe.safety event in
      acts_holds by (report_of a.1) (octets_sent_in_outcome a.1) (with_safety_step model event a x) others (omega (arith, few))
      (reported (finds x.moment) x.safe.safety a.0 event a.1 valid (laws.only (finds x.moment) x.safe.safety event)
      (laws.lengths (finds x.moment) x.safe.safety event (all_of text octets)))
      (spoken_holds event a x others valid h)

  -- ---- the way up

  does_holds : (finds : Finds) (d : ReceptionDeed) (x : Core) (others : ℕ) → IfUp d → HoldsOf x others → HoldsOf (on_transport_deed model finds d x) (suc others)
  does_holds finds Nothing x others up h = one_more_holds x others h
  does_holds finds (Called user) x others up h = text_holds finds InCr user x others up h
  does_holds finds (Confirmed user) x others up h = text_holds finds InCc user x others up h
  does_holds finds (Message message) x others up h = text_holds finds InDt message x others up h
  does_holds finds (Disconnected user) x others up h = cut_off_holds (why_of (di_in user (peer_flag x.safe.safety))) x others h
  does_holds finds (transport.Refused sub reason) x others up h = departs_holds (by_this_end 2 sub) reason [] x others (omega arith) h

  tpdu_holds : (finds : Finds) (tpdu : List ℕ) (x : Core) (others : ℕ) → Octets tpdu → HoldsOf x others → HoldsOf (on_tpdu model finds tpdu x) (suc others)
  tpdu_holds finds tpdu x others octets h =
      let a = reception_keeps laws x.upper.transport tpdu h.gives octets in
      let r : Transport × ReceptionDeed = reception x.upper.transport tpdu in
      does_holds finds r.1 (record x { upper = record (x.upper) { transport = r.0 } }) others a.1 (with_transport x r.0 others h a.0)

  block_at_holds : (finds : Finds) (answer : joining.BlockJoiningResult) (x : Core) (others : ℕ) → IfWhole answer → HoldsOf x others → HoldsOf (on_joined_block model finds answer x) (suc others)
  block_at_holds finds (Ok None) x others whole h = one_more_holds x others h
  block_at_holds finds (Ok (Some tpdu)) x others whole h = tpdu_holds finds tpdu x others whole h
  block_at_holds finds (Err fault) x others whole h = departs_holds (release_of BlockRefused) protocol_error [] x others (omega arith) h

  block_holds : (finds : Finds) (block : List ℕ) (x : Core) (others : ℕ) → Octets block → HoldsOf x others → HoldsOf (on_block model finds block x) (suc others)
  block_holds finds block x others octets h =
      let a = block_joined x.joined block h.begun octets in
      let joined : List ℕ × joining.BlockJoiningResult = joining.block_step x.joined block in
      block_at_holds finds joined.1 (record x { joined = joined.0 }) others a.1
      (record { sends = h.sends; begun = a.0; gives = h.gives; messages = h.messages; newest = h.newest; valid = h.valid; peer = h.peer })

  up_holds : (x : Core) (others : ℕ) → HoldsOf x others → HoldsOf (on_link_up model x) others
  up_holds x others h =
      let a : Safety × SafetyOutcome = step no_keys x.safe.safety ConnectRequest in
      let few = laws.few no_keys x.safe.safety ConnectRequest in
      holds_if others (model.may_connect x.upper && is_ready x.safe.safety.phase) _ _
      (λ e.
      connects_holds (octets_sent_in_outcome a.1) (with_safety_step model ConnectRequest a x) others (omega (arith, few))
      (spoken_holds ConnectRequest a x others (laws.stays no_keys x.safe.safety ConnectRequest h.valid tt) h))
      (λ e. h)

  pub link_holds : (finds : Finds) (payload : Option (List ℕ)) (up : Bool) (released : Option Release) (x : Core) (others : ℕ) → IfSome Octets payload
      → HoldsOf x others → HoldsOf (on_link_told model finds payload up released x) (suc others)
  link_holds finds (Some payload) up released x others octets h = block_holds finds payload x others octets h
  link_holds finds None true released x others octets h = one_more_holds (on_link_up model x) others (up_holds x others h)
  link_holds finds None false (Some why) x others octets h = one_more_holds x others h
  link_holds finds None false None x others octets h = one_more_holds x others h

  -- ---- what goes down behind each event

  next_holds : (x : Core) (others : ℕ) → HoldsOf x others → HoldsOf (hand_next_tpdu model x) others
  next_holds x others h = record {
    sends = hands_sends laws x.moment (last_block (model.next x.upper)) x.line others (next_block x.upper.transport h.gives) h.sends;
    begun = h.begun;
    gives = next_gives x.upper.transport h.gives;
    messages = h.messages;
    newest = h.newest;
    valid = h.valid;
    peer = h.peer;
  }

  offers_holds : (n : ℕ) (x : Core) (others : ℕ) → HoldsOf x others → HoldsOf (hand_waiting_tpdus model n x) others
  unfolding hand_waiting_tpdus
  offers_holds zero x others h = h
  offers_holds (suc n) x others h =
      holds_if others (has_next_tpdu model x) _ _ (λ e. offers_holds n (hand_next_tpdu model x) others (next_holds x others h)) (λ e. h)

  pub concludes_holds : (x : Core) (others : ℕ) → HoldsOf x others → HoldsOf (conclude_event model x) (suc others)
  concludes_holds x others h =
      holds_if (suc others) (is_some x.released) _ _ (λ e. one_more_holds x others h)
      (λ e. finishes_holds (hand_waiting_tpdus model most_offers x) others (offers_holds most_offers x others h))
