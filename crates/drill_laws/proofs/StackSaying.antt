-- What an event at a stack says of the messages that it sent and accepted, and of its release.
use Rattle.std.proofs.Common.{◌≡◌, ◌⊎◌, inl, inr, ℕ, zero, suc, if◌then◌else◌, true, false, Bool, ◌||◌, List, [], ◌∷◌, ◌++◌, map, length, refl, sym, ap, ap₂, subst, ◌∙◌, append-nil}
use Rattle.hdlc_station_model.specs.Receiving.{is_some_octets}
use Rattle.std.specs.Prelude.{◌&&◌, ◌==◌, not, nat_le, Option, Some, None, is_some, Ok, Err}
use Rattle.std.specs.List.{flat_map, list_any, AllByRecursion}
use Rattle.std.specs.Option.{option_to_list}
use Rattle.std.proofs.lemmas.List.Concat.{flat_map-append}
use Rattle.std.proofs.lemmas.List.Folds.{list_any-append}
use Rattle.er_base.specs.declared.release.Release.{Release}
use Rattle.er_base.specs.declared.cause.Cause.TheVariants.{User, BlockRefused, SetUpTimeSpent}
use Rattle.er_base.specs.Causes.{release_of, by_this_end}
use Rattle.des_block.specs.declared.triple_key.TripleKey.{TripleKey}
use Rattle.hdlc_frames.specs.Framing.{Verdict}
use Rattle.hdlc_station_model.specs.Stations.{Deed as LinkDeed}
use Rattle.hdlc_station_model.specs.Events.{said_octets}
use Rattle.t70_header.specs.Joining as joining
use Rattle.x224_class2.specs.Tpdus.{Dr, Dc}
use Rattle.x224_class2.specs.Transport.{ReceptionDeed, Nothing, Called, Confirmed, Message, Disconnected}
use Rattle.x224_class2.specs.Transport as transport
use Rattle.x224_class2.specs.Refusals.{protocol_error}
use Rattle.sapdu.specs.Spelling.{di_in}
use Rattle.sapdu.specs.Messages.{is_message}
use Rattle.safety_automaton.specs.Safety.{no_keys, Safety, Phase, Connected, SafetyEvent, ConnectRequest, Received, DataRequest, DisconnectRequest, SafetyOutcome, SentAu1, SentAu2, SentAu3, SentAr, ReceivedAr, AcceptedDt, SentDt, ReleasedLocally, ReleasedByPeer, NothingDone, peer_flag, octets_sent_in_outcome, step, sends as sends_side}
use Rattle.safety_automaton.specs.Rules.{StepsOnly, IsStep}
use Rattle.safety_automaton.specs.Reports.{Report, ToldAnswered, ToldConnected, ToldAccepted, ToldReleased, ToldIgnored, report_of}
use Rattle.safety_automaton.specs.Safety as safety
use Rattle.safety_pair_laws.specs.Facts.{Fact, heard_in, facts_by, facts_of}
use Rattle.er_end_model.specs.Outcomes.{RefusedNotConnected, RefusedLength, RefusedFull}
use Rattle.er_end_model.specs.Layers.{Spoken, Core, model}
use Rattle.er_end_model.specs.Steps.{Finds, new_event_at, with_release, hand_tpdu, close_link, send_owed_answer, send_dr, answer_dr, end_after_di, on_safety_release, why_of, with_safety_step, hand_text, accept_text, skip_message, Carrier, InCr, InCc, InDt, hand_answer, keep_message, on_safety_report, on_text, on_transport_deed, on_joined_block, is_ready, connect_with_text, on_link_up, on_link_told, on_link_deed, hand_next_tpdu, has_next_tpdu, hand_waiting_tpdus, most_offers, conclude_event, step_start, step_frame, is_connected, refusal_at, refusal_of, step_send_unless, step_take, step_release, is_spent, di_of, on_expiry, step_tick, normal_disconnect}
use Rattle.drill_model.specs.Outcomes.{DrillOutcome, OfSafety, Released, Frame}
use Rattle.drill_model.specs.StationEnds.{if_released}
use Rattle.drill_model.specs.StackEnds.{facts_told, outcomes_told_by_stack}
use Rattle.drill_model.specs.StackReports.{user_by, user_octets_spoken, ReportsAt}
use Rattle.drill_model.specs.Kinds.{sent_in, accepted_in, released_in, passed_in, is_disorder, is_disturbance}

-- ---- a step of the safety side that sends no message

abbrev pub sent_by_step : SafetyOutcome → List (List ℕ)
sent_by_step (SentDt session user sealed octets) = user ∷ []
sent_by_step _ = []

abbrev pub sent_in_step : Option Spoken → List (List ℕ)
sent_in_step None = []
sent_in_step (Some s) = sent_by_step s.outcome

pub no_send : (key_of : ℕ → ℕ → Option TripleKey) (s : Safety) (event : SafetyEvent) (next : Safety) (o : SafetyOutcome) → ((user : List ℕ) → event ≡ DataRequest user → ⊥)
    → IsStep key_of s event next o → sent_by_step o ≡ []
no_send key_of s event next (SentDt session user sealed octets) other row = absurd (other user row.event_is)
no_send key_of s event next _ other row = refl

-- ---- what is kept within an event

-- the messages of the user and of the peer's user, from these before the event on; what the safety side sent; and the release
pub record Grown (accepted sent : List (List ℕ)) (now_accepted now_sent : List (List ℕ)) (news : Option (List ℕ)) (spoke : Option Spoken) (left released : Option Release) : Type 0 where
  pub accepted_is : now_accepted ≡ accepted ++ option_to_list news
  pub sent_is : now_sent ≡ sent ++ sent_in_step spoke
  pub release_is : left ≡ released

module _ (A S : List (List ℕ)) where
  abbrev Grows : Core → Type 0
  Grows x = Grown A S x.upper.accepted x.upper.sent x.upper.news x.upper.spoke x.leaves x.released

  if_core : (P : Core → Type 0) (b : Bool) (x y : Core) → P x → P y → P (if b then x else y)
  if_core P true x y hx hy = hx
  if_core P false x y hx hy = hy

  ended : (x : Core) (why : Release) → Grows x → Grows (with_release why x)
  ended x why h = record { accepted_is = h.accepted_is; sent_is = h.sent_is; release_is = refl }

  departs_grow : (why : Release) (reason : ℕ) (user : List ℕ) (x : Core) → Grows x → Grows (send_dr model why reason user x)
  departs_grow why reason user x h =
      if_core (λ y. Grows (with_release why (close_link model y))) (model.may_send x.line) (hand_tpdu model (Dr reason user) x) x (ended x why h) (ended x why h)

  cut_off_grows : (why : Release) (x : Core) → Grows x → Grows (answer_dr model why x)
  cut_off_grows why x h = if_core (λ y. Grows (with_release why (send_owed_answer model y))) (model.may_send x.line) (hand_tpdu model Dc x) x (ended x why h) (ended x why h)

  parts_grow : (why : Release) (di : List ℕ) (x : Core) → Grows x → Grows (on_safety_release model why di x)
  parts_grow why di x h = if_core Grows why.by_peer (end_after_di model why x) (send_dr model why normal_disconnect di x) (ended x why h) (departs_grow why normal_disconnect di x h)

  says_grow : (text : List ℕ) (x : Core) → Grows x → Grows (hand_text model text x)
  says_grow text x h = if_core Grows (is_some_octets text && model.may_hand x.upper) (record x { upper = model.hands_message x.upper text }) x h h

  accepts_grow : (text : List ℕ) (x : Core) → Grows x → Grows (accept_text model text x)
  accepts_grow text x h = if_core Grows (is_some_octets text) (record x { upper = model.accepts x.upper text }) x h h

  answers_grow : (carrier : Carrier) (text : List ℕ) (x : Core) → Grows x → Grows (hand_answer model carrier text x)
  answers_grow InCr text x h = accepts_grow text x h
  answers_grow InCc text x h = says_grow text x h
  answers_grow InDt text x h = says_grow text (skip_message model x) h

  keeps_grow : (carrier : Carrier) (user : List ℕ) (x : Core) → x.upper.news ≡ None → Grows x → Grows (keep_message model carrier user x)
  keeps_grow InCr user x none h = h
  keeps_grow InCc user x none h = h
  keeps_grow InDt user x none h = record {
    accepted_is = ap (λ (xs : List (List ℕ)). xs ++ user ∷ []) (h.accepted_is ∙ ap (λ (o : Option (List ℕ)). A ++ option_to_list o) none ∙ append-nil A);
    sent_is = h.sent_is;
    release_is = h.release_is;
  }

  acts_grow : (carrier : Carrier) (report : Report) (octets : List ℕ) (x : Core) → x.upper.news ≡ None → Grows x → Grows (on_safety_report model carrier report octets x)
  acts_grow carrier ToldAnswered octets x none h = answers_grow carrier octets x h
  acts_grow carrier (ToldConnected peer) octets x none h = answers_grow carrier octets x h
  acts_grow carrier (ToldAccepted user) octets x none h = keeps_grow carrier user x none h
  acts_grow carrier (ToldReleased why) octets x none h = parts_grow why octets x h
  acts_grow carrier ToldIgnored octets x none h = h

  offers_grow : (n : ℕ) (x : Core) → Grows x → Grows (hand_waiting_tpdus model n x)
  unfolding hand_waiting_tpdus
  offers_grow zero x h = h
  offers_grow (suc n) x h = if_core Grows (has_next_tpdu model x) (hand_waiting_tpdus model n (hand_next_tpdu model x)) x (offers_grow n (hand_next_tpdu model x) h) h

  concludes_grow : (x : Core) → Grows x → Grows (conclude_event model x)
  concludes_grow x h = if_core Grows (is_some x.released) x (send_owed_answer model (hand_waiting_tpdus model most_offers x)) h (offers_grow most_offers x h)

  -- the side took no step yet, and nothing came
  abbrev Still : Core → Type 0
  Still x = (x.upper.accepted ≡ A) × (x.upper.sent ≡ S) × (x.upper.news ≡ None) × (x.upper.spoke ≡ None) × (x.leaves ≡ x.released)

  still_grows : (x : Core) → Still x → Grows x
  still_grows x h = record {
    accepted_is = h.0 ∙ sym (append-nil A) ∙ ap (λ (o : Option (List ℕ)). A ++ option_to_list o) (sym h.2);
    sent_is = h.1 ∙ sym (append-nil S) ∙ ap (λ (o : Option Spoken). S ++ sent_in_step o) (sym h.3);
    release_is = h.4;
  }

  -- a step of the safety side that sends no message
  stepped : (event : SafetyEvent) (a : Safety × SafetyOutcome) (x : Core) → sent_by_step a.1 ≡ [] → Still x → Grows (with_safety_step model event a x)
  stepped event a x none h = record {
    accepted_is = h.0 ∙ sym (append-nil A) ∙ ap (λ (o : Option (List ℕ)). A ++ option_to_list o) (sym h.2);
    sent_is = h.1 ∙ sym (append-nil S) ∙ ap (λ (xs : List (List ℕ)). S ++ xs) (sym none);
    release_is = h.4;
  }

  module _ (only : StepsOnly) where
    text_grows : (finds : Finds) (carrier : Carrier) (text : List ℕ) (x : Core) → Still x → Grows (on_text model finds carrier text x)
    text_grows finds carrier text x h =
        let key_of : ℕ → ℕ → Option TripleKey = finds x.moment in
        let a : Safety × SafetyOutcome = step key_of x.safe.safety (Received text) in
        let none : sent_by_step a.1 ≡ [] = no_send key_of x.safe.safety (Received text) a.0 a.1 (λ user e. cc) (only key_of x.safe.safety (Received text)) in
        acts_grow carrier (report_of a.1) (octets_sent_in_outcome a.1) (with_safety_step model (Received text) a x) h.2 (stepped (Received text) a x none h)

    does_grow : (finds : Finds) (deed : ReceptionDeed) (x : Core) → Still x → Grows (on_transport_deed model finds deed x)
    does_grow finds Nothing x h = still_grows x h
    does_grow finds (Called user) x h = text_grows finds InCr user x h
    does_grow finds (Confirmed user) x h = text_grows finds InCc user x h
    does_grow finds (Message message) x h = text_grows finds InDt message x h
    does_grow finds (Disconnected user) x h = cut_off_grows (why_of (di_in user (peer_flag x.safe.safety))) x (still_grows x h)
    does_grow finds (transport.Refused sub reason) x h = departs_grow (by_this_end 2 sub) reason [] x (still_grows x h)

    block_grows : (finds : Finds) (answer : joining.BlockJoiningResult) (x : Core) → Still x → Grows (on_joined_block model finds answer x)
    block_grows finds (Ok None) x h = still_grows x h
    block_grows finds (Ok (Some tpdu)) x h = does_grow finds (model.deed x.upper tpdu) (record x { upper = model.hears x.upper tpdu }) h
    block_grows finds (Err fault) x h = departs_grow (release_of BlockRefused) protocol_error [] x (still_grows x h)

    comes_up_grows : (x : Core) → Still x → Grows (on_link_up model x)
    comes_up_grows x h =
        let a : Safety × SafetyOutcome = step no_keys x.safe.safety ConnectRequest in
        let y : Core = with_safety_step model ConnectRequest a x in
        let none : sent_by_step a.1 ≡ [] = no_send no_keys x.safe.safety ConnectRequest a.0 a.1 (λ user e. cc) (only no_keys x.safe.safety ConnectRequest) in
        let now : Grows y = stepped ConnectRequest a x none h in
        if_core Grows (model.may_connect x.upper && is_ready x.safe.safety.phase) (connect_with_text model (octets_sent_in_outcome a.1) y) x
        (if_core Grows (is_some_octets (octets_sent_in_outcome a.1)) (record y { upper = model.connects y.upper (octets_sent_in_outcome a.1) }) y now now) (still_grows x h)

    link_grows : (finds : Finds) (payload : Option (List ℕ)) (up : Bool) (why : Option Release) (x : Core) → Still x → Grows (on_link_told model finds payload up why x)
    link_grows finds (Some payload) up why x h = block_grows finds (joining.block_step x.joined payload).1 (record x { joined = (joining.block_step x.joined payload).0 }) h
    link_grows finds None true why x h = comes_up_grows x h
    link_grows finds None false (Some why) x h = ended x why (still_grows x h)
    link_grows finds None false None x h = still_grows x h

  time_grows : (why : Option Release) (x : Core) → Grows x → Grows (on_expiry model why x)
  time_grows (Some why) x h = ended x why h
  time_grows None x h =
      let why : Release = release_of SetUpTimeSpent in
      if_core Grows (is_spent x) (send_dr model why normal_disconnect (di_of why x.safe.safety) x) x (departs_grow why normal_disconnect (di_of why x.safe.safety) x h) h

-- ---- the events

-- a released end does nothing
pub record Rests (before x : Core) : Type 0 where
  pub accepted_is : x.upper.accepted ≡ before.upper.accepted
  pub sent_is : x.upper.sent ≡ before.upper.sent
  pub news_is : x.upper.news ≡ None
  pub spoke_is : x.upper.spoke ≡ None
  pub left_is : x.leaves ≡ None
  pub released_is : x.released ≡ before.released

-- from this core to that one: a live end went on so, or a released one rests
abbrev pub Went : Core → Core → Type 0
Went before x = ((before.released ≡ None) × Grows before.upper.accepted before.upper.sent x) ⊎ Rests before x

unless_released : (P : Core → Type 0) (o : Option Release) (x y : Core) → (o ≡ None → P y) → ((why : Release) → o ≡ Some why → P x) → P (if is_some o then x else y)
unless_released P None x y hy hx = hy refl
unless_released P (Some why) x y hy hx = hx why refl

rested : (now : ℕ) (x : Core) → Rests x (new_event_at model now x)
rested now x = record { accepted_is = refl; sent_is = refl; news_is = refl; spoke_is = refl; left_is = refl; released_is = refl }

begun_still : (now : ℕ) (x : Core) → x.released ≡ None → Still x.upper.accepted x.upper.sent (new_event_at model now x)
begun_still now x live = (refl, refl, refl, refl, sym live)

pub starts_went : (now : ℕ) (x : Core) → Went x (step_start model now x)
starts_went now x =
    let y : Core = new_event_at model now x in
    let z : Core = record y { line = model.starts y.moment y.line } in
    unless_released (Went x) y.released y (conclude_event model z)
    (λ live. inl (live, concludes_grow x.upper.accepted x.upper.sent z (still_grows x.upper.accepted x.upper.sent z (begun_still now x live)))) (λ why is. inr (rested now x))

pub comes_went : StepsOnly → (finds : Finds) (now : ℕ) (verdict : Verdict) (x : Core) → Went x (step_frame model finds now verdict x)
comes_went only finds now verdict x =
    let y : Core = new_event_at model now x in
    let z : Core = record y { line = model.receives y.moment verdict y.line } in
    let deed : LinkDeed = model.told y.moment verdict y.line in
    let A : List (List ℕ) = x.upper.accepted in
    let S : List (List ℕ) = x.upper.sent in
    unless_released (Went x) y.released y (conclude_event model (on_link_deed model finds deed z))
    (λ live. inl (live, concludes_grow A S (on_link_deed model finds deed z) (link_grows A S only finds deed.payload deed.up deed.released z (begun_still now x live))))
    (λ why is. inr (rested now x))

pub leaves_went : StepsOnly → (now sub : ℕ) (x : Core) → Went x (step_release model now sub x)
leaves_went only now sub x =
    let y : Core = new_event_at model now x in
    let a : Safety × SafetyOutcome = step no_keys y.safe.safety (DisconnectRequest sub) in
    let z : Core = with_safety_step model (DisconnectRequest sub) a y in
    let A : List (List ℕ) = x.upper.accepted in
    let S : List (List ℕ) = x.upper.sent in
    let none : sent_by_step a.1 ≡ [] = no_send no_keys y.safe.safety (DisconnectRequest sub) a.0 a.1 (λ user e. cc) (only no_keys y.safe.safety (DisconnectRequest sub)) in
    unless_released (Went x) y.released y (send_dr model (release_of (User sub)) normal_disconnect (octets_sent_in_outcome a.1) z)
    (λ live. inl (live, departs_grow A S (release_of (User sub)) normal_disconnect (octets_sent_in_outcome a.1) z (stepped A S (DisconnectRequest sub) a y none (begun_still now x live))))
    (λ why is. inr (rested now x))

pub ticks_went : (now : ℕ) (x : Core) → Went x (step_tick model now x)
ticks_went now x =
    let y : Core = new_event_at model now x in
    let z : Core = record y { line = model.ticks y.moment y.line } in
    let why : Option Release = model.given_up y.moment y.line in
    let A : List (List ℕ) = x.upper.accepted in
    let S : List (List ℕ) = x.upper.sent in
    unless_released (Went x) y.released y (conclude_event model (on_expiry model why z))
    (λ live. inl (live, concludes_grow A S (on_expiry model why z) (time_grows A S why z (still_grows A S z (begun_still now x live))))) (λ why is. inr (rested now x))

-- a take changes nothing of these
module _ (before : Core) where
  rests_if : (b : Bool) (x y : Core) → Rests before x → Rests before y → Rests before (if b then x else y)
  rests_if true x y hx hy = hx
  rests_if false x y hx hy = hy

  same_rests : (x y : Core) → y.upper.accepted ≡ x.upper.accepted → y.upper.sent ≡ x.upper.sent → y.upper.news ≡ x.upper.news → y.upper.spoke ≡ x.upper.spoke
      → y.leaves ≡ x.leaves → y.released ≡ x.released → Rests before x → Rests before y
  same_rests x y a s n p l r h = record {
    accepted_is = a ∙ h.accepted_is;
    sent_is = s ∙ h.sent_is;
    news_is = n ∙ h.news_is;
    spoke_is = p ∙ h.spoke_is;
    left_is = l ∙ h.left_is;
    released_is = r ∙ h.released_is;
  }

  offers_rest : (n : ℕ) (x : Core) → Rests before x → Rests before (hand_waiting_tpdus model n x)
  unfolding hand_waiting_tpdus
  offers_rest zero x h = h
  offers_rest (suc n) x h =
      rests_if (has_next_tpdu model x) (hand_waiting_tpdus model n (hand_next_tpdu model x)) x (offers_rest n (hand_next_tpdu model x) (same_rests x (hand_next_tpdu model x) refl refl refl refl refl refl h)) h

  concludes_rest : (x : Core) → Rests before x → Rests before (conclude_event model x)
  concludes_rest x h =
      let y : Core = hand_waiting_tpdus model most_offers x in
      rests_if (is_some x.released) x (send_owed_answer model y) h (same_rests y (send_owed_answer model y) refl refl refl refl refl refl (offers_rest most_offers x h))

pub uses_went : (now : ℕ) (x : Core) → Went x (step_take model now x)
uses_went now x =
    let y : Core = new_event_at model now x in
    let z : Core = record y { upper = model.uses y.upper } in
    let h : Rests x z = record { accepted_is = refl; sent_is = refl; news_is = refl; spoke_is = refl; left_is = refl; released_is = refl } in
    inr (rests_if x (model.untaken y.upper == 0) y (conclude_event model z) (rested now x) (concludes_rest x z h))

-- ---- a send that isn't refused

by_tests : (c m w : Bool) (length waiting : ℕ)
    → (if not c then Some RefusedNotConnected else if not m then Some (RefusedLength length) else if w then Some (RefusedFull waiting) else None) ≡ None
    → (c ≡ true) × (m ≡ true)
by_tests true true w n waiting none = (refl, refl)
by_tests true false w n waiting none = absurd (cc)
by_tests false m w n waiting none = absurd (cc)

pub unrefused : (released : Option Release) (connected : Bool) (user : List ℕ) (waiting : ℕ) → refusal_at released connected user waiting ≡ None
    → (released ≡ None) × ((connected ≡ true) × (is_message user ≡ true))
unrefused (Some why) connected user waiting none = absurd (cc)
unrefused None connected user waiting none = (refl, by_tests connected (is_message user) (nat_le 16 waiting) (length user) waiting none)

pub send_step : (s : Safety) (phase : Phase) (user : List ℕ) → is_connected phase ≡ true → is_message user ≡ true → sent_by_step (sends_side s phase user).1 ≡ user ∷ []
send_step s (Connected peer session) user connected message = rw message refl
send_step s _ user connected message = absurd (cc)

pub sends_went : (now : ℕ) (user : List ℕ) (x : Core) → refusal_of model user x ≡ None → Went x (step_send_unless model None now user x)
sends_went now user x none =
    let on_safety_release = unrefused x.released (is_connected x.safe.safety.phase) user (model.waiting x.upper) none in
    let y : Core = new_event_at model now x in
    let a : Safety × SafetyOutcome = step no_keys y.safe.safety (DataRequest user) in
    let z : Core = record (with_safety_step model (DataRequest user) a y) { upper = model.sends (with_safety_step model (DataRequest user) a y).upper user } in
    let A : List (List ℕ) = x.upper.accepted in
    let S : List (List ℕ) = x.upper.sent in
    let step_sent : sent_by_step a.1 ≡ user ∷ [] = send_step y.safe.safety y.safe.safety.phase user on_safety_release.1.0 on_safety_release.1.1 in
    let h : Grows A S z = record {
      accepted_is = sym (append-nil A);
      sent_is = ap (λ (xs : List (List ℕ)). S ++ xs) (sym step_sent);
      release_is = sym on_safety_release.0;
    } in
    inl (on_safety_release.0, concludes_grow A S (hand_text model (octets_sent_in_outcome a.1) z) (says_grow A S (octets_sent_in_outcome a.1) z h))

-- ---- what a call tells

frames_none : {A : Type 0} (f : DrillOutcome → List A) → ((octets : List ℕ) → f (Frame octets) ≡ []) → (frames : List (List ℕ)) → flat_map f (map Frame frames) ≡ []
frames_none f none [] = refl
frames_none {A} f none (x ∷ xs) = ap₂ (λ (a b : List A). a ++ b) (none x) (frames_none f none xs)

-- a word that says nothing of frames, and this of the release
rest_says : {A : Type 0} (f : DrillOutcome → List A) → ((octets : List ℕ) → f (Frame octets) ≡ []) → (released : Option Release) (frames : List (List ℕ))
    → flat_map f (if_released released ++ map Frame frames) ≡ flat_map f (if_released released)
rest_says f none None frames = frames_none f none frames
rest_says {A} f none (Some r) frames = ap (λ (xs : List A). f (Released r) ++ xs) (frames_none f none frames)

told_says : {A : Type 0} (f : DrillOutcome → List A) → ((octets : List ℕ) → f (Frame octets) ≡ []) → (x : Core)
    → flat_map f (outcomes_told_by_stack x) ≡ flat_map f (facts_told x.upper.spoke) ++ flat_map f (if_released x.leaves)
told_says {A} f none x =
    flat_map-append f (facts_told x.upper.spoke) (if_released x.leaves ++ map Frame (said_octets x.line))
    ∙ ap (λ (xs : List A). flat_map f (facts_told x.upper.spoke) ++ xs) (rest_says f none x.leaves (said_octets x.line))

step_sent_is : (heard : List ℕ) (o : SafetyOutcome) → flat_map sent_in (map OfSafety (facts_by heard o)) ≡ sent_by_step o
step_sent_is heard (SentAu1 octets) = refl
step_sent_is heard (SentAu2 session sealed octets) = refl
step_sent_is heard (SentAu3 session verified sealed octets) = refl
step_sent_is heard (SentAr connection verified sealed octets) = refl
step_sent_is heard (ReceivedAr connection verified) = refl
step_sent_is heard (AcceptedDt session user verified) = refl
step_sent_is heard (SentDt session user sealed octets) = refl
step_sent_is heard (safety.Refused refusal) = refl
step_sent_is heard (ReleasedLocally release octets) = refl
step_sent_is heard (ReleasedByPeer release) = refl
step_sent_is heard NothingDone = refl

step_accepted_is : (heard : List ℕ) (o : SafetyOutcome) → flat_map accepted_in (map OfSafety (facts_by heard o)) ≡ option_to_list (user_by o)
step_accepted_is heard (SentAu1 octets) = refl
step_accepted_is heard (SentAu2 session sealed octets) = refl
step_accepted_is heard (SentAu3 session verified sealed octets) = refl
step_accepted_is heard (SentAr connection verified sealed octets) = refl
step_accepted_is heard (ReceivedAr connection verified) = refl
step_accepted_is heard (AcceptedDt session user verified) = refl
step_accepted_is heard (SentDt session user sealed octets) = refl
step_accepted_is heard (safety.Refused refusal) = refl
step_accepted_is heard (ReleasedLocally release octets) = refl
step_accepted_is heard (ReleasedByPeer release) = refl
step_accepted_is heard NothingDone = refl

facts_none : {A : Type 0} (f : DrillOutcome → List A) → ((fact : Fact) → f (OfSafety fact) ≡ []) → (fs : List Fact) → flat_map f (map OfSafety fs) ≡ []
facts_none f none [] = refl
facts_none {A} f none (x ∷ xs) = ap₂ (λ (a b : List A). a ++ b) (none x) (facts_none f none xs)

sent_told : (spoke : Option Spoken) → flat_map sent_in (facts_told spoke) ≡ sent_in_step spoke
sent_told None = refl
sent_told (Some s) = step_sent_is (heard_in s.event) s.outcome

accepted_told : (spoke : Option Spoken) → flat_map accepted_in (facts_told spoke) ≡ option_to_list (user_octets_spoken spoke)
accepted_told None = refl
accepted_told (Some s) = step_accepted_is (heard_in s.event) s.outcome

pub spoke_none : {A : Type 0} (f : DrillOutcome → List A) → ((fact : Fact) → f (OfSafety fact) ≡ []) → (spoke : Option Spoken) → flat_map f (facts_told spoke) ≡ []
spoke_none f none None = refl
spoke_none f none (Some s) = facts_none f none (facts_of s.event s.outcome)

no_release_sent : (r : Option Release) → flat_map sent_in (if_released r) ≡ []
no_release_sent None = refl
no_release_sent (Some why) = refl

no_release_accepted : (r : Option Release) → flat_map accepted_in (if_released r) ≡ []
no_release_accepted None = refl
no_release_accepted (Some why) = refl

no_release_passed : (r : Option Release) → flat_map passed_in (if_released r) ≡ []
no_release_passed None = refl
no_release_passed (Some why) = refl

releases_told : (r : Option Release) → flat_map released_in (if_released r) ≡ option_to_list r
releases_told None = refl
releases_told (Some why) = refl

-- no call tells of disorder or disturbance
all_false : (f : DrillOutcome → Bool) → ((fact : Fact) → f (OfSafety fact) ≡ false) → ((r : Release) → f (Released r) ≡ false) → ((octets : List ℕ) → f (Frame octets) ≡ false)
    → (x : Core) → list_any f (outcomes_told_by_stack x) ≡ false
all_false f facts release frame x =
    list_any-append f (facts_told x.upper.spoke) (if_released x.leaves ++ map Frame (said_octets x.line))
    ∙ ap₂ (λ (a b : Bool). a || b) (of_spoke x.upper.spoke) (list_any-append f (if_released x.leaves) (map Frame (said_octets x.line)) ∙ ap₂ (λ (a b : Bool). a || b) (of_release x.leaves) (of_frames (said_octets x.line)))
  where
    of_facts : (fs : List Fact) → list_any f (map OfSafety fs) ≡ false
    of_facts [] = refl
    of_facts (y ∷ ys) = ap₂ (λ (a b : Bool). a || b) (facts y) (of_facts ys)

    of_spoke : (spoke : Option Spoken) → list_any f (facts_told spoke) ≡ false
    of_spoke None = refl
    of_spoke (Some s) = of_facts (facts_of s.event s.outcome)

    of_release : (r : Option Release) → list_any f (if_released r) ≡ false
    of_release None = refl
    of_release (Some why) = ap₂ (λ (a b : Bool). a || b) (release why) refl

    of_frames : (frames : List (List ℕ)) → list_any f (map Frame frames) ≡ false
    of_frames [] = refl
    of_frames (y ∷ ys) = ap₂ (λ (a b : Bool). a || b) (frame y) (of_frames ys)

-- what outcomes say, of a core before and a core after
pub record Says (before after : Core) (os : List DrillOutcome) (late : Bool) : Type 0 where
  pub sent_is : after.upper.sent ≡ before.upper.sent ++ flat_map sent_in os
  pub accepted_is : after.upper.accepted ≡ before.upper.accepted ++ flat_map accepted_in os
  pub releases : AllByRecursion (λ r. after.released ≡ Some r) (flat_map released_in os)
  pub stays : (r : Release) → before.released ≡ Some r → after.released ≡ Some r
  pub disorder_is : list_any is_disorder os ≡ false
  pub disturbed_is : list_any is_disturbance os ≡ late
  pub passes_are : flat_map passed_in os ≡ []

all_left : (left released : Option Release) → left ≡ released → AllByRecursion (λ r. released ≡ Some r) (option_to_list left)
all_left None released is = tt
all_left (Some r) released is = (sym is, tt)

pub call_sent : (x : Core) → flat_map sent_in (outcomes_told_by_stack x) ≡ sent_in_step x.upper.spoke
call_sent x =
    told_says sent_in (λ octets. refl) x ∙ ap₂ (λ (a b : List (List ℕ)). a ++ b) (sent_told x.upper.spoke) (no_release_sent x.leaves) ∙ append-nil (sent_in_step x.upper.spoke)

pub call_accepted : (x : Core) → flat_map accepted_in (outcomes_told_by_stack x) ≡ option_to_list (user_octets_spoken x.upper.spoke)
call_accepted x =
    told_says accepted_in (λ octets. refl) x ∙ ap₂ (λ (a b : List (List ℕ)). a ++ b) (accepted_told x.upper.spoke) (no_release_accepted x.leaves)
    ∙ append-nil (option_to_list (user_octets_spoken x.upper.spoke))

call_releases : (x : Core) → flat_map released_in (outcomes_told_by_stack x) ≡ option_to_list x.leaves
call_releases x =
    told_says released_in (λ octets. refl) x ∙ ap₂ (λ (a b : List Release). a ++ b) (spoke_none released_in (λ fact. refl) x.upper.spoke) (releases_told x.leaves)

call_passes : (x : Core) → flat_map passed_in (outcomes_told_by_stack x) ≡ []
call_passes x =
    told_says passed_in (λ octets. refl) x ∙ ap₂ (λ (a b : List (List ℕ)). a ++ b) (spoke_none passed_in (λ fact. refl) x.upper.spoke) (no_release_passed x.leaves)

pub call_says : (before x : Core) → Went before x → ReportsAt x → Says before x (outcomes_told_by_stack x) false
call_says before x (inl went) r =
    let h = went.1 in
    record {
      sent_is = h.sent_is ∙ ap (λ (ys : List (List ℕ)). before.upper.sent ++ ys) (sym (call_sent x));
      accepted_is = h.accepted_is
          ∙ ap (λ (o : Option (List ℕ)). before.upper.accepted ++ option_to_list o) r.accepted_is
          ∙ ap (λ (ys : List (List ℕ)). before.upper.accepted ++ ys) (sym (call_accepted x));
      releases = subst (λ (rs : List Release). AllByRecursion (λ (y : Release). x.released ≡ Some y) rs) (sym (call_releases x)) (all_left x.leaves x.released h.release_is);
      stays = λ y is. absurd (clash before.released y went.0 is);
      disorder_is = all_false is_disorder (λ fact. refl) (λ y. refl) (λ octets. refl) x;
      disturbed_is = all_false is_disturbance (λ fact. refl) (λ y. refl) (λ octets. refl) x;
      passes_are = call_passes x;
    }
  where
    clash : (o : Option Release) (y : Release) → o ≡ None → o ≡ Some y → ⊥
    clash o y none some = cc
call_says before x (inr h) r =
    record {
      sent_is = h.sent_is ∙ sym (append-nil before.upper.sent)
          ∙ ap (λ (ys : List (List ℕ)). before.upper.sent ++ ys) (sym (call_sent x ∙ ap sent_in_step h.spoke_is));
      accepted_is = h.accepted_is ∙ sym (append-nil before.upper.accepted)
          ∙ ap (λ (ys : List (List ℕ)). before.upper.accepted ++ ys) (sym (call_accepted x ∙ ap (λ (o : Option Spoken). option_to_list (user_octets_spoken o)) h.spoke_is));
      releases = subst (λ (rs : List Release). AllByRecursion (λ (y : Release). x.released ≡ Some y) rs) (sym (call_releases x ∙ ap (λ (o : Option Release). option_to_list o) h.left_is)) tt;
      stays = λ y is. h.released_is ∙ is;
      disorder_is = all_false is_disorder (λ fact. refl) (λ y. refl) (λ octets. refl) x;
      disturbed_is = all_false is_disturbance (λ fact. refl) (λ y. refl) (λ octets. refl) x;
      passes_are = call_passes x;
    }
