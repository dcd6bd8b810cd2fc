-- A stack sees the moment of each call, and keeps it; and how it looks KMACs up matters at that moment alone.
use Rattle.std.proofs.Common.{◌≡◌, ℕ, zero, suc, ◌≤◌, if◌then◌else◌, true, false, Bool, List, [], refl, ap, arith}
use Rattle.hdlc_station_model.specs.Receiving.{is_some_octets}
use Rattle.std.specs.Prelude.{◌&&◌, ◌==◌, max, Option, Some, None, is_some, Ok, Err}
use Rattle.er_base.specs.declared.release.Release.{Release}
use Rattle.er_base.specs.declared.cause.Cause.TheVariants.{User, BlockRefused, SetUpTimeSpent}
use Rattle.er_base.specs.Causes.{release_of, by_this_end}
use Rattle.des_block.specs.declared.triple_key.TripleKey.{TripleKey}
use Rattle.hdlc_frames.specs.Framing.{Verdict}
use Rattle.hdlc_station_model.specs.Stations.{Deed as LinkDeed}
use Rattle.t70_header.specs.Joining as joining
use Rattle.x224_class2.specs.Tpdus.{Dr, Dc}
use Rattle.x224_class2.specs.Transport.{ReceptionDeed, Nothing, Called, Confirmed, Message, Disconnected}
use Rattle.x224_class2.specs.Transport as transport
use Rattle.x224_class2.specs.Refusals.{protocol_error}
use Rattle.sapdu.specs.Spelling.{di_in}
use Rattle.safety_automaton.specs.Safety.{no_keys, Safety, ConnectRequest, Received, DataRequest, DisconnectRequest, SafetyOutcome, peer_flag, octets_sent_in_outcome, step}
use Rattle.safety_automaton.specs.Reports.{Report, ToldAnswered, ToldConnected, ToldAccepted, ToldReleased, ToldIgnored, report_of}
use Rattle.er_end_model.specs.Layers.{Core, model}
use Rattle.er_end_model.specs.Steps.{Finds, new_event, new_event_at, with_release, hand_tpdu, close_link, send_owed_answer, send_dr, answer_dr, end_after_di, on_safety_release, why_of, with_safety_step, hand_text, accept_text, skip_message, Carrier, InCr, InCc, InDt, hand_answer, keep_message, on_safety_report, on_text, on_transport_deed, on_joined_block, is_ready, connect_with_text, on_link_up, on_link_told, on_link_deed, hand_next_tpdu, has_next_tpdu, hand_waiting_tpdus, most_offers, conclude_event, step_start, step_frame, step_send_unless, step_take, step_release, is_spent, di_of, on_expiry, step_tick, normal_disconnect}

-- ---- the moment

module _ (M : ℕ) where
  -- a core that sees this moment
  abbrev At : Core → Type 0
  At x = x.moment ≡ M

  if_core : (P : Core → Type 0) (b : Bool) (x y : Core) → P x → P y → P (if b then x else y)
  if_core P true x y hx hy = hx
  if_core P false x y hx hy = hy

  departs_see : (why : Release) (reason : ℕ) (user : List ℕ) (x : Core) → At x → At (send_dr model why reason user x)
  departs_see why reason user x h = if_core (λ y. At (with_release why (close_link model y))) (model.may_send x.line) (hand_tpdu model (Dr reason user) x) x h h

  cut_off_sees : (why : Release) (x : Core) → At x → At (answer_dr model why x)
  cut_off_sees why x h = if_core (λ y. At (with_release why (send_owed_answer model y))) (model.may_send x.line) (hand_tpdu model Dc x) x h h

  parts_see : (why : Release) (di : List ℕ) (x : Core) → At x → At (on_safety_release model why di x)
  parts_see why di x h = if_core At why.by_peer (end_after_di model why x) (send_dr model why normal_disconnect di x) h (departs_see why normal_disconnect di x h)

  says_see : (text : List ℕ) (x : Core) → At x → At (hand_text model text x)
  says_see text x h = if_core At (is_some_octets text && model.may_hand x.upper) (record x { upper = model.hands_message x.upper text }) x h h

  accepts_see : (text : List ℕ) (x : Core) → At x → At (accept_text model text x)
  accepts_see text x h = if_core At (is_some_octets text) (record x { upper = model.accepts x.upper text }) x h h

  answers_see : (carrier : Carrier) (text : List ℕ) (x : Core) → At x → At (hand_answer model carrier text x)
  answers_see InCr text x h = accepts_see text x h
  answers_see InCc text x h = says_see text x h
  answers_see InDt text x h = says_see text (skip_message model x) h

  keeps_see : (carrier : Carrier) (user : List ℕ) (x : Core) → At x → At (keep_message model carrier user x)
  keeps_see InCr user x h = h
  keeps_see InCc user x h = h
  keeps_see InDt user x h = h

  acts_see : (carrier : Carrier) (report : Report) (octets : List ℕ) (x : Core) → At x → At (on_safety_report model carrier report octets x)
  acts_see carrier ToldAnswered octets x h = answers_see carrier octets x h
  acts_see carrier (ToldConnected peer) octets x h = answers_see carrier octets x h
  acts_see carrier (ToldAccepted user) octets x h = keeps_see carrier user x h
  acts_see carrier (ToldReleased why) octets x h = parts_see why octets x h
  acts_see carrier ToldIgnored octets x h = h

  text_sees : (finds : Finds) (carrier : Carrier) (text : List ℕ) (x : Core) → At x → At (on_text model finds carrier text x)
  text_sees finds carrier text x h =
      let a : Safety × SafetyOutcome = step (finds x.moment) x.safe.safety (Received text) in
      acts_see carrier (report_of a.1) (octets_sent_in_outcome a.1) (with_safety_step model (Received text) a x) h

  does_see : (finds : Finds) (deed : ReceptionDeed) (x : Core) → At x → At (on_transport_deed model finds deed x)
  does_see finds Nothing x h = h
  does_see finds (Called user) x h = text_sees finds InCr user x h
  does_see finds (Confirmed user) x h = text_sees finds InCc user x h
  does_see finds (Message message) x h = text_sees finds InDt message x h
  does_see finds (Disconnected user) x h = cut_off_sees (why_of (di_in user (peer_flag x.safe.safety))) x h
  does_see finds (transport.Refused sub reason) x h = departs_see (by_this_end 2 sub) reason [] x h

  block_sees : (finds : Finds) (answer : joining.BlockJoiningResult) (x : Core) → At x → At (on_joined_block model finds answer x)
  block_sees finds (Ok None) x h = h
  block_sees finds (Ok (Some tpdu)) x h = does_see finds (model.deed x.upper tpdu) (record x { upper = model.hears x.upper tpdu }) h
  block_sees finds (Err fault) x h = departs_see (release_of BlockRefused) protocol_error [] x h

  comes_up_sees : (x : Core) → At x → At (on_link_up model x)
  comes_up_sees x h =
      let a : Safety × SafetyOutcome = step no_keys x.safe.safety ConnectRequest in
      let y : Core = with_safety_step model ConnectRequest a x in
      if_core At (model.may_connect x.upper && is_ready x.safe.safety.phase) (connect_with_text model (octets_sent_in_outcome a.1) y) x
      (if_core At (is_some_octets (octets_sent_in_outcome a.1)) (record y { upper = model.connects y.upper (octets_sent_in_outcome a.1) }) y h h) h

  link_sees : (finds : Finds) (payload : Option (List ℕ)) (up : Bool) (released : Option Release) (x : Core) → At x → At (on_link_told model finds payload up released x)
  link_sees finds (Some payload) up released x h = block_sees finds (joining.block_step x.joined payload).1 (record x { joined = (joining.block_step x.joined payload).0 }) h
  link_sees finds None true released x h = comes_up_sees x h
  link_sees finds None false (Some why) x h = h
  link_sees finds None false None x h = h

  offers_see : (n : ℕ) (x : Core) → At x → At (hand_waiting_tpdus model n x)
  unfolding hand_waiting_tpdus
  offers_see zero x h = h
  offers_see (suc n) x h = if_core At (has_next_tpdu model x) (hand_waiting_tpdus model n (hand_next_tpdu model x)) x (offers_see n (hand_next_tpdu model x) h) h

  concludes_see : (x : Core) → At x → At (conclude_event model x)
  concludes_see x h = if_core At (is_some x.released) x (send_owed_answer model (hand_waiting_tpdus model most_offers x)) h (offers_see most_offers x h)

  time_sees : (why : Option Release) (x : Core) → At x → At (on_expiry model why x)
  time_sees (Some why) x h = h
  time_sees None x h =
      let why : Release = release_of SetUpTimeSpent in
      if_core At (is_spent x) (send_dr model why normal_disconnect (di_of why x.safe.safety) x) x (departs_see why normal_disconnect (di_of why x.safe.safety) x h) h

-- each call sees the later of its moment and the last one
pub starts_see : (now : ℕ) (x : Core) → (step_start model now x).moment ≡ max x.moment now
starts_see now x =
    let M : ℕ = max x.moment now in
    let y : Core = new_event_at model now x in
    let z : Core = record y { line = model.starts y.moment y.line } in
    if_core M (At M) (is_some y.released) y (conclude_event model z) refl (concludes_see M z refl)

pub comes_see : (finds : Finds) (now : ℕ) (verdict : Verdict) (x : Core) → (step_frame model finds now verdict x).moment ≡ max x.moment now
comes_see finds now verdict x =
    let M : ℕ = max x.moment now in
    let y : Core = new_event_at model now x in
    let z : Core = record y { line = model.receives y.moment verdict y.line } in
    let deed : LinkDeed = model.told y.moment verdict y.line in
    if_core M (At M) (is_some y.released) y (conclude_event model (on_link_deed model finds deed z)) refl
    (concludes_see M (on_link_deed model finds deed z) (link_sees M finds deed.payload deed.up deed.released z refl))

pub sends_see : (now : ℕ) (user : List ℕ) (x : Core) → (step_send_unless model None now user x).moment ≡ max x.moment now
sends_see now user x =
    let M : ℕ = max x.moment now in
    let y : Core = new_event_at model now x in
    let a : Safety × SafetyOutcome = step no_keys y.safe.safety (DataRequest user) in
    let z : Core = with_safety_step model (DataRequest user) a y in
    let w : Core = record z { upper = model.sends z.upper user } in
    concludes_see M (hand_text model (octets_sent_in_outcome a.1) w) (says_see M (octets_sent_in_outcome a.1) w refl)

pub uses_see : (now : ℕ) (x : Core) → (step_take model now x).moment ≡ max x.moment now
uses_see now x =
    let M : ℕ = max x.moment now in
    let y : Core = new_event_at model now x in
    let z : Core = record y { upper = model.uses y.upper } in
    if_core M (At M) (model.untaken y.upper == 0) y (conclude_event model z) refl (concludes_see M z refl)

pub leaves_see : (now sub : ℕ) (x : Core) → (step_release model now sub x).moment ≡ max x.moment now
leaves_see now sub x =
    let M : ℕ = max x.moment now in
    let y : Core = new_event_at model now x in
    let a : Safety × SafetyOutcome = step no_keys y.safe.safety (DisconnectRequest sub) in
    let z : Core = with_safety_step model (DisconnectRequest sub) a y in
    if_core M (At M) (is_some y.released) y (send_dr model (release_of (User sub)) normal_disconnect (octets_sent_in_outcome a.1) z) refl
    (departs_see M (release_of (User sub)) normal_disconnect (octets_sent_in_outcome a.1) z refl)

pub ticks_see : (now : ℕ) (x : Core) → (step_tick model now x).moment ≡ max x.moment now
ticks_see now x =
    let M : ℕ = max x.moment now in
    let y : Core = new_event_at model now x in
    let z : Core = record y { line = model.ticks y.moment y.line } in
    let why : Option Release = model.given_up y.moment y.line in
    if_core M (At M) (is_some y.released) y (conclude_event model (on_expiry model why z)) refl (concludes_see M (on_expiry model why z) (time_sees M why z refl))

-- ---- how KMACs are looked up

module _ (f g : Finds) where
  text_alike : (carrier : Carrier) (text : List ℕ) (x : Core) → f x.moment ≡ g x.moment → on_text model f carrier text x ≡ on_text model g carrier text x
  text_alike carrier text x same =
      ap (λ (key_of : ℕ → ℕ → Option TripleKey).
      let a = step key_of x.safe.safety (Received text) in on_safety_report model carrier (report_of a.1) (octets_sent_in_outcome a.1) (with_safety_step model (Received text) a x)) same

  does_alike : (deed : ReceptionDeed) (x : Core) → f x.moment ≡ g x.moment → on_transport_deed model f deed x ≡ on_transport_deed model g deed x
  does_alike Nothing x same = refl
  does_alike (Called user) x same = text_alike InCr user x same
  does_alike (Confirmed user) x same = text_alike InCc user x same
  does_alike (Message message) x same = text_alike InDt message x same
  does_alike (Disconnected user) x same = refl
  does_alike (transport.Refused sub reason) x same = refl

  block_alike : (answer : joining.BlockJoiningResult) (x : Core) → f x.moment ≡ g x.moment → on_joined_block model f answer x ≡ on_joined_block model g answer x
  block_alike (Ok None) x same = refl
  block_alike (Ok (Some tpdu)) x same = does_alike (model.deed x.upper tpdu) (record x { upper = model.hears x.upper tpdu }) same
  block_alike (Err fault) x same = refl

  link_alike : (payload : Option (List ℕ)) (up : Bool) (released : Option Release) (x : Core) → f x.moment ≡ g x.moment
      → on_link_told model f payload up released x ≡ on_link_told model g payload up released x
  link_alike (Some payload) up released x same = block_alike (joining.block_step x.joined payload).1 (record x { joined = (joining.block_step x.joined payload).0 }) same
  link_alike None true released x same = refl
  link_alike None false (Some why) x same = refl
  link_alike None false None x same = refl

  pub comes_alike : (now : ℕ) (verdict : Verdict) (x : Core) → f (max x.moment now) ≡ g (max x.moment now) → step_frame model f now verdict x ≡ step_frame model g now verdict x
  comes_alike now verdict x same =
      let y : Core = new_event_at model now x in
      let z : Core = record y { line = model.receives y.moment verdict y.line } in
      let deed : LinkDeed = model.told y.moment verdict y.line in
      ap (λ (w : Core). if is_some y.released then y else conclude_event model w) (link_alike deed.payload deed.up deed.released z same)

-- ---- where an event begins

pub later_once : (m now : ℕ) → max (max m now) now ≡ max m now
later_once m now = omega arith

-- what was told before makes no difference
pub same_begun : (now : ℕ) (x y : Core) → new_event model x ≡ new_event model y → new_event_at model now x ≡ new_event_at model now y
same_begun now x y same = ap (λ (z : Core). record z { moment = max z.moment now }) same

-- nor does it to begin twice
pub begun_twice : (now : ℕ) (x : Core) → new_event_at model now (new_event_at model now x) ≡ new_event_at model now x
begun_twice now x = ap (λ (m : ℕ). record (new_event model x) { moment = m }) (later_once x.moment now)

pub begun_late : (now : ℕ) (x : Core) → now ≤ x.moment → new_event_at model now x ≡ new_event model x
begun_late now x late = ap (λ (m : ℕ). record (new_event model x) { moment = m }) (max_late x.moment now late)
  where
    max_late : (m now : ℕ) → now ≤ m → max m now ≡ m
    max_late m now late = omega (arith, late)
