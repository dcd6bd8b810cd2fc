-- What an event gives to the safety side is what the layers below made of it, or what the user asked for.
use Rattle.std.proofs.Common.{◌≡◌, ◌∙◌, ◌-◌, ℕ, Bool, true, false, ◌&&◌, List, [], length, Option, Some, None, Ok, Err, refl, sym, ap, ap₂, subst}
use Rattle.hdlc_station_model.specs.Receiving.{is_some_octets}
use Rattle.std.specs.Prelude.{◌==◌, is_some, if◌then◌else◌}
use Rattle.er_base.specs.declared.release.Release.{Release}
use Rattle.er_base.specs.declared.cause.Cause.{Cause}
use Rattle.er_base.specs.declared.cause.Cause.TheVariants.{User, BlockRefused, SetUpTimeSpent}
use Rattle.er_base.specs.Causes.{release_of, by_this_end}
use Rattle.hdlc_frames.specs.Framing.{Verdict}
use Rattle.hdlc_station_model.specs.Stations.{Deed as LinkDeed}
use Rattle.t70_header.specs.Joining as joining
use Rattle.x224_class2.specs.Refusals.{protocol_error}
use Rattle.x224_class2.specs.Transport.{ReceptionDeed, Nothing, Called, Confirmed, Message, Disconnected, reception}
use Rattle.x224_class2.specs.Transport as transport
use Rattle.x224_class2.specs.declared.stage.Stage.{Stage}
use Rattle.sapdu.specs.Spelling.{di_in}
use Rattle.safety_automaton.specs.Safety.{no_keys, Safety, SafetyEvent, ConnectRequest, Received, DataRequest, DisconnectRequest, SafetyOutcome, octets_sent_in_outcome, peer_flag, step}
use Rattle.safety_automaton.specs.Reports.{Report, ToldAnswered, ToldConnected, ToldAccepted, ToldReleased, ToldIgnored, report_of}
use Rattle.er_end_model.specs.Steps.{Finds, new_event, new_event_at, with_release, send_dr, answer_dr, on_safety_release, why_of, with_safety_step, hand_text, skip_message, Carrier, InCr, InCc, InDt, hand_answer, keep_message, on_safety_report, on_text, on_transport_deed, on_joined_block, is_ready, connect_with_text, on_link_up, on_link_told, conclude_event, step_start, step_frame, on_send, step_take, step_release, is_spent, normal_disconnect, di_of, on_expiry, step_tick, step_break}
use Rattle.er_end_model.specs.Layers.{Spoken, Core, model}
use Rattle.er_end_model.specs.Hearing.{text_in_deed, station_behind, IsTextOf}
use Rattle.er_end_model.specs.Giving.{FrameGives, IsGiven, CallsNow, EventsGive}
use Rattle.er_end_model.proofs.Behind.{taken_at, joined_at, heard_at}
use Rattle.er_end_model.proofs.Speaking.{Seen, seen, seen_departs, seen_cut_off, seen_parts, seen_says, seen_concludes}

-- the step of the safety side in this event
abbrev pub spoke : Core → Option Spoken
spoke x = x.upper.spoke

abbrev by_seen : (x y : Core) → seen y ≡ seen x → spoke y ≡ spoke x
by_seen x y e = ap (λ (v : Seen). v.spoke) e

spoke_if : (b : Bool) (x y : Core) (o : Option Spoken) → spoke x ≡ o → spoke y ≡ o → spoke (if b then x else y) ≡ o
spoke_if true x y o h g = h
spoke_if false x y o h g = g

-- what an event shows of the safety side beside its state
pub record Shown : Type 0 where
  pub spoke : Option Spoken
  pub connected : Option ℕ
  pub news : Option (List ℕ)

abbrev pub shown : Core → Shown
shown x = record { spoke = x.upper.spoke; connected = x.connected; news = x.upper.news }

-- nothing
abbrev pub silence : Shown
silence = record { spoke = None; connected = None; news = None }

-- a step that connects and accepts nothing
abbrev pub word : SafetyEvent → SafetyOutcome → Shown
word event outcome = record { spoke = Some (record { event = event; outcome = outcome }); connected = None; news = None }

pub shown_as : (x y : Core) → seen y ≡ seen x → shown y ≡ shown x
shown_as x y e = ap (λ (v : Seen). record { spoke = v.spoke; connected = v.connected; news = v.news }) e

pub shown_if : (b : Bool) (x y : Core) (o : Shown) → shown x ≡ o → shown y ≡ o → shown (if b then x else y) ≡ o
shown_if true x y o h g = h
shown_if false x y o h g = g

-- ---- what stays as it was behind a step of the safety side

pub shown_answers : (by : Carrier) (text : List ℕ) (x : Core) → shown (hand_answer model by text x) ≡ shown x
shown_answers InCr text x = shown_if (is_some_octets text) _ x (shown x) refl refl
shown_answers InCc text x = shown_as x (hand_text model text x) (seen_says text x)
shown_answers InDt text x = shown_as (skip_message model x) (hand_text model text (skip_message model x)) (seen_says text (skip_message model x))

spoke_answers : (by : Carrier) (text : List ℕ) (x : Core) → spoke (hand_answer model by text x) ≡ spoke x
spoke_answers by text x = ap (λ (v : Shown). v.spoke) (shown_answers by text x)

spoke_keeps : (by : Carrier) (user : List ℕ) (x : Core) → spoke (keep_message model by user x) ≡ spoke x
spoke_keeps InCr user x = refl
spoke_keeps InCc user x = refl
spoke_keeps InDt user x = refl

pub spoke_acts : (by : Carrier) (report : Report) (octets : List ℕ) (x : Core) → spoke (on_safety_report model by report octets x) ≡ spoke x
spoke_acts by ToldAnswered octets x = spoke_answers by octets x
spoke_acts by (ToldConnected peer) octets x = spoke_answers by octets x
spoke_acts by (ToldAccepted user) octets x = spoke_keeps by user x
spoke_acts by (ToldReleased why) octets x = by_seen x (on_safety_release model why octets x) (seen_parts why octets x)
spoke_acts by ToldIgnored octets x = refl

-- a text that comes is given
pub spoke_text : (finds : Finds) (by : Carrier) (text : List ℕ) (x : Core)
    → spoke (on_text model finds by text x) ≡ Some (record { event = Received text; outcome = (step (finds x.moment) x.safe.safety (Received text)).1 })
spoke_text finds by text x =
    let a : Safety × SafetyOutcome = step (finds x.moment) x.safe.safety (Received text) in
    spoke_acts by (report_of a.1) (octets_sent_in_outcome a.1) (with_safety_step model (Received text) a x)

pub spoke_concludes : (x : Core) → spoke (conclude_event model x) ≡ spoke x
spoke_concludes x = by_seen x (conclude_event model x) (seen_concludes x)

-- ---- at most this is given

abbrev Gives : (SafetyEvent → Type 0) → Option Spoken → Type 0
Gives E None = Unit {0}
Gives E (Some t) = E t.event

gives_only : (E : SafetyEvent → Type 0) (o : Option Spoken) → Gives E o → (t : Spoken) → o ≡ Some t → E t.event
gives_only E o g t e = subst (λ (p : Option Spoken). Gives E p) e g

gives_as : (E : SafetyEvent → Type 0) (o p : Option Spoken) → o ≡ p → Gives E p → Gives E o
gives_as E o p e g = subst (λ (q : Option Spoken). Gives E q) (sym e) g

unless_gives : (E : SafetyEvent → Type 0) (r : Option Release) (x y : Core) → Gives E (spoke x) → Gives E (spoke y) → Gives E (spoke (if is_some r then x else y))
unless_gives E None x y g h = h
unless_gives E (Some why) x y g h = g

given_as : (event : SafetyEvent) (o p : Option Spoken) → o ≡ p → IsGiven event p → IsGiven event o
given_as event o p e g = subst (λ (q : Option Spoken). IsGiven event q) (sym e) g

unless_given : (event : SafetyEvent) (r : Option Release) (x y : Core) → r ≡ None → IsGiven event (spoke y) → IsGiven event (spoke (if is_some r then x else y))
unless_given event None x y e g = g
unless_given event (Some why) x y e g = absurd cc

-- ---- a frame

module _ (finds : Finds) (now : ℕ) (verdict : Verdict) (x : Core) where
  deed_gives : (d : ReceptionDeed) (y : Core) → spoke y ≡ None → ((text : List ℕ) → text_in_deed d ≡ Some text → IsTextOf x now verdict text)
      → Gives (FrameGives x now verdict) (spoke (on_transport_deed model finds d y))
  deed_gives Nothing y n h = gives_as (FrameGives x now verdict) (spoke y) None n tt
  deed_gives (Called user) y n h = gives_as (FrameGives x now verdict) (spoke (on_text model finds InCr user y)) _ (spoke_text finds InCr user y) (h user refl)
  deed_gives (Confirmed user) y n h = gives_as (FrameGives x now verdict) (spoke (on_text model finds InCc user y)) _ (spoke_text finds InCc user y) (h user refl)
  deed_gives (Message message) y n h = gives_as (FrameGives x now verdict) (spoke (on_text model finds InDt message y)) _ (spoke_text finds InDt message y) (h message refl)
  deed_gives (Disconnected user) y n h =
      let why : Release = why_of (di_in user (peer_flag y.safe.safety)) in
      gives_as (FrameGives x now verdict) (spoke (answer_dr model why y)) None (by_seen y (answer_dr model why y) (seen_cut_off why y) ∙ n) tt
  deed_gives (transport.Refused sub reason) y n h =
      let why : Release = by_this_end 2 sub in
      gives_as (FrameGives x now verdict) (spoke (send_dr model why reason [] y)) None (by_seen y (send_dr model why reason [] y) (seen_departs why reason [] y) ∙ n) tt

  block_gives : (payload : List ℕ) → (station_behind x now verdict).deed.payload ≡ Some payload → (answer : joining.BlockJoiningResult) → (joining.block_step x.joined payload).1 ≡ answer
      → Gives (FrameGives x now verdict) (spoke (on_joined_block model finds answer (joined_at now verdict x payload)))
  block_gives payload t (Ok None) e = tt
  block_gives payload t (Ok (Some tpdu)) e =
      deed_gives (reception x.upper.transport tpdu).1 (heard_at now verdict x payload tpdu) refl
      (λ text b. record { payload = payload; taken = t; tpdu = tpdu; joined = e; brought = b })
  block_gives payload t (Err fault) e =
      let why : Release = release_of BlockRefused in
      gives_as (FrameGives x now verdict) (spoke (send_dr model why protocol_error [] (joined_at now verdict x payload))) None
      (by_seen (joined_at now verdict x payload) (send_dr model why protocol_error [] (joined_at now verdict x payload)) (seen_departs why protocol_error [] (joined_at now verdict x payload))) tt

  up_gives : (station_behind x now verdict).deed.up ≡ true → Gives (FrameGives x now verdict) (spoke (on_link_up model (taken_at now verdict x)))
  up_gives up =
      let a : Safety × SafetyOutcome = step no_keys x.safe.safety ConnectRequest in
      let z : Core = with_safety_step model ConnectRequest a (taken_at now verdict x) in
      let begun : spoke (connect_with_text model (octets_sent_in_outcome a.1) z) ≡ Some (record { event = ConnectRequest; outcome = a.1 }) =
      spoke_if (is_some_octets (octets_sent_in_outcome a.1)) _ z (Some (record { event = ConnectRequest; outcome = a.1 })) refl refl in
      up_or (model.may_connect (taken_at now verdict x).upper && is_ready (taken_at now verdict x).safe.safety.phase) (connect_with_text model (octets_sent_in_outcome a.1) z)
      (gives_as (FrameGives x now verdict) (spoke (connect_with_text model (octets_sent_in_outcome a.1) z)) (Some (record { event = ConnectRequest; outcome = a.1 })) begun up)
    where
      up_or : (b : Bool) (y : Core) → Gives (FrameGives x now verdict) (spoke y) → Gives (FrameGives x now verdict) (spoke (if b then y else (taken_at now verdict x)))
      up_or true y g = g
      up_or false y g = tt

  link_gives : (payload : Option (List ℕ)) (up : Bool) (released : Option Release) → (station_behind x now verdict).deed.payload ≡ payload → (station_behind x now verdict).deed.up ≡ up
      → Gives (FrameGives x now verdict) (spoke (on_link_told model finds payload up released (taken_at now verdict x)))
  link_gives (Some payload) up released t u = block_gives payload t (joining.block_step x.joined payload).1 refl
  link_gives None true released t u = up_gives u
  link_gives None false (Some why) t u = tt
  link_gives None false None t u = tt

  frame_gives : Gives (FrameGives x now verdict) (spoke (step_frame model finds now verdict x))
  frame_gives =
      let d = (station_behind x now verdict).deed in
      let y : Core = on_link_told model finds d.payload d.up d.released (taken_at now verdict x) in
      unless_gives (FrameGives x now verdict) x.released (new_event_at model now x) (conclude_event model y) tt
      (gives_as (FrameGives x now verdict) (spoke (conclude_event model y)) (spoke y) (spoke_concludes y) (link_gives d.payload d.up d.released refl refl))

  -- each text is given
  deed_given : (d : ReceptionDeed) (y : Core) (text : List ℕ) → text_in_deed d ≡ Some text → IsGiven (Received text) (spoke (on_transport_deed model finds d y))
  deed_given Nothing y text e = absurd cc
  deed_given (Called user) y text e = given_as (Received text) (spoke (on_text model finds InCr user y)) _ (spoke_text finds InCr user y) cc
  deed_given (Confirmed user) y text e = given_as (Received text) (spoke (on_text model finds InCc user y)) _ (spoke_text finds InCc user y) cc
  deed_given (Message message) y text e = given_as (Received text) (spoke (on_text model finds InDt message y)) _ (spoke_text finds InDt message y) cc
  deed_given (Disconnected user) y text e = absurd cc
  deed_given (transport.Refused sub reason) y text e = absurd cc

  text_given : (text : List ℕ) → x.released ≡ None → IsTextOf x now verdict text → IsGiven (Received text) (spoke (step_frame model finds now verdict x))
  text_given text live is =
      let d = (station_behind x now verdict).deed in
      let y : Core = on_link_told model finds d.payload d.up d.released (taken_at now verdict x) in
      let heard : IsGiven (Received text) (spoke (on_transport_deed model finds (reception x.upper.transport is.tpdu).1 (heard_at now verdict x is.payload is.tpdu))) =
      deed_given (reception x.upper.transport is.tpdu).1 (heard_at now verdict x is.payload is.tpdu) text is.brought in
      let block : IsGiven (Received text) (spoke (on_joined_block model finds (joining.block_step x.joined is.payload).1 (joined_at now verdict x is.payload))) =
      subst (λ (answer : joining.BlockJoiningResult). IsGiven (Received text) (spoke (on_joined_block model finds answer (joined_at now verdict x is.payload)))) (sym is.joined) heard in
      let link : IsGiven (Received text) (spoke y) =
      subst (λ (p : Option (List ℕ)). IsGiven (Received text) (spoke (on_link_told model finds p d.up d.released (taken_at now verdict x)))) (sym is.taken) block in
      unless_given (Received text) x.released (new_event_at model now x) (conclude_event model y) live
      (given_as (Received text) (spoke (conclude_event model y)) (spoke y) (spoke_concludes y) link)

  -- each request to connect is given
  call_given : x.released ≡ None → CallsNow x now verdict → IsGiven ConnectRequest (spoke (step_frame model finds now verdict x))
  call_given live c =
      let d = (station_behind x now verdict).deed in
      let b : Core = taken_at now verdict x in
      let y : Core = on_link_told model finds d.payload d.up d.released b in
      let a : Safety × SafetyOutcome = step no_keys x.safe.safety ConnectRequest in
      let z : Core = with_safety_step model ConnectRequest a b in
      let told : Option Spoken = Some (record { event = ConnectRequest; outcome = a.1 }) in
      let begun : spoke (connect_with_text model (octets_sent_in_outcome a.1) z) ≡ told = spoke_if (is_some_octets (octets_sent_in_outcome a.1)) _ z told refl refl in
      let may : (x.upper.transport.is_caller && transport.is_new x.upper.transport.stage && is_ready x.safe.safety.phase) ≡ true =
      ap₂ (λ (p q : Bool). p && q) (ap₂ (λ (p : Bool) (g : Stage). p && transport.is_new g) c.transport.0 c.transport.1) c.ready in
      let up : IsGiven ConnectRequest (spoke (on_link_up model b)) =
      given_as ConnectRequest (spoke (on_link_up model b)) told (ap (λ (p : Bool). spoke (if p then connect_with_text model (octets_sent_in_outcome a.1) z else b)) may ∙ begun) refl in
      let link : IsGiven ConnectRequest (spoke y) =
      subst (λ (e : LinkDeed). IsGiven ConnectRequest (spoke (on_link_told model finds e.payload e.up e.released b))) (sym c.up) up in
      unless_given ConnectRequest x.released (new_event_at model now x) (conclude_event model y) live
      (given_as ConnectRequest (spoke (conclude_event model y)) (spoke y) (spoke_concludes y) link)

-- ---- the other events

shown_unless : (r : Option Release) (x y : Core) (o : Shown) → shown x ≡ o → shown y ≡ o → shown (if is_some r then x else y) ≡ o
shown_unless None x y o h g = g
shown_unless (Some why) x y o h g = h

shown_concludes : (x : Core) → shown (conclude_event model x) ≡ shown x
shown_concludes x = shown_as x (conclude_event model x) (seen_concludes x)

pub starts_show : (now : ℕ) (x : Core) → shown (step_start model now x) ≡ silence
starts_show now x =
    let b : Core = new_event_at model now x in
    let z : Core = record b { line = model.starts b.moment b.line } in
    shown_unless x.released b (conclude_event model z) silence refl (shown_concludes z)

pub sent_shows : (now : ℕ) (user : List ℕ) (x : Core)
    → shown (on_send model user (new_event_at model now x)) ≡ word (DataRequest user) (step no_keys x.safe.safety (DataRequest user)).1
sent_shows now user x =
    let b : Core = new_event_at model now x in
    let a : Safety × SafetyOutcome = step no_keys x.safe.safety (DataRequest user) in
    let y : Core = with_safety_step model (DataRequest user) a b in
    let z : Core = record y { upper = model.sends y.upper user } in
    shown_concludes (hand_text model (octets_sent_in_outcome a.1) z) ∙ shown_as z (hand_text model (octets_sent_in_outcome a.1) z) (seen_says (octets_sent_in_outcome a.1) z)

pub uses_show : (now : ℕ) (x : Core) → shown (step_take model now x) ≡ silence
uses_show now x =
    let b : Core = new_event_at model now x in
    let z : Core = record b { upper = model.uses b.upper } in
    shown_if (length x.upper.accepted - x.upper.used == 0) b (conclude_event model z) silence refl (shown_concludes z)

-- an end that the user releases
abbrev left_at : ℕ → ℕ → Core → Core
left_at now sub x =
    let a = step no_keys x.safe.safety (DisconnectRequest sub) in
    send_dr model (release_of (User sub)) normal_disconnect (octets_sent_in_outcome a.1) (with_safety_step model (DisconnectRequest sub) a (new_event_at model now x))

left_shows : (now sub : ℕ) (x : Core) → shown (left_at now sub x) ≡ word (DisconnectRequest sub) (step no_keys x.safe.safety (DisconnectRequest sub)).1
left_shows now sub x =
    let a : Safety × SafetyOutcome = step no_keys x.safe.safety (DisconnectRequest sub) in
    let z : Core = with_safety_step model (DisconnectRequest sub) a (new_event_at model now x) in
    shown_as z (left_at now sub x) (seen_departs (release_of (User sub)) normal_disconnect (octets_sent_in_outcome a.1) z)

time_shows : (given_up : Option Release) (x : Core) → shown (on_expiry model given_up x) ≡ shown x
time_shows (Some why) x = refl
time_shows None x =
    let why : Release = release_of SetUpTimeSpent in
    let y : Core = send_dr model why normal_disconnect (di_of why x.safe.safety) x in
    shown_if (is_spent x) y x (shown x) (shown_as x y (seen_departs why normal_disconnect (di_of why x.safe.safety) x)) refl

pub ticks_show : (now : ℕ) (x : Core) → shown (step_tick model now x) ≡ silence
ticks_show now x =
    let b : Core = new_event_at model now x in
    let z : Core = record b { line = model.ticks b.moment b.line } in
    let y : Core = on_expiry model (model.given_up b.moment b.line) z in
    shown_unless x.released b (conclude_event model y) silence refl (shown_concludes y ∙ time_shows (model.given_up b.moment b.line) z)

pub breaks_show : (cause : Cause) (x : Core) → shown (step_break model cause x) ≡ silence
breaks_show cause x = shown_unless x.released (new_event model x) (with_release (release_of cause) (new_event model x)) silence refl refl

-- what was spoken
spoke_as : (x : Core) (o : Shown) → shown x ≡ o → spoke x ≡ o.spoke
spoke_as x o e = ap (λ (v : Shown). v.spoke) e

-- connects and accepts nothing
pub record IsQuiet (x : Core) : Type 0 where
  pub connected : x.connected ≡ None
  pub news : x.upper.news ≡ None

pub quiet_silence : (x : Core) → shown x ≡ silence → IsQuiet x
quiet_silence x e = record { connected = ap (λ (v : Shown). v.connected) e; news = ap (λ (v : Shown). v.news) e }

pub quiet_word : (x : Core) (event : SafetyEvent) (outcome : SafetyOutcome) → shown x ≡ word event outcome → IsQuiet x
quiet_word x event outcome e = record { connected = ap (λ (v : Shown). v.connected) e; news = ap (λ (v : Shown). v.news) e }

pub quiet_leaves : (now sub : ℕ) (x : Core) → IsQuiet (step_release model now sub x)
quiet_leaves now sub x =
    unless_quiet x.released (new_event_at model now x) (left_at now sub x) (record { connected = refl; news = refl })
    (quiet_word (left_at now sub x) (DisconnectRequest sub) (step no_keys x.safe.safety (DisconnectRequest sub)).1 (left_shows now sub x))
  where
    unless_quiet : (r : Option Release) (x y : Core) → IsQuiet x → IsQuiet y → IsQuiet (if is_some r then x else y)
    unless_quiet None x y g h = h
    unless_quiet (Some why) x y g h = g

abbrev is_data : List ℕ → SafetyEvent → Type 0
is_data user event = event ≡ DataRequest user

abbrev is_disconnect : ℕ → SafetyEvent → Type 0
is_disconnect sub event = event ≡ DisconnectRequest sub

sent_given : (now : ℕ) (user : List ℕ) (x : Core) → IsGiven (DataRequest user) (spoke (on_send model user (new_event_at model now x)))
sent_given now user x =
    let o : Shown = word (DataRequest user) (step no_keys x.safe.safety (DataRequest user)).1 in
    given_as (DataRequest user) (spoke (on_send model user (new_event_at model now x))) o.spoke (spoke_as (on_send model user (new_event_at model now x)) o (sent_shows now user x)) refl

sent_gives : (now : ℕ) (user : List ℕ) (x : Core) → Gives (is_data user) (spoke (on_send model user (new_event_at model now x)))
sent_gives now user x =
    let o : Shown = word (DataRequest user) (step no_keys x.safe.safety (DataRequest user)).1 in
    gives_as (is_data user) (spoke (on_send model user (new_event_at model now x))) o.spoke (spoke_as (on_send model user (new_event_at model now x)) o (sent_shows now user x)) refl

leaves_given : (now sub : ℕ) (x : Core) → x.released ≡ None → IsGiven (DisconnectRequest sub) (spoke (step_release model now sub x))
leaves_given now sub x live =
    let o : Shown = word (DisconnectRequest sub) (step no_keys x.safe.safety (DisconnectRequest sub)).1 in
    unless_given (DisconnectRequest sub) x.released (new_event_at model now x) (left_at now sub x) live
    (given_as (DisconnectRequest sub) (spoke (left_at now sub x)) o.spoke (spoke_as (left_at now sub x) o (left_shows now sub x)) refl)

leaves_give : (now sub : ℕ) (x : Core) → Gives (is_disconnect sub) (spoke (step_release model now sub x))
leaves_give now sub x =
    let o : Shown = word (DisconnectRequest sub) (step no_keys x.safe.safety (DisconnectRequest sub)).1 in
    unless_gives (is_disconnect sub) x.released (new_event_at model now x) (left_at now sub x) tt
    (gives_as (is_disconnect sub) (spoke (left_at now sub x)) o.spoke (spoke_as (left_at now sub x) o (left_shows now sub x)) refl)

pub events_give : EventsGive
events_give = record {
  starts = λ now x. spoke_as (step_start model now x) silence (starts_show now x);
  each_call = λ finds now verdict x live c. call_given finds now verdict x live c;
  each_text = λ finds now verdict x text live is. text_given finds now verdict x text live is;
  comes = λ finds now verdict x t e. gives_only (FrameGives x now verdict) (spoke (step_frame model finds now verdict x)) (frame_gives finds now verdict x) t e;
  each_send = sent_given;
  sends = λ now user x t e. gives_only (is_data user) (spoke (on_send model user (new_event_at model now x))) (sent_gives now user x) t e;
  uses = λ now x. spoke_as (step_take model now x) silence (uses_show now x);
  each_release = leaves_given;
  leaves = λ now sub x t e. gives_only (is_disconnect sub) (spoke (step_release model now sub x)) (leaves_give now sub x) t e;
  ticks = λ now x. spoke_as (step_tick model now x) silence (ticks_show now x);
  breaks = λ cause x. spoke_as (step_break model cause x) silence (breaks_show cause x);
}
