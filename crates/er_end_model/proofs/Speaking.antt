-- An event of an end is at most one step of its safety side.
use Rattle.std.proofs.Common.{◌≡◌, inl, inr, ◌+◌, ◌-◌, ◌∙◌, ℕ, zero, suc, max, Bool, true, false, ◌&&◌, not, List, [], ◌∷◌, ◌++◌, length, Option, Some, None, Result, Ok, Err, refl, sym, ap, subst}
use Rattle.hdlc_station_model.specs.Receiving.{is_some_octets}
use Rattle.std.specs.Prelude.{◌==◌, nat_lt, nat_le, is_some, if◌then◌else◌}
use Rattle.std.proofs.lemmas.Bool.{cases_Bool}
use Rattle.er_base.specs.declared.release.Release.{Release}
use Rattle.er_base.specs.declared.cause.Cause.{Cause}
use Rattle.des_block.specs.declared.triple_key.TripleKey.{TripleKey}
use Rattle.hdlc_frames.specs.Framing.{Verdict}
use Rattle.t70_header.specs.Joining as joining
use Rattle.x224_tpdu.specs.declared.fault.TpFault.{TpFault}
use Rattle.x224_tpdu.specs.Spelling.{TransportPdu, connection_request, connection_confirm, disconnect_request, disconnect_confirm, data_tpdu, acknowledgement, tpdu_error}
use Rattle.x224_tpdu.specs.Function.{reading}
use Rattle.x224_class2.specs.declared.stage.Stage.{Stage}
use Rattle.x224_class2.specs.declared.stage.Stage.TheVariants as stages
use Rattle.x224_class2.specs.Refusals.{protocol_error}
use Rattle.x224_class2.specs.Tpdus.{GivenTpdu, Dr, Dc}
use Rattle.x224_class2.specs.Segments.{text_so_far}
use Rattle.x224_class2.specs.Transport.{Transport, ReceptionDeed, Nothing, Called, Confirmed, Message, Disconnected, is_new, is_calling, is_open, is_over, TpduTurn, Rest, Opening, Acknowledgement, Data, refusal_of_tpdu, is_expected, number_named, on_named, on_reading, reception, turn_of, state_behind, with_given, next_tpdu}
use Rattle.x224_class2.specs.Transport as transport
use Rattle.safety_automaton.specs.Safety.{no_keys, Safety, Phase, Ready, WaitAu1, WaitAu2, WaitAu3, WaitAr, Connected, Released, SafetyEvent, ConnectRequest, Received, DataRequest, DisconnectRequest, SafetyOutcome, SentAu1, SentAu2, SentAu3, SentAr, ReceivedAr, AcceptedDt, SentDt, Refused, ReleasedLocally, ReleasedByPeer, NothingDone, sealed_by, verified_by, octets_sent_in_outcome, peer_flag, step}
use Rattle.safety_automaton.specs.Reports.{KeptSafe, report_of, kept_side_without_texts}
use Rattle.safety_automaton.specs.Laws.{AcceptsVerified}
use Rattle.sapdu.specs.Messages.{is_message}
use Rattle.sapdu.specs.Spelling.{di_in}
use Rattle.er_base.specs.Causes.{by_this_end, release_of}
use Rattle.er_base.specs.declared.cause.Cause.TheVariants.{User, BlockRefused, SetUpTimeSpent}
use Rattle.safety_automaton.specs.Safety as safety
use Rattle.er_end_model.specs.Steps.{Finds, new_event, new_event_at, with_release, hand_tpdu_if_may, send_owed_answer, send_dr, answer_dr, on_safety_release, why_of, with_safety_step, hand_text, skip_message, Carrier, InCr, InCc, InDt, hand_answer, keep_message, on_safety_report, on_text, on_transport_deed, on_joined_block, is_ready, connect_with_text, on_link_up, on_link_told, hand_next_tpdu, has_next_tpdu, hand_waiting_tpdus, most_offers, conclude_event, step_start, step_frame, is_connected, on_send, step_take, step_release, is_spent, normal_disconnect, di_of, on_expiry, step_tick, step_break}
use Rattle.er_end_model.specs.Layers.{Spoken, Core, model}
use Rattle.er_end_model.specs.Ends.{Opening as End_opening, Call, Answer, opened}
use Rattle.er_end_model.specs.Laws.{connected_by, accepted_safety_message, ShowsSafetyStep, is_early, IsSane, SpeaksOnce, EventsSpeakOnce}

-- what an end shows of its safety side, and how far its transport is
pub record Seen : Type 0 where
  pub safe : KeptSafe
  pub spoke : Option Spoken
  pub connected : Option ℕ
  pub news : Option (List ℕ)
  pub stage : Stage

abbrev pub seen : Core → Seen
seen x = record { safe = x.safe; spoke = x.upper.spoke; connected = x.connected; news = x.upper.news; stage = x.upper.transport.stage }

-- ---- what goes down shows nothing

seen_if : (b : Bool) (x y : Core) (v : Seen) → (b ≡ true → seen x ≡ v) → (b ≡ false → seen y ≡ v) → seen (if b then x else y) ≡ v
seen_if true x y v h g = h refl
seen_if false x y v h g = g refl

seen_gives : (g : GivenTpdu) (x : Core) → seen (hand_tpdu_if_may model g x) ≡ seen x
seen_gives g x = seen_if (model.may_send x.line) _ x (seen x) (λ e. refl) (λ e. refl)

pub seen_departs : (why : Release) (reason : ℕ) (user : List ℕ) (x : Core) → seen (send_dr model why reason user x) ≡ seen x
seen_departs why reason user x = seen_gives (Dr reason user) x

pub seen_cut_off : (why : Release) (x : Core) → seen (answer_dr model why x) ≡ seen x
seen_cut_off why x = seen_gives Dc x

pub seen_parts : (why : Release) (di : List ℕ) (x : Core) → seen (on_safety_release model why di x) ≡ seen x
seen_parts why di x = seen_if why.by_peer _ _ (seen x) (λ e. refl) (λ e. seen_departs why _ di x)

pub seen_says : (text : List ℕ) (x : Core) → seen (hand_text model text x) ≡ seen x
seen_says text x = seen_if (is_some_octets text && model.may_hand x.upper) _ x (seen x) (λ e. refl) (λ e. refl)

turn_stage : (t : Transport) (turn : TpduTurn) (g : Option GivenTpdu) → (with_given (state_behind t turn) g).stage ≡ t.stage
turn_stage t Rest None = refl
turn_stage t Rest (Some g) = refl
turn_stage t (Opening user) None = refl
turn_stage t (Opening user) (Some g) = refl
turn_stage t Acknowledgement None = refl
turn_stage t Acknowledgement (Some g) = refl
turn_stage t Data None = refl
turn_stage t Data (Some g) = refl

seen_next : (x : Core) → seen (hand_next_tpdu model x) ≡ seen x
seen_next x =
    ap (λ (s : Stage). record (seen x) { stage = s }) (turn_stage x.upper.transport (turn_of x.upper.transport) (next_tpdu x.upper.transport))

seen_offers : (n : ℕ) (x : Core) → seen (hand_waiting_tpdus model n x) ≡ seen x
unfolding hand_waiting_tpdus
seen_offers zero x = refl
seen_offers (suc n) x =
    seen_if (has_next_tpdu model x) (hand_waiting_tpdus model n (hand_next_tpdu model x)) x (seen x) (λ e. seen_offers n (hand_next_tpdu model x) ∙ seen_next x) (λ e. refl)

pub seen_concludes : (x : Core) → seen (conclude_event model x) ≡ seen x
seen_concludes x = seen_if (is_some x.released) x (send_owed_answer model (hand_waiting_tpdus model most_offers x)) (seen x) (λ e. refl) (λ e. seen_offers most_offers x)

-- ---- what is claimed, of what is seen

abbrev Step : (ℕ → ℕ → Option TripleKey) → Safety → Option Spoken → Seen → Type 0
Step key_of s None v = (v.safe ≡ kept_side_without_texts s) × (v.connected ≡ None) × (v.news ≡ None)
Step key_of s (Some t) v =
    (step key_of s t.event ≡ (v.safe.safety, t.outcome))
    × (v.safe.sealed ≡ sealed_by t.outcome)
    × (v.safe.verified ≡ verified_by t.outcome)
    × (v.connected ≡ connected_by t.outcome)
    × (v.news ≡ accepted_safety_message t.outcome)

abbrev Sane : Seen → Type 0
Sane v = is_early v.stage ≡ true → is_connected v.safe.safety.phase ≡ false

abbrev Good : (ℕ → ℕ → Option TripleKey) → Safety → Seen → Type 0
Good key_of s v = Step key_of s v.spoke v × Sane v

step_of : (key_of : ℕ → ℕ → Option TripleKey) (s : Safety) (o : Option Spoken) (y : Core) → Step key_of s o (seen y) → ShowsSafetyStep key_of s o y
step_of key_of s None y h = h
step_of key_of s (Some t) y h = h

speaks : (key_of : ℕ → ℕ → Option TripleKey) (x y : Core) → Good key_of x.safe.safety (seen y) → SpeaksOnce key_of x y
speaks key_of x y g = record { sane = g.1; step = step_of key_of x.safe.safety y.upper.spoke y g.0 }

good_from : (key_of : ℕ → ℕ → Option TripleKey) (s : Safety) (v v' : Seen) → v' ≡ v → Good key_of s v → Good key_of s v'
good_from key_of s v v' e g = subst (λ (z : Seen). Good key_of s z) (sym e) g

-- where an event begins
begun_good : (key_of : ℕ → ℕ → Option TripleKey) (x : Core) → IsSane x → Good key_of x.safe.safety (seen (new_event model x))
begun_good key_of x sane = ((refl, refl, refl), sane)

-- ---- a text

late : (s : Stage) → is_early s ≡ false → is_early s ≡ true → ⊥
late s e f = cc

-- behind a step whose answer goes down, when the transport isn't early
seen_answers : (by : Carrier) (text : List ℕ) (x : Core) → is_early x.upper.transport.stage ≡ false
    → (stage : Stage) × (is_early stage ≡ false) × (seen (hand_answer model by text x) ≡ record (seen x) { stage = stage })
seen_answers InCr text x e = elim (cases_Bool (is_some_octets text)) [
  | inl y ↦ (stages.Open, refl, rw y refl)
  | inr n ↦ (x.upper.transport.stage, e, rw n refl)
]
seen_answers InCc text x e = (x.upper.transport.stage, e, seen_says text x)
seen_answers InDt text x e = (x.upper.transport.stage, e, seen_says text (skip_message model x))

-- an outcome of a text, by which TPDU it came
abbrev CanCome : Carrier → SafetyOutcome → Type 0
CanCome InCr o = accepted_safety_message o ≡ None
CanCome InCc o = accepted_safety_message o ≡ None
CanCome InDt o = Unit {0}

module _ (key_of : ℕ → ℕ → Option TripleKey) (s q : Safety) (event : SafetyEvent) (x : Core) (quiet : x.connected ≡ None) (none : x.upper.news ≡ None) (is_late : is_early x.upper.transport.stage ≡ false) where
  abbrev after : SafetyOutcome → Core
  after o = with_safety_step model event (q, o) x

  -- what is told then
  told_good : (o : SafetyOutcome) (stage : Stage) (connected : Option ℕ) (news : Option (List ℕ)) (y : Core) → step key_of s event ≡ (q, o) → is_early stage ≡ false
      → connected ≡ connected_by o → news ≡ accepted_safety_message o
      → seen y ≡ record (seen (after o)) { stage = stage; connected = connected; news = news } → Good key_of s (seen y)
  told_good o stage connected news y e l c n is =
      good_from key_of s (record (seen (after o)) { stage = stage; connected = connected; news = news }) (seen y) is
      ((e, refl, refl, c, n), λ f. absurd (late stage l f))

  quiet_good : (o : SafetyOutcome) (y : Core) → step key_of s event ≡ (q, o) → connected_by o ≡ None → accepted_safety_message o ≡ None → seen y ≡ seen (after o) → Good key_of s (seen y)
  quiet_good o y e c n is = told_good o x.upper.transport.stage x.connected x.upper.news y e is_late (quiet ∙ sym c) (none ∙ sym n) is

  answer_good : (by : Carrier) (o : SafetyOutcome) → step key_of s event ≡ (q, o) → connected_by o ≡ None → accepted_safety_message o ≡ None
      → Good key_of s (seen (hand_answer model by (octets_sent_in_outcome o) (after o)))
  answer_good by o e c n =
      let a = seen_answers by (octets_sent_in_outcome o) (after o) is_late in
      told_good o a.0 x.connected x.upper.news (hand_answer model by (octets_sent_in_outcome o) (after o)) e a.1 (quiet ∙ sym c) (none ∙ sym n) a.2

  connect_good : (by : Carrier) (o : SafetyOutcome) (peer : ℕ) → step key_of s event ≡ (q, o) → connected_by o ≡ Some peer → accepted_safety_message o ≡ None
      → Good key_of s (seen (record (hand_answer model by (octets_sent_in_outcome o) (after o)) { connected = Some peer }))
  connect_good by o peer e c n =
      let a = seen_answers by (octets_sent_in_outcome o) (after o) is_late in
      told_good o a.0 (Some peer) x.upper.news (record (hand_answer model by (octets_sent_in_outcome o) (after o)) { connected = Some peer }) e a.1 (sym c) (none ∙ sym n)
      (ap (λ (v : Seen). record v { connected = Some peer }) a.2)

  keep_good : (by : Carrier) (session : TripleKey) (user verified : List ℕ) → step key_of s event ≡ (q, AcceptedDt session user verified) → CanCome by (AcceptedDt session user verified)
      → Good key_of s (seen (keep_message model by user (after (AcceptedDt session user verified))))
  keep_good InCr session user verified e can = absurd cc
  keep_good InCc session user verified e can = absurd cc
  keep_good InDt session user verified e can =
      told_good (AcceptedDt session user verified) x.upper.transport.stage x.connected (Some user) (keep_message model InDt user (after (AcceptedDt session user verified))) e is_late quiet refl refl

  acts_good : (by : Carrier) (o : SafetyOutcome) → step key_of s event ≡ (q, o) → CanCome by o → Good key_of s (seen (on_safety_report model by (report_of o) (octets_sent_in_outcome o) (after o)))
  acts_good by (SentAu1 octets) e can = quiet_good (SentAu1 octets) (after (SentAu1 octets)) e refl refl refl
  acts_good by (SentAu2 session sealed octets) e can = answer_good by (SentAu2 session sealed octets) e refl refl
  acts_good by (SentAu3 session verified sealed octets) e can = answer_good by (SentAu3 session verified sealed octets) e refl refl
  acts_good by (SentAr connection verified sealed octets) e can = connect_good by (SentAr connection verified sealed octets) connection.peer e refl refl
  acts_good by (ReceivedAr connection verified) e can = connect_good by (ReceivedAr connection verified) connection.peer e refl refl
  acts_good by (AcceptedDt session user verified) e can = keep_good by session user verified e can
  acts_good by (SentDt session user sealed octets) e can = quiet_good (SentDt session user sealed octets) (after (SentDt session user sealed octets)) e refl refl refl
  acts_good by (Refused refusal_of_tpdu) e can = quiet_good (Refused refusal_of_tpdu) (after (Refused refusal_of_tpdu)) e refl refl refl
  acts_good by (ReleasedLocally release octets) e can =
      quiet_good (ReleasedLocally release octets) (on_safety_release model release octets (after (ReleasedLocally release octets))) e refl refl (seen_parts release octets (after (ReleasedLocally release octets)))
  acts_good by (ReleasedByPeer release) e can =
      quiet_good (ReleasedByPeer release) (on_safety_release model release [] (after (ReleasedByPeer release))) e refl refl (seen_parts release [] (after (ReleasedByPeer release)))
  acts_good by NothingDone e can = quiet_good NothingDone (after NothingDone) e refl refl refl

-- ---- the transport

-- what a reception tells of the stages
abbrev Told : Transport → Transport → ReceptionDeed → Type 0
Told t u Nothing = u.stage ≡ t.stage
Told t u (Called user) = (is_early t.stage ≡ true) × (is_early u.stage ≡ false)
Told t u (Confirmed user) = (is_early t.stage ≡ true) × (is_early u.stage ≡ false)
Told t u (Message octets) = is_early u.stage ≡ false
Told t u (Disconnected user) = is_early u.stage ≡ false
Told t u (transport.Refused sub reason) = is_early u.stage ≡ false

told_if : (t : Transport) (b : Bool) (x y : Transport × ReceptionDeed) → (b ≡ true → Told t x.0 x.1) → (b ≡ false → Told t y.0 y.1) → Told t (if b then x else y).0 (if b then x else y).1
told_if t true x y h g = h refl
told_if t false x y h g = g refl

left_part : (b c : Bool) → (b && c) ≡ true → b ≡ true
left_part true c e = refl
left_part false c e = absurd cc

right_part : (b c : Bool) → (b && c) ≡ true → c ≡ true
right_part true c e = e
right_part false c e = absurd cc

new_early : (s : Stage) → is_new s ≡ true → is_early s ≡ true
new_early stages.New e = refl
new_early stages.Calling e = refl
new_early stages.Called e = e
new_early stages.Open e = e
new_early stages.Over e = e

calling_early : (s : Stage) → is_calling s ≡ true → is_early s ≡ true
calling_early stages.New e = refl
calling_early stages.Calling e = refl
calling_early stages.Called e = e
calling_early stages.Open e = e
calling_early stages.Over e = e

open_late : (s : Stage) → is_open s ≡ true → is_early s ≡ false
open_late stages.New e = sym e
open_late stages.Calling e = sym e
open_late stages.Called e = refl
open_late stages.Open e = refl
open_late stages.Over e = refl

not_false : (b : Bool) → not b ≡ false → b ≡ true
not_false true e = refl
not_false false e = absurd cc

expected_open : (t : Transport) (dst number : ℕ) (user : List ℕ) → is_expected t dst number user ≡ true → is_open t.stage ≡ true
expected_open t dst number user e =
    let a = left_part (is_open t.stage && (dst == 1) && _ && _) _ e in
    let b = left_part (is_open t.stage && (dst == 1) && _) _ a in
    let c = left_part (is_open t.stage && (dst == 1)) _ b in
    left_part (is_open t.stage) (dst == 1) c

data_told : (t : Transport) (last : Bool) (user text : List ℕ) → is_early t.stage ≡ false → Told t (record t { contents = t.contents ++ (last, user) ∷ [] }) (if last then Message text else Nothing)
data_told t true user text e = e
data_told t false user text e = refl

named_told : (t : Transport) (credit : ℕ) (n : Option ℕ) → Told t (on_named t credit n).0 (on_named t credit n).1
named_told t credit None = refl
named_told t credit (Some n) = told_if t (nat_lt (n + credit) t.edge) _ _ (λ e. refl) (λ e. refl)

reading_told : (t : Transport) (answer : Result TransportPdu TpFault) → Told t (on_reading t answer).0 (on_reading t answer).1
reading_told t (Ok (connection_request credit dst src size user)) =
    told_if t (not t.is_caller && is_new t.stage && (dst == 0) && (src == 1)) _ _
    (λ e. (new_early t.stage (right_part (not t.is_caller) (is_new t.stage) (left_part (not t.is_caller && is_new t.stage) (dst == 0) (left_part (not t.is_caller && is_new t.stage && (dst == 0)) (src == 1) e))), refl)) (λ e. refl)
reading_told t (Ok (connection_confirm credit dst src size user)) =
    told_if t (is_calling t.stage && (dst == 1) && (src == 1) && nat_le size t.size) _ _
    (λ e. (calling_early t.stage (left_part (is_calling t.stage) (dst == 1) (left_part (is_calling t.stage && (dst == 1)) (src == 1) (left_part (is_calling t.stage && (dst == 1) && (src == 1)) (nat_le size t.size) e))), refl)) (λ e. refl)
reading_told t (Ok (disconnect_request dst src reason user)) = told_if t (not (is_new t.stage) && (dst == 1) && (src == 1)) _ _ (λ e. refl) (λ e. refl)
reading_told t (Ok (disconnect_confirm dst src)) = refl
reading_told t (Ok (data_tpdu dst last number user)) =
    told_if t (not (is_expected t dst number user)) _ _ (λ e. refl)
    (λ e. told_if t (nat_lt 1032 (length (text_so_far t.contents ++ user))) _ _ (λ f. refl)
    (λ f. data_told t last user (text_so_far t.contents ++ user) (open_late t.stage (expected_open t dst number user (not_false (is_expected t dst number user) e)))))
reading_told t (Ok (acknowledgement credit dst number)) =
    told_if t (is_open t.stage && (dst == 1)) _ _ (λ e. named_told t credit (number_named t.acked (t.given - t.acked) number)) (λ e. refl)
reading_told t (Ok (tpdu_error dst cause)) = refl
reading_told t (Err fault) = refl

reception_told : (t : Transport) (octets : List ℕ) → Told t (reception t octets).0 (reception t octets).1
reception_told t octets = told_if t (is_over t.stage) _ _ (λ e. refl) (λ e. reading_told t (reading octets))

-- ---- the way up

-- nothing is accepted before the safe connection stands
module _ (accepts_only : AcceptsVerified) where
  accepts_none : (key_of : ℕ → ℕ → Option TripleKey) (s : Safety) (text : List ℕ) (o : SafetyOutcome) → (step key_of s (Received text)).1 ≡ o → is_connected s.phase ≡ false → accepted_safety_message o ≡ None
  accepts_none key_of s text (SentAu1 octets) e n = refl
  accepts_none key_of s text (SentAu2 session sealed octets) e n = refl
  accepts_none key_of s text (SentAu3 session verified sealed octets) e n = refl
  accepts_none key_of s text (SentAr connection verified sealed octets) e n = refl
  accepts_none key_of s text (ReceivedAr connection verified) e n = refl
  accepts_none key_of s text (AcceptedDt session user verified) e n =
      let v = accepts_only key_of s session text user verified e in
      absurd (let z = ap is_connected v.connected in cc)
  accepts_none key_of s text (SentDt session user sealed octets) e n = refl
  accepts_none key_of s text (Refused refusal_of_tpdu) e n = refl
  accepts_none key_of s text (ReleasedLocally release octets) e n = refl
  accepts_none key_of s text (ReleasedByPeer release) e n = refl
  accepts_none key_of s text NothingDone e n = refl

  module _ (finds : Finds) (x : Core) (quiet : x.connected ≡ None) (none : x.upper.news ≡ None) (still : x.upper.spoke ≡ None) (texts : x.safe ≡ kept_side_without_texts x.safe.safety) (sane : IsSane x) where
    abbrev key_of : ℕ → ℕ → Option TripleKey
    key_of = finds x.moment

    -- what shows nothing
    still_good : (y : Core) → seen y ≡ seen x → Good key_of x.safe.safety (seen y)
    still_good y is =
        good_from key_of x.safe.safety (seen x) (seen y) is
        (subst (λ (o : Option Spoken). Step key_of x.safe.safety o (seen x)) (sym still) (texts, quiet, none), sane)

    -- the same where the transport is over
    over_good : (stage : Stage) (y : Core) → is_early stage ≡ false → seen y ≡ record (seen x) { stage = stage } → Good key_of x.safe.safety (seen y)
    over_good stage y l is =
        good_from key_of x.safe.safety (record (seen x) { stage = stage }) (seen y) is
        (subst (λ (o : Option Spoken). Step key_of x.safe.safety o (record (seen x) { stage = stage })) (sym still) (texts, quiet, none), λ f. absurd (late stage l f))

    text_good : (by : Carrier) (t : Transport) (text : List ℕ) → is_early t.stage ≡ false
        → ((o : SafetyOutcome) → (step key_of x.safe.safety (Received text)).1 ≡ o → CanCome by o)
        → Good key_of x.safe.safety (seen (on_text model finds by text (record x { upper = record (x.upper) { transport = t } })))
    text_good by t text l can =
        let a : Safety × SafetyOutcome = step key_of x.safe.safety (Received text) in
        acts_good key_of x.safe.safety a.0 (Received text) (record x { upper = record (x.upper) { transport = t } }) quiet none l by a.1 refl (can a.1 refl)

    does_good : (d : ReceptionDeed) (t : Transport) → Told x.upper.transport t d → Good key_of x.safe.safety (seen (on_transport_deed model finds d (record x { upper = record (x.upper) { transport = t } })))
    does_good Nothing t h = still_good (record x { upper = record (x.upper) { transport = t } }) (ap (λ (s : Stage). record (seen x) { stage = s }) h)
    does_good (Called user) t h = text_good InCr t user h.1 (λ o e. accepts_none key_of x.safe.safety user o e (sane h.0))
    does_good (Confirmed user) t h = text_good InCc t user h.1 (λ o e. accepts_none key_of x.safe.safety user o e (sane h.0))
    does_good (Message message) t h = text_good InDt t message h (λ o e. tt)
    does_good (Disconnected user) t h =
        let z : Core = record x { upper = record (x.upper) { transport = t } } in
        let why : Release = why_of (di_in user (peer_flag x.safe.safety)) in
        over_good t.stage (answer_dr model why z) h (seen_cut_off why z)
    does_good (transport.Refused sub reason) t h =
        let z : Core = record x { upper = record (x.upper) { transport = t } } in
        let why : Release = by_this_end 2 sub in
        over_good t.stage (send_dr model why reason [] z) h (seen_departs why reason [] z)

    refused_good : (why : Release) (reason : ℕ) → Good key_of x.safe.safety (seen (send_dr model why reason [] x))
    refused_good why reason = still_good (send_dr model why reason [] x) (seen_departs why reason [] x)

  -- an event has begun
  record Fresh (x : Core) : Type 0 where
    quiet : x.connected ≡ None
    none : x.upper.news ≡ None
    still : x.upper.spoke ≡ None
    texts : x.safe ≡ kept_side_without_texts x.safe.safety
    sane : IsSane x

  begun_fresh : (x : Core) → IsSane x → Fresh (new_event model x)
  begun_fresh x sane = record { quiet = refl; none = refl; still = refl; texts = refl; sane = sane }

  fresh_good : (finds : Finds) (x : Core) → Fresh x → (y : Core) → seen y ≡ seen x → Good (finds x.moment) x.safe.safety (seen y)
  fresh_good finds x f y is = still_good finds x f.quiet f.none f.still f.texts f.sane y is

  block_good : (finds : Finds) (x : Core) → Fresh x → (answer : joining.BlockJoiningResult) → Good (finds x.moment) x.safe.safety (seen (on_joined_block model finds answer x))
  block_good finds x f (Ok None) = fresh_good finds x f x refl
  block_good finds x f (Ok (Some tpdu)) =
      does_good finds x f.quiet f.none f.still f.texts f.sane (reception x.upper.transport tpdu).1 (reception x.upper.transport tpdu).0 (reception_told x.upper.transport tpdu)
  block_good finds x f (Err fault) = refused_good finds x f.quiet f.none f.still f.texts f.sane (release_of BlockRefused) protocol_error

  -- ---- the end's own requests

  own_good : (key_of : ℕ → ℕ → Option TripleKey) (x : Core) → Fresh x → (event : SafetyEvent) (a : Safety × SafetyOutcome) → step key_of x.safe.safety event ≡ a
      → connected_by a.1 ≡ None → accepted_safety_message a.1 ≡ None → (stage : Stage) → (is_early stage ≡ true → is_connected a.0.phase ≡ false)
      → (y : Core) → seen y ≡ record (seen (with_safety_step model event a x)) { stage = stage } → Good key_of x.safe.safety (seen y)
  own_good key_of x f event a e c n stage sane y is =
      good_from key_of x.safe.safety (record (seen (with_safety_step model event a x)) { stage = stage }) (seen y) is
      ((e, refl, refl, f.quiet ∙ sym c, f.none ∙ sym n), sane)

  connects_tell : (s : Safety) (p : Phase) → is_ready p ≡ true
      → (connected_by (safety.connects s p).1 ≡ None) × (accepted_safety_message (safety.connects s p).1 ≡ None) × (is_connected (safety.connects s p).0.phase ≡ false)
  connects_tell s (Ready peer kmac rb) r = (refl, refl, refl)
  connects_tell s (WaitAu1 ra) r = absurd cc
  connects_tell s (WaitAu2 peer kmac rb) r = absurd cc
  connects_tell s (WaitAu3 connection) r = absurd cc
  connects_tell s (WaitAr connection) r = absurd cc
  connects_tell s (Connected peer session) r = absurd cc
  connects_tell s (Released release session) r = absurd cc

  sends_tell : (s : Safety) (p : Phase) (user : List ℕ)
      → (connected_by (safety.sends s p user).1 ≡ None) × (accepted_safety_message (safety.sends s p user).1 ≡ None) × ((safety.sends s p user).0 ≡ s)
  sends_tell s (Ready peer kmac rb) user = (refl, refl, refl)
  sends_tell s (WaitAu1 ra) user = (refl, refl, refl)
  sends_tell s (WaitAu2 peer kmac rb) user = (refl, refl, refl)
  sends_tell s (WaitAu3 connection) user = (refl, refl, refl)
  sends_tell s (WaitAr connection) user = (refl, refl, refl)
  sends_tell s (Connected peer session) user = elim (cases_Bool (is_message user)) [
    | inl y ↦ rw y (refl, refl, refl)
    | inr n ↦ rw n (refl, refl, refl)
  ]
  sends_tell s (Released release session) user = (refl, refl, refl)

  disconnects_tell : (s : Safety) (p : Phase) (sub : ℕ) → s.phase ≡ p
      → (connected_by (safety.disconnects s p sub).1 ≡ None) × (accepted_safety_message (safety.disconnects s p sub).1 ≡ None) × (is_connected (safety.disconnects s p sub).0.phase ≡ false)
  disconnects_tell s (Ready peer kmac rb) sub e = (refl, refl, refl)
  disconnects_tell s (WaitAu1 ra) sub e = (refl, refl, refl)
  disconnects_tell s (WaitAu2 peer kmac rb) sub e = (refl, refl, refl)
  disconnects_tell s (WaitAu3 connection) sub e = (refl, refl, refl)
  disconnects_tell s (WaitAr connection) sub e = (refl, refl, refl)
  disconnects_tell s (Connected peer session) sub e = (refl, refl, refl)
  disconnects_tell s (Released release session) sub e = (refl, refl, ap is_connected e)

  -- ---- what the station tells

  up_good : (finds : Finds) (x : Core) → Fresh x → Good (finds x.moment) x.safe.safety (seen (on_link_up model x))
  up_good finds x f = elim (cases_Bool (model.may_connect x.upper && is_ready x.safe.safety.phase)) [
    | inr n ↦ rw n (fresh_good finds x f x refl)
    | inl y ↦
        let a : Safety × SafetyOutcome = step no_keys x.safe.safety ConnectRequest in
        let t = connects_tell x.safe.safety x.safe.safety.phase (right_part (model.may_connect x.upper) (is_ready x.safe.safety.phase) y) in
        let z : Core = with_safety_step model ConnectRequest a x in
        rw y (elim (cases_Bool (is_some_octets (octets_sent_in_outcome a.1))) [
          | inl some ↦ own_good (finds x.moment) x f ConnectRequest a refl t.0 t.1 stages.Calling (λ early. t.2) (connect_with_text model (octets_sent_in_outcome a.1) z) (rw some refl)
          | inr none ↦ own_good (finds x.moment) x f ConnectRequest a refl t.0 t.1 x.upper.transport.stage (λ early. t.2) (connect_with_text model (octets_sent_in_outcome a.1) z) (rw none refl)
        ])
  ]

  link_good : (finds : Finds) (payload : Option (List ℕ)) (up : Bool) (released : Option Release) (x : Core) → Fresh x
      → Good (finds x.moment) x.safe.safety (seen (on_link_told model finds payload up released x))
  link_good finds (Some payload) up released x f =
      let j = joining.block_step x.joined payload in
      block_good finds (record x { joined = j.0 }) (record { quiet = f.quiet; none = f.none; still = f.still; texts = f.texts; sane = f.sane }) j.1
  link_good finds None true released x f = up_good finds x f
  link_good finds None false (Some why) x f = fresh_good finds x f (with_release why x) refl
  link_good finds None false None x f = fresh_good finds x f x refl

  -- ---- the events

  concluded : (key_of : ℕ → ℕ → Option TripleKey) (s : Safety) (x : Core) → Good key_of s (seen x) → Good key_of s (seen (conclude_event model x))
  concluded key_of s x g = good_from key_of s (seen x) (seen (conclude_event model x)) (seen_concludes x) g

  -- where the end is released nothing comes
  unless_good : (key_of : ℕ → ℕ → Option TripleKey) (s : Safety) (r : Option Release) (x y : Core) → Good key_of s (seen x) → Good key_of s (seen y)
      → Good key_of s (seen (if is_some r then x else y))
  unless_good key_of s None x y g h = h
  unless_good key_of s (Some why) x y g h = g

  abbrev no_finds : Finds
  no_finds now = no_keys

  begins_fresh : (now : ℕ) (x : Core) → IsSane x → Fresh (new_event_at model now x)
  begins_fresh now x sane = record { quiet = refl; none = refl; still = refl; texts = refl; sane = sane }

  comes_speak : (finds : Finds) (now : ℕ) (verdict : Verdict) (x : Core) → IsSane x → SpeaksOnce (finds (max x.moment now)) x (step_frame model finds now verdict x)
  comes_speak finds now verdict x sane =
      let b : Core = new_event_at model now x in
      let key_of : ℕ → ℕ → Option TripleKey = finds (max x.moment now) in
      let f = begins_fresh now x sane in
      let d = model.told b.moment verdict b.line in
      let z : Core = record b { line = model.receives b.moment verdict b.line } in
      let g = link_good finds d.payload d.up d.released z (record { quiet = refl; none = refl; still = refl; texts = refl; sane = sane }) in
      speaks key_of x (step_frame model finds now verdict x)
      (unless_good key_of x.safe.safety x.released b (conclude_event model (on_link_told model finds d.payload d.up d.released z)) (fresh_good finds b f b refl)
      (concluded key_of x.safe.safety (on_link_told model finds d.payload d.up d.released z) g))

  starts_speak : (now : ℕ) (x : Core) → IsSane x → SpeaksOnce no_keys x (step_start model now x)
  starts_speak now x sane =
      let b : Core = new_event_at model now x in
      let f = begins_fresh now x sane in
      let z : Core = record b { line = model.starts b.moment b.line } in
      speaks no_keys x (step_start model now x)
      (unless_good no_keys x.safe.safety x.released b (conclude_event model z) (fresh_good no_finds b f b refl)
      (concluded no_keys x.safe.safety z (fresh_good no_finds b f z refl)))

  sends_speak : (now : ℕ) (user : List ℕ) (x : Core) → IsSane x → SpeaksOnce no_keys x (on_send model user (new_event_at model now x))
  sends_speak now user x sane =
      let b : Core = new_event_at model now x in
      let a : Safety × SafetyOutcome = step no_keys x.safe.safety (DataRequest user) in
      let t = sends_tell x.safe.safety x.safe.safety.phase user in
      let y : Core = with_safety_step model (DataRequest user) a b in
      let z : Core = record y { upper = model.sends y.upper user } in
      let g = own_good no_keys b (begins_fresh now x sane) (DataRequest user) a refl t.0 t.1 x.upper.transport.stage
      (λ early. ap (λ (s : Safety). is_connected s.phase) t.2 ∙ sane early) (hand_text model (octets_sent_in_outcome a.1) z) (seen_says (octets_sent_in_outcome a.1) z) in
      speaks no_keys x (on_send model user b) (concluded no_keys x.safe.safety (hand_text model (octets_sent_in_outcome a.1) z) g)

  uses_speak : (now : ℕ) (x : Core) → IsSane x → SpeaksOnce no_keys x (step_take model now x)
  uses_speak now x sane =
      let b : Core = new_event_at model now x in
      let f = begins_fresh now x sane in
      let z : Core = record b { upper = model.uses b.upper } in
      speaks no_keys x (step_take model now x) (elim (cases_Bool (length x.upper.accepted - x.upper.used == 0)) [
        | inl y ↦ rw y (fresh_good no_finds b f b refl)
        | inr n ↦ rw n (concluded no_keys x.safe.safety z (fresh_good no_finds b f z refl))
      ])

  leaves_speak : (now sub : ℕ) (x : Core) → IsSane x → SpeaksOnce no_keys x (step_release model now sub x)
  leaves_speak now sub x sane =
      let b : Core = new_event_at model now x in
      let f = begins_fresh now x sane in
      let a : Safety × SafetyOutcome = step no_keys x.safe.safety (DisconnectRequest sub) in
      let t = disconnects_tell x.safe.safety x.safe.safety.phase sub refl in
      let z : Core = with_safety_step model (DisconnectRequest sub) a b in
      let why : Release = release_of (User sub) in
      let y : Core = send_dr model why normal_disconnect (octets_sent_in_outcome a.1) z in
      speaks no_keys x (step_release model now sub x)
      (unless_good no_keys x.safe.safety x.released b y (fresh_good no_finds b f b refl)
      (own_good no_keys b f (DisconnectRequest sub) a refl t.0 t.1 x.upper.transport.stage (λ early. t.2) y (seen_departs why normal_disconnect (octets_sent_in_outcome a.1) z)))

  time_good : (given_up : Option Release) (x : Core) → Fresh x → Good no_keys x.safe.safety (seen (on_expiry model given_up x))
  time_good (Some why) x f = fresh_good no_finds x f (with_release why x) refl
  time_good None x f =
      let why : Release = release_of SetUpTimeSpent in
      let y : Core = send_dr model why normal_disconnect (di_of why x.safe.safety) x in
      unless_spent (is_spent x) y (fresh_good no_finds x f y (seen_departs why normal_disconnect (di_of why x.safe.safety) x))
    where
      unless_spent : (b : Bool) (y : Core) → Good no_keys x.safe.safety (seen y) → Good no_keys x.safe.safety (seen (if b then y else x))
      unless_spent true y g = g
      unless_spent false y g = fresh_good no_finds x f x refl

  ticks_speak : (now : ℕ) (x : Core) → IsSane x → SpeaksOnce no_keys x (step_tick model now x)
  ticks_speak now x sane =
      let b : Core = new_event_at model now x in
      let f = begins_fresh now x sane in
      let z : Core = record b { line = model.ticks b.moment b.line } in
      let y : Core = on_expiry model (model.given_up b.moment b.line) z in
      speaks no_keys x (step_tick model now x)
      (unless_good no_keys x.safe.safety x.released b (conclude_event model y) (fresh_good no_finds b f b refl)
      (concluded no_keys x.safe.safety y (time_good (model.given_up b.moment b.line) z (record { quiet = refl; none = refl; still = refl; texts = refl; sane = sane }))))

  breaks_speak : (cause : Cause) (x : Core) → IsSane x → SpeaksOnce no_keys x (step_break model cause x)
  breaks_speak cause x sane =
      let b : Core = new_event model x in
      let f = begun_fresh x sane in
      let y : Core = with_release (release_of cause) b in
      speaks no_keys x (step_break model cause x)
      (unless_good no_keys x.safe.safety x.released b y (fresh_good no_finds b f b refl) (fresh_good no_finds b f y refl))

  made_sane : (opening : End_opening) → IsSane (opened opening).core
  made_sane (Call settings me peer kmac rb now) early = refl
  made_sane (Answer settings me ra now) early = refl

  pub events_speak_once : EventsSpeakOnce
  events_speak_once = record {
    made = made_sane;
    starts = starts_speak;
    comes = comes_speak;
    sends = sends_speak;
    uses = uses_speak;
    leaves = leaves_speak;
    ticks = ticks_speak;
    breaks = breaks_speak;
  }
