-- A stack reports what its safety side did, and its safety side is connected only behind its transport.
use Rattle.std.proofs.Common.{◌≡◌, ℕ, zero, suc, if◌then◌else◌, true, false, Bool, List, [], ◌∷◌, ◌++◌, length, refl, sym, ap, subst, ◌∙◌, arith}
use Rattle.hdlc_station_model.specs.Receiving.{is_some_octets}
use Rattle.std.specs.Prelude.{◌+◌, ◌-◌, ◌%◌, ◌&&◌, ◌==◌, nat_lt, nat_le, not, Option, Some, None, is_some, Result, Ok, Err}
use Rattle.std.proofs.lemmas.Bool.{and_parts, lt-ltb}
use Rattle.er_base.specs.declared.release.Release.{Release}
use Rattle.er_base.specs.declared.cause.Cause.TheVariants.{User, BlockRefused, SetUpTimeSpent}
use Rattle.er_base.specs.Causes.{release_of, by_this_end}
use Rattle.des_block.specs.declared.triple_key.TripleKey.{TripleKey}
use Rattle.hdlc_frames.specs.Framing.{Verdict}
use Rattle.hdlc_station_model.specs.Stations.{Deed as LinkDeed}
use Rattle.t70_header.specs.Joining as joining
use Rattle.x224_tpdu.specs.declared.fault.TpFault.{TpFault}
use Rattle.x224_tpdu.specs.Spelling.{TransportPdu, connection_request, connection_confirm, disconnect_request, disconnect_confirm, data_tpdu, acknowledgement, tpdu_error}
use Rattle.x224_tpdu.specs.Function.{reading}
use Rattle.x224_class2.specs.Segments.{text_so_far}
use Rattle.x224_class2.specs.Tpdus.{GivenTpdu, Dr, Dc}
use Rattle.x224_class2.specs.Refusals.{protocol_error, message_too_long, tpdu_refused}
use Rattle.x224_class2.specs.declared.stage.Stage.{Stage}
use Rattle.x224_class2.specs.declared.stage.Stage.TheVariants as stage
use Rattle.x224_class2.specs.Transport.{Transport, ReceptionDeed, Nothing, Called, Confirmed, Message, Disconnected, is_new, is_calling, is_open, is_over, on_request, on_confirm, on_disconnect, is_expected, on_data, number_named, on_named, on_acknowledgement, on_reading, reception, TpduTurn, Rest, Opening, Acknowledgement, Data, turn_of, state_behind, with_given, next_tpdu, after_next}
use Rattle.x224_class2.specs.Transport as transport
use Rattle.sapdu.specs.Spelling.{di_in, SafetyPdu as SaPdu, Au1, Au2, header, body, spelling}
use Rattle.cbc_mac.specs.Mac.{mac_of}
use Rattle.safety_automaton.specs.Safety.{no_keys, Safety, Phase, Ready, WaitAu1, WaitAu2, WaitAu3, WaitAr, Connected, Released, SafetyEvent, ConnectRequest, Received, DataRequest, DisconnectRequest, SafetyOutcome, SentAu1, SentAu2, SentAu3, SentAr, ReceivedAr, AcceptedDt, SentDt, Refused, ReleasedLocally, ReleasedByPeer, NothingDone, flag_of, peer_flag, session_in, octets_sent_in_outcome, sends_dt, step, connects as begins_side, sends as sends_side, disconnects as disconnects_side}
use Rattle.safety_automaton.specs.Rules.{IsStep, StepsOnly, AtReceived, AtDisconnect, AtConnect, StaysIdle}
use Rattle.safety_automaton.specs.Laws.{KeysAreOwn, session_keys_of_outcome}
use Rattle.safety_automaton.specs.Reports.{KeptSafe, report_of}
use Rattle.safety_automaton.specs.Safety as refused
use Rattle.sapdu.specs.Messages.{is_message}
use Rattle.er_end_model.specs.Layers.{Spoken, Core, model}
use Rattle.er_end_model.specs.Steps.{Finds, new_event_at, with_release, hand_tpdu, close_link, send_owed_answer, send_dr, answer_dr, end_after_di, on_safety_release, why_of, with_safety_step, hand_text, skip_message, Carrier, InCr, InCc, InDt, hand_answer, keep_message, on_safety_report, on_text, on_transport_deed, on_joined_block, is_ready, connect_with_text, on_link_up, on_link_told, on_link_deed, hand_next_tpdu, has_next_tpdu, hand_waiting_tpdus, most_offers, conclude_event, step_start, step_frame, step_send_unless, step_take, step_release, is_spent, di_of, on_expiry, step_tick, normal_disconnect}
use Rattle.er_end_model.specs.Ends as ends_of
use Rattle.drill_model.specs.StackReports.{peer_by, user_by, Reports, ReportsAt, IsUnmet, AwaitsAu2, IsEarly, IsOrderly, OpensOrderly, CallsReport}

abbrev Good : Core → Type 0
Good x = IsOrderly x × ReportsAt x

if_core : (P : Core → Type 0) (b : Bool) (x y : Core) → P x → P y → P (if b then x else y)
if_core P true x y hx hy = hx
if_core P false x y hx hy = hy

if_known : (P : Core → Type 0) (b : Bool) (x y : Core) → (b ≡ true → P x) → (b ≡ false → P y) → P (if b then x else y)
if_known P true x y hx hy = hx refl
if_known P false x y hx hy = hy refl

-- a released end stays as it is, another goes on
unless_released : (P : Core → Type 0) (o : Option Release) (x y : Core) → P x → (o ≡ None → P y) → P (if is_some o then x else y)
unless_released P None x y hx hy = hy refl
unless_released P (Some why) x y hx hy = hx

-- what came to a release
vacuous : (x : Core) (why : Release) → x.released ≡ Some why → IsOrderly x
vacuous x why is none = absurd (cc)

departs_good : (why : Release) (reason : ℕ) (user : List ℕ) (x : Core) → ReportsAt x → Good (send_dr model why reason user x)
departs_good why reason user x h =
    (vacuous (send_dr model why reason user x) why refl, if_core (λ y. ReportsAt (with_release why (close_link model y))) (model.may_send x.line) (hand_tpdu model (Dr reason user) x) x h h)

cut_off_good : (why : Release) (x : Core) → ReportsAt x → Good (answer_dr model why x)
cut_off_good why x h =
    (vacuous (answer_dr model why x) why refl, if_core (λ y. ReportsAt (with_release why (send_owed_answer model y))) (model.may_send x.line) (hand_tpdu model Dc x) x h h)

parts_good : (why : Release) (di : List ℕ) (x : Core) → ReportsAt x → Good (on_safety_release model why di x)
parts_good why di x h =
    if_core Good why.by_peer (end_after_di model why x) (send_dr model why normal_disconnect di x) (vacuous (end_after_di model why x) why refl, h)
    (departs_good why normal_disconnect di x h)

-- an open transport
open_orderly : (x : Core) → x.upper.transport.stage ≡ stage.Open → IsOrderly x
open_orderly x is none = subst (λ (st : Stage). IsEarly st x.safe.safety.phase) (sym is) tt

-- octets that begin
some_cons : (octet : ℕ) (octets : List ℕ) → is_some_octets (octet ∷ octets) ≡ true
some_cons octet octets = lt-ltb 0 (length (octet ∷ octets)) (omega arith)

some_spelled : (pdu : SaPdu) (flag : Bool) → is_some_octets (spelling pdu flag) ≡ true
some_spelled pdu flag = some_cons (header pdu flag) (body pdu)

-- ---- what the safety side answers

-- an answer goes down, and tells nothing
answers_tell : (P : KeptSafe → Option ℕ → Option (List ℕ) → Option Spoken → Type 0) (carrier : Carrier) (text : List ℕ) (x : Core)
    → P x.safe x.connected x.upper.news x.upper.spoke
    → let y = hand_answer model carrier text x in P y.safe y.connected y.upper.news y.upper.spoke
answers_tell P InCr text x h = if_core (λ y. P y.safe y.connected y.upper.news y.upper.spoke) (is_some_octets text) (record x { upper = model.accepts x.upper text }) x h h
answers_tell P InCc text x h =
    if_core (λ y. P y.safe y.connected y.upper.news y.upper.spoke) (is_some_octets text && model.may_hand x.upper) (record x { upper = model.hands_message x.upper text }) x h h
answers_tell P InDt text x h =
    let y : Core = skip_message model x in
    if_core (λ y. P y.safe y.connected y.upper.news y.upper.spoke) (is_some_octets text && model.may_hand y.upper) (record y { upper = model.hands_message y.upper text }) y h h

-- the transport is open behind it: it was, or the call is accepted
abbrev StageFits : Carrier → List ℕ → Core → Type 0
StageFits InCr text x = is_some_octets text ≡ true
StageFits InCc text x = x.upper.transport.stage ≡ stage.Open
StageFits InDt text x = x.upper.transport.stage ≡ stage.Open

answers_open : (carrier : Carrier) (text : List ℕ) (x : Core) → StageFits carrier text x → (hand_answer model carrier text x).upper.transport.stage ≡ stage.Open
answers_open InCr text x some =
    if_known (λ y. y.upper.transport.stage ≡ stage.Open) (is_some_octets text) (record x { upper = model.accepts x.upper text }) x (λ yes_some. refl)
    (λ not_some. absurd (cc))
answers_open InCc text x is =
    if_core (λ y. y.upper.transport.stage ≡ stage.Open) (is_some_octets text && model.may_hand x.upper) (record x { upper = model.hands_message x.upper text }) x is is
answers_open InDt text x is =
    let y : Core = skip_message model x in
    if_core (λ y. y.upper.transport.stage ≡ stage.Open) (is_some_octets text && model.may_hand y.upper) (record y { upper = model.hands_message y.upper text }) y is is

-- what may come so
abbrev MayCome : Carrier → Core → SafetyOutcome → Type 0
MayCome InCr x (SentAu2 session sealed octets) = is_some_octets octets ≡ true
MayCome InCr x (ReleasedLocally release octets) = Unit {0}
MayCome InCr x (ReleasedByPeer release) = Unit {0}
MayCome InCr x o = ⊥
MayCome InCc x (AcceptedDt session user verified) = ⊥
MayCome InCc x o = x.upper.transport.stage ≡ stage.Open
MayCome InDt x o = x.upper.transport.stage ≡ stage.Open

-- where the keys are the side's
abbrev HasKeys : Safety → SafetyOutcome → Type 0
HasKeys s o = (session : TripleKey) → session_keys_of_outcome o ≡ Some session → session_in s.phase ≡ Some session

abbrev after_step : SafetyEvent → Safety → SafetyOutcome → Core → Core
after_step event s o x = with_safety_step model event (s, o) x

-- an outcome by which no one is connected and nothing accepted
step_reports : (event : SafetyEvent) (s : Safety) (o : SafetyOutcome) (x : Core) → x.connected ≡ peer_by o → x.upper.news ≡ user_by o → HasKeys s o
    → ReportsAt (after_step event s o x)
step_reports event s o x connected news keys = record { sealed_is = refl; verified_is = refl; connected_is = connected; accepted_is = news; keys_are = keys }

module _ (event : SafetyEvent) (s : Safety) (x : Core) (none : x.connected ≡ None) (no_news : x.upper.news ≡ None) where
  -- an answer goes down
  answered_good : (carrier : Carrier) (o : SafetyOutcome) (text : List ℕ) → peer_by o ≡ None → user_by o ≡ None → StageFits carrier text (after_step event s o x) → HasKeys s o
      → Good (hand_answer model carrier text (after_step event s o x))
  answered_good carrier o text no_peer no_user fits keys = (
    open_orderly (hand_answer model carrier text (after_step event s o x)) (answers_open carrier text (after_step event s o x) fits),
    answers_tell Reports carrier text (after_step event s o x) (step_reports event s o x (none ∙ sym no_peer) (no_news ∙ sym no_user) keys),
  )

  -- and the side is connected
  connected_good : (carrier : Carrier) (o : SafetyOutcome) (peer : ℕ) (text : List ℕ) → peer_by o ≡ Some peer → user_by o ≡ None
      → StageFits carrier text (after_step event s o x) → HasKeys s o
      → Good (record (hand_answer model carrier text (after_step event s o x)) { connected = Some peer })
  connected_good carrier o peer text is_peer no_user fits keys =
      let y : Core = record (hand_answer model carrier text (after_step event s o x)) { connected = Some peer } in (
        open_orderly y (answers_open carrier text (after_step event s o x) fits),
        answers_tell (λ safe connected news spoke. Reports safe (Some peer) news spoke) carrier text (after_step event s o x)
            (record { sealed_is = refl; verified_is = refl; connected_is = sym is_peer; accepted_is = no_news ∙ sym no_user; keys_are = keys }),
      )

  quiet : (o : SafetyOutcome) → peer_by o ≡ None → user_by o ≡ None → HasKeys s o → ReportsAt (after_step event s o x)
  quiet o no_peer no_user keys = step_reports event s o x (none ∙ sym no_peer) (no_news ∙ sym no_user) keys

  ignored_good : (o : SafetyOutcome) → x.upper.transport.stage ≡ stage.Open → peer_by o ≡ None → user_by o ≡ None → HasKeys s o → Good (after_step event s o x)
  ignored_good o is no_peer no_user keys = (open_orderly (after_step event s o x) is, quiet o no_peer no_user keys)

  acts_good : (carrier : Carrier) (o : SafetyOutcome) → MayCome carrier x o → HasKeys s o
      → Good (on_safety_report model carrier (report_of o) (octets_sent_in_outcome o) (after_step event s o x))
  acts_good InCr (SentAu2 session sealed octets) may keys = answered_good InCr (SentAu2 session sealed octets) octets refl refl may keys
  acts_good carrier (ReleasedLocally release octets) may keys = parts_good release octets (after_step event s (ReleasedLocally release octets) x) (quiet (ReleasedLocally release octets) refl refl keys)
  acts_good carrier (ReleasedByPeer release) may keys = parts_good release [] (after_step event s (ReleasedByPeer release) x) (quiet (ReleasedByPeer release) refl refl keys)
  acts_good InCr o may keys = absurd may
  acts_good InCc (AcceptedDt session user verified) may keys = absurd may
  acts_good InDt (AcceptedDt session user verified) may keys = (
    open_orderly (keep_message model InDt user (after_step event s (AcceptedDt session user verified) x)) may,
    record { sealed_is = refl; verified_is = refl; connected_is = none; accepted_is = refl; keys_are = keys },
  )
  acts_good InCc (SentAu1 octets) may keys = ignored_good (SentAu1 octets) may refl refl keys
  acts_good InCc (SentAu2 session sealed octets) may keys = answered_good InCc (SentAu2 session sealed octets) octets refl refl may keys
  acts_good InCc (SentAu3 session verified sealed octets) may keys = answered_good InCc (SentAu3 session verified sealed octets) octets refl refl may keys
  acts_good InCc (SentAr c verified sealed octets) may keys = connected_good InCc (SentAr c verified sealed octets) c.peer octets refl refl may keys
  acts_good InCc (ReceivedAr c verified) may keys = connected_good InCc (ReceivedAr c verified) c.peer [] refl refl may keys
  acts_good InCc (SentDt session user sealed octets) may keys = ignored_good (SentDt session user sealed octets) may refl refl keys
  acts_good InCc (Refused refusal) may keys = ignored_good (Refused refusal) may refl refl keys
  acts_good InCc NothingDone may keys = ignored_good NothingDone may refl refl keys
  acts_good InDt (SentAu1 octets) may keys = ignored_good (SentAu1 octets) may refl refl keys
  acts_good InDt (SentAu2 session sealed octets) may keys = answered_good InDt (SentAu2 session sealed octets) octets refl refl may keys
  acts_good InDt (SentAu3 session verified sealed octets) may keys = answered_good InDt (SentAu3 session verified sealed octets) octets refl refl may keys
  acts_good InDt (SentAr c verified sealed octets) may keys = connected_good InDt (SentAr c verified sealed octets) c.peer octets refl refl may keys
  acts_good InDt (ReceivedAr c verified) may keys = connected_good InDt (ReceivedAr c verified) c.peer [] refl refl may keys
  acts_good InDt (SentDt session user sealed octets) may keys = ignored_good (SentDt session user sealed octets) may refl refl keys
  acts_good InDt (Refused refusal) may keys = ignored_good (Refused refusal) may refl refl keys
  acts_good InDt NothingDone may keys = ignored_good NothingDone may refl refl keys

-- how far the side is where a text comes so
abbrev SideFits : Carrier → Phase → Type 0
SideFits InCr phase = IsUnmet phase
SideFits InCc phase = AwaitsAu2 phase
SideFits InDt phase = Unit {0}

abbrev StageComes : Carrier → Core → Type 0
StageComes InCr x = Unit {0}
StageComes InCc x = x.upper.transport.stage ≡ stage.Open
StageComes InDt x = x.upper.transport.stage ≡ stage.Open

module _ (only : StepsOnly) (own : KeysAreOwn) where
  idle_unmet : (s : Safety) (text : List ℕ) (next : Safety) → StaysIdle s (Received text) next → IsUnmet s.phase → ⊥
  idle_unmet s text next (AtReceived octets release session e p n) unmet = subst IsUnmet p unmet
  idle_unmet s text next (AtDisconnect sub release session e p n) unmet = cc
  idle_unmet s text next (AtConnect e ready n) unmet = cc

  may_come : (carrier : Carrier) (x : Core) (key_of : ℕ → ℕ → Option TripleKey) (s : Safety) (text : List ℕ) (next : Safety) (o : SafetyOutcome)
      → IsStep key_of s (Received text) next o → SideFits carrier s.phase → StageComes carrier x → MayCome carrier x o
  may_come InCr x key_of s text next (SentAu1 octets) row unmet is = absurd (not_connect text row.event_is)
    where
      not_connect : (text : List ℕ) → Received text ≡ ConnectRequest → ⊥
      not_connect text e = cc
  may_come InCr x key_of s text next (SentAu2 session sealed octets) row unmet is = subst (λ (os : List ℕ). is_some_octets os ≡ true) (sym row.octets_is) (some_spelled (Au2 s.me 1 row.connection.ra (mac_of session sealed)) (flag_of s.role))
  may_come InCr x key_of s text next (SentAu3 session verified sealed octets) row unmet is = absurd (subst IsUnmet row.waits unmet)
  may_come InCr x key_of s text next (SentAr c verified sealed octets) row unmet is = absurd (subst IsUnmet row.waits unmet)
  may_come InCr x key_of s text next (ReceivedAr c verified) row unmet is = absurd (subst IsUnmet row.waits unmet)
  may_come InCr x key_of s text next (AcceptedDt session user verified) row unmet is = absurd (subst IsUnmet row.connected unmet)
  may_come InCr x key_of s text next (SentDt session user sealed octets) row unmet is = absurd (subst IsUnmet row.connected unmet)
  may_come InCr x key_of s text next (Refused refusal) row unmet is = absurd (not_data text row.user row.event_is)
    where
      not_data : (text user : List ℕ) → Received text ≡ DataRequest user → ⊥
      not_data text user e = cc
  may_come InCr x key_of s text next (ReleasedLocally release octets) row unmet is = tt
  may_come InCr x key_of s text next (ReleasedByPeer release) row unmet is = tt
  may_come InCr x key_of s text next NothingDone row unmet is = absurd (idle_unmet s text next row unmet)
  may_come InCc x key_of s text next (AcceptedDt session user verified) row awaits is = subst AwaitsAu2 row.connected awaits
  may_come InCc x key_of s text next (SentAu1 octets) row awaits is = is
  may_come InCc x key_of s text next (SentAu2 session sealed octets) row awaits is = is
  may_come InCc x key_of s text next (SentAu3 session verified sealed octets) row awaits is = is
  may_come InCc x key_of s text next (SentAr c verified sealed octets) row awaits is = is
  may_come InCc x key_of s text next (ReceivedAr c verified) row awaits is = is
  may_come InCc x key_of s text next (SentDt session user sealed octets) row awaits is = is
  may_come InCc x key_of s text next (Refused refusal) row awaits is = is
  may_come InCc x key_of s text next (ReleasedLocally release octets) row awaits is = is
  may_come InCc x key_of s text next (ReleasedByPeer release) row awaits is = is
  may_come InCc x key_of s text next NothingDone row awaits is = is
  may_come InDt x key_of s text next o row fits is = is

  -- between two steps nothing was told
  abbrev Silent : Core → Type 0
  Silent x = (x.connected ≡ None) × (x.upper.news ≡ None) × ReportsAt x

  text_good : (finds : Finds) (carrier : Carrier) (text : List ℕ) (x : Core) → SideFits carrier x.safe.safety.phase → StageComes carrier x → Silent x
      → Good (on_text model finds carrier text x)
  text_good finds carrier text x side is silent =
      let key_of : ℕ → ℕ → Option TripleKey = finds x.moment in
      let a : Safety × SafetyOutcome = step key_of x.safe.safety (Received text) in
      acts_good (Received text) a.0 x silent.0 silent.1 carrier a.1
      (may_come carrier x key_of x.safe.safety text a.0 a.1 (only key_of x.safe.safety (Received text)) side is)
      (own key_of x.safe.safety (Received text))

-- ---- what the transport makes of a TPDU

-- the stages before and behind a reception, by what it comes to
abbrev Turned : (old new : Stage) → ReceptionDeed → Type 0
Turned old new Nothing = new ≡ old
Turned old new (Called user) = old ≡ stage.New
Turned old new (Confirmed user) = (old ≡ stage.Calling) × (new ≡ stage.Open)
Turned old new (Message message) = new ≡ stage.Open
Turned old new (Disconnected user) = Unit {0}
Turned old new (transport.Refused sub reason) = Unit {0}

abbrev TurnedTo : Transport → Transport × ReceptionDeed → Type 0
TurnedTo t a = Turned t.stage a.0.stage a.1

if_turned : (t : Transport) (b : Bool) (x y : Transport × ReceptionDeed) → (b ≡ true → TurnedTo t x) → (b ≡ false → TurnedTo t y) → TurnedTo t (if b then x else y)
if_turned t true x y hx hy = hx refl
if_turned t false x y hx hy = hy refl

new_is : (st : Stage) → is_new st ≡ true → st ≡ stage.New
new_is stage.New e = refl
new_is stage.Calling e = absurd (cc)
new_is stage.Called e = absurd (cc)
new_is stage.Open e = absurd (cc)
new_is stage.Over e = absurd (cc)

calling_is : (st : Stage) → is_calling st ≡ true → st ≡ stage.Calling
calling_is stage.New e = absurd (cc)
calling_is stage.Calling e = refl
calling_is stage.Called e = absurd (cc)
calling_is stage.Open e = absurd (cc)
calling_is stage.Over e = absurd (cc)

open_is : (st : Stage) → is_open st ≡ true → st ≡ stage.Open
open_is stage.New e = absurd (cc)
open_is stage.Calling e = absurd (cc)
open_is stage.Called e = absurd (cc)
open_is stage.Open e = refl
open_is stage.Over e = absurd (cc)

request_turns : (t : Transport) (credit dst src size : ℕ) (user : List ℕ) → TurnedTo t (on_request t credit dst src size user)
request_turns t credit dst src size user =
    if_turned t (not t.is_caller && is_new t.stage && (dst == 0) && (src == 1)) _ (transport.refusal_of_tpdu t tpdu_refused protocol_error)
    (λ may. new_is t.stage (second (not t.is_caller) (is_new t.stage) (dst == 0) (src == 1) may)) (λ not_may. tt)
  where
    second : (a b c d : Bool) → (a && b && c && d) ≡ true → b ≡ true
    second true true c d e = refl
    second true false c d e = absurd (cc)
    second false b c d e = absurd (cc)

confirm_turns : (t : Transport) (credit dst src size : ℕ) (user : List ℕ) → TurnedTo t (on_confirm t credit dst src size user)
confirm_turns t credit dst src size user =
    if_turned t (is_calling t.stage && (dst == 1) && (src == 1) && nat_le size t.size) _ (transport.refusal_of_tpdu t tpdu_refused protocol_error)
    (λ may. (calling_is t.stage (first (is_calling t.stage) (dst == 1) (src == 1) (nat_le size t.size) may), refl)) (λ not_may. tt)
  where
    first : (a b c d : Bool) → (a && b && c && d) ≡ true → a ≡ true
    first true b c d e = refl
    first false b c d e = absurd (cc)

disconnect_turns : (t : Transport) (dst src : ℕ) (user : List ℕ) → TurnedTo t (on_disconnect t dst src user)
disconnect_turns t dst src user =
    if_turned t (not (is_new t.stage) && (dst == 1) && (src == 1)) _ (transport.refusal_of_tpdu t tpdu_refused protocol_error) (λ may. tt) (λ not_may. tt)

last_turns : (t : Transport) (last : Bool) (text : List ℕ) → t.stage ≡ stage.Open → Turned t.stage t.stage (if last then Message text else Nothing)
last_turns t true text is = is
last_turns t false text is = refl

data_turns : (t : Transport) (dst : ℕ) (last : Bool) (number : ℕ) (user : List ℕ) → TurnedTo t (on_data t dst last number user)
data_turns t dst last number user =
    if_turned t (not (is_expected t dst number user)) (transport.refusal_of_tpdu t tpdu_refused protocol_error) _ (λ not_expected. tt)
    (λ expected. if_turned t (nat_lt 1032 (length (text_so_far t.contents ++ user))) (transport.refusal_of_tpdu t message_too_long protocol_error) _ (λ long. tt)
    (λ short. last_turns t last (text_so_far t.contents ++ user)
    (open_is t.stage (first (is_open t.stage) (dst == 1) (number == length t.contents % 128) (nat_lt (length t.contents) (t.newest + t.credit)) (nat_le (length user) (t.size - 5)) (negated (is_expected t dst number user) expected)))))
  where
    first : (a b c d e : Bool) → (a && b && c && d && e) ≡ true → a ≡ true
    first true b c d e is = refl
    first false b c d e is = absurd (cc)

    negated : (b : Bool) → not b ≡ false → b ≡ true
    negated true e = refl
    negated false e = absurd (cc)

named_turns : (t : Transport) (credit : ℕ) (named : Option ℕ) → TurnedTo t (on_named t credit named)
named_turns t credit None = tt
named_turns t credit (Some n) = if_turned t (nat_lt (n + credit) t.edge) (transport.refusal_of_tpdu t tpdu_refused protocol_error) _ (λ below. tt) (λ above. refl)

acknowledgement_turns : (t : Transport) (credit dst number : ℕ) → TurnedTo t (on_acknowledgement t credit dst number)
acknowledgement_turns t credit dst number =
    if_turned t (is_open t.stage && (dst == 1)) (on_named t credit (number_named t.acked (t.given - t.acked) number)) (transport.refusal_of_tpdu t tpdu_refused protocol_error)
    (λ may. named_turns t credit (number_named t.acked (t.given - t.acked) number)) (λ not_may. tt)

reading_turns : (t : Transport) (r : Result TransportPdu TpFault) → TurnedTo t (on_reading t r)
reading_turns t (Ok (connection_request credit dst src size user)) = request_turns t credit dst src size user
reading_turns t (Ok (connection_confirm credit dst src size user)) = confirm_turns t credit dst src size user
reading_turns t (Ok (disconnect_request dst src reason user)) = disconnect_turns t dst src user
reading_turns t (Ok (disconnect_confirm dst src)) = tt
reading_turns t (Ok (data_tpdu dst last number user)) = data_turns t dst last number user
reading_turns t (Ok (acknowledgement credit dst number)) = acknowledgement_turns t credit dst number
reading_turns t (Ok (tpdu_error dst cause)) = tt
reading_turns t (Err fault) = tt

reception_turns : (t : Transport) (octets : List ℕ) → TurnedTo t (reception t octets)
reception_turns t octets = if_turned t (is_over t.stage) (t, Nothing) (on_reading t (reading octets)) (λ over. refl) (λ live. reading_turns t (reading octets))

-- giving a TPDU leaves the stage
given_stage : (t : Transport) (tpdu : Option GivenTpdu) → (with_given t tpdu).stage ≡ t.stage
given_stage t None = refl
given_stage t (Some tpdu) = refl

behind_stage : (t : Transport) (turn : TpduTurn) → (state_behind t turn).stage ≡ t.stage
behind_stage t Rest = refl
behind_stage t (Opening user) = refl
behind_stage t Acknowledgement = refl
behind_stage t Data = refl

next_stage : (t : Transport) → (after_next t).stage ≡ t.stage
next_stage t = given_stage (state_behind t (turn_of t)) (next_tpdu t) ∙ behind_stage t (turn_of t)

-- ---- the events

same_orderly : (x y : Core) → y.released ≡ x.released → y.upper.transport.stage ≡ x.upper.transport.stage → y.safe.safety.phase ≡ x.safe.safety.phase → IsOrderly x → IsOrderly y
same_orderly x y released staged phased h none =
    subst (λ (p : Phase). IsEarly y.upper.transport.stage p) (sym phased) (subst (λ (st : Stage). IsEarly st x.safe.safety.phase) (sym staged) (h (sym released ∙ none)))

offers_good : (n : ℕ) (x : Core) → Good x → Good (hand_waiting_tpdus model n x)
unfolding hand_waiting_tpdus
offers_good zero x h = h
offers_good (suc n) x h =
    if_core Good (has_next_tpdu model x) (hand_waiting_tpdus model n (hand_next_tpdu model x)) x
    (offers_good n (hand_next_tpdu model x) (same_orderly x (hand_next_tpdu model x) refl (next_stage x.upper.transport) refl h.0, h.1)) h

concludes_good : (x : Core) → Good x → Good (conclude_event model x)
concludes_good x h =
    if_core Good (is_some x.released) x (send_owed_answer model (hand_waiting_tpdus model most_offers x)) h (offers_good most_offers x h)

begun_reports : (now : ℕ) (x : Core) → ReportsAt (new_event_at model now x)
begun_reports now x = record { sealed_is = refl; verified_is = refl; connected_is = refl; accepted_is = refl; keys_are = λ session none. absurd (cc) }

begun_good : (now : ℕ) (x : Core) → IsOrderly x → Good (new_event_at model now x)
begun_good now x h = (same_orderly x (new_event_at model now x) refl refl refl h, begun_reports now x)

starts_good : (now : ℕ) (x : Core) → IsOrderly x → Good (step_start model now x)
starts_good now x h =
    let y : Core = new_event_at model now x in
    let z : Core = record y { line = model.starts y.moment y.line } in
    if_core Good (is_some y.released) y (conclude_event model z) (begun_good now x h) (concludes_good z (begun_good now x h))

module _ (only : StepsOnly) (own : KeysAreOwn) where
  -- what the transport made of it
  does_good : (finds : Finds) (deed : ReceptionDeed) (x : Core) (old : Stage) → Turned old x.upper.transport.stage deed → IsEarly old x.safe.safety.phase → x.released ≡ None
      → (x.connected ≡ None) × (x.upper.news ≡ None) × ReportsAt x → Good (on_transport_deed model finds deed x)
  does_good finds Nothing x old turned early live silent = (λ none. subst (λ (st : Stage). IsEarly st x.safe.safety.phase) (sym turned) early, silent.2)
  does_good finds (Called user) x old turned early live silent =
      text_good only own finds InCr user x (subst (λ (st : Stage). IsEarly st x.safe.safety.phase) turned early) tt silent
  does_good finds (Confirmed user) x old turned early live silent =
      text_good only own finds InCc user x (subst (λ (st : Stage). IsEarly st x.safe.safety.phase) turned.0 early) turned.1 silent
  does_good finds (Message message) x old turned early live silent = text_good only own finds InDt message x tt turned silent
  does_good finds (Disconnected user) x old turned early live silent = cut_off_good (why_of (di_in user (peer_flag x.safe.safety))) x silent.2
  does_good finds (transport.Refused sub reason) x old turned early live silent = departs_good (by_this_end 2 sub) reason [] x silent.2

  block_good : (finds : Finds) (answer : joining.BlockJoiningResult) (x : Core) → IsOrderly x → x.released ≡ None
      → (x.connected ≡ None) × (x.upper.news ≡ None) × ReportsAt x → Good (on_joined_block model finds answer x)
  block_good finds (Ok None) x orderly live silent = (orderly, silent.2)
  block_good finds (Ok (Some tpdu)) x orderly live silent =
      does_good finds (model.deed x.upper tpdu) (record x { upper = model.hears x.upper tpdu }) x.upper.transport.stage (reception_turns x.upper.transport tpdu) (orderly live) live silent
  block_good finds (Err fault) x orderly live silent = departs_good (release_of BlockRefused) protocol_error [] x silent.2

  -- the caller connects
  connect_good : (x : Core) (phase : Phase) → is_ready phase ≡ true → (x.connected ≡ None) × (x.upper.news ≡ None) × ReportsAt x
      → let a = begins_side x.safe.safety phase in Good (connect_with_text model (octets_sent_in_outcome a.1) (with_safety_step model ConnectRequest a x))
  connect_good x (Ready peer kmac rb) ready silent =
      let s : Safety = record (x.safe.safety) { phase = WaitAu2 peer kmac rb } in
      let octets : List ℕ = spelling (Au1 x.safe.safety.me 1 rb) (flag_of x.safe.safety.role) in
      let z : Core = after_step ConnectRequest s (SentAu1 octets) x in
      let told : ReportsAt z = step_reports ConnectRequest s (SentAu1 octets) x silent.0 silent.1 (λ session none. absurd (cc)) in
      if_known Good (is_some_octets octets) (record z { upper = model.connects z.upper octets }) z (λ is. (λ none. tt, told))
      (λ none. absurd (clash (is_some_octets octets) (some_spelled (Au1 x.safe.safety.me 1 rb) (flag_of x.safe.safety.role)) none))
    where
      clash : (b : Bool) → b ≡ true → b ≡ false → ⊥
      clash b is none = cc
  connect_good x (WaitAu1 ra) ready silent = absurd (cc)
  connect_good x (WaitAu2 peer kmac rb) ready silent = absurd (cc)
  connect_good x (WaitAu3 connection) ready silent = absurd (cc)
  connect_good x (WaitAr connection) ready silent = absurd (cc)
  connect_good x (Connected peer session) ready silent = absurd (cc)
  connect_good x (Released release session) ready silent = absurd (cc)

  comes_up_good : (x : Core) → IsOrderly x → (x.connected ≡ None) × (x.upper.news ≡ None) × ReportsAt x → Good (on_link_up model x)
  comes_up_good x orderly silent =
      if_known Good (model.may_connect x.upper && is_ready x.safe.safety.phase)
      (connect_with_text model (octets_sent_in_outcome (step no_keys x.safe.safety ConnectRequest).1) (with_safety_step model ConnectRequest (step no_keys x.safe.safety ConnectRequest) x)) x
      (λ may. connect_good x x.safe.safety.phase (and_parts (model.may_connect x.upper) (is_ready x.safe.safety.phase) may).1 silent) (λ not_may. (orderly, silent.2))

  link_good : (finds : Finds) (payload : Option (List ℕ)) (up : Bool) (why : Option Release) (x : Core) → IsOrderly x → x.released ≡ None
      → (x.connected ≡ None) × (x.upper.news ≡ None) × ReportsAt x → Good (on_link_told model finds payload up why x)
  link_good finds (Some payload) up why x orderly live silent =
      block_good finds (joining.block_step x.joined payload).1 (record x { joined = (joining.block_step x.joined payload).0 }) orderly live silent
  link_good finds None true why x orderly live silent = comes_up_good x orderly silent
  link_good finds None false (Some why) x orderly live silent = (vacuous (with_release why x) why refl, silent.2)
  link_good finds None false None x orderly live silent = (orderly, silent.2)

  comes_good : (finds : Finds) (now : ℕ) (verdict : Verdict) (x : Core) → IsOrderly x → Good (step_frame model finds now verdict x)
  comes_good finds now verdict x h =
      let y : Core = new_event_at model now x in
      let z : Core = record y { line = model.receives y.moment verdict y.line } in
      let deed : LinkDeed = model.told y.moment verdict y.line in
      unless_released Good y.released y (conclude_event model (on_link_deed model finds deed z)) (begun_good now x h)
      (λ live. concludes_good (on_link_deed model finds deed z)
      (link_good finds deed.payload deed.up deed.released z (begun_good now x h).0 live (refl, refl, begun_reports now x)))

  -- a send leaves the side as it is, and tells no peer and no message
  send_quiet : (s : Safety) (phase : Phase) (user : List ℕ)
      → let a = sends_side s phase user in (a.0 ≡ s) × (peer_by a.1 ≡ None) × (user_by a.1 ≡ None)
  send_quiet s (Released release session) user = (refl, refl, refl)
  send_quiet s (Connected peer session) user = message_quiet (not (is_message user)) s peer session user
    where
      message_quiet : (b : Bool) (s : Safety) (peer : ℕ) (session : TripleKey) (user : List ℕ)
          → let a = (if b then (s, Refused (refused.RefusedLength (length user))) else sends_dt s peer session user) in
          (a.0 ≡ s) × (peer_by a.1 ≡ None) × (user_by a.1 ≡ None)
      message_quiet true s peer session user = (refl, refl, refl)
      message_quiet false s peer session user = (refl, refl, refl)
  send_quiet s (Ready peer kmac rb) user = (refl, refl, refl)
  send_quiet s (WaitAu1 ra) user = (refl, refl, refl)
  send_quiet s (WaitAu2 peer kmac rb) user = (refl, refl, refl)
  send_quiet s (WaitAu3 connection) user = (refl, refl, refl)
  send_quiet s (WaitAr connection) user = (refl, refl, refl)

  says_good : (text : List ℕ) (x : Core) → Good x → Good (hand_text model text x)
  says_good text x h = if_core Good (is_some_octets text && model.may_hand x.upper) (record x { upper = model.hands_message x.upper text }) x h h

  sends_good : (now : ℕ) (user : List ℕ) (x : Core) → IsOrderly x → Good (step_send_unless model None now user x)
  sends_good now user x h =
      let y : Core = new_event_at model now x in
      let s : Safety = y.safe.safety in
      let a : Safety × SafetyOutcome = step no_keys s (DataRequest user) in
      let z : Core = record (with_safety_step model (DataRequest user) a y) { upper = model.sends (with_safety_step model (DataRequest user) a y).upper user } in
      let quiet = send_quiet s s.phase user in
      concludes_good (hand_text model (octets_sent_in_outcome a.1) z) (says_good (octets_sent_in_outcome a.1) z (
        same_orderly y z refl refl (ap (λ (t : Safety). t.phase) quiet.0) (begun_good now x h).0,
        step_reports (DataRequest user) a.0 a.1 y (sym quiet.1) (sym quiet.2) (own no_keys s (DataRequest user)),
      ))

  uses_good : (now : ℕ) (x : Core) → IsOrderly x → Good (step_take model now x)
  uses_good now x h =
      let y : Core = new_event_at model now x in
      let z : Core = record y { upper = model.uses y.upper } in
      if_core Good (model.untaken y.upper == 0) y (conclude_event model z) (begun_good now x h) (concludes_good z (begun_good now x h))

  leave_quiet : (s : Safety) (phase : Phase) (sub : ℕ) → let a = disconnects_side s phase sub in (peer_by a.1 ≡ None) × (user_by a.1 ≡ None)
  leave_quiet s (Released release session) sub = (refl, refl)
  leave_quiet s (Ready peer kmac rb) sub = (refl, refl)
  leave_quiet s (WaitAu1 ra) sub = (refl, refl)
  leave_quiet s (WaitAu2 peer kmac rb) sub = (refl, refl)
  leave_quiet s (WaitAu3 connection) sub = (refl, refl)
  leave_quiet s (WaitAr connection) sub = (refl, refl)
  leave_quiet s (Connected peer session) sub = (refl, refl)

  leaves_good : (now sub : ℕ) (x : Core) → IsOrderly x → Good (step_release model now sub x)
  leaves_good now sub x h =
      let y : Core = new_event_at model now x in
      let s : Safety = y.safe.safety in
      let a : Safety × SafetyOutcome = step no_keys s (DisconnectRequest sub) in
      let z : Core = with_safety_step model (DisconnectRequest sub) a y in
      let quiet = leave_quiet s s.phase sub in
      if_core Good (is_some y.released) y (send_dr model (release_of (User sub)) normal_disconnect (octets_sent_in_outcome a.1) z) (begun_good now x h)
      (departs_good (release_of (User sub)) normal_disconnect (octets_sent_in_outcome a.1) z
      (step_reports (DisconnectRequest sub) a.0 a.1 y (sym quiet.0) (sym quiet.1) (own no_keys s (DisconnectRequest sub))))

  time_good : (why : Option Release) (x : Core) → Good x → Good (on_expiry model why x)
  time_good (Some why) x h = (vacuous (with_release why x) why refl, h.1)
  time_good None x h =
      let why : Release = release_of SetUpTimeSpent in
      if_core Good (is_spent x) (send_dr model why normal_disconnect (di_of why x.safe.safety) x) x (departs_good why normal_disconnect (di_of why x.safe.safety) x h.1) h

  ticks_good : (now : ℕ) (x : Core) → IsOrderly x → Good (step_tick model now x)
  ticks_good now x h =
      let y : Core = new_event_at model now x in
      let z : Core = record y { line = model.ticks y.moment y.line } in
      let why : Option Release = model.given_up y.moment y.line in
      if_core Good (is_some y.released) y (conclude_event model (on_expiry model why z)) (begun_good now x h)
      (concludes_good (on_expiry model why z) (time_good why z (begun_good now x h)))

  pub calls_report : CallsReport
  calls_report x h = (
    λ now. starts_good now x h,
    λ finds now verdict. comes_good finds now verdict x h,
    λ now user. sends_good now user x h,
    λ now. uses_good now x h,
    λ now sub. leaves_good now sub x h,
    λ now. ticks_good now x h,
  )

pub opens_orderly : OpensOrderly
opens_orderly (ends_of.Call settings me peer kmac rb now) none = tt
opens_orderly (ends_of.Answer settings me ra now) none = tt
