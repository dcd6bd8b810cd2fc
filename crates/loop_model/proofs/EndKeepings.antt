-- What an event leaves of an end of the end model: the messages that wait, and a release.
use Rattle.std.proofs.Common.{◌≡◌, inl, inr, ◌+◌, ◌-◌, ◌≤◌, ◌∙◌, ℕ, zero, suc, Bool, true, false, ◌&&◌, List, [], ◌∷◌, ◌++◌, length, take, drop, Option, Some, None, Ok, Err, refl, sym, ap, subst, arith, append-nil, length-drop, eqb-true, true≢false}
use Rattle.hdlc_station_model.specs.Receiving.{is_some_octets}
use Rattle.std.specs.Prelude.{if◌then◌else◌, ◌==◌, is_some}
use Rattle.std.specs.Option.{option_to_list}
use Rattle.std.proofs.lemmas.Bool.{cases_Bool}
use Rattle.er_base.specs.declared.release.Release.{Release}
use Rattle.er_base.specs.declared.cause.Cause.{Cause}
use Rattle.er_base.specs.Causes.{release_of, by_this_end}
use Rattle.er_base.specs.declared.cause.Cause.TheVariants.{User, BlockRefused, SetUpTimeSpent, LineEnded, LineFailed, LineStalled}
use Rattle.hdlc_frames.specs.Framing.{Verdict}
use Rattle.hdlc_frames.specs.Deframing.{has_verdicts}
use Rattle.hdlc_station_model.specs.Events.{news}
use Rattle.t70_header.specs.Joining as joining
use Rattle.x224_class2.specs.Refusals.{protocol_error}
use Rattle.x224_class2.specs.Tpdus.{GivenTpdu, Dr, Dc}
use Rattle.x224_class2.specs.Transport.{ReceptionDeed, Nothing, Called, Confirmed, Message, Disconnected}
use Rattle.x224_class2.specs.Transport as transport
use Rattle.sapdu.specs.Spelling.{di_in}
use Rattle.safety_automaton.specs.Safety.{no_keys, ConnectRequest, Received, DataRequest, DisconnectRequest, octets_sent_in_outcome, peer_flag, step}
use Rattle.safety_automaton.specs.Reports.{Report, ToldAnswered, ToldConnected, ToldAccepted, ToldReleased, ToldIgnored, report_of}
use Rattle.er_end_model.specs.Outcomes.{Outcome, ConnectedTo, Accepted, Taken, NothingToTake, Refused, WasReleased, Octets, SendRefusal}
use Rattle.er_end_model.specs.Laws.{ReleasedRest}
use Rattle.er_end_model.specs.Layers.{Core, model}
use Rattle.er_end_model.specs.Steps.{Finds, new_event, new_event_at, hand_tpdu_if_may, send_dr, answer_dr, on_safety_release, why_of, with_safety_step, hand_text, accept_text, Carrier, InCr, InCc, InDt, hand_answer, on_safety_report, on_text, on_transport_deed, on_joined_block, is_ready, connect_with_text, on_link_up, on_link_told, hand_next_tpdu, has_next_tpdu, hand_waiting_tpdus, most_offers, conclude_event, on_frame, step_frame, refusal_of, on_send, step_send_unless, on_take, on_release, normal_disconnect, is_spent, di_of, on_expiry, on_tick, on_break, on_start, outcomes_of, if_connected, if_accepted, if_released, if_octets, if_taken}
use Rattle.er_end_model.specs.Ends.{Event, Start, Come, Send, Take, Leave, Tick, Ended, Fault, Stalled, refusal_or_outcomes, End, Opening, opened, hears_each, told_of_each}
use Rattle.er_end_model.specs.Ends as ends
use Rattle.loop_model.specs.Ends.{model_ends, used_behind, octet_count_used_by_end, used_part}

-- ---- what is said of any event

-- the messages that wait for the user
abbrev pub waiting_in : End → List (List ℕ)
waiting_in m = drop m.core.upper.used m.core.upper.accepted

-- the messages that were accepted, among outcomes
abbrev pub accepted_in : List Outcome → List (List ℕ)
accepted_in [] = []
accepted_in (ConnectedTo peer ∷ outcomes) = accepted_in outcomes
accepted_in (Accepted message ∷ outcomes) = message ∷ accepted_in outcomes
accepted_in (Taken message ∷ outcomes) = accepted_in outcomes
accepted_in (NothingToTake ∷ outcomes) = accepted_in outcomes
accepted_in (Refused refusal ∷ outcomes) = accepted_in outcomes
accepted_in (WasReleased release ∷ outcomes) = accepted_in outcomes
accepted_in (Octets octets ∷ outcomes) = accepted_in outcomes

-- a take takes the oldest
abbrev pub left_by : Event → List (List ℕ) → List (List ℕ)
left_by Start messages = messages
left_by (Come finds octets) messages = messages
left_by (Send user) messages = messages
left_by Take messages = drop 1 messages
left_by (Leave sub) messages = messages
left_by Tick messages = messages
left_by Ended messages = messages
left_by Fault messages = messages
left_by Stalled messages = messages

-- behind an event that accepts nothing those wait that it left
abbrev pub WaitsMove : Type 0
WaitsMove =
    (now : ℕ) (event : Event) (k : End) → accepted_in (model_ends.tells now event k) ≡ []
    → waiting_in (model_ends.happens now event k) ≡ left_by event (waiting_in k)

abbrev pub is_octets : Event → Bool
is_octets Start = false
is_octets (Come finds octets) = true
is_octets (Send user) = false
is_octets Take = false
is_octets (Leave sub) = false
is_octets Tick = false
is_octets Ended = false
is_octets Fault = false
is_octets Stalled = false

-- octets alone bring a message
abbrev pub OctetsBring : Type 0
OctetsBring = (now : ℕ) (event : Event) (k : End) → is_octets event ≡ false → accepted_in (model_ends.tells now event k) ≡ []

-- an end stays released, for this reason
abbrev pub ReleaseStays : Type 0
ReleaseStays =
    (now : ℕ) (event : Event) (k : End) (why : Release) → k.core.released ≡ Some why → (model_ends.happens now event k).core.released ≡ Some why

-- an end whose line ended, failed or stalled is released
pub record BreaksRelease : Type 0 where
  pub ended : (now : ℕ) (k : End) → is_some (model_ends.happens now Ended k).core.released ≡ true
  pub fault : (now : ℕ) (k : End) → is_some (model_ends.happens now Fault k).core.released ≡ true
  pub stalled : (now : ℕ) (k : End) → is_some (model_ends.happens now Stalled k).core.released ≡ true

-- a released end wants no tick
abbrev pub ReleasedWantNone : Type 0
ReleasedWantNone = (k : End) → is_some k.core.released ≡ true → model_ends.deadline k ≡ None

-- octets that come to a released end tell nothing
abbrev pub ReleasedTellNone : Type 0
ReleasedTellNone =
    (now : ℕ) (finds : Finds) (octets : List ℕ) (k : End) (why : Release) → k.core.released ≡ Some why → model_ends.tells now (Come finds octets) k ≡ []

-- a released end uses all; each uses an octet at least, where one came, and no more than came
pub record Uses : Type 0 where
  pub all : (k : End) (piece : List ℕ) → is_some k.core.released ≡ true → octet_count_used_by_end k piece ≡ length piece
  pub one : (k : End) (octet : ℕ) (octets : List ℕ) → 1 ≤ octet_count_used_by_end k (octet ∷ octets)
  pub most : (k : End) (piece : List ℕ) → octet_count_used_by_end k piece ≤ length piece

-- ---- the messages, layer by layer

-- the messages that were accepted, how many of them were taken, and the one of this event
pub record KInbox : Type 0 where
  pub accepted : List (List ℕ)
  pub used : ℕ
  pub news : Option (List ℕ)

abbrev kept_more : KInbox → List ℕ → KInbox
kept_more q user = record { accepted = q.accepted ++ user ∷ []; used = q.used; news = Some user }

abbrev box : Core → KInbox
box x = record { accepted = x.upper.accepted; used = x.upper.used; news = x.upper.news }

box_if : (b : Bool) (x y : Core) (v : KInbox) → box x ≡ v → box y ≡ v → box (if b then x else y) ≡ v
box_if true x y v h g = h
box_if false x y v h g = g

box_gives : (g : GivenTpdu) (x : Core) → box (hand_tpdu_if_may model g x) ≡ box x
box_gives g x = box_if (model.may_send x.line) _ x (box x) refl refl

box_departs : (why : Release) (reason : ℕ) (user : List ℕ) (x : Core) → box (send_dr model why reason user x) ≡ box x
box_departs why reason user x = box_gives (Dr reason user) x

box_cut_off : (why : Release) (x : Core) → box (answer_dr model why x) ≡ box x
box_cut_off why x = box_gives Dc x

box_parts : (why : Release) (di : List ℕ) (x : Core) → box (on_safety_release model why di x) ≡ box x
box_parts why di x = box_if why.by_peer _ _ (box x) refl (box_departs why normal_disconnect di x)

box_offers : (n : ℕ) (x : Core) → box (hand_waiting_tpdus model n x) ≡ box x
unfolding hand_waiting_tpdus
box_offers zero x = refl
box_offers (suc n) x = box_if (has_next_tpdu model x) (hand_waiting_tpdus model n (hand_next_tpdu model x)) x (box x) (box_offers n (hand_next_tpdu model x)) refl

box_concludes : (x : Core) → box (conclude_event model x) ≡ box x
box_concludes x = box_if (is_some x.released) x _ (box x) refl (box_offers most_offers x)

box_says : (text : List ℕ) (x : Core) → box (hand_text model text x) ≡ box x
box_says text x = box_if (is_some_octets text && model.may_hand x.upper) _ x (box x) refl refl

box_accepts : (text : List ℕ) (x : Core) → box (accept_text model text x) ≡ box x
box_accepts text x = box_if (is_some_octets text) _ x (box x) refl refl

box_answers : (carrier : Carrier) (text : List ℕ) (x : Core) → box (hand_answer model carrier text x) ≡ box x
box_answers InCr text x = box_accepts text x
box_answers InCc text x = box_says text x
box_answers InDt text x = box_says text (record x { upper = model.skips x.upper })

box_connects : (text : List ℕ) (x : Core) → box (connect_with_text model text x) ≡ box x
box_connects text x = box_if (is_some_octets text) _ x (box x) refl refl

-- the same, or with one message more
data More (q p : KInbox) : Type 0 where
  Same : p ≡ q → More q p
  One : (user : List ℕ) → p ≡ kept_more q user → More q p

more_on : (q p r : KInbox) → More q p → r ≡ p → More q r
more_on q p r (Same e) f = Same (f ∙ e)
more_on q p r (One user e) f = One user (f ∙ e)

more_acts : (carrier : Carrier) (report : Report) (octets : List ℕ) (x : Core) → More (box x) (box (on_safety_report model carrier report octets x))
more_acts carrier ToldAnswered octets x = Same (box_answers carrier octets x)
more_acts carrier (ToldConnected peer) octets x = Same (box_answers carrier octets x)
more_acts InCr (ToldAccepted user) octets x = Same refl
more_acts InCc (ToldAccepted user) octets x = Same refl
more_acts InDt (ToldAccepted user) octets x = One user refl
more_acts carrier (ToldReleased why) octets x = Same (box_parts why octets x)
more_acts carrier ToldIgnored octets x = Same refl

more_text : (finds : Finds) (carrier : Carrier) (text : List ℕ) (x : Core) → More (box x) (box (on_text model finds carrier text x))
more_text finds carrier text x =
    let a = step (finds x.moment) x.safe.safety (Received text) in
    more_acts carrier (report_of a.1) (octets_sent_in_outcome a.1) (with_safety_step model (Received text) a x)

more_does : (finds : Finds) (deed : ReceptionDeed) (x : Core) → More (box x) (box (on_transport_deed model finds deed x))
more_does finds Nothing x = Same refl
more_does finds (Called user) x = more_text finds InCr user x
more_does finds (Confirmed user) x = more_text finds InCc user x
more_does finds (Message message) x = more_text finds InDt message x
more_does finds (Disconnected user) x = Same (box_cut_off (why_of (di_in user (peer_flag x.safe.safety))) x)
more_does finds (transport.Refused sub reason) x = Same (box_departs (by_this_end 2 sub) reason [] x)

more_block : (finds : Finds) (joined : joining.BlockJoiningResult) (x : Core) → More (box x) (box (on_joined_block model finds joined x))
more_block finds (Ok None) x = Same refl
more_block finds (Ok (Some tpdu)) x = more_does finds (model.deed x.upper tpdu) (record x { upper = model.hears x.upper tpdu })
more_block finds (Err fault) x = Same (box_departs (release_of BlockRefused) protocol_error [] x)

box_up : (x : Core) → box (on_link_up model x) ≡ box x
box_up x =
    let a = step no_keys x.safe.safety ConnectRequest in
    box_if (model.may_connect x.upper && is_ready x.safe.safety.phase) _ x (box x)
    (box_connects (octets_sent_in_outcome a.1) (with_safety_step model ConnectRequest a x)) refl

more_link : (finds : Finds) (payload : Option (List ℕ)) (up : Bool) (released : Option Release) (x : Core) → More (box x) (box (on_link_told model finds payload up released x))
more_link finds (Some payload) up released x =
    let joined = joining.block_step x.joined payload in more_block finds joined.1 (record x { joined = joined.0 })
more_link finds None true released x = Same (box_up x)
more_link finds None false (Some why) x = Same refl
more_link finds None false None x = Same refl

more_if : (b : Bool) (x y : Core) (q : KInbox) → More q (box x) → More q (box y) → More q (box (if b then x else y))
more_if true x y q h g = h
more_if false x y q h g = g

more_received : (finds : Finds) (verdict : Verdict) (x : Core) → More (box x) (box (on_frame model finds verdict x))
more_received finds verdict x =
    let deed = model.told x.moment verdict x.line in
    let y : Core = record x { line = model.receives x.moment verdict x.line } in
    let z = on_link_told model finds deed.payload deed.up deed.released y in
    more_if (is_some x.released) x _ (box x) (Same refl)
    (more_on (box x) (box z) _ (more_link finds deed.payload deed.up deed.released y) (box_concludes z))

-- ---- what is told of it

accepted_in-append : (xs ys : List Outcome) → accepted_in (xs ++ ys) ≡ accepted_in xs ++ accepted_in ys
accepted_in-append [] ys = refl
accepted_in-append (ConnectedTo peer ∷ xs) ys = accepted_in-append xs ys
accepted_in-append (Accepted message ∷ xs) ys = ap (λ z. message ∷ z) (accepted_in-append xs ys)
accepted_in-append (Taken message ∷ xs) ys = accepted_in-append xs ys
accepted_in-append (NothingToTake ∷ xs) ys = accepted_in-append xs ys
accepted_in-append (Refused refusal ∷ xs) ys = accepted_in-append xs ys
accepted_in-append (WasReleased release ∷ xs) ys = accepted_in-append xs ys
accepted_in-append (Octets octets ∷ xs) ys = accepted_in-append xs ys

none_connected : (peer : Option ℕ) → accepted_in (if_connected peer) ≡ []
none_connected None = refl
none_connected (Some peer) = refl

one_accepted : (news : Option (List ℕ)) → accepted_in (if_accepted news) ≡ option_to_list news
one_accepted None = refl
one_accepted (Some message) = refl

none_released : (why : Option Release) → accepted_in (if_released why) ≡ []
none_released None = refl
none_released (Some why) = refl

none_written : (octets : List ℕ) → accepted_in (if_octets octets) ≡ []
none_written [] = refl
none_written (octet ∷ octets) = refl

-- the message that came in an event
told_news : (x : Core) → accepted_in (outcomes_of model x) ≡ option_to_list x.upper.news
told_news x =
    let a = if_connected x.connected in
    let b = if_accepted (model.news x.upper) in
    let c = if_released x.leaves in
    let d = if_octets (model.written x.line) in
    accepted_in-append (a ++ b ++ c) d
    ∙ ap (λ z. accepted_in (a ++ b ++ c) ++ z) (none_written (model.written x.line))
    ∙ append-nil (accepted_in (a ++ b ++ c))
    ∙ accepted_in-append (a ++ b) c
    ∙ ap (λ z. accepted_in (a ++ b) ++ z) (none_released x.leaves)
    ∙ append-nil (accepted_in (a ++ b))
    ∙ accepted_in-append a b
    ∙ ap (λ z. z ++ accepted_in b) (none_connected x.connected)
    ∙ one_accepted (model.news x.upper)

-- ---- the events

box_started : (x : Core) → box (on_start model x) ≡ box x
box_started x = let y : Core = record x { line = model.starts x.moment x.line } in box_if (is_some x.released) x _ (box x) refl (box_concludes y)

box_sent : (user : List ℕ) (x : Core) → box (on_send model user x) ≡ box x
box_sent user x =
    let a = step no_keys x.safe.safety (DataRequest user) in
    let y = with_safety_step model (DataRequest user) a x in
    let z : Core = record y { upper = model.sends y.upper user } in
    box_concludes (hand_text model (octets_sent_in_outcome a.1) z) ∙ box_says (octets_sent_in_outcome a.1) z

box_left : (sub : ℕ) (x : Core) → box (on_release model sub x) ≡ box x
box_left sub x =
    let a = step no_keys x.safe.safety (DisconnectRequest sub) in
    box_if (is_some x.released) x _ (box x) refl
    (box_departs (release_of (User sub)) normal_disconnect (octets_sent_in_outcome a.1) (with_safety_step model (DisconnectRequest sub) a x))

box_time : (why : Option Release) (x : Core) → box (on_expiry model why x) ≡ box x
box_time (Some why) x = refl
box_time None x =
    let why = release_of SetUpTimeSpent in
    box_if (is_spent x) _ x (box x) (box_departs why normal_disconnect (di_of why x.safe.safety) x) refl

box_ticked : (x : Core) → box (on_tick model x) ≡ box x
box_ticked x =
    let y : Core = record x { line = model.ticks x.moment x.line } in
    let z = on_expiry model (model.given_up x.moment x.line) y in
    box_if (is_some x.released) x _ (box x) refl (box_concludes z ∙ box_time (model.given_up x.moment x.line) y)

box_broken : (cause : Cause) (x : Core) → box (on_break cause x) ≡ box x
box_broken cause x = box_if (is_some x.released) x _ (box x) refl refl

-- what an event that accepts nothing leaves: the messages that waited
abbrev waits_at : Core → List (List ℕ)
waits_at x = drop x.upper.used x.upper.accepted

waits_alike : (x y : Core) → box y ≡ box x → waits_at y ≡ waits_at x
waits_alike x y e = ap (λ (q : KInbox). drop q.used q.accepted) e

more_none : (x y : Core) → More (box x) (box y) → y.upper.news ≡ None → waits_at y ≡ waits_at x
more_none x y (Same e) none = waits_alike x y e
more_none x y (One user e) none = absurd (true≢false (ap is_some (sym (ap (λ (q : KInbox). q.news) e) ∙ none)))

none_of : (o : Option (List ℕ)) → option_to_list o ≡ [] → o ≡ None
none_of None e = refl
none_of (Some message) e = let l : length (message ∷ []) ≡ 0 = ap length e in absurd (omega arith)

nil_first : (xs ys : List (List ℕ)) → xs ++ ys ≡ [] → xs ≡ []
nil_first [] ys e = refl
nil_first (x ∷ xs) ys e = let l : length (x ∷ (xs ++ ys)) ≡ 0 = ap length e in absurd (omega arith)

nil_second : (xs ys : List (List ℕ)) → xs ++ ys ≡ [] → ys ≡ []
nil_second [] ys e = e
nil_second (x ∷ xs) ys e = let l : length (x ∷ (xs ++ ys)) ≡ 0 = ap length e in absurd (omega arith)

-- frame by frame
each_waits : (finds : Finds) (now : ℕ) (verdicts : List Verdict) (x : Core) → accepted_in (told_of_each finds now verdicts x) ≡ []
    → waits_at (hears_each finds now verdicts x) ≡ waits_at x
each_waits finds now [] x e = refl
each_waits finds now (verdict ∷ verdicts) x e =
    let y = step_frame model finds now verdict x in
    let both : accepted_in (outcomes_of model y) ++ accepted_in (told_of_each finds now verdicts y) ≡ [] =
    sym (accepted_in-append (outcomes_of model y) (told_of_each finds now verdicts y)) ∙ e in
    let none : y.upper.news ≡ None =
    none_of y.upper.news (sym (told_news y) ∙ nil_first (accepted_in (outcomes_of model y)) (accepted_in (told_of_each finds now verdicts y)) both) in
    each_waits finds now verdicts y (nil_second (accepted_in (outcomes_of model y)) (accepted_in (told_of_each finds now verdicts y)) both)
    ∙ more_none (new_event_at model now x) y (more_received finds verdict (new_event_at model now x)) none

none_left : (ms : List (List ℕ)) → length ms ≡ 0 → ms ≡ []
none_left [] e = refl
none_left (m ∷ ms) e = absurd (omega arith)

suc_is : (n : ℕ) → suc n ≡ n + 1
suc_is n = omega arith

further : (n : ℕ) (ms : List (List ℕ)) → drop (suc n) ms ≡ drop 1 (drop n ms)
further zero ms = refl
further (suc n) [] = refl
further (suc n) (m ∷ ms) = further n ms

one_further : (n : ℕ) (ms : List (List ℕ)) → drop (n + 1) ms ≡ drop 1 (drop n ms)
one_further n ms = subst (λ k. drop k ms ≡ drop 1 (drop n ms)) (suc_is n) (further n ms)

take_waits : (x : Core) → waits_at (on_take model x) ≡ drop 1 (waits_at x)
take_waits x = elim (cases_Bool (length x.upper.accepted - x.upper.used == 0)) [
  | inl p ↦
      let e : waits_at x ≡ [] =
      none_left (waits_at x) (length-drop x.upper.used x.upper.accepted ∙ eqb-true (length x.upper.accepted - x.upper.used) 0 p) in
      rw p (e ∙ ap (λ z. drop 1 z) (sym e))
  | inr p ↦
      let y : Core = record x { upper = model.uses x.upper } in
      rw p (waits_alike y (conclude_event model y) (box_concludes y) ∙ one_further x.upper.used x.upper.accepted)
]

sends_waits : (refused : Option SendRefusal) (now : ℕ) (user : List ℕ) (x : Core) → waits_at (step_send_unless model refused now user x) ≡ waits_at x
sends_waits (Some refusal) now user x = refl
sends_waits None now user x =
    waits_alike (new_event_at model now x) (on_send model user (new_event_at model now x)) (box_sent user (new_event_at model now x))

pub waits_move : WaitsMove
waits_move now Start k e = let x = new_event_at model now k.core in waits_alike x (on_start model x) (box_started x)
waits_move now (Come finds octets) k e =
    each_waits finds now (news k.stream (take (octet_count_used_by_end k octets) octets)) (new_event_at model now k.core) e
waits_move now (Send user) k e = sends_waits (refusal_of model user k.core) now user k.core
waits_move now Take k e = take_waits (new_event_at model now k.core)
waits_move now (Leave sub) k e = let x = new_event_at model now k.core in waits_alike x (on_release model sub x) (box_left sub x)
waits_move now Tick k e = let x = new_event_at model now k.core in waits_alike x (on_tick model x) (box_ticked x)
waits_move now Ended k e = let x = new_event model k.core in waits_alike x (on_break LineEnded x) (box_broken LineEnded x)
waits_move now Fault k e = let x = new_event model k.core in waits_alike x (on_break LineFailed x) (box_broken LineFailed x)
waits_move now Stalled k e = let x = new_event model k.core in waits_alike x (on_break LineStalled x) (box_broken LineStalled x)

-- ---- an event that brings no message

silent_by : (x y : Core) → x.upper.news ≡ None → box y ≡ box x → accepted_in (outcomes_of model y) ≡ []
silent_by x y old e = told_news y ∙ ap option_to_list (ap (λ (q : KInbox). q.news) e ∙ old)

none_taken : (message : Option (List ℕ)) → accepted_in (if_taken message) ≡ []
none_taken None = refl
none_taken (Some message) = refl

taken_told : (message : Option (List ℕ)) (outcomes : List Outcome) → accepted_in (if_taken message ++ outcomes) ≡ accepted_in outcomes
taken_told message outcomes =
    accepted_in-append (if_taken message) outcomes ∙ ap (λ z. z ++ accepted_in outcomes) (none_taken message)

sends_silent : (refused : Option SendRefusal) (now : ℕ) (user : List ℕ) (x : Core)
    → accepted_in (refusal_or_outcomes refused (outcomes_of model (step_send_unless model refused now user x))) ≡ []
sends_silent (Some refusal) now user x = refl
sends_silent None now user x =
    silent_by (new_event_at model now x) (on_send model user (new_event_at model now x)) refl (box_sent user (new_event_at model now x))

take_news : (x : Core) → x.upper.news ≡ None → (on_take model x).upper.news ≡ None
take_news x old = elim (cases_Bool (length x.upper.accepted - x.upper.used == 0)) [
  | inl p ↦ rw p old
  | inr p ↦
      let y : Core = record x { upper = model.uses x.upper } in
      rw p (ap (λ (q : KInbox). q.news) (box_concludes y) ∙ old)
]

pub octets_bring : OctetsBring
octets_bring now Start k p = let x = new_event_at model now k.core in silent_by x (on_start model x) refl (box_started x)
octets_bring now (Come finds octets) k p = absurd (true≢false p)
octets_bring now (Send user) k p = sends_silent (refusal_of model user k.core) now user k.core
octets_bring now Take k p =
    let y = on_take model (new_event_at model now k.core) in
    taken_told (model.oldest k.core.upper) (outcomes_of model y) ∙ told_news y ∙ ap option_to_list (take_news (new_event_at model now k.core) refl)
octets_bring now (Leave sub) k p = let x = new_event_at model now k.core in silent_by x (on_release model sub x) refl (box_left sub x)
octets_bring now Tick k p = let x = new_event_at model now k.core in silent_by x (on_tick model x) refl (box_ticked x)
octets_bring now Ended k p = let x = new_event model k.core in silent_by x (on_break LineEnded x) refl (box_broken LineEnded x)
octets_bring now Fault k p = let x = new_event model k.core in silent_by x (on_break LineFailed x) refl (box_broken LineFailed x)
octets_bring now Stalled k p = let x = new_event model k.core in silent_by x (on_break LineStalled x) refl (box_broken LineStalled x)

-- ---- a release

take_stays : (why : Release) (x : Core) → x.released ≡ Some why → (on_take model x).released ≡ Some why
take_stays why x e = elim (cases_Bool (length x.upper.accepted - x.upper.used == 0)) [ inl p ↦ rw p e | inr p ↦ rw p (rw e refl) ]

each_stays : (finds : Finds) (now : ℕ) (verdicts : List Verdict) (why : Release) (x : Core) → x.released ≡ Some why
    → (hears_each finds now verdicts x).released ≡ Some why
each_stays finds now [] why x e = e
each_stays finds now (verdict ∷ verdicts) why x e = each_stays finds now verdicts why (step_frame model finds now verdict x) (rw e refl)

pub release_stays : ReleaseStays
release_stays now Start k why e = rw e refl
release_stays now (Come finds octets) k why e =
    each_stays finds now (news k.stream (take (octet_count_used_by_end k octets) octets)) why (new_event_at model now k.core) e
release_stays now (Send user) k why e = rw e refl
release_stays now Take k why e = take_stays why (new_event_at model now k.core) e
release_stays now (Leave sub) k why e = rw e refl
release_stays now Tick k why e = rw e refl
release_stays now Ended k why e = rw e refl
release_stays now Fault k why e = rw e refl
release_stays now Stalled k why e = rw e refl

broken_is : (cause : Cause) (x : Core) → is_some (on_break cause x).released ≡ true
broken_is cause x = elim (cases_Bool (is_some x.released)) [ inl p ↦ rw p p | inr p ↦ rw p refl ]

pub breaks_release : BreaksRelease
breaks_release = record {
  ended = λ now k. broken_is LineEnded (new_event model k.core);
  fault = λ now k. broken_is LineFailed (new_event model k.core);
  stalled = λ now k. broken_is LineStalled (new_event model k.core);
}

pub released_want_none : ReleasedWantNone
released_want_none k e = rw e refl

each_none : ReleasedRest → (finds : Finds) (now : ℕ) (verdicts : List Verdict) (why : Release) (x : Core) → x.released ≡ Some why
    → told_of_each finds now verdicts x ≡ []
each_none rest finds now [] why x e = refl
each_none rest finds now (verdict ∷ verdicts) why x e =
    let silent = (rest x why e).comes finds now verdict in
    let y = step_frame model finds now verdict x in
    ap (λ z. z ++ told_of_each finds now verdicts y) silent.1 ∙ each_none rest finds now verdicts why y silent.0

pub released_tell_none : ReleasedRest → ReleasedTellNone
released_tell_none rest now finds octets k why e =
    each_none rest finds now (news k.stream (take (octet_count_used_by_end k octets) octets)) why (new_event_at model now k.core) e

-- ---- octets that are used

used_one : (stream : List ℕ) (x : ℕ) (xs : List ℕ) → 1 ≤ used_behind stream (x ∷ xs)
unfolding used_behind
used_one stream x xs = elim (cases_Bool (has_verdicts (news stream (x ∷ [])))) [ inl p ↦ rw p (omega arith) | inr p ↦ rw p (omega arith) ]

used_most : (stream xs : List ℕ) → used_behind stream xs ≤ length xs
unfolding used_behind
used_most stream [] = omega arith
used_most stream (x ∷ xs) =
    let h : used_behind (stream ++ x ∷ []) xs ≤ length xs = used_most (stream ++ x ∷ []) xs in
    elim (cases_Bool (has_verdicts (news stream (x ∷ [])))) [ inl p ↦ rw p (omega arith) | inr p ↦ rw p (omega arith) ]

pub uses_octets : Uses
uses_octets = record {
  all = λ k piece e. rw e refl;
  one = λ k octet octets.
      elim (cases_Bool (is_some k.core.released)) [ inl p ↦ rw p (omega arith) | inr p ↦ rw p (used_one k.stream octet octets) ];
  most = λ k piece.
      elim (cases_Bool (is_some k.core.released)) [ inl p ↦ rw p (omega arith) | inr p ↦ rw p (used_most k.stream piece) ];
}

-- ---- the end of a session, and the one that its events lead to

abbrev pub EndStands : End → End → Type 0
EndStands k m = m ≡ k

abbrev pub StepsAlike : Type 0
StepsAlike =
    (now : ℕ) (event : Event) (k m : End) → EndStands k m
    → EndStands (model_ends.happens now event k) (ends.step_event now (used_part k event) m).0
    × (model_ends.tells now event k ≡ (ends.step_event now (used_part k event) m).1)

pub steps_alike : StepsAlike
steps_alike now event k m e =
    (ap (λ z. (ends.step_event now (used_part k event) z).0) e, sym (ap (λ z. (ends.step_event now (used_part k event) z).1) e))

abbrev pub MadeStands : Type 0
MadeStands = (opening : Opening) → EndStands (model_ends.opens opening) (opened opening)

pub made_stands : MadeStands
made_stands opening = refl

abbrev pub ShowsAlike : Type 0
ShowsAlike =
    (k m : End) → EndStands k m
    → (model_ends.deadline k ≡ model_ends.deadline m)
    × (k.core.released ≡ m.core.released)
    × (length (waiting_in k) ≡ model.untaken m.core.upper)

pub shows_alike : ShowsAlike
shows_alike k m e = (
  sym (ap model_ends.deadline e),
  sym (ap (λ (z : End). z.core.released) e),
  length-drop k.core.upper.used k.core.upper.accepted ∙ sym (ap (λ (z : End). model.untaken z.core.upper) e),
)
