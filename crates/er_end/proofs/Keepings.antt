-- What an event leaves of what is kept.
use Rattle.std.proofs.Common.{◌≡◌, inl, inr, ◌+◌, ◌-◌, ◌≤◌, ◌∙◌, ℕ, zero, suc, Bool, true, false, ◌&&◌, List, [], ◌∷◌, ◌++◌, length, drop, Option, Some, None, Ok, Err, refl, sym, ap, subst, arith, append-nil, length-append, eqb-true, true≢false}
use Rattle.hdlc_station_model.specs.Receiving.{is_some_octets}
use Rattle.std.specs.Prelude.{nat_lt, if◌then◌else◌, ◌==◌, slice_get, is_some}
use Rattle.std.specs.Option.{option_to_list}
use Rattle.std.proofs.lemmas.Bool.{cases_Bool}
use Rattle.er_base.specs.declared.release.Release.{Release}
use Rattle.er_base.specs.declared.cause.Cause.{Cause}
use Rattle.er_base.specs.Causes.{release_of, by_this_end}
use Rattle.er_base.specs.declared.cause.Cause.TheVariants.{User, BlockRefused, SetUpTimeSpent, LineEnded, LineFailed, LineStalled}
use Rattle.hdlc_frames.specs.Framing.{Verdict, frames_of}
use Rattle.hdlc_frames.specs.Deframing as deframing
use Rattle.hdlc_frames.specs.Deframing.{used_behind, has_verdicts}
use Rattle.t70_header.specs.Joining as joining
use Rattle.x224_class2.specs.Refusals.{protocol_error}
use Rattle.x224_class2.specs.Tpdus.{GivenTpdu, Dr, Dc}
use Rattle.x224_class2.specs.Transport.{ReceptionDeed, Nothing, Called, Confirmed, Message, Disconnected}
use Rattle.x224_class2.specs.Transport as transport
use Rattle.sapdu.specs.Spelling.{di_in}
use Rattle.safety_automaton.specs.Safety.{no_keys, ConnectRequest, Received, DataRequest, DisconnectRequest, octets_sent_in_outcome, peer_flag, step}
use Rattle.safety_automaton.specs.Reports.{Report, ToldAnswered, ToldConnected, ToldAccepted, ToldReleased, ToldIgnored, report_of}
use Rattle.er_end_model.specs.Outcomes.{Outcome, ConnectedTo, Accepted, Taken, NothingToTake, Refused, WasReleased, Octets, SendRefusal}
use Rattle.er_end_model.specs.Steps.{Finds, new_event, new_event_at, hand_tpdu_if_may, send_dr, answer_dr, on_safety_release, why_of, with_safety_step, hand_text, accept_text, Carrier, InCr, InCc, InDt, hand_answer, on_safety_report, on_text, on_transport_deed, on_joined_block, is_ready, connect_with_text, on_link_up, on_link_told, hand_next_tpdu, has_next_tpdu, hand_waiting_tpdus, most_offers, conclude_event, on_frame, refusal_of, on_send, step_send_unless, on_take, on_release, normal_disconnect, is_spent, di_of, on_expiry, on_tick, on_break, on_start, outcomes_of, if_connected, if_accepted, if_released, if_octets, if_taken}
use Rattle.er_end_model.specs.Ends.{Start, Come, Send, Take, Leave, Tick, Ended, Fault, Stalled, refusal_or_outcomes}
use Rattle.er_end.specs.Inboxes.{KInbox, kept_more, newest_of}
use Rattle.er_end.specs.KeptLayers.{KCore, kept}
use Rattle.er_end.specs.KeptEnds.{found_comes, used_of, after_start, after_octets, refusal_of_send, after_send, after_take, after_release, after_tick, after_break, waiting_in, deadline_of}
use Rattle.er_end.specs.Keeping.{accepted_in, WaitsMove, OctetsBring, ReleaseStays, BreaksRelease, ReleasedWantNone, ReleasedTellNone, Uses}

-- ---- the inbox, call by call

abbrev box : KCore → KInbox
box x = x.upper.inbox

box_if : (b : Bool) (x y : KCore) (v : KInbox) → box x ≡ v → box y ≡ v → box (if b then x else y) ≡ v
box_if true x y v h g = h
box_if false x y v h g = g

box_gives : (g : GivenTpdu) (x : KCore) → box (hand_tpdu_if_may kept g x) ≡ box x
box_gives g x = box_if (kept.may_send x.line) _ x (box x) refl refl

box_departs : (why : Release) (reason : ℕ) (user : List ℕ) (x : KCore) → box (send_dr kept why reason user x) ≡ box x
box_departs why reason user x = box_gives (Dr reason user) x

box_cut_off : (why : Release) (x : KCore) → box (answer_dr kept why x) ≡ box x
box_cut_off why x = box_gives Dc x

box_parts : (why : Release) (di : List ℕ) (x : KCore) → box (on_safety_release kept why di x) ≡ box x
box_parts why di x = box_if why.by_peer _ _ (box x) refl (box_departs why normal_disconnect di x)

box_offers : (n : ℕ) (x : KCore) → box (hand_waiting_tpdus kept n x) ≡ box x
unfolding hand_waiting_tpdus
box_offers zero x = refl
box_offers (suc n) x = box_if (has_next_tpdu kept x) (hand_waiting_tpdus kept n (hand_next_tpdu kept x)) x (box x) (box_offers n (hand_next_tpdu kept x)) refl

box_concludes : (x : KCore) → box (conclude_event kept x) ≡ box x
box_concludes x = box_if (is_some x.released) x _ (box x) refl (box_offers most_offers x)

box_says : (text : List ℕ) (x : KCore) → box (hand_text kept text x) ≡ box x
box_says text x = box_if (is_some_octets text && kept.may_hand x.upper) _ x (box x) refl refl

box_accepts : (text : List ℕ) (x : KCore) → box (accept_text kept text x) ≡ box x
box_accepts text x = box_if (is_some_octets text) _ x (box x) refl refl

box_answers : (carrier : Carrier) (text : List ℕ) (x : KCore) → box (hand_answer kept carrier text x) ≡ box x
box_answers InCr text x = box_accepts text x
box_answers InCc text x = box_says text x
box_answers InDt text x = box_says text (record x { upper = kept.skips x.upper })

box_connects : (text : List ℕ) (x : KCore) → box (connect_with_text kept text x) ≡ box x
box_connects text x = box_if (is_some_octets text) _ x (box x) refl refl

-- the same, or with one message more
data More (q p : KInbox) : Type 0 where
  Same : p ≡ q → More q p
  One : (user : List ℕ) → p ≡ kept_more q user → More q p

more_on : (q p r : KInbox) → More q p → r ≡ p → More q r
more_on q p r (Same e) f = Same (f ∙ e)
more_on q p r (One user e) f = One user (f ∙ e)

more_acts : (carrier : Carrier) (report : Report) (octets : List ℕ) (x : KCore) → More (box x) (box (on_safety_report kept carrier report octets x))
more_acts carrier ToldAnswered octets x = Same (box_answers carrier octets x)
more_acts carrier (ToldConnected peer) octets x = Same (box_answers carrier octets x)
more_acts InCr (ToldAccepted user) octets x = Same refl
more_acts InCc (ToldAccepted user) octets x = Same refl
more_acts InDt (ToldAccepted user) octets x = One user refl
more_acts carrier (ToldReleased why) octets x = Same (box_parts why octets x)
more_acts carrier ToldIgnored octets x = Same refl

more_text : (finds : Finds) (carrier : Carrier) (text : List ℕ) (x : KCore) → More (box x) (box (on_text kept finds carrier text x))
more_text finds carrier text x =
    let a = step (finds x.moment) x.safe.safety (Received text) in
    more_acts carrier (report_of a.1) (octets_sent_in_outcome a.1) (with_safety_step kept (Received text) a x)

more_does : (finds : Finds) (deed : ReceptionDeed) (x : KCore) → More (box x) (box (on_transport_deed kept finds deed x))
more_does finds Nothing x = Same refl
more_does finds (Called user) x = more_text finds InCr user x
more_does finds (Confirmed user) x = more_text finds InCc user x
more_does finds (Message message) x = more_text finds InDt message x
more_does finds (Disconnected user) x = Same (box_cut_off (why_of (di_in user (peer_flag x.safe.safety))) x)
more_does finds (transport.Refused sub reason) x = Same (box_departs (by_this_end 2 sub) reason [] x)

more_block : (finds : Finds) (joined : joining.BlockJoiningResult) (x : KCore) → More (box x) (box (on_joined_block kept finds joined x))
more_block finds (Ok None) x = Same refl
more_block finds (Ok (Some tpdu)) x = more_does finds (kept.deed x.upper tpdu) (record x { upper = kept.hears x.upper tpdu })
more_block finds (Err fault) x = Same (box_departs (release_of BlockRefused) protocol_error [] x)

box_up : (x : KCore) → box (on_link_up kept x) ≡ box x
box_up x =
    let a = step no_keys x.safe.safety ConnectRequest in
    box_if (kept.may_connect x.upper && is_ready x.safe.safety.phase) _ x (box x)
    (box_connects (octets_sent_in_outcome a.1) (with_safety_step kept ConnectRequest a x)) refl

more_link : (finds : Finds) (payload : Option (List ℕ)) (up : Bool) (released : Option Release) (x : KCore) → More (box x) (box (on_link_told kept finds payload up released x))
more_link finds (Some payload) up released x =
    let joined = joining.block_step x.joined payload in more_block finds joined.1 (record x { joined = joined.0 })
more_link finds None true released x = Same (box_up x)
more_link finds None false (Some why) x = Same refl
more_link finds None false None x = Same refl

more_if : (b : Bool) (x y : KCore) (q : KInbox) → More q (box x) → More q (box y) → More q (box (if b then x else y))
more_if true x y q h g = h
more_if false x y q h g = g

more_received : (finds : Finds) (verdict : Verdict) (x : KCore) → More (box x) (box (on_frame kept finds verdict x))
more_received finds verdict x =
    let deed = kept.told x.moment verdict x.line in
    let y : KCore = record x { line = kept.receives x.moment verdict x.line } in
    let z = on_link_told kept finds deed.payload deed.up deed.released y in
    more_if (is_some x.released) x _ (box x) (Same refl)
    (more_on (box x) (box z) _ (more_link finds deed.payload deed.up deed.released y) (box_concludes z))

more_found : (finds : Finds) (now : ℕ) (found : Option Verdict) (x : KCore) → More (box (new_event_at kept now x)) (box (found_comes finds now found x))
more_found finds now None x = Same refl
more_found finds now (Some verdict) x = more_received finds verdict (new_event_at kept now x)

-- ---- what is told of it

accepted_in-append : (xs ys : List Outcome) → accepted_in (xs ++ ys) ≡ accepted_in xs ++ accepted_in ys
accepted_in-append [] ys = refl
accepted_in-append (ConnectedTo peer ∷ xs) ys = accepted_in-append xs ys
accepted_in-append (Accepted message ∷ xs) ys = ap (λ z. message ∷ z) (accepted_in-append xs ys)
accepted_in-append (Taken message ∷ xs) ys = accepted_in-append xs ys
accepted_in-append (NothingToTake ∷ xs) ys = accepted_in-append xs ys
accepted_in-append (Refused refusal_of_send ∷ xs) ys = accepted_in-append xs ys
accepted_in-append (WasReleased release ∷ xs) ys = accepted_in-append xs ys
accepted_in-append (Octets octets ∷ xs) ys = accepted_in-append xs ys

none_connected : (peer : Option ℕ) → accepted_in (if_connected peer) ≡ []
none_connected None = refl
none_connected (Some peer) = refl

one_accepted : (news : Option (List ℕ)) → accepted_in (if_accepted news) ≡ option_to_list news
one_accepted None = refl
one_accepted (Some message) = refl

none_released : (why : Option Release) → accepted_in (if_released why) ≡ []
none_released None = refl
none_released (Some why) = refl

none_written : (octets : List ℕ) → accepted_in (if_octets octets) ≡ []
none_written [] = refl
none_written (octet ∷ octets) = refl

-- the message that came in an event
told_news : (x : KCore) → accepted_in (outcomes_of kept x) ≡ option_to_list (newest_of (box x))
told_news x =
    let a = if_connected x.connected in
    let b = if_accepted (kept.news x.upper) in
    let c = if_released x.leaves in
    let d = if_octets (kept.written x.line) in
    accepted_in-append (a ++ b ++ c) d
    ∙ ap (λ z. accepted_in (a ++ b ++ c) ++ z) (none_written (kept.written x.line))
    ∙ append-nil (accepted_in (a ++ b ++ c))
    ∙ accepted_in-append (a ++ b) c
    ∙ ap (λ z. accepted_in (a ++ b) ++ z) (none_released x.leaves)
    ∙ append-nil (accepted_in (a ++ b))
    ∙ accepted_in-append a b
    ∙ ap (λ z. z ++ accepted_in b) (none_connected x.connected)
    ∙ one_accepted (kept.news x.upper)

last_of : (xs : List (List ℕ)) (m : List ℕ) (n : ℕ) → n ≡ length xs → slice_get (xs ++ m ∷ []) n ≡ Some m
last_of [] m zero e = refl
last_of [] m (suc n) e = absurd (omega arith)
last_of (x ∷ xs) m zero e = absurd (omega arith)
last_of (x ∷ xs) m (suc n) e = last_of xs m n (omega arith)

newest_last : (xs : List (List ℕ)) (m : List ℕ) → slice_get (xs ++ m ∷ []) (length (xs ++ m ∷ []) - 1) ≡ Some m
newest_last xs m =
    let l : length (xs ++ m ∷ []) ≡ length xs + length (m ∷ []) = length-append xs (m ∷ []) in
    last_of xs m (length (xs ++ m ∷ []) - 1) (omega arith)

-- where no message came in the event so far
waits_kept : (q : KInbox) (user : List ℕ) → q.fresh ≡ false → (kept_more q user).waits ≡ q.waits ++ option_to_list (newest_of (kept_more q user))
waits_kept q user old = elim (cases_Bool (nat_lt (length q.waits) 15)) [
  | inl p ↦ rw (p, newest_last q.waits user) refl
  | inr p ↦ rw (p, old) (sym (append-nil q.waits))
]

waits_same : (q : KInbox) → q.fresh ≡ false → q.waits ≡ q.waits ++ option_to_list (newest_of q)
waits_same q old = rw old (sym (append-nil q.waits))

waits_more : (q p : KInbox) → q.fresh ≡ false → More q p → p.waits ≡ q.waits ++ option_to_list (newest_of p)
waits_more q p old (Same e) = subst (λ z. z.waits ≡ q.waits ++ option_to_list (newest_of z)) (sym e) (waits_same q old)
waits_more q p old (One user e) = subst (λ z. z.waits ≡ q.waits ++ option_to_list (newest_of z)) (sym e) (waits_kept q user old)

-- an event that led here
led_by : (x : KCore) (ms : List (List ℕ)) → (box x).waits ≡ ms ++ option_to_list (newest_of (box x)) → (box x).waits ≡ ms ++ accepted_in (outcomes_of kept x)
led_by x ms e = e ∙ ap (λ z. ms ++ z) (sym (told_news x))

silent_by : (x : KCore) (q : KInbox) → q.fresh ≡ false → box x ≡ q → accepted_in (outcomes_of kept x) ≡ []
silent_by x q old e = told_news x ∙ ap (λ z. option_to_list (newest_of z)) e ∙ rw old refl

-- ---- the events

box_started : (x : KCore) → box (on_start kept x) ≡ box x
box_started x = let y : KCore = record x { line = kept.starts x.moment x.line } in box_if (is_some x.released) x _ (box x) refl (box_concludes y)

box_sent : (user : List ℕ) (x : KCore) → box (on_send kept user x) ≡ box x
box_sent user x =
    let a = step no_keys x.safe.safety (DataRequest user) in
    let y = with_safety_step kept (DataRequest user) a x in
    box_concludes (hand_text kept (octets_sent_in_outcome a.1) y) ∙ box_says (octets_sent_in_outcome a.1) y

box_left : (sub : ℕ) (x : KCore) → box (on_release kept sub x) ≡ box x
box_left sub x =
    let a = step no_keys x.safe.safety (DisconnectRequest sub) in
    box_if (is_some x.released) x _ (box x) refl
    (box_departs (release_of (User sub)) normal_disconnect (octets_sent_in_outcome a.1) (with_safety_step kept (DisconnectRequest sub) a x))

box_time : (why : Option Release) (x : KCore) → box (on_expiry kept why x) ≡ box x
box_time (Some why) x = refl
box_time None x =
    let why = release_of SetUpTimeSpent in
    box_if (is_spent x) _ x (box x) (box_departs why normal_disconnect (di_of why x.safe.safety) x) refl

box_ticked : (x : KCore) → box (on_tick kept x) ≡ box x
box_ticked x =
    let y : KCore = record x { line = kept.ticks x.moment x.line } in
    let z = on_expiry kept (kept.given_up x.moment x.line) y in
    box_if (is_some x.released) x _ (box x) refl (box_concludes z ∙ box_time (kept.given_up x.moment x.line) y)

box_broken : (cause : Cause) (x : KCore) → box (on_break cause x) ≡ box x
box_broken cause x = box_if (is_some x.released) x _ (box x) refl refl

none_left : (ms : List (List ℕ)) → length ms ≡ 0 → ms ≡ []
none_left [] e = refl
none_left (m ∷ ms) e = absurd (omega arith)

-- what a take leaves
record UsedSo (x y : KCore) : Type 0 where
  waits : (box y).waits ≡ drop 1 (box x).waits
  old : (box y).fresh ≡ false

used_so : (x : KCore) → (box x).fresh ≡ false → UsedSo x (on_take kept x)
used_so x old = elim (cases_Bool (length (box x).waits == 0)) [
  | inl p ↦ rw p (record { waits = let e = none_left (box x).waits (eqb-true (length (box x).waits) 0 p) in e ∙ ap (λ z. drop 1 z) (sym e); old = old })
  | inr p ↦
      rw p
      (let y : KCore = record x { upper = kept.uses x.upper } in
      let e = box_concludes y in
      record { waits = ap (λ z. z.waits) e; old = ap (λ z. z.fresh) e ∙ old })
]

none_taken : (message : Option (List ℕ)) → accepted_in (if_taken message) ≡ []
none_taken None = refl
none_taken (Some message) = refl

taken_told : (message : Option (List ℕ)) (outcomes : List Outcome) → accepted_in (if_taken message ++ outcomes) ≡ accepted_in outcomes
taken_told message outcomes = accepted_in-append (if_taken message) outcomes ∙ ap (λ z. z ++ accepted_in outcomes) (none_taken message)

-- what an event that brings no message leaves
silent_waits : (x : KCore) (q : KInbox) → q.fresh ≡ false → box x ≡ q → (box x).waits ≡ q.waits ++ accepted_in (outcomes_of kept x)
silent_waits x q old e = led_by x q.waits (waits_more q (box x) old (Same e))

sends_waits : (refused : Option SendRefusal) (now : ℕ) (user : List ℕ) (x : KCore)
    → (box (step_send_unless kept refused now user x)).waits ≡ (box x).waits ++ accepted_in (refusal_or_outcomes refused (outcomes_of kept (step_send_unless kept refused now user x)))
sends_waits (Some refusal_of_send) now user x = sym (append-nil (box x).waits)
sends_waits None now user x = silent_waits (on_send kept user (new_event_at kept now x)) (box (new_event_at kept now x)) refl (box_sent user (new_event_at kept now x))

pub waits_move : WaitsMove
unfolding after_start after_octets refusal_of_send after_send after_take after_release after_tick after_break
waits_move now Start k = let x = new_event_at kept now k.core in silent_waits (on_start kept x) (box x) refl (box_started x)
waits_move now (Come finds octets) k =
    let x = new_event_at kept now k.core in
    let found = (deframing.feeding_of k.deframer octets).verdict in
    elim (cases_Bool (is_some k.core.released)) [
      | inl p ↦ rw p (silent_waits x (box x) refl refl)
      | inr p ↦ rw p (led_by (found_comes finds now found k.core) (waiting_in k) (waits_more (box x) (box (found_comes finds now found k.core)) refl (more_found finds now found k.core)))
    ]
waits_move now (Send user) k = sends_waits (refusal_of kept user k.core) now user k.core
waits_move now Take k =
    let x = new_event_at kept now k.core in
    let y = on_take kept x in
    let u = used_so x refl in
    led_by y (drop 1 (waiting_in k)) (ap (λ z. z) u.waits ∙ sym (ap (λ (b : Bool). drop 1 (waiting_in k) ++ option_to_list (if b then slice_get (box y).waits (length (box y).waits - 1) else None)) u.old ∙ append-nil (drop 1 (waiting_in k))))
    ∙ ap (λ z. drop 1 (waiting_in k) ++ z) (sym (taken_told (kept.oldest k.core.upper) (outcomes_of kept y)))
waits_move now (Leave sub) k = let x = new_event_at kept now k.core in silent_waits (on_release kept sub x) (box x) refl (box_left sub x)
waits_move now Tick k = let x = new_event_at kept now k.core in silent_waits (on_tick kept x) (box x) refl (box_ticked x)
waits_move now Ended k = let x = new_event kept k.core in silent_waits (on_break LineEnded x) (box x) refl (box_broken LineEnded x)
waits_move now Fault k = let x = new_event kept k.core in silent_waits (on_break LineFailed x) (box x) refl (box_broken LineFailed x)
waits_move now Stalled k = let x = new_event kept k.core in silent_waits (on_break LineStalled x) (box x) refl (box_broken LineStalled x)

sends_silent : (refused : Option SendRefusal) (now : ℕ) (user : List ℕ) (x : KCore)
    → accepted_in (refusal_or_outcomes refused (outcomes_of kept (step_send_unless kept refused now user x))) ≡ []
sends_silent (Some refusal_of_send) now user x = refl
sends_silent None now user x = silent_by (on_send kept user (new_event_at kept now x)) (box (new_event_at kept now x)) refl (box_sent user (new_event_at kept now x))

pub octets_bring : OctetsBring
unfolding after_start after_octets refusal_of_send after_send after_take after_release after_tick after_break
octets_bring now Start k p = let x = new_event_at kept now k.core in silent_by (on_start kept x) (box x) refl (box_started x)
octets_bring now (Come finds octets) k p = absurd (true≢false p)
octets_bring now (Send user) k p = sends_silent (refusal_of kept user k.core) now user k.core
octets_bring now Take k p =
    let x = new_event_at kept now k.core in
    let y = on_take kept x in
    taken_told (kept.oldest k.core.upper) (outcomes_of kept y) ∙ silent_by y (box y) (used_so x refl).old refl
octets_bring now (Leave sub) k p = let x = new_event_at kept now k.core in silent_by (on_release kept sub x) (box x) refl (box_left sub x)
octets_bring now Tick k p = let x = new_event_at kept now k.core in silent_by (on_tick kept x) (box x) refl (box_ticked x)
octets_bring now Ended k p = let x = new_event kept k.core in silent_by (on_break LineEnded x) (box x) refl (box_broken LineEnded x)
octets_bring now Fault k p = let x = new_event kept k.core in silent_by (on_break LineFailed x) (box x) refl (box_broken LineFailed x)
octets_bring now Stalled k p = let x = new_event kept k.core in silent_by (on_break LineStalled x) (box x) refl (box_broken LineStalled x)

-- ---- a release

take_stays : (why : Release) (x : KCore) → x.released ≡ Some why → (on_take kept x).released ≡ Some why
take_stays why x e = elim (cases_Bool (length (box x).waits == 0)) [ inl p ↦ rw p e | inr p ↦ rw p (rw e refl) ]

pub release_stays : ReleaseStays
unfolding after_start after_octets after_send after_take after_release after_tick after_break
release_stays now Start k why e = rw e refl
release_stays now (Come finds octets) k why e = rw e refl
release_stays now (Send user) k why e = rw e refl
release_stays now Take k why e = take_stays why (new_event_at kept now k.core) e
release_stays now (Leave sub) k why e = rw e refl
release_stays now Tick k why e = rw e refl
release_stays now Ended k why e = rw e refl
release_stays now Fault k why e = rw e refl
release_stays now Stalled k why e = rw e refl

broken_is : (cause : Cause) (x : KCore) → is_some (on_break cause x).released ≡ true
broken_is cause x = elim (cases_Bool (is_some x.released)) [ inl p ↦ rw p p | inr p ↦ rw p refl ]

pub breaks_release : BreaksRelease
unfolding after_break
breaks_release = record {
  ended = λ now k. broken_is LineEnded (new_event kept k.core);
  fault = λ now k. broken_is LineFailed (new_event kept k.core);
  stalled = λ now k. broken_is LineStalled (new_event kept k.core);
}

pub released_want_none : ReleasedWantNone
unfolding deadline_of
released_want_none k e = rw e refl

pub released_tell_none : ReleasedTellNone
unfolding after_octets
released_tell_none now finds octets k why e = rw e refl

-- ---- octets that are used

used_one : (stream : List ℕ) (x : ℕ) (xs : List ℕ) → 1 ≤ used_behind stream (x ∷ xs)
unfolding used_behind
used_one stream x xs = elim (cases_Bool (has_verdicts (frames_of (stream ++ x ∷ [])))) [ inl p ↦ rw p (omega arith) | inr p ↦ rw p (omega arith) ]

used_most : (stream xs : List ℕ) → used_behind stream xs ≤ length xs
unfolding used_behind
used_most stream [] = omega arith
used_most stream (x ∷ xs) =
    let h : used_behind (stream ++ x ∷ []) xs ≤ length xs = used_most (stream ++ x ∷ []) xs in
    elim (cases_Bool (has_verdicts (frames_of (stream ++ x ∷ [])))) [ inl p ↦ rw p (omega arith) | inr p ↦ rw p (omega arith) ]

pub uses_octets : Uses
unfolding used_of deframing.feeding_of
uses_octets = record {
  all = λ k piece e. rw e refl;
  one = λ k octet octets.
      elim (cases_Bool (is_some k.core.released)) [ inl p ↦ rw p (omega arith) | inr p ↦ rw p (used_one (deframing.stream_behind_kept k.deframer) octet octets) ];
  most = λ k piece.
      elim (cases_Bool (is_some k.core.released)) [ inl p ↦ rw p (omega arith) | inr p ↦ rw p (used_most (deframing.stream_behind_kept k.deframer) piece) ];
}
