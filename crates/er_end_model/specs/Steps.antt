-- What an end does with an event (this profile): how its layers are joined. Frames go up from the station to the blocks, the
-- transport and the safety side. What these answer goes down; then, while no payload waits at the station, the next TPDU is handed
-- down in a block; last comes the answer that the station still owes. An event that releases the end does neither, unless a line says so.
use Rattle.hdlc_station_model.specs.Receiving.{is_some_octets}
use Rattle.std.specs.Prelude.{ℕ, zero, suc, ◌==◌, nat_le, max, min, Bool, true, false, not, ◌&&◌, if◌then◌else◌, List, [], ◌∷◌, ◌++◌, length, Option, Some}
use Rattle.std.specs.Prelude.{None, is_some, Ok, Err}
use Rattle.er_base.specs.declared.release.Release.{Release}
use Rattle.er_base.specs.declared.cause.Cause.{Cause}
use Rattle.er_base.specs.declared.cause.Cause.TheVariants.{User, DisconnectWithoutDi, BlockRefused, SetUpTimeSpent}
use Rattle.er_base.specs.Causes.{release_of, by_this_end, by_peer_di}
use Rattle.des_block.specs.declared.triple_key.TripleKey.{TripleKey}
use Rattle.hdlc_frames.specs.Framing.{Verdict}
use Rattle.hdlc_station_model.specs.Stations.{Deed as LinkDeed}
use Rattle.t70_header.specs.Blocks.{last_block}
use Rattle.t70_header.specs.Joining as joining
use Rattle.x224_class2.specs.Tpdus.{GivenTpdu, Dr, Dc, octets_given}
use Rattle.x224_class2.specs.Transport.{ReceptionDeed, Nothing, Called, Confirmed, Message, Disconnected}
use Rattle.x224_class2.specs.Transport as transport
use Rattle.x224_class2.specs.Refusals.{protocol_error}
use Rattle.sapdu.specs.Spelling.{Di, spelling, di_in}
use Rattle.sapdu.specs.Messages.{is_message}
use Rattle.safety_automaton.specs.Safety.{no_keys, Safety, Phase, Ready, WaitAu1, WaitAu2, WaitAu3, WaitAr, Connected, Released, SafetyEvent, ConnectRequest}
use Rattle.safety_automaton.specs.Safety.{Received, DataRequest, DisconnectRequest, SafetyOutcome, flag_of, peer_flag, sealed_by, verified_by}
use Rattle.safety_automaton.specs.Safety.{octets_sent_in_outcome, step}
use Rattle.safety_automaton.specs.Reports.{KeptSafe, Report, ToldAnswered, ToldConnected, ToldAccepted, ToldReleased, ToldIgnored, report_of}
use Rattle.safety_automaton.specs.Reports as reports
use Rattle.er_end_model.specs.Outcomes.{SendRefusal, RefusedReleased, RefusedNotConnected, RefusedLength, RefusedFull, Outcome, ConnectedTo, Accepted, Taken}
use Rattle.er_end_model.specs.Outcomes.{NothingToTake, WasReleased, Octets}
use Rattle.er_end_model.specs.Stacks.{Ops, Stack}

-- how KMACs are looked up: by a moment, the engine's number and the radio block centre's
abbrev pub Finds : Type 0
Finds = (now engine rbc : ℕ) → Option TripleKey

-- an event begins: nothing was sent, sealed, verified or told in it yet
abbrev pub new_event : {S U : Type 0} → Ops S U → Stack S U → Stack S U
new_event o x = record x {
  line = o.settled x.line;
  upper = o.opened x.upper;
  safe = reports.kept_side_without_texts x.safe.safety;
  connected = None;
  leaves = None;
}

-- at a moment; one below the last moment counts as the last one
abbrev pub new_event_at : {S U : Type 0} → Ops S U → ℕ → Stack S U → Stack S U
new_event_at o now x = record (new_event o x) { moment = max x.moment now }

-- ---- releases

-- the end is released
abbrev pub with_release : {S U : Type 0} → Release → Stack S U → Stack S U
with_release why x = record x { leaves = Some why; released = Some why }

-- a TPDU of the end's own is handed down in one block, where the station may send
abbrev pub hand_tpdu : {S U : Type 0} → Ops S U → GivenTpdu → Stack S U → Stack S U
hand_tpdu o tpdu x = record x {
  line = o.hands x.moment (last_block (octets_given tpdu)) x.line;
  upper = o.gives x.upper tpdu;
}

abbrev pub hand_tpdu_if_may : {S U : Type 0} → Ops S U → GivenTpdu → Stack S U → Stack S U
hand_tpdu_if_may o tpdu x = if o.may_send x.line then hand_tpdu o tpdu x else x

abbrev pub close_link : {S U : Type 0} → Ops S U → Stack S U → Stack S U
close_link o x = record x { line = o.closes x.line }

-- the answer that the station still owes
abbrev pub send_owed_answer : {S U : Type 0} → Ops S U → Stack S U → Stack S U
send_owed_answer o x = record x { line = o.finishes x.line }

-- this end leaves: a DR with this reason and this user data, then the link is ended
abbrev pub send_dr : {S U : Type 0} → Ops S U → Release → ℕ → List ℕ → Stack S U → Stack S U
send_dr o why reason user x = with_release why (close_link o (hand_tpdu_if_may o (Dr reason user) x))

-- the peer left by a DR: a DC, and what the station owes; the link is the peer's to end
abbrev pub answer_dr : {S U : Type 0} → Ops S U → Release → Stack S U → Stack S U
answer_dr o why x = with_release why (send_owed_answer o (hand_tpdu_if_may o Dc x))

-- the peer left by a DI in another TPDU than DR: the link is ended
abbrev pub end_after_di : {S U : Type 0} → Ops S U → Release → Stack S U → Stack S U
end_after_di o why x = with_release why (close_link o x)

-- the reason of a DR for a release that isn't the transport's own (ITU-T X.224, 13.5.3: normal disconnect by the session entity)
abbrev pub normal_disconnect : ℕ
normal_disconnect = 128

-- the safety side was released: by this end, whose DI goes in a DR, or by the peer
abbrev pub on_safety_release : {S U : Type 0} → Ops S U → Release → List ℕ → Stack S U → Stack S U
on_safety_release o why di x = if why.by_peer then end_after_di o why x else send_dr o why normal_disconnect di x

-- why a DR releases: by the peer where its user data is a DI with the peer's flag
abbrev pub why_of : Option (ℕ × ℕ) → Release
why_of None = release_of DisconnectWithoutDi
why_of (Some di) = by_peer_di di.0 di.1

-- ---- what the safety side says

-- a safety side behind a step
abbrev pub kept_safe_of_step : Safety × SafetyOutcome → KeptSafe
kept_safe_of_step a = record { safety = a.0; sealed = sealed_by a.1; verified = verified_by a.1 }

-- a step of the safety side
abbrev pub with_safety_step : {S U : Type 0} → Ops S U → SafetyEvent → Safety × SafetyOutcome → Stack S U → Stack S U
with_safety_step o event a x = record x { safe = kept_safe_of_step a; upper = o.speaks x.upper event a.1 }

-- a text is handed to the transport as a message, where there is one
abbrev pub hand_text : {S U : Type 0} → Ops S U → List ℕ → Stack S U → Stack S U
hand_text o text x = if is_some_octets text && o.may_hand x.upper then record x { upper = o.hands_message x.upper text } else x

abbrev pub accept_text : {S U : Type 0} → Ops S U → List ℕ → Stack S U → Stack S U
accept_text o text x = if is_some_octets text then record x { upper = o.accepts x.upper text } else x

abbrev pub skip_message : {S U : Type 0} → Ops S U → Stack S U → Stack S U
skip_message o x = record x { upper = o.skips x.upper }

-- the TPDU that brought a text to the safety side
pub data Carrier : Type 0 where
  InCr : Carrier
  InCc : Carrier
  InDt : Carrier

-- an answer goes down: the answer to a CR is its CC, the others are messages; and a message that was answered counts as taken
abbrev pub hand_answer : {S U : Type 0} → Ops S U → Carrier → List ℕ → Stack S U → Stack S U
hand_answer o InCr text x = accept_text o text x
hand_answer o InCc text x = hand_text o text x
hand_answer o InDt text x = hand_text o text (skip_message o x)

-- a message of the peer's user, which comes in DTs alone
abbrev pub keep_message : {S U : Type 0} → Ops S U → Carrier → List ℕ → Stack S U → Stack S U
keep_message o InCr user x = x
keep_message o InCc user x = x
keep_message o InDt user x = record x { upper = o.keeps x.upper user }

-- what the safety side tells of a text, and the octets with which it answers
abbrev pub on_safety_report : {S U : Type 0} → Ops S U → Carrier → Report → List ℕ → Stack S U → Stack S U
on_safety_report o carrier ToldAnswered octets x = hand_answer o carrier octets x
on_safety_report o carrier (ToldConnected peer) octets x = record (hand_answer o carrier octets x) { connected = Some peer }
on_safety_report o carrier (ToldAccepted user) octets x = keep_message o carrier user x
on_safety_report o carrier (ToldReleased why) octets x = on_safety_release o why octets x
on_safety_report o carrier ToldIgnored octets x = x

-- a text comes to the safety side
abbrev pub on_text : {S U : Type 0} → Ops S U → Finds → Carrier → List ℕ → Stack S U → Stack S U
on_text o finds carrier text x =
    let a = step (finds x.moment) x.safe.safety (Received text) in
    on_safety_report o carrier (report_of a.1) (octets_sent_in_outcome a.1) (with_safety_step o (Received text) a x)

-- ---- what the transport tells

abbrev pub on_transport_deed : {S U : Type 0} → Ops S U → Finds → ReceptionDeed → Stack S U → Stack S U
on_transport_deed o finds Nothing x = x
on_transport_deed o finds (Called user) x = on_text o finds InCr user x
on_transport_deed o finds (Confirmed user) x = on_text o finds InCc user x
on_transport_deed o finds (Message message) x = on_text o finds InDt message x
on_transport_deed o finds (Disconnected user) x = answer_dr o (why_of (di_in user (peer_flag x.safe.safety))) x
on_transport_deed o finds (transport.Refused sub reason) x = send_dr o (by_this_end 2 sub) reason [] x

abbrev pub on_tpdu : {S U : Type 0} → Ops S U → Finds → List ℕ → Stack S U → Stack S U
on_tpdu o finds tpdu x = on_transport_deed o finds (o.deed x.upper tpdu) (record x { upper = o.hears x.upper tpdu })

-- ---- what the blocks come to

abbrev pub on_joined_block : {S U : Type 0} → Ops S U → Finds → joining.BlockJoiningResult → Stack S U → Stack S U
on_joined_block o finds (Ok None) x = x
on_joined_block o finds (Ok (Some tpdu)) x = on_tpdu o finds tpdu x
on_joined_block o finds (Err fault) x = send_dr o (release_of BlockRefused) protocol_error [] x

abbrev pub on_block : {S U : Type 0} → Ops S U → Finds → List ℕ → Stack S U → Stack S U
on_block o finds block x =
    let joined = joining.block_step x.joined block in on_joined_block o finds joined.1 (record x { joined = joined.0 })

-- ---- what the station tells

-- an initiator that hasn't begun
abbrev pub is_ready : Phase → Bool
is_ready (Ready peer kmac rb) = true
is_ready (WaitAu1 ra) = false
is_ready (WaitAu2 peer kmac rb) = false
is_ready (WaitAu3 connection) = false
is_ready (WaitAr connection) = false
is_ready (Connected peer session) = false
is_ready (Released release session) = false

abbrev pub connect_with_text : {S U : Type 0} → Ops S U → List ℕ → Stack S U → Stack S U
connect_with_text o text x = if is_some_octets text then record x { upper = o.connects x.upper text } else x

-- the link came up: the caller connects with AU1
abbrev pub on_link_up : {S U : Type 0} → Ops S U → Stack S U → Stack S U
on_link_up o x =
    let a = step no_keys x.safe.safety ConnectRequest in
    if o.may_connect x.upper && is_ready x.safe.safety.phase then connect_with_text o (octets_sent_in_outcome a.1) (with_safety_step o ConnectRequest a x)
    else x

-- a payload that was taken, the link that came up, or a release of the station, which sent its last frame
abbrev pub on_link_told : {S U : Type 0} → Ops S U → Finds → Option (List ℕ) → Bool → Option Release → Stack S U → Stack S U
on_link_told o finds (Some payload) up released x = on_block o finds payload x
on_link_told o finds None true released x = on_link_up o x
on_link_told o finds None false (Some why) x = with_release why x
on_link_told o finds None false None x = x

abbrev pub on_link_deed : {S U : Type 0} → Ops S U → Finds → LinkDeed → Stack S U → Stack S U
on_link_deed o finds deed x = on_link_told o finds deed.payload deed.up deed.released x

-- ---- what goes down behind each event

-- the next TPDU is given, in one block
abbrev pub hand_next_tpdu : {S U : Type 0} → Ops S U → Stack S U → Stack S U
hand_next_tpdu o x = record x {
  line = o.hands x.moment (last_block (o.next x.upper)) x.line;
  upper = o.after_next x.upper;
}

abbrev pub has_next_tpdu : {S U : Type 0} → Ops S U → Stack S U → Bool
has_next_tpdu o x = o.is_free x.line && o.has_next x.upper

-- up to so many times, while no payload waits
unfoldable pub hand_waiting_tpdus : {S U : Type 0} → Ops S U → ℕ → Stack S U → Stack S U
hand_waiting_tpdus o zero x = x
hand_waiting_tpdus o (suc n) x = if has_next_tpdu o x then hand_waiting_tpdus o n (hand_next_tpdu o x) else x

-- so many that a payload waits behind the last one: one more than the greatest window lets go, and one more
abbrev pub most_offers : ℕ
most_offers = 33

abbrev pub conclude_event : {S U : Type 0} → Ops S U → Stack S U → Stack S U
conclude_event o x = if is_some x.released then x else send_owed_answer o (hand_waiting_tpdus o most_offers x)

-- ---- the events; a released end does nothing

-- the end is to begin: the calling station sends its set-up frame
abbrev pub on_start : {S U : Type 0} → Ops S U → Stack S U → Stack S U
on_start o x = if is_some x.released then x else conclude_event o (record x { line = o.starts x.moment x.line })

abbrev pub step_start : {S U : Type 0} → Ops S U → ℕ → Stack S U → Stack S U
step_start o now x = on_start o (new_event_at o now x)

-- a frame comes, or octets that are none
abbrev pub on_frame : {S U : Type 0} → Ops S U → Finds → Verdict → Stack S U → Stack S U
on_frame o finds verdict x =
    if is_some x.released then x
    else conclude_event o (on_link_deed o finds (o.told x.moment verdict x.line) (record x { line = o.receives x.moment verdict x.line }))

abbrev pub step_frame : {S U : Type 0} → Ops S U → Finds → ℕ → Verdict → Stack S U → Stack S U
step_frame o finds now verdict x = on_frame o finds verdict (new_event_at o now x)

-- the safe connection stands
abbrev pub is_connected : Phase → Bool
is_connected (Ready peer kmac rb) = false
is_connected (WaitAu1 ra) = false
is_connected (WaitAu2 peer kmac rb) = false
is_connected (WaitAu3 connection) = false
is_connected (WaitAr connection) = false
is_connected (Connected peer session) = true
is_connected (Released release session) = false

-- why a send is refused, where it is: the first of these that holds
abbrev pub refusal_at : Option Release → (is_connected : Bool) → (user : List ℕ) → (waiting : ℕ) → Option SendRefusal
refusal_at (Some why) connected user waiting = Some (RefusedReleased why)
refusal_at None connected user waiting =
    if not connected then Some RefusedNotConnected
    else if not (is_message user) then Some (RefusedLength (length user))
    else if nat_le 16 waiting then Some (RefusedFull waiting)
    else None

abbrev pub refusal_of : {S U : Type 0} → Ops S U → List ℕ → Stack S U → Option SendRefusal
refusal_of o user x = refusal_at x.released (is_connected x.safe.safety.phase) user (o.waiting x.upper)

-- a message is sealed and handed down
abbrev pub on_send : {S U : Type 0} → Ops S U → List ℕ → Stack S U → Stack S U
on_send o user x =
    let a = step no_keys x.safe.safety (DataRequest user) in
    let y = with_safety_step o (DataRequest user) a x in
    conclude_event o (hand_text o (octets_sent_in_outcome a.1) (record y { upper = o.sends y.upper user }))

-- the user sends; a send that is refused leaves all as it was
abbrev pub step_send_unless : {S U : Type 0} → Ops S U → Option SendRefusal → ℕ → List ℕ → Stack S U → Stack S U
step_send_unless o (Some refusal) now user x = x
step_send_unless o None now user x = on_send o user (new_event_at o now x)

abbrev pub step_send : {S U : Type 0} → Ops S U → ℕ → List ℕ → Stack S U → Stack S U
step_send o now user x = step_send_unless o (refusal_of o user x) now user x

-- the user takes the oldest message, also from a released end
abbrev pub on_take : {S U : Type 0} → Ops S U → Stack S U → Stack S U
on_take o x = if o.untaken x.upper == 0 then x else conclude_event o (record x { upper = o.uses x.upper })

abbrev pub step_take : {S U : Type 0} → Ops S U → ℕ → Stack S U → Stack S U
step_take o now x = on_take o (new_event_at o now x)

-- the user releases, with this sub-reason
abbrev pub on_release : {S U : Type 0} → Ops S U → ℕ → Stack S U → Stack S U
on_release o sub x =
    let a = step no_keys x.safe.safety (DisconnectRequest sub) in
    if is_some x.released then x
    else send_dr o (release_of (User sub)) normal_disconnect (octets_sent_in_outcome a.1) (with_safety_step o (DisconnectRequest sub) a x)

abbrev pub step_release : {S U : Type 0} → Ops S U → ℕ → ℕ → Stack S U → Stack S U
step_release o now sub x = on_release o sub (new_event_at o now x)

-- a moment has come: first T1 may expire, then the time for the set-up is spent
abbrev pub is_spent : {S U : Type 0} → Stack S U → Bool
is_spent x = not (is_connected x.safe.safety.phase) && nat_le x.limit x.moment

-- the DI of the end itself
abbrev pub di_of : Release → Safety → List ℕ
di_of why side = spelling (Di why.reason why.sub) (flag_of side.role)

abbrev pub on_expiry : {S U : Type 0} → Ops S U → Option Release → Stack S U → Stack S U
on_expiry o (Some why) x = with_release why x
on_expiry o None x =
    let why = release_of SetUpTimeSpent in
    if is_spent x then send_dr o why normal_disconnect (di_of why x.safe.safety) x else x

abbrev pub on_tick : {S U : Type 0} → Ops S U → Stack S U → Stack S U
on_tick o x =
    if is_some x.released then x
    else conclude_event o (on_expiry o (o.given_up x.moment x.line) (record x { line = o.ticks x.moment x.line }))

abbrev pub step_tick : {S U : Type 0} → Ops S U → ℕ → Stack S U → Stack S U
step_tick o now x = on_tick o (new_event_at o now x)

-- the line ended, failed or stalled: nothing is sent
abbrev pub on_break : {S U : Type 0} → Cause → Stack S U → Stack S U
on_break cause x = if is_some x.released then x else with_release (release_of cause) x

abbrev pub step_break : {S U : Type 0} → Ops S U → Cause → Stack S U → Stack S U
step_break o cause x = on_break cause (new_event o x)

-- ---- what shows

-- the moment at which the end wants a tick: the first of those at which T1 expires and at which the time for the set-up is spent
abbrev pub earlier_of_moments : Option ℕ → Option ℕ → Option ℕ
earlier_of_moments None b = b
earlier_of_moments (Some a) None = Some a
earlier_of_moments (Some a) (Some b) = Some (min a b)

abbrev pub deadline : {S U : Type 0} → Ops S U → Stack S U → Option ℕ
deadline o x =
    if is_some x.released then None
    else earlier_of_moments (o.expiry x.line) (if is_connected x.safe.safety.phase then None else Some x.limit)

-- what an event told, in this order
abbrev pub if_connected : Option ℕ → List Outcome
if_connected None = []
if_connected (Some peer) = ConnectedTo peer ∷ []

abbrev pub if_accepted : Option (List ℕ) → List Outcome
if_accepted None = []
if_accepted (Some message) = Accepted message ∷ []

abbrev pub if_released : Option Release → List Outcome
if_released None = []
if_released (Some why) = WasReleased why ∷ []

abbrev pub if_octets : List ℕ → List Outcome
if_octets [] = []
if_octets (octet ∷ octets) = Octets (octet ∷ octets) ∷ []

abbrev pub outcomes_of : {S U : Type 0} → Ops S U → Stack S U → List Outcome
outcomes_of o x = if_connected x.connected ++ if_accepted (o.news x.upper) ++ if_released x.leaves ++ if_octets (o.written x.line)

-- what a take told of an end in which this message was the oldest
abbrev pub if_taken : Option (List ℕ) → List Outcome
if_taken None = NothingToTake ∷ []
if_taken (Some message) = Taken message ∷ []
