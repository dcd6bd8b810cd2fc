-- A message is accepted only where a step of the safety side accepted it.
use Rattle.std.proofs.Common.{◌≡◌, ◌∙◌, inl, inr, ◌+◌, ◌-◌, ◌≤◌, ℕ, zero, suc, Bool, true, false, ◌&&◌, List, [], ◌∷◌, ◌++◌, length, take, Option, Some, None, Ok, Err, refl, sym, ap, subst, arith, length-append, ltb-false, length-take}
use Rattle.std.specs.Prelude.{◌==◌, ◌%◌, nat_lt, if◌then◌else◌, slice_get, is_some}
use Rattle.std.specs.Option.{option_to_list}
use Rattle.std.specs.List.{All}
use Rattle.std.proofs.lemmas.Bool.{cases_Bool}
use Rattle.std.proofs.lemmas.List.Elements.{All-nil, All-cons}
use Rattle.er_base.specs.declared.release.Release.{Release}
use Rattle.er_base.specs.Causes.{release_of, by_this_end}
use Rattle.er_base.specs.declared.cause.Cause.TheVariants.{BlockRefused}
use Rattle.des_block.specs.declared.triple_key.TripleKey.{TripleKey}
use Rattle.cbc_mac.specs.Mac.{mac_of}
use Rattle.sapdu.specs.Spelling.{SafetyPdu, Dt, fault_of_length, fields_of, unless, read_behind, read_of}
use Rattle.sapdu.specs.Kinds.{SapduKindRow, row_of_sapdu_kind, kind_with}
use Rattle.sapdu.specs.declared.kind.SaKind.{SaKind}
use Rattle.sapdu.specs.declared.kind.SaKind.TheVariants as kind
use Rattle.sapdu.specs.declared.fault.SaFault.{SaFault}
use Rattle.sapdu.specs.declared.fault.SaFault.TheVariants.{Short, Long}
use Rattle.sapdu.specs.Messages.{IsMessage}
use Rattle.hdlc_frames.specs.Framing.{Verdict}
use Rattle.hdlc_frames.specs.Deframing as deframing
use Rattle.hdlc_station_model.specs.Receiving.{is_some_octets}
use Rattle.t70_header.specs.Joining as joining
use Rattle.x224_class2.specs.Refusals.{protocol_error}
use Rattle.x224_class2.specs.Tpdus.{GivenTpdu, Dr, Dc}
use Rattle.x224_class2.specs.Transport.{ReceptionDeed, Nothing, Called, Confirmed, Message, Disconnected}
use Rattle.x224_class2.specs.Transport as transport
use Rattle.sapdu.specs.Spelling.{di_in}
use Rattle.safety_automaton.specs.Safety.{no_keys, Safety, ConnectRequest, Received, SafetyOutcome, SentAu1, SentAu2, SentAu3, SentAr, ReceivedAr, AcceptedDt, SentDt, Refused, ReleasedLocally, ReleasedByPeer, NothingDone, octets_sent_in_outcome, message_text, peer_flag, session_in, step}
use Rattle.safety_automaton.specs.Reports.{KeptSafe, report_of}
use Rattle.safety_automaton.specs.Laws.{IsVerifiedMessage, AcceptsVerified, VerifiedAccepts}
use Rattle.er_end_model.specs.Steps.{Finds, new_event_at, hand_tpdu_if_may, send_dr, answer_dr, on_safety_release, why_of, kept_safe_of_step, with_safety_step, hand_text, accept_text, Carrier, InCr, InCc, InDt, hand_answer, on_safety_report, on_text, on_transport_deed, on_joined_block, is_ready, connect_with_text, on_link_up, on_link_told, hand_next_tpdu, has_next_tpdu, hand_waiting_tpdus, most_offers, conclude_event, on_frame, normal_disconnect}
use Rattle.er_end_model.specs.Ends.{Event, Start, Come, Send, Take, Leave, Tick, Ended, Fault, Stalled, opened}
use Rattle.er_end_model.specs.Origins.{Origin, BringsIn, RunsAreHeard}
use Rattle.er_end_model.specs.Hearing.{text_in_deed}
use Rattle.er_end_model.specs.Outcomes.{Outcome}
use Rattle.er_end.specs.Inboxes.{KInbox, kept_more, newest_of}
use Rattle.er_end.specs.KeptLayers.{KCore, kept}
use Rattle.er_end.specs.KeptEnds.{KEnd, kept_opened, found_comes, after_octets, tells}
use Rattle.er_end.specs.Keeping.{accepted_in, is_octets, OctetsBring, ReleasedTellNone}
use Rattle.er_end.specs.Standing.{MadeStands, RunsAlike, events_of}
use Rattle.er_end_promises.specs.Verified.{IsMessageVerifiedAt, AcceptsVerifiedAlone, AcceptsOneAtMost, AcceptedWereBrought}
use Rattle.er_end_promises.proofs.Telling.{news_told}

-- ---- what goes down leaves the waiting messages and the safety side

record Same (x y : KCore) : Type 0 where
  inbox : y.upper.inbox ≡ x.upper.inbox
  safe : y.safe ≡ x.safe

same : (x : KCore) → Same x x
same x = record { inbox = refl; safe = refl }

then_ : (x y z : KCore) → Same x y → Same y z → Same x z
then_ x y z h g = record { inbox = g.inbox ∙ h.inbox; safe = g.safe ∙ h.safe }

same_if : (b : Bool) (x y z : KCore) → Same x y → Same x z → Same x (if b then y else z)
same_if true x y z h g = h
same_if false x y z h g = g

gives : (g : GivenTpdu) (x : KCore) → Same x (hand_tpdu_if_may kept g x)
gives g x = same_if (kept.may_send x.line) x _ x (record { inbox = refl; safe = refl }) (same x)

departs : (why : Release) (reason : ℕ) (user : List ℕ) (x : KCore) → Same x (send_dr kept why reason user x)
departs why reason user x = let h = gives (Dr reason user) x in record { inbox = h.inbox; safe = h.safe }

cut_off : (why : Release) (x : KCore) → Same x (answer_dr kept why x)
cut_off why x = let h = gives Dc x in record { inbox = h.inbox; safe = h.safe }

parts : (why : Release) (di : List ℕ) (x : KCore) → Same x (on_safety_release kept why di x)
parts why di x = same_if why.by_peer x _ _ (record { inbox = refl; safe = refl }) (departs why normal_disconnect di x)

offers : (n : ℕ) (x : KCore) → Same x (hand_waiting_tpdus kept n x)
unfolding hand_waiting_tpdus
offers zero x = same x
offers (suc n) x =
    same_if (has_next_tpdu kept x) x (hand_waiting_tpdus kept n (hand_next_tpdu kept x)) x
    (let h = offers n (hand_next_tpdu kept x) in record { inbox = h.inbox; safe = h.safe }) (same x)

concludes : (x : KCore) → Same x (conclude_event kept x)
concludes x = same_if (is_some x.released) x x _ (same x) (let h = offers most_offers x in record { inbox = h.inbox; safe = h.safe })

says : (text : List ℕ) (x : KCore) → Same x (hand_text kept text x)
says text x = same_if (is_some_octets text && kept.may_hand x.upper) x _ x (record { inbox = refl; safe = refl }) (same x)

answers_call : (text : List ℕ) (x : KCore) → Same x (accept_text kept text x)
answers_call text x = same_if (is_some_octets text) x _ x (record { inbox = refl; safe = refl }) (same x)

answers : (carrier : Carrier) (text : List ℕ) (x : KCore) → Same x (hand_answer kept carrier text x)
answers InCr text x = answers_call text x
answers InCc text x = says text x
answers InDt text x = let h = says text (record x { upper = kept.skips x.upper }) in record { inbox = h.inbox; safe = h.safe }

-- ---- what came up: the messages wait that waited, or one more, which a step of the safety side accepted

data Came (s : Safety) (Of : List ℕ → Type 0) (x y : KCore) : Type 0 where
  NoMessage : y.upper.inbox ≡ x.upper.inbox → Came s Of x y
  OneMessage : (key_of : ℕ → ℕ → Option TripleKey) (sapdu user text : List ℕ) (keys : TripleKey) → Of sapdu → (step key_of s (Received sapdu)).1 ≡ AcceptedDt keys user text
      → y.safe ≡ kept_safe_of_step (step key_of s (Received sapdu)) → y.upper.inbox ≡ kept_more x.upper.inbox user → Came s Of x y

came_on : (s : Safety) (Of : List ℕ → Type 0) (x y z : KCore) → Came s Of x y → Same y z → Came s Of x z
came_on s Of x y z (NoMessage e) h = NoMessage (h.inbox ∙ e)
came_on s Of x y z (OneMessage key_of sapdu user text keys it is safe e) h = OneMessage key_of sapdu user text keys it is (h.safe ∙ safe) (h.inbox ∙ e)

-- by the outcome of the safety side
data Acted (o : SafetyOutcome) (z y : KCore) : Type 0 where
  Silent : y.upper.inbox ≡ z.upper.inbox → Acted o z y
  Kept : (keys : TripleKey) (user text : List ℕ) → o ≡ AcceptedDt keys user text → y.safe ≡ z.safe → y.upper.inbox ≡ kept_more z.upper.inbox user → Acted o z y

acted : (carrier : Carrier) (o : SafetyOutcome) (octets : List ℕ) (z : KCore) → Acted o z (on_safety_report kept carrier (report_of o) octets z)
acted carrier (SentAu1 sent) octets z = Silent refl
acted carrier (SentAu2 keys sealed sent) octets z = Silent (answers carrier octets z).inbox
acted carrier (SentAu3 keys verified sealed sent) octets z = Silent (answers carrier octets z).inbox
acted carrier (SentAr connection verified sealed sent) octets z = Silent (answers carrier octets z).inbox
acted carrier (ReceivedAr connection verified) octets z = Silent (answers carrier octets z).inbox
acted InCr (AcceptedDt keys user text) octets z = Silent refl
acted InCc (AcceptedDt keys user text) octets z = Silent refl
acted InDt (AcceptedDt keys user text) octets z = Kept keys user text refl refl refl
acted carrier (SentDt keys user sealed sent) octets z = Silent refl
acted carrier (Refused refusal) octets z = Silent refl
acted carrier (ReleasedLocally why sent) octets z = Silent (parts why octets z).inbox
acted carrier (ReleasedByPeer why) octets z = Silent (parts why octets z).inbox
acted carrier NothingDone octets z = Silent refl

came_by : (key_of : ℕ → ℕ → Option TripleKey) (Of : List ℕ → Type 0) (sapdu : List ℕ) (x z y : KCore) → Of sapdu → z.upper.inbox ≡ x.upper.inbox
    → z.safe ≡ kept_safe_of_step (step key_of x.safe.safety (Received sapdu)) → Acted (step key_of x.safe.safety (Received sapdu)).1 z y → Came x.safe.safety Of x y
came_by key_of Of sapdu x z y it same_box is (Silent e) = NoMessage (e ∙ same_box)
came_by key_of Of sapdu x z y it same_box is (Kept keys user text told safe e) =
    OneMessage key_of sapdu user text keys it told (safe ∙ is) (e ∙ ap (λ (q : KInbox). kept_more q user) same_box)

text_came : (finds : Finds) (Of : List ℕ → Type 0) (carrier : Carrier) (text : List ℕ) (x : KCore) → Of text → Came x.safe.safety Of x (on_text kept finds carrier text x)
text_came finds Of carrier text x it =
    let a = step (finds x.moment) x.safe.safety (Received text) in
    let z : KCore = with_safety_step kept (Received text) a x in
    came_by (finds x.moment) Of text x z (on_text kept finds carrier text x) it refl refl (acted carrier a.1 (octets_sent_in_outcome a.1) z)

-- what a deed, a TPDU and a payload bring
abbrev OfDeed : ReceptionDeed → List ℕ → Type 0
OfDeed deed sapdu = text_in_deed deed ≡ Some sapdu

deed_came : (finds : Finds) (deed : ReceptionDeed) (x : KCore) → Came x.safe.safety (OfDeed deed) x (on_transport_deed kept finds deed x)
deed_came finds Nothing x = NoMessage refl
deed_came finds (Called user) x = text_came finds (OfDeed (Called user)) InCr user x refl
deed_came finds (Confirmed user) x = text_came finds (OfDeed (Confirmed user)) InCc user x refl
deed_came finds (Message message) x = text_came finds (OfDeed (Message message)) InDt message x refl
deed_came finds (Disconnected user) x = NoMessage (cut_off (why_of (di_in user (peer_flag x.safe.safety))) x).inbox
deed_came finds (transport.Refused sub reason) x = NoMessage (departs (by_this_end 2 sub) reason [] x).inbox

-- where the state before has the same messages, and what is said of the SaPDU implies more
came_from : (s : Safety) (Of Of' : List ℕ → Type 0) (x x' y : KCore) → x'.upper.inbox ≡ x.upper.inbox → ((sapdu : List ℕ) → Of' sapdu → Of sapdu) → Came s Of' x' y → Came s Of x y
came_from s Of Of' x x' y e f (NoMessage h) = NoMessage (h ∙ e)
came_from s Of Of' x x' y e f (OneMessage key_of sapdu user text keys it is safe h) =
    OneMessage key_of sapdu user text keys (f sapdu it) is safe (h ∙ ap (λ (q : KInbox). kept_more q user) e)

abbrev OfBlock : joining.BlockJoiningResult → KCore → List ℕ → Type 0
OfBlock joined x sapdu = (tpdu : List ℕ) × (joined ≡ Ok (Some tpdu)) × (text_in_deed (kept.deed x.upper tpdu) ≡ Some sapdu)

block_came : (finds : Finds) (joined : joining.BlockJoiningResult) (x : KCore) → Came x.safe.safety (OfBlock joined x) x (on_joined_block kept finds joined x)
block_came finds (Ok None) x = NoMessage refl
block_came finds (Ok (Some tpdu)) x =
    let x' : KCore = record x { upper = kept.hears x.upper tpdu } in
    let deed = kept.deed x.upper tpdu in
    came_from x.safe.safety (OfBlock (Ok (Some tpdu)) x) (OfDeed deed) x x' _ refl (λ sapdu it. (tpdu, refl, it)) (deed_came finds deed x')
block_came finds (Err fault) x = NoMessage (departs (release_of BlockRefused) protocol_error [] x).inbox

connects : (text : List ℕ) (x : KCore) → (connect_with_text kept text x).upper.inbox ≡ x.upper.inbox
connects text x = (same_if (is_some_octets text) x _ x (record { inbox = refl; safe = refl }) (same x)).inbox

box_if : (b : Bool) (x y : KCore) (q : KInbox) → x.upper.inbox ≡ q → y.upper.inbox ≡ q → (if b then x else y).upper.inbox ≡ q
box_if true x y q h g = h
box_if false x y q h g = g

link_up : (x : KCore) → (on_link_up kept x).upper.inbox ≡ x.upper.inbox
link_up x =
    let a = step no_keys x.safe.safety ConnectRequest in
    box_if (kept.may_connect x.upper && is_ready x.safe.safety.phase) _ x x.upper.inbox
    (connects (octets_sent_in_outcome a.1) (with_safety_step kept ConnectRequest a x)) refl

abbrev OfLink : Option (List ℕ) → KCore → List ℕ → Type 0
OfLink told x sapdu = (payload : List ℕ) × (told ≡ Some payload) × OfBlock (joining.block_step x.joined payload).1 x sapdu

link_came : (finds : Finds) (payload : Option (List ℕ)) (up : Bool) (released : Option Release) (x : KCore)
    → Came x.safe.safety (OfLink payload x) x (on_link_told kept finds payload up released x)
link_came finds (Some payload) up released x =
    let joined = joining.block_step x.joined payload in
    let x' : KCore = record x { joined = joined.0 } in
    came_from x.safe.safety (OfLink (Some payload) x) (OfBlock joined.1 x') x x' _ refl (λ sapdu it. (payload, refl, it)) (block_came finds joined.1 x')
link_came finds None true released x = NoMessage (link_up x)
link_came finds None false (Some why) x = NoMessage refl
link_came finds None false None x = NoMessage refl

came_if : (b : Bool) (s : Safety) (Of : List ℕ → Type 0) (x y z : KCore) → Came s Of x y → Came s Of x z → Came s Of x (if b then y else z)
came_if true s Of x y z h g = h
came_if false s Of x y z h g = g

abbrev OfFrame : Verdict → KCore → List ℕ → Type 0
OfFrame verdict x = OfLink (kept.told x.moment verdict x.line).payload x

frame_came : (finds : Finds) (verdict : Verdict) (x : KCore) → Came x.safe.safety (OfFrame verdict x) x (on_frame kept finds verdict x)
frame_came finds verdict x =
    let deed = kept.told x.moment verdict x.line in
    let y : KCore = record x { line = kept.receives x.moment verdict x.line } in
    let z = on_link_told kept finds deed.payload deed.up deed.released y in
    let Of = OfFrame verdict x in
    came_if (is_some x.released) x.safe.safety Of x x _ (NoMessage refl)
    (came_on x.safe.safety Of x z _ (came_from x.safe.safety Of (OfLink deed.payload y) x y z refl (λ sapdu it. it) (link_came finds deed.payload deed.up deed.released y)) (concludes z))

abbrev OfOctets : ℕ → Option Verdict → KCore → List ℕ → Type 0
OfOctets now found x sapdu = (verdict : Verdict) × (found ≡ Some verdict) × OfFrame verdict (new_event_at kept now x) sapdu

found_came : (finds : Finds) (now : ℕ) (found : Option Verdict) (x : KCore) → Came x.safe.safety (OfOctets now found x) (new_event_at kept now x) (found_comes finds now found x)
found_came finds now None x = NoMessage refl
found_came finds now (Some verdict) x =
    let x' : KCore = new_event_at kept now x in
    came_from x.safe.safety (OfOctets now (Some verdict) x) (OfFrame verdict x') x' x' _ refl (λ sapdu it. (verdict, refl, it)) (frame_came finds verdict x')

-- ---- the message of an event

last_of : (ms : List (List ℕ)) (m : List ℕ) (n : ℕ) → n ≡ length ms → slice_get (ms ++ m ∷ []) n ≡ Some m
last_of [] m zero e = refl
last_of [] m (suc n) e = absurd (omega arith)
last_of (x ∷ ms) m zero e = absurd (omega arith)
last_of (x ∷ ms) m (suc n) e = last_of ms m n (omega arith)

newest_last : (ms : List (List ℕ)) (m : List ℕ) → slice_get (ms ++ m ∷ []) (length (ms ++ m ∷ []) - 1) ≡ Some m
newest_last ms m =
    let l : length (ms ++ m ∷ []) ≡ length ms + length (m ∷ []) = length-append ms (m ∷ []) in
    last_of ms m (length (ms ++ m ∷ []) - 1) (omega arith)

same_message : (a b : List ℕ) → Some a ≡ Some b → b ≡ a
same_message a b e = sym (cc e)

-- where none came in the event so far
newest_is : (q : KInbox) (user m : List ℕ) → q.fresh ≡ false → newest_of (kept_more q user) ≡ Some m → m ≡ user
newest_is q user m old = elim (cases_Bool (nat_lt (length q.waits) 15)) [
  | inl p ↦ rw (p, newest_last q.waits user) (same_message user m)
  | inr p ↦ rw (p, old) (λ e. absurd (cc e))
]

no_news : (q : KInbox) (m : List ℕ) → q.fresh ≡ false → newest_of q ≡ Some m → ⊥
no_news q m old e = let none : newest_of q ≡ None = rw old refl in cc (none, e)

-- ---- the user octets of a DT are a message

unless_ok : (f : Option SaFault) (v w : SafetyPdu × Bool) → unless f v ≡ Ok w → (f ≡ None) × (v ≡ w)
unless_ok None v w e = (refl, cc e)
unless_ok (Some fault) v w e = absurd (cc e)

-- octets of a kind without a fault are as many as its row says
within_row : (of : SapduKindRow) (n : ℕ) → fault_of_length of n ≡ None → (of.least ≤ n) × (n ≤ of.greatest)
within_row of n e = elim (cases_Bool (nat_lt n of.least)) [
  | inl p ↦ absurd (let f = ap (λ (b : Bool). if b then Some (Short of.least n) else if nat_lt of.greatest n then Some (Long of.greatest n) else None) p in cc (e, f))
  | inr p ↦
      let f = ap (λ (b : Bool). if b then Some (Short of.least n) else if nat_lt of.greatest n then Some (Long of.greatest n) else None) p in
      elim (cases_Bool (nat_lt of.greatest n)) [
        | inl r ↦ absurd (let g = ap (λ (b : Bool). if b then Some (Long of.greatest n) else None) r in cc (e, f, g))
        | inr r ↦ (omega (arith, not_below n of.least p), omega (arith, not_below of.greatest n r))
      ]
]
  where
    not_below : (a b : ℕ) → nat_lt a b ≡ false → b ≤ a
    not_below a b p = ltb-false a b p

user_is_message : (rest user : List ℕ) → user ≡ take (length rest - 8) rest → 10 ≤ length rest + 1 → length rest + 1 ≤ 1032 → IsMessage user
user_is_message rest user is low high =
    let l : length (take (length rest - 8) rest) ≡ length rest - 8 = omega (arith, length-take (length rest - 8) rest) in
    let u : length user ≡ length rest - 8 = ap length is ∙ l in (omega (arith, u, low), omega (arith, u, high))

dt_of_kind : (k : SaKind) (rest user : List ℕ) (mac : ℕ) → fields_of k rest ≡ Dt user mac → fault_of_length (row_of_sapdu_kind k) (length rest + 1) ≡ None → IsMessage user
dt_of_kind kind.Au1 rest user mac e f = absurd (cc e)
dt_of_kind kind.Au2 rest user mac e f = absurd (cc e)
dt_of_kind kind.Au3 rest user mac e f = absurd (cc e)
dt_of_kind kind.Ar rest user mac e f = absurd (cc e)
dt_of_kind kind.Dt rest user mac e f =
    let w = within_row (row_of_sapdu_kind kind.Dt) (length rest + 1) f in user_is_message rest user (sym (cc e)) w.0 w.1
dt_of_kind kind.Di rest user mac e f = absurd (cc e)

dt_behind : (octet : ℕ) (k : Option SaKind) (rest user : List ℕ) (mac : ℕ) (flag : Bool) → read_behind octet k rest ≡ Ok (Dt user mac, flag) → IsMessage user
dt_behind octet None rest user mac flag e = absurd (cc e)
dt_behind octet (Some k) rest user mac flag e =
    let p = unless_ok (fault_of_length (row_of_sapdu_kind k) (length (octet ∷ rest))) (fields_of k rest, octet % 2 == 1) (Dt user mac, flag) e in
    let n : length (octet ∷ rest) ≡ length rest + 1 = omega arith in
    dt_of_kind k rest user mac (ap (λ (v : SafetyPdu × Bool). v.0) p.1) (ap (λ (m : ℕ). fault_of_length (row_of_sapdu_kind k) m) (sym n) ∙ p.0)

dt_is_message : (octets user : List ℕ) (mac : ℕ) (flag : Bool) → read_of octets ≡ Ok (Dt user mac, flag) → IsMessage user
dt_is_message [] user mac flag e = absurd (cc e)
dt_is_message (octet ∷ rest) user mac flag e = dt_behind octet (kind_with octet) rest user mac flag e

-- ---- each message

-- the layers behind octets that came to an end that isn't released
core_is : (finds : Finds) (now : ℕ) (octets : List ℕ) (k : KEnd) → k.core.released ≡ None
    → (after_octets finds now octets k).core ≡ found_comes finds now (deframing.feeding_of k.deframer octets).verdict k.core
unfolding after_octets
core_is finds now octets k live = rw live refl

all_option : (P : List ℕ → Type 0) (m : Option (List ℕ)) → ((message : List ℕ) → m ≡ Some message → P message) → All P (option_to_list m)
all_option P None h = All-nil P
all_option P (Some message) h = All-cons P message [] (h message refl) (All-nil P)

one_option : (m : Option (List ℕ)) → length (option_to_list m) ≤ 1
one_option None = omega arith
one_option (Some message) = omega arith

none_at_most : (ms : List (List ℕ)) → ms ≡ [] → length ms ≤ 1
none_at_most ms e = subst (λ (xs : List (List ℕ)). length xs ≤ 1) (sym e) (omega arith)

module _ (only : AcceptsVerified) (each : VerifiedAccepts) (bring : OctetsBring) (tell_none : ReleasedTellNone) where
  by_what_came : (finds : Finds) (now : ℕ) (octets : List ℕ) (k : KEnd) (message : List ℕ) (y : KCore) → k.core.released ≡ None → (after_octets finds now octets k).core ≡ y
      → newest_of y.upper.inbox ≡ Some message
      → Came k.core.safe.safety (OfOctets now (deframing.feeding_of k.deframer octets).verdict k.core) (new_event_at kept now k.core) y → IsMessageVerifiedAt now (Come finds octets) k message
  by_what_came finds now octets k message y live is news (NoMessage h) =
      absurd (no_news (new_event_at kept now k.core).upper.inbox message refl (sym (ap (λ (q : KInbox). newest_of q) h) ∙ news))
  by_what_came finds now octets k message y live is news (OneMessage key_of sapdu user text keys it told safe h) =
      let s : Safety = k.core.safe.safety in
      let m : message ≡ user = newest_is (new_event_at kept now k.core).upper.inbox user message refl (sym (ap (λ (q : KInbox). newest_of q) h) ∙ news) in
      let v : IsVerifiedMessage s keys sapdu user text = only key_of s keys sapdu user text told in
      let after : y.safe ≡ kept_safe_of_step (s, AcceptedDt keys user text) = safe ∙ ap (λ (a : Safety × SafetyOutcome). kept_safe_of_step a) (each key_of s keys sapdu user text v) in
      record {
        live = live;
        finds = finds;
        octets = octets;
        came = refl;
        peer = v.peer;
        keys = keys;
        connected = v.connected;
        text = text;
        text_is = v.text_is ∙ ap (λ u. message_text (peer_flag s) s.me u) (sym m);
        sapdu = sapdu;
        brought = record { verdict = it.0; closed = it.1; payload = it.2.0; taken = it.2.1; tpdu = it.2.2.0; joined = it.2.2.1; brought = it.2.2.2 };
        read = v.read ∙ ap (λ u. Ok (Dt u (mac_of keys text), peer_flag s)) (sym m);
        session = ap (λ (c : KCore). session_in c.safe.safety.phase) is ∙ ap (λ (z : KeptSafe). session_in z.safety.phase) after ∙ ap session_in v.connected;
        verified = ap (λ (c : KCore). c.safe.verified) is ∙ ap (λ (z : KeptSafe). z.verified) after;
        message_is = subst (λ u. IsMessage u) (sym m) (dt_is_message sapdu user (mac_of keys text) (peer_flag s) v.read);
      }

  octets_verified : (finds : Finds) (now : ℕ) (octets : List ℕ) (k : KEnd) (r : Option Release) → k.core.released ≡ r
      → All (IsMessageVerifiedAt now (Come finds octets) k) (accepted_in (tells now (Come finds octets) k))
  octets_verified finds now octets k (Some why) e =
      let P = IsMessageVerifiedAt now (Come finds octets) k in
      subst (λ (xs : List (List ℕ)). All P xs) (sym (ap accepted_in (tell_none now finds octets k why e))) (All-nil P)
  octets_verified finds now octets k None e =
      let P = IsMessageVerifiedAt now (Come finds octets) k in
      let y = found_comes finds now (deframing.feeding_of k.deframer octets).verdict k.core in
      let is = core_is finds now octets k e in
      subst (λ (xs : List (List ℕ)). All P xs) (sym (news_told (after_octets finds now octets k)))
      (all_option P (newest_of (after_octets finds now octets k).core.upper.inbox)
      (λ message news.
      by_what_came finds now octets k message y e is (sym (ap (λ (c : KCore). newest_of c.upper.inbox) is) ∙ news)
      (found_came finds now (deframing.feeding_of k.deframer octets).verdict k.core)))

  silent : (now : ℕ) (event : Event) (k : KEnd) → is_octets event ≡ false → All (IsMessageVerifiedAt now event k) (accepted_in (tells now event k))
  silent now event k e = subst (λ (xs : List (List ℕ)). All (IsMessageVerifiedAt now event k) xs) (sym (bring now event k e)) (All-nil (IsMessageVerifiedAt now event k))

  pub accepts_verified_alone : AcceptsVerifiedAlone
  accepts_verified_alone now Start k = silent now Start k refl
  accepts_verified_alone now (Come finds octets) k = octets_verified finds now octets k k.core.released refl
  accepts_verified_alone now (Send user) k = silent now (Send user) k refl
  accepts_verified_alone now Take k = silent now Take k refl
  accepts_verified_alone now (Leave sub) k = silent now (Leave sub) k refl
  accepts_verified_alone now Tick k = silent now Tick k refl
  accepts_verified_alone now Ended k = silent now Ended k refl
  accepts_verified_alone now Fault k = silent now Fault k refl
  accepts_verified_alone now Stalled k = silent now Stalled k refl

  pub accepts_one_at_most : AcceptsOneAtMost
  accepts_one_at_most now Start k = none_at_most _ (bring now Start k refl)
  accepts_one_at_most now (Come finds octets) k =
      subst (λ (xs : List (List ℕ)). length xs ≤ 1) (sym (news_told (after_octets finds now octets k))) (one_option (newest_of (after_octets finds now octets k).core.upper.inbox))
  accepts_one_at_most now (Send user) k = none_at_most _ (bring now (Send user) k refl)
  accepts_one_at_most now Take k = none_at_most _ (bring now Take k refl)
  accepts_one_at_most now (Leave sub) k = none_at_most _ (bring now (Leave sub) k refl)
  accepts_one_at_most now Tick k = none_at_most _ (bring now Tick k refl)
  accepts_one_at_most now Ended k = none_at_most _ (bring now Ended k refl)
  accepts_one_at_most now Fault k = none_at_most _ (bring now Fault k refl)
  accepts_one_at_most now Stalled k = none_at_most _ (bring now Stalled k refl)

-- ---- a run

pub accepted_were_brought : MadeStands → RunsAlike → RunsAreHeard → AcceptedWereBrought
accepted_were_brought made runs heard opening calls allowed =
    let k : KEnd = kept_opened opening in
    subst (λ (xs : List Outcome). All (Origin (BringsIn (events_of calls k) (opened opening))) xs) (sym (runs calls k (opened opening) (made opening allowed)).1)
    (heard (events_of calls k) (opened opening))
