-- The transport that the code keeps, with the messages that wait, does what the transport model does.
use Rattle.std.proofs.Common.{◌≡◌, inl, inr, ◌+◌, ◌-◌, ◌<◌, ◌≤◌, ◌∙◌, ℕ, zero, suc, Bool, true, false, ◌&&◌, not, List, [], ◌∷◌, ◌++◌, length, drop, Option, Some, None, Result, Ok, Err, refl, sym, ap, ap₂, subst, arith, length-drop, length-append, drop-drop, ltb-true, lt-ltb}
use Rattle.std.specs.Prelude.{nat_lt, nat_le, if◌then◌else◌, ◌==◌, slice_get}
use Rattle.std.proofs.lemmas.Bool.{cases_Bool}
use Rattle.std.proofs.lemmas.List.{drop-append-le}
use Rattle.x224_tpdu.specs.declared.fault.TpFault.{TpFault}
use Rattle.x224_tpdu.specs.Spelling.{TransportPdu, connection_request, connection_confirm, disconnect_request, disconnect_confirm, data_tpdu, acknowledgement, tpdu_error}
use Rattle.x224_tpdu.specs.Function.{reading}
use Rattle.x224_class2.specs.Refusals.{protocol_error, tpdu_refused, message_too_long}
use Rattle.x224_class2.specs.Tpdus.{GivenTpdu}
use Rattle.x224_class2.specs.Transport.{Transport, ReceptionDeed, Nothing, Called, Confirmed, Message, Disconnected, is_new, is_called, is_open, is_over, TpduTurn, Rest, Opening, Acknowledgement, Data, reception, next_tpdu, after_next, with_given, after_connect, after_accept, after_hand, after_taken}
use Rattle.x224_class2.specs.Transport as transport
use Rattle.x224_class2.specs.Kept.{KeptTransport, kept_over, may_be_called, kept_called, may_be_confirmed, kept_confirmed, may_be_disconnected, kept_is_expected, kept_with_data, may_acknowledge, kept_acknowledged, kept_refusal, kept_on_reading, kept_reception, kept_turn, kept_behind, kept_after_next, octets_next, kept_after_connect, kept_after_accept, kept_after_hand, kept_after_taken, distance}
use Rattle.x224_class2.specs.Standing.{StandsForTransport, ConnectStands, AcceptStands, HandStands, TakenStands, ReceptionStands, NextStands, CountsStand}
use Rattle.safety_automaton.specs.Safety.{SafetyEvent, SafetyOutcome}
use Rattle.er_end_model.specs.Layers.{Upper, octets_due, model}
use Rattle.er_end.specs.Inboxes.{KInbox, kept_fewer, newest_of}
use Rattle.er_end.specs.KeptLayers.{KUpper, upper_hears, upper_deed, upper_has_next, upper_next, upper_after_next, kept}
use Rattle.er_end.specs.Standing.{UpperStands}
use Rattle.er_end.proofs.Tying.{Behind}

-- where an event begins, where a call is to be accepted, where a message came
pub record UpperBegins (u : KUpper) (v : Upper) : Type 0 where
  pub stands : UpperStands u v
  pub none : v.news ≡ None

pub record UpperCalled (u : KUpper) (v : Upper) : Type 0 where
  pub stands : UpperStands u v
  pub called : is_called v.transport.stage ≡ true

pub record UpperBrought (u : KUpper) (v : Upper) : Type 0 where
  pub stands : UpperStands u v
  pub more : length u.inbox.waits < length u.transport.lasts

-- ---- Bools

left_of : (b c : Bool) → (b && c) ≡ true → b ≡ true
left_of true c e = refl
left_of false c e = absurd cc

right_of : (b c : Bool) → (b && c) ≡ true → c ≡ true
right_of true c e = e
right_of false c e = absurd cc

-- ---- lists

last_is : (xs : List (List ℕ)) (m : List ℕ) (n : ℕ) → n ≡ length xs → slice_get (xs ++ m ∷ []) n ≡ Some m
last_is [] m zero e = refl
last_is [] m (suc n) e = absurd (omega arith)
last_is (x ∷ xs) m zero e = absurd (omega arith)
last_is (x ∷ xs) m (suc n) e = last_is xs m n (omega arith)

is_there : (xs : List (List ℕ)) (n : ℕ) → n < length xs → slice_get xs n ≡ None → ⊥
is_there [] n l e = omega arith
is_there (x ∷ xs) zero l e = cc
is_there (x ∷ xs) (suc n) l e = is_there xs n (omega arith) e

get_drop : (n : ℕ) (xs : List (List ℕ)) → slice_get xs n ≡ slice_get (drop n xs) 0
get_drop zero xs = refl
get_drop (suc n) [] = refl
get_drop (suc n) (x ∷ xs) = get_drop n xs

-- ---- what a reception does to the messages that wait to be taken

abbrev Lasts : KeptTransport → KeptTransport → ReceptionDeed → Type 0
Lasts k n Nothing = n.lasts ≡ k.lasts
Lasts k n (Called user) = (n.lasts ≡ k.lasts) × (is_called n.stage ≡ true)
Lasts k n (Confirmed user) = n.lasts ≡ k.lasts
Lasts k n (Message octets) = (length n.lasts ≡ length k.lasts + 1) × (length n.lasts ≤ 15)
Lasts k n (Disconnected user) = n.lasts ≡ k.lasts
Lasts k n (transport.Refused sub reason) = n.lasts ≡ k.lasts

lasts_if : (k : KeptTransport) (b : Bool) (x y : KeptTransport × ReceptionDeed) → (b ≡ true → Lasts k x.0 x.1) → (b ≡ false → Lasts k y.0 y.1) → Lasts k (if b then x else y).0 (if b then x else y).1
lasts_if k true x y h g = h refl
lasts_if k false x y h g = g refl

not_false : (b : Bool) → not b ≡ false → b ≡ true
not_false true e = refl
not_false false e = absurd cc

few_before : (k : KeptTransport) (dst number : ℕ) (user : List ℕ) → kept_is_expected k dst number user ≡ true → length k.lasts < 15
few_before k dst number user e =
    ltb-true (length k.lasts) 15 (right_of (is_open k.stage && (dst == 1) && (number == k.received) && nat_lt (distance k.newest k.received) k.credit) (nat_lt (length k.lasts) 15)
    (left_of (is_open k.stage && (dst == 1) && (number == k.received) && nat_lt (distance k.newest k.received) k.credit && nat_lt (length k.lasts) 15) (nat_le (length user) (k.size - 5)) e))

data_lasts : (k : KeptTransport) (last : Bool) (user : List ℕ) → length k.lasts < 15 → Lasts k (kept_with_data k last user) (if last then Message (k.text ++ user) else Nothing)
data_lasts k true user l = let e = length-append k.lasts (k.received ∷ []) in (omega arith, omega arith)
data_lasts k false user l = refl

reading_lasts : (k : KeptTransport) (answer : Result TransportPdu TpFault) → Lasts k (kept_on_reading k answer).0 (kept_on_reading k answer).1
reading_lasts k (Ok (connection_request credit dst src size user)) =
    lasts_if k (may_be_called k dst src) (kept_called k credit size, Called user) (kept_refusal k tpdu_refused protocol_error) (λ e. (refl, refl)) (λ e. refl)
reading_lasts k (Ok (connection_confirm credit dst src size user)) =
    lasts_if k (may_be_confirmed k dst src size) (kept_confirmed k credit size, Confirmed user) (kept_refusal k tpdu_refused protocol_error) (λ e. refl) (λ e. refl)
reading_lasts k (Ok (disconnect_request dst src reason user)) =
    lasts_if k (may_be_disconnected k dst src) (kept_over k, Disconnected user) (kept_refusal k tpdu_refused protocol_error) (λ e. refl) (λ e. refl)
reading_lasts k (Ok (disconnect_confirm dst src)) = refl
reading_lasts k (Ok (data_tpdu dst last number user)) =
    let whole : KeptTransport × ReceptionDeed = (kept_with_data k last user, if last then Message (k.text ++ user) else Nothing) in
    let short : KeptTransport × ReceptionDeed = if nat_lt 1032 (length (k.text ++ user)) then kept_refusal k message_too_long protocol_error else whole in
    lasts_if k (not (kept_is_expected k dst number user)) (kept_refusal k tpdu_refused protocol_error) short (λ e. refl)
    (λ e. lasts_if k (nat_lt 1032 (length (k.text ++ user))) (kept_refusal k message_too_long protocol_error) whole (λ f. refl)
    (λ f. data_lasts k last user (few_before k dst number user (not_false (kept_is_expected k dst number user) e))))
reading_lasts k (Ok (acknowledgement credit dst number)) =
    lasts_if k (may_acknowledge k credit dst number) (kept_acknowledged k credit number, Nothing) (kept_refusal k tpdu_refused protocol_error) (λ e. refl) (λ e. refl)
reading_lasts k (Ok (tpdu_error dst cause)) = refl
reading_lasts k (Err fault) = refl

reception_lasts : (k : KeptTransport) (octets : List ℕ) → Lasts k (kept_reception k octets).0 (kept_reception k octets).1
reception_lasts k octets = lasts_if k (is_over k.stage) (k, Nothing) (kept_on_reading k (reading octets)) (λ e. refl) (λ e. reading_lasts k (reading octets))

behind_lasts : (k : KeptTransport) (t : TpduTurn) → (kept_behind k t).lasts ≡ k.lasts
behind_lasts k Rest = refl
behind_lasts k (Opening user) = refl
behind_lasts k Acknowledgement = refl
behind_lasts k Data = refl

due_is : (g : Option GivenTpdu) → octets_due g ≡ octets_next g
due_is None = refl
due_is (Some g) = refl

-- ---- the other fields stay

-- another transport with as many messages that wait to be taken
with_transport : (u : KUpper) (v : Upper) (k : KeptTransport) (t : Transport) → UpperStands u v → StandsForTransport k t → k.lasts ≡ u.transport.lasts
    → UpperStands (record u { transport = k }) (record v { transport = t })
with_transport u v k t h s e = record {
  transport = s;
  waits = h.waits;
  used = h.used;
  few = subst (λ (l : List ℕ). length u.inbox.waits ≤ length l) (sym e) h.few;
  fewer = subst (λ (l : List ℕ). length l ≤ 15) (sym e) h.fewer;
  news = h.news;
}

pub speaks_stand : (e : SafetyEvent) (n : SafetyOutcome) (u : KUpper) (v : Upper) → UpperStands u v → UpperStands (kept.speaks u e n) (model.speaks v e n)
speaks_stand e n u v h = record { transport = h.transport; waits = h.waits; used = h.used; few = h.few; fewer = h.fewer; news = h.news }

pub sends_stand : (m : List ℕ) (u : KUpper) (v : Upper) → UpperStands u v → UpperStands (kept.sends u m) (model.sends v m)
sends_stand m u v h = record { transport = h.transport; waits = h.waits; used = h.used; few = h.few; fewer = h.fewer; news = h.news }

pub opened_stand : (u : KUpper) (v : Upper) → UpperStands u v → UpperBegins (kept.opened u) (model.opened v)
opened_stand u v h = record {
  stands = record { transport = h.transport; waits = h.waits; used = h.used; few = h.few; fewer = h.fewer; news = refl };
  none = refl;
}

pub gives_stand : (g : GivenTpdu) (u : KUpper) (v : Upper) → UpperStands u v → UpperStands (kept.gives u g) (model.gives v g)
gives_stand g u v h =
    let s = h.transport.sound in
    with_transport u v u.transport (with_given v.transport (Some g)) h (record {
      is = h.transport.is;
      sound = record {
        credit = s.credit;
        size = s.size;
        early = s.early;
        given = s.given;
        acked = s.acked;
        edge_least = s.edge_least;
        edge_most = s.edge_most;
        waits = s.waits;
        taken = s.taken;
        newest = s.newest;
        granted = s.granted;
        can_write = s.can_write;
      };
    }) refl

pub may_connect_stands : (u : KUpper) (v : Upper) → UpperStands u v → model.may_connect v ≡ kept.may_connect u
may_connect_stands u v h = ap (λ (k : KeptTransport). k.is_caller && is_new k.stage) (sym h.transport.is)

pub untaken_stands : (u : KUpper) (v : Upper) → UpperStands u v → model.untaken v ≡ kept.untaken u
untaken_stands u v h = sym (ap (λ (l : List (List ℕ)). length l) h.waits ∙ length-drop v.used v.accepted)

pub oldest_stands : (u : KUpper) (v : Upper) → UpperStands u v → model.oldest v ≡ kept.oldest u
oldest_stands u v h = get_drop v.used v.accepted ∙ ap (λ (l : List (List ℕ)). slice_get l 0) (sym h.waits)

pub keeps_stand : (m : List ℕ) (u : KUpper) (v : Upper) → UpperBrought u v → UpperStands (kept.keeps u m) (model.keeps v m)
keeps_stand m u v b =
    let h = b.stands in
    let room : nat_lt (length u.inbox.waits) 15 ≡ true = lt-ltb (length u.inbox.waits) 15 (omega (arith, b.more, h.fewer)) in
    let grown = length-append u.inbox.waits (m ∷ []) in
    let place : length (u.inbox.waits ++ m ∷ []) - 1 ≡ length u.inbox.waits = omega arith in
    rw room (record {
      transport = h.transport;
      waits = ap (λ (l : List (List ℕ)). l ++ m ∷ []) h.waits ∙ sym (drop-append-le v.used v.accepted (m ∷ []) h.used);
      used = (let l = length-append v.accepted (m ∷ []) in omega (arith, h.used));
      few = omega (arith, b.more);
      fewer = h.fewer;
      news = sym (last_is u.inbox.waits m (length (u.inbox.waits ++ m ∷ []) - 1) place);
    })

none_newest : (q : KInbox) → newest_of q ≡ None → 0 < length q.waits → newest_of (kept_fewer q) ≡ None
none_newest q e l = elim (cases_Bool q.fresh) [
  | inl y ↦ absurd (is_there q.waits (length q.waits - 1) (omega arith) (subst (λ (b : Bool). (if b then slice_get q.waits (length q.waits - 1) else None) ≡ None) y e))
  | inr n ↦ rw n refl
]

some_of : (n : ℕ) → (n == 0) ≡ false → 0 < n
some_of zero e = absurd cc
some_of (suc n) e = omega arith

module _ (connect : ConnectStands) (accept : AcceptStands) (hand : HandStands) (take_one : TakenStands) (receive : ReceptionStands) (next_one : NextStands) (counts : CountsStand) where
  pub connects_stand : (text : List ℕ) (e : SafetyEvent) (n : SafetyOutcome) (u : KUpper) (v : Upper) → UpperStands u v → kept.may_connect u ≡ true → length text ≤ 32
      → UpperStands (kept.connects (kept.speaks u e n) text) (model.connects (model.speaks v e n) text)
  connects_stand text e n u v h may l =
      let new : is_new v.transport.stage ≡ true = ap (λ (k : KeptTransport). is_new k.stage) (sym h.transport.is) ∙ right_of u.transport.is_caller (is_new u.transport.stage) may in
      with_transport u (model.speaks v e n) (kept_after_connect u.transport text) (after_connect v.transport text) (speaks_stand e n u v h) (connect u.transport v.transport text h.transport new l) refl

  pub accepts_stand : (text : List ℕ) (u : KUpper) (v : Upper) → UpperCalled u v → length text ≤ 32 → UpperStands (kept.accepts u text) (model.accepts v text)
  accepts_stand text u v c l =
      with_transport u v (kept_after_accept u.transport text) (after_accept v.transport text) c.stands (accept u.transport v.transport text c.stands.transport c.called l) refl

  pub waiting_stands : (u : KUpper) (v : Upper) → UpperStands u v → model.waiting v ≡ kept.waiting u
  waiting_stands u v h = sym (counts u.transport v.transport h.transport).1

  pub may_hand_stands : (u : KUpper) (v : Upper) → UpperStands u v → model.may_hand v ≡ kept.may_hand u
  may_hand_stands u v h =
      ap₂ (λ (b : Bool) (n : ℕ). b && nat_lt n 16) (ap (λ (k : KeptTransport). is_open k.stage) (sym h.transport.is)) (waiting_stands u v h)

  pub hands_message_stand : (text : List ℕ) (u : KUpper) (v : Upper) → UpperStands u v → kept.may_hand u ≡ true → 0 < length text
      → UpperStands (kept.hands_message u text) (model.hands_message v text)
  hands_message_stand text u v h may l =
      let opens : is_open v.transport.stage ≡ true = ap (λ (k : KeptTransport). is_open k.stage) (sym h.transport.is) ∙ left_of (is_open u.transport.stage) (nat_lt (length u.transport.waiting) 16) may in
      with_transport u v (kept_after_hand u.transport text) (after_hand v.transport text) h (hand u.transport v.transport text h.transport opens l) refl

  pub has_next_stands : (u : KUpper) (v : Upper) → UpperStands u v → model.has_next v ≡ kept.has_next u
  unfolding upper_has_next
  has_next_stands u v h = sym (next_one u.transport v.transport h.transport).2

  pub next_stands : (u : KUpper) (v : Upper) → UpperStands u v → model.next v ≡ kept.next u
  unfolding upper_next
  next_stands u v h = due_is (next_tpdu v.transport) ∙ sym (next_one u.transport v.transport h.transport).1

  pub after_next_stands : (u : KUpper) (v : Upper) → UpperStands u v → UpperStands (kept.after_next u) (model.after_next v)
  unfolding upper_after_next
  after_next_stands u v h =
      with_transport u v (kept_after_next u.transport) (after_next v.transport) h (next_one u.transport v.transport h.transport).0 (behind_lasts u.transport (kept_turn u.transport))

  taken_stand : (u : KUpper) (v : Upper) → UpperStands u v → 0 < length u.transport.lasts → StandsForTransport (kept_after_taken u.transport) (after_taken v.transport)
  taken_stand u v h l =
      let n = (counts u.transport v.transport h.transport).0 in
      take_one u.transport v.transport h.transport (omega arith)

  pub skips_stand : (u : KUpper) (v : Upper) → UpperBrought u v → UpperStands (kept.skips u) (model.skips v)
  skips_stand u v b =
      let h = b.stands in
      let l = length-drop 1 u.transport.lasts in
      record {
        transport = taken_stand u v h (omega (arith, b.more));
        waits = h.waits;
        used = h.used;
        few = omega (arith, b.more);
        fewer = omega (arith, h.fewer);
        news = h.news;
      }

  pub uses_stand : (u : KUpper) (v : Upper) → UpperBegins u v → (kept.untaken u == 0) ≡ false → UpperStands (kept.uses u) (model.uses v)
  uses_stand u v b some =
      let h = b.stands in
      let any : 0 < length u.inbox.waits = some_of (length u.inbox.waits) some in
      let l = length-drop 1 u.transport.lasts in
      let w = length-drop 1 u.inbox.waits in
      let left = untaken_stands u v h in
      record {
        transport = taken_stand u v h (omega (arith, h.few));
        waits = ap (λ (l : List (List ℕ)). drop 1 l) h.waits ∙ drop-drop 1 v.used v.accepted;
        used = omega arith;
        few = omega (arith, h.few);
        fewer = omega (arith, h.fewer);
        news = b.none ∙ sym (none_newest u.inbox (sym h.news ∙ b.none) any);
      }

  pub deed_stands : (tpdu : List ℕ) (u : KUpper) (v : Upper) → UpperStands u v → model.deed v tpdu ≡ kept.deed u tpdu
  unfolding upper_deed
  deed_stands tpdu u v h = sym (receive u.transport v.transport tpdu h.transport).1

  behind_at : (d : ReceptionDeed) (u : KUpper) (v : Upper) (k : KeptTransport) (t : Transport) → UpperStands u v → StandsForTransport k t → Lasts u.transport k d
      → Behind UpperStands UpperCalled UpperBrought d (record u { transport = k }) (record v { transport = t })
  behind_at Nothing u v k t h s l = with_transport u v k t h s l
  behind_at (Called user) u v k t h s l =
      record { stands = with_transport u v k t h s l.0; called = ap (λ (k : KeptTransport). is_called k.stage) (sym s.is) ∙ l.1 }
  behind_at (Confirmed user) u v k t h s l = with_transport u v k t h s l
  behind_at (Message octets) u v k t h s l = record {
    stands = record { transport = s; waits = h.waits; used = h.used; few = omega (arith, l.0, h.few); fewer = l.1; news = h.news };
    more = omega (arith, l.0, h.few);
  }
  behind_at (Disconnected user) u v k t h s l = with_transport u v k t h s l
  behind_at (transport.Refused sub reason) u v k t h s l = with_transport u v k t h s l

  pub hears_stand : (tpdu : List ℕ) (u : KUpper) (v : Upper) → UpperStands u v → Behind UpperStands UpperCalled UpperBrought (kept.deed u tpdu) (kept.hears u tpdu) (model.hears v tpdu)
  unfolding upper_deed upper_hears
  hears_stand tpdu u v h =
      behind_at (kept_reception u.transport tpdu).1 u v (kept_reception u.transport tpdu).0 (reception v.transport tpdu).0 h
      (receive u.transport v.transport tpdu h.transport).0 (reception_lasts u.transport tpdu)
