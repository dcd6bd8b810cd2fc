-- A TPDU of octets that comes to a transport: it still gives what is short, and what it hands up is made of octets.
use Rattle.std.proofs.Common.{◌≡◌, ◌+◌, ◌-◌, ◌≤◌, ℕ, Bool, true, false, List, [], ◌++◌, length, Option, Some, None, Result, Ok, Err, refl}
use Rattle.std.proofs.Common.{subst, arith, leb-true}
use Rattle.std.specs.Prelude.{◌==◌, nat_lt, nat_le, not, ◌&&◌, if◌then◌else◌}
use Rattle.x224_tpdu.specs.declared.fault.TpFault.{TpFault}
use Rattle.x224_tpdu.specs.Spelling.{TransportPdu, connection_request, connection_confirm, disconnect_request, disconnect_confirm, data_tpdu, acknowledgement, tpdu_error}
use Rattle.x224_tpdu.specs.Spelling.{user_in, header_without_length_indicator}
use Rattle.x224_tpdu.specs.Spellings.{IsSize}
use Rattle.x224_tpdu.specs.Function.{reading}
use Rattle.x224_class2.specs.Segments.{text_so_far}
use Rattle.x224_class2.specs.Transport.{Transport, ReceptionDeed, Nothing, Called, Confirmed, Message, Disconnected, Refused, is_new, is_calling, is_open, is_over}
use Rattle.x224_class2.specs.Transport.{is_expected, number_named, on_named, on_reading, reception}
use Rattle.loop_recordings.proofs.Lists.{each_append, each_push, each_behind}
use Rattle.loop_recordings.proofs.Octets.{Octets, all_of}
use Rattle.loop_recordings.proofs.Below.{Below}
use Rattle.loop_recordings.proofs.Lines.{right_part}
use Rattle.loop_recordings.proofs.Transports.{OfOctets, text_octets, GivesOf}

-- what goes up is made of octets
abbrev pub IfUp : ReceptionDeed → Type 0
IfUp Nothing = Unit {0}
IfUp (Called user) = Octets user
IfUp (Confirmed user) = Octets user
IfUp (Message octets) = Octets octets
IfUp (Disconnected user) = Unit {0}
IfUp (Refused sub reason) = Unit {0}

abbrev pub Received : Transport × ReceptionDeed → Type 0
Received a = GivesOf a.0 × IfUp a.1

received_if : (b : Bool) (x y : Transport × ReceptionDeed) → (b ≡ true → Received x) → (b ≡ false → Received y) → Received (if b then x else y)
received_if true x y h g = h refl
received_if false x y h g = g refl

-- ---- what is read

-- a size is one that C0 can name
abbrev HasSize : TransportPdu → Type 0
HasSize (connection_request credit dst src size user) = 128 ≤ size
HasSize (connection_confirm credit dst src size user) = 128 ≤ size
HasSize (disconnect_request dst src reason user) = Unit {0}
HasSize (disconnect_confirm dst src) = Unit {0}
HasSize (data_tpdu dst last number user) = Unit {0}
HasSize (acknowledgement credit dst number) = Unit {0}
HasSize (tpdu_error dst cause) = Unit {0}

abbrev IfRead : Result TransportPdu TpFault → Type 0
IfRead (Ok p) = Octets (user_in p) × HasSize p
IfRead (Err fault) = Unit {0}

size_least : (n : ℕ) → IsSize n → 128 ≤ n
size_least n h = omega (arith, h)

sizes : Below → (octets : List ℕ) (p : TransportPdu) → reading octets ≡ Ok p → HasSize p
sizes laws octets (connection_request credit dst src size user) e = size_least size (laws.in_range octets (connection_request credit dst src size user) e).0.1
sizes laws octets (connection_confirm credit dst src size user) e = size_least size (laws.in_range octets (connection_confirm credit dst src size user) e).0.1
sizes laws octets (disconnect_request dst src reason user) e = tt
sizes laws octets (disconnect_confirm dst src) e = tt
sizes laws octets (data_tpdu dst last number user) e = tt
sizes laws octets (acknowledgement credit dst number) e = tt
sizes laws octets (tpdu_error dst cause) e = tt

user_octets : Below → (octets : List ℕ) (p : TransportPdu) → Octets octets → reading octets ≡ Ok p → Octets (user_in p)
user_octets laws octets p each e =
    let spelled = laws.spells octets p (all_of octets each) e in
    let whole = subst Octets spelled.spelled_so each in
    each_behind _ (header_without_length_indicator p spelled.parameters) (user_in p) whole.1

read : Below → (octets : List ℕ) (answer : Result TransportPdu TpFault) → Octets octets → reading octets ≡ answer → IfRead answer
read laws octets (Ok p) each e = (user_octets laws octets p each e, sizes laws octets p e)
read laws octets (Err fault) each e = tt

-- ---- what comes of it

on_named_keeps : (t : Transport) (credit : ℕ) (number : Option ℕ) → GivesOf t → Received (on_named t credit number)
on_named_keeps t credit None h = (h, tt)
on_named_keeps t credit (Some n) h = received_if (nat_lt (n + credit) t.edge) _ _ (λ e. (h, tt)) (λ e. (h, tt))

ends : (last : Bool) (text : List ℕ) → Octets text → IfUp (if last then Message text else Nothing)
ends true text h = h
ends false text h = tt

on_reading_keeps : (t : Transport) (answer : Result TransportPdu TpFault) → GivesOf t → IfRead answer → Received (on_reading t answer)
on_reading_keeps t (Ok (connection_request credit dst src size user)) h r =
    received_if (not t.is_caller && is_new t.stage && (dst == 0) && (src == 1)) _ _
    (λ e. (record { least = omega (arith, r.1, h.least); most = omega (arith, h.most); user = h.user; cut = h.cut; few = h.few; octets = h.octets }, r.0))
    (λ e. (h, tt))
on_reading_keeps t (Ok (connection_confirm credit dst src size user)) h r =
    received_if (is_calling t.stage && (dst == 1) && (src == 1) && nat_le size t.size) _ _
    (λ e.
    let most : size ≤ t.size = leb-true size t.size (right_part (is_calling t.stage && (dst == 1) && (src == 1)) (nat_le size t.size) e) in
    (record { least = omega (arith, r.1); most = omega (arith, most, h.most); user = h.user; cut = h.cut; few = h.few; octets = h.octets }, r.0))
    (λ e. (h, tt))
on_reading_keeps t (Ok (disconnect_request dst src reason user)) h r =
    received_if (not (is_new t.stage) && (dst == 1) && (src == 1)) _ _ (λ e. (h, tt)) (λ e. (h, tt))
on_reading_keeps t (Ok (disconnect_confirm dst src)) h r = (h, tt)
on_reading_keeps t (Ok (data_tpdu dst last number user)) h r =
    received_if (not (is_expected t dst number user)) _ _ (λ e. (h, tt))
    (λ e. received_if (nat_lt 1032 (length (text_so_far t.contents ++ user))) _ _ (λ g. (h, tt))
    (λ g. (
      record { least = h.least; most = h.most; user = h.user; cut = h.cut; few = h.few; octets = each_push OfOctets t.contents (last, user) h.octets r.0 },
      ends last (text_so_far t.contents ++ user) (each_append _ (text_so_far t.contents) user (text_octets [] t.contents tt h.octets) r.0),
    )))
on_reading_keeps t (Ok (acknowledgement credit dst number)) h r =
    received_if (is_open t.stage && (dst == 1)) _ _ (λ e. on_named_keeps t credit (number_named t.acked (t.given - t.acked) number) h) (λ e. (h, tt))
on_reading_keeps t (Ok (tpdu_error dst cause)) h r = (h, tt)
on_reading_keeps t (Err fault) h r = (h, tt)

pub reception_keeps : Below → (t : Transport) (octets : List ℕ) → GivesOf t → Octets octets → Received (reception t octets)
reception_keeps laws t octets h each =
    received_if (is_over t.stage) _ _ (λ e. (h, tt)) (λ e. on_reading_keeps t (reading octets) h (read laws octets (reading octets) each refl))
