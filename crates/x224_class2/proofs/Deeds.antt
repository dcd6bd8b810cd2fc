-- A deed tells the stage behind it, and how many messages wait to be taken.
use Rattle.std.proofs.Common.{◌≡◌, ℕ, nat_lt, not, if◌then◌else◌, Bool, true, false, List, [], ◌∷◌, ◌++◌, length, Result, Ok, Err, refl, arith, length-append}
use Rattle.x224_tpdu.specs.declared.fault.TpFault.{TpFault}
use Rattle.x224_tpdu.specs.Spelling.{TransportPdu, connection_request, connection_confirm, disconnect_request, disconnect_confirm, data_tpdu, acknowledgement, tpdu_error}
use Rattle.x224_tpdu.specs.Function.{reading}
use Rattle.x224_class2.specs.Refusals.{dr_reason, protocol_error, tpdu_refused, message_too_long}
use Rattle.x224_class2.specs.Transport.{ReceptionDeed, Nothing, Called, Confirmed, Message, Disconnected, is_over}
use Rattle.x224_class2.specs.Kept.{KeptTransport, kept_over, may_be_called, kept_called, may_be_confirmed, kept_confirmed, may_be_disconnected, kept_is_expected, kept_with_data, may_acknowledge, kept_acknowledged, kept_refusal, kept_on_reading, kept_reception, stage_behind, untaken_behind, DeedTells}

tells_if : (k : KeptTransport) (c : Bool) (x y : KeptTransport × ReceptionDeed) → DeedTells k x → DeedTells k y → DeedTells k (if c then x else y)
tells_if k true x y h g = h
tells_if k false x y h g = g

refusal_tells : (k : KeptTransport) (sub reason : ℕ) → DeedTells k (kept_refusal k sub reason)
refusal_tells k sub reason = record { role = refl; stage = refl; untaken = refl }

data_tells : (k : KeptTransport) (last : Bool) (user : List ℕ) → DeedTells k (kept_with_data k last user, if last then Message (k.text ++ user) else Nothing)
data_tells k true user = record { role = refl; stage = refl; untaken = omega (arith, length-append k.lasts (k.received ∷ [])) }
data_tells k false user = record { role = refl; stage = refl; untaken = refl }

reading_tells : (k : KeptTransport) (answer : Result TransportPdu TpFault) → DeedTells k (kept_on_reading k answer)
reading_tells k (Ok (connection_request credit dst src size user)) = tells_if k (may_be_called k dst src) (kept_called k credit size, Called user) _ (record { role = refl; stage = refl; untaken = refl }) (refusal_tells k tpdu_refused protocol_error)
reading_tells k (Ok (connection_confirm credit dst src size user)) = tells_if k (may_be_confirmed k dst src size) (kept_confirmed k credit size, Confirmed user) _ (record { role = refl; stage = refl; untaken = refl }) (refusal_tells k tpdu_refused protocol_error)
reading_tells k (Ok (disconnect_request dst src reason user)) = tells_if k (may_be_disconnected k dst src) (kept_over k, Disconnected user) _ (record { role = refl; stage = refl; untaken = refl }) (refusal_tells k tpdu_refused protocol_error)
reading_tells k (Ok (disconnect_confirm dst src)) = refusal_tells k tpdu_refused protocol_error
reading_tells k (Ok (data_tpdu dst last number user)) =
    tells_if k (not (kept_is_expected k dst number user)) _ _ (refusal_tells k tpdu_refused protocol_error)
    (tells_if k (nat_lt 1032 (length (k.text ++ user))) _ _ (refusal_tells k message_too_long protocol_error) (data_tells k last user))
reading_tells k (Ok (acknowledgement credit dst number)) = tells_if k (may_acknowledge k credit dst number) (kept_acknowledged k credit number, Nothing) _ (record { role = refl; stage = refl; untaken = refl }) (refusal_tells k tpdu_refused protocol_error)
reading_tells k (Ok (tpdu_error dst cause)) = refusal_tells k tpdu_refused protocol_error
reading_tells k (Err fault) = refusal_tells k tpdu_refused (dr_reason fault)

pub deed_tells : (k : KeptTransport) (octets : List ℕ) → DeedTells k (kept_reception k octets)
deed_tells k octets = tells_if k (is_over k.stage) (k, Nothing) _ (record { role = refl; stage = refl; untaken = refl }) (reading_tells k (reading octets))

pub stage_told : (k : KeptTransport) (octets : List ℕ) (deed : ReceptionDeed) → deed ≡ (kept_reception k octets).1 → (kept_reception k octets).0.stage ≡ stage_behind deed k.stage
stage_told k octets deed e = rw e (deed_tells k octets).stage

pub untaken_told : (k : KeptTransport) (octets : List ℕ) (deed : ReceptionDeed) → deed ≡ (kept_reception k octets).1 → length (kept_reception k octets).0.lasts ≡ untaken_behind deed (length k.lasts)
untaken_told k octets deed e = rw e (deed_tells k octets).untaken

pub role_stays : (k : KeptTransport) (octets : List ℕ) → (kept_reception k octets).0.is_caller ≡ k.is_caller
role_stays k octets = (deed_tells k octets).role
