-- The verdict on each item that was heard (UNISIG SUBSET-037; the order of the rules is this profile's): the first rule that it breaks, by what
-- is known of the link.
use Rattle.std.specs.Prelude.{ℕ, ◌+◌, ◌==◌, nat_le, Bool, true, false, List, [], ◌∷◌, Option, Some, None, Result, Ok, Err}
use Rattle.std.specs.List.{flat_map}
use Rattle.er_base.specs.declared.side.Side.{Side}
use Rattle.er_base.specs.declared.side.Side.TheVariants.{E, R}
use Rattle.des_block.specs.declared.triple_key.TripleKey.{TripleKey}
use Rattle.cbc_mac.specs.Mac.{mac_of}
use Rattle.session_keys.specs.Session.{session_of}
use Rattle.sapdu.specs.declared.fault.SaFault.{SaFault}
use Rattle.sapdu.specs.Spelling.{SafetyPdu, Au1, Au2, Au3, Ar, Dt, Di, read_of}
use Rattle.sapdu.specs.Sealed.{sealed_text}
use Rattle.safety_automaton.specs.Safety.{same_flag}
use Rattle.tap_model.specs.declared.audit_verdict.AuditVerdict.{AuditVerdict}
use Rattle.tap_model.specs.declared.audit_verdict.AuditVerdict.TheVariants.{Good, Malformed, Flag, Unexpected, Feature, Identity, NoKey, Mac}

-- the random numbers of a session, and the keys that they give
pub record SafetySession : Type 0 where
  pub ra : ℕ
  pub rb : ℕ
  pub keys : TripleKey

-- the ETCS numbers of a link, and its session, where there is one
pub record Known : Type 0 where
  pub engine : ℕ
  pub rbc : ℕ
  pub session : Option SafetySession

-- what an item is read as
abbrev pub Read : Type 0
Read = Result (SafetyPdu × Bool) SaFault

-- ---- the session

-- Rb of an AU1
abbrev pub rb_in : SafetyPdu → Option ℕ
rb_in (Au1 id feature rb) = Some rb
rb_in (Au2 id feature ra mac) = None
rb_in (Au3 mac) = None
rb_in (Ar mac) = None
rb_in (Dt user mac) = None
rb_in (Di reason sub) = None

-- Ra of an AU2
abbrev pub ra_in : SafetyPdu → Option ℕ
ra_in (Au1 id feature rb) = None
ra_in (Au2 id feature ra mac) = Some ra
ra_in (Au3 mac) = None
ra_in (Ar mac) = None
ra_in (Dt user mac) = None
ra_in (Di reason sub) = None

abbrev pub random_number_in_item : (SafetyPdu → Option ℕ) → Read → Option ℕ
random_number_in_item of_pdu (Err fault) = None
random_number_in_item of_pdu (Ok read) = of_pdu read.0

-- of the first item, whatever its flag
abbrev pub first_number : (SafetyPdu → Option ℕ) → List (List ℕ) → Option ℕ
first_number of_pdu [] = None
first_number of_pdu (item ∷ rest) = random_number_in_item of_pdu (read_of item)

-- where there are a KMAC and both numbers
abbrev pub session_with : Option TripleKey → (ra rb : Option ℕ) → Option SafetySession
session_with None ra rb = None
session_with (Some kmac) None rb = None
session_with (Some kmac) (Some ra) None = None
session_with (Some kmac) (Some ra) (Some rb) = Some (record { ra = ra; rb = rb; keys = session_of kmac ra rb })

-- of the items of both sides
abbrev pub known_of : (engine rbc : ℕ) → Option TripleKey → (of_e of_r : List (List ℕ)) → Known
known_of engine rbc kmac of_e of_r =
    record { engine = engine; rbc = rbc; session = session_with kmac (first_number ra_in of_r) (first_number rb_in of_e) }

-- ---- the rules

abbrev pub verdict_where_broken : Bool → AuditVerdict → Option AuditVerdict
verdict_where_broken true verdict = None
verdict_where_broken false verdict = Some verdict

-- DF 0 from the engine's side, DF 1 from the other
abbrev pub side_flag : Side → Bool
side_flag E = false
side_flag R = true

-- from e AU1, AU3, then DT; from r AU2, AR, then DT; a DI at any place
abbrev pub is_sapdu_expected : Side → (place : ℕ) → SafetyPdu → Bool
is_sapdu_expected E place (Au1 id feature rb) = place == 0
is_sapdu_expected R place (Au1 id feature rb) = false
is_sapdu_expected E place (Au2 id feature ra mac) = false
is_sapdu_expected R place (Au2 id feature ra mac) = place == 0
is_sapdu_expected E place (Au3 mac) = place == 1
is_sapdu_expected R place (Au3 mac) = false
is_sapdu_expected E place (Ar mac) = false
is_sapdu_expected R place (Ar mac) = place == 1
is_sapdu_expected side place (Dt user mac) = nat_le 2 place
is_sapdu_expected side place (Di reason sub) = true

-- the safety feature is 1
abbrev pub feature_rule : SafetyPdu → Option AuditVerdict
feature_rule (Au1 id feature rb) = verdict_where_broken (feature == 1) Feature
feature_rule (Au2 id feature ra mac) = verdict_where_broken (feature == 1) Feature
feature_rule (Au3 mac) = None
feature_rule (Ar mac) = None
feature_rule (Dt user mac) = None
feature_rule (Di reason sub) = None

-- AU1 is of the link's engine, AU2 of its radio block centre
abbrev pub identity_rule : Known → SafetyPdu → Option AuditVerdict
identity_rule known (Au1 id feature rb) = verdict_where_broken (id == known.engine) Identity
identity_rule known (Au2 id feature ra mac) = verdict_where_broken (id == known.rbc) Identity
identity_rule known (Au3 mac) = None
identity_rule known (Ar mac) = None
identity_rule known (Dt user mac) = None
identity_rule known (Di reason sub) = None

-- the MAC of an SaPDU that has one
abbrev pub mac_in : SafetyPdu → Option ℕ
mac_in (Au1 id feature rb) = None
mac_in (Au2 id feature ra mac) = Some mac
mac_in (Au3 mac) = Some mac
mac_in (Ar mac) = Some mac
mac_in (Dt user mac) = Some mac
mac_in (Di reason sub) = None

-- the number of the end at the other side
abbrev pub receiver_of : Known → Side → ℕ
receiver_of known E = known.rbc
receiver_of known R = known.engine

-- where it has a MAC there is a session
abbrev pub key_rule : Option SafetySession → Option ℕ → Option AuditVerdict
key_rule session None = None
key_rule None (Some mac) = Some NoKey
key_rule (Some s) (Some mac) = None

-- and the MAC is that of its sealed text
abbrev pub mac_rule : Known → Side → SafetyPdu → Bool → Option SafetySession → Option ℕ → Option AuditVerdict
mac_rule known side pdu flag session None = None
mac_rule known side pdu flag None (Some mac) = None
mac_rule known side pdu flag (Some s) (Some mac) = verdict_where_broken (mac == mac_of s.keys (sealed_text pdu flag (receiver_of known side) s.ra s.rb)) Mac

-- in their order: what breaks each
abbrev pub audit_rules_on_sapdu : Known → Side → (place : ℕ) → SafetyPdu → Bool → List (Option AuditVerdict)
audit_rules_on_sapdu known side place pdu flag =
    verdict_where_broken (same_flag flag (side_flag side)) Flag
    ∷ verdict_where_broken (is_sapdu_expected side place pdu) Unexpected
    ∷ feature_rule pdu
    ∷ identity_rule known pdu
    ∷ key_rule known.session (mac_in pdu)
    ∷ mac_rule known side pdu flag known.session (mac_in pdu)
    ∷ []

abbrev pub first_verdict_of : List (Option AuditVerdict) → AuditVerdict
first_verdict_of [] = Good
first_verdict_of (None ∷ more) = first_verdict_of more
first_verdict_of (Some verdict ∷ more) = verdict

-- the verdict on what an item at this place is read as
unfoldable pub audit_verdict_on_item : Known → Side → (place : ℕ) → Read → AuditVerdict
audit_verdict_on_item known side place (Err fault) = Malformed
audit_verdict_on_item known side place (Ok read) = first_verdict_of (audit_rules_on_sapdu known side place read.0 read.1)

-- ---- all items

pub record Judged : Type 0 where
  pub read : Read
  pub verdict : AuditVerdict

abbrev pub judged : Known → Side → (place : ℕ) → List ℕ → Judged
judged known side place item = record { read = read_of item; verdict = audit_verdict_on_item known side place (read_of item) }

-- from a place on
unfoldable pub judged_from : Known → Side → (place : ℕ) → List (List ℕ) → List Judged
judged_from known side place [] = []
judged_from known side place (item ∷ rest) = judged known side place item ∷ judged_from known side (place + 1) rest

-- the user octets of a DT
abbrev pub user_octets_in_sapdu : SafetyPdu → List (List ℕ)
user_octets_in_sapdu (Au1 id feature rb) = []
user_octets_in_sapdu (Au2 id feature ra mac) = []
user_octets_in_sapdu (Au3 mac) = []
user_octets_in_sapdu (Ar mac) = []
user_octets_in_sapdu (Dt user mac) = user ∷ []
user_octets_in_sapdu (Di reason sub) = []

abbrev pub user_read : Read → List (List ℕ)
user_read (Err fault) = []
user_read (Ok read) = user_octets_in_sapdu read.0

-- of a DT that is good
abbrev pub good_user : Read → AuditVerdict → List (List ℕ)
good_user read Good = user_read read
good_user read Malformed = []
good_user read Flag = []
good_user read Unexpected = []
good_user read Feature = []
good_user read Identity = []
good_user read NoKey = []
good_user read Mac = []

abbrev pub good_in : Judged → List (List ℕ)
good_in j = good_user j.read j.verdict

-- the texts of the good DTs
unfoldable pub good_texts : List Judged → List (List ℕ)
good_texts all = flat_map good_in all
