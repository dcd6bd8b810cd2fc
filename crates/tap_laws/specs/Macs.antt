-- With a session, the MAC alone decides whether an SaPDU in its place is good (UNISIG SUBSET-037; this profile).
use Rattle.std.specs.Prelude.{ℕ, ◌≡◌, ◌≤◌, List, Some, Ok}
use Rattle.er_base.specs.declared.side.Side.{Side}
use Rattle.er_base.specs.declared.side.Side.TheVariants.{E, R}
use Rattle.cbc_mac.specs.Mac.{mac_of}
use Rattle.sapdu.specs.Spelling.{SafetyPdu, Au2, Au3, Ar, Dt}
use Rattle.safety_automaton.specs.Safety.{au2_text, au3_text, ar_text, message_text}
use Rattle.safety_pair_laws.specs.Openings.{flag_from}
use Rattle.tap_model.specs.declared.audit_verdict.AuditVerdict.TheVariants.{Good, Mac}
use Rattle.tap_model.specs.Verdicts.{SafetySession, Known, receiver_of, audit_verdict_on_item}

-- a link with these numbers, and this session
abbrev pub known_with : (engine rbc : ℕ) → SafetySession → Known
known_with engine rbc s = record { engine = engine; rbc = rbc; session = Some s }

-- an SaPDU of this side at this place, whatever its MAC, is good where the MAC is that of this text under the keys of the session, all of its 64
-- bits, and else wrong
pub record MacDecides (engine rbc : ℕ) (s : SafetySession) (side : Side) (place : ℕ) (pdu : (mac : ℕ) → SafetyPdu) (text : List ℕ) : Type 0 where
  pub good : (mac : ℕ) → mac ≡ mac_of s.keys text → audit_verdict_on_item (known_with engine rbc s) side place (Ok (pdu mac, flag_from side)) ≡ Good
  pub wrong : (mac : ℕ) → (mac ≡ mac_of s.keys text → ⊥) → audit_verdict_on_item (known_with engine rbc s) side place (Ok (pdu mac, flag_from side)) ≡ Mac

-- of each SaPDU that has a MAC, by the text that its sender sealed: to the other side's number, AU2 and AU3 with both random numbers. It refuses an
-- audit that compares seven of a MAC's eight octets
pub record MacsDecide : Type 0 where
  pub au2 : (engine rbc ra : ℕ) (s : SafetySession) → MacDecides engine rbc s R 0 (λ mac. Au2 rbc 1 ra mac) (au2_text (flag_from R) engine rbc 1 ra s.rb)
  pub au3 : (engine rbc : ℕ) (s : SafetySession) → MacDecides engine rbc s E 1 (λ mac. Au3 mac) (au3_text (flag_from E) rbc s.ra s.rb)
  pub ar : (engine rbc : ℕ) (s : SafetySession) → MacDecides engine rbc s R 1 (λ mac. Ar mac) (ar_text (flag_from R) engine)
  pub dt : (engine rbc : ℕ) (s : SafetySession) (side : Side) (place : ℕ) → 2 ≤ place → (user : List ℕ)
      → MacDecides engine rbc s side place (λ mac. Dt user mac) (message_text (flag_from side) (receiver_of (known_with engine rbc s) side) user)
