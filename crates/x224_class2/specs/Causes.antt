-- Why a side of a connection refuses a TPDU (ITU-T X.224, clauses 6 and 10; that each of these ends the connection, by which sub-reason
-- of the release and with which reason of the DR, is this profile's): what must have come, at which stage and with which numbers.
-- A reception refuses exactly where one of these causes is met.
use Rattle.std.specs.Prelude.{ℕ, ◌≡◌, ◌≢◌, ◌+◌, ◌-◌, ◌%◌, ◌<◌, ◌≤◌, Bool, false, List, ◌++◌, length, Ok, Err}
use Rattle.er_base.specs.declared.cause.Cause.{Cause}
use Rattle.er_base.specs.declared.cause.Cause.TheVariants as cause
use Rattle.er_base.specs.Causes.{release_of}
use Rattle.x224_tpdu.specs.declared.fault.TpFault.{TpFault}
use Rattle.x224_tpdu.specs.Spelling.{TransportPdu, connection_request, connection_confirm, disconnect_request, disconnect_confirm, data_tpdu, acknowledgement}
use Rattle.x224_tpdu.specs.Spelling.{tpdu_error}
use Rattle.x224_tpdu.specs.Function.{reading}
use Rattle.x224_class2.specs.Segments.{text_so_far}
use Rattle.x224_class2.specs.Refusals.{dr_reason, protocol_error}
use Rattle.x224_class2.specs.Transport.{Transport, Refused, reception}
use Rattle.x224_class2.specs.declared.stage.Stage.TheVariants as stages

-- ---- what is expected

-- the TPDUs that are expected at a stage: a CR by a callee that was just made, a CC by a caller that connects, a DR behind the CR, DT
-- and AK where the connection is made; DC and ER never
abbrev pub IsExpectedAt : Transport → TransportPdu → Type 0
IsExpectedAt t (connection_request credit dst src size user) = (t.is_caller ≡ false) × (t.stage ≡ stages.New)
IsExpectedAt t (connection_confirm credit dst src size user) = t.stage ≡ stages.Calling
IsExpectedAt t (disconnect_request dst src reason user) = t.stage ≢ stages.New
IsExpectedAt t (disconnect_confirm dst src) = ⊥
IsExpectedAt t (data_tpdu dst last number user) = t.stage ≡ stages.Open
IsExpectedAt t (acknowledgement credit dst number) = t.stage ≡ stages.Open
IsExpectedAt t (tpdu_error dst cause) = ⊥

-- the references of both sides are 0001; the destination of a CR isn't known yet, and is 0000
abbrev pub HasReferences : TransportPdu → Type 0
HasReferences (connection_request credit dst src size user) = (dst ≡ 0) × (src ≡ 1)
HasReferences (connection_confirm credit dst src size user) = (dst ≡ 1) × (src ≡ 1)
HasReferences (disconnect_request dst src reason user) = (dst ≡ 1) × (src ≡ 1)
HasReferences (disconnect_confirm dst src) = (dst ≡ 1) × (src ≡ 1)
HasReferences (data_tpdu dst last number user) = dst ≡ 1
HasReferences (acknowledgement credit dst number) = dst ≡ 1
HasReferences (tpdu_error dst cause) = dst ≡ 1

-- ---- the causes

-- what breaks a rule of the procedure
pub data BreaksRule (t : Transport) (octets : List ℕ) : Type 0 where
  -- a TPDU that isn't expected at this stage
  AtStage : (pdu : TransportPdu) → reading octets ≡ Ok pdu → (IsExpectedAt t pdu → ⊥) → BreaksRule t octets
  -- a TPDU with another reference
  ByReference : (pdu : TransportPdu) → reading octets ≡ Ok pdu → (HasReferences pdu → ⊥) → BreaksRule t octets
  -- a CC with a larger size than the CR proposed
  BySize : (credit dst src size : ℕ) (user : List ℕ) → reading octets ≡ Ok (connection_confirm credit dst src size user)
      → t.stage ≡ stages.Calling → t.size < size → BreaksRule t octets
  -- a DT with another number than that which follows the newest, modulo 128
  ByNumber : (dst : ℕ) (last : Bool) (number : ℕ) (user : List ℕ) → reading octets ≡ Ok (data_tpdu dst last number user)
      → number ≢ length t.contents % 128 → BreaksRule t octets
  -- a DT at the edge that the newest AK given granted, or beyond it
  AtEdge : (dst : ℕ) (last : Bool) (number : ℕ) (user : List ℕ) → reading octets ≡ Ok (data_tpdu dst last number user)
      → t.newest + t.credit ≤ length t.contents → BreaksRule t octets
  -- a DT above the agreed size, of which five octets are its header
  ByLength : (dst : ℕ) (last : Bool) (number : ℕ) (user : List ℕ) → reading octets ≡ Ok (data_tpdu dst last number user)
      → t.size - 5 < length user → BreaksRule t octets
  -- an AK whose number is equal, modulo 128, to none from the last acknowledged to the next to be given
  ByNoName : (credit dst number : ℕ) → reading octets ≡ Ok (acknowledgement credit dst number)
      → ((more : ℕ) → more ≤ t.given - t.acked → (t.acked + more) % 128 ≢ number) → BreaksRule t octets
  -- an AK that lowers the edge: the first of these that is equal to its number, and its credit, come to less than the edge
  ByEdge : (credit dst number more : ℕ) → reading octets ≡ Ok (acknowledgement credit dst number)
      → more ≤ t.given - t.acked → (t.acked + more) % 128 ≡ number
      → ((fewer : ℕ) → fewer < more → (t.acked + fewer) % 128 ≢ number)
      → t.acked + more + credit < t.edge → BreaksRule t octets

-- what is met where a TPDU is refused as one that is faulty or may not come here; its fault gives the reason of the DR
pub data IsRefusedTpdu (t : Transport) (octets : List ℕ) (reason : ℕ) : Type 0 where
  OfFault : (fault : TpFault) → reading octets ≡ Err fault → reason ≡ dr_reason fault → IsRefusedTpdu t octets reason
  OfRule : BreaksRule t octets → reason ≡ protocol_error → IsRefusedTpdu t octets reason

-- a DT that breaks no rule, but makes a message longer than 1,032 octets
pub record MakesTooLong (t : Transport) (octets : List ℕ) : Type 0 where
  pub last : Bool
  pub user : List ℕ
  pub read : reading octets ≡ Ok (data_tpdu 1 last (length t.contents % 128) user)
  pub made : t.stage ≡ stages.Open
  pub granted : length t.contents < t.newest + t.credit
  pub fits : length user ≤ t.size - 5
  pub long : 1032 < length (text_so_far t.contents ++ user)

-- what is met where a side refuses for a cause; of the causes of other layers it doesn't learn
abbrev pub CauseMet : Transport → List ℕ → Cause → ℕ → Type 0
CauseMet t octets (cause.User sub) reason = ⊥
CauseMet t octets cause.SetUpUnanswered reason = ⊥
CauseMet t octets cause.NoProgress reason = ⊥
CauseMet t octets cause.FrameError reason = ⊥
CauseMet t octets cause.PeerDisconnected reason = ⊥
CauseMet t octets cause.LineEnded reason = ⊥
CauseMet t octets cause.LineFailed reason = ⊥
CauseMet t octets cause.LineStalled reason = ⊥
CauseMet t octets cause.DisconnectWithoutDi reason = ⊥
CauseMet t octets cause.TpduRefused reason = IsRefusedTpdu t octets reason
CauseMet t octets cause.MessageTooLong reason = MakesTooLong t octets × (reason ≡ protocol_error)
CauseMet t octets cause.BlockRefused reason = ⊥
CauseMet t octets cause.NoKey reason = ⊥
CauseMet t octets cause.Au2MacWrong reason = ⊥
CauseMet t octets cause.Au3MacWrong reason = ⊥
CauseMet t octets cause.ArMacWrong reason = ⊥
CauseMet t octets cause.OtherResponder reason = ⊥
CauseMet t octets cause.OtherFeature reason = ⊥
CauseMet t octets cause.DtMacWrong reason = ⊥
CauseMet t octets cause.WrongDirection reason = ⊥
CauseMet t octets cause.Unexpected reason = ⊥
CauseMet t octets cause.Malformed reason = ⊥
CauseMet t octets cause.SetUpTimeSpent reason = ⊥

-- ---- the laws

-- a side whose cause is met before its connection is over refuses for this cause, and then its connection is over
abbrev pub CauseRefuses : Type 0
CauseRefuses =
    (t : Transport) (octets : List ℕ) (cause : Cause) (reason : ℕ) → t.stage ≢ stages.Over → CauseMet t octets cause reason
    → reception t octets ≡ (record t { stage = stages.Over }, Refused (release_of cause).sub reason)

-- a side that refuses met the cause of its sub-reason and of the DR's reason, before its connection was over
abbrev pub RefusesOnly : Type 0
RefusesOnly =
    (t : Transport) (octets : List ℕ) (sub reason : ℕ) → (reception t octets).1 ≡ Refused sub reason
    → (cause : Cause) × CauseMet t octets cause reason × (t.stage ≢ stages.Over) × (sub ≡ (release_of cause).sub)
