-- Contract: how the code keeps one side of a connection, every number modulo 128, and what its calls make of that.
use Rattle.std.specs.Prelude.{ℕ, ◌≡◌, ◌+◌, ◌-◌, ◌%◌, ◌==◌, ◌&&◌, not, nat_lt, nat_le, min, if◌then◌else◌, Bool, true, false, List, [], ◌∷◌, ◌++◌, length, take}
use Rattle.std.specs.Prelude.{drop, Option, Some, None, Result, Ok, Err}
use Rattle.er_settings.specs.Values.{Settings}
use Rattle.x224_tpdu.specs.declared.fault.TpFault.{TpFault}
use Rattle.x224_tpdu.specs.Spelling.{TransportPdu, connection_request, connection_confirm, disconnect_request, disconnect_confirm, data_tpdu, acknowledgement}
use Rattle.x224_tpdu.specs.Spelling.{tpdu_error}
use Rattle.x224_tpdu.specs.Function.{reading}
use Rattle.x224_class2.specs.Segments.{Segment}
use Rattle.x224_class2.specs.Tpdus.{GivenTpdu, Cr, Cc, Dt, Ak, octets_given}
use Rattle.x224_class2.specs.Refusals.{dr_reason, protocol_error, tpdu_refused, message_too_long}
use Rattle.x224_class2.specs.Transport.{ReceptionDeed, Nothing, Called, Confirmed, Message, Disconnected, Refused, is_new, is_calling, is_open, is_over}
use Rattle.x224_class2.specs.Transport.{TpduTurn, Rest, Opening, Acknowledgement, Data, turn_among}
use Rattle.x224_class2.specs.declared.stage.Stage.{Stage}
use Rattle.x224_class2.specs.declared.stage.Stage.TheVariants as stages

-- what is kept of one side; every number is kept modulo 128
pub record KeptTransport : Type 0 where
  pub is_caller : Bool
  pub credit : ℕ
  pub stage : Stage
  pub size : ℕ
  pub waiting : List (List ℕ)  -- of each message that waits, what wasn't given yet
  pub given : ℕ  -- the number of the next DT
  pub acked : ℕ
  pub edge : ℕ
  pub received : ℕ  -- the number of the DT that is expected
  pub newest : ℕ
  pub lasts : List ℕ  -- the number of the last DT of each message not yet taken
  pub text : List ℕ  -- the message that was begun and isn't whole
  pub due : Option (List ℕ)

-- how far a number lies above another, modulo 128
abbrev pub distance : ℕ → ℕ → ℕ
distance from to = (to + 128 - from) % 128

abbrev pub kept_made : Bool → Settings → KeptTransport
kept_made is_caller settings = record {
  is_caller = is_caller;
  credit = settings.credit;
  stage = stages.New;
  size = settings.size;
  waiting = [];
  given = 0;
  acked = 0;
  edge = 0;
  received = 0;
  newest = 0;
  lasts = [];
  text = [];
  due = None;
}

abbrev pub kept_after_connect : KeptTransport → List ℕ → KeptTransport
kept_after_connect k user = record k { stage = stages.Calling; due = Some user }

abbrev pub kept_after_accept : KeptTransport → List ℕ → KeptTransport
kept_after_accept k user = record k { stage = stages.Open; due = Some user }

abbrev pub kept_after_hand : KeptTransport → List ℕ → KeptTransport
kept_after_hand k message = record k { waiting = k.waiting ++ message ∷ [] }

abbrev pub kept_after_taken : KeptTransport → KeptTransport
kept_after_taken k = record k { lasts = drop 1 k.lasts }

-- a TPDU is refused
abbrev pub kept_over : KeptTransport → KeptTransport
kept_over k = record k { stage = stages.Over }

abbrev pub kept_refusal : KeptTransport → (sub reason : ℕ) → KeptTransport × ReceptionDeed
kept_refusal k sub reason = (kept_over k, Refused sub reason)

-- a CR comes
abbrev pub may_be_called : KeptTransport → (dst src : ℕ) → Bool
may_be_called k dst src = not k.is_caller && is_new k.stage && (dst == 0) && (src == 1)

abbrev pub kept_called : KeptTransport → (credit size : ℕ) → KeptTransport
kept_called k credit size = record k { stage = stages.Called; size = min (min size 1024) k.size; edge = credit }

abbrev pub kept_on_request : KeptTransport → (credit dst src size : ℕ) → List ℕ → KeptTransport × ReceptionDeed
kept_on_request k credit dst src size user =
    if may_be_called k dst src then (kept_called k credit size, Called user)
    else kept_refusal k tpdu_refused protocol_error

-- a CC comes
abbrev pub may_be_confirmed : KeptTransport → (dst src size : ℕ) → Bool
may_be_confirmed k dst src size = is_calling k.stage && (dst == 1) && (src == 1) && nat_le size k.size

abbrev pub kept_confirmed : KeptTransport → (credit size : ℕ) → KeptTransport
kept_confirmed k credit size = record k { stage = stages.Open; size = size; edge = credit }

abbrev pub kept_on_confirm : KeptTransport → (credit dst src size : ℕ) → List ℕ → KeptTransport × ReceptionDeed
kept_on_confirm k credit dst src size user =
    if may_be_confirmed k dst src size then (kept_confirmed k credit size, Confirmed user)
    else kept_refusal k tpdu_refused protocol_error

-- a DR comes
abbrev pub may_be_disconnected : KeptTransport → (dst src : ℕ) → Bool
may_be_disconnected k dst src = not (is_new k.stage) && (dst == 1) && (src == 1)

abbrev pub kept_on_disconnect : KeptTransport → (dst src : ℕ) → List ℕ → KeptTransport × ReceptionDeed
kept_on_disconnect k dst src user =
    if may_be_disconnected k dst src then (kept_over k, Disconnected user)
    else kept_refusal k tpdu_refused protocol_error

-- a DT comes; that fifteen messages at most can be untaken follows of the credit
abbrev pub kept_is_expected : KeptTransport → (dst number : ℕ) → List ℕ → Bool
kept_is_expected k dst number user =
    is_open k.stage && (dst == 1) && (number == k.received) && nat_lt (distance k.newest k.received) k.credit
    && nat_lt (length k.lasts) 15 && nat_le (length user) (k.size - 5)

abbrev pub kept_with_data : KeptTransport → (last : Bool) → List ℕ → KeptTransport
kept_with_data k true user =
    record k { received = (k.received + 1) % 128; lasts = k.lasts ++ k.received ∷ []; text = [] }
kept_with_data k false user = record k { received = (k.received + 1) % 128; text = k.text ++ user }

abbrev pub kept_on_data : KeptTransport → (dst : ℕ) → (last : Bool) → (number : ℕ) → List ℕ → KeptTransport × ReceptionDeed
kept_on_data k dst last number user =
    if not (kept_is_expected k dst number user) then kept_refusal k tpdu_refused protocol_error
    else if nat_lt 1032 (length (k.text ++ user)) then kept_refusal k message_too_long protocol_error
    else (kept_with_data k last user, if last then Message (k.text ++ user) else Nothing)

-- an AK comes
abbrev pub may_acknowledge : KeptTransport → (credit dst number : ℕ) → Bool
may_acknowledge k credit dst number =
    is_open k.stage && (dst == 1) && nat_le (distance k.acked number) (distance k.acked k.given)
    && nat_le (distance k.acked k.edge) (distance k.acked number + credit)

abbrev pub kept_acknowledged : KeptTransport → (credit number : ℕ) → KeptTransport
kept_acknowledged k credit number = record k { acked = number; edge = (number + credit) % 128 }

abbrev pub kept_on_acknowledgement : KeptTransport → (credit dst number : ℕ) → KeptTransport × ReceptionDeed
kept_on_acknowledgement k credit dst number =
    if may_acknowledge k credit dst number then (kept_acknowledged k credit number, Nothing)
    else kept_refusal k tpdu_refused protocol_error

abbrev pub kept_on_reading : KeptTransport → Result TransportPdu TpFault → KeptTransport × ReceptionDeed
kept_on_reading k (Ok (connection_request credit dst src size user)) = kept_on_request k credit dst src size user
kept_on_reading k (Ok (connection_confirm credit dst src size user)) = kept_on_confirm k credit dst src size user
kept_on_reading k (Ok (disconnect_request dst src reason user)) = kept_on_disconnect k dst src user
kept_on_reading k (Ok (disconnect_confirm dst src)) = kept_refusal k tpdu_refused protocol_error
kept_on_reading k (Ok (data_tpdu dst last number user)) = kept_on_data k dst last number user
kept_on_reading k (Ok (acknowledgement credit dst number)) = kept_on_acknowledgement k credit dst number
kept_on_reading k (Ok (tpdu_error dst cause)) = kept_refusal k tpdu_refused protocol_error
kept_on_reading k (Err fault) = kept_refusal k tpdu_refused (dr_reason fault)

abbrev pub kept_reception : KeptTransport → List ℕ → KeptTransport × ReceptionDeed
kept_reception k octets = if is_over k.stage then (k, Nothing) else kept_on_reading k (reading octets)

-- how a deed tells the stage behind it, and the messages that wait to be taken
abbrev pub stage_behind : ReceptionDeed → Stage → Stage
stage_behind Nothing stage = stage
stage_behind (Called user) stage = stages.Called
stage_behind (Confirmed user) stage = stages.Open
stage_behind (Message octets) stage = stage
stage_behind (Disconnected user) stage = stages.Over
stage_behind (Refused sub reason) stage = stages.Over

abbrev pub untaken_behind : ReceptionDeed → ℕ → ℕ
untaken_behind Nothing untaken = untaken
untaken_behind (Called user) untaken = untaken
untaken_behind (Confirmed user) untaken = untaken
untaken_behind (Message octets) untaken = untaken + 1
untaken_behind (Disconnected user) untaken = untaken
untaken_behind (Refused sub reason) untaken = untaken

-- the deed of a reception tells both, and the role stays
pub record DeedTells (k : KeptTransport) (x : KeptTransport × ReceptionDeed) : Type 0 where
  pub role : x.0.is_caller ≡ k.is_caller
  pub stage : x.0.stage ≡ stage_behind x.1 k.stage
  pub untaken : length x.0.lasts ≡ untaken_behind x.1 (length k.lasts)

-- the first of numbers, or this one where there is none
abbrev pub first_or : ℕ → List ℕ → ℕ
first_or n [] = n
first_or n (m ∷ ms) = m

abbrev pub is_nonempty : List (List ℕ) → Bool
is_nonempty [] = false
is_nonempty (m ∷ ms) = true

-- what is to be given next
abbrev pub kept_ack : KeptTransport → ℕ
kept_ack k = first_or k.received k.lasts

abbrev pub kept_turn : KeptTransport → TpduTurn
kept_turn k =
    if is_over k.stage then Rest
    else turn_among k.due (not (kept_ack k == k.newest)) (is_nonempty k.waiting && not (k.given == k.edge))

-- the next segment of the messages that wait, and what waits behind it
abbrev pub next_segment : ℕ → List (List ℕ) → Segment
next_segment size [] = (true, [])
next_segment size (m ∷ ms) = if nat_lt (size - 5) (length m) then (false, take (size - 5) m) else (true, m)

abbrev pub waiting_behind : ℕ → List (List ℕ) → List (List ℕ)
waiting_behind size [] = []
waiting_behind size (m ∷ ms) = if nat_lt (size - 5) (length m) then drop (size - 5) m ∷ ms else ms

-- the TPDU of a turn, and what is kept behind it
abbrev pub kept_tpdu_at : KeptTransport → TpduTurn → Option GivenTpdu
kept_tpdu_at k Rest = None
kept_tpdu_at k (Opening user) = Some (if k.is_caller then Cr k.credit k.size user else Cc k.credit k.size user)
kept_tpdu_at k Acknowledgement = Some (Ak k.credit (kept_ack k))
kept_tpdu_at k Data = let next = next_segment k.size k.waiting in Some (Dt next.0 k.given next.1)

abbrev pub kept_behind : KeptTransport → TpduTurn → KeptTransport
kept_behind k Rest = k
kept_behind k (Opening user) = record k { due = None }
kept_behind k Acknowledgement = record k { newest = kept_ack k }
kept_behind k Data = record k { given = (k.given + 1) % 128; waiting = waiting_behind k.size k.waiting }

abbrev pub kept_next_tpdu : KeptTransport → Option GivenTpdu
kept_next_tpdu k = kept_tpdu_at k (kept_turn k)

abbrev pub kept_after_next : KeptTransport → KeptTransport
kept_after_next k = kept_behind k (kept_turn k)

-- the octets of a TPDU, where there is one
abbrev pub octets_next : Option GivenTpdu → List ℕ
octets_next None = []
octets_next (Some tpdu) = octets_given tpdu
