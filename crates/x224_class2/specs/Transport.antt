-- The transport model: one side of a connection of ITU-T X.224 class 2 with explicit flow control (clauses 6 and
-- 10). Lists are whole, numbers are absolute. What is refused, and that the user's taking lets a DT be acknowledged,
-- are this profile's.
use Rattle.std.specs.Prelude.{ℕ, ◌+◌, ◌-◌, ◌%◌, ◌==◌, ◌&&◌, not, nat_lt, nat_le, min, if◌then◌else◌, zero, suc, Bool, true, false, List, [], ◌∷◌, ◌++◌, length}
use Rattle.std.specs.Prelude.{slice_index_or, drop, Option, Some, None, Result, Ok, Err}
use Rattle.er_settings.specs.Values.{Settings}
use Rattle.x224_tpdu.specs.declared.fault.TpFault.{TpFault}
use Rattle.x224_tpdu.specs.Spelling.{TransportPdu, connection_request, connection_confirm, disconnect_request, disconnect_confirm, data_tpdu, acknowledgement}
use Rattle.x224_tpdu.specs.Spelling.{tpdu_error}
use Rattle.x224_tpdu.specs.Function.{reading}
use Rattle.x224_class2.specs.Segments.{Segment, segments_of, messages_in, text_so_far, ack_number}
use Rattle.x224_class2.specs.Tpdus.{GivenTpdu, Cr, Cc, Dt, Ak}
use Rattle.x224_class2.specs.Refusals.{dr_reason, protocol_error, tpdu_refused, message_too_long}
use Rattle.x224_class2.specs.declared.stage.Stage.{Stage}
use Rattle.x224_class2.specs.declared.stage.Stage.TheVariants as stages

-- one side of a connection
pub record Transport : Type 0 where
  pub is_caller : Bool  -- the role
  pub credit : ℕ  -- the credit of the settings, which each CR, CC and AK grants
  pub stage : Stage
  pub size : ℕ  -- the greatest size of a TPDU: that of the settings, then the agreed one
  pub segments : List Segment  -- those of all messages handed
  pub given : ℕ  -- how many of them were given, so the number of the next DT
  pub acked : ℕ  -- the number that the newest AK received named
  pub edge : ℕ  -- the upper edge: the first number that the peer hasn't granted
  pub contents : List Segment  -- those of all DT received
  pub taken : ℕ  -- how many of their messages the user took
  pub newest : ℕ  -- the number of the newest AK given
  pub due : Option (List ℕ)  -- the user data of a CR or CC that is to be given
  pub gave : List GivenTpdu  -- the TPDUs given

-- what a reception comes to, for the layer above
pub data ReceptionDeed : Type 0 where
  Nothing : ReceptionDeed
  Called : (user : List ℕ) → ReceptionDeed
  Confirmed : (user : List ℕ) → ReceptionDeed
  Message : (octets : List ℕ) → ReceptionDeed
  Disconnected : (user : List ℕ) → ReceptionDeed
  Refused : (sub dr_reason : ℕ) → ReceptionDeed

-- the stages
abbrev pub is_new : Stage → Bool
is_new stages.New = true
is_new stages.Calling = false
is_new stages.Called = false
is_new stages.Open = false
is_new stages.Over = false

abbrev pub is_calling : Stage → Bool
is_calling stages.New = false
is_calling stages.Calling = true
is_calling stages.Called = false
is_calling stages.Open = false
is_calling stages.Over = false

abbrev pub is_called : Stage → Bool
is_called stages.New = false
is_called stages.Calling = false
is_called stages.Called = true
is_called stages.Open = false
is_called stages.Over = false

abbrev pub is_open : Stage → Bool
is_open stages.New = false
is_open stages.Calling = false
is_open stages.Called = false
is_open stages.Open = true
is_open stages.Over = false

abbrev pub is_over : Stage → Bool
is_over stages.New = false
is_over stages.Calling = false
is_over stages.Called = false
is_over stages.Open = false
is_over stages.Over = true

-- a side that was just made
abbrev pub side_made : Bool → Settings → Transport
side_made is_caller settings = record {
  is_caller = is_caller;
  credit = settings.credit;
  stage = stages.New;
  size = settings.size;
  segments = [];
  given = 0;
  acked = 0;
  edge = 0;
  contents = [];
  taken = 0;
  newest = 0;
  due = None;
  gave = [];
}

-- the caller connects with this user data
abbrev pub after_connect : Transport → List ℕ → Transport
after_connect t user = record t { stage = stages.Calling; due = Some user }

-- the callee accepts with this user data
abbrev pub after_accept : Transport → List ℕ → Transport
after_accept t user = record t { stage = stages.Open; due = Some user }

-- the messages handed whose last segment wasn't given yet
abbrev pub waiting_count : Transport → ℕ
waiting_count t = length (messages_in (drop t.given t.segments))

-- a message is handed
abbrev pub after_hand : Transport → List ℕ → Transport
after_hand t message = record t { segments = t.segments ++ segments_of t.size message }

-- the messages received that weren't taken yet
abbrev pub untaken_count : Transport → ℕ
untaken_count t = length (messages_in t.contents) - t.taken

-- the user took the oldest of them
abbrev pub after_taken : Transport → Transport
after_taken t = record t { taken = t.taken + 1 }

-- a TPDU is refused by this sub-reason, and nothing more comes of the connection
abbrev pub refusal_of_tpdu : Transport → (sub reason : ℕ) → Transport × ReceptionDeed
refusal_of_tpdu t sub reason = (record t { stage = stages.Over }, Refused sub reason)

-- a CR comes: the callee answers the least of its proposal, 1,024 and the callee's own size
abbrev pub on_request : Transport → (credit dst src size : ℕ) → List ℕ → Transport × ReceptionDeed
on_request t credit dst src size user =
    if not t.is_caller && is_new t.stage && (dst == 0) && (src == 1) then
    (record t { stage = stages.Called; size = min (min size 1024) t.size; edge = credit }, Called user)
    else refusal_of_tpdu t tpdu_refused protocol_error

-- a CC comes: its size is the proposal's at most
abbrev pub on_confirm : Transport → (credit dst src size : ℕ) → List ℕ → Transport × ReceptionDeed
on_confirm t credit dst src size user =
    if is_calling t.stage && (dst == 1) && (src == 1) && nat_le size t.size then
    (record t { stage = stages.Open; size = size; edge = credit }, Confirmed user)
    else refusal_of_tpdu t tpdu_refused protocol_error

-- a DR comes: the caller expects it from its CR on, the callee behind the CR
abbrev pub on_disconnect : Transport → (dst src : ℕ) → List ℕ → Transport × ReceptionDeed
on_disconnect t dst src user =
    if not (is_new t.stage) && (dst == 1) && (src == 1) then (record t { stage = stages.Over }, Disconnected user)
    else refusal_of_tpdu t tpdu_refused protocol_error

-- a DT is the expected one, lies below the edge that the newest AK given granted, and has the agreed size
abbrev pub is_expected : Transport → (dst number : ℕ) → List ℕ → Bool
is_expected t dst number user =
    is_open t.stage && (dst == 1) && (number == length t.contents % 128)
    && nat_lt (length t.contents) (t.newest + t.credit) && nat_le (length user) (t.size - 5)

-- a DT comes: no message has more than 1,032 octets
abbrev pub on_data : Transport → (dst : ℕ) → (last : Bool) → (number : ℕ) → List ℕ → Transport × ReceptionDeed
on_data t dst last number user =
    let text = text_so_far t.contents ++ user in
    if not (is_expected t dst number user) then refusal_of_tpdu t tpdu_refused protocol_error
    else if nat_lt 1032 (length text) then refusal_of_tpdu t message_too_long protocol_error
    else (record t { contents = t.contents ++ (last, user) ∷ [] }, if last then Message text else Nothing)

-- the first of the numbers n to n + more that is shown as this one
abbrev pub number_named : (n more shown : ℕ) → Option ℕ
number_named n zero shown = if n % 128 == shown then Some n else None
number_named n (suc more) shown = if n % 128 == shown then Some n else number_named (n + 1) more shown

-- an AK that names a number comes: it doesn't lower the edge
abbrev pub on_named : Transport → (credit : ℕ) → Option ℕ → Transport × ReceptionDeed
on_named t credit None = refusal_of_tpdu t tpdu_refused protocol_error
on_named t credit (Some n) =
    if nat_lt (n + credit) t.edge then refusal_of_tpdu t tpdu_refused protocol_error
    else (record t { acked = n; edge = n + credit }, Nothing)

-- an AK comes: it names a number from the last acknowledged to the next to be given
abbrev pub on_acknowledgement : Transport → (credit dst number : ℕ) → Transport × ReceptionDeed
on_acknowledgement t credit dst number =
    if is_open t.stage && (dst == 1) then on_named t credit (number_named t.acked (t.given - t.acked) number)
    else refusal_of_tpdu t tpdu_refused protocol_error

-- what was read comes, before the connection is over
abbrev pub on_reading : Transport → Result TransportPdu TpFault → Transport × ReceptionDeed
on_reading t (Ok (connection_request credit dst src size user)) = on_request t credit dst src size user
on_reading t (Ok (connection_confirm credit dst src size user)) = on_confirm t credit dst src size user
on_reading t (Ok (disconnect_request dst src reason user)) = on_disconnect t dst src user
on_reading t (Ok (disconnect_confirm dst src)) = refusal_of_tpdu t tpdu_refused protocol_error
on_reading t (Ok (data_tpdu dst last number user)) = on_data t dst last number user
on_reading t (Ok (acknowledgement credit dst number)) = on_acknowledgement t credit dst number
on_reading t (Ok (tpdu_error dst cause)) = refusal_of_tpdu t tpdu_refused protocol_error
on_reading t (Err fault) = refusal_of_tpdu t tpdu_refused (dr_reason fault)

-- the octets of a TPDU come: the state behind them, and what they come to
abbrev pub reception : Transport → List ℕ → Transport × ReceptionDeed
reception t octets = if is_over t.stage then (t, Nothing) else on_reading t (reading octets)

-- what is to be given next
pub data TpduTurn : Type 0 where
  Rest : TpduTurn  -- nothing
  Opening : (user : List ℕ) → TpduTurn  -- the CR or CC that is due
  Acknowledgement : TpduTurn  -- an owed AK
  Data : TpduTurn  -- the next segment, which lies below the edge

-- in this order
abbrev pub turn_among : Option (List ℕ) → (is_owed is_granted : Bool) → TpduTurn
turn_among (Some user) is_owed is_granted = Opening user
turn_among None true is_granted = Acknowledgement
turn_among None false true = Data
turn_among None false false = Rest

-- the number that an AK would name now
abbrev pub ack_of : Transport → ℕ
ack_of t = ack_number t.taken t.contents

abbrev pub turn_of : Transport → TpduTurn
turn_of t =
    if is_over t.stage then Rest
    else turn_among t.due (nat_lt t.newest (ack_of t)) (nat_lt t.given (length t.segments) && nat_lt t.given t.edge)

-- the TPDU of a turn
abbrev pub tpdu_at : Transport → TpduTurn → Option GivenTpdu
tpdu_at t Rest = None
tpdu_at t (Opening user) = Some (if t.is_caller then Cr t.credit t.size user else Cc t.credit t.size user)
tpdu_at t Acknowledgement = Some (Ak t.credit (ack_of t))
tpdu_at t Data = let next = slice_index_or t.segments t.given (true, []) in Some (Dt next.0 t.given next.1)

-- the state behind a turn, but for the list of what was given
abbrev pub state_behind : Transport → TpduTurn → Transport
state_behind t Rest = t
state_behind t (Opening user) = record t { due = None }
state_behind t Acknowledgement = record t { newest = ack_of t }
state_behind t Data = record t { given = t.given + 1 }

-- a TPDU joins those that were given
abbrev pub with_given : Transport → Option GivenTpdu → Transport
with_given t None = t
with_given t (Some tpdu) = record t { gave = t.gave ++ tpdu ∷ [] }

-- the next TPDU, where there is one
abbrev pub next_tpdu : Transport → Option GivenTpdu
next_tpdu t = tpdu_at t (turn_of t)

-- it is given
abbrev pub after_next : Transport → Transport
after_next t = with_given (state_behind t (turn_of t)) (next_tpdu t)
