-- The frames that a combined station sends in asynchronous balanced mode (ISO/IEC 13239). Their numbers are absolute: the first I frame
-- of a link has the number 0, each further one the next. What a frame shows on the line is its number modulo 8, or modulo 128 in the
-- extended form.
use Rattle.std.specs.Prelude.{ℕ, ◌%◌, Bool, true, false, not, List, [], ◌++◌, Option, None, Some}
use Rattle.hdlc_frames.specs.declared.controls.Control.{Control}
use Rattle.hdlc_frames.specs.declared.controls.Control.TheVariants as control
use Rattle.hdlc_frames.specs.Controls.{control_octets}
use Rattle.hdlc_frames.specs.Spelling.{spelling}

pub data Frame : Type 0 where
  -- an I frame with N(S), N(R) and its payload
  Info : (ns nr : ℕ) (payload : List ℕ) → Frame
  -- receive ready, reject and selective reject, with N(R)
  Rr Rej Srej : (nr : ℕ) → Frame
  -- the set-up frame, disconnect, disconnected mode
  SetUp Disc Dm : Frame
  -- unnumbered acknowledgement, with its F bit
  Ua : (final : Bool) → Frame

-- the modulo of the numbers, in the extended form and in the basic one
abbrev pub modulo : Bool → ℕ
modulo true = 128
modulo false = 8

-- the set-up frame: SABME in the extended form, else SABM, with the P bit
abbrev pub set_up : Bool → Control
set_up true = control.Sabme true
set_up false = control.Sabm true

-- the control that a frame shows
abbrev pub shown : Bool → Frame → Control
shown extended (Info ns nr payload) = control.Info (ns % modulo extended) (nr % modulo extended)
shown extended (Rr nr) = control.Rr (nr % modulo extended)
shown extended (Rej nr) = control.Rej (nr % modulo extended)
shown extended (Srej nr) = control.Srej (nr % modulo extended)
shown extended SetUp = set_up extended
shown extended Disc = control.Disc true
shown extended Dm = control.Dm
shown extended (Ua final) = control.Ua

-- the P/F bit that it shows: none in I and S frames
abbrev pub poll_final : Frame → Bool
poll_final (Info ns nr payload) = false
poll_final (Rr nr) = false
poll_final (Rej nr) = false
poll_final (Srej nr) = false
poll_final SetUp = true
poll_final Disc = true
poll_final Dm = true
poll_final (Ua final) = final

-- the information that stands behind the control
abbrev pub information : Frame → List ℕ
information (Info ns nr payload) = payload
information (Rr nr) = []
information (Rej nr) = []
information (Srej nr) = []
information SetUp = []
information Disc = []
information Dm = []
information (Ua final) = []

-- the address of a station: 03 of the calling one, 01 of the called one
abbrev pub address_of : Bool → ℕ
address_of true = 0x03
address_of false = 0x01

-- the address of a frame that a station sends: a command bears the receiver's, a response the sender's. I frames, the set-up frame
-- and disconnect are commands
abbrev pub sent_address : Bool → Frame → ℕ
sent_address calling (Info ns nr payload) = address_of (not calling)
sent_address calling (Rr nr) = address_of calling
sent_address calling (Rej nr) = address_of calling
sent_address calling (Srej nr) = address_of calling
sent_address calling SetUp = address_of (not calling)
sent_address calling Disc = address_of (not calling)
sent_address calling Dm = address_of calling
sent_address calling (Ua final) = address_of calling

-- the octets of the table, where it has some
abbrev pub table_octets : Option (List ℕ) → List ℕ
table_octets None = []
table_octets (Some octets) = octets

-- the body: the octets of the control, then the information
abbrev pub sent_body : Bool → Frame → List ℕ
sent_body extended f = table_octets (control_octets (modulo extended) (shown extended f) (poll_final f)) ++ information f

-- the octets of a frame on the line, from flag to flag
abbrev pub sent_octets : (calling extended : Bool) → Frame → List ℕ
sent_octets calling extended f = spelling (sent_address calling f) (sent_body extended f)
