-- What a combined station keeps (ISO/IEC 13239, asynchronous balanced mode): whole lists from the first payload on, and numbers that
-- have no bound. V(A) is the number acknowledged, V(S) the next to send, and V(R) is the number of I frames taken.
use Rattle.std.specs.Prelude.{ℕ, ◌+◌, ◌-◌, ◌^◌, nat_lt, max, Bool, true, false, if◌then◌else◌, List, [], ◌∷◌, ◌++◌, Option, None}
use Rattle.er_base.specs.declared.release.Release.{Release}
use Rattle.hdlc_station_model.specs.declared.phase.Phase.{Phase}
use Rattle.hdlc_station_model.specs.declared.phase.Phase.TheVariants.{Idle, Setting, Up, Down}
use Rattle.hdlc_station_model.specs.declared.counts.Counts.{Counts}
use Rattle.hdlc_station_model.specs.Frames.{Frame}

-- what a call tells the layer above: that the link came up, the payload that was taken, the release
pub record Deed : Type 0 where
  pub up : Bool
  pub payload : Option (List ℕ)
  -- the payloads that were taken behind that one: none but at a station with selective reject
  pub more : List (List ℕ)
  pub released : Option Release

abbrev pub no_deed : Deed
no_deed = record { up = false; payload = None; more = []; released = None }

pub record Station : Type 0 where
  -- ---- from its making
  -- whether it is the calling station
  pub calling : Bool
  -- whether its numbers are extended, so modulo 128
  pub extended : Bool
  -- the greatest number of I frames that are sent and not acknowledged
  pub window : ℕ
  -- N2, the greatest number of expiries of T1 in a row
  pub n2 : ℕ
  -- T1 in milliseconds
  pub t1 : ℕ
  -- ---- what it is at
  pub phase : Phase
  -- all payloads that were handed to it
  pub handed : List (List ℕ)
  -- V(A)
  pub acked : ℕ
  -- V(S)
  pub sent : ℕ
  -- all payloads that it took; V(R) is their number
  pub taken : List (List ℕ)
  -- the gap mark: a REJ was sent, and the frame that it asks for didn't come yet
  pub gap : Bool
  -- at a station with selective reject: the numbers and payloads of the frames that came and wait for one before them
  pub held : List (ℕ × List ℕ)
  -- and the numbers that it asked for by SREJ and that didn't come yet
  pub asked : List ℕ
  -- the busy mark: the peer sent RNR
  pub busy : Bool
  -- an I frame was taken, and nothing sent since shows it
  pub owed : Bool
  -- the expiries of T1 since the last progress
  pub expiries : ℕ
  -- the moment at which T1 expires, where it runs
  pub timer : Option ℕ
  -- the last moment
  pub moment : ℕ
  pub counts : Counts
  -- why it was released, once it was
  pub released : Option Release
  -- ---- of the call that is made
  -- the frames that were sent, the first one first
  pub said : List Frame
  pub deed : Deed

abbrev pub no_counts : Counts
no_counts = record { bad_fcs = 0; short = 0; long = 0; aborted = 0; stray = 0 }

-- a station that was just made
abbrev pub made : (calling extended : Bool) (window n2 t1 : ℕ) → Station
made calling extended window n2 t1 = record {
  calling = calling;
  extended = extended;
  window = window;
  n2 = n2;
  t1 = t1;
  phase = Idle;
  handed = [];
  acked = 0;
  sent = 0;
  taken = [];
  gap = false;
  held = [];
  asked = [];
  busy = false;
  owed = false;
  expiries = 0;
  timer = None;
  moment = 0;
  counts = no_counts;
  released = None;
  said = [];
  deed = no_deed;
}

-- between two calls nothing is said and nothing is told
abbrev pub settled : Station → Station
settled s = record s { said = []; deed = no_deed }

abbrev pub is_down : Phase → Bool
is_down Idle = false
is_down Setting = false
is_down Up = false
is_down Down = true

abbrev pub is_up : Phase → Bool
is_up Idle = false
is_up Setting = false
is_up Up = true
is_up Down = false

-- a station sees a moment; one below the last moment counts as the last one
abbrev pub sees : ℕ → Station → Station
sees now s = record s { moment = max s.moment now }

-- the moment at which T1 expires if it starts now
abbrev pub expiry_moment : Station → ℕ
expiry_moment s = s.moment + s.t1

-- a frame is sent
abbrev pub puts : Frame → Station → Station
puts f s = record s { said = s.said ++ f ∷ [] }

-- a count grows by one and stays at its greatest value
abbrev pub one_more : ℕ → ℕ
one_more n = if nat_lt n (2 ^ 64 - 1) then n + 1 else n
