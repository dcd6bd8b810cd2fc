-- Lemmas: what two stations and the frames between them keep at each call, whatever layers stand above them, for the proofs of the crates of
-- such layers. Everywhere x acts and y doesn't, w waited from x before the call, and l waits from y.
use Rattle.std.specs.Prelude.{◌≡◌, ◌⊎◌, ℕ, ◌-◌, ◌<◌, ◌≤◌, Bool, true, false, List, [], ◌∷◌, ◌++◌, length, drop, None}
use Rattle.std.specs.Option.{option_to_list}
use Rattle.hdlc_frames.specs.Framing.{flag, Verdict, Frame as Frame_found, frames_of}
use Rattle.hdlc_station_model.specs.Frames.{Frame, modulo, sent_address, sent_body, sent_octets}
use Rattle.hdlc_station_model.specs.Stations.{Station, no_deed, is_up, is_down, made}
use Rattle.hdlc_station_model.specs.Calls.{starts, hands, finishes, ticks, closes}
use Rattle.hdlc_station_model.specs.Selective.{receives_as}
use Rattle.hdlc_station_model.specs.Reports.{TellsRelease}
use Rattle.hdlc_pair_laws.specs.Invariant.{IsStationPair, Both}

-- what a frame of y is found as
abbrev pub found : Station → Frame → Verdict
found y f = Frame_found (sent_address y.calling f) (sent_body y.extended f)

-- its octets on the line
abbrev pub frame_octets_of_station : Station → Frame → List ℕ
frame_octets_of_station y f = sent_octets y.calling y.extended f

-- nothing stands behind the newest flag of what was read
abbrev pub IsAtFlag : List ℕ → Type 0
IsAtFlag read = (read ≡ []) ⊎ ((before : List ℕ) × (read ≡ before ++ flag ∷ []))

-- each call keeps the invariant
pub record CallsKeep : Type 0 where
  pub swapped : (selective : Bool) (k : ℕ) (lx : List Frame) (x : Station) (ly : List Frame) (y : Station) → IsStationPair selective k lx x ly y
      → IsStationPair selective k ly y lx x
  pub made_pair : (extended : Bool) (window n2 t1 : ℕ) → 1 ≤ window → window < modulo extended
      → IsStationPair false (modulo extended - 1) [] (made true extended window n2 t1) [] (made false extended window n2 t1)
  pub started : (selective : Bool) (k : ℕ) (w : List Frame) (now : ℕ) (x : Station) (l : List Frame) (y : Station) → Both selective k w x l y
      → Both selective k w (starts now x) l y
  pub received : (selective : Bool) (k : ℕ) (w : List Frame) (now : ℕ) (x : Station) (f : Frame) (fs : List Frame) (y : Station)
      → Both selective k w x (f ∷ fs) y → Both selective k w (receives_as selective now (found y f) x) fs y
  pub handed : (selective : Bool) (k : ℕ) (w : List Frame) (now : ℕ) (x : Station) (l : List Frame) (y : Station) (p : List ℕ) → length p ≤ 1026
      → Both selective k w x l y → Both selective k w (hands now p x) l y
  pub finished : (selective : Bool) (k : ℕ) (w : List Frame) (x : Station) (l : List Frame) (y : Station) → Both selective k w x l y
      → Both selective k w (finishes x) l y
  pub ticked : (selective : Bool) (k : ℕ) (w : List Frame) (now : ℕ) (x : Station) (l : List Frame) (y : Station) → Both selective k w x l y
      → Both selective k w (ticks now x) l y
  pub closed : (selective : Bool) (k : ℕ) (w : List Frame) (x : Station) (l : List Frame) (y : Station) → Both selective k w x l y
      → Both selective k w (closes x) l y
  -- the first frame of y is lost, or stands twice
  pub lost : (selective : Bool) (k : ℕ) (lx : List Frame) (x : Station) (f : Frame) (fs : List Frame) (y : Station)
      → IsStationPair selective k lx x (f ∷ fs) y → IsStationPair selective k lx x fs y
  pub repeated : (selective : Bool) (k : ℕ) (lx : List Frame) (x : Station) (f : Frame) (fs : List Frame) (y : Station)
      → IsStationPair selective k lx x (f ∷ fs) y → IsStationPair selective k lx x (f ∷ f ∷ fs) y
  -- it is the one frame that its octets close
  pub one_frame : (selective : Bool) (k : ℕ) (lx : List Frame) (x : Station) (f : Frame) (fs : List Frame) (y : Station) (read : List ℕ) → IsAtFlag read
      → IsStationPair selective k lx x (f ∷ fs) y → drop (length (frames_of read)) (frames_of (read ++ frame_octets_of_station y f)) ≡ found y f ∷ []
  pub at_flag : (y : Station) (f : Frame) (read : List ℕ) → IsAtFlag (read ++ frame_octets_of_station y f)

-- what a call tells of the phase behind it, and of the release
pub record TellsStationPhaseAndRelease (s t : Station) : Type 0 where
  pub reason : (t.deed.released ≡ None) ⊎ (t.deed.released ≡ t.released)
  -- of a station that isn't up: it takes nothing, and tells that it came up
  pub asleep : is_up s.phase ≡ false → (t.deed.payload ≡ None) × (is_up t.phase ≡ true → t.deed.up ≡ true)
  -- of a station that is: it stays so, unless it is released
  pub awake : is_up s.phase ≡ true → (t.deed.up ≡ false) × (t.deed.released ≡ None → is_up t.phase ≡ true)
  -- a station that tells no release isn't released
  pub lives : is_down s.phase ≡ false → t.deed.released ≡ None → is_down t.phase ≡ false
  -- a station that tells that it came up is up
  pub came : t.deed.up ≡ true → is_up t.phase ≡ true
  -- a release is told alone
  pub alone : (t.deed.released ≡ None) ⊎ ((t.deed.payload ≡ None) × (t.deed.up ≡ false))

abbrev pub ReceivesTell : Type 0
ReceivesTell = (selective : Bool) (now : ℕ) (verdict : Verdict) (s : Station) → s.deed ≡ no_deed
    → TellsStationPhaseAndRelease s (receives_as selective now verdict s)

-- what a frame that comes gives: what was handed down stays, what is told of payloads is what is taken, the release is told, and after a
-- release nothing is done
pub record TellsWhatStationTakes (s t : Station) : Type 0 where
  pub handed : t.handed ≡ s.handed
  pub taken : t.taken ≡ s.taken ++ (option_to_list t.deed.payload ++ t.deed.more)
  pub release : TellsRelease s t
  pub inert : is_down s.phase ≡ true → t ≡ s

abbrev pub FramesGive : Type 0
FramesGive = (selective : Bool) (now : ℕ) (verdict : Verdict) (s : Station) → s.deed ≡ no_deed → TellsWhatStationTakes s (receives_as selective now verdict s)

-- time doesn't bring a station up
pub record TicksTell : Type 0 where
  pub reason : (now : ℕ) (s : Station) → s.deed ≡ no_deed
      → ((ticks now s).deed.released ≡ None) ⊎ ((ticks now s).deed.released ≡ (ticks now s).released)
  pub asleep : (now : ℕ) (s : Station) → is_up s.phase ≡ false → is_up (ticks now s).phase ≡ false
  pub awake : (now : ℕ) (s : Station) → s.deed ≡ no_deed → is_up s.phase ≡ true → (ticks now s).deed.released ≡ None → is_up (ticks now s).phase ≡ true
  pub lives : (now : ℕ) (s : Station) → s.deed ≡ no_deed → is_down s.phase ≡ false → (ticks now s).deed.released ≡ None → is_down (ticks now s).phase ≡ false

-- to hand a payload down and to finish change the phase of no station, and a start brings none up or down
pub record PhasesStay : Type 0 where
  pub starts_up : (now : ℕ) (s : Station) → is_up (starts now s).phase ≡ is_up s.phase
  pub starts_down : (now : ℕ) (s : Station) → is_down (starts now s).phase ≡ is_down s.phase
  pub hands : (now : ℕ) (payload : List ℕ) (s : Station) → (hands now payload s).phase ≡ s.phase
  pub finishes : (s : Station) → (finishes s).phase ≡ s.phase
