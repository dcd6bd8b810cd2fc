-- Lemmas: what two stations and the frames between them keep at each call, whatever the line lost and repeated, and from the tick on that
-- repairs it, whatever layers stand above them; for the proofs of the crates of such layers. Everywhere x acts and y doesn't, w waited from
-- x before the call, and l waits from y; c says whether x is the calling station.
use Rattle.std.specs.Prelude.{◌≡◌, ◌⊎◌, ℕ, ◌<◌, ◌≤◌, Bool, true, false, not, List, [], ◌∷◌, ◌++◌, length, None}
use Rattle.hdlc_station_model.specs.declared.phase.Phase.TheVariants.{Up}
use Rattle.hdlc_station_model.specs.Frames.{Frame}
use Rattle.hdlc_station_model.specs.Stations.{Station, no_deed, is_down, made, settled}
use Rattle.hdlc_station_model.specs.Calls.{starts, hands, finishes, ticks, closes}
use Rattle.hdlc_station_model.specs.Selective.{receives_as}
use Rattle.hdlc_pair_laws.specs.Invariant.{IsStationPair, Both}
use Rattle.hdlc_pair_laws.specs.Keeping.{found}
use Rattle.hdlc_station_model.specs.Repeating.{MayRepeat}
use Rattle.hdlc_station_model.specs.Events.{is_late}
use Rattle.hdlc_pair_laws.specs.EachEnd.{HasExpiryLeft}
use Rattle.hdlc_pair_laws.specs.Mending.{Progress, Lossy, HalfTicked, Ticked, Shown, OneWay, MayHear, MaySpeak, Between, Within}

-- each call keeps what holds, and the two ticks lead on
pub record MendKeeps : Type 0 where
  pub turned : (p : Progress) (selective c : Bool) (window : ℕ) (lx : List Frame) (x : Station) (ly : List Frame) (y : Station)
      → Between p selective c window lx x ly y → Between p selective (not c) window ly y lx x
  -- two stations that were just made, of which the calling one starts
  pub started : (selective extended : Bool) (window n2 t1 now : ℕ)
      → Within Lossy selective true window [] (starts now (settled (made true extended window n2 t1))) [] (made false extended window n2 t1)
  pub begins : (p : Progress) (selective c : Bool) (k window : ℕ) (lx : List Frame) (x : Station) (ly : List Frame) (y : Station)
      → IsStationPair selective k lx x ly y
      → Between p selective c window lx x ly y → Within p selective c window lx (settled x) ly y
  -- with selective reject the greatest window is the window
  pub received : (p : Progress) (selective c : Bool) (k window : ℕ) (w : List Frame) (now : ℕ) (x : Station) (f : Frame) (fs : List Frame) (y : Station)
      → MayHear p → (selective ≡ true → k ≡ window) → Both selective k w x (f ∷ fs) y → Within p selective c window w x (f ∷ fs) y
      → Within p selective c window w (receives_as selective now (found y f) x) fs y
  pub handed : (p : Progress) (selective c : Bool) (window : ℕ) (w : List Frame) (now : ℕ) (payload : List ℕ) (x : Station) (l : List Frame) (y : Station)
      → MaySpeak p c → Within p selective c window w x l y → Within p selective c window w (hands now payload x) l y
  pub finished : (p : Progress) (selective c : Bool) (window : ℕ) (w : List Frame) (x : Station) (l : List Frame) (y : Station)
      → MaySpeak p c → Within p selective c window w x l y → Between p selective c window (w ++ (finishes x).said) (finishes x) l y
  -- ---- before the tick
  pub ticked : (selective c : Bool) (window : ℕ) (w : List Frame) (now : ℕ) (x : Station) (l : List Frame) (y : Station)
      → Within Lossy selective c window w x l y → Within Lossy selective c window w (ticks now x) l y
  pub closed : (selective c : Bool) (window : ℕ) (w : List Frame) (x : Station) (l : List Frame) (y : Station)
      → Within Lossy selective c window w x l y → Within Lossy selective c window w (closes x) l y
  -- the first frame of y is lost, or stands twice
  pub lost : (selective c : Bool) (window : ℕ) (lx : List Frame) (x : Station) (f : Frame) (fs : List Frame) (y : Station)
      → Between Lossy selective c window lx x (f ∷ fs) y → Between Lossy selective c window lx x fs y
  pub repeated : (selective c : Bool) (window : ℕ) (lx : List Frame) (x : Station) (f : Frame) (fs : List Frame) (y : Station)
      → Between Lossy selective c window lx x (f ∷ fs) y → Between Lossy selective c window lx x (f ∷ f ∷ fs) y
  -- ---- the tick: T1 doesn't run, or is found expired, and no frame waits
  pub calling_ticked : (selective : Bool) (k window : ℕ) (w : List Frame) (now : ℕ) (x : Station) (l : List Frame) (y : Station) → w ≡ [] → l ≡ []
      → IsStationPair selective k w x l y → Between Lossy selective true window w x l y → is_down x.phase ≡ false → is_down y.phase ≡ false → MayRepeat now x
      → Within HalfTicked selective true window w (ticks now (settled x)) l y
  pub called_ticked : (selective : Bool) (k window : ℕ) (w : List Frame) (now : ℕ) (x : Station) (l : List Frame) (y : Station)
      → IsStationPair selective k w x l y → Between HalfTicked selective false window w x l y → MayRepeat now x
      → Within Ticked selective false window w (ticks now (settled x)) l y
  -- ---- the tick where two stations are up and no frame waits: T1 of one of them is found expired, whatever the other one lost
  -- both are up, or T1 of the called one doesn't run
  pub live_phases : (selective : Bool) (k window : ℕ) (lx : List Frame) (x : Station) (ly : List Frame) (y : Station) → IsStationPair selective k lx x ly y
      → Between Lossy selective true window lx x ly y → is_down x.phase ≡ false → is_down y.phase ≡ false → ((x.phase ≡ Up) × (y.phase ≡ Up)) ⊎ (y.timer ≡ None)
  -- of the calling one; then the called one ticks
  pub calling_expired : (selective : Bool) (k window : ℕ) (w : List Frame) (now : ℕ) (x : Station) (l : List Frame) (y : Station) → w ≡ [] → l ≡ []
      → IsStationPair selective k w x l y → Between Lossy selective true window w x l y → x.phase ≡ Up → y.phase ≡ Up → is_late now x ≡ true → x.expiries < x.n2
      → Within (OneWay true) selective true window w (ticks now (settled x)) l y
  pub called_goes_on : (selective : Bool) (k window : ℕ) (w : List Frame) (now : ℕ) (x : Station) (l : List Frame) (y : Station)
      → IsStationPair selective k w x l y → Between (OneWay true) selective false window w x l y → HasExpiryLeft now x
      → Within (OneWay true) selective false window w (ticks now (settled x)) l y
  -- the calling one ticks; then that of the called one is found expired
  pub calling_goes_on : (selective : Bool) (k window : ℕ) (w : List Frame) (now : ℕ) (x : Station) (l : List Frame) (y : Station) → w ≡ [] → l ≡ []
      → IsStationPair selective k w x l y → Between Lossy selective true window w x l y → x.phase ≡ Up → y.phase ≡ Up → HasExpiryLeft now x
      → Within Shown selective true window w (ticks now (settled x)) l y
  pub called_expired : (selective : Bool) (k window : ℕ) (w : List Frame) (now : ℕ) (x : Station) (l : List Frame) (y : Station)
      → IsStationPair selective k w x l y → Between Shown selective false window w x l y → is_late now x ≡ true → x.expiries < x.n2
      → Within (OneWay false) selective false window w (ticks now (settled x)) l y
  -- ---- no release
  -- from the tick on no station is released
  pub lives : (p : Progress) (selective c : Bool) (window : ℕ) (w : List Frame) (x : Station) (l : List Frame) (y : Station) → (p ≡ Lossy → ⊥)
      → Within p selective c window w x l y → is_down x.phase ≡ false
  -- and never by a frame of a live station
  pub heard_lives : (p : Progress) (selective c : Bool) (k window : ℕ) (w : List Frame) (now : ℕ) (x : Station) (f : Frame) (fs : List Frame) (y : Station)
      → Both selective k w x (f ∷ fs) y → Within p selective c window w x (f ∷ fs) y → is_down x.phase ≡ false → is_down y.phase ≡ false
      → is_down (receives_as selective now (found y f) x).phase ≡ false
  -- a station that isn't released behind a call told no release in it
  pub heard_untold : (selective : Bool) (now : ℕ) (x : Station) (f : Frame) (y : Station) → x.deed ≡ no_deed
      → is_down (receives_as selective now (found y f) x).phase ≡ false → (receives_as selective now (found y f) x).deed.released ≡ None
  pub ticked_untold : (now : ℕ) (x : Station) → x.deed ≡ no_deed → is_down (ticks now x).phase ≡ false → (ticks now x).deed.released ≡ None

-- x calls: both are up, each took what the other was handed, the calling one where it was handed a payload itself; all is acknowledged, no
-- payload waits, and T1 runs at neither
pub record IsMended (x y : Station) : Type 0 where
  pub x_up : x.phase ≡ Up
  pub y_up : y.phase ≡ Up
  pub at_y : y.taken ≡ x.handed
  pub at_x : 1 ≤ length x.handed → x.taken ≡ y.handed
  pub x_acked : x.acked ≡ x.sent
  pub y_acked : y.acked ≡ y.sent
  pub x_sent : x.sent ≡ length x.handed
  pub y_sent : 1 ≤ length x.handed → y.sent ≡ length y.handed
  pub x_stopped : (x.timer ≡ None) × (x.expiries ≡ 0)
  pub y_stopped : (y.timer ≡ None) × (y.expiries ≡ 0)

-- behind the tick, once no frame waits
abbrev pub MendEnds : Type 0
MendEnds =
    (selective : Bool) (k window : ℕ) (lx : List Frame) (x : Station) (ly : List Frame) (y : Station) → 1 ≤ window → lx ≡ [] → ly ≡ []
    → IsStationPair selective k lx x ly y → Between Ticked selective true window lx x ly y → IsMended x y

-- behind the tick of one of them, once no frame waits: all that it sent is acknowledged, so T1 doesn't run
abbrev pub OneWayEnds : Type 0
OneWayEnds =
    (selective calling : Bool) (k window : ℕ) (lx : List Frame) (x : Station) (ly : List Frame) (y : Station) → lx ≡ [] → ly ≡ []
    → IsStationPair selective k lx x ly y → Between (OneWay calling) selective true window lx x ly y
    → (calling ≡ true → x.timer ≡ None) × (calling ≡ false → y.timer ≡ None)
