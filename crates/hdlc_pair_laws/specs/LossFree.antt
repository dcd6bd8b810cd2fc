-- Lemmas: what two stations and the frames between them keep at each call while the line loses nothing and repeats nothing, whatever
-- layers stand above them, for the proofs of the crates of such layers. Everywhere x acts and y doesn't, w waited from x before the
-- call, and l waits from y; n is the number of deliveries so far; c says whether x is the calling station.
use Rattle.std.specs.Prelude.{◌≡◌, ℕ, ◌+◌, ◌*◌, ◌≤◌, Bool, true, false, List, [], ◌∷◌, length}
use Rattle.hdlc_station_model.specs.declared.phase.Phase.TheVariants.{Up}
use Rattle.hdlc_station_model.specs.Frames.{Frame}
use Rattle.hdlc_station_model.specs.Stations.{Station, is_down, made, settled}
use Rattle.hdlc_station_model.specs.Calls.{starts, hands, finishes, ticks}
use Rattle.hdlc_station_model.specs.Selective.{receives_as}
use Rattle.hdlc_station_model.specs.Events.{is_late}
use Rattle.hdlc_pair_laws.specs.Invariant.{IsStationPair, Both}
use Rattle.hdlc_pair_laws.specs.Flowing.{Shape, Midway, Ended}
use Rattle.hdlc_pair_laws.specs.Keeping.{found}

-- each call keeps the shape of what flows
pub record FlowKeeps : Type 0 where
  -- two stations that were just made, of which the calling one starts
  pub started : (extended : Bool) (window n2 t1 now : ℕ) → 1 ≤ window
      → Midway true 0 [] (starts now (settled (made true extended window n2 t1))) [] (made false extended window n2 t1)
  -- a call of the calling station begins, or one of the called station
  pub calling_begins : (selective : Bool) (k n : ℕ) (lx : List Frame) (x : Station) (ly : List Frame) (y : Station) → IsStationPair selective k lx x ly y
      → Shape n lx x ly y
      → Midway true n lx (settled x) ly y
  pub called_begins : (selective : Bool) (k n : ℕ) (lx : List Frame) (x : Station) (ly : List Frame) (y : Station) → IsStationPair selective k lx x ly y
      → Shape n lx x ly y
      → Midway false n ly (settled y) lx x
  pub received : (selective c : Bool) (k n : ℕ) (w : List Frame) (now : ℕ) (x : Station) (f : Frame) (fs : List Frame) (y : Station)
      → Both selective k w x (f ∷ fs) y → Midway c n w x (f ∷ fs) y → Midway c (n + 1) w (receives_as selective now (found y f) x) fs y
  pub handed : (c : Bool) (n : ℕ) (w : List Frame) (now : ℕ) (p : List ℕ) (x : Station) (l : List Frame) (y : Station)
      → Midway c n w x l y → Midway c n w (hands now p x) l y
  -- T1 isn't found expired
  pub ticked : (c : Bool) (n : ℕ) (w : List Frame) (now : ℕ) (x : Station) (l : List Frame) (y : Station) → is_late now x ≡ false
      → Midway c n w x l y → Midway c n w (ticks now x) l y
  pub finished : (c : Bool) (n : ℕ) (w : List Frame) (x : Station) (l : List Frame) (y : Station) → Midway c n w x l y → Ended c n w (finishes x) l y
  pub lives : (c : Bool) (n : ℕ) (w : List Frame) (x : Station) (l : List Frame) (y : Station) → Midway c n w x l y → is_down x.phase ≡ false

-- what the shape says of the number of frames, and of two stations between which no frame waits; here x is the calling station
pub record FlowBounds : Type 0 where
  pub deliveries : (selective : Bool) (k n : ℕ) (lx : List Frame) (x : Station) (ly : List Frame) (y : Station) → IsStationPair selective k lx x ly y
      → Shape n lx x ly y
      → n + (length lx + length ly) ≤ 2 + 2 * (length x.handed + length y.handed)
  pub waiting : (selective : Bool) (k n : ℕ) (lx : List Frame) (x : Station) (ly : List Frame) (y : Station) → IsStationPair selective k lx x ly y
      → Shape n lx x ly y
      → (length lx ≤ 254) × (length ly ≤ 254)
  pub emptied : (selective : Bool) (k n : ℕ) (x : Station) (y : Station) → IsStationPair selective k [] x [] y → Shape n [] x [] y
      → (x.phase ≡ Up) × (y.phase ≡ Up) × (y.taken ≡ x.handed) × (1 ≤ length x.handed → x.taken ≡ y.handed)
