-- Lemmas: what flows between two stations while their line loses nothing, and repeats nothing; no claim rests on it.
use Rattle.std.specs.Prelude.{◌≡◌, ◌⊎◌, ℕ, ◌+◌, ◌<◌, ◌≤◌, Bool, true, false, not, List, [], ◌∷◌, ◌++◌, length}
use Rattle.hdlc_station_model.specs.declared.phase.Phase.TheVariants.{Idle, Setting, Up}
use Rattle.hdlc_station_model.specs.Frames.{Frame, Info, Rr, Rej, Srej, SetUp, Disc, Dm, Ua}
use Rattle.hdlc_station_model.specs.Stations.{Station}
use Rattle.hdlc_station_model.specs.Sending.{can_send}
use Rattle.hdlc_pair_laws.specs.Invariant.{infos, receive_numbers_in_frames}

-- ---- two stations that are both up

-- the I frames that wait are low, low + 1, .. up to high - 1
abbrev pub Consecutive : ℕ → List (ℕ × List ℕ) → ℕ → Type 0
Consecutive low [] high = low ≡ high
Consecutive low (f ∷ fs) high = (f.0 ≡ low) × Consecutive (low + 1) fs high

-- the last of these numbers, or low where there is none, is high
abbrev pub EndsAtNumber : ℕ → List ℕ → ℕ → Type 0
EndsAtNumber low [] high = low ≡ high
EndsAtNumber low (x ∷ xs) high = EndsAtNumber x xs high

-- I frames and RR alone wait
abbrev pub IsData : Frame → Type 0
IsData (Info ns nr payload) = Unit {0}
IsData (Rr nr) = Unit {0}
IsData (Rej nr) = ⊥
IsData (Srej nr) = ⊥
IsData SetUp = ⊥
IsData Disc = ⊥
IsData Dm = ⊥
IsData (Ua final) = ⊥

abbrev pub AllData : List Frame → Type 0
AllData [] = Unit {0}
AllData (f ∷ fs) = IsData f × AllData fs

abbrev pub one_if : Bool → ℕ
one_if true = 1
one_if false = 0

-- of what x sends to y: its I frames that wait, and the numbers N(R) that wait from y
abbrev pub IsStationFlow : Bool → List (ℕ × List ℕ) → List ℕ → Station → Station → Type 0
IsStationFlow c waits shows x y =
    (x.phase ≡ Up)
    × (x.busy ≡ false)
    × Consecutive (length y.taken) waits x.sent
    × (y.owed ≡ false → EndsAtNumber x.acked shows (length y.taken))
    × (x.calling ≡ c)
    × (1 ≤ x.window)
    × (x.held ≡ [])

-- every frame that was sent waits or was delivered, once, and an answer that is owed counts as a frame; n is the number of deliveries
abbrev pub Count : ℕ → List Frame → Station → List Frame → Station → Type 0
Count n lx x ly y =
    n + length lx + one_if x.owed + length ly + one_if y.owed ≤ 2 + x.sent + length x.taken + y.sent + length y.taken

-- each RR that waits shows more than the number before it, or than the number acknowledged; and so will the answer that is owed
abbrev pub AreReceiveReadyNumbersRising : ℕ → List Frame → ℕ → Bool → Type 0
AreReceiveReadyNumbersRising low [] high owed = owed ≡ true → low < high
AreReceiveReadyNumbersRising low (Info ns nr payload ∷ fs) high owed = AreReceiveReadyNumbersRising nr fs high owed
AreReceiveReadyNumbersRising low (Rr nr ∷ fs) high owed = (low < nr) × AreReceiveReadyNumbersRising nr fs high owed
AreReceiveReadyNumbersRising low (Rej nr ∷ fs) high owed = AreReceiveReadyNumbersRising nr fs high owed
AreReceiveReadyNumbersRising low (Srej nr ∷ fs) high owed = AreReceiveReadyNumbersRising low fs high owed
AreReceiveReadyNumbersRising low (SetUp ∷ fs) high owed = AreReceiveReadyNumbersRising low fs high owed
AreReceiveReadyNumbersRising low (Disc ∷ fs) high owed = AreReceiveReadyNumbersRising low fs high owed
AreReceiveReadyNumbersRising low (Dm ∷ fs) high owed = AreReceiveReadyNumbersRising low fs high owed
AreReceiveReadyNumbersRising low (Ua final ∷ fs) high owed = AreReceiveReadyNumbersRising low fs high owed

-- of what waits in both directions: ax and rx are V(A) and V(R) of x, ox says whether it owes an answer
pub record Rising (lx ly : List Frame) (ax rx : ℕ) (ox : Bool) (ay ry : ℕ) (oy : Bool) : Type 0 where
  pub own : AreReceiveReadyNumbersRising ay lx rx ox
  pub peers : AreReceiveReadyNumbersRising ax ly ry oy

abbrev pub Still : Bool → ℕ → List Frame → Station → List Frame → Station → Type 0
Still c n lx x ly y =
    IsStationFlow c (infos lx) (receive_numbers_in_frames ly) x y × IsStationFlow (not c) (infos ly) (receive_numbers_in_frames lx) y x × AllData lx
    × AllData ly × Count n lx x ly y
    × Rising lx ly x.acked (length x.taken) x.owed y.acked (length y.taken) y.owed

-- no payload may be sent, or none is left
abbrev pub HasNoPayloadToSend : Station → Type 0
HasNoPayloadToSend x = (can_send x ≡ false) ⊎ (x.sent ≡ length x.handed)

-- and no answer is owed
abbrev pub AtRest : Station → Type 0
AtRest x = (x.owed ≡ false) × HasNoPayloadToSend x

-- ---- the shape of a link

-- a station that sent and took nothing yet
abbrev pub Fresh : Bool → Station → Type 0
Fresh c x = (x.sent ≡ 0) × (x.acked ≡ 0) × (length x.taken ≡ 0) × (x.busy ≡ false) × (x.owed ≡ false) × (x.calling ≡ c) × (1 ≤ x.window) × (x.held ≡ [])

-- the set-up frame waits
abbrev pub Asked : ℕ → List Frame → Station → List Frame → Station → Type 0
Asked n lx x ly y = (x.phase ≡ Setting) × (y.phase ≡ Idle) × (lx ≡ SetUp ∷ []) × (ly ≡ []) × Fresh true x × Fresh false y × (n ≡ 0)

-- its answer waits
abbrev pub Agreed : ℕ → List Frame → Station → List Frame → Station → Type 0
Agreed n lx x ly y = (x.phase ≡ Setting) × (y.phase ≡ Up) × (lx ≡ []) × (ly ≡ Ua true ∷ []) × Fresh true x × Fresh false y × (n ≡ 1)

abbrev pub Flowing : ℕ → List Frame → Station → List Frame → Station → Type 0
Flowing n lx x ly y = Still true n lx x ly y × AtRest x × AtRest y

abbrev pub Shape : ℕ → List Frame → Station → List Frame → Station → Type 0
Shape n lx x ly y = Asked n lx x ly y ⊎ Agreed n lx x ly y ⊎ Flowing n lx x ly y

-- ---- within a call of x, where w waited from x before the call; c says whether x is the calling one

-- both are up: payloads that may be sent are sent
abbrev pub Flushed : Bool → ℕ → List Frame → Station → List Frame → Station → Type 0
Flushed c n w x l y = Still c n (w ++ x.said) x l y × HasNoPayloadToSend x × (x.sent ≤ length x.handed)

abbrev pub Midway : Bool → ℕ → List Frame → Station → List Frame → Station → Type 0
Midway true n w x l y = Asked n (w ++ x.said) x l y ⊎ Agreed n (w ++ x.said) x l y ⊎ (Flushed true n w x l y × AtRest y)
Midway false n w x l y = Asked n l y (w ++ x.said) x ⊎ Agreed n l y (w ++ x.said) x ⊎ (Flushed false n w x l y × AtRest y)

-- behind it
abbrev pub Ended : Bool → ℕ → List Frame → Station → List Frame → Station → Type 0
Ended true n w x l y = Shape n (w ++ x.said) x l y
Ended false n w x l y = Shape n l y (w ++ x.said) x
