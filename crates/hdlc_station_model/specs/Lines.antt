-- The words of a line between two ends, whatever the ends are: what waits, what was taken, why an end is released (this profile).
use Rattle.std.specs.Prelude.{◌≡◌, ◌⊎◌, ℕ, ◌+◌, ◌*◌, false, List, [], ◌∷◌, length, take, slice_index, slice_set, bit_xor, Option, Some, None}
use Rattle.er_base.specs.declared.side.Side.{Side}
use Rattle.er_base.specs.declared.side.Side.TheVariants.{E, R}
use Rattle.er_base.specs.declared.release.Release.{Release}

-- what was taken so far is the first part of what was handed down
abbrev pub IsPrefix : List (List ℕ) → List (List ℕ) → Type 0
IsPrefix xs ys = xs ≡ take (length xs) ys

-- the end whose frame is passed next: e where a frame of e waits, else r where one of r waits
abbrev pub next_of : List (List ℕ) → List (List ℕ) → Option Side
next_of (frame ∷ frames) from_r = Some E
next_of [] (frame ∷ frames) = Some R
next_of [] [] = None

-- a frame with one octet changed
abbrev pub altered : List ℕ → (place mask : ℕ) → List ℕ
altered frame place mask = slice_set frame place (bit_xor (slice_index frame place) mask)

-- the releases of a station that an order-keeping line allows, all by this end: 0.x, the own user; 1.1, the set-up was never answered; 1.2,
-- no progress; 1.4, the peer's DISC, DM or FRMR
abbrev pub IsLosingLineReason : Release → Type 0
IsLosingLineReason release =
    (release.by_peer ≡ false)
    × ((release.reason ≡ 0) ⊎ ((release.reason ≡ 1) × ((release.sub ≡ 1) ⊎ (release.sub ≡ 2) ⊎ (release.sub ≡ 4))))

-- the greatest number of deliveries of a line without a loss, where so many payloads were handed down at either end
abbrev pub station_bound : (handed_e handed_r : ℕ) → ℕ
station_bound handed_e handed_r = 2 + 2 * (handed_e + handed_r)
