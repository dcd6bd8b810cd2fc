-- The flag that closes the first frame of octets (ISO/IEC 13239).
use Rattle.std.specs.Prelude.{◌≡◌, ◌≢◌, ℕ, ◌<◌, ◌≤◌, List, [], length, take}
use Rattle.hdlc_frames.specs.Framing.{frames_of}

-- the first n octets hold a frame, and no fewer of them do
abbrev pub ClosesFirst : List ℕ → ℕ → Type 0
ClosesFirst octets n =
    (n ≤ length octets) × (frames_of (take n octets) ≢ []) × ((k : ℕ) → k < n → frames_of (take k octets) ≡ [])
