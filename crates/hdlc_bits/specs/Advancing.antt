-- Representation: going through bits in steps of many; no claim rests on it.
use Rattle.std.specs.Prelude.{◌≡◌, ℕ, ◌+◌, ◌≤◌, List, length, drop}
use Rattle.hdlc_bits.specs.Keeping.{KeptBitDeframer, scan_of}

-- going through the first n bits brings no verdict, and leads from what is kept to what is kept then
pub record Advances (k : KeptBitDeframer) (bits : List ℕ) (n : ℕ) (next : KeptBitDeframer) : Type 0 where
  pub within : n ≤ length bits
  pub used : (scan_of next (drop n bits)).used + n ≡ (scan_of k bits).used
  pub verdict : (scan_of next (drop n bits)).verdict ≡ (scan_of k bits).verdict
  pub kept : (scan_of next (drop n bits)).kept ≡ (scan_of k bits).kept
