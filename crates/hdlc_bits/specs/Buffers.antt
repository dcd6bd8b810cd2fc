-- Representation: how the fields of the code stand for what is kept; no claim rests on it.
use Rattle.std.specs.Prelude.{◌≡◌, ℕ, ◌/◌, ◌%◌, ◌<◌, ◌≤◌, Bool, List, ◌++◌, length, take, replicate, slice_index}
use Rattle.bit_lists.specs.LowestFirst.{low_bits}
use Rattle.hdlc_fcs.specs.FrameCheck.{sent_bits}
use Rattle.hdlc_bits.specs.Keeping.{KeptBitDeframer}

-- the bits of a buffer: whole octets and, behind them, the bits of the last one
unfoldable pub buffer_bits : ℕ → ℕ → List ℕ → List ℕ
buffer_bits len last octets = sent_bits (take (len / 8) octets) ++ low_bits (len % 8) last

-- what the fields of a segment keep
abbrev pub kept_by_bit_segment : ℕ → Bool → Bool → ℕ → ℕ → List ℕ → KeptBitDeframer
kept_by_bit_segment ones begun gap len last octets = record { ones = ones; begun = begun; gap = gap; content = take 8257 (buffer_bits len last octets) }

-- bits begin with so many ones, behind which a 0 stands or nothing
pub record HasOnes (bits : List ℕ) (n : ℕ) : Type 0 where
  pub within : n ≤ length bits
  pub ones : take n bits ≡ replicate n 1
  pub zero : n < length bits → slice_index bits n ≡ 0
