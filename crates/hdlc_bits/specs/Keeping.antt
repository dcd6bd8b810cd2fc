-- Contract: how clauses speak of what a deframer keeps of a line, bit by bit.
use Rattle.std.specs.Prelude.{◌≡◌, ℕ, ◌+◌, min, Bool, true, false, ◌==◌, List, [], ◌∷◌, ◌++◌, take, replicate, Option, None, Some, if◌then◌else◌}
use Rattle.hdlc_bits.specs.Framing.{Verdict, is_flag, is_bound, has_zero, zero_if, verdict_at_end}

pub record KeptBitDeframer : Type 0 where
  -- the number of ones behind the newest 0; seven for more
  pub ones : ℕ
  -- whether the newest flag or abort is a flag
  pub begun : Bool
  -- whether a 0 goes before the ones that follow
  pub gap : Bool
  -- the bits behind that flag; of a content that is too long, one bit more than the greatest length
  pub content : List ℕ

-- what is kept of a line of no bits
abbrev pub kept_of_nothing : KeptBitDeframer
kept_of_nothing = record { ones = 0; begun = false; gap = false; content = [] }

-- the bits that so many ones add behind a 0, or none
abbrev pub added : Bool → ℕ → List ℕ
added gap ones = zero_if gap ++ replicate ones 1

-- what is kept once a 0 ends the ones
abbrev pub after_zero : KeptBitDeframer → KeptBitDeframer
after_zero k =
    if is_bound k.ones then record { ones = 0; begun = is_flag k.ones; gap = false; content = [] } else
    if k.begun then record { ones = 0; begun = true; gap = has_zero k.ones; content = take 8257 (k.content ++ added k.gap k.ones) } else
    record { ones = 0; begun = false; gap = k.gap; content = k.content }

-- what is kept after so many ones
abbrev pub after_ones : KeptBitDeframer → ℕ → KeptBitDeframer
after_ones k n = record k { ones = min (k.ones + n) 7 }

-- what is kept after one bit
abbrev pub after_bit : KeptBitDeframer → ℕ → KeptBitDeframer
after_bit k bit = if bit == 0 then after_zero k else after_ones k 1

-- what is kept after bits
unfoldable pub kept_after : KeptBitDeframer → List ℕ → KeptBitDeframer
kept_after k [] = k
kept_after k (bit ∷ bits) = kept_after (after_bit k bit) bits

-- what is kept of a line
unfoldable pub kept_of : List ℕ → KeptBitDeframer
kept_of line = kept_after kept_of_nothing line

-- this is kept of some line: a deframer never keeps anything else
abbrev pub IsKeptOfLine : KeptBitDeframer → Type 0
IsKeptOfLine k = (line : List ℕ) × (k ≡ kept_of line)

-- ---- one call

-- the verdict that a 0 brings
abbrev pub closing_verdict : KeptBitDeframer → Option Verdict
closing_verdict k = if is_bound k.ones then verdict_at_end k.ones k.content else None

-- the verdict that one bit brings
abbrev pub verdict_at : KeptBitDeframer → ℕ → Option Verdict
verdict_at k bit = if bit == 0 then closing_verdict k else None

-- going through bits up to and with the first that brings a verdict: how many are used, the verdict, and what
-- is kept then
pub record Feeding : Type 0 where
  pub used : ℕ
  pub verdict : Option Verdict
  pub kept : KeptBitDeframer

-- one bit in front of what bits give
abbrev pub feeding_with_bit_before : Feeding → Feeding
feeding_with_bit_before f = record f { used = f.used + 1 }

-- a bit that brings a verdict ends the call; else the bits behind it follow
abbrev pub bit_scan : KeptBitDeframer → Option Verdict → Feeding → Feeding
bit_scan k None rest = feeding_with_bit_before rest
bit_scan k (Some v) rest = record { used = 1; verdict = Some v; kept = k }

-- going through bits where k is kept
abbrev pub scan_of : KeptBitDeframer → List ℕ → Feeding
scan_of k [] = record { used = 0; verdict = None; kept = k }
scan_of k (bit ∷ bits) = bit_scan (after_bit k bit) (verdict_at k bit) (scan_of (after_bit k bit) bits)
