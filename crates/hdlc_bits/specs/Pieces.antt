-- Bits taken out of octets, and what one call of a deframer does with them.
use Rattle.std.specs.Prelude.{◌≡◌, ℕ, ◌-◌, ◌<◌, List, ◌++◌, take, drop, Option}
use Rattle.std.specs.Option.{option_to_list}
use Rattle.hdlc_fcs.specs.FrameCheck.{sent_bits}
use Rattle.hdlc_bits.specs.Framing.{Verdict, frames_of_bits}
use Rattle.hdlc_bits.specs.Keeping.{KeptBitDeframer, kept_of}

-- the bits of octets from a place to before another, each octet with its lowest bit first
unfoldable pub bits_between : List ℕ → ℕ → ℕ → List ℕ
bits_between octets first end = take (end - first) (drop first (sent_bits octets))

-- the bits that a call uses add its verdict, or nothing, to the frames of each line of which this is kept
abbrev pub AddsToFrames : KeptBitDeframer → List ℕ → ℕ → Option Verdict → Type 0
AddsToFrames kept bits used verdict =
    (line : List ℕ) → kept ≡ kept_of line → frames_of_bits (line ++ take used bits) ≡ frames_of_bits line ++ option_to_list verdict

-- fewer bits add nothing
abbrev pub FewerAddNothing : KeptBitDeframer → List ℕ → ℕ → Type 0
FewerAddNothing kept bits used =
    (line : List ℕ) → kept ≡ kept_of line → (k : ℕ) → k < used → frames_of_bits (line ++ take k bits) ≡ frames_of_bits line
