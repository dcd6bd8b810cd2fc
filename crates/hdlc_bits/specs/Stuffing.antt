-- How a frame is written under synchronous transmission with bit transparency (ISO/IEC 13239): a flag, the bits
-- of the content with a 0 inserted behind each five ones, a flag.
use Rattle.std.specs.Prelude.{ℕ, ◌+◌, ◌==◌, List, [], ◌∷◌, ◌++◌, if◌then◌else◌}
use Rattle.hdlc_fcs.specs.FrameCheck.{sent_bits}
use Rattle.hdlc_fcs.specs.Contents.{content_of}

-- the bits of a flag
abbrev pub flag_bits : List ℕ
flag_bits = 0 ∷ 1 ∷ 1 ∷ 1 ∷ 1 ∷ 1 ∷ 1 ∷ 0 ∷ []

-- bits that come behind n ones, with a 0 behind each five ones
unfoldable pub stuffed_behind : ℕ → List ℕ → List ℕ
stuffed_behind n [] = []
stuffed_behind n (b ∷ bs) =
    if b == 0 then 0 ∷ stuffed_behind 0 bs else
    if n == 4 then 1 ∷ 0 ∷ stuffed_behind 0 bs else
    1 ∷ stuffed_behind (n + 1) bs

-- how many ones stand at the end of bits that come behind n ones, none of them followed by a 0 that was inserted
unfoldable pub ones_left : ℕ → List ℕ → ℕ
ones_left n [] = n
ones_left n (b ∷ bs) = if b == 0 then ones_left 0 bs else if n == 4 then ones_left 0 bs else ones_left (n + 1) bs

-- bits with a 0 behind each five ones
abbrev pub stuffed : List ℕ → List ℕ
stuffed bits = stuffed_behind 0 bits

-- a whole frame
unfoldable pub spelling_in_bits : ℕ → List ℕ → List ℕ
spelling_in_bits address body = flag_bits ++ stuffed (sent_bits (content_of address body)) ++ flag_bits
