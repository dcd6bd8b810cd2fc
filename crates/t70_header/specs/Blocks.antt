-- The blocks of ITU-T T.70: a header of two octets, 01 and then 00 or, where more blocks of the same
-- TPDU follow, 80; behind it the block's octets of the TPDU.
use Rattle.std.specs.Prelude.{ℕ, ◌==◌, ◌&&◌, nat_le, if◌then◌else◌, Bool, true, false, List, ◌∷◌, length, slice_index, drop, Option, Some, None}

-- the one block of a TPDU that isn't cut
abbrev pub last_block : List ℕ → List ℕ
last_block tpdu = 0x01 ∷ 0x00 ∷ tpdu

-- the block begins with 01 and this octet
abbrev pub has_header : ℕ → List ℕ → Bool
has_header second block =
    nat_le 2 (length block) && (slice_index block 0 == 0x01) && (slice_index block 1 == second)

-- whether more blocks follow this one; None where its header is neither of the two
abbrev pub more_of : List ℕ → Option Bool
more_of block =
    if has_header 0x00 block then Some false else if has_header 0x80 block then Some true else None

-- the octets behind the header
abbrev pub content_of_block : List ℕ → List ℕ
content_of_block block = drop 2 block
