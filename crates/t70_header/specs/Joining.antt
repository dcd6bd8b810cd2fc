-- Joining the blocks of a TPDU (ITU-T T.70). This profile joins up to 1,024 octets, and of a block it
-- names the fault of its header before that of the joined length.
use Rattle.std.specs.Prelude.{ℕ, nat_lt, if◌then◌else◌, Bool, List, [], ◌++◌, length, slice_index, Option, Some, None, Result, Ok, Err}
use Rattle.t70_header.specs.declared.fault.BlockFault.{BlockFault}
use Rattle.t70_header.specs.declared.fault.BlockFault.TheVariants.{Header, Long}
use Rattle.t70_header.specs.Blocks.{more_of, content_of_block}

-- what blocks come to: nothing yet, a whole TPDU, or a fault
abbrev pub BlockJoiningResult : Type 0
BlockJoiningResult = Result (Option (List ℕ)) BlockFault

-- the fault of a header; octets that the block doesn't have are given as 0
abbrev pub fault_of_header : List ℕ → BlockFault
fault_of_header block = Header (length block) (slice_index block 0) (slice_index block 1)

-- one block behind the octets that are held: what is held then, and the answer
abbrev pub block_step : List ℕ → List ℕ → List ℕ × BlockJoiningResult
block_step held block = joined_to (more_of block) (held ++ content_of_block block)
  where
    joined_to : Option Bool → List ℕ → List ℕ × BlockJoiningResult
    joined_to None octets = ([], Err (fault_of_header block))
    joined_to (Some more) octets =
        if nat_lt 1024 (length octets) then ([], Err (Long (length octets)))
        else if more then (octets, Ok None)
        else ([], Ok (Some octets))
