-- What a list of blocks comes to, whole (ITU-T T.70), and the laws of joining them one by one.
use Rattle.std.specs.Prelude.{ℕ, ◌≡◌, ◌<◌, ◌≤◌, ◌↔◌, ◌⊎◌, false, IsSome, IsNone, List, [], ◌∷◌, ◌++◌, length, Some, None, Ok, Err, true}
use Rattle.t70_header.specs.declared.fault.BlockFault.{BlockFault}
use Rattle.t70_header.specs.declared.fault.BlockFault.TheVariants.{Header, Long}
use Rattle.t70_header.specs.Blocks.{last_block, more_of, content_of_block}
use Rattle.t70_header.specs.Joining.{BlockJoiningResult, block_step, fault_of_header}

-- the octets of several blocks, joined
abbrev pub joined_contents : List (List ℕ) → List ℕ
joined_contents [] = []
joined_contents (block ∷ blocks) = content_of_block block ++ joined_contents blocks

-- each of the blocks has the more-bit
abbrev pub AllMore : List (List ℕ) → Type 0
AllMore [] = Unit {0}
AllMore (block ∷ blocks) = (more_of block ≡ Some true) × AllMore blocks

-- the answer to the last of several blocks that are given one by one, up to the first other than None
abbrev pub answer_to_last_block : List ℕ → List (List ℕ) → BlockJoiningResult
answer_to_last_block held [] = Ok None
answer_to_last_block held (block ∷ blocks) =
    first_answer (block_step held block).1 (answer_to_last_block (block_step held block).0 blocks)
  where
    first_answer : BlockJoiningResult → BlockJoiningResult → BlockJoiningResult
    first_answer (Ok None) later = later
    first_answer answer later = answer

-- a block has this fault behind the octets that are held
abbrev pub HasFault : List ℕ → List ℕ → BlockFault → Type 0
HasFault held block (Header found first second) =
    IsNone (more_of block) × (Header found first second ≡ fault_of_header block)
HasFault held block (Long n) =
    IsSome (more_of block) × (n ≡ length (held ++ content_of_block block)) × (1024 < n)

-- the blocks up to the first one without the more-bit make this TPDU
pub record MakesWholeTpdu (held : List ℕ) (blocks : List (List ℕ)) (tpdu : List ℕ) : Type 0 where
  pub front : List (List ℕ)
  pub last : List ℕ
  pub rest : List (List ℕ)
  pub cut : blocks ≡ front ++ last ∷ rest
  pub more : AllMore front
  pub ends : more_of last ≡ Some false
  pub octets : tpdu ≡ held ++ joined_contents front ++ content_of_block last
  pub fits : length tpdu ≤ 1024

-- one block, behind blocks with the more-bit that could be joined, has this fault
pub record IsFaulty (held : List ℕ) (blocks : List (List ℕ)) (fault : BlockFault) : Type 0 where
  pub front : List (List ℕ)
  pub block : List ℕ
  pub rest : List (List ℕ)
  pub cut : blocks ≡ front ++ block ∷ rest
  pub more : AllMore front
  pub fits : length (held ++ joined_contents front) ≤ 1024
  pub has_fault : HasFault (held ++ joined_contents front) block fault

-- what the blocks come to behind octets that are held
abbrev pub JoinedBehind : List ℕ → List (List ℕ) → BlockJoiningResult → Type 0
JoinedBehind held blocks (Ok None) = AllMore blocks × (length (held ++ joined_contents blocks) ≤ 1024)
JoinedBehind held blocks (Ok (Some tpdu)) = MakesWholeTpdu held blocks tpdu
JoinedBehind held blocks (Err fault) = IsFaulty held blocks fault

-- what a list of blocks comes to: they are joined up to the first one without the more-bit
abbrev pub Joined : List (List ℕ) → BlockJoiningResult → Type 0
Joined blocks answer = JoinedBehind [] blocks answer

-- giving blocks to a joiner one by one joins them, and nothing else is an answer to them
abbrev pub AddingJoins : Type 0
AddingJoins = (blocks : List (List ℕ)) (answer : BlockJoiningResult) → Joined blocks answer ↔ (answer_to_last_block [] blocks ≡ answer)

-- a joiner holds octets behind an answer only where that answer is that more blocks follow
abbrev pub HoldsOnlyWhatWaits : Type 0
HoldsOnlyWhatWaits =
    (held block : List ℕ) → ((block_step held block).0 ≡ []) ⊎ ((block_step held block).1 ≡ Ok None)

-- a TPDU that was wrapped in one block is joined to itself
abbrev pub WrappedIsJoined : Type 0
WrappedIsJoined = (tpdu : List ℕ) → length tpdu ≤ 1024 → block_step [] (last_block tpdu) ≡ ([], Ok (Some tpdu))
