-- The content of a frame (ISO/IEC 13239): an address, a body and the check sequence of both. The bounds on its
-- length are this profile's.
use Rattle.std.specs.Prelude.{◌≡◌, ℕ, ◌+◌, ◌-◌, ◌*◌, ◌/◌, ◌%◌, ◌≤◌, List, [], ◌∷◌, ◌++◌, length, take, drop, slice_index}
use Rattle.hdlc_fcs.specs.FrameCheck.{fcs_of}

-- the least number of octets that content may have
abbrev pub shortest : ℕ
shortest = 4

-- the greatest number of octets that content may have
abbrev pub longest : ℕ
longest = 1032

-- ---- written

-- the address, the body and the check sequence of both, its low octet first
unfoldable pub content_of : ℕ → List ℕ → List ℕ
content_of address body =
    address ∷ body ++ fcs_of (address ∷ body) % 256 ∷ fcs_of (address ∷ body) / 256 ∷ []

-- ---- read

-- the first octet
abbrev pub address_in_content : List ℕ → ℕ
address_in_content content = slice_index content 0

-- the content without its last two octets
unfoldable pub checked_part : List ℕ → List ℕ
checked_part content = take (length content - 2) content

-- what stands between the address and the check sequence
abbrev pub body_of : List ℕ → List ℕ
body_of content = drop 1 (checked_part content)

-- the number that the last two octets write, the low one first
unfoldable pub check_number : List ℕ → ℕ
check_number content = slice_index content (length content - 2) + 256 * slice_index content (length content - 1)

-- the last two octets are the check sequence of those before them
abbrev pub IsIntact : List ℕ → Type 0
IsIntact content = (2 ≤ length content) × (fcs_of (checked_part content) ≡ check_number content)
