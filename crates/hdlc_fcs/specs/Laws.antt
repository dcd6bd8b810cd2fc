-- The public laws on the check sequence and on contents. Each is proved as a function of the module `laws`.
use Rattle.std.specs.Prelude.{◌≡◌, ◌↔◌, ℕ, ◌+◌, ◌^◌, ◌<◌, ◌≤◌, List, length, slice_index}
use Rattle.hdlc_fcs.specs.FrameCheck.{fcs_of}
use Rattle.hdlc_fcs.specs.Contents.{content_of, address_in_content, body_of, IsIntact}

-- a check sequence has sixteen bits
abbrev pub FcsIsSmall : Type 0
FcsIsSmall = (octets : List ℕ) → fcs_of octets < 2 ^ 16

-- the check sequence over content with its check sequence is this number, and that of no other content
abbrev pub ResidueTellsIntact : Type 0
ResidueTellsIntact =
    (content : List ℕ) → 2 ≤ length content → ((k : ℕ) → slice_index content k < 256)
    → (fcs_of content ≡ 0x0f47) ↔ IsIntact content

-- content that was written is intact, and has its address and its body
abbrev pub ContentReadsBack : Type 0
ContentReadsBack =
    (address : ℕ) (body : List ℕ)
    → (IsIntact (content_of address body) × (address_in_content (content_of address body) ≡ address))
    × ((body_of (content_of address body) ≡ body) × (length (content_of address body) ≡ length body + 3))
