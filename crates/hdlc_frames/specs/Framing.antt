-- The frames of a line under start/stop transmission with octet transparency (ISO/IEC 13239), as a
-- definition on the whole stream of octets. The greatest length and the order of the verdicts are this
-- profile's.
use Rattle.std.specs.Prelude.{ℕ, ◌-◌, Bool, true, false, nat_lt, ◌==◌, List, [], ◌∷◌, length, take, drop, map, filter, bit_xor, if◌then◌else◌}
use Rattle.std.specs.List.{slice_split}
use Rattle.hdlc_fcs.specs.FrameCheck.{fcs_of}
pub use Rattle.hdlc_fcs.specs.Contents.{longest, checked_part, check_number}
use Rattle.hdlc_fcs.specs.Contents.{shortest, address_in_content, body_of}

-- the octet that bounds frames
abbrev pub flag : ℕ
flag = 0x7e

-- the octet that says that the next one is escaped: it stands for itself xor 20
abbrev pub escape : ℕ
escape = 0x7d

-- ---- one piece of the stream

-- what the octets between two flags are found to be
pub data Verdict : Type 0 where
  Frame : (address : ℕ) (body : List ℕ) → Verdict
  BadFcs TooShort TooLong Aborted : Verdict

-- the content for which octets stand; `escaped` says whether an escape stands just before them
unfoldable pub unescaped : List ℕ → Bool → List ℕ
unescaped [] escaped = []
unescaped (x ∷ xs) true = bit_xor x 0x20 ∷ unescaped xs false
unescaped (x ∷ xs) false = if x == escape then unescaped xs true else x ∷ unescaped xs false

-- whether octets end in an escape that no earlier one escapes; `escaped` is as before
unfoldable pub ends_in_escape : List ℕ → Bool → Bool
ends_in_escape [] escaped = escaped
ends_in_escape (x ∷ xs) true = ends_in_escape xs false
ends_in_escape (x ∷ xs) false = ends_in_escape xs (x == escape)

-- the verdict on content: the first of these that fits
unfoldable pub verdict_on_content : List ℕ → Verdict
verdict_on_content content =
    if nat_lt longest (length content) then TooLong else
    if nat_lt (length content) shortest then TooShort else
    if fcs_of (checked_part content) == check_number content
    then Frame (address_in_content content) (body_of content)
    else BadFcs

-- the verdict on a piece between two flags
unfoldable pub verdict_on : List ℕ → Verdict
verdict_on piece = if ends_in_escape piece false then Aborted else verdict_on_content (unescaped piece false)

-- ---- the whole stream

-- the stream cut at every flag: one piece more than it has flags
unfoldable pub cut : List ℕ → List (List ℕ)
cut stream = slice_split (λ octet. octet == flag) stream

-- a list without its last element
unfoldable pub all_but_last : List (List ℕ) → List (List ℕ)
all_but_last pieces = take (length pieces - 1) pieces

-- the pieces between two flags: what stands before the first flag and behind the last is left out
unfoldable pub between_flags : List ℕ → List (List ℕ)
between_flags stream = all_but_last (drop 1 (cut stream))

-- whether anything stands in a piece
abbrev pub has_octets : List ℕ → Bool
has_octets [] = false
has_octets (x ∷ xs) = true

-- what a stream is read as: one verdict for each piece between two flags in which anything stands
unfoldable pub frames_of : List ℕ → List Verdict
frames_of stream = map verdict_on (filter has_octets (between_flags stream))
