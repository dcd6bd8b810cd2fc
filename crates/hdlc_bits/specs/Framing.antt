-- The frames of a line under synchronous transmission with bit transparency (ISO/IEC 13239): a 0 is inserted
-- behind each five ones of a content, a flag has six ones, an abort more. A definition on the whole line, a list
-- of bits in the order in which they were sent. The greatest and the least length and the order of the verdicts
-- are this profile's.
use Rattle.std.specs.Prelude.{ℕ, zero, suc, ◌-◌, ◌*◌, ◌/◌, ◌%◌, Bool, true, false, nat_lt, not, ◌==◌, List, [], ◌∷◌, ◌++◌, length, take, drop, map, flat_map}
use Rattle.std.specs.Prelude.{replicate, Option, None, Some, option_map, if◌then◌else◌}
use Rattle.std.specs.List.{slice_split}
use Rattle.std.specs.Option.{option_to_list}
use Rattle.bit_lists.specs.LowestFirst.{low_number}
use Rattle.hdlc_fcs.specs.FrameCheck.{fcs_of}
use Rattle.hdlc_fcs.specs.Contents.{shortest, longest, address_in_content, body_of, checked_part, check_number}

-- ---- runs of ones

-- a list without its last element
unfoldable pub all_but_last : List ℕ → List ℕ
all_but_last xs = take (length xs - 1) xs

-- the line cut at every 0: the lengths of the pieces, one more than it has zeros
unfoldable pub lengths : List ℕ → List ℕ
lengths bits = map length (slice_split (λ bit. bit == 0) bits)

-- the numbers of ones before each 0; ones behind the last 0 are left out
unfoldable pub runs : List ℕ → List ℕ
runs bits = all_but_last (lengths bits)

-- six ones are a flag
abbrev pub is_flag : ℕ → Bool
is_flag c = c == 6

-- more than six are an abort
abbrev pub is_abort : ℕ → Bool
is_abort c = nat_lt 6 c

-- a flag or an abort, which bounds segments
abbrev pub is_bound : ℕ → Bool
is_bound c = nat_lt 5 c

-- ---- segments

-- what stands between a flag and the next flag or abort
pub record BitLineSegment : Type 0 where
  -- the numbers of ones of what stands between them
  pub elements : List ℕ
  -- the flag or abort that ends it
  pub right : ℕ

-- one element put before a segment
abbrev pub with_first : ℕ → BitLineSegment → BitLineSegment
with_first c s = record s { elements = c ∷ s.elements }

-- the segment up to the next flag or abort, if one follows
unfoldable pub first_segment : List ℕ → Option BitLineSegment
first_segment [] = None
first_segment (c ∷ cs) = if is_bound c then Some (record { elements = []; right = c }) else option_map (with_first c) (first_segment cs)

-- a segment for each flag that another flag or an abort follows
unfoldable pub segments_between_flags : List ℕ → List BitLineSegment
segments_between_flags [] = []
segments_between_flags (c ∷ cs) = if is_flag c then option_to_list (first_segment cs) ++ segments_between_flags cs else segments_between_flags cs

-- whether the 0 behind an element is a bit of the content: behind five ones it was inserted and is deleted
abbrev pub has_zero : ℕ → Bool
has_zero c = not (c == 5)

-- a 0, or none
abbrev pub zero_if : Bool → List ℕ
zero_if b = if b then 0 ∷ [] else []

-- the bits of a segment: each element is so many ones and a 0; the last one's 0 belongs to the flag behind it
unfoldable pub segment_bits : List ℕ → List ℕ
segment_bits [] = []
segment_bits (c ∷ []) = replicate c 1
segment_bits (c ∷ d ∷ cs) = replicate c 1 ++ zero_if (has_zero c) ++ segment_bits (d ∷ cs)

-- ---- verdicts

-- what a segment is found to be
pub data Verdict : Type 0 where
  Frame : (address : ℕ) (body : List ℕ) → Verdict
  Ragged : (bits : ℕ) → Verdict
  BadFcs TooShort TooLong Aborted : Verdict

-- so many octets, of eight bits each, the lowest first
unfoldable pub octets_from : ℕ → List ℕ → List ℕ
octets_from zero bits = []
octets_from (suc n) bits = low_number (take 8 bits) ∷ octets_from n (drop 8 bits)

-- the octets of which these are the bits
unfoldable pub octets_of_bits : List ℕ → List ℕ
octets_of_bits bits = octets_from (length bits / 8) bits

-- the verdict on a content of whole octets
unfoldable pub verdict_by_frame_check_sequence : List ℕ → Verdict
verdict_by_frame_check_sequence content =
    if fcs_of (checked_part content) == check_number content
    then Frame (address_in_content content) (body_of content)
    else BadFcs

-- the verdict on the bits between two flags: the first of these that fits
unfoldable pub verdict_on_bits : List ℕ → Verdict
verdict_on_bits bits =
    if nat_lt (8 * longest) (length bits) then TooLong else
    if nat_lt 0 (length bits % 8) then Ragged (length bits) else
    if nat_lt (length bits) (8 * shortest) then TooShort else
    verdict_by_frame_check_sequence (octets_of_bits bits)

-- whether there are bits
abbrev pub has_bits : List ℕ → Bool
has_bits [] = false
has_bits (b ∷ bs) = true

-- the verdict on bits that an abort or a flag ends, if there are any
abbrev pub verdict_at_end : ℕ → List ℕ → Option Verdict
verdict_at_end right bits = if has_bits bits then Some (if is_abort right then Aborted else verdict_on_bits bits) else None

-- the verdict on a segment, if it has bits
unfoldable pub verdict_on_segment : BitLineSegment → Option Verdict
verdict_on_segment s = verdict_at_end s.right (segment_bits s.elements)

-- what a line is read as: the verdicts on its segments
unfoldable pub frames_of_bits : List ℕ → List Verdict
frames_of_bits bits = flat_map (λ s. option_to_list (verdict_on_segment s)) (segments_between_flags (runs bits))
