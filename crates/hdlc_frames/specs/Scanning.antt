-- Representation: how the code goes through a piece, octet by octet; no claim rests on it.
use Rattle.std.specs.Prelude.{◌≡◌, ◌≢◌, ℕ, ◌+◌, ◌<◌, ◌≤◌, true, false, ◌==◌, List, [], ◌∷◌, ◌++◌, length, take, drop, slice_index, Option, None, Some, bit_xor}
use Rattle.std.specs.Prelude.{if◌then◌else◌}
use Rattle.hdlc_frames.specs.Framing.{flag, escape, Verdict, Aborted, verdict_on_content, has_octets}
use Rattle.hdlc_frames.specs.Deframing.{KeptDeframer, after_flag, Feeding}

-- content with one octet more, as far as it is kept
abbrev pub kept_content : List ℕ → ℕ → List ℕ
kept_content content x = take 1033 (content ++ x ∷ [])

-- what is kept after one octet that is no flag
abbrev pub after_inner : KeptDeframer → ℕ → KeptDeframer
after_inner k x =
    if k.escaping then record k { escaping = false; content = kept_content k.content (bit_xor x 0x20) } else
    if x == escape then record k { escaping = true } else
    record k { content = kept_content k.content x }

-- what is kept after one octet
abbrev pub after_octet : KeptDeframer → ℕ → KeptDeframer
after_octet k x = if x == flag then after_flag else if k.begun then after_inner k x else k

-- the verdict on what is kept when a flag comes, if anything is kept
abbrev pub closing_verdict : KeptDeframer → Option Verdict
closing_verdict k =
    if k.escaping then Some Aborted else
    if has_octets k.content then Some (verdict_on_content k.content) else None

-- the verdict that one octet brings, if it closes a frame
abbrev pub verdict_at : KeptDeframer → ℕ → Option Verdict
verdict_at k x = if x == flag then closing_verdict k else None

-- one octet in front of what a piece gives
abbrev pub feeding_with_octet_before : Feeding → Feeding
feeding_with_octet_before f = record f { used = f.used + 1 }

-- an octet that closes a frame ends the call; else the octets behind it follow
abbrev pub octet_scan : KeptDeframer → Option Verdict → Feeding → Feeding
octet_scan k None rest = feeding_with_octet_before rest
octet_scan k (Some v) rest = record { used = 1; verdict = Some v; kept = k }

-- going through a piece where k is kept
abbrev pub scan_of : KeptDeframer → List ℕ → Feeding
scan_of k [] = record { used = 0; verdict = None; kept = k }
scan_of k (x ∷ xs) = octet_scan (after_octet k x) (verdict_at k x) (scan_of (after_octet k x) xs)

-- going through the first n octets of a piece closes nothing, and leads from what is kept to what is kept then
pub record Advances (k : KeptDeframer) (piece : List ℕ) (n : ℕ) (next : KeptDeframer) : Type 0 where
  pub within : n ≤ length piece
  pub used : (scan_of next (drop n piece)).used + n ≡ (scan_of k piece).used
  pub verdict : (scan_of next (drop n piece)).verdict ≡ (scan_of k piece).verdict
  pub kept : (scan_of next (drop n piece)).kept ≡ (scan_of k piece).kept

-- none of the first n octets is a flag
abbrev pub NoFlagBefore : List ℕ → ℕ → Type 0
NoFlagBefore octets n = (k : ℕ) → k < n → slice_index octets k ≢ flag

-- none of the first n octets is a flag or an escape
abbrev pub PlainBefore : List ℕ → ℕ → Type 0
PlainBefore octets n = (k : ℕ) → k < n → (slice_index octets k ≢ flag) × (slice_index octets k ≢ escape)

-- what an escape before this place escapes: the octet there, if it is no flag
abbrev pub EscapesAt : List ℕ → ℕ → Option ℕ → Type 0
EscapesAt octets place None = Unit {0}
EscapesAt octets place (Some octet) = (place < length octets) × ((slice_index octets place ≡ octet) × (octet ≢ flag))
