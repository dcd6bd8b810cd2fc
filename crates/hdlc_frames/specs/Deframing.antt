-- What a deframer keeps of a stream that comes in pieces, and what feeding it a piece gives: both by the frames
-- of the whole stream.
use Rattle.std.specs.Prelude.{◌≡◌, ℕ, ◌+◌, ◌<◌, Bool, true, false, List, [], ◌∷◌, ◌++◌, take, drop, slice_get, Option, None, Some, if◌then◌else◌}
use Rattle.std.specs.List.{last_or}
use Rattle.std.specs.Option.{option_to_list}
use Rattle.hdlc_frames.specs.Framing.{flag, escape, Verdict, unescaped, ends_in_escape, cut, frames_of}
use Rattle.hdlc_frames.specs.Spelling.{escaped}

-- ---- what is kept

-- what a deframer keeps of the octets since the newest flag
pub record KeptDeframer : Type 0 where
  -- whether a flag came
  pub begun : Bool
  -- whether the newest octet is an escape that no earlier one escapes
  pub escaping : Bool
  -- the content so far; of content that is too long, one octet more than the greatest length
  pub content : List ℕ

-- the octets behind the newest flag of a stream, if it has a flag
unfoldable pub open_piece : List ℕ → Option (List ℕ)
open_piece stream = last_or None (drop 1 (cut stream))

-- what is kept of the octets behind the newest flag
unfoldable pub kept_since : Option (List ℕ) → KeptDeframer
kept_since None = record { begun = false; escaping = false; content = [] }
kept_since (Some piece) = record { begun = true; escaping = ends_in_escape piece false; content = take 1033 (unescaped piece false) }

-- what is kept of a stream
unfoldable pub kept_of : List ℕ → KeptDeframer
kept_of stream = kept_since (open_piece stream)

-- what is kept of a stream that ends in a flag
abbrev pub after_flag : KeptDeframer
after_flag = record { begun = true; escaping = false; content = [] }

-- a stream of which this is kept, with no frame in it
unfoldable pub stream_behind_kept : KeptDeframer → List ℕ
stream_behind_kept k = if k.begun then flag ∷ escaped k.content ++ (if k.escaping then escape ∷ [] else []) else []

-- this is kept of some stream: a deframer never keeps anything else
abbrev pub IsKeptOfStream : KeptDeframer → Type 0
IsKeptOfStream k = kept_of (stream_behind_kept k) ≡ k

-- ---- one call

-- what feeding a piece gives: how many of its octets are used, up to and with the first flag that closes
-- a frame, the verdict on that frame if there is one, and what is kept then
pub record Feeding : Type 0 where
  pub used : ℕ
  pub verdict : Option Verdict
  pub kept : KeptDeframer

-- whether there is a verdict
abbrev pub has_verdicts : List Verdict → Bool
has_verdicts [] = false
has_verdicts (v ∷ vs) = true

-- of octets that come behind a stream with no frame in it: how many there are up to and with the first that
-- closes a frame, or all
unfoldable pub used_behind : List ℕ → List ℕ → ℕ
used_behind stream [] = 0
used_behind stream (x ∷ xs) =
    if has_verdicts (frames_of (stream ++ x ∷ [])) then 1 else used_behind (stream ++ x ∷ []) xs + 1

-- feeding a piece to a deframer that keeps k
unfoldable pub feeding_of : KeptDeframer → List ℕ → Feeding
feeding_of k piece = record {
  used = used_behind (stream_behind_kept k) piece;
  verdict = slice_get (frames_of (stream_behind_kept k ++ piece)) 0;
  kept = kept_of (stream_behind_kept k ++ take (used_behind (stream_behind_kept k) piece) piece);
}

-- ---- one call behind any stream

-- the octets that a call uses add its verdict, or nothing, to the frames of each stream of which this is kept
abbrev pub AddsToFrames : KeptDeframer → List ℕ → ℕ → Option Verdict → Type 0
AddsToFrames kept piece used verdict =
    (stream : List ℕ) → kept ≡ kept_of stream → frames_of (stream ++ take used piece) ≡ frames_of stream ++ option_to_list verdict

-- fewer octets add nothing
abbrev pub FewerAddNothing : KeptDeframer → List ℕ → ℕ → Type 0
FewerAddNothing kept piece used =
    (stream : List ℕ) → kept ≡ kept_of stream → (k : ℕ) → k < used → frames_of (stream ++ take k piece) ≡ frames_of stream
