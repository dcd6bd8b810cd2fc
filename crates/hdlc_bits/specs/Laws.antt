-- The public laws on frames of bits: what holds of every line and every list of pieces of it. Each is proved as a
-- function of the module `laws`.
use Rattle.std.specs.Prelude.{◌≡◌, ℕ, ◌+◌, ◌*◌, ◌<◌, ◌≤◌, List, [], ◌∷◌, ◌++◌, length, take, map, flat_map, slice_index, Option, IsNone}
use Rattle.std.specs.Option.{option_to_list}
use Rattle.hdlc_fcs.specs.FrameCheck.{sent_bits}
use Rattle.hdlc_bits.specs.Framing.{Verdict, Frame, frames_of_bits}
use Rattle.hdlc_bits.specs.Stuffing.{spelling_in_bits}
use Rattle.hdlc_bits.specs.Keeping.{KeptBitDeframer, kept_of, kept_after, IsKeptOfLine}
use Rattle.hdlc_bits.specs.Pieces.{bits_between, AddsToFrames, FewerAddNothing}

-- ---- pieces fed one after another

-- one call of `feed`: the bits that it was given, how many it used, and its verdict
pub record FeedCall : Type 0 where
  pub bits : List ℕ
  pub used : ℕ
  pub verdict : Option Verdict

-- the bits that a call used
abbrev pub bits_used_by_call : FeedCall → List ℕ
bits_used_by_call call = take call.used call.bits

-- the contract of `feed`: a deframer that keeps `before` answers this, and then keeps `behind`
pub record MeetsFeedContract (before : KeptBitDeframer) (call : FeedCall) (behind : KeptBitDeframer) : Type 0 where
  pub frames : AddsToFrames before call.bits call.used call.verdict
  pub first : FewerAddNothing before call.bits call.used
  pub whole : IsNone call.verdict → call.used ≡ length call.bits
  pub kept : behind ≡ kept_after before (bits_used_by_call call)

-- calls one after another
abbrev pub AreFeedCalls : KeptBitDeframer → List FeedCall → KeptBitDeframer → Type 0
AreFeedCalls before [] behind = behind ≡ before
AreFeedCalls before (call ∷ calls) behind = (next : KeptBitDeframer) × (MeetsFeedContract before call next × AreFeedCalls next calls behind)

-- the bits that calls used
abbrev pub bits_used_by_calls : List FeedCall → List ℕ
bits_used_by_calls calls = flat_map bits_used_by_call calls

-- the verdicts that they gave
abbrev pub verdicts_of : List FeedCall → List Verdict
verdicts_of calls = flat_map (λ call. option_to_list call.verdict) calls

-- behind any line, the verdicts over any list of pieces are what the bits used add to its frames
abbrev pub VerdictsAreFrames : Type 0
VerdictsAreFrames =
    (line : List ℕ) (calls : List FeedCall) (behind : KeptBitDeframer) → AreFeedCalls (kept_of line) calls behind
    → (frames_of_bits (line ++ bits_used_by_calls calls) ≡ frames_of_bits line ++ verdicts_of calls) × (behind ≡ kept_of (line ++ bits_used_by_calls calls))

-- from the first bit on they are the frames of the bits used
abbrev pub VerdictsFromTheFirst : Type 0
VerdictsFromTheFirst = (calls : List FeedCall) (behind : KeptBitDeframer) → AreFeedCalls (kept_of []) calls behind
    → verdicts_of calls ≡ frames_of_bits (bits_used_by_calls calls)

-- whatever a deframer keeps, two lists of pieces of which the same bits were used give the same verdicts and leave
-- the same
abbrev pub SameBitsSameVerdicts : Type 0
SameBitsSameVerdicts =
    (before : KeptBitDeframer) → IsKeptOfLine before → (calls others : List FeedCall) (behind other : KeptBitDeframer) → AreFeedCalls before calls behind
    → AreFeedCalls before others other
    → bits_used_by_calls calls ≡ bits_used_by_calls others → (verdicts_of calls ≡ verdicts_of others) × (behind ≡ other)

-- what is kept of a line and bits behind it
abbrev pub KeptGoesOn : Type 0
KeptGoesOn = (line bits : List ℕ) → kept_of (line ++ bits) ≡ kept_after (kept_of line) bits

-- where a deframer has read the bits of octets before a place, a call from there on adds its verdict to their frames,
-- and it has then read the bits that were used too
abbrev pub ReadingGoesOn : Type 0
ReadingGoesOn =
    (octets : List ℕ) (at end used : ℕ) (before behind : KeptBitDeframer) (verdict : Option Verdict)
    → before ≡ kept_of (take at (sent_bits octets)) → at + used ≤ end
    → AddsToFrames before (bits_between octets at end) used verdict → behind ≡ kept_after before (take used (bits_between octets at end))
    → (frames_of_bits (take (at + used) (sent_bits octets)) ≡ frames_of_bits (take at (sent_bits octets)) ++ option_to_list verdict)
    × (behind ≡ kept_of (take (at + used) (sent_bits octets)))

-- no bits, no frames
abbrev pub NothingIsRead : Type 0
NothingIsRead = frames_of_bits [] ≡ []

-- what a line is read as begins with what its beginning is read as
pub record KeepsFramesOfBeginning (line more : List ℕ) : Type 0 where
  pub rest : List Verdict
  pub is : frames_of_bits (line ++ more) ≡ frames_of_bits line ++ rest

abbrev pub FramesGrow : Type 0
FramesGrow = (line more : List ℕ) → KeepsFramesOfBeginning line more

-- ---- frames written and read

-- an address and a body that a frame can have
abbrev pub IsWritableFrame : ℕ × List ℕ → Type 0
IsWritableFrame frame = (frame.0 < 256) × (((k : ℕ) → slice_index frame.1 k < 256) × ((1 ≤ length frame.1) × (length frame.1 ≤ 1029)))

-- each of these frames can be written
abbrev pub AreWritable : List (ℕ × List ℕ) → Type 0
AreWritable [] = Unit {0}
AreWritable (frame ∷ frames) = IsWritableFrame frame × AreWritable frames

-- what was written as frames, one behind another, is read as these frames
abbrev pub WrittenAreRead : Type 0
WrittenAreRead =
    (frames : List (ℕ × List ℕ)) → AreWritable frames
    → frames_of_bits (flat_map (λ frame. spelling_in_bits frame.0 frame.1) frames) ≡ map (λ frame. Frame frame.0 frame.1) frames

-- and one alone is this one frame
abbrev pub FrameAlone : Type 0
FrameAlone = (address : ℕ) (body : List ℕ) → IsWritableFrame (address, body) → frames_of_bits (spelling_in_bits address body) ≡ Frame address body ∷ []

-- how long a written frame is at most: two flags, and six bits for five of the content
abbrev pub FrameLength : Type 0
FrameLength = (address : ℕ) (body : List ℕ) → 5 * length (spelling_in_bits address body) ≤ 48 * length body + 224
