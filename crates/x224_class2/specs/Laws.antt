-- What follows from the definitions of segments alone, for whoever rests on them.
use Rattle.std.specs.Prelude.{ℕ, ◌≡◌, ◌+◌, ◌-◌, ◌/◌, ◌<◌, ◌≤◌, List, [], ◌∷◌, ◌++◌, length}
use Rattle.x224_class2.specs.Segments.{Segment, segments_of, messages_behind, messages_in, text_behind, text_so_far, ack_number, AllCarried}

-- a message that is cut is joined to itself, and leaves nothing begun
abbrev pub CutIsJoined : Type 0
CutIsJoined = (size : ℕ) (message : List ℕ) → (messages_in (segments_of size message) ≡ message ∷ []) × (text_so_far (segments_of size message) ≡ [])

-- more segments make more messages
abbrev pub JoinsInParts : Type 0
JoinsInParts =
    (begun : List ℕ) (xs ys : List Segment)
    → (messages_behind begun (xs ++ ys) ≡ messages_behind begun xs ++ messages_behind (text_behind begun xs) ys)
    × (text_behind begun (xs ++ ys) ≡ text_behind (text_behind begun xs) ys)

-- a segment has an octet at least, and fits a TPDU of the size
abbrev pub SegmentsFit : Type 0
SegmentsFit = (size : ℕ) (message : List ℕ) → 6 ≤ size → 0 < length message → AllCarried (size - 5) (segments_of size message)

-- a message has as many segments as it needs
abbrev pub SegmentsAreFew : Type 0
SegmentsAreFew = (size : ℕ) (message : List ℕ) → 6 ≤ size → 0 < length message → length (segments_of size message) ≡ (length message + (size - 6)) / (size - 5)

-- no more is acknowledged than was received, and all once every message was taken; taking a message takes no
-- acknowledgement back
abbrev pub AcknowledgesAtMost : Type 0
AcknowledgesAtMost = (taken : ℕ) (segments : List Segment) → ack_number taken segments ≤ length segments

abbrev pub AcknowledgesAll : Type 0
AcknowledgesAll = (taken : ℕ) (segments : List Segment) → length (messages_in segments) ≤ taken → ack_number taken segments ≡ length segments

abbrev pub TakingRises : Type 0
TakingRises = (taken : ℕ) (segments : List Segment) → ack_number taken segments ≤ ack_number (taken + 1) segments

abbrev pub ReceivingRises : Type 0
ReceivingRises = (taken : ℕ) (segments : List Segment) (segment : Segment) → ack_number taken segments ≤ ack_number taken (segments ++ segment ∷ [])
