-- Messages as the user data of DT TPDUs (ITU-T X.224, 6.3, 6.10 and 6.11): cutting them, joining them, and the
-- number that acknowledges them. That a DT is acknowledged once the user took its message is this profile's.
use Rattle.std.specs.Prelude.{ℕ, ◌-◌, ◌<◌, ◌≤◌, nat_lt, if◌then◌else◌, zero, suc, Bool, true, false, List, [], ◌∷◌, ◌++◌, length, take, drop}

-- the user data of one DT: whether it ends its message (EOT), and its octets
abbrev pub Segment : Type 0
Segment = Bool × List ℕ

-- a message in segments of n octets, the last one shorter; a budget of the message's length is enough
abbrev pub segments_within : ℕ → ℕ → List ℕ → List Segment
segments_within zero n message = (true, message) ∷ []
segments_within (suc budget) n message =
    if nat_lt n (length message) then (false, take n message) ∷ segments_within budget n (drop n message)
    else (true, message) ∷ []

-- a message in the segments that a TPDU of this size can carry: the header of DT has 5 octets
unfoldable pub segments_of : ℕ → List ℕ → List Segment
segments_of size message = segments_within (length message) (size - 5) message

-- the whole messages that segments make up behind the octets of one that was begun
abbrev pub messages_behind : List ℕ → List Segment → List (List ℕ)
messages_behind begun [] = []
messages_behind begun ((true, octets) ∷ segments) = (begun ++ octets) ∷ messages_behind [] segments
messages_behind begun ((false, octets) ∷ segments) = messages_behind (begun ++ octets) segments

-- the whole messages that segments make up
abbrev pub messages_in : List Segment → List (List ℕ)
messages_in segments = messages_behind [] segments

-- the octets behind the last whole message, where octets of one that was begun come first
abbrev pub text_behind : List ℕ → List Segment → List ℕ
text_behind begun [] = begun
text_behind begun ((true, octets) ∷ segments) = text_behind [] segments
text_behind begun ((false, octets) ∷ segments) = text_behind (begun ++ octets) segments

-- the octets of the message that segments have begun and not ended
abbrev pub text_so_far : List Segment → List ℕ
text_so_far segments = text_behind [] segments

-- the number of segments that stand before the last one of the first whole message not yet taken, where this
-- many were taken; all segments, where every whole message was taken
abbrev pub ack_number : ℕ → List Segment → ℕ
ack_number taken [] = 0
ack_number zero ((true, octets) ∷ segments) = 0
ack_number (suc taken) ((true, octets) ∷ segments) = suc (ack_number taken segments)
ack_number taken ((false, octets) ∷ segments) = suc (ack_number taken segments)

-- each segment has an octet at least, and n at most
abbrev pub AllCarried : ℕ → List Segment → Type 0
AllCarried n [] = Unit {0}
AllCarried n ((last, octets) ∷ segments) = (0 < length octets) × (length octets ≤ n) × AllCarried n segments
