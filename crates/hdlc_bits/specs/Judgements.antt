-- Representation: how a verdict on the buffer of the code stands for a verdict; no claim rests on it.
use Rattle.std.specs.Prelude.{ℕ, ◌≤◌, List, slice_index, slice_range}
use Rattle.hdlc_bits.specs.Framing as framing
use Rattle.hdlc_bits.specs.declared.judgement.Judgement.{Judgement}
use Rattle.hdlc_bits.specs.declared.judgement.Judgement.TheVariants.{Frame, Ragged, BadFcs, TooShort, TooLong, Aborted}

-- the verdict that a judgement gives on the octets of a buffer
abbrev pub verdict_of : List ℕ → Judgement → framing.Verdict
verdict_of octets (Frame end) = framing.Frame (slice_index octets 0) (slice_range octets 1 end)
verdict_of octets (Ragged bits) = framing.Ragged bits
verdict_of octets BadFcs = framing.BadFcs
verdict_of octets TooShort = framing.TooShort
verdict_of octets TooLong = framing.TooLong
verdict_of octets Aborted = framing.Aborted

-- the body that a judgement names lies within so many octets
abbrev pub EndsWithin : ℕ → Judgement → Type 0
EndsWithin limit (Frame end) = (1 ≤ end) × (end ≤ limit)
EndsWithin limit (Ragged bits) = Unit {0}
EndsWithin limit BadFcs = Unit {0}
EndsWithin limit TooShort = Unit {0}
EndsWithin limit TooLong = Unit {0}
EndsWithin limit Aborted = Unit {0}
