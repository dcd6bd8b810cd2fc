-- Representation: what a segment of the code keeps; no claim rests on it.
use Rattle.hdlc_bits.specs.Keeping.{KeptBitDeframer}
use Rattle.hdlc_bits.specs.Buffers.{kept_by_bit_segment}
use Rattle.hdlc_bits.specs.declared.segment.Segment.{Segment}

abbrev pub kept_in : Segment → KeptBitDeframer
kept_in s = kept_by_bit_segment s.ones s.begun s.gap s.len s.last s.octets
