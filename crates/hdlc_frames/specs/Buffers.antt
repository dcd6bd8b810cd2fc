-- Representation: how the buffer of the code stands for what is kept; no claim rests on it.
use Rattle.std.specs.Prelude.{take}
use Rattle.hdlc_frames.specs.Deframing.{KeptDeframer}
use Rattle.hdlc_frames.specs.declared.buffer.Buffer.{Buffer}

-- what a buffer keeps
abbrev pub kept_by : Buffer → KeptDeframer
kept_by buffer = record { begun = buffer.begun; escaping = buffer.escaping; content = take buffer.len buffer.octets }
