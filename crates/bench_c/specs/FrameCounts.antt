-- How many frames a stream has (ISO/IEC 13239): its verdicts that are on frames.
use Rattle.std.specs.Prelude.{ℕ, Bool, true, false, List, count_by, Option, None, Some, if◌then◌else◌}
use Rattle.hdlc_frames.specs.Framing.{Verdict, Frame, BadFcs, TooShort, TooLong, Aborted}

-- whether a verdict is on a frame
abbrev pub is_frame : Verdict → Bool
is_frame (Frame address body) = true
is_frame BadFcs = false
is_frame TooShort = false
is_frame TooLong = false
is_frame Aborted = false

-- how many verdicts are
unfoldable pub frame_count : List Verdict → ℕ
frame_count verdicts = count_by is_frame verdicts

-- how many frames one call found
abbrev pub found_count : Option Verdict → ℕ
found_count None = 0
found_count (Some v) = if is_frame v then 1 else 0
