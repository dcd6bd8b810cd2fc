-- What `bits FILE` prints of a recorded line: one line for each verdict on its frames (ISO/IEC 13239, bit transparency),
-- and how many bits and frames there are (this profile).
use Rattle.std.specs.Prelude.{ℕ, Bool, true, false, List, [], ◌∷◌, ◌++◌, length, flat_map, count_by, codes}
use Rattle.std.specs.Fmt.{decimal}
use Rattle.er_base.specs.Hexadecimal.{hex_of}
use Rattle.er_base.specs.LineTexts.{line_text}
use Rattle.hdlc_fcs.specs.FrameCheck.{sent_bits}
use Rattle.hdlc_bits.specs.Framing.{Verdict, Frame, Ragged, BadFcs, TooShort, TooLong, Aborted, frames_of_bits}

-- the greatest number of octets of a recorded line
abbrev pub most_line_octets : ℕ
most_line_octets = 16777216

-- the words of a verdict's line
abbrev pub verdict_words : Verdict → List (List ℕ)
verdict_words (Frame address body) = codes "frame" ∷ hex_of (address ∷ []) ∷ hex_of body ∷ []
verdict_words (Ragged bits) = codes "ragged" ∷ decimal bits ∷ []
verdict_words BadFcs = codes "badfcs" ∷ []
verdict_words TooShort = codes "short" ∷ []
verdict_words TooLong = codes "long" ∷ []
verdict_words Aborted = codes "aborted" ∷ []

-- one line for each verdict
unfoldable pub verdict_lines : List Verdict → List ℕ
verdict_lines verdicts = flat_map (λ v. line_text (verdict_words v)) verdicts

-- whether a verdict is on a frame
abbrev pub is_frame : Verdict → Bool
is_frame (Frame address body) = true
is_frame (Ragged bits) = false
is_frame BadFcs = false
is_frame TooShort = false
is_frame TooLong = false
is_frame Aborted = false

-- how many of these are frames
unfoldable pub frame_count : List Verdict → ℕ
frame_count verdicts = count_by is_frame verdicts

-- the last line
abbrev pub counts_line : ℕ → ℕ → List ℕ
counts_line bits frames = line_text (codes "bits" ∷ decimal bits ∷ codes "frames" ∷ decimal frames ∷ [])

-- the verdicts on a file's bits
abbrev pub verdicts_in : List ℕ → List Verdict
verdicts_in file = frames_of_bits (sent_bits file)

-- all that is printed of a file
unfoldable pub bits_text : List ℕ → List ℕ
bits_text file = verdict_lines (verdicts_in file) ++ counts_line (length (sent_bits file)) (frame_count (verdicts_in file))
