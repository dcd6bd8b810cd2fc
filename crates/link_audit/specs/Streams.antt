-- Representation: what is left to be heard of a stream; no claim rests on it.
use Rattle.std.specs.Prelude.{ℕ, Bool, true, false, List, [], ◌∷◌, ◌++◌}
use Rattle.hdlc_frames.specs.Framing.{Verdict, frames_of}
use Rattle.hdlc_frames.specs.Deframing as deframing
use Rattle.er_tap.specs.declared.tap_line.TapLine.{TapLine}
use Rattle.tap_model.specs.Lines as lines
use Rattle.link_audit.specs.declared.told.Told.{Told}
use Rattle.link_audit.specs.Counts.{KCountedEar, items_behind, told_behind}

-- the lines that are left, the octets that are left of a piece, and what was heard so far
pub record KStream : Type 0 where
  pub lines : List TapLine
  pub piece : List ℕ
  pub link : ℕ
  pub kept : deframing.KeptDeframer
  pub ear : KCountedEar

-- the octets that are left
abbrev pub octets_left : KStream → List ℕ
octets_left s = s.piece ++ lines.stream_of s.link s.ear.ear.side s.lines

-- the verdicts that are left
abbrev pub verdicts_left : KStream → List Verdict
verdicts_left s = frames_of (deframing.stream_behind_kept s.kept ++ octets_left s)

-- the items that are left
unfoldable pub items_left : KStream → List (List ℕ)
items_left s = items_behind s.ear (verdicts_left s)

-- what is told of the stream in the end
unfoldable pub told_left : KStream → Told
told_left s = told_behind s.ear (verdicts_left s)

-- the items with the one that was heard last, where it counts still
unfoldable pub pending : (has_item : Bool) → KStream → List (List ℕ)
pending true s = s.ear.ear.text ∷ items_left s
pending false s = []

-- the items of a side from one on, and what is told of the side in the end
pub record KItems : Type 0 where
  pub left : List (List ℕ)
  pub told : Told
