-- Contract: how many octets of a piece a call uses: those up to the flag that closes the first frame (ISO/IEC 13239).
use Rattle.std.specs.Prelude.{ℕ, ◌≡◌, ◌<◌, ◌≤◌, List, ◌++◌, length, take, Option, Some, None}
use Rattle.er_base.specs.declared.release.Release.{Release}
use Rattle.hdlc_frames.specs.Framing.{frames_of}
use Rattle.er_end_model.specs.Ends.{End}
use Rattle.er_end_c.specs.Calls.{HandleCall, Start, Octets, Send, Take, Release as ReleaseCall, Tick, Ended, Fault, Stalled}

-- of a piece that comes behind these octets of the line. (A call that took a piece whole, whatever stands behind its first frame, would have
-- more than one event: `first` is false of it.) Fewer than the octets used close no frame; and where some are left, those that are
-- used close one
pub record UsesToFirstFrame (before piece : List ℕ) (used : ℕ) : Type 0 where
  pub within : used ≤ length piece
  pub first : (n : ℕ) → n < used → frames_of (before ++ take n piece) ≡ frames_of before
  pub closes : used < length piece → frames_of (before ++ take used piece) ≡ frames_of before → ⊥

-- an end that was released uses all
abbrev pub UsesOfPiece : Option Release → (before piece : List ℕ) → (used : ℕ) → Type 0
UsesOfPiece None before piece used = UsesToFirstFrame before piece used
UsesOfPiece (Some why) before piece used = used ≡ length piece

-- a call at an end of the model; but for one that brings octets a call uses none
abbrev pub UsesOctets : HandleCall → End → (used : ℕ) → Type 0
UsesOctets (Start now) m used = used ≡ 0
UsesOctets (Octets now piece) m used = UsesOfPiece m.core.released m.stream piece used
UsesOctets (Send now text) m used = used ≡ 0
UsesOctets (Take now) m used = used ≡ 0
UsesOctets (ReleaseCall now sub) m used = used ≡ 0
UsesOctets (Tick now) m used = used ≡ 0
UsesOctets Ended m used = used ≡ 0
UsesOctets Fault m used = used ≡ 0
UsesOctets Stalled m used = used ≡ 0
