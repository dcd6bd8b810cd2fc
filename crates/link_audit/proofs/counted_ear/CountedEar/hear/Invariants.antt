-- What is told stays the same.
use Rattle.std.proofs.Common.{ℕ, ◌≡◌, List, ◌++◌, length}
use Rattle.hdlc_frames.specs.Framing.{frames_of}
use Rattle.hdlc_frames.specs.Deframing.{IsKeptOfStream, stream_behind_kept}
use Rattle.link_audit.specs.Counts.{told_behind}
use Rattle.link_audit.proofs.counted_ear.CountedEar.hear.Given as goal

abbrev pub invariant-loop-rest : goal.invariant-loop-rest
invariant-loop-rest l = record {
  told : (more : List ℕ) → told_behind l.fn.self (frames_of (stream_behind_kept l.fn.deframer ++ (l.piece ++ more)))
      ≡ told_behind l.self (frames_of (stream_behind_kept l.deframer ++ (l.rest ++ more)));
  kept : IsKeptOfStream l.deframer;
}

abbrev pub decreases-loop-rest : goal.decreases-loop-rest
decreases-loop-rest l = length l.rest
