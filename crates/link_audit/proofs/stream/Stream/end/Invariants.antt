-- What is told of all that is left stays the same.
use Rattle.std.proofs.Common.{◌≡◌, ◌++◌, length}
use Rattle.hdlc_frames.specs.Framing.{frames_of}
use Rattle.hdlc_frames.specs.Deframing.{IsKeptOfStream, stream_behind_kept}
use Rattle.tap_model.specs.Lines.{stream_of}
use Rattle.link_audit.specs.Counts.{told_behind}
use Rattle.link_audit.specs.Streams.{told_left}
use Rattle.link_audit.proofs.stream.Stream.end.Given as goal

abbrev pub invariant-loop-piece : goal.invariant-loop-piece
invariant-loop-piece l = record {
  told : told_behind l.ear (frames_of (stream_behind_kept l.deframer ++ stream_of l.link l.side l.lines)) ≡ told_left l.fn.self;
  kept : IsKeptOfStream l.deframer;
}

abbrev pub decreases-loop-piece : goal.decreases-loop-piece
decreases-loop-piece l = length l.lines
