use Rattle.std.proofs.Common.{◌≡◌, ◌≤◌, length}
use Rattle.hdlc_frames.proofs.WritingLaws.{Left}
use Rattle.hdlc_frames.proofs.writing.put_escaped.Given as goal

abbrev pub invariant-loop-rest : goal.invariant-loop-rest
invariant-loop-rest l = record {
  items : Left l.out.items l.rest l.fn.out.items l.content;
  capacity : l.out.capacity ≡ l.fn.out.capacity;
  shorter : length l.rest ≤ length l.content;
}

abbrev pub decreases-loop-rest : goal.decreases-loop-rest
decreases-loop-rest l = length l.rest
