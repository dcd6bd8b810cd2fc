use Rattle.std.proofs.Common.{◌≡◌, ◌-◌, true, false, length}
use Rattle.hdlc_frames.specs.Buffers.{kept_by}
use Rattle.hdlc_frames.specs.Scanning.{Advances}
use Rattle.hdlc_frames.proofs.buffer.Buffer.take_content.Given as goal

abbrev pub invariant-loop-at : goal.invariant-loop-at
invariant-loop-at l = record {
  goes : Advances (kept_by l.fn.self) l.rest l.at (kept_by l.self);
  begun : l.self.begun ≡ true;
  shut : l.self.escaping ≡ false;
}

abbrev pub decreases-loop-at : goal.decreases-loop-at
decreases-loop-at l = length l.rest - l.at
