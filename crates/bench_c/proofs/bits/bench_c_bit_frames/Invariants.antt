use Rattle.std.proofs.Common.{◌≡◌, ◌-◌, ◌≤◌, take}
use Rattle.hdlc_fcs.specs.FrameCheck.{sent_bits}
use Rattle.hdlc_bits.specs.Framing.{frames_of_bits}
use Rattle.hdlc_bits.specs.Keeping.{kept_of}
use Rattle.bench_c.specs.BitFrameCounts.{frame_count}
use Rattle.bench_c.proofs.bits.bench_c_bit_frames.Given as goal

abbrev pub invariant-loop-at : goal.invariant-loop-at
invariant-loop-at l = record {
  within : l.at ≤ l.bits;
  few : l.count ≤ l.at;
  kept : l.deframer ≡ kept_of (take l.at (sent_bits l.line));
  count : l.count ≡ frame_count (frames_of_bits (take l.at (sent_bits l.line)));
}

abbrev pub decreases-loop-at : goal.decreases-loop-at
decreases-loop-at l = l.bits - l.at
