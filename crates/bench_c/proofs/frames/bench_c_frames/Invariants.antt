use Rattle.std.proofs.Common.{◌≡◌, ◌-◌, ◌≤◌, length, take}
use Rattle.hdlc_frames.specs.Framing.{frames_of}
use Rattle.hdlc_frames.specs.Deframing.{kept_of}
use Rattle.bench_c.specs.FrameCounts.{frame_count}
use Rattle.bench_c.proofs.frames.bench_c_frames.Given as goal

abbrev pub invariant-loop-at : goal.invariant-loop-at
invariant-loop-at l = record {
  within : l.at ≤ length l.stream;
  few : l.count ≤ l.at;
  kept : l.deframer ≡ kept_of (take l.at l.stream);
  count : l.count ≡ frame_count (frames_of (take l.at l.stream));
}

abbrev pub decreases-loop-at : goal.decreases-loop-at
decreases-loop-at l = length l.stream - l.at
