-- The verdict on the lines that are left is that on all.
use Rattle.std.proofs.Common.{◌≡◌, ◌+◌, ◌≤◌, nat_lt, length}
use Rattle.er_base.specs.Lines.{lines_of}
use Rattle.trace_model.specs.Recordings.{ended_part, check_verdict}
use Rattle.trace_replay.specs.Compared.{verdict_left}
use Rattle.trace_replay.proofs.comparing.verdict_on.Given as goal

abbrev pub invariant-loop-line : goal.invariant-loop-line
invariant-loop-line l = record {
  verdict : verdict_left l.number l.outcomes (lines_of l.rest) (lines_of l.left) (nat_lt (length (ended_part l.file)) (length l.file)) ≡ check_verdict l.file l.printed;
  room : l.number + length l.rest ≤ length l.ended;
  few : l.outcomes ≤ l.number;
}

abbrev pub decreases-loop-line : goal.decreases-loop-line
decreases-loop-line l = length l.rest
