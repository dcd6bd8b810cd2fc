-- The first that comes twice stands behind the lower count, and not behind the higher one.
use Rattle.std.proofs.Common.{◌≡◌, ◌<◌, ◌≤◌, ◌-◌, true, false, length, take}
use Rattle.key_store.specs.Spans.{are_once}
use Rattle.key_store.proofs.twice.before_twice.Given as goal

abbrev pub invariant-loop-high : goal.invariant-loop-high
invariant-loop-high l = record {
  apart : l.low < l.high;
  fits : l.high ≤ length l.entries;
  once : are_once (take l.low l.entries) ≡ true;
  twice : are_once (take l.high l.entries) ≡ false;
}

abbrev pub decreases-loop-high : goal.decreases-loop-high
decreases-loop-high l = l.high - l.low
