-- No count that was looked at is of this release.
use Rattle.std.proofs.Common.{◌≡◌, false, take}
use Rattle.counted.specs.Kept.{is_kept}
use Rattle.counted.proofs.release_count.has.Given as goal

abbrev pub invariant-loop-known : goal.invariant-loop-known
invariant-loop-known l = is_kept l.release (take l.known-index l.kept) ≡ false
