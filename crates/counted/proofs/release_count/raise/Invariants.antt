-- What was looked at is raised, and the rest is as it was.
use Rattle.std.proofs.Common.{◌≡◌, ◌++◌, map, take, drop}
use Rattle.counted.specs.Kept.{raised_by}
use Rattle.counted.proofs.release_count.raise.Given as goal

abbrev pub invariant-loop-known : goal.invariant-loop-known
invariant-loop-known l =
    l.kept ≡ map (raised_by l.release) (take l.known-index l.initial.kept) ++ drop l.known-index l.initial.kept
