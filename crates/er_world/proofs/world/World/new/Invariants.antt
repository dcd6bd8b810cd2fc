-- So many places, all empty.
use Rattle.std.specs.Prelude.{◌≡◌, replicate, None}
use Rattle.er_world.proofs.world.World.new.Given as goal

abbrev pub invariant-loop-place : goal.invariant-loop-place
invariant-loop-place l = l.places.items ≡ replicate l._place None
