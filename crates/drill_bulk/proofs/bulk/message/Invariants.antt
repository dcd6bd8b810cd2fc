use Rattle.std.proofs.Common.{◌≡◌, ℕ, ◌+◌, ◌%◌, map}
use Rattle.std.specs.List.{range_with_len}
use Rattle.drill_bulk.proofs.bulk.message.Given as goal

abbrev pub invariant-loop-place : goal.invariant-loop-place
invariant-loop-place l = l.octets.items ≡ map (λ (j : ℕ). (l.index + j) % 256) (range_with_len 0 l.place)
