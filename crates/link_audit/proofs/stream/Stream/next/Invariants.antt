-- What is left, and what is told in the end, stay what they were.
use Rattle.std.proofs.Common.{◌≡◌, ◌+◌, length}
use Rattle.link_audit.specs.Streams.{items_left, told_left, octets_left}
use Rattle.link_audit.proofs.stream.Stream.next.Given as goal

abbrev pub invariant-loop-self : goal.invariant-loop-self
invariant-loop-self l = record { left : items_left l.self ≡ items_left l.fn.self; told : told_left l.self ≡ told_left l.fn.self }

abbrev pub decreases-loop-self : goal.decreases-loop-self
decreases-loop-self l = length (octets_left l.self) + length l.self.lines
