-- Where nothing waits of those that were asked and those that are left, nothing waits of any.
use Rattle.std.proofs.Common.{◌≡◌, None}
use Rattle.std.specs.VecDeque.Iter.{deque_iter_rest}
use Rattle.relay_loop.specs.Rings.{AllIdle}
use Rattle.relay_loop.proofs.live_relay.LiveRelay.until.Given as goal

abbrev pub invariant-loop-link : goal.invariant-loop-link
invariant-loop-link l = l.first ≡ None → AllIdle (deque_iter_rest l.link-iterator) → AllIdle l.self.links.items
