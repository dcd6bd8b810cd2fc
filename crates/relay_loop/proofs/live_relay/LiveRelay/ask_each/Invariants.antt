-- So many were asked.
use Rattle.std.proofs.Common.{◌≡◌, ℕ, List}
use Rattle.relay_loop.specs.Rings.{GoesWithin}
use Rattle.relay_loop.proofs.live_relay.LiveRelay.ask_each.Given as goal

abbrev pub invariant-loop : goal.invariant-loop
invariant-loop g l = record {
  accepted : l.self.accepted ≡ l.fn.self.accepted;
  goes : (dial : List ℕ)
      → GoesWithin l.script dial l.fn.self.links.items l.self.links.items l.fn.self.workspace.lines.items l.self.workspace.lines.items (g.O.Outside.told l.fn.outside)
      (g.O.Outside.told l.outside);
}
