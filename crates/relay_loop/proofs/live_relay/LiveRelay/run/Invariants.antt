-- So many turns were done.
use Rattle.std.specs.Prelude.{ℕ, ◌≤◌, List}
use Rattle.outside.specs.Doings.{Told}
use Rattle.relay_loop.specs.Rings.{RanSoFar}
use Rattle.relay_loop.proofs.live_relay.LiveRelay.run.Given as goal

abbrev pub invariant-loop : goal.invariant-loop
invariant-loop g l = record {
  few : l.self.accepted ≤ l.counter;
  ran : (first : Told) (listen : List ℕ)
      → RanSoFar listen 0 l.script l.dial first (g.O.Outside.told l.fn.outside) l.fn.self.accepted l.fn.self.workspace.lines.items l.fn.self.links.items
      → RanSoFar listen l.counter l.script l.dial first (g.O.Outside.told l.outside) l.self.accepted l.self.workspace.lines.items l.self.links.items;
}
