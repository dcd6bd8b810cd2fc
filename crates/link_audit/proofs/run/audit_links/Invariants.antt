-- What is left leads to the end of all.
use Rattle.std.proofs.Common.{◌≡◌, ◌≤◌, ◌-◌, ◌++◌}
use Rattle.safety_automaton.specs.Keys.{key_at}
use Rattle.link_audit.specs.Openings.{links_opened, ends_opened}
use Rattle.link_audit.specs.Writes.{LeadsToSameWriting}
use Rattle.link_audit.proofs.run.audit_links.Given as goal

abbrev pub invariant-loop-link : goal.invariant-loop-link
invariant-loop-link g l = record {
  leads : LeadsToSameWriting (g.O.Outside.told l.fn.outside) (links_opened l.ends (key_at (g.K.KeyFinder.entries l.keys)) l.lines l.openings 1 64) (g.O.Outside.told l.outside)
      (links_opened l.ends (key_at (g.K.KeyFinder.entries l.keys)) l.lines l.openings l.link (65 - l.link));
  told : l.made.ends.items ++ ends_opened l.lines l.openings l.link (65 - l.link) ≡ l.fn.made.ends.items ++ ends_opened l.lines l.openings 1 64;
  least : 1 ≤ l.link;
  most : l.link ≤ 65;
}

abbrev pub decreases-loop-link : goal.decreases-loop-link
decreases-loop-link g l = 65 - l.link
