-- What is left leads to the end of all.
use Rattle.std.proofs.Common.{◌≡◌, ◌≤◌, length}
use Rattle.tap_model.specs.Verdicts.{judged_from}
use Rattle.link_audit.specs.AuditLines.{lines_of_side}
use Rattle.link_audit.specs.Writes.{LeadsToSameWriting}
use Rattle.link_audit.proofs.run.write_items.Given as goal

abbrev pub invariant-loop-item : goal.invariant-loop-item
invariant-loop-item g l = record {
  leads : LeadsToSameWriting (g.O.Outside.told l.fn.outside) (lines_of_side l.link l.side (judged_from l.known l.side 0 l.fn.items.left)) (g.O.Outside.told l.outside)
      (lines_of_side l.link l.side (judged_from l.known l.side l.place l.items.left));
  told : l.items.told ≡ l.fn.items.told;
  ends : l.made.ends.items ≡ l.fn.made.ends.items;
  place : l.place ≤ 2;
}

abbrev pub decreases-loop-item : goal.decreases-loop-item
decreases-loop-item g l = length l.items.left
