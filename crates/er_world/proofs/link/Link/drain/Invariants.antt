-- So many passes were made.
use Rattle.std.specs.Prelude.{◌-◌, List}
use Rattle.drill_model.specs.Outcomes.{Occurrence}
use Rattle.drill_model.specs.Links.{Link}
use Rattle.er_world.specs.KeptLinks.{StandsLink, IsWithinDrain}
use Rattle.er_world.proofs.link.Link.drain.Given as goal

abbrev pub invariant-loop-passes : goal.invariant-loop-passes
invariant-loop-passes l =
    (first : Link) (history : List Occurrence) → StandsLink l.fn.self first history
    → IsWithinDrain history l.most first l.show l.number l.passes l.self l.fn.out.items l.out.items

abbrev pub decreases-loop-passes : goal.decreases-loop-passes
decreases-loop-passes l = l.most - l.passes
