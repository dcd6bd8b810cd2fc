use Rattle.std.proofs.Common.{◌++◌, ap, ◌∙◌}
use Rattle.er_world.specs.WorldSteps.{closing_lines}
use Rattle.er_world.proofs.WorldEnds.{summed_up}
use Rattle.er_world.proofs.world.World.summary.Goals as goal

pub returns-clause-ok : goal.returns-clause-ok
returns-clause-ok c =
    λ plan steps ran.
    c.in_ok-extend_from_slice.ensures.items
    ∙ ap (λ xs. c.args.out.now.items ++ xs) (
    c.as_slice.ensures.value ∙ c.in_ok-close.ensures ∙ ap (λ xs. xs ++ closing_lines c.args.self.now 1 64) c.new-text.ensures.items ∙ summed_up c.args.self.now plan steps ran
    )
