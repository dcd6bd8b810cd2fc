-- What is held is given.
use Rattle.std.proofs.Common.{ap, sym, refl, ◌∙◌, ◌++◌, ℕ, List}
use Rattle.relay_model.specs.Units.{held_in_standing}
use Rattle.relay_carrier.specs.Standing.{KCarrier}
use Rattle.relay_carrier.proofs.Takings.{ends}
use Rattle.relay_carrier.proofs.Prompts.{due_most}
use Rattle.relay_carrier.proofs.carrier.Carrier.end.Goals as goal

pub returns-clause-given : goal.returns-clause-given
returns-clause-given c = λ script.
    let is =
    c.in_ok-extend_from_slice.ensures.items
    ∙ ap (λ (o : List ℕ). o ++ c.held.result.now) c.clear-2.ensures.items
    ∙ c.held.ensures
    ∙ c.end.ensures.came
    ∙ ap (λ (k : KCarrier). held_in_standing k.standing) c.self.view_is in
    ends script c.args.self.now _ c.requires.unclosed is

pub returns-clause-prompt : goal.returns-clause-prompt
returns-clause-prompt c =
    rw (sym c.self.view_is) (λ most newest moment. due_most _ c.args.moment _ most (c.due_at.ensures.due 0 refl) newest moment)
