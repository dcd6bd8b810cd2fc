-- A step's line, by what reading its words answers.
use Rattle.std.proofs.Common.{sym, ◌∙◌}
use Rattle.std.proofs.lemmas.Result.{err_from_is_err_and}
use Rattle.er_scenario.proofs.SaidSteps.{step_gives, fault_gives}
use Rattle.er_scenario.proofs.reader.read_line.Goals as goal

pub returns-in_err-read_step-clause-said : goal.returns-in_err-read_step-clause-said
returns-in_err-read_step-clause-said c =
    let p = err_from_is_err_and c.from_residual-in_err-read_step.result c.from_residual-in_err-read_step.ensures.1 in
    rw (p.1, p.2, c.in-Some.ensures.cases.0)
    (fault_gives c.args.level c.args.is_late c.args.choices.now c.in-Some.first.now.now _ c.in-Some-named.name c.in_err-read_step.field-0.0
    (sym c.is_set.ensures ∙ c.if-is_set.false) (sym c.named.ensures ∙ c.in-Some-named.is) c.in_err-read_step.ensures.step)

pub returns-clause-said : goal.returns-clause-said
returns-clause-said c =
    rw c.in-Some.ensures.cases.0
    (step_gives c.args.level c.args.is_late c.args.choices.now c.in-Some.first.now.now _ c.in-Some-named.name c.in_ok-read_step.field-0
    (sym c.is_set.ensures ∙ c.if-is_set.false) (sym c.named.ensures ∙ c.in-Some-named.is) c.in_ok-read_step.ensures.step)
