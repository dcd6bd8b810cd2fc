use Rattle.std.proofs.Common.{sym, ◌∙◌}
use Rattle.std.proofs.lemmas.Bool.{le-ltb}
use Rattle.er_end_c.proofs.Settled.{admits}
use Rattle.er_end_c.proofs.makers.admitted.Goals as goal

pub returns-in-Some-checked-clause-fault : goal.returns-in-Some-checked-clause-fault
returns-in-Some-checked-clause-fault c =
    admits c.args.end.now c.args.now c.args.are_numbers c.args.settings.now c.in-Some-checked.settings
    (sym c.is_open.ensures ∙ c.if-is_open.false) (le-ltb 1000000000000000 c.args.now c.in-Some.ensures.1) c.if-not-are_numbers.false c.in-Some-checked.ensures.exact
