-- Call by call.
use Rattle.std.proofs.Common.{sym, ◌∙◌}
use Rattle.std.proofs.lemmas.Result.{err_from_is_err_and}
use Rattle.relay_loop.proofs.LinkCalls.{settles_then, visit_breaks}
use Rattle.relay_loop.proofs.link.Link.go_on.Goals as goal

pub returns : goal.returns
returns g c =
    let script = c.args.script.now in
    settles_then script _ _ _ _ _ _ _ _ _ c.in_ok-hear_of.ensures
    (settles_then script _ _ _ _ _ _ _ _ _ (c.in_ok-give.ensures script).visit
    (settles_then script _ _ _ _ _ _ _ _ _ c.in_ok-hear_again.ensures
    (settles_then script _ _ _ _ _ _ _ _ _ c.in_ok-hear_again-2.ensures (c.in_ok-give-2.ensures script))))

pub hear_again-requires-clause-number : goal.hear_again-requires-clause-number
hear_again-requires-clause-number g c =
    c.requires.number ∙ sym ((c.in_ok-give.ensures c.args.script.now).visit.visits.number ∙ c.in_ok-hear_of.ensures.visits.number)

pub hear_again-requires-2-clause-number : goal.hear_again-requires-2-clause-number
hear_again-requires-2-clause-number g c =
    c.requires.number ∙ sym (c.in_ok-hear_again.ensures.visits.number ∙ ((c.in_ok-give.ensures c.args.script.now).visit.visits.number ∙ c.in_ok-hear_of.ensures.visits.number))

pub give-requires-2 : goal.give-requires-2
give-requires-2 g c = record {
  number = c.requires.number
      ∙ sym (c.in_ok-hear_again-2.ensures.visits.number
      ∙ (c.in_ok-hear_again.ensures.visits.number ∙ ((c.in_ok-give.ensures c.args.script.now).visit.visits.number ∙ c.in_ok-hear_of.ensures.visits.number)));
}

pub returns-in_err-give : goal.returns-in_err-give
returns-in_err-give g c =
    let p = err_from_is_err_and c.from_residual-in_err-give.result c.from_residual-in_err-give.ensures.1 in
    rw (p.1, p.2) (visit_breaks _ c.args.script.now _ _ _ _ _ _ _ c.in_ok-hear_of.ensures.visits (c.in_err-give.ensures c.args.script.now))

pub returns-in_err-hear_again : goal.returns-in_err-hear_again
returns-in_err-hear_again g c =
    let script = c.args.script.now in
    let p = err_from_is_err_and c.from_residual-in_err-hear_again.result c.from_residual-in_err-hear_again.ensures.1 in
    rw (p.1, p.2)
    (visit_breaks _ script _ _ _ _ _ _ _ c.in_ok-hear_of.ensures.visits (visit_breaks _ script _ _ _ _ _ _ _ (c.in_ok-give.ensures script).visit.visits c.in_err-hear_again.ensures))

pub returns-in_err-hear_again-2 : goal.returns-in_err-hear_again-2
returns-in_err-hear_again-2 g c =
    let script = c.args.script.now in
    let p = err_from_is_err_and c.from_residual-in_err-hear_again-2.result c.from_residual-in_err-hear_again-2.ensures.1 in
    rw (p.1, p.2)
    (visit_breaks _ script _ _ _ _ _ _ _ c.in_ok-hear_of.ensures.visits
    (visit_breaks _ script _ _ _ _ _ _ _ (c.in_ok-give.ensures script).visit.visits
    (visit_breaks _ script _ _ _ _ _ _ _ c.in_ok-hear_again.ensures.visits c.in_err-hear_again-2.ensures)))

pub returns-in_err-give-2 : goal.returns-in_err-give-2
returns-in_err-give-2 g c =
    let script = c.args.script.now in
    let p = err_from_is_err_and c.from_residual-in_err-give-2.result c.from_residual-in_err-give-2.ensures.1 in
    rw (p.1, p.2)
    (visit_breaks _ script _ _ _ _ _ _ _ c.in_ok-hear_of.ensures.visits
    (visit_breaks _ script _ _ _ _ _ _ _ (c.in_ok-give.ensures script).visit.visits
    (visit_breaks _ script _ _ _ _ _ _ _ c.in_ok-hear_again.ensures.visits
    (visit_breaks _ script _ _ _ _ _ _ _ c.in_ok-hear_again-2.ensures.visits (c.in_err-give-2.ensures script)))))
