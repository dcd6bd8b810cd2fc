-- It is told, and then written.
use Rattle.std.proofs.Common.{refl, Some, None}
use Rattle.std.proofs.lemmas.Result.{err_from_is_err_and}
use Rattle.relay_loop.proofs.LinkCalls.{visit_breaks, breaks_at_once, breaks_first, breaks_behind}
use Rattle.relay_loop.proofs.LinkGives.{prints_both, first_visits}
use Rattle.relay_loop.proofs.Rounds.{settles_round, fails_round}
use Rattle.relay_loop.proofs.link.Link.give_once.Goals as goal

pub returns-in-None : goal.returns-in-None
returns-in-None g c = λ script.
    settles_round script c.args.self.now _ _ _ _ _
    (first_visits script c.args.at None _ _ c.args.self.now _ _ _ c.requires.number
    (record {
      told = _;
      lines = _;
      prints = c.in_ok-print_due.ensures;
      between = _;
      tells = c.in_ok-write_lines.ensures.told;
      left_is = c.in_ok-write_lines.ensures.none;
      writes = c.in-None.ensures;
    }))

pub returns-in_err-print_due : goal.returns-in_err-print_due
returns-in_err-print_due g c = λ script.
    let p = err_from_is_err_and c.from_residual.result c.from_residual.ensures.1 in
    rw (p.1, p.2) (breaks_at_once _ script c.args.self.now _ _ refl)

pub returns-in_err-write_lines : goal.returns-in_err-write_lines
returns-in_err-write_lines g c = λ script.
    let p = err_from_is_err_and c.from_residual-in_err-write_lines.result c.from_residual-in_err-write_lines.ensures.1 in
    rw (p.1, p.2)
    (visit_breaks _ script c.args.self.now _ _ _ _ _ _ (prints_both script c.args.at c.args.self.now _ _ _ _ c.requires.number c.in_ok-print_due.ensures)
    (breaks_first _ script _ _ _ _ c.in_err-write_lines.ensures.broke))

pub returns-in_ok-fail-in-Some : goal.returns-in_ok-fail-in-Some
returns-in_ok-fail-in-Some g c = λ script.
    fails_round script c.in-Some.side c.args.at.number c.args.self.now _ _ _ _ _ _ _
    (first_visits script c.args.at (Some c.in-Some.side) _ _ c.args.self.now _ _ _ c.requires.number
    (record {
      told = _;
      lines = _;
      prints = c.in_ok-print_due.ensures;
      between = _;
      tells = c.in_ok-write_lines.ensures.told;
      left_is = c.in_ok-write_lines.ensures.none;
      writes = c.in-Some.ensures;
    }))
    c.requires.number c.in_ok-fail-in-Some.ensures

pub returns-in_err-fail-in-Some : goal.returns-in_err-fail-in-Some
returns-in_err-fail-in-Some g c = λ script.
    let p = err_from_is_err_and c.from_residual-in_err-fail-in-Some.result c.from_residual-in_err-fail-in-Some.ensures.1 in
    rw (p.1, p.2)
    (breaks_behind _ script c.args.self.now _ _ _ _ _ refl
    (first_visits script c.args.at (Some c.in-Some.side) _ _ c.args.self.now _ _ _ c.requires.number
    (record {
      told = _;
      lines = _;
      prints = c.in_ok-print_due.ensures;
      between = _;
      tells = c.in_ok-write_lines.ensures.told;
      left_is = c.in_ok-write_lines.ensures.none;
      writes = c.in-Some.ensures;
    })).first.visits)
