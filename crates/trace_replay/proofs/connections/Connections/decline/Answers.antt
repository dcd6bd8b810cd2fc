-- The number was given before, or it is now.
use Rattle.std.proofs.Common.{inr, ap}
use Rattle.std.proofs.lemmas.Result.{err_from_is_err_and}
use Rattle.trace_model.specs.Checks.{names}
use Rattle.trace_replay.proofs.Taking.{twice_err, declined}
use Rattle.trace_replay.proofs.connections.Connections.decline.Goals as goal

pub returns-in_err-check_new : goal.returns-in_err-check_new
returns-in_err-check_new c = λ settings finds before h le.
    let p = err_from_is_err_and c.from_residual.result c.from_residual.ensures.1 in
    rw (p.1, p.2) (twice_err settings finds before c.args.entry.now c.args.self.now c.args.self.now c.args.out.now.items c.args.out.now.items _ h (ap names c.requires.event) (inr c.requires.event) c.in_err-check_new.ensures)

pub returns : goal.returns
returns c = λ settings finds before h le.
    declined settings finds before c.args.entry.now c.args.self.now _ _ _ h le c.requires.event c.in_ok-check_new.ensures (c.in_ok-shut.ensures c.in_ok-check_new.ensures) c.in_ok-print_entry.ensures.ok
