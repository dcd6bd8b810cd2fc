use Rattle.std.proofs.Common.{◌<◌, ◌^◌, arith}
use Rattle.std.proofs.lemmas.Result.{err_from_is_err_and}
use Rattle.readiness_loop.proofs.Acceptings.{opens_so, away_breaks, away_acted}
use Rattle.readiness_loop.proofs.live_loop.LiveLoop.turn_away.Goals as goal

pub returns-in_err-write_event-clause-does : goal.returns-in_err-write_event-clause-does
returns-in_err-write_event-clause-does g c = λ l is.
    let p = err_from_is_err_and c.from_residual.result c.from_residual.ensures.1 in
    rw (p.1, p.2)
    (away_breaks (g.O.Outside.told c.args.outside.now) (g.O.Outside.told c.write_event.new.outside) l c.args.self.now.moment c.args.conn.0 c.args.why c.in_err-write_event.field-0.0 is c.in_err-write_event.ensures.puts)

pub returns-clause-does : goal.returns-clause-does
returns-clause-does g c = λ l is.
    let number : c.args.conn.0 < 2 ^ 64 = omega arith in
    away_acted (g.O.Outside.told c.args.outside.now) (g.O.Outside.told c.write_event.new.outside) (g.O.Outside.told c.close.new.self)
    l c.args.self.now.moment c.args.conn.0 c.args.why is
    (opens_so c.args.self.now.moment c.args.conn.0 c.args.why c.write_event.ensures.within number c.requires) c.in_ok-write_event.ensures.puts c.close.ensures.does
