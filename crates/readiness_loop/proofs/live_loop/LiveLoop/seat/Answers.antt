use Rattle.std.proofs.Common.{arith}
use Rattle.readiness_loop.proofs.Acceptings.{seated_up, seats_end}
use Rattle.readiness_loop.proofs.live_loop.LiveLoop.seat.Goals as goal

pub returns-in_err-end-clause-seated : goal.returns-in_err-end-clause-seated
returns-in_err-end-clause-seated g c =
    seated_up _ c.args.number c.args.self.now.book.slots c.args.self.now.book.places.entries (omega arith) c.requires.order.seated

pub returns-clause-seats : goal.returns-clause-seats
returns-clause-seats g c = seats_end _ _ _ _ _ c.args.number _ _ c.in_ok-end.ensures c.seat.ensures.seats
