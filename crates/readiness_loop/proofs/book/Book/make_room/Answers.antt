use Rattle.readiness_loop.proofs.Awaited.{none_known}
use Rattle.readiness_loop.proofs.WakePairs.{forgotten_again}
use Rattle.readiness_loop.proofs.book.Book.make_room.Goals as goal

pub change-requires : goal.change-requires
change-requires g c = λ m.
    none_known c.args.number c.args.self.now.slots c.args.self.now.places c.args.self.now.wake_times.pairs c.requires.order.seated c.requires.number c.requires.order.awaited m

pub returns-in-Err-clause-same_wakes : goal.returns-in-Err-clause-same_wakes
returns-in-Err-clause-same_wakes g c =
    forgotten_again c.args.self.now.wake_times.pairs c.change.new.self.pairs c.forget.new.self.pairs c.args.number c.args.wake
    (λ m. none_known c.args.number c.args.self.now.slots c.args.self.now.places c.args.self.now.wake_times.pairs c.requires.order.seated c.requires.number c.requires.order.awaited m)
    c.in_ok-change.ensures.changed c.forget.ensures
