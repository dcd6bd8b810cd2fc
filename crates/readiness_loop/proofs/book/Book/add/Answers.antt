use Rattle.readiness_loop.proofs.Awaited.{awaited_joined}
use Rattle.readiness_loop.proofs.Joining.{joined_sessions, joined_seated}
use Rattle.readiness_loop.proofs.book.Book.add.Goals as goal

pub returns-clause-sessions : goal.returns-clause-sessions
returns-clause-sessions g c =
    joined_sessions c.number-number.result c.make_room.new.self.slots.vacant_key c.insert_reserved.result _ c.args.self.now.slots c.make_room.new.self.slots c.insert_reserved.new.self
    c.args.self.now.places c.make_room.new.self.places c.args.session c.requires.order.seated c.requires.number
    c.make_room.ensures.slots c.insert_reserved.ensures.key c.insert_reserved.ensures.was_vacant c.insert_reserved.ensures.updates c.number-number.ensures c.in_ok-make_room.ensures.entries

pub returns-clause-seated : goal.returns-clause-seated
returns-clause-seated g c =
    joined_seated c.number-number.result c.make_room.new.self.slots.vacant_key c.insert_reserved.result _ c.args.self.now.slots c.make_room.new.self.slots c.insert_reserved.new.self
    c.args.self.now.places c.make_room.new.self.places c.args.session c.requires.order.seated c.requires.number
    c.make_room.ensures.slots c.insert_reserved.ensures.key c.insert_reserved.ensures.was_vacant c.insert_reserved.ensures.updates c.number-number.ensures c.in_ok-make_room.ensures.entries

pub returns-clause-awaited : goal.returns-clause-awaited
returns-clause-awaited g c =
    awaited_joined c.number-number.result c.make_room.new.self.slots.vacant_key c.insert_reserved.result _ c.args.self.now.slots c.make_room.new.self.slots c.insert_reserved.new.self
    c.args.self.now.places c.make_room.new.self.places c.args.self.now.wake_times.pairs c.make_room.new.self.wake_times.pairs c.args.session c.wakes-wake.result
    c.requires.order.seated c.requires.order.awaited
    c.make_room.ensures.slots c.insert_reserved.ensures.key c.insert_reserved.ensures.was_vacant c.insert_reserved.ensures.updates
    c.in_ok-make_room.ensures.updates c.make_room.ensures.ordered c.wakes-wake.ensures c.in_ok-make_room.ensures.wakes
