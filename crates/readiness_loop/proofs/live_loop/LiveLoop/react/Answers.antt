use Rattle.std.proofs.Common.{map, ap}
use Rattle.loop_io.specs.Seeing.{seen}
use Rattle.readiness_loop.specs.Courses.{plan_of_loop, loop_of}
use Rattle.readiness_loop.specs.Books.{sessions}
use Rattle.readiness_loop.proofs.Turning.{accept_does, read_does, write_does, quiet_did, ended_did, failed_did}
use Rattle.readiness_loop.proofs.live_loop.LiveLoop.react.Goals as goal

pub returns-in-Accepted-clause-does : goal.returns-in-Accepted-clause-does
returns-in-Accepted-clause-does g c =
    accept_does (seen (g.O.Outside.told c.args.outside.now))
    (seen (g.O.Outside.told c.accept.new.outside))
    (plan_of_loop (g.K.KeyFinder.entries c.args.keys.now) c.args.plan.now) (loop_of c.args.self.now.book.slots c.args.self.now.book.places (map g.U.SafeUser.mind c.args.self.now.users.items) c.args.self.now.moment (g.O.Outside.told c.args.outside.now).words) _ c.args.happening c.in-Accepted.conn c.accept.result c.in-Accepted.is
    (c.accept.ensures.does (g.K.KeyFinder.entries c.args.keys.now))

pub returns-in-Readable-clause-does : goal.returns-in-Readable-clause-does
returns-in-Readable-clause-does g c =
    read_does (seen (g.O.Outside.told c.args.outside.now))
    (seen (g.O.Outside.told c.visit.new.outside))
    (plan_of_loop (g.K.KeyFinder.entries c.args.keys.now) c.args.plan.now) (loop_of c.args.self.now.book.slots c.args.self.now.book.places (map g.U.SafeUser.mind c.args.self.now.users.items) c.args.self.now.moment (g.O.Outside.told c.args.outside.now).words) _ (sessions c.visit.new.self.slots c.visit.new.self.places) c.args.happening c.in-Readable.conn c.visit.result _ _ c.in-Readable.is (ap (loop_of c.visit.new.self.slots c.visit.new.self.places (map g.U.SafeUser.mind c.args.self.now.users.items) c.args.self.now.moment) c.visit.ensures.keep.words) c.of-when.ensures.moment c.of-when.ensures.setup c.visit.ensures.does

pub returns-in-Writable-clause-does : goal.returns-in-Writable-clause-does
returns-in-Writable-clause-does g c =
    write_does (seen (g.O.Outside.told c.args.outside.now))
    (seen (g.O.Outside.told c.visit-in-Writable.new.outside))
    (plan_of_loop (g.K.KeyFinder.entries c.args.keys.now) c.args.plan.now) (loop_of c.args.self.now.book.slots c.args.self.now.book.places (map g.U.SafeUser.mind c.args.self.now.users.items) c.args.self.now.moment (g.O.Outside.told c.args.outside.now).words) _ (sessions c.visit-in-Writable.new.self.slots c.visit-in-Writable.new.self.places) c.args.happening c.in-Writable.conn c.visit-in-Writable.result _ _ c.in-Writable.is (ap (loop_of c.visit-in-Writable.new.self.slots c.visit-in-Writable.new.self.places (map g.U.SafeUser.mind c.args.self.now.users.items) c.args.self.now.moment) c.visit-in-Writable.ensures.keep.words) c.of-when.ensures.moment c.of-when.ensures.setup c.visit-in-Writable.ensures.does

pub returns-in-Quiet-clause-does : goal.returns-in-Quiet-clause-does
returns-in-Quiet-clause-does g c = quiet_did _ (plan_of_loop (g.K.KeyFinder.entries c.args.keys.now) c.args.plan.now) (loop_of c.args.self.now.book.slots c.args.self.now.book.places (map g.U.SafeUser.mind c.args.self.now.users.items) c.args.self.now.moment (g.O.Outside.told c.args.outside.now).words) c.args.happening c.in-Quiet.is

pub returns-in-Ended-clause-does : goal.returns-in-Ended-clause-does
returns-in-Ended-clause-does g c = ended_did _ (plan_of_loop (g.K.KeyFinder.entries c.args.keys.now) c.args.plan.now) (loop_of c.args.self.now.book.slots c.args.self.now.book.places (map g.U.SafeUser.mind c.args.self.now.users.items) c.args.self.now.moment (g.O.Outside.told c.args.outside.now).words) c.args.happening c.in-Ended.is

pub returns-in-Failed-clause-does : goal.returns-in-Failed-clause-does
returns-in-Failed-clause-does g c = failed_did _ (plan_of_loop (g.K.KeyFinder.entries c.args.keys.now) c.args.plan.now) (loop_of c.args.self.now.book.slots c.args.self.now.book.places (map g.U.SafeUser.mind c.args.self.now.users.items) c.args.self.now.moment (g.O.Outside.told c.args.outside.now).words) c.args.happening c.in-Failed.is
