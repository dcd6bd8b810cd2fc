use Rattle.std.proofs.Common.{◌≡◌, ◌++◌, map, [], ◌∷◌, sym, ◌∙◌, ap, refl, vec_len, arith}
use Rattle.std.proofs.lemmas.List.{map-append}
use Rattle.loop_model.specs.Loops.{begun, next_user, other_users}
use Rattle.readiness_loop.proofs.Acceptings.{last_user, other_ones}
use Rattle.readiness_loop.proofs.Awaited.{awaited_joined, room_awaited, first_alone}
use Rattle.readiness_loop.proofs.Joining.{joined_sessions, joined_seated, room_sessions, room_seated}
use Rattle.readiness_loop.proofs.WakePairs.{on_err}
use Rattle.readiness_loop.proofs.book.Book.seat.Goals as goal

pub returns-in_err-make_room-clause-sessions : goal.returns-in_err-make_room-clause-sessions
returns-in_err-make_room-clause-sessions g c =
    on_err _ (room_sessions _ c.args.self.now.slots c.make_room.new.self.slots c.args.self.now.places c.make_room.new.self.places c.make_room.ensures.slots c.in_err-make_room.ensures.same_places)

pub returns-in_err-make_room-clause-seated : goal.returns-in_err-make_room-clause-seated
returns-in_err-make_room-clause-seated g c =
    room_seated _ c.args.number c.args.self.now.slots c.make_room.new.self.slots c.args.self.now.places c.make_room.new.self.places
    c.make_room.ensures.slots c.in_err-make_room.ensures.same_places c.requires.order.seated

pub returns-in_err-make_room-clause-awaited : goal.returns-in_err-make_room-clause-awaited
returns-in_err-make_room-clause-awaited g c =
    room_awaited _ c.args.self.now.slots c.make_room.new.self.slots c.args.self.now.places c.make_room.new.self.places c.args.self.now.wake_times.pairs c.make_room.new.self.wake_times.pairs
    c.make_room.ensures.slots c.in_err-make_room.ensures.same_places c.in_err-make_room.ensures.same_wakes c.requires.order.awaited

pub returns-in-Some-clause-seats : goal.returns-in-Some-clause-seats
returns-in-Some-clause-seats g c =
    let minds : map g.U.SafeUser.mind c.args.users.now.items ≡ map g.U.SafeUser.mind c.pop.new.self.items ++ g.U.SafeUser.mind c.in-Some.user ∷ [] =
    ap (map g.U.SafeUser.mind) c.in-Some.ensures.items ∙ map-append g.U.SafeUser.mind c.pop.new.self.items (c.in-Some.user ∷ []) in
    record {
      mind = g.U.SafeUser.mind c.in-Some.user;
      next = ap next_user minds ∙ last_user (map g.U.SafeUser.mind c.pop.new.self.items) (g.U.SafeUser.mind c.in-Some.user);
      rest = sym (ap other_users minds ∙ other_ones (map g.U.SafeUser.mind c.pop.new.self.items) (g.U.SafeUser.mind c.in-Some.user));
      sessions =
          joined_sessions c.args.number c.make_room.new.self.slots.vacant_key c.insert_reserved.result _ c.args.self.now.slots c.make_room.new.self.slots c.insert_reserved.new.self
          c.args.self.now.places c.make_room.new.self.places (begun c.args.number c.args.end.value (g.U.SafeUser.mind c.in-Some.user)) c.requires.order.seated c.requires.number
          c.make_room.ensures.slots c.insert_reserved.ensures.key c.insert_reserved.ensures.was_vacant
          (rw c.begin-session.ensures at c.insert_reserved.ensures.updates) refl c.in_ok-make_room.ensures.entries;
    }

pub returns-in-Some-clause-seated : goal.returns-in-Some-clause-seated
returns-in-Some-clause-seated g c =
    joined_seated c.args.number c.make_room.new.self.slots.vacant_key c.insert_reserved.result _ c.args.self.now.slots c.make_room.new.self.slots c.insert_reserved.new.self
    c.args.self.now.places c.make_room.new.self.places (begun c.args.number c.args.end.value (g.U.SafeUser.mind c.in-Some.user)) c.requires.order.seated c.requires.number
    c.make_room.ensures.slots c.insert_reserved.ensures.key c.insert_reserved.ensures.was_vacant
    (rw c.begin-session.ensures at c.insert_reserved.ensures.updates) refl c.in_ok-make_room.ensures.entries

pub returns-in-Some-clause-awaited : goal.returns-in-Some-clause-awaited
returns-in-Some-clause-awaited g c =
    awaited_joined c.args.number c.make_room.new.self.slots.vacant_key c.insert_reserved.result _ c.args.self.now.slots c.make_room.new.self.slots c.insert_reserved.new.self
    c.args.self.now.places c.make_room.new.self.places c.args.self.now.wake_times.pairs c.make_room.new.self.wake_times.pairs
    (begun c.args.number c.args.end.value (g.U.SafeUser.mind c.in-Some.user)) c.deadline.result
    c.requires.order.seated c.requires.order.awaited
    c.make_room.ensures.slots c.insert_reserved.ensures.key c.insert_reserved.ensures.was_vacant
    (rw c.begin-session.ensures at c.insert_reserved.ensures.updates)
    c.in_ok-make_room.ensures.updates c.make_room.ensures.ordered ((rw c.deref.ensures at c.deadline.ensures) ∙ sym (first_alone _)) c.in_ok-make_room.ensures.wakes

pub returns-in-None : goal.returns-in-None
returns-in-None g c = absurd (let none : vec_len c.args.users.now ≡ 0 = c.in-None.ensures.cases.0 in omega (arith, none, c.requires.users))
