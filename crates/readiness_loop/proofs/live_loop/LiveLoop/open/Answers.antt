use Rattle.std.proofs.Common.{rules, ◌≡◌, map, length, vec_len, [], ◌∷◌, Ok, Err, false, refl, sym, ◌∙◌, ap, append-nil}
use Rattle.std.proofs.lemmas.List.{map-append}
use Rattle.std.proofs.lemmas.Result.{err_from_is_err_and}
use Rattle.loop_io.specs.Seeing.{seen}
use Rattle.readiness_loop.specs.Books.{sessions}
use Rattle.readiness_loop.specs.Courses.{loop_of}
use Rattle.readiness_loop.specs.Lives.{pair_plan, pair_caller}
use Rattle.readiness_loop.proofs.Acceptings.{no_seats, same_loop, empty_list}
use Rattle.readiness_loop.proofs.Calling.{open_called, unserved_did, unserved_breaks, called_state, halts_so, halts_away, opened_asked}
use Rattle.readiness_loop.proofs.Quiets.{leaves_kept}
use Rattle.readiness_loop.proofs.live_loop.LiveLoop.open.Goals as goal

pub returns-in-Some-clause-does : goal.returns-in-Some-clause-does
returns-in-Some-clause-does g c = λ asked.
    opened_asked (pair_plan c.args.pair.now c.args.plan.now) (pair_caller c.args.pair.now) (g.O.Outside.told c.args.outside.now) (g.O.Outside.told c.moment_of.new.outside) (g.O.Outside.told c.call.new.outside)
    c.args.self.now.book.slots c.args.self.now.book.places (map g.U.SafeUser.mind c.args.self.now.users.items) c.args.self.now.moment (loop_of c.call.new.self.book.slots c.call.new.self.book.places (map g.U.SafeUser.mind c.call.new.self.users.items) c.call.new.self.moment (g.O.Outside.told c.call.new.outside).words) c.args.self.now.turns c.call.new.self.turns c.later-self.result c.moment_of.result c.args.conn.0 asked c.call.result
    c.moment_of.ensures.asks c.call.ensures.rests.turns c.later-self.ensures c.moment_of.ensures.most
    (open_called (seen (g.O.Outside.told c.moment_of.new.outside)) (seen (g.O.Outside.told c.call.new.outside)) (pair_plan c.args.pair.now c.args.plan.now) (pair_caller c.args.pair.now)
    (loop_of c.args.self.now.book.slots c.args.self.now.book.places (map g.U.SafeUser.mind c.args.self.now.users.items) c.later-self.result (g.O.Outside.told c.moment_of.new.outside).words)
    (loop_of c.call.new.self.book.slots c.call.new.self.book.places (map g.U.SafeUser.mind c.call.new.self.users.items) c.call.new.self.moment (g.O.Outside.told c.call.new.outside).words) (sessions c.call.new.self.book.slots c.call.new.self.book.places) (map g.U.SafeUser.mind c.pop.new.self.items) (g.U.SafeUser.mind c.in-Some.user) c.args.conn.0 c.call.result
    (ap (map g.U.SafeUser.mind) c.in-Some.ensures.items ∙ map-append g.U.SafeUser.mind c.pop.new.self.items (c.in-Some.user ∷ []))
    (called_state (loop_of c.args.self.now.book.slots c.args.self.now.book.places (map g.U.SafeUser.mind c.args.self.now.users.items) c.later-self.result (g.O.Outside.told c.moment_of.new.outside).words) c.call.new.self.book.slots c.call.new.self.book.places (map g.U.SafeUser.mind c.pop.new.self.items) (map g.U.SafeUser.mind c.call.new.self.users.items) c.call.new.self.moment (g.O.Outside.told c.call.new.outside).words c.call.result
    c.call.ensures.stream (ap (λ v. map g.U.SafeUser.mind v.items) c.call.ensures.users) c.call.ensures.rests.moment)
    c.call.ensures.does)
    c.call.ensures.leaves
    (halts_so (pair_plan c.args.pair.now c.args.plan.now) (g.O.Outside.told c.call.new.outside).wires.opened c.call.new.self.book.slots c.call.new.self.book.places c.call.result c.requires.dials c.call.ensures.seated c.call.ensures.stays)

pub returns-in_ok-turn_away-in-None-clause-does : goal.returns-in_ok-turn_away-in-None-clause-does
returns-in_ok-turn_away-in-None-clause-does g c = λ asked.
    let length_is : length c.args.self.now.users.items ≡ vec_len c.args.self.now.users = search rules in
    let none : c.args.self.now.users.items ≡ [] = empty_list c.args.self.now.users.items (length_is ∙ c.in-None.ensures.cases.0) in
    let same : c.pop.new.self.items ≡ c.args.self.now.users.items = sym (append-nil c.pop.new.self.items) ∙ sym c.in-None.ensures.items in
    opened_asked (pair_plan c.args.pair.now c.args.plan.now) (pair_caller c.args.pair.now) (g.O.Outside.told c.args.outside.now) (g.O.Outside.told c.moment_of.new.outside) (g.O.Outside.told c.turn_away.new.outside)
    c.args.self.now.book.slots c.args.self.now.book.places (map g.U.SafeUser.mind c.args.self.now.users.items) c.args.self.now.moment (loop_of c.turn_away.new.self.book.slots c.turn_away.new.self.book.places (map g.U.SafeUser.mind c.turn_away.new.self.users.items) c.turn_away.new.self.moment (g.O.Outside.told c.turn_away.new.outside).words) c.args.self.now.turns c.turn_away.new.self.turns c.later-self.result c.moment_of.result c.args.conn.0 asked (Ok false)
    c.moment_of.ensures.asks c.turn_away.ensures.rests.turns c.later-self.ensures c.moment_of.ensures.most
    (unserved_did (seen (g.O.Outside.told c.moment_of.new.outside)) (seen (g.O.Outside.told c.turn_away.new.outside)) (pair_plan c.args.pair.now c.args.plan.now) (pair_caller c.args.pair.now)
    (loop_of c.args.self.now.book.slots c.args.self.now.book.places (map g.U.SafeUser.mind c.args.self.now.users.items) c.later-self.result (g.O.Outside.told c.moment_of.new.outside).words)
    (loop_of c.turn_away.new.self.book.slots c.turn_away.new.self.book.places (map g.U.SafeUser.mind c.turn_away.new.self.users.items) c.turn_away.new.self.moment (g.O.Outside.told c.turn_away.new.outside).words) c.args.conn.0 (ap (map g.U.SafeUser.mind) none)
    (same_loop c.args.self.now.book.slots c.turn_away.new.self.book.slots c.args.self.now.book.places c.turn_away.new.self.book.places _ _ c.later-self.result c.turn_away.new.self.moment _ _
    (ap (λ b. b.slots) c.turn_away.ensures.book) (ap (λ b. b.places) c.turn_away.ensures.book)
    (ap (λ v. map g.U.SafeUser.mind v.items) c.turn_away.ensures.users ∙ ap (map g.U.SafeUser.mind) same) c.turn_away.ensures.rests.moment c.turn_away.ensures.keep.words)
    (c.in_ok-turn_away-in-None.ensures.does (loop_of c.args.self.now.book.slots c.args.self.now.book.places (map g.U.SafeUser.mind c.args.self.now.users.items) c.later-self.result (g.O.Outside.told c.moment_of.new.outside).words) refl))
    (leaves_kept (g.O.Outside.told c.moment_of.new.outside) (g.O.Outside.told c.turn_away.new.outside) c.turn_away.ensures.keep) (halts_away (pair_plan c.args.pair.now c.args.plan.now) c.turn_away.new.self.book.slots c.turn_away.new.self.book.places c.requires.dials (ap (λ b. b.places.entries) c.turn_away.ensures.book ∙ c.requires.first.empty))

pub returns-in_ok-turn_away-in-None-clause-seated : goal.returns-in_ok-turn_away-in-None-clause-seated
returns-in_ok-turn_away-in-None-clause-seated g c =
    no_seats (g.O.Outside.told c.turn_away.new.outside).wires.opened c.turn_away.new.self.book.slots c.turn_away.new.self.book.places.entries
    (ap (λ b. b.places.entries) c.turn_away.ensures.book ∙ c.requires.first.empty)

pub returns-in_err-turn_away-in-None-clause-does : goal.returns-in_err-turn_away-in-None-clause-does
returns-in_err-turn_away-in-None-clause-does g c = λ asked.
    let length_is : length c.args.self.now.users.items ≡ vec_len c.args.self.now.users = search rules in
    let none : c.args.self.now.users.items ≡ [] = empty_list c.args.self.now.users.items (length_is ∙ c.in-None.ensures.cases.0) in
    let p = err_from_is_err_and c.from_residual.result c.from_residual.ensures.1 in
    rw (p.1, p.2)
    (opened_asked (pair_plan c.args.pair.now c.args.plan.now) (pair_caller c.args.pair.now) (g.O.Outside.told c.args.outside.now) (g.O.Outside.told c.moment_of.new.outside) (g.O.Outside.told c.turn_away.new.outside)
    c.args.self.now.book.slots c.args.self.now.book.places (map g.U.SafeUser.mind c.args.self.now.users.items) c.args.self.now.moment (loop_of c.turn_away.new.self.book.slots c.turn_away.new.self.book.places (map g.U.SafeUser.mind c.turn_away.new.self.users.items) c.turn_away.new.self.moment (g.O.Outside.told c.turn_away.new.outside).words) c.args.self.now.turns c.turn_away.new.self.turns c.later-self.result c.moment_of.result c.args.conn.0 asked (Err c.in_err-turn_away-in-None.field-0.0)
    c.moment_of.ensures.asks c.turn_away.ensures.rests.turns c.later-self.ensures c.moment_of.ensures.most
    (unserved_breaks (seen (g.O.Outside.told c.moment_of.new.outside)) (seen (g.O.Outside.told c.turn_away.new.outside)) (pair_plan c.args.pair.now c.args.plan.now) (pair_caller c.args.pair.now)
    (loop_of c.args.self.now.book.slots c.args.self.now.book.places (map g.U.SafeUser.mind c.args.self.now.users.items) c.later-self.result (g.O.Outside.told c.moment_of.new.outside).words)
    c.args.conn.0 c.in_err-turn_away-in-None.field-0.0 (ap (map g.U.SafeUser.mind) none)
    (c.in_err-turn_away-in-None.ensures.does (loop_of c.args.self.now.book.slots c.args.self.now.book.places (map g.U.SafeUser.mind c.args.self.now.users.items) c.later-self.result (g.O.Outside.told c.moment_of.new.outside).words) refl))
    (leaves_kept (g.O.Outside.told c.moment_of.new.outside) (g.O.Outside.told c.turn_away.new.outside) c.turn_away.ensures.keep) tt)
