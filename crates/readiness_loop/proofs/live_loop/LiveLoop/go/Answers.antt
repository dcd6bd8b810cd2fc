use Rattle.std.proofs.Common.{map, [], ◌∷◌, ◌++◌, refl, ap, ◌∙◌}
use Rattle.loop_io.specs.Seeing.{seen}
use Rattle.std.proofs.lemmas.Result.{err_from_is_err_and}
use Rattle.readiness_loop.specs.Books.{sessions}
use Rattle.readiness_loop.specs.Courses.{plan_of_loop, loop_of, around}
use Rattle.readiness_loop.proofs.Acceptings.{length_sessions, same_loop}
use Rattle.readiness_loop.proofs.Going.{go_on_from, go_closed_from, go_stops, not_closed, closed_now}
use Rattle.readiness_loop.proofs.Quiets.{asked_words, asked_once, opened_same, turns_same, listening_same, done_behind_asked, stopped_behind_asked}
use Rattle.readiness_loop.proofs.live_loop.LiveLoop.go.Goals as goal

pub returns-then-has_closed-clause-does : goal.returns-then-has_closed-clause-does
returns-then-has_closed-clause-does g c = λ asked.
    go_closed_from (plan_of_loop (g.K.KeyFinder.entries c.args.keys.now) c.args.plan.now)
    (around (g.O.Outside.told c.args.outside.now))
    (around (g.O.Outside.told c.before-2.new.outside))
    (loop_of c.args.self.now.book.slots c.args.self.now.book.places (map g.U.SafeUser.mind c.args.self.now.users.items) c.args.self.now.moment (g.O.Outside.told c.args.outside.now).words)
    (loop_of c.before-2.new.self.book.slots c.before-2.new.self.book.places (map g.U.SafeUser.mind c.before-2.new.self.users.items) c.before-2.new.self.moment (g.O.Outside.told c.before-2.new.outside).words) (sessions c.before-2.new.self.book.slots c.before-2.new.self.book.places) c.args.self.now.turns c.before-2.new.self.turns c.moment_of.result c.later-self.result asked
    c.later-self.ensures (asked_once (g.O.Outside.told c.args.outside.now) (g.O.Outside.told c.moment_of.new.outside) (g.O.Outside.told c.before-2.new.outside) c.moment_of.result c.moment_of.ensures.asks c.before-2.ensures.keep.clock)
    (done_behind_asked (g.O.Outside.told c.args.outside.now) (g.O.Outside.told c.moment_of.new.outside) (seen (g.O.Outside.told c.before-2.new.outside)) c.moment_of.result _ _ c.moment_of.ensures.asks c.in_ok-until.ensures.does)
    (opened_same (g.O.Outside.told c.args.outside.now) (g.O.Outside.told c.moment_of.new.outside) (g.O.Outside.told c.before-2.new.outside) c.moment_of.result c.moment_of.ensures.asks c.before-2.ensures.keep) (turns_same (g.O.Outside.told c.args.outside.now) (g.O.Outside.told c.moment_of.new.outside) (g.O.Outside.told c.before-2.new.outside) c.moment_of.result c.moment_of.ensures.asks c.before-2.ensures.keep) (listening_same (g.O.Outside.told c.args.outside.now) (g.O.Outside.told c.moment_of.new.outside) (g.O.Outside.told c.before-2.new.outside) c.moment_of.result c.moment_of.ensures.asks c.before-2.ensures.keep)
    (closed_now (plan_of_loop (g.K.KeyFinder.entries c.args.keys.now) c.args.plan.now) (sessions c.before-2.new.self.book.slots c.before-2.new.self.book.places) _ c.has_closed.result c.has_closed.ensures (length_sessions _ c.before-2.new.self.book.slots c.before-2.new.self.book.places.entries c.in_ok-until.ensures.seated) c.if-has_closed.true)
    (same_loop c.before-2.new.self.book.slots c.before-2.new.self.book.slots c.before-2.new.self.book.places c.before-2.new.self.book.places _ _ c.later-self.result c.before-2.new.self.moment _ _ refl refl (ap (λ v. map g.U.SafeUser.mind v.items) c.before-2.ensures.users) c.before-2.ensures.rests.moment (c.before-2.ensures.keep.words ∙ asked_words (g.O.Outside.told c.args.outside.now) (g.O.Outside.told c.moment_of.new.outside) c.moment_of.result c.moment_of.ensures.asks)) c.before-2.ensures.rests.turns

pub returns-clause-does : goal.returns-clause-does
returns-clause-does g c = λ asked.
    go_on_from (plan_of_loop (g.K.KeyFinder.entries c.args.keys.now) c.args.plan.now)
    (around (g.O.Outside.told c.args.outside.now))
    (around (g.O.Outside.told c.before-2.new.outside))
    (around (g.O.Outside.told c.turn.new.outside))
    (loop_of c.args.self.now.book.slots c.args.self.now.book.places (map g.U.SafeUser.mind c.args.self.now.users.items) c.args.self.now.moment (g.O.Outside.told c.args.outside.now).words)
    (loop_of c.before-2.new.self.book.slots c.before-2.new.self.book.places (map g.U.SafeUser.mind c.before-2.new.self.users.items) c.before-2.new.self.moment (g.O.Outside.told c.before-2.new.outside).words) _ (sessions c.before-2.new.self.book.slots c.before-2.new.self.book.places) c.args.self.now.turns c.before-2.new.self.turns c.turn.new.self.turns c.moment_of.result c.later-self.result asked c.turn.result
    c.later-self.ensures (asked_once (g.O.Outside.told c.args.outside.now) (g.O.Outside.told c.moment_of.new.outside) (g.O.Outside.told c.before-2.new.outside) c.moment_of.result c.moment_of.ensures.asks c.before-2.ensures.keep.clock)
    (done_behind_asked (g.O.Outside.told c.args.outside.now) (g.O.Outside.told c.moment_of.new.outside) (seen (g.O.Outside.told c.before-2.new.outside)) c.moment_of.result _ _ c.moment_of.ensures.asks c.in_ok-until.ensures.does)
    (opened_same (g.O.Outside.told c.args.outside.now) (g.O.Outside.told c.moment_of.new.outside) (g.O.Outside.told c.before-2.new.outside) c.moment_of.result c.moment_of.ensures.asks c.before-2.ensures.keep) (turns_same (g.O.Outside.told c.args.outside.now) (g.O.Outside.told c.moment_of.new.outside) (g.O.Outside.told c.before-2.new.outside) c.moment_of.result c.moment_of.ensures.asks c.before-2.ensures.keep) (listening_same (g.O.Outside.told c.args.outside.now) (g.O.Outside.told c.moment_of.new.outside) (g.O.Outside.told c.before-2.new.outside) c.moment_of.result c.moment_of.ensures.asks c.before-2.ensures.keep)
    (not_closed (plan_of_loop (g.K.KeyFinder.entries c.args.keys.now) c.args.plan.now) (sessions c.before-2.new.self.book.slots c.before-2.new.self.book.places) _ c.has_closed.result c.has_closed.ensures (length_sessions _ c.before-2.new.self.book.slots c.before-2.new.self.book.places.entries c.in_ok-until.ensures.seated) c.if-has_closed.false)
    (same_loop c.before-2.new.self.book.slots c.before-2.new.self.book.slots c.before-2.new.self.book.places c.before-2.new.self.book.places _ _ c.later-self.result c.before-2.new.self.moment _ _ refl refl (ap (λ v. map g.U.SafeUser.mind v.items) c.before-2.ensures.users) c.before-2.ensures.rests.moment (c.before-2.ensures.keep.words ∙ asked_words (g.O.Outside.told c.args.outside.now) (g.O.Outside.told c.moment_of.new.outside) c.moment_of.result c.moment_of.ensures.asks)) c.before-2.ensures.rests.turns (c.turn.ensures.does (asked ++ c.moment_of.result ∷ []))

pub returns-in_err-until-clause-does : goal.returns-in_err-until-clause-does
returns-in_err-until-clause-does g c = λ asked.
    let p = err_from_is_err_and c.from_residual.result c.from_residual.ensures.1 in
    rw (p.1, p.2)
    (go_stops (plan_of_loop (g.K.KeyFinder.entries c.args.keys.now) c.args.plan.now)
    (around (g.O.Outside.told c.args.outside.now))
    (around (g.O.Outside.told c.before-2.new.outside))
    (loop_of c.args.self.now.book.slots c.args.self.now.book.places (map g.U.SafeUser.mind c.args.self.now.users.items) c.args.self.now.moment (g.O.Outside.told c.args.outside.now).words) _ c.args.self.now.turns c.before-2.new.self.turns c.moment_of.result c.later-self.result asked c.in_err-until.field-0.0 c.later-self.ensures (stopped_behind_asked (g.O.Outside.told c.args.outside.now) (g.O.Outside.told c.moment_of.new.outside) (seen (g.O.Outside.told c.before-2.new.outside)) c.moment_of.result _ _ c.moment_of.ensures.asks c.in_err-until.ensures.does))
