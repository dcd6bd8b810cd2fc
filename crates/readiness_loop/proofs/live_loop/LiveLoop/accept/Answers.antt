use Rattle.std.proofs.Common.{◌≡◌, map, length, vec_len, refl, sym, ◌∙◌, ap, rules, eqb-true}
use Rattle.loop_io.specs.Seeing.{seen}
use Rattle.readiness_loop.specs.Courses.{plan_of_loop, loop_of}
use Rattle.readiness_loop.proofs.Acceptings.{accept_full, accept_unserved, accept_answered, same_loop, away_seated, few_sessions, many_sessions, empty_list}
use Rattle.readiness_loop.proofs.live_loop.LiveLoop.accept.Goals as goal

pub returns-then-len-ge-MOST_LIVE-clause-does : goal.returns-then-len-ge-MOST_LIVE-clause-does
returns-then-len-ge-MOST_LIVE-clause-does g c = λ entries.
    let l = loop_of c.args.self.now.book.slots c.args.self.now.book.places (map g.U.SafeUser.mind c.args.self.now.users.items) c.args.self.now.moment (g.O.Outside.told c.args.outside.now).words in
    accept_full (seen (g.O.Outside.told c.args.outside.now)) (seen (g.O.Outside.told c.turn_away.new.outside)) (plan_of_loop entries c.args.plan.now) l _ c.args.conn.0 c.turn_away.result
    (many_sessions _ c.len.result c.args.self.now.book.slots c.args.self.now.book.places.entries c.requires.order.seated c.len.ensures c.if-len-ge-MOST_LIVE.true)
    (same_loop c.args.self.now.book.slots c.turn_away.new.self.book.slots c.args.self.now.book.places c.turn_away.new.self.book.places _ _ c.args.self.now.moment c.turn_away.new.self.moment _ _
    (ap (λ b. b.slots) c.turn_away.ensures.book) (ap (λ b. b.places) c.turn_away.ensures.book) (ap (λ v. map g.U.SafeUser.mind v.items) c.turn_away.ensures.users) c.turn_away.ensures.rests.moment c.turn_away.ensures.keep.words)
    (c.turn_away.ensures.does l refl)

pub returns-then-len-ge-MOST_LIVE-clause-seated : goal.returns-then-len-ge-MOST_LIVE-clause-seated
returns-then-len-ge-MOST_LIVE-clause-seated g c =
    away_seated c.args.conn.0 c.args.self.now.book.slots c.turn_away.new.self.book.slots c.args.self.now.book.places c.turn_away.new.self.book.places
    (ap (λ b. b.slots) c.turn_away.ensures.book) (ap (λ b. b.places) c.turn_away.ensures.book) c.requires.order.seated

pub returns-then-is_empty-clause-does : goal.returns-then-is_empty-clause-does
returns-then-is_empty-clause-does g c = λ entries.
    let l = loop_of c.args.self.now.book.slots c.args.self.now.book.places (map g.U.SafeUser.mind c.args.self.now.users.items) c.args.self.now.moment (g.O.Outside.told c.args.outside.now).words in
    let length_is : length c.args.self.now.users.items ≡ vec_len c.args.self.now.users = search rules in
    let nobody : vec_len c.args.self.now.users ≡ 0 = eqb-true (vec_len c.args.self.now.users) 0 (sym c.is_empty.ensures ∙ c.if-is_empty.true) in
    accept_unserved (seen (g.O.Outside.told c.args.outside.now)) (seen (g.O.Outside.told c.turn_away-then-is_empty.new.outside)) (plan_of_loop entries c.args.plan.now) l _ c.args.conn.0
    c.turn_away-then-is_empty.result
    (few_sessions _ c.len.result c.args.self.now.book.slots c.args.self.now.book.places.entries c.requires.order.seated c.len.ensures c.if-len-ge-MOST_LIVE.false)
    (ap (map g.U.SafeUser.mind) (empty_list c.args.self.now.users.items (length_is ∙ nobody)))
    (same_loop c.args.self.now.book.slots c.turn_away-then-is_empty.new.self.book.slots c.args.self.now.book.places c.turn_away-then-is_empty.new.self.book.places _ _
    c.args.self.now.moment c.turn_away-then-is_empty.new.self.moment _ _
    (ap (λ b. b.slots) c.turn_away-then-is_empty.ensures.book) (ap (λ b. b.places) c.turn_away-then-is_empty.ensures.book)
    (ap (λ v. map g.U.SafeUser.mind v.items) c.turn_away-then-is_empty.ensures.users) c.turn_away-then-is_empty.ensures.rests.moment c.turn_away-then-is_empty.ensures.keep.words)
    (c.turn_away-then-is_empty.ensures.does l refl)

pub returns-then-is_empty-clause-seated : goal.returns-then-is_empty-clause-seated
returns-then-is_empty-clause-seated g c =
    away_seated c.args.conn.0 c.args.self.now.book.slots c.turn_away-then-is_empty.new.self.book.slots c.args.self.now.book.places c.turn_away-then-is_empty.new.self.book.places
    (ap (λ b. b.slots) c.turn_away-then-is_empty.ensures.book) (ap (λ b. b.places) c.turn_away-then-is_empty.ensures.book) c.requires.order.seated

pub returns-clause-does : goal.returns-clause-does
returns-clause-does g c = λ entries.
    accept_answered (seen (g.O.Outside.told c.args.outside.now)) (seen (g.O.Outside.told c.answer.new.outside)) (plan_of_loop entries c.args.plan.now)
    (loop_of c.args.self.now.book.slots c.args.self.now.book.places (map g.U.SafeUser.mind c.args.self.now.users.items) c.args.self.now.moment (g.O.Outside.told c.args.outside.now).words) _
    c.args.conn.0 c.answer.result
    (few_sessions _ c.len.result c.args.self.now.book.slots c.args.self.now.book.places.entries c.requires.order.seated c.len.ensures c.if-len-ge-MOST_LIVE.false)
    (c.answer.ensures.does entries)
