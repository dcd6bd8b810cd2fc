use Rattle.std.proofs.Common.{◌≡◌, map, length, vec_len, refl, sym, ◌∙◌, ap, arith, rules}
use Rattle.loop_model.specs.Loops.{one_word_less}
use Rattle.readiness_loop.specs.Courses.{plan_of_loop, loop_of}
use Rattle.readiness_loop.specs.Books.{sessions}
use Rattle.readiness_loop.proofs.Acceptings.{answer_seated, seated_loop, answer_wanted, wanted_loop, mapped_length, sessions_count}
use Rattle.readiness_loop.proofs.Quiets.{drew_word, drew_words}
use Rattle.readiness_loop.proofs.live_loop.LiveLoop.answer.Goals as goal

pub returns-in-Ok-clause-does : goal.returns-in-Ok-clause-does
returns-in-Ok-clause-does g c = λ entries.
    let l = loop_of c.args.self.now.book.slots c.args.self.now.book.places (map g.U.SafeUser.mind c.args.self.now.users.items) c.args.self.now.moment (g.O.Outside.told c.args.outside.now).words in
    let t = c.in-Ok.ensures.seats in
    answer_seated (g.O.Outside.told c.args.outside.now) (g.O.Outside.told c.word-ra.new.self) (g.O.Outside.told c.tell_answer.new.outside) c.word-ra.result
    (plan_of_loop entries c.args.plan.now) l _ t.mind c.args.conn.0 c.tell_answer.result c.word-ra.ensures.does refl t.next
    (rw c.seat.ensures.rests.moment at c.tell_answer.ensures.grammar)
    (rw c.seat.ensures.rests.moment at c.tell_answer.ensures.puts)
    (seated_loop (plan_of_loop entries c.args.plan.now) l c.tell_answer.new.self.book.slots c.tell_answer.new.self.book.places (map g.U.SafeUser.mind c.tell_answer.new.self.users.items)
    c.tell_answer.new.self.moment (g.O.Outside.told c.tell_answer.new.outside).words c.word-ra.result t.mind c.args.conn.0
    (ap (λ b. sessions b.slots b.places) c.tell_answer.ensures.book ∙ t.sessions)
    (drew_word (g.O.Outside.told c.args.outside.now) (g.O.Outside.told c.word-ra.new.self) c.word-ra.result c.word-ra.ensures.does)
    (c.tell_answer.ensures.only.words ∙ drew_words (g.O.Outside.told c.args.outside.now) (g.O.Outside.told c.word-ra.new.self) c.word-ra.result c.word-ra.ensures.does)
    (ap (λ v. map g.U.SafeUser.mind v.items) c.tell_answer.ensures.users ∙ t.rest)
    (c.tell_answer.ensures.rests.moment ∙ c.seat.ensures.rests.moment))

pub returns-in-Err-clause-does : goal.returns-in-Err-clause-does
returns-in-Err-clause-does g c = λ entries.
    let minds = map g.U.SafeUser.mind c.args.self.now.users.items in
    let l = loop_of c.args.self.now.book.slots c.args.self.now.book.places minds c.args.self.now.moment (g.O.Outside.told c.args.outside.now).words in
    let length_is : length c.args.self.now.users.items ≡ vec_len c.args.self.now.users = search rules in
    answer_wanted (g.O.Outside.told c.args.outside.now) (g.O.Outside.told c.word-ra.new.self) (g.O.Outside.told c.turn_away.new.outside) c.word-ra.result
    (plan_of_loop entries c.args.plan.now) l _ c.args.conn.0 c.len-live.result c.turn_away.result c.word-ra.ensures.does
    (let n = mapped_length g.U.SafeUser.mind c.args.self.now.users.items in omega (arith, n, length_is, c.requires.users))
    (sessions_count _ c.len-live.result c.seat.new.self.book.slots c.seat.new.self.book.places c.args.self.now.book.slots c.args.self.now.book.places
    c.seat.ensures.seated c.len-live.ensures c.in-Err.ensures.sessions)
    (wanted_loop l c.turn_away.new.self.book.slots c.turn_away.new.self.book.places (map g.U.SafeUser.mind c.turn_away.new.self.users.items)
    c.turn_away.new.self.moment (g.O.Outside.told c.turn_away.new.outside).words
    (ap (λ b. sessions b.slots b.places) c.turn_away.ensures.book ∙ c.in-Err.ensures.sessions)
    (c.turn_away.ensures.keep.words ∙ drew_words (g.O.Outside.told c.args.outside.now) (g.O.Outside.told c.word-ra.new.self) c.word-ra.result c.word-ra.ensures.does)
    (ap (λ v. map g.U.SafeUser.mind v.items) (c.turn_away.ensures.users ∙ c.in-Err.ensures.users))
    (c.turn_away.ensures.rests.moment ∙ c.seat.ensures.rests.moment))
    (c.turn_away.ensures.does (one_word_less l) (sym c.seat.ensures.rests.moment))
