use Rattle.std.proofs.lemmas.Result.{on_ok_weaker}
use Rattle.drill_ends.specs.Events.{event_of}
use Rattle.er_world.proofs.LinkRows.{gives_e, gives_r}
use Rattle.er_world.proofs.link.Link.give.Goals as goal

pub returns-in-E : goal.returns-in-E
returns-in-E c =
    on_ok_weaker c.answer.result
    (gives_e (record { marks = c.marks_grow.ensures.marks; facts = c.marks_grow.ensures.facts; lines = c.marks_grow.ensures.lines }) c.args.place (event_of c.args.event.now) c.args.self.now c.answer.new.self c.answer.new.ledger c.answer.new.totals c.args.out.now.items c.answer.new.out.items
    c.in-E.is c.answer.ensures.bound)
    c.answer.ensures.went

pub returns-in-R : goal.returns-in-R
returns-in-R c =
    on_ok_weaker c.answer-in-R.result
    (gives_r (record { marks = c.marks_grow.ensures.marks; facts = c.marks_grow.ensures.facts; lines = c.marks_grow.ensures.lines }) c.args.place (event_of c.args.event.now) c.args.self.now c.answer-in-R.new.self c.answer-in-R.new.ledger c.answer-in-R.new.totals c.args.out.now.items c.answer-in-R.new.out.items
    c.in-R.is c.answer-in-R.ensures.bound)
    c.answer-in-R.ensures.went
