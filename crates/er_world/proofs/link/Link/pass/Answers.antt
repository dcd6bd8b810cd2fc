use Rattle.std.proofs.lemmas.Result.{on_ok_weaker}
use Rattle.er_world.proofs.LinkRows.{passes_none, passes_some}
use Rattle.er_world.proofs.link.Link.pass.Goals as goal

pub returns-in_default : goal.returns-in_default
returns-in_default c =
    on_ok_weaker c.print_empty.result
    (passes_none (record { marks = c.marks_grow.ensures.marks; facts = c.marks_grow.ensures.facts; lines = c.marks_grow.ensures.lines }) c.args.place c.args.self.now c.take_first.new.self c.args.out.now.items c.print_empty.new.out.items c.in_default.ensures)
    c.print_empty.ensures.ok

pub returns : goal.returns
returns c =
    on_ok_weaker c.give.result
    (passes_some (record { marks = c.marks_grow.ensures.marks; facts = c.marks_grow.ensures.facts; lines = c.marks_grow.ensures.lines }) c.args.place c.other.result c.args.self.now c.take_first.new.self c.give.new.self c.as_slice.result.now c.count_pass.new.totals
    c.args.out.now.items c.give.new.out.items
    (rw c.as_slice.ensures c.in-Some.ensures) c.other.ensures c.count_pass.ensures)
    c.give.ensures
