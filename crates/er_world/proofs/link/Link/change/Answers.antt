use Rattle.std.proofs.lemmas.Result.{on_ok_weaker}
use Rattle.er_world.proofs.LinkRows.{changes_so}
use Rattle.er_world.proofs.link.Link.change.Goals as goal

pub returns : goal.returns
returns c =
    on_ok_weaker c.print_change.result
    (changes_so (record { marks = c.marks_grow.ensures.marks; facts = c.marks_grow.ensures.facts; lines = c.marks_grow.ensures.lines }) c.args.place c.args.how.now c.in_ok-change.change c.args.self.now c.change_frames.new.self c.count_change.new.totals c.args.out.now.items c.print_change.new.out.items
    c.in_ok-change.ensures c.count_change.ensures)
    c.print_change.ensures
