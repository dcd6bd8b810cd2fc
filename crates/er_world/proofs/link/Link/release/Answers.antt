use Rattle.std.proofs.lemmas.Result.{on_ok_weaker}
use Rattle.er_world.proofs.LinkRows.{releases_so}
use Rattle.er_world.proofs.link.Link.release.Goals as goal

pub returns : goal.returns
returns c =
    on_ok_weaker c.give.result
    (releases_so (record { marks = c.marks_grow.ensures.marks; facts = c.marks_grow.ensures.facts; lines = c.marks_grow.ensures.lines }) c.args.place c.args.sub c.args.self.now c.give.new.self c.args.out.now.items c.give.new.out.items)
    c.give.ensures
