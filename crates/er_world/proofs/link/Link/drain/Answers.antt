use Rattle.er_world.proofs.LinkRows.{Grows}
use Rattle.er_world.proofs.DrainRows.{drain_begins, drain_goes_on, drain_stops, drain_ends}
use Rattle.er_world.proofs.link.Link.drain.Goals as goal

pub loop-passes-init : goal.loop-passes-init
loop-passes-init c =
    λ first history st. drain_begins history c.args.most first c.args.show c.args.number c.args.self.now c.args.out.now.items st

pub loop-passes-preserved : goal.loop-passes-preserved
loop-passes-preserved c =
    let grows : Grows = record { marks = c.marks_grow.ensures.marks; facts = c.marks_grow.ensures.facts; lines = c.marks_grow.ensures.lines } in
    λ first history st.
    drain_goes_on grows history c.args.most first c.args.show c.args.number c.loop-passes.passes c.loop-passes.self c.pass.new.self c.args.out.now.items c.loop-passes.out.items c.pass.new.out.items
    c.in-Some.side (c.loop-passes.invariant first history st) c.loop-passes-test.true c.in-Some.ensures c.in_ok-pass.ensures

pub returns-in_default : goal.returns-in_default
returns-in_default c =
    λ first history st.
    drain_stops history c.args.most first c.args.show c.args.number c.loop-passes.passes c.loop-passes.self _ _
    (c.loop-passes.invariant first history st) c.in_default.ensures

pub returns : goal.returns
returns c =
    λ first history st.
    drain_ends history c.args.most first c.args.show c.args.number c.loop-passes.passes c.loop-passes.self _ _
    (c.loop-passes.invariant first history st) c.loop-passes-test.false
