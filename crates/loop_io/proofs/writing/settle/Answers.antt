use Rattle.std.proofs.Common.{sym, ◌∙◌}
use Rattle.loop_io.proofs.Writings.{settles_not, settles_closed, keep_close}
use Rattle.loop_io.proofs.writing.settle.Goals as goal

pub returns-clause-settles : goal.returns-clause-settles
returns-clause-settles g c = settles_not (g.O.Outside.told c.args.outside.now) c.args.session.now (sym c.is_done.ensures ∙ c.if-is_done.false)

pub returns-then-is_done-clause-settles : goal.returns-then-is_done-clause-settles
returns-then-is_done-clause-settles g c =
    settles_closed (g.O.Outside.told c.args.outside.now) (g.O.Outside.told c.close.new.self) c.args.session.now c.number.result
    (sym c.is_done.ensures ∙ c.if-is_done.true) c.number.ensures c.close.ensures.does

pub returns-then-is_done-clause-keep : goal.returns-then-is_done-clause-keep
returns-then-is_done-clause-keep g c = keep_close _ _ c.number.result c.close.ensures.does
