-- The key that holds, and none.
use Rattle.std.proofs.Common.{sym}
use Rattle.er_serving.proofs.LineEndings.{call_lacks, keeps_asked, keeps_lacking}
use Rattle.er_serving.proofs.looping.call_with.Goals as goal

pub returns-in-Some-clause-ends : goal.returns-in-Some-clause-ends
returns-in-Some-clause-ends g c = λ keys.
    c.dial_with.ensures.ends keys _ c.moment.result _ c.moment.ensures.does (sym (rw c.new-now.ensures at c.in-Some.ensures.found))

pub returns-in-Some-clause-keeps : goal.returns-in-Some-clause-keeps
returns-in-Some-clause-keeps g c = keeps_asked (g.O.Outside.told c.args.outside.now) (g.O.Outside.told c.moment.new.self) (g.O.Outside.told c.dial_with.new.outside) c.moment.result c.moment.ensures.does c.dial_with.ensures.keeps

pub returns-in-None-clause-ends : goal.returns-in-None-clause-ends
returns-in-None-clause-ends g c = λ keys.
    call_lacks keys c.args.address.now c.args.pair.engine c.args.pair.rbc c.args.turns _ _ (g.O.Outside.told c.args.outside.now) (g.O.Outside.told c.moment.new.self) (g.O.Outside.told c.no_key.new.outside) c.moment.result c.no_key.result c.moment.ensures.does
    (sym (rw c.new-now.ensures at c.in-None.ensures.found)) c.no_key.ensures.does

pub returns-in-None-clause-keeps : goal.returns-in-None-clause-keeps
returns-in-None-clause-keeps g c =
    keeps_lacking (g.O.Outside.told c.args.outside.now) (g.O.Outside.told c.moment.new.self) (g.O.Outside.told c.no_key.new.outside) c.moment.result c.args.pair.engine c.args.pair.rbc c.no_key.result c.moment.ensures.does c.no_key.ensures.does
