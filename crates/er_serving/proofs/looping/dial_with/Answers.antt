-- The loop served, its wires failed, the sink did, or memory ran out.
use Rattle.er_serving.proofs.LineEndings.{dial_ends, keeps_loop}
use Rattle.er_serving.proofs.looping.dial_with.Goals as goal

pub returns-clause-ends : goal.returns-clause-ends
returns-clause-ends g c = λ keys entries moment before asked holds.
    let does = rw (c.usual.ensures.value, c.new-pair.ensures) at c.dial-served.ensures.ends in
    dial_ends keys c.args.address.now c.args.pair.engine c.args.pair.rbc c.args.turns entries _ _ before (g.O.Outside.told c.args.outside.now) (g.O.Outside.told c.dial-served.new.outside) (g.O.Outside.told c.ended.new.outside) moment c.args.kmac c.dial-served.result c.ended.result asked holds does c.ended.ensures

pub returns-clause-keeps : goal.returns-clause-keeps
returns-clause-keeps g c = keeps_loop c.dial-served.result (g.O.Outside.told c.args.outside.now) (g.O.Outside.told c.dial-served.new.outside) (g.O.Outside.told c.ended.new.outside) c.ended.result (rw c.usual.ensures.value at c.dial-served.ensures.recorded) c.ended.ensures
