-- The loop served, its wires failed, the sink did, or memory ran out.
use Rattle.std.proofs.lemmas.Result.{IfOk-weaker}
use Rattle.er_serving.specs.LineCommands.{Serve}
use Rattle.er_serving.specs.Outsides.{traffic_at}
use Rattle.er_serving.proofs.LineEndings.{loop_ends, keeps_loop}
use Rattle.er_serving.proofs.looping.serve_with.Goals as goal

pub returns-clause-ends : goal.returns-clause-ends
returns-clause-ends g c = λ keys.
    let does = rw c.usual.ensures.value at c.serve-served.ensures.ends in
    loop_ends (Serve keys c.args.address.now c.args.rbc c.args.turns) _ _ (traffic_at (g.O.Outside.told c.args.outside.now)) (g.O.Outside.told c.serve-served.new.outside) (g.O.Outside.told c.ended.new.outside) c.serve-served.result c.ended.result
    (IfOk-weaker c.serve-served.result _ _ (λ s has. record { turns = s.turns; why = s.why; has = has }) does.served)
    (λ is. (_, does.wires is)) does.rose does.sink does.sunk does.memory does.sink_count c.ended.ensures

pub returns-clause-keeps : goal.returns-clause-keeps
returns-clause-keeps g c = keeps_loop c.serve-served.result (g.O.Outside.told c.args.outside.now) (g.O.Outside.told c.serve-served.new.outside) (g.O.Outside.told c.ended.new.outside) c.ended.result (rw c.usual.ensures.value at c.serve-served.ensures.recorded) c.ended.ensures
