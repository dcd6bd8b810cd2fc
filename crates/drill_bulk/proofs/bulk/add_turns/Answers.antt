use Rattle.drill_bulk.proofs.Turning.{one_more, no_more}
use Rattle.drill_bulk.proofs.bulk.add_turns.Goals as goal

pub loop-index-preserved : goal.loop-index-preserved
loop-index-preserved g c =
    one_more c.loop-index.index c.args.count c.next_u32-word.result _ c.add_turn.new.steps.items _ _ _ c.loop-index-test.true c.next_u32-word.ensures
    c.in_ok-add_turn.ensures c.loop-index.invariant

pub returns : goal.returns
returns g c = no_more c.loop-index.index c.args.count _ _ _ c.loop-index-test.false c.loop-index.invariant
