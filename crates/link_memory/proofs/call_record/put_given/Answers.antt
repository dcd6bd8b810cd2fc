use Rattle.link_memory.proofs.Giving.{given_next, begins_more}
use Rattle.link_memory.proofs.call_record.put_given.Goals as goal

pub loop-call-preserved : goal.loop-call-preserved
loop-call-preserved c = record {
  so_far = λ acts.
      given_next acts c.args.conn c.args.kept.now c.args.octets.now c.loop-call.left.now c.loop-call.call-index _ c.front-own.result.now c.given_by.result.now c.behind-left.result.now
      c.args.out.now.items c.loop-call.out.items c.extend_from_slice.new.self.items
      c.loop-call-test.true c.front-own.ensures (c.given_by.ensures acts) c.behind-left.ensures c.in_ok-extend_from_slice.ensures.items (c.loop-call.invariant.so_far acts);
  begins = begins_more c.args.out.now.items c.loop-call.out.items c.given_by.result.now c.extend_from_slice.new.self.items c.loop-call.invariant.begins c.in_ok-extend_from_slice.ensures.items;
}
