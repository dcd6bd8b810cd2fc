-- What waits is written to the connection at the place, and it is closed, or the next one is looked at.
use Rattle.std.proofs.Common.{arith}
use Rattle.application_loop.proofs.links.Links.settle.Goals.{then-is_done, else-is_done}
use Rattle.application_loop.proofs.links.Links.settle.Goals as goal

pub loop-preserved : goal.loop-preserved
loop-preserved g c =
    let few = c.loop.invariant.few in
    elim c.if-is_done.branch [
      | then-is_done w ↦
          rw (w.self-is, w.outside-is, w.place-is) record {
            few = omega (arith, few);
            rests = λ run beside moment at_rest.
                w.close.ensures.rests run beside c.write.new.desk
                (c.in_ok-write.ensures.serves run beside moment
                (c.in_ok-stall.ensures.serves run beside moment (c.loop.invariant.rests run beside moment at_rest)));
          }
      | else-is_done w ↦
          rw (w.self-is, w.outside-is, w.place-is) record {
            few = omega (arith, few);
            rests = λ run beside moment at_rest.
                c.in_ok-write.ensures.serves run beside moment
                (c.in_ok-stall.ensures.serves run beside moment (c.loop.invariant.rests run beside moment at_rest));
          }
    ]
