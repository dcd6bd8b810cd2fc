-- The connection at the place is closed, or the next one is looked at.
use Rattle.std.proofs.Common.{arith}
use Rattle.application_loop.proofs.links.Links.close_expired.Goals.{then-is_expired, else-is_expired}
use Rattle.application_loop.proofs.links.Links.close_expired.Goals as goal

pub loop-preserved : goal.loop-preserved
loop-preserved g c =
    let few = c.loop.invariant.few in
    elim c.if-is_expired.branch [
      | then-is_expired w ↦
          rw (w.self-is, w.outside-is, w.place-is) record {
            few = omega (arith, few);
            rests = λ run beside desk at_rest. w.close.ensures.rests run beside desk (c.loop.invariant.rests run beside desk at_rest);
          }
      | else-is_expired w ↦
          rw (w.self-is, w.outside-is, w.place-is) record {
            few = omega (arith, few);
            rests = c.loop.invariant.rests;
          }
    ]
