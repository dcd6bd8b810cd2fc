use Rattle.std.proofs.Common.{ap}
use Rattle.er_world.proofs.Opening.{opens_fixed}
use Rattle.er_world.proofs.openings.fixed.Goals as goal

pub returns : goal.returns
returns c =
    λ settings now show number text at.
    opens_fixed c.args.engine c.args.rbc c.args.ke c.args.kr _ _ _ _ c.new-4.result settings show number text
    c.new-4.ensures (ap (λ k. k.safety) (rw c.new.ensures at c.fixed.ensures.made)) (ap (λ k. k.safety) (rw c.new-2.ensures at c.fixed-2.ensures.made)) c.new-3.ensures now at
