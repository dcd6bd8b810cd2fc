-- Some calls came to each end so far.
use Rattle.embedded_end.specs.Sides.{UserGoesOn}
use Rattle.embedded_end.proofs.talk.carry.Given as goal

abbrev pub invariant-loop-pass : goal.invariant-loop-pass
invariant-loop-pass l = UserGoesOn l.fn.engine l.engine × UserGoesOn l.fn.centre l.centre
