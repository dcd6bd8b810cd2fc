-- What is held is heard, piece by piece.
use Rattle.application_loop.proofs.RequestParts.{resting_broke_off}
use Rattle.application_loop.proofs.live_service.LiveService.hear_held.Goals as goal

pub loop-init : goal.loop-init
loop-init g c = λ run rests. rests

pub returns-in_err-hear_piece : goal.returns-in_err-hear_piece
returns-in_err-hear_piece g c = record {
  rests = λ run rests.
      resting_broke_off _ _ _ c.from_residual.result c.from_residual.ensures.1 (c.in_err-hear_piece.ensures.rests run (c.loop.invariant run rests));
}

pub returns-then-not-branch : goal.returns-then-not-branch
returns-then-not-branch g c = record { rests = λ run rests. c.in_ok-hear_piece.ensures.rests run (c.loop.invariant run rests) }

pub loop-preserved : goal.loop-preserved
loop-preserved g c = λ run rests. c.in_ok-hear_piece.ensures.rests run (c.loop.invariant run rests)

pub returns : goal.returns
returns g c = record { rests = λ run rests. c.loop.invariant run rests }
