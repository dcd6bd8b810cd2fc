use Rattle.er_end_promises.proofs.Resting.{released_ends_rest}
use Rattle.er_end_promises.proofs.laws.rests_after_release.Goals as goal

pub returns : goal.returns
returns c = released_ends_rest
