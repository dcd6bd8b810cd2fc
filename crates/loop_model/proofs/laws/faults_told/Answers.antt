use Rattle.loop_model.proofs.EndKeepings.{steps_alike, made_stands, shows_alike, release_stays, breaks_release}
use Rattle.loop_model.proofs.laws.faults_told.Goals as goal
use Rattle.loop_model.proofs.Faulting.{faults_are_told}
use Rattle.loop_model.proofs.Placing.{faults_are_in_place}

pub returns : goal.returns
returns c = record { one = faults_are_told steps_alike made_stands shows_alike release_stays breaks_release; place = faults_are_in_place }
