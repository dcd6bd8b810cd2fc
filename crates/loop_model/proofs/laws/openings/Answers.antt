use Rattle.loop_model.proofs.laws.openings.Goals as goal
use Rattle.loop_model.proofs.Opening.{openings_are_told, dial_is_opened}

pub returns : goal.returns
returns c = record { accepted = openings_are_told; dialled = dial_is_opened }
