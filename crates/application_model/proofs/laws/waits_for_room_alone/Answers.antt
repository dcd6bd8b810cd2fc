-- Behind each happening all is taken that there is room for.
use Rattle.application_model.proofs.Takings.{waits_for_room}
use Rattle.application_model.proofs.laws.waits_for_room_alone.Goals as goal

pub returns : goal.returns
returns c = waits_for_room
