-- By the laws of any kind of ends.
use Rattle.application_ends.proofs.Running.{nothing_lost}
use Rattle.application_ends.proofs.laws.loses_nothing.Goals as goal

pub returns : goal.returns
returns c =
    nothing_lost c.steps.ensures.only c.service_is_as_claimed.ensures c.accepted_are_told.ensures c.knows_by_events.ensures.ends
    c.waits_for_room_alone.ensures
