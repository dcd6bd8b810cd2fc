use Rattle.loop_model.proofs.laws.cuts.Goals as goal
use Rattle.loop_model.proofs.Cutting.{events_are_cut, turns_cut, rests_are_dropped}

pub returns : goal.returns
returns c = record { events = events_are_cut; turns = turns_cut; dropped = rests_are_dropped }
