use Rattle.loop_recordings.proofs.Events.{outcomes_are_short}
use Rattle.loop_recordings.proofs.laws.outcomes_are_short.Goals as goal

pub returns : goal.returns
returns c =
    outcomes_are_short (record {
      frame = c.frame_length.ensures;
      control = c.control_length.ensures;
      in_range = c.reading.ensures.in_range;
      spells = c.reading.ensures.spells;
      joined = c.segments.ensures.joined;
      fit = c.segments.ensures.fit;
      only = c.steps.ensures.only;
      makes = c.valid_sides.ensures.makes;
      stays = c.valid_sides.ensures.stays;
      lengths = c.lengths.ensures.each;
      few = c.lengths.ensures.most;
    })
