use Rattle.tap_laws.proofs.OwnGreets.{own_recording_is_good}
use Rattle.tap_laws.proofs.laws.own_recording_is_good.Goals as goal

pub returns : goal.returns
returns c =
    own_recording_is_good (record {
      wrapped = c.wrapping.ensures;
      itself = c.frame_reads_as_itself.ensures;
      parts = c.flag_parts.ensures;
      back = c.control_reads_back.ensures;
      bounded = c.allowed_are_bounded.ensures;
      in_range = c.reading.ensures.in_range;
      short = c.writing.ensures.short;
      read_back = c.writing.ensures.read_back;
      text_back = c.spelled_is_read.ensures;
      lengths = c.lengths_of_spellings.ensures.kind;
      mac_below = c.mac_below.ensures;
      steps = c.steps.ensures.only;
    }) c.accepted_is_good.ensures
