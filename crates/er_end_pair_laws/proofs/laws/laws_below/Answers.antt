use Rattle.er_end_pair_laws.proofs.laws.laws_below.Goals as goal

pub returns : goal.returns
returns c = record {
  bounded = c.allowed_are_bounded.ensures;
  keep = c.calls_keep.ensures.pair;
  receives = c.calls_keep.ensures.receives;
  ticks = c.calls_keep.ensures.ticks;
  phases = c.calls_keep.ensures.phases;
  received = c.receives_give.ensures;
  ticked = c.ticks_give.ensures;
  hands = c.others_keep.ensures.hands;
  others = c.others_keep.ensures.others;
  wrapped = c.wrapping.ensures;
  reading = c.writing.ensures.read_back;
  short = c.writing.ensures.short;
  joined = c.segments.ensures.joined;
  parts = c.segments.ensures.parts;
  fit = c.segments.ensures.fit;
  few = c.segments.ensures.few;
  most = c.segments.ensures.most;
  all = c.segments.ensures.all;
  tested = c.messages.ensures;
  spelled = c.lengths_of_spellings.ensures.few;
  safety = record {
    only = c.steps.ensures.only;
    each = c.steps.ensures.each;
    few = c.lengths.ensures.most;
    back = c.spelled_is_read.ensures;
    below = c.mac_below.ensures;
  };
}
