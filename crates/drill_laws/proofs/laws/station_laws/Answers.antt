use Rattle.drill_laws.proofs.laws.station_laws.Goals as goal

pub returns : goal.returns
returns c = record {
  frames_give = c.frames_give.ensures;
  ticks_give = c.ticks_give.ensures;
  hands_keep = c.others_keep.ensures.hands;
  others_keep = c.others_keep.ensures.others;
  releases = c.releases_are_told.ensures.calls;
  finish = c.releases_are_told.ensures.finish;
  inert = c.released_are_inert.ensures;
}
