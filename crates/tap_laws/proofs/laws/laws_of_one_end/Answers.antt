use Rattle.tap_laws.proofs.laws.laws_of_one_end.Goals as goal

pub returns : goal.returns
returns c = record {
  wrapped = c.wrapping.ensures;
  heard_is = c.given_is_heard.ensures;
  sides = c.sides_progress.ensures.progress;
  live = c.sides_progress.ensures.live;
}
