use Rattle.er_end_pair_laws.proofs.laws.loss_free_laws_below.Goals as goal

pub returns : goal.returns
returns c = record {
  below = c.laws_below.ensures;
  keep = c.loss_free_keeps.ensures.calls;
  bounds = c.loss_free_keeps.ensures.bounds;
  told = c.releases_are_told.ensures.calls;
  lengths = c.lengths_of_spellings.ensures.kind;
}
