use Rattle.tap_laws.proofs.laws.laws_of_two_ends.Goals as goal

pub returns : goal.returns
returns c = record {
  one = c.laws_of_one_end.ensures;
  prefix = c.prefix.ensures;
  greets = c.greets.ensures;
  streams = c.octets_are_heard.ensures.stream;
  runs = c.ends_are_runs.ensures;
}
