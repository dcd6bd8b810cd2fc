-- Each count of a list is a sum over its entries or their outcomes.
use Rattle.counted.proofs.Adding.{opened_with, turned_away_with, said_with, connected_with, accepted_with, refused_with, releases_with}
use Rattle.counted.proofs.laws.rise_by_the_tally.Goals as goal

pub returns : goal.returns
returns c xs x t is = record {
  opened = opened_with xs x t is;
  turned_away = turned_away_with xs x t is;
  said = said_with xs x t is;
  connected = connected_with xs x t is;
  accepted = accepted_with xs x t is;
  refused = refused_with xs x t is;
  releases = releases_with xs x t is;
}
