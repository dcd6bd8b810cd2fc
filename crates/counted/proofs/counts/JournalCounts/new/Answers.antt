-- Of no entries all counts are 0.
use Rattle.std.proofs.Common.{refl}
use Rattle.counted.specs.Counting.{different_releases}
use Rattle.counted.proofs.counts.JournalCounts.new.Goals as goal

pub returns : goal.returns
unfolding different_releases
returns c = record {
  counts = record {
    opened = refl;
    turned_away = refl;
    connected = refl;
    accepted = refl;
    said = refl;
    refused = refl;
    releases = c.new.ensures;
    newest = refl;
  };
  ignored = refl;
}
