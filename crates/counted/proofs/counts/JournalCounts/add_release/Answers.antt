-- The release of an event, where one came, is the newest, and has its place among the counts.
use Rattle.std.proofs.Common.{◌++◌, ap, ◌∙◌, sym, length, ◌-◌}
use Rattle.std.specs.Prelude.{slice_get}
use Rattle.journal.specs.Tallies.{release_or_none}
use Rattle.counted.specs.Counting.{counts_of_releases}
use Rattle.counted.specs.Kept.{kept_with_release}
use Rattle.counted.proofs.Table.{table_with}
use Rattle.counted.proofs.Adding.{newest_last}
use Rattle.counted.proofs.counts.JournalCounts.add_release.Goals as goal

pub returns-clause-releases : goal.returns-clause-releases
returns-clause-releases c rs h =
    c.keep.ensures ∙ ap (kept_with_release c.in-Some.release) h ∙ table_with c.in-Some.release rs ∙
    ap (λ released. counts_of_releases (rs ++ release_or_none released)) (sym c.in-Some.is)

pub returns-clause-newest : goal.returns-clause-newest
returns-clause-newest c rs h =
    sym (newest_last rs c.in-Some.release) ∙
    ap (λ released. slice_get (rs ++ release_or_none released) (length (rs ++ release_or_none released) - 1)) (sym c.in-Some.is)
