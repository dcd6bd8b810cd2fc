-- Representation: what one release more does to the counts that are kept, and how the acts of a recording lie among all acts.
use Rattle.std.specs.Prelude.{◌+◌, nat_lt, Bool, List, [], ◌∷◌, ◌++◌, length, map, if◌then◌else◌}
use Rattle.std.specs.List.{list_any}
use Rattle.er_base.specs.declared.release.Release.{Release}
use Rattle.counted.specs.Counting.{is_same_release, shown_count}
use Rattle.counted.specs.declared.release_count.ReleaseCount.{ReleaseCount}

-- one more where it is of this release
abbrev pub raised_by : Release → ReleaseCount → ReleaseCount
raised_by release kept =
    if is_same_release kept.release release then record kept { count = shown_count (kept.count + 1) } else kept

abbrev pub is_kept : Release → List ReleaseCount → Bool
is_kept release counts = list_any (λ (kept : ReleaseCount). is_same_release kept.release release) counts

-- one that isn't kept gets a place while there are places
unfoldable pub kept_with_release : Release → List ReleaseCount → List ReleaseCount
kept_with_release release counts =
    if is_kept release counts then map (raised_by release) counts
    else if nat_lt (length counts) 64 then counts ++ record { release = release; count = 1 } ∷ []
    else counts
