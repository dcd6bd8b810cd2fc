-- The counts so far.
use Rattle.std.proofs.Common.{◌≡◌, ◌<◌, ◌∷◌, ℕ, length, get_or}
use Rattle.relay_script.specs.declared.unit_kind.UnitKind.TheVariants.{Any}
use Rattle.relay_carrier.specs.Counting.{one_more_if}
use Rattle.relay_carrier.specs.Kinds.{kinds_but_any, is_at_place}
use Rattle.relay_carrier.proofs.counts.counted_all.Given as goal

abbrev pub invariant-places : goal.invariant-places
invariant-places l = record {
  so_far : (k : ℕ) → k < l.place → get_or l.more k 0 ≡ one_more_if (is_at_place k (Any ∷ kinds_but_any l.kinds)) (get_or l.counts k 0);
  long : length l.more ≡ 20;
}
