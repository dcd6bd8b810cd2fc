-- Nothing was recorded, and the counts are those of no entry.
use Rattle.std.proofs.Common.{[], ap, sym, subst}
use Rattle.counted.specs.Counting.{AreAmong, HaveTallies, lines_recorded_in}
use Rattle.counted.proofs.counted.Counted.new.Goals as goal

pub invariant_of-result : goal.invariant_of-result
unfolding AreAmong HaveTallies
invariant_of-result g c = record {
  counted = ∣ record { entries = []; lines = ap lines_recorded_in c.new-2.ensures; tallies = []; have = tt; are = c.new.ensures.counts } ∣₁;
  among = ∣ subst (λ acts. AreAmong acts (g.O.Outside.told c.args.outside).acts) (sym c.new-2.ensures) tt ∣₁;
}
