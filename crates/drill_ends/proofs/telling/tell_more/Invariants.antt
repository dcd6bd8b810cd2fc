use Rattle.std.specs.Prelude.{◌≡◌, ◌++◌, map, take}
use Rattle.hdlc_station.specs.Stations.{lent_by}
use Rattle.drill_ends.specs.declared.told.Told.TheVariants as told
use Rattle.drill_ends.proofs.telling.tell_more.Given as goal

-- the first ones are told
abbrev pub invariant-loop-k : goal.invariant-loop-k
invariant-loop-k l = l.told.items ≡ l.fn.told.items ++ map told.Arrived (take l.k (lent_by l.station.places l.more))
