use Rattle.drill_laws.proofs.Recovering.{repairs_always, drains_always}
use Rattle.drill_laws.proofs.laws.recovery.Goals as goal

pub returns : goal.returns
returns c =
    record {
      repairs = repairs_always c.station_laws.ensures c.allowed_are_bounded.ensures c.histories.ensures.facts c.histories.ensures.grow c.histories.ensures.own c.histories.ensures.other
          c.stack_laws.ensures c.runs_grow.ensures.run c.recovery.ensures.recovered c.recovery-2.ensures.recovered;
      drains = drains_always c.station_laws.ensures c.allowed_are_bounded.ensures c.histories.ensures.facts c.histories.ensures.grow c.histories.ensures.own c.histories.ensures.other
          c.passes_are_bounded.ensures.drain;
    }
