use Rattle.drill_laws.proofs.Talking.{lawful_always}
use Rattle.drill_laws.proofs.laws.lawful.Goals as goal

pub returns : goal.returns
returns c =
    lawful_always c.station_laws.ensures c.talks_are_authentic.ensures c.histories.ensures.facts c.histories.ensures.grow c.histories.ensures.own c.histories.ensures.other
