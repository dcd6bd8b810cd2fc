use Rattle.std.proofs.Common.{ℕ, ap, ◌∙◌}
use Rattle.hdlc_station_model.specs.Stations.{Deed}
use Rattle.hdlc_station.specs.Places.{lent}
use Rattle.hdlc_station.specs.Told.{deed_with}
use Rattle.hdlc_station.proofs.selective_heard.SelectiveBrought.of.Goals as goal

pub returns-clause-deed : goal.returns-clause-deed
returns-clause-deed c = λ places.
    ap (λ (n : ℕ). deed_with (lent n places) c.of.result) c.of.ensures.more
    ∙ ap (λ (d : Deed). record d { more = lent c.args.heard.more places }) c.of.ensures.deed
