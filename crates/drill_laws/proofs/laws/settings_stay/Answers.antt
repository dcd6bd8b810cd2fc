use Rattle.drill_laws.proofs.SettingsStay.{settings_stay}
use Rattle.drill_laws.proofs.laws.settings_stay.Goals as goal

pub returns : goal.returns
returns c = settings_stay c.histories.ensures.grow c.histories.ensures.own c.histories.ensures.other
