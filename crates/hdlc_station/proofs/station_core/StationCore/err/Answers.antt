use Rattle.std.proofs.Common.{ap, sym, ◌∙◌}
use Rattle.hdlc_station_model.specs.declared.phase.Phase.TheVariants.{Idle, Setting, Up, Down}
use Rattle.hdlc_station_model.specs.Stations.{no_deed}
use Rattle.hdlc_station_model.specs.Receiving.{errs}
use Rattle.hdlc_station.specs.Kept.{KeptStation}
use Rattle.hdlc_station.proofs.Following.{by_phase}
use Rattle.hdlc_station.proofs.Saying.{silent}
use Rattle.hdlc_station.proofs.station_core.StationCore.err.Goals as goal

pub returns-in-Idle-clause-hears : goal.returns-in-Idle-clause-hears
returns-in-Idle-clause-hears c = λ information out out' e s before h.
    by_phase errs _ before _ _ s Idle (sym c.in-Idle.is ∙ ap (λ (k : KeptStation). k.phase) (c.self.view_is ∙ h.is)) (c.err_idle.ensures.hears information out out' e s before h)

pub returns-in-Setting-clause-hears : goal.returns-in-Setting-clause-hears
returns-in-Setting-clause-hears c = λ information out out' e s before h.
    by_phase errs _ before _ _ s Setting (sym c.in-Setting.is ∙ ap (λ (k : KeptStation). k.phase) (c.self.view_is ∙ h.is)) (c.refuse.ensures.hears information out out' e s before h)

pub returns-in-Up-clause-hears : goal.returns-in-Up-clause-hears
returns-in-Up-clause-hears c = λ information out out' e s before h.
    by_phase errs _ before _ _ s Up (sym c.in-Up.is ∙ ap (λ (k : KeptStation). k.phase) (c.self.view_is ∙ h.is)) (c.refuse-in-Up.ensures.hears information out out' e s before h)

pub returns-in-Down-clause-hears : goal.returns-in-Down-clause-hears
returns-in-Down-clause-hears c = rw c.nothing.ensures (λ information out out' e s before h.
    by_phase errs _ before _ _ s Down (sym c.in-Down.is ∙ ap (λ (k : KeptStation). k.phase) (c.self.view_is ∙ h.is)) (silent _ before out out' no_deed s h e))
