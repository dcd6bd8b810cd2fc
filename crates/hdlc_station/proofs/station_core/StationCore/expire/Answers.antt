use Rattle.std.proofs.Common.{ap, sym, ◌∙◌}
use Rattle.hdlc_station_model.specs.declared.phase.Phase.TheVariants.{Idle, Setting, Up, Down}
use Rattle.hdlc_station_model.specs.Stations.{no_deed}
use Rattle.hdlc_station_model.specs.Sending.{expires_at}
use Rattle.hdlc_station.specs.Kept.{KeptStation}
use Rattle.hdlc_station.proofs.Following.{by_phase}
use Rattle.hdlc_station.proofs.Saying.{silent}
use Rattle.hdlc_station.proofs.station_core.StationCore.expire.Goals as goal

pub returns-in-Idle-clause-expires : goal.returns-in-Idle-clause-expires
returns-in-Idle-clause-expires c = rw c.nothing.ensures (λ out out' e s before h.
    by_phase expires_at _ before _ _ s Idle (sym c.in-Idle.is ∙ ap (λ (k : KeptStation). k.phase) (c.self.view_is ∙ h.is)) (silent _ before out out' no_deed s h e))

pub returns-in-Setting-clause-expires : goal.returns-in-Setting-clause-expires
returns-in-Setting-clause-expires c = λ out out' e s before h.
    by_phase expires_at _ before _ _ s Setting (sym c.in-Setting.is ∙ ap (λ (k : KeptStation). k.phase) (c.self.view_is ∙ h.is)) (c.expire_setting.ensures.expires out out' e s before h)

pub returns-in-Up-clause-expires : goal.returns-in-Up-clause-expires
returns-in-Up-clause-expires c = λ out out' e s before h.
    by_phase expires_at _ before _ _ s Up (sym c.in-Up.is ∙ ap (λ (k : KeptStation). k.phase) (c.self.view_is ∙ h.is)) (c.expire_up.ensures.expires out out' e s before h)

pub returns-in-Down-clause-expires : goal.returns-in-Down-clause-expires
returns-in-Down-clause-expires c = rw c.nothing-in-Down.ensures (λ out out' e s before h.
    by_phase expires_at _ before _ _ s Down (sym c.in-Down.is ∙ ap (λ (k : KeptStation). k.phase) (c.self.view_is ∙ h.is)) (silent _ before out out' no_deed s h e))
