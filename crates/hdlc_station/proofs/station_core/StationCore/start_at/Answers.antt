use Rattle.std.proofs.Common.{ap, sym, ◌∙◌}
use Rattle.hdlc_station_model.specs.declared.phase.Phase.TheVariants.{Idle, Setting, Up, Down}
use Rattle.hdlc_station_model.specs.Calls.{starts_at}
use Rattle.hdlc_station.specs.Kept.{KeptStation}
use Rattle.hdlc_station.proofs.Following.{by_phase}
use Rattle.hdlc_station.proofs.Saying.{silent}
use Rattle.hdlc_station.proofs.station_core.StationCore.start_at.Goals as goal

pub returns-in-Idle-clause-answers : goal.returns-in-Idle-clause-answers
returns-in-Idle-clause-answers c = λ out out' e s before d h.
    by_phase starts_at _ before _ d s Idle (sym c.in-Idle.is ∙ ap (λ (k : KeptStation). k.phase) (c.self.view_is ∙ h.is)) (c.start_idle.ensures.answers out out' e s before d h)

pub returns-in-Setting-clause-answers : goal.returns-in-Setting-clause-answers
returns-in-Setting-clause-answers c = λ out out' e s before d h.
    by_phase starts_at _ before _ d s Setting (sym c.in-Setting.is ∙ ap (λ (k : KeptStation). k.phase) (c.self.view_is ∙ h.is)) (silent _ before out out' d s h e)

pub returns-in-Up-clause-answers : goal.returns-in-Up-clause-answers
returns-in-Up-clause-answers c = λ out out' e s before d h.
    by_phase starts_at _ before _ d s Up (sym c.in-Up.is ∙ ap (λ (k : KeptStation). k.phase) (c.self.view_is ∙ h.is)) (silent _ before out out' d s h e)

pub returns-in-Down-clause-answers : goal.returns-in-Down-clause-answers
returns-in-Down-clause-answers c = λ out out' e s before d h.
    by_phase starts_at _ before _ d s Down (sym c.in-Down.is ∙ ap (λ (k : KeptStation). k.phase) (c.self.view_is ∙ h.is)) (silent _ before out out' d s h e)
