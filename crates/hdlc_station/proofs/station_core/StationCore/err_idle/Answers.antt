use Rattle.std.proofs.Common.{ap, sym, ◌∙◌}
use Rattle.hdlc_station_model.specs.Sending.{refuses_frame}
use Rattle.hdlc_station_model.specs.Receiving.{strays}
use Rattle.hdlc_station.specs.Kept.{KeptStation}
use Rattle.hdlc_station.proofs.Following.{stands_yes, stands_no}
use Rattle.hdlc_station.proofs.station_core.StationCore.err_idle.Goals as goal

pub returns-then-self-clause-hears : goal.returns-then-self-clause-hears
returns-then-self-clause-hears c = λ information out out' e s before h.
    stands_yes _ before _ _ s.calling (refuses_frame s) (strays s) (sym (ap (λ (k : KeptStation). k.calling) (c.self.view_is ∙ h.is)) ∙ c.if-self.true) (c.refuse.ensures.hears information out out' e s before h)

pub returns-clause-hears : goal.returns-clause-hears
returns-clause-hears c = λ information out out' e s before h.
    stands_no _ before _ _ s.calling (refuses_frame s) (strays s) (sym (ap (λ (k : KeptStation). k.calling) (c.self.view_is ∙ h.is)) ∙ c.if-self.false) (c.stray.ensures.hears information out out' e s before h)
