use Rattle.std.proofs.Common.{refl, ap, sym, subst, ◌∙◌}
use Rattle.hdlc_station_model.specs.declared.phase.Phase.TheVariants.{Setting}
use Rattle.hdlc_station_model.specs.Frames.{SetUp}
use Rattle.hdlc_station_model.specs.Stations.{puts}
use Rattle.hdlc_station_model.specs.Sending.{starts_timer}
use Rattle.hdlc_station.specs.Kept.{KeptStation, Stands}
use Rattle.hdlc_station.specs.declared.heard.Reply.TheVariants as reply
use Rattle.hdlc_station.proofs.Following.{stands_yes, stands_no}
use Rattle.hdlc_station.proofs.Saying.{silent, saying}
use Rattle.hdlc_station.proofs.Sends.{phased}
use Rattle.hdlc_station.proofs.station_core.StationCore.start_idle.Goals as goal

pub returns-clause-answers : goal.returns-clause-answers
returns-clause-answers c = λ out out' e s before d h.
    let v = c.self.view_is in
    let begun = subst (λ (k : KeptStation). Stands (record k { phase = Setting }) before out d (record s { phase = Setting })) (sym v) (phased _ before out d s Setting h) in
    stands_yes _ before _ d s.calling (starts_timer (puts SetUp (record s { phase = Setting }))) s (sym (ap (λ (k : KeptStation). k.calling) (v ∙ h.is)) ∙ c.if-not-self.false)
    (saying _ before out out' d _ SetUp reply.SetUp refl (c.start_timer.ensures.follows out _ before d begun) e)

pub returns-then-not-self-clause-answers : goal.returns-then-not-self-clause-answers
returns-then-not-self-clause-answers c = λ out out' e s before d h.
    stands_no _ before _ d s.calling (starts_timer (puts SetUp (record s { phase = Setting }))) s (sym (ap (λ (k : KeptStation). k.calling) (c.self.view_is ∙ h.is)) ∙ c.if-not-self.true)
    (silent _ before out out' d s h e)
