use Rattle.std.proofs.Common.{ap, sym, ◌∙◌}
use Rattle.hdlc_station_model.specs.Stations.{is_down}
use Rattle.hdlc_station_model.specs.Sending.{settles}
use Rattle.hdlc_station.specs.Kept.{KeptStation}
use Rattle.hdlc_station.proofs.Following.{stands_yes, stands_no}
use Rattle.hdlc_station.proofs.Saying.{silent}
use Rattle.hdlc_station.proofs.station_core.StationCore.finish.Goals as goal

pub returns-clause-answers : goal.returns-clause-answers
returns-clause-answers c = λ out out' e s before d h.
    stands_no _ before _ d (is_down s.phase) s (settles s) (sym (ap (λ (k : KeptStation). is_down k.phase) h.is) ∙ sym c.is_down.ensures ∙ c.if-is_down.false) (c.settle.ensures.answers out out' e s before d h)

pub returns-then-is_down-clause-answers : goal.returns-then-is_down-clause-answers
returns-then-is_down-clause-answers c = λ out out' e s before d h.
    stands_yes _ before _ d (is_down s.phase) s (settles s) (sym (ap (λ (k : KeptStation). is_down k.phase) h.is) ∙ sym c.is_down.ensures ∙ c.if-is_down.true) (silent _ before out out' d s h e)
