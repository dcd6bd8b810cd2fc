use Rattle.std.proofs.Common.{ap, sym, ◌∙◌}
use Rattle.hdlc_station_model.specs.Stations.{sees, is_down}
use Rattle.hdlc_station_model.specs.Calls.{starts_at}
use Rattle.hdlc_station.specs.Kept.{KeptStation}
use Rattle.hdlc_station.proofs.Following.{stands_yes, stands_no}
use Rattle.hdlc_station.proofs.Saying.{silent}
use Rattle.hdlc_station.proofs.station_core.StationCore.start.Goals as goal

pub returns-clause-answers : goal.returns-clause-answers
returns-clause-answers c = λ out out' e s before d h.
    stands_no _ before _ d (is_down s.phase) s (starts_at s.phase (sees c.args.now s)) (sym (ap (λ (k : KeptStation). is_down k.phase) h.is) ∙ sym c.is_down.ensures ∙ c.if-is_down.false)
    (c.start_at.ensures.answers out out' e _ before d (c.see.ensures.follows out s before d h))

pub returns-then-is_down-clause-answers : goal.returns-then-is_down-clause-answers
returns-then-is_down-clause-answers c = λ out out' e s before d h.
    stands_yes _ before _ d (is_down s.phase) s (starts_at s.phase (sees c.args.now s)) (sym (ap (λ (k : KeptStation). is_down k.phase) h.is) ∙ sym c.is_down.ensures ∙ c.if-is_down.true) (silent _ before out out' d s h e)
