use Rattle.std.proofs.Common.{ap, sym, ◌∙◌}
use Rattle.hdlc_station_model.specs.Stations.{no_deed}
use Rattle.hdlc_station_model.specs.Sending.{is_due, expires}
use Rattle.hdlc_station.specs.Kept.{KeptStation}
use Rattle.hdlc_station.proofs.Following.{stands_yes, stands_no}
use Rattle.hdlc_station.proofs.Saying.{silent}
use Rattle.hdlc_station.proofs.station_core.StationCore.expire_if_due.Goals as goal

pub returns-then-is_due-clause-expires : goal.returns-then-is_due-clause-expires
returns-then-is_due-clause-expires c = λ out out' e s before h.
    stands_yes _ before _ _ (is_due s.timer s.moment) (expires s) s (sym (ap (λ (k : KeptStation). is_due k.timer k.moment) h.is) ∙ sym c.is_due.ensures ∙ c.if-is_due.true) (c.expire.ensures.expires out out' e s before h)

pub returns-clause-expires : goal.returns-clause-expires
returns-clause-expires c = rw c.nothing.ensures (λ out out' e s before h.
    stands_no _ before _ _ (is_due s.timer s.moment) (expires s) s (sym (ap (λ (k : KeptStation). is_due k.timer k.moment) h.is) ∙ sym c.is_due.ensures ∙ c.if-is_due.false) (silent _ before out out' no_deed s h e))
