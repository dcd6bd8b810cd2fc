use Rattle.std.proofs.Common.{◌%◌, length, ap, sym, ◌∙◌, eq-eqb, ne_eqb}
use Rattle.std.specs.Prelude.{◌==◌}
use Rattle.hdlc_station_model.specs.Frames.{modulo}
use Rattle.hdlc_station_model.specs.Stations.{no_deed}
use Rattle.hdlc_station_model.specs.Receiving.{accepts, rejects}
use Rattle.hdlc_station.specs.Kept.{KeptStation}
use Rattle.hdlc_station.proofs.Following.{stands_yes, stands_no}
use Rattle.hdlc_station.proofs.Saying.{silent}
use Rattle.hdlc_station.proofs.go_back.take.Goals as goal

pub returns-then-vr-ns-clause-hears : goal.returns-then-vr-ns-clause-hears
returns-then-vr-ns-clause-hears c = λ payload out out' e s before h.
    stands_yes _ before _ _ (length s.taken % modulo s.extended == c.args.ns) (accepts payload s) (rejects s)
    (eq-eqb (length s.taken % modulo s.extended) c.args.ns (sym (ap (λ (k : KeptStation). k.vr) h.is) ∙ sym c.vr.ensures ∙ c.if-vr-ns.true))
    (silent _ before out out' _ _ (c.accept.ensures.tells payload out s before h) e)

pub returns-clause-hears : goal.returns-clause-hears
returns-clause-hears c = λ payload out out' e s before h.
    stands_no _ before _ _ (length s.taken % modulo s.extended == c.args.ns) (accepts payload s) (rejects s)
    (ne_eqb (length s.taken % modulo s.extended) c.args.ns (λ x. c.if-vr-ns.false (c.vr.ensures ∙ ap (λ (k : KeptStation). k.vr) h.is ∙ x)))
    (c.reject.ensures.answers out out' e s before no_deed h)
