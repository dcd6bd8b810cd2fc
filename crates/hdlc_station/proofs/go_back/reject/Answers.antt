use Rattle.std.proofs.Common.{length, true, refl, ap, sym, ◌∙◌}
use Rattle.hdlc_station_model.specs.Frames.{Rr, Rej}
use Rattle.hdlc_station_model.specs.Stations.{puts}
use Rattle.hdlc_station.specs.Kept.{KeptStation}
use Rattle.hdlc_station.specs.declared.heard.Reply.TheVariants.{Ready, Reject}
use Rattle.hdlc_station.proofs.Following.{stands_yes, stands_no}
use Rattle.hdlc_station.proofs.Saying.{saying}
use Rattle.hdlc_station.proofs.go_back.reject.Goals as goal

pub returns-then-has_gap-clause-answers : goal.returns-then-has_gap-clause-answers
returns-then-has_gap-clause-answers c = λ out out' e s before d h.
    stands_yes _ before _ d s.gap (puts (Rr (length s.taken)) s) (puts (Rej (length s.taken)) (record s { gap = true })) (sym (ap (λ (k : KeptStation). k.gap) h.is) ∙ sym c.has_gap.ensures ∙ c.if-has_gap.true)
    (saying _ before out out' d s (Rr (length s.taken)) Ready refl h e)

pub returns-clause-answers : goal.returns-clause-answers
returns-clause-answers c = λ out out' e s before d h.
    stands_no _ before _ d s.gap (puts (Rr (length s.taken)) s) (puts (Rej (length s.taken)) (record s { gap = true })) (sym (ap (λ (k : KeptStation). k.gap) h.is) ∙ sym c.has_gap.ensures ∙ c.if-has_gap.false)
    (saying _ before out out' d (record s { gap = true }) (Rej (length s.taken)) Reject refl (c.mark_gap.ensures.follows out s before d h) e)
