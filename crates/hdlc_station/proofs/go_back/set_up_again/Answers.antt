use Rattle.std.proofs.Common.{false, length, refl, ap, sym, ◌∙◌}
use Rattle.std.specs.Prelude.{◌==◌}
use Rattle.hdlc_station_model.specs.Frames.{Ua}
use Rattle.hdlc_station_model.specs.Stations.{no_deed}
use Rattle.hdlc_station_model.specs.Sending.{refuses_frame}
use Rattle.hdlc_station_model.specs.Receiving.{agrees}
use Rattle.hdlc_station.specs.Kept.{KeptStation}
use Rattle.hdlc_station.specs.declared.heard.Reply.TheVariants.{Agreed}
use Rattle.hdlc_station.proofs.Following.{stands_yes, stands_no}
use Rattle.hdlc_station.proofs.Saying.{saying}
use Rattle.hdlc_station.proofs.Takes.{none_taken, some_taken}
use Rattle.hdlc_station.proofs.go_back.set_up_again.Goals as goal

pub returns-then-has_begun-clause-hears : goal.returns-then-has_begun-clause-hears
returns-then-has_begun-clause-hears c = λ information out out' e s before h.
    stands_no _ before _ _ (length s.taken == 0) (agrees c.args.poll (record s { gap = false })) (refuses_frame s)
    (some_taken s (sym (ap (λ (k : KeptStation). k.begun) h.is) ∙ sym c.has_begun.ensures ∙ c.if-has_begun.true)) (c.refuse.ensures.hears information out out' e s before h)

pub returns-clause-hears : goal.returns-clause-hears
returns-clause-hears c = λ information out out' e s before h.
    stands_yes _ before _ _ (length s.taken == 0) (agrees c.args.poll (record s { gap = false })) (refuses_frame s)
    (none_taken s (sym (ap (λ (k : KeptStation). k.begun) h.is) ∙ sym c.has_begun.ensures ∙ c.if-has_begun.false))
    (saying _ before out out' no_deed _ (Ua c.args.poll) (Agreed c.args.poll) refl (c.mark_gap.ensures.follows out s before no_deed h) e)
