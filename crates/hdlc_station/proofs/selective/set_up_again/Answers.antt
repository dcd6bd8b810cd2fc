use Rattle.std.proofs.Common.{[], length, refl, ap, sym, ◌∙◌}
use Rattle.std.specs.Prelude.{◌==◌}
use Rattle.hdlc_station_model.specs.Frames.{Ua}
use Rattle.hdlc_station_model.specs.Stations.{no_deed}
use Rattle.hdlc_station_model.specs.Sending.{refuses_frame}
use Rattle.hdlc_station_model.specs.Receiving.{agrees}
use Rattle.hdlc_station_model.specs.Selective.{sets_up_selective_again}
use Rattle.hdlc_station.specs.declared.heard.Reply.TheVariants.{Agreed}
use Rattle.hdlc_station.proofs.Saying.{saying}
use Rattle.hdlc_station.specs.Kept.{KeptStation}
use Rattle.hdlc_station.proofs.Keeping.{keeps_refuses}
use Rattle.hdlc_station.proofs.Moving.{when_so, when_not, row_hears, answers_so, forgotten, none_taken, some_taken}
use Rattle.hdlc_station.proofs.selective.set_up_again.Goals as goal

pub returns-then-has_begun-clause-hears : goal.returns-then-has_begun-clause-hears
returns-then-has_begun-clause-hears c = λ information out out' after w s before h.
    when_not _ _ before _ _ (length s.taken == 0) (agrees c.args.poll (record s { held = []; asked = [] })) (refuses_frame s)
    (some_taken s (sym (ap (λ (k : KeptStation). k.begun) h.stands.is) ∙ sym c.has_begun.ensures ∙ c.if-has_begun.true))
    (row_hears information _ _ _ c.refuse.result c.of.result refuses_frame c.of.ensures c.refuse.ensures.hears keeps_refuses out out' after w s before h)

pub returns-clause-hears : goal.returns-clause-hears
returns-clause-hears c = λ information.
    answers_so information _ _ _ _ _ _ (sets_up_selective_again c.args.poll) c.answering.ensures (rw c.drop_first.ensures (λ out out' e s before h.
    when_so _ _ before _ _ (length s.taken == 0) (agrees c.args.poll (record s { held = []; asked = [] })) (refuses_frame s)
    (none_taken s (sym (ap (λ (k : KeptStation). k.begun) h.stands.is) ∙ sym c.has_begun.ensures ∙ c.if-has_begun.false))
    (forgotten _ _ _ before _ _ no_deed c.args.poll s h c.len.ensures.value (λ t g. saying _ before out out' no_deed t (Ua c.args.poll) (Agreed c.args.poll) refl g e))))
