use Rattle.std.proofs.Common.{ap, sym, ◌∙◌, arith}
use Rattle.hdlc_frames.specs.Shown.{verdict_of_octets_found}
use Rattle.hdlc_station_model.specs.Stations.{no_deed, sees, is_down}
use Rattle.hdlc_station_model.specs.Sending.{sends_waiting}
use Rattle.hdlc_station_model.specs.Selective.{selective_hears}
use Rattle.hdlc_station.specs.Kept.{KeptStation}
use Rattle.hdlc_station.proofs.Keeping.{keeps_sees, keeps_waiting}
use Rattle.hdlc_station.proofs.Moving.{when_so, when_not, lifts, tells_nothing}
use Rattle.hdlc_station.proofs.selective.receive.Goals as goal

pub returns-then-is_down-clause-tells : goal.returns-then-is_down-clause-tells
returns-then-is_down-clause-tells c = λ s before h.
    when_so _ _ before _ _ (is_down s.phase) s (sends_waiting (selective_hears (verdict_of_octets_found c.args.found.now) (sees c.args.now s)))
    (sym (ap (λ (k : KeptStation). is_down k.phase) h.stands.is) ∙ sym c.is_down.ensures ∙ c.if-is_down.true)
    (tells_nothing _ _ before _ c.nothing.result s c.nothing.ensures.deed c.nothing.ensures.none h)

pub returns-clause-tells : goal.returns-clause-tells
returns-clause-tells c = λ s before h.
    let seen = lifts _ _ _ before _ _ no_deed no_deed s (sees c.args.now s) h (c.see.ensures.follows _ s before no_deed h.stands) (keeps_sees c.args.now s) in
    let at = c.hear-brought.ensures.brings c.args.out.now c.write.new.out c.write.new.places c.write.ensures.written (sees c.args.now s) before seen in
    when_not _ _ before _ _ (is_down s.phase) s (sends_waiting (selective_hears (verdict_of_octets_found c.args.found.now) (sees c.args.now s)))
    (sym (ap (λ (k : KeptStation). is_down k.phase) h.stands.is) ∙ sym c.is_down.ensures ∙ c.if-is_down.false)
    (lifts _ _ _ before _ _ _ _ _ _ at (c.send_waiting.ensures.follows _ before _ at.stands) (keeps_waiting _))
