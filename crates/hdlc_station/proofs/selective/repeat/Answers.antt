use Rattle.std.proofs.Common.{◌-◌, ◌<◌, ◌++◌, List, ap, sym, subst, ◌∙◌, arith}
use Rattle.hdlc_station_model.specs.Stations.{Station, no_deed}
use Rattle.hdlc_station_model.specs.Receiving.{strays}
use Rattle.hdlc_station_model.specs.Selective.{repeats_one}
use Rattle.hdlc_station.specs.Replies.{info_text}
use Rattle.hdlc_station.specs.Places.{NumberPlace}
use Rattle.hdlc_station.specs.Kept.{KeptStation, Stands}
use Rattle.hdlc_station.specs.Held.{SelectiveStands}
use Rattle.hdlc_station.specs.declared.selective_heard.SelectiveHeard.{SelectiveHeard}
use Rattle.hdlc_station.specs.SelectiveReplies.{HearsSo, heard_as}
use Rattle.hdlc_station.proofs.Keeping.{keeps_strays, keeps_repeat}
use Rattle.hdlc_station.proofs.Moving.{row_hears, lifts}
use Rattle.hdlc_station.proofs.Repeats.{repeats_yes, repeats_none, repeats_last}
use Rattle.hdlc_station.proofs.selective.repeat.Goals as goal

pub returns-in_default-clause-hears : goal.returns-in_default-clause-hears
returns-in_default-clause-hears c = λ information places out out' after w s before h.
    subst (λ (x : Station). SelectiveStands c.stray.new.self after before out' (heard_as information after c.of.result) x)
    (sym (repeats_none s c.args.nr (c.in_default.ensures.named s h.stands.is h.stands.order h.stands.given)))
    (row_hears information _ _ _ c.stray.result c.of.result strays c.of.ensures c.stray.ensures.hears keeps_strays out out' after w s before h)

pub returns-then-up-ahead-clause-hears : goal.returns-then-up-ahead-clause-hears
returns-then-up-ahead-clause-hears c = λ information places out out' after w s before h.
    subst (λ (x : Station). SelectiveStands c.stray-then-up-ahead.new.self after before out' (heard_as information after c.of-then-up-ahead.result) x)
    (sym (repeats_last s c.args.nr _ (c.in-Some.ensures.named s h.stands.is h.stands.order h.stands.given) (c.if-up-ahead.true ∙ c.ahead.ensures ∙ ap (λ (k : KeptStation). k.ahead) h.stands.is)))
    (row_hears information _ _ _ c.stray-then-up-ahead.result c.of-then-up-ahead.result strays c.of-then-up-ahead.ensures c.stray-then-up-ahead.ensures.hears keeps_strays out out' after w s before h)

pub returns-clause-hears : goal.returns-clause-hears
returns-clause-hears c = λ information places.
    subst (λ (x : SelectiveHeard). HearsSo information c.args.station.now places c.start_timer.new.self places x (repeats_one c.args.nr)) (sym c.answering.ensures) (λ out out' after v s before h.
    let text = v.1 ∙ ap (λ (k : KeptStation). out.items ++ info_text k c.in-Some.up) c.start_timer.ensures.same in
    let a = ap (λ (k : KeptStation). k.ahead) h.stands.is in
    let low : c.in-Some.up < s.sent - s.acked = omega (arith, c.in-Some.ensures.near, c.if-up-ahead.false, c.ahead.ensures, a) in
    let stands = subst (λ (x : Station). Stands c.start_timer.new.self before out' no_deed x) (sym (repeats_yes s c.args.nr _ (c.in-Some.ensures.named s h.stands.is h.stands.order h.stands.given) low))
    (c.start_timer.ensures.follows out' _ before no_deed (c.repeat_one.ensures.follows out out' text s before no_deed h.stands)) in
    subst (λ (ps : List NumberPlace). SelectiveStands c.start_timer.new.self ps before out' no_deed (repeats_one c.args.nr s)) (sym v.0)
    (lifts _ _ _ before out out' no_deed no_deed s (repeats_one c.args.nr s) h stands (keeps_repeat c.args.nr s)))
