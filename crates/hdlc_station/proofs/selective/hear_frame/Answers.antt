use Rattle.std.proofs.Common.{ℕ, List, Option, ap, sym, subst, ◌∙◌, arith}
use Rattle.hdlc_frames.specs.declared.controls.Control.{Control}
use Rattle.hdlc_frames.specs.ControlOctets.{control_of}
use Rattle.hdlc_station_model.specs.Frames.{modulo}
use Rattle.hdlc_station_model.specs.Receiving.{strays, errs, is_known_address}
use Rattle.hdlc_station_model.specs.Selective.{selective_hears_control, selective_hears_frame}
use Rattle.hdlc_station.specs.Kept.{KeptStation}
use Rattle.hdlc_station.specs.Held.{SelectiveStands}
use Rattle.hdlc_station.specs.SelectiveReplies.{heard_as}
use Rattle.hdlc_station.proofs.Keeping.{keeps_strays, keeps_errs}
use Rattle.hdlc_station.proofs.Moving.{when_so, when_not, row_hears, brought}
use Rattle.hdlc_station.proofs.Reading.{left, left_control}
use Rattle.hdlc_station.proofs.selective.hear_frame.Goals as goal

pub new-content-requires : goal.new-content-requires
new-content-requires c =
    let all = left_control c.args.station.now.extended c.args.body.now in
    let same = ap left c.in-Some.ensures in
    omega (arith, all, same, c.requires.fits)

pub returns-then-not-is_known-clause-brings : goal.returns-then-not-is_known-clause-brings
returns-then-not-is_known-clause-brings c =
    brought c.args.body.now _ _ _ _ c.of.result c.of-then-not-is_known.result.reply c.of-then-not-is_known.result.deed (selective_hears_frame c.args.address c.args.body.now) c.of-then-not-is_known.ensures.deed c.of-then-not-is_known.ensures.reply (λ out out' after w s before h.
    when_not _ _ before _ _ (is_known_address c.args.address) (selective_hears_control c.args.address (control_of (modulo s.extended) c.args.body.now) s) (strays s)
    (sym c.is_known.ensures ∙ c.if-not-is_known.true)
    (row_hears c.args.body.now _ _ _ c.stray.result c.of.result strays c.of.ensures c.stray.ensures.hears keeps_strays out out' after w s before h))

pub returns-in_default-clause-brings : goal.returns-in_default-clause-brings
returns-in_default-clause-brings c =
    brought c.args.body.now _ _ _ _ c.of-in_default.result c.of-in_default-2.result.reply c.of-in_default-2.result.deed (selective_hears_frame c.args.address c.args.body.now) c.of-in_default-2.ensures.deed c.of-in_default-2.ensures.reply (λ out out' after w s before h.
    when_so _ _ before _ _ (is_known_address c.args.address) (selective_hears_control c.args.address (control_of (modulo s.extended) c.args.body.now) s) (strays s)
    (sym c.is_known.ensures ∙ c.if-not-is_known.false)
    (subst (λ (o : Option (Control × List ℕ)). SelectiveStands c.err.new.self after before out' (heard_as c.args.body.now after c.of-in_default.result) (selective_hears_control c.args.address o s))
    (c.in_default.ensures ∙ ap (λ (k : KeptStation). control_of (modulo k.extended) c.args.body.now) h.stands.is)
    (row_hears c.args.body.now _ _ _ c.err.result c.of-in_default.result (λ t. errs t.phase t) c.of-in_default.ensures c.err.ensures.hears (λ t. keeps_errs t.phase t) out out' after w s before h)))

pub returns-clause-brings : goal.returns-clause-brings
returns-clause-brings c =
    brought c.in-Some.information.now _ _ _ _ c.hear_control-heard.result c.of-2.result.reply c.of-2.result.deed (selective_hears_frame c.args.address c.args.body.now) c.of-2.ensures.deed c.of-2.ensures.reply (λ out out' after w s before h.
    when_so _ _ before _ _ (is_known_address c.args.address) (selective_hears_control c.args.address (control_of (modulo s.extended) c.args.body.now) s) (strays s)
    (sym c.is_known.ensures ∙ c.if-not-is_known.false)
    (subst (λ (o : Option (Control × List ℕ)). SelectiveStands c.hear_control-heard.new.station after before out' (heard_as c.in-Some.information.now after c.hear_control-heard.result) (selective_hears_control c.args.address o s))
    (c.in-Some.ensures ∙ ap (λ (k : KeptStation). control_of (modulo k.extended) c.args.body.now) h.stands.is)
    ((rw c.new-content.ensures at c.hear_control-heard.ensures.hears) out out' after w s before h)))
