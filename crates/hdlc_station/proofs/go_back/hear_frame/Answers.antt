use Rattle.std.proofs.Common.{ℕ, List, Option, ap, sym, subst, ◌∙◌}
use Rattle.hdlc_frames.specs.declared.controls.Control.{Control}
use Rattle.hdlc_frames.specs.ControlOctets.{control_of}
use Rattle.hdlc_station_model.specs.Frames.{modulo}
use Rattle.hdlc_station_model.specs.Receiving.{strays, hears_control, hears_frame, is_known_address}
use Rattle.hdlc_station.specs.Kept.{KeptStation, Stands}
use Rattle.hdlc_station.specs.Told.{told_as}
use Rattle.hdlc_station.proofs.Following.{stands_yes, stands_no}
use Rattle.hdlc_station.proofs.Brings.{brings}
use Rattle.hdlc_station.proofs.go_back.hear_frame.Goals as goal

pub returns-then-not-is_known-clause-tells : goal.returns-then-not-is_known-clause-tells
returns-then-not-is_known-clause-tells c =
    brings _ _ (hears_frame c.args.address c.args.body.now) _ _ _ _ (λ out out' e s before h.
    stands_no _ before _ _ (is_known_address c.args.address) (hears_control c.args.address (control_of (modulo s.extended) c.args.body.now) s) (strays s) (sym c.is_known.ensures ∙ c.if-not-is_known.true)
    (c.stray.ensures.hears c.args.body.now out out' e s before h)) c.of.ensures.deed c.of.ensures.reply

pub returns-in_default-clause-tells : goal.returns-in_default-clause-tells
returns-in_default-clause-tells c =
    brings _ _ (hears_frame c.args.address c.args.body.now) _ _ _ _ (λ out out' e s before h.
    stands_yes _ before _ _ (is_known_address c.args.address) (hears_control c.args.address (control_of (modulo s.extended) c.args.body.now) s) (strays s) (sym c.is_known.ensures ∙ c.if-not-is_known.false)
    (subst (λ (o : Option (Control × List ℕ)). Stands c.err.new.self before out' (told_as c.args.body.now c.err.result.told) (hears_control c.args.address o s))
    (c.in_default.ensures ∙ ap (λ (k : KeptStation). control_of (modulo k.extended) c.args.body.now) h.is) (c.err.ensures.hears c.args.body.now out out' e s before h))) c.of-in_default.ensures.deed c.of-in_default.ensures.reply

pub returns-clause-tells : goal.returns-clause-tells
returns-clause-tells c =
    brings _ _ (hears_frame c.args.address c.args.body.now) _ _ _ _ (λ out out' e s before h.
    stands_yes _ before _ _ (is_known_address c.args.address) (hears_control c.args.address (control_of (modulo s.extended) c.args.body.now) s) (strays s) (sym c.is_known.ensures ∙ c.if-not-is_known.false)
    (subst (λ (o : Option (Control × List ℕ)). Stands c.hear_control-heard.new.station before out' (told_as c.in-Some.information.now c.hear_control-heard.result.told) (hears_control c.args.address o s))
    (c.in-Some.ensures ∙ ap (λ (k : KeptStation). control_of (modulo k.extended) c.args.body.now) h.is) (c.hear_control-heard.ensures.tells out out' e s before h))) c.of-2.ensures.deed c.of-2.ensures.reply
