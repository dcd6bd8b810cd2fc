use Rattle.std.proofs.Common.{if◌then◌else◌, Bool, ap, sym, ◌∙◌}
use Rattle.hdlc_station_model.specs.Receiving.{strays, errs, row_of_phase, is_addressed, is_error}
use Rattle.hdlc_station.specs.Kept.{KeptStation}
use Rattle.hdlc_station.proofs.Following.{stands_yes, stands_no}
use Rattle.hdlc_station.proofs.go_back.hear_control.Goals as goal

pub returns-then-not-is_addressed-clause-tells : goal.returns-then-not-is_addressed-clause-tells
returns-then-not-is_addressed-clause-tells c = λ out out' e s before h.
    stands_no _ before _ _ (is_addressed s.calling c.args.address c.args.control) (if is_error s.calling c.args.control c.args.information.now then errs s.phase s else row_of_phase s.phase s c.args.control c.args.information.now) (strays s)
    (ap (λ (b : Bool). is_addressed b c.args.address c.args.control) (sym (ap (λ (k : KeptStation). k.calling) h.is) ∙ sym c.is_calling-calling.ensures) ∙ sym c.is_addressed.ensures ∙ c.if-not-is_addressed.true)
    (c.stray.ensures.hears c.args.information.now out out' e s before h)

pub returns-then-is_error-clause-tells : goal.returns-then-is_error-clause-tells
returns-then-is_error-clause-tells c = λ out out' e s before h.
    stands_yes _ before _ _ (is_addressed s.calling c.args.address c.args.control) (if is_error s.calling c.args.control c.args.information.now then errs s.phase s else row_of_phase s.phase s c.args.control c.args.information.now) (strays s)
    (ap (λ (b : Bool). is_addressed b c.args.address c.args.control) (sym (ap (λ (k : KeptStation). k.calling) h.is) ∙ sym c.is_calling-calling.ensures) ∙ sym c.is_addressed.ensures ∙ c.if-not-is_addressed.false)
    (stands_yes _ before _ _ (is_error s.calling c.args.control c.args.information.now) (errs s.phase s) (row_of_phase s.phase s c.args.control c.args.information.now)
    (ap (λ (b : Bool). is_error b c.args.control c.args.information.now) (sym (ap (λ (k : KeptStation). k.calling) h.is) ∙ sym c.is_calling-calling.ensures) ∙ sym c.is_error.ensures ∙ c.if-is_error.true)
    (c.err.ensures.hears c.args.information.now out out' e s before h))

pub returns-clause-tells : goal.returns-clause-tells
returns-clause-tells c = λ out out' e s before h.
    stands_yes _ before _ _ (is_addressed s.calling c.args.address c.args.control) (if is_error s.calling c.args.control c.args.information.now then errs s.phase s else row_of_phase s.phase s c.args.control c.args.information.now) (strays s)
    (ap (λ (b : Bool). is_addressed b c.args.address c.args.control) (sym (ap (λ (k : KeptStation). k.calling) h.is) ∙ sym c.is_calling-calling.ensures) ∙ sym c.is_addressed.ensures ∙ c.if-not-is_addressed.false)
    (stands_no _ before _ _ (is_error s.calling c.args.control c.args.information.now) (errs s.phase s) (row_of_phase s.phase s c.args.control c.args.information.now)
    (ap (λ (b : Bool). is_error b c.args.control c.args.information.now) (sym (ap (λ (k : KeptStation). k.calling) h.is) ∙ sym c.is_calling-calling.ensures) ∙ sym c.is_error.ensures ∙ c.if-is_error.false)
    (c.row.ensures.hears c.args.information.now out out' e s before h))
