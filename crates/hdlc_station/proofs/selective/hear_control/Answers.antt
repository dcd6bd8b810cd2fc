use Rattle.std.proofs.Common.{if◌then◌else◌, Bool, List, ℕ, ap, sym, ◌∙◌}
use Rattle.hdlc_station_model.specs.Receiving.{strays, errs, is_addressed}
use Rattle.hdlc_station_model.specs.Selective.{is_selective_error, selective_row}
use Rattle.hdlc_station.specs.Kept.{KeptStation}
use Rattle.hdlc_station.proofs.Keeping.{keeps_strays, keeps_errs}
use Rattle.hdlc_station.proofs.Moving.{when_so, when_not, row_hears}
use Rattle.hdlc_station.proofs.selective.hear_control.Goals as goal

pub returns-then-not-is_addressed-clause-hears : goal.returns-then-not-is_addressed-clause-hears
returns-then-not-is_addressed-clause-hears c = λ out out' after w s before h.
    when_not _ _ before _ _ (is_addressed s.calling c.args.address c.args.control) (if is_selective_error s.calling c.args.control c.args.information.now then errs s.phase s else selective_row s.phase s c.args.control c.args.information.now) (strays s)
    (ap (λ (b : Bool). is_addressed b c.args.address c.args.control) (sym (ap (λ (k : KeptStation). k.calling) h.stands.is) ∙ sym c.is_calling-calling.ensures) ∙ sym c.is_addressed.ensures ∙ c.if-not-is_addressed.true)
    (row_hears c.args.information.now _ _ _ c.stray.result c.of.result strays c.of.ensures c.stray.ensures.hears keeps_strays out out' after w s before h)

pub returns-then-is_error-clause-hears : goal.returns-then-is_error-clause-hears
returns-then-is_error-clause-hears c = λ out out' after w s before h.
    when_so _ _ before _ _ (is_addressed s.calling c.args.address c.args.control) (if is_selective_error s.calling c.args.control c.args.information.now then errs s.phase s else selective_row s.phase s c.args.control c.args.information.now) (strays s)
    (ap (λ (b : Bool). is_addressed b c.args.address c.args.control) (sym (ap (λ (k : KeptStation). k.calling) h.stands.is) ∙ sym c.is_calling-calling.ensures) ∙ sym c.is_addressed.ensures ∙ c.if-not-is_addressed.false)
    (when_so _ _ before _ _ (is_selective_error s.calling c.args.control c.args.information.now) (errs s.phase s) (selective_row s.phase s c.args.control c.args.information.now)
    (ap (λ (b : Bool). is_selective_error b c.args.control c.args.information.now) (sym (ap (λ (k : KeptStation). k.calling) h.stands.is) ∙ sym c.is_calling-calling.ensures)
    ∙ ap (λ (information : List ℕ). is_selective_error c.is_calling-calling.result c.args.control information) (sym c.octets.ensures.value) ∙ sym c.is_error.ensures ∙ c.if-is_error.true)
    (row_hears c.args.information.now _ _ _ c.err.result c.of-then-is_error.result (λ t. errs t.phase t) c.of-then-is_error.ensures c.err.ensures.hears (λ t. keeps_errs t.phase t) out out' after w s before h))

pub returns-clause-hears : goal.returns-clause-hears
returns-clause-hears c = λ out out' after w s before h.
    when_so _ _ before _ _ (is_addressed s.calling c.args.address c.args.control) (if is_selective_error s.calling c.args.control c.args.information.now then errs s.phase s else selective_row s.phase s c.args.control c.args.information.now) (strays s)
    (ap (λ (b : Bool). is_addressed b c.args.address c.args.control) (sym (ap (λ (k : KeptStation). k.calling) h.stands.is) ∙ sym c.is_calling-calling.ensures) ∙ sym c.is_addressed.ensures ∙ c.if-not-is_addressed.false)
    (when_not _ _ before _ _ (is_selective_error s.calling c.args.control c.args.information.now) (errs s.phase s) (selective_row s.phase s c.args.control c.args.information.now)
    (ap (λ (b : Bool). is_selective_error b c.args.control c.args.information.now) (sym (ap (λ (k : KeptStation). k.calling) h.stands.is) ∙ sym c.is_calling-calling.ensures)
    ∙ ap (λ (information : List ℕ). is_selective_error c.is_calling-calling.result c.args.control information) (sym c.octets.ensures.value) ∙ sym c.is_error.ensures ∙ c.if-is_error.false)
    (c.row.ensures.hears out out' after w s before h))
