-- All links, by how the lines open them.
use Rattle.std.proofs.Common.{◌≡◌, arith, ◌∙◌, ap, List}
use Rattle.std.proofs.lemmas.Result.{err_from_is_err_and}
use Rattle.safety_automaton.specs.Keys.{key_at}
use Rattle.er_tap.specs.declared.tap_line.TapLine.{TapLine}
use Rattle.link_audit.specs.Openings.{links_opened}
use Rattle.link_audit.proofs.Printed.{opened_by_lines, ends_by_lines, audited, audited_part, audited_spent, audited_none, ends_made}
use Rattle.link_audit.proofs.run.audit.Goals as goal

pub returns-clause-audits : goal.returns-clause-audits
returns-clause-audits g c =
    let checks = rw c.as_slice-lines.ensures at c.in_ok-openings.ensures.checks in
    let lines : c.all.result ≡ c.args.tap.now.lines = c.all.ensures ∙ c.in_ok-marks.ensures ∙ c.as_slice-lines.ensures in
    audited c.args.ends _ c.args.tap.now.lines _ _ _
    (opened_by_lines c.args.ends _ c.args.tap.now.lines c.in_ok-openings.openings checks.1 1 64 (omega arith) (omega arith)) checks.0
    (rw lines at c.in_ok-audit_links.ensures.writes)

pub returns-clause-told : goal.returns-clause-told
returns-clause-told g c =
    let checks = rw c.as_slice-lines.ensures at c.in_ok-openings.ensures.checks in
    let lines : c.all.result ≡ c.args.tap.now.lines = c.all.ensures ∙ c.in_ok-marks.ensures ∙ c.as_slice-lines.ensures in
    ends_made c.args.told.now.items _ _ _ _ _ (rw c.as_slice.ensures.value at c.in_ok-put_text.ensures) (rw lines at c.in_ok-audit_links.ensures.told) c.new-2.ensures.items
    (ends_by_lines c.args.tap.now.lines c.in_ok-openings.openings checks.1 1 64 (omega arith) (omega arith))

pub returns-in_err-marks-clause-audits : goal.returns-in_err-marks-clause-audits
returns-in_err-marks-clause-audits g c =
    let checks = rw c.as_slice-lines.ensures at c.in_ok-openings.ensures.checks in
    let p = err_from_is_err_and c.from_residual-in_err-marks.result c.from_residual-in_err-marks.ensures.1 in
    rw (p.1, p.2) (audited_none c.args.ends _ c.args.tap.now.lines _ checks.0)

pub returns-in_err-audit_links-clause-audits : goal.returns-in_err-audit_links-clause-audits
returns-in_err-audit_links-clause-audits g c =
    let checks = rw c.as_slice-lines.ensures at c.in_ok-openings.ensures.checks in
    let lines : c.all.result ≡ c.args.tap.now.lines = c.all.ensures ∙ c.in_ok-marks.ensures ∙ c.as_slice-lines.ensures in
    let p = err_from_is_err_and c.from_residual-in_err-audit_links.result c.from_residual-in_err-audit_links.ensures.1 in
    rw (p.1, p.2)
    (audited_part c.args.ends _ c.args.tap.now.lines _ _ _ c.in_err-audit_links.field-0.0
    (ap (λ (ls : List TapLine). links_opened c.args.ends (key_at (g.K.KeyFinder.entries c.args.keys.now)) ls c.in_ok-openings.openings 1 64) lines
    ∙ opened_by_lines c.args.ends _ c.args.tap.now.lines c.in_ok-openings.openings checks.1 1 64 (omega arith) (omega arith)) checks.0
    c.in_err-audit_links.ensures.writes)

pub returns-in_err-put_text-clause-audits : goal.returns-in_err-put_text-clause-audits
returns-in_err-put_text-clause-audits g c =
    let checks = rw c.as_slice-lines.ensures at c.in_ok-openings.ensures.checks in
    let lines : c.all.result ≡ c.args.tap.now.lines = c.all.ensures ∙ c.in_ok-marks.ensures ∙ c.as_slice-lines.ensures in
    let p = err_from_is_err_and c.from_residual-in_err-put_text.result c.from_residual-in_err-put_text.ensures.1 in
    rw (p.1, p.2)
    (audited_spent c.args.ends _ c.args.tap.now.lines _ _ _
    (opened_by_lines c.args.ends _ c.args.tap.now.lines c.in_ok-openings.openings checks.1 1 64 (omega arith) (omega arith)) checks.0
    (rw lines at c.in_ok-audit_links.ensures.writes))
