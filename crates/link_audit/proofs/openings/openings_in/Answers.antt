-- One line more, one that is refused, and the end.
use Rattle.std.proofs.Common.{◌∷◌, ◌+◌, ◌∙◌, sym, ap, drop, arith}
use Rattle.std.proofs.lemmas.List.{drop_more}
use Rattle.std.proofs.lemmas.Result.{err_from_is_err_and}
use Rattle.er_tap.specs.declared.tap_line.TapLine.{TapLine}
use Rattle.link_audit.proofs.Opened.{none_checked, passed_checked, refused_checks, end_checked, line_in_range}
use Rattle.link_audit.proofs.openings.openings_in.Goals as goal

pub loop-line-init : goal.loop-line-init
loop-line-init c = none_checked c.args.lines.now c.none-openings.result c.none-openings.ensures

pub take-requires : goal.take-requires
take-requires c =
    line_in_range c.loop-line.line-index c.args.lines.now c.line-item.result
    (drop_more c.args.lines.now c.loop-line.line-index c.line-item.result c.loop-line-test.true ∙ ap (λ (x : TapLine). x ∷ drop (c.loop-line.line-index + 1) c.args.lines.now) (sym c.line-item.is))
    c.requires

pub loop-line-preserved : goal.loop-line-preserved
loop-line-preserved c =
    passed_checked c.args.lines.now _ c.loop-line.line-index c.line-item.result c.loop-line.openings c.take.new.self
    (drop_more c.args.lines.now c.loop-line.line-index c.line-item.result c.loop-line-test.true ∙ ap (λ (x : TapLine). x ∷ drop (c.loop-line.line-index + 1) c.args.lines.now) (sym c.line-item.is))
    c.loop-line.invariant c.in_ok-take.ensures

pub returns-in_err-take : goal.returns-in_err-take
returns-in_err-take c = record {
  checks =
      let p = err_from_is_err_and c.from_residual.result c.from_residual.ensures.1 in
      rw (p.1, p.2)
      (refused_checks c.args.lines.now _ c.loop-line.line-index c.line-item.result c.loop-line.openings c.take.new.self c.in_err-take.field-0.0
      (drop_more c.args.lines.now c.loop-line.line-index c.line-item.result c.loop-line-test.true ∙ ap (λ (x : TapLine). x ∷ drop (c.loop-line.line-index + 1) c.args.lines.now) (sym c.line-item.is))
      c.loop-line.invariant c.in_err-take.ensures);
}

pub returns : goal.returns
returns c = record { checks = end_checked c.args.lines.now c.loop-line.line-index c.loop-line.openings (omega (arith, c.loop-line-test.false)) c.loop-line.invariant }
