use Rattle.std.proofs.Common.{sym, ◌∙◌, ap, arith}
use Rattle.std.proofs.lemmas.Bool.{eqb-true, eq-eqb}
use Rattle.hdlc_fcs.specs.FrameCheck.{fcs_of}
use Rattle.hdlc_fcs.proofs.ContentLaws.{read_parts}
use Rattle.hdlc_fcs.proofs.contents.is_intact.Goals as goal

pub returns-in-Some : goal.returns-in-Some
returns-in-Some c =
    let cases = c.in-Some.ensures.cases in
    let read = read_parts c.args.content.now c.in-Some.checked.now c.in-Some.check.now c.from_le_bytes.result cases.0 cases.1 cases.2 c.from_le_bytes.ensures in
    let whole = c.fcs.ensures ∙ ap fcs_of (sym read.0) in (
      λ e. (omega (arith, cases.2), sym whole ∙ eqb-true c.fcs.result c.from_le_bytes.result e ∙ sym read.1),
      λ h. eq-eqb c.fcs.result c.from_le_bytes.result (whole ∙ h.1 ∙ read.1),
    )
