use Rattle.std.proofs.Common.{sym, ◌∙◌, arith}
use Rattle.hdlc_frames.proofs.PieceLaws.{too_long, too_short, judged_frame, judged_bad}
use Rattle.hdlc_frames.proofs.judgement.judge.Goals as goal

pub returns-then-content-gt-LONGEST-clause-verdict : goal.returns-then-content-gt-LONGEST-clause-verdict
returns-then-content-gt-LONGEST-clause-verdict c = sym (too_long c.args.content.now c.if-content-gt-LONGEST.true)

pub returns-then-content-lt-SHORTEST-clause-verdict : goal.returns-then-content-lt-SHORTEST-clause-verdict
returns-then-content-lt-SHORTEST-clause-verdict c = sym (too_short c.args.content.now c.if-content-lt-SHORTEST.true)

pub returns-then-fcs-eq-RESIDUE-clause-verdict : goal.returns-then-fcs-eq-RESIDUE-clause-verdict
returns-then-fcs-eq-RESIDUE-clause-verdict c =
    let tells = c.residue_tells_intact.ensures c.args.content.now (omega arith) (λ k. (c.type_inv.content k).fits) in
    judged_frame c.args.content.now (omega arith) (omega arith) (tells.0 (sym c.fcs.ensures ∙ c.if-fcs-eq-RESIDUE.true))

pub returns-else-fcs-eq-RESIDUE-clause-verdict : goal.returns-else-fcs-eq-RESIDUE-clause-verdict
returns-else-fcs-eq-RESIDUE-clause-verdict c =
    let tells = c.residue_tells_intact.ensures c.args.content.now (omega arith) (λ k. (c.type_inv.content k).fits) in
    judged_bad c.args.content.now (omega arith) (omega arith) (λ h. c.if-fcs-eq-RESIDUE.false (c.fcs.ensures ∙ tells.1 h))
