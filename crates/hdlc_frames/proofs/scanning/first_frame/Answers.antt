use Rattle.std.proofs.Common.{◌≡◌, arith, refl, zero}
use Rattle.std.proofs.lemmas.Bool.{eqb-true}
use Rattle.hdlc_frames.proofs.FirstCloseLaws.{no_frame, behind_first, flag_found_again, closing_flag_found, no_flag_found}
use Rattle.hdlc_frames.proofs.scanning.first_frame.Goals as goal

pub returns-in_err-at : goal.returns-in_err-at
returns-in_err-at c = rw c.from_residual.ensures (no_frame c.args.octets.now c.in_err-at.ensures)

pub loop-count-init : goal.loop-count-init
loop-count-init c =
    let found = c.in_ok-at.ensures in
    behind_first c.args.octets.now c.in_ok-at.field-0 found.0.high found.0.before (eqb-true _ 0x7e found.1)

pub returns-then-count-gt0 : goal.returns-then-count-gt0
returns-then-count-gt0 c =
    let found = c.in-Some.ensures in
    closing_flag_found c.args.octets.now _ c.loop-count.at c.in-Some.count refl c.loop-count.invariant c.if-count-gt0.true found.0.high found.0.before (eqb-true _ 0x7e found.1)

pub loop-count-preserved : goal.loop-count-preserved
loop-count-preserved c =
    let found = c.in-Some.ensures in
    let none : c.in-Some.count ≡ zero = omega (arith, c.if-count-gt0.false) in
    flag_found_again c.args.octets.now _ c.loop-count.at c.in-Some.count refl c.loop-count.invariant none found.0.high (eqb-true _ 0x7e found.1)

pub returns : goal.returns
returns c = no_flag_found c.args.octets.now _ c.loop-count.at refl c.loop-count.invariant c.in_default.ensures
