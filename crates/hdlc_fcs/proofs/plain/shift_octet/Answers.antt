use Rattle.std.proofs.Common.{◌≡◌, ◌-◌, arith, sym, ◌∙◌}
use Rattle.hdlc_fcs.specs.Register.{shifted}
use Rattle.hdlc_fcs.proofs.DivisionLaws.{shifted-less}
use Rattle.hdlc_fcs.proofs.plain.shift_octet.Goals as goal

pub loop-bit-preserved : goal.loop-bit-preserved
loop-bit-preserved c =
    rw c.shift_bit-register.ensures (sym (shifted-less 8 c.loop-bit._bit c.loop-bit.register (omega arith)) ∙ c.loop-bit.invariant)

pub returns : goal.returns
unfolding shifted
returns c =
    let none : 8 - c.loop-bit._bit ≡ 0 = omega arith in
    rw none at c.loop-bit.invariant
