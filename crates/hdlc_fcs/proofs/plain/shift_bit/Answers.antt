-- The lowest bit of the register, as the code tests it, is its remainder by 2.
use Rattle.std.proofs.Common.{◌≡◌, ◌/◌, ◌%◌, arith, sym, ◌∙◌, refl}
use Rattle.std.specs.Int.Bits.{xor_zero_r}
use Rattle.std.proofs.lemmas.Nat.{and_mask}
use Rattle.hdlc_fcs.specs.Register.{shifted_once}
use Rattle.hdlc_fcs.proofs.plain.shift_bit.Goals as goal

pub returns-then-register-eq1 : goal.returns-then-register-eq1
unfolding shifted_once
returns-then-register-eq1 c =
    let odd : c.args.register % 2 ≡ 1 = sym (and_mask c.args.register 1) ∙ c.if-register-eq1.true in
    rw odd refl

pub returns-else-register-eq1 : goal.returns-else-register-eq1
unfolding shifted_once
returns-else-register-eq1 c =
    let even : c.args.register % 2 ≡ 0 = omega (arith, and_mask c.args.register 1, c.if-register-eq1.false) in
    rw even (sym (xor_zero_r (c.args.register / 2)))
