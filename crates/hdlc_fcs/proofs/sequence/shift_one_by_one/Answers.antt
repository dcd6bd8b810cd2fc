use Rattle.std.proofs.Common.{arith, sym, ◌∙◌}
use Rattle.hdlc_fcs.proofs.DivisionLaws.{register_after-drop, register_after-all}
use Rattle.hdlc_fcs.proofs.sequence.shift_one_by_one.Goals as goal

pub loop-octet-preserved : goal.loop-octet-preserved
loop-octet-preserved c =
    rw c.shift_octet-register.ensures
    (sym (register_after-drop c.args.octets.now c.loop-octet.octet-index c.loop-octet.register (omega arith) (c.type_inv.octets c.loop-octet.octet-index).fits)
    ∙ c.loop-octet.invariant)

pub returns : goal.returns
returns c =
    sym (register_after-all c.args.octets.now c.loop-octet.octet-index c.loop-octet.register (omega arith)) ∙ c.loop-octet.invariant
