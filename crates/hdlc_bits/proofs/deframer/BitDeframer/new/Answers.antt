use Rattle.std.proofs.Common.{◌∙◌, sym, []}
use Rattle.hdlc_bits.proofs.KeptLaws.{kept_of-nothing}
use Rattle.hdlc_bits.proofs.deframer.BitDeframer.new.Goals as goal

pub returns : goal.returns
returns c = c.new.ensures ∙ sym kept_of-nothing

pub invariant_of-result : goal.invariant_of-result
invariant_of-result c = ([], c.new.ensures ∙ sym kept_of-nothing)
