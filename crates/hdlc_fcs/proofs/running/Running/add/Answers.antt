use Rattle.std.proofs.Common.{◌∙◌, ap, bit_xor}
use Rattle.hdlc_fcs.proofs.DivisionLaws.{fcs_of-append}
use Rattle.hdlc_fcs.proofs.running.Running.add.Goals as goal

pub returns : goal.returns
returns c =
    λ before e.
    ap (λ r. bit_xor r 65535) c.shift_octets-self-inside.ensures
    ∙ fcs_of-append before c.args.octets.now c.self.inside.register (c.self.view_is ∙ e)
