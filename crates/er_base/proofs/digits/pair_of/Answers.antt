use Rattle.std.proofs.Common.{◌∙◌}
use Rattle.er_base.proofs.HexDigits.{pair_spelled}
use Rattle.er_base.proofs.digits.pair_of.Goals as goal

pub returns : goal.returns
returns c = c.to_le_bytes.ensures ∙ pair_spelled c.from-octet.result c.args.octet c.from-octet.ensures c.ranges.octet.fits
