use Rattle.hdlc_fcs.proofs.TableLaws.{table_at}
use Rattle.hdlc_fcs.proofs.sequence.entry.Goals as goal

pub returns : goal.returns
returns c = table_at c.args.behind c.args.octet c.requires c.ranges.octet.fits
