use Rattle.hdlc_fcs.specs.KnownAnswers.{no_octets}
use Rattle.std.proofs.Common.{sym}
use Rattle.hdlc_fcs.proofs.running.Running.new.Goals as goal

pub returns : goal.returns
returns c = sym no_octets
