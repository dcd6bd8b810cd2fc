use Rattle.cbc_mac.proofs.Chains.{mac_of_below}
use Rattle.cbc_mac.proofs.laws.mac_below.Goals as goal

pub returns : goal.returns
returns c = mac_of_below c.gives_blocks.ensures
