-- The steps of two ends over two lines whose user octets are octets (this profile).
use Rattle.std.specs.Prelude.{List}
use Rattle.er_base.specs.Octets.{AreOctets}
use Rattle.pair_model.specs.Steps.{PairStep, AllSend}

abbrev pub AllFit : List PairStep → Type 0
AllFit steps = AllSend AreOctets steps
