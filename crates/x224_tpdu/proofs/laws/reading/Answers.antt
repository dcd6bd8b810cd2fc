-- The laws of reading are proved over the definitions alone.
use Rattle.x224_tpdu.proofs.Cutting.{cuts_parameters}
use Rattle.x224_tpdu.proofs.RoundTrip.{spells_one, spelled_has_no_fault, reading_of_spelled, reading_of_faulty}
use Rattle.x224_tpdu.proofs.Bounds.{reading_is_in_range}
use Rattle.x224_tpdu.proofs.Converse.{reading_spells}
use Rattle.x224_tpdu.proofs.laws.reading.Goals as goal

pub returns : goal.returns
returns c = record { one = spells_one; no_fault = spelled_has_no_fault; spelled = reading_of_spelled; faulty = reading_of_faulty; parameters = cuts_parameters; in_range = reading_is_in_range; spells = reading_spells }
