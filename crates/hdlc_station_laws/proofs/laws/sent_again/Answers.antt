use Rattle.hdlc_station_laws.proofs.SendingAgain.{sent_again}
use Rattle.hdlc_station_laws.proofs.laws.sent_again.Goals as goal

pub returns : goal.returns
returns c = sent_again c.control_is_table.ensures c.late_exactly.ensures
