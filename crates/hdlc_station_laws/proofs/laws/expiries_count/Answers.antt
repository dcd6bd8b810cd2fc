use Rattle.hdlc_station_laws.proofs.Counting.{expiries_count}
use Rattle.hdlc_station_laws.proofs.laws.expiries_count.Goals as goal

pub returns : goal.returns
returns c = expiries_count c.late_exactly.ensures
