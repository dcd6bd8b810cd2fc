use Rattle.hdlc_station_laws.proofs.Counting.{busy_waits}
use Rattle.hdlc_station_laws.proofs.MarkingBusy.{marks_busy_law}
use Rattle.hdlc_station_laws.proofs.laws.busy_waits.Goals as goal

pub returns-clause-marks : goal.returns-clause-marks
returns-clause-marks c = marks_busy_law c.control_is_table.ensures

pub returns-clause-waits : goal.returns-clause-waits
returns-clause-waits c = busy_waits c.late_exactly.ensures
