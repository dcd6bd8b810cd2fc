use Rattle.hdlc_station_laws.proofs.Causes.{frame_causes_release, frames_release_only}
use Rattle.hdlc_station_laws.proofs.laws.frames_have_causes.Goals as goal

pub returns-clause-each : goal.returns-clause-each
returns-clause-each c = frame_causes_release c.control_is_table.ensures c.releases_have_causes.ensures.each

pub returns-clause-only : goal.returns-clause-only
returns-clause-only c = frames_release_only c.control_is_table.ensures c.releases_have_causes.ensures.only
