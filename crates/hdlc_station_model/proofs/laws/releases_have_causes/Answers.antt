use Rattle.hdlc_station_model.proofs.Releasing.{cause_releases}
use Rattle.hdlc_station_model.proofs.Causing.{releases_only, others_tell_none}
use Rattle.hdlc_station_model.proofs.laws.releases_have_causes.Goals as goal

pub returns-clause-each : goal.returns-clause-each
returns-clause-each c = cause_releases c.control_is_table.ensures

pub returns-clause-only : goal.returns-clause-only
returns-clause-only c = releases_only c.control_is_table.ensures

pub returns-clause-others : goal.returns-clause-others
returns-clause-others c = others_tell_none
