use Rattle.hdlc_station_model.proofs.Reporting.{releases_are_told, finish_keeps_release}
use Rattle.hdlc_station_model.proofs.laws.releases_are_told.Goals as goal

pub returns-clause-calls : goal.returns-clause-calls
returns-clause-calls c = releases_are_told

pub returns-clause-finish : goal.returns-clause-finish
returns-clause-finish c = finish_keeps_release
