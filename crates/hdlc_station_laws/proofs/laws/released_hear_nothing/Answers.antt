use Rattle.hdlc_station_laws.proofs.Counting.{released_hear_nothing, frames_stop_timer}
use Rattle.hdlc_station_laws.proofs.laws.released_hear_nothing.Goals as goal

pub returns-clause-nothing : goal.returns-clause-nothing
returns-clause-nothing c = released_hear_nothing

pub returns-clause-timer : goal.returns-clause-timer
returns-clause-timer c = frames_stop_timer
