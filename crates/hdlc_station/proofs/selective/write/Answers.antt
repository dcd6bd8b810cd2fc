use Rattle.std.proofs.Common.{refl}
use Rattle.hdlc_station.proofs.selective.write.Goals as goal

pub returns-in-Plain-clause-written : goal.returns-in-Plain-clause-written
returns-in-Plain-clause-written c = rw c.in-Plain.is (refl, c.write.ensures.appends.items)

pub returns-in-Repeated-clause-written : goal.returns-in-Repeated-clause-written
returns-in-Repeated-clause-written c = rw c.in-Repeated.is (refl, c.send_at.ensures.appends.items)

pub returns-in-AskBelow-clause-written : goal.returns-in-AskBelow-clause-written
returns-in-AskBelow-clause-written c = rw c.in-AskBelow.is c.ask_below.ensures.moves
