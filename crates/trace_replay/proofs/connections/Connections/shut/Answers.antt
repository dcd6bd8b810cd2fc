-- No end is opened.
use Rattle.std.proofs.Common.{refl}
use Rattle.trace_replay.proofs.Changes.{declined_places}
use Rattle.trace_replay.proofs.connections.Connections.shut.Goals as goal

pub returns : goal.returns
returns c = λ absent. declined_places c.args.self.now _ c.args.conn absent refl c.in_ok-insert.ensures.updates.1 c.in_ok-insert.ensures.updates.2
