-- The end is put, and settled.
use Rattle.std.proofs.Common.{refl}
use Rattle.trace_replay.proofs.Changes.{opened_places}
use Rattle.trace_replay.proofs.connections.Connections.open.Goals as goal

pub returns : goal.returns
returns c = λ absent.
    opened_places c.args.self.now _ c.settle.new.self c.args.conn c.args.end _ c.in_ok-insert.field-0 c.settle.result absent
    c.in_ok-insert.ensures.updates.1 c.in_ok-insert.ensures.updates.2 refl c.in_ok-insert.ensures.old c.in_ok-insert.ensures.len
    (c.settle.ensures c.args.end c.in_ok-insert.ensures.updates.1)
