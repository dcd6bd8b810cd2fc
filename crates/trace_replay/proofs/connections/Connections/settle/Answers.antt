-- An end that is over, and one that goes on.
use Rattle.trace_replay.proofs.Changes.{settled_over, settled_live}
use Rattle.trace_replay.proofs.connections.Connections.settle.Goals as goal

pub returns-in_default-over_by : goal.returns-in_default-over_by
returns-in_default-over_by c = λ k was.
    settled_live c.args.self.now c.args.conn k _ _ was c.in-Some.ensures.value c.over_by.ensures c.in_default-over_by.is

pub returns : goal.returns
returns c = λ k was.
    settled_over c.args.self.now _ c.args.conn k _ c.in-Some-over_by.why _ _ was c.in-Some.ensures.value c.over_by.ensures c.in-Some-over_by.is
    c.remove.ensures.updates.1 c.remove.ensures.updates.2 c.in_ok-insert.ensures.updates.1 c.in_ok-insert.ensures.updates.2
    c.remove.ensures.value c.remove.ensures.len
