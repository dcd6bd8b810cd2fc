-- By what the command is.
use Rattle.er_serving.proofs.on_line.looped.Goals as goal

pub returns-in-Serve-clause-ends : goal.returns-in-Serve-clause-ends
returns-in-Serve-clause-ends g c = rw c.in-Serve.is (c.serve_with.ensures.ends c.in-Serve.keys.now)

pub returns-in-Call-clause-ends : goal.returns-in-Call-clause-ends
returns-in-Call-clause-ends g c = rw c.in-Call.is (c.call_with.ensures.ends c.in-Call.keys.now)
