-- As many as the model counts.
use Rattle.std.proofs.Common.{length, ap, ◌∙◌}
use Rattle.x224_class2.specs.Kept.{KeptTransport}
use Rattle.x224_class2.proofs.Following.{untaken_shown}
use Rattle.x224_class2.proofs.transport.Transport.untaken.Goals as goal

pub returns-clause-shown : goal.returns-clause-shown
returns-clause-shown c = untaken_shown c.args.self.now c.len.result (c.len.ensures.value ∙ ap (λ (k : KeptTransport). length k.lasts) c.self.view_is)
