use Rattle.std.proofs.Common.{rules, not}
use Rattle.std.proofs.lemmas.Fn.{filter_same}
use Rattle.mio_wires.specs.Queueing.{is_seen_at}
use Rattle.mio_wires.proofs.queue.Queue.forget.Goals as goal

pub returns-clause-others : goal.returns-clause-others
returns-clause-others c = filter_same _ (λ what. not (is_seen_at c.args.number what)) _ (λ x b f' k. search rules) _ _ c.retain.ensures.filtered
