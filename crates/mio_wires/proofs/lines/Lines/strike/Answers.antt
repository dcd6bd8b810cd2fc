use Rattle.std.proofs.Common.{rules, tests}
use Rattle.std.specs.Prelude.{◌≢◌}
use Rattle.std.proofs.lemmas.Fn.{All-from_retain}
use Rattle.mio_wires.proofs.lines.Lines.strike.Goals as goal

pub returns-clause-closed : goal.returns-clause-closed
returns-clause-closed c = All-from_retain _ (λ place. place.number ≢ c.args.number) _ (λ x b q k. search (rules, tests)) _ _ c.retain.ensures.filtered
