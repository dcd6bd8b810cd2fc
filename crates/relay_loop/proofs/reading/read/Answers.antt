-- What the read gave is taken.
use Rattle.relay_loop.proofs.Results.{match_ends}
use Rattle.relay_loop.proofs.WayTakes.{reads_on, hears_one, hears_only}
use Rattle.relay_loop.proofs.reading.read.Goals as goal

pub returns-clause-hears : goal.returns-clause-hears
returns-clause-hears g c =
    match_ends c.take_in.result c.take_in.ensures.takes
    (λ t. hears_one c.args.script.now c.args.from.0 _ c.args.way.now _ _ _ c.read-answer.result _ c.read-answer.ensures.does t)
    (hears_only c.args.script.now c.args.from.0 _ c.args.way.now _ _ c.read-answer.result _ c.read-answer.ensures.does
    (λ octets. reads_on c.given_begins.ensures c.args.script.now octets c.args.way.now c.requires.alive c.requires.unended))
