use Rattle.std.proofs.Common.{[], ◌∷◌}
use Rattle.std.proofs.lemmas.Result.{err_from_is_err_and}
use Rattle.loop_session.specs.Giving.{event_given_to_session}
use Rattle.loop_session.specs.Parts.{writes_of_entries}
use Rattle.application_loop.specs.Occurring.{entry_at_link}
use Rattle.application_loop.proofs.Occurrences.{wanted_puts}
use Rattle.application_loop.proofs.link.Link.occur.Goals as goal

pub returns-in_err-given-clause-records : goal.returns-in_err-given-clause-records
returns-in_err-given-clause-records g c = λ r same.
    let p = err_from_is_err_and c.from_residual.result c.from_residual.ensures.1 in
    wanted_puts (g.O.Outside.told c.args.outside.now)
    (writes_of_entries (entry_at_link r c.args.when.now.moment c.args.self.now (event_given_to_session c.args.event.now) ∷ [])) c.from_residual.result p.0 _ p.1 p.2
