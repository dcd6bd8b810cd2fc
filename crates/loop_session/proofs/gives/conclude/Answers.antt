use Rattle.loop_session.proofs.gives.conclude.Goals as goal

pub returns-clause-counts : goal.returns-clause-counts
returns-clause-counts c = λ k. c.tally.ensures k c.args.moment
