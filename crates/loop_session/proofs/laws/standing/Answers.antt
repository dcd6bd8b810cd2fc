use Rattle.loop_session.proofs.Paired.{runs_alike, serves_alike, dials_alike}
use Rattle.loop_session.proofs.laws.standing.Goals as goal

pub returns-clause-runs : goal.returns-clause-runs
returns-clause-runs c =
    runs_alike (record { made = c.standing.ensures.made; steps = c.standing.ensures.steps; shows = c.standing.ensures.shows; stands = c.kept_stands_for_stream.ensures })

pub returns-clause-serves : goal.returns-clause-serves
returns-clause-serves c =
    serves_alike (record { made = c.standing.ensures.made; steps = c.standing.ensures.steps; shows = c.standing.ensures.shows; stands = c.kept_stands_for_stream.ensures })

pub returns-clause-dials : goal.returns-clause-dials
returns-clause-dials c =
    dials_alike (record { made = c.standing.ensures.made; steps = c.standing.ensures.steps; shows = c.standing.ensures.shows; stands = c.kept_stands_for_stream.ensures })
