use Rattle.er_end.proofs.Standings.{made_stands, steps_alike, runs_alike, shows_alike}
use Rattle.er_end.proofs.laws.standing.Goals as goal

pub returns-clause-made : goal.returns-clause-made
returns-clause-made c = made_stands (record {
  steps = c.steps_alike.ensures.steps;
  modelled = c.steps_alike.ensures.modelled;
  made = c.standing.ensures.made;
  connect = c.standing.ensures.connect;
  accept = c.standing.ensures.accept;
  hand = c.standing.ensures.hand;
  take_one = c.standing.ensures.taken;
  receive = c.standing.ensures.receive;
  next_one = c.standing.ensures.next;
  counts = c.standing.ensures.counts;
  few = c.lengths.ensures.most;
  goes_on = c.goes_on.ensures;
})

pub returns-clause-steps : goal.returns-clause-steps
returns-clause-steps c = steps_alike (record {
  steps = c.steps_alike.ensures.steps;
  modelled = c.steps_alike.ensures.modelled;
  made = c.standing.ensures.made;
  connect = c.standing.ensures.connect;
  accept = c.standing.ensures.accept;
  hand = c.standing.ensures.hand;
  take_one = c.standing.ensures.taken;
  receive = c.standing.ensures.receive;
  next_one = c.standing.ensures.next;
  counts = c.standing.ensures.counts;
  few = c.lengths.ensures.most;
  goes_on = c.goes_on.ensures;
})

pub returns-clause-runs : goal.returns-clause-runs
returns-clause-runs c = runs_alike (record {
  steps = c.steps_alike.ensures.steps;
  modelled = c.steps_alike.ensures.modelled;
  made = c.standing.ensures.made;
  connect = c.standing.ensures.connect;
  accept = c.standing.ensures.accept;
  hand = c.standing.ensures.hand;
  take_one = c.standing.ensures.taken;
  receive = c.standing.ensures.receive;
  next_one = c.standing.ensures.next;
  counts = c.standing.ensures.counts;
  few = c.lengths.ensures.most;
  goes_on = c.goes_on.ensures;
})

pub returns-clause-shows : goal.returns-clause-shows
returns-clause-shows c = shows_alike (record {
  steps = c.steps_alike.ensures.steps;
  modelled = c.steps_alike.ensures.modelled;
  made = c.standing.ensures.made;
  connect = c.standing.ensures.connect;
  accept = c.standing.ensures.accept;
  hand = c.standing.ensures.hand;
  take_one = c.standing.ensures.taken;
  receive = c.standing.ensures.receive;
  next_one = c.standing.ensures.next;
  counts = c.standing.ensures.counts;
  few = c.lengths.ensures.most;
  goes_on = c.goes_on.ensures;
})
