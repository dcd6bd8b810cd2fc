use Rattle.drill_laws.proofs.Openings.{opens_always, links_are_opened, room_always}
use Rattle.drill_laws.proofs.laws.worlds.Goals as goal

pub returns-clause-opens : goal.returns-clause-opens
returns-clause-opens c = opens_always c.histories.ensures.facts

pub returns-clause-opened : goal.returns-clause-opened
returns-clause-opened c = links_are_opened c.histories.ensures.facts

pub returns-clause-room : goal.returns-clause-room
returns-clause-room c = room_always c.histories.ensures.facts c.runs_grow.ensures.run
