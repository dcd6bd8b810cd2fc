use Rattle.tap_laws.proofs.Progressing.{sides_progress}
use Rattle.tap_laws.proofs.Living.{live_sides}
use Rattle.tap_laws.proofs.laws.sides_progress.Goals as goal

pub returns-clause-progress : goal.returns-clause-progress
returns-clause-progress c = sides_progress c.steps.ensures.only c.valid_sides.ensures.itself c.events_speak_once.ensures

pub returns-clause-live : goal.returns-clause-live
returns-clause-live c = live_sides c.steps.ensures.only
