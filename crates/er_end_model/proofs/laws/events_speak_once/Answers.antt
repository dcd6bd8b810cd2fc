use Rattle.er_end_model.proofs.Speaking.{events_speak_once}
use Rattle.er_end_model.proofs.laws.events_speak_once.Goals as goal

pub returns : goal.returns
returns c = events_speak_once c.accepts_verified.ensures.only
