use Rattle.er_end_promises.proofs.Bringing.{verified_are_accepted}
use Rattle.er_end_promises.proofs.laws.verified_are_accepted.Goals as goal

pub returns : goal.returns
returns c =
    verified_are_accepted c.events_give.ensures c.events_speak_once.ensures c.accepts_verified.ensures.each c.standing.ensures.made c.standing.ensures.steps c.standing.ensures.runs
    c.accepted_are_verified.ensures.one
