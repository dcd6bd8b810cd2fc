use Rattle.embedded_end.proofs.Doing.{user_has_accepted}
use Rattle.embedded_end.proofs.talk.talk.Goals as goal

pub returns-clause-engine : goal.returns-clause-engine
returns-clause-engine c =
    λ opening before.
    user_has_accepted c.calls_in_turn.ensures.turn c.taken_in_order.ensures.opened c.accepted_are_verified.ensures.brought opening c.args.engine.now c.converse.new.engine
    before c.in_ok-converse.ensures.engine

pub returns-clause-centre : goal.returns-clause-centre
returns-clause-centre c =
    λ opening before.
    user_has_accepted c.calls_in_turn.ensures.turn c.taken_in_order.ensures.opened c.accepted_are_verified.ensures.brought opening c.args.centre.now c.converse.new.centre
    before c.in_ok-converse.ensures.centre
