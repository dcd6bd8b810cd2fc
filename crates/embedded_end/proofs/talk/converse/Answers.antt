use Rattle.embedded_end.proofs.Doing.{user_goes_behind}
use Rattle.embedded_end.specs.Sides.{UserGoesOn}
use Rattle.embedded_end.proofs.talk.converse.Goals as goal

pub returns-clause-engine : goal.returns-clause-engine
returns-clause-engine c =
    let turn = c.calls_in_turn.ensures.turn in
    let began : UserGoesOn c.args.engine.now c.start.new.self = (_, c.in_ok-start.ensures.got) in
    let sent : UserGoesOn c.carry.new.engine c.send.new.self = (_, c.in_ok-send.ensures.got) in
    user_goes_behind turn c.args.engine.now c.send.new.self c.carry-2.new.engine
    (user_goes_behind turn c.args.engine.now c.carry.new.engine c.send.new.self (user_goes_behind turn c.args.engine.now c.start.new.self c.carry.new.engine began c.in_ok-carry.ensures.engine)
    sent) c.in_ok-carry-2.ensures.engine

pub returns-clause-centre : goal.returns-clause-centre
returns-clause-centre c =
    user_goes_behind c.calls_in_turn.ensures.turn c.args.centre.now c.carry.new.centre c.carry-2.new.centre c.in_ok-carry.ensures.centre c.in_ok-carry-2.ensures.centre
