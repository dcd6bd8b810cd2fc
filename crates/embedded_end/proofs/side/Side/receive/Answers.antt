use Rattle.std.proofs.Common.{rules, ◌≡◌, [], length, refl}
use Rattle.embedded_end.proofs.Doing.{heard_none, heard_to, heard_all}
use Rattle.embedded_end.proofs.side.Side.receive.Goals as goal

pub loop-rest-init : goal.loop-rest-init
loop-rest-init c = record { before = []; is = refl; heard = heard_none c.args.self.now }

pub loop-rest-preserved : goal.loop-rest-preserved
loop-rest-preserved c =
    heard_to c.calls_in_turn.ensures.turn c.args.self.now c.loop-rest.self c.hear.new.self c.take.new.self c.args.octets.now c.loop-rest.rest.now c.in_ok-used.used
    c.loop-rest.invariant.before c.loop-rest.invariant.is c.loop-rest.invariant.heard c.in_ok-used.ensures.heard c.in_ok-take.ensures

pub returns : goal.returns
returns c =
    let none : length c.loop-rest.rest.now ≡ 0 = search rules in heard_all c.args.self.now c.loop-rest.self c.args.octets.now c.loop-rest.rest.now c.loop-rest.invariant none
