-- Turn by turn.
use Rattle.std.proofs.Common.{arith}
use Rattle.std.proofs.lemmas.Result.{err_from_is_err_and}
use Rattle.relay_loop.proofs.RelayRuns.{ran_then, ran_ended, ran_all, run_broken}
use Rattle.relay_loop.proofs.live_relay.LiveRelay.run.Goals as goal

pub loop-init : goal.loop-init
loop-init g c = record { few = omega (arith, c.requires.none); ran = λ first listen r. r }

pub loop-preserved : goal.loop-preserved
loop-preserved g c = record {
  few = omega (arith, c.in_ok-turn.ensures.accepted, c.loop.invariant.few);
  ran = λ first listen r.
      ran_then _ listen _ c.args.script.now c.args.dial.now _ _ _ _ _ _ first _ _ c.if-not-branch.false (c.loop.invariant.ran first listen r) c.in_ok-turn.ensures.turns;
}

pub returns : goal.returns
returns g c = λ first listen r.
    ran_all _ listen c.loop.counter c.args.turns c.args.script.now c.args.dial.now _ _ _ first _ (omega (arith, c.loop-test.false, c.loop.auto.counter-end))
    (c.loop.invariant.ran first listen r)

pub returns-then-not-branch : goal.returns-then-not-branch
returns-then-not-branch g c = λ first listen r.
    ran_ended _ _ listen _ _ c.args.script.now c.args.dial.now _ _ _ _ _ _ first _ _ c.if-not-branch.true c.loop-test.true (c.loop.invariant.ran first listen r)
    c.in_ok-turn.ensures.turns

pub returns-in_err-turn : goal.returns-in_err-turn
returns-in_err-turn g c = λ first listen r.
    let p = err_from_is_err_and c.from_residual.result c.from_residual.ensures.1 in
    rw (p.1, p.2)
    (run_broken _ listen _ _ c.args.script.now c.args.dial.now _ _ _ _ _ _ first _ _ c.loop-test.true (c.loop.invariant.ran first listen r) c.in_err-turn.ensures.turns)
