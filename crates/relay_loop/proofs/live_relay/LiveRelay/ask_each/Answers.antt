-- One after the other.
use Rattle.std.proofs.Common.{refl, ◌∙◌}
use Rattle.std.proofs.lemmas.Result.{err_from_is_err_and}
use Rattle.relay_loop.proofs.RelayRings.{goes_none, goes_then, goes_breaks}
use Rattle.relay_loop.proofs.live_relay.LiveRelay.ask_each.Goals as goal

pub loop-init : goal.loop-init
loop-init g c = record { accepted = refl; goes = λ dial. goes_none c.args.script.now dial _ _ _ }

pub loop-preserved : goal.loop-preserved
loop-preserved g c = record {
  accepted = c.ask_first.ensures.accepted ∙ c.loop.invariant.accepted;
  goes = λ dial. goes_then c.args.script.now dial _ _ _ _ _ _ _ _ _ (c.loop.invariant.goes dial) (c.in_ok-ask_first.ensures.goes dial);
}

pub returns-in_err-ask_first-clause-goes : goal.returns-in_err-ask_first-clause-goes
returns-in_err-ask_first-clause-goes g c = λ dial.
    let p = err_from_is_err_and c.from_residual.result c.from_residual.ensures.1 in
    rw (p.1, p.2) (goes_breaks _ c.args.script.now dial _ _ _ _ _ _ _ (c.loop.invariant.goes dial) (c.in_err-ask_first.ensures.goes dial))
