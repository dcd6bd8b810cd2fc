-- The line that the side has ended waits first.
use Rattle.std.proofs.Common.{refl}
use Rattle.std.proofs.lemmas.Result.{err_from_is_err_and}
use Rattle.er_base.specs.declared.side.Side.TheVariants.{R}
use Rattle.relay_loop.specs.Rings.{Ended}
use Rattle.relay_loop.proofs.RelayAccepts.{readies_ended, readies_end, accept_at_once}
use Rattle.relay_loop.proofs.RelayDials.{end_line_text_is}
use Rattle.relay_loop.proofs.live_relay.LiveRelay.give_up.Goals as goal

pub returns-clause-accepts : goal.returns-clause-accepts
returns-clause-accepts g c = λ script dial.
    readies_end c.turn_away.result script dial _ _ c.args.at.number c.args.conn.0 _ _ _ _ _ _ _ _
    (readies_ended script dial c.args.at.moment c.args.at.number c.args.conn.0 _ _ _ _
    (end_line_text_is _ _ c.args.at.moment c.args.at.number R c.in_ok-put_end.ensures))
    (c.turn_away.ensures.accepts script dial Ended tt)

pub returns-in_err-put_end-clause-accepts : goal.returns-in_err-put_end-clause-accepts
returns-in_err-put_end-clause-accepts g c = λ script dial.
    let p = err_from_is_err_and c.from_residual.result c.from_residual.ensures.1 in
    rw (p.1, p.2) (accept_at_once _ script dial _ c.args.at.number c.args.conn.0 _ _ _ refl)
