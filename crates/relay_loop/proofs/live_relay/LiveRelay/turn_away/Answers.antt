-- The line is written, and the socket is closed.
use Rattle.std.proofs.Common.{refl}
use Rattle.std.proofs.lemmas.Result.{err_from_is_err_and}
use Rattle.relay_loop.specs.RelayLines.{Closing}
use Rattle.relay_loop.proofs.RelayAccepts.{stands_on, readies_line, readies_breaks, accept_breaks, accept_at_once}
use Rattle.relay_loop.proofs.RelayDials.{closing_line_text_is, turned_away}
use Rattle.relay_loop.proofs.live_relay.LiveRelay.turn_away.Goals as goal

pub returns-clause-accepts : goal.returns-clause-accepts
returns-clause-accepts g c = λ script dial stage close.
    turned_away script dial stage c.args.at.moment c.args.at.number c.args.conn.0 _ _ _ _ _ _ _ close c.in_ok-put_closed.ensures c.in_ok-write_lines.ensures.told
    c.in_ok-write_lines.ensures.none c.close.ensures.does

pub returns-in_err-put_closed-clause-accepts : goal.returns-in_err-put_closed-clause-accepts
returns-in_err-put_closed-clause-accepts g c = λ script dial stage close.
    let p = err_from_is_err_and c.from_residual.result c.from_residual.ensures.1 in
    rw (p.1, p.2) (accept_at_once _ script dial stage c.args.at.number c.args.conn.0 _ _ _ refl)

pub returns-in_err-write_lines-clause-accepts : goal.returns-in_err-write_lines-clause-accepts
returns-in_err-write_lines-clause-accepts g c = λ script dial stage close.
    let p = err_from_is_err_and c.from_residual-in_err-write_lines.result c.from_residual-in_err-write_lines.ensures.1 in
    rw (p.1, p.2)
    (readies_breaks _ script dial stage stage c.args.at.number c.args.conn.0 _ _ _ _ _ _
    (readies_line script dial stage stage c.args.at.number c.args.conn.0 _ _ _ _ (Closing c.args.at.moment c.args.at.number) (λ other side. refl)
    (closing_line_text_is _ _ c.args.at.moment c.args.at.number c.in_ok-put_closed.ensures)
    (λ far done stands. stands_on stage c.args.at.number far done _ stands))
    (accept_breaks _ script dial stage c.args.at.number c.args.conn.0 _ _ _ _ c.in_err-write_lines.ensures.broke))
