-- One was dialled, or none.
use Rattle.std.proofs.Common.{refl}
use Rattle.std.proofs.lemmas.Result.{err_from_is_err_and}
use Rattle.relay_loop.specs.Rings.{Opened}
use Rattle.relay_loop.proofs.RelayAccepts.{readies_flush, readies_unreached, readies_then, readies_end, accept_breaks}
use Rattle.relay_loop.proofs.RelayDials.{dials_to, dial_broke, dial_accepts}
use Rattle.relay_loop.proofs.live_relay.LiveRelay.dial.Goals as goal

pub returns-in_err-write_lines-clause-accepts : goal.returns-in_err-write_lines-clause-accepts
returns-in_err-write_lines-clause-accepts g c = λ script.
    let p = err_from_is_err_and c.from_residual.result c.from_residual.ensures.1 in
    rw (p.1, p.2) (accept_breaks _ script c.args.dial.now _ c.args.at.number c.args.conn.0 _ _ _ _ c.in_err-write_lines.ensures.broke)

pub returns-in_ok-keep-in-Ok-clause-accepts : goal.returns-in_ok-keep-in-Ok-clause-accepts
returns-in_ok-keep-in-Ok-clause-accepts g c = λ script.
    rw c.keep.ensures.workspace
    (dial_accepts script c.args.dial.now c.args.at.number c.args.conn c.in-Ok.dialled c.in_ok-link-in-Ok.link c.args.self.now.links.items _ _ _ _ _ _
    c.in_ok-write_lines.ensures.told c.in_ok-write_lines.ensures.none c.in-Ok.ensures.does c.in-Ok.ensures.number c.in_ok-link-in-Ok.ensures.number
    c.in_ok-link-in-Ok.ensures.sockets.0 c.in_ok-link-in-Ok.ensures.sockets.1 c.in_ok-keep-in-Ok.ensures.links (c.in_ok-link-in-Ok.ensures.keeps script))

pub returns-in_err-link-in-Ok-clause-accepts : goal.returns-in_err-link-in-Ok-clause-accepts
returns-in_err-link-in-Ok-clause-accepts g c = λ script.
    let p = err_from_is_err_and c.from_residual-in_err-link-in-Ok.result c.from_residual-in_err-link-in-Ok.ensures.1 in
    rw (p.1, p.2)
    (dial_broke _ script c.args.dial.now c.args.at.number c.args.conn.0 c.in-Ok.dialled.0 c.args.self.now.links.items _ _ _ refl
    (dials_to script c.args.dial.now c.args.at.number c.args.conn.0 c.in-Ok.dialled.0 c.args.self.now.links.items _ _ _ _ _ c.in_ok-write_lines.ensures.told
    c.in_ok-write_lines.ensures.none c.in-Ok.ensures.does c.in-Ok.ensures.number))

pub returns-in_err-keep-in-Ok-clause-accepts : goal.returns-in_err-keep-in-Ok-clause-accepts
returns-in_err-keep-in-Ok-clause-accepts g c = λ script.
    let p = err_from_is_err_and c.from_residual-in_err-keep-in-Ok.result c.from_residual-in_err-keep-in-Ok.ensures.1 in
    rw (p.1, p.2)
    (dial_broke _ script c.args.dial.now c.args.at.number c.args.conn.0 c.in-Ok.dialled.0 c.args.self.now.links.items _ _ _ refl
    (dials_to script c.args.dial.now c.args.at.number c.args.conn.0 c.in-Ok.dialled.0 c.args.self.now.links.items _ _ _ _ _ c.in_ok-write_lines.ensures.told
    c.in_ok-write_lines.ensures.none c.in-Ok.ensures.does c.in-Ok.ensures.number))

pub returns-in-Err-clause-accepts : goal.returns-in-Err-clause-accepts
returns-in-Err-clause-accepts g c = λ script.
    readies_end c.give_up.result script c.args.dial.now _ _ c.args.at.number c.args.conn.0 _ _ _ _ _ _ _ _
    (readies_then script c.args.dial.now _ _ _ c.args.at.number c.args.conn.0 _ _ _ _ _ _ _
    (readies_flush script c.args.dial.now Opened c.args.at.number c.args.conn.0 _ _ _ _ _ c.in_ok-write_lines.ensures.told c.in_ok-write_lines.ensures.none)
    (readies_unreached script c.args.dial.now c.args.at.number c.args.conn.0 _ _ _ _ c.in-Err.ensures.does))
    (c.give_up.ensures.accepts script c.args.dial.now)
