-- Above the most it is turned away.
use Rattle.std.proofs.Common.{◌+◌, refl, subst, ◌≤◌, ◌∙◌}
use Rattle.std.proofs.lemmas.Result.{err_from_is_err_and}
use Rattle.relay_loop.specs.Rings.{Opened}
use Rattle.relay_loop.proofs.RelayAccepts.{readies_open, readies_end, accept_at_once}
use Rattle.relay_loop.proofs.RelayDials.{open_line_text_is}
use Rattle.relay_loop.proofs.live_relay.LiveRelay.accept.Goals as goal

pub returns-in_err-put_open-clause-accepts : goal.returns-in_err-put_open-clause-accepts
returns-in_err-put_open-clause-accepts g c = λ script.
    let p = err_from_is_err_and c.from_residual.result c.from_residual.ensures.1 in
    rw (p.1, p.2) (accept_at_once _ script c.args.dial.now _ _ c.args.conn.0 _ _ _ refl)

pub returns-then-len-ge-MOST_CONNECTIONS-clause-accepts : goal.returns-then-len-ge-MOST_CONNECTIONS-clause-accepts
returns-then-len-ge-MOST_CONNECTIONS-clause-accepts g c = λ script.
    readies_end c.turn_away.result script c.args.dial.now _ _ (c.args.self.now.accepted + 1) c.args.conn.0 _ _ _ _ _ _ _ _
    (readies_open script c.args.dial.now c.args.self.now.moment (c.args.self.now.accepted + 1) c.args.conn.0 _ _ _ _
    (open_line_text_is _ _ c.args.self.now.moment (c.args.self.now.accepted + 1) c.in_ok-put_open.ensures))
    (c.turn_away.ensures.accepts script c.args.dial.now Opened (subst (λ n. 256 ≤ n) (c.len.ensures ∙ c.args.self.now.links.ok.0) c.if-len-ge-MOST_CONNECTIONS.true))

pub returns-clause-accepts : goal.returns-clause-accepts
returns-clause-accepts g c = λ script.
    readies_end c.dial.result script c.args.dial.now _ _ (c.args.self.now.accepted + 1) c.args.conn.0 _ _ _ _ _ _ _ _
    (readies_open script c.args.dial.now c.args.self.now.moment (c.args.self.now.accepted + 1) c.args.conn.0 _ _ _ _
    (open_line_text_is _ _ c.args.self.now.moment (c.args.self.now.accepted + 1) c.in_ok-put_open.ensures))
    (c.dial.ensures.accepts script)
