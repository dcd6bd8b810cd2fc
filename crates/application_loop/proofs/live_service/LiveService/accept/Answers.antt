-- A connection was accepted.
use Rattle.std.proofs.Common.{◌≡◌, inl, inr, false}
use Rattle.application_loop.specs.Living.{accepts_more}
use Rattle.application_loop.proofs.Turns.{closed_unknown, coming_drew, accepts_none, accepts_some}
use Rattle.application_loop.proofs.live_service.LiveService.accept.Goals.{then-self-via-then-self, then-self-via-else-self+then-self-2}
use Rattle.application_loop.proofs.live_service.LiveService.accept.Goals as goal

pub returns-then-self : goal.returns-then-self
returns-then-self g c =
    let none : accepts_more c.args.self.now.draining c.args.self.now.calls ≡ false =
    elim c.then-self.branch [
      | then-self-via-then-self w ↦ accepts_none _ _ (inl w.if-self.true)
      | then-self-via-else-self+then-self-2 w ↦ accepts_none _ _ (inr w.if-self-2.true)
    ] in
    record { opens = λ run same coming. closed_unknown _ _ c.args.self.now c.args.conn.0 c.close.ensures.does none coming }

pub returns-then-len-ge-MOST_LIVE : goal.returns-then-len-ge-MOST_LIVE
returns-then-len-ge-MOST_LIVE g c =
    record { opens = λ run same coming. c.turn_away.ensures.opens run coming (accepts_some _ _ c.if-self.false c.if-self-2.false) }

pub returns : goal.returns
returns g c =
    record {
      opens = λ run same coming.
          c.answer.ensures.opens run same (coming_drew _ _ c.args.self.now c.args.conn.0 c.word-ra.result c.word-ra.ensures.does coming)
          (accepts_some _ _ c.if-self.false c.if-self-2.false);
    }
