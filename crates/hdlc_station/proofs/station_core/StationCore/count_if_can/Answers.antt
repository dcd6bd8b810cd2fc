use Rattle.std.proofs.Common.{◌≡◌, ◌+◌, ◌-◌, ◌++◌, ℕ, Some, ap, sym, ◌∙◌, arith}
use Rattle.hdlc_station_model.specs.Sending.{can_send, sends_next}
use Rattle.hdlc_station.specs.Kept.{KeptStation}
use Rattle.hdlc_station.specs.Replies.{info_texts}
use Rattle.hdlc_station.proofs.Following.{stands_no}
use Rattle.hdlc_station.proofs.Saying.{silent}
use Rattle.hdlc_station.proofs.Sends.{started_none, started_some, next_counted}
use Rattle.hdlc_station.proofs.station_core.StationCore.count_if_can.Goals as goal

pub returns-then-is_none-clause-follows : goal.returns-then-is_none-clause-follows
returns-then-is_none-clause-follows c = λ out out' e s before d h.
    let run = ap (λ (m : ℕ). m + c.self.inside.t1) c.get.ensures.same in
    let none = c.if-is_none.ensures in
    next_counted _ _ _ before out out' d s c.self.view_is (ap Some run ∙ started_none c.self.inside.timer (c.self.inside.moment + c.self.inside.t1) none) h c.requires e
    (sym (c.can_send.ensures.shown s h.is h.order h.given) ∙ c.if-not-can_send.false)

pub returns-else-is_none-clause-follows : goal.returns-else-is_none-clause-follows
returns-else-is_none-clause-follows c = λ out out' e s before d h.
    let some = c.if-is_none.ensures in
    next_counted _ _ _ before out out' d s c.self.view_is (started_some c.self.inside.timer (c.self.inside.moment + c.self.inside.t1) some) h c.requires e
    (sym (c.can_send.ensures.shown s h.is h.order h.given) ∙ c.if-not-can_send.false)

pub returns-then-not-can_send-clause-follows : goal.returns-then-not-can_send-clause-follows
returns-then-not-can_send-clause-follows c = λ out out' e s before d h.
    let old : KeptStation = c.args.self.now in
    let none : old.ahead - old.ahead ≡ 0 = omega arith in
    stands_no _ before _ d (can_send s) (sends_next s) s (sym (c.can_send.ensures.shown s h.is h.order h.given) ∙ c.if-not-can_send.true)
    (silent _ before out out' d s h (e ∙ ap (λ (n : ℕ). out.items ++ info_texts old old.ahead n) none))
