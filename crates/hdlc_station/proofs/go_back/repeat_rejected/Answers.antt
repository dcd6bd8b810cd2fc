use Rattle.std.proofs.Common.{◌++◌, ap, ◌∙◌, arith, lt-ltb, le-ltb}
use Rattle.std.specs.Prelude.{nat_lt}
use Rattle.hdlc_station_model.specs.Sending.{starts_timer, sends_again}
use Rattle.hdlc_station.specs.Kept.{KeptStation}
use Rattle.hdlc_station.specs.Replies.{info_texts}
use Rattle.hdlc_station.proofs.Following.{stands_yes, stands_no}
use Rattle.hdlc_station.proofs.Saying.{silent}
use Rattle.hdlc_station.proofs.go_back.repeat_rejected.Goals as goal

pub returns-then-ahead-eq0-clause-answers : goal.returns-then-ahead-eq0-clause-answers
returns-then-ahead-eq0-clause-answers c = λ out out' e s before d h.
    let a = ap (λ (k : KeptStation). k.ahead) h.is in
    stands_no _ before _ d (nat_lt s.acked s.sent) (starts_timer (sends_again s)) s (le-ltb s.acked s.sent (omega (arith, c.if-ahead-eq0.true, c.ahead.ensures, h.order)))
    (silent _ before out out' d s h e)

pub returns-clause-answers : goal.returns-clause-answers
returns-clause-answers c = λ out out' e s before d h.
    let a = ap (λ (k : KeptStation). k.ahead) h.is in
    let text = e ∙ ap (λ (k : KeptStation). out.items ++ info_texts k 0 k.ahead) c.start_timer.ensures.same in
    stands_yes _ before _ d (nat_lt s.acked s.sent) (starts_timer (sends_again s)) s (lt-ltb s.acked s.sent (omega (arith, c.if-ahead-eq0.false, c.ahead.ensures, h.order)))
    (c.start_timer.ensures.follows out' _ before d (c.repeat.ensures.follows out out' text s before d h))
