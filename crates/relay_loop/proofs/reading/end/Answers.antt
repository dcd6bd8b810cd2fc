-- The lines change nothing of the way.
use Rattle.std.proofs.lemmas.Result.{on_ok_weaker}
use Rattle.relay_loop.proofs.WayTakes.{news_then, news_ended}
use Rattle.relay_loop.proofs.reading.end.Goals as goal

pub returns-clause-ends : goal.returns-clause-ends
returns-clause-ends c = on_ok_weaker c.put_end.result (λ _. c.in_ok-end.ensures.ends) c.put_end.ensures

pub returns-clause-puts : goal.returns-clause-puts
returns-clause-puts c =
    on_ok_weaker c.put_end.result (λ put. news_then c.args.at.number _ _ _ c.in_ok-put_some.ensures (news_ended c.args.at.moment c.args.at.number _ _ _ put)) c.put_end.ensures
