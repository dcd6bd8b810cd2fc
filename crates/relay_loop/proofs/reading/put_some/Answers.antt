-- Nothing is held no longer, or a line tells it.
use Rattle.std.proofs.lemmas.Result.{on_ok_weaker}
use Rattle.relay_loop.proofs.WayTakes.{news_none, news_received}
use Rattle.relay_loop.proofs.reading.put_some.Goals as goal

pub returns-then-is_empty : goal.returns-then-is_empty
returns-then-is_empty c = news_none c.args.at.number c.args.lines.now.items

pub returns : goal.returns
returns c = on_ok_weaker c.put_came.result (λ put. news_received c.args.at.moment c.args.at.number c.args.side c.args.octets.now _ _ put) c.put_came.ensures
