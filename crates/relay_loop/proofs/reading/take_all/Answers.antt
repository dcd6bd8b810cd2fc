-- Piece by piece, up to a close or the end.
use Rattle.std.proofs.Common.{◌≡◌, [], sym, ◌∙◌, eqb-true}
use Rattle.std.proofs.lemmas.List.{nil_from_length}
use Rattle.relay_loop.proofs.WayTakes.{so_far_none, so_far_more, all_taken, closed_taken, news_none, news_then}
use Rattle.relay_loop.proofs.reading.take_all.Goals as goal

pub loop-rest-init : goal.loop-rest-init
loop-rest-init c = record {
  room = c.in_ok-came.ensures.capacity;
  taken = so_far_none c.args.script.now c.args.octets.now c.args.way.now c.requires.unended c.requires.alive;
  puts = news_none c.args.at.number c.args.lines.now.items;
}

pub returns-then-is_closed-clause-takes : goal.returns-then-is_closed-clause-takes
returns-then-is_closed-clause-takes c =
    closed_taken c.closed_stays.ensures c.args.script.now c.args.octets.now _ _ _ (sym c.is_closed.ensures ∙ c.if-is_closed.true) c.loop-rest.invariant.taken

pub loop-rest-preserved : goal.loop-rest-preserved
loop-rest-preserved c = record {
  room = c.in_ok-used.ensures.room;
  taken = so_far_more c.args.script.now c.args.octets.now c.loop-rest.rest.now _ c.in_ok-used.used _ _ _ c.in_ok-used.ensures.unended c.in_ok-used.ensures.alive
      c.split_at.ensures.back c.loop-rest.invariant.taken c.in_ok-used.ensures.takes c.in_ok-used.ensures.stays;
  puts = news_then c.args.at.number _ _ _ c.loop-rest.invariant.puts c.in_ok-put_some.ensures;
}

pub returns-clause-takes : goal.returns-clause-takes
returns-clause-takes c =
    let none : c.loop-rest.rest.now ≡ [] = nil_from_length c.loop-rest.rest.now (eqb-true _ 0 (sym c.is_empty.ensures ∙ c.loop-rest-test.false)) in
    all_taken c.args.script.now c.args.octets.now c.loop-rest.rest.now _ _ none c.loop-rest.invariant.taken
