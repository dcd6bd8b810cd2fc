-- Nothing is read, or it is read once.
use Rattle.std.proofs.Common.{refl}
use Rattle.std.proofs.lemmas.Result.{err_from_is_err_and}
use Rattle.relay_loop.proofs.WayCalls.{moves_none, same}
use Rattle.relay_loop.proofs.WayTakes.{hears_none, hears_behind, hears_only_behind, news_none}
use Rattle.relay_loop.proofs.reading.hear.Goals as goal

pub returns-then-is_closed : goal.returns-then-is_closed
returns-then-is_closed g c = record {
  hears = hears_none c.args.script.now c.args.from.0 c.args.way.now c.args.way.now _ (moves_none c.args.script.now c.args.way.now)
      (record { ended = refl; lost = refl; closing = λ is. is });
  puts = news_none c.args.at.number _;
}

pub returns-then-way : goal.returns-then-way
returns-then-way g c = record {
  hears = hears_none c.args.script.now c.args.from.0 c.args.way.now c.args.way.now _ (moves_none c.args.script.now c.args.way.now)
      (record { ended = refl; lost = refl; closing = λ is. is });
  puts = news_none c.args.at.number _;
}

pub returns-then-way-2 : goal.returns-then-way-2
returns-then-way-2 g c = record {
  hears = hears_none c.args.script.now c.args.from.0 c.args.way.now _ _ (same c.args.script.now c.args.way.now _ refl refl refl refl refl refl refl refl)
      (record { ended = refl; lost = refl; closing = λ is. is });
  puts = news_none c.args.at.number _;
}

pub returns-clause-hears : goal.returns-clause-hears
returns-clause-hears g c =
    hears_behind c.args.script.now c.args.from.0 c.args.way.now _ _ _ _ (same c.args.script.now c.args.way.now _ refl refl refl refl refl refl refl refl)
    (record { ended = refl; lost = refl; closing = λ is. is }) c.in_ok-read.ensures.hears

pub returns-in_err-read-clause-hears : goal.returns-in_err-read-clause-hears
returns-in_err-read-clause-hears g c =
    let p = err_from_is_err_and c.from_residual.result c.from_residual.ensures.1 in
    rw (p.1, p.2) (
      refl,
      hears_only_behind c.args.script.now c.args.from.0 c.args.way.now _ _ _ (same c.args.script.now c.args.way.now _ refl refl refl refl refl refl refl refl)
          c.in_err-read.ensures.hears,
    )
