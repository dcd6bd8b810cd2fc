-- An event that isn't taken, and one whose text was printed or whose write failed.
use Rattle.std.proofs.lemmas.Result.{err_from_is_err_and}
use Rattle.er_program.proofs.Replaying.{one_refused, one_went, one_sank}
use Rattle.er_program.proofs.replay.replay_once.Goals as goal

pub returns-in_err-take : goal.returns-in_err-take
returns-in_err-take g c = record {
  replays = λ before stands.
      let p = err_from_is_err_and c.from_residual.result c.from_residual.ensures.1 in
      rw (p.1, p.2)
      (one_refused c.args.settings.now _ before c.args.entry.now c.take.new.self c.clear.new.self.items c.take.new.out.items c.in_err-take.field-0.0 _ (c.in_err-take.ensures before stands));
}

pub returns-in-Ok : goal.returns-in-Ok
returns-in-Ok g c = record {
  replays = λ before stands.
      one_went c.args.settings.now _ before c.args.entry.now c.take.new.self c.clear.new.self.items c.take.new.out.items c.as_slice.result.now _ _ (c.in_ok-take.ensures before stands)
      c.clear.ensures.items c.as_slice.ensures.value c.in-Ok.ensures.does;
}

pub returns-in-Err : goal.returns-in-Err
returns-in-Err g c = record {
  replays = λ before stands.
      one_sank c.args.settings.now _ before c.args.entry.now c.take.new.self c.clear.new.self.items c.take.new.out.items c.as_slice.result.now _ _ (c.in_ok-take.ensures before stands)
      c.clear.ensures.items c.as_slice.ensures.value c.in-Err.ensures.does;
}
