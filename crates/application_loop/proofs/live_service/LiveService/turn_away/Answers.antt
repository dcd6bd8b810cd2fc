-- A connection that gets no end.
use Rattle.std.proofs.Common.{refl}
use Rattle.application_loop.proofs.Openers.{away_rests, away_broke}
use Rattle.application_loop.proofs.Turns.{broke_resting}
use Rattle.application_loop.proofs.live_service.LiveService.turn_away.Goals as goal

pub returns-in_err-write_event : goal.returns-in_err-write_event
returns-in_err-write_event g c =
    record {
      opens = λ run coming accepts.
          broke_resting _ run _ _ c.from_residual.result c.from_residual.ensures.1
          (away_broke _ c.args.self.now c.args.number c.ranges.number.fits coming accepts _ c.len.result _ c.in_err-write_event.ensures.puts);
    }

pub returns : goal.returns
returns g c =
    record {
      opens = λ run coming accepts.
          away_rests _ c.args.self.now c.args.number c.ranges.number.fits coming accepts _ _ _ c.len.result c.in_ok-write_event.ensures.puts c.close.ensures.does
          (record { desk = c.count_opened.ensures; held = refl; keys = refl; moment = refl; draining = refl; calls = refl }) refl;
    }
