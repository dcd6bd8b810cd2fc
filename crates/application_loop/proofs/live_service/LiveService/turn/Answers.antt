-- One turn of the wires.
use Rattle.std.proofs.Common.{◌∙◌, refl, sym, ap}
use Rattle.application_loop.proofs.Turns.{turned}
use Rattle.application_loop.proofs.LivingParts.{arrives}
use Rattle.application_loop.proofs.live_service.LiveService.turn.Goals as goal

pub returns-then-not-is_coming : goal.returns-then-not-is_coming
returns-then-not-is_coming g c =
    record {
      turns = λ run moment resting.
          turned _ _ c.args.self.now c.until.result c.turn-happening.result c.turn-happening.ensures.does c.turn-happening.ensures.number
          (sym c.is_coming.ensures ∙ c.if-not-is_coming.true) resting;
    }

pub returns : goal.returns
returns g c =
    record {
      turns = λ run moment resting.
          arrives _ _ c.args.self.now _ c.until.result c.turn-happening.result c.turn-happening.ensures.does
          (sym c.is_coming.ensures ∙ c.if-not-is_coming.false)
          (record {
            links = refl;
            desk = ap (λ p. record c.args.self.now.desk { port = p }) c.attach.ensures;
            held = c.begin.ensures.held;
            keys = refl;
            moment = refl;
            draining = refl;
            calls = refl;
          })
          resting moment;
    }
