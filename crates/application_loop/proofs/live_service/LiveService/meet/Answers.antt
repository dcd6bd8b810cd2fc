-- What a turn brought.
use Rattle.std.proofs.Common.{subst}
use Rattle.application_loop.specs.Turning.{IsBrought}
use Rattle.application_loop.proofs.live_service.LiveService.meet.Goals as goal

pub returns-in-Wires : goal.returns-in-Wires
returns-in-Wires g c =
    record { meets = λ run same brought. c.react.ensures.reacts run same (subst (IsBrought run _ c.args.self.now.moment c.args.self.now) c.in-Wires.is brought) }
