-- What the wires say.
use Rattle.std.proofs.Common.{subst}
use Rattle.application_loop.specs.Turning.{IsSeen}
use Rattle.application_loop.proofs.live_service.LiveService.react.Goals as goal

pub returns-in-Writable : goal.returns-in-Writable
returns-in-Writable g c =
    record { reacts = λ run same seen. c.writable.ensures.rests run _ (subst (IsSeen run _ c.args.self.now) c.in-Writable.is seen) }
