-- Nothing more is accepted, and all connections are released.
use Rattle.std.proofs.Common.{refl, true}
use Rattle.application_loop.proofs.LinesAnswered.{drained_by}
use Rattle.application_loop.proofs.live_service.LiveService.drain.Goals as goal

pub returns-clause-drains : goal.returns-clause-drains
returns-clause-drains g c =
    λ run rest moment living there.
    drained_by _ (record c.args.self.now { links = c.release_all.new.self; desk = c.release_all.new.desk; draining = true }) rest c.args.when.now.moment
    c.release_all.result moment c.release_all.ensures.releases (record { keys = refl; held = refl; moment = refl; draining = refl; calls = refl }) there living
