-- The line was said, or its write failed.
use Rattle.std.proofs.Common.{◌≡◌, refl}
use Rattle.outside.specs.Scripts.{Ends}
use Rattle.outside.specs.ScriptSteps.{does_printed, does_sank, does_end}
use Rattle.er_statuses.proofs.acting.last.Goals as goal

pub returns-in-Ok : goal.returns-in-Ok
returns-in-Ok g c = record {
  does = does_printed (λ line. line ≡ c.args.text.now) (Ends c.args.status) c.args.text.now _ _ _ _ refl c.in-Ok.ensures.does (does_end c.args.status _);
}

pub returns-in-Err : goal.returns-in-Err
returns-in-Err g c = record { does = does_sank (λ line. line ≡ c.args.text.now) (Ends c.args.status) c.args.text.now _ _ refl c.in-Err.ensures.does }
