-- By all that such an outside does inside.
use Rattle.recorded_runs.proofs.Joining.{goes_behind}
use Rattle.recorded_runs.proofs.laws.goes_behind_its_recording.Goals as goal

pub returns : goal.returns
returns g c =
    λ before. goes_behind before _ _ c.goes_behind_its_lines.ensures c.is_still_behind_a_fault.ensures c.tells_what_comes.ensures
