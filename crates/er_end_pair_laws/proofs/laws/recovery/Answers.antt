use Rattle.er_end_pair_laws.specs.LawsBelow.{MendingLawsBelow}
use Rattle.er_end_pair_laws.proofs.Lasting.{passes_release}
use Rattle.er_end_pair_laws.proofs.Repaired.{recovery}
use Rattle.er_end_pair_laws.proofs.laws.recovery.Goals as goal

laws : goal.After-mending_keeps → MendingLawsBelow
laws c = record { below = c.laws_below.ensures; keep = c.mending_keeps.ensures.calls }

pub returns-clause-recovered : goal.returns-clause-recovered
returns-clause-recovered c = recovery (laws c) c.mending_keeps.ensures.done

pub returns-clause-live : goal.returns-clause-live
returns-clause-live c = passes_release (laws c)
