-- Representation: what the parts of a run leave of the outside; no claim rests on it.
use Rattle.std.specs.Prelude.{◌≡◌, ℕ, List, [], ◌∷◌, Result, IfOk}
use Rattle.link_trait.specs.Outside.{Grew, GrewPart}
use Rattle.outside.specs.Doings.{Told}
use Rattle.er_statuses.specs.declared.status.Status.{Status}
use Rattle.er_statuses.specs.declared.stop.Stop.{Stop}
use Rattle.er_serving.specs.RecordedLines.{IsLineRecorded}

-- what was done is recorded before it goes, and no file was asked for
pub record KeepsCabinet (before now : Told) : Type 0 where
  pub recorded : IsLineRecorded before now
  pub cabinet : now.cabinet ≡ before.cabinet

-- the same, and this name was asked for, once
pub record AsksOne (name : List ℕ) (before now : Told) (result : Result Status Stop) : Type 0 where
  pub recorded : IsLineRecorded before now
  pub asked : IfOk result (λ status. Grew before.cabinet.asked now.cabinet.asked (name ∷ []))
  pub part : GrewPart before.cabinet.asked now.cabinet.asked (name ∷ [])
