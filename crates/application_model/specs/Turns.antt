-- What is owed and what is done, in turn: each thing that is done is the oldest that is owed.
use Rattle.std.specs.Prelude.{◌≡◌, List, [], ◌∷◌, Option, Some, None}
use Rattle.application_model.specs.Histories.{ServiceItem}
use Rattle.application_model.specs.Services.{Service, behind_item}

-- how what is owed grows with an item of a history, and what an item does of it
pub record Debt (D : Type 0) : Type 0 where
  pub grows : Service → ServiceItem → List D → List D
  pub does : ServiceItem → Option D

-- the oldest that is owed is done, and the rest is owed
abbrev pub IsOldest : {D : Type 0} → Option D → List D → (List D → Type 0) → Type 0
IsOldest None owed Rest = Rest owed
IsOldest {D} (Some done) owed Rest = (left : List D) × (owed ≡ done ∷ left) × Rest left

-- from what is owed, where the loop goes by this, to what is owed behind the items
abbrev pub IsDoneInTurn : {D : Type 0} → Debt D → Service → List D → List ServiceItem → List D → Type 0
IsDoneInTurn debt s owed [] last = owed ≡ last
IsDoneInTurn debt s owed (item ∷ items) last =
    IsOldest (debt.does item) (debt.grows s item owed) (λ left. IsDoneInTurn debt (behind_item s item) left items last)
