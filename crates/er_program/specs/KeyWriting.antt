-- Representation: what the answer to a key file writes to the sink, and how it ends; no claim rests on it.
use Rattle.std.specs.Prelude.{◌≡◌, ℕ, ◌≤◌, List, [], Option, Result, Ok, Err}
use Rattle.link_trait.specs.Outside.{Grew, GrewPart, Rose}
use Rattle.er_statuses.specs.Answers.{Answer}
use Rattle.er_statuses.specs.declared.status.Status.{Status}
use Rattle.er_statuses.specs.declared.stop.Stop.{Stop}
use Rattle.er_statuses.specs.declared.stop.Stop.TheVariants as stop

-- an answer of this kind was given
pub record GaveOne (Is : Answer → Type 0) (before now : Option (List ℕ)) (f g status : ℕ) : Type 0 where
  pub answer : Answer
  pub is : Is answer
  pub stated : status ≡ answer.status
  pub printed : Grew before now answer.text
  pub later : f ≤ g

-- a beginning of one
pub record BrokeOne (Is : Answer → Type 0) (before now : Option (List ℕ)) (f g : ℕ) : Type 0 where
  pub answer : Answer
  pub is : Is answer
  pub part : GrewPart before now answer.text
  pub rose : Rose f g

-- an answer of this kind was given, or a beginning of it where the sink failed, or nothing where memory ran out
abbrev pub GivesOne : (Answer → Type 0) → Option (List ℕ) → Option (List ℕ) → ℕ → ℕ → Result Status Stop → Type 0
GivesOne Is before now f g (Ok s) = GaveOne Is before now f g s.0
GivesOne Is before now f g (Err stop.Sink) = BrokeOne Is before now f g
GivesOne Is before now f g (Err (stop.NoMemory want)) = Grew before now [] × (f ≤ g)
