-- When an end finds a timer expired: exactly at its deadline, or behind it (this profile).
use Rattle.std.specs.Prelude.{ℕ, ◌≡◌, ◌≤◌, ◌↔◌, max, true, List, Some}
use Rattle.er_end_model.specs.Steps.{new_event_at, deadline}
use Rattle.er_end_model.specs.Layers.{Core, model}
use Rattle.er_end_model.specs.Ends.{Opening, Event, End, Moment, opened, finds_expired, step_event, end_run}

-- the moment, or the last one where that is later, has reached the deadline
abbrev pub IsDue : ℕ → Core → Type 0
IsDue now x = (due : ℕ) × (deadline model x ≡ Some due) × (due ≤ max x.moment now)

-- an end behind any events finds a timer expired at a moment exactly so
abbrev pub ExpiresAtDeadline : Type 0
ExpiresAtDeadline =
    (opening : Opening) (events : List Moment) (now : ℕ)
    → (finds_expired (new_event_at model now (end_run events (opened opening)).core) ≡ true) ↔ IsDue now (end_run events (opened opening)).core

-- the station saw no moment behind the end's last one
abbrev pub IsTimely : Core → Type 0
IsTimely x = x.line.moment ≤ x.moment

-- an end that was opened is so, each event keeps it, and of such an end the same holds
pub record TimelyEnds : Type 0 where
  pub made : (opening : Opening) → IsTimely (opened opening).core
  pub kept : (now : ℕ) (event : Event) (m : End) → IsTimely m.core → IsTimely (step_event now event m).0.core
  pub exactly : (now : ℕ) (x : Core) → IsTimely x → (finds_expired (new_event_at model now x) ≡ true) ↔ IsDue now x
