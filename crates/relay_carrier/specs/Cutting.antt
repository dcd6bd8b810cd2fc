-- Representation: how the code keeps where a side stands; no claim rests on it.
use Rattle.std.specs.Prelude.{◌≡◌, ℕ, ◌<◌, Bool, true, false, List, [], length}
use Rattle.er_base.specs.Stored.{Stored}
use Rattle.relay_carrier.specs.declared.stage.Stage.{Stage}
use Rattle.relay_carrier.specs.declared.stage.Stage.TheVariants as stage
use Rattle.relay_model.specs.Units.{Standing, Unbegun, Holding, Overlong}

-- where the side stands
abbrev pub standing_kept : Stage → (held : List ℕ) → (begun : Bool) → Standing
standing_kept stage.Unbegun held begun = Unbegun
standing_kept stage.Holding held begun = Holding held begun
standing_kept stage.Overlong held begun = Overlong

-- nothing is held but where octets are held
abbrev pub HoldsNothing : Stage → (held : List ℕ) → (begun : Bool) → Type 0
HoldsNothing stage.Unbegun held begun = (held ≡ []) × (begun ≡ false)
HoldsNothing stage.Holding held begun = Unit {0}
HoldsNothing stage.Overlong held begun = (held ≡ []) × (begun ≡ false)

-- what is kept fits
pub record KeepsWell (stage : Stage) (held : Stored) (begun : Bool) : Type 0 where
  pub room : held.capacity ≡ 4096
  pub short : length held.items < 4096
  pub rests : HoldsNothing stage held.items begun

abbrev pub is_holding : Standing → Bool
is_holding Unbegun = false
is_holding (Holding held begun) = true
is_holding Overlong = false
