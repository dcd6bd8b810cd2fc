-- Contract: counts of units, and delays, up to the greatest number of 64 bits.
use Rattle.std.specs.Prelude.{◌≡◌, ℕ, ◌+◌, nat_lt, Bool, true, false, if◌then◌else◌, List, slice_index}
use Rattle.relay_script.specs.declared.unit_kind.UnitKind.{UnitKind}
use Rattle.relay_script.specs.Kinds.{kind_place}
use Rattle.relay_model.specs.Loads as model
use Rattle.relay_model.specs.Loads.{count_of_kind}
use Rattle.relay_carrier.specs.declared.load.Load.{Load}

-- a number as far as it fits 64 bits
abbrev pub within_64_bits : ℕ → ℕ
within_64_bits n = if nat_lt n 18446744073709551615 then n else 18446744073709551615

abbrev pub one_more_if : Bool → ℕ → ℕ
one_more_if true n = within_64_bits (n + 1)
one_more_if false n = n

-- the counts are those of these units
abbrev pub CountsUnits : (counts : List ℕ) → (units : List (List ℕ)) → Type 0
CountsUnits counts units = (kind : UnitKind) → slice_index counts (kind_place kind) ≡ within_64_bits (count_of_kind kind units)

-- what the code keeps of what is given
pub record KeepsLoad (kept : Load) (load : model.Load) : Type 0 where
  pub octets : kept.octets.items ≡ load.octets
  pub delay : kept.delay ≡ within_64_bits load.delay
  pub closes : kept.closes ≡ load.closes
