-- Representation: how the code keeps the kinds of a unit; no claim rests on it.
use Rattle.std.specs.Prelude.{ℕ, ◌==◌, Bool, List, ◌∷◌}
use Rattle.std.specs.List.{list_any}
use Rattle.std.specs.Option.{option_to_list}
use Rattle.relay_script.specs.declared.unit_kind.UnitKind.{UnitKind}
use Rattle.relay_script.specs.Kinds.{kind_place}
use Rattle.relay_carrier.specs.declared.unit_kinds.UnitKinds.{UnitKinds}

abbrev pub kinds_but_any : UnitKinds → List UnitKind
kinds_but_any kinds = kinds.link ∷ option_to_list kinds.tpdu

-- whether a kind among these has a place in the list of all
abbrev pub is_at_place : ℕ → List UnitKind → Bool
is_at_place place kinds = list_any (λ other. place == kind_place other) kinds
