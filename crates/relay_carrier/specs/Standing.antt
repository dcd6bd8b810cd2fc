-- Contract: a carrier stands where octets that came from its side lead.
use Rattle.std.specs.Prelude.{◌≡◌, ℕ, Bool, List, [], ◌∷◌, ◌++◌}
use Rattle.std.specs.List.{All}
use Rattle.er_base.specs.declared.side.Side.{Side}
use Rattle.relay_script.specs.declared.script.Script.{Script}
use Rattle.relay_model.specs.Units.{Standing, standing_behind, parts_of_sent, units_in}
use Rattle.relay_model.specs.Loads.{load_of_unit}
use Rattle.relay_model.specs.Carried.{loads_behind, given_of_sent, is_closed_by, carried, due_behind}
use Rattle.relay_carrier.specs.Counting.{within_64_bits, CountsUnits}

-- what a contract sees of a carrier
pub record KCarrier : Type 0 where
  pub side : Side
  pub standing : Standing
  pub counts : List ℕ
  pub closed : Bool
  -- the newest moment at which something is due
  pub newest : ℕ

-- these octets came from its side, and lead here
pub record StandsBehind (script : Script) (came : List ℕ) (k : KCarrier) : Type 0 where
  pub standing : k.standing ≡ standing_behind came
  pub counts : CountsUnits k.counts (units_in (parts_of_sent came))
  pub closed : k.closed ≡ is_closed_by script k.side came

-- octets are taken behind those that came: the carrier stands behind them too, what is given of all grows by what is given of these, and it is due
-- no earlier than what was given before
pub record TakesOctets (script : Script) (old new : KCarrier) (moment : ℕ) (octets given : List ℕ) (due : ℕ) (came : List ℕ) : Type 0 where
  pub stands : StandsBehind script (came ++ octets) new
  pub gives : given_of_sent script old.side (came ++ octets) ≡ given_of_sent script old.side came ++ given
  pub due_is : All (λ load. due ≡ within_64_bits (due_behind old.newest moment load.delay)) (loads_behind script old.side came octets)

abbrev pub TakesBehind : Script → (old new : KCarrier) → (moment : ℕ) → (octets given : List ℕ) → (due : ℕ) → Type 0
TakesBehind script old new moment octets given due =
    (came : List ℕ) → StandsBehind script came old → TakesOctets script old new moment octets given due came

-- a unit is taken behind units: what is given is the load of the unit, which says whether the connection is closed behind it
pub record TakesUnitBehind (script : Script) (old new : KCarrier) (moment : ℕ) (unit given : List ℕ) (due : ℕ) (units : List (List ℕ)) : Type 0 where
  pub side : new.side ≡ old.side
  pub standing : new.standing ≡ old.standing
  pub counts : CountsUnits new.counts (units ++ unit ∷ [])
  pub newest : new.newest ≡ due
  pub gives : given ≡ (load_of_unit script.lines old.side units unit).octets
  pub closed : new.closed ≡ (load_of_unit script.lines old.side units unit).closes
  pub due_is : due ≡ within_64_bits (due_behind old.newest moment (load_of_unit script.lines old.side units unit).delay)

abbrev pub TakesUnit : Script → (old new : KCarrier) → (moment : ℕ) → (unit given : List ℕ) → (due : ℕ) → Type 0
TakesUnit script old new moment unit given due =
    (units : List (List ℕ)) → CountsUnits old.counts units → TakesUnitBehind script old new moment unit given due units

-- the side ended: with what is held all is given that is carried
abbrev pub Ends : Script → KCarrier → (given : List ℕ) → Type 0
Ends script k given = (came : List ℕ) → StandsBehind script came k → given_of_sent script k.side came ++ given ≡ carried script k.side came
