-- Representation: what goes one way of a relayed connection, by all the octets that were read of its side, those that were told as given, in lines, and
-- those that were written to the other side; no claim rests on it.
use Rattle.std.specs.Prelude.{◌≡◌, ◌⊎◌, ℕ, ◌<◌, ◌≤◌, true, false, List, [], ◌∷◌, ◌++◌, Option, Some, None}
use Rattle.std.specs.List.{flat_map}
use Rattle.er_base.specs.declared.side.Side.{Side}
use Rattle.er_base.specs.Printing.{Begins}
use Rattle.relay_script.specs.declared.script.Script.{Script}
use Rattle.relay_model.specs.Carried.{is_closed_by, carried}
use Rattle.relay_carrier.specs.Prompt.{NoneDelays}
use Rattle.relay_carrier.specs.Standing.{StandsBehind}
use Rattle.relay_loop.specs.declared.piece.Piece.{Piece}
use Rattle.relay_loop.specs.declared.way.Way.{Way}
use Rattle.relay_loop.specs.Settled.{given_so_far}

-- the octets of what is given later
unfoldable pub octets_of_pieces : List Piece → List ℕ
octets_of_pieces pieces = flat_map (λ piece. piece.octets.items) pieces

-- all of them are due by a moment
abbrev pub AreDueBy : (most : ℕ) → List Piece → Type 0
AreDueBy most [] = Unit {0}
AreDueBy most (piece ∷ pieces) = (piece.due ≤ most) × AreDueBy most pieces

-- when the first is due
abbrev pub first_due_of : List Piece → Option ℕ
first_due_of [] = None
first_due_of (piece ∷ pieces) = Some piece.due

-- the first isn't due yet
abbrev pub IsUndue : (moment : ℕ) → List Piece → Type 0
IsUndue moment [] = Unit {0}
IsUndue moment (piece ∷ pieces) = moment < piece.due

-- where no line delays the side, all is due by the greatest moment so far
pub record IsPrompt (way : Way) : Type 0 where
  pub newest : way.ended ≡ false → way.carrier.newest ≤ way.latest
  pub waits : AreDueBy way.latest way.waits.items

-- where the other side didn't fail: of what is given for what came nothing is lost; it was told, or waits, and what was told was written, or waits
pub record HoldsLive (script : Script) (came told gave : List ℕ) (way : Way) : Type 0 where
  pub side : way.ended ≡ false → way.carrier.side ≡ way.side
  pub stands : way.ended ≡ false → StandsBehind script came way.carrier
  pub told_is : told ≡ gave ++ way.printed.items
  pub given_is : told ++ octets_of_pieces way.waits.items ≡ given_so_far script way.side way.ended came
  -- behind the octets with which a line closes the connection nothing waits
  pub closed : way.carrier.closed ≡ true → is_closed_by script way.side came ≡ true
  pub last : way.closing ≡ true → (way.carrier.closed ≡ true) × (way.waits.items ≡ [])
  pub prompt : NoneDelays way.side script.lines → IsPrompt way

-- what was written was told before, and what was told is carried of what was read. Behind a unit with which a line closes the connection nothing comes
pub record HoldsWay (script : Script) (side : Side) (read told gave : List ℕ) (way : Way) : Type 0 where
  pub sided : way.side ≡ side
  pub came : List ℕ
  pub behind : List ℕ
  pub cut : read ≡ came ++ behind
  pub shut : (behind ≡ []) ⊎ (is_closed_by script side came ≡ true)
  pub closing : way.closing ≡ true → is_closed_by script side came ≡ true
  pub live : way.lost ≡ false → HoldsLive script came told gave way
  -- told first
  pub first : Begins gave told
  -- carried
  pub is_carried : Begins told (carried script side read)
