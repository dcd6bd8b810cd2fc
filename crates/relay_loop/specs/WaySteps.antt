-- Representation: what calls do to one way of a connection; no claim rests on it.
use Rattle.std.specs.Prelude.{◌≡◌, ℕ, ◌≤◌, true, false, List, [], ◌++◌}
use Rattle.std.specs.List.{flat_map}
use Rattle.er_base.specs.declared.side.Side.{Side}
use Rattle.relay_script.specs.declared.script.Script.{Script}
use Rattle.relay_loop.specs.declared.stamp.Stamp.{Stamp}
use Rattle.relay_loop.specs.declared.way.Way.{Way}
use Rattle.relay_loop.specs.RelayLines.{given_line}
use Rattle.relay_loop.specs.Ways.{octets_of_pieces, AreDueBy, HoldsWay}

-- what is given for what came waits behind all that waits, until it is due
pub record Keeps (old new : Way) (given : List ℕ) (due : ℕ) : Type 0 where
  pub side : new.side ≡ old.side
  pub carrier : new.carrier ≡ old.carrier
  pub printed : new.printed.items ≡ old.printed.items
  pub ended : new.ended ≡ old.ended
  pub lost : new.lost ≡ old.lost
  pub closing : new.closing ≡ old.closing
  pub latest : new.latest ≡ old.latest
  pub waits : octets_of_pieces new.waits.items ≡ octets_of_pieces old.waits.items ++ given
  pub dues : (most : ℕ) → due ≤ most → AreDueBy most old.waits.items → AreDueBy most new.waits.items

-- whether the side ended, the other failed, or a line closes the connection, is as it was, or is so now
pub record StaysOpen (old new : Way) : Type 0 where
  pub ended : new.ended ≡ old.ended
  pub lost : new.lost ≡ old.lost
  pub closing : old.closing ≡ true → new.closing ≡ true

-- these octets were read of the side, and these written to the other; nothing was told
abbrev pub WayMoves : Script → (octets written : List ℕ) → (old new : Way) → Type 0
WayMoves script octets written old new =
    (side : Side) (read told gave : List ℕ) → HoldsWay script side read told gave old → HoldsWay script side (read ++ octets) told (gave ++ written) new

abbrev pub joined : List (List ℕ) → List ℕ
joined parts = flat_map (λ part. part) parts

-- the lines of these parts of what is given
abbrev pub given_lines : Stamp → Side → List (List ℕ) → List ℕ
given_lines at side parts = flat_map (λ part. given_line at.moment at.number side part) parts

-- parts of what is given are printed, each in a line: they were told
pub record PrintsGiven (at : Stamp) (old new : Way) (before after : List ℕ) : Type 0 where
  pub parts : List (List ℕ)
  pub lines : after ≡ before ++ given_lines at old.side parts
  pub same_side : new.side ≡ old.side
  pub stays : StaysOpen old new
  pub holds : (script : Script) (side : Side) (read told gave : List ℕ) → HoldsWay script side read told gave old
      → HoldsWay script side read (told ++ joined parts) gave new

-- the side ended
pub record EndsWay (old new : Way) : Type 0 where
  pub ended : new.ended ≡ true
  pub lost : new.lost ≡ old.lost
  pub closing : old.closing ≡ true → new.closing ≡ true

-- octets were read, of which this rest is left to take
pub record TakesSoFar (script : Script) (octets rest : List ℕ) (old now : Way) : Type 0 where
  pub front : List ℕ
  pub cut : octets ≡ front ++ rest
  pub unended : now.ended ≡ false
  pub alive : now.lost ≡ false
  pub stays : StaysOpen old now
  pub moves : WayMoves script front [] old now
