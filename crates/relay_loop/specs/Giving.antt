-- Representation: what is due of a connection is told first, and then written; no claim rests on it.
use Rattle.std.specs.Prelude.{◌≡◌, ℕ, false, List, [], Option, Some, None}
use Rattle.er_base.specs.declared.side.Side.{Side}
use Rattle.er_base.specs.declared.side.Side.TheVariants.{E, R}
use Rattle.outside.specs.Doings.{Told, Did}
use Rattle.outside.specs.Scripts.{printing}
use Rattle.relay_loop.specs.declared.stamp.Stamp.{Stamp}
use Rattle.relay_loop.specs.declared.link.Link.{Link}
use Rattle.relay_loop.specs.declared.sending.Flow.{Flow}
use Rattle.relay_loop.specs.declared.sending.Flow.TheVariants as flow
use Rattle.relay_loop.specs.Ways.{IsUndue}
use Rattle.relay_loop.specs.WaySteps.{PrintsGiven}
use Rattle.relay_loop.specs.Sending.{Sends}

-- what is due of both sides is told, in lines that are put behind others
pub record PrintsBoth (at : Stamp) (old new : Link) (before after : List ℕ) : Type 0 where
  pub between : List ℕ
  pub from_e : PrintsGiven at old.from_e new.from_e before between
  pub from_r : PrintsGiven at old.from_r new.from_r between after
  -- but for what would be given behind a close
  pub due_e : old.from_r.closing ≡ false → new.from_e.lost ≡ false → IsUndue new.from_e.latest new.from_e.waits.items
  pub due_r : new.from_e.closing ≡ false → new.from_r.lost ≡ false → IsUndue new.from_r.latest new.from_r.waits.items
  pub is : new ≡ record old { from_e = new.from_e; from_r = new.from_r }

-- the side to which a write failed
abbrev pub failed_of : (to_r to_e : Flow) → Option Side
failed_of flow.Failing to_e = Some R
failed_of flow.Going flow.Failing = Some E
failed_of flow.Going flow.Going = None
failed_of flow.Going flow.PutOff = None
failed_of flow.PutOff flow.Failing = Some E
failed_of flow.PutOff flow.Going = None
failed_of flow.PutOff flow.PutOff = None

-- what was told of e is written to r, and then what was told of r to e
pub record WritesBoth (failed : Option Side) (old new : Link) (before now : Told) : Type 0 where
  pub between : Told
  pub how_r : Flow
  pub how_e : Flow
  pub to_r : Sends old.from_r.closing how_r old.r.0 old.from_e new.from_e before between
  pub to_e : Sends old.from_e.closing how_e old.e.0 old.from_r new.from_r between now
  pub side : failed ≡ failed_of how_r how_e
  pub is : new ≡ record old { from_e = new.from_e; from_r = new.from_r }

-- the lines that waited, and those of all that is due, are written out, and not before that anything is written to a socket
pub record TellsFirst (at : Stamp) (failed : Option Side) (waiting left : List ℕ) (old new : Link) (before now : Told) : Type 0 where
  pub told : Link
  pub lines : List ℕ
  pub prints : PrintsBoth at old told waiting lines
  pub between : Told
  pub tells : Did before between (printing lines)
  pub left_is : left ≡ []
  pub writes : WritesBoth failed told new between now
