-- Representation: what was told as given is written to the other side; no claim rests on it.
use Rattle.std.specs.Prelude.{◌≡◌, ℕ, Bool, true, false, List, [], ◌∷◌, fold}
use Rattle.outside.specs.Acts.{Listened, Dialled, Turned, Read, Sent, Closed, Act, Fetched, Wrote, Called, Asked, Drew}
use Rattle.outside.specs.Doings.{Told, Did}
use Rattle.relay_script.specs.declared.script.Script.{Script}
use Rattle.relay_loop.specs.declared.sending.Flow.{Flow}
use Rattle.relay_loop.specs.declared.sending.Flow.TheVariants as flow
use Rattle.relay_loop.specs.declared.way.Way.{Way}
use Rattle.relay_loop.specs.Settled.{SocketTold, told_by_act}
use Rattle.relay_loop.specs.Octets.{given_in_acts}
use Rattle.relay_loop.specs.WaySteps.{WayMoves}

-- a write to a connection
abbrev pub IsSendTo : (conn : ℕ) → Act → Type 0
IsSendTo conn (Fetched name answer) = ⊥
IsSendTo conn (Wrote piece done) = ⊥
IsSendTo conn (Called (Listened address listens)) = ⊥
IsSendTo conn (Called (Dialled address to)) = ⊥
IsSendTo conn (Called (Turned until what)) = ⊥
IsSendTo conn (Called (Read from size reading)) = ⊥
IsSendTo conn (Called (Sent to piece answer)) = to ≡ conn
IsSendTo conn (Called (Closed at)) = ⊥
IsSendTo conn (Asked moment) = ⊥
IsSendTo conn (Drew word) = ⊥

abbrev pub AreSendsTo : (conn : ℕ) → List Act → Type 0
AreSendsTo conn [] = Unit {0}
AreSendsTo conn (act ∷ acts) = IsSendTo conn act × AreSendsTo conn acts

-- how a writing went, by what the socket told before it and behind it: all was written, unless a line closes the connection; or there was no room; or it failed
abbrev pub Flows : (closing : Bool) → Flow → Way → (before now : SocketTold) → Type 0
Flows closing flow.Going way before now =
    (now.failed ≡ before.failed) × ((now.ended ≡ before.ended) × (closing ≡ false → way.lost ≡ false → way.printed.items ≡ []))
Flows closing flow.PutOff way before now = (now.failed ≡ before.failed) × ((now.ended ≡ before.ended) × (now.full ≡ true))
Flows closing flow.Failing way before now = (now.failed ≡ true) × ((now.ended ≡ true) × (way.lost ≡ false))

-- nothing was done but writes to the connection, and what they took was written of what was told
pub record Sends (closing : Bool) (flow : Flow) (conn : ℕ) (old new : Way) (before now : Told) : Type 0 where
  pub acts : List Act
  pub did : Did before now acts
  pub only : AreSendsTo conn acts
  pub moves : (script : Script) → WayMoves script [] (given_in_acts conn acts) old new
  pub is : new ≡ record old { printed = new.printed }
  pub flows : (told : SocketTold) → Flows closing flow new told (fold (told_by_act conn) told acts)
