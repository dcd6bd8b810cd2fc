-- Representation: what is read of a side, and what comes of it; no claim rests on it.
use Rattle.std.specs.Prelude.{◌≡◌, ◌⊎◌, ℕ, true, List, [], ◌∷◌, ◌++◌, take, fold}
use Rattle.link_trait.specs.declared.wires.ReadAnswer.{ReadAnswer}
use Rattle.link_trait.specs.declared.wires.ReadAnswer.TheVariants as read_answer
use Rattle.outside.specs.Acts.{Listened, Dialled, Turned, Read, Sent, Closed, Act, Fetched, Wrote, Called, Asked, Drew}
use Rattle.outside.specs.Doings.{Told, Did}
use Rattle.relay_script.specs.declared.script.Script.{Script}
use Rattle.relay_loop.specs.declared.way.Way.{Way}
use Rattle.er_base.specs.declared.side.Side.{Side}
use Rattle.er_base.specs.Printing.{Begins}
use Rattle.relay_model.specs.Carried.{carried}
use Rattle.relay_loop.specs.RelayLines.{RelayLine, Heading, Opening, Received, Given, SideEnd, Closing, text_of_lines}
use Rattle.relay_loop.specs.Octets.{read_in_acts}
use Rattle.relay_loop.specs.Ways.{HoldsWay}
use Rattle.relay_loop.specs.Settled.{SocketTold, told_by_act}
use Rattle.relay_loop.specs.WaySteps.{WayMoves, StaysOpen, EndsWay}

-- a read of a connection
abbrev pub IsReadOf : (conn : ℕ) → Act → Type 0
IsReadOf conn (Fetched name answer) = ⊥
IsReadOf conn (Wrote piece done) = ⊥
IsReadOf conn (Called (Listened address listens)) = ⊥
IsReadOf conn (Called (Dialled address to)) = ⊥
IsReadOf conn (Called (Turned until what)) = ⊥
IsReadOf conn (Called (Read from size reading)) = from ≡ conn
IsReadOf conn (Called (Sent to piece answer)) = ⊥
IsReadOf conn (Called (Closed at)) = ⊥
IsReadOf conn (Asked moment) = ⊥
IsReadOf conn (Drew word) = ⊥

-- one read of it, or none
abbrev pub AreReadsOf : (conn : ℕ) → List Act → Type 0
AreReadsOf conn [] = Unit {0}
AreReadsOf conn (act ∷ []) = IsReadOf conn act
AreReadsOf conn (first ∷ second ∷ acts) = ⊥

-- what comes of a read, by its answer and the slice behind it: an end or a fault ends the side, and no octets come
abbrev pub TakesIn : Script → ReadAnswer → (slice : List ℕ) → (old new : Way) → Type 0
TakesIn script (read_answer.Some count) slice old new = WayMoves script (take count slice) [] old new × StaysOpen old new
TakesIn script read_answer.NotNow slice old new = WayMoves script [] [] old new × StaysOpen old new
TakesIn script read_answer.End slice old new = WayMoves script [] [] old new × EndsWay old new
TakesIn script read_answer.Failed slice old new = WayMoves script [] [] old new × EndsWay old new

-- the side ended as its socket told, or neither did
abbrev pub EndsAsTold : (old new : Way) → (before now : SocketTold) → Type 0
EndsAsTold old new before now = (StaysOpen old new × (now.ended ≡ before.ended)) ⊎ (EndsWay old new × (now.ended ≡ true))

-- nothing was done but a read of the connection, if that, and what it gave was read of the side
pub record Hears (script : Script) (conn : ℕ) (old new : Way) (before now : Told) : Type 0 where
  pub acts : List Act
  pub did : Did before now acts
  pub only : AreReadsOf conn acts
  pub moves : WayMoves script (read_in_acts conn acts) [] old new
  pub ends : (told : SocketTold) → EndsAsTold old new told (fold (told_by_act conn) told acts)

-- what was told is carried too of what was read with these octets, whether they are taken or not
abbrev pub WayReads : Script → (octets : List ℕ) → Way → Type 0
WayReads script octets way =
    (side : Side) (read told gave : List ℕ) → HoldsWay script side read told gave way → Begins told (carried script side (read ++ octets))

-- memory ran out behind a read of the connection, if that
pub record HearsOnly (script : Script) (conn : ℕ) (old : Way) (before now : Told) : Type 0 where
  pub acts : List Act
  pub did : Did before now acts
  pub only : AreReadsOf conn acts
  pub reads : WayReads script (read_in_acts conn acts) old

-- ---- lines of what came

abbrev pub IsNews : (number : ℕ) → RelayLine → Type 0
IsNews number Heading = ⊥
IsNews number (Opening moment of) = ⊥
IsNews number (Received moment of from octets) = of ≡ number
IsNews number (Given moment of from octets) = ⊥
IsNews number (SideEnd moment of from) = of ≡ number
IsNews number (Closing moment of) = ⊥

abbrev pub AreNews : (number : ℕ) → List RelayLine → Type 0
AreNews number [] = Unit {0}
AreNews number (line ∷ lines) = IsNews number line × AreNews number lines

-- lines of what came from a side, or that it ended, wait behind those that wait
pub record PutsNews (number : ℕ) (waiting left : List ℕ) : Type 0 where
  pub news : List RelayLine
  pub are : AreNews number news
  pub is : left ≡ waiting ++ text_of_lines news
