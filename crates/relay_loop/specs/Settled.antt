-- What was given by a wait of a relay (this profile): all that is carried of what came so far, but for what can't be given then.
use Rattle.std.specs.Prelude.{◌≡◌, ◌⊎◌, ℕ, ◌==◌, Bool, true, false, if◌then◌else◌, List, [], ◌∷◌, fold, Option, None}
use Rattle.er_base.specs.declared.side.Side.{Side}
use Rattle.er_base.specs.declared.side.Side.TheVariants.{E, R}
use Rattle.link_trait.specs.Wires.{Reading}
use Rattle.link_trait.specs.Wires as wires
use Rattle.link_trait.specs.declared.wires.WriteAnswer.{WriteAnswer}
use Rattle.link_trait.specs.declared.wires.WriteAnswer.TheVariants as write_answer
use Rattle.outside.specs.Acts.{SeenCall, Listened, Dialled, Turned, Read, Sent, Closed, Act, Fetched, Wrote, Called, Asked, Drew}
use Rattle.relay_script.specs.declared.script.Script.{Script}
use Rattle.relay_model.specs.Carried.{given_of_sent, is_closed_by, carried}
use Rattle.relay_carrier.specs.Prompt.{NoneDelays}
use Rattle.relay_loop.specs.Octets.{given_in_acts, read_in_acts}
use Rattle.relay_loop.specs.Connections.{Far, Nobody, Unreached, Reached, RelayedConnection, connections_in_acts, closes_in_acts, AreDialledFor}

-- ---- what a socket answered

pub record SocketTold : Type 0 where
  -- a read met its end or failed, or a write failed
  pub ended : Bool
  -- a write failed
  pub failed : Bool
  -- the newest write found no room
  pub full : Bool

abbrev pub told_nothing : SocketTold
told_nothing = record { ended = false; failed = false; full = false }

abbrev pub told_by_read : SocketTold → Reading → SocketTold
told_by_read told (wires.Gave octets) = told
told_by_read told wires.NotNow = told
told_by_read told wires.End = record told { ended = true }
told_by_read told wires.Failed = record told { ended = true }

abbrev pub told_by_write : SocketTold → WriteAnswer → SocketTold
told_by_write told (write_answer.Some count) = record told { full = false }
told_by_write told write_answer.NotNow = record told { full = true }
told_by_write told write_answer.Failed = record { ended = true; failed = true; full = false }

abbrev pub told_by_call : (conn : ℕ) → SocketTold → SeenCall → SocketTold
told_by_call conn told (Listened address listens) = told
told_by_call conn told (Dialled address to) = told
told_by_call conn told (Turned until what) = told
told_by_call conn told (Read from size reading) = if from == conn then told_by_read told reading else told
told_by_call conn told (Sent to piece answer) = if to == conn then told_by_write told answer else told
told_by_call conn told (Closed at) = told

abbrev pub told_by_act : (conn : ℕ) → SocketTold → Act → SocketTold
told_by_act conn told (Fetched name answer) = told
told_by_act conn told (Wrote piece done) = told
told_by_act conn told (Called call) = told_by_call conn told call
told_by_act conn told (Asked moment) = told
told_by_act conn told (Drew word) = told

-- by all acts
abbrev pub told_in_acts : (conn : ℕ) → List Act → SocketTold
told_in_acts conn acts = fold (told_by_act conn) told_nothing acts

-- ---- what is given of a side

-- of what came, but for what is held; once the side ended all that is carried, with what was held as it is
abbrev pub given_so_far : Script → Side → (ended : Bool) → (came : List ℕ) → List ℕ
given_so_far script side true came = carried script side came
given_so_far script side false came = given_of_sent script side came

-- nothing of the side is delayed, by no line, or since the wait has no bound
abbrev pub IsUndelayed : Script → Side → (until : Option ℕ) → Type 0
IsUndelayed script side until = NoneDelays side script.lines ⊎ (until ≡ None)

-- all of it was given to the other side, unless a write to that failed, or the newest found no room, or a line closes the connection behind what came of it
abbrev pub IsCarriedWhole : Script → (side other : Side) → (until : Option ℕ) → (from to : SocketTold) → (came back gave : List ℕ) → Type 0
IsCarriedWhole script side other until from to came back gave =
    to.failed ≡ false → to.full ≡ false → is_closed_by script other back ≡ false → IsUndelayed script side until
    → gave ≡ given_so_far script side from.ended came

-- of both sides; one that has no other was closed
abbrev pub IsSettled : Script → (until : Option ℕ) → List Act → (e : ℕ) → Far → Type 0
IsSettled script until acts e Nobody = closes_in_acts e acts ≡ true
IsSettled script until acts e (Unreached address) = closes_in_acts e acts ≡ true
IsSettled script until acts e (Reached address r) =
    IsCarriedWhole script E R until (told_in_acts e acts) (told_in_acts r acts) (read_in_acts e acts) (read_in_acts r acts) (given_in_acts r acts)
    × IsCarriedWhole script R E until (told_in_acts r acts) (told_in_acts e acts) (read_in_acts r acts) (read_in_acts e acts) (given_in_acts e acts)

abbrev pub AllSettled : Script → (until : Option ℕ) → List Act → List RelayedConnection → Type 0
AllSettled script until acts [] = Unit {0}
AllSettled script until acts (one ∷ others) = IsSettled script until acts one.e one.r × AllSettled script until acts others

-- what is settled by a wait of this bound, and each connection was dialled for
pub record SettlesBy (script : Script) (until : Option ℕ) (before : List Act) : Type 0 where
  pub settled : AllSettled script until before (connections_in_acts before)
  pub dialled : AreDialledFor (connections_in_acts before)
