-- How much a read asks for (this profile).
use Rattle.std.specs.Prelude.{ℕ, ◌≡◌, List, [], ◌∷◌}
use Rattle.link_trait.specs.Wires.{Call, Listens, Dials, Turns, Reads, Writes, Closes}
use Rattle.loop_model.specs.Ends.{ModelEnd, model_ends}
use Rattle.loop_model.specs.Loops.{Plan, Caller, Course, Turn, run, Dialled, dials}

-- a read asks for 4,096 octets
abbrev pub IsSized : Call → Type 0
IsSized (Listens address listens) = Unit {0}
IsSized (Dials address opened) = Unit {0}
IsSized (Turns until happening) = Unit {0}
IsSized (Reads conn size waits reading) = size ≡ 4096
IsSized (Writes conn piece answer) = Unit {0}
IsSized (Closes conn) = Unit {0}

abbrev pub AreSized : List Call → Type 0
AreSized [] = Unit {0}
AreSized (call ∷ calls) = IsSized call × AreSized calls

-- each of a loop does. A loop that asks for less where many connections are live doesn't meet it
pub record ReadsAreSized : Type 0 where
  pub serving : (plan : Plan) (c : Course ModelEnd) (turns : List Turn) → AreSized (run model_ends plan c turns).calls
  pub dialling : (plan : Plan) (caller : Caller) (c : Course ModelEnd) (address : List ℕ) (a : Dialled)
      → AreSized (dials model_ends plan caller c address a).calls
