-- Contract: a loop over ends as the code keeps them does what the loop over ends of the end model does.
use Rattle.std.specs.Prelude.{ℕ, ◌≡◌, Bool, List, [], ◌∷◌}
use Rattle.rand_core.specs.Stream.{Stream}
use Rattle.er_settings.specs.Ranges.{AllAllowed}
use Rattle.er_end.specs.KeptEnds.{KEnd}
use Rattle.er_end.specs.Standing.{EndStands}
use Rattle.er_users.specs.Users.{Mind}
use Rattle.loop_model.specs.Ends.{ModelEnd, model_ends}
use Rattle.loop_model.specs.Outs.{Out}
use Rattle.loop_model.specs.Sessions.{Session}
use Rattle.loop_model.specs.Loops.{Plan, Caller, Course, Turn, Dialled, beginning, run, serves, dials}
use Rattle.loop_session.specs.Keeping.{kept_ends}

-- a session over either: the end that is kept stands for that of the model, and all else is the same
pub record Twins (s : Session KEnd) (t : Session ModelEnd) : Type 0 where
  pub end : EndStands s.end t.end
  pub number : s.number ≡ t.number
  pub mind : s.mind ≡ t.mind
  pub told : s.told ≡ t.told
  pub output : s.output ≡ t.output
  pub broken : s.broken ≡ t.broken
  pub closing : s.closing ≡ t.closing
  pub unmade : s.unmade ≡ t.unmade

-- sessions of both, one by one
abbrev pub AreTwins : List (Session KEnd) → List (Session ModelEnd) → Type 0
AreTwins [] [] = Unit {0}
AreTwins [] (t ∷ ts) = ⊥
AreTwins (s ∷ ss) [] = ⊥
AreTwins (s ∷ ss) (t ∷ ts) = Twins s t × AreTwins ss ts

-- the same events and calls, in the same order, turns and answers of the clock, and the same sessions
pub record AreAlike (a : Out (Course KEnd)) (b : Out (Course ModelEnd)) : Type 0 where
  pub entries : a.entries ≡ b.entries
  pub calls : a.calls ≡ b.calls
  pub order : a.order ≡ b.order
  pub turns : a.state.turns ≡ b.state.turns
  pub halt : a.state.halt ≡ b.state.halt
  pub asked : a.state.asked ≡ b.state.asked
  pub moment : a.state.loop.moment ≡ b.state.loop.moment
  pub users : a.state.loop.users ≡ b.state.loop.users
  pub words : a.state.loop.words ≡ b.state.loop.words
  pub sessions : AreTwins a.state.loop.sessions b.state.loop.sessions

-- all turns of a loop that begins
abbrev pub RunsAlike : Type 0
RunsAlike =
    (plan : Plan) (users : List Mind) (words : Stream) (turns : List Turn) → AllAllowed plan.settings
    → AreAlike (run kept_ends plan (beginning users words) turns) (run model_ends plan (beginning users words) turns)

-- a loop that serves
abbrev pub ServesAlike : Type 0
ServesAlike =
    (plan : Plan) (users : List Mind) (words : Stream) (address : List ℕ) (listens : Bool) (turns : List Turn) → AllAllowed plan.settings
    → AreAlike (serves kept_ends plan (beginning users words) address listens turns) (serves model_ends plan (beginning users words) address listens turns)

-- a loop that dials
abbrev pub DialsAlike : Type 0
DialsAlike =
    (plan : Plan) (caller : Caller) (users : List Mind) (words : Stream) (address : List ℕ) (a : Dialled) → AllAllowed plan.settings
    → AreAlike (dials kept_ends plan caller (beginning users words) address a) (dials model_ends plan caller (beginning users words) address a)
