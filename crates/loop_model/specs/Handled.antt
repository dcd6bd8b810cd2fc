-- Each happening is handled in its turn (this profile): a loop asks for one happening a turn, and what it does of it is done before it asks for the next.
-- So what the outside tells with k others before it is handled in turn k + 1, as long as the loop goes on; none is passed over, kept for later or handled
-- twice.
use Rattle.std.specs.Prelude.{◌≡◌, List, [], ◌∷◌, ◌++◌, None}
use Rattle.link_trait.specs.declared.wires.Happening.{Happening}
use Rattle.loop_model.specs.Ends.{ModelEnd, model_ends}
use Rattle.loop_model.specs.Outs.{Out, acts, exactly}
use Rattle.loop_model.specs.Loops.{Plan, Course, Turn, nothing_comes, readied, went, run}
use Rattle.loop_model.specs.Laws.{turns_of}
use Rattle.loop_model.specs.Openings.{openings, openings_due, event_of_accepted_connection}
use Rattle.loop_model.specs.Visitings.{FollowsSo}

-- what the outside tells, turn by turn
abbrev pub happenings_of : List Turn → List Happening
happenings_of [] = []
happenings_of (a ∷ turns) = a.happening ∷ happenings_of turns

-- the turns that a plan does
abbrev pub turns_to_do : Plan → List Turn → List Turn
turns_to_do plan turns = exactly plan.turns nothing_comes turns

-- so far: these turns, one after the other
abbrev pub behind_turns : Plan → Course ModelEnd → List Turn → Out (Course ModelEnd)
behind_turns plan c turns = acts (went model_ends plan) c turns

-- and the turn behind them
abbrev pub turn_behind : Plan → Course ModelEnd → List Turn → Turn → Out (Course ModelEnd)
turn_behind plan c before a = went model_ends plan (behind_turns plan c before).state a

-- a loop asked for the first of what the outside told, in its order, and for all of it where it didn't halt
pub record AskedInOrder (o : Out (Course ModelEnd)) (told : List Happening) : Type 0 where
  pub rest : List Happening
  pub is : turns_of o.calls ++ rest ≡ told
  pub all : o.state.halt ≡ None → rest ≡ []

-- what is done of the happening behind these turns, in a loop that does this in all
pub record IsHandled (plan : Plan) (c : Course ModelEnd) (before : List Turn) (a : Turn) (rest : List Turn) (o : Out (Course ModelEnd)) : Type 0 where
  -- it is the next: those before it were asked for, and no other was
  pub next : turns_of (behind_turns plan c before).calls ≡ happenings_of before
  -- in its turn the connection is visited, where it is live, or opened, where it was accepted; and no other is
  pub visited : FollowsSo plan (behind_turns plan c before).state a a.happening
  pub opened : openings (turn_behind plan c before a).entries
      ≡ openings_due a.happening (event_of_accepted_connection plan (readied model_ends plan (behind_turns plan c before).state a).state.loop a.met.memory)
  -- what is done in its turn stands behind all that was done before, and before all that is done of those behind it
  pub between : o.order
      ≡ (behind_turns plan c before).order ++ ((turn_behind plan c before a).order ++ (behind_turns plan (turn_behind plan c before a).state rest).order)

-- A loop that asks for several happenings and handles the last one first, that leaves one for the next turn, or that passes over a connection which it has
-- just served doesn't meet it.
pub record HappeningsAreHandled : Type 0 where
  pub asked : (plan : Plan) (c : Course ModelEnd) (turns : List Turn) → AskedInOrder (run model_ends plan c turns) (happenings_of (turns_to_do plan turns))
  pub each : (plan : Plan) (c : Course ModelEnd) (turns before : List Turn) (a : Turn) (rest : List Turn) → turns_to_do plan turns ≡ before ++ a ∷ rest
      → (behind_turns plan c before).state.halt ≡ None → (readied model_ends plan (behind_turns plan c before).state a).state.halt ≡ None
      → IsHandled plan c before a rest (run model_ends plan c turns)
