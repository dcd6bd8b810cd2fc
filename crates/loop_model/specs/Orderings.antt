-- In which order a loop prints and calls, whatever the outside answers: what is given to a connection was told of it before, and a close is the last of
-- its connection.
use Rattle.std.specs.Prelude.{◌≡◌, ℕ, List, [], ◌∷◌, ◌++◌}
use Rattle.link_trait.specs.Wires.{Closes, given_of}
use Rattle.loop_model.specs.Ends.{ModelEnd, model_ends}
use Rattle.loop_model.specs.Deeds.{LoopDeed, Calling, entries_in, calls_in}
use Rattle.loop_model.specs.Outs.{Out, HasOrder}
use Rattle.loop_model.specs.Visits.{Met}
use Rattle.loop_model.specs.Loops.{Plan, Caller, Course, opens}
use Rattle.loop_model.specs.Parts.{of, calls_at}
use Rattle.loop_model.specs.Laws.{octets_of_entries, IsBeginning, HoldsOfEachLoop}

-- what was done so far gave a connection a beginning of the octets of the outcomes that were printed of it
abbrev pub GivesTold : ℕ → List LoopDeed → Type 0
GivesTold conn done = IsBeginning (given_of conn (calls_in done)) (octets_of_entries (of conn (entries_in done)))

-- no event of a connection is printed, and no call is made on it
abbrev pub IsSilentOnConnection : ℕ → List LoopDeed → Type 0
IsSilentOnConnection conn deeds = (of conn (entries_in deeds) ≡ []) × (calls_at conn (calls_in deeds) ≡ [])

pub record IsSequenced (plan : Plan) (o : Out (Course ModelEnd)) : Type 0 where
  -- the events and the calls are those of the one order
  pub one : HasOrder o
  -- at each place of that order
  pub told : (conn : ℕ) (done rest : List LoopDeed) → done ++ rest ≡ o.order → GivesTold conn done
  -- behind each close
  pub last : (conn : ℕ) (done rest : List LoopDeed) → done ++ Calling (Closes conn) ∷ rest ≡ o.order → IsSilentOnConnection conn rest

abbrev pub OrderIsKept : Type 0
OrderIsKept = HoldsOfEachLoop IsSequenced

-- so is the opening of a dial by itself
abbrev pub OpeningIsKept : Type 0
OpeningIsKept = (plan : Plan) (caller : Caller) (c : Course ModelEnd) (conn : ℕ) (a : Met) → IsSequenced plan (opens model_ends plan caller c conn a)
