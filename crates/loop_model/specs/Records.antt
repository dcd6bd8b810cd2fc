-- The record of the calls of a loop: it begins with one listen or one dial, and no other comes; and a loop that dials halts as closed
-- exactly where no session is left.
use Rattle.loop_model.specs.Ends.{ModelEnd, model_ends}
use Rattle.std.specs.Prelude.{ℕ, ◌≡◌, Bool, true, false, List, [], ◌∷◌, ◌++◌, Some, None}
use Rattle.link_trait.specs.Wires.{Call, Listens, Dials, Turns, Reads, Writes, Closes}
use Rattle.loop_model.specs.Outs.{Out, still}
use Rattle.loop_model.specs.Loops.{Plan, Caller, Halt, OnClosed, OnFailed, Course, halt_by, Turn, readied, went, run, serves, Dialled, dials}
use Rattle.loop_model.specs.Laws.{turns_of, AllGoOn}

-- ---- listens and dials

abbrev pub listen_or_dial_in : Call → List Call
listen_or_dial_in (Listens address listens) = Listens address listens ∷ []
listen_or_dial_in (Dials address conn) = Dials address conn ∷ []
listen_or_dial_in (Turns until happening) = []
listen_or_dial_in (Reads conn size waits reading) = []
listen_or_dial_in (Writes conn piece answer) = []
listen_or_dial_in (Closes conn) = []

-- the listens and the dials among calls
unfoldable pub openings_of : List Call → List Call
openings_of [] = []
openings_of (call ∷ calls) = listen_or_dial_in call ++ openings_of calls

-- a record begins with this call, and behind it stands no listen and no dial
pub record BeginsOnly (first : Call) (calls : List Call) : Type 0 where
  pub rest : List Call
  pub is : calls ≡ first ∷ rest
  pub none : openings_of rest ≡ []

-- where that call fails, it is the whole record: no event comes, and the loop halts as failed
pub record FailsAtOnce (first : Call) (o : Out (Course ModelEnd)) : Type 0 where
  pub calls : o.calls ≡ first ∷ []
  pub entries : o.entries ≡ []
  pub halt : o.state.halt ≡ Some OnFailed

-- that of a loop that serves begins with one listen at the address handed in, that of a loop that dials with one dial of it
pub record RecordsBegin : Type 0 where
  pub serving : (plan : Plan) (c : Course ModelEnd) (address : List ℕ) (listens : Bool) (turns : List Turn)
      → BeginsOnly (Listens address listens) (serves model_ends plan c address listens turns).calls
  pub dialling : (plan : Plan) (caller : Caller) (c : Course ModelEnd) (address : List ℕ) (a : Dialled)
      → BeginsOnly (Dials address a.conn) (dials model_ends plan caller c address a).calls
  pub deaf : (plan : Plan) (c : Course ModelEnd) (address : List ℕ) (turns : List Turn)
      → FailsAtOnce (Listens address false) (serves model_ends plan c address false turns)
  pub undialled : (plan : Plan) (caller : Caller) (c : Course ModelEnd) (address : List ℕ) (a : Dialled) → a.conn ≡ None
      → FailsAtOnce (Dials address None) (dials model_ends plan caller c address a)

-- ---- why a loop halts as closed

-- the loop dials, none of its turns ended or failed, and no session is live
pub record IsDialDone (plan : Plan) (o : Out (Course ModelEnd)) : Type 0 where
  pub dials : plan.dials ≡ true
  pub on : AllGoOn (turns_of o.calls)
  pub none : o.state.loop.sessions ≡ []

-- it halted as closed exactly where it is so
pub record HaltsClosed (plan : Plan) (o : Out (Course ModelEnd)) : Type 0 where
  pub only : o.state.halt ≡ Some OnClosed → IsDialDone plan o
  pub each : IsDialDone plan o → o.state.halt ≡ Some OnClosed

-- of each run from where it was so; of each dial that opened its connection; and a loop that serves never halts so
pub record ClosedExactly : Type 0 where
  pub running : (plan : Plan) (c : Course ModelEnd) (turns : List Turn) → c.halt ≡ halt_by plan c.loop.sessions → HaltsClosed plan (run model_ends plan c turns)
  pub dialling : (plan : Plan) (caller : Caller) (c : Course ModelEnd) (address : List ℕ) (a : Dialled) (conn : ℕ) → a.conn ≡ Some conn
      → HaltsClosed plan (dials model_ends plan caller c address a)
  pub serving : (plan : Plan) (c : Course ModelEnd) (address : List ℕ) (listens : Bool) (turns : List Turn) → plan.dials ≡ false → c.halt ≡ None
      → (serves model_ends plan c address listens turns).state.halt ≡ Some OnClosed → ⊥

-- nothing comes behind a halt: no turn where a loop halted, and not the turn itself where what comes before it makes the loop halt
pub record HaltsRest : Type 0 where
  pub run : (plan : Plan) (c : Course ModelEnd) (turns : List Turn) (halt : Halt) → c.halt ≡ Some halt → run model_ends plan c turns ≡ still c
  pub turn : (plan : Plan) (c : Course ModelEnd) (a : Turn) (halt : Halt) → c.halt ≡ None → (readied model_ends plan c a).state.halt ≡ Some halt
      → went model_ends plan c a ≡ readied model_ends plan c a
  pub none : (plan : Plan) (c : Course ModelEnd) (a : Turn) → turns_of (readied model_ends plan c a).calls ≡ []
