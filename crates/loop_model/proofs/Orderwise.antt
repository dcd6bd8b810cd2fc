-- A relation between the sessions before and behind, and what is done between them in its order, holds of a whole run, where it holds of each visit, each
-- turn and each opening.
use Rattle.trace_model.specs.Checks.{most_live}
use Rattle.loop_model.specs.Ends.{ModelEnd, model_ends}
use Rattle.std.proofs.Common.{◌≡◌, ℕ, ◌≤◌, inl, inr, Bool, true, false, List, [], ◌∷◌, ◌++◌, length, drop, Option, Some, None, refl, arith}
use Rattle.std.specs.Prelude.{nat_lt}
use Rattle.std.proofs.lemmas.Bool.{cases_Bool}
use Rattle.er_trace.specs.declared.event.Event.TheVariants as event
use Rattle.er_users.specs.Users.{Mind}
use Rattle.rand_core.specs.Stream.{next_u64}
use Rattle.link_trait.specs.Wires.{Turns, Closes}
use Rattle.link_trait.specs.declared.wires.Conn.{Conn}
use Rattle.link_trait.specs.declared.wires.Happening.{Happening}
use Rattle.link_trait.specs.declared.wires.Happening.TheVariants as happening
use Rattle.loop_model.specs.Journals.{JournalEntry}
use Rattle.loop_model.specs.Deeds.{LoopDeed, Printing, Calling}
use Rattle.loop_model.specs.Outs.{Out, acts, exactly, first_answer_of}
use Rattle.loop_model.specs.Sessions.{Session}
use Rattle.loop_model.specs.Visits.{Met, nothing_met, Visit, Tick, Read, Write, Expire, visited}
use Rattle.loop_model.specs.Loops.{Plan, rules_of, Loop, visit_at, numbers, swept, Sweeps, before, until, next_user, begun, answering, answered_by, accepted, visited_at, happened, Halt, Course, asks, Turn, readied, turned_unless, went_unless, went, nothing_comes, run}
use Rattle.loop_model.specs.Parts.{opened_by}
use Rattle.loop_model.proofs.Loopwise.{below_most}

-- what is done where a connection is turned away
abbrev pub away : Option ℕ → Conn → JournalEntry → List LoopDeed
away until conn x = Calling (Turns until (happening.Accepted conn)) ∷ Printing x ∷ Calling (Closes conn.0) ∷ []

pub record Orderwise (plan : Plan) (R : List (Session ModelEnd) → List (Session ModelEnd) → List LoopDeed → Type 0) : Type 0 where
  pub none : (ss : List (Session ModelEnd)) → R ss ss []
  pub then_ : (ss ts us : List (Session ModelEnd)) (ds es : List LoopDeed) → R ss ts ds → R ts us es → R ss us (ds ++ es)
  pub visit : (m : ℕ) (visit : Visit) (n : ℕ) (ss : List (Session ModelEnd)) (a : Met)
      → R ss (visit_at (visited model_ends (rules_of plan) m visit) n ss a).state (visit_at (visited model_ends (rules_of plan) m visit) n ss a).order
  pub turned : (ss : List (Session ModelEnd)) (until : Option ℕ) (happening : Happening) → opened_by happening ≡ [] → R ss ss (Calling (Turns until happening) ∷ [])
  pub opened : (l : Loop ModelEnd) (until : Option ℕ) (conn : Conn) (mind : Mind)
      → R l.sessions (l.sessions ++ begun conn.0 (answering model_ends plan l) mind ∷ [])
      (Calling (Turns until (happening.Accepted conn)) ∷ Printing (record { moment = l.moment; conn = conn.0; event = event.Answer plan.rbc (next_u64 l.words).0; outcomes = [] }) ∷ [])
  pub full : (ss : List (Session ModelEnd)) (m live : ℕ) (until : Option ℕ) (conn : Conn) → live ≤ most_live
      → R ss ss (away until conn (record { moment = m; conn = conn.0; event = event.Full live; outcomes = [] }))
  pub unserved : (ss : List (Session ModelEnd)) (m handed : ℕ) (until : Option ℕ) (conn : Conn)
      → R ss ss (away until conn (record { moment = m; conn = conn.0; event = event.Unserved handed; outcomes = [] }))

module _ (plan : Plan) (R : List (Session ModelEnd) → List (Session ModelEnd) → List LoopDeed → Type 0) (w : Orderwise plan R) where
  swept_wise : (m : ℕ) (visit : Visit) (ns : List ℕ) (ss : List (Session ModelEnd)) (answers : List Met)
      → R ss (swept (visited model_ends (rules_of plan) m visit) ns ss answers).state (swept (visited model_ends (rules_of plan) m visit) ns ss answers).order
  unfolding swept
  swept_wise m visit [] ss answers = w.none ss
  swept_wise m visit (n ∷ ns) ss answers =
      w.then_ _ _ _ _ _ (w.visit m visit n ss (first_answer_of nothing_met answers))
      (swept_wise m visit ns (visit_at (visited model_ends (rules_of plan) m visit) n ss (first_answer_of nothing_met answers)).state (drop 1 answers))

  before_wise : (m : ℕ) (ss : List (Session ModelEnd)) (a : Sweeps)
      → R ss (before model_ends (rules_of plan) m ss a).state (before model_ends (rules_of plan) m ss a).order
  unfolding before
  before_wise m ss a =
      let t = swept (visited model_ends (rules_of plan) m Tick) (numbers ss) ss a.ticks in
      w.then_ _ _ _ _ _ (swept_wise m Tick (numbers ss) ss a.ticks) (swept_wise m Expire (numbers t.state) t.state a.closings)

  abbrev Behind : Loop ModelEnd → Option ℕ → Happening → Out (Loop ModelEnd) → Type 0
  Behind l until happening o = R l.sessions o.state.sessions (Calling (Turns until happening) ∷ o.order)

  answered_wise : (user : Option Mind) (memory : Bool) (l : Loop ModelEnd) (until : Option ℕ) (conn : Conn) → nat_lt (length l.sessions) most_live ≡ true
      → Behind l until (happening.Accepted conn) (answered_by model_ends user memory plan l conn.0)
  answered_wise None memory l until conn fits = w.unserved l.sessions l.moment plan.handed until conn
  answered_wise (Some mind) true l until conn fits = w.opened l until conn mind
  answered_wise (Some mind) false l until conn fits = w.full l.sessions l.moment (length l.sessions) until conn (below_most (length l.sessions) fits)

  accepted_wise : (l : Loop ModelEnd) (until : Option ℕ) (conn : Conn) (memory : Bool) → Behind l until (happening.Accepted conn) (accepted model_ends plan l conn.0 memory)
  unfolding accepted
  accepted_wise l until conn memory =
      elim (cases_Bool (nat_lt (length l.sessions) most_live)) [
        | inl p ↦ rw p (answered_wise (next_user l.users) memory l until conn p)
        | inr p ↦ rw p (w.full l.sessions l.moment most_live until conn (omega arith))
      ]

  at_wise : (l : Loop ModelEnd) (until : Option ℕ) (happening : Happening) (visit : Visit) (n : ℕ) (a : Met) → opened_by happening ≡ []
      → Behind l until happening (visited_at model_ends plan l visit n a)
  at_wise l until happening visit n a none = w.then_ _ _ _ _ _ (w.turned l.sessions until happening none) (w.visit l.moment visit n l.sessions a)

  happened_wise : (l : Loop ModelEnd) (until : Option ℕ) (happening : Happening) (a : Met) → Behind l until happening (happened model_ends plan l happening a)
  unfolding happened
  happened_wise l until (happening.Accepted conn) a = accepted_wise l until conn a.memory
  happened_wise l until (happening.Readable conn) a = at_wise l until (happening.Readable conn) Read conn.0 a refl
  happened_wise l until (happening.Writable conn) a = at_wise l until (happening.Writable conn) Write conn.0 a refl
  happened_wise l until happening.Quiet a = w.turned l.sessions until happening.Quiet refl
  happened_wise l until happening.Ended a = w.turned l.sessions until happening.Ended refl
  happened_wise l until happening.Failed a = w.turned l.sessions until happening.Failed refl

  abbrev Along : Course ModelEnd → Out (Course ModelEnd) → Type 0
  Along c o = R c.loop.sessions o.state.loop.sessions o.order

  readied_wise : (c : Course ModelEnd) (a : Turn) → Along c (readied model_ends plan c a)
  unfolding readied
  readied_wise c a = let d = asks a.first c in before_wise d.loop.moment d.loop.sessions a.sweeps

  turned_wise : (halt : Option Halt) (c : Course ModelEnd) (a : Turn) → Along c (turned_unless model_ends halt plan c a)
  turned_wise (Some halt) c a = w.none c.loop.sessions
  turned_wise None c a = happened_wise (asks a.second c).loop (until model_ends c.loop.sessions) a.happening a.met

  unless_wise : (halt : Option Halt) (c : Course ModelEnd) (a : Turn) → Along c (went_unless model_ends halt plan c a)
  unless_wise (Some halt) c a = w.none c.loop.sessions
  unless_wise None c a =
      let d = readied model_ends plan c a in
      w.then_ _ _ _ _ _ (readied_wise c a) (turned_wise d.state.halt d.state a)

  went_wise : (c : Course ModelEnd) (a : Turn) → Along c (went model_ends plan c a)
  unfolding went
  went_wise c a = unless_wise c.halt c a

  acts_wise : (c : Course ModelEnd) (turns : List Turn) → Along c (acts (went model_ends plan) c turns)
  unfolding acts
  acts_wise c [] = w.none c.loop.sessions
  acts_wise c (a ∷ turns) = w.then_ _ _ _ _ _ (went_wise c a) (acts_wise (went model_ends plan c a).state turns)

  pub run_wise : (c : Course ModelEnd) (turns : List Turn) → Along c (run model_ends plan c turns)
  unfolding run
  run_wise c turns = acts_wise c (exactly plan.turns nothing_comes turns)
