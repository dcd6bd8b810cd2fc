-- A relation between the sessions before and behind, the journal and the calls between them holds of a whole run, where it holds of each
-- visit, each turn and each opening.
use Rattle.trace_model.specs.Checks.{most_live}
use Rattle.loop_model.specs.Ends.{ModelEnd, model_ends}
use Rattle.std.proofs.Common.{◌≡◌, ℕ, ◌≤◌, inl, inr, Bool, true, false, List, [], ◌∷◌, ◌++◌, length, drop, Option, Some, None, refl, arith}
use Rattle.std.specs.Prelude.{nat_lt}
use Rattle.std.proofs.lemmas.Bool.{cases_Bool}
use Rattle.std.proofs.lemmas.Bool.Decides.{nat_tests}
use Rattle.er_trace.specs.declared.event.Event.TheVariants as event
use Rattle.er_users.specs.Users.{Mind}
use Rattle.rand_core.specs.Stream.{next_u64}
use Rattle.link_trait.specs.Wires.{Call, Turns, Closes}
use Rattle.link_trait.specs.declared.wires.Conn.{Conn}
use Rattle.link_trait.specs.declared.wires.Happening.{Happening}
use Rattle.link_trait.specs.declared.wires.Happening.TheVariants as happening
use Rattle.loop_model.specs.Journals.{JournalEntry}
use Rattle.loop_model.specs.Outs.{Out, exactly, first_answer_of}
use Rattle.loop_model.specs.Sessions.{Session}
use Rattle.loop_model.specs.Visits.{Met, nothing_met, Visit, Tick, Read, Write, Expire, visited}
use Rattle.loop_model.specs.Loops.{Plan, rules_of, Loop, visit_at, numbers, swept, Sweeps, before, until, next_user, begun, answering, answered_by, accepted, visited_at, happened, Halt, Course, asks, Turn, readied, turned_unless, went_unless, went, nothing_comes, run}
use Rattle.loop_model.specs.Parts.{opened_by}
use Rattle.loop_model.proofs.Steadies.{acts_lift}

-- fewer connections are live than may be
pub below_most : (n : ℕ) → nat_lt n most_live ≡ true → n ≤ most_live
below_most n p = grind (arith, nat_tests, p)

pub record Loopwise (plan : Plan) (R : List (Session ModelEnd) → List (Session ModelEnd) → List JournalEntry → List Call → Type 0) : Type 0 where
  pub none : (ss : List (Session ModelEnd)) → R ss ss [] []
  pub then_ : (ss ts us : List (Session ModelEnd)) (xs ys : List JournalEntry) (cs ds : List Call) → R ss ts xs cs → R ts us ys ds → R ss us (xs ++ ys) (cs ++ ds)
  pub visit : (m : ℕ) (visit : Visit) (n : ℕ) (ss : List (Session ModelEnd)) (a : Met)
      → R ss (visit_at (visited model_ends (rules_of plan) m visit) n ss a).state (visit_at (visited model_ends (rules_of plan) m visit) n ss a).entries (visit_at (visited model_ends (rules_of plan) m visit) n ss a).calls
  pub turned : (ss : List (Session ModelEnd)) (until : Option ℕ) (happening : Happening) → opened_by happening ≡ [] → R ss ss [] (Turns until happening ∷ [])
  pub opened : (l : Loop ModelEnd) (until : Option ℕ) (conn : Conn) (mind : Mind) → nat_lt (length l.sessions) most_live ≡ true
      → R l.sessions (l.sessions ++ begun conn.0 (answering model_ends plan l) mind ∷ [])
      (record { moment = l.moment; conn = conn.0; event = event.Answer plan.rbc (next_u64 l.words).0; outcomes = [] } ∷ [])
      (Turns until (happening.Accepted conn) ∷ [])
  pub full : (ss : List (Session ModelEnd)) (m live : ℕ) (until : Option ℕ) (conn : Conn) → live ≤ most_live
      → R ss ss (record { moment = m; conn = conn.0; event = event.Full live; outcomes = [] } ∷ []) (Turns until (happening.Accepted conn) ∷ Closes conn.0 ∷ [])
  pub unserved : (ss : List (Session ModelEnd)) (m handed : ℕ) (until : Option ℕ) (conn : Conn)
      → R ss ss (record { moment = m; conn = conn.0; event = event.Unserved handed; outcomes = [] } ∷ []) (Turns until (happening.Accepted conn) ∷ Closes conn.0 ∷ [])

module _ (plan : Plan) (R : List (Session ModelEnd) → List (Session ModelEnd) → List JournalEntry → List Call → Type 0) (w : Loopwise plan R) where
  pub wise_swept : (m : ℕ) (visit : Visit) (ns : List ℕ) (ss : List (Session ModelEnd)) (answers : List Met)
      → R ss (swept (visited model_ends (rules_of plan) m visit) ns ss answers).state (swept (visited model_ends (rules_of plan) m visit) ns ss answers).entries (swept (visited model_ends (rules_of plan) m visit) ns ss answers).calls
  unfolding swept
  wise_swept m visit [] ss answers = w.none ss
  wise_swept m visit (n ∷ ns) ss answers =
      w.then_ _ _ _ _ _ _ _ (w.visit m visit n ss (first_answer_of nothing_met answers))
      (wise_swept m visit ns (visit_at (visited model_ends (rules_of plan) m visit) n ss (first_answer_of nothing_met answers)).state (drop 1 answers))

  pub wise_before : (m : ℕ) (ss : List (Session ModelEnd)) (a : Sweeps)
      → R ss (before model_ends (rules_of plan) m ss a).state (before model_ends (rules_of plan) m ss a).entries (before model_ends (rules_of plan) m ss a).calls
  unfolding before
  wise_before m ss a =
      let t = swept (visited model_ends (rules_of plan) m Tick) (numbers ss) ss a.ticks in
      w.then_ _ _ _ _ _ _ _ (wise_swept m Tick (numbers ss) ss a.ticks) (wise_swept m Expire (numbers t.state) t.state a.closings)

  abbrev Behind : Loop ModelEnd → Option ℕ → Happening → Out (Loop ModelEnd) → Type 0
  Behind l until happening o = R l.sessions o.state.sessions o.entries (Turns until happening ∷ o.calls)

  wise_answered : (user : Option Mind) (memory : Bool) (l : Loop ModelEnd) (until : Option ℕ) (conn : Conn) → nat_lt (length l.sessions) most_live ≡ true
      → Behind l until (happening.Accepted conn) (answered_by model_ends user memory plan l conn.0)
  wise_answered None memory l until conn fits = w.unserved l.sessions l.moment plan.handed until conn
  wise_answered (Some mind) true l until conn fits = w.opened l until conn mind fits
  wise_answered (Some mind) false l until conn fits = w.full l.sessions l.moment (length l.sessions) until conn (below_most (length l.sessions) fits)

  wise_accepted : (l : Loop ModelEnd) (until : Option ℕ) (conn : Conn) (memory : Bool)
      → Behind l until (happening.Accepted conn) (accepted model_ends plan l conn.0 memory)
  unfolding accepted
  wise_accepted l until conn memory =
      elim (cases_Bool (nat_lt (length l.sessions) most_live)) [
        | inl p ↦ rw p (wise_answered (next_user l.users) memory l until conn p)
        | inr p ↦ rw p (w.full l.sessions l.moment most_live until conn (omega arith))
      ]

  wise_visit : (l : Loop ModelEnd) (until : Option ℕ) (happening : Happening) (visit : Visit) (n : ℕ) (a : Met) → opened_by happening ≡ []
      → Behind l until happening (visited_at model_ends plan l visit n a)
  wise_visit l until happening visit n a none =
      w.then_ _ _ _ _ _ _ _ (w.turned l.sessions until happening none) (w.visit l.moment visit n l.sessions a)

  pub wise_happened : (l : Loop ModelEnd) (until : Option ℕ) (happening : Happening) (a : Met)
      → Behind l until happening (happened model_ends plan l happening a)
  unfolding happened
  wise_happened l until (happening.Accepted conn) a = wise_accepted l until conn a.memory
  wise_happened l until (happening.Readable conn) a = wise_visit l until (happening.Readable conn) Read conn.0 a refl
  wise_happened l until (happening.Writable conn) a = wise_visit l until (happening.Writable conn) Write conn.0 a refl
  wise_happened l until happening.Quiet a = w.turned l.sessions until happening.Quiet refl
  wise_happened l until happening.Ended a = w.turned l.sessions until happening.Ended refl
  wise_happened l until happening.Failed a = w.turned l.sessions until happening.Failed refl

  abbrev Along : Course ModelEnd → Out (Course ModelEnd) → Type 0
  Along c o = R c.loop.sessions o.state.loop.sessions o.entries o.calls

  wise_readied : (c : Course ModelEnd) (a : Turn) → Along c (readied model_ends plan c a)
  unfolding readied
  wise_readied c a = let d = asks a.first c in wise_before d.loop.moment d.loop.sessions a.sweeps

  wise_turned : (halt : Option Halt) (c : Course ModelEnd) (a : Turn) → Along c (turned_unless model_ends halt plan c a)
  wise_turned (Some halt) c a = w.none c.loop.sessions
  wise_turned None c a =
      wise_happened (asks a.second c).loop (until model_ends c.loop.sessions) a.happening a.met

  wise_went_unless : (halt : Option Halt) (c : Course ModelEnd) (a : Turn) → Along c (went_unless model_ends halt plan c a)
  wise_went_unless (Some halt) c a = w.none c.loop.sessions
  wise_went_unless None c a =
      let d = readied model_ends plan c a in
      w.then_ _ _ _ _ _ _ _ (wise_readied c a) (wise_turned d.state.halt d.state a)

  pub wise_went : (c : Course ModelEnd) (a : Turn) → Along c (went model_ends plan c a)
  unfolding went
  wise_went c a = wise_went_unless c.halt c a

  pub wise_run : (c : Course ModelEnd) (turns : List Turn) → Along c (run model_ends plan c turns)
  unfolding run
  wise_run c turns =
      acts_lift (λ (c d : Course ModelEnd) xs cs. R c.loop.sessions d.loop.sessions xs cs) (went model_ends plan) (λ c. w.none c.loop.sessions)
      (λ c d e xs ys cs ds. w.then_ c.loop.sessions d.loop.sessions e.loop.sessions xs ys cs ds) (wise_went) c
      (exactly plan.turns nothing_comes turns)
