-- A relation between what a loop has before and behind, the journal and the calls between them holds of a whole run, where it holds of
-- each visit at the loop's moment, each turn, each opening, and each answer of the clock.
use Rattle.trace_model.specs.Checks.{most_live}
use Rattle.loop_model.specs.Ends.{ModelEnd, model_ends}
use Rattle.std.proofs.Common.{◌≡◌, ℕ, max, inl, inr, Bool, true, false, List, [], ◌∷◌, ◌++◌, length, drop, Option, Some, None, refl}
use Rattle.std.specs.Prelude.{nat_lt}
use Rattle.std.proofs.lemmas.Bool.{cases_Bool}
use Rattle.er_trace.specs.declared.event.Event.TheVariants as event
use Rattle.er_users.specs.Users.{Mind}
use Rattle.rand_core.specs.Stream.{next_u64}
use Rattle.link_trait.specs.Wires.{Call, Turns, Closes}
use Rattle.link_trait.specs.declared.wires.Conn.{Conn}
use Rattle.link_trait.specs.declared.wires.Happening.{Happening}
use Rattle.link_trait.specs.declared.wires.Happening.TheVariants as happening
use Rattle.loop_model.specs.Journals.{JournalEntry}
use Rattle.loop_model.specs.Outs.{Out, exactly, first_answer_of}
use Rattle.loop_model.specs.Visits.{Met, nothing_met, Visit, Tick, Read, Write, Expire, visited}
use Rattle.loop_model.specs.Loops.{Plan, rules_of, Loop, with_sessions, visit_at, numbers, swept, Sweeps, before, until, next_user, one_word_less, one_less, begun, answering, answered_by, accepted, visited_at, happened, Halt, Course, asks, Turn, readied, turned_unless, went_unless, went, nothing_comes, run}
use Rattle.loop_model.specs.Parts.{opened_by}
use Rattle.loop_model.proofs.Steadies.{acts_lift}

pub record Momentwise (plan : Plan) (R : Loop ModelEnd → Loop ModelEnd → List JournalEntry → List Call → Type 0) : Type 0 where
  pub none : (l : Loop ModelEnd) → R l l [] []
  pub then_ : (l k n : Loop ModelEnd) (xs ys : List JournalEntry) (cs ds : List Call) → R l k xs cs → R k n ys ds → R l n (xs ++ ys) (cs ++ ds)
  pub asked : (l : Loop ModelEnd) (at : ℕ) → R l (record l { moment = max l.moment at }) [] []
  pub visit : (l : Loop ModelEnd) (visit : Visit) (n : ℕ) (a : Met)
      → R l (with_sessions l (visit_at (visited model_ends (rules_of plan) l.moment visit) n l.sessions a).state)
      (visit_at (visited model_ends (rules_of plan) l.moment visit) n l.sessions a).entries (visit_at (visited model_ends (rules_of plan) l.moment visit) n l.sessions a).calls
  pub turned : (l : Loop ModelEnd) (until : Option ℕ) (happening : Happening) → opened_by happening ≡ [] → R l l [] (Turns until happening ∷ [])
  pub opened : (l : Loop ModelEnd) (until : Option ℕ) (conn : Conn) (mind : Mind) → nat_lt (length l.sessions) most_live ≡ true → next_user l.users ≡ Some mind
      → R l (with_sessions (one_less l) (l.sessions ++ begun conn.0 (answering model_ends plan l) mind ∷ []))
      (record { moment = l.moment; conn = conn.0; event = event.Answer plan.rbc (next_u64 l.words).0; outcomes = [] } ∷ [])
      (Turns until (happening.Accepted conn) ∷ [])
  pub full : (l : Loop ModelEnd) (until : Option ℕ) (conn : Conn) → nat_lt (length l.sessions) most_live ≡ false
      → R l l (record { moment = l.moment; conn = conn.0; event = event.Full most_live; outcomes = [] } ∷ []) (Turns until (happening.Accepted conn) ∷ Closes conn.0 ∷ [])
  pub wanted : (l : Loop ModelEnd) (until : Option ℕ) (conn : Conn) (mind : Mind) → nat_lt (length l.sessions) most_live ≡ true → next_user l.users ≡ Some mind
      → R l (one_word_less l) (record { moment = l.moment; conn = conn.0; event = event.Full (length l.sessions); outcomes = [] } ∷ [])
      (Turns until (happening.Accepted conn) ∷ Closes conn.0 ∷ [])
  pub unserved : (l : Loop ModelEnd) (until : Option ℕ) (conn : Conn) → nat_lt (length l.sessions) most_live ≡ true → next_user l.users ≡ None
      → R l l (record { moment = l.moment; conn = conn.0; event = event.Unserved plan.handed; outcomes = [] } ∷ []) (Turns until (happening.Accepted conn) ∷ Closes conn.0 ∷ [])

module _ (plan : Plan) (R : Loop ModelEnd → Loop ModelEnd → List JournalEntry → List Call → Type 0) (w : Momentwise plan R) where
  moment_swept : (visit : Visit) (ns : List ℕ) (l : Loop ModelEnd) (answers : List Met)
      → R l (with_sessions l (swept (visited model_ends (rules_of plan) l.moment visit) ns l.sessions answers).state)
      (swept (visited model_ends (rules_of plan) l.moment visit) ns l.sessions answers).entries (swept (visited model_ends (rules_of plan) l.moment visit) ns l.sessions answers).calls
  unfolding swept
  moment_swept visit [] l answers = w.none l
  moment_swept visit (n ∷ ns) l answers =
      w.then_ _ _ _ _ _ _ _ (w.visit l visit n (first_answer_of nothing_met answers))
      (moment_swept visit ns (with_sessions l (visit_at (visited model_ends (rules_of plan) l.moment visit) n l.sessions (first_answer_of nothing_met answers)).state) (drop 1 answers))

  moment_before : (l : Loop ModelEnd) (a : Sweeps)
      → R l (with_sessions l (before model_ends (rules_of plan) l.moment l.sessions a).state)
      (before model_ends (rules_of plan) l.moment l.sessions a).entries (before model_ends (rules_of plan) l.moment l.sessions a).calls
  unfolding before
  moment_before l a =
      let t = swept (visited model_ends (rules_of plan) l.moment Tick) (numbers l.sessions) l.sessions a.ticks in
      w.then_ _ _ _ _ _ _ _ (moment_swept Tick (numbers l.sessions) l a.ticks) (moment_swept Expire (numbers t.state) (with_sessions l t.state) a.closings)

  abbrev Behind : Loop ModelEnd → Option ℕ → Happening → Out (Loop ModelEnd) → Type 0
  Behind l until happening o = R l o.state o.entries (Turns until happening ∷ o.calls)

  moment_answered : (user : Option Mind) (memory : Bool) (l : Loop ModelEnd) (until : Option ℕ) (conn : Conn) → nat_lt (length l.sessions) most_live ≡ true
      → next_user l.users ≡ user → Behind l until (happening.Accepted conn) (answered_by model_ends user memory plan l conn.0)
  moment_answered None memory l until conn fits is = w.unserved l until conn fits is
  moment_answered (Some mind) true l until conn fits is = w.opened l until conn mind fits is
  moment_answered (Some mind) false l until conn fits is = w.wanted l until conn mind fits is

  moment_accepted : (l : Loop ModelEnd) (until : Option ℕ) (conn : Conn) (memory : Bool) → Behind l until (happening.Accepted conn) (accepted model_ends plan l conn.0 memory)
  unfolding accepted
  moment_accepted l until conn memory =
      elim (cases_Bool (nat_lt (length l.sessions) most_live)) [
        | inl p ↦ rw p (moment_answered (next_user l.users) memory l until conn p refl)
        | inr p ↦ rw p (w.full l until conn p)
      ]

  moment_visit : (l : Loop ModelEnd) (until : Option ℕ) (happening : Happening) (visit : Visit) (n : ℕ) (a : Met) → opened_by happening ≡ []
      → Behind l until happening (visited_at model_ends plan l visit n a)
  moment_visit l until happening visit n a none = w.then_ _ _ _ _ _ _ _ (w.turned l until happening none) (w.visit l visit n a)

  moment_happened : (l : Loop ModelEnd) (until : Option ℕ) (happening : Happening) (a : Met) → Behind l until happening (happened model_ends plan l happening a)
  unfolding happened
  moment_happened l until (happening.Accepted conn) a = moment_accepted l until conn a.memory
  moment_happened l until (happening.Readable conn) a = moment_visit l until (happening.Readable conn) Read conn.0 a refl
  moment_happened l until (happening.Writable conn) a = moment_visit l until (happening.Writable conn) Write conn.0 a refl
  moment_happened l until happening.Quiet a = w.turned l until happening.Quiet refl
  moment_happened l until happening.Ended a = w.turned l until happening.Ended refl
  moment_happened l until happening.Failed a = w.turned l until happening.Failed refl

  abbrev Along : Course ModelEnd → Out (Course ModelEnd) → Type 0
  Along c o = R c.loop o.state.loop o.entries o.calls

  moment_readied : (c : Course ModelEnd) (a : Turn) → Along c (readied model_ends plan c a)
  unfolding readied
  moment_readied c a =
      let d = asks a.first c in w.then_ c.loop d.loop _ [] _ [] _ (w.asked c.loop a.first) (moment_before d.loop a.sweeps)

  moment_turned : (halt : Option Halt) (c : Course ModelEnd) (a : Turn) → Along c (turned_unless model_ends halt plan c a)
  moment_turned (Some halt) c a = w.none c.loop
  moment_turned None c a =
      let d = asks a.second c in
      w.then_ c.loop d.loop _ [] _ [] _ (w.asked c.loop a.second) (moment_happened d.loop (until model_ends c.loop.sessions) a.happening a.met)

  moment_went_unless : (halt : Option Halt) (c : Course ModelEnd) (a : Turn) → Along c (went_unless model_ends halt plan c a)
  moment_went_unless (Some halt) c a = w.none c.loop
  moment_went_unless None c a =
      let d = readied model_ends plan c a in w.then_ _ _ _ _ _ _ _ (moment_readied c a) (moment_turned d.state.halt d.state a)

  moment_went : (c : Course ModelEnd) (a : Turn) → Along c (went model_ends plan c a)
  unfolding went
  moment_went c a = moment_went_unless c.halt c a

  pub moment_run : (c : Course ModelEnd) (turns : List Turn) → Along c (run model_ends plan c turns)
  unfolding run
  moment_run c turns =
      acts_lift (λ (c d : Course ModelEnd) xs cs. R c.loop d.loop xs cs) (went model_ends plan) (λ c. w.none c.loop)
      (λ c d e xs ys cs ds. w.then_ c.loop d.loop e.loop xs ys cs ds) moment_went c (exactly plan.turns nothing_comes turns)
