-- In each turn those are ticked whose deadline has come.
use Rattle.trace_model.specs.Checks.{most_live}
use Rattle.loop_model.specs.Ends.{ModelEnd, model_ends}
use Rattle.std.proofs.Common.{if◌then◌else◌, ◌≡◌, ℕ, ◌+◌, ◌<◌, ◌≤◌, max, inl, inr, Bool, true, false, ◌||◌, List, [], ◌∷◌, ◌++◌, length, drop, Option, Some, None, refl, ◌∙◌, ap, subst, append-nil, append_assoc, arith, ne_eqb}
use Rattle.std.specs.Prelude.{nat_lt, ◌==◌}
use Rattle.std.proofs.lemmas.Bool.{cases_Bool}
use Rattle.er_users.specs.Users.{Mind}
use Rattle.link_trait.specs.Wires.{Call, Reading, Gave, NotNow, End, Failed}
use Rattle.link_trait.specs.declared.wires.WriteAnswer.{WriteAnswer}
use Rattle.link_trait.specs.declared.wires.WriteAnswer.TheVariants as write
use Rattle.link_trait.specs.declared.wires.Happening.{Happening}
use Rattle.link_trait.specs.declared.wires.Happening.TheVariants as happening
use Rattle.loop_model.specs.Journals.{JournalEntry}
use Rattle.loop_model.specs.Outs.{Out, changed, acts, exactly, first_answer_of}
use Rattle.loop_model.specs.Sessions.{Rules, Session, GivenToSession, Begins, Hears, Sends, Takes, Leaves, Ticks, Ends, Faults, Stalls, is_released, most_output, journal_event_of_given as written_as, outcomes_of_given_event, octets_in, joined, fed, Says, nothing_said, handled, owes_nothing, made}
use Rattle.loop_model.specs.Visits.{WritingState, Going, PutOff, Failing, writes_if, writes_once, writes, Wrote, fault_unless, flowed, written_unless, session_behind_writing, session_kept_or_closed, rests, rests_behind, Tick, Read, Write, Expire, Met, nothing_met, is_due, came, read_once, served, visited}
use Rattle.loop_model.specs.Loops.{Plan, rules_of, Loop, visit_at, numbers, swept, Sweeps, before, next_user, answered_by, accepted, happened, Halt, Course, asks, Turn, readied, turned_unless, went_unless, went}
use Rattle.loop_model.specs.Parts.{Rises}
use Rattle.loop_model.specs.Turnings.{is_tick, ticked, due_at, TicksAreDue}
use Rattle.loop_model.proofs.Steadies.{Steady, Usual, steady_handled, steady_pours, follows_handled, Left, Stays, Closed, left_visited}
use Rattle.loop_model.proofs.Lives.{Own, same}
use Rattle.loop_model.proofs.Orders.{own_calls, UpTo, up_to_more}

ticked-append : (xs ys : List JournalEntry) → ticked (xs ++ ys) ≡ ticked xs ++ ticked ys
unfolding ticked
ticked-append [] ys = refl
ticked-append (x ∷ xs) ys =
    elim (cases_Bool (is_tick x.event)) [ inl p ↦ rw p (ap (λ z. x.conn ∷ z) (ticked-append xs ys)) | inr p ↦ rw p (ticked-append xs ys) ]

abbrev IsNoTick : GivenToSession → Type 0
IsNoTick (Begins engine rbc rb) = Unit {0}
IsNoTick (Hears octets) = Unit {0}
IsNoTick (Sends text) = Unit {0}
IsNoTick Takes = Unit {0}
IsNoTick (Leaves sub) = Unit {0}
IsNoTick Ticks = ⊥
IsNoTick Ends = Unit {0}
IsNoTick Faults = Unit {0}
IsNoTick Stalls = Unit {0}

no_tick : (k : ModelEnd) (g : GivenToSession) → IsNoTick g → is_tick (written_as model_ends k g) ≡ false
no_tick k (Begins engine rbc rb) p = refl
no_tick k (Hears octets) p = refl
no_tick k (Sends text) p = refl
no_tick k Takes p = refl
no_tick k (Leaves sub) p = refl
no_tick k Ticks p = absurd p
no_tick k Ends p = refl
no_tick k Faults p = refl
no_tick k Stalls p = refl

NoTick : Session ModelEnd → Session ModelEnd → List JournalEntry → List Call → Type 0
NoTick s t xs cs = ticked xs ≡ []

none_two : (xs ys : List JournalEntry) → ticked xs ≡ [] → ticked ys ≡ [] → ticked (xs ++ ys) ≡ []
none_two xs ys p q = ticked-append xs ys ∙ ap (λ z. z ++ ticked ys) p ∙ q

steady : (r : Rules) → Steady r IsNoTick NoTick
unfolding NoTick ticked
steady r = record {
  none = λ s. refl;
  then_ = λ s t u xs ys cs ds p q. none_two xs ys p q;
  given = λ m s g allowed fits. rw (no_tick s.end g allowed) refl;
  stalls = λ m s g allowed fits. rw (no_tick s.end g allowed) refl;
  heard = λ s mind. refl;
  parts = λ s told at gone. refl;
}

usual : Usual IsNoTick
usual = record { sends = λ text. tt; leaves = λ sub. tt; takes = tt }

module _ (r : Rules) (m : ℕ) where
  handled_none : (s : Session ModelEnd) (g : GivenToSession) (says : Says) → IsNoTick g → ticked (handled model_ends r m s g says).1 ≡ []
  unfolding NoTick
  handled_none s g says p = steady_handled r IsNoTick NoTick (steady r) usual m s g says p

  fed_tick : (s : Session ModelEnd) → ticked (fed model_ends r m s Ticks).1 ≡ s.number ∷ []
  unfolding ticked fed joined
  fed_tick s =
      elim (cases_Bool (nat_lt most_output (length s.output + length (octets_in (outcomes_of_given_event model_ends r m s.end Ticks))))) [ inl p ↦ rw p refl | inr p ↦ rw p refl ]

  handled_tick : (s : Session ModelEnd) (says : Says) → ticked (handled model_ends r m s Ticks says).1 ≡ s.number ∷ []
  unfolding NoTick
  handled_tick s says =
      let f = follows_handled r IsNoTick NoTick (steady r) usual m s Ticks says in
      ap ticked f.is ∙ ticked-append (fed model_ends r m s Ticks).1 f.rest ∙ ap (λ z. z ++ ticked f.rest) (fed_tick s) ∙ ap (λ z. s.number ∷ z) f.holds

  -- ---- writing

  once_none : (flow : WritingState) (s : Session ModelEnd) (a : WriteAnswer) → (writes_if flow s a).entries ≡ []
  once_none Going s a = elim (cases_Bool (length s.output == 0)) [ inl p ↦ rw p refl | inr p ↦ rw p refl ]
  once_none PutOff s a = refl
  once_none Failing s a = refl

  pub acts_none : (answers : List WriteAnswer) (x : Session ModelEnd × WritingState) → (acts writes_once x answers).entries ≡ []
  unfolding acts writes_once
  acts_none [] x = refl
  acts_none (a ∷ answers) x =
      ap (λ z. z ++ (acts writes_once (writes_if x.1 x.0 a).state answers).entries) (once_none x.1 x.0 a) ∙ acts_none answers (writes_if x.1 x.0 a).state

  fault_none : (b : Bool) (s : Session ModelEnd) (says : Says) → ticked (fault_unless model_ends b r m s says).1 ≡ []
  unfolding ticked
  fault_none true s says = refl
  fault_none false s says = handled_none s Faults says tt

  flowed_none : (flow : WritingState) (s : Session ModelEnd) (says : Says) → ticked (flowed model_ends r m (s, flow) says).entries ≡ []
  unfolding ticked
  flowed_none Going s says = refl
  flowed_none PutOff s says = refl
  flowed_none Failing s says = fault_none (is_released model_ends s) s says

  unless_none : (b : Bool) (s : Session ModelEnd) (a : Wrote) → ticked (written_unless model_ends b r m s a).entries ≡ []
  unfolding ticked writes
  unless_none true s a = refl
  unless_none false s a =
      let x = acts writes_once (s, Going) (exactly (length s.output) write.NotNow a.answers) in
      ap (λ z. ticked (z ++ (flowed model_ends r m x.state a.says).entries)) (acts_none (exactly (length s.output) write.NotNow a.answers) (s, Going))
      ∙ flowed_none x.state.1 x.state.0 a.says

  written_none : (s : Session ModelEnd) (a : Wrote) → ticked (session_behind_writing model_ends r m s a).entries ≡ []
  unfolding session_behind_writing
  written_none s a = unless_none s.broken s a

  pub settled_none : (s : Session ModelEnd) → (session_kept_or_closed model_ends s).entries ≡ []
  unfolding session_kept_or_closed
  settled_none s = elim (cases_Bool (s.broken || owes_nothing model_ends s)) [ inl p ↦ rw p refl | inr p ↦ rw p refl ]

  rests_none : (s : Session ModelEnd) (a : Wrote) → ticked (rests model_ends r m s a).entries ≡ []
  unfolding rests
  rests_none s a =
      let w = session_behind_writing model_ends r m s a in
      ap (λ z. ticked (w.entries ++ z)) (settled_none w.state) ∙ ap ticked (append-nil w.entries) ∙ written_none s a

  -- ---- visits

  tick_visit : (s : Session ModelEnd) (a : Met) → ticked (visited model_ends r m Tick s a).entries ≡ (if is_due m (model_ends.deadline s.end) then s.number ∷ [] else [])
  unfolding visited served ticked
  tick_visit s a =
      let h = handled model_ends r m s Ticks (first_answer_of nothing_said a.says) in
      elim (cases_Bool (is_due m (model_ends.deadline s.end))) [
        | inl p ↦
            rw p
            (ticked-append h.1 (rests model_ends r m h.0 a.wrote).entries
            ∙ ap (λ z. z ++ ticked (rests model_ends r m h.0 a.wrote).entries) (handled_tick s (first_answer_of nothing_said a.says))
            ∙ ap (λ z. s.number ∷ z) (rests_none h.0 a.wrote))
        | inr p ↦ rw p refl
      ]

  came_none : (reading : Reading) (s : Session ModelEnd) (says : List Says) → ticked (came model_ends reading r m s says).1 ≡ []
  unfolding NoTick ticked
  came_none (Gave octets) s says = steady_pours r IsNoTick NoTick (steady r) usual (λ octets. tt) m s octets says
  came_none NotNow s says = refl
  came_none End s says = handled_none s Ends (first_answer_of nothing_said says) tt
  came_none Failed s says = handled_none s Faults (first_answer_of nothing_said says) tt

  behind_none : (reading : Reading) (s : Session ModelEnd) (a : Wrote) → ticked (rests_behind model_ends reading r m s a).entries ≡ []
  unfolding ticked
  behind_none (Gave octets) s a = rests_none s a
  behind_none NotNow s a = refl
  behind_none End s a = rests_none s a
  behind_none Failed s a = rests_none s a

  read_visit : (s : Session ModelEnd) (a : Met) → ticked (visited model_ends r m Read s a).entries ≡ []
  unfolding visited read_once ticked
  read_visit s a =
      let b = came model_ends a.reading r m (made s) a.says in
      elim (cases_Bool (is_released model_ends s)) [
        | inl p ↦ rw p refl
        | inr p ↦ rw p (none_two b.1 (rests_behind model_ends a.reading r m b.0 a.wrote).entries (came_none a.reading (made s) a.says) (behind_none a.reading b.0 a.wrote))
      ]

  write_visit : (s : Session ModelEnd) (a : Met) → ticked (visited model_ends r m Write s a).entries ≡ []
  unfolding visited
  write_visit s a = rests_none (made s) a.wrote

  expire_visit : (s : Session ModelEnd) (a : Met) → ticked (visited model_ends r m Expire s a).entries ≡ []
  unfolding visited ticked
  expire_visit s a = elim (cases_Bool (is_due m s.closing)) [ inl p ↦ rw p refl | inr p ↦ rw p refl ]

-- ---- sweeps

module _ (f : Session ModelEnd → Met → Out (List (Session ModelEnd))) (none : (s : Session ModelEnd) (a : Met) → ticked (f s a).entries ≡ []) where
  visit_none : (n : ℕ) (ss : List (Session ModelEnd)) (a : Met) → ticked (visit_at f n ss a).entries ≡ []
  unfolding visit_at ticked
  visit_none n [] a = refl
  visit_none n (s ∷ ss) a = elim (cases_Bool (s.number == n)) [ inl p ↦ rw p (none s a) | inr p ↦ rw p (visit_none n ss a) ]

  swept_none : (ns : List ℕ) (ss : List (Session ModelEnd)) (answers : List Met) → ticked (swept f ns ss answers).entries ≡ []
  unfolding swept ticked
  swept_none [] ss answers = refl
  swept_none (n ∷ ns) ss answers =
      let o = visit_at f n ss (first_answer_of nothing_met answers) in
      none_two o.entries (swept f ns o.state (drop 1 answers)).entries (visit_none n ss (first_answer_of nothing_met answers)) (swept_none ns o.state (drop 1 answers))

-- a visit of a number behind others
pub visit_skip : (f : Session ModelEnd → Met → Out (List (Session ModelEnd))) (top n : ℕ) (pre ss : List (Session ModelEnd)) (a : Met) → UpTo top (numbers pre) → top < n
    → visit_at f n (pre ++ ss) a ≡ changed (λ now. pre ++ now) (visit_at f n ss a)
unfolding visit_at UpTo
visit_skip f top n [] ss a p q = refl
visit_skip f top n (t ∷ pre) ss a p q =
    let l : t.number ≤ top = p.0 in
    let ne : (t.number == n) ≡ false = ne_eqb t.number n (λ e. let x : ⊥ = omega arith in x) in
    rw ne (ap (λ z. changed (λ now. t ∷ now) z) (visit_skip f top n pre ss a p.1 q))

pub visit_here : (f : Session ModelEnd → Met → Out (List (Session ModelEnd))) (s : Session ModelEnd) (ss : List (Session ModelEnd)) (a : Met) → visit_at f s.number (s ∷ ss) a ≡ changed (λ now. now ++ ss) (f s a)
unfolding visit_at
visit_here f s ss a = rw (same s.number) refl

pub up_to_two : (top : ℕ) (ss ts : List (Session ModelEnd)) → UpTo top (numbers ss) → UpTo top (numbers ts) → UpTo top (numbers (ss ++ ts))
unfolding UpTo
up_to_two top [] ts p q = q
up_to_two top (s ∷ ss) ts p q = (p.0, up_to_two top ss ts p.1 q)

pub left_up_to : (s : Session ModelEnd) (ts : List (Session ModelEnd)) (xs : List JournalEntry) (cs : List Call) → Left Own s ts xs cs → UpTo s.number (numbers ts)
unfolding UpTo
left_up_to s ts xs cs (Stays t p q) = rw p ((let e : t.number ≡ s.number = q.number in omega arith), tt)
left_up_to s ts xs cs (Closed t ds over p e q) = rw p tt

due_one : (m : ℕ) (s : Session ModelEnd) (ss : List (Session ModelEnd)) → (if is_due m (model_ends.deadline s.end) then s.number ∷ [] else []) ++ due_at m ss ≡ due_at m (s ∷ ss)
due_one m s ss = elim (cases_Bool (is_due m (model_ends.deadline s.end))) [ inl p ↦ rw p refl | inr p ↦ rw p refl ]

module _ (r : Rules) (m : ℕ) where
  swept_ticks : (ss pre : List (Session ModelEnd)) (top : ℕ) (answers : List Met) → UpTo top (numbers pre) → Rises top (numbers ss)
      → ticked (swept (visited model_ends r m Tick) (numbers ss) (pre ++ ss) answers).entries ≡ due_at m ss
  unfolding swept ticked
  swept_ticks [] pre top answers p q = refl
  swept_ticks (s ∷ ss) pre top answers p q =
      let f = visited model_ends r m Tick in
      let a = first_answer_of nothing_met answers in
      let o = f s a in
      let above : top < s.number = q.0 in
      let at : visit_at f s.number (pre ++ s ∷ ss) a ≡ changed (λ now. pre ++ (now ++ ss)) o =
      visit_skip f top s.number pre (s ∷ ss) a p above ∙ ap (λ z. changed (λ now. pre ++ now) z) (visit_here f s ss a) in
      let up : UpTo s.number (numbers (pre ++ o.state)) =
      up_to_two s.number pre o.state (up_to_more top s.number (numbers pre) (omega arith) p) (left_up_to s o.state o.entries o.calls (left_visited r Own (own_calls r) Tick m s a)) in
      let rest : ticked (swept f (numbers ss) (pre ++ (o.state ++ ss)) (drop 1 answers)).entries ≡ due_at m ss =
      subst (λ z. ticked (swept f (numbers ss) z (drop 1 answers)).entries ≡ due_at m ss) (append_assoc pre o.state ss)
      (swept_ticks ss (pre ++ o.state) s.number (drop 1 answers) up q.1) in
      ap (λ (z : Out (List (Session ModelEnd))). ticked (z.entries ++ (swept f (numbers ss) z.state (drop 1 answers)).entries)) at
      ∙ ticked-append o.entries (swept f (numbers ss) (pre ++ (o.state ++ ss)) (drop 1 answers)).entries
      ∙ ap (λ z. z ++ ticked (swept f (numbers ss) (pre ++ (o.state ++ ss)) (drop 1 answers)).entries) (tick_visit r m s a)
      ∙ ap (λ z. (if is_due m (model_ends.deadline s.end) then s.number ∷ [] else []) ++ z) rest
      ∙ due_one m s ss

  before_ticks : (ss : List (Session ModelEnd)) (a : Sweeps) → Rises 0 (numbers ss) → ticked (before model_ends r m ss a).entries ≡ due_at m ss
  unfolding before UpTo
  before_ticks ss a rises =
      let t = swept (visited model_ends r m Tick) (numbers ss) ss a.ticks in
      let u = swept (visited model_ends r m Expire) (numbers t.state) t.state a.closings in
      ticked-append t.entries u.entries
      ∙ ap (λ z. ticked t.entries ++ z) (swept_none (visited model_ends r m Expire) (expire_visit r m) (numbers t.state) t.state a.closings)
      ∙ append-nil (ticked t.entries)
      ∙ swept_ticks ss [] 0 a.ticks tt rises

-- ---- the turn

answered_none : (user : Option Mind) (memory : Bool) (plan : Plan) (l : Loop ModelEnd) (conn : ℕ) → ticked (answered_by model_ends user memory plan l conn).entries ≡ []
unfolding ticked
answered_none None memory plan l conn = refl
answered_none (Some mind) true plan l conn = refl
answered_none (Some mind) false plan l conn = refl

happened_none : (plan : Plan) (l : Loop ModelEnd) (what : Happening) (a : Met) → ticked (happened model_ends plan l what a).entries ≡ []
unfolding happened accepted ticked
happened_none plan l (happening.Accepted conn) a =
    elim (cases_Bool (nat_lt (length l.sessions) most_live)) [ inl p ↦ rw p (answered_none (next_user l.users) a.memory plan l conn.0) | inr p ↦ rw p refl ]
happened_none plan l (happening.Readable conn) a = visit_none (visited model_ends (rules_of plan) l.moment Read) (read_visit (rules_of plan) l.moment) conn.0 l.sessions a
happened_none plan l (happening.Writable conn) a = visit_none (visited model_ends (rules_of plan) l.moment Write) (write_visit (rules_of plan) l.moment) conn.0 l.sessions a
happened_none plan l happening.Quiet a = refl
happened_none plan l happening.Ended a = refl
happened_none plan l happening.Failed a = refl

turned_none : (halt : Option Halt) (plan : Plan) (d : Course ModelEnd) (a : Turn) → ticked (turned_unless model_ends halt plan d a).entries ≡ []
unfolding ticked
turned_none (Some halt) plan d a = refl
turned_none None plan d a = happened_none plan (asks a.second d).loop a.happening a.met

readied_ticks : (plan : Plan) (c : Course ModelEnd) (a : Turn) → Rises 0 (numbers c.loop.sessions) → ticked (readied model_ends plan c a).entries ≡ due_at (max c.loop.moment a.first) c.loop.sessions
unfolding readied
readied_ticks plan c a rises = before_ticks (rules_of plan) (max c.loop.moment a.first) c.loop.sessions a.sweeps rises

went_ticks : (halt : Option Halt) (plan : Plan) (c : Course ModelEnd) (a : Turn) → halt ≡ None → Rises 0 (numbers c.loop.sessions)
    → ticked (went_unless model_ends halt plan c a).entries ≡ due_at (max c.loop.moment a.first) c.loop.sessions
went_ticks (Some halt) plan c a p rises = absurd (let q : ⊥ = cc in q)
went_ticks None plan c a p rises =
    let d = readied model_ends plan c a in
    let t = turned_unless model_ends d.state.halt plan d.state a in
    ticked-append d.entries t.entries ∙ ap (λ z. ticked d.entries ++ z) (turned_none d.state.halt plan d.state a) ∙ append-nil (ticked d.entries) ∙ readied_ticks plan c a rises

pub ticks_are_due : TicksAreDue
unfolding went
ticks_are_due plan c a live rises = went_ticks c.halt plan c a live rises
