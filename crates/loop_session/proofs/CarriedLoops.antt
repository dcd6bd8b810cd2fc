-- What a loop does with its sessions, carried to ends of another kind.
use Rattle.std.proofs.Common.{◌≡◌, ◌∙◌, ℕ, suc, ◌+◌, Bool, true, false, if◌then◌else◌, List, [], ◌∷◌, ◌++◌, length, drop, Option, Some, None, refl, ap, ap₂}
use Rattle.std.specs.Prelude.{◌==◌, ◌&&◌, nat_lt}
use Rattle.rand_core.specs.Stream.{next_u64}
use Rattle.er_trace.specs.declared.event.Event.TheVariants as event
use Rattle.er_users.specs.Users.{Mind}
use Rattle.er_end_model.specs.Steps.{earlier_of_moments as first_moment}
use Rattle.link_trait.specs.Wires.{Listens, Dials, Turns}
use Rattle.link_trait.specs.declared.wires.Happening.{Happening}
use Rattle.link_trait.specs.declared.wires.Happening.TheVariants as happening
use Rattle.loop_model.specs.Ends.{EndOps}
use Rattle.loop_model.specs.Outs.{Out, next, changed, prints, makes, exactly, first_answer_of}
use Rattle.loop_model.specs.Sessions.{Rules, Session, Begins}
use Rattle.loop_model.specs.Visits.{Met, nothing_met, Visit, Tick, Read, Write, Expire, visited, served}
use Rattle.trace_model.specs.Checks.{most_live}
use Rattle.loop_model.specs.Loops.{Plan, rules_of, Loop, with_sessions, visit_at, numbers, swept, Sweeps, plain_event, turned_away, next_user, begun, one_word_less, one_less, Caller, Halt, OnClosed, Course, asks, halt_by, halt_behind, Turn, nothing_comes, Dialled, before, until, answering, answered_by, accepted, calling, called_by, called, visited_at, happened, readied, turn, follows, turned_unless, went_unless, went, run, serves, opens, dials_to, dials, begun_dial}
use Rattle.loop_session.proofs.Carrying.{Carries, carried, all_carried, loop_carried, course_carried, if_carried, next_carried, changed_carried, acts_carried}
use Rattle.loop_session.proofs.CarriedVisits.{served_same, visited_same, wakes_same}

-- ---- lists of sessions

numbers_same : {E F : Type 0} (h : E → F) (ss : List (Session E)) → numbers (all_carried h ss) ≡ numbers ss
numbers_same h [] = refl
numbers_same h (s ∷ ss) = ap (λ (z : List ℕ). s.number ∷ z) (numbers_same h ss)

length_same : {E F : Type 0} (h : E → F) (ss : List (Session E)) → length (all_carried h ss) ≡ length ss
length_same h [] = refl
length_same h (s ∷ ss) = ap (λ (z : ℕ). suc z) (length_same h ss)

joined_same : {E F : Type 0} (h : E → F) (ss ts : List (Session E)) → all_carried h ss ++ all_carried h ts ≡ all_carried h (ss ++ ts)
joined_same h [] ts = refl
joined_same {F = F} h (s ∷ ss) ts = ap (λ (z : List (Session F)). carried h s ∷ z) (joined_same h ss ts)

-- visits of one kind are carried to those of the other
abbrev VisitsSame : {E F : Type 0} → (E → F) → (Session E → Met → Out (List (Session E))) → (Session F → Met → Out (List (Session F))) → Type 0
VisitsSame {E = E} h f g = (s : Session E) (a : Met) → g (carried h s) a ≡ changed (all_carried h) (f s a)

visit_at_same : {E F : Type 0} (h : E → F) (f : Session E → Met → Out (List (Session E))) (g : Session F → Met → Out (List (Session F)))
    → VisitsSame h f g → (n : ℕ) (ss : List (Session E)) (a : Met) → visit_at g n (all_carried h ss) a ≡ changed (all_carried h) (visit_at f n ss a)
unfolding visit_at
visit_at_same h f g same n [] a = refl
visit_at_same h f g same n (s ∷ ss) a =
    let b = s.number == n in
    let all = all_carried h in
    if_carried (changed all) b b (changed (λ now. now ++ ss) (f s a)) (changed (λ now. s ∷ now) (visit_at f n ss a))
    (changed (λ now. now ++ all ss) (g (carried h s) a)) (changed (λ now. carried h s ∷ now) (visit_at g n (all ss) a)) refl
    (changed_carried all all (f s a) (g (carried h s) a) (λ now. now ++ ss) (λ now. now ++ all ss) (same s a) (joined_same h (f s a).state ss))
    (changed_carried all all (visit_at f n ss a) (visit_at g n (all ss) a) (λ now. s ∷ now) (λ now. carried h s ∷ now) (visit_at_same h f g same n ss a) refl)

swept_same : {E F : Type 0} (h : E → F) (f : Session E → Met → Out (List (Session E))) (g : Session F → Met → Out (List (Session F)))
    → VisitsSame h f g → (ns : List ℕ) (ss : List (Session E)) (answers : List Met) → swept g ns (all_carried h ss) answers ≡ changed (all_carried h) (swept f ns ss answers)
unfolding swept
swept_same h f g same [] ss answers = refl
swept_same h f g same (n ∷ ns) ss answers =
    let a = first_answer_of nothing_met answers in
    next_carried (all_carried h) (all_carried h) (visit_at f n ss a) (visit_at g n (all_carried h ss) a)
    (λ now. swept f ns now (drop 1 answers)) (λ now. swept g ns now (drop 1 answers))
    (visit_at_same h f g same n ss a) (λ now. swept_same h f g same ns now (drop 1 answers))

-- all are visited
all_swept_same : {E F : Type 0} (h : E → F) (f : Session E → Met → Out (List (Session E))) (g : Session F → Met → Out (List (Session F)))
    → VisitsSame h f g → (ss : List (Session E)) (answers : List Met)
    → swept g (numbers (all_carried h ss)) (all_carried h ss) answers ≡ changed (all_carried h) (swept f (numbers ss) ss answers)
all_swept_same h f g same ss answers =
    ap (λ (ns : List ℕ). swept g ns (all_carried h ss) answers) (numbers_same h ss) ∙ swept_same h f g same (numbers ss) ss answers

-- ---- halts

halt_by_same : {E F : Type 0} (h : E → F) (plan : Plan) (ss : List (Session E)) → halt_by plan (all_carried h ss) ≡ halt_by plan ss
halt_by_same h plan ss = ap (λ (n : ℕ). if plan.dials && (n == 0) then Some OnClosed else None) (length_same h ss)

halt_behind_same : {E F : Type 0} (h : E → F) (plan : Plan) (what : Happening) (ss : List (Session E))
    → halt_behind plan what (all_carried h ss) ≡ halt_behind plan what ss
halt_behind_same h plan (happening.Accepted conn) ss = halt_by_same h plan ss
halt_behind_same h plan (happening.Readable conn) ss = halt_by_same h plan ss
halt_behind_same h plan (happening.Writable conn) ss = halt_by_same h plan ss
halt_behind_same h plan happening.Quiet ss = halt_by_same h plan ss
halt_behind_same h plan happening.Ended ss = refl
halt_behind_same h plan happening.Failed ss = refl

-- ---- the loop

module _ {E F : Type 0} (plan : Plan) (o : EndOps E) (p : EndOps F) (h : E → F) (c : Carries plan.settings o p h) where
  visits_same : (r : Rules) (m : ℕ) (visit : Visit) → VisitsSame h (visited o r m visit) (visited p r m visit)
  visits_same r m visit s a = visited_same plan.settings o p h c r m visit s a

  before_same : (r : Rules) (m : ℕ) (ss : List (Session E)) (a : Sweeps) → before p r m (all_carried h ss) a ≡ changed (all_carried h) (before o r m ss a)
  unfolding before
  before_same r m ss a =
      next_carried (all_carried h) (all_carried h) (swept (visited o r m Tick) (numbers ss) ss a.ticks) (swept (visited p r m Tick) (numbers (all_carried h ss)) (all_carried h ss) a.ticks)
      (λ now. swept (visited o r m Expire) (numbers now) now a.closings) (λ now. swept (visited p r m Expire) (numbers now) now a.closings)
      (all_swept_same h (visited o r m Tick) (visited p r m Tick) (visits_same r m Tick) ss a.ticks)
      (λ now. all_swept_same h (visited o r m Expire) (visited p r m Expire) (visits_same r m Expire) now a.closings)

  until_same : (ss : List (Session E)) → until p (all_carried h ss) ≡ until o ss
  unfolding until
  until_same [] = refl
  until_same (s ∷ ss) = ap₂ (λ (x y : Option ℕ). first_moment x y) (wakes_same plan.settings o p h c s) (until_same ss)

  -- ---- openings

  answered_by_same : (user : Option Mind) (memory : Bool) (l : Loop E) (conn : ℕ)
      → answered_by p user memory plan (loop_carried h l) conn ≡ changed (loop_carried h) (answered_by o user memory plan l conn)
  answered_by_same None memory l conn = refl
  answered_by_same (Some mind) false l conn = ap (λ (n : ℕ). turned_away (one_word_less (loop_carried h l)) conn (event.Full n)) (length_same h l.sessions)
  answered_by_same (Some mind) true l conn =
      let answers : List (Session F) → Out (Loop F) = λ ss.
      prints (with_sessions (one_less (loop_carried h l)) ss, plain_event l conn (event.Answer plan.rbc (next_u64 l.words).0) ∷ []) in
      ap (λ (k : F). answers (all_carried h l.sessions ++ begun conn k mind ∷ [])) (c.answers plan.rbc (next_u64 l.words).0 l.moment)
      ∙ ap answers (joined_same h l.sessions (begun conn (answering o plan l) mind ∷ []))

  accepted_same : (l : Loop E) (conn : ℕ) (memory : Bool) → accepted p plan (loop_carried h l) conn memory ≡ changed (loop_carried h) (accepted o plan l conn memory)
  unfolding accepted
  accepted_same l conn memory =
      if_carried (changed (loop_carried h)) (nat_lt (length l.sessions) most_live) (nat_lt (length (all_carried h l.sessions)) most_live)
      (answered_by o (next_user l.users) memory plan l conn) (turned_away l conn (event.Full most_live))
      (answered_by p (next_user l.users) memory plan (loop_carried h l) conn) (turned_away (loop_carried h l) conn (event.Full most_live))
      (ap (λ (n : ℕ). nat_lt n most_live) (length_same h l.sessions)) (answered_by_same (next_user l.users) memory l conn) refl

  called_by_same : (user : Option Mind) (caller : Caller) (l : Loop E) (conn : ℕ) (a : Met)
      → called_by p user plan caller (loop_carried h l) conn a ≡ changed (loop_carried h) (called_by o user plan caller l conn a)
  called_by_same None caller l conn a = refl
  called_by_same (Some mind) caller l conn a =
      let r = rules_of plan in
      let g = Begins caller.engine plan.rbc (next_u64 l.words).0 in
      let s = begun_dial conn (calling o plan caller l) mind in
      changed_carried (all_carried h) (loop_carried h) (served o r l.moment s g a) (served p r l.moment (begun_dial conn (calling p plan caller (loop_carried h l)) mind) g a)
      (with_sessions (one_less l)) (with_sessions (one_less (loop_carried h l)))
      (ap (λ (k : F). served p r l.moment (begun_dial conn k mind) g a) (c.calls caller.engine plan.rbc caller.kmac (next_u64 l.words).0 l.moment)
      ∙ served_same plan.settings o p h c r l.moment s g a) refl

  called_same : (caller : Caller) (l : Loop E) (conn : ℕ) (a : Met) → called p plan caller (loop_carried h l) conn a ≡ changed (loop_carried h) (called o plan caller l conn a)
  unfolding called
  called_same caller l conn a = called_by_same (next_user l.users) caller l conn a

  -- ---- what happened

  visited_at_same : (l : Loop E) (visit : Visit) (conn : ℕ) (a : Met)
      → visited_at p plan (loop_carried h l) visit conn a ≡ changed (loop_carried h) (visited_at o plan l visit conn a)
  visited_at_same l visit conn a =
      let r = rules_of plan in
      changed_carried (all_carried h) (loop_carried h) (visit_at (visited o r l.moment visit) conn l.sessions a) (visit_at (visited p r l.moment visit) conn (all_carried h l.sessions) a)
      (with_sessions l) (with_sessions (loop_carried h l))
      (visit_at_same h (visited o r l.moment visit) (visited p r l.moment visit) (visits_same r l.moment visit) conn l.sessions a) refl

  happened_same : (l : Loop E) (what : Happening) (a : Met) → happened p plan (loop_carried h l) what a ≡ changed (loop_carried h) (happened o plan l what a)
  unfolding happened
  happened_same l (happening.Accepted conn) a = accepted_same l conn.0 a.memory
  happened_same l (happening.Readable conn) a = visited_at_same l Read conn.0 a
  happened_same l (happening.Writable conn) a = visited_at_same l Write conn.0 a
  happened_same l happening.Quiet a = refl
  happened_same l happening.Ended a = refl
  happened_same l happening.Failed a = refl

  -- ---- turns

  readied_same : (d : Course E) (a : Turn) → readied p plan (course_carried h d) a ≡ changed (course_carried h) (readied o plan d a)
  unfolding readied
  readied_same d a =
      let r = rules_of plan in
      let x = asks a.first d in
      let y = course_carried h x in
      let b = before o r x.loop.moment x.loop.sessions a.sweeps in
      changed_carried (all_carried h) (course_carried h) b (before p r x.loop.moment (all_carried h x.loop.sessions) a.sweeps)
      (λ ss. record x { loop = with_sessions x.loop ss; halt = halt_by plan ss }) (λ ss. record y { loop = with_sessions y.loop ss; halt = halt_by plan ss })
      (before_same r x.loop.moment x.loop.sessions a.sweeps)
      (ap (λ (w : Option Halt). record y { loop = with_sessions y.loop (all_carried h b.state); halt = w }) (halt_by_same h plan b.state))

  turn_same : (d : Course E) (a : Turn) → turn p (course_carried h d) a ≡ changed (course_carried h) (turn o d a)
  turn_same d a =
      ap (λ (u : Option ℕ). makes (Turns u a.happening) (record (asks a.second (course_carried h d)) { turns = d.turns + 1 })) (until_same d.loop.sessions)

  follows_same : (d : Course E) (a : Turn) → follows p plan (course_carried h d) a ≡ changed (course_carried h) (follows o plan d a)
  follows_same d a =
      let y = course_carried h d in
      let b = happened o plan d.loop a.happening a.met in
      changed_carried (loop_carried h) (course_carried h) b (happened p plan y.loop a.happening a.met)
      (λ l. record d { loop = l; halt = halt_behind plan a.happening l.sessions }) (λ l. record y { loop = l; halt = halt_behind plan a.happening l.sessions })
      (happened_same d.loop a.happening a.met)
      (ap (λ (w : Option Halt). record y { loop = loop_carried h b.state; halt = w }) (halt_behind_same h plan a.happening b.state.sessions))

  turned_unless_same : (halt : Option Halt) (d : Course E) (a : Turn)
      → turned_unless p halt plan (course_carried h d) a ≡ changed (course_carried h) (turned_unless o halt plan d a)
  turned_unless_same (Some halt) d a = refl
  turned_unless_same None d a =
      next_carried (course_carried h) (course_carried h) (turn o d a) (turn p (course_carried h d) a) (λ x. follows o plan x a) (λ x. follows p plan x a)
      (turn_same d a) (λ x. follows_same x a)

  went_unless_same : (halt : Option Halt) (d : Course E) (a : Turn)
      → went_unless p halt plan (course_carried h d) a ≡ changed (course_carried h) (went_unless o halt plan d a)
  went_unless_same (Some halt) d a = refl
  went_unless_same None d a =
      next_carried (course_carried h) (course_carried h) (readied o plan d a) (readied p plan (course_carried h d) a)
      (λ x. turned_unless o x.halt plan x a) (λ x. turned_unless p x.halt plan x a) (readied_same d a) (λ x. turned_unless_same x.halt x a)

  went_same : (d : Course E) (a : Turn) → went p plan (course_carried h d) a ≡ changed (course_carried h) (went o plan d a)
  unfolding went
  went_same d a = went_unless_same d.halt d a

  -- ---- the calls

  pub run_same : (d : Course E) (turns : List Turn) → run p plan (course_carried h d) turns ≡ changed (course_carried h) (run o plan d turns)
  unfolding run
  run_same d turns = acts_carried (course_carried h) (went o plan) (went p plan) went_same d (exactly plan.turns nothing_comes turns)

  pub serves_same : (d : Course E) (address : List ℕ) (listens : Bool) (turns : List Turn)
      → serves p plan (course_carried h d) address listens turns ≡ changed (course_carried h) (serves o plan d address listens turns)
  unfolding serves
  serves_same d address true turns =
      next_carried (course_carried h) (course_carried h) (makes (Listens address true) d) (makes (Listens address true) (course_carried h d))
      (λ x. run o plan x turns) (λ x. run p plan x turns) refl (λ x. run_same x turns)
  serves_same d address false turns = refl

  opens_same : (caller : Caller) (d : Course E) (conn : ℕ) (a : Met) → opens p plan caller (course_carried h d) conn a ≡ changed (course_carried h) (opens o plan caller d conn a)
  opens_same caller d conn a =
      let y = course_carried h d in
      let b = called o plan caller d.loop conn a in
      changed_carried (loop_carried h) (course_carried h) b (called p plan caller y.loop conn a)
      (λ l. record d { loop = l; halt = halt_by plan l.sessions }) (λ l. record y { loop = l; halt = halt_by plan l.sessions })
      (called_same caller d.loop conn a)
      (ap (λ (w : Option Halt). record y { loop = loop_carried h b.state; halt = w }) (halt_by_same h plan b.state.sessions))

  dials_to_same : (to : Option ℕ) (caller : Caller) (d : Course E) (address : List ℕ) (a : Dialled)
      → dials_to p to plan caller (course_carried h d) address a ≡ changed (course_carried h) (dials_to o to plan caller d address a)
  dials_to_same None caller d address a = refl
  dials_to_same (Some conn) caller d address a =
      let call = Dials address (Some conn) in
      let x = asks a.first d in
      next_carried (course_carried h) (course_carried h) (makes call x) (makes call (course_carried h x))
      (λ y. next (opens o plan caller y conn a.met) (λ z. run o plan z a.turns)) (λ y. next (opens p plan caller y conn a.met) (λ z. run p plan z a.turns)) refl
      (λ y. next_carried (course_carried h) (course_carried h) (opens o plan caller y conn a.met) (opens p plan caller (course_carried h y) conn a.met)
      (λ z. run o plan z a.turns) (λ z. run p plan z a.turns) (opens_same caller y conn a.met) (λ z. run_same z a.turns))

  pub dials_same : (caller : Caller) (d : Course E) (address : List ℕ) (a : Dialled)
      → dials p plan caller (course_carried h d) address a ≡ changed (course_carried h) (dials o plan caller d address a)
  unfolding dials
  dials_same caller d address a = dials_to_same a.conn caller d address a
