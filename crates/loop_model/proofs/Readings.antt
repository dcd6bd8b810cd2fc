-- One read a readable turn, and none elsewhere.
use Rattle.trace_model.specs.Checks.{most_live}
use Rattle.loop_model.specs.Ends.{ModelEnd, model_ends}
use Rattle.std.proofs.Common.{if◌then◌else◌, ◌≡◌, ℕ, inl, inr, Bool, true, false, List, [], ◌∷◌, ◌++◌, length, drop, Option, Some, None, refl, sym, ◌∙◌, ap, subst, append-nil, append_assoc, eqb-true}
use Rattle.std.specs.Prelude.{◌==◌, nat_lt}
use Rattle.std.proofs.lemmas.Bool.{cases_Bool}
use Rattle.er_users.specs.Users.{Mind}
use Rattle.link_trait.specs.Wires.{Call, Reading, Closes}
use Rattle.link_trait.specs.declared.wires.Happening.{Happening}
use Rattle.link_trait.specs.declared.wires.Happening.TheVariants as happening
use Rattle.loop_model.specs.Journals.{JournalEntry}
use Rattle.loop_model.specs.Outs.{Out, first_answer_of}
use Rattle.loop_model.specs.Sessions.{Rules, Session, is_released, made}
use Rattle.loop_model.specs.Visits.{Wrote, rests_behind, Met, nothing_met, Tick, Read, Write, Expire, came, read_once, visited}
use Rattle.loop_model.specs.Loops.{Plan, rules_of, Loop, visit_at, numbers, swept, Sweeps, before, next_user, answered_by, accepted, happened, Halt, Course, asks, Turn, readied, turned_unless, went_unless, went}
use Rattle.loop_model.specs.Parts.{session_of_connection}
use Rattle.loop_model.specs.Laws.{reads_by, reads_of, to_be_read_of, to_be_read, to_be_read_unless, OneReadATurn}
use Rattle.loop_model.proofs.Steadies.{Steady, Quiet, Left, Stays, Closed, quiet_at, left_tick_at, left_write_at, left_expire_at, left_behind_at}
use Rattle.loop_model.proofs.Owns.{Bare, AllGiven, usual_quiet}

pub reads_of-append : (cs ds : List Call) → reads_of (cs ++ ds) ≡ reads_of cs ++ reads_of ds
unfolding reads_of
reads_of-append [] ds = refl
reads_of-append (call ∷ cs) ds = ap (λ z. reads_by call ++ z) (reads_of-append cs ds) ∙ sym (append_assoc (reads_by call) (reads_of cs) (reads_of ds))

NoRead : Session ModelEnd → Session ModelEnd → List JournalEntry → List Call → Type 0
NoRead s t xs cs = reads_of cs ≡ []

steady : (r : Rules) → Steady r (λ g. Unit {0}) NoRead
unfolding NoRead reads_of
steady r = record {
  none = λ s. refl;
  then_ = λ s t u xs ys cs ds p q. reads_of-append cs ds ∙ ap (λ z. z ++ reads_of ds) p ∙ q;
  given = λ m s g allowed fits. refl;
  stalls = λ m s g allowed fits. refl;
  heard = λ s mind. refl;
  parts = λ s told at gone. refl;
}

bare : Bare NoRead
unfolding NoRead reads_of
bare = record { wrote = λ s n whole. refl; put_off = λ s. refl; failed = λ s. refl; breaks = λ s gone. refl; noted = λ s. refl }

all_given : AllGiven (λ g. Unit {0})
all_given = record { usual = record { sends = λ text. tt; leaves = λ sub. tt; takes = tt }; hears = λ octets. tt; ticks = tt; ends = tt; faults = tt }

quiet : (r : Rules) → Quiet r NoRead
quiet r = usual_quiet r (λ g. Unit {0}) NoRead (steady r) all_given bare

left_none : (s : Session ModelEnd) (ts : List (Session ModelEnd)) (xs : List JournalEntry) (cs : List Call) → Left NoRead s ts xs cs → reads_of cs ≡ []
unfolding NoRead reads_of
left_none s ts xs cs (Stays t p q) = q
left_none s ts xs cs (Closed t ds over p e q) = ap reads_of e ∙ reads_of-append ds (Closes t.number ∷ []) ∙ append-nil (reads_of ds) ∙ q

module _ (f : Session ModelEnd → Met → Out (List (Session ModelEnd))) (none : (s : Session ModelEnd) (a : Met) → reads_of (f s a).calls ≡ []) where
  visit_none : (n : ℕ) (ss : List (Session ModelEnd)) (a : Met) → reads_of (visit_at f n ss a).calls ≡ []
  unfolding visit_at reads_of
  visit_none n [] a = refl
  visit_none n (s ∷ ss) a =
      elim (cases_Bool (s.number == n)) [ inl p ↦ rw p (none s a) | inr p ↦ rw p (visit_none n ss a) ]

  swept_none : (ns : List ℕ) (ss : List (Session ModelEnd)) (answers : List Met) → reads_of (swept f ns ss answers).calls ≡ []
  unfolding swept reads_of
  swept_none [] ss answers = refl
  swept_none (n ∷ ns) ss answers =
      let o = visit_at f n ss (first_answer_of nothing_met answers) in
      reads_of-append o.calls (swept f ns o.state (drop 1 answers)).calls
      ∙ ap (λ z. z ++ reads_of (swept f ns o.state (drop 1 answers)).calls) (visit_none n ss (first_answer_of nothing_met answers))
      ∙ swept_none ns o.state (drop 1 answers)

tick_none : (r : Rules) (m : ℕ) (s : Session ModelEnd) (a : Met) → reads_of (visited model_ends r m Tick s a).calls ≡ []
tick_none r m s a = left_none s _ _ _ (left_tick_at r m NoRead (quiet_at r NoRead (quiet r) m) s a)

write_none : (r : Rules) (m : ℕ) (s : Session ModelEnd) (a : Met) → reads_of (visited model_ends r m Write s a).calls ≡ []
write_none r m s a = left_none s _ _ _ (left_write_at r m NoRead (quiet_at r NoRead (quiet r) m) s a)

expire_none : (r : Rules) (m : ℕ) (s : Session ModelEnd) (a : Met) → reads_of (visited model_ends r m Expire s a).calls ≡ []
expire_none r m s a = left_none s _ _ _ (left_expire_at r m NoRead (quiet_at r NoRead (quiet r) m) s a)

before_none : (r : Rules) (m : ℕ) (ss : List (Session ModelEnd)) (a : Sweeps) → reads_of (before model_ends r m ss a).calls ≡ []
unfolding before
before_none r m ss a =
    let t = swept (visited model_ends r m Tick) (numbers ss) ss a.ticks in
    let u = swept (visited model_ends r m Expire) (numbers t.state) t.state a.closings in
    reads_of-append t.calls u.calls
    ∙ ap (λ z. z ++ reads_of u.calls) (swept_none (visited model_ends r m Tick) (tick_none r m) (numbers ss) ss a.ticks)
    ∙ swept_none (visited model_ends r m Expire) (expire_none r m) (numbers t.state) t.state a.closings

behind_none : (r : Rules) (m : ℕ) (reading : Reading) (s : Session ModelEnd) (a : Wrote) → reads_of (rests_behind model_ends reading r m s a).calls ≡ []
unfolding NoRead reads_of
behind_none r m reading s a = left_none s _ _ _ (left_behind_at r m NoRead (quiet_at r NoRead (quiet r) m) reading s s a [] [] refl)

one_read : (r : Rules) (m : ℕ) (s : Session ModelEnd) (a : Met) → reads_of (visited model_ends r m Read s a).calls ≡ (if is_released model_ends s then [] else s.number ∷ [])
unfolding visited read_once reads_of
one_read r m s a =
    elim (cases_Bool (is_released model_ends s)) [
      | inl p ↦ rw p refl
      | inr p ↦ rw p (ap (λ z. s.number ∷ z) (behind_none r m a.reading (came model_ends a.reading r m (made s) a.says).0 a.wrote))
    ]

read_at : (r : Rules) (m n : ℕ) (ss : List (Session ModelEnd)) (a : Met) → reads_of (visit_at (visited model_ends r m Read) n ss a).calls ≡ to_be_read_of n (session_of_connection n ss)
unfolding visit_at session_of_connection reads_of
read_at r m n [] a = refl
read_at r m n (s ∷ ss) a =
    elim (cases_Bool (s.number == n)) [
      | inl p ↦ rw p (subst (λ z. reads_of (visited model_ends r m Read s a).calls ≡ (if is_released model_ends s then [] else z ∷ [])) (eqb-true s.number n p) (one_read r m s a))
      | inr p ↦ rw p (read_at r m n ss a)
    ]

answered_none : (user : Option Mind) (memory : Bool) (plan : Plan) (l : Loop ModelEnd) (conn : ℕ) → reads_of (answered_by model_ends user memory plan l conn).calls ≡ []
unfolding reads_of
answered_none None memory plan l conn = refl
answered_none (Some mind) true plan l conn = refl
answered_none (Some mind) false plan l conn = refl

happened_reads : (plan : Plan) (l : Loop ModelEnd) (what : Happening) (a : Met) → reads_of (happened model_ends plan l what a).calls ≡ to_be_read what l.sessions
unfolding happened accepted reads_of
happened_reads plan l (happening.Accepted conn) a =
    elim (cases_Bool (nat_lt (length l.sessions) most_live)) [
      | inl p ↦ rw p (answered_none (next_user l.users) a.memory plan l conn.0)
      | inr p ↦ rw p refl
    ]
happened_reads plan l (happening.Readable conn) a = read_at (rules_of plan) l.moment conn.0 l.sessions a
happened_reads plan l (happening.Writable conn) a = visit_none (visited model_ends (rules_of plan) l.moment Write) (write_none (rules_of plan) l.moment) conn.0 l.sessions a
happened_reads plan l happening.Quiet a = refl
happened_reads plan l happening.Ended a = refl
happened_reads plan l happening.Failed a = refl

turned_reads : (halt : Option Halt) (plan : Plan) (d : Course ModelEnd) (a : Turn)
    → reads_of (turned_unless model_ends halt plan d a).calls ≡ to_be_read_unless halt a.happening d.loop.sessions
unfolding reads_of
turned_reads (Some halt) plan d a = refl
turned_reads None plan d a = happened_reads plan (asks a.second d).loop a.happening a.met

readied_none : (plan : Plan) (c : Course ModelEnd) (a : Turn) → reads_of (readied model_ends plan c a).calls ≡ []
unfolding readied
readied_none plan c a = let d = asks a.first c in before_none (rules_of plan) d.loop.moment d.loop.sessions a.sweeps

went_reads : (halt : Option Halt) (plan : Plan) (c : Course ModelEnd) (a : Turn) → halt ≡ None
    → reads_of (went_unless model_ends halt plan c a).calls ≡ to_be_read_unless (readied model_ends plan c a).state.halt a.happening (readied model_ends plan c a).state.loop.sessions
went_reads (Some halt) plan c a p = absurd (let q : ⊥ = cc in q)
went_reads None plan c a p =
    let d = readied model_ends plan c a in
    let t = turned_unless model_ends d.state.halt plan d.state a in
    reads_of-append d.calls t.calls ∙ ap (λ z. z ++ reads_of t.calls) (readied_none plan c a) ∙ turned_reads d.state.halt plan d.state a

pub one_read_a_turn : OneReadATurn
unfolding went
one_read_a_turn plan c a live = went_reads c.halt plan c a live
