-- A turn waits until the least of the moments that are left, and before it those are closed whose closing moment has come.
use Rattle.loop_model.specs.Ends.{ModelEnd, model_ends}
use Rattle.std.proofs.Common.{if◌then◌else◌, ◌≡◌, ℕ, ◌<◌, ◌≤◌, min, inl, inr, Bool, true, false, List, [], ◌∷◌, ◌++◌, drop, Option, Some, None, refl, sym, ◌∙◌, ap, subst, append_assoc, append-nil, arith}
use Rattle.std.specs.Prelude.{◌⊎◌}
use Rattle.std.proofs.lemmas.Bool.{cases_Bool, cases_lt}
use Rattle.er_end_model.specs.Steps.{earlier_of_moments as first_moment}
use Rattle.link_trait.specs.Wires.{Call, Turns, Closes}
use Rattle.loop_model.specs.Outs.{Out, next, changed, makes, first_answer_of}
use Rattle.loop_model.specs.Sessions.{Rules, Session}
use Rattle.loop_model.specs.Visits.{is_due, closed, stays, Met, nothing_met, Tick, Expire, visited}
use Rattle.loop_model.specs.Loops.{Plan, visit_at, numbers, swept, Sweeps, before, until, happened, Halt, Course, asks, Turn, readied, turned_unless, went_unless, went}
use Rattle.loop_model.specs.Parts.{Rises}
use Rattle.loop_model.specs.Writings.{expired, unexpired, ExpiredAreClosed, IsNotBefore, NoneIsBefore, IsOneOf, HaveNone, IsLeast, TurnsWait}
use Rattle.loop_model.proofs.Orders.{visit_rises, UpTo, up_to_more}
use Rattle.loop_model.proofs.Ticking.{visit_skip, visit_here, up_to_two}

-- ---- the least of moments

-- the first of two moments
data First (a b o : Option ℕ) : Type 0 where
  Neither : a ≡ None → b ≡ None → o ≡ None → First a b o
  At : (m : ℕ) → o ≡ Some m → IsNotBefore m a → IsNotBefore m b → (a ≡ Some m) ⊎ (b ≡ Some m) → First a b o

firsts : (a b : Option ℕ) → First a b (first_moment a b)
firsts None None = Neither refl refl refl
firsts None (Some y) = At y refl tt (omega arith) (inr refl)
firsts (Some x) None = At x refl (omega arith) tt (inl refl)
firsts (Some x) (Some y) =
    elim (cases_lt x y) [
      | inl p ↦ let e : min x y ≡ x = omega arith in At x (ap Some e) (omega arith) (omega arith) (inl refl)
      | inr p ↦ let e : min x y ≡ y = omega arith in At y (ap Some e) (omega arith) (omega arith) (inr refl)
    ]

lower : (m n : ℕ) (o : Option ℕ) → n ≤ m → IsNotBefore m o → IsNotBefore n o
lower m n None le p = tt
lower m n (Some at) le p = let h : m ≤ at = p in omega arith

all_lower : (m n : ℕ) (ss : List (Session ModelEnd)) → n ≤ m → NoneIsBefore m ss → NoneIsBefore n ss
all_lower m n [] le p = tt
all_lower m n (s ∷ ss) le p = (lower m n (model_ends.deadline s.end) le p.0, lower m n s.closing le p.1, all_lower m n ss le p.2)

none_before : (m : ℕ) (ss : List (Session ModelEnd)) → HaveNone ss → NoneIsBefore m ss
none_before m [] p = tt
none_before m (s ∷ ss) p = (subst (λ z. IsNotBefore m z) (sym p.0) tt, subst (λ z. IsNotBefore m z) (sym p.1) tt, none_before m ss p.2)

-- what one session wants, beside what the others do
beside : (s : Session ModelEnd) (ss : List (Session ModelEnd)) (m n : ℕ) → n ≤ m → IsNotBefore m (model_ends.deadline s.end) → IsNotBefore m s.closing → NoneIsBefore n ss → NoneIsBefore n (s ∷ ss)
beside s ss m n le p q h = (lower m n (model_ends.deadline s.end) le p, lower m n s.closing le q, h)

is_one : (s : Session ModelEnd) (ss : List (Session ModelEnd)) (m : ℕ) → (model_ends.deadline s.end ≡ Some m) ⊎ (s.closing ≡ Some m) → IsOneOf m (s ∷ ss)
is_one s ss m (inl p) = inl p
is_one s ss m (inr p) = inr (inl p)

with_rest : (s : Session ModelEnd) (ss : List (Session ModelEnd)) (m : ℕ) (rest : Option ℕ) → IsNotBefore m (model_ends.deadline s.end) → IsNotBefore m s.closing
    → (model_ends.deadline s.end ≡ Some m) ⊎ (s.closing ≡ Some m) → IsLeast rest ss → IsLeast (first_moment (Some m) rest) (s ∷ ss)
with_rest s ss m None p q one h = (beside s ss m m (omega arith) p q (none_before m ss h), is_one s ss m one)
with_rest s ss m (Some k) p q one h =
    elim (cases_lt m k) [
      | inl lt ↦
          let e : min m k ≡ m = omega arith in
          subst (λ z. IsLeast (Some z) (s ∷ ss)) (sym e) (beside s ss m m (omega arith) p q (all_lower k m ss (omega arith) h.0), is_one s ss m one)
      | inr ge ↦
          let e : min m k ≡ k = omega arith in
          subst (λ z. IsLeast (Some z) (s ∷ ss)) (sym e) (beside s ss m k ge p q h.0, inr (inr h.1))
    ]

without : (s : Session ModelEnd) (ss : List (Session ModelEnd)) (rest : Option ℕ) → model_ends.deadline s.end ≡ None → s.closing ≡ None → IsLeast rest ss → IsLeast rest (s ∷ ss)
without s ss None p q h = (p, q, h)
without s ss (Some k) p q h =
    ((subst (λ z. IsNotBefore k z) (sym p) tt, subst (λ z. IsNotBefore k z) (sym q) tt, h.0), inr (inr h.1))

least_on : (s : Session ModelEnd) (ss : List (Session ModelEnd)) (o rest : Option ℕ) → First (model_ends.deadline s.end) s.closing o → IsLeast rest ss → IsLeast (first_moment o rest) (s ∷ ss)
least_on s ss o rest (Neither p q e) h = subst (λ z. IsLeast (first_moment z rest) (s ∷ ss)) (sym e) (without s ss rest p q h)
least_on s ss o rest (At m e p q one) h = subst (λ z. IsLeast (first_moment z rest) (s ∷ ss)) (sym e) (with_rest s ss m rest p q one h)

least : (ss : List (Session ModelEnd)) → IsLeast (until model_ends ss) ss
unfolding until
least [] = tt
least (s ∷ ss) = least_on s ss (first_moment (model_ends.deadline s.end) s.closing) (until model_ends ss) (firsts (model_ends.deadline s.end) s.closing) (least ss)

-- ---- the turn

record TurnAt (plan : Plan) (d : Course ModelEnd) (a : Turn) (calls : List Call) : Type 0 where
  rest : List Call
  is : calls ≡ Turns (until model_ends d.loop.sessions) a.happening ∷ rest

turned_at : (halt : Option Halt) (plan : Plan) (d : Course ModelEnd) (a : Turn) → halt ≡ None → TurnAt plan d a (turned_unless model_ends halt plan d a).calls
turned_at (Some halt) plan d a p = absurd (let q : ⊥ = cc in q)
turned_at None plan d a p = record { rest = (happened model_ends plan (asks a.second d).loop a.happening a.met).calls; is = refl }

went_at : (halt : Option Halt) (plan : Plan) (c : Course ModelEnd) (a : Turn) → halt ≡ None → (went_unless model_ends halt plan c a).calls ≡ (readied model_ends plan c a).calls ++ (turned_unless model_ends (readied model_ends plan c a).state.halt plan (readied model_ends plan c a).state a).calls
went_at (Some halt) plan c a p = absurd (let q : ⊥ = cc in q)
went_at None plan c a p = refl

pub turns_wait : TurnsWait
unfolding went
turns_wait plan c a live on =
    let d = readied model_ends plan c a in
    let t = turned_at d.state.halt plan d.state a on in
    record {
      until = until model_ends d.state.loop.sessions;
      rest = t.rest;
      is = went_at c.halt plan c a live ∙ ap (λ z. d.calls ++ z) t.is;
      least = least d.state.loop.sessions;
    }

-- ---- closing moments

-- what becomes of the sessions, one after the other
record Swept (m : ℕ) (pre ss : List (Session ModelEnd)) (o : Out (List (Session ModelEnd))) : Type 0 where
  state : o.state ≡ pre ++ unexpired m ss
  entries : o.entries ≡ []
  calls : o.calls ≡ expired m ss

up_to_last : (top : ℕ) (pre : List (Session ModelEnd)) (s : Session ModelEnd) → UpTo top (numbers pre) → top < s.number → UpTo s.number (numbers (pre ++ s ∷ []))
unfolding UpTo
up_to_last top pre s p q = up_to_two s.number pre (s ∷ []) (up_to_more top s.number (numbers pre) (omega arith) p) (omega arith, tt)

expire_gone : (r : Rules) (m : ℕ) (s : Session ModelEnd) (a : Met) → is_due m s.closing ≡ true → visited model_ends r m Expire s a ≡ closed s
unfolding visited
expire_gone r m s a p = ap (λ (b : Bool). if b then closed s else stays s) p

expire_stays : (r : Rules) (m : ℕ) (s : Session ModelEnd) (a : Met) → is_due m s.closing ≡ false → visited model_ends r m Expire s a ≡ stays s
unfolding visited
expire_stays r m s a p = ap (λ (b : Bool). if b then closed s else stays s) p

swept_gone : (m : ℕ) (s : Session ModelEnd) (pre ss : List (Session ModelEnd)) (o : Out (List (Session ModelEnd))) → is_due m s.closing ≡ true → Swept m pre ss o
    → Swept m pre (s ∷ ss) (next (makes (Closes s.number) ss) (λ now. o))
swept_gone m s pre ss o p h = record {
  state = h.state ∙ ap (λ (b : Bool). pre ++ (if b then unexpired m ss else s ∷ unexpired m ss)) (sym p);
  entries = h.entries;
  calls = ap (λ z. Closes s.number ∷ z) h.calls ∙ ap (λ (b : Bool). if b then Closes s.number ∷ expired m ss else expired m ss) (sym p);
}

swept_kept : (m : ℕ) (s : Session ModelEnd) (pre ss : List (Session ModelEnd)) (o : Out (List (Session ModelEnd))) → is_due m s.closing ≡ false → Swept m (pre ++ s ∷ []) ss o → Swept m pre (s ∷ ss) o
swept_kept m s pre ss o p h = record {
  state = h.state ∙ append_assoc pre (s ∷ []) (unexpired m ss) ∙ ap (λ (b : Bool). pre ++ (if b then unexpired m ss else s ∷ unexpired m ss)) (sym p);
  entries = h.entries;
  calls = h.calls ∙ ap (λ (b : Bool). if b then Closes s.number ∷ expired m ss else expired m ss) (sym p);
}

swept_expire : (r : Rules) (m : ℕ) (ss pre : List (Session ModelEnd)) (top : ℕ) (answers : List Met) → UpTo top (numbers pre) → Rises top (numbers ss)
    → Swept m pre ss (swept (visited model_ends r m Expire) (numbers ss) (pre ++ ss) answers)
unfolding swept
swept_expire r m [] pre top answers p q = record { state = refl; entries = refl; calls = refl }
swept_expire r m (s ∷ ss) pre top answers p q =
    let f = visited model_ends r m Expire in
    let a = first_answer_of nothing_met answers in
    let above : top < s.number = q.0 in
    let at : visit_at f s.number (pre ++ s ∷ ss) a ≡ changed (λ now. pre ++ (now ++ ss)) (f s a) =
    visit_skip f top s.number pre (s ∷ ss) a p above ∙ ap (λ z. changed (λ now. pre ++ now) z) (visit_here f s ss a) in
    elim (cases_Bool (is_due m s.closing)) [
      | inl due ↦
          subst (λ (z : Out (List (Session ModelEnd))). Swept m pre (s ∷ ss) (next z (λ now. swept f (numbers ss) now (drop 1 answers))))
          (sym (at ∙ ap (λ (z : Out (List (Session ModelEnd))). changed (λ now. pre ++ (now ++ ss)) z) (expire_gone r m s a due)))
          (swept_gone m s pre ss (swept f (numbers ss) (pre ++ ss) (drop 1 answers)) due
          (swept_expire r m ss pre s.number (drop 1 answers) (up_to_more top s.number (numbers pre) (omega arith) p) q.1))
      | inr kept ↦
          subst (λ (z : Out (List (Session ModelEnd))). Swept m pre (s ∷ ss) (next z (λ now. swept f (numbers ss) now (drop 1 answers))))
          (sym (at ∙ ap (λ (z : Out (List (Session ModelEnd))). changed (λ now. pre ++ (now ++ ss)) z) (expire_stays r m s a kept)))
          (swept_kept m s pre ss (swept f (numbers ss) (pre ++ s ∷ ss) (drop 1 answers)) kept
          (subst (λ z. Swept m (pre ++ s ∷ []) ss (swept f (numbers ss) z (drop 1 answers))) (append_assoc pre (s ∷ []) ss)
          (swept_expire r m ss (pre ++ s ∷ []) s.number (drop 1 answers) (up_to_last top pre s p above) q.1)))
    ]

swept_rises : (r : Rules) (m : ℕ) (ns : List ℕ) (ss : List (Session ModelEnd)) (answers : List Met) → Rises 0 (numbers ss) → Rises 0 (numbers (swept (visited model_ends r m Tick) ns ss answers).state)
unfolding swept
swept_rises r m [] ss answers h = h
swept_rises r m (n ∷ ns) ss answers h =
    swept_rises r m ns (visit_at (visited model_ends r m Tick) n ss (first_answer_of nothing_met answers)).state (drop 1 answers) (visit_rises r m Tick n 0 ss (first_answer_of nothing_met answers) h)

behind_ticks : (r : Rules) (m : ℕ) (ss : List (Session ModelEnd)) (a : Sweeps) → Rises 0 (numbers ss)
    → Swept m [] (swept (visited model_ends r m Tick) (numbers ss) ss a.ticks).state
    (swept (visited model_ends r m Expire) (numbers (swept (visited model_ends r m Tick) (numbers ss) ss a.ticks).state) (swept (visited model_ends r m Tick) (numbers ss) ss a.ticks).state a.closings)
unfolding UpTo
behind_ticks r m ss a h =
    let t = swept (visited model_ends r m Tick) (numbers ss) ss a.ticks in swept_expire r m t.state [] 0 a.closings tt (swept_rises r m (numbers ss) ss a.ticks h)

pub expired_are_closed : ExpiredAreClosed
unfolding before
expired_are_closed = record {
  state = λ r m ss a h. (behind_ticks r m ss a h).state;
  entries = λ r m ss a h.
      let t = swept (visited model_ends r m Tick) (numbers ss) ss a.ticks in
      ap (λ z. t.entries ++ z) (behind_ticks r m ss a h).entries ∙ append-nil t.entries;
  calls = λ r m ss a h.
      let t = swept (visited model_ends r m Tick) (numbers ss) ss a.ticks in
      ap (λ z. t.calls ++ z) (behind_ticks r m ss a h).calls;
}
