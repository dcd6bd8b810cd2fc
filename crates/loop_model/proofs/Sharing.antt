-- What is one connection's of the visits of a loop is what it is in a loop that has the session of that connection alone.
use Rattle.loop_model.specs.Ends.{ModelEnd, model_ends}
use Rattle.std.proofs.Common.{if◌then◌else◌, ◌≡◌, ℕ, ◌<◌, ◌≤◌, inl, inr, Bool, true, false, List, [], ◌∷◌, ◌++◌, drop, Some, refl, sym, ◌∙◌, ap, ap₂, subst, append_assoc, arith, eqb-true, ne_eqb}
use Rattle.std.specs.Prelude.{◌==◌}
use Rattle.std.proofs.lemmas.Bool.{cases_Bool}
use Rattle.link_trait.specs.Wires.{Call, Closes}
use Rattle.loop_model.specs.Journals.{JournalEntry}
use Rattle.loop_model.specs.Deeds.{LoopDeed, Printing, Calling, entries_in, calls_in}
use Rattle.loop_model.specs.Outs.{Out, HasOrder, still, next, changed, first_answer_of}
use Rattle.loop_model.specs.Sessions.{Rules, Session}
use Rattle.loop_model.specs.Visits.{closed, stays, is_due, Met, nothing_met, Visit, Tick, Expire, visited}
use Rattle.loop_model.specs.Loops.{visit_at, numbers, swept, Sweeps, before}
use Rattle.loop_model.specs.Parts.{session_of_connection, of, is_at, calls_at, Rises}
use Rattle.loop_model.specs.Orderly.{order_visited}
use Rattle.loop_model.specs.Alone.{own_ticks, is_deed_on, deeds_on}
use Rattle.loop_model.proofs.Projections.{calls_at-append}
use Rattle.loop_model.proofs.Steadies.{Left, Stays, Closed, left_visited}
use Rattle.loop_model.proofs.Lives.{Own}
use Rattle.loop_model.proofs.Orders.{own_calls, visit_rises, UpTo, up_to_more}
use Rattle.loop_model.proofs.Ticking.{visit_skip, visit_here, up_to_two, left_up_to}

-- ---- tests

pub if_so : {A : Type 0} (b : Bool) (x y : A) → b ≡ true → (if b then x else y) ≡ x
if_so b x y p = ap (λ (z : Bool). if z then x else y) p

pub if_not : {A : Type 0} (b : Bool) (x y : A) → b ≡ false → (if b then x else y) ≡ y
if_not b x y p = ap (λ (z : Bool). if z then x else y) p

-- ---- deeds of a connection

pub deeds_on-append : (n : ℕ) (ds es : List LoopDeed) → deeds_on n (ds ++ es) ≡ deeds_on n ds ++ deeds_on n es
unfolding deeds_on
deeds_on-append n [] es = refl
deeds_on-append n (d ∷ ds) es =
    elim (cases_Bool (is_deed_on n d)) [
      | inl p ↦ rw p (ap (λ z. d ∷ z) (deeds_on-append n ds es))
      | inr p ↦ rw p (deeds_on-append n ds es)
    ]

-- two parts, one behind the other, each with the same deeds
pub deeds_on_two : (n : ℕ) (ds es fs gs : List LoopDeed) → deeds_on n ds ≡ deeds_on n fs → deeds_on n es ≡ deeds_on n gs → deeds_on n (ds ++ es) ≡ deeds_on n (fs ++ gs)
deeds_on_two n ds es fs gs p q = deeds_on-append n ds es ∙ ap₂ (λ (y z : List LoopDeed). y ++ z) p q ∙ sym (deeds_on-append n fs gs)

pub entries_of_deeds : (n : ℕ) (ds : List LoopDeed) → entries_in (deeds_on n ds) ≡ of n (entries_in ds)
unfolding deeds_on entries_in of
entries_of_deeds n [] = refl
entries_of_deeds n (Printing x ∷ ds) =
    elim (cases_Bool (x.conn == n)) [ inl p ↦ rw p (ap (λ z. x ∷ z) (entries_of_deeds n ds)) | inr p ↦ rw p (entries_of_deeds n ds) ]
entries_of_deeds n (Calling call ∷ ds) = elim (cases_Bool (is_at n call)) [ inl p ↦ rw p (entries_of_deeds n ds) | inr p ↦ rw p (entries_of_deeds n ds) ]

pub calls_of_deeds : (n : ℕ) (ds : List LoopDeed) → calls_in (deeds_on n ds) ≡ calls_at n (calls_in ds)
unfolding deeds_on calls_in calls_at
calls_of_deeds n [] = refl
calls_of_deeds n (Printing x ∷ ds) = elim (cases_Bool (x.conn == n)) [ inl p ↦ rw p (calls_of_deeds n ds) | inr p ↦ rw p (calls_of_deeds n ds) ]
calls_of_deeds n (Calling call ∷ ds) =
    elim (cases_Bool (is_at n call)) [ inl p ↦ rw p (ap (λ z. call ∷ z) (calls_of_deeds n ds)) | inr p ↦ rw p (calls_of_deeds n ds) ]

no_entry : (x : JournalEntry) (xs : List JournalEntry) → x ∷ xs ≡ [] → ⊥
no_entry x xs e = cc

no_call : (call : Call) (calls : List Call) → call ∷ calls ≡ [] → ⊥
no_call call calls e = cc

-- where no event is printed and no call is made, nothing is done
pub silent_deeds : (n : ℕ) (ds : List LoopDeed) → of n (entries_in ds) ≡ [] → calls_at n (calls_in ds) ≡ [] → deeds_on n ds ≡ []
unfolding deeds_on entries_in calls_in of calls_at
silent_deeds n [] p q = refl
silent_deeds n (Printing x ∷ ds) p q =
    elim (cases_Bool (x.conn == n)) [
      | inl e ↦ absurd (no_entry x (of n (entries_in ds)) (rw e at p))
      | inr e ↦ rw e (silent_deeds n ds (rw e at p) q)
    ]
silent_deeds n (Calling call ∷ ds) p q =
    elim (cases_Bool (is_at n call)) [
      | inl e ↦ absurd (no_call call (calls_at n (calls_in ds)) (rw e at q))
      | inr e ↦ rw e (silent_deeds n ds p (rw e at q))
    ]

-- ---- the sessions of one number

unfoldable pub only : ℕ → List (Session ModelEnd) → List (Session ModelEnd)
only n [] = []
only n (s ∷ ss) = if s.number == n then s ∷ only n ss else only n ss

pub only_here : (n : ℕ) (s : Session ModelEnd) (ss : List (Session ModelEnd)) → (s.number == n) ≡ true → only n (s ∷ ss) ≡ s ∷ only n ss
unfolding only
only_here n s ss p = if_so (s.number == n) (s ∷ only n ss) (only n ss) p

pub only_skip : (n : ℕ) (s : Session ModelEnd) (ss : List (Session ModelEnd)) → (s.number == n) ≡ false → only n (s ∷ ss) ≡ only n ss
unfolding only
only_skip n s ss p = if_not (s.number == n) (s ∷ only n ss) (only n ss) p

pub only_none : (n : ℕ) → only n [] ≡ []
unfolding only
only_none n = refl

pub only-append : (n : ℕ) (ss ts : List (Session ModelEnd)) → only n (ss ++ ts) ≡ only n ss ++ only n ts
unfolding only
only-append n [] ts = refl
only-append n (s ∷ ss) ts =
    elim (cases_Bool (s.number == n)) [
      | inl p ↦ rw p (ap (λ z. s ∷ z) (only-append n ss ts))
      | inr p ↦ rw p (only-append n ss ts)
    ]

pub session_of_only : (n : ℕ) (ss : List (Session ModelEnd)) → session_of_connection n (only n ss) ≡ session_of_connection n ss
unfolding session_of_connection only
session_of_only n [] = refl
session_of_only n (s ∷ ss) =
    elim (cases_Bool (s.number == n)) [
      | inl p ↦
          ap (λ z. session_of_connection n z) (only_here n s ss p) ∙ if_so (s.number == n) (Some s) (session_of_connection n (only n ss)) p
          ∙ sym (if_so (s.number == n) (Some s) (session_of_connection n ss) p)
      | inr p ↦
          ap (λ z. session_of_connection n z) (only_skip n s ss p) ∙ session_of_only n ss
          ∙ sym (if_not (s.number == n) (Some s) (session_of_connection n ss) p)
    ]

rises_down : (a b : ℕ) (ns : List ℕ) → a ≤ b → Rises b ns → Rises a ns
rises_down a b [] p q = tt
rises_down a b (n ∷ ns) p q = (let h : b < n = q.0 in omega arith, q.1)

pub rises_only : (n from : ℕ) (ss : List (Session ModelEnd)) → Rises from (numbers ss) → Rises from (numbers (only n ss))
unfolding only
rises_only n from [] h = tt
rises_only n from (s ∷ ss) h =
    elim (cases_Bool (s.number == n)) [
      | inl p ↦ rw p (h.0, rises_only n s.number ss h.1)
      | inr p ↦ rw p (rises_down from s.number (numbers (only n ss)) (let x : from < s.number = h.0 in omega arith) (rises_only n s.number ss h.1))
    ]

-- none has a number above all
pub only_above : (n top : ℕ) (ss : List (Session ModelEnd)) → UpTo top (numbers ss) → top < n → only n ss ≡ []
unfolding only UpTo
only_above n top [] p lt = refl
only_above n top (s ∷ ss) p lt =
    let le : s.number ≤ top = p.0 in
    only_skip n s ss (ne_eqb s.number n (λ e. let x : ⊥ = omega arith in x)) ∙ only_above n top ss p.1 lt

-- ---- what comes of a visit

-- of another connection nothing is done, and no session of it is left
pub record Silent (n : ℕ) (o : Out (List (Session ModelEnd))) : Type 0 where
  pub order : deeds_on n o.order ≡ []
  pub state : only n o.state ≡ []

close_elsewhere : (n : ℕ) (s t : Session ModelEnd) (ds : List Call) → (s.number == n) ≡ false → t.number ≡ s.number → calls_at n ds ≡ (if s.number == n then ds else [])
    → calls_at n (ds ++ Closes t.number ∷ []) ≡ []
unfolding calls_at
close_elsewhere n s t ds ne same own =
    calls_at-append n ds (Closes t.number ∷ [])
    ∙ ap (λ z. z ++ calls_at n (Closes t.number ∷ [])) (own ∙ if_not (s.number == n) ds [] ne)
    ∙ if_not (t.number == n) (Closes t.number ∷ []) [] (subst (λ z. (z == n) ≡ false) (sym same) ne)

left_silent : (n : ℕ) (s : Session ModelEnd) (o : Out (List (Session ModelEnd))) → Left Own s o.state o.entries o.calls → (s.number == n) ≡ false → HasOrder o → Silent n o
left_silent n s o (Stays t p q) ne h = record {
  order =
      silent_deeds n o.order (ap (λ z. of n z) h.entries ∙ q.entries n ∙ if_not (s.number == n) o.entries [] ne)
      (ap (λ z. calls_at n z) h.calls ∙ q.calls n ∙ if_not (s.number == n) o.calls [] ne);
  state = ap (λ z. only n z) p ∙ only_skip n t [] (subst (λ z. (z == n) ≡ false) (sym q.number) ne) ∙ only_none n;
}
left_silent n s o (Closed t ds over p e q) ne h = record {
  order =
      silent_deeds n o.order (ap (λ z. of n z) h.entries ∙ q.entries n ∙ if_not (s.number == n) o.entries [] ne)
      (ap (λ z. calls_at n z) h.calls ∙ ap (λ z. calls_at n z) e ∙ close_elsewhere n s t ds ne q.number (q.calls n));
  state = ap (λ z. only n z) p ∙ only_none n;
}

pub left_own : (n : ℕ) (s : Session ModelEnd) (ts : List (Session ModelEnd)) (xs : List JournalEntry) (cs : List Call) → Left Own s ts xs cs → (s.number == n) ≡ true → only n ts ≡ ts
left_own n s ts xs cs (Stays t p q) is =
    subst (λ z. only n z ≡ z) (sym p) (only_here n t [] (subst (λ z. (z == n) ≡ true) (sym q.number) is) ∙ ap (λ z. t ∷ z) (only_none n))
left_own n s ts xs cs (Closed t ds over p e q) is = subst (λ z. only n z ≡ z) (sym p) (only_none n)

-- what one connection's loop does of it
pub record Beside (n : ℕ) (o p : Out (List (Session ModelEnd))) : Type 0 where
  pub order : deeds_on n o.order ≡ deeds_on n p.order
  pub state : p.state ≡ only n o.state

-- and where nothing is done of it
pub record Unseen (n : ℕ) (ss : List (Session ModelEnd)) (o : Out (List (Session ModelEnd))) : Type 0 where
  pub order : deeds_on n o.order ≡ []
  pub state : only n o.state ≡ only n ss

abbrev both : Out (List (Session ModelEnd)) → Out (List (Session ModelEnd)) → Out (List (Session ModelEnd))
both o rest = record { state = o.state ++ rest.state; entries = o.entries ++ rest.entries; calls = o.calls ++ rest.calls; order = o.order ++ rest.order }

here_beside : (n : ℕ) (o rest q : Out (List (Session ModelEnd))) → only n o.state ≡ o.state → Beside n rest q → Beside n (both o rest) (both o q)
here_beside n o rest q own h = record {
  order = deeds_on_two n o.order rest.order o.order q.order refl h.order;
  state = ap (λ z. o.state ++ z) h.state ∙ sym (only-append n o.state rest.state ∙ ap (λ z. z ++ only n rest.state) own);
}

skip_beside : (n : ℕ) (o rest q : Out (List (Session ModelEnd))) → Silent n o → Beside n rest q → Beside n (both o rest) q
skip_beside n o rest q silent h = record {
  order = deeds_on-append n o.order rest.order ∙ ap (λ z. z ++ deeds_on n rest.order) silent.order ∙ h.order;
  state = h.state ∙ sym (only-append n o.state rest.state ∙ ap (λ z. z ++ only n rest.state) silent.state);
}

module _ (r : Rules) (m : ℕ) (visit : Visit) where
  abbrev f : Session ModelEnd → Met → Out (List (Session ModelEnd))
  f = visited model_ends r m visit

  own_of : (s : Session ModelEnd) (a : Met) → Left Own s (f s a).state (f s a).entries (f s a).calls
  own_of s a = left_visited r Own (own_calls r) visit m s a

  visit_silent : (n : ℕ) (s : Session ModelEnd) (a : Met) → (s.number == n) ≡ false → Silent n (f s a)
  visit_silent n s a ne = left_silent n s (f s a) (own_of s a) ne (order_visited model_ends r m visit s a)

  visit_owned : (n : ℕ) (s : Session ModelEnd) (a : Met) → (s.number == n) ≡ true → only n (f s a).state ≡ (f s a).state
  visit_owned n s a is = left_own n s (f s a).state (f s a).entries (f s a).calls (own_of s a) is

  -- ---- a visit of a number

  -- of another
  pub visit_elsewhere : (n k : ℕ) (ss : List (Session ModelEnd)) (a : Met) → (k == n) ≡ false → Unseen n ss (visit_at f k ss a)
  unfolding visit_at deeds_on
  visit_elsewhere n k [] a ne = record { order = refl; state = refl }
  visit_elsewhere n k (s ∷ ss) a ne =
      elim (cases_Bool (s.number == k)) [
        | inl p ↦ rw p (here_unseen s ss (f s a) (subst (λ z. (z == n) ≡ false) (sym (eqb-true s.number k p)) ne) (visit_silent n s a (subst (λ z. (z == n) ≡ false) (sym (eqb-true s.number k p)) ne)))
        | inr p ↦ rw p (there_unseen s ss (visit_at f k ss a) (visit_elsewhere n k ss a ne))
      ]
    where
      here_unseen : (s : Session ModelEnd) (ss : List (Session ModelEnd)) (o : Out (List (Session ModelEnd))) → (s.number == n) ≡ false → Silent n o
          → Unseen n (s ∷ ss) (changed (λ now. now ++ ss) o)
      here_unseen s ss o other silent = record {
        order = silent.order;
        state = only-append n o.state ss ∙ ap (λ z. z ++ only n ss) silent.state ∙ sym (only_skip n s ss other);
      }

      there_unseen : (s : Session ModelEnd) (ss : List (Session ModelEnd)) (o : Out (List (Session ModelEnd))) → Unseen n ss o
          → Unseen n (s ∷ ss) (changed (λ now. s ∷ now) o)
      there_unseen s ss o h = record {
        order = h.order;
        state = only-append n (s ∷ []) o.state ∙ ap (λ z. only n (s ∷ []) ++ z) h.state ∙ sym (only-append n (s ∷ []) ss);
      }

  -- of its own
  pub visit_alone : (n : ℕ) (ss : List (Session ModelEnd)) (a : Met) → Beside n (visit_at f n ss a) (visit_at f n (only n ss) a)
  unfolding visit_at only
  visit_alone n [] a = record { order = refl; state = refl }
  visit_alone n (s ∷ ss) a =
      elim (cases_Bool (s.number == n)) [
        | inl p ↦
            let here : visit_at f n (s ∷ ss) a ≡ changed (λ now. now ++ ss) (f s a) = if_so (s.number == n) (changed (λ now. now ++ ss) (f s a)) (changed (λ now. s ∷ now) (visit_at f n ss a)) p in
            let there : visit_at f n (only n (s ∷ ss)) a ≡ changed (λ now. now ++ only n ss) (f s a) =
            ap (λ z. visit_at f n z a) (only_here n s ss p)
            ∙ if_so (s.number == n) (changed (λ now. now ++ only n ss) (f s a)) (changed (λ now. s ∷ now) (visit_at f n (only n ss) a)) p in
            record {
              order = ap (λ (z : Out (List (Session ModelEnd))). deeds_on n z.order) here ∙ sym (ap (λ (z : Out (List (Session ModelEnd))). deeds_on n z.order) there);
              state =
                  ap (λ (z : Out (List (Session ModelEnd))). z.state) there
                  ∙ sym (ap (λ (z : Out (List (Session ModelEnd))). only n z.state) here ∙ only-append n (f s a).state ss ∙ ap (λ z. z ++ only n ss) (visit_owned n s a p));
            }
        | inr p ↦
            let here : visit_at f n (s ∷ ss) a ≡ changed (λ now. s ∷ now) (visit_at f n ss a) = if_not (s.number == n) (changed (λ now. now ++ ss) (f s a)) (changed (λ now. s ∷ now) (visit_at f n ss a)) p in
            let there : visit_at f n (only n (s ∷ ss)) a ≡ visit_at f n (only n ss) a = ap (λ z. visit_at f n z a) (only_skip n s ss p) in
            let h = visit_alone n ss a in
            record {
              order = ap (λ (z : Out (List (Session ModelEnd))). deeds_on n z.order) here ∙ h.order ∙ sym (ap (λ (z : Out (List (Session ModelEnd))). deeds_on n z.order) there);
              state =
                  ap (λ (z : Out (List (Session ModelEnd))). z.state) there ∙ h.state
                  ∙ sym (ap (λ (z : Out (List (Session ModelEnd))). only n z.state) here ∙ only_skip n s (visit_at f n ss a).state p);
            }
      ]

  -- ---- visits one after the other

  unfoldable all_visited : List (Session ModelEnd) → List Met → Out (List (Session ModelEnd))
  all_visited [] answers = still []
  all_visited (s ∷ ss) answers = both (f s (first_answer_of nothing_met answers)) (all_visited ss (drop 1 answers))

  swept_is : (ss pre : List (Session ModelEnd)) (top : ℕ) (answers : List Met) → UpTo top (numbers pre) → Rises top (numbers ss)
      → swept f (numbers ss) (pre ++ ss) answers ≡ changed (λ now. pre ++ now) (all_visited ss answers)
  unfolding swept all_visited
  swept_is [] pre top answers p q = refl
  swept_is (s ∷ ss) pre top answers p q =
      let a = first_answer_of nothing_met answers in
      let o = f s a in
      let t = all_visited ss (drop 1 answers) in
      let above : top < s.number = q.0 in
      let at : visit_at f s.number (pre ++ s ∷ ss) a ≡ changed (λ now. pre ++ (now ++ ss)) o =
      visit_skip f top s.number pre (s ∷ ss) a p above ∙ ap (λ z. changed (λ now. pre ++ now) z) (visit_here f s ss a) in
      let up : UpTo s.number (numbers (pre ++ o.state)) =
      up_to_two s.number pre o.state (up_to_more top s.number (numbers pre) (omega arith) p) (left_up_to s o.state o.entries o.calls (own_of s a)) in
      let rest : swept f (numbers ss) (pre ++ (o.state ++ ss)) (drop 1 answers) ≡ changed (λ now. (pre ++ o.state) ++ now) t =
      subst (λ z. swept f (numbers ss) z (drop 1 answers) ≡ changed (λ now. (pre ++ o.state) ++ now) t) (append_assoc pre o.state ss)
      (swept_is ss (pre ++ o.state) s.number (drop 1 answers) up q.1) in
      ap (λ (z : Out (List (Session ModelEnd))). next z (λ now. swept f (numbers ss) now (drop 1 answers))) at
      ∙ ap (λ (z : Out (List (Session ModelEnd))). record { state = z.state; entries = o.entries ++ z.entries; calls = o.calls ++ z.calls; order = o.order ++ z.order }) rest
      ∙ ap (λ (z : List (Session ModelEnd)). record { state = z; entries = o.entries ++ t.entries; calls = o.calls ++ t.calls; order = o.order ++ t.order }) (append_assoc pre o.state t.state)

  all_here : (n : ℕ) (s : Session ModelEnd) (ss : List (Session ModelEnd)) (answers : List Met) → (s.number == n) ≡ true
      → all_visited (only n (s ∷ ss)) (own_ticks n answers (numbers (s ∷ ss)))
      ≡ both (f s (first_answer_of nothing_met answers)) (all_visited (only n ss) (own_ticks n (drop 1 answers) (numbers ss)))
  unfolding all_visited own_ticks
  all_here n s ss [] p = ap (λ z. all_visited z []) (only_here n s ss p)
  all_here n s ss (a ∷ answers) p =
      ap (λ z. all_visited z (own_ticks n (a ∷ answers) (numbers (s ∷ ss)))) (only_here n s ss p)
      ∙ ap (λ z. all_visited (s ∷ only n ss) z) (if_so (s.number == n) (a ∷ own_ticks n answers (numbers ss)) (own_ticks n answers (numbers ss)) p)

  all_skip : (n : ℕ) (s : Session ModelEnd) (ss : List (Session ModelEnd)) (answers : List Met) → (s.number == n) ≡ false
      → all_visited (only n (s ∷ ss)) (own_ticks n answers (numbers (s ∷ ss))) ≡ all_visited (only n ss) (own_ticks n (drop 1 answers) (numbers ss))
  unfolding own_ticks
  all_skip n s ss [] p = ap (λ z. all_visited z []) (only_skip n s ss p)
  all_skip n s ss (a ∷ answers) p =
      ap (λ z. all_visited z (own_ticks n (a ∷ answers) (numbers (s ∷ ss)))) (only_skip n s ss p)
      ∙ ap (λ z. all_visited (only n ss) z) (if_not (s.number == n) (a ∷ own_ticks n answers (numbers ss)) (own_ticks n answers (numbers ss)) p)

  all_beside : (n : ℕ) (ss : List (Session ModelEnd)) (answers : List Met) → Beside n (all_visited ss answers) (all_visited (only n ss) (own_ticks n answers (numbers ss)))
  unfolding all_visited only
  all_beside n [] answers = record { order = refl; state = refl }
  all_beside n (s ∷ ss) answers =
      let a = first_answer_of nothing_met answers in
      let rest = all_visited ss (drop 1 answers) in
      let q = all_visited (only n ss) (own_ticks n (drop 1 answers) (numbers ss)) in
      elim (cases_Bool (s.number == n)) [
        | inl p ↦ subst (λ z. Beside n (both (f s a) rest) z) (sym (all_here n s ss answers p)) (here_beside n (f s a) rest q (visit_owned n s a p) (all_beside n ss (drop 1 answers)))
        | inr p ↦ subst (λ z. Beside n (both (f s a) rest) z) (sym (all_skip n s ss answers p)) (skip_beside n (f s a) rest q (visit_silent n s a p) (all_beside n ss (drop 1 answers)))
      ]

  -- of the sessions of all numbers, where these rise
  swept_so : (ss : List (Session ModelEnd)) (answers : List Met) → Rises 0 (numbers ss) → swept f (numbers ss) ss answers ≡ changed (λ now. [] ++ now) (all_visited ss answers)
  unfolding UpTo
  swept_so ss answers rises = swept_is ss [] 0 answers tt rises

  -- where what the visits of its own meet is so
  swept_by : (n : ℕ) (ss : List (Session ModelEnd)) (answers others : List Met) → Rises 0 (numbers ss)
      → all_visited (only n ss) (own_ticks n answers (numbers ss)) ≡ all_visited (only n ss) others
      → Beside n (swept f (numbers ss) ss answers) (swept f (numbers (only n ss)) (only n ss) others)
  swept_by n ss answers others rises same =
      let here = swept_so ss answers rises in
      let there = swept_so (only n ss) others (rises_only n 0 ss rises) in
      let h = all_beside n ss answers in
      record {
        order =
            ap (λ (z : Out (List (Session ModelEnd))). deeds_on n z.order) here ∙ h.order ∙ ap (λ (z : Out (List (Session ModelEnd))). deeds_on n z.order) same
            ∙ sym (ap (λ (z : Out (List (Session ModelEnd))). deeds_on n z.order) there);
        state =
            ap (λ (z : Out (List (Session ModelEnd))). z.state) there ∙ sym (ap (λ (z : Out (List (Session ModelEnd))). z.state) same) ∙ h.state
            ∙ sym (ap (λ (z : Out (List (Session ModelEnd))). only n z.state) here);
      }

  pub swept_beside : (n : ℕ) (ss : List (Session ModelEnd)) (answers : List Met) → Rises 0 (numbers ss)
      → Beside n (swept f (numbers ss) ss answers) (swept f (numbers (only n ss)) (only n ss) (own_ticks n answers (numbers ss)))
  swept_beside n ss answers rises = swept_by n ss answers (own_ticks n answers (numbers ss)) rises refl

  pub swept_rises : (ns : List ℕ) (ss : List (Session ModelEnd)) (answers : List Met) → Rises 0 (numbers ss) → Rises 0 (numbers (swept f ns ss answers).state)
  unfolding swept
  swept_rises [] ss answers h = h
  swept_rises (n ∷ ns) ss answers h =
      swept_rises ns (visit_at f n ss (first_answer_of nothing_met answers)).state (drop 1 answers) (visit_rises r m visit n 0 ss (first_answer_of nothing_met answers) h)

-- ---- before a turn

-- a closing moment meets nothing
expire_any : (r : Rules) (m : ℕ) (ss : List (Session ModelEnd)) (answers others : List Met) → all_visited r m Expire ss answers ≡ all_visited r m Expire ss others
unfolding all_visited visited
expire_any r m [] answers others = refl
expire_any r m (s ∷ ss) answers others =
    ap (λ (z : Out (List (Session ModelEnd))). both (if is_due m s.closing then closed s else stays s) z) (expire_any r m ss (drop 1 answers) (drop 1 others))

pub before_beside : (r : Rules) (m n : ℕ) (ss : List (Session ModelEnd)) (a : Sweeps) → Rises 0 (numbers ss)
    → Beside n (before model_ends r m ss a) (before model_ends r m (only n ss) (record { ticks = own_ticks n a.ticks (numbers ss); closings = [] }))
unfolding before
before_beside r m n ss a rises =
    let t = swept (visited model_ends r m Tick) (numbers ss) ss a.ticks in
    let k = swept (visited model_ends r m Tick) (numbers (only n ss)) (only n ss) (own_ticks n a.ticks (numbers ss)) in
    let ticked = swept_beside r m Tick n ss a.ticks rises in
    let u = swept (visited model_ends r m Expire) (numbers t.state) t.state a.closings in
    let v = swept (visited model_ends r m Expire) (numbers k.state) k.state [] in
    let expired : Beside n u v =
    subst (λ z. Beside n u (swept (visited model_ends r m Expire) (numbers z) z [])) (sym ticked.state)
    (swept_by r m Expire n t.state a.closings [] (swept_rises r m Tick (numbers ss) ss a.ticks rises) (expire_any r m (only n t.state) (own_ticks n a.closings (numbers t.state)) [])) in
    record { order = deeds_on_two n t.order u.order k.order v.order ticked.order expired.order; state = expired.state }
