-- What is one connection's of a run: a relation between a session, its events and its calls so far, that each visit keeps, holds of each
-- live session throughout, and what it comes to at a close holds of each connection that is no longer live.
use Rattle.trace_model.specs.Checks.{most_live}
use Rattle.loop_model.specs.Ends.{ModelEnd, model_ends}
use Rattle.std.proofs.Common.{if◌then◌else◌, ◌≡◌, ℕ, ◌<◌, ◌≤◌, inl, inr, true, false, List, [], ◌∷◌, ◌++◌, Option, Some, None, refl, sym, ◌∙◌, ap, subst, append-nil, append_assoc, arith, eqb-true, eq-eqb, ne_eqb}
use Rattle.std.specs.Prelude.{◌==◌}
use Rattle.std.proofs.lemmas.Bool.{cases_Bool, eqb-false}
use Rattle.er_trace.specs.declared.event.Event.{Event}
use Rattle.er_trace.specs.declared.event.Event.TheVariants as event
use Rattle.er_users.specs.Users.{Mind}
use Rattle.rand_core.specs.Stream.{next_u64}
use Rattle.link_trait.specs.Wires.{Call, Turns, Closes}
use Rattle.link_trait.specs.declared.wires.Conn.{Conn}
use Rattle.link_trait.specs.declared.wires.Happening.{Happening}
use Rattle.link_trait.specs.declared.wires.Happening.TheVariants as happening
use Rattle.loop_model.specs.Journals.{JournalEntry}
use Rattle.loop_model.specs.Sessions.{Session}
use Rattle.loop_model.specs.Visits.{Met, Visit, visited}
use Rattle.loop_model.specs.Loops.{Plan, rules_of, Loop, visit_at, until, begun, answering, Course, Turn, run}
use Rattle.loop_model.specs.Parts.{session_of_connection, of, calls_at, opened_by, opened_in, Rises, newest}
use Rattle.loop_model.proofs.Projections.{split_if, of-append, calls_at-append, opened_in-append, rises_first, rises_rest, newest-append}
use Rattle.loop_model.proofs.Loopwise.{Loopwise, wise_run}
use Rattle.loop_model.proofs.Steadies.{is_over, Left, Stays, Closed, AllLeft}

pub same : (n : ℕ) → (n == n) ≡ true
same n = eq-eqb n n refl

other_way : (m n : ℕ) → (m == n) ≡ false → (n == m) ≡ false
other_way m n p = ne_eqb n m (λ e. eqb-false m n p (sym e))

unfoldable pub Apart : List (Session ModelEnd) → Type 0
Apart [] = Unit {0}
Apart (s ∷ ss) = (session_of_connection s.number ss ≡ None) × Apart ss

-- what comes of a visit is the session's own
pub record Own (s t : Session ModelEnd) (xs : List JournalEntry) (cs : List Call) : Type 0 where
  pub number : t.number ≡ s.number
  pub entries : (conn : ℕ) → of conn xs ≡ (if s.number == conn then xs else [])
  pub calls : (conn : ℕ) → calls_at conn cs ≡ (if s.number == conn then cs else [])
  pub opens : opened_in cs ≡ []

-- a relation that each visit keeps, and what it comes to
pub record Keeps (plan : Plan) (Q : Session ModelEnd → Session ModelEnd → List JournalEntry → List Call → Type 0) (K : Session ModelEnd → List JournalEntry → List Call → Type 0) (E : List JournalEntry → List Call → Type 0) : Type 0 where
  pub visit : (s t : Session ModelEnd) (xs ys : List JournalEntry) (cs ds : List Call) → K s xs cs → Q s t ys ds → K t (xs ++ ys) (cs ++ ds)
  pub close : (s t : Session ModelEnd) (xs ys : List JournalEntry) (cs ds : List Call) → is_over t ≡ true → K s xs cs → Q s t ys ds → E (xs ++ ys) (cs ++ (ds ++ Closes t.number ∷ []))
  pub open_ : (l : Loop ModelEnd) (conn : ℕ) (mind : Mind)
      → K (begun conn (answering model_ends plan l) mind) (record { moment = l.moment; conn = conn; event = event.Answer plan.rbc (next_u64 l.words).0; outcomes = [] } ∷ []) []
  pub never : E [] []
  pub full : (m conn live : ℕ) → live ≤ most_live → E (record { moment = m; conn = conn; event = event.Full live; outcomes = [] } ∷ []) (Closes conn ∷ [])
  pub unserved : (m conn handed : ℕ) → E (record { moment = m; conn = conn; event = event.Unserved handed; outcomes = [] } ∷ []) (Closes conn ∷ [])

module _ (plan : Plan) (Q : Session ModelEnd → Session ModelEnd → List JournalEntry → List Call → Type 0) (c : AllLeft (rules_of plan) Q) (own : (s t : Session ModelEnd) (xs : List JournalEntry) (cs : List Call) → Q s t xs cs → Own s t xs cs)
    (K : Session ModelEnd → List JournalEntry → List Call → Type 0) (E : List JournalEntry → List Call → Type 0) (k : Keeps plan Q K E) where
  -- ---- one visit of a number

  unfoldable pub LeftAt : Session ModelEnd → Option (Session ModelEnd) → List JournalEntry → List Call → Type 0
  LeftAt s (Some t) xs cs = Q s t xs cs
  LeftAt s None xs cs = (t : Session ModelEnd) × (ds : List Call) × (is_over t ≡ true) × (cs ≡ ds ++ Closes t.number ∷ []) × Q s t xs ds

  pub data Moved (n : ℕ) (ss ts : List (Session ModelEnd)) (xs : List JournalEntry) (cs : List Call) : Type 0 where
    Absent : session_of_connection n ss ≡ None → ts ≡ ss → xs ≡ [] → cs ≡ [] → Moved n ss ts xs cs
    Found : (s : Session ModelEnd) → session_of_connection n ss ≡ Some s → s.number ≡ n
        → ((conn : ℕ) → (n == conn) ≡ false → session_of_connection conn ts ≡ session_of_connection conn ss)
        → LeftAt s (session_of_connection n ts) xs cs → Apart ts → Moved n ss ts xs cs

  -- at the head
  here : (s : Session ModelEnd) (ss ts : List (Session ModelEnd)) (xs : List JournalEntry) (cs : List Call) → Apart (s ∷ ss)
      → Left Q s ts xs cs → Moved s.number (s ∷ ss) (ts ++ ss) xs cs
  unfolding session_of_connection Apart LeftAt
  here s ss ts xs cs a (Stays t p q) =
      let num : t.number ≡ s.number = (own s t xs cs q).number in
      let at_t : (t.number == s.number) ≡ true = eq-eqb t.number s.number num in
      rw p
      (Found s (rw (same s.number) refl) refl
      (λ conn ne. rw (subst (λ z. (z == conn) ≡ false) (sym num) ne, ne) refl)
      (rw at_t q)
      (subst (λ z. session_of_connection z ss ≡ None) (sym num) a.0, a.1))
  here s ss ts xs cs a (Closed t ds over p e q) =
      rw p
      (Found s (rw (same s.number) refl) refl
      (λ conn ne. rw ne refl)
      (rw a.0 (t, ds, over, e, q))
      a.1)

  pub moved : (m : ℕ) (visit : Visit) (n : ℕ) (ss : List (Session ModelEnd)) (a : Met) → Apart ss
      → Moved n ss (visit_at (visited model_ends (rules_of plan) m visit) n ss a).state (visit_at (visited model_ends (rules_of plan) m visit) n ss a).entries (visit_at (visited model_ends (rules_of plan) m visit) n ss a).calls
  unfolding visit_at session_of_connection Apart
  moved m visit n [] a p = Absent refl refl refl refl
  moved m visit n (s ∷ ss) a p =
      let o = visited model_ends (rules_of plan) m visit s a in
      elim (cases_Bool (s.number == n)) [
        | inl e ↦
            rw e
            (subst (λ z. Moved z (s ∷ ss) (o.state ++ ss) o.entries o.calls) (eqb-true s.number n e)
            (here s ss o.state o.entries o.calls p (c.at_visit visit m s a)))
        | inr e ↦ rw e (there n s ss (visit_at (visited model_ends (rules_of plan) m visit) n ss a).state (visit_at (visited model_ends (rules_of plan) m visit) n ss a).entries (visit_at (visited model_ends (rules_of plan) m visit) n ss a).calls e p (moved m visit n ss a p.1))
      ]
    where
      there : (n : ℕ) (s : Session ModelEnd) (ss ts : List (Session ModelEnd)) (xs : List JournalEntry) (cs : List Call) → (s.number == n) ≡ false → Apart (s ∷ ss)
          → Moved n ss ts xs cs → Moved n (s ∷ ss) (s ∷ ts) xs cs
      there n s ss ts xs cs ne p (Absent f e x y) = Absent (rw ne f) (ap (λ zs. s ∷ zs) e) x y
      there n s ss ts xs cs ne p (Found u f num others left apart) =
          Found u (rw ne f) num
          (λ conn d. ap (λ z. if s.number == conn then Some s else z) (others conn d))
          (rw ne left)
          (others s.number (other_way s.number n ne) ∙ p.0, apart)

  -- ---- what is known of all connections

  unfoldable pub Fits : Option (Session ModelEnd) → ℕ → List JournalEntry → List Call → Type 0
  Fits None conn xs cs = E xs cs
  Fits (Some s) conn xs cs = (s.number ≡ conn) × K s xs cs

  pub record Knows (js : List JournalEntry) (bs : List Call) (ss : List (Session ModelEnd)) : Type 0 where
    pub fits : (conn : ℕ) → Fits (session_of_connection conn ss) conn (of conn js) (calls_at conn bs)
    pub apart : Apart ss
    pub low : (conn : ℕ) → newest 0 (opened_in bs) < conn → (of conn js ≡ []) × (calls_at conn bs ≡ []) × (session_of_connection conn ss ≡ None)

  pub record OwnAt (s : Session ModelEnd) (xs : List JournalEntry) (cs : List Call) : Type 0 where
    pub entries : (conn : ℕ) → of conn xs ≡ (if s.number == conn then xs else [])
    pub calls : (conn : ℕ) → calls_at conn cs ≡ (if s.number == conn then cs else [])
    pub opens : opened_in cs ≡ []

  pub own_left : (s : Session ModelEnd) (left : Option (Session ModelEnd)) (xs : List JournalEntry) (cs : List Call) → LeftAt s left xs cs → OwnAt s xs cs
  unfolding LeftAt calls_at opened_in
  own_left s (Some t) xs cs q = let o = own s t xs cs q in record { entries = o.entries; calls = o.calls; opens = o.opens }
  own_left s None xs cs (t, ds, over, e, q) =
      let o = own s t xs ds q in
      record {
        entries = o.entries;
        calls = λ conn.
            rw (e, calls_at-append conn ds (Closes t.number ∷ []), o.calls conn)
            (subst (λ z. (if s.number == conn then ds else []) ++ (if z == conn then Closes t.number ∷ [] else []) ≡ (if s.number == conn then ds ++ Closes t.number ∷ [] else []))
            (sym o.number) (split_if (s.number == conn) ds (Closes t.number ∷ [])));
        opens = rw (e, opened_in-append ds (Closes t.number ∷ []), o.opens) refl;
      }

  pub fits_left : (s : Session ModelEnd) (left : Option (Session ModelEnd)) (n : ℕ) (js xs : List JournalEntry) (bs cs : List Call) → s.number ≡ n → K s js bs → LeftAt s left xs cs
      → Fits left n (js ++ xs) (bs ++ cs)
  unfolding LeftAt Fits
  fits_left s (Some t) n js xs bs cs num h q = ((own s t xs cs q).number ∙ num, k.visit s t js xs bs cs h q)
  fits_left s None n js xs bs cs num h (t, ds, over, e, q) = rw e (k.close s t js xs bs ds over h q)

  pub knows_moved : (n : ℕ) (js xs : List JournalEntry) (bs cs : List Call) (ss ts : List (Session ModelEnd)) → Knows js bs ss → Moved n ss ts xs cs → Knows (js ++ xs) (bs ++ cs) ts
  unfolding Fits
  knows_moved n js xs bs cs ss ts h (Absent f e x y) = rw (e, x, y, append-nil js, append-nil bs) h
  knows_moved n js xs bs cs ss ts h (Found s f num others left apart) = record {
    fits = λ conn.
        rw (of-append conn js xs, calls_at-append conn bs cs, o.entries conn, o.calls conn)
        (elim (cases_Bool (s.number == conn)) [
          | inl p ↦
              rw p
              (subst (λ z. Fits (session_of_connection z ts) z (of z js ++ xs) (calls_at z bs ++ cs)) (sym num ∙ eqb-true s.number conn p)
              (fits_left s (session_of_connection n ts) n (of n js) xs (calls_at n bs) cs num at_n.1 left))
          | inr p ↦
              rw (p, append-nil (of conn js), append-nil (calls_at conn bs), others conn (subst (λ z. (z == conn) ≡ false) num p))
              (h.fits conn)
        ]);
    apart = apart;
    low = λ conn lt.
        let down : newest 0 (opened_in bs) < conn = rw (opened_in-append bs cs, o.opens, append-nil (opened_in bs)) at lt in
        let l = h.low conn down in
        let p : (s.number == conn) ≡ false = not_it conn l.2 in (
          rw (of-append conn js xs, o.entries conn, p, append-nil (of conn js)) l.0,
          rw (calls_at-append conn bs cs, o.calls conn, p, append-nil (calls_at conn bs)) l.1,
          others conn (subst (λ z. (z == conn) ≡ false) num p) ∙ l.2,
        );
  }
    where
      o : OwnAt s xs cs
      o = own_left s (session_of_connection n ts) xs cs left

      at_n : (s.number ≡ n) × K s (of n js) (calls_at n bs)
      at_n = rw f at (h.fits n)

      not_it : (conn : ℕ) → session_of_connection conn ss ≡ None → (s.number == conn) ≡ false
      not_it conn none = ne_eqb s.number conn (λ e. (let x : session_of_connection conn ss ≡ Some s = subst (λ z. session_of_connection z ss ≡ Some s) (sym num ∙ e) f in cc))

  -- ---- turns and openings

  session_of-last : (conn : ℕ) (ss : List (Session ModelEnd)) (s : Session ModelEnd) → session_of_connection conn ss ≡ None
      → session_of_connection conn (ss ++ s ∷ []) ≡ (if s.number == conn then Some s else None)
  unfolding session_of_connection
  session_of-last conn [] s none = refl
  session_of-last conn (t ∷ ss) s none =
      elim (cases_Bool (t.number == conn)) [
        | inl p ↦ absurd (let x : Some t ≡ None = rw p at none in cc)
        | inr p ↦ rw p (session_of-last conn ss s (rw p at none))
      ]

  session_of-other : (conn : ℕ) (ss : List (Session ModelEnd)) (s : Session ModelEnd) → (s.number == conn) ≡ false
      → session_of_connection conn (ss ++ s ∷ []) ≡ session_of_connection conn ss
  unfolding session_of_connection
  session_of-other conn [] s ne = rw ne refl
  session_of-other conn (t ∷ ss) s ne = ap (λ z. if t.number == conn then Some t else z) (session_of-other conn ss s ne)

  apart_last : (ss : List (Session ModelEnd)) (s : Session ModelEnd) → Apart ss → session_of_connection s.number ss ≡ None → Apart (ss ++ s ∷ [])
  unfolding Apart session_of_connection
  apart_last [] s p none = (refl, tt)
  apart_last (t ∷ ss) s p none =
      elim (cases_Bool (t.number == s.number)) [
        | inl e ↦ absurd (let x : Some t ≡ None = rw e at none in cc)
        | inr e ↦ (session_of-other t.number ss s (other_way t.number s.number e) ∙ p.0, apart_last ss s p.1 (rw e at none))
      ]

  turn_at : (conn : ℕ) (bs : List Call) (until : Option ℕ) (happening : Happening) → calls_at conn (bs ++ Turns until happening ∷ []) ≡ calls_at conn bs
  unfolding calls_at
  turn_at conn bs until happening = calls_at-append conn bs (Turns until happening ∷ []) ∙ append-nil (calls_at conn bs)

  turn_opens : (bs : List Call) (until : Option ℕ) (happening : Happening)
      → opened_in (bs ++ Turns until happening ∷ []) ≡ opened_in bs ++ opened_by happening
  unfolding opened_in
  turn_opens bs until happening =
      opened_in-append bs (Turns until happening ∷ []) ∙ ap (λ z. opened_in bs ++ z) (append-nil (opened_by happening))

  pub knows_turned : (js : List JournalEntry) (bs : List Call) (ss : List (Session ModelEnd)) (until : Option ℕ) (happening : Happening) → opened_by happening ≡ []
      → Knows js bs ss → Knows (js ++ []) (bs ++ Turns until happening ∷ []) ss
  knows_turned js bs ss until happening none h = rw (append-nil js) (record {
    fits = λ conn. rw (turn_at conn bs until happening) (h.fits conn);
    apart = h.apart;
    low = λ conn lt.
        let down : newest 0 (opened_in bs) < conn = rw (turn_opens bs until happening, none, append-nil (opened_in bs)) at lt in
        let l = h.low conn down in
        (l.0, turn_at conn bs until happening ∙ l.1, l.2);
  })

  -- the connection that was accepted is above all before
  pub accepted_above : (bs : List Call) (cs : List Call) (until : Option ℕ) (conn : Conn)
      → Rises (newest 0 (opened_in bs)) (opened_in (Turns until (happening.Accepted conn) ∷ cs)) → newest 0 (opened_in bs) < conn.0
  unfolding opened_in
  accepted_above bs cs until conn p = p.0

  newest_now : (bs : List Call) (until : Option ℕ) (conn : Conn) → newest 0 (opened_in (bs ++ Turns until (happening.Accepted conn) ∷ [])) ≡ conn.0
  newest_now bs until conn =
      ap (λ z. newest 0 z) (turn_opens bs until (happening.Accepted conn)) ∙ newest-append 0 (opened_in bs) (conn.0 ∷ [])

  one_of : (conn : ℕ) (x : JournalEntry) → of conn (x ∷ []) ≡ (if x.conn == conn then x ∷ [] else [])
  unfolding of
  one_of conn x = refl

  pub knows_opened : (js : List JournalEntry) (bs : List Call) (l : Loop ModelEnd) (until : Option ℕ) (conn : Conn) (mind : Mind)
      → newest 0 (opened_in bs) < conn.0 → Knows js bs l.sessions
      → Knows (js ++ record { moment = l.moment; conn = conn.0; event = event.Answer plan.rbc (next_u64 l.words).0; outcomes = [] } ∷ [])
      (bs ++ Turns until (happening.Accepted conn) ∷ []) (l.sessions ++ begun conn.0 (answering model_ends plan l) mind ∷ [])
  unfolding Fits
  knows_opened js bs l until conn mind above h =
      let s = begun conn.0 (answering model_ends plan l) mind in
      let x : JournalEntry = record { moment = l.moment; conn = conn.0; event = event.Answer plan.rbc (next_u64 l.words).0; outcomes = [] } in
      let new = h.low conn.0 above in
      record {
        fits = λ n.
            rw (of-append n js (x ∷ []), one_of n x, turn_at n bs until (happening.Accepted conn))
            (elim (cases_Bool (conn.0 == n)) [
              | inl p ↦
                  let e : conn.0 ≡ n = eqb-true conn.0 n p in
                  let f = h.low n (subst (λ z. newest 0 (opened_in bs) < z) e above) in
                  rw (session_of-last n l.sessions s f.2, p, f.0, f.1) (e, k.open_ l conn.0 mind)
              | inr p ↦ rw (session_of-other n l.sessions s p, p, append-nil (of n js)) (h.fits n)
            ]);
        apart = apart_last l.sessions s h.apart new.2;
        low = λ n lt.
            let up : conn.0 < n = subst (λ z. z < n) (newest_now bs until conn) lt in
            let old : newest 0 (opened_in bs) < n = omega arith in
            let f = h.low n old in
            let p : (conn.0 == n) ≡ false = ne_eqb conn.0 n (λ e. let q : ⊥ = omega arith in q) in (
              rw (of-append n js (x ∷ []), one_of n x, p, append-nil (of n js)) f.0,
              turn_at n bs until (happening.Accepted conn) ∙ f.1,
              session_of-other n l.sessions s p ∙ f.2,
            );
      }

  away_at : (n : ℕ) (bs : List Call) (until : Option ℕ) (conn : Conn)
      → calls_at n (bs ++ Turns until (happening.Accepted conn) ∷ Closes conn.0 ∷ []) ≡ calls_at n bs ++ (if conn.0 == n then Closes conn.0 ∷ [] else [])
  unfolding calls_at
  away_at n bs until conn = calls_at-append n bs (Turns until (happening.Accepted conn) ∷ Closes conn.0 ∷ [])

  newest_away : (bs : List Call) (until : Option ℕ) (conn : Conn)
      → newest 0 (opened_in (bs ++ Turns until (happening.Accepted conn) ∷ Closes conn.0 ∷ [])) ≡ conn.0
  unfolding opened_in
  newest_away bs until conn =
      ap (λ z. newest 0 z) (opened_in-append bs (Turns until (happening.Accepted conn) ∷ Closes conn.0 ∷ []))
      ∙ newest-append 0 (opened_in bs) (conn.0 ∷ [])

  pub knows_away : (js : List JournalEntry) (bs : List Call) (ss : List (Session ModelEnd)) (m : ℕ) (why : Event) (until : Option ℕ) (conn : Conn)
      → newest 0 (opened_in bs) < conn.0
      → E (record { moment = m; conn = conn.0; event = why; outcomes = [] } ∷ []) (Closes conn.0 ∷ []) → Knows js bs ss
      → Knows (js ++ record { moment = m; conn = conn.0; event = why; outcomes = [] } ∷ [])
      (bs ++ Turns until (happening.Accepted conn) ∷ Closes conn.0 ∷ []) ss
  unfolding Fits
  knows_away js bs ss m why until conn above e_away h =
      let x : JournalEntry = record { moment = m; conn = conn.0; event = why; outcomes = [] } in
      record {
        fits = λ n.
            rw (of-append n js (x ∷ []), one_of n x, away_at n bs until conn)
            (elim (cases_Bool (conn.0 == n)) [
              | inl p ↦
                  let e : conn.0 ≡ n = eqb-true conn.0 n p in
                  let f = h.low n (subst (λ z. newest 0 (opened_in bs) < z) e above) in
                  rw (f.2, p, f.0, f.1) e_away
              | inr p ↦ rw (p, append-nil (of n js), append-nil (calls_at n bs)) (h.fits n)
            ]);
        apart = h.apart;
        low = λ n lt.
            let up : conn.0 < n = subst (λ z. z < n) (newest_away bs until conn) lt in
            let old : newest 0 (opened_in bs) < n = omega arith in
            let f = h.low n old in
            let p : (conn.0 == n) ≡ false = ne_eqb conn.0 n (λ e. let q : ⊥ = omega arith in q) in (
              rw (of-append n js (x ∷ []), one_of n x, p, append-nil (of n js)) f.0,
              rw (away_at n bs until conn, p, append-nil (calls_at n bs)) f.1,
              f.2,
            );
      }

  -- ---- a whole run

  Goes : List (Session ModelEnd) → List (Session ModelEnd) → List JournalEntry → List Call → Type 0
  Goes ss ts xs cs = (js : List JournalEntry) (bs : List Call) → Rises (newest 0 (opened_in bs)) (opened_in cs) → Knows js bs ss → Knows (js ++ xs) (bs ++ cs) ts

  goes : Loopwise plan Goes
  unfolding Goes
  goes = record {
    none = λ ss js bs rises h. rw (append-nil js, append-nil bs) h;
    then_ = λ ss ts us xs ys cs ds p q js bs rises h.
        let r = subst (λ z. Rises (newest 0 (opened_in bs)) z) (opened_in-append cs ds) rises in
        let r_rest : Rises (newest 0 (opened_in (bs ++ cs))) (opened_in ds) =
        subst (λ z. Rises z (opened_in ds)) (sym (ap (λ z. newest 0 z) (opened_in-append bs cs) ∙ newest-append 0 (opened_in bs) (opened_in cs)))
        (rises_rest (newest 0 (opened_in bs)) (opened_in cs) (opened_in ds) r) in
        let mid = p js bs (rises_first (newest 0 (opened_in bs)) (opened_in cs) (opened_in ds) r) h in
        rw (← append_assoc js xs ys, ← append_assoc bs cs ds) (q (js ++ xs) (bs ++ cs) r_rest mid);
    visit = λ m visit n ss a js bs rises h. knows_moved n js _ bs _ ss _ h (moved m visit n ss a h.apart);
    turned = λ ss until happening none js bs rises h. knows_turned js bs ss until happening none h;
    opened = λ l until conn mind fits js bs rises h. knows_opened js bs l until conn mind (accepted_above bs [] until conn rises) h;
    full = λ ss m live until conn most js bs rises h.
        knows_away js bs ss m (event.Full live) until conn (accepted_above bs (Closes conn.0 ∷ []) until conn rises) (k.full m conn.0 live most) h;
    unserved = λ ss m handed until conn js bs rises h.
        knows_away js bs ss m (event.Unserved handed) until conn (accepted_above bs (Closes conn.0 ∷ []) until conn rises) (k.unserved m conn.0 handed) h;
  }

  pub knows_none : Knows [] [] []
  unfolding Fits of calls_at opened_in session_of_connection Apart
  knows_none = record { fits = λ conn. k.never; apart = tt; low = λ conn lt. (refl, refl, refl) }

  -- from no sessions on, where the connections that are accepted have rising numbers
  pub knows_run : (c : Course ModelEnd) (turns : List Turn) → c.loop.sessions ≡ [] → Rises 0 (opened_in (run model_ends plan c turns).calls)
      → Knows (run model_ends plan c turns).entries (run model_ends plan c turns).calls (run model_ends plan c turns).state.loop.sessions
  unfolding Goes opened_in
  knows_run c turns none rises = wise_run plan Goes goes c turns [] [] rises (rw none knows_none)

  -- from what is known of a journal and a record
  pub knows_on : (c : Course ModelEnd) (turns : List Turn) (js : List JournalEntry) (bs : List Call) → Rises (newest 0 (opened_in bs)) (opened_in (run model_ends plan c turns).calls)
      → Knows js bs c.loop.sessions → Knows (js ++ (run model_ends plan c turns).entries) (bs ++ (run model_ends plan c turns).calls) (run model_ends plan c turns).state.loop.sessions
  unfolding Goes
  knows_on c turns js bs rises h = wise_run plan Goes goes c turns js bs rises h
