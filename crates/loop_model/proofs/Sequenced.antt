-- In which order a loop prints and calls.
use Rattle.loop_model.specs.Ends.{ModelEnd, model_ends}
use Rattle.std.proofs.Common.{◌≡◌, ℕ, ◌<◌, ◌≤◌, inl, inr, Bool, true, false, if◌then◌else◌, List, [], ◌∷◌, ◌++◌, Option, Some, None, refl, sym, ◌∙◌, ap, subst, subst₂, append-nil, append_assoc, arith, eqb-true, ne_eqb, true≢false}
use Rattle.std.specs.Prelude.{◌==◌, nat_le}
use Rattle.std.proofs.lemmas.Bool.{cases_Bool}
use Rattle.std.proofs.lemmas.Bool.Decides.{nat_tests}
use Rattle.er_trace.specs.declared.event.Event.{Event}
use Rattle.er_trace.specs.declared.event.Event.TheVariants as event
use Rattle.er_users.specs.Users.{Mind}
use Rattle.rand_core.specs.Stream.{next_u64}
use Rattle.link_trait.specs.Wires.{Call, Dials, Turns, Closes, given_of}
use Rattle.link_trait.specs.declared.wires.Conn.{Conn}
use Rattle.link_trait.specs.declared.wires.Happening.{Happening}
use Rattle.link_trait.specs.declared.wires.Happening.TheVariants as happening
use Rattle.loop_model.specs.Journals.{JournalEntry}
use Rattle.loop_model.specs.Deeds.{LoopDeed, Printing, Calling, entries_in, calls_in}
use Rattle.loop_model.specs.Outs.{Out, HasOrder, first_answer_of}
use Rattle.loop_model.specs.Signs.{entries_parts, calls_parts}
use Rattle.loop_model.specs.Orderly.{order_visited, order_visit_at, order_served, order_run, order_dials, order_opens}
use Rattle.loop_model.specs.Sessions.{Rules, Session, Begins, fed, nothing_said}
use Rattle.loop_model.specs.Visits.{Met, Visit, visited, served}
use Rattle.loop_model.specs.Loops.{Plan, rules_of, Loop, answering, visit_at, next_user, begun, Caller, calling, called_by, Course, asks, Turn, run, Dialled, opens, called, dials_to, dials, begun_dial}
use Rattle.loop_model.specs.Parts.{session_of_connection, of, calls_at, is_at, opened_in, opened_by, Rises, newest}
use Rattle.loop_model.specs.Laws.{octets_of_entries, IsBeginning}
use Rattle.loop_model.specs.Orderings.{IsSilentOnConnection, IsSequenced, OrderIsKept, OpeningIsKept}
use Rattle.loop_model.proofs.Projections.{of-append, calls_at-append, opened_in-append, rises_first, rises_rest, newest-append, newest_later}
use Rattle.loop_model.proofs.Steadies.{Steady, AllLeft, all_left_of, Left, Stays, Closed, left_visited, left_served, steady_handled}
use Rattle.loop_model.proofs.Lives.{Own, Keeps, Moved, Absent, Found, moved, Fits, Knows, knows_none, knows_moved, knows_turned, knows_opened, knows_away, accepted_above}
use Rattle.loop_model.proofs.Owns.{Both, steady_both, calls_both, usual_calls, own_steady}
use Rattle.loop_model.proofs.Orders.{own_calls}
use Rattle.loop_model.proofs.Visitings.{visit_one}
use Rattle.loop_model.proofs.Dialling.{first_handled, knows_called}
use Rattle.loop_model.proofs.Givings as givings
use Rattle.loop_model.proofs.Givings.{Given_so, given_in, given_at, all_given, octets_of-append}
use Rattle.loop_model.proofs.Closings as closings
use Rattle.loop_model.proofs.Closings.{NoClose, no_close-append}
use Rattle.loop_model.proofs.Sequencing.{given_of-append, given_to, told_to, Goes, goes_then, goes_place, nothing_goes, EndsAtClose, Holding, so_served, so_visited}
use Rattle.loop_model.proofs.Orderwise.{away, Orderwise, run_wise}

-- ---- what is known of each connection: what was told and given, and that a live one wasn't closed

abbrev Q : Session ModelEnd → Session ModelEnd → List JournalEntry → List Call → Type 0
Q = Both givings.Q closings.Opens

q_steady : (r : Rules) → Steady r (λ g. Unit {0}) Q
q_steady r = steady_both r (λ g. Unit {0}) givings.Q closings.Opens (givings.q_steady r) (closings.steady r)

q_left : (r : Rules) → AllLeft r Q
q_left r =
    all_left_of r Q
    (calls_both r givings.Q closings.Opens (givings.q_each r)
    (usual_calls r (λ g. Unit {0}) closings.Opens (closings.steady r) all_given closings.bare closings.reads))

q_own : (s t : Session ModelEnd) (xs : List JournalEntry) (cs : List Call) → Q s t xs cs → Own s t xs cs
q_own s t xs cs q = q.0.0

K : Session ModelEnd → List JournalEntry → List Call → Type 0
K s xs cs = Given_so s xs cs × NoClose cs

abbrev E : List JournalEntry → List Call → Type 0
E xs cs = givings.Gone xs cs

keeps : (plan : Plan) → Keeps plan Q K E
unfolding K closings.Opens
keeps plan =
    let k = givings.keeps plan in
    record {
      visit = λ s t xs ys cs ds h q. (k.visit s t xs ys cs ds h.0 q.0, no_close-append cs ds h.1 q.1);
      close = λ s t xs ys cs ds over h q. k.close s t xs ys cs ds over h.0 q.0;
      open_ = λ l conn mind. (k.open_ l conn mind, tt);
      never = k.never;
      full = k.full;
      unserved = k.unserved;
    }

abbrev Known : Plan → List JournalEntry → List Call → List (Session ModelEnd) → Type 0
Known plan js bs ss = Knows plan Q (q_left (rules_of plan)) q_own K E (keeps plan) js bs ss

abbrev FitsSo : Plan → Option (Session ModelEnd) → ℕ → List JournalEntry → List Call → Type 0
FitsSo plan s conn xs cs = Fits plan Q (q_left (rules_of plan)) q_own K E (keeps plan) s conn xs cs

begins_fit : (plan : Plan) (s : Option (Session ModelEnd)) (conn : ℕ) (xs : List JournalEntry) (cs : List Call) → FitsSo plan s conn xs cs → IsBeginning (given_in cs) (octets_of_entries xs)
unfolding Fits K
begins_fit plan None conn xs cs h = h
begins_fit plan (Some s) conn xs cs h = record { rest = h.1.0.rest; is = h.1.0.is }

begins_known : (plan : Plan) (js : List JournalEntry) (bs : List Call) (ss : List (Session ModelEnd)) → Known plan js bs ss → (n : ℕ) → IsBeginning (given_of n bs) (octets_of_entries (of n js))
begins_known plan js bs ss k n = rw (given_at n bs) (begins_fit plan (session_of_connection n ss) n (of n js) (calls_at n bs) (k.fits n))

held_fit : (plan : Plan) (s : Session ModelEnd) (n : ℕ) (xs : List JournalEntry) (cs : List Call) → FitsSo plan (Some s) n xs cs → Holding n s (given_in cs) (octets_of_entries xs)
unfolding Fits K
held_fit plan s n xs cs h = record { number = h.0; rest = h.1.0.rest; is = h.1.0.is; whole = h.1.0.whole }

held_known : (plan : Plan) (js : List JournalEntry) (bs : List Call) (ss : List (Session ModelEnd)) (s : Session ModelEnd) (n : ℕ) → Known plan js bs ss → session_of_connection n ss ≡ Some s
    → Holding n s (given_of n bs) (octets_of_entries (of n js))
held_known plan js bs ss s n k e =
    rw (given_at n bs) (held_fit plan s n (of n js) (calls_at n bs) (subst (λ z. FitsSo plan z n (of n js) (calls_at n bs)) e (k.fits n)))

open_fit : (plan : Plan) (s : Session ModelEnd) (n : ℕ) (xs : List JournalEntry) (cs : List Call) → FitsSo plan (Some s) n xs cs → NoClose cs
unfolding Fits K
open_fit plan s n xs cs h = h.1.1

-- ---- closes

-- behind a close of a connection nothing comes of it
Lasts : ℕ → List LoopDeed → Type 0
Lasts n [] = Unit {0}
Lasts n (Printing x ∷ ds) = Lasts n ds
Lasts n (Calling call ∷ ds) = (call ≡ Closes n → IsSilentOnConnection n ds) × Lasts n ds

nothing_silent : (n : ℕ) → IsSilentOnConnection n []
unfolding of calls_at entries_in calls_in
nothing_silent n = (refl, refl)

silent_both : (n : ℕ) (ds es : List LoopDeed) → IsSilentOnConnection n ds → IsSilentOnConnection n es → IsSilentOnConnection n (ds ++ es)
silent_both n ds es p q = (
  ap (λ z. of n z) (entries_parts ds es) ∙ of-append n (entries_in ds) (entries_in es) ∙ ap (λ z. z ++ of n (entries_in es)) p.0 ∙ q.0,
  ap (λ z. calls_at n z) (calls_parts ds es) ∙ calls_at-append n (calls_in ds) (calls_in es) ∙ ap (λ z. z ++ calls_at n (calls_in es)) p.1 ∙ q.1,
)

-- what is silent as a whole is silent behind its first
silent_behind : (n : ℕ) (d : LoopDeed) (ds : List LoopDeed) → IsSilentOnConnection n (d ∷ ds) → IsSilentOnConnection n ds
unfolding of calls_at entries_in calls_in
silent_behind n (Printing x) ds p =
    elim (cases_Bool (x.conn == n)) [
      | inl e ↦ absurd (let q : x ∷ of n (entries_in ds) ≡ [] = rw e at p.0 in cc q)
      | inr e ↦ (rw e at p.0, p.1)
    ]
silent_behind n (Calling call) ds p =
    elim (cases_Bool (is_at n call)) [
      | inl e ↦ absurd (let q : call ∷ calls_at n (calls_in ds) ≡ [] = rw e at p.1 in cc q)
      | inr e ↦ (p.0, rw e at p.1)
    ]

silent_lasts : (n : ℕ) (ds : List LoopDeed) → IsSilentOnConnection n ds → Lasts n ds
unfolding Lasts
silent_lasts n [] p = tt
silent_lasts n (Printing x ∷ ds) p = silent_lasts n ds (silent_behind n (Printing x) ds p)
silent_lasts n (Calling call ∷ ds) p = (λ e. silent_behind n (Calling call) ds p, silent_lasts n ds (silent_behind n (Calling call) ds p))

lasts_silent : (n : ℕ) (ds es : List LoopDeed) → Lasts n ds → IsSilentOnConnection n es → Lasts n (ds ++ es)
unfolding Lasts
lasts_silent n [] es p q = silent_lasts n es q
lasts_silent n (Printing x ∷ ds) es p q = lasts_silent n ds es p q
lasts_silent n (Calling call ∷ ds) es p q = (λ e. silent_both n ds es (p.0 e) q, lasts_silent n ds es p.1 q)

itself : (n : ℕ) → (n == n) ≡ true
itself n = grind (arith, nat_tests)

-- no close of it stands before
lasts_open : (n : ℕ) (ds es : List LoopDeed) → NoClose (calls_at n (calls_in ds)) → Lasts n es → Lasts n (ds ++ es)
unfolding Lasts calls_at calls_in
lasts_open n [] es p q = q
lasts_open n (Printing x ∷ ds) es p q = lasts_open n ds es p q
lasts_open n (Calling call ∷ ds) es p q =
    elim (cases_Bool (is_at n call)) [
      | inl e ↦
          let h : NoClose (call ∷ calls_at n (calls_in ds)) = rw e at p in
          (λ c. absurd (let z : true ≡ false = rw c at h.0 in true≢false z), lasts_open n ds es h.1 q)
      | inr e ↦
          let h : NoClose (calls_at n (calls_in ds)) = rw e at p in
          (λ c. absurd (let z : (n == n) ≡ false = rw c at e in true≢false (sym (itself n) ∙ z)), lasts_open n ds es h q)
    ]

ends_lasts : (n : ℕ) (ds : List LoopDeed) → EndsAtClose ds → Lasts n ds
unfolding Lasts EndsAtClose
ends_lasts n [] p = tt
ends_lasts n (Printing x ∷ ds) p = ends_lasts n ds p
ends_lasts n (Calling call ∷ ds) p = (
  λ e. let none : ds ≡ [] = (rw e at p.0) refl in subst (λ z. IsSilentOnConnection n z) (sym none) (nothing_silent n),
  ends_lasts n ds p.1,
)

lasts_place : (n : ℕ) (done rest : List LoopDeed) → Lasts n (done ++ Calling (Closes n) ∷ rest) → IsSilentOnConnection n rest
unfolding Lasts
lasts_place n [] rest p = p.0 refl
lasts_place n (Printing x ∷ done) rest p = lasts_place n done rest p
lasts_place n (Calling call ∷ done) rest p = lasts_place n done rest p.1

no_close_rest : (cs ds : List Call) → NoClose (cs ++ ds) → NoClose ds
no_close_rest [] ds p = p
no_close_rest (call ∷ cs) ds p = no_close_rest cs ds p.1

-- ---- a part of a run

-- of a connection, behind what came before: at each place what it was given was told; nothing comes behind its close; and what is known then
record Front (plan : Plan) (n : ℕ) (js : List JournalEntry) (bs : List Call) (ts : List (Session ModelEnd)) (ds : List LoopDeed) : Type 0 where
  goes : Goes n (given_of n bs) (octets_of_entries (of n js)) ds
  last : Lasts n ds
  knows : Known plan (js ++ entries_in ds) (bs ++ calls_in ds) ts

-- a connection that was opened and isn't live is silent
abbrev Gone : ℕ → List Call → List (Session ModelEnd) → List (Session ModelEnd) → List LoopDeed → Type 0
Gone n bs ss ts ds = session_of_connection n ss ≡ None → n ≤ newest 0 (opened_in bs) → IsSilentOnConnection n ds × (session_of_connection n ts ≡ None)

last_then : (plan : Plan) (n : ℕ) (js : List JournalEntry) (bs : List Call) (ts us : List (Session ModelEnd)) (ds es : List LoopDeed) (found : Option (Session ModelEnd)) → session_of_connection n ts ≡ found
    → Front plan n js bs ts ds → Lasts n es → Gone n (bs ++ calls_in ds) ts us es → Lasts n (ds ++ es)
last_then plan n js bs ts us ds es (Some t) e a b g =
    let fits = subst (λ z. FitsSo plan z n (of n (js ++ entries_in ds)) (calls_at n (bs ++ calls_in ds))) e (a.knows.fits n) in
    let open_ = open_fit plan t n (of n (js ++ entries_in ds)) (calls_at n (bs ++ calls_in ds)) fits in
    lasts_open n ds es (no_close_rest (calls_at n bs) (calls_at n (calls_in ds)) (subst NoClose (calls_at-append n bs (calls_in ds)) open_)) b
last_then plan n js bs ts us ds es None e a b g =
    elim (cases_Bool (nat_le n (newest 0 (opened_in (bs ++ calls_in ds))))) [
      | inl low ↦ lasts_silent n ds es a.last (g e (grind (arith, nat_tests, low))).0
      | inr up ↦
          let none = (a.knows.low n (grind (arith, nat_tests, up))).1 in
          lasts_open n ds es (no_close_rest (calls_at n bs) (calls_at n (calls_in ds)) (subst NoClose (sym none ∙ calls_at-append n bs (calls_in ds)) tt)) b
    ]

front_then : (plan : Plan) (n : ℕ) (js : List JournalEntry) (bs : List Call) (ts us : List (Session ModelEnd)) (ds es : List LoopDeed) → Front plan n js bs ts ds
    → Front plan n (js ++ entries_in ds) (bs ++ calls_in ds) us es → Gone n (bs ++ calls_in ds) ts us es → Front plan n js bs us (ds ++ es)
front_then plan n js bs ts us ds es a b g =
    let given : given_of n (bs ++ calls_in ds) ≡ given_of n bs ++ given_to n ds = given_of-append n bs (calls_in ds) in
    let told : octets_of_entries (of n (js ++ entries_in ds)) ≡ octets_of_entries (of n js) ++ told_to n ds = ap octets_of_entries (of-append n js (entries_in ds)) ∙ octets_of-append (of n js) (of n (entries_in ds)) in
    record {
      goes = goes_then n (given_of n bs) (octets_of_entries (of n js)) ds es a.goes (subst₂ (λ (x y : List ℕ). Goes n x y es) given told b.goes);
      last = last_then plan n js bs ts us ds es (session_of_connection n ts) refl a b.last g;
      knows = subst₂ (λ (x : List JournalEntry) (y : List Call). Known plan x y us) (append_assoc js (entries_in ds) (entries_in es) ∙ ap (λ z. js ++ z) (sym (entries_parts ds es)))
          (append_assoc bs (calls_in ds) (calls_in es) ∙ ap (λ z. bs ++ z) (sym (calls_parts ds es))) b.knows;
    }

abbrev R : Plan → List (Session ModelEnd) → List (Session ModelEnd) → List LoopDeed → Type 0
R plan ss ts ds =
    (js : List JournalEntry) (bs : List Call) → Rises (newest 0 (opened_in bs)) (opened_in (calls_in ds)) → Known plan js bs ss
    → (n : ℕ) → Front plan n js bs ts ds × Gone n bs ss ts ds

unfoldable Runs : Plan → List (Session ModelEnd) → List (Session ModelEnd) → List LoopDeed → Type 0
Runs plan ss ts ds = R plan ss ts ds

runs_none : (plan : Plan) (ss : List (Session ModelEnd)) → R plan ss ss []
unfolding Lasts of calls_at entries_in calls_in
runs_none plan ss = λ js bs rises k n. (
  record {
    goes = begins_known plan js bs ss k n;
    last = tt;
    knows = rw (append-nil js, append-nil bs) k;
  },
  λ none low. ((refl, refl), none),
)

newest_parts : (bs cs : List Call) → newest 0 (opened_in (bs ++ cs)) ≡ newest (newest 0 (opened_in bs)) (opened_in cs)
newest_parts bs cs = ap (λ z. newest 0 z) (opened_in-append bs cs) ∙ newest-append 0 (opened_in bs) (opened_in cs)

opened_parts : (ds es : List LoopDeed) → opened_in (calls_in (ds ++ es)) ≡ opened_in (calls_in ds) ++ opened_in (calls_in es)
opened_parts ds es = ap opened_in (calls_parts ds es) ∙ opened_in-append (calls_in ds) (calls_in es)

runs_then : (plan : Plan) (ss ts us : List (Session ModelEnd)) (ds es : List LoopDeed) → R plan ss ts ds → R plan ts us es → R plan ss us (ds ++ es)
runs_then plan ss ts us ds es p q = λ js bs rises k n.
    let top = newest 0 (opened_in bs) in
    let r : Rises top (opened_in (calls_in ds) ++ opened_in (calls_in es)) = subst (λ z. Rises top z) (opened_parts ds es) rises in
    let first = rises_first top (opened_in (calls_in ds)) (opened_in (calls_in es)) r in
    let a = p js bs first k n in
    let rest : Rises (newest 0 (opened_in (bs ++ calls_in ds))) (opened_in (calls_in es)) =
    subst (λ z. Rises z (opened_in (calls_in es))) (sym (newest_parts bs (calls_in ds))) (rises_rest top (opened_in (calls_in ds)) (opened_in (calls_in es)) r) in
    let b = q (js ++ entries_in ds) (bs ++ calls_in ds) rest a.0.knows n in
    let up : top ≤ newest 0 (opened_in (bs ++ calls_in ds)) = subst (λ z. top ≤ z) (sym (newest_parts bs (calls_in ds))) (newest_later top (opened_in (calls_in ds)) first) in (
      front_then plan n js bs ts us ds es a.0 b.0 b.1,
      λ none low.
          let x = a.1 none low in
          let y = b.1 x.1 (omega (arith, low, up)) in
          (silent_both n ds es x.0 y.0, y.1),
    )

-- ---- a visit

empty_order : (ds : List LoopDeed) → entries_in ds ≡ [] → calls_in ds ≡ [] → ds ≡ []
unfolding entries_in calls_in
empty_order [] p q = refl
empty_order (Printing x ∷ ds) p q = absurd (let e : x ∷ entries_in ds ≡ [] = p in cc e)
empty_order (Calling call ∷ ds) p q = absurd (let e : call ∷ calls_in ds ≡ [] = q in cc e)

if_none : {A : Type 0} (b : Bool) (xs : List A) → b ≡ false → (if b then xs else []) ≡ []
if_none b xs p = rw p refl

left_silent : (n : ℕ) (s : Session ModelEnd) (ts : List (Session ModelEnd)) (xs : List JournalEntry) (cs : List Call) → Left Own s ts xs cs → (s.number == n) ≡ false
    → (of n xs ≡ []) × (calls_at n cs ≡ [])
unfolding calls_at
left_silent n s ts xs cs (Stays t p q) e = (q.entries n ∙ if_none (s.number == n) xs e, q.calls n ∙ if_none (s.number == n) cs e)
left_silent n s ts xs cs (Closed t ds over p is q) e = (
  q.entries n ∙ if_none (s.number == n) xs e,
  ap (λ z. calls_at n z) is ∙ calls_at-append n ds (Closes t.number ∷ [])
      ∙ ap (λ z. z ++ calls_at n (Closes t.number ∷ [])) (q.calls n ∙ if_none (s.number == n) ds e)
      ∙ if_none (t.number == n) (Closes t.number ∷ []) (subst (λ z. (z == n) ≡ false) (sym q.number) e),
)

-- silent deeds give and tell nothing
silent_goes : (n : ℕ) (g t : List ℕ) (ds : List LoopDeed) → IsSilentOnConnection n ds → IsBeginning g t → Goes n g t ds
unfolding given_in octets_of_entries
silent_goes n g t ds p b = nothing_goes n g t ds (given_at n (calls_in ds) ∙ ap given_in p.1) (ap octets_of_entries p.0) b

module _ (plan : Plan) (m : ℕ) (visit : Visit) where
  abbrev f : Session ModelEnd → Met → Out (List (Session ModelEnd))
  f s a = visited model_ends (rules_of plan) m visit s a

  abbrev o : ℕ → List (Session ModelEnd) → Met → Out (List (Session ModelEnd))
  o k ss a = visit_at (visited model_ends (rules_of plan) m visit) k ss a

  has : (k : ℕ) (ss : List (Session ModelEnd)) (a : Met) → HasOrder (o k ss a)
  has k ss a = order_visit_at (visited model_ends (rules_of plan) m visit) (order_visited model_ends (rules_of plan) m visit) k ss a

  -- of another connection it is silent
  others_silent : (n : ℕ) (s : Session ModelEnd) (a : Met) → (s.number == n) ≡ false → IsSilentOnConnection n (f s a).order
  others_silent n s a e =
      let h = order_visited model_ends (rules_of plan) m visit s a in
      let q = left_silent n s (f s a).state (f s a).entries (f s a).calls (left_visited (rules_of plan) Own (own_calls (rules_of plan)) visit m s a) e in
      (ap (λ z. of n z) h.entries ∙ q.0, ap (λ z. calls_at n z) h.calls ∙ q.1)

  front_so : (js : List JournalEntry) (bs : List Call) (ss : List (Session ModelEnd)) (k n : ℕ) (a : Met) → Known plan js bs ss
      → Moved plan Q (q_left (rules_of plan)) q_own K E (keeps plan) k ss (o k ss a).state (o k ss a).entries (o k ss a).calls
      → Goes n (given_of n bs) (octets_of_entries (of n js)) (o k ss a).order × Lasts n (o k ss a).order × Gone n bs ss (o k ss a).state (o k ss a).order
  unfolding Lasts
  front_so js bs ss k n a known (Absent none same x y) =
      let order : (o k ss a).order ≡ [] = empty_order (o k ss a).order ((has k ss a).entries ∙ x) ((has k ss a).calls ∙ y) in (
        subst (λ z. Goes n (given_of n bs) (octets_of_entries (of n js)) z) (sym order) (begins_known plan js bs ss known n),
        subst (λ z. Lasts n z) (sym order) tt,
        λ gone low. (subst (λ z. IsSilentOnConnection n z) (sym order) (nothing_silent n), ap (λ z. session_of_connection n z) same ∙ gone),
      )
  front_so js bs ss k n a known (Found s at num others left apart) =
      let order : (f s a).order ≡ (o k ss a).order = sym (ap (λ (z : Out (List (Session ModelEnd))). z.order) (visit_one (visited model_ends (rules_of plan) m visit) k ss s a at)) in
      let so = so_visited (rules_of plan) m k visit s a num in (
        elim (cases_Bool (s.number == n)) [
          | inl e ↦
              let is : k ≡ n = sym num ∙ eqb-true s.number n e in
              subst (λ z. Goes n (given_of n bs) (octets_of_entries (of n js)) z) order
              (subst (λ z. Goes z (given_of z bs) (octets_of_entries (of z js)) (f s a).order) is
              (so.goes (given_of k bs) (octets_of_entries (of k js)) (held_known plan js bs ss s k known at)))
          | inr e ↦
              subst (λ z. Goes n (given_of n bs) (octets_of_entries (of n js)) z) order
              (silent_goes n (given_of n bs) (octets_of_entries (of n js)) (f s a).order (others_silent n s a e) (begins_known plan js bs ss known n))
        ],
        subst (λ z. Lasts n z) order (ends_lasts n (f s a).order so.ends),
        λ gone low.
            let other : (k == n) ≡ false = ne_eqb k n (λ e. let x : session_of_connection n ss ≡ Some s = subst (λ z. session_of_connection z ss ≡ Some s) e at in let y : None ≡ Some s = sym gone ∙ x in cc y) in (
              subst (λ z. IsSilentOnConnection n z) order (others_silent n s a (subst (λ z. (z == n) ≡ false) (sym num) other)),
              others n other ∙ gone,
            ),
      )

  runs_visit : (k : ℕ) (ss : List (Session ModelEnd)) (a : Met) → R plan ss (o k ss a).state (o k ss a).order
  runs_visit k ss a = λ js bs rises known n.
      let it = moved plan Q (q_left (rules_of plan)) q_own K E (keeps plan) m visit k ss a known.apart in
      let so = front_so js bs ss k n a known it in
      let h = has k ss a in (
        record {
          goes = so.0;
          last = so.1;
          knows = subst₂ (λ (x : List JournalEntry) (y : List Call). Known plan (js ++ x) (bs ++ y) (o k ss a).state) (sym h.entries) (sym h.calls)
              (knows_moved plan Q (q_left (rules_of plan)) q_own K E (keeps plan) k js (o k ss a).entries bs (o k ss a).calls ss (o k ss a).state known it);
        },
        so.2,
      )

-- ---- turns and openings

runs_turned : (plan : Plan) (ss : List (Session ModelEnd)) (until : Option ℕ) (what : Happening) → opened_by what ≡ [] → R plan ss ss (Calling (Turns until what) ∷ [])
unfolding Lasts of calls_at entries_in calls_in given_of octets_of_entries
runs_turned plan ss until what none = λ js bs rises known n. (
  record {
    goes = nothing_goes n (given_of n bs) (octets_of_entries (of n js)) (Calling (Turns until what) ∷ []) refl refl (begins_known plan js bs ss known n);
    last = (λ e. absurd (let z : Turns until what ≡ Closes n = e in cc z), tt);
    knows = knows_turned plan Q (q_left (rules_of plan)) q_own K E (keeps plan) js bs ss until what none known;
  },
  λ gone low. ((refl, refl), gone),
)

-- an event without outcomes tells no octet
plain_tells : (n conn m : ℕ) (why : Event) (b : Bool) → octets_of_entries (if b then record { moment = m; conn = conn; event = why; outcomes = [] } ∷ [] else []) ≡ []
unfolding octets_of_entries
plain_tells n conn m why true = refl
plain_tells n conn m why false = refl

session_of-last : (n : ℕ) (ss : List (Session ModelEnd)) (s : Session ModelEnd) → (s.number == n) ≡ false → session_of_connection n (ss ++ s ∷ []) ≡ session_of_connection n ss
unfolding session_of_connection
session_of-last n [] s ne = rw ne refl
session_of-last n (t ∷ ss) s ne = ap (λ z. if t.number == n then Some t else z) (session_of-last n ss s ne)

above_other : (bs : List Call) (conn n : ℕ) → newest 0 (opened_in bs) < conn → n ≤ newest 0 (opened_in bs) → (conn == n) ≡ false
above_other bs conn n p q = ne_eqb conn n (λ e. let z : ⊥ = omega (arith, p, q, e) in z)

runs_opened : (plan : Plan) (l : Loop ModelEnd) (until : Option ℕ) (conn : Conn) (mind : Mind)
    → R plan l.sessions (l.sessions ++ begun conn.0 (answering model_ends plan l) mind ∷ [])
    (Calling (Turns until (happening.Accepted conn)) ∷ Printing (record { moment = l.moment; conn = conn.0; event = event.Answer plan.rbc (next_u64 l.words).0; outcomes = [] }) ∷ [])
unfolding Lasts of calls_at entries_in calls_in given_of
runs_opened plan l until conn mind = λ js bs rises known n.
    let s = begun conn.0 (answering model_ends plan l) mind in
    let why = event.Answer plan.rbc (next_u64 l.words).0 in
    let x : JournalEntry = record { moment = l.moment; conn = conn.0; event = why; outcomes = [] } in
    let above = accepted_above plan Q (q_left (rules_of plan)) q_own K E (keeps plan) bs [] until conn rises in (
      record {
        goes = nothing_goes n (given_of n bs) (octets_of_entries (of n js)) (Calling (Turns until (happening.Accepted conn)) ∷ Printing x ∷ []) refl (plain_tells n conn.0 l.moment why (conn.0 == n)) (begins_known plan js bs l.sessions known n);
        last = (λ e. absurd (let z : Turns until (happening.Accepted conn) ≡ Closes n = e in cc z), tt);
        knows = knows_opened plan Q (q_left (rules_of plan)) q_own K E (keeps plan) js bs l until conn mind above known;
      },
      λ gone low.
          let other = above_other bs conn.0 n above low in
          ((if_none (conn.0 == n) (x ∷ []) other, refl), session_of-last n l.sessions s other ∙ gone),
    )

runs_away : (plan : Plan) (ss : List (Session ModelEnd)) (m : ℕ) (why : Event) (until : Option ℕ) (conn : Conn)
    → E (record { moment = m; conn = conn.0; event = why; outcomes = [] } ∷ []) (Closes conn.0 ∷ [])
    → R plan ss ss (away until conn (record { moment = m; conn = conn.0; event = why; outcomes = [] }))
unfolding Lasts of calls_at entries_in calls_in given_of
runs_away plan ss m why until conn e = λ js bs rises known n.
    let x : JournalEntry = record { moment = m; conn = conn.0; event = why; outcomes = [] } in
    let above = accepted_above plan Q (q_left (rules_of plan)) q_own K E (keeps plan) bs (Closes conn.0 ∷ []) until conn rises in (
      record {
        goes = nothing_goes n (given_of n bs) (octets_of_entries (of n js)) (away until conn x) refl (plain_tells n conn.0 m why (conn.0 == n)) (begins_known plan js bs ss known n);
        last = (λ z. absurd (let y : Turns until (happening.Accepted conn) ≡ Closes n = z in cc y), (λ z. nothing_silent n, tt));
        knows = knows_away plan Q (q_left (rules_of plan)) q_own K E (keeps plan) js bs ss m why until conn above e known;
      },
      λ gone low.
          let other = above_other bs conn.0 n above low in
          ((if_none (conn.0 == n) (x ∷ []) other, if_none (conn.0 == n) (Closes conn.0 ∷ []) other), gone),
    )

wise : (plan : Plan) → Orderwise plan (Runs plan)
unfolding Runs
wise plan = record {
  none = runs_none plan;
  then_ = runs_then plan;
  visit = λ m visit k ss a. runs_visit plan m visit k ss a;
  turned = runs_turned plan;
  opened = runs_opened plan;
  full = λ ss m live until conn most. runs_away plan ss m (event.Full live) until conn ((keeps plan).full m conn.0 live most);
  unserved = λ ss m handed until conn. runs_away plan ss m (event.Unserved handed) until conn ((keeps plan).unserved m conn.0 handed);
}

runs : (plan : Plan) (c : Course ModelEnd) (turns : List Turn) → R plan c.loop.sessions (run model_ends plan c turns).state.loop.sessions (run model_ends plan c turns).order
unfolding Runs
runs plan c turns = run_wise plan (Runs plan) (wise plan) c turns

-- ---- whole loops

sequenced : (plan : Plan) (o : Out (Course ModelEnd)) → HasOrder o → ((n : ℕ) → Goes n [] [] o.order) → ((n : ℕ) → Lasts n o.order) → IsSequenced plan o
sequenced plan o one goes last = record {
  one = one;
  told = λ conn done rest e. goes_place conn [] [] done rest (subst (λ z. Goes conn [] [] z) (sym e) (goes conn));
  last = λ conn done rest e. lasts_place conn done rest (subst (λ z. Lasts conn z) (sym e) (last conn));
}

serving : (plan : Plan) (c : Course ModelEnd) (turns : List Turn) → c.loop.sessions ≡ [] → Rises 0 (opened_in (run model_ends plan c turns).calls) → IsSequenced plan (run model_ends plan c turns)
unfolding opened_in given_of octets_of_entries of
serving plan c turns none rises =
    let has = order_run model_ends plan c turns in
    let known : Known plan [] [] c.loop.sessions = rw none (knows_none plan Q (q_left (rules_of plan)) q_own K E (keeps plan)) in
    let front : (n : ℕ) → Front plan n [] [] (run model_ends plan c turns).state.loop.sessions (run model_ends plan c turns).order =
    λ n. (runs plan c turns [] [] (subst (λ z. Rises 0 (opened_in z)) (sym has.calls) rises) known n).0 in
    sequenced plan (run model_ends plan c turns) has (λ n. (front n).goes) (λ n. (front n).last)

module _ (plan : Plan) (caller : Caller) where
  -- the opening of a dial
  opening_so : (user : Option Mind) (l : Loop ModelEnd) (conn : ℕ) (a : Met) (n : ℕ)
      → Goes n [] [] (called_by model_ends user plan caller l conn a).order × Lasts n (called_by model_ends user plan caller l conn a).order
  unfolding Lasts of calls_at entries_in calls_in given_of octets_of_entries
  opening_so None l conn a n = (
    nothing_goes n [] [] (called_by model_ends None plan caller l conn a).order refl (plain_tells n conn l.moment (event.Unserved 0) (conn == n)) (record { rest = []; is = refl }),
    (λ z. nothing_silent n, tt),
  )
  opening_so (Some mind) l conn a n =
      let r = rules_of plan in
      let s = begun_dial conn (calling model_ends plan caller l) mind in
      let g = Begins caller.engine plan.rbc (next_u64 l.words).0 in
      let o = served model_ends r l.moment s g a in
      let has = order_served model_ends r l.moment s g a in
      let so = so_served r l.moment conn s g a refl in
      let own = left_served r Own (own_calls r).quiet l.moment s g a (steady_handled r (λ g. Unit {0}) Own (own_steady r) all_given.usual l.moment s g (first_answer_of nothing_said a.says) tt) in (
        elim (cases_Bool (conn == n)) [
          | inl e ↦ subst (λ z. Goes z [] [] o.order) (eqb-true conn n e) (so.goes [] [] (record { number = refl; rest = []; is = refl; whole = λ on. refl }))
          | inr e ↦
              let q = left_silent n s o.state o.entries o.calls own e in
              silent_goes n [] [] o.order (ap (λ z. of n z) has.entries ∙ q.0, ap (λ z. calls_at n z) has.calls ∙ q.1) (record { rest = []; is = refl })
        ],
        ends_lasts n o.order so.ends,
      )

  opens_so : (c : Course ModelEnd) (conn : ℕ) (a : Met) (n : ℕ) → Goes n [] [] (opens model_ends plan caller c conn a).order × Lasts n (opens model_ends plan caller c conn a).order
  unfolding called
  opens_so c conn a n = opening_so (next_user c.loop.users) c.loop conn a n

  -- with the dial before it
  opened_front : (c : Course ModelEnd) (conn : ℕ) (address : List ℕ) (a : Met) (n : ℕ)
      → Goes n [] [] (Calling (Dials address (Some conn)) ∷ (opens model_ends plan caller c conn a).order) × Lasts n (Calling (Dials address (Some conn)) ∷ (opens model_ends plan caller c conn a).order)
  unfolding Lasts of entries_in calls_in given_of octets_of_entries
  opened_front c conn address a n =
      let so = opens_so c conn a n in ((record { rest = []; is = refl }, so.0), (λ z. absurd (let y : Dials address (Some conn) ≡ Closes n = z in cc y), so.1))

  first_known : (at : ℕ) (l : Loop ModelEnd) (conn : ℕ) (mind : Mind) → l.moment ≡ at
      → K (fed model_ends (rules_of plan) l.moment (begun_dial conn (calling model_ends plan caller l) mind) (Begins caller.engine plan.rbc (next_u64 l.words).0)).0
      (fed model_ends (rules_of plan) l.moment (begun_dial conn (calling model_ends plan caller l) mind) (Begins caller.engine plan.rbc (next_u64 l.words).0)).1 []
  unfolding K
  first_known at l conn mind now = (givings.first plan caller l conn mind, tt)

  opens_known : (c : Course ModelEnd) (conn : ℕ) (address : List ℕ) (a : Met) → c.loop.sessions ≡ []
      → Known plan (opens model_ends plan caller c conn a).entries (Dials address (Some conn) ∷ (opens model_ends plan caller c conn a).calls) (opens model_ends plan caller c conn a).state.loop.sessions
  unfolding called
  opens_known c conn address a none =
      let at = c.loop.moment in
      knows_called plan caller Q (q_left (rules_of plan)) q_own K E (keeps plan) at
      (first_handled plan caller (λ g. Unit {0}) Q (q_steady (rules_of plan)) all_given.usual (q_left (rules_of plan)) q_own K E (keeps plan) at (first_known at))
      (next_user c.loop.users) c.loop conn address a none refl

  dialled : (c : Course ModelEnd) (conn : ℕ) (address : List ℕ) (a : Met) (turns : List Turn) → c.loop.sessions ≡ []
      → let o = opens model_ends plan caller c conn a in let e = run model_ends plan o.state turns in
      Rises 0 (opened_in (calls_in ((Calling (Dials address (Some conn)) ∷ o.order) ++ e.order)))
      → (n : ℕ) → Goes n [] [] ((Calling (Dials address (Some conn)) ∷ o.order) ++ e.order) × Lasts n ((Calling (Dials address (Some conn)) ∷ o.order) ++ e.order)
  unfolding opened_in given_of octets_of_entries of called entries_in calls_in
  dialled c conn address a turns none rises n =
      let o = opens model_ends plan caller c conn a in
      let e = run model_ends plan o.state turns in
      let ds : List LoopDeed = Calling (Dials address (Some conn)) ∷ o.order in
      let has = order_opens model_ends plan caller c conn a in
      let so = opened_front c conn address a n in
      let known : Known plan (entries_in ds) (calls_in ds) o.state.loop.sessions =
      subst₂ (λ (x : List JournalEntry) (y : List Call). Known plan x (Dials address (Some conn) ∷ y) o.state.loop.sessions) (sym has.entries) (sym has.calls) (opens_known c conn address a none) in
      let front : Front plan n [] [] o.state.loop.sessions ds = record { goes = so.0; last = so.1; knows = known } in
      let rest : Rises (newest 0 (opened_in (calls_in ds))) (opened_in (calls_in e.order)) =
      rises_rest 0 (opened_in (calls_in ds)) (opened_in (calls_in e.order)) (subst (λ z. Rises 0 z) (opened_parts ds e.order) rises) in
      let more = runs plan o.state turns (entries_in ds) (calls_in ds) rest known n in
      let all = front_then plan n [] [] o.state.loop.sessions e.state.loop.sessions ds e.order front more.0 more.1 in
      (all.goes, all.last)

  dials_so : (conn : Option ℕ) (c : Course ModelEnd) (address : List ℕ) (a : Dialled) → c.loop.sessions ≡ [] → Rises 0 (opened_in (calls_in (dials_to model_ends conn plan caller c address a).order))
      → (n : ℕ) → Goes n [] [] (dials_to model_ends conn plan caller c address a).order × Lasts n (dials_to model_ends conn plan caller c address a).order
  unfolding Lasts of entries_in calls_in given_of octets_of_entries
  dials_so None c address a none rises n = (
    nothing_goes n [] [] (Calling (Dials address None) ∷ []) refl refl (record { rest = []; is = refl }),
    (λ z. absurd (let y : Dials address None ≡ Closes n = z in cc y), tt),
  )
  dials_so (Some conn) c address a none rises n = dialled (asks a.first c) conn address a.met a.turns none rises n

  dialling : (c : Course ModelEnd) (address : List ℕ) (a : Dialled) → c.loop.sessions ≡ [] → Rises 0 (opened_in (dials model_ends plan caller c address a).calls) → IsSequenced plan (dials model_ends plan caller c address a)
  unfolding dials
  dialling c address a none rises =
      let has = order_dials model_ends plan caller c address a in
      let so : (n : ℕ) → Goes n [] [] (dials model_ends plan caller c address a).order × Lasts n (dials model_ends plan caller c address a).order =
      λ n. dials_so a.conn c address a none (subst (λ z. Rises 0 (opened_in z)) (sym has.calls) rises) n in
      sequenced plan (dials model_ends plan caller c address a) has (λ n. (so n).0) (λ n. (so n).1)

pub order_is_kept : OrderIsKept
order_is_kept = record {
  serving = λ plan c turns h. serving plan c turns h.none h.rises;
  dialling = λ plan caller c address a h. dialling plan caller c address a h.none h.rises;
}

pub opening_is_kept : OpeningIsKept
unfolding given_of octets_of_entries of
opening_is_kept plan caller c conn a =
    sequenced plan (opens model_ends plan caller c conn a) (order_opens model_ends plan caller c conn a) (λ n. (opens_so plan caller c conn a n).0) (λ n. (opens_so plan caller c conn a n).1)
