-- What is known of all connections of a run holds of a dial too: its one connection is opened by a call.
use Rattle.loop_model.specs.Ends.{ModelEnd, model_ends}
use Rattle.std.proofs.Common.{if◌then◌else◌, ◌≡◌, ℕ, ◌<◌, max, inl, inr, Bool, false, List, [], ◌∷◌, ◌++◌, Option, Some, None, refl, sym, ◌∙◌, subst, arith, eqb-true, ne_eqb}
use Rattle.std.specs.Prelude.{◌==◌}
use Rattle.std.proofs.lemmas.Bool.{cases_Bool}
use Rattle.er_trace.specs.declared.event.Event.TheVariants as event
use Rattle.er_users.specs.Users.{Mind}
use Rattle.rand_core.specs.Stream.{next_u64}
use Rattle.link_trait.specs.Wires.{Call, Dials, Closes}
use Rattle.loop_model.specs.Journals.{JournalEntry}
use Rattle.loop_model.specs.Outs.{first_answer_of}
use Rattle.loop_model.specs.Sessions.{Session, GivenToSession, Begins, Says, fed, nothing_said, handled}
use Rattle.loop_model.specs.Visits.{Met, rests, served}
use Rattle.loop_model.specs.Loops.{Plan, rules_of, Loop, next_user, Caller, calling, called_by, called, Course, asks, Turn, run, Dialled, opens, dials_to, dials, begun_dial}
use Rattle.loop_model.specs.Parts.{session_of_connection, of, calls_at, opened_in, Rises, newest}
use Rattle.loop_model.proofs.Projections.{of-append, opened_in-append, rises_rest}
use Rattle.loop_model.proofs.Steadies.{Steady, Usual, Left, Stays, Closed, AllLeft, steady_handled, follows_handled}
use Rattle.loop_model.proofs.Lives.{Own, Keeps, LeftAt, own_left, fits_left, Fits, Apart, Knows, knows_on}
use Rattle.loop_model.proofs.Owns.{own_steady}

any_usual : Usual (λ g. Unit {0})
any_usual = record { sends = λ text. tt; leaves = λ sub. tt; takes = tt }

-- the session that an opening leaves
abbrev list_of : Option (Session ModelEnd) → List (Session ModelEnd)
list_of None = []
list_of (Some s) = s ∷ []

abbrev IsNumbered : ℕ → Option (Session ModelEnd) → Type 0
IsNumbered conn None = Unit {0}
IsNumbered conn (Some s) = s.number ≡ conn

session_left : (conn n : ℕ) (left : Option (Session ModelEnd)) → IsNumbered conn left → session_of_connection n (list_of left) ≡ (if conn == n then left else None)
unfolding session_of_connection
session_left conn n None p = elim (cases_Bool (conn == n)) [ inl q ↦ rw q refl | inr q ↦ rw q refl ]
session_left conn n (Some s) p = subst (λ z. (if s.number == n then Some s else None) ≡ (if z == n then Some s else None)) p refl

apart_left : (left : Option (Session ModelEnd)) → Apart (list_of left)
unfolding Apart session_of_connection
apart_left None = tt
apart_left (Some s) = (refl, tt)

if_false : {A : Type 0} (b : Bool) (x y : A) → b ≡ false → (if b then x else y) ≡ y
if_false b x y p = rw p refl

module _ (plan : Plan) (caller : Caller) (Q : Session ModelEnd → Session ModelEnd → List JournalEntry → List Call → Type 0)
    (c : AllLeft (rules_of plan) Q) (own : (s t : Session ModelEnd) (xs : List JournalEntry) (cs : List Call) → Q s t xs cs → Own s t xs cs)
    (K : Session ModelEnd → List JournalEntry → List Call → Type 0) (E : List JournalEntry → List Call → Type 0) (k : Keeps plan Q K E)
  where
    abbrev Known : List JournalEntry → List Call → List (Session ModelEnd) → Type 0
    Known js bs ss = Knows plan Q c own K E k js bs ss

    -- what an opening leaves
    knows_left : (conn : ℕ) (address : List ℕ) (t : Session ModelEnd) (xs ys : List JournalEntry) (ds : List Call) (left : Option (Session ModelEnd))
        → t.number ≡ conn → IsNumbered conn left → ((n : ℕ) → of n xs ≡ (if conn == n then xs else [])) → K t xs [] → LeftAt plan Q c own K E k t left ys ds
        → Known (xs ++ ys) (Dials address (Some conn) ∷ ds) (list_of left)
    unfolding calls_at opened_in Fits
    knows_left conn address t xs ys ds left num is_left mine h l =
        let o = own_left plan Q c own K E k t left ys ds l in
        let entries : (n : ℕ) → of n ys ≡ (if conn == n then ys else []) = λ n. subst (λ z. of n ys ≡ (if z == n then ys else [])) num (o.entries n) in
        let calls : (n : ℕ) → calls_at n ds ≡ (if conn == n then ds else []) = λ n. subst (λ z. calls_at n ds ≡ (if z == n then ds else [])) num (o.calls n) in
        record {
          fits = λ n.
              rw (of-append n xs ys, mine n, entries n, calls n, session_left conn n left is_left)
              (elim (cases_Bool (conn == n)) [
                | inl p ↦ rw p (fits_left plan Q c own K E k t left n xs ys [] ds (num ∙ eqb-true conn n p) h l)
                | inr p ↦ rw p k.never
              ]);
          apart = apart_left left;
          low = λ n lt.
              let up : conn < n = subst (λ z. newest conn z < n) o.opens lt in
              let p : (conn == n) ≡ false = ne_eqb conn n (λ e. let x : ⊥ = omega arith in x) in (
                of-append n xs ys ∙ rw (mine n, entries n, p) refl,
                calls n ∙ if_false (conn == n) ds [] p,
                session_left conn n left is_left ∙ if_false (conn == n) left None p,
              );
        }

    left_of : (conn : ℕ) (address : List ℕ) (t : Session ModelEnd) (ts : List (Session ModelEnd)) (xs ys : List JournalEntry) (ds : List Call)
        → t.number ≡ conn → ((n : ℕ) → of n xs ≡ (if conn == n then xs else [])) → K t xs [] → Left Q t ts ys ds
        → Known (xs ++ ys) (Dials address (Some conn) ∷ ds) ts
    unfolding LeftAt
    left_of conn address t ts xs ys ds num mine h (Stays u p l) =
        rw p (knows_left conn address t xs ys ds (Some u) num ((own t u ys ds l).number ∙ num) mine h l)
    left_of conn address t ts xs ys ds num mine h (Closed u es over p e l) =
        rw p (knows_left conn address t xs ys ds None num tt mine h (u, es, over, e, l))

    knows_away : (conn m : ℕ) (address : List ℕ)
        → Known (record { moment = m; conn = conn; event = event.Unserved 0; outcomes = [] } ∷ []) (Dials address (Some conn) ∷ Closes conn ∷ []) []
    unfolding calls_at opened_in Fits of session_of_connection Apart
    knows_away conn m address = record {
      fits = λ n. elim (cases_Bool (conn == n)) [ inl p ↦ rw p (k.unserved m conn 0) | inr p ↦ rw p k.never ];
      apart = tt;
      low = λ n up.
          let p : (conn == n) ≡ false = ne_eqb conn n (λ e. let x : ⊥ = omega arith in x) in (
            if_false (conn == n) (record { moment = m; conn = conn; event = event.Unserved 0; outcomes = [] } ∷ []) [] p,
            if_false (conn == n) (Closes conn ∷ []) [] p,
            refl,
          );
    }

    -- of the session that begins, where all that comes of its opening is known
    abbrev KnowsFirst : ℕ → Type 0
    KnowsFirst at =
        (mind : Mind) (l : Loop ModelEnd) (conn : ℕ) (address : List ℕ) (a : Met) → l.sessions ≡ [] → l.moment ≡ at
        → Known (called_by model_ends (Some mind) plan caller l conn a).entries (Dials address (Some conn) ∷ (called_by model_ends (Some mind) plan caller l conn a).calls) (called_by model_ends (Some mind) plan caller l conn a).state.sessions

    module _ (at : ℕ) (begins : KnowsFirst at) where
      knows_by : (user : Option Mind) (l : Loop ModelEnd) (conn : ℕ) (address : List ℕ) (a : Met) → l.sessions ≡ [] → l.moment ≡ at
          → Known (called_by model_ends user plan caller l conn a).entries (Dials address (Some conn) ∷ (called_by model_ends user plan caller l conn a).calls) (called_by model_ends user plan caller l conn a).state.sessions
      knows_by None l conn address a none now = rw none (knows_away conn l.moment address)
      knows_by (Some mind) l conn address a none now = begins mind l conn address a none now

      -- a dial that opened its connection, and the run behind it
      knows_opened : (d : Course ModelEnd) (conn : ℕ) (address : List ℕ) (a : Met) (turns : List Turn) → d.loop.sessions ≡ [] → d.loop.moment ≡ at
          → Rises 0 (opened_in (Dials address (Some conn) ∷ ((opens model_ends plan caller d conn a).calls ++ (run model_ends plan (opens model_ends plan caller d conn a).state turns).calls)))
          → Known ((opens model_ends plan caller d conn a).entries ++ (run model_ends plan (opens model_ends plan caller d conn a).state turns).entries)
          (Dials address (Some conn) ∷ ((opens model_ends plan caller d conn a).calls ++ (run model_ends plan (opens model_ends plan caller d conn a).state turns).calls))
          (run model_ends plan (opens model_ends plan caller d conn a).state turns).state.loop.sessions
      unfolding called
      knows_opened d conn address a turns none now rises =
          let o = opens model_ends plan caller d conn a in
          let e = run model_ends plan o.state turns in
          let bs : List Call = Dials address (Some conn) ∷ o.calls in
          let r = subst (λ z. Rises 0 z) (opened_in-append bs e.calls) rises in
          knows_on plan Q c own K E k o.state turns o.entries bs (rises_rest 0 (opened_in bs) (opened_in e.calls) r)
          (knows_by (next_user d.loop.users) d.loop conn address a none now)

      knows_to : (conn : Option ℕ) (d : Course ModelEnd) (address : List ℕ) (a : Dialled) → d.loop.sessions ≡ [] → max d.loop.moment a.first ≡ at
          → Rises 0 (opened_in (dials_to model_ends conn plan caller d address a).calls)
          → Known (dials_to model_ends conn plan caller d address a).entries (dials_to model_ends conn plan caller d address a).calls (dials_to model_ends conn plan caller d address a).state.loop.sessions
      unfolding calls_at opened_in Fits of session_of_connection Apart
      knows_to None d address a none now rises = rw none (record { fits = λ n. k.never; apart = tt; low = λ n up. (refl, refl, refl) })
      knows_to (Some conn) d address a none now rises = knows_opened (asks a.first d) conn address a.met a.turns none now rises

      knows_from : (d : Course ModelEnd) (address : List ℕ) (a : Dialled) → d.loop.sessions ≡ [] → max d.loop.moment a.first ≡ at
          → Rises 0 (opened_in (dials model_ends plan caller d address a).calls)
          → Known (dials model_ends plan caller d address a).entries (dials model_ends plan caller d address a).calls (dials model_ends plan caller d address a).state.loop.sessions
      unfolding dials
      knows_from d address a none now rises = knows_to a.conn d address a none now rises

    -- where it holds behind the events of the opening
    module _ (at : ℕ) (first : (l : Loop ModelEnd) (conn : ℕ) (mind : Mind) (says : Says) → l.moment ≡ at
        → K (handled model_ends (rules_of plan) l.moment (begun_dial conn (calling model_ends plan caller l) mind) (Begins caller.engine plan.rbc (next_u64 l.words).0) says).0
        (handled model_ends (rules_of plan) l.moment (begun_dial conn (calling model_ends plan caller l) mind) (Begins caller.engine plan.rbc (next_u64 l.words).0) says).1 [])
      where
        begins_handled : KnowsFirst at
        unfolding served
        begins_handled mind l conn address a none now =
            let r = rules_of plan in
            let m = l.moment in
            let s = begun_dial conn (calling model_ends plan caller l) mind in
            let g = Begins caller.engine plan.rbc (next_u64 l.words).0 in
            let says = first_answer_of nothing_said a.says in
            let h = handled model_ends r m s g says in
            let o = steady_handled r (λ g. Unit {0}) Own (own_steady r) any_usual m s g says tt in
            left_of conn address h.0 (rests model_ends r m h.0 a.wrote).state h.1 (rests model_ends r m h.0 a.wrote).entries (rests model_ends r m h.0 a.wrote).calls
            o.number o.entries (first l conn mind says now) (c.at_rest m h.0 a.wrote)

        pub knows_called : (user : Option Mind) (l : Loop ModelEnd) (conn : ℕ) (address : List ℕ) (a : Met) → l.sessions ≡ [] → l.moment ≡ at
            → Known (called_by model_ends user plan caller l conn a).entries (Dials address (Some conn) ∷ (called_by model_ends user plan caller l conn a).calls) (called_by model_ends user plan caller l conn a).state.sessions
        knows_called user l conn address a none now = knows_by at begins_handled user l conn address a none now

        pub knows_dial_of : (d : Course ModelEnd) (address : List ℕ) (a : Dialled) → d.loop.sessions ≡ [] → max d.loop.moment a.first ≡ at
            → Rises 0 (opened_in (dials model_ends plan caller d address a).calls)
            → Known (dials model_ends plan caller d address a).entries (dials model_ends plan caller d address a).calls (dials model_ends plan caller d address a).state.loop.sessions
        knows_dial_of d address a none now rises = knows_from at begins_handled d address a none now rises

    -- where it holds before the opening, of no events and no calls, and the opening is as a visit
    module _ (new : (l : Loop ModelEnd) (conn : ℕ) (mind : Mind) → K (begun_dial conn (calling model_ends plan caller l) mind) [] [])
        (opening : (m : ℕ) (s : Session ModelEnd) (g : GivenToSession) (a : Met) → Left Q s (served model_ends (rules_of plan) m s g a).state (served model_ends (rules_of plan) m s g a).entries (served model_ends (rules_of plan) m s g a).calls)
      where
        none_of : (conn n : ℕ) → of n [] ≡ (if conn == n then [] else [])
        unfolding of
        none_of conn n = elim (cases_Bool (conn == n)) [ inl p ↦ rw p refl | inr p ↦ rw p refl ]

        begins_served : (at : ℕ) → KnowsFirst at
        begins_served at mind l conn address a none now =
            let r = rules_of plan in
            let s = begun_dial conn (calling model_ends plan caller l) mind in
            let g = Begins caller.engine plan.rbc (next_u64 l.words).0 in
            let o = served model_ends r l.moment s g a in
            left_of conn address s o.state [] o.entries o.calls refl (none_of conn) (new l conn mind) (opening l.moment s g a)

        pub knows_dial_served : (at : ℕ) (d : Course ModelEnd) (address : List ℕ) (a : Dialled) → d.loop.sessions ≡ [] → max d.loop.moment a.first ≡ at
            → Rises 0 (opened_in (dials model_ends plan caller d address a).calls)
            → Known (dials model_ends plan caller d address a).entries (dials model_ends plan caller d address a).calls (dials model_ends plan caller d address a).state.loop.sessions
        knows_dial_served at d address a none now rises = knows_from at (begins_served at) d address a none now rises

-- the same, where what holds behind the first event is kept by all that follows it
module _ (plan : Plan) (caller : Caller) (Allowed : GivenToSession → Type 0) (Q : Session ModelEnd → Session ModelEnd → List JournalEntry → List Call → Type 0) (q : Steady (rules_of plan) Allowed Q) (usual : Usual Allowed)
    (c : AllLeft (rules_of plan) Q) (own : (s t : Session ModelEnd) (xs : List JournalEntry) (cs : List Call) → Q s t xs cs → Own s t xs cs)
    (K : Session ModelEnd → List JournalEntry → List Call → Type 0) (E : List JournalEntry → List Call → Type 0) (k : Keeps plan Q K E)
    (at : ℕ) (first : (l : Loop ModelEnd) (conn : ℕ) (mind : Mind) → l.moment ≡ at
    → K (fed model_ends (rules_of plan) l.moment (begun_dial conn (calling model_ends plan caller l) mind) (Begins caller.engine plan.rbc (next_u64 l.words).0)).0
    (fed model_ends (rules_of plan) l.moment (begun_dial conn (calling model_ends plan caller l) mind) (Begins caller.engine plan.rbc (next_u64 l.words).0)).1 [])
  where
    pub first_handled : (l : Loop ModelEnd) (conn : ℕ) (mind : Mind) (says : Says) → l.moment ≡ at
        → K (handled model_ends (rules_of plan) l.moment (begun_dial conn (calling model_ends plan caller l) mind) (Begins caller.engine plan.rbc (next_u64 l.words).0) says).0
        (handled model_ends (rules_of plan) l.moment (begun_dial conn (calling model_ends plan caller l) mind) (Begins caller.engine plan.rbc (next_u64 l.words).0) says).1 []
    first_handled l conn mind says now =
        let r = rules_of plan in
        let m = l.moment in
        let s = begun_dial conn (calling model_ends plan caller l) mind in
        let g = Begins caller.engine plan.rbc (next_u64 l.words).0 in
        let h = handled model_ends r m s g says in
        let f = follows_handled r Allowed Q q usual m s g says in
        subst (λ z. K h.0 z []) (sym f.is) (k.visit (fed model_ends r m s g).0 h.0 (fed model_ends r m s g).1 f.rest [] [] (first l conn mind now) f.holds)

    pub knows_dial : (d : Course ModelEnd) (address : List ℕ) (a : Dialled) → d.loop.sessions ≡ [] → max d.loop.moment a.first ≡ at
        → Rises 0 (opened_in (dials model_ends plan caller d address a).calls)
        → Knows plan Q c own K E k (dials model_ends plan caller d address a).entries (dials model_ends plan caller d address a).calls (dials model_ends plan caller d address a).state.loop.sessions
    knows_dial d address a none now rises = knows_dial_of plan caller Q c own K E k at first_handled d address a none now rises
