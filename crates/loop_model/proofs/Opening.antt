-- What comes of a connection that is accepted or dialled.
use Rattle.loop_model.specs.Ends.{ModelEnd, model_ends}
use Rattle.std.proofs.Common.{◌≡◌, ℕ, inl, inr, Bool, true, false, List, [], ◌∷◌, ◌++◌, length, drop, Option, Some, None, refl, sym, ◌∙◌, ap, subst}
use Rattle.std.specs.Prelude.{nat_lt}
use Rattle.std.proofs.lemmas.Bool.{cases_Bool}
use Rattle.er_users.specs.Users.{Mind}
use Rattle.rand_core.specs.Stream.{next_u64}
use Rattle.trace_model.specs.Checks.{names, role_of, most_live}
use Rattle.link_trait.specs.Wires.{Call, Dials, Turns}
use Rattle.link_trait.specs.declared.wires.Conn.{Conn}
use Rattle.link_trait.specs.declared.wires.Happening.{Happening}
use Rattle.link_trait.specs.declared.wires.Happening.TheVariants as happening
use Rattle.loop_model.specs.Journals.{JournalEntry}
use Rattle.loop_model.specs.Outs.{first_answer_of}
use Rattle.loop_model.specs.Sessions.{Rules, Session, fed, dealt, handled}
use Rattle.loop_model.specs.Visits.{Met, nothing_met, Visit, Tick, Read, Write, Expire, visited, served}
use Rattle.loop_model.specs.Loops.{Plan, rules_of, Loop, visit_at, numbers, swept, Sweeps, before, until, next_user, answered_by, accepted, happened, Caller, called_by, called, Halt, Course, asks, Turn, readied, turned_unless, went_unless, went, run, Dialled, opens, dials_to, dials}
use Rattle.loop_model.specs.Openings.{openings, closed_by, answer_or_unserved, event_of_accepted_connection, openings_due, openings_unless, OpeningsAreTold, call_or_unserved, call_by, first_event, BeginsWith, DialIsOpened}
use Rattle.loop_model.proofs.Replaying.{ArePlain, plain_visit}

openings-append : (xs ys : List JournalEntry) → openings (xs ++ ys) ≡ openings xs ++ openings ys
unfolding openings
openings-append [] ys = refl
openings-append (x ∷ xs) ys =
    elim (cases_Bool (names (role_of x.event))) [
      | inl p ↦ rw p (ap (λ z. (x.conn, x.event) ∷ z) (openings-append xs ys))
      | inr p ↦ rw p (openings-append xs ys)
    ]

none_two : (xs ys : List JournalEntry) → openings xs ≡ [] → openings ys ≡ [] → openings (xs ++ ys) ≡ []
none_two xs ys p q = openings-append xs ys ∙ ap (λ z. z ++ openings ys) p ∙ q

plain_none : (m n : ℕ) (xs : List JournalEntry) → ArePlain m n xs → openings xs ≡ []
unfolding openings
plain_none m n [] p = refl
plain_none m n (x ∷ xs) p = rw p.0.role (plain_none m n xs p.1)

-- ---- visits

module _ (r : Rules) (m : ℕ) where
  visit_none : (visit : Visit) (n : ℕ) (ss : List (Session ModelEnd)) (a : Met) → openings (visit_at (visited model_ends r m visit) n ss a).entries ≡ []
  visit_none visit n ss a = plain_none m n (visit_at (visited model_ends r m visit) n ss a).entries (plain_visit r m visit n ss a)

  swept_none : (visit : Visit) (ns : List ℕ) (ss : List (Session ModelEnd)) (answers : List Met) → openings (swept (visited model_ends r m visit) ns ss answers).entries ≡ []
  unfolding swept openings
  swept_none visit [] ss answers = refl
  swept_none visit (n ∷ ns) ss answers =
      let o = visit_at (visited model_ends r m visit) n ss (first_answer_of nothing_met answers) in
      none_two o.entries (swept (visited model_ends r m visit) ns o.state (drop 1 answers)).entries
      (visit_none visit n ss (first_answer_of nothing_met answers)) (swept_none visit ns o.state (drop 1 answers))

  before_none : (ss : List (Session ModelEnd)) (a : Sweeps) → openings (before model_ends r m ss a).entries ≡ []
  unfolding before
  before_none ss a =
      let t = swept (visited model_ends r m Tick) (numbers ss) ss a.ticks in
      let u = swept (visited model_ends r m Expire) (numbers t.state) t.state a.closings in
      none_two t.entries u.entries (swept_none Tick (numbers ss) ss a.ticks) (swept_none Expire (numbers t.state) t.state a.closings)

-- ---- a turn

answered_so : (user : Option Mind) (memory : Bool) (plan : Plan) (l : Loop ModelEnd) (conn : ℕ)
    → openings (answered_by model_ends user memory plan l conn).entries ≡ (conn, answer_or_unserved user memory plan (length l.sessions) (next_u64 l.words).0) ∷ []
unfolding openings
answered_so None memory plan l conn = refl
answered_so (Some mind) true plan l conn = refl
answered_so (Some mind) false plan l conn = refl

accepted_so : (plan : Plan) (l : Loop ModelEnd) (conn : ℕ) (memory : Bool)
    → openings (accepted model_ends plan l conn memory).entries ≡ (conn, event_of_accepted_connection plan l memory) ∷ []
unfolding accepted openings
accepted_so plan l conn memory =
    elim (cases_Bool (nat_lt (length l.sessions) most_live)) [ inl p ↦ rw p (answered_so (next_user l.users) memory plan l conn) | inr p ↦ rw p refl ]

happened_so : (plan : Plan) (l : Loop ModelEnd) (what : Happening) (a : Met) → openings (happened model_ends plan l what a).entries ≡ openings_due what (event_of_accepted_connection plan l a.memory)
unfolding happened openings
happened_so plan l (happening.Accepted conn) a = accepted_so plan l conn.0 a.memory
happened_so plan l (happening.Readable conn) a = visit_none (rules_of plan) l.moment Read conn.0 l.sessions a
happened_so plan l (happening.Writable conn) a = visit_none (rules_of plan) l.moment Write conn.0 l.sessions a
happened_so plan l happening.Quiet a = refl
happened_so plan l happening.Ended a = refl
happened_so plan l happening.Failed a = refl

turned_so : (halt : Option Halt) (plan : Plan) (d : Course ModelEnd) (a : Turn) → openings (turned_unless model_ends halt plan d a).entries ≡ openings_unless halt a.happening (event_of_accepted_connection plan d.loop a.met.memory)
unfolding openings
turned_so (Some halt) plan d a = refl
turned_so None plan d a = happened_so plan (asks a.second d).loop a.happening a.met

readied_none : (plan : Plan) (c : Course ModelEnd) (a : Turn) → openings (readied model_ends plan c a).entries ≡ []
unfolding readied
readied_none plan c a = let d = asks a.first c in before_none (rules_of plan) d.loop.moment d.loop.sessions a.sweeps

went_so : (halt : Option Halt) (plan : Plan) (c : Course ModelEnd) (a : Turn) → halt ≡ None
    → openings (went_unless model_ends halt plan c a).entries ≡ openings_unless (readied model_ends plan c a).state.halt a.happening (event_of_accepted_connection plan (readied model_ends plan c a).state.loop a.met.memory)
went_so (Some halt) plan c a p = absurd (let q : ⊥ = cc in q)
went_so None plan c a p =
    let d = readied model_ends plan c a in
    let t = turned_unless model_ends d.state.halt plan d.state a in
    openings-append d.entries t.entries ∙ ap (λ z. z ++ openings t.entries) (readied_none plan c a) ∙ turned_so d.state.halt plan d.state a

-- ---- calls

answered_calls : (user : Option Mind) (memory : Bool) (plan : Plan) (l : Loop ModelEnd) (conn : ℕ)
    → (answered_by model_ends user memory plan l conn).calls ≡ closed_by (role_of (answer_or_unserved user memory plan (length l.sessions) (next_u64 l.words).0)) conn
answered_calls None memory plan l conn = refl
answered_calls (Some mind) true plan l conn = refl
answered_calls (Some mind) false plan l conn = refl

accepted_calls : (plan : Plan) (l : Loop ModelEnd) (conn : ℕ) (memory : Bool)
    → (accepted model_ends plan l conn memory).calls ≡ closed_by (role_of (event_of_accepted_connection plan l memory)) conn
unfolding accepted
accepted_calls plan l conn memory =
    elim (cases_Bool (nat_lt (length l.sessions) most_live)) [ inl p ↦ rw p (answered_calls (next_user l.users) memory plan l conn) | inr p ↦ rw p refl ]

happened_calls : (plan : Plan) (l : Loop ModelEnd) (what : Happening) (a : Met) (conn : Conn) → what ≡ happening.Accepted conn
    → (happened model_ends plan l what a).calls ≡ closed_by (role_of (event_of_accepted_connection plan l a.memory)) conn.0
unfolding happened
happened_calls plan l what a conn p = ap (λ z. (happened model_ends plan l z a).calls) p ∙ accepted_calls plan l conn.0 a.memory

turned_calls : (halt : Option Halt) (plan : Plan) (d : Course ModelEnd) (a : Turn) (conn : Conn) → halt ≡ None → a.happening ≡ happening.Accepted conn
    → (turned_unless model_ends halt plan d a).calls ≡ Turns (until model_ends d.loop.sessions) a.happening ∷ closed_by (role_of (event_of_accepted_connection plan d.loop a.met.memory)) conn.0
turned_calls (Some halt) plan d a conn p q = absurd (let x : ⊥ = cc in x)
turned_calls None plan d a conn p q =
    ap (λ z. Turns (until model_ends d.loop.sessions) a.happening ∷ z) (happened_calls plan (asks a.second d).loop a.happening a.met conn q)

went_calls : (halt : Option Halt) (plan : Plan) (c : Course ModelEnd) (a : Turn) (conn : Conn) → halt ≡ None → (readied model_ends plan c a).state.halt ≡ None → a.happening ≡ happening.Accepted conn
    → (went_unless model_ends halt plan c a).calls
    ≡ (readied model_ends plan c a).calls ++ Turns (until model_ends (readied model_ends plan c a).state.loop.sessions) a.happening ∷ closed_by (role_of (event_of_accepted_connection plan (readied model_ends plan c a).state.loop a.met.memory)) conn.0
went_calls (Some halt) plan c a conn p q e = absurd (let x : ⊥ = cc in x)
went_calls None plan c a conn p q e =
    let d = readied model_ends plan c a in ap (λ z. d.calls ++ z) (turned_calls d.state.halt plan d.state a conn q e)

pub openings_are_told : OpeningsAreTold
unfolding went
openings_are_told = record {
  events = λ plan c a live. went_so c.halt plan c a live;
  closed = λ plan c a conn live on e. went_calls c.halt plan c a conn live on e;
}

-- ---- a dial

first_called : (user : Option Mind) (plan : Plan) (caller : Caller) (l : Loop ModelEnd) (conn : ℕ) (a : Met) (ys : List JournalEntry)
    → first_event ((called_by model_ends user plan caller l conn a).entries ++ ys) ≡ Some (conn, call_or_unserved user plan caller (next_u64 l.words).0)
unfolding served handled dealt fed
first_called None plan caller l conn a ys = refl
first_called (Some mind) plan caller l conn a ys = refl

begins_called : (user : Option Mind) (plan : Plan) (caller : Caller) (l : Loop ModelEnd) (conn : ℕ) (a : Met) → BeginsWith (called_by model_ends user plan caller l conn a).calls (closed_by (role_of (call_or_unserved user plan caller (next_u64 l.words).0)) conn)
begins_called None plan caller l conn a = record { rest = []; is = refl }
begins_called (Some mind) plan caller l conn a = record { rest = (called_by model_ends (Some mind) plan caller l conn a).calls; is = refl }

begins_more : (address : List ℕ) (conn : ℕ) (calls first ds : List Call) → BeginsWith calls first → BeginsWith (Dials address (Some conn) ∷ (calls ++ ds)) (Dials address (Some conn) ∷ first)
begins_more address conn calls first ds b = record {
  rest = b.rest ++ ds;
  is = ap (λ z. Dials address (Some conn) ∷ z) (ap (λ z. z ++ ds) b.is ∙ assoc first b.rest ds);
}
  where
    assoc : (xs ys zs : List Call) → (xs ++ ys) ++ zs ≡ xs ++ (ys ++ zs)
    assoc [] ys zs = refl
    assoc (x ∷ xs) ys zs = ap (λ z. x ∷ z) (assoc xs ys zs)

event_to : (to : Option ℕ) (plan : Plan) (caller : Caller) (c : Course ModelEnd) (address : List ℕ) (a : Dialled) (conn : ℕ) → to ≡ Some conn
    → first_event (dials_to model_ends to plan caller c address a).entries ≡ Some (conn, call_by plan caller c.loop)
unfolding called
event_to to plan caller c address a conn p =
    let d = asks a.first c in
    subst (λ z. first_event (dials_to model_ends z plan caller c address a).entries ≡ Some (conn, call_by plan caller c.loop)) (sym p)
    (first_called (next_user c.loop.users) plan caller d.loop conn a.met (run model_ends plan (opens model_ends plan caller d conn a.met).state a.turns).entries)

calls_to : (to : Option ℕ) (plan : Plan) (caller : Caller) (c : Course ModelEnd) (address : List ℕ) (a : Dialled) (conn : ℕ) → to ≡ Some conn
    → BeginsWith (dials_to model_ends to plan caller c address a).calls (Dials address (Some conn) ∷ closed_by (role_of (call_by plan caller c.loop)) conn)
unfolding called
calls_to to plan caller c address a conn p =
    let d = asks a.first c in
    subst (λ z. BeginsWith (dials_to model_ends z plan caller c address a).calls (Dials address (Some conn) ∷ closed_by (role_of (call_by plan caller c.loop)) conn)) (sym p)
    (begins_more address conn (opens model_ends plan caller d conn a.met).calls (closed_by (role_of (call_by plan caller c.loop)) conn) (run model_ends plan (opens model_ends plan caller d conn a.met).state a.turns).calls
    (begins_called (next_user c.loop.users) plan caller d.loop conn a.met))

pub dial_is_opened : DialIsOpened
unfolding dials
dial_is_opened = record {
  event = λ plan caller c address a conn p. event_to a.conn plan caller c address a conn p;
  closed = λ plan caller c address a conn p. calls_to a.conn plan caller c address a conn p;
}
