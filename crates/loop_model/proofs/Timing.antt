-- Each event has the greatest of the moments that the clock answered so far.
use Rattle.trace_model.specs.Checks.{most_live}
use Rattle.loop_model.specs.Ends.{ModelEnd, model_ends}
use Rattle.std.proofs.Common.{◌≡◌, ℕ, max, inl, inr, Bool, true, false, List, [], ◌∷◌, ◌++◌, length, drop, Option, Some, None, refl, sym, ◌∙◌, ap, subst, append_assoc}
use Rattle.std.specs.Prelude.{nat_lt}
use Rattle.std.proofs.lemmas.Bool.{cases_Bool}
use Rattle.er_users.specs.Users.{Mind}
use Rattle.link_trait.specs.declared.wires.Happening.{Happening}
use Rattle.link_trait.specs.declared.wires.Happening.TheVariants as happening
use Rattle.loop_model.specs.Journals.{JournalEntry}
use Rattle.loop_model.specs.Outs.{Out, first_answer_of}
use Rattle.loop_model.specs.Sessions.{Rules, Session}
use Rattle.loop_model.specs.Visits.{Met, nothing_met, Visit, Tick, Read, Write, Expire, visited}
use Rattle.loop_model.specs.Loops.{Plan, rules_of, Loop, visit_at, numbers, swept, Sweeps, before, next_user, answered_by, accepted, happened, Caller, called_by, called, Halt, Course, asks, Turn, readied, turned_unless, went, run, Dialled, dials_to, dials}
use Rattle.loop_model.specs.Laws.{greatest}
use Rattle.loop_model.specs.Moments.{AreAt, asked_in, IsTimedTurn, opening_of_dial, IsOpenedAt, EventsAreTimed}
use Rattle.loop_model.proofs.Replaying.{ArePlain, plain_visit, served_so}

at-append : (m : ℕ) (xs ys : List JournalEntry) → AreAt m xs → AreAt m ys → AreAt m (xs ++ ys)
at-append m [] ys p q = q
at-append m (x ∷ xs) ys p q = (p.0, at-append m xs ys p.1 q)

plain_at : (m n : ℕ) (xs : List JournalEntry) → ArePlain m n xs → AreAt m xs
plain_at m n [] p = tt
plain_at m n (x ∷ xs) p = (p.0.moment, plain_at m n xs p.1)

module _ (r : Rules) (m : ℕ) where
  visit_at_moment : (visit : Visit) (n : ℕ) (ss : List (Session ModelEnd)) (a : Met) → AreAt m (visit_at (visited model_ends r m visit) n ss a).entries
  visit_at_moment visit n ss a = plain_at m n (visit_at (visited model_ends r m visit) n ss a).entries (plain_visit r m visit n ss a)

  swept_at : (visit : Visit) (ns : List ℕ) (ss : List (Session ModelEnd)) (answers : List Met) → AreAt m (swept (visited model_ends r m visit) ns ss answers).entries
  unfolding swept
  swept_at visit [] ss answers = tt
  swept_at visit (n ∷ ns) ss answers =
      let o = visit_at (visited model_ends r m visit) n ss (first_answer_of nothing_met answers) in
      at-append m o.entries (swept (visited model_ends r m visit) ns o.state (drop 1 answers)).entries
      (visit_at_moment visit n ss (first_answer_of nothing_met answers)) (swept_at visit ns o.state (drop 1 answers))

  before_at : (ss : List (Session ModelEnd)) (a : Sweeps) → AreAt m (before model_ends r m ss a).entries
  unfolding before
  before_at ss a =
      let t = swept (visited model_ends r m Tick) (numbers ss) ss a.ticks in
      let u = swept (visited model_ends r m Expire) (numbers t.state) t.state a.closings in
      at-append m t.entries u.entries (swept_at Tick (numbers ss) ss a.ticks) (swept_at Expire (numbers t.state) t.state a.closings)

-- events at the loop's moment, which stays
record Stands (l : Loop ModelEnd) (o : Out (Loop ModelEnd)) : Type 0 where
  events : AreAt l.moment o.entries
  moment : o.state.moment ≡ l.moment

answered_stands : (user : Option Mind) (memory : Bool) (plan : Plan) (l : Loop ModelEnd) (conn : ℕ) → Stands l (answered_by model_ends user memory plan l conn)
answered_stands None memory plan l conn = record { events = (refl, tt); moment = refl }
answered_stands (Some mind) true plan l conn = record { events = (refl, tt); moment = refl }
answered_stands (Some mind) false plan l conn = record { events = (refl, tt); moment = refl }

happened_stands : (plan : Plan) (l : Loop ModelEnd) (what : Happening) (a : Met) → Stands l (happened model_ends plan l what a)
unfolding happened accepted
happened_stands plan l (happening.Accepted conn) a =
    elim (cases_Bool (nat_lt (length l.sessions) most_live)) [
      | inl p ↦ rw p (answered_stands (next_user l.users) a.memory plan l conn.0)
      | inr p ↦ rw p (record { events = (refl, tt); moment = refl })
    ]
happened_stands plan l (happening.Readable conn) a = record { events = visit_at_moment (rules_of plan) l.moment Read conn.0 l.sessions a; moment = refl }
happened_stands plan l (happening.Writable conn) a = record { events = visit_at_moment (rules_of plan) l.moment Write conn.0 l.sessions a; moment = refl }
happened_stands plan l happening.Quiet a = record { events = tt; moment = refl }
happened_stands plan l happening.Ended a = record { events = tt; moment = refl }
happened_stands plan l happening.Failed a = record { events = tt; moment = refl }

-- ---- a turn

readied_at : (plan : Plan) (c : Course ModelEnd) (a : Turn) → AreAt (max c.loop.moment a.first) (readied model_ends plan c a).entries
unfolding readied
readied_at plan c a = before_at (rules_of plan) (max c.loop.moment a.first) c.loop.sessions a.sweeps

readied_asked : (plan : Plan) (c : Course ModelEnd) (a : Turn) → (readied model_ends plan c a).state.asked ≡ c.asked ++ a.first ∷ []
unfolding readied
readied_asked plan c a = refl

readied_moment : (plan : Plan) (c : Course ModelEnd) (a : Turn) → (readied model_ends plan c a).state.loop.moment ≡ max c.loop.moment a.first
unfolding readied
readied_moment plan c a = refl

record Turned (halt : Option Halt) (plan : Plan) (d : Course ModelEnd) (a : Turn) (before : List ℕ) (m : ℕ) (o : Out (Course ModelEnd)) : Type 0 where
  events : AreAt (max d.loop.moment a.second) o.entries
  asked : o.state.asked ≡ before ++ asked_in halt a
  moment : o.state.loop.moment ≡ greatest m (asked_in halt a)

turned_at : (halt : Option Halt) (plan : Plan) (d : Course ModelEnd) (a : Turn) (before : List ℕ) (m : ℕ) → d.asked ≡ before ++ a.first ∷ [] → d.loop.moment ≡ max m a.first
    → Turned halt plan d a before m (turned_unless model_ends halt plan d a)
turned_at (Some halt) plan d a before m asked moment = record { events = tt; asked = asked; moment = moment }
turned_at None plan d a before m asked moment =
    let l = (asks a.second d).loop in
    let s = happened_stands plan l a.happening a.met in
    record {
      events = s.events;
      asked = ap (λ z. z ++ a.second ∷ []) asked ∙ append_assoc before (a.first ∷ []) (a.second ∷ []);
      moment = s.moment ∙ ap (λ z. max z a.second) moment;
    }

went_timed : (halt : Option Halt) (plan : Plan) (c : Course ModelEnd) (a : Turn) → c.halt ≡ halt → halt ≡ None → IsTimedTurn plan c a
unfolding went readied
went_timed (Some halt) plan c a is p = absurd (let q : ⊥ = cc in q)
went_timed None plan c a is p =
    let d = readied model_ends plan c a in
    let t = turned_unless model_ends d.state.halt plan d.state a in
    let s = turned_at d.state.halt plan d.state a c.asked c.loop.moment (readied_asked plan c a) (readied_moment plan c a) in
    record {
      before = readied_at plan c a;
      rest = t.entries;
      is = rw is refl;
      behind = subst (λ z. AreAt (max z a.second) t.entries) (readied_moment plan c a) s.events;
      asked = rw is s.asked;
      moment = rw is s.moment;
    }

-- ---- an opening

called_stands : (user : Option Mind) (plan : Plan) (caller : Caller) (l : Loop ModelEnd) (conn : ℕ) (a : Met) → Stands l (called_by model_ends user plan caller l conn a)
called_stands None plan caller l conn a = record { events = (refl, tt); moment = refl }
called_stands (Some mind) plan caller l conn a =
    let c = served_so plan caller l conn mind a in
    record { events = subst (λ z. AreAt l.moment z) (sym c.is) (refl, plain_at l.moment conn c.rest c.plain); moment = refl }

dial_entries : (at : Option ℕ) (plan : Plan) (caller : Caller) (c : Course ModelEnd) (address : List ℕ) (a : Dialled) (conn : ℕ) → at ≡ Some conn
    → (dials_to model_ends at plan caller c address a).entries
    ≡ (opening_of_dial plan caller c a conn).entries ++ (run model_ends plan (opening_of_dial plan caller c a conn).state a.turns).entries
dial_entries at plan caller c address a conn is = rw is refl

opened_at : (plan : Plan) (caller : Caller) (c : Course ModelEnd) (address : List ℕ) (a : Dialled) (conn : ℕ) → a.conn ≡ Some conn
    → IsOpenedAt plan caller c address a conn
unfolding called dials
opened_at plan caller c address a conn is =
    let d = asks a.first c in
    let s = called_stands (next_user d.loop.users) plan caller d.loop conn a.met in
    record { events = s.events; is = dial_entries a.conn plan caller c address a conn is; asked = refl; moment = s.moment }

pub events_are_timed : EventsAreTimed
events_are_timed = record { turns = λ plan c a live. went_timed c.halt plan c a refl live; openings = opened_at }
