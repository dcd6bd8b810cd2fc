-- Lemmas: the events and the calls of each part of the loop are those of its one order; for the proofs of this crate and of those above.
use Rattle.std.proofs.Common.{ℕ, Bool, true, false, if◌then◌else◌, List, [], ◌∷◌, ◌++◌, length, drop, Option, Some, None}
use Rattle.trace_model.specs.Checks.{most_live}
use Rattle.std.specs.Prelude.{◌==◌, ◌||◌, nat_lt, true, false}
use Rattle.rand_core.specs.Stream.{next_u64}
use Rattle.er_trace.specs.declared.event.Event.{Event}
use Rattle.er_trace.specs.declared.event.Event.TheVariants as event
use Rattle.er_users.specs.Users.{Mind}
use Rattle.link_trait.specs.Wires.{Reading, Gave, NotNow, End, Failed, Dials, Turns, Reads, Writes, Closes}
use Rattle.link_trait.specs.declared.wires.Happening.{Happening}
use Rattle.link_trait.specs.declared.wires.Happening.TheVariants as happening
use Rattle.link_trait.specs.declared.wires.WriteAnswer.{WriteAnswer}
use Rattle.link_trait.specs.declared.wires.WriteAnswer.TheVariants as write
use Rattle.loop_model.specs.Ends.{EndOps}
use Rattle.loop_model.specs.Outs.{Out, HasOrder, still, next, changed, prints, makes, acts, exactly, first_answer_of}
use Rattle.loop_model.specs.Signs.{order_still, order_next, order_changed, order_prints, order_makes}
use Rattle.loop_model.specs.Sessions.{Rules, Session, is_released, GivenToSession, Begins, Ticks, Says, nothing_said, handled, owes_nothing, made}
use Rattle.loop_model.specs.Visits.{most_read, WritingState, Going, PutOff, Failing, after_write, writes_if, writes_once, writes, Wrote, closed, stays, Visit}
use Rattle.loop_model.specs.Visits.{Tick, Read, Write, Expire, Met, nothing_met, is_due, fault_unless, flowed, written_unless, session_behind_writing}
use Rattle.loop_model.specs.Visits.{session_kept_or_closed, rests, came, read_once, rests_behind, served, visited}
use Rattle.loop_model.specs.Loops.{Plan, rules_of, Loop, plain_event, turned_away, visit_at, numbers, swept, Sweeps, next_user, begun_dial}
use Rattle.loop_model.specs.Loops.{one_word_less, one_less, with_sessions}
use Rattle.loop_model.specs.Loops.{Caller, Halt, Course, asks, halts, OnFailed, Turn, nothing_comes, Dialled, before, until, answered_by, accepted, calling}
use Rattle.loop_model.specs.Loops.{called_by, called, visited_at, happened, readied, turn, follows, turned_unless, went_unless, went, run, opens, dials_to}
use Rattle.loop_model.specs.Loops.{dials}

order_if : {S : Type 0} (b : Bool) (x y : Out S) → HasOrder x → HasOrder y → HasOrder (if b then x else y)
order_if true x y p q = p
order_if false x y p q = q

order_acts : {S A : Type 0} (f : S → A → Out S) → ((s : S) (a : A) → HasOrder (f s a)) → (s : S) (answers : List A) → HasOrder (acts f s answers)
unfolding acts
order_acts f p s [] = order_still s
order_acts f p s (a ∷ answers) = order_next (f s a) (λ t. acts f t answers) (p s a) (order_acts f p (f s a).state answers)

order_writes_if : {E : Type 0} (flow : WritingState) (s : Session E) (answer : WriteAnswer) → HasOrder (writes_if flow s answer)
order_writes_if Going s answer =
    order_if (length s.output == 0) (still (s, Going)) (makes (Writes s.number s.output answer) (after_write answer s)) (order_still (s, Going))
    (order_makes (Writes s.number s.output answer) (after_write answer s))
order_writes_if PutOff s answer = order_still (s, PutOff)
order_writes_if Failing s answer = order_still (s, Failing)

order_writes : {E : Type 0} (s : Session E) (answers : List WriteAnswer) → HasOrder (writes s answers)
unfolding writes writes_once
order_writes s answers = order_acts writes_once (λ x answer. order_writes_if x.1 x.0 answer) (s, Going) (exactly (length s.output) write.NotNow answers)

pub order_away : {E : Type 0} (l : Loop E) (conn : ℕ) (why : Event) → HasOrder (turned_away l conn why)
order_away l conn why = order_next (prints (l, plain_event l conn why ∷ [])) (makes (Closes conn)) (order_prints (l, plain_event l conn why ∷ []))
    (order_makes (Closes conn) l)

pub order_visit_at : {E : Type 0} (f : Session E → Met → Out (List (Session E))) → ((s : Session E) (a : Met) → HasOrder (f s a))
    → (n : ℕ) (ss : List (Session E)) (a : Met) → HasOrder (visit_at f n ss a)
unfolding visit_at
order_visit_at f p n [] a = order_still []
order_visit_at f p n (s ∷ ss) a =
    order_if (s.number == n) (changed (λ now. now ++ ss) (f s a)) (changed (λ now. s ∷ now) (visit_at f n ss a))
    (order_changed (λ now. now ++ ss) (f s a) (p s a))
    (order_changed (λ now. s ∷ now) (visit_at f n ss a) (order_visit_at f p n ss a))

pub order_swept : {E : Type 0} (f : Session E → Met → Out (List (Session E))) → ((s : Session E) (a : Met) → HasOrder (f s a))
    → (ns : List ℕ) (ss : List (Session E)) (answers : List Met) → HasOrder (swept f ns ss answers)
unfolding swept
order_swept f p [] ss answers = order_still ss
order_swept f p (n ∷ ns) ss answers =
    let o = visit_at f n ss (first_answer_of nothing_met answers) in
    order_next o (λ now. swept f ns now (drop 1 answers)) (order_visit_at f p n ss (first_answer_of nothing_met answers))
    (order_swept f p ns o.state (drop 1 answers))

module _ {E : Type 0} (o : EndOps E) where
  -- ---- visits

  order_flowed : (r : Rules) (m : ℕ) (x : Session E × WritingState) (says : Says) → HasOrder (flowed o r m x says)
  order_flowed r m (s, Going) says = order_still s
  order_flowed r m (s, PutOff) says = order_still s
  order_flowed r m (s, Failing) says = order_prints (fault_unless o (is_released o s) r m s says)

  order_unless : (b : Bool) (r : Rules) (m : ℕ) (s : Session E) (a : Wrote) → HasOrder (written_unless o b r m s a)
  order_unless true r m s a = order_still s
  order_unless false r m s a = order_next (writes s a.answers) (λ x. flowed o r m x a.says) (order_writes s a.answers)
      (order_flowed r m (writes s a.answers).state a.says)

  order_written : (r : Rules) (m : ℕ) (s : Session E) (a : Wrote) → HasOrder (session_behind_writing o r m s a)
  unfolding session_behind_writing
  order_written r m s a = order_unless s.broken r m s a

  order_settled : (s : Session E) → HasOrder (session_kept_or_closed o s)
  unfolding session_kept_or_closed
  order_settled s = order_if (s.broken || owes_nothing o s) (closed s) (stays s) (order_makes (Closes s.number) [])
      (order_still (s ∷ []))

  order_rests : (r : Rules) (m : ℕ) (s : Session E) (a : Wrote) → HasOrder (rests o r m s a)
  unfolding rests
  order_rests r m s a = order_next (session_behind_writing o r m s a) (session_kept_or_closed o) (order_written r m s a)
      (order_settled (session_behind_writing o r m s a).state)

  order_behind : (reading : Reading) (r : Rules) (m : ℕ) (s : Session E) (a : Wrote) → HasOrder (rests_behind o reading r m s a)
  order_behind (Gave octets) r m s a = order_rests r m s a
  order_behind NotNow r m s a = order_still (s ∷ [])
  order_behind End r m s a = order_rests r m s a
  order_behind Failed r m s a = order_rests r m s a

  order_read : (r : Rules) (m : ℕ) (s : Session E) (a : Met) → HasOrder (read_once o r m s a)
  unfolding read_once
  order_read r m s a =
      order_next (makes (Reads s.number most_read a.waits a.reading) s) (λ t. prints (came o a.reading r m t a.says))
      (order_makes (Reads s.number most_read a.waits a.reading) s)
      (order_prints (came o a.reading r m s a.says))

  pub order_served : (r : Rules) (m : ℕ) (s : Session E) (g : GivenToSession) (a : Met) → HasOrder (served o r m s g a)
  unfolding served
  order_served r m s g a =
      let h = handled o r m s g (first_answer_of nothing_said a.says) in
      order_next (prints h) (λ t. rests o r m t a.wrote) (order_prints h) (order_rests r m h.0 a.wrote)

  pub order_visited : (r : Rules) (m : ℕ) (visit : Visit) (s : Session E) (a : Met) → HasOrder (visited o r m visit s a)
  unfolding visited
  order_visited r m Tick s a = order_if (is_due m (o.deadline s.end)) (served o r m s Ticks a) (stays s) (order_served r m s Ticks a) (order_still (s ∷ []))
  order_visited r m Read s a =
      let t = read_once o r m (made s) a in
      order_if (is_released o s) (stays s) (next t (λ t. rests_behind o a.reading r m t a.wrote)) (order_still (s ∷ []))
      (order_next t (λ t. rests_behind o a.reading r m t a.wrote) (order_read r m (made s) a) (order_behind a.reading r m t.state a.wrote))
  order_visited r m Write s a = order_rests r m (made s) a.wrote
  order_visited r m Expire s a = order_if (is_due m s.closing) (closed s) (stays s) (order_makes (Closes s.number) []) (order_still (s ∷ []))

  -- ---- turns

  order_before : (r : Rules) (m : ℕ) (ss : List (Session E)) (a : Sweeps) → HasOrder (before o r m ss a)
  unfolding before
  order_before r m ss a =
      let t = swept (visited o r m Tick) (numbers ss) ss a.ticks in
      order_next t (λ now. swept (visited o r m Expire) (numbers now) now a.closings)
      (order_swept (visited o r m Tick) (order_visited r m Tick) (numbers ss) ss a.ticks)
      (order_swept (visited o r m Expire) (order_visited r m Expire) (numbers t.state) t.state a.closings)

  order_answered : (user : Option Mind) (memory : Bool) (plan : Plan) (l : Loop E) (conn : ℕ) → HasOrder (answered_by o user memory plan l conn)
  order_answered None memory plan l conn = order_away l conn (event.Unserved plan.handed)
  order_answered (Some mind) true plan l conn = order_prints _
  order_answered (Some mind) false plan l conn = order_away (one_word_less l) conn (event.Full (length l.sessions))

  order_accepted : (plan : Plan) (l : Loop E) (conn : ℕ) (memory : Bool) → HasOrder (accepted o plan l conn memory)
  unfolding accepted
  order_accepted plan l conn memory =
      order_if (nat_lt (length l.sessions) most_live) (answered_by o (next_user l.users) memory plan l conn) (turned_away l conn (event.Full most_live))
      (order_answered (next_user l.users) memory plan l conn) (order_away l conn (event.Full most_live))

  order_called_by : (user : Option Mind) (plan : Plan) (caller : Caller) (l : Loop E) (conn : ℕ) (a : Met) → HasOrder (called_by o user plan caller l conn a)
  order_called_by None plan caller l conn a = order_away l conn (event.Unserved 0)
  order_called_by (Some mind) plan caller l conn a =
      let s = begun_dial conn (calling o plan caller l) mind in
      let g = Begins caller.engine plan.rbc (next_u64 l.words).0 in
      order_changed (with_sessions (one_less l)) (served o (rules_of plan) l.moment s g a) (order_served (rules_of plan) l.moment s g a)

  order_called : (plan : Plan) (caller : Caller) (l : Loop E) (conn : ℕ) (a : Met) → HasOrder (called o plan caller l conn a)
  unfolding called
  order_called plan caller l conn a = order_called_by (next_user l.users) plan caller l conn a

  pub order_opens : (plan : Plan) (caller : Caller) (c : Course E) (conn : ℕ) (a : Met) → HasOrder (opens o plan caller c conn a)
  order_opens plan caller c conn a = let p = order_called plan caller c.loop conn a in record { entries = p.entries; calls = p.calls }

  order_at : (plan : Plan) (l : Loop E) (visit : Visit) (conn : ℕ) (a : Met) → HasOrder (visited_at o plan l visit conn a)
  order_at plan l visit conn a =
      let f = visited o (rules_of plan) l.moment visit in
      order_changed (with_sessions l) (visit_at f conn l.sessions a) (order_visit_at f (order_visited (rules_of plan) l.moment visit) conn l.sessions a)

  order_happened : (plan : Plan) (l : Loop E) (what : Happening) (a : Met) → HasOrder (happened o plan l what a)
  unfolding happened
  order_happened plan l (happening.Accepted conn) a = order_accepted plan l conn.0 a.memory
  order_happened plan l (happening.Readable conn) a = order_at plan l Read conn.0 a
  order_happened plan l (happening.Writable conn) a = order_at plan l Write conn.0 a
  order_happened plan l happening.Quiet a = order_still l
  order_happened plan l happening.Ended a = order_still l
  order_happened plan l happening.Failed a = order_still l

  order_readied : (plan : Plan) (c : Course E) (a : Turn) → HasOrder (readied o plan c a)
  unfolding readied
  order_readied plan c a = let d = asks a.first c in let p =
      order_before (rules_of plan) d.loop.moment d.loop.sessions a.sweeps in record { entries = p.entries; calls = p.calls }

  order_turn : (c : Course E) (a : Turn) → HasOrder (turn o c a)
  order_turn c a = order_makes (Turns (until o c.loop.sessions) a.happening) (turn o c a).state

  order_follows : (plan : Plan) (c : Course E) (a : Turn) → HasOrder (follows o plan c a)
  order_follows plan c a = let p = order_happened plan c.loop a.happening a.met in record { entries = p.entries; calls = p.calls }

  order_turned : (halt : Option Halt) (plan : Plan) (c : Course E) (a : Turn) → HasOrder (turned_unless o halt plan c a)
  order_turned (Some halt) plan c a = order_still c
  order_turned None plan c a = order_next (turn o c a) (λ d. follows o plan d a) (order_turn c a) (order_follows plan (turn o c a).state a)

  order_went_unless : (halt : Option Halt) (plan : Plan) (c : Course E) (a : Turn) → HasOrder (went_unless o halt plan c a)
  order_went_unless (Some halt) plan c a = order_still c
  order_went_unless None plan c a =
      let d = readied o plan c a in order_next d (λ e. turned_unless o e.halt plan e a) (order_readied plan c a) (order_turned d.state.halt plan d.state a)

  order_went : (plan : Plan) (c : Course E) (a : Turn) → HasOrder (went o plan c a)
  unfolding went
  order_went plan c a = order_went_unless c.halt plan c a

  pub order_run : (plan : Plan) (c : Course E) (turns : List Turn) → HasOrder (run o plan c turns)
  unfolding run
  order_run plan c turns = order_acts (went o plan) (order_went plan) c (exactly plan.turns nothing_comes turns)

  -- ---- the two calls

  order_dials_to : (at : Option ℕ) (plan : Plan) (caller : Caller) (c : Course E) (address : List ℕ) (a : Dialled)
      → HasOrder (dials_to o at plan caller c address a)
  order_dials_to None plan caller c address a = order_makes (Dials address None) (halts OnFailed c)
  order_dials_to (Some conn) plan caller c address a =
      let d = asks a.first c in
      let e = opens o plan caller d conn a.met in
      order_next (makes (Dials address (Some conn)) d) (λ d. next (opens o plan caller d conn a.met) (λ e. run o plan e a.turns))
      (order_makes (Dials address (Some conn)) d)
      (order_next e (λ e. run o plan e a.turns) (order_opens plan caller d conn a.met) (order_run plan e.state a.turns))

  pub order_dials : (plan : Plan) (caller : Caller) (c : Course E) (address : List ℕ) (a : Dialled) → HasOrder (dials o plan caller c address a)
  unfolding dials
  order_dials plan caller c address a = order_dials_to a.conn plan caller c address a
