-- Behind a turn no session is left that is to be closed.
use Rattle.loop_model.specs.Ends.{ModelEnd, model_ends}
use Rattle.std.proofs.Common.{◌≡◌, ℕ, inl, inr, Bool, true, false, ◌&&◌, ◌||◌, List, [], ◌∷◌, ◌++◌, length, refl, sym, subst}
use Rattle.std.specs.Prelude.{◌==◌, if◌then◌else◌}
use Rattle.std.proofs.lemmas.Bool.{cases_Bool}
use Rattle.er_users.specs.Users.{Mind}
use Rattle.link_trait.specs.Wires.{Call, Reading, Gave, NotNow, End, Failed}
use Rattle.loop_model.specs.Journals.{JournalEntry}
use Rattle.loop_model.specs.Outs.{Out, first_answer_of}
use Rattle.loop_model.specs.Sessions.{Rules, Session, Ticks, is_released, nothing_said, handled, owes_nothing, made}
use Rattle.loop_model.specs.Visits.{Wrote, session_behind_writing, closed, stays, session_kept_or_closed, rests, rests_behind, Visit, Tick, Read, Write, Expire, Met, is_due, came, read_once, served, visited}
use Rattle.loop_model.specs.Loops.{Plan, rules_of, Loop, visit_at, begun, answering}
use Rattle.loop_model.specs.Turnings.{IsKeptSession, AreKept, OthersAreClosed}
use Rattle.loop_model.proofs.Loopwise.{Loopwise, wise_run}

kept_settled : (s : Session ModelEnd) → AreKept (session_kept_or_closed model_ends s).state
unfolding session_kept_or_closed
kept_settled s = elim (cases_Bool (s.broken || owes_nothing model_ends s)) [ inl p ↦ rw p tt | inr p ↦ subst (λ (b : Bool). AreKept (if b then closed s else stays s).state) (sym p) (p, tt) ]

pub kept_rests : (r : Rules) (m : ℕ) (s : Session ModelEnd) (a : Wrote) → AreKept (rests model_ends r m s a).state
unfolding rests
kept_rests r m s a = kept_settled (session_behind_writing model_ends r m s a).state

made_kept : (s : Session ModelEnd) → IsKeptSession s → IsKeptSession (made s)
made_kept s p = still_none s.broken (is_released model_ends s) (length s.output == 0) s.unmade p
  where
    still_none : (a b c d : Bool) → (a || (b && (c || d))) ≡ false → (a || (b && (c || false))) ≡ false
    still_none true b c d p = p
    still_none false false c d p = refl
    still_none false true true d p = p
    still_none false true false d p = refl

kept_behind : (r : Rules) (m : ℕ) (reading : Reading) (s : Session ModelEnd) (a : Met) → IsKeptSession s → AreKept (rests_behind model_ends reading r m (came model_ends reading r m s a.says).0 a.wrote).state
kept_behind r m (Gave octets) s a p = kept_rests r m (came model_ends (Gave octets) r m s a.says).0 a.wrote
kept_behind r m NotNow s a p = (p, tt)
kept_behind r m End s a p = kept_rests r m (came model_ends End r m s a.says).0 a.wrote
kept_behind r m Failed s a p = kept_rests r m (came model_ends Failed r m s a.says).0 a.wrote

kept_out : (b : Bool) (x y : Out (List (Session ModelEnd))) → AreKept x.state → AreKept y.state → AreKept (if b then x else y).state
kept_out true x y p q = p
kept_out false x y p q = q

kept_visited : (r : Rules) (m : ℕ) (visit : Visit) (s : Session ModelEnd) (a : Met) → IsKeptSession s → AreKept (visited model_ends r m visit s a).state
unfolding visited served read_once
kept_visited r m Tick s a p =
    let h = handled model_ends r m s Ticks (first_answer_of nothing_said a.says) in
    kept_out (is_due m (model_ends.deadline s.end)) _ _ (kept_rests r m h.0 a.wrote) (p, tt)
kept_visited r m Read s a p = kept_out (is_released model_ends s) _ _ (p, tt) (kept_behind r m a.reading (made s) a (made_kept s p))
kept_visited r m Write s a p = kept_rests r m (made s) a.wrote
kept_visited r m Expire s a p = kept_out (is_due m s.closing) _ _ tt (p, tt)

kept_two : (ss ts : List (Session ModelEnd)) → AreKept ss → AreKept ts → AreKept (ss ++ ts)
kept_two [] ts p q = q
kept_two (s ∷ ss) ts p q = (p.0, kept_two ss ts p.1 q)

kept_visit : (r : Rules) (m : ℕ) (visit : Visit) (n : ℕ) (ss : List (Session ModelEnd)) (a : Met) → AreKept ss → AreKept (visit_at (visited model_ends r m visit) n ss a).state
unfolding visit_at
kept_visit r m visit n [] a p = tt
kept_visit r m visit n (s ∷ ss) a p =
    elim (cases_Bool (s.number == n)) [
      | inl q ↦ rw q (kept_two (visited model_ends r m visit s a).state ss (kept_visited r m visit s a p.0) p.1)
      | inr q ↦ rw q (p.0, kept_visit r m visit n ss a p.1)
    ]

kept_begun : (plan : Plan) (l : Loop ModelEnd) (conn : ℕ) (mind : Mind) → IsKeptSession (begun conn (answering model_ends plan l) mind)
kept_begun plan l conn mind = refl

Keeps : List (Session ModelEnd) → List (Session ModelEnd) → List JournalEntry → List Call → Type 0
Keeps ss ts xs cs = AreKept ss → AreKept ts

wise : (plan : Plan) → Loopwise plan Keeps
unfolding Keeps
wise plan = record {
  none = λ ss p. p;
  then_ = λ ss ts us xs ys cs ds p q k. q (p k);
  visit = λ m visit n ss a p. kept_visit (rules_of plan) m visit n ss a p;
  turned = λ ss until happening none p. p;
  opened = λ l until conn mind fits p. kept_two l.sessions (begun conn.0 (answering model_ends plan l) mind ∷ []) p (kept_begun plan l conn.0 mind, tt);
  full = λ ss m live until conn most p. p;
  unserved = λ ss m handed until conn p. p;
}

pub others_are_closed : OthersAreClosed
unfolding Keeps
others_are_closed plan c turns p = wise_run plan Keeps (wise plan) c turns p
