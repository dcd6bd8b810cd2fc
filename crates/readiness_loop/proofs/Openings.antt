-- No visit of a session opens a connection, and none makes a turn.
use Rattle.std.proofs.Common.{◌≡◌, ℕ, List, [], ◌∷◌, ◌++◌, inl, inr, drop, length, refl, sym, ◌∙◌, ap, subst, append_assoc}
use Rattle.std.specs.Prelude.{◌==◌, ◌||◌}
use Rattle.std.proofs.lemmas.Bool.{cases_Bool}
use Rattle.link_trait.specs.Wires.{Call, Reading, Gave, NotNow, End, Failed}
use Rattle.link_trait.specs.declared.wires.WriteAnswer.{WriteAnswer}
use Rattle.loop_model.specs.Outs.{Out, next, acts, first_answer_of}
use Rattle.loop_model.specs.Sessions.{Rules, Session, GivenToSession, is_released, owes_nothing, made}
use Rattle.loop_model.specs.Visits.{WritingState, Going, PutOff, Failing, writes_once, writes_if, writes, flowed, session_behind_writing, written_unless, session_kept_or_closed, rests, rests_behind, read_once, served, visited, Visit, Tick, Read, Write, Expire, Met, nothing_met, Wrote, is_due}
use Rattle.loop_model.specs.Loops.{visit_at, swept, before, Sweeps, numbers}
use Rattle.loop_model.specs.Parts.{opened_in, connections_opened_by_call}
use Rattle.loop_model.specs.Laws.{turns_of, happenings_in_call}
use Rattle.loop_model.specs.Ends.{EndOps}

-- a part opens no connection, and makes no turn
abbrev pub OpensNone : {S : Type 0} → Out S → Type 0
OpensNone o = (opened_in o.calls ≡ []) × (turns_of o.calls ≡ [])

pub opened_in-append : (xs ys : List Call) → opened_in (xs ++ ys) ≡ opened_in xs ++ opened_in ys
unfolding opened_in
opened_in-append [] ys = refl
opened_in-append (x ∷ xs) ys = ap (λ z. connections_opened_by_call x ++ z) (opened_in-append xs ys) ∙ sym (append_assoc (connections_opened_by_call x) (opened_in xs) (opened_in ys))

pub turns_of-append : (xs ys : List Call) → turns_of (xs ++ ys) ≡ turns_of xs ++ turns_of ys
unfolding turns_of
turns_of-append [] ys = refl
turns_of-append (x ∷ xs) ys = ap (λ z. happenings_in_call x ++ z) (turns_of-append xs ys) ∙ sym (append_assoc (happenings_in_call x) (turns_of xs) (turns_of ys))

next_opens : {S T : Type 0} (o : Out S) (f : S → Out T) → OpensNone o → OpensNone (f o.state) → OpensNone (next o f)
next_opens o f p q = (
  opened_in-append o.calls (f o.state).calls ∙ ap (λ z. z ++ opened_in (f o.state).calls) p.0 ∙ q.0,
  turns_of-append o.calls (f o.state).calls ∙ ap (λ z. z ++ turns_of (f o.state).calls) p.1 ∙ q.1,
)

writes_if_opens : {E : Type 0} (w : WritingState) (s : Session E) (a : WriteAnswer) → OpensNone (writes_if w s a)
unfolding opened_in turns_of
writes_if_opens Going s a =
    elim (cases_Bool (length s.output == 0)) [
      | inl p ↦ rw p (refl, refl)
      | inr p ↦ rw p (refl, refl)
    ]
writes_if_opens PutOff s a = (refl, refl)
writes_if_opens Failing s a = (refl, refl)

acts_opens : {E : Type 0} (x : Session E × WritingState) (answers : List WriteAnswer) → OpensNone (acts writes_once x answers)
unfolding acts writes_once opened_in turns_of
acts_opens x [] = (refl, refl)
acts_opens x (a ∷ answers) =
    next_opens (writes_if x.1 x.0 a) (λ t. acts writes_once t answers) (writes_if_opens x.1 x.0 a) (acts_opens (writes_if x.1 x.0 a).state answers)

module _ {E : Type 0} (o : EndOps E) where
  flowed_opens : (r : Rules) (m : ℕ) (x : Session E) (w : WritingState) (a : Wrote) → OpensNone (flowed o r m (x, w) a.says)
  unfolding opened_in turns_of
  flowed_opens r m s Going a = (refl, refl)
  flowed_opens r m s PutOff a = (refl, refl)
  flowed_opens r m s Failing a = (refl, refl)

  written_opens : (r : Rules) (m : ℕ) (s : Session E) (a : Wrote) → OpensNone (session_behind_writing o r m s a)
  unfolding session_behind_writing writes opened_in turns_of
  written_opens r m s a =
      elim (cases_Bool s.broken) [
        | inl p ↦ subst (λ b. OpensNone (written_unless o b r m s a)) (sym p) (refl, refl)
        | inr p ↦ subst (λ b. OpensNone (written_unless o b r m s a)) (sym p)
            (next_opens (writes s a.answers) (λ x. flowed o r m x a.says) (acts_opens (s, Going) _) (flowed_opens r m (writes s a.answers).state.0 (writes s a.answers).state.1 a))
      ]

  settled_opens : (s : Session E) → OpensNone (session_kept_or_closed o s)
  unfolding session_kept_or_closed opened_in turns_of
  settled_opens s =
      elim (cases_Bool (s.broken || owes_nothing o s)) [
        | inl p ↦ rw p (refl, refl)
        | inr p ↦ rw p (refl, refl)
      ]

  rests_opens : (r : Rules) (m : ℕ) (s : Session E) (a : Wrote) → OpensNone (rests o r m s a)
  unfolding rests
  rests_opens r m s a = next_opens (session_behind_writing o r m s a) (session_kept_or_closed o) (written_opens r m s a) (settled_opens (session_behind_writing o r m s a).state)

  pub served_opens : (r : Rules) (m : ℕ) (s : Session E) (g : GivenToSession) (a : Met) → OpensNone (served o r m s g a)
  unfolding served
  served_opens r m s g a = rests_opens r m _ a.wrote

  behind_opens : (g : Reading) (r : Rules) (m : ℕ) (s : Session E) (a : Wrote) → OpensNone (rests_behind o g r m s a)
  unfolding opened_in turns_of
  behind_opens (Gave octets) r m s a = rests_opens r m s a
  behind_opens NotNow r m s a = (refl, refl)
  behind_opens End r m s a = rests_opens r m s a
  behind_opens Failed r m s a = rests_opens r m s a

  visited_opens : (r : Rules) (m : ℕ) (v : Visit) (s : Session E) (a : Met) → OpensNone (visited o r m v s a)
  unfolding visited read_once opened_in turns_of
  visited_opens r m Tick s a =
      elim (cases_Bool (is_due m (o.deadline s.end))) [
        | inl p ↦ rw p (served_opens r m s _ a)
        | inr p ↦ rw p (refl, refl)
      ]
  visited_opens r m Read s a =
      elim (cases_Bool (is_released o s)) [
        | inl p ↦ rw p (refl, refl)
        | inr p ↦ rw p (next_opens (read_once o r m (made s) a) (λ t. rests_behind o a.reading r m t a.wrote) (refl, refl) (behind_opens a.reading r m _ a.wrote))
      ]
  visited_opens r m Write s a = rests_opens r m (made s) a.wrote
  visited_opens r m Expire s a =
      elim (cases_Bool (is_due m s.closing)) [
        | inl p ↦ rw p (refl, refl)
        | inr p ↦ rw p (refl, refl)
      ]

  visit_none : (r : Rules) (m : ℕ) (v : Visit) (n : ℕ) (ss : List (Session E)) (a : Met) → OpensNone (visit_at (visited o r m v) n ss a)
  unfolding visit_at opened_in turns_of
  visit_none r m v n [] a = (refl, refl)
  visit_none r m v n (s ∷ ss) a =
      elim (cases_Bool (s.number == n)) [
        | inl p ↦ rw p (visited_opens r m v s a)
        | inr p ↦ rw p (visit_none r m v n ss a)
      ]

  swept_opens : (r : Rules) (m : ℕ) (v : Visit) (ns : List ℕ) (ss : List (Session E)) (answers : List Met) → OpensNone (swept (visited o r m v) ns ss answers)
  unfolding swept opened_in turns_of
  swept_opens r m v [] ss answers = (refl, refl)
  swept_opens r m v (n ∷ ns) ss answers =
      next_opens (visit_at (visited o r m v) n ss (first_answer_of nothing_met answers)) (λ now. swept (visited o r m v) ns now (drop 1 answers)) (visit_none r m v n ss (first_answer_of nothing_met answers)) (swept_opens r m v ns _ (drop 1 answers))

  before_none : (r : Rules) (m : ℕ) (ss : List (Session E)) (a : Sweeps) → OpensNone (before o r m ss a)
  unfolding before
  before_none r m ss a =
      next_opens (swept (visited o r m Tick) (numbers ss) ss a.ticks) (λ now. swept (visited o r m Expire) (numbers now) now a.closings)
      (swept_opens r m Tick (numbers ss) ss a.ticks) (swept_opens r m Expire _ _ a.closings)

  pub visit_opens : (r : Rules) (m : ℕ) (v : Visit) (n : ℕ) (ss : List (Session E)) (a : Met) → opened_in (visit_at (visited o r m v) n ss a).calls ≡ []
  visit_opens r m v n ss a = (visit_none r m v n ss a).0

  pub before_opens : (r : Rules) (m : ℕ) (ss : List (Session E)) (a : Sweeps) → opened_in (before o r m ss a).calls ≡ []
  before_opens r m ss a = (before_none r m ss a).0

  pub before_turns : (r : Rules) (m : ℕ) (ss : List (Session E)) (a : Sweeps) → turns_of (before o r m ss a).calls ≡ []
  before_turns r m ss a = (before_none r m ss a).1
