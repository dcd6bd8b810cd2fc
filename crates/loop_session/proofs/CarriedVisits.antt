-- What a loop does in a visit of a session, carried to ends of another kind.
use Rattle.std.proofs.Common.{◌≡◌, ◌∙◌, ℕ, Bool, true, false, ◌&&◌, ◌||◌, List, length, Option, refl, ap}
use Rattle.std.specs.Prelude.{◌==◌, is_some}
use Rattle.er_settings.specs.Values.{Settings}
use Rattle.er_end_model.specs.Steps.{earlier_of_moments as first_moment}
use Rattle.link_trait.specs.Wires.{Reading, Gave, NotNow, End, Failed, Reads, Writes}
use Rattle.link_trait.specs.declared.wires.WriteAnswer.{WriteAnswer}
use Rattle.link_trait.specs.declared.wires.WriteAnswer.TheVariants as write
use Rattle.loop_model.specs.Ends.{EndOps}
use Rattle.loop_model.specs.Journals.{JournalEntry}
use Rattle.loop_model.specs.Outs.{still, next, changed, prints, makes, exactly, first_answer_of}
use Rattle.loop_model.specs.Sessions.{Rules, Session, is_released, GivenToSession, Ticks, Ends, Faults, Says, nothing_said, handled, made}
use Rattle.loop_model.specs.Visits.{most_read, WritingState, Going, PutOff, Failing, after_write, writes_if, writes_once, writes, Wrote, closed, stays, Visit, Tick, Read, Write, Expire, Met, is_due, fault_unless, flowed, written_unless, session_behind_writing, session_kept_or_closed, rests, came, read_once, rests_behind, served, visited, wakes}
use Rattle.loop_session.proofs.Carrying.{Carries, carried, all_carried, flow_carried, first_carried, if_carried, next_carried, acts_carried}
use Rattle.loop_session.proofs.CarriedSessions.{handled_same, pours_same}

-- ---- writing

after_write_same : {E F : Type 0} (h : E → F) (answer : WriteAnswer) (s : Session E) → after_write answer (carried h s) ≡ flow_carried h (after_write answer s)
after_write_same h (write.Some n) s = refl
after_write_same h write.NotNow s = refl
after_write_same h write.Failed s = refl

writes_if_same : {E F : Type 0} (h : E → F) (flow : WritingState) (s : Session E) (answer : WriteAnswer)
    → writes_if flow (carried h s) answer ≡ changed (flow_carried h) (writes_if flow s answer)
writes_if_same h Going s answer =
    let b = length s.output == 0 in
    let call = Writes s.number s.output answer in
    if_carried (changed (flow_carried h)) b b (still (s, Going)) (makes call (after_write answer s))
    (still (carried h s, Going)) (makes call (after_write answer (carried h s))) refl refl (ap (λ z. makes call z) (after_write_same h answer s))
writes_if_same h PutOff s answer = refl
writes_if_same h Failing s answer = refl

writes_once_same : {E F : Type 0} (h : E → F) (x : Session E × WritingState) (answer : WriteAnswer)
    → writes_once (flow_carried h x) answer ≡ changed (flow_carried h) (writes_once x answer)
unfolding writes_once
writes_once_same h x answer = writes_if_same h x.1 x.0 answer

writes_same : {E F : Type 0} (h : E → F) (s : Session E) (answers : List WriteAnswer) → writes (carried h s) answers ≡ changed (flow_carried h) (writes s answers)
unfolding writes
writes_same h s answers = acts_carried (flow_carried h) writes_once writes_once (writes_once_same h) (s, Going) (exactly (length s.output) write.NotNow answers)

-- ---- visits

module _ {E F : Type 0} (settings : Settings) (o : EndOps E) (p : EndOps F) (h : E → F) (c : Carries settings o p h) where
  released_same : (s : Session E) → is_released p (carried h s) ≡ is_released o s
  released_same s = ap is_some (c.released s.end)

  fault_unless_same : (released : Bool) (r : Rules) (m : ℕ) (s : Session E) (says : Says)
      → fault_unless p released r m (carried h s) says ≡ first_carried (carried h) (fault_unless o released r m s says)
  fault_unless_same true r m s says = refl
  fault_unless_same false r m s says = handled_same settings o p h c r m s Faults says

  flowed_same : (r : Rules) (m : ℕ) (x : Session E × WritingState) (says : Says) → flowed p r m (flow_carried h x) says ≡ changed (carried h) (flowed o r m x says)
  flowed_same r m (s, Going) says = refl
  flowed_same r m (s, PutOff) says = refl
  flowed_same r m (s, Failing) says =
      ap (λ (z : Session F × List JournalEntry). prints z)
      (ap (λ (b : Bool). fault_unless p b r m (carried h s) says) (released_same s) ∙ fault_unless_same (is_released o s) r m s says)

  written_unless_same : (broken : Bool) (r : Rules) (m : ℕ) (s : Session E) (a : Wrote)
      → written_unless p broken r m (carried h s) a ≡ changed (carried h) (written_unless o broken r m s a)
  written_unless_same true r m s a = refl
  written_unless_same false r m s a =
      next_carried (flow_carried h) (carried h) (writes s a.answers) (writes (carried h s) a.answers) (λ x. flowed o r m x a.says) (λ x. flowed p r m x a.says)
      (writes_same h s a.answers) (λ x. flowed_same r m x a.says)

  written_same : (r : Rules) (m : ℕ) (s : Session E) (a : Wrote) → session_behind_writing p r m (carried h s) a ≡ changed (carried h) (session_behind_writing o r m s a)
  unfolding session_behind_writing
  written_same r m s a = written_unless_same s.broken r m s a

  settled_same : (s : Session E) → session_kept_or_closed p (carried h s) ≡ changed (all_carried h) (session_kept_or_closed o s)
  unfolding session_kept_or_closed
  settled_same s =
      let due : Bool → Bool = λ b. s.broken || (b && ((length s.output == 0) || s.unmade)) in
      if_carried (changed (all_carried h)) (due (is_released o s)) (due (is_released p (carried h s))) (closed s) (stays s) (closed (carried h s)) (stays (carried h s))
      (ap due (released_same s)) refl refl

  rests_same : (r : Rules) (m : ℕ) (s : Session E) (a : Wrote) → rests p r m (carried h s) a ≡ changed (all_carried h) (rests o r m s a)
  unfolding rests
  rests_same r m s a =
      next_carried (carried h) (all_carried h) (session_behind_writing o r m s a) (session_behind_writing p r m (carried h s) a) (session_kept_or_closed o) (session_kept_or_closed p) (written_same r m s a) settled_same

  came_same : (reading : Reading) (r : Rules) (m : ℕ) (s : Session E) (says : List Says)
      → came p reading r m (carried h s) says ≡ first_carried (carried h) (came o reading r m s says)
  came_same (Gave octets) r m s says = pours_same settings o p h c r m s octets says
  came_same NotNow r m s says = refl
  came_same End r m s says = handled_same settings o p h c r m s Ends (first_answer_of nothing_said says)
  came_same Failed r m s says = handled_same settings o p h c r m s Faults (first_answer_of nothing_said says)

  read_once_same : (r : Rules) (m : ℕ) (s : Session E) (a : Met) → read_once p r m (carried h s) a ≡ changed (carried h) (read_once o r m s a)
  unfolding read_once
  read_once_same r m s a =
      let call = Reads s.number most_read a.waits a.reading in
      next_carried (carried h) (carried h) (makes call s) (makes call (carried h s)) (λ t. prints (came o a.reading r m t a.says)) (λ t. prints (came p a.reading r m t a.says))
      refl (λ t. ap (λ (z : Session F × List JournalEntry). prints z) (came_same a.reading r m t a.says))

  rests_behind_same : (reading : Reading) (r : Rules) (m : ℕ) (s : Session E) (a : Wrote)
      → rests_behind p reading r m (carried h s) a ≡ changed (all_carried h) (rests_behind o reading r m s a)
  rests_behind_same (Gave octets) r m s a = rests_same r m s a
  rests_behind_same NotNow r m s a = refl
  rests_behind_same End r m s a = rests_same r m s a
  rests_behind_same Failed r m s a = rests_same r m s a

  pub served_same : (r : Rules) (m : ℕ) (s : Session E) (g : GivenToSession) (a : Met) → served p r m (carried h s) g a ≡ changed (all_carried h) (served o r m s g a)
  unfolding served
  served_same r m s g a =
      let says = first_answer_of nothing_said a.says in
      next_carried (carried h) (all_carried h) (prints (handled o r m s g says)) (prints (handled p r m (carried h s) g says)) (λ t. rests o r m t a.wrote) (λ t. rests p r m t a.wrote)
      (ap (λ (z : Session F × List JournalEntry). prints z) (handled_same settings o p h c r m s g says)) (λ t. rests_same r m t a.wrote)

  read_same : (r : Rules) (m : ℕ) (s : Session E) (a : Met)
      → next (read_once p r m (carried h s) a) (λ t. rests_behind p a.reading r m t a.wrote)
      ≡ changed (all_carried h) (next (read_once o r m s a) (λ t. rests_behind o a.reading r m t a.wrote))
  read_same r m s a =
      next_carried (carried h) (all_carried h) (read_once o r m s a) (read_once p r m (carried h s) a)
      (λ t. rests_behind o a.reading r m t a.wrote) (λ t. rests_behind p a.reading r m t a.wrote)
      (read_once_same r m s a) (λ t. rests_behind_same a.reading r m t a.wrote)

  pub visited_same : (r : Rules) (m : ℕ) (visit : Visit) (s : Session E) (a : Met) → visited p r m visit (carried h s) a ≡ changed (all_carried h) (visited o r m visit s a)
  unfolding visited
  visited_same r m Tick s a =
      if_carried (changed (all_carried h)) (is_due m (o.deadline s.end)) (is_due m (p.deadline (h s.end))) (served o r m s Ticks a) (stays s)
      (served p r m (carried h s) Ticks a) (stays (carried h s)) (ap (λ (d : Option ℕ). is_due m d) (c.deadline s.end)) (served_same r m s Ticks a) refl
  visited_same r m Read s a =
      if_carried (changed (all_carried h)) (is_released o s) (is_released p (carried h s)) (stays s) (next (read_once o r m (made s) a) (λ t. rests_behind o a.reading r m t a.wrote))
      (stays (carried h s)) (next (read_once p r m (made (carried h s)) a) (λ t. rests_behind p a.reading r m t a.wrote)) (released_same s) refl (read_same r m (made s) a)
  visited_same r m Write s a = rests_same r m (made s) a.wrote
  visited_same r m Expire s a =
      if_carried (changed (all_carried h)) (is_due m s.closing) (is_due m s.closing) (closed s) (stays s) (closed (carried h s)) (stays (carried h s)) refl refl refl

  pub wakes_same : (s : Session E) → wakes p (carried h s) ≡ wakes o s
  wakes_same s = ap (λ (d : Option ℕ). first_moment d s.closing) (c.deadline s.end)
