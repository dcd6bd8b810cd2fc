-- A tick or a closing leaves a session of the same number, or none; and one whose moment hasn't come stays as it is.
use Rattle.loop_session.specs.Keeping.{kept_ends}
use Rattle.std.proofs.Common.{◌≡◌, ℕ, ◌+◌, nat_lt, Bool, true, false, inl, inr, List, [], ◌∷◌, Option, Some, None, length, refl, ◌∙◌, subst}
use Rattle.std.specs.Prelude.{◌==◌, ◌||◌}
use Rattle.std.proofs.lemmas.Bool.{cases_Bool}
use Rattle.er_base.specs.declared.release.Release.{Release}
use Rattle.er_end.specs.KeptEnds.{KEnd, deadline_of}
use Rattle.er_users.specs.Users.{Mind, Said}
use Rattle.link_trait.specs.declared.wires.WriteAnswer.{WriteAnswer}
use Rattle.link_trait.specs.declared.wires.WriteAnswer.TheVariants as write
use Rattle.loop_model.specs.Journals.{JournalEntry}
use Rattle.loop_model.specs.Outs.{Out, still, part_for_each_answer, acts}
use Rattle.loop_model.specs.Sessions.{Rules, Session, GivenToSession, Begins, Hears, Sends, Takes, Leaves as Departs, Ticks, Ends, Faults, Stalls, Says, most_output, joined, fed, replied, user_after_hearing, heard_by_user, outcomes_of_given_event, octets_in, dealt, takes_all, parts, parted, handled, is_released, owes_nothing}
use Rattle.loop_model.specs.Visits.{WritingState, Going, PutOff, Failing, Wrote, Met, Visit, Tick, Read, Write, Expire, after_write, writes_if, writes_once, writes, fault_unless, flowed, written_unless, session_behind_writing, session_kept_or_closed, rests, served, visited, is_due, wakes}
use Rattle.readiness_loop.specs.Books.{IsTimedVisit}
use Rattle.readiness_loop.proofs.Befores.{not_due_first, not_due_second}

-- ---- an event and what follows it

joined_number : (r : Rules) (m : ℕ) (s : Session KEnd) (octets : List ℕ) → (joined kept_ends r m s octets).0.number ≡ s.number
unfolding joined
joined_number r m s octets =
    elim (cases_Bool (nat_lt most_output (length s.output + length octets))) [
      | inl t ↦ rw t refl
      | inr t ↦ rw t refl
    ]

fed_number : (r : Rules) (m : ℕ) (s : Session KEnd) (g : GivenToSession) → (fed kept_ends r m s g).0.number ≡ s.number
unfolding fed
fed_number r m s g = joined_number r m _ (octets_in (outcomes_of_given_event kept_ends r m s.end g))

replied_number : (r : Rules) (m : ℕ) (s : Session KEnd) (g : GivenToSession) → (replied kept_ends r m s g).0.number ≡ s.number
replied_number r m s (Begins engine rbc rb) = fed_number r m s (Begins engine rbc rb)
replied_number r m s (Hears octets) = fed_number r m s (Hears octets)
replied_number r m s (Sends text) = fed_number r m s (Sends text)
replied_number r m s Takes = fed_number r m s Takes
replied_number r m s (Departs sub) = fed_number r m s (Departs sub)
replied_number r m s Ticks = fed_number r m s Ticks
replied_number r m s Ends = fed_number r m s Ends
replied_number r m s Faults = fed_number r m s Faults
replied_number r m s Stalls = fed_number r m s Stalls

runs_number : {A : Type 0} (f : Session KEnd → A → Session KEnd × List JournalEntry) → ((s : Session KEnd) (a : A) → (f s a).0.number ≡ s.number)
    → (s : Session KEnd) (answers : List A) → (part_for_each_answer f s answers).0.number ≡ s.number
unfolding part_for_each_answer
runs_number f h s [] = refl
runs_number f h s (a ∷ answers) = runs_number f h (f s a).0 answers ∙ h s a

dealt_number : (r : Rules) (m : ℕ) (s : Session KEnd) (g : GivenToSession) (free : Said) → (dealt kept_ends r m s g free).0.number ≡ s.number
unfolding dealt
dealt_number r m s g free =
    let b = user_after_hearing s.mind (heard_by_user (outcomes_of_given_event kept_ends r m s.end g)) free in
    runs_number (replied kept_ends r m) (replied_number r m) (record (fed kept_ends r m s g).0 { mind = b.0 }) b.1 ∙ fed_number r m s g

takes_number : (r : Rules) (m : ℕ) (s : Session KEnd) (frees : List Said) → (takes_all kept_ends r m s frees).0.number ≡ s.number
unfolding takes_all
takes_number r m s frees = runs_number (λ t free. dealt kept_ends r m t Takes free) (λ t free. dealt_number r m t Takes free) s _

parts_number : (release : Option Release) (mind : Option Mind) (at : ℕ) (s : Session KEnd) → (parts release mind at s).number ≡ s.number
parts_number None mind at s = refl
parts_number (Some release) None at s = refl
parts_number (Some release) (Some mind) at s = refl

parted_number : (r : Rules) (m : ℕ) (s : Session KEnd) → (parted kept_ends r m s).number ≡ s.number
parted_number r m s = parts_number s.end.core.released s.mind _ s

handled_number : (r : Rules) (m : ℕ) (s : Session KEnd) (g : GivenToSession) (says : Says) → (handled kept_ends r m s g says).0.number ≡ s.number
unfolding handled
handled_number r m s g says =
    let a = dealt kept_ends r m s g says.first in
    parted_number r m (takes_all kept_ends r m a.0 says.rest).0 ∙ takes_number r m a.0 says.rest ∙ dealt_number r m s g says.first

-- ---- writing

acts_number : {A : Type 0} (f : Session KEnd × WritingState → A → Out (Session KEnd × WritingState)) → ((x : Session KEnd × WritingState) (a : A) → (f x a).state.0.number ≡ x.0.number)
    → (x : Session KEnd × WritingState) (answers : List A) → (acts f x answers).state.0.number ≡ x.0.number
unfolding acts
acts_number f h x [] = refl
acts_number f h x (a ∷ answers) = acts_number f h (f x a).state answers ∙ h x a

after_number : (answer : WriteAnswer) (s : Session KEnd) → (after_write answer s).0.number ≡ s.number
after_number (write.Some n) s = refl
after_number write.NotNow s = refl
after_number write.Failed s = refl

if_number : (flow : WritingState) (s : Session KEnd) (answer : WriteAnswer) → (writes_if flow s answer).state.0.number ≡ s.number
if_number Going s answer =
    elim (cases_Bool (length s.output == 0)) [
      | inl t ↦ rw t refl
      | inr t ↦ rw t (after_number answer s)
    ]
if_number PutOff s answer = refl
if_number Failing s answer = refl

once_number : (x : Session KEnd × WritingState) (answer : WriteAnswer) → (writes_once x answer).state.0.number ≡ x.0.number
unfolding writes_once
once_number x answer = if_number x.1 x.0 answer

writes_number : (s : Session KEnd) (answers : List WriteAnswer) → (writes s answers).state.0.number ≡ s.number
unfolding writes
writes_number s answers = acts_number writes_once once_number (s, Going) _

fault_number : (b : Bool) (r : Rules) (m : ℕ) (s : Session KEnd) (says : Says) → (fault_unless kept_ends b r m s says).0.number ≡ s.number
fault_number true r m s says = refl
fault_number false r m s says = handled_number r m s Faults says

flowed_number : (r : Rules) (m : ℕ) (x : Session KEnd × WritingState) (says : Says) → (flowed kept_ends r m x says).state.number ≡ x.0.number
flowed_number r m (s, Going) says = refl
flowed_number r m (s, PutOff) says = refl
flowed_number r m (s, Failing) says = fault_number (is_released kept_ends s) r m s says

unless_number : (b : Bool) (r : Rules) (m : ℕ) (s : Session KEnd) (a : Wrote) → (written_unless kept_ends b r m s a).state.number ≡ s.number
unless_number true r m s a = refl
unless_number false r m s a = flowed_number r m (writes s a.answers).state a.says ∙ writes_number s a.answers

written_number : (r : Rules) (m : ℕ) (s : Session KEnd) (a : Wrote) → (session_behind_writing kept_ends r m s a).state.number ≡ s.number
unfolding session_behind_writing
written_number r m s a = unless_number s.broken r m s a

-- ---- what a visit leaves

-- a session of this number, or none
abbrev pub Leaves : ℕ → List (Session KEnd) → Type 0
Leaves n [] = Unit {0}
Leaves n (s ∷ []) = s.number ≡ n
Leaves n (s ∷ t ∷ ss) = ⊥

settled_leaves : (s : Session KEnd) → Leaves s.number (session_kept_or_closed kept_ends s).state
unfolding session_kept_or_closed
settled_leaves s =
    elim (cases_Bool (s.broken || owes_nothing kept_ends s)) [
      | inl t ↦ rw t tt
      | inr t ↦ rw t refl
    ]

rests_leaves : (r : Rules) (m : ℕ) (s : Session KEnd) (a : Wrote) → Leaves s.number (rests kept_ends r m s a).state
unfolding rests
rests_leaves r m s a = subst (λ n. Leaves n (session_kept_or_closed kept_ends (session_behind_writing kept_ends r m s a).state).state) (written_number r m s a) (settled_leaves (session_behind_writing kept_ends r m s a).state)

served_leaves : (r : Rules) (m : ℕ) (s : Session KEnd) (g : GivenToSession) (a : Met) → Leaves s.number (served kept_ends r m s g a).state
unfolding served
served_leaves r m s g a =
    let t = (handled kept_ends r m s g _).0 in
    subst (λ n. Leaves n (rests kept_ends r m t a.wrote).state) (handled_number r m s g _) (rests_leaves r m t a.wrote)

pub visited_leaves : (r : Rules) (m : ℕ) (v : Visit) → IsTimedVisit v → (s : Session KEnd) (a : Met) → Leaves s.number (visited kept_ends r m v s a).state
unfolding visited
visited_leaves r m Tick timed s a =
    elim (cases_Bool (is_due m (deadline_of s.end))) [
      | inl t ↦ rw t (served_leaves r m s Ticks a)
      | inr t ↦ rw t refl
    ]
visited_leaves r m Read timed s a = absurd timed
visited_leaves r m Write timed s a = absurd timed
visited_leaves r m Expire timed s a =
    elim (cases_Bool (is_due m s.closing)) [
      | inl t ↦ rw t tt
      | inr t ↦ rw t refl
    ]

pub visited_idle : (r : Rules) (m : ℕ) (v : Visit) → IsTimedVisit v → (s : Session KEnd) → is_due m (wakes kept_ends s) ≡ false → (a : Met) → visited kept_ends r m v s a ≡ still (s ∷ [])
unfolding visited
visited_idle r m Tick timed s p a = rw (not_due_first m (deadline_of s.end) s.closing p) refl
visited_idle r m Read timed s p a = absurd timed
visited_idle r m Write timed s p a = absurd timed
visited_idle r m Expire timed s p a = rw (not_due_second m (deadline_of s.end) s.closing p) refl
