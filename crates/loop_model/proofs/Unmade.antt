-- A dial of which the wires never told stays unmade, so that it is closed as soon as its end is released.
use Rattle.std.proofs.Common.{◌≡◌, ◌==◌, ℕ, inl, inr, Bool, true, false, ◌&&◌, ◌||◌, List, [], ◌∷◌, ◌++◌, length, drop, Option, Some, None, refl, sym, ◌∙◌, ap, subst, true≢false, eqb-true}
use Rattle.std.specs.Prelude.{nat_lt}
use Rattle.std.proofs.lemmas.Bool.{cases_Bool}
use Rattle.trace_model.specs.Checks.{most_live}
use Rattle.er_users.specs.Users.{Mind}
use Rattle.rand_core.specs.Stream.{next_u64}
use Rattle.link_trait.specs.Wires.{Call}
use Rattle.link_trait.specs.declared.wires.Happening.{Happening}
use Rattle.link_trait.specs.declared.wires.Happening.TheVariants as happening
use Rattle.link_trait.specs.declared.wires.WriteAnswer.{WriteAnswer}
use Rattle.link_trait.specs.declared.wires.WriteAnswer.TheVariants as write
use Rattle.loop_model.specs.Ends.{ModelEnd, model_ends}
use Rattle.loop_model.specs.Journals.{JournalEntry}
use Rattle.loop_model.specs.Laws.{turns_of}
use Rattle.loop_model.specs.Loops.{Plan, rules_of, Loop, visit_at, numbers, swept, Sweeps, before, next_user, begun, begun_dial, answering, answered_by, accepted, happened, Caller, calling, called_by, called, Halt, Course, asks, Turn, readied, turned_unless, went_unless, went, nothing_comes, run, opens, Dialled, dials_to, dials}
use Rattle.loop_model.specs.Outs.{Out, exactly, first_answer_of}
use Rattle.loop_model.specs.Parts.{session_of_connection}
use Rattle.loop_model.specs.Sessions.{Rules, Session, GivenToSession, Begins, Ticks, Faults, Says, nothing_said, handled, is_released, owes_nothing}
use Rattle.loop_model.specs.Unmade.{tells_of, TellNothingOf, UnmadeIsClosed}
use Rattle.loop_model.specs.Visits.{WritingState, Going, PutOff, Failing, after_write, writes_if, writes_once, writes, Wrote, fault_unless, flowed, written_unless, session_behind_writing, session_kept_or_closed, rests, Visit, Tick, Read, Write, Expire, Met, nothing_met, is_due, served, visited}
use Rattle.loop_model.proofs.Givings as givings
use Rattle.loop_model.proofs.Owns.{usual_calls}
use Rattle.loop_model.proofs.Recording.{turns_of-append}
use Rattle.loop_model.proofs.Steadies.{Steady, steady_at, handled_at, Calls, Left, Stays, Closed, left_visited, acts_lift}
use Rattle.loop_model.proofs.Writing.{kept_of, dialling_kept}

-- ---- an event with what follows it leaves a session as made or unmade as it was

abbrev Alike : Session ModelEnd → Session ModelEnd → List JournalEntry → List Call → Type 0
Alike s t xs cs = (t.number ≡ s.number) × (t.unmade ≡ s.unmade)

alike_steady : (r : Rules) → Steady r (λ g. Unit {0}) Alike
alike_steady r = record {
  none = λ s. (refl, refl);
  then_ = λ s t u xs ys cs ds p q. (q.0 ∙ p.0, q.1 ∙ p.1);
  given = λ m s g allowed fits. (refl, refl);
  stalls = λ m s g allowed fits. (refl, refl);
  heard = λ s mind. (refl, refl);
  parts = λ s told at gone. (refl, refl);
}

handled_alike : (r : Rules) (m : ℕ) (s : Session ModelEnd) (g : GivenToSession) (says : Says) → Alike s (handled model_ends r m s g says).0 [] []
handled_alike r m s g says = handled_at r m (λ g. Unit {0}) Alike (steady_at r (λ g. Unit {0}) Alike (alike_steady r) m) givings.all_given.usual s g says tt

-- ---- writing does so too

after_alike : (answer : WriteAnswer) (s : Session ModelEnd) → Alike s (after_write answer s).0 [] []
after_alike (write.Some n) s = (refl, refl)
after_alike write.NotNow s = (refl, refl)
after_alike write.Failed s = (refl, refl)

if_alike : (flow : WritingState) (s : Session ModelEnd) (answer : WriteAnswer) → Alike s (writes_if flow s answer).state.0 [] []
if_alike Going s answer =
    elim (cases_Bool (length s.output == 0)) [
      | inl p ↦ rw p (refl, refl)
      | inr p ↦ rw p (after_alike answer s)
    ]
if_alike PutOff s answer = (refl, refl)
if_alike Failing s answer = (refl, refl)

once_alike : (x : Session ModelEnd × WritingState) (answer : WriteAnswer) → Alike x.0 (writes_once x answer).state.0 [] []
unfolding writes_once
once_alike x answer = if_alike x.1 x.0 answer

writes_alike : (s : Session ModelEnd) (answers : List WriteAnswer) → Alike s (writes s answers).state.0 [] []
unfolding writes
writes_alike s answers =
    acts_lift (λ (x y : Session ModelEnd × WritingState) xs cs. Alike x.0 y.0 [] []) writes_once (λ x. (refl, refl)) (λ x y z xs ys cs ds p q. (q.0 ∙ p.0, q.1 ∙ p.1)) once_alike
    (s, Going) (exactly (length s.output) write.NotNow answers)

fault_alike : (b : Bool) (r : Rules) (m : ℕ) (s : Session ModelEnd) (says : Says) → Alike s (fault_unless model_ends b r m s says).0 [] []
fault_alike true r m s says = (refl, refl)
fault_alike false r m s says = handled_alike r m s Faults says

flowed_alike : (r : Rules) (m : ℕ) (x : Session ModelEnd × WritingState) (says : Says) → Alike x.0 (flowed model_ends r m x says).state [] []
flowed_alike r m (s, Going) says = (refl, refl)
flowed_alike r m (s, PutOff) says = (refl, refl)
flowed_alike r m (s, Failing) says = fault_alike (is_released model_ends s) r m s says

unless_alike : (b : Bool) (r : Rules) (m : ℕ) (s : Session ModelEnd) (a : Wrote) → Alike s (written_unless model_ends b r m s a).state [] []
unless_alike true r m s a = (refl, refl)
unless_alike false r m s a =
    let w = writes_alike s a.answers in
    let f = flowed_alike r m (writes s a.answers).state a.says in (f.0 ∙ w.0, f.1 ∙ w.1)

written_alike : (r : Rules) (m : ℕ) (s : Session ModelEnd) (a : Wrote) → Alike s (session_behind_writing model_ends r m s a).state [] []
unfolding session_behind_writing
written_alike r m s a = unless_alike s.broken r m s a

-- ---- visits

module _ (conn : ℕ) where
  abbrev IsUnmade : Session ModelEnd → Type 0
  IsUnmade s = (s.number == conn) ≡ true → s.unmade ≡ true

  abbrev AreUnmade : List (Session ModelEnd) → Type 0
  AreUnmade [] = Unit {0}
  AreUnmade (s ∷ ss) = IsUnmade s × AreUnmade ss

  unmade_alike : (s t : Session ModelEnd) → Alike s t [] [] → IsUnmade s → IsUnmade t
  unmade_alike s t same p is = same.1 ∙ p (ap (λ n. n == conn) (sym same.0) ∙ is)

  unmade_settled : (s : Session ModelEnd) → IsUnmade s → AreUnmade (session_kept_or_closed model_ends s).state
  unfolding session_kept_or_closed
  unmade_settled s p = elim (cases_Bool (s.broken || owes_nothing model_ends s)) [ inl q ↦ rw q tt | inr q ↦ rw q (p, tt) ]

  unmade_rests : (r : Rules) (m : ℕ) (s : Session ModelEnd) (a : Wrote) → IsUnmade s → AreUnmade (rests model_ends r m s a).state
  unfolding rests
  unmade_rests r m s a p =
      unmade_settled (session_behind_writing model_ends r m s a).state (unmade_alike s (session_behind_writing model_ends r m s a).state (written_alike r m s a) p)

  unmade_served : (r : Rules) (m : ℕ) (s : Session ModelEnd) (g : GivenToSession) (a : Met) → IsUnmade s → AreUnmade (served model_ends r m s g a).state
  unfolding served
  unmade_served r m s g a p =
      let says = first_answer_of nothing_said a.says in
      unmade_rests r m (handled model_ends r m s g says).0 a.wrote (unmade_alike s (handled model_ends r m s g says).0 (handled_alike r m s g says) p)

  unmade_tick : (r : Rules) (m : ℕ) (s : Session ModelEnd) (a : Met) → IsUnmade s → AreUnmade (visited model_ends r m Tick s a).state
  unfolding visited
  unmade_tick r m s a p =
      elim (cases_Bool (is_due m (model_ends.deadline s.end))) [ inl q ↦ rw q (unmade_served r m s Ticks a p) | inr q ↦ rw q (p, tt) ]

  unmade_expire : (r : Rules) (m : ℕ) (s : Session ModelEnd) (a : Met) → IsUnmade s → AreUnmade (visited model_ends r m Expire s a).state
  unfolding visited
  unmade_expire r m s a p = elim (cases_Bool (is_due m s.closing)) [ inl q ↦ rw q tt | inr q ↦ rw q (p, tt) ]

  unmade_two : (ss ts : List (Session ModelEnd)) → AreUnmade ss → AreUnmade ts → AreUnmade (ss ++ ts)
  unmade_two [] ts p q = q
  unmade_two (s ∷ ss) ts p q = (p.0, unmade_two ss ts p.1 q)

  unmade_at : (f : Session ModelEnd → Met → Out (List (Session ModelEnd))) (n : ℕ) (ss : List (Session ModelEnd)) (a : Met)
      → ((s : Session ModelEnd) → (s.number == n) ≡ true → IsUnmade s → AreUnmade (f s a).state) → AreUnmade ss → AreUnmade (visit_at f n ss a).state
  unfolding visit_at
  unmade_at f n [] a h p = tt
  unmade_at f n (s ∷ ss) a h p =
      elim (cases_Bool (s.number == n)) [
        | inl q ↦ rw q (unmade_two (f s a).state ss (h s q p.0) p.1)
        | inr q ↦ rw q (p.0, unmade_at f n ss a h p.1)
      ]

  unmade_swept : (f : Session ModelEnd → Met → Out (List (Session ModelEnd))) (ns : List ℕ) (ss : List (Session ModelEnd)) (answers : List Met)
      → ((s : Session ModelEnd) (a : Met) → IsUnmade s → AreUnmade (f s a).state) → AreUnmade ss → AreUnmade (swept f ns ss answers).state
  unfolding swept
  unmade_swept f [] ss answers h p = p
  unmade_swept f (n ∷ ns) ss answers h p =
      let a = first_answer_of nothing_met answers in
      unmade_swept f ns (visit_at f n ss a).state (drop 1 answers) h (unmade_at f n ss a (λ s is. h s a) p)

  unmade_before : (r : Rules) (m : ℕ) (ss : List (Session ModelEnd)) (a : Sweeps) → AreUnmade ss → AreUnmade (before model_ends r m ss a).state
  unfolding before
  unmade_before r m ss a p =
      let now = (swept (visited model_ends r m Tick) (numbers ss) ss a.ticks).state in
      unmade_swept (visited model_ends r m Expire) (numbers now) now a.closings (unmade_expire r m) (unmade_swept (visited model_ends r m Tick) (numbers ss) ss a.ticks (unmade_tick r m) p)

  -- ---- a visit of another connection

  abbrev Numbered : Session ModelEnd → Session ModelEnd → List JournalEntry → List Call → Type 0
  Numbered s t xs cs = t.number ≡ s.number

  numbered_calls : (r : Rules) → Calls r Numbered
  numbered_calls r =
      usual_calls r (λ g. Unit {0}) Numbered (record {
        none = λ s. refl;
        then_ = λ s t u xs ys cs ds p q. q ∙ p;
        given = λ m s g allowed fits. refl;
        stalls = λ m s g allowed fits. refl;
        heard = λ s mind. refl;
        parts = λ s told at gone. refl;
      }) givings.all_given (record { wrote = λ s n whole. refl; put_off = λ s. refl; noted = λ s. refl; failed = λ s. refl; breaks = λ s gone. refl }) (λ s waits reading. refl)

  other_unmade : (n : ℕ) (s : Session ModelEnd) → s.number ≡ n → (n == conn) ≡ false → IsUnmade s
  other_unmade n s is other at = absurd (true≢false (sym at ∙ ap (λ k. k == conn) is ∙ other))

  left_unmade : (n : ℕ) (s : Session ModelEnd) (ts : List (Session ModelEnd)) (xs : List JournalEntry) (cs : List Call) → s.number ≡ n → (n == conn) ≡ false
      → Left Numbered s ts xs cs → AreUnmade ts
  left_unmade n s ts xs cs is other (Stays t only num) = subst AreUnmade (sym only) (other_unmade n t (num ∙ is) other, tt)
  left_unmade n s ts xs cs is other (Closed t ds over none e num) = subst AreUnmade (sym none) tt

  unmade_elsewhere : (r : Rules) (m : ℕ) (visit : Visit) (n : ℕ) (ss : List (Session ModelEnd)) (a : Met) → (n == conn) ≡ false → AreUnmade ss
      → AreUnmade (visit_at (visited model_ends r m visit) n ss a).state
  unmade_elsewhere r m visit n ss a other p =
      unmade_at (visited model_ends r m visit) n ss a
      (λ s is q.
      left_unmade n s (visited model_ends r m visit s a).state (visited model_ends r m visit s a).entries (visited model_ends r m visit s a).calls (eqb-true s.number n is) other
      (left_visited r Numbered (numbered_calls r) visit m s a)) p

  -- ---- turns that tell nothing of it

  tell_two : (xs ys : List Happening) → TellNothingOf conn (xs ++ ys) → TellNothingOf conn xs × TellNothingOf conn ys
  tell_two [] ys p = (tt, p)
  tell_two (x ∷ xs) ys p = let q = tell_two xs ys p.1 in ((p.0, q.0), q.1)

  tell_calls : (cs ds : List Call) → TellNothingOf conn (turns_of (cs ++ ds)) → TellNothingOf conn (turns_of cs) × TellNothingOf conn (turns_of ds)
  tell_calls cs ds p = tell_two (turns_of cs) (turns_of ds) (subst (TellNothingOf conn) (turns_of-append cs ds) p)

  module _ (plan : Plan) where
    unmade_answered : (user : Option Mind) (memory : Bool) (l : Loop ModelEnd) (n : ℕ) → (n == conn) ≡ false → AreUnmade l.sessions
        → AreUnmade (answered_by model_ends user memory plan l n).state.sessions
    unmade_answered None memory l n other p = p
    unmade_answered (Some mind) true l n other p =
        let s = begun n (answering model_ends plan l) mind in unmade_two l.sessions (s ∷ []) p (other_unmade n s refl other, tt)
    unmade_answered (Some mind) false l n other p = p

    unmade_accepted : (l : Loop ModelEnd) (n : ℕ) (memory : Bool) → (n == conn) ≡ false → AreUnmade l.sessions → AreUnmade (accepted model_ends plan l n memory).state.sessions
    unfolding accepted
    unmade_accepted l n memory other p =
        elim (cases_Bool (nat_lt (length l.sessions) most_live)) [
          | inl q ↦ rw q (unmade_answered (next_user l.users) memory l n other p)
          | inr q ↦ rw q p
        ]

    unmade_happened : (l : Loop ModelEnd) (what : Happening) (a : Met) → tells_of conn what ≡ false → AreUnmade l.sessions → AreUnmade (happened model_ends plan l what a).state.sessions
    unfolding happened
    unmade_happened l (happening.Accepted other) a none p = unmade_accepted l other.0 a.memory none p
    unmade_happened l (happening.Readable other) a none p = unmade_elsewhere (rules_of plan) l.moment Read other.0 l.sessions a none p
    unmade_happened l (happening.Writable other) a none p = unmade_elsewhere (rules_of plan) l.moment Write other.0 l.sessions a none p
    unmade_happened l happening.Quiet a none p = p
    unmade_happened l happening.Ended a none p = p
    unmade_happened l happening.Failed a none p = p

    abbrev Along : Course ModelEnd → Course ModelEnd → List JournalEntry → List Call → Type 0
    Along c d xs cs = TellNothingOf conn (turns_of cs) → AreUnmade c.loop.sessions → AreUnmade d.loop.sessions

    abbrev AlongOf : Course ModelEnd → Out (Course ModelEnd) → Type 0
    AlongOf c o = Along c o.state o.entries o.calls

    along_then : (c d e : Course ModelEnd) (xs ys : List JournalEntry) (cs ds : List Call) → Along c d xs cs → Along d e ys ds → Along c e (xs ++ ys) (cs ++ ds)
    along_then c d e xs ys cs ds p q told u = let two = tell_calls cs ds told in q two.1 (p two.0 u)

    along_readied : (c : Course ModelEnd) (a : Turn) → AlongOf c (readied model_ends plan c a)
    unfolding readied
    along_readied c a told p = let d = asks a.first c in unmade_before (rules_of plan) d.loop.moment d.loop.sessions a.sweeps p

    along_turned : (halt : Option Halt) (c : Course ModelEnd) (a : Turn) → AlongOf c (turned_unless model_ends halt plan c a)
    unfolding turns_of
    along_turned (Some halt) c a told p = p
    along_turned None c a told p = unmade_happened (asks a.second c).loop a.happening a.met told.0 p

    along_went_unless : (halt : Option Halt) (c : Course ModelEnd) (a : Turn) → AlongOf c (went_unless model_ends halt plan c a)
    along_went_unless (Some halt) c a told p = p
    along_went_unless None c a told p =
        let d = readied model_ends plan c a in
        let t = turned_unless model_ends d.state.halt plan d.state a in
        along_then c d.state t.state d.entries t.entries d.calls t.calls (along_readied c a) (along_turned d.state.halt d.state a) told p

    along_went : (c : Course ModelEnd) (a : Turn) → AlongOf c (went model_ends plan c a)
    unfolding went
    along_went c a told p = along_went_unless c.halt c a told p

    along_run : (c : Course ModelEnd) (turns : List Turn) → AlongOf c (run model_ends plan c turns)
    unfolding run
    along_run c turns = acts_lift Along (went model_ends plan) (λ c told p. p) along_then along_went c (exactly plan.turns nothing_comes turns)

    -- ---- a dial

    unmade_called : (user : Option Mind) (caller : Caller) (l : Loop ModelEnd) (n : ℕ) (a : Met) → AreUnmade l.sessions → AreUnmade (called_by model_ends user plan caller l n a).state.sessions
    unmade_called None caller l n a p = p
    unmade_called (Some mind) caller l n a p =
        unmade_served (rules_of plan) l.moment (begun_dial n (calling model_ends plan caller l) mind) (Begins caller.engine plan.rbc (next_u64 l.words).0) a (λ is. refl)

    unmade_dial : (number : Option ℕ) (caller : Caller) (c : Course ModelEnd) (address : List ℕ) (a : Dialled)
        → TellNothingOf conn (turns_of (dials_to model_ends number plan caller c address a).calls) → AreUnmade c.loop.sessions
        → AreUnmade (dials_to model_ends number plan caller c address a).state.loop.sessions
    unfolding called turns_of
    unmade_dial None caller c address a told p = p
    unmade_dial (Some n) caller c address a told p =
        let d = asks a.first c in
        let o = opens model_ends plan caller d n a.met in
        along_run o.state a.turns (tell_calls o.calls (run model_ends plan o.state a.turns).calls told).1 (unmade_called (next_user d.loop.users) caller d.loop n a.met p)

  unmade_of : (ss : List (Session ModelEnd)) (s : Session ModelEnd) → AreUnmade ss → session_of_connection conn ss ≡ Some s → s.unmade ≡ true
  unfolding session_of_connection
  unmade_of [] s p e = absurd (let q : ⊥ = cc in q)
  unmade_of (t ∷ ss) s p e =
      elim (cases_Bool (t.number == conn)) [
        | inl q ↦ let same : Some t ≡ Some s = rw q at e in subst (λ (z : Session ModelEnd). z.unmade ≡ true) (some_is t s same) (p.0 q)
        | inr q ↦ unmade_of ss s p.1 (rw q at e)
      ]
    where
      some_is : (t s : Session ModelEnd) → Some t ≡ Some s → t ≡ s
      some_is t s p = cc

still_live : (a b c d : Bool) → (a || (b && (c || d))) ≡ false → d ≡ true → b ≡ false
still_live true b c d p q = absurd (true≢false p)
still_live false false c d p q = refl
still_live false true true d p q = absurd (true≢false p)
still_live false true false d p q = absurd (true≢false (sym q ∙ p))

pub unmade_is_closed : UnmadeIsClosed
unfolding dials
unmade_is_closed plan caller c address a conn h is told s at =
    let o = dials model_ends plan caller c address a in
    let none : AreUnmade conn c.loop.sessions = subst (AreUnmade conn) (sym h.none) tt in
    let unmade : s.unmade ≡ true = unmade_of conn o.state.loop.sessions s (unmade_dial conn plan a.conn caller c address a told none) at in
    still_live s.broken (is_released model_ends s) (length s.output == 0) s.unmade (kept_of conn o.state.loop.sessions s (dialling_kept plan caller c address a h) at) unmade
