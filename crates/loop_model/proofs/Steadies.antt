-- A relation between two states of a session, the journal and the calls between them holds of each part of the loop, where it holds of
-- each event and each call.
use Rattle.loop_model.specs.Ends.{ModelEnd, model_ends}
use Rattle.std.proofs.Common.{◌≡◌, ℕ, ◌+◌, inl, inr, Bool, true, false, ◌&&◌, ◌||◌, List, [], ◌∷◌, ◌++◌, length, drop, Option, Some, None, refl, ◌∙◌, ap, subst, append-nil, append_assoc}
use Rattle.std.specs.Prelude.{nat_lt, ◌==◌, is_some}
use Rattle.std.proofs.lemmas.Bool.{cases_Bool}
use Rattle.er_base.specs.declared.release.Release.{Release}
use Rattle.er_users.specs.Users.{Mind, Heard, Released, Said, said, tells_more}
use Rattle.link_trait.specs.Wires.{Call, Reading, Gave, NotNow, End, Failed, Reads, Writes, Closes}
use Rattle.link_trait.specs.declared.wires.WriteAnswer.{WriteAnswer}
use Rattle.link_trait.specs.declared.wires.WriteAnswer.TheVariants as write
use Rattle.loop_model.specs.Journals.{JournalEntry}
use Rattle.loop_model.specs.Outs.{Out, still, next, makes, part_for_each_answer, acts, exactly, first_answer_of}
use Rattle.loop_model.specs.Sessions.{Rules, Session, GivenToSession, Hears, Sends, Takes, Leaves, Ticks, Faults, Stalls, most_output, is_released, end_after, outcomes_of_given_event, entry_of, octets_in, breaks, joined, fed, replied, refused_in, refusal_heard, notes, heard_by_user, leave_of, sends_of, user_after_hearing, silent_answer, dealt, count_waiting_in_session, takes_all, parts, parted, Says, nothing_said, handled, poured, pours, owes_nothing, made}
use Rattle.loop_model.specs.Visits.{most_read, WritingState, Going, PutOff, Failing, after_write, writes_once, writes, Wrote, fault_unless, flowed, written_unless, session_behind_writing, session_kept_or_closed, rests, Visit, Tick, Read, Write, Expire, Met, is_due, came, read_once, rests_behind, served, visited}

-- ---- parts that print, parts that act

pub runs_lift : {S A : Type 0} (P : S → S → List JournalEntry → Type 0) (f : S → A → S × List JournalEntry)
    → ((s : S) → P s s []) → ((s t u : S) (xs ys : List JournalEntry) → P s t xs → P t u ys → P s u (xs ++ ys))
    → ((s : S) (a : A) → P s (f s a).0 (f s a).1)
    → (s : S) (answers : List A) → P s (part_for_each_answer f s answers).0 (part_for_each_answer f s answers).1
unfolding part_for_each_answer
runs_lift P f none then_ step s [] = none s
runs_lift P f none then_ step s (a ∷ answers) = then_ _ _ _ _ _ (step s a) (runs_lift P f none then_ step (f s a).0 answers)

pub acts_lift : {S A : Type 0} (P : S → S → List JournalEntry → List Call → Type 0) (f : S → A → Out S)
    → ((s : S) → P s s [] [])
    → ((s t u : S) (xs ys : List JournalEntry) (cs ds : List Call) → P s t xs cs → P t u ys ds → P s u (xs ++ ys) (cs ++ ds))
    → ((s : S) (a : A) → P s (f s a).state (f s a).entries (f s a).calls)
    → (s : S) (answers : List A) → P s (acts f s answers).state (acts f s answers).entries (acts f s answers).calls
unfolding acts
acts_lift P f none then_ step s [] = none s
acts_lift P f none then_ step s (a ∷ answers) = then_ _ _ _ _ _ _ _ (step s a) (acts_lift P f none then_ step (f s a).state answers)

-- ---- events

-- a relation that holds of each event that is allowed, at this moment, and goes on
pub record SteadyAt (r : Rules) (m : ℕ) (Allowed : GivenToSession → Type 0) (Q : Session ModelEnd → Session ModelEnd → List JournalEntry → List Call → Type 0) : Type 0 where
  pub none : (s : Session ModelEnd) → Q s s [] []
  pub then_ : (s t u : Session ModelEnd) (xs ys : List JournalEntry) (cs ds : List Call) → Q s t xs cs → Q t u ys ds → Q s u (xs ++ ys) (cs ++ ds)
  pub given : (s : Session ModelEnd) (g : GivenToSession) → Allowed g
      → nat_lt most_output (length s.output + length (octets_in (outcomes_of_given_event model_ends r m s.end g))) ≡ false
      → Q s (record s { end = end_after model_ends r m s.end g; output = s.output ++ octets_in (outcomes_of_given_event model_ends r m s.end g); broken = s.broken || breaks g }) (entry_of model_ends r m s g ∷ []) []
  pub stalls : (s : Session ModelEnd) (g : GivenToSession) → Allowed g
      → nat_lt most_output (length s.output + length (octets_in (outcomes_of_given_event model_ends r m s.end g))) ≡ true
      → Q s (record s { end = end_after model_ends r m (end_after model_ends r m s.end g) Stalls; broken = true })
      (entry_of model_ends r m s g ∷ entry_of model_ends r m (record s { end = end_after model_ends r m s.end g }) Stalls ∷ []) []
  pub heard : (s : Session ModelEnd) (mind : Option Mind) → Q s (record s { mind = mind }) [] []
  pub parts : (s : Session ModelEnd) (told : Option (List Heard)) (at : ℕ) → is_released model_ends s ≡ true → Q s (record s { mind = None; told = told; closing = Some at }) [] []

-- at every moment
pub record Steady (r : Rules) (Allowed : GivenToSession → Type 0) (Q : Session ModelEnd → Session ModelEnd → List JournalEntry → List Call → Type 0) : Type 0 where
  pub none : (s : Session ModelEnd) → Q s s [] []
  pub then_ : (s t u : Session ModelEnd) (xs ys : List JournalEntry) (cs ds : List Call) → Q s t xs cs → Q t u ys ds → Q s u (xs ++ ys) (cs ++ ds)
  pub given : (m : ℕ) (s : Session ModelEnd) (g : GivenToSession) → Allowed g
      → nat_lt most_output (length s.output + length (octets_in (outcomes_of_given_event model_ends r m s.end g))) ≡ false
      → Q s (record s { end = end_after model_ends r m s.end g; output = s.output ++ octets_in (outcomes_of_given_event model_ends r m s.end g); broken = s.broken || breaks g }) (entry_of model_ends r m s g ∷ []) []
  pub stalls : (m : ℕ) (s : Session ModelEnd) (g : GivenToSession) → Allowed g
      → nat_lt most_output (length s.output + length (octets_in (outcomes_of_given_event model_ends r m s.end g))) ≡ true
      → Q s (record s { end = end_after model_ends r m (end_after model_ends r m s.end g) Stalls; broken = true })
      (entry_of model_ends r m s g ∷ entry_of model_ends r m (record s { end = end_after model_ends r m s.end g }) Stalls ∷ []) []
  pub heard : (s : Session ModelEnd) (mind : Option Mind) → Q s (record s { mind = mind }) [] []
  pub parts : (s : Session ModelEnd) (told : Option (List Heard)) (at : ℕ) → is_released model_ends s ≡ true → Q s (record s { mind = None; told = told; closing = Some at }) [] []

-- the events that follow others are allowed
pub record Usual (Allowed : GivenToSession → Type 0) : Type 0 where
  pub sends : (text : List ℕ) → Allowed (Sends text)
  pub leaves : (sub : ℕ) → Allowed (Leaves sub)
  pub takes : Allowed Takes

module _ (r : Rules) (m : ℕ) (Allowed : GivenToSession → Type 0) (Q : Session ModelEnd → Session ModelEnd → List JournalEntry → List Call → Type 0) (q : SteadyAt r m Allowed Q) (usual : Usual Allowed) where
  pub fed_at : (s : Session ModelEnd) (g : GivenToSession) → Allowed g → Q s (fed model_ends r m s g).0 (fed model_ends r m s g).1 []
  unfolding fed joined
  fed_at s g allowed =
      let b = nat_lt most_output (length s.output + length (octets_in (outcomes_of_given_event model_ends r m s.end g))) in
      elim (cases_Bool b) [ inl p ↦ rw p (q.stalls s g allowed p) | inr p ↦ rw p (q.given s g allowed p) ]

  -- a text, and what the user hears of it
  said_at : (s : Session ModelEnd) (text : List ℕ) → Q s (replied model_ends r m s (Sends text)).0 (replied model_ends r m s (Sends text)).1 []
  said_at s text =
      let a = fed model_ends r m s (Sends text) in
      subst (λ z. Q s (replied model_ends r m s (Sends text)).0 z []) (append-nil a.1)
      (q.then_ _ _ _ _ _ _ _ (fed_at s (Sends text) (usual.sends text))
      (q.heard a.0 (notes (refusal_heard text (refused_in (outcomes_of_given_event model_ends r m s.end (Sends text)))) s.mind)))

  sends_at : (s : Session ModelEnd) (texts : List (List ℕ)) (leave : Option ℕ)
      → Q s (part_for_each_answer (replied model_ends r m) s (sends_of texts ++ leave_of leave)).0 (part_for_each_answer (replied model_ends r m) s (sends_of texts ++ leave_of leave)).1 []
  unfolding part_for_each_answer
  sends_at s [] None = q.none s
  sends_at s [] (Some sub) = q.then_ _ _ _ _ _ _ _ (fed_at s (Leaves sub) (usual.leaves sub)) (q.none _)
  sends_at s (text ∷ texts) leave =
      q.then_ _ _ _ _ _ _ _ (said_at s text) (sends_at (replied model_ends r m s (Sends text)).0 texts leave)

  replies_at : (s : Session ModelEnd) (mind : Option Mind) (heard : Option Heard) (free : Said)
      → Q s (part_for_each_answer (replied model_ends r m) s (user_after_hearing mind heard free).1).0 (part_for_each_answer (replied model_ends r m) s (user_after_hearing mind heard free).1).1 []
  unfolding part_for_each_answer
  replies_at s None heard free = q.none s
  replies_at s (Some mind) None free = q.none s
  replies_at s (Some mind) (Some heard) free =
      let a = said mind.kind mind heard free in sends_at s a.texts a.leave

  -- an event of which it holds by itself, with what follows it
  pub dealt_at : (s : Session ModelEnd) (g : GivenToSession) (free : Said)
      → Q s (fed model_ends r m s g).0 (fed model_ends r m s g).1 [] → Q s (dealt model_ends r m s g free).0 (dealt model_ends r m s g free).1 []
  unfolding dealt
  dealt_at s g free p =
      let a = fed model_ends r m s g in
      let b = user_after_hearing s.mind (heard_by_user (outcomes_of_given_event model_ends r m s.end g)) free in
      let t : Session ModelEnd = record a.0 { mind = b.0 } in
      q.then_ _ _ _ _ _ _ _ p (q.then_ _ _ _ _ _ _ _ (q.heard a.0 b.0) (replies_at t s.mind (heard_by_user (outcomes_of_given_event model_ends r m s.end g)) free))

  takes_at : (s : Session ModelEnd) (frees : List Said) → Q s (takes_all model_ends r m s frees).0 (takes_all model_ends r m s frees).1 []
  unfolding takes_all
  takes_at s frees =
      runs_lift (λ t u xs. Q t u xs []) (λ t free. dealt model_ends r m t Takes free) q.none (λ t u v xs ys. q.then_ t u v xs ys [] [])
      (λ t free. dealt_at t Takes free (fed_at t Takes usual.takes)) s (exactly (count_waiting_in_session model_ends s) silent_answer frees)

  parts_at : (release : Option Release) (mind : Option Mind) (at : ℕ) (s : Session ModelEnd) → s.end.core.released ≡ release → Q s (parts release mind at s) [] []
  parts_at None mind at s is = q.none s
  parts_at (Some release) None at s is = q.none s
  parts_at (Some release) (Some mind) at s is = q.parts s (tells_more mind.told (Released release.reason release.sub release.by_peer)) at (ap is_some is)

  pub handled_of_at : (s : Session ModelEnd) (g : GivenToSession) (says : Says)
      → Q s (fed model_ends r m s g).0 (fed model_ends r m s g).1 [] → Q s (handled model_ends r m s g says).0 (handled model_ends r m s g says).1 []
  unfolding handled
  handled_of_at s g says p =
      let a = dealt model_ends r m s g says.first in
      let b = takes_all model_ends r m a.0 says.rest in
      rw (← append-nil (a.1 ++ b.1))
      (q.then_ s b.0 (parted model_ends r m b.0) (a.1 ++ b.1) [] [] []
      (q.then_ s a.0 b.0 a.1 b.1 [] [] (dealt_at s g says.first p) (takes_at a.0 says.rest))
      (parts_at b.0.end.core.released b.0.mind (m + r.setup) b.0 refl))

  -- what follows an event, of which it need not hold
  pub record Follows (s : Session ModelEnd) (g : GivenToSession) (t : Session ModelEnd) (xs : List JournalEntry) : Type 0 where
    pub rest : List JournalEntry
    pub is : xs ≡ (fed model_ends r m s g).1 ++ rest
    pub holds : Q (fed model_ends r m s g).0 t rest []

  follows_dealt_at : (s : Session ModelEnd) (g : GivenToSession) (free : Said) → Follows s g (dealt model_ends r m s g free).0 (dealt model_ends r m s g free).1
  unfolding dealt
  follows_dealt_at s g free =
      let a = fed model_ends r m s g in
      let b = user_after_hearing s.mind (heard_by_user (outcomes_of_given_event model_ends r m s.end g)) free in
      let t : Session ModelEnd = record a.0 { mind = b.0 } in
      let c = part_for_each_answer (replied model_ends r m) t b.1 in
      record {
        rest = c.1;
        is = refl;
        holds = q.then_ a.0 t c.0 [] c.1 [] [] (q.heard a.0 b.0) (replies_at t s.mind (heard_by_user (outcomes_of_given_event model_ends r m s.end g)) free);
      }

  pub follows_handled_at : (s : Session ModelEnd) (g : GivenToSession) (says : Says) → Follows s g (handled model_ends r m s g says).0 (handled model_ends r m s g says).1
  unfolding handled
  follows_handled_at s g says =
      let a = dealt model_ends r m s g says.first in
      let b = takes_all model_ends r m a.0 says.rest in
      let d = follows_dealt_at s g says.first in
      record {
        rest = d.rest ++ b.1;
        is = ap (λ z. z ++ b.1) d.is ∙ append_assoc (fed model_ends r m s g).1 d.rest b.1;
        holds =
            subst (λ z. Q (fed model_ends r m s g).0 (parted model_ends r m b.0) z []) (append-nil (d.rest ++ b.1))
            (q.then_ (fed model_ends r m s g).0 b.0 (parted model_ends r m b.0) (d.rest ++ b.1) [] [] []
            (q.then_ (fed model_ends r m s g).0 a.0 b.0 d.rest b.1 [] [] d.holds (takes_at a.0 says.rest))
            (parts_at b.0.end.core.released b.0.mind (m + r.setup) b.0 refl));
      }

  pub handled_at : (s : Session ModelEnd) (g : GivenToSession) (says : Says) → Allowed g
      → Q s (handled model_ends r m s g says).0 (handled model_ends r m s g says).1 []
  handled_at s g says allowed = handled_of_at s g says (fed_at s g allowed)

  module _ (hears_all : (octets : List ℕ) → Allowed (Hears octets)) where
    poured_at : (x : Session ModelEnd × List ℕ) (says : Says) → Q x.0 (poured model_ends r m x says).0.0 (poured model_ends r m x says).1 []
    unfolding poured
    poured_at x says =
        let b = (length x.1 == 0) || x.0.broken in
        elim (cases_Bool b) [
          | inl p ↦ rw p (q.none x.0)
          | inr p ↦ rw p (handled_at x.0 (Hears x.1) says (hears_all x.1))
        ]

    pub pours_at : (s : Session ModelEnd) (octets : List ℕ) (says : List Says)
        → Q s (pours model_ends r m s octets says).0 (pours model_ends r m s octets says).1 []
    unfolding pours
    pours_at s octets says =
        runs_lift (λ (x y : Session ModelEnd × List ℕ) xs. Q x.0 y.0 xs []) (poured model_ends r m) (λ x. q.none x.0)
        (λ x y z xs ys. q.then_ x.0 y.0 z.0 xs ys [] []) poured_at (s, octets) (exactly (length octets) nothing_said says)

-- ---- the same, at every moment

pub steady_at : (r : Rules) (Allowed : GivenToSession → Type 0) (Q : Session ModelEnd → Session ModelEnd → List JournalEntry → List Call → Type 0) → Steady r Allowed Q → (m : ℕ) → SteadyAt r m Allowed Q
steady_at r Allowed Q q m = record {
  none = q.none;
  then_ = q.then_;
  given = q.given m;
  stalls = q.stalls m;
  heard = q.heard;
  parts = q.parts;
}

module _ (r : Rules) (Allowed : GivenToSession → Type 0) (Q : Session ModelEnd → Session ModelEnd → List JournalEntry → List Call → Type 0) (q : Steady r Allowed Q) (usual : Usual Allowed) where
  pub steady_fed : (m : ℕ) (s : Session ModelEnd) (g : GivenToSession) → Allowed g → Q s (fed model_ends r m s g).0 (fed model_ends r m s g).1 []
  steady_fed m s g allowed = fed_at r m Allowed Q (steady_at r Allowed Q q m) usual s g allowed

  pub follows_handled : (m : ℕ) (s : Session ModelEnd) (g : GivenToSession) (says : Says)
      → Follows r m Allowed Q (steady_at r Allowed Q q m) usual s g (handled model_ends r m s g says).0 (handled model_ends r m s g says).1
  follows_handled m s g says = follows_handled_at r m Allowed Q (steady_at r Allowed Q q m) usual s g says

  pub steady_handled : (m : ℕ) (s : Session ModelEnd) (g : GivenToSession) (says : Says) → Allowed g
      → Q s (handled model_ends r m s g says).0 (handled model_ends r m s g says).1 []
  steady_handled m s g says allowed = handled_at r m Allowed Q (steady_at r Allowed Q q m) usual s g says allowed

  pub steady_pours : ((octets : List ℕ) → Allowed (Hears octets)) → (m : ℕ) (s : Session ModelEnd) (octets : List ℕ) (says : List Says)
      → Q s (pours model_ends r m s octets says).0 (pours model_ends r m s octets says).1 []
  steady_pours hears_all m s octets says = pours_at r m Allowed Q (steady_at r Allowed Q q m) usual hears_all s octets says

-- ---- visits

-- a relation that holds of each write that a visit makes at this moment, with the event that comes of it
pub record QuietAt (r : Rules) (m : ℕ) (Q : Session ModelEnd → Session ModelEnd → List JournalEntry → List Call → Type 0) : Type 0 where
  pub none : (s : Session ModelEnd) → Q s s [] []
  pub then_ : (s t u : Session ModelEnd) (xs ys : List JournalEntry) (cs ds : List Call) → Q s t xs cs → Q t u ys ds → Q s u (xs ++ ys) (cs ++ ds)
  pub wrote : (s : Session ModelEnd) (n : ℕ) → s.broken ≡ false → Q s (record s { output = drop n s.output }) [] (Writes s.number s.output (write.Some n) ∷ [])
  pub put_off : (s : Session ModelEnd) → Q s s [] (Writes s.number s.output write.NotNow ∷ [])
  pub noted : (s : Session ModelEnd) → Q s (made s) [] []
  pub failed : (s : Session ModelEnd) (says : Says) → is_released model_ends s ≡ false
      → Q s (handled model_ends r m s Faults says).0 (handled model_ends r m s Faults says).1 (Writes s.number s.output write.Failed ∷ [])
  pub failed_released : (s : Session ModelEnd) → is_released model_ends s ≡ true → Q s (record s { broken = true }) [] (Writes s.number s.output write.Failed ∷ [])
  pub ticked : (s : Session ModelEnd) (says : Says) → is_due m (model_ends.deadline s.end) ≡ true
      → Q s (handled model_ends r m s Ticks says).0 (handled model_ends r m s Ticks says).1 []

-- and of each read
pub record CallsAt (r : Rules) (m : ℕ) (Q : Session ModelEnd → Session ModelEnd → List JournalEntry → List Call → Type 0) : Type 0 where
  pub quiet : QuietAt r m Q
  pub open quiet use *
  pub read : (s : Session ModelEnd) (a : Met) → is_released model_ends s ≡ false
      → Q s (came model_ends a.reading r m s a.says).0 (came model_ends a.reading r m s a.says).1 (Reads s.number most_read a.waits a.reading ∷ [])

-- a session may be closed: it broke off, or is released, or has a moment at which it is closed
abbrev pub is_over : Session ModelEnd → Bool
is_over s = s.broken || is_released model_ends s || is_some s.closing

pub over_settled : (a b c d : Bool) → (a || (b && c)) ≡ true → (a || b || d) ≡ true
over_settled true b c d p = refl
over_settled false true c d p = refl
over_settled false false c d p = absurd cc

pub over_due : (m : ℕ) (at : Option ℕ) (b : Bool) → is_due m at ≡ true → (b || is_some at) ≡ true
over_due m None b p = absurd cc
over_due m (Some at) true p = refl
over_due m (Some at) false p = refl

-- what a visit leaves: the session stays, or it is closed
pub data Left (Q : Session ModelEnd → Session ModelEnd → List JournalEntry → List Call → Type 0) (s : Session ModelEnd) (ts : List (Session ModelEnd)) (xs : List JournalEntry) (cs : List Call) : Type 0 where
  Stays : (t : Session ModelEnd) → ts ≡ t ∷ [] → Q s t xs cs → Left Q s ts xs cs
  Closed : (t : Session ModelEnd) (ds : List Call) → is_over t ≡ true → ts ≡ [] → cs ≡ ds ++ Closes t.number ∷ [] → Q s t xs ds → Left Q s ts xs cs

module _ (r : Rules) (m : ℕ) (Q : Session ModelEnd → Session ModelEnd → List JournalEntry → List Call → Type 0) (c : QuietAt r m Q) where
  acts_put_off : (s : Session ModelEnd) (answers : List WriteAnswer) → acts writes_once (s, PutOff) answers ≡ still (s, PutOff)
  unfolding acts writes_once
  acts_put_off s [] = refl
  acts_put_off s (a ∷ answers) = acts_put_off s answers

  acts_failing : (s : Session ModelEnd) (answers : List WriteAnswer) → acts writes_once (s, Failing) answers ≡ still (s, Failing)
  unfolding acts writes_once
  acts_failing s [] = refl
  acts_failing s (a ∷ answers) = acts_failing s answers

  -- what becomes of a failed write
  fault_at : (s : Session ModelEnd) (says : Says) (b : Bool) → is_released model_ends s ≡ b
      → Q s (fault_unless model_ends b r m s says).0 (fault_unless model_ends b r m s says).1 (Writes s.number s.output write.Failed ∷ [])
  fault_at s says true is = c.failed_released s is
  fault_at s says false is = c.failed s says is

  abbrev flow : Session ModelEnd × WritingState → List WriteAnswer → Says → Out (Session ModelEnd)
  flow x answers says = next (acts writes_once x answers) (λ y. flowed model_ends r m y says)

  answer_at : (s : Session ModelEnd) (a : WriteAnswer) (answers : List WriteAnswer) (says : Says) → s.broken ≡ false
      → ((t : Session ModelEnd) → t.broken ≡ false → Q t (flow (t, Going) answers says).state (flow (t, Going) answers says).entries (flow (t, Going) answers says).calls)
      → Q s (next (makes (Writes s.number s.output a) (after_write a s)) (λ x. flow x answers says)).state
      (next (makes (Writes s.number s.output a) (after_write a s)) (λ x. flow x answers says)).entries
      (next (makes (Writes s.number s.output a) (after_write a s)) (λ x. flow x answers says)).calls
  answer_at s (write.Some n) answers says whole rest =
      c.then_ _ _ _ _ _ _ _ (c.wrote s n whole) (rest (record s { output = drop n s.output }) whole)
  answer_at s write.NotNow answers says whole rest = rw (acts_put_off s answers) (c.put_off s)
  answer_at s write.Failed answers says whole rest = rw (acts_failing s answers) (fault_at s says (is_released model_ends s) refl)

  flow_at : (s : Session ModelEnd) (answers : List WriteAnswer) (says : Says) → s.broken ≡ false
      → Q s (flow (s, Going) answers says).state (flow (s, Going) answers says).entries (flow (s, Going) answers says).calls
  unfolding acts writes_once
  flow_at s [] says whole = c.none s
  flow_at s (a ∷ answers) says whole =
      elim (cases_Bool (length s.output == 0)) [
        | inl p ↦ rw p (flow_at s answers says whole)
        | inr p ↦ rw p (answer_at s a answers says whole (λ t w. flow_at t answers says w))
      ]

  unless_at : (b : Bool) (s : Session ModelEnd) (a : Wrote) → s.broken ≡ b
      → Q s (written_unless model_ends b r m s a).state (written_unless model_ends b r m s a).entries (written_unless model_ends b r m s a).calls
  unfolding writes
  unless_at true s a is = c.none s
  unless_at false s a is = flow_at s (exactly (length s.output) write.NotNow a.answers) a.says is

  pub written_at : (s : Session ModelEnd) (a : Wrote)
      → Q s (session_behind_writing model_ends r m s a).state (session_behind_writing model_ends r m s a).entries (session_behind_writing model_ends r m s a).calls
  unfolding session_behind_writing
  written_at s a = unless_at s.broken s a refl

  abbrev LeftBy : Session ModelEnd → Out (List (Session ModelEnd)) → Type 0
  LeftBy s o = Left Q s o.state o.entries o.calls

  left_settled : (s t : Session ModelEnd) (xs : List JournalEntry) (cs : List Call) → Q s t xs cs
      → Left Q s (session_kept_or_closed model_ends t).state (xs ++ (session_kept_or_closed model_ends t).entries) (cs ++ (session_kept_or_closed model_ends t).calls)
  unfolding session_kept_or_closed
  left_settled s t xs cs p =
      elim (cases_Bool (t.broken || owes_nothing model_ends t)) [
        | inl q ↦ rw (q, append-nil xs) (Closed t cs (over_settled t.broken (is_released model_ends t) ((length t.output == 0) || t.unmade) (is_some t.closing) q) refl refl p)
        | inr q ↦ rw (q, append-nil xs, append-nil cs) (Stays t refl p)
      ]

  pub left_rests_at : (s t : Session ModelEnd) (a : Wrote) (xs : List JournalEntry) (cs : List Call) → Q s t xs cs
      → Left Q s (rests model_ends r m t a).state (xs ++ (rests model_ends r m t a).entries) (cs ++ (rests model_ends r m t a).calls)
  unfolding rests
  left_rests_at s t a xs cs p =
      let w = session_behind_writing model_ends r m t a in
      rw (← append_assoc xs w.entries (session_kept_or_closed model_ends w.state).entries, ← append_assoc cs w.calls (session_kept_or_closed model_ends w.state).calls)
      (left_settled s w.state (xs ++ w.entries) (cs ++ w.calls) (c.then_ _ _ _ _ _ _ _ p (written_at t a)))

  -- an event of which it holds, with what follows
  pub left_served_at : (s : Session ModelEnd) (g : GivenToSession) (a : Met)
      → Q s (handled model_ends r m s g (first_answer_of nothing_said a.says)).0 (handled model_ends r m s g (first_answer_of nothing_said a.says)).1 []
      → LeftBy s (served model_ends r m s g a)
  unfolding served
  left_served_at s g a p = let b = handled model_ends r m s g (first_answer_of nothing_said a.says) in left_rests_at s b.0 a.wrote b.1 [] p

  pub left_behind_at : (reading : Reading) (s t : Session ModelEnd) (a : Wrote) (xs : List JournalEntry) (cs : List Call) → Q s t xs cs
      → Left Q s (rests_behind model_ends reading r m t a).state (xs ++ (rests_behind model_ends reading r m t a).entries) (cs ++ (rests_behind model_ends reading r m t a).calls)
  left_behind_at (Gave octets) s t a xs cs p = left_rests_at s t a xs cs p
  left_behind_at NotNow s t a xs cs p = rw (append-nil xs, append-nil cs) (Stays t refl p)
  left_behind_at End s t a xs cs p = left_rests_at s t a xs cs p
  left_behind_at Failed s t a xs cs p = left_rests_at s t a xs cs p

  pub left_now : (s : Session ModelEnd) → Left Q s (s ∷ []) [] []
  left_now s = Stays s refl (c.none s)

  pub left_tick_at : (s : Session ModelEnd) (a : Met) → LeftBy s (visited model_ends r m Tick s a)
  unfolding visited
  left_tick_at s a =
      elim (cases_Bool (is_due m (model_ends.deadline s.end))) [
        | inl p ↦ rw p (left_served_at s Ticks a (c.ticked s (first_answer_of nothing_said a.says) p))
        | inr p ↦ rw p (left_now s)
      ]

  pub left_write_at : (s : Session ModelEnd) (a : Met) → LeftBy s (visited model_ends r m Write s a)
  unfolding visited
  left_write_at s a = left_rests_at s (made s) a.wrote [] [] (c.noted s)

  pub left_expire_at : (s : Session ModelEnd) (a : Met) → LeftBy s (visited model_ends r m Expire s a)
  unfolding visited
  left_expire_at s a =
      elim (cases_Bool (is_due m s.closing)) [ inl p ↦ rw p (Closed s [] (over_due m s.closing (s.broken || is_released model_ends s) p) refl refl (c.none s)) | inr p ↦ rw p (left_now s) ]

module _ (r : Rules) (m : ℕ) (Q : Session ModelEnd → Session ModelEnd → List JournalEntry → List Call → Type 0) (c : CallsAt r m Q) where
  abbrev LeftOf : Session ModelEnd → Out (List (Session ModelEnd)) → Type 0
  LeftOf s o = Left Q s o.state o.entries o.calls

  left_read_at : (s : Session ModelEnd) (a : Met) → is_released model_ends s ≡ false
      → LeftOf s (next (read_once model_ends r m (made s) a) (λ t. rests_behind model_ends a.reading r m t a.wrote))
  unfolding read_once
  left_read_at s a live =
      let b = came model_ends a.reading r m (made s) a.says in
      let call = Reads s.number most_read a.waits a.reading ∷ [] in
      left_behind_at r m Q c.quiet a.reading s b.0 a.wrote b.1 call (c.then_ s (made s) b.0 [] b.1 [] call (c.noted s) (c.read (made s) a live))

  pub left_visited_at : (visit : Visit) (s : Session ModelEnd) (a : Met) → LeftOf s (visited model_ends r m visit s a)
  unfolding visited
  left_visited_at Tick s a = left_tick_at r m Q c.quiet s a
  left_visited_at Read s a =
      elim (cases_Bool (is_released model_ends s)) [ inl p ↦ rw p (left_now r m Q c.quiet s) | inr p ↦ rw p (left_read_at s a p) ]
  left_visited_at Write s a = left_write_at r m Q c.quiet s a
  left_visited_at Expire s a = left_expire_at r m Q c.quiet s a

-- ---- the same, at every moment

-- a relation that holds of each write that a visit makes, with the event that comes of it
pub record Quiet (r : Rules) (Q : Session ModelEnd → Session ModelEnd → List JournalEntry → List Call → Type 0) : Type 0 where
  pub none : (s : Session ModelEnd) → Q s s [] []
  pub then_ : (s t u : Session ModelEnd) (xs ys : List JournalEntry) (cs ds : List Call) → Q s t xs cs → Q t u ys ds → Q s u (xs ++ ys) (cs ++ ds)
  pub wrote : (s : Session ModelEnd) (n : ℕ) → s.broken ≡ false → Q s (record s { output = drop n s.output }) [] (Writes s.number s.output (write.Some n) ∷ [])
  pub put_off : (s : Session ModelEnd) → Q s s [] (Writes s.number s.output write.NotNow ∷ [])
  pub noted : (s : Session ModelEnd) → Q s (made s) [] []
  pub failed : (m : ℕ) (s : Session ModelEnd) (says : Says) → is_released model_ends s ≡ false
      → Q s (handled model_ends r m s Faults says).0 (handled model_ends r m s Faults says).1 (Writes s.number s.output write.Failed ∷ [])
  pub failed_released : (s : Session ModelEnd) → is_released model_ends s ≡ true → Q s (record s { broken = true }) [] (Writes s.number s.output write.Failed ∷ [])
  pub ticked : (m : ℕ) (s : Session ModelEnd) (says : Says) → is_due m (model_ends.deadline s.end) ≡ true
      → Q s (handled model_ends r m s Ticks says).0 (handled model_ends r m s Ticks says).1 []

-- and of each read
pub record Calls (r : Rules) (Q : Session ModelEnd → Session ModelEnd → List JournalEntry → List Call → Type 0) : Type 0 where
  pub quiet : Quiet r Q
  pub open quiet use *
  pub read : (m : ℕ) (s : Session ModelEnd) (a : Met) → is_released model_ends s ≡ false
      → Q s (came model_ends a.reading r m s a.says).0 (came model_ends a.reading r m s a.says).1 (Reads s.number most_read a.waits a.reading ∷ [])

pub quiet_at : (r : Rules) (Q : Session ModelEnd → Session ModelEnd → List JournalEntry → List Call → Type 0) → Quiet r Q → (m : ℕ) → QuietAt r m Q
quiet_at r Q c m = record {
  none = c.none;
  then_ = c.then_;
  wrote = c.wrote;
  put_off = c.put_off;
  noted = c.noted;
  failed = c.failed m;
  failed_released = c.failed_released;
  ticked = c.ticked m;
}

pub calls_now : (r : Rules) (Q : Session ModelEnd → Session ModelEnd → List JournalEntry → List Call → Type 0) → Calls r Q → (m : ℕ) → CallsAt r m Q
calls_now r Q c m = record { quiet = quiet_at r Q c.quiet m; read = c.read m }

pub left_rests : (r : Rules) (Q : Session ModelEnd → Session ModelEnd → List JournalEntry → List Call → Type 0) → Quiet r Q
    → (m : ℕ) (s t : Session ModelEnd) (a : Wrote) (xs : List JournalEntry) (cs : List Call) → Q s t xs cs
    → Left Q s (rests model_ends r m t a).state (xs ++ (rests model_ends r m t a).entries) (cs ++ (rests model_ends r m t a).calls)
left_rests r Q c m s t a xs cs p = left_rests_at r m Q (quiet_at r Q c m) s t a xs cs p

pub left_served : (r : Rules) (Q : Session ModelEnd → Session ModelEnd → List JournalEntry → List Call → Type 0) → Quiet r Q
    → (m : ℕ) (s : Session ModelEnd) (g : GivenToSession) (a : Met)
    → Q s (handled model_ends r m s g (first_answer_of nothing_said a.says)).0 (handled model_ends r m s g (first_answer_of nothing_said a.says)).1 []
    → Left Q s (served model_ends r m s g a).state (served model_ends r m s g a).entries (served model_ends r m s g a).calls
left_served r Q c m s g a p = left_served_at r m Q (quiet_at r Q c m) s g a p

pub left_visited : (r : Rules) (Q : Session ModelEnd → Session ModelEnd → List JournalEntry → List Call → Type 0) → Calls r Q
    → (visit : Visit) (m : ℕ) (s : Session ModelEnd) (a : Met)
    → Left Q s (visited model_ends r m visit s a).state (visited model_ends r m visit s a).entries (visited model_ends r m visit s a).calls
left_visited r Q c visit m s a = left_visited_at r m Q (calls_now r Q c m) visit s a

-- what each visit leaves, and what is left behind the events of a happening
pub record AllLeft (r : Rules) (Q : Session ModelEnd → Session ModelEnd → List JournalEntry → List Call → Type 0) : Type 0 where
  pub at_visit : (visit : Visit) (m : ℕ) (s : Session ModelEnd) (a : Met)
      → Left Q s (visited model_ends r m visit s a).state (visited model_ends r m visit s a).entries (visited model_ends r m visit s a).calls
  pub at_rest : (m : ℕ) (s : Session ModelEnd) (a : Wrote) → Left Q s (rests model_ends r m s a).state (rests model_ends r m s a).entries (rests model_ends r m s a).calls

-- where a relation holds of each call and each event, it holds of what each visit leaves
pub all_left_of : (r : Rules) (Q : Session ModelEnd → Session ModelEnd → List JournalEntry → List Call → Type 0) → Calls r Q → AllLeft r Q
all_left_of r Q c = record {
  at_visit = λ visit m s a. left_visited r Q c visit m s a;
  at_rest = λ m s a. left_rests r Q c.quiet m s s a [] [] (c.none s);
}
