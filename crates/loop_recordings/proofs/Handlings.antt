-- What follows an event at a session opens no connection.
use Rattle.loop_model.specs.Ends.{ModelEnd, model_ends}
use Rattle.std.proofs.Common.{◌≡◌, ◌∙◌, ℕ, ◌+◌, inl, inr, Bool, true, false, ◌||◌, List, [], ◌∷◌, ◌++◌, length, Option, Some, None, refl, ap}
use Rattle.std.specs.Prelude.{nat_lt, ◌==◌, ◌&&◌}
use Rattle.std.proofs.lemmas.Bool.{cases_Bool}
use Rattle.er_users.specs.Users.{Mind, Heard, Said, said}
use Rattle.link_trait.specs.declared.wires.WriteAnswer.{WriteAnswer}
use Rattle.trace_model.specs.Checks.{names, role_of}
use Rattle.loop_model.specs.Journals.{JournalEntry}
use Rattle.loop_model.specs.Outs.{Out, part_for_each_answer, acts, exactly, first_answer_of}
use Rattle.loop_model.specs.Sessions.{Rules, Session, is_released, most_output, GivenToSession, Begins, Hears, Sends, Takes, Leaves, Ticks, Ends, Faults, Stalls, journal_event_of_given, breaks, end_after, outcomes_of_given_event, entry_of, octets_in, joined, fed, replied, heard_by_user, leave_of, sends_of, user_after_hearing, silent_answer, dealt, count_waiting_in_session, takes_all, Says, nothing_said, handled, owes_nothing}
use Rattle.loop_model.specs.Visits.{WritingState, Going, PutOff, Failing, writes_if, writes_once, writes, fault_unless, flowed, written_unless, Wrote, session_kept_or_closed, rests, Met, served}
use Rattle.loop_model.specs.Visits as visits
use Rattle.loop_model.specs.Openings.{openings}

openings-append : (xs ys : List JournalEntry) → openings (xs ++ ys) ≡ openings xs ++ openings ys
unfolding openings
openings-append [] ys = refl
openings-append (x ∷ xs) ys =
    elim (cases_Bool (names (role_of x.event))) [
      | inl p ↦ rw p (ap (λ z. (x.conn, x.event) ∷ z) (openings-append xs ys))
      | inr p ↦ rw p (openings-append xs ys)
    ]

pub none_two : (xs ys : List JournalEntry) → openings xs ≡ [] → openings ys ≡ [] → openings (xs ++ ys) ≡ []
none_two xs ys p q = openings-append xs ys ∙ ap (λ z. z ++ openings ys) p ∙ q

none_more : (x : JournalEntry) (xs : List JournalEntry) → names (role_of x.event) ≡ false → openings xs ≡ [] → openings (x ∷ xs) ≡ []
unfolding openings
none_more x xs p q = rw p q

-- ---- a part, once for each answer

abbrev AllFit : {A : Type 0} → (A → Type 0) → List A → Type 0
AllFit Fits [] = Unit {0}
AllFit Fits (a ∷ answers) = Fits a × AllFit Fits answers

abbrev Any : {A : Type 0} → A → Type 0
Any a = Unit {0}

all_any : {A : Type 0} (answers : List A) → AllFit Any answers
all_any [] = tt
all_any (a ∷ answers) = (tt, all_any answers)

runs_none : {S A : Type 0} (f : S → A → S × List JournalEntry) (Fits : A → Type 0) → ((s : S) (a : A) → Fits a → openings (f s a).1 ≡ [])
    → (s : S) (answers : List A) → AllFit Fits answers → openings (part_for_each_answer f s answers).1 ≡ []
unfolding part_for_each_answer openings
runs_none f Fits none s [] fit = refl
runs_none f Fits none s (a ∷ answers) fit =
    none_two (f s a).1 (part_for_each_answer f (f s a).0 answers).1 (none s a fit.0) (runs_none f Fits none (f s a).0 answers fit.1)

acts_none : {S A : Type 0} (f : S → A → Out S) → ((s : S) (a : A) → openings (f s a).entries ≡ []) → (s : S) (answers : List A)
    → openings (acts f s answers).entries ≡ []
unfolding acts openings
acts_none f none s [] = refl
acts_none f none s (a ∷ answers) =
    none_two (f s a).entries (acts f (f s a).state answers).entries (none s a) (acts_none f none (f s a).state answers)

-- ---- an event, and those that follow it

abbrev IsOfEnd : GivenToSession → Type 0
IsOfEnd (Begins engine rbc rb) = ⊥
IsOfEnd (Hears octets) = Unit {0}
IsOfEnd (Sends text) = Unit {0}
IsOfEnd Takes = Unit {0}
IsOfEnd (Leaves sub) = Unit {0}
IsOfEnd Ticks = Unit {0}
IsOfEnd Ends = Unit {0}
IsOfEnd Faults = Unit {0}
IsOfEnd Stalls = Unit {0}

unnamed : (k : ModelEnd) (g : GivenToSession) → IsOfEnd g → names (role_of (journal_event_of_given model_ends k g)) ≡ false
unnamed k (Begins engine rbc rb) fits = absurd fits
unnamed k (Hears octets) fits = refl
unnamed k (Sends text) fits = refl
unnamed k Takes fits = refl
unnamed k (Leaves sub) fits = refl
unnamed k Ticks fits = refl
unnamed k Ends fits = refl
unnamed k Faults fits = refl
unnamed k Stalls fits = refl

-- an event, and behind it none that opens a connection
pub record IsFirst (x : JournalEntry) (xs : List JournalEntry) : Type 0 where
  pub rest : List JournalEntry
  pub is : xs ≡ x ∷ rest
  pub none : openings rest ≡ []

first_more : (x : JournalEntry) (xs ys : List JournalEntry) → IsFirst x xs → openings ys ≡ [] → IsFirst x (xs ++ ys)
first_more x xs ys h none = record { rest = h.rest ++ ys; is = ap (λ z. z ++ ys) h.is; none = none_two h.rest ys h.none none }

first_none : (x : JournalEntry) (xs : List JournalEntry) → IsFirst x xs → names (role_of x.event) ≡ false → openings xs ≡ []
first_none x xs h p = ap openings h.is ∙ none_more x h.rest p h.none

fit_two : (gs hs : List GivenToSession) → AllFit IsOfEnd gs → AllFit IsOfEnd hs → AllFit IsOfEnd (gs ++ hs)
fit_two [] hs p q = q
fit_two (g ∷ gs) hs p q = (p.0, fit_two gs hs p.1 q)

sends_fit : (texts : List (List ℕ)) → AllFit IsOfEnd (sends_of texts)
sends_fit [] = tt
sends_fit (text ∷ texts) = (tt, sends_fit texts)

leave_fits : (sub : Option ℕ) → AllFit IsOfEnd (leave_of sub)
leave_fits None = tt
leave_fits (Some sub) = (tt, tt)

replies_fit : (mind : Option Mind) (heard : Option Heard) (free : Said) → AllFit IsOfEnd (user_after_hearing mind heard free).1
replies_fit None heard free = tt
replies_fit (Some mind) None free = tt
replies_fit (Some mind) (Some heard) free =
    let a = said mind.kind mind heard free in fit_two (sends_of a.texts) (leave_of a.leave) (sends_fit a.texts) (leave_fits a.leave)

module _ (r : Rules) (m : ℕ) where
  joined_none : (s : Session ModelEnd) (octets : List ℕ) → openings (joined model_ends r m s octets).1 ≡ []
  unfolding joined openings
  joined_none s octets =
      elim (cases_Bool (nat_lt most_output (length s.output + length octets))) [ inl p ↦ rw p refl | inr p ↦ rw p refl ]

  fed_first : (s : Session ModelEnd) (g : GivenToSession) → IsFirst (entry_of model_ends r m s g) (fed model_ends r m s g).1
  unfolding fed
  fed_first s g =
      let t : Session ModelEnd = record s { end = end_after model_ends r m s.end g; broken = s.broken || breaks g } in
      let octets = octets_in (outcomes_of_given_event model_ends r m s.end g) in
      record { rest = (joined model_ends r m t octets).1; is = refl; none = joined_none t octets }

  replied_first : (s : Session ModelEnd) (g : GivenToSession) → IsFirst (entry_of model_ends r m s g) (replied model_ends r m s g).1
  replied_first s (Begins engine rbc rb) = fed_first s (Begins engine rbc rb)
  replied_first s (Hears octets) = fed_first s (Hears octets)
  replied_first s (Sends text) = fed_first s (Sends text)
  replied_first s Takes = fed_first s Takes
  replied_first s (Leaves sub) = fed_first s (Leaves sub)
  replied_first s Ticks = fed_first s Ticks
  replied_first s Ends = fed_first s Ends
  replied_first s Faults = fed_first s Faults
  replied_first s Stalls = fed_first s Stalls

  dealt_first : (s : Session ModelEnd) (g : GivenToSession) (free : Said) → IsFirst (entry_of model_ends r m s g) (dealt model_ends r m s g free).1
  unfolding dealt
  dealt_first s g free =
      let a = fed model_ends r m s g in
      let heard = heard_by_user (outcomes_of_given_event model_ends r m s.end g) in
      let b = user_after_hearing s.mind heard free in
      first_more (entry_of model_ends r m s g) a.1 (part_for_each_answer (replied model_ends r m) (record a.0 { mind = b.0 }) b.1).1 (fed_first s g)
      (runs_none (replied model_ends r m) IsOfEnd (λ t h fits. first_none (entry_of model_ends r m t h) (replied model_ends r m t h).1 (replied_first t h) (unnamed t.end h fits)) (record a.0 { mind = b.0 }) b.1
      (replies_fit s.mind heard free))

  takes_none : (s : Session ModelEnd) (frees : List Said) → openings (takes_all model_ends r m s frees).1 ≡ []
  unfolding takes_all
  takes_none s frees =
      runs_none (λ t free. dealt model_ends r m t Takes free) Any (λ t free fits. first_none (entry_of model_ends r m t Takes) (dealt model_ends r m t Takes free).1 (dealt_first t Takes free) refl) s
      (exactly (count_waiting_in_session model_ends s) silent_answer frees) (all_any (exactly (count_waiting_in_session model_ends s) silent_answer frees))

  handled_first : (s : Session ModelEnd) (g : GivenToSession) (says : Says) → IsFirst (entry_of model_ends r m s g) (handled model_ends r m s g says).1
  unfolding handled
  handled_first s g says =
      let a = dealt model_ends r m s g says.first in
      first_more (entry_of model_ends r m s g) a.1 (takes_all model_ends r m a.0 says.rest).1 (dealt_first s g says.first) (takes_none a.0 says.rest)

  -- ---- writing and closing

  write_none : (flow : WritingState) (s : Session ModelEnd) (answer : WriteAnswer) → openings (writes_if flow s answer).entries ≡ []
  unfolding openings
  write_none Going s answer = elim (cases_Bool (length s.output == 0)) [ inl p ↦ rw p refl | inr p ↦ rw p refl ]
  write_none PutOff s answer = refl
  write_none Failing s answer = refl

  once_none : (x : Session ModelEnd × WritingState) (answer : WriteAnswer) → openings (writes_once x answer).entries ≡ []
  unfolding writes_once
  once_none x answer = write_none x.1 x.0 answer

  writes_none : (s : Session ModelEnd) (answers : List WriteAnswer) → openings (writes s answers).entries ≡ []
  unfolding writes
  writes_none s answers = acts_none writes_once once_none (s, Going) _

  fault_none : (released : Bool) (s : Session ModelEnd) (says : Says) → openings (fault_unless model_ends released r m s says).1 ≡ []
  unfolding openings
  fault_none true s says = refl
  fault_none false s says = first_none (entry_of model_ends r m s Faults) (handled model_ends r m s Faults says).1 (handled_first s Faults says) refl

  flowed_none : (s : Session ModelEnd) (flow : WritingState) (says : Says) → openings (flowed model_ends r m (s, flow) says).entries ≡ []
  unfolding openings
  flowed_none s Going says = refl
  flowed_none s PutOff says = refl
  flowed_none s Failing says = fault_none (is_released model_ends s) s says

  written_none : (broken : Bool) (s : Session ModelEnd) (a : Wrote) → openings (written_unless model_ends broken r m s a).entries ≡ []
  unfolding openings
  written_none true s a = refl
  written_none false s a =
      let x = (writes s a.answers).state in
      none_two (writes s a.answers).entries (flowed model_ends r m x a.says).entries (writes_none s a.answers) (flowed_none x.0 x.1 a.says)

  settled_none : (s : Session ModelEnd) → openings (session_kept_or_closed model_ends s).entries ≡ []
  unfolding session_kept_or_closed openings
  settled_none s = elim (cases_Bool (s.broken || owes_nothing model_ends s)) [ inl p ↦ rw p refl | inr p ↦ rw p refl ]

  rests_none : (s : Session ModelEnd) (a : Wrote) → openings (rests model_ends r m s a).entries ≡ []
  unfolding rests visits.session_behind_writing
  rests_none s a =
      none_two (visits.session_behind_writing model_ends r m s a).entries (session_kept_or_closed model_ends (visits.session_behind_writing model_ends r m s a).state).entries (written_none s.broken s a) (settled_none (visits.session_behind_writing model_ends r m s a).state)

  pub served_first : (s : Session ModelEnd) (g : GivenToSession) (a : Met) → IsFirst (entry_of model_ends r m s g) (served model_ends r m s g a).entries
  unfolding served
  served_first s g a =
      let says = first_answer_of nothing_said a.says in
      let h = handled model_ends r m s g says in
      first_more (entry_of model_ends r m s g) h.1 (rests model_ends r m h.0 a.wrote).entries (handled_first s g says) (rests_none h.0 a.wrote)
