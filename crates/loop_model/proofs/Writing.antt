-- Output is written until nothing waits or there is no room; what waits is what was told and not given; and where a connection was closed
-- in order, all was given.
use Rattle.loop_model.specs.Ends.{ModelEnd, model_ends}
use Rattle.std.proofs.Common.{◌≡◌, ℕ, zero, suc, ◌+◌, ◌-◌, ◌≤◌, ◌⊎◌, max, inl, inr, Bool, true, false, ◌||◌, List, [], ◌∷◌, ◌++◌, length, drop, Option, Some, None, refl, sym, ◌∙◌, ap, subst, append-nil, append_assoc, arith, true≢false, length-drop, eqb-true}
use Rattle.std.specs.Prelude.{◌==◌, nat_lt, is_some}
use Rattle.std.proofs.lemmas.Bool.{cases_Bool}
use Rattle.link_trait.specs.Wires.{Call, Reading, Gave, NotNow, End, Failed, Reads, Writes, Closes}
use Rattle.link_trait.specs.declared.wires.WriteAnswer.{WriteAnswer}
use Rattle.link_trait.specs.declared.wires.WriteAnswer.TheVariants as write
use Rattle.loop_model.specs.Journals.{JournalEntry}
use Rattle.loop_model.specs.Outs.{Out, still, next, makes, acts, exactly, first_answer_of}
use Rattle.loop_model.specs.Sessions.{Rules, Session, GivenToSession, Begins, Hears, Sends, Takes, Leaves, Ticks, Ends, Faults, Stalls, is_released, most_output, outcomes_of_given_event, octets_in, breaks, journal_event_of_given as written_as, joined, fed, Says, nothing_said, handled, owes_nothing, made}
use Rattle.loop_model.specs.Visits.{most_read, WritingState, Going, PutOff, Failing, after_write, writes_once, writes, Wrote, fault_unless, flowed, written_unless, session_behind_writing, session_kept_or_closed, rests, Visit, Tick, Read, Write, Expire, Met, is_due, came, read_once, rests_behind, served, visited}
use Rattle.loop_model.specs.Loops.{Plan, rules_of, Loop, next_user, begun, answering, Caller, calling, called_by, called, Course, asks, Turn, run, Dialled, opens, dials_to, dials, begun_dial}
use Rattle.loop_model.specs.Parts.{session_of_connection, of, calls_at}
use Rattle.loop_model.specs.Laws.{IsServing, IsDialling, octets_of_entries}
use Rattle.loop_model.specs.Faulted.{has_failed}
use Rattle.loop_model.specs.Writings as specs
use Rattle.loop_model.specs.Writings.{left_after, is_break, has_broken, IsAllGiven, AllAreGiven, AllWait, RestWaits, HasWholeConnections, LiveAreWhole, AllTakeOne, write_answer_behind_call, last_answer, IsOutputWritten, OutputIsWritten}
use Rattle.er_users.specs.Users.{Mind}
use Rattle.rand_core.specs.Stream.{next_u64}
use Rattle.loop_model.specs.Turnings.{IsKeptSession, AreKept}
use Rattle.loop_model.proofs.Keepers.{kept_rests, others_are_closed}
use Rattle.loop_model.proofs.Steadies.{Steady, follows_handled, steady_handled, steady_pours, quiet_at, written_at, over_settled, over_due, Left, Stays, Closed, AllLeft, Calls}
use Rattle.loop_model.proofs.Lives.{Own, Keeps, Fits, Knows, knows_run}
use Rattle.loop_model.proofs.Dialling.{knows_dial_served}
use Rattle.loop_model.proofs.Owns.{Both, steady_both, calls_both}
use Rattle.loop_model.proofs.Faulting.{failed-append, closed_failed}
use Rattle.loop_model.proofs.Givings.{given_in, Gives, Given_so}
use Rattle.loop_model.proofs.Givings as givings

-- ---- what breaks off stays so

Broken : Session ModelEnd → Session ModelEnd → List JournalEntry → List Call → Type 0
Broken s t xs cs = s.broken ≡ true → t.broken ≡ true

or_left : (a b : Bool) → a ≡ true → (a || b) ≡ true
or_left true b p = refl
or_left false b p = absurd (true≢false (sym p))

or_right : (a : Bool) → (a || true) ≡ true
or_right true = refl
or_right false = refl

breaking : (r : Rules) → Steady r (λ g. Unit {0}) Broken
unfolding Broken
breaking r = record {
  none = λ s p. p;
  then_ = λ s t u xs ys cs ds p q e. q (p e);
  given = λ m s g allowed fits p. or_left s.broken (breaks g) p;
  stalls = λ m s g allowed fits p. refl;
  heard = λ s mind p. p;
  parts = λ s told at gone p. p;
}

fed_broken : (r : Rules) (m : ℕ) (s : Session ModelEnd) → (fed model_ends r m s Faults).0.broken ≡ true
unfolding fed joined
fed_broken r m s =
    elim (cases_Bool (nat_lt most_output (length s.output + length (octets_in (outcomes_of_given_event model_ends r m s.end Faults))))) [ inl p ↦ rw p refl | inr p ↦ rw p (or_right s.broken) ]

pub handled_broken : (r : Rules) (m : ℕ) (s : Session ModelEnd) (says : Says) → (handled model_ends r m s Faults says).0.broken ≡ true
unfolding Broken
handled_broken r m s says = (follows_handled r (λ g. Unit {0}) Broken (breaking r) givings.all_given.usual m s Faults says).holds (fed_broken r m s)

-- ---- writing

nothing_long : (xs : List ℕ) → length xs ≤ 0 → xs ≡ []
nothing_long [] p = refl
nothing_long (x ∷ xs) p = absurd (omega arith)

nothing_in : (xs : List ℕ) → (length xs == 0) ≡ true → xs ≡ []
nothing_in xs p = let e : length xs ≡ 0 = eqb-true (length xs) 0 p in nothing_long xs (omega arith)

exactly_long : (n : ℕ) (plain : WriteAnswer) (answers : List WriteAnswer) → length (exactly n plain answers) ≡ n
unfolding exactly
exactly_long zero plain answers = refl
exactly_long (suc n) plain [] = let h : length (exactly n plain []) ≡ n = exactly_long n plain [] in omega arith
exactly_long (suc n) plain (a ∷ answers) = let h : length (exactly n plain answers) ≡ n = exactly_long n plain answers in omega arith

less_one : (a b n : ℕ) → a ≤ suc b → 1 ≤ n → a - n ≤ b
less_one a b n p q = omega arith

module _ (r : Rules) (m : ℕ) where
  put_off : (s : Session ModelEnd) (answers : List WriteAnswer) → acts writes_once (s, PutOff) answers ≡ still (s, PutOff)
  unfolding acts writes_once
  put_off s [] = refl
  put_off s (a ∷ answers) = put_off s answers

  failing : (s : Session ModelEnd) (answers : List WriteAnswer) → acts writes_once (s, Failing) answers ≡ still (s, Failing)
  unfolding acts writes_once
  failing s [] = refl
  failing s (a ∷ answers) = failing s answers

  unless_broken : (b : Bool) (s : Session ModelEnd) (says : Says) → (fault_unless model_ends b r m s says).0.broken ≡ true
  unless_broken true s says = refl
  unless_broken false s says = handled_broken r m s says

  abbrev flow : Session ModelEnd × WritingState → List WriteAnswer → Says → Out (Session ModelEnd)
  flow x answers says = next (acts writes_once x answers) (λ y. flowed model_ends r m y says)

  abbrev answer : Session ModelEnd → WriteAnswer → List WriteAnswer → Says → Out (Session ModelEnd)
  answer s a answers says = next (makes (Writes s.number s.output a) (after_write a s)) (λ x. flow x answers says)

  -- what is left, where the output is written at all
  answer_left : (s : Session ModelEnd) (a : WriteAnswer) (answers : List WriteAnswer) (says : Says) (before : List ℕ)
      → ((t : Session ModelEnd) → (flow (t, Going) answers says).state.broken ≡ false → (flow (t, Going) answers says).state.output ≡ left_after t.output (flow (t, Going) answers says).calls)
      → (answer s a answers says).state.broken ≡ false → (answer s a answers says).state.output ≡ left_after before (answer s a answers says).calls
  unfolding left_after
  answer_left s (write.Some n) answers says before rest p = rest (record s { output = drop n s.output }) p
  answer_left s write.NotNow answers says before rest p = rw (put_off s answers) refl
  answer_left s write.Failed answers says before rest p =
      absurd (true≢false (sym (unless_broken (is_released model_ends s) s says) ∙ (rw (failing s answers) at p)))

  flow_same : (s : Session ModelEnd) (answers : List WriteAnswer) (says : Says) → (flow (s, Going) answers says).state.broken ≡ false
      → (flow (s, Going) answers says).state.output ≡ left_after s.output (flow (s, Going) answers says).calls
  unfolding acts writes_once left_after
  flow_same s [] says p = refl
  flow_same s (a ∷ answers) says p =
      elim (cases_Bool (length s.output == 0)) [
        | inl e ↦ rw e (flow_same s answers says (rw e at p))
        | inr e ↦ rw e (answer_left s a answers says s.output (λ t q. flow_same t answers says q) (rw e at p))
      ]

  -- what is left, whatever waited before what is written
  flow_first : (s : Session ModelEnd) (answers : List WriteAnswer) (says : Says) (before : List ℕ) → length s.output ≤ length answers → (s.output ≡ [] → before ≡ [])
      → (flow (s, Going) answers says).state.broken ≡ false → (flow (s, Going) answers says).state.output ≡ left_after before (flow (s, Going) answers says).calls
  unfolding acts writes_once left_after
  flow_first s [] says before few none p = let e = nothing_long s.output few in e ∙ sym (none e)
  flow_first s (a ∷ answers) says before few none p =
      elim (cases_Bool (length s.output == 0)) [
        | inl e ↦
            rw e
            (flow_first s answers says before (let z : length s.output ≡ 0 = eqb-true (length s.output) 0 e in omega arith) none (rw e at p))
        | inr e ↦ rw e (answer_left s a answers says before (λ t q. flow_same t answers says q) (rw e at p))
      ]

  abbrev pub IsDone : Option WriteAnswer → Out (Session ModelEnd) → Type 0
  IsDone last o = (o.state.output ≡ []) ⊎ (last_answer last o.calls ≡ Some write.NotNow)

  answer_done : (s : Session ModelEnd) (a : WriteAnswer) (answers : List WriteAnswer) (says : Says) (last : Option WriteAnswer) → length s.output ≤ suc (length answers)
      → ((t : Session ModelEnd) (last : Option WriteAnswer) → length t.output ≤ length answers → AllTakeOne (flow (t, Going) answers says).calls → (flow (t, Going) answers says).state.broken ≡ false
      → IsDone last (flow (t, Going) answers says))
      → AllTakeOne (answer s a answers says).calls → (answer s a answers says).state.broken ≡ false → IsDone last (answer s a answers says)
  unfolding last_answer
  answer_done s (write.Some n) answers says last few rest all p =
      rest (record s { output = drop n s.output }) (Some (write.Some n))
      (subst (λ z. z ≤ length answers) (sym (length-drop n s.output)) (less_one (length s.output) (length answers) n few all.0)) all.1 p
  answer_done s write.NotNow answers says last few rest all p = rw (put_off s answers) (inr refl)
  answer_done s write.Failed answers says last few rest all p =
      absurd (true≢false (sym (unless_broken (is_released model_ends s) s says) ∙ (rw (failing s answers) at p)))

  flow_done : (s : Session ModelEnd) (answers : List WriteAnswer) (says : Says) (last : Option WriteAnswer) → length s.output ≤ length answers
      → AllTakeOne (flow (s, Going) answers says).calls → (flow (s, Going) answers says).state.broken ≡ false → IsDone last (flow (s, Going) answers says)
  unfolding acts writes_once last_answer
  flow_done s [] says last few all p = inl (nothing_long s.output few)
  flow_done s (a ∷ answers) says last few all p =
      elim (cases_Bool (length s.output == 0)) [
        | inl e ↦
            rw e
            (flow_done s answers says last (let z : length s.output ≡ 0 = eqb-true (length s.output) 0 e in omega arith) (rw e at all) (rw e at p))
        | inr e ↦ rw e (answer_done s a answers says last few (λ t l f q b. flow_done t answers says l f q b) (rw e at all) (rw e at p))
      ]

  -- the output of a session is written
  pub record WroteSo (s : Session ModelEnd) (o : Out (Session ModelEnd)) : Type 0 where
    whole : o.state.broken ≡ false → s.broken ≡ false
    left : (before : List ℕ) → (s.output ≡ [] → before ≡ []) → o.state.broken ≡ false → o.state.output ≡ left_after before o.calls
    pub done : (last : Option WriteAnswer) → AllTakeOne o.calls → o.state.broken ≡ false → IsDone last o

  long_enough : (s : Session ModelEnd) (a : Wrote) → length s.output ≤ length (exactly (length s.output) write.NotNow a.answers)
  long_enough s a = let h : length (exactly (length s.output) write.NotNow a.answers) ≡ length s.output = exactly_long (length s.output) write.NotNow a.answers in omega arith

  unless_so : (b : Bool) (s : Session ModelEnd) (a : Wrote) → s.broken ≡ b → WroteSo s (written_unless model_ends b r m s a)
  unfolding writes
  unless_so true s a is = record {
    whole = λ p. p;
    left = λ before none p. absurd (true≢false (sym is ∙ p));
    done = λ last all p. absurd (true≢false (sym is ∙ p));
  }
  unless_so false s a is = record {
    whole = λ p. is;
    left = λ before none p. flow_first s (exactly (length s.output) write.NotNow a.answers) a.says before (long_enough s a) none p;
    done = λ last all p. flow_done s (exactly (length s.output) write.NotNow a.answers) a.says last (long_enough s a) all p;
  }

  pub written_so : (s : Session ModelEnd) (a : Wrote) → WroteSo s (session_behind_writing model_ends r m s a)
  unfolding session_behind_writing
  written_so s a = unless_so s.broken s a refl

-- ---- a visit

-- what a visit leaves waiting: what its last write left, or what waited; nothing, unless its last write was put off or it made none
pub record Goes (s t : Session ModelEnd) (cs : List Call) : Type 0 where
  pub left : t.broken ≡ false → t.output ≡ left_after s.output cs
  pub done : (last : Option WriteAnswer) → AllTakeOne cs → t.broken ≡ false
      → (t.output ≡ []) ⊎ ((last_answer last cs ≡ Some write.NotNow) ⊎ ((t.output ≡ s.output) × (last_answer last cs ≡ last)))

-- it broke off before, or by an event or a call
unfoldable pub Off : Session ModelEnd → Session ModelEnd → List JournalEntry → List Call → Type 0
Off s t xs cs = t.broken ≡ (s.broken || (has_broken xs || has_failed cs))

or_assoc : (a b c : Bool) → (a || (b || c)) ≡ ((a || b) || c)
or_assoc true b c = refl
or_assoc false b c = refl

or_none : (a : Bool) → a ≡ (a || false)
or_none true = refl
or_none false = refl

or_top : (a b : Bool) → true ≡ (a || (b || true))
or_top true b = refl
or_top false true = refl
or_top false false = refl

or_two : (a b c d : Bool) → ((a || b) || (c || d)) ≡ ((a || c) || (b || d))
or_two true b c d = refl
or_two false true true d = refl
or_two false true false d = refl
or_two false false true d = refl
or_two false false false d = refl

broken-append : (xs ys : List JournalEntry) → has_broken (xs ++ ys) ≡ (has_broken xs || has_broken ys)
unfolding has_broken
broken-append [] ys = refl
broken-append (x ∷ xs) ys = ap (λ z. is_break x.event || z) (broken-append xs ys) ∙ or_assoc (is_break x.event) (has_broken xs) (has_broken ys)

off-append : (xs ys : List JournalEntry) (cs ds : List Call) → ((has_broken xs || has_failed cs) || (has_broken ys || has_failed ds)) ≡ (has_broken (xs ++ ys) || has_failed (cs ++ ds))
off-append xs ys cs ds = rw (broken-append xs ys, failed-append cs ds) (or_two (has_broken xs) (has_failed cs) (has_broken ys) (has_failed ds))

off_then : (s t u : Session ModelEnd) (xs ys : List JournalEntry) (cs ds : List Call) → Off s t xs cs → Off t u ys ds → Off s u (xs ++ ys) (cs ++ ds)
unfolding Off
off_then s t u xs ys cs ds p q =
    q ∙ ap (λ z. z || (has_broken ys || has_failed ds)) p ∙ sym (or_assoc s.broken (has_broken xs || has_failed cs) (has_broken ys || has_failed ds))
    ∙ ap (λ z. s.broken || z) (off-append xs ys cs ds)

breaks_so : (k : ModelEnd) (g : GivenToSession) → is_break (written_as model_ends k g) ≡ breaks g
breaks_so k (Begins engine rbc rb) = refl
breaks_so k (Hears octets) = refl
breaks_so k (Sends text) = refl
breaks_so k Takes = refl
breaks_so k (Leaves sub) = refl
breaks_so k Ticks = refl
breaks_so k Ends = refl
breaks_so k Faults = refl
breaks_so k Stalls = refl

pub off_steady : (r : Rules) → Steady r (λ g. Unit {0}) Off
unfolding Off has_broken has_failed
off_steady r = record {
  none = λ s. or_none s.broken;
  then_ = off_then;
  given = λ m s g allowed fits.
      ap (λ z. s.broken || z) (sym (breaks_so s.end g) ∙ or_none (is_break (written_as model_ends s.end g)) ∙ or_none (is_break (written_as model_ends s.end g) || false));
  stalls = λ m s g allowed fits. or_top s.broken (is_break (written_as model_ends s.end g)) ∙ ap (λ z. s.broken || z) (or_none (is_break (written_as model_ends s.end g) || true));
  heard = λ s mind. or_none s.broken;
  parts = λ s told at gone. or_none s.broken;
}

pub off_read : (r : Rules) (m : ℕ) (s : Session ModelEnd) (waits : ℕ) (reading : Reading) (says : List Says)
    → Off s (came model_ends reading r m s says).0 (came model_ends reading r m s says).1 (Reads s.number most_read waits reading ∷ [])
unfolding Off has_broken has_failed
off_read r m s waits (Gave octets) says = steady_pours r (λ g. Unit {0}) Off (off_steady r) givings.all_given.usual (λ octets. tt) m s octets says
off_read r m s waits NotNow says = or_none s.broken
off_read r m s waits End says = steady_handled r (λ g. Unit {0}) Off (off_steady r) givings.all_given.usual m s Ends (first_answer_of nothing_said says) tt
off_read r m s waits Failed says =
    handled_broken r m s (first_answer_of nothing_said says) ∙ or_top s.broken (has_broken (handled model_ends r m s Faults (first_answer_of nothing_said says)).1)

off_calls : (r : Rules) → Calls r Off
unfolding Off has_broken has_failed
off_calls r = record {
  quiet = record {
    none = (off_steady r).none;
    then_ = off_then;
    wrote = λ s n whole. or_none s.broken;
    put_off = λ s. or_none s.broken;
    noted = λ s. or_none s.broken;
    failed = λ m s says live. handled_broken r m s says ∙ or_top s.broken (has_broken (handled model_ends r m s Faults says).1);
    failed_released = λ s gone. or_top s.broken false;
    ticked = λ m s says due. steady_handled r (λ g. Unit {0}) Off (off_steady r) givings.all_given.usual m s Ticks says tt;
  };
  read = λ m s a live. off_read r m s a.waits a.reading a.says;
}

-- ---- all that is known of a visit

abbrev pub Each : Session ModelEnd → Session ModelEnd → List JournalEntry → List Call → Type 0
Each = Both givings.Q Off

each_steady : (r : Rules) → Steady r (λ g. Unit {0}) Each
each_steady r = steady_both r (λ g. Unit {0}) givings.Q Off (givings.q_steady r) (off_steady r)

pub each_calls : (r : Rules) → Calls r Each
each_calls r = calls_both r givings.Q Off (givings.q_each r) (off_calls r)

record Visits (s t : Session ModelEnd) (xs : List JournalEntry) (cs : List Call) : Type 0 where
  each : Each s t xs cs
  goes : Goes s t cs

stands : (r : Rules) (s : Session ModelEnd) → Visits s s [] []
unfolding left_after last_answer
stands r s = record { each = (each_steady r).none s; goes = record { left = λ p. refl; done = λ last all p. inr (inr (refl, refl)) } }

pub left_settled : (Q : Session ModelEnd → Session ModelEnd → List JournalEntry → List Call → Type 0) (s t : Session ModelEnd) (xs : List JournalEntry) (cs : List Call) → Q s t xs cs
    → Left Q s (session_kept_or_closed model_ends t).state (xs ++ (session_kept_or_closed model_ends t).entries) (cs ++ (session_kept_or_closed model_ends t).calls)
unfolding session_kept_or_closed
left_settled Q s t xs cs p =
    elim (cases_Bool (t.broken || owes_nothing model_ends t)) [
      | inl q ↦ rw (q, append-nil xs) (Closed t cs (over_settled t.broken (is_released model_ends t) ((length t.output == 0) || t.unmade) (is_some t.closing) q) refl refl p)
      | inr q ↦ rw (q, append-nil xs, append-nil cs) (Stays t refl p)
    ]

-- calls that write nothing
record NoWrite (ps : List Call) : Type 0 where
  left : (before : List ℕ) (cs : List Call) → left_after before (ps ++ cs) ≡ left_after before cs
  last : (last : Option WriteAnswer) (cs : List Call) → last_answer last (ps ++ cs) ≡ last_answer last cs
  all : (cs : List Call) → AllTakeOne (ps ++ cs) → AllTakeOne cs

no_call : NoWrite []
no_call = record { left = λ before cs. refl; last = λ last cs. refl; all = λ cs p. p }

no_read : (conn waits : ℕ) (reading : Reading) → NoWrite (Reads conn most_read waits reading ∷ [])
unfolding left_after last_answer
no_read conn waits reading = record { left = λ before cs. refl; last = λ last cs. refl; all = λ cs p. p.1 }

append_none : (xs ys : List ℕ) → xs ++ ys ≡ [] → xs ≡ []
append_none [] ys p = refl
append_none (x ∷ xs) ys p = absurd (let q : ⊥ = cc in q)

module _ (r : Rules) (m : ℕ) where
  -- the output of a session is written behind events
  left_rests : (s h : Session ModelEnd) (a : Wrote) (xs : List JournalEntry) (ps : List Call) → Each s h xs ps → NoWrite ps → (h.broken ≡ false → h.output ≡ [] → s.output ≡ [])
      → Left Visits s (rests model_ends r m h a).state (xs ++ (rests model_ends r m h a).entries) (ps ++ (rests model_ends r m h a).calls)
  unfolding rests
  left_rests s h a xs ps each bare empty =
      let w = session_behind_writing model_ends r m h a in
      let so = written_so r m h a in
      rw (← append_assoc xs w.entries (session_kept_or_closed model_ends w.state).entries, ← append_assoc ps w.calls (session_kept_or_closed model_ends w.state).calls)
      (left_settled Visits s w.state (xs ++ w.entries) (ps ++ w.calls) (record {
        each = (each_calls r).then_ s h w.state xs w.entries ps w.calls each (written_at r m Each (quiet_at r Each (each_calls r).quiet m) h a);
        goes = record {
          left = λ p. so.left s.output (empty (so.whole p)) p ∙ sym (bare.left s.output w.calls);
          done = λ last all p.
              elim (so.done last (bare.all w.calls all) p) [ inl e ↦ inl e | inr e ↦ inr (inl (bare.last last w.calls ∙ e)) ];
        };
      }))

  emptied : (s h : Session ModelEnd) (xs : List JournalEntry) (ps : List Call) → Gives s h xs ps → given_in ps ≡ [] → h.broken ≡ false → h.output ≡ [] → s.output ≡ []
  emptied s h xs ps g none p e =
      append_none s.output (octets_of_entries xs) (g.is ∙ ap (λ z. z ++ g.rest) none ∙ (g.whole p).1 ∙ e)

  left_served : (s : Session ModelEnd) (g : GivenToSession) (a : Met) → Left Visits s (served model_ends r m s g a).state (served model_ends r m s g a).entries (served model_ends r m s g a).calls
  unfolding served given_in
  left_served s g a =
      let says = first_answer_of nothing_said a.says in
      let h = handled model_ends r m s g says in
      let each = steady_handled r (λ g. Unit {0}) Each (each_steady r) givings.all_given.usual m s g says tt in
      left_rests s h.0 a.wrote h.1 [] each no_call (emptied s h.0 h.1 [] each.0.1 refl)

  -- a read, and what follows it
  left_behind : (reading : Reading) (s : Session ModelEnd) (waits : ℕ) (says : List Says) (a : Wrote)
      → Each s (came model_ends reading r m s says).0 (came model_ends reading r m s says).1 (Reads s.number most_read waits reading ∷ [])
      → Left Visits s (rests_behind model_ends reading r m (came model_ends reading r m s says).0 a).state ((came model_ends reading r m s says).1 ++ (rests_behind model_ends reading r m (came model_ends reading r m s says).0 a).entries)
      (Reads s.number most_read waits reading ∷ (rests_behind model_ends reading r m (came model_ends reading r m s says).0 a).calls)
  unfolding given_in left_after last_answer
  left_behind (Gave octets) s waits says a each =
      left_rests s (came model_ends (Gave octets) r m s says).0 a (came model_ends (Gave octets) r m s says).1 (Reads s.number most_read waits (Gave octets) ∷ []) each
      (no_read s.number waits (Gave octets)) (emptied s _ _ _ each.0.1 refl)
  left_behind NotNow s waits says a each =
      Stays s refl (record { each = each; goes = record { left = λ p. refl; done = λ last all p. inr (inr (refl, refl)) } })
  left_behind End s waits says a each =
      left_rests s (came model_ends End r m s says).0 a (came model_ends End r m s says).1 (Reads s.number most_read waits End ∷ []) each (no_read s.number waits End) (emptied s _ _ _ each.0.1 refl)
  left_behind Failed s waits says a each =
      left_rests s (came model_ends Failed r m s says).0 a (came model_ends Failed r m s says).1 (Reads s.number most_read waits Failed ∷ []) each (no_read s.number waits Failed) (emptied s _ _ _ each.0.1 refl)

  noted_first : (s : Session ModelEnd) {t : Session ModelEnd} {xs : List JournalEntry} {cs : List Call} → Visits (made s) t xs cs → Visits s t xs cs
  noted_first s {t} {xs} {cs} p = record {
    each = (each_calls r).then_ s (made s) t [] xs [] cs ((each_calls r).noted s) p.each;
    goes = record { left = p.goes.left; done = p.goes.done };
  }

  -- what is left of a session whose connection was noted as made
  from_made : (s : Session ModelEnd) {ts : List (Session ModelEnd)} {xs : List JournalEntry} {cs : List Call} → Left Visits (made s) ts xs cs → Left Visits s ts xs cs
  from_made s (Stays t e p) = Stays t e (noted_first s p)
  from_made s (Closed t ds over e f p) = Closed t ds over e f (noted_first s p)

  left_at_rest : (s : Session ModelEnd) (a : Wrote) → Left Visits s (rests model_ends r m s a).state (rests model_ends r m s a).entries (rests model_ends r m s a).calls
  left_at_rest s a = left_rests s s a [] [] ((each_steady r).none s) no_call (λ p e. e)

  left_at : (visit : Visit) (s : Session ModelEnd) (a : Met) → Left Visits s (visited model_ends r m visit s a).state (visited model_ends r m visit s a).entries (visited model_ends r m visit s a).calls
  unfolding visited read_once
  left_at Tick s a =
      elim (cases_Bool (is_due m (model_ends.deadline s.end))) [ inl p ↦ rw p (left_served s Ticks a) | inr p ↦ rw p (Stays s refl (stands r s)) ]
  left_at Read s a =
      elim (cases_Bool (is_released model_ends s)) [
        | inl p ↦ rw p (Stays s refl (stands r s))
        | inr p ↦ rw p (from_made s (left_behind a.reading (made s) a.waits a.says a.wrote ((each_calls r).read m (made s) a p)))
      ]
  left_at Write s a = from_made s (left_at_rest (made s) a.wrote)
  left_at Expire s a =
      elim (cases_Bool (is_due m s.closing)) [
        | inl p ↦ rw p (Closed s [] (over_due m s.closing (s.broken || is_released model_ends s) p) refl refl (stands r s))
        | inr p ↦ rw p (Stays s refl (stands r s))
      ]

all_left : (r : Rules) → AllLeft r Visits
all_left r = record { at_visit = λ visit m s a. left_at r m visit s a; at_rest = λ m s a. left_at_rest r m s a }

-- ---- a session and all that came at it

own : (s t : Session ModelEnd) (xs : List JournalEntry) (cs : List Call) → Visits s t xs cs → Own s t xs cs
own s t xs cs v = v.each.0.0

record Holds_so (s : Session ModelEnd) (xs : List JournalEntry) (cs : List Call) : Type 0 where
  given : Given_so s xs cs
  left : s.broken ≡ false → s.output ≡ left_after [] cs
  done : AllTakeOne cs → s.broken ≡ false → (s.output ≡ []) ⊎ (last_answer None cs ≡ Some write.NotNow)
  off : s.broken ≡ (has_broken xs || has_failed cs)

left-append : (before : List ℕ) (cs ds : List Call) → left_after before (cs ++ ds) ≡ left_after (left_after before cs) ds
unfolding left_after
left-append before [] ds = refl
left-append before (call ∷ cs) ds = left-append (specs.left_at call before) cs ds

last-append : (last : Option WriteAnswer) (cs ds : List Call) → last_answer last (cs ++ ds) ≡ last_answer (last_answer last cs) ds
unfolding last_answer
last-append last [] ds = refl
last-append last (call ∷ cs) ds = last-append (write_answer_behind_call call last) cs ds

all_first : (cs ds : List Call) → AllTakeOne (cs ++ ds) → AllTakeOne cs
all_first [] ds p = tt
all_first (call ∷ cs) ds p = (p.0, all_first cs ds p.1)

all_second : (cs ds : List Call) → AllTakeOne (cs ++ ds) → AllTakeOne ds
all_second [] ds p = p
all_second (call ∷ cs) ds p = all_second cs ds p.1

done_more : (s t : Session ModelEnd) (cs ds : List Call) → Goes s t ds → t.broken ≡ false → AllTakeOne ds
    → (s.output ≡ []) ⊎ (last_answer None cs ≡ Some write.NotNow) → (t.output ≡ []) ⊎ (last_answer None (cs ++ ds) ≡ Some write.NotNow)
done_more s t cs ds g p all before =
    elim (g.done (last_answer None cs) all p) [
      | inl e ↦ inl e
      | inr e ↦ elim e [
        | inl f ↦ inr (last-append None cs ds ∙ f)
        | inr f ↦ elim before [ inl e ↦ inl (f.0 ∙ e) | inr e ↦ inr (last-append None cs ds ∙ f.1 ∙ e) ]
      ]
    ]

more : (s t : Session ModelEnd) (xs ys : List JournalEntry) (cs ds : List Call) → Holds_so s xs cs → Visits s t ys ds → Holds_so t (xs ++ ys) (cs ++ ds)
unfolding Off
more s t xs ys cs ds h v =
    let g = v.each.0.1 in
    record {
      given = givings.more s t xs ys cs ds h.given g;
      left = λ p. v.goes.left p ∙ ap (λ z. left_after z ds) (h.left (g.whole p).0) ∙ sym (left-append [] cs ds);
      done = λ all p. done_more s t cs ds v.goes p (all_second cs ds all) (h.done (all_first cs ds all) (g.whole p).0);
      off = v.each.1 ∙ ap (λ z. z || (has_broken ys || has_failed ds)) h.off ∙ off-append xs ys cs ds;
    }

-- what it comes to at a close
Over : List JournalEntry → List Call → Type 0
Over xs cs = has_broken xs ≡ false → has_failed cs ≡ false → left_after [] cs ≡ [] → given_in cs ≡ octets_of_entries xs

both_false : (a b : Bool) → a ≡ false → b ≡ false → (a || b) ≡ false
both_false true b p q = absurd (true≢false p)
both_false false b p q = q

neither : (a b : Bool) → (a || b) ≡ false → (a ≡ false) × (b ≡ false)
neither true b p = absurd (true≢false p)
neither false b p = (refl, p)

closed_left : (cs ds : List Call) (n : ℕ) → left_after [] (cs ++ (ds ++ Closes n ∷ [])) ≡ left_after [] (cs ++ ds)
unfolding left_after
closed_left cs ds n = ap (λ z. left_after [] z) (sym (append_assoc cs ds (Closes n ∷ []))) ∙ left-append [] (cs ++ ds) (Closes n ∷ [])

over_of : (t : Session ModelEnd) (xs : List JournalEntry) (cs ds : List Call) → Holds_so t xs (cs ++ ds) → Over xs (cs ++ (ds ++ Closes t.number ∷ []))
unfolding Over
over_of t xs cs ds h whole session_behind_writing left =
    let failed : has_failed (cs ++ ds) ≡ false = sym (closed_failed cs ds t.number) ∙ session_behind_writing in
    let calm : t.broken ≡ false = h.off ∙ both_false (has_broken xs) (has_failed (cs ++ ds)) whole failed in
    let none : t.output ≡ [] = h.left calm ∙ sym (closed_left cs ds t.number) ∙ left in
    givings.closed_given cs ds t.number ∙ sym (append-nil (given_in (cs ++ ds)))
    ∙ ap (λ z. given_in (cs ++ ds) ++ z) (sym (h.given.whole calm ∙ none)) ∙ h.given.is

new_so : (s : Session ModelEnd) (x : List JournalEntry) → s.output ≡ [] → s.broken ≡ false → octets_of_entries x ≡ [] → has_broken x ≡ false → Holds_so s x []
unfolding given_in left_after has_failed
new_so s x e b none whole = record {
  given = record { rest = []; is = sym none; whole = λ p. sym e };
  left = λ p. e;
  done = λ all p. inl e;
  off = b ∙ sym (both_false (has_broken x) false whole refl);
}

keeps : (plan : Plan) → Keeps plan Visits Holds_so Over
unfolding Over given_in octets_of_entries has_broken
keeps plan = record {
  visit = λ s t xs ys cs ds h v. more s t xs ys cs ds h v;
  close = λ s t xs ys cs ds over h v. over_of t (xs ++ ys) cs ds (more s t xs ys cs ds h v);
  open_ = λ l conn mind. new_so (begun conn (answering model_ends plan l) mind) _ refl refl refl refl;
  never = λ a b c. refl;
  full = λ m conn live most a b c. refl;
  unserved = λ m conn handed a b c. refl;
}

some_same : (t s : Session ModelEnd) → Some t ≡ Some s → t ≡ s
some_same t s e = cc

-- the session of a number is one of those
pub kept_of : (conn : ℕ) (ss : List (Session ModelEnd)) (s : Session ModelEnd) → AreKept ss → session_of_connection conn ss ≡ Some s → IsKeptSession s
unfolding session_of_connection
kept_of conn [] s p e = absurd (let q : ⊥ = cc in q)
kept_of conn (t ∷ ss) s p e =
    elim (cases_Bool (t.number == conn)) [
      | inl q ↦ let same : Some t ≡ Some s = rw q at e in subst IsKeptSession (some_same t s same) p.0
      | inr q ↦ kept_of conn ss s p.1 (rw q at e)
    ]

-- ---- all connections

module _ (plan : Plan) where
  abbrev Known : Out (Course ModelEnd) → Type 0
  Known o = Knows plan Visits (all_left (rules_of plan)) own Holds_so Over (keeps plan) o.entries o.calls o.state.loop.sessions

  abbrev Fit : Option (Session ModelEnd) → ℕ → List JournalEntry → List Call → Type 0
  Fit s conn xs cs = Fits plan Visits (all_left (rules_of plan)) own Holds_so Over (keeps plan) s conn xs cs

  serving : (c : Course ModelEnd) (turns : List Turn) → IsServing plan c turns → Known (run model_ends plan c turns)
  serving c turns h = knows_run plan Visits (all_left (rules_of plan)) own Holds_so Over (keeps plan) c turns h.none h.rises

  dialling : (caller : Caller) (c : Course ModelEnd) (address : List ℕ) (a : Dialled) → IsDialling plan caller c address a → Known (dials model_ends plan caller c address a)
  unfolding octets_of_entries has_broken
  dialling caller c address a h =
      knows_dial_served plan caller Visits (all_left (rules_of plan)) own Holds_so Over (keeps plan)
      (λ l conn mind. new_so (begun_dial conn (calling model_ends plan caller l) mind) [] refl refl refl refl) (λ m s g a. left_served (rules_of plan) m s g a)
      (max c.loop.moment a.first) c address a h.none refl h.rises

  -- one that is live
  live : (o : Out (Course ModelEnd)) → Known o → (conn : ℕ) (s : Session ModelEnd) → session_of_connection conn o.state.loop.sessions ≡ Some s → Holds_so s (of conn o.entries) (calls_at conn o.calls)
  unfolding Fits
  live o k conn s is =
      let f : (s.number ≡ conn) × Holds_so s (of conn o.entries) (calls_at conn o.calls) = rw is at (k.fits conn) in f.1

  live_all : (s : Session ModelEnd) (xs : List JournalEntry) (cs : List Call) → Holds_so s xs cs → has_broken xs ≡ false → has_failed cs ≡ false → left_after [] cs ≡ [] → given_in cs ≡ octets_of_entries xs
  live_all s xs cs h whole session_behind_writing left =
      let calm : s.broken ≡ false = h.off ∙ both_false (has_broken xs) (has_failed cs) whole session_behind_writing in
      sym (append-nil (given_in cs)) ∙ ap (λ z. given_in cs ++ z) (sym (h.given.whole calm ∙ h.left calm ∙ left)) ∙ h.given.is

  given_all : (s : Option (Session ModelEnd)) (conn : ℕ) (xs : List JournalEntry) (cs : List Call) → Fit s conn xs cs
      → has_broken xs ≡ false → has_failed cs ≡ false → left_after [] cs ≡ [] → given_in cs ≡ octets_of_entries xs
  unfolding Fits Over
  given_all None conn xs cs h = h
  given_all (Some s) conn xs cs h = live_all s xs cs h.1

  all_given : (o : Out (Course ModelEnd)) → Known o → IsAllGiven plan o
  all_given o k conn order =
      givings.given_at conn o.calls
      ∙ given_all (session_of_connection conn o.state.loop.sessions) conn (of conn o.entries) (calls_at conn o.calls) (k.fits conn) order.whole order.written order.left

  calm_of : (o : Out (Course ModelEnd)) (conn : ℕ) (s : Session ModelEnd) → AreKept o.state.loop.sessions → session_of_connection conn o.state.loop.sessions ≡ Some s → s.broken ≡ false
  calm_of o conn s kept is = (neither s.broken (owes_nothing model_ends s) (kept_of conn o.state.loop.sessions s kept is)).0

  all_wait : (o : Out (Course ModelEnd)) → Known o → AreKept o.state.loop.sessions → AllWait plan o
  all_wait o k kept conn s is =
      let h = live o k conn s is in
      let calm = calm_of o conn s kept is in
      record {
        rest = ap (λ z. z ++ s.output) (givings.given_at conn o.calls) ∙ ap (λ z. given_in (calls_at conn o.calls) ++ z) (sym (h.given.whole calm)) ∙ h.given.is;
        left = h.left calm;
      }

  is_whole : (o : Out (Course ModelEnd)) → Known o → AreKept o.state.loop.sessions → HasWholeConnections plan o
  is_whole o k kept conn s is =
      let h = live o k conn s is in
      neither (has_broken (of conn o.entries)) (has_failed (calls_at conn o.calls)) (sym h.off ∙ calm_of o conn s kept is)

  is_written : (o : Out (Course ModelEnd)) → Known o → AreKept o.state.loop.sessions → IsOutputWritten plan o
  is_written o k kept conn s is all = (live o k conn s is).done all (calm_of o conn s kept is)

  -- ---- no session is left that broke off

  pub serving_kept : (c : Course ModelEnd) (turns : List Turn) → IsServing plan c turns → AreKept (run model_ends plan c turns).state.loop.sessions
  serving_kept c turns h = others_are_closed plan c turns (subst AreKept (sym h.none) tt)

  called_kept : (user : Option Mind) (caller : Caller) (l : Loop ModelEnd) (conn : ℕ) (a : Met) → AreKept l.sessions → AreKept (called_by model_ends user plan caller l conn a).state.sessions
  unfolding served
  called_kept None caller l conn a p = p
  called_kept (Some mind) caller l conn a p =
      let r = rules_of plan in
      kept_rests r l.moment
      (handled model_ends r l.moment (begun_dial conn (calling model_ends plan caller l) mind) (Begins caller.engine plan.rbc (next_u64 l.words).0) (first_answer_of nothing_said a.says)).0 a.wrote

  dial_kept : (conn : Option ℕ) (caller : Caller) (c : Course ModelEnd) (address : List ℕ) (a : Dialled) → AreKept c.loop.sessions → AreKept (dials_to model_ends conn plan caller c address a).state.loop.sessions
  unfolding called
  dial_kept None caller c address a p = p
  dial_kept (Some conn) caller c address a p =
      let d = asks a.first c in
      others_are_closed plan (opens model_ends plan caller d conn a.met).state a.turns (called_kept (next_user d.loop.users) caller d.loop conn a.met p)

  pub dialling_kept : (caller : Caller) (c : Course ModelEnd) (address : List ℕ) (a : Dialled) → IsDialling plan caller c address a → AreKept (dials model_ends plan caller c address a).state.loop.sessions
  unfolding dials
  dialling_kept caller c address a h = dial_kept a.conn caller c address a (subst AreKept (sym h.none) tt)

pub all_are_given : AllAreGiven
all_are_given = record {
  serving = λ plan c turns h. all_given plan (run model_ends plan c turns) (serving plan c turns h);
  dialling = λ plan caller c address a h. all_given plan (dials model_ends plan caller c address a) (dialling plan caller c address a h);
}

pub rest_waits : RestWaits
rest_waits = record {
  serving = λ plan c turns h. all_wait plan (run model_ends plan c turns) (serving plan c turns h) (serving_kept plan c turns h);
  dialling = λ plan caller c address a h. all_wait plan (dials model_ends plan caller c address a) (dialling plan caller c address a h) (dialling_kept plan caller c address a h);
}

pub live_are_whole : LiveAreWhole
live_are_whole = record {
  serving = λ plan c turns h. is_whole plan (run model_ends plan c turns) (serving plan c turns h) (serving_kept plan c turns h);
  dialling = λ plan caller c address a h. is_whole plan (dials model_ends plan caller c address a) (dialling plan caller c address a h) (dialling_kept plan caller c address a h);
}

pub output_is_written : OutputIsWritten
output_is_written = record {
  serving = λ plan c turns h. is_written plan (run model_ends plan c turns) (serving plan c turns h) (serving_kept plan c turns h);
  dialling = λ plan caller c address a h. is_written plan (dials model_ends plan caller c address a) (dialling plan caller c address a h) (dialling_kept plan caller c address a h);
}
