-- An event `fault` comes exactly where a read or a write of a connection failed that wasn't released.
use Rattle.loop_model.specs.Ends.{ModelEnd, model_ends}
use Rattle.std.proofs.Common.{◌≡◌, ℕ, ◌+◌, max, inl, inr, Bool, true, false, not, ◌&&◌, ◌||◌, List, [], ◌∷◌, ◌++◌, length, Option, Some, None, refl, sym, ◌∙◌, ap, subst, append-nil, append_assoc, arith, true≢false}
use Rattle.std.specs.Prelude.{◌==◌, nat_lt, is_some}
use Rattle.std.proofs.lemmas.Bool.{cases_Bool}
use Rattle.er_settings.specs.Ranges.{AllAllowed}
use Rattle.safety_automaton.specs.Keys.{key_at}
use Rattle.loop_model.proofs.EndKeepings.{ReleaseStays, BreaksRelease}
use Rattle.loop_model.proofs.EndKeepings.{StepsAlike, MadeStands, ShowsAlike}
use Rattle.er_users.specs.Users.{Mind}
use Rattle.rand_core.specs.Stream.{next_u64}
use Rattle.link_trait.specs.Wires.{Call, Reading, Gave, NotNow, End as LineEnd, Failed, Reads, Writes, Closes}
use Rattle.link_trait.specs.declared.wires.WriteAnswer.TheVariants as write
use Rattle.loop_model.specs.Journals.{JournalEntry}
use Rattle.loop_model.specs.Outs.{Out, first_answer_of}
use Rattle.loop_model.specs.Sessions.{Rules, Session, GivenToSession, Begins, Hears, Sends, Takes, Leaves, Ticks, Ends, Faults, Stalls, is_released, most_output, journal_event_of_given, end_after, outcomes_of_given_event, entry_of, octets_in, joined, fed, Says, nothing_said, handled}
use Rattle.loop_model.specs.Visits.{most_read, came}
use Rattle.loop_model.specs.Loops.{Plan, rules_of, Loop, Caller, calling, Course, Turn, run, Dialled, dials, begun_dial}
use Rattle.loop_model.specs.Parts.{session_of_connection, of, calls_at}
use Rattle.loop_model.specs.Laws.{IsServing, IsDialling, is_fault, one_if, faults, is_failed}
use Rattle.loop_model.specs.Faulted.{has_failed, before_fault, is_gone, AreFaultsTold, FaultsAreTold}
use Rattle.loop_model.proofs.Steadies.{Steady, Usual, Calls, AllLeft, all_left_of, steady_fed, steady_handled, steady_pours, follows_handled}
use Rattle.loop_model.proofs.Lives.{Own, Keeps, Fits, Knows, knows_run}
use Rattle.loop_model.proofs.Dialling.{knows_dial}
use Rattle.loop_model.proofs.Owns.{Both, steady_both, calls_both, steady_less, own_steady}
use Rattle.loop_model.proofs.Orders.{own_calls}
use Rattle.loop_model.proofs.Resting.{stays_released, breaks_released}
use Rattle.loop_model.proofs.Failings.{faults-append, fed_fault}
use Rattle.loop_model.proofs.Printings as printings
use Rattle.loop_model.proofs.Printings.{IsOfEnd, all_of_end}

-- ---- calls that failed, events before a fault

pub failed-append : (cs ds : List Call) → has_failed (cs ++ ds) ≡ (has_failed cs || has_failed ds)
unfolding has_failed
failed-append [] ds = refl
failed-append (call ∷ cs) ds = ap (λ z. is_failed call || z) (failed-append cs ds) ∙ or_assoc (is_failed call) (has_failed cs) (has_failed ds)
  where
    or_assoc : (a b c : Bool) → (a || (b || c)) ≡ ((a || b) || c)
    or_assoc true b c = refl
    or_assoc false b c = refl

or_false : (b : Bool) → (b || false) ≡ b
or_false true = refl
or_false false = refl

pub or_true : (b : Bool) → (b || true) ≡ true
or_true true = refl
or_true false = refl

pub not_failed : (cs : List Call) (call : Call) → is_failed call ≡ false → has_failed (cs ++ call ∷ []) ≡ has_failed cs
unfolding has_failed
not_failed cs call p = failed-append cs (call ∷ []) ∙ ap (λ z. has_failed cs || (z || false)) p ∙ or_false (has_failed cs)

now_failed : (cs : List Call) (call : Call) → is_failed call ≡ true → has_failed (cs ++ call ∷ []) ≡ true
unfolding has_failed
now_failed cs call p = failed-append cs (call ∷ []) ∙ ap (λ z. has_failed cs || (z || false)) p ∙ or_true (has_failed cs)

pub closed_failed : (cs ds : List Call) (n : ℕ) → has_failed (cs ++ (ds ++ Closes n ∷ [])) ≡ has_failed (cs ++ ds)
closed_failed cs ds n = ap has_failed (sym (append_assoc cs ds (Closes n ∷ []))) ∙ not_failed (cs ++ ds) (Closes n) refl

-- a fault stands among events, or none does
data Split (xs : List JournalEntry) : Type 0 where
  Without : faults xs ≡ 0 → ((ys : List JournalEntry) → before_fault (xs ++ ys) ≡ xs ++ before_fault ys) → before_fault xs ≡ xs → Split xs
  With : (faults xs ≡ 0 → ⊥) → ((ys : List JournalEntry) → before_fault (xs ++ ys) ≡ before_fault xs) → Split xs

split_more : (x : JournalEntry) (xs : List JournalEntry) → is_fault x.event ≡ false → Split xs → Split (x ∷ xs)
unfolding faults before_fault
split_more x xs p (Without z f e) =
    Without (subst (λ b. one_if b + faults xs ≡ 0) (sym p) (ap (λ n. 0 + n) z)) (λ ys. rw p (ap (λ q. x ∷ q) (f ys))) (rw p (ap (λ q. x ∷ q) e))
split_more x xs p (With z f) =
    With (λ n. z (let h : 0 + faults xs ≡ 0 = subst (λ b. one_if b + faults xs ≡ 0) p n in omega arith)) (λ ys. rw p (ap (λ q. x ∷ q) (f ys)))

split : (xs : List JournalEntry) → Split xs
unfolding faults before_fault
split [] = Without refl (λ ys. refl) refl
split (x ∷ xs) =
    elim (cases_Bool (is_fault x.event)) [
      | inl p ↦ With (λ n. let h : 1 + faults xs ≡ 0 = subst (λ b. one_if b + faults xs ≡ 0) p n in omega arith) (λ ys. rw p refl)
      | inr p ↦ split_more x xs p (split xs)
    ]

no_fault_all : (ys : List JournalEntry) → faults ys ≡ 0 → before_fault ys ≡ ys
no_fault_all ys z = elim (split ys) [ Without a f e ↦ e | With a f ↦ absurd (a z) ]

-- ---- events that are no fault

abbrev IsNoFault : GivenToSession → Type 0
IsNoFault (Begins engine rbc rb) = ⊥
IsNoFault (Hears octets) = Unit {0}
IsNoFault (Sends text) = Unit {0}
IsNoFault Takes = Unit {0}
IsNoFault (Leaves sub) = Unit {0}
IsNoFault Ticks = Unit {0}
IsNoFault Ends = Unit {0}
IsNoFault Faults = ⊥
IsNoFault Stalls = Unit {0}

of_end : (g : GivenToSession) → IsNoFault g → IsOfEnd g
of_end (Begins engine rbc rb) p = absurd p
of_end (Hears octets) p = tt
of_end (Sends text) p = tt
of_end Takes p = tt
of_end (Leaves sub) p = tt
of_end Ticks p = tt
of_end Ends p = tt
of_end Faults p = absurd p
of_end Stalls p = tt

no_fault : (k : ModelEnd) (g : GivenToSession) → IsNoFault g → is_fault (journal_event_of_given model_ends k g) ≡ false
no_fault k (Begins engine rbc rb) p = absurd p
no_fault k (Hears octets) p = refl
no_fault k (Sends text) p = refl
no_fault k Takes p = refl
no_fault k (Leaves sub) p = refl
no_fault k Ticks p = refl
no_fault k Ends p = refl
no_fault k Faults p = absurd p
no_fault k Stalls p = refl

usual : Usual IsNoFault
usual = record { sends = λ text. tt; leaves = λ sub. tt; takes = tt }

one_none : (x : JournalEntry) → is_fault x.event ≡ false → faults (x ∷ []) ≡ 0
unfolding faults
one_none x p = subst (λ b. one_if b + 0 ≡ 0) (sym p) refl

two_none : (x y : JournalEntry) → is_fault x.event ≡ false → is_fault y.event ≡ false → faults (x ∷ y ∷ []) ≡ 0
unfolding faults
two_none x y p q = subst (λ b. one_if b + (one_if (is_fault y.event) + 0) ≡ 0) (sym p) (subst (λ b. 0 + (one_if b + 0) ≡ 0) (sym q) refl)

module _ (steps : StepsAlike) (made : MadeStands) (shows : ShowsAlike) (stays : ReleaseStays) (breaks_release : BreaksRelease) (plan : Plan) (allowed : AllAllowed plan.settings) where
  abbrev r : Rules
  r = rules_of plan

  abbrev ToldTo : ModelEnd → List JournalEntry → Type 0
  ToldTo k xs = printings.ToldTo steps made plan allowed k xs

  -- whether its events release an end
  abbrev gone : List JournalEntry → Bool
  gone xs = is_gone (printings.Behind steps made plan allowed None xs)

  seen : (k : ModelEnd) (xs : List JournalEntry) → ToldTo k xs → is_some k.core.released ≡ gone xs
  seen k xs h = ap is_some (shows k h.now h.stands).1 ∙ sym (ap is_gone h.is)

  abbrev IsTold : List JournalEntry → List Call → Type 0
  IsTold xs cs = faults xs ≡ one_if (has_failed cs && not (gone (before_fault xs)))

  -- a session and all that came at it
  record Sees (s : Session ModelEnd) (xs : List JournalEntry) (cs : List Call) : Type 0 where
    told : ToldTo s.end xs
    fault : IsTold xs cs
    over : has_failed cs ≡ true → is_released model_ends s ≡ true

  -- what is so stays so
  Keeping : Session ModelEnd → Session ModelEnd → List JournalEntry → List Call → Type 0
  Keeping s t ys ds = (xs : List JournalEntry) (cs : List Call) → Sees s xs cs → Sees t (xs ++ ys) (cs ++ ds)

  quiet_case : (xs : List JournalEntry) (cs : List Call) → has_failed cs ≡ false → IsTold xs cs → faults xs ≡ 0
  quiet_case xs cs p h = subst (λ b. faults xs ≡ one_if (b && not (gone (before_fault xs)))) p h

  still_told : (xs ys : List JournalEntry) (cs : List Call) (b : Bool) → has_failed cs ≡ b → IsTold xs cs → faults ys ≡ 0 → (b ≡ true → gone (xs ++ ys) ≡ true) → IsTold (xs ++ ys) cs
  still_told xs ys cs false p h none over =
      faults-append xs ys ∙ ap (λ z. z + faults ys) (quiet_case xs cs p h) ∙ ap (λ z. 0 + z) none
      ∙ ap (λ b. one_if (b && not (gone (before_fault (xs ++ ys))))) (sym p)
  still_told xs ys cs true p h none over =
      elim (split xs) [
        | Without z f e ↦
            faults-append xs ys ∙ ap (λ n. n + faults ys) z ∙ ap (λ n. 0 + n) none
            ∙ ap (λ b. one_if (true && not b)) (sym (ap gone (f ys ∙ ap (λ q. xs ++ q) (no_fault_all ys none)) ∙ over refl))
            ∙ ap (λ b. one_if (b && not (gone (before_fault (xs ++ ys))))) (sym p)
        | With z f ↦
            faults-append xs ys ∙ ap (λ n. faults xs + n) none ∙ plus_none (faults xs) ∙ h
            ∙ ap (λ q. one_if (has_failed cs && not (gone q))) (sym (f ys))
      ]
    where
      plus_none : (n : ℕ) → n + 0 ≡ n
      plus_none n = omega arith

  -- events that are no fault
  plain : (s t : Session ModelEnd) (xs ys : List JournalEntry) (cs : List Call) → Sees s xs cs → printings.Going steps made plan allowed s.end t.end ys → faults ys ≡ 0
      → (is_released model_ends s ≡ true → is_released model_ends t ≡ true) → Sees t (xs ++ ys) cs
  plain s t xs ys cs h going none on =
      let told : ToldTo t.end (xs ++ ys) = printings.more steps made plan allowed s.end t.end xs ys h.told going in
      record {
        told = told;
        fault = still_told xs ys cs (has_failed cs) refl h.fault none (λ p. sym (seen t.end (xs ++ ys) told) ∙ on (h.over p));
        over = λ p. on (h.over p);
      }

  nothing : (s t : Session ModelEnd) → t.end ≡ s.end → Keeping s t [] []
  unfolding Keeping
  nothing s t e xs cs h =
      rw (append-nil xs, append-nil cs)
      (record { told = subst (λ k. ToldTo k xs) (sym e) h.told; fault = h.fault; over = λ p. ap (λ (k : ModelEnd). is_some k.core.released) e ∙ h.over p })

  keeping_then : (s t u : Session ModelEnd) (xs ys : List JournalEntry) (cs ds : List Call) → Keeping s t xs cs → Keeping t u ys ds → Keeping s u (xs ++ ys) (cs ++ ds)
  unfolding Keeping
  keeping_then s t u xs ys cs ds p q js bs h = rw (← append_assoc js xs ys, ← append_assoc bs cs ds) (q (js ++ xs) (bs ++ cs) (p js bs h))

  steady : Steady r IsNoFault Keeping
  unfolding Keeping printings.Goes
  steady = record {
    none = λ s. nothing s s refl;
    then_ = keeping_then;
    given = λ m s g p fits xs cs h.
        rw (append-nil cs)
        (plain s _ xs (entry_of model_ends r m s g ∷ []) cs h ((printings.q_steady steps made plan allowed).given m s g (of_end g p) fits).1
        (one_none (entry_of model_ends r m s g) (no_fault s.end g p)) (λ q. stays_released stays breaks_release r m s.end g q));
    stalls = λ m s g p fits xs cs h.
        let k = end_after model_ends r m s.end g in
        rw (append-nil cs)
        (plain s _ xs (entry_of model_ends r m s g ∷ entry_of model_ends r m (record s { end = k }) Stalls ∷ []) cs h ((printings.q_steady steps made plan allowed).stalls m s g (of_end g p) fits).1
        (two_none (entry_of model_ends r m s g) (entry_of model_ends r m (record s { end = k }) Stalls) (no_fault s.end g p) refl) (λ q. breaks_released stays breaks_release r m k Stalls refl));
    heard = λ s mind. nothing s (record s { mind = mind }) refl;
    parts = λ s told at gone. nothing s (record s { mind = None; told = told; closing = Some at }) refl;
  }

  -- a call that doesn't fail
  bare : (s t : Session ModelEnd) (call : Call) → t.end ≡ s.end → is_failed call ≡ false → Keeping s t [] (call ∷ [])
  unfolding Keeping
  bare s t call e p xs cs h =
      let q = not_failed cs call p in
      rw (append-nil xs)
      (record {
        told = subst (λ k. ToldTo k xs) (sym e) h.told;
        fault = h.fault ∙ ap (λ b. one_if (b && not (gone (before_fault xs)))) (sym q);
        over = λ f. ap (λ (k : ModelEnd). is_some k.core.released) e ∙ h.over (sym q ∙ f);
      })

  -- a call that failed, and the fault
  fed_goes : (m : ℕ) (s : Session ModelEnd) → printings.Going steps made plan allowed s.end (fed model_ends r m s Faults).0.end (fed model_ends r m s Faults).1
  unfolding printings.Goes
  fed_goes m s =
      (steady_fed r IsOfEnd (printings.Q steps made plan allowed) (printings.q_steady steps made plan allowed) all_of_end.usual m s Faults tt).1

  fed_released : (m : ℕ) (s : Session ModelEnd) → is_released model_ends (fed model_ends r m s Faults).0 ≡ true
  unfolding fed joined
  fed_released m s =
      let k = end_after model_ends r m s.end Faults in
      elim (cases_Bool (nat_lt most_output (length s.output + length (octets_in (outcomes_of_given_event model_ends r m s.end Faults))))) [
        | inl p ↦ rw p (breaks_released stays breaks_release r m k Stalls refl)
        | inr p ↦ rw p (breaks_released stays breaks_release r m s.end Faults refl)
      ]

  fed_first : (m : ℕ) (s : Session ModelEnd) → before_fault (fed model_ends r m s Faults).1 ≡ []
  unfolding fed before_fault
  fed_first m s = refl

  unfailed : (s : Session ModelEnd) (xs : List JournalEntry) (cs : List Call) (b : Bool) → has_failed cs ≡ b → Sees s xs cs → is_released model_ends s ≡ false → has_failed cs ≡ false
  unfailed s xs cs true p h live = absurd (true≢false (sym (h.over p) ∙ live))
  unfailed s xs cs false p h live = p

  struck : (m : ℕ) (s : Session ModelEnd) (call : Call) → is_failed call ≡ true → is_released model_ends s ≡ false → Keeping s (fed model_ends r m s Faults).0 (fed model_ends r m s Faults).1 (call ∷ [])
  unfolding Keeping
  struck m s call failed live xs cs h =
      let ys = (fed model_ends r m s Faults).1 in
      let none : faults xs ≡ 0 = quiet_case xs cs (unfailed s xs cs (has_failed cs) refl h live) h.fault in
      let at : before_fault (xs ++ ys) ≡ xs = elim (split xs) [ Without z f e ↦ f ys ∙ ap (λ q. xs ++ q) (fed_first m s) ∙ append-nil xs | With z f ↦ absurd (z none) ] in
      record {
        told = printings.more steps made plan allowed s.end (fed model_ends r m s Faults).0.end xs ys h.told (fed_goes m s);
        fault =
            faults-append xs ys ∙ ap (λ n. n + faults ys) none ∙ ap (λ n. 0 + n) (fed_fault r m s)
            ∙ ap (λ b. one_if (true && not b)) (sym (ap gone at ∙ sym (seen s.end xs h.told) ∙ live))
            ∙ ap (λ b. one_if (b && not (gone (before_fault (xs ++ ys))))) (sym (now_failed cs call failed));
        over = λ p. fed_released m s;
      }

  faulted : (m : ℕ) (s : Session ModelEnd) (says : Says) (call : Call) → is_failed call ≡ true → is_released model_ends s ≡ false
      → Keeping s (handled model_ends r m s Faults says).0 (handled model_ends r m s Faults says).1 (call ∷ [])
  faulted m s says call failed live =
      let f = follows_handled r IsNoFault Keeping steady usual m s Faults says in
      let t = (handled model_ends r m s Faults says).0 in
      subst (λ z. Keeping s t z (call ∷ [])) (sym f.is)
      (keeping_then s (fed model_ends r m s Faults).0 t (fed model_ends r m s Faults).1 f.rest (call ∷ []) [] (struck m s call failed live) f.holds)

  failed_gone : (s t : Session ModelEnd) (call : Call) → t.end ≡ s.end → is_failed call ≡ true → is_released model_ends s ≡ true → Keeping s t [] (call ∷ [])
  unfolding Keeping
  failed_gone s t call e failed over xs cs h =
      rw (append-nil xs)
      (record {
        told = subst (λ k. ToldTo k xs) (sym e) h.told;
        fault = told_of (has_failed cs) refl ∙ ap (λ b. one_if (b && not (gone (before_fault xs)))) (sym (now_failed cs call failed));
        over = λ p. ap (λ (k : ModelEnd). is_some k.core.released) e ∙ over;
      })
    where
      told_of : (b : Bool) → has_failed cs ≡ b → faults xs ≡ one_if (true && not (gone (before_fault xs)))
      told_of true p = subst (λ b. faults xs ≡ one_if (b && not (gone (before_fault xs)))) p h.fault
      told_of false p =
          let none : faults xs ≡ 0 = quiet_case xs cs p h.fault in
          none ∙ ap (λ b. one_if (true && not b)) (sym (ap gone (no_fault_all xs none) ∙ sym (seen s.end xs h.told) ∙ over))

  read_keeps : (m : ℕ) (s : Session ModelEnd) (waits : ℕ) (reading : Reading) (says : List Says) → is_released model_ends s ≡ false
      → Keeping s (came model_ends reading r m s says).0 (came model_ends reading r m s says).1 (Reads s.number most_read waits reading ∷ [])
  read_keeps m s waits (Gave octets) says live =
      keeping_then s s _ [] _ (Reads s.number most_read waits (Gave octets) ∷ []) [] (bare s s (Reads s.number most_read waits (Gave octets)) refl refl)
      (steady_pours r IsNoFault Keeping steady usual (λ octets. tt) m s octets says)
  read_keeps m s waits NotNow says live = bare s s (Reads s.number most_read waits NotNow) refl refl
  read_keeps m s waits LineEnd says live =
      keeping_then s s _ [] _ (Reads s.number most_read waits LineEnd ∷ []) [] (bare s s (Reads s.number most_read waits LineEnd) refl refl)
      (steady_handled r IsNoFault Keeping steady usual m s Ends (first_answer_of nothing_said says) tt)
  read_keeps m s waits Failed says live = faulted m s (first_answer_of nothing_said says) (Reads s.number most_read waits Failed) refl live

  calls : Calls r Keeping
  calls = record {
    quiet = record {
      none = steady.none;
      then_ = keeping_then;
      wrote = λ s n whole. bare s _ (Writes s.number s.output (write.Some n)) refl refl;
      put_off = λ s. bare s s (Writes s.number s.output write.NotNow) refl refl;
      noted = λ s. nothing s _ refl;
      failed = λ m s says live. faulted m s says (Writes s.number s.output write.Failed) refl live;
      failed_released = λ s over. failed_gone s (record s { broken = true }) (Writes s.number s.output write.Failed) refl refl over;
      ticked = λ m s says due. steady_handled r IsNoFault Keeping steady usual m s Ticks says tt;
    };
    read = λ m s a live. read_keeps m s a.waits a.reading a.says live;
  }

  -- ---- all connections

  abbrev Q : Session ModelEnd → Session ModelEnd → List JournalEntry → List Call → Type 0
  Q = Both Own Keeping

  q_steady : Steady r IsNoFault Q
  q_steady = steady_both r IsNoFault Own Keeping (steady_less r (λ g. Unit {0}) IsNoFault Own (λ g p. tt) (own_steady r)) steady

  q_calls : AllLeft r Q
  q_calls = all_left_of r Q (calls_both r Own Keeping (own_calls r) calls)

  own : (s t : Session ModelEnd) (xs : List JournalEntry) (cs : List Call) → Q s t xs cs → Own s t xs cs
  own s t xs cs p = p.0

  keeps : Keeps plan Q Sees IsTold
  unfolding Keeping faults has_failed before_fault
  keeps = record {
    visit = λ s t xs ys cs ds h q. q.1 xs cs h;
    close = λ s t xs ys cs ds over h q.
        (q.1 xs cs h).fault ∙ ap (λ b. one_if (b && not (gone (before_fault (xs ++ ys))))) (sym (closed_failed cs ds t.number));
    open_ = λ l conn mind. record {
      told = (printings.keeps steps made plan allowed).open_ l conn mind;
      fault = refl;
      over = λ p. absurd (true≢false (sym p));
    };
    never = refl;
    full = λ m conn live most. refl;
    unserved = λ m conn handed. refl;
  }

  begins_none : (m : ℕ) (s : Session ModelEnd) (engine rbc rb : ℕ) → faults (fed model_ends r m s (Begins engine rbc rb)).1 ≡ 0
  unfolding faults fed joined
  begins_none m s engine rbc rb =
      elim (cases_Bool (nat_lt most_output (length s.output + length (octets_in (outcomes_of_given_event model_ends r m s.end (Begins engine rbc rb)))))) [ inl p ↦ rw p refl | inr p ↦ rw p refl ]

  first : (caller : Caller) (at : ℕ) → key_at plan.keys at caller.engine plan.rbc ≡ Some caller.kmac
      → (l : Loop ModelEnd) (conn : ℕ) (mind : Mind) → l.moment ≡ at
      → Sees (fed model_ends r l.moment (begun_dial conn (calling model_ends plan caller l) mind) (Begins caller.engine plan.rbc (next_u64 l.words).0)).0
      (fed model_ends r l.moment (begun_dial conn (calling model_ends plan caller l) mind) (Begins caller.engine plan.rbc (next_u64 l.words).0)).1 []
  unfolding has_failed
  first caller at key l conn mind now = record {
    told = printings.first_told steps made plan allowed caller at key l conn mind now;
    fault = begins_none l.moment (begun_dial conn (calling model_ends plan caller l) mind) caller.engine plan.rbc (next_u64 l.words).0;
    over = λ p. absurd (true≢false (sym p));
  }

  told_in : (s : Option (Session ModelEnd)) (conn : ℕ) (xs : List JournalEntry) (cs : List Call) → Fits plan Q q_calls own Sees IsTold keeps s conn xs cs → IsTold xs cs
  unfolding Fits
  told_in None conn xs cs h = h
  told_in (Some s) conn xs cs h = h.1.fault

  -- ---- the end of a connection by its own events alone

  AreOf : ℕ → List JournalEntry → Type 0
  AreOf conn [] = Unit {0}
  AreOf conn (x ∷ xs) = ((x.conn == conn) ≡ true) × AreOf conn xs

  are_of : (conn : ℕ) (xs : List JournalEntry) → AreOf conn (of conn xs)
  unfolding of AreOf
  are_of conn [] = tt
  are_of conn (x ∷ xs) = elim (cases_Bool (x.conn == conn)) [ inl p ↦ rw p (p, are_of conn xs) | inr p ↦ rw p (are_of conn xs) ]

  before_of : (conn : ℕ) (xs : List JournalEntry) → AreOf conn xs → of conn (before_fault xs) ≡ before_fault xs
  unfolding of AreOf before_fault
  before_of conn [] h = refl
  before_of conn (x ∷ xs) h =
      elim (cases_Bool (is_fault x.event)) [ inl p ↦ rw p refl | inr p ↦ rw (p, h.0) (ap (λ z. x ∷ z) (before_of conn xs h.1)) ]

  all_so : (o : Out (Course ModelEnd)) → Knows plan Q q_calls own Sees IsTold keeps o.entries o.calls o.state.loop.sessions → AreFaultsTold plan o
  all_so o k conn =
      let xs = of conn o.entries in
      let cs = calls_at conn o.calls in
      told_in (session_of_connection conn o.state.loop.sessions) conn xs cs (k.fits conn)
      ∙ ap (λ z. one_if (has_failed cs && not (is_gone z)))
      (sym (printings.at_own steps made plan allowed conn None (before_fault xs) ∙ ap (λ z. printings.Behind steps made plan allowed None z) (before_of conn xs (are_of conn o.entries))))

  serving : (c : Course ModelEnd) (turns : List Turn) → IsServing plan c turns → AreFaultsTold plan (run model_ends plan c turns)
  serving c turns h = all_so (run model_ends plan c turns) (knows_run plan Q q_calls own Sees IsTold keeps c turns h.none h.rises)

  dialling : (caller : Caller) (c : Course ModelEnd) (address : List ℕ) (a : Dialled) → IsDialling plan caller c address a → AreFaultsTold plan (dials model_ends plan caller c address a)
  dialling caller c address a h =
      all_so (dials model_ends plan caller c address a)
      (knows_dial plan caller IsNoFault Q q_steady usual q_calls own Sees IsTold keeps (max c.loop.moment a.first)
      (first caller (max c.loop.moment a.first) h.key) c address a h.none refl h.rises)

pub faults_are_told : StepsAlike → MadeStands → ShowsAlike → ReleaseStays → BreaksRelease → FaultsAreTold
faults_are_told steps made shows stays breaks_release = record {
  serving = λ plan c turns h. serving steps made shows stays breaks_release plan h.allowed c turns h;
  dialling = λ plan caller c address a h. dialling steps made shows stays breaks_release plan h.allowed caller c address a h;
}
