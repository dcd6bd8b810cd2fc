-- A released connection is closed at the latest the set-up time behind the event that released it.
use Rattle.loop_model.specs.Ends.{ModelEnd, model_ends}
use Rattle.std.proofs.Common.{if◌then◌else◌, ◌≡◌, ◌⊎◌, ℕ, ◌+◌, max, inl, inr, Bool, true, false, ◌||◌, List, [], ◌∷◌, ◌++◌, length, drop, Option, Some, None, refl, sym, ◌∙◌, ap, subst, append-nil, append_assoc, true≢false}
use Rattle.std.specs.Prelude.{◌==◌, nat_lt, is_some}
use Rattle.std.proofs.lemmas.Bool.{cases_Bool}
use Rattle.er_base.specs.declared.release.Release.{Release}
use Rattle.er_settings.specs.Ranges.{AllAllowed}
use Rattle.safety_automaton.specs.Keys.{key_at}
use Rattle.er_end_model.specs.Ends.{End as Ended_at}
use Rattle.trace_model.specs.Connections.{happens}
use Rattle.loop_model.proofs.EndKeepings.{ReleaseStays, BreaksRelease}
use Rattle.loop_model.proofs.EndKeepings.{StepsAlike, MadeStands, ShowsAlike}
use Rattle.er_users.specs.Users.{Mind, Heard, Said}
use Rattle.rand_core.specs.Stream.{next_u64}
use Rattle.link_trait.specs.Wires.{Call, Reading, Gave, NotNow, End, Failed, Reads}
use Rattle.link_trait.specs.declared.wires.WriteAnswer.{WriteAnswer}
use Rattle.link_trait.specs.declared.wires.WriteAnswer.TheVariants as write
use Rattle.loop_model.specs.Journals.{JournalEntry}
use Rattle.loop_model.specs.Outs.{Out, part_for_each_answer, acts, exactly, first_answer_of}
use Rattle.loop_model.specs.Sessions.{Rules, Session, GivenToSession, Begins, Hears, Sends, Takes, Leaves, Ticks, Ends, Faults, Stalls, is_released, most_output, end_after, outcomes_of_given_event, entry_of, octets_in, joined, fed, replied, refused_in, refusal_heard, notes, heard_by_user, user_after_hearing, silent_answer, dealt, count_waiting_in_session, takes_all, parts, Says, nothing_said, handled, poured, pours}
use Rattle.loop_model.specs.Sessions as sessions
use Rattle.loop_model.specs.Visits.{most_read, WritingState, Going, PutOff, Failing, after_write, writes_if, writes_once, writes, Wrote, fault_unless, flowed, written_unless, session_behind_writing, session_kept_or_closed, rests, rests_behind, Visit, Tick, Read, Write, Expire, Met, is_due, came, read_once, served, visited}
use Rattle.loop_model.specs.Loops.{Plan, rules_of, Loop, begun, answering, Caller, calling, Course, Turn, run, Dialled, dials, begun_dial}
use Rattle.loop_model.specs.Parts.{of, calls_at}
use Rattle.loop_model.specs.Laws.{IsServing, IsDialling}
use Rattle.loop_model.specs.Faulted.{is_gone}
use Rattle.loop_model.specs.Expiries.{released_at, closing_at, ClosesInTime, ClosingsAreInTime}
use Rattle.loop_model.proofs.Steadies.{Steady, Usual, handled_at, steady_handled, follows_handled, quiet_at, written_at, Calls, over_due, Left, Stays, Closed, AllLeft}
use Rattle.loop_model.proofs.Lives.{Own, Keeps, Fits, Knows, knows_run}
use Rattle.loop_model.proofs.Dialling.{knows_dial_of}
use Rattle.loop_model.proofs.Owns.{Both, steady_both, calls_both, usual_calls}
use Rattle.loop_model.proofs.Resting.{StaysGone, stays_gone, parts_end, stays_released, breaks_released}
use Rattle.loop_model.proofs.Printings as printings
use Rattle.loop_model.proofs.Printings.{IsOfEnd, all_of_end}
use Rattle.loop_model.proofs.Replaying.{ArePlain, Plainly, plainly, plain_calls, handled_so}
use Rattle.loop_model.proofs.Writing.{left_settled}

-- ---- a session's user and closing moment

-- one that isn't released has its user and no closing moment; one that is has none any more
record Timed (s : Session ModelEnd) : Type 0 where
  live : is_released model_ends s ≡ false → (s.closing ≡ None) × (is_some s.mind ≡ true)
  gone : is_released model_ends s ≡ true → s.mind ≡ None

-- what happens at a moment: the closing moment is set where the session is released, and stays
record Times (setup m : ℕ) (s t : Session ModelEnd) : Type 0 where
  timed : Timed t
  stays : is_released model_ends s ≡ true → is_released model_ends t ≡ true
  gone : is_released model_ends s ≡ true → t.closing ≡ s.closing
  live : is_released model_ends s ≡ false → t.closing ≡ (if is_released model_ends t then Some (m + setup) else None)

Same : Session ModelEnd → Session ModelEnd → Type 0
Same s t = (t.closing ≡ s.closing) × (is_some t.mind ≡ is_some s.mind)

same_then : (s t u : Session ModelEnd) → Same s t → Same t u → Same s u
unfolding Same
same_then s t u p q = (q.0 ∙ p.0, q.1 ∙ p.1)

false_of : (b : Bool) → (b ≡ true → ⊥) → b ≡ false
false_of true f = absurd (f refl)
false_of false f = refl

hears_same : (mind : Option Mind) (heard : Option Heard) (free : Said) → is_some (user_after_hearing mind heard free).0 ≡ is_some mind
hears_same None heard free = refl
hears_same (Some mind) None free = refl
hears_same (Some mind) (Some heard) free = refl

module _ (r : Rules) (m : ℕ) where
  abbrev So : Session ModelEnd → Session ModelEnd → Type 0
  So s t = Timed s → Times r.setup m s t

  fed_same : (s : Session ModelEnd) (g : GivenToSession) → Same s (fed model_ends r m s g).0
  unfolding Same fed joined
  fed_same s g =
      elim (cases_Bool (nat_lt most_output (length s.output + length (octets_in (outcomes_of_given_event model_ends r m s.end g))))) [ inl p ↦ rw p (refl, refl) | inr p ↦ rw p (refl, refl) ]

  notes_same : (heard : Option Heard) (mind : Option Mind) → is_some (notes heard mind) ≡ is_some mind
  notes_same heard None = refl
  notes_same heard (Some mind) = refl

  replied_same : (s : Session ModelEnd) (g : GivenToSession) → Same s (replied model_ends r m s g).0
  unfolding Same
  replied_same s (Begins engine rbc rb) = fed_same s (Begins engine rbc rb)
  replied_same s (Hears octets) = fed_same s (Hears octets)
  replied_same s (Sends text) =
      ((fed_same s (Sends text)).0, notes_same (refusal_heard text (refused_in (outcomes_of_given_event model_ends r m s.end (Sends text)))) s.mind)
  replied_same s Takes = fed_same s Takes
  replied_same s (Leaves sub) = fed_same s (Leaves sub)
  replied_same s Ticks = fed_same s Ticks
  replied_same s Ends = fed_same s Ends
  replied_same s Faults = fed_same s Faults
  replied_same s Stalls = fed_same s Stalls

  runs_same : (gs : List GivenToSession) (s : Session ModelEnd) → Same s (part_for_each_answer (replied model_ends r m) s gs).0
  unfolding Same part_for_each_answer
  runs_same [] s = (refl, refl)
  runs_same (g ∷ gs) s =
      same_then s (replied model_ends r m s g).0 (part_for_each_answer (replied model_ends r m) (replied model_ends r m s g).0 gs).0 (replied_same s g) (runs_same gs (replied model_ends r m s g).0)

  dealt_same : (s : Session ModelEnd) (g : GivenToSession) (free : Said) → Same s (dealt model_ends r m s g free).0
  unfolding Same dealt
  dealt_same s g free =
      let a = fed model_ends r m s g in
      let b = user_after_hearing s.mind (heard_by_user (outcomes_of_given_event model_ends r m s.end g)) free in
      let t : Session ModelEnd = record a.0 { mind = b.0 } in
      let c = runs_same b.1 t in
      (c.0 ∙ (fed_same s g).0, c.1 ∙ hears_same s.mind (heard_by_user (outcomes_of_given_event model_ends r m s.end g)) free)

  all_same : (frees : List Said) (s : Session ModelEnd) → Same s (part_for_each_answer (λ t free. dealt model_ends r m t Takes free) s frees).0
  unfolding Same part_for_each_answer
  all_same [] s = (refl, refl)
  all_same (free ∷ frees) s = let t = (dealt model_ends r m s Takes free).0 in same_then s t (part_for_each_answer (λ t free. dealt model_ends r m t Takes free) t frees).0 (dealt_same s Takes free) (all_same frees t)

  takes_same : (s : Session ModelEnd) (frees : List Said) → Same s (takes_all model_ends r m s frees).0
  unfolding takes_all
  takes_same s frees = all_same (exactly (count_waiting_in_session model_ends s) silent_answer frees) s

  parts_timed : (release : Option Release) (mind : Option Mind) (b s : Session ModelEnd) → b.end.core.released ≡ release → b.mind ≡ mind → Timed s → Same s b
      → (is_released model_ends s ≡ true → is_released model_ends b ≡ true) → Times r.setup m s (parts release mind (m + r.setup) b)
  unfolding Same
  parts_timed None mind b s e f h same on =
      let out : is_released model_ends b ≡ false = ap is_some e in
      let in_ : is_released model_ends s ≡ false = false_of (is_released model_ends s) (λ p. true≢false (sym (on p) ∙ out)) in
      record {
        timed = record { live = λ p. (same.0 ∙ (h.live in_).0, same.1 ∙ (h.live in_).1); gone = λ p. absurd (true≢false (sym p ∙ out)) };
        stays = on;
        gone = λ p. same.0;
        live = λ p. same.0 ∙ (h.live p).0 ∙ ap (λ (z : Bool). if z then Some (m + r.setup) else None) (sym out);
      }
  parts_timed (Some release) None b s e f h same on =
      let out : is_released model_ends b ≡ true = ap is_some e in
      record {
        timed = record { live = λ p. absurd (true≢false (sym out ∙ p)); gone = λ p. f };
        stays = on;
        gone = λ p. same.0;
        live = λ p. absurd (true≢false (sym (h.live p).1 ∙ sym same.1 ∙ ap is_some f));
      }
  parts_timed (Some release) (Some mind) b s e f h same on =
      let out : is_released model_ends b ≡ true = ap is_some e in
      record {
        timed = record { live = λ p. absurd (true≢false (sym out ∙ p)); gone = λ p. refl };
        stays = λ p. out;
        gone = λ p. absurd (true≢false (sym (ap is_some f) ∙ same.1 ∙ ap is_some (h.gone p)));
        live = λ p. ap (λ (z : Bool). if z then Some (m + r.setup) else None) (sym out);
      }

  handled_timed : (s : Session ModelEnd) (g : GivenToSession) (says : Says) → (is_released model_ends s ≡ true → is_released model_ends (handled model_ends r m s g says).0 ≡ true) → So s (handled model_ends r m s g says).0
  unfolding handled Same
  handled_timed s g says on h =
      let a = dealt model_ends r m s g says.first in
      let b = takes_all model_ends r m a.0 says.rest in
      parts_timed b.0.end.core.released b.0.mind b.0 s refl refl h (same_then s a.0 b.0 (dealt_same s g says.first) (takes_same a.0 says.rest))
      (λ p. ap (λ (k : ModelEnd). is_some k.core.released) (sym (parts_end b.0.end.core.released b.0.mind (m + r.setup) b.0)) ∙ on p)

  -- a session with the same end, user and closing moment
  same_so : (s t : Session ModelEnd) → t.end ≡ s.end → t.mind ≡ s.mind → t.closing ≡ s.closing → So s t
  same_so s t e f c h =
      let out : is_released model_ends t ≡ is_released model_ends s = ap (λ (k : ModelEnd). is_some k.core.released) e in
      record {
        timed = record { live = λ p. (c ∙ (h.live (sym out ∙ p)).0, ap is_some f ∙ (h.live (sym out ∙ p)).1); gone = λ p. f ∙ h.gone (sym out ∙ p) };
        stays = λ p. out ∙ p;
        gone = λ p. c;
        live = λ p. c ∙ (h.live p).0 ∙ ap (λ (z : Bool). if z then Some (m + r.setup) else None) (sym (out ∙ p));
      }

  so_then : (s t u : Session ModelEnd) → So s t → So t u → So s u
  so_then s t u p q h =
      let a = p h in
      let b = q a.timed in
      record {
        timed = b.timed;
        stays = λ e. b.stays (a.stays e);
        gone = λ e. b.gone (a.stays e) ∙ a.gone e;
        live = λ e.
            elim (cases_Bool (is_released model_ends t)) [
              | inl d ↦
                  b.gone d ∙ a.live e ∙ ap (λ (z : Bool). if z then Some (m + r.setup) else None) (d ∙ sym (b.stays d))
              | inr d ↦ b.live d
            ];
      }

  module _ (stay : (s : Session ModelEnd) (g : GivenToSession) (says : Says) → is_released model_ends s ≡ true → is_released model_ends (handled model_ends r m s g says).0 ≡ true) where
    handled_now : (s : Session ModelEnd) (g : GivenToSession) (says : Says) → So s (handled model_ends r m s g says).0
    handled_now s g says = handled_timed s g says (stay s g says)

    poured_so : (x : Session ModelEnd × List ℕ) (says : Says) → So x.0 (poured model_ends r m x says).0.0
    unfolding poured
    poured_so x says =
        elim (cases_Bool ((length x.1 == 0) || x.0.broken)) [ inl p ↦ rw p (same_so x.0 x.0 refl refl refl) | inr p ↦ rw p (handled_now x.0 (Hears x.1) says) ]

    all_poured : (says : List Says) (x : Session ModelEnd × List ℕ) → So x.0 (part_for_each_answer (poured model_ends r m) x says).0.0
    unfolding part_for_each_answer
    all_poured [] x = same_so x.0 x.0 refl refl refl
    all_poured (a ∷ says) x = so_then x.0 (poured model_ends r m x a).0.0 (part_for_each_answer (poured model_ends r m) (poured model_ends r m x a).0 says).0.0 (poured_so x a) (all_poured says (poured model_ends r m x a).0)

    came_so : (s : Session ModelEnd) (reading : Reading) (says : List Says) → So s (came model_ends reading r m s says).0
    unfolding pours
    came_so s (Gave octets) says = all_poured (exactly (length octets) nothing_said says) (s, octets)
    came_so s NotNow says = same_so s s refl refl refl
    came_so s End says = handled_now s Ends (first_answer_of nothing_said says)
    came_so s Failed says = handled_now s Faults (first_answer_of nothing_said says)

    answered_so : (s : Session ModelEnd) (a : WriteAnswer) → So s (after_write a s).0
    answered_so s (write.Some n) = same_so s (record s { output = drop n s.output }) refl refl refl
    answered_so s write.NotNow = same_so s s refl refl refl
    answered_so s write.Failed = same_so s s refl refl refl

    once_so : (flow : WritingState) (s : Session ModelEnd) (a : WriteAnswer) → So s (writes_if flow s a).state.0
    once_so Going s a = elim (cases_Bool (length s.output == 0)) [ inl p ↦ rw p (same_so s s refl refl refl) | inr p ↦ rw p (answered_so s a) ]
    once_so PutOff s a = same_so s s refl refl refl
    once_so Failing s a = same_so s s refl refl refl

    acts_so : (answers : List WriteAnswer) (x : Session ModelEnd × WritingState) → So x.0 (acts writes_once x answers).state.0
    unfolding acts writes_once
    acts_so [] x = same_so x.0 x.0 refl refl refl
    acts_so (a ∷ answers) x = so_then x.0 (writes_if x.1 x.0 a).state.0 (acts writes_once (writes_if x.1 x.0 a).state answers).state.0 (once_so x.1 x.0 a) (acts_so answers (writes_if x.1 x.0 a).state)

    fault_so : (b : Bool) (s : Session ModelEnd) (says : Says) → So s (fault_unless model_ends b r m s says).0
    fault_so true s says = same_so s (record s { broken = true }) refl refl refl
    fault_so false s says = handled_now s Faults says

    flowed_so : (flow : WritingState) (s : Session ModelEnd) (says : Says) → So s (flowed model_ends r m (s, flow) says).state
    flowed_so Going s says = same_so s s refl refl refl
    flowed_so PutOff s says = same_so s s refl refl refl
    flowed_so Failing s says = fault_so (is_released model_ends s) s says

    unless_so : (b : Bool) (s : Session ModelEnd) (a : Wrote) → So s (written_unless model_ends b r m s a).state
    unfolding writes
    unless_so true s a = same_so s s refl refl refl
    unless_so false s a =
        let answers = exactly (length s.output) write.NotNow a.answers in
        let x = acts writes_once (s, Going) answers in
        so_then s x.state.0 (flowed model_ends r m x.state a.says).state (acts_so answers (s, Going)) (flowed_so x.state.1 x.state.0 a.says)

    written_timed : (s : Session ModelEnd) (a : Wrote) → So s (session_behind_writing model_ends r m s a).state
    unfolding session_behind_writing
    written_timed s a = unless_so s.broken s a

any_usual : Usual (λ g. Unit {0})
any_usual = record { sends = λ text. tt; leaves = λ sub. tt; takes = tt }

-- ---- the moment of the release

none_of : (o : Option ℕ) → is_some o ≡ false → o ≡ None
none_of None p = refl
none_of (Some at) p = absurd (true≢false p)

abbrev AllAt : ℕ → List JournalEntry → Type 0
AllAt m [] = Unit {0}
AllAt m (x ∷ xs) = (x.moment ≡ m) × AllAt m xs

plain_at : (m n : ℕ) (xs : List JournalEntry) → ArePlain m n xs → AllAt m xs
plain_at m n [] p = tt
plain_at m n (x ∷ xs) p = (p.0.moment, plain_at m n xs p.1)

-- what a closing moment comes to
closing_now : (setup m : ℕ) (b : Bool) (o : Option ℕ) (closing : Option ℕ) → closing ≡ (if b then Some (m + setup) else None) → is_some o ≡ b → (o ≡ None) ⊎ (o ≡ Some m)
    → closing ≡ closing_at setup o
closing_now setup m true o closing e f (inl g) = absurd (true≢false (sym f ∙ ap is_some g))
closing_now setup m true o closing e f (inr g) = e ∙ ap (λ z. closing_at setup z) (sym g)
closing_now setup m false o closing e f (inl g) = e ∙ ap (λ z. closing_at setup z) (sym g)
closing_now setup m false o closing e f (inr g) = absurd (true≢false (sym (ap is_some g) ∙ f))

module _ (steps : StepsAlike) (made : MadeStands) (shows : ShowsAlike) (stays : ReleaseStays) (breaks_release : BreaksRelease) (plan : Plan) (allowed : AllAllowed plan.settings) where
  abbrev rules : Rules
  rules = rules_of plan

  abbrev ToldTo : ModelEnd → List JournalEntry → Type 0
  ToldTo k xs = printings.ToldTo steps made plan allowed k xs

  abbrev Behind : Option Ended_at → List JournalEntry → Option Ended_at
  Behind e xs = printings.Behind steps made plan allowed e xs

  abbrev rel : Option Ended_at → List JournalEntry → Option ℕ
  rel e xs = released_at plan.settings (key_at plan.keys) e xs

  seen : (k : ModelEnd) (xs : List JournalEntry) → ToldTo k xs → is_some k.core.released ≡ is_gone (Behind None xs)
  seen k xs h = ap is_some (shows k h.now h.stands).1 ∙ sym (ap is_gone h.is)

  rel_first : (xs ys : List JournalEntry) (e : Option Ended_at) (at : ℕ) → rel e xs ≡ Some at → rel e (xs ++ ys) ≡ Some at
  unfolding released_at
  rel_first [] ys e at p = absurd (let q : ⊥ = cc in q)
  rel_first (x ∷ xs) ys e at p =
      let now = (happens plan.settings (key_at plan.keys) x.moment x.event e).0 in
      elim (cases_Bool (is_gone now)) [ inl q ↦ rw q (rw q at p) | inr q ↦ rw q (rel_first xs ys now at (rw q at p)) ]

  rel_second : (xs ys : List JournalEntry) (e : Option Ended_at) → rel e xs ≡ None → rel e (xs ++ ys) ≡ rel (Behind e xs) ys
  unfolding released_at printings.behind
  rel_second [] ys e p = refl
  rel_second (x ∷ xs) ys e p =
      let now = (happens plan.settings (key_at plan.keys) x.moment x.event e).0 in
      elim (cases_Bool (is_gone now)) [
        | inl q ↦ absurd (let z : Some x.moment ≡ None = rw q at p in cc)
        | inr q ↦ rw q (rel_second xs ys now (rw q at p))
      ]

  mark_some : (ys : List JournalEntry) (e : Option Ended_at) → is_gone e ≡ false → is_gone (Behind e ys) ≡ true → is_some (rel e ys) ≡ true
  unfolding released_at printings.behind
  mark_some [] e p q = absurd (true≢false (sym q ∙ p))
  mark_some (x ∷ ys) e p q =
      let now = (happens plan.settings (key_at plan.keys) x.moment x.event e).0 in
      elim (cases_Bool (is_gone now)) [ inl d ↦ rw d refl | inr d ↦ rw d (mark_some ys now d q) ]

  mark_one : (x : JournalEntry) (e : Option Ended_at) → is_some (rel e (x ∷ [])) ≡ is_gone (Behind e (x ∷ []))
  unfolding released_at printings.behind
  mark_one x e =
      let now = (happens plan.settings (key_at plan.keys) x.moment x.event e).0 in
      elim (cases_Bool (is_gone now)) [ inl d ↦ rw d refl | inr d ↦ rw d refl ]

  at_moment : (m : ℕ) (ys : List JournalEntry) (e : Option Ended_at) → AllAt m ys → (rel e ys ≡ None) ⊎ (rel e ys ≡ Some m)
  unfolding released_at
  at_moment m [] e p = inl refl
  at_moment m (x ∷ ys) e p =
      let now = (happens plan.settings (key_at plan.keys) x.moment x.event e).0 in
      elim (cases_Bool (is_gone now)) [ inl d ↦ rw d (inr (ap Some p.0)) | inr d ↦ rw d (at_moment m ys now p.1) ]

  -- ---- a session and its events so far

  record Marked (s : Session ModelEnd) (xs : List JournalEntry) : Type 0 where
    told : ToldTo s.end xs
    mark : is_some (rel None xs) ≡ is_released model_ends s

  Marks : Session ModelEnd → Session ModelEnd → List JournalEntry → List Call → Type 0
  Marks s t ys cs = (xs : List JournalEntry) → Marked s xs → Marked t (xs ++ ys)

  some_kept : (xs ys : List JournalEntry) (o : Option ℕ) → rel None xs ≡ o → is_some o ≡ true → is_some (rel None (xs ++ ys)) ≡ true
  some_kept xs ys None e p = absurd (true≢false (sym p))
  some_kept xs ys (Some at) e p = ap is_some (rel_first xs ys None at e)

  marked_more : (s t : Session ModelEnd) (xs ys : List JournalEntry) → Marked s xs → printings.Going steps made plan allowed s.end t.end ys → (is_released model_ends s ≡ true → is_released model_ends t ≡ true)
      → ((e : Option Ended_at) → is_gone e ≡ false → is_gone (Behind e ys) ≡ is_released model_ends t → is_some (rel e ys) ≡ is_released model_ends t) → Marked t (xs ++ ys)
  marked_more s t xs ys h going on step =
      let told : ToldTo t.end (xs ++ ys) = printings.more steps made plan allowed s.end t.end xs ys h.told going in
      record {
        told = told;
        mark =
            elim (cases_Bool (is_released model_ends s)) [
              | inl p ↦ some_kept xs ys (rel None xs) refl (h.mark ∙ p) ∙ sym (on p)
              | inr p ↦
                  ap is_some (rel_second xs ys None (none_of (rel None xs) (h.mark ∙ p)))
                  ∙ step (Behind None xs) (sym (seen s.end xs h.told) ∙ p)
                  (sym (ap is_gone (printings.behind-append plan.settings (key_at plan.keys) None xs ys)) ∙ sym (seen t.end (xs ++ ys) told))
            ];
      }

  marks_nothing : (s t : Session ModelEnd) → t.end ≡ s.end → Marks s t [] []
  unfolding Marks
  marks_nothing s t e xs h =
      rw (append-nil xs)
      (record { told = subst (λ k. ToldTo k xs) (sym e) h.told; mark = h.mark ∙ ap (λ (k : ModelEnd). is_some k.core.released) (sym e) })

  marks_then : (s t u : Session ModelEnd) (xs ys : List JournalEntry) (cs ds : List Call) → Marks s t xs cs → Marks t u ys ds → Marks s u (xs ++ ys) (cs ++ ds)
  unfolding Marks
  marks_then s t u xs ys cs ds p q js h = rw (← append_assoc js xs ys) (q (js ++ xs) (p js h))

  marks : Steady rules IsOfEnd Marks
  unfolding Marks printings.Goes
  marks = record {
    none = λ s. marks_nothing s s refl;
    then_ = marks_then;
    given = λ m s g p fits xs h.
        marked_more s _ xs (entry_of model_ends rules m s g ∷ []) h ((printings.q_steady steps made plan allowed).given m s g p fits).1 (λ q. stays_released stays breaks_release rules m s.end g q)
        (λ e live gone. mark_one (entry_of model_ends rules m s g) e ∙ gone);
    stalls = λ m s g p fits xs h.
        let k = end_after model_ends rules m s.end g in
        let out : is_some (end_after model_ends rules m k Stalls).core.released ≡ true = breaks_released stays breaks_release rules m k Stalls refl in
        marked_more s _ xs (entry_of model_ends rules m s g ∷ entry_of model_ends rules m (record s { end = k }) Stalls ∷ []) h ((printings.q_steady steps made plan allowed).stalls m s g p fits).1 (λ q. out)
        (λ e live gone. mark_some (entry_of model_ends rules m s g ∷ entry_of model_ends rules m (record s { end = k }) Stalls ∷ []) e live (gone ∙ out) ∙ sym out);
    heard = λ s mind. marks_nothing s (record s { mind = mind }) refl;
    parts = λ s told at gone. marks_nothing s (record s { mind = None; told = told; closing = Some at }) refl;
  }

  marks_calls : Calls rules Marks
  unfolding Marks
  marks_calls =
      usual_calls rules IsOfEnd Marks marks all_of_end (record {
        wrote = λ s n whole. marks_nothing s (record s { output = drop n s.output }) refl;
        put_off = λ s. marks_nothing s s refl;
        noted = λ s. marks_nothing s _ refl;
        failed = λ s. marks_nothing s s refl;
        breaks = λ s gone. marks_nothing s (record s { broken = true }) refl;
      }) (λ s waits reading. marks_nothing s s refl)

  abbrev Each : Session ModelEnd → Session ModelEnd → List JournalEntry → List Call → Type 0
  Each = Both (printings.Q steps made plan allowed) Marks

  each_steady : Steady rules IsOfEnd Each
  each_steady = steady_both rules IsOfEnd (printings.Q steps made plan allowed) Marks (printings.q_steady steps made plan allowed) marks

  each_calls : Calls rules Each
  each_calls = calls_both rules (printings.Q steps made plan allowed) Marks (printings.q_each steps made plan allowed) marks_calls

  -- ---- visits

  record Visited (s t : Session ModelEnd) (xs : List JournalEntry) (cs : List Call) : Type 0 where
    each : Each s t xs cs
    moment : ℕ
    plain : Plainly moment s t xs cs
    so : So rules moment s t

  module _ (m : ℕ) where
    stay : (s : Session ModelEnd) (g : GivenToSession) (says : Says) → is_released model_ends s ≡ true → is_released model_ends (handled model_ends rules m s g says).0 ≡ true
    unfolding StaysGone
    stay s g says p = steady_handled rules (λ g. Unit {0}) StaysGone (stays_gone stays breaks_release rules) any_usual m s g says tt p

    left_rests : (s h : Session ModelEnd) (a : Wrote) (xs : List JournalEntry) (ps : List Call) → Each s h xs ps → Plainly m s h xs ps → So rules m s h
        → Left Visited s (rests model_ends rules m h a).state (xs ++ (rests model_ends rules m h a).entries) (ps ++ (rests model_ends rules m h a).calls)
    unfolding rests
    left_rests s h a xs ps each plain so =
        let w = session_behind_writing model_ends rules m h a in
        rw (← append_assoc xs w.entries (session_kept_or_closed model_ends w.state).entries, ← append_assoc ps w.calls (session_kept_or_closed model_ends w.state).calls)
        (left_settled Visited s w.state (xs ++ w.entries) (ps ++ w.calls) (record {
          each = each_calls.then_ s h w.state xs w.entries ps w.calls each (written_at rules m Each (quiet_at rules Each each_calls.quiet m) h a);
          moment = m;
          plain = (plain_calls rules m).then_ s h w.state xs w.entries ps w.calls plain (written_at rules m (Plainly m) (plain_calls rules m).quiet h a);
          so = so_then rules m s h w.state so (written_timed rules m stay h a);
        }))

    nothing : (s : Session ModelEnd) → Visited s s [] []
    nothing s = record { each = each_steady.none s; moment = m; plain = (plainly rules m).none s; so = same_so rules m s s refl refl refl }

    left_ticked : (s : Session ModelEnd) (a : Met) → Left Visited s (served model_ends rules m s Ticks a).state (served model_ends rules m s Ticks a).entries (served model_ends rules m s Ticks a).calls
    unfolding served
    left_ticked s a =
        let says = first_answer_of nothing_said a.says in
        let h = handled model_ends rules m s Ticks says in
        left_rests s h.0 a.wrote h.1 [] (steady_handled rules IsOfEnd Each each_steady all_of_end.usual m s Ticks says tt)
        (handled_at rules m IsOfEnd (Plainly m) (plainly rules m) all_of_end.usual s Ticks says tt) (handled_now rules m stay s Ticks says)

    left_behind : (reading : Reading) (s : Session ModelEnd) (waits : ℕ) (says : List Says) (a : Wrote)
        → Each s (came model_ends reading rules m s says).0 (came model_ends reading rules m s says).1 (Reads s.number most_read waits reading ∷ [])
        → Plainly m s (came model_ends reading rules m s says).0 (came model_ends reading rules m s says).1 (Reads s.number most_read waits reading ∷ [])
        → Left Visited s (rests_behind model_ends reading rules m (came model_ends reading rules m s says).0 a).state ((came model_ends reading rules m s says).1 ++ (rests_behind model_ends reading rules m (came model_ends reading rules m s says).0 a).entries)
        (Reads s.number most_read waits reading ∷ (rests_behind model_ends reading rules m (came model_ends reading rules m s says).0 a).calls)
    left_behind (Gave octets) s waits says a each plain =
        left_rests s (came model_ends (Gave octets) rules m s says).0 a (came model_ends (Gave octets) rules m s says).1 (Reads s.number most_read waits (Gave octets) ∷ []) each plain (came_so rules m stay s (Gave octets) says)
    left_behind NotNow s waits says a each plain = Stays s refl (record { each = each; moment = m; plain = plain; so = same_so rules m s s refl refl refl })
    left_behind End s waits says a each plain =
        left_rests s (came model_ends End rules m s says).0 a (came model_ends End rules m s says).1 (Reads s.number most_read waits End ∷ []) each plain (came_so rules m stay s End says)
    left_behind Failed s waits says a each plain =
        left_rests s (came model_ends Failed rules m s says).0 a (came model_ends Failed rules m s says).1 (Reads s.number most_read waits Failed ∷ []) each plain (came_so rules m stay s Failed says)

    -- what is left of a session whose connection was noted as made
    noted_first : (s : Session ModelEnd) {t : Session ModelEnd} {xs : List JournalEntry} {cs : List Call} → Visited (sessions.made s) t xs cs → Visited s t xs cs
    noted_first s {t} {xs} {cs} p = record {
      each = each_calls.then_ s (sessions.made s) t [] xs [] cs (each_calls.noted s) p.each;
      moment = p.moment;
      plain = (plain_calls rules p.moment).then_ s (sessions.made s) t [] xs [] cs ((plain_calls rules p.moment).noted s) p.plain;
      so = so_then rules p.moment s (sessions.made s) t (same_so rules p.moment s (sessions.made s) refl refl refl) p.so;
    }

    from_made : (s : Session ModelEnd) {ts : List (Session ModelEnd)} {xs : List JournalEntry} {cs : List Call} → Left Visited (sessions.made s) ts xs cs → Left Visited s ts xs cs
    from_made s (Stays t e p) = Stays t e (noted_first s p)
    from_made s (Closed t ds over e f p) = Closed t ds over e f (noted_first s p)

    left_at_rest : (s : Session ModelEnd) (a : Wrote) → Left Visited s (rests model_ends rules m s a).state (rests model_ends rules m s a).entries (rests model_ends rules m s a).calls
    left_at_rest s a = left_rests s s a [] [] (each_steady.none s) ((plainly rules m).none s) (same_so rules m s s refl refl refl)

    left_at : (visit : Visit) (s : Session ModelEnd) (a : Met) → Left Visited s (visited model_ends rules m visit s a).state (visited model_ends rules m visit s a).entries (visited model_ends rules m visit s a).calls
    unfolding visited read_once
    left_at Tick s a =
        elim (cases_Bool (is_due m (model_ends.deadline s.end))) [ inl p ↦ rw p (left_ticked s a) | inr p ↦ rw p (Stays s refl (nothing s)) ]
    left_at Read s a =
        elim (cases_Bool (is_released model_ends s)) [
          | inl p ↦ rw p (Stays s refl (nothing s))
          | inr p ↦
              rw p (from_made s (left_behind a.reading (sessions.made s) a.waits a.says a.wrote (each_calls.read m (sessions.made s) a p) ((plain_calls rules m).read (sessions.made s) a p)))
        ]
    left_at Write s a = from_made s (left_at_rest (sessions.made s) a.wrote)
    left_at Expire s a =
        elim (cases_Bool (is_due m s.closing)) [
          | inl p ↦ rw p (Closed s [] (over_due m s.closing (s.broken || is_released model_ends s) p) refl refl (nothing s))
          | inr p ↦ rw p (Stays s refl (nothing s))
        ]

  all_left : AllLeft rules Visited
  all_left = record { at_visit = λ visit m s a. left_at m visit s a; at_rest = λ m s a. left_at_rest m s a }

  -- ---- all connections

  own : (s t : Session ModelEnd) (xs : List JournalEntry) (cs : List Call) → Visited s t xs cs → Own s t xs cs
  own s t xs cs v = v.each.0.0

  record Known_so (s : Session ModelEnd) (xs : List JournalEntry) (cs : List Call) : Type 0 where
    marked : Marked s xs
    timed : Timed s
    closing : s.closing ≡ closing_at plan.settings.setup (rel None xs)

  abbrev Gone : List JournalEntry → List Call → Type 0
  Gone xs cs = Unit {0}

  gone_more : (s t : Session ModelEnd) (xs ys : List JournalEntry) (o : Option ℕ) → rel None xs ≡ o → is_some o ≡ true → t.closing ≡ closing_at plan.settings.setup (rel None xs)
      → t.closing ≡ closing_at plan.settings.setup (rel None (xs ++ ys))
  gone_more s t xs ys None e p c = absurd (true≢false (sym p))
  gone_more s t xs ys (Some at) e p c = c ∙ ap (λ z. closing_at plan.settings.setup z) (e ∙ sym (rel_first xs ys None at e))

  more : (s t : Session ModelEnd) (xs ys : List JournalEntry) (cs ds : List Call) → Known_so s xs cs → Visited s t ys ds → Known_so t (xs ++ ys) (cs ++ ds)
  unfolding Marks Plainly
  more s t xs ys cs ds h v =
      let marked = v.each.1 xs h.marked in
      let time = v.so h.timed in
      record {
        marked = marked;
        timed = time.timed;
        closing =
            elim (cases_Bool (is_released model_ends s)) [
              | inl p ↦ gone_more s t xs ys (rel None xs) refl (h.marked.mark ∙ p) (time.gone p ∙ h.closing)
              | inr p ↦
                  let second = rel_second xs ys None (none_of (rel None xs) (h.marked.mark ∙ p)) in
                  closing_now plan.settings.setup v.moment (is_released model_ends t) (rel None (xs ++ ys)) t.closing (time.live p) marked.mark
                  (subst (λ z. (z ≡ None) ⊎ (z ≡ Some v.moment)) (sym second) (at_moment v.moment ys (Behind None xs) (plain_at v.moment s.number ys v.plain.1)))
            ];
      }

  new_timed : (s : Session ModelEnd) → is_released model_ends s ≡ false → s.closing ≡ None → is_some s.mind ≡ true → Timed s
  new_timed s p c f = record { live = λ q. (c, f); gone = λ q. absurd (true≢false (sym q ∙ p)) }

  opened_live : (l : Loop ModelEnd) (conn : ℕ) (mind : Mind) → is_released model_ends (begun conn (answering model_ends plan l) mind) ≡ false
  opened_live l conn mind = refl

  called_live : (caller : Caller) (l : Loop ModelEnd) (conn : ℕ) (mind : Mind) → is_released model_ends (begun_dial conn (calling model_ends plan caller l) mind) ≡ false
  called_live caller l conn mind = refl

  keeps : Keeps plan Visited Known_so Gone
  keeps = record {
    visit = λ s t xs ys cs ds h v. more s t xs ys cs ds h v;
    close = λ s t xs ys cs ds over h v. tt;
    open_ = λ l conn mind.
        let s = begun conn (answering model_ends plan l) mind in
        let told = (printings.keeps steps made plan allowed).open_ l conn mind in
        let mark = mark_one _ None ∙ sym (seen s.end _ told) in
        record {
          marked = record { told = told; mark = mark };
          timed = new_timed s (opened_live l conn mind) refl refl;
          closing = ap (λ z. closing_at plan.settings.setup z) (sym (none_of _ (mark ∙ opened_live l conn mind)));
        };
    never = tt;
    full = λ m conn live most. tt;
    unserved = λ m conn handed. tt;
  }

  in_time : (o : Out (Course ModelEnd)) → Knows plan Visited all_left own Known_so Gone keeps o.entries o.calls o.state.loop.sessions → ClosesInTime plan o
  unfolding Fits
  in_time o k conn s is =
      let f : (s.number ≡ conn) × Known_so s (of conn o.entries) (calls_at conn o.calls) = rw is at (k.fits conn) in f.1.closing

  -- ---- the session that a dial opens

  -- one event, or the session stalled
  Either : ModelEnd → List JournalEntry → Type 0
  Either k xs = ((x : JournalEntry) × (xs ≡ x ∷ [])) ⊎ (is_some k.core.released ≡ true)

  fed_either : (m : ℕ) (s : Session ModelEnd) (g : GivenToSession) → Either (fed model_ends rules m s g).0.end (fed model_ends rules m s g).1
  unfolding Either fed joined
  fed_either m s g =
      elim (cases_Bool (nat_lt most_output (length s.output + length (octets_in (outcomes_of_given_event model_ends rules m s.end g))))) [
        | inl p ↦ rw p (inr (breaks_released stays breaks_release rules m (end_after model_ends rules m s.end g) Stalls refl))
        | inr p ↦ rw p (inl (entry_of model_ends rules m s g, refl))
      ]

  mark_of : (k : ModelEnd) (xs : List JournalEntry) → ToldTo k xs → Either k xs → is_some (rel None xs) ≡ is_some k.core.released
  unfolding Either
  mark_of k xs told (inl (x, e)) =
      ap (λ z. is_some (rel None z)) e ∙ mark_one x None ∙ ap (λ z. is_gone (Behind None z)) (sym e) ∙ sym (seen k xs told)
  mark_of k xs told (inr out) = mark_some xs None refl (sym (seen k xs told) ∙ out) ∙ sym out

  first : (caller : Caller) (at : ℕ) → key_at plan.keys at caller.engine plan.rbc ≡ Some caller.kmac
      → (l : Loop ModelEnd) (conn : ℕ) (mind : Mind) (says : Says) → l.moment ≡ at
      → Known_so (handled model_ends rules l.moment (begun_dial conn (calling model_ends plan caller l) mind) (Begins caller.engine plan.rbc (next_u64 l.words).0) says).0
      (handled model_ends rules l.moment (begun_dial conn (calling model_ends plan caller l) mind) (Begins caller.engine plan.rbc (next_u64 l.words).0) says).1 []
  unfolding Marks
  first caller at key l conn mind says now =
      let m = l.moment in
      let s = begun_dial conn (calling model_ends plan caller l) mind in
      let g = Begins caller.engine plan.rbc (next_u64 l.words).0 in
      let h = handled model_ends rules m s g says in
      let told = printings.first_told steps made plan allowed caller at key l conn mind now in
      let f = follows_handled rules IsOfEnd Marks marks all_of_end.usual m s g says in
      let marked : Marked h.0 h.1 =
      subst (λ z. Marked h.0 z) (sym f.is)
      (f.holds (fed model_ends rules m s g).1 (record { told = told; mark = mark_of (fed model_ends rules m s g).0.end (fed model_ends rules m s g).1 told (fed_either m s g) })) in
      let time = handled_now rules m (stay m) s g says (new_timed s (called_live caller l conn mind) refl refl) in
      let c = (handled_so plan caller l conn mind says).calls in
      let all : AllAt m h.1 = subst (λ z. AllAt m z) (sym c.is) (refl, plain_at m conn c.rest c.plain) in
      record {
        marked = marked;
        timed = time.timed;
        closing =
            closing_now plan.settings.setup m (is_released model_ends h.0) (rel None h.1) h.0.closing (time.live (called_live caller l conn mind)) marked.mark (at_moment m h.1 None all);
      }

  knows_serving : (c : Course ModelEnd) (turns : List Turn) → IsServing plan c turns
      → Knows plan Visited all_left own Known_so Gone keeps (run model_ends plan c turns).entries (run model_ends plan c turns).calls (run model_ends plan c turns).state.loop.sessions
  knows_serving c turns h = knows_run plan Visited all_left own Known_so Gone keeps c turns h.none h.rises

  knows_dialling : (caller : Caller) (c : Course ModelEnd) (address : List ℕ) (a : Dialled) → IsDialling plan caller c address a
      → Knows plan Visited all_left own Known_so Gone keeps (dials model_ends plan caller c address a).entries (dials model_ends plan caller c address a).calls (dials model_ends plan caller c address a).state.loop.sessions
  knows_dialling caller c address a h =
      knows_dial_of plan caller Visited all_left own Known_so Gone keeps (max c.loop.moment a.first) (first caller (max c.loop.moment a.first) h.key) c address a h.none refl h.rises

pub closings_are_in_time : StepsAlike → MadeStands → ShowsAlike → ReleaseStays → BreaksRelease → ClosingsAreInTime
closings_are_in_time steps made shows stays breaks_release = record {
  serving = λ plan c turns h.
      in_time steps made shows stays breaks_release plan h.allowed (run model_ends plan c turns) (knows_serving steps made shows stays breaks_release plan h.allowed c turns h);
  dialling = λ plan caller c address a h.
      in_time steps made shows stays breaks_release plan h.allowed (dials model_ends plan caller c address a)
      (knows_dialling steps made shows stays breaks_release plan h.allowed caller c address a h);
}
