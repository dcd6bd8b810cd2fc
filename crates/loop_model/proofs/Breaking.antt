-- Nothing is written to a session that broke off.
use Rattle.loop_model.specs.Ends.{ModelEnd, model_ends}
use Rattle.std.proofs.Common.{◌≡◌, ℕ, inl, inr, Bool, true, false, ◌||◌, List, [], ◌∷◌, ◌++◌, length, drop, refl, sym, ◌∙◌, ap, subst, append-nil, true≢false}
use Rattle.std.specs.Prelude.{◌==◌}
use Rattle.std.proofs.lemmas.Bool.{cases_Bool}
use Rattle.loop_model.proofs.EndKeepings.{ReleaseStays, BreaksRelease}
use Rattle.er_trace.specs.declared.event.Event.{Event}
use Rattle.er_trace.specs.declared.event.Event.TheVariants.{Call, Answer, Octets, Send, Take, Release, Tick as Ticked, Ended, Fault, Stalled, Full, Unserved}
use Rattle.link_trait.specs.Wires as wires
use Rattle.link_trait.specs.Wires.{Reading, Gave, NotNow, End, Failed, Reads, Writes}
use Rattle.link_trait.specs.declared.wires.WriteAnswer.{WriteAnswer}
use Rattle.link_trait.specs.declared.wires.WriteAnswer.TheVariants as write
use Rattle.loop_model.specs.Journals.{JournalEntry}
use Rattle.loop_model.specs.Outs.{acts, exactly, first_answer_of}
use Rattle.loop_model.specs.Sessions.{Rules, Session, Ticks, is_released, Says, nothing_said, handled, owes_nothing, made}
use Rattle.loop_model.specs.Visits.{most_read, WritingState, Going, PutOff, Failing, after_write, writes_once, writes, Wrote, flowed, written_unless, session_behind_writing, session_kept_or_closed, rests, rests_behind, Visit, Tick, Read, Write, Expire, Met, is_due, came, read_once, served, visited}
use Rattle.loop_model.specs.Points.{is_stalled}
use Rattle.loop_model.specs.Turnings.{is_ended}
use Rattle.loop_model.specs.Stalls.{IsBounded}
use Rattle.loop_model.specs.Faulted.{has_failed}
use Rattle.loop_model.specs.Writings.{is_break, has_broken, has_stopped, WriteNone, EndAtFailure, BrokenAreLeft}
use Rattle.loop_model.proofs.Steadies.{steady_handled}
use Rattle.loop_model.proofs.Givings as givings
use Rattle.loop_model.proofs.Stalling.{Bounds, bounds, calm_two, came_told, rests_quietly}
use Rattle.loop_model.proofs.Writing.{Off, off_steady, off_read, handled_broken}

-- ---- calls

none-append : (cs ds : List wires.Call) → WriteNone cs → WriteNone ds → WriteNone (cs ++ ds)
none-append [] ds p q = q
none-append (call ∷ cs) ds p q = (p.0, none-append cs ds p.1 q)

none_ends : (cs : List wires.Call) → WriteNone cs → EndAtFailure cs
none_ends [] p = tt
none_ends (call ∷ cs) p = (λ e. p.1, none_ends cs p.1)

ends-append : (cs ds : List wires.Call) → EndAtFailure cs → WriteNone ds → EndAtFailure (cs ++ ds)
ends-append [] ds p q = none_ends ds q
ends-append (call ∷ cs) ds p q = (λ e. none-append cs ds (p.0 e) q, ends-append cs ds p.1 q)

settled_none : (s : Session ModelEnd) → WriteNone (session_kept_or_closed model_ends s).calls
unfolding session_kept_or_closed
settled_none s = elim (cases_Bool (s.broken || owes_nothing model_ends s)) [ inl p ↦ rw p (tt, tt) | inr p ↦ rw p tt ]

-- ---- writing

put_off : (answers : List WriteAnswer) (s : Session ModelEnd) → (acts writes_once (s, PutOff) answers).calls ≡ []
unfolding acts writes_once
put_off [] s = refl
put_off (a ∷ answers) s = put_off answers s

failing : (answers : List WriteAnswer) (s : Session ModelEnd) → (acts writes_once (s, Failing) answers).calls ≡ []
unfolding acts writes_once
failing [] s = refl
failing (a ∷ answers) s = failing answers s

answer_ends : (s : Session ModelEnd) (a : WriteAnswer) (answers : List WriteAnswer) → ((t : Session ModelEnd) → EndAtFailure (acts writes_once (t, Going) answers).calls)
    → EndAtFailure (Writes s.number s.output a ∷ (acts writes_once (after_write a s) answers).calls)
answer_ends s (write.Some n) answers rest = (λ e. absurd (true≢false (sym e)), rest (record s { output = drop n s.output }))
answer_ends s write.NotNow answers rest = subst (λ z. EndAtFailure (Writes s.number s.output write.NotNow ∷ z)) (sym (put_off answers s)) (λ e. tt, tt)
answer_ends s write.Failed answers rest = subst (λ z. EndAtFailure (Writes s.number s.output write.Failed ∷ z)) (sym (failing answers s)) (λ e. tt, tt)

going_ends : (answers : List WriteAnswer) (s : Session ModelEnd) → EndAtFailure (acts writes_once (s, Going) answers).calls
unfolding acts writes_once
going_ends [] s = tt
going_ends (a ∷ answers) s =
    elim (cases_Bool (length s.output == 0)) [
      | inl p ↦ rw p (going_ends answers s)
      | inr p ↦ rw p (answer_ends s a answers (λ t. going_ends answers t))
    ]

module _ (r : Rules) (m : ℕ) where
  flowed_none : (flow : WritingState) (s : Session ModelEnd) (says : Says) → (flowed model_ends r m (s, flow) says).calls ≡ []
  flowed_none Going s says = refl
  flowed_none PutOff s says = refl
  flowed_none Failing s says = refl

  unless_ends : (b : Bool) (s : Session ModelEnd) (a : Wrote) → EndAtFailure (written_unless model_ends b r m s a).calls
  unfolding writes
  unless_ends true s a = tt
  unless_ends false s a =
      let x = acts writes_once (s, Going) (exactly (length s.output) write.NotNow a.answers) in
      subst (λ z. EndAtFailure (x.calls ++ z)) (sym (flowed_none x.state.1 x.state.0 a.says))
      (subst EndAtFailure (sym (append-nil x.calls)) (going_ends (exactly (length s.output) write.NotNow a.answers) s))

  rests_ends : (s : Session ModelEnd) (a : Wrote) → EndAtFailure (rests model_ends r m s a).calls
  unfolding rests session_behind_writing
  rests_ends s a = let w = written_unless model_ends s.broken r m s a in ends-append w.calls (session_kept_or_closed model_ends w.state).calls (unless_ends s.broken s a) (settled_none w.state)

  unless_silent : (b : Bool) (s : Session ModelEnd) (a : Wrote) → b ≡ true → WriteNone (written_unless model_ends b r m s a).calls
  unless_silent true s a p = tt
  unless_silent false s a p = absurd (true≢false (sym p))

  -- to a session that broke off nothing is written
  rests_silent : (s : Session ModelEnd) (a : Wrote) → s.broken ≡ true → WriteNone (rests model_ends r m s a).calls
  unfolding rests session_behind_writing
  rests_silent s a p =
      let w = written_unless model_ends s.broken r m s a in none-append w.calls (session_kept_or_closed model_ends w.state).calls (unless_silent s.broken s a p) (settled_none w.state)

  behind_ends : (waits : ℕ) (reading : Reading) (s : Session ModelEnd) (says : List Says) (a : Wrote)
      → EndAtFailure (Reads s.number most_read waits reading ∷ (rests_behind model_ends reading r m (came model_ends reading r m s says).0 a).calls)
  behind_ends waits (Gave octets) s says a = (λ e. absurd (true≢false (sym e)), rests_ends (came model_ends (Gave octets) r m s says).0 a)
  behind_ends waits NotNow s says a = (λ e. tt, tt)
  behind_ends waits End s says a = (λ e. absurd (true≢false (sym e)), rests_ends (came model_ends End r m s says).0 a)
  behind_ends waits Failed s says a =
      let h = handled_broken r m s (first_answer_of nothing_said says) in
      (λ e. rests_silent (came model_ends Failed r m s says).0 a h, rests_ends (came model_ends Failed r m s says).0 a)

  visit_ends : (visit : Visit) (s : Session ModelEnd) (a : Met) → EndAtFailure (visited model_ends r m visit s a).calls
  unfolding visited served read_once
  visit_ends Tick s a =
      elim (cases_Bool (is_due m (model_ends.deadline s.end))) [ inl p ↦ rw p (rests_ends (handled model_ends r m s Ticks (first_answer_of nothing_said a.says)).0 a.wrote) | inr p ↦ rw p tt ]
  visit_ends Read s a = elim (cases_Bool (is_released model_ends s)) [ inl p ↦ rw p tt | inr p ↦ rw p (behind_ends a.waits a.reading (made s) a.says a.wrote) ]
  visit_ends Write s a = rests_ends (made s) a.wrote
  visit_ends Expire s a = elim (cases_Bool (is_due m s.closing)) [ inl p ↦ rw p (λ e. tt, tt) | inr p ↦ rw p tt ]

-- ---- events

stops_so : (e : Event) → is_break e ≡ false → (is_ended e || is_stalled e) ≡ false
stops_so (Call engine rbc rb) p = refl
stops_so (Answer rbc ra) p = refl
stops_so (Octets octets) p = refl
stops_so (Send text) p = refl
stops_so Take p = refl
stops_so (Release sub) p = refl
stops_so Ticked p = refl
stops_so Ended p = absurd (true≢false p)
stops_so Fault p = absurd (true≢false p)
stops_so Stalled p = absurd (true≢false p)
stops_so (Full count) p = refl
stops_so (Unserved count) p = refl

neither : (a b : Bool) → (a || b) ≡ false → (a ≡ false) × (b ≡ false)
neither true b p = absurd (true≢false p)
neither false b p = (refl, p)

calm_of : (xs : List JournalEntry) → has_broken xs ≡ false → has_stopped xs ≡ false
unfolding has_broken has_stopped
calm_of [] p = refl
calm_of (x ∷ xs) p =
    let n = neither (is_break x.event) (has_broken xs) p in
    ap (λ z. z || has_stopped xs) (stops_so x.event n.0) ∙ calm_of xs n.1

module _ (stays : ReleaseStays) (breaks_release : BreaksRelease) (r : Rules) (m : ℕ) where
  -- events, and what is written behind them
  stopped_rests : (s h : Session ModelEnd) (a : Wrote) (xs : List JournalEntry) (ps : List wires.Call) → Off s h xs ps → WriteNone ps → IsBounded h
      → has_stopped (xs ++ (rests model_ends r m h a).entries) ≡ true → WriteNone (ps ++ (rests model_ends r m h a).calls)
  unfolding Off
  stopped_rests s h a xs ps off none b stopped =
      elim (cases_Bool h.broken) [
        | inl p ↦ none-append ps (rests model_ends r m h a).calls none (rests_silent r m h a p)
        | inr p ↦
            let whole : has_broken xs ≡ false = (neither (has_broken xs) (has_failed ps) (neither s.broken (has_broken xs || has_failed ps) (sym off ∙ p)).1).0 in
            absurd (true≢false (sym stopped ∙ calm_two xs (rests model_ends r m h a).entries (calm_of xs whole) (rests_quietly stays breaks_release r m h a b).calm))
      ]

  nothing_off : (s : Session ModelEnd) → Off s s [] []
  nothing_off s = (off_steady r).none s

  stopped_ticked : (s : Session ModelEnd) (a : Met) → IsBounded s → has_stopped (served model_ends r m s Ticks a).entries ≡ true → WriteNone (served model_ends r m s Ticks a).calls
  unfolding served Bounds
  stopped_ticked s a b stopped =
      let says = first_answer_of nothing_said a.says in
      let h = handled model_ends r m s Ticks says in
      stopped_rests s h.0 a.wrote h.1 [] (steady_handled r (λ g. Unit {0}) Off (off_steady r) givings.all_given.usual m s Ticks says tt) tt
      (steady_handled r (λ g. Unit {0}) Bounds (bounds r) givings.all_given.usual m s Ticks says tt b) stopped

  stopped_behind : (waits : ℕ) (reading : Reading) (s : Session ModelEnd) (says : List Says) (a : Wrote) → IsBounded s
      → has_stopped ((came model_ends reading r m s says).1 ++ (rests_behind model_ends reading r m (came model_ends reading r m s says).0 a).entries) ≡ true
      → WriteNone (Reads s.number most_read waits reading ∷ (rests_behind model_ends reading r m (came model_ends reading r m s says).0 a).calls)
  stopped_behind waits (Gave octets) s says a b stopped =
      stopped_rests s (came model_ends (Gave octets) r m s says).0 a (came model_ends (Gave octets) r m s says).1 (Reads s.number most_read waits (Gave octets) ∷ []) (off_read r m s waits (Gave octets) says) (tt, tt)
      (came_told stays breaks_release r m (Gave octets) s says b).bounded stopped
  stopped_behind waits NotNow s says a b stopped = (tt, tt)
  stopped_behind waits End s says a b stopped =
      stopped_rests s (came model_ends End r m s says).0 a (came model_ends End r m s says).1 (Reads s.number most_read waits End ∷ []) (off_read r m s waits End says) (tt, tt)
      (came_told stays breaks_release r m End s says b).bounded stopped
  stopped_behind waits Failed s says a b stopped =
      stopped_rests s (came model_ends Failed r m s says).0 a (came model_ends Failed r m s says).1 (Reads s.number most_read waits Failed ∷ []) (off_read r m s waits Failed says) (tt, tt)
      (came_told stays breaks_release r m Failed s says b).bounded stopped

  visit_stopped : (visit : Visit) (s : Session ModelEnd) (a : Met) → IsBounded s → has_stopped (visited model_ends r m visit s a).entries ≡ true → WriteNone (visited model_ends r m visit s a).calls
  unfolding visited read_once
  visit_stopped Tick s a b stopped =
      elim (cases_Bool (is_due m (model_ends.deadline s.end))) [ inl p ↦ rw p (stopped_ticked s a b (rw p at stopped)) | inr p ↦ rw p tt ]
  visit_stopped Read s a b stopped =
      elim (cases_Bool (is_released model_ends s)) [ inl p ↦ rw p tt | inr p ↦ rw p (stopped_behind a.waits a.reading (made s) a.says a.wrote b (rw p at stopped)) ]
  visit_stopped Write s a b stopped = stopped_rests (made s) (made s) a.wrote [] [] (nothing_off (made s)) tt b stopped
  visit_stopped Expire s a b stopped = elim (cases_Bool (is_due m s.closing)) [ inl p ↦ rw p (tt, tt) | inr p ↦ rw p tt ]

pub broken_are_left : ReleaseStays → BreaksRelease → BrokenAreLeft
broken_are_left stays breaks_release = record {
  stopped = λ r m visit s a b stopped. visit_stopped stays breaks_release r m visit s a b stopped;
  failed = λ r m visit s a. visit_ends r m visit s a;
}
