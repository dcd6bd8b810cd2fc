-- What a visit writes, and why it closes its connection; and the end of a live connection.
use Rattle.loop_model.specs.Ends.{ModelEnd, model_ends}
use Rattle.std.proofs.Common.{◌≡◌, ℕ, suc, ◌⊎◌, inl, inr, Bool, true, false, ◌&&◌, ◌||◌, List, [], ◌∷◌, ◌++◌, length, Option, Some, None, refl, sym, ◌∙◌, ap, subst, append-nil, append_assoc, true≢false, eqb-true, eq-eqb, ne_eqb, arith}
use Rattle.std.specs.Prelude.{◌==◌, if◌then◌else◌, is_some}
use Rattle.std.proofs.lemmas.Bool.{cases_Bool}
use Rattle.er_settings.specs.Ranges.{AllAllowed}
use Rattle.safety_automaton.specs.Keys.{key_at}
use Rattle.link_trait.specs.Wires.{Call, Reading, Gave, NotNow, End, Failed, Reads, Closes, given_of}
use Rattle.link_trait.specs.declared.wires.WriteAnswer.{WriteAnswer}
use Rattle.link_trait.specs.declared.wires.WriteAnswer.TheVariants as write
use Rattle.loop_model.specs.Journals.{JournalEntry, trace_lines_of}
use Rattle.loop_model.specs.Outs.{Out, next, acts, exactly, first_answer_of}
use Rattle.loop_model.specs.Sessions.{Rules, Session, Ticks, is_released, nothing_said, handled, owes_nothing, made}
use Rattle.loop_model.specs.Outs as outs
use Rattle.loop_model.specs.Visits.{most_read, Going, after_write, writes_once, writes, flowed, Wrote, written_unless, session_behind_writing, closed, stays, session_kept_or_closed, rests, Visit, Tick, Read, Write, Expire, Met, is_due, came, read_once, rests_behind, served, visited}
use Rattle.loop_model.specs.Loops.{Plan, rules_of}
use Rattle.loop_model.specs.Parts.{of, calls_at}
use Rattle.loop_model.specs.Laws.{octets_of_entries}
use Rattle.trace_model.specs.Connections.{end_behind}
use Rattle.loop_model.specs.Faulted.{is_gone, has_failed}
use Rattle.loop_model.specs.Writings.{AllTakeOne, last_answer, has_broken}
use Rattle.loop_model.specs.Settling.{FirstIsWrite, WritableIsWritten, IsPutOff, VisitsWrite, is_expiry, WhyClosed, Broke, Drained, Unmade, as_told, ClosesHaveReasons}
use Rattle.loop_model.proofs.EndKeepings.{StepsAlike, MadeStands}
use Rattle.loop_model.proofs.Steadies.{Steady, CallsAt, Calls, calls_now, written_at}
use Rattle.loop_model.proofs.Owns.{Both, Bare, calls_both, usual_calls}
use Rattle.loop_model.proofs.Lives.{same}
use Rattle.loop_model.proofs.Givings.{given_in, given_at}
use Rattle.loop_model.proofs.Givings as givings
use Rattle.loop_model.proofs.Faulting.{closed_failed}
use Rattle.loop_model.proofs.Projections.{calls_at-append}
use Rattle.loop_model.proofs.Writing as writing
use Rattle.loop_model.proofs.Printings as printings

-- what a visit that closes nothing at a closing moment leaves: a session stays, or it is closed, since it broke off, or is released and owes nothing
data Settled (Q : Session ModelEnd → Session ModelEnd → List JournalEntry → List Call → Type 0) (s : Session ModelEnd) (ts : List (Session ModelEnd)) (xs : List JournalEntry) (cs : List Call) : Type 0 where
  Stays : (t : Session ModelEnd) → ts ≡ t ∷ [] → Settled Q s ts xs cs
  Closed : (t : Session ModelEnd) (ds : List Call) → (t.broken || owes_nothing model_ends t) ≡ true → cs ≡ ds ++ Closes t.number ∷ []
      → Q s t xs ds → Settled Q s ts xs cs

module _ (r : Rules) (m : ℕ) (Q : Session ModelEnd → Session ModelEnd → List JournalEntry → List Call → Type 0) (c : CallsAt r m Q) where
  settled_so : (s t : Session ModelEnd) (xs : List JournalEntry) (cs : List Call) → Q s t xs cs
      → Settled Q s (session_kept_or_closed model_ends t).state (xs ++ (session_kept_or_closed model_ends t).entries) (cs ++ (session_kept_or_closed model_ends t).calls)
  unfolding session_kept_or_closed
  settled_so s t xs cs p =
      elim (cases_Bool (t.broken || owes_nothing model_ends t)) [
        | inl q ↦ rw (q, append-nil xs) (Closed t cs q refl p)
        | inr q ↦ rw q (Stays t refl)
      ]

  rests_so : (s t : Session ModelEnd) (a : Wrote) (xs : List JournalEntry) (cs : List Call) → Q s t xs cs
      → Settled Q s (rests model_ends r m t a).state (xs ++ (rests model_ends r m t a).entries) (cs ++ (rests model_ends r m t a).calls)
  unfolding rests
  rests_so s t a xs cs p =
      let w = session_behind_writing model_ends r m t a in
      rw (← append_assoc xs w.entries (session_kept_or_closed model_ends w.state).entries, ← append_assoc cs w.calls (session_kept_or_closed model_ends w.state).calls)
      (settled_so s w.state (xs ++ w.entries) (cs ++ w.calls) (c.then_ _ _ _ _ _ _ _ p (written_at r m Q c.quiet t a)))

  behind_so : (reading : Reading) (s t : Session ModelEnd) (a : Wrote) (xs : List JournalEntry) (cs : List Call) → Q s t xs cs
      → Settled Q s (rests_behind model_ends reading r m t a).state (xs ++ (rests_behind model_ends reading r m t a).entries) (cs ++ (rests_behind model_ends reading r m t a).calls)
  behind_so (Gave octets) s t a xs cs p = rests_so s t a xs cs p
  behind_so NotNow s t a xs cs p = Stays t refl
  behind_so End s t a xs cs p = rests_so s t a xs cs p
  behind_so Failed s t a xs cs p = rests_so s t a xs cs p

  served_so : (s : Session ModelEnd) (a : Met) → is_due m (model_ends.deadline s.end) ≡ true
      → Settled Q s (served model_ends r m s Ticks a).state (served model_ends r m s Ticks a).entries (served model_ends r m s Ticks a).calls
  unfolding served
  served_so s a due =
      let says = first_answer_of nothing_said a.says in
      let h = handled model_ends r m s Ticks says in rests_so s h.0 a.wrote h.1 [] (c.ticked s says due)

  read_so : (s : Session ModelEnd) (a : Met) → is_released model_ends s ≡ false
      → Settled Q s (next (read_once model_ends r m s a) (λ t. rests_behind model_ends a.reading r m t a.wrote)).state
      (next (read_once model_ends r m s a) (λ t. rests_behind model_ends a.reading r m t a.wrote)).entries
      (next (read_once model_ends r m s a) (λ t. rests_behind model_ends a.reading r m t a.wrote)).calls
  unfolding read_once
  read_so s a live =
      let b = came model_ends a.reading r m s a.says in
      behind_so a.reading s b.0 a.wrote b.1 (Reads s.number most_read a.waits a.reading ∷ []) (c.read s a live)

  visit_so : (visit : Visit) (s : Session ModelEnd) (a : Met) → is_expiry visit ≡ false
      → Settled Q (as_told visit s) (visited model_ends r m visit s a).state (visited model_ends r m visit s a).entries (visited model_ends r m visit s a).calls
  unfolding visited
  visit_so Tick s a p =
      elim (cases_Bool (is_due m (model_ends.deadline s.end))) [ inl q ↦ rw q (served_so s a q) | inr q ↦ rw q (Stays s refl) ]
  visit_so Read s a p = elim (cases_Bool (is_released model_ends s)) [ inl q ↦ rw q (Stays s refl) | inr q ↦ rw q (read_so (made s) a q) ]
  visit_so Write s a p = rests_so (made s) (made s) a.wrote [] [] (c.none (made s))
  visit_so Expire s a p = absurd (true≢false p)

-- ---- why

or_true : (a b : Bool) → (a || b) ≡ true → (a ≡ false) → b ≡ true
or_true true b p q = absurd (true≢false q)
or_true false b p q = p

and_both : (a b : Bool) → (a && b) ≡ true → (a ≡ true) × (b ≡ true)
and_both true b p = (refl, p)
and_both false b p = absurd (true≢false (sym p))

or_none : (a b : Bool) → (a || b) ≡ false → a ≡ false
or_none true b p = p
or_none false b p = refl

or_false : (a b : Bool) → (a || b) ≡ true → b ≡ false → a ≡ true
or_false true b p q = refl
or_false false b p q = absurd (true≢false (sym p ∙ q))

told_whole : (visit : Visit) (s : Session ModelEnd) → s.broken ≡ false → (as_told visit s).broken ≡ false
told_whole Tick s p = p
told_whole Read s p = p
told_whole Write s p = p
told_whole Expire s p = p

-- no part makes a connection unmade again
unfoldable Unmaking : Session ModelEnd → Session ModelEnd → List JournalEntry → List Call → Type 0
Unmaking s t xs cs = t.unmade ≡ true → s.unmade ≡ true

unmaking_steady : (r : Rules) → Steady r (λ g. Unit {0}) Unmaking
unfolding Unmaking
unmaking_steady r = record {
  none = λ s p. p;
  then_ = λ s t u xs ys cs ds p q e. p (q e);
  given = λ m s g allowed fits p. p;
  stalls = λ m s g allowed fits p. p;
  heard = λ s mind p. p;
  parts = λ s told at gone p. p;
}

unmaking_bare : Bare Unmaking
unfolding Unmaking
unmaking_bare = record {
  wrote = λ s n whole p. p;
  put_off = λ s p. p;
  failed = λ s p. p;
  breaks = λ s gone p. p;
  noted = λ s p. absurd (true≢false (sym p));
}

unmaking_reads : (s : Session ModelEnd) (waits : ℕ) (reading : Reading) → Unmaking s s [] (Reads s.number most_read waits reading ∷ [])
unfolding Unmaking
unmaking_reads s waits reading p = p

unmaking_calls : (r : Rules) → Calls r Unmaking
unmaking_calls r = usual_calls r (λ g. Unit {0}) Unmaking (unmaking_steady r) givings.all_given unmaking_bare unmaking_reads

nothing_in : (xs : List ℕ) → (length xs == 0) ≡ true → xs ≡ []
nothing_in [] p = refl
nothing_in (x ∷ xs) p = absurd (let e : length (x ∷ xs) ≡ 0 = eqb-true (length (x ∷ xs)) 0 p in omega arith)

none_stays : (t : Session ModelEnd) (ts : List (Session ModelEnd)) → ts ≡ t ∷ [] → ts ≡ [] → ⊥
none_stays t ts p q = let l : length (t ∷ []) ≡ 0 = ap length (sym p ∙ q) in omega arith

module _ (steps : StepsAlike) (made : MadeStands) (plan : Plan) (allowed : AllAllowed plan.settings) where
  abbrev Each : Session ModelEnd → Session ModelEnd → List JournalEntry → List Call → Type 0
  Each = Both writing.Each (printings.Q steps made plan allowed)

  each_calls : Calls (rules_of plan) Each
  each_calls = calls_both (rules_of plan) writing.Each (printings.Q steps made plan allowed) (writing.each_calls (rules_of plan)) (printings.q_each steps made plan allowed)

  behind_own : (s t : Session ModelEnd) (xs : List JournalEntry) (ds : List Call) → Each s t xs ds → is_released model_ends t ≡ true
      → is_gone (end_behind plan.settings (key_at plan.keys) s.number (Some s.end) (trace_lines_of xs)) ≡ true
  unfolding printings.Goes printings.Going
  behind_own s t xs ds e gone =
      let own : of s.number xs ≡ xs = e.0.0.0.entries s.number ∙ ap (λ (b : Bool). if b then xs else []) (same s.number) in
      let leads = e.1.1 s.end refl in
      ap is_gone (printings.at_own steps made plan allowed s.number (Some s.end) xs ∙ ap (λ z. printings.Behind steps made plan allowed (Some s.end) z) own ∙ leads.is)
      ∙ ap (λ (z : ModelEnd). is_some z.core.released) leads.stands
      ∙ gone

  given_own : (s t : Session ModelEnd) (xs : List JournalEntry) (ds : List Call) → Each s t xs ds → given_of s.number (ds ++ Closes t.number ∷ []) ≡ given_in ds
  unfolding calls_at
  given_own s t xs ds e =
      let own : calls_at s.number ds ≡ ds = e.0.0.0.calls s.number ∙ ap (λ (b : Bool). if b then ds else []) (same s.number) in
      let at : (t.number == s.number) ≡ true = eq-eqb t.number s.number e.0.0.0.number in
      given_at s.number (ds ++ Closes t.number ∷ [])
      ∙ ap given_in (calls_at-append s.number ds (Closes t.number ∷ []) ∙ ap (λ z. z ++ calls_at s.number (Closes t.number ∷ [])) own ∙ ap (λ (b : Bool). ds ++ (if b then Closes t.number ∷ [] else [])) at)
      ∙ givings.closed_given [] ds t.number

  broke : (s t : Session ModelEnd) (xs : List JournalEntry) (ds : List Call) → Each s t xs ds → s.broken ≡ false → t.broken ≡ true
      → (has_broken xs || has_failed (ds ++ Closes t.number ∷ [])) ≡ true
  unfolding writing.Off
  broke s t xs ds e whole p =
      ap (λ z. has_broken xs || z) (closed_failed [] ds t.number)
      ∙ or_true s.broken (has_broken xs || has_failed ds) (sym e.0.1 ∙ p) whole

  drained : (s t : Session ModelEnd) (xs : List JournalEntry) (ds : List Call) → Each s t xs ds → t.broken ≡ false → (length t.output == 0) ≡ true
      → given_in ds ≡ s.output ++ octets_of_entries xs
  drained s t xs ds e whole none =
      let g = e.0.0.1 in
      let empty : g.rest ≡ [] = (g.whole whole).1 ∙ nothing_in t.output none in
      sym (append-nil (given_in ds)) ∙ ap (λ z. given_in ds ++ z) (sym empty) ∙ sym g.is

  both_calls : Calls (rules_of plan) (Both Each Unmaking)
  both_calls = calls_both (rules_of plan) Each Unmaking each_calls (unmaking_calls (rules_of plan))

  why : (s : Session ModelEnd) (o : Out (List (Session ModelEnd))) → s.broken ≡ false → o.state ≡ [] → Settled (Both Each Unmaking) s o.state o.entries o.calls → WhyClosed plan s o
  unfolding Unmaking
  why s o whole none (Stays t is) = absurd (none_stays t o.state is none)
  why s o whole none (Closed t ds over is e) =
      elim (cases_Bool t.broken) [
        | inl p ↦ Broke (ap (λ z. has_broken o.entries || has_failed z) is ∙ broke s t o.entries ds e.0 whole p)
        | inr p ↦
            let both = and_both (is_released model_ends t) ((length t.output == 0) || t.unmade) (or_true t.broken (owes_nothing model_ends t) over p) in
            elim (cases_Bool t.unmade) [
              | inl q ↦ Unmade (e.1 q) (behind_own s t o.entries ds e.0 both.0)
              | inr q ↦
                  Drained (behind_own s t o.entries ds e.0 both.0)
                  (ap (λ z. given_of s.number z) is ∙ given_own s t o.entries ds e.0 ∙ drained s t o.entries ds e.0 p (or_false (length t.output == 0) t.unmade both.1 q))
            ]
      ]

pub closes_have_reasons : StepsAlike → MadeStands → ClosesHaveReasons
closes_have_reasons steps made plan m visit s a allowed usual whole none =
    why steps made plan allowed (as_told visit s) (visited model_ends (rules_of plan) m visit s a) (told_whole visit s whole) none
    (visit_so (rules_of plan) m (Both (Each steps made plan allowed) Unmaking)
    (calls_now (rules_of plan) (Both (Each steps made plan allowed) Unmaking) (both_calls steps made plan allowed) m) visit s a usual)

-- ---- what is written

exactly_one : (n : ℕ) (answers : List WriteAnswer) → (a : WriteAnswer) × (rest : List WriteAnswer) × (exactly (suc n) write.NotNow answers ≡ a ∷ rest)
unfolding exactly
exactly_one n [] = (write.NotNow, exactly n write.NotNow [], refl)
exactly_one n (a ∷ answers) = (a, exactly n write.NotNow answers, refl)

first_write : (s : Session ModelEnd) (a : WriteAnswer) (answers : List WriteAnswer) → (length s.output == 0) ≡ false
    → FirstIsWrite s.number s.output (acts writes_once (s, Going) (a ∷ answers)).calls
unfolding acts writes_once
first_write s a answers some =
    rw some (record { answer = a; rest = (acts writes_once (after_write a s) answers).calls; is = refl })

first_then : (conn : ℕ) (piece : List ℕ) (cs ds : List Call) → FirstIsWrite conn piece cs → FirstIsWrite conn piece (cs ++ ds)
first_then conn piece cs ds f = record { answer = f.answer; rest = f.rest ++ ds; is = ap (λ z. z ++ ds) f.is }

writes_first : (s : Session ModelEnd) (answers : List WriteAnswer) (octet : ℕ) (octets : List ℕ) → s.output ≡ octet ∷ octets
    → FirstIsWrite s.number s.output (writes s answers).calls
unfolding writes
writes_first s answers octet octets e =
    let one = exactly_one (length octets) answers in
    subst (λ z. FirstIsWrite s.number s.output (acts writes_once (s, Going) z).calls) (sym (ap (λ z. exactly (length z) write.NotNow answers) e ∙ one.2))
    (first_write s one.0 one.1 (ap (λ z. length z == 0) e ∙ ne_eqb (length (octet ∷ octets)) 0 (λ q. let z : ⊥ = omega arith in z)))

unless_first : (r : Rules) (m : ℕ) (b : Bool) (s : Session ModelEnd) (a : Wrote) (octet : ℕ) (octets : List ℕ) → b ≡ false → s.output ≡ octet ∷ octets
    → FirstIsWrite s.number s.output (written_unless model_ends b r m s a).calls
unless_first r m true s a octet octets p e = absurd (true≢false p)
unless_first r m false s a octet octets p e =
    let w = writes s a.answers in first_then s.number s.output w.calls (flowed model_ends r m w.state a.says).calls (writes_first s a.answers octet octets e)

pub writable_is_written : WritableIsWritten
unfolding visited rests session_behind_writing
writable_is_written r m s a octet octets whole e =
    let w = session_behind_writing model_ends r m (made s) a.wrote in
    first_then s.number s.output w.calls (session_kept_or_closed model_ends w.state).calls (unless_first r m s.broken (made s) a.wrote octet octets whole e)

first_of_two : (a b : Session ModelEnd) → a ∷ [] ≡ b ∷ [] → a ≡ b
first_of_two a b e = ap (λ z. outs.first_answer_of a z) e

settled_put_off : (w : Out (Session ModelEnd)) (t : Session ModelEnd) (b : Bool) → (w.state.broken || owes_nothing model_ends w.state) ≡ b
    → ((last : Option WriteAnswer) → AllTakeOne w.calls → w.state.broken ≡ false → (w.state.output ≡ []) ⊎ (last_answer last w.calls ≡ Some write.NotNow))
    → (if b then closed w.state else stays w.state).state ≡ t ∷ [] → AllTakeOne (w.calls ++ (if b then closed w.state else stays w.state).calls)
    → IsPutOff t (w.calls ++ (if b then closed w.state else stays w.state).calls)
settled_put_off w t true p done is all = absurd (let l : length (t ∷ []) ≡ 0 = ap length (sym is) in omega arith)
settled_put_off w t false p done is all =
    let e : w.state ≡ t = first_of_two w.state t is in
    let whole : w.state.broken ≡ false = or_none w.state.broken (owes_nothing model_ends w.state) p in
    elim (done None (subst AllTakeOne (append-nil w.calls) all) whole) [
      | inl f ↦ inl (ap (λ (z : Session ModelEnd). z.output) (sym e) ∙ f)
      | inr f ↦ inr (ap (λ z. last_answer None z) (append-nil w.calls) ∙ f)
    ]

rests_put_off : (r : Rules) (m : ℕ) (h t : Session ModelEnd) (a : Wrote) → (rests model_ends r m h a).state ≡ t ∷ [] → AllTakeOne (rests model_ends r m h a).calls
    → IsPutOff t (rests model_ends r m h a).calls
unfolding rests session_kept_or_closed
rests_put_off r m h t a is all =
    let w = session_behind_writing model_ends r m h a in
    settled_put_off w t (w.state.broken || owes_nothing model_ends w.state) refl (writing.written_so r m h a).done is all

pub visits_write : VisitsWrite
unfolding visited served
visits_write = record {
  ticked = λ r m s t a due is all.
      let h = handled model_ends r m s Ticks (first_answer_of nothing_said a.says) in
      rw due (rests_put_off r m h.0 t a.wrote (rw due at is) (rw due at all));
  writable = λ r m s t a is all. rests_put_off r m (made s) t a.wrote is all;
}
