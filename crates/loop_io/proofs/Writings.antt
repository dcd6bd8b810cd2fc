-- The output of a session, written call by call.
use Rattle.er_end.specs.KeptEnds.{KEnd}
use Rattle.loop_session.specs.Keeping.{kept_ends}
use Rattle.std.proofs.Common.{◌≡◌, ◌≤◌, ◌<◌, ℕ, zero, suc, ◌+◌, ◌-◌, ◌==◌, true, false, ◌||◌, List, [], ◌∷◌, ◌++◌, length, drop, refl, sym, ◌∙◌, ap, subst, inl, inr, arith, eqb-true}
use Rattle.std.proofs.lemmas.Bool.{cases_Bool}
use Rattle.link_trait.specs.States.{WiresState}
use Rattle.link_trait.specs.Wires.{Reading, Writes, Closes}
use Rattle.link_trait.specs.declared.wires.WriteAnswer.{WriteAnswer}
use Rattle.link_trait.specs.declared.wires.WriteAnswer.TheVariants as write
use Rattle.loop_model.specs.Outs.{still, next, makes, acts, exactly}
use Rattle.loop_model.specs.Sessions.{Session, owes_nothing}
use Rattle.loop_model.specs.Visits as visits
use Rattle.loop_model.specs.Visits.{WritingState, after_write, writes_once, writes, session_kept_or_closed, is_due}
use Rattle.outside.specs.Acts.{Called, Read, Sent, Closed}
use Rattle.outside.specs.ActSteps.{told_call}
use Rattle.outside.specs.Doings.{Told, Did}
use Rattle.outside.specs.Ties.{AreDrawn}
use Rattle.loop_session.specs.Parts.{OnlyPrints}
use Rattle.loop_io.specs.declared.writing.Flow.TheVariants as flow
use Rattle.loop_io.specs.Acting.{Acted}
use Rattle.loop_io.specs.Seeing.{seen, IsWrittenSo}
use Rattle.loop_io.specs.Sequels.{acted_still, acted_next, acted_makes}
use Rattle.loop_io.specs.Visiting.{Keep}
use Rattle.loop_io.specs.Writing.{WroteSome, HasSessionWritten, Settles, ClosesDueSession}
use Rattle.loop_io.proofs.Folds.{acts_none, acts_on, acts_then, exactly_filled, exactly_next}

-- ---- one write

none_false : (xs : List ℕ) → 0 < length xs → (length xs == 0) ≡ false
none_false xs p = elim (cases_Bool (length xs == 0)) [
  | inl q ↦ absurd (let z : ⊥ = omega (arith, eqb-true (length xs) 0 q, p) in z)
  | inr q ↦ q
]

once_is : (t : Session KEnd) (answer : WriteAnswer) → 0 < length t.output → writes_once (t, visits.Going) answer ≡ makes (Writes t.number t.output answer) (after_write answer t)
unfolding writes_once
once_is t answer some = rw (none_false t.output some) refl

acted_write : (a b : Told) (t : Session KEnd) (number : ℕ) (piece : List ℕ) (answer : WriteAnswer) → number ≡ t.number → piece ≡ t.output → 0 < length t.output
    → Did a b (Called (Sent number piece answer) ∷ []) → IsWrittenSo piece answer → Acted (seen a) (seen b) (after_write answer t) (writes_once (t, visits.Going) answer)
acted_write a b t number piece answer p q some did answered =
    subst (λ z. Acted (seen a) (seen b) (after_write answer t) z) (sym (once_is t answer some))
    (subst (λ z. Acted (seen a) (seen b) (after_write answer t) (makes (Writes z t.output answer) (after_write answer t))) p
    (subst (λ z. Acted (seen a) (seen b) (after_write answer t) (makes (Writes number z answer) (after_write answer t))) q
    (acted_makes a b (after_write answer t) (Writes number piece answer) did
    (told_call a.wires.calls b.wires.calls (Sent number piece answer) (Writes number piece answer) refl did.wires.calls) answered)))

-- ---- once nothing is to be written

abbrev IsIdle : Session KEnd × WritingState → Type 0
IsIdle x = (answer : WriteAnswer) → writes_once x answer ≡ still x

idle_all : (x : Session KEnd × WritingState) (answers : List WriteAnswer) → IsIdle x → acts writes_once x answers ≡ still x
idle_all x [] p = acts_none writes_once x
idle_all x (a ∷ answers) p = acts_on writes_once x a answers ∙ ap (λ z. next z (λ t. acts writes_once t answers)) (p a) ∙ idle_all x answers p

idle_empty : (t : Session KEnd) → (length t.output == 0) ≡ true → IsIdle (t, visits.Going)
unfolding writes_once
idle_empty t p = λ answer. rw p refl

idle_off : (t : Session KEnd) → IsIdle (t, visits.PutOff)
unfolding writes_once
idle_off t = λ answer. refl

idle_failing : (t : Session KEnd) → IsIdle (t, visits.Failing)
unfolding writes_once
idle_failing t = λ answer. refl

-- ---- writes one after the other

length_more : (xs : List WriteAnswer) (x : WriteAnswer) → length (xs ++ x ∷ []) ≡ length xs + 1
length_more [] x = refl
length_more (y ∷ xs) x = (let q : length (xs ++ x ∷ []) ≡ length xs + 1 = length_more xs x in omega (arith, q))

drop_length : (n : ℕ) (xs : List ℕ) → n ≤ length xs → length (drop n xs) + n ≡ length xs
drop_length zero xs p = omega arith
drop_length (suc n) [] p = absurd (let z : ⊥ = omega (arith, p) in z)
drop_length (suc n) (x ∷ xs) p = (let q = drop_length n xs (let z : n ≤ length xs = omega (arith, p) in z) in omega (arith, q))

acted_one : (c d : Told) (x y : Session KEnd × WritingState) (a : WriteAnswer) → Acted (seen c) (seen d) y (writes_once x a) → Acted (seen c) (seen d) y (acts writes_once x (a ∷ []))
acted_one c d x y a p =
    subst (λ z. Acted (seen c) (seen d) y z) (sym (acts_on writes_once x a []))
    (acted_next (seen c) (seen d) (seen d) y y (writes_once x a) (λ t. acts writes_once t []) p (subst (λ z. Acted (seen d) (seen d) y z) (sym (acts_none writes_once y)) (acted_still (seen d) y)))

acted_more : (c d e : Told) (x y z : Session KEnd × WritingState) (xs : List WriteAnswer) (a : WriteAnswer)
    → Acted (seen c) (seen d) y (acts writes_once x xs) → Acted (seen d) (seen e) z (writes_once y a) → Acted (seen c) (seen e) z (acts writes_once x (xs ++ a ∷ []))
acted_more c d e x y z xs a p q =
    subst (λ o. Acted (seen c) (seen e) z o) (sym (acts_then writes_once x xs (a ∷ [])))
    (acted_next (seen c) (seen d) (seen e) y z (acts writes_once x xs) (λ t. acts writes_once t (a ∷ [])) p (acted_one d e y z a q))

pub wrote_none : (c : Told) (s : Session KEnd) → WroteSome c c s s
wrote_none c s = record {
  answers = [];
  few = (let z : 0 + length s.output ≤ length s.output = omega arith in z);
  is = subst (λ z. Acted (seen c) (seen c) (s, visits.Going) z) (sym (acts_none writes_once (s, visits.Going))) (acted_still (seen c) (s, visits.Going));
}

pub wrote_more : (c d e : Told) (s t new : Session KEnd) (number : ℕ) (piece : List ℕ) (n : ℕ) → WroteSome c d s t → number ≡ t.number → piece ≡ t.output
    → 0 < length t.output → Did d e (Called (Sent number piece (write.Some n)) ∷ []) → (1 ≤ n) × (n ≤ length piece) → new ≡ record t { output = drop n t.output } → WroteSome c e s new
wrote_more c d e s t new number piece n p same_number same_piece some did fits is =
    let within : n ≤ length t.output = subst (λ z. n ≤ length z) same_piece fits.1 in
    let one : 1 ≤ n = fits.0 in
    let shorter : length (drop n t.output) + n ≡ length t.output = drop_length n t.output within in
    let one_more : length (p.answers ++ write.Some n ∷ []) ≡ length p.answers + 1 = length_more p.answers (write.Some n) in
    let few = p.few in
    subst (λ (z : Session KEnd). WroteSome c e s z) (sym is)
    (record {
      answers = p.answers ++ write.Some n ∷ [];
      few = (let z : length (p.answers ++ write.Some n ∷ []) + length (drop n t.output) ≤ length s.output = omega (arith, one, shorter, one_more, few) in z);
      is =
          acted_more c d e (s, visits.Going) (t, visits.Going) (record t { output = drop n t.output }, visits.Going) p.answers (write.Some n) p.is
          (acted_write d e t number piece (write.Some n) same_number same_piece some did fits);
    })

-- nothing waits any more
pub wrote_all : (c d : Told) (s t : Session KEnd) → WroteSome c d s t → (length t.output == 0) ≡ true → HasSessionWritten c d s t flow.Going
unfolding writes
wrote_all c d s t p none =
    let rest = exactly (length s.output - length p.answers) write.NotNow [] in
    let few = p.few in
    record {
      answers = p.answers;
      is =
          subst (λ z. Acted (seen c) (seen d) (t, visits.Going) (acts writes_once (s, visits.Going) z)) (sym (exactly_filled (length s.output) write.NotNow p.answers (let z : length p.answers ≤ length s.output = omega (arith, few) in z)))
          (subst (λ z. Acted (seen c) (seen d) (t, visits.Going) z) (sym (acts_then writes_once (s, visits.Going) p.answers rest))
          (acted_next (seen c) (seen d) (seen d) (t, visits.Going) (t, visits.Going) (acts writes_once (s, visits.Going) p.answers) (λ x. acts writes_once x rest) p.is
          (subst (λ z. Acted (seen d) (seen d) (t, visits.Going) z) (sym (idle_all (t, visits.Going) rest (idle_empty t none))) (acted_still (seen d) (t, visits.Going)))));
    }

-- a write that gave nothing was the last
wrote_last : (c d e : Told) (s t : Session KEnd) (a : WriteAnswer) (f : WritingState) → WroteSome c d s t → 0 < length t.output
    → Acted (seen d) (seen e) (t, f) (writes_once (t, visits.Going) a) → IsIdle (t, f) → (answers : List WriteAnswer) × Acted (seen c) (seen e) (t, f) (writes s answers)
unfolding writes
wrote_last c d e s t a f p some q idle =
    let few = p.few in
    let less : length p.answers < length s.output = omega (arith, few, some) in
    let rest = exactly (length s.output - (length p.answers + 1)) write.NotNow [] in (
      p.answers ++ a ∷ [],
      subst (λ z. Acted (seen c) (seen e) (t, f) (acts writes_once (s, visits.Going) z)) (sym (exactly_next (length s.output) write.NotNow p.answers a less))
          (subst (λ z. Acted (seen c) (seen e) (t, f) z) (sym (acts_then writes_once (s, visits.Going) p.answers (a ∷ rest)))
          (acted_next (seen c) (seen d) (seen e) (t, visits.Going) (t, f) (acts writes_once (s, visits.Going) p.answers) (λ x. acts writes_once x (a ∷ rest)) p.is
          (subst (λ z. Acted (seen d) (seen e) (t, f) z) (sym (acts_on writes_once (t, visits.Going) a rest))
          (acted_next (seen d) (seen e) (seen e) (t, f) (t, f) (writes_once (t, visits.Going) a) (λ x. acts writes_once x rest) q
          (subst (λ z. Acted (seen e) (seen e) (t, f) z) (sym (idle_all (t, f) rest idle)) (acted_still (seen e) (t, f))))))),
    )

pub wrote_off : (c d e : Told) (s t : Session KEnd) (number : ℕ) (piece : List ℕ) → WroteSome c d s t → number ≡ t.number → piece ≡ t.output
    → 0 < length t.output → Did d e (Called (Sent number piece write.NotNow) ∷ []) → HasSessionWritten c e s t flow.PutOff
wrote_off c d e s t number piece p same_number same_piece some did =
    let o = wrote_last c d e s t write.NotNow visits.PutOff p some
    (acted_write d e t number piece write.NotNow same_number same_piece some did tt) (idle_off t) in
    record { answers = o.0; is = o.1 }

pub wrote_failing : (c d e : Told) (s t : Session KEnd) (number : ℕ) (piece : List ℕ) → WroteSome c d s t → number ≡ t.number → piece ≡ t.output
    → 0 < length t.output → Did d e (Called (Sent number piece write.Failed) ∷ []) → HasSessionWritten c e s t flow.Failing
wrote_failing c d e s t number piece p same_number same_piece some did =
    let o = wrote_last c d e s t write.Failed visits.Failing p some
    (acted_write d e t number piece write.Failed same_number same_piece some did tt) (idle_failing t) in
    record { answers = o.0; is = o.1 }

-- ---- closing

pub settles_not : (c : Told) (s : Session KEnd) → (s.broken || owes_nothing kept_ends s) ≡ false → Settles c c s true
unfolding session_kept_or_closed
settles_not c s p = rw p (acted_still (seen c) (s ∷ []))

acted_close : (a b : Told) (s : Session KEnd) (number : ℕ) → number ≡ s.number → Did a b (Called (Closed number) ∷ []) → Acted {S = List (Session KEnd)} (seen a) (seen b) [] (makes (Closes s.number) [])
acted_close a b s number same did =
    subst (λ z. Acted {S = List (Session KEnd)} (seen a) (seen b) [] (makes (Closes z) [])) same
    (acted_makes {S = List (Session KEnd)} a b [] (Closes number) did (told_call a.wires.calls b.wires.calls (Closed number) (Closes number) refl did.wires.calls) tt)

pub settles_closed : (a b : Told) (s : Session KEnd) (number : ℕ) → (s.broken || owes_nothing kept_ends s) ≡ true → number ≡ s.number
    → Did a b (Called (Closed number) ∷ []) → Settles a b s false
unfolding session_kept_or_closed
settles_closed a b s number p same did = rw p (acted_close a b s number same did)

pub expires_not : (c : Told) (m : ℕ) (s : Session KEnd) → is_due m s.closing ≡ false → ClosesDueSession c c m s true
expires_not c m s p = rw p (acted_still (seen c) (s ∷ []))

pub expires_closed : (a b : Told) (m : ℕ) (s : Session KEnd) (number : ℕ) → is_due m s.closing ≡ true → number ≡ s.number
    → Did a b (Called (Closed number) ∷ []) → ClosesDueSession a b m s false
expires_closed a b m s number p same did = rw p (acted_close a b s number same did)

-- ---- what they leave alone

pub keep_none : (a : Told) → Keep a a
keep_none a = record { opened = refl; listening = refl; turn_count = refl; count = omega arith; sunk = omega arith; clock = refl; words = refl }

pub keep_then : (a b c : Told) → Keep a b → Keep b c → Keep a c
keep_then a b c p q = record {
  opened = q.opened ∙ p.opened;
  listening = q.listening ∙ p.listening;
  turn_count = q.turn_count ∙ p.turn_count;
  count = (let u : a.wires.faults ≤ b.wires.faults = p.count in let v : b.wires.faults ≤ c.wires.faults = q.count in omega (arith, u, v));
  sunk = (let u : a.sink.faults ≤ b.sink.faults = p.sunk in let v : b.sink.faults ≤ c.sink.faults = q.sunk in omega (arith, u, v));
  clock = q.clock ∙ p.clock;
  words = q.words ∙ p.words;
}

pub keep_read : (a b : Told) (conn size : ℕ) (reading : Reading) → Did a b (Called (Read conn size reading) ∷ []) → Keep a b
unfolding AreDrawn
keep_read a b conn size reading p = record {
  opened = p.wires.opened;
  listening = p.wires.listening;
  turn_count = p.wires.turns_rest refl;
  count = p.wires.faults.later;
  sunk = p.sink.faults.later;
  clock = p.clock.rests refl;
  words = p.words;
}

pub keep_send : (a b : Told) (conn : ℕ) (piece : List ℕ) (answer : WriteAnswer) → Did a b (Called (Sent conn piece answer) ∷ []) → Keep a b
unfolding AreDrawn
keep_send a b conn piece answer p = record {
  opened = p.wires.opened;
  listening = p.wires.listening;
  turn_count = p.wires.turns_rest refl;
  count = p.wires.faults.later;
  sunk = p.sink.faults.later;
  clock = p.clock.rests refl;
  words = p.words;
}

pub keep_close : (a b : Told) (conn : ℕ) → Did a b (Called (Closed conn) ∷ []) → Keep a b
unfolding AreDrawn
keep_close a b conn p = record {
  opened = p.wires.opened;
  listening = p.wires.listening;
  turn_count = p.wires.turns_rest refl;
  count = p.wires.faults.later;
  sunk = p.sink.faults.later;
  clock = p.clock.rests refl;
  words = p.words;
}

-- lines that were written leave more alone
pub keep_prints : (a b : Told) → OnlyPrints a b → Keep a b
keep_prints a b p = record {
  opened = ap (λ (z : WiresState). z.opened) p.wires;
  listening = ap (λ (z : WiresState). z.listening) p.wires;
  turn_count = ap (λ (z : WiresState). z.turn_faults) p.wires;
  count = (let same : b.wires.faults ≡ a.wires.faults = ap (λ (z : WiresState). z.faults) p.wires in omega (arith, same));
  sunk = p.later;
  clock = p.clock;
  words = p.words;
}
