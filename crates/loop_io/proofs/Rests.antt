-- What follows events: writing, closing; and the visits of a session.
use Rattle.loop_session.specs.Keeping.{kept_ends}
use Rattle.std.proofs.Common.{◌≡◌, ◌≤◌, ℕ, zero, suc, Bool, true, false, List, [], ◌∷◌, length, take, Result, Ok, Err, refl, sym, subst, arith}
use Rattle.link_trait.specs.Outside.{Grew}
use Rattle.link_trait.specs.Wires.{Reads, Reading, Gave, NotNow, End, Failed, reading_of}
use Rattle.link_trait.specs.declared.wires.ReadAnswer.{ReadAnswer}
use Rattle.link_trait.specs.declared.wires.ReadAnswer.TheVariants as read
use Rattle.er_end.specs.KeptEnds.{KEnd, deadline_of}
use Rattle.loop_model.specs.Outs.{next, prints, makes}
use Rattle.loop_model.specs.Sessions.{Rules, Session, is_released, GivenToSession, Ticks, Ends, Faults, nothing_said, handled, pours, made}
use Rattle.loop_model.specs.Visits as visits
use Rattle.loop_model.specs.Visits.{flowed, written_unless, session_behind_writing, fault_unless, writes, nothing_wrote, session_kept_or_closed, rests, Met, nothing_met, came, read_once, rests_behind, served, visited, is_due, most_read}
use Rattle.outside.specs.Acts.{Called, Read}
use Rattle.outside.specs.Chains.{did_nothing}
use Rattle.outside.specs.Doings.{Told, Did}
use Rattle.loop_session.specs.declared.loop_fault.LoopFault.{LoopFault}
use Rattle.loop_session.specs.Parts.{writes_of_entries, Breaks, Printed, Chose, BrokeOff, Chooses}
use Rattle.loop_io.specs.declared.writing.Flow.TheVariants as flow
use Rattle.loop_io.specs.Acting.{Acted, BreaksAt, ActedSo, Stopped, DoesLoopPart}
use Rattle.loop_io.specs.Seeing.{Seen, seen, IsReadSo}
use Rattle.loop_io.specs.Sequels.{acted_still, acted_next, acted_prints, acted_makes, breaks_first, breaks_next, breaks_prints}
use Rattle.loop_io.specs.Visiting.{left, Visits, session_behind_read}
use Rattle.loop_io.specs.Writing.{HasSessionWritten, Settles, ClosesDueSession}

-- ---- writing

pub written_broken : (a : Seen) (r : Rules) (m : ℕ) (s : Session KEnd) → s.broken ≡ true → ActedSo a a s (session_behind_writing kept_ends r m s)
unfolding session_behind_writing
written_broken a r m s p = record { answers = nothing_wrote; is = subst (λ (b : Bool). Acted a a s (written_unless kept_ends b r m s nothing_wrote)) (sym p) (acted_still a s) }

written_by : (a b c : Seen) (r : Rules) (m : ℕ) (s t : Session KEnd) (new : Session KEnd) (f : visits.WritingState) (answers : visits.Wrote) → s.broken ≡ false
    → Acted a b (t, f) (writes s answers.answers) → Acted b c new (flowed kept_ends r m (t, f) answers.says) → Acted a c new (session_behind_writing kept_ends r m s answers)
unfolding session_behind_writing
written_by a b c r m s t new f answers whole p q =
    subst (λ (z : Bool). Acted a c new (written_unless kept_ends z r m s answers)) (sym whole)
    (acted_next a b c (t, f) new (writes s answers.answers) (λ x. flowed kept_ends r m x answers.says) p q)

pub written_going : (c d : Told) (r : Rules) (m : ℕ) (s t : Session KEnd) → s.broken ≡ false → HasSessionWritten c d s t flow.Going
    → ActedSo (seen c) (seen d) t (session_behind_writing kept_ends r m s)
written_going c d r m s t whole w =
    let a : visits.Wrote = record { answers = w.answers; says = nothing_said } in
    record { answers = a; is = written_by (seen c) (seen d) (seen d) r m s t t visits.Going a whole w.is (acted_still (seen d) t) }

pub written_off : (c d : Told) (r : Rules) (m : ℕ) (s t : Session KEnd) → s.broken ≡ false → HasSessionWritten c d s t flow.PutOff
    → ActedSo (seen c) (seen d) t (session_behind_writing kept_ends r m s)
written_off c d r m s t whole w =
    let a : visits.Wrote = record { answers = w.answers; says = nothing_said } in
    record { answers = a; is = written_by (seen c) (seen d) (seen d) r m s t t visits.PutOff a whole w.is (acted_still (seen d) t) }

-- a write of a released session failed
pub written_released : (c d : Told) (r : Rules) (m : ℕ) (s t new : Session KEnd) → s.broken ≡ false → HasSessionWritten c d s t flow.Failing
    → is_released kept_ends t ≡ true → new ≡ record t { broken = true } → ActedSo (seen c) (seen d) new (session_behind_writing kept_ends r m s)
written_released c d r m s t new whole w released is =
    let a : visits.Wrote = record { answers = w.answers; says = nothing_said } in
    let b = seen d in
    record {
      answers = a;
      is =
          subst (λ (z : Session KEnd). Acted (seen c) b z (session_behind_writing kept_ends r m s a)) (sym is)
          (written_by (seen c) b b r m s t (record t { broken = true }) visits.Failing a whole w.is
          (subst (λ (z : Bool). Acted b b (record t { broken = true }) (prints (fault_unless kept_ends z r m t nothing_said))) (sym released) (acted_still b (record t { broken = true }))));
    }

written_breaks : (a b : Seen) (r : Rules) (m : ℕ) (s : Session KEnd) (answers : visits.Wrote) (fault : LoopFault) → s.broken ≡ false
    → BreaksAt a b (next (writes s answers.answers) (λ x. flowed kept_ends r m x answers.says)) fault → BreaksAt a b (session_behind_writing kept_ends r m s answers) fault
unfolding session_behind_writing
written_breaks a b r m s answers fault whole q = subst (λ (z : Bool). BreaksAt a b (written_unless kept_ends z r m s answers) fault) (sym whole) q

-- a write of another session failed
pub written_fault : (c d e : Told) (r : Rules) (m : ℕ) (s t new : Session KEnd) (res : Result (Unit {0}) LoopFault) → s.broken ≡ false
    → HasSessionWritten c d s t flow.Failing → is_released kept_ends t ≡ false → Chooses d e new (handled kept_ends r m t Faults) res → DoesLoopPart (seen c) (seen e) new (session_behind_writing kept_ends r m s) res
written_fault c d e r m s t new (Ok done) whole w live p =
    let a : visits.Wrote = record { answers = w.answers; says = p.answers } in
    record {
      answers = a;
      is =
          written_by (seen c) (seen d) (seen e) r m s t new visits.Failing a whole w.is
          (subst (λ (z : Bool). Acted (seen d) (seen e) new (prints (fault_unless kept_ends z r m t p.answers))) (sym live)
          (acted_prints d e new (handled kept_ends r m t Faults p.answers) p.is));
    }
written_fault c d e r m s t new (Err fault) whole w live p =
    let a : visits.Wrote = record { answers = w.answers; says = p.answers } in
    record {
      answers = a;
      breaks =
          broke a
          (breaks_next (seen c) (seen d) (seen e) (t, visits.Failing) (writes s w.answers) (λ x. flowed kept_ends r m x p.answers) fault
          w.is
          (subst (λ (z : Bool). BreaksAt (seen d) (seen e) (prints (fault_unless kept_ends z r m t p.answers)) fault) (sym live)
          (breaks_prints d e (handled kept_ends r m t Faults p.answers) fault p.breaks)));
    }
  where
    broke : (a : visits.Wrote) → BreaksAt (seen c) (seen e) (next (writes s a.answers) (λ x. flowed kept_ends r m x a.says)) fault → BreaksAt (seen c) (seen e) (session_behind_writing kept_ends r m s a) fault
    broke a q = written_breaks (seen c) (seen e) r m s a fault whole q

-- ---- what follows events

pub rests_broke : (a b : Seen) (r : Rules) (m : ℕ) (s : Session KEnd) (fault : LoopFault) → Stopped a b (session_behind_writing kept_ends r m s) fault → Stopped a b (rests kept_ends r m s) fault
unfolding rests
rests_broke a b r m s fault p = record { answers = p.answers; breaks = breaks_first a b (session_behind_writing kept_ends r m s p.answers) (session_kept_or_closed kept_ends) fault p.breaks }

pub rests_done : (a : Seen) (d e : Told) (r : Rules) (m : ℕ) (s t : Session KEnd) (stay : Bool) → ActedSo a (seen d) t (session_behind_writing kept_ends r m s)
    → Settles d e t stay → ActedSo a (seen e) (left stay t) (rests kept_ends r m s)
unfolding rests
rests_done a d e r m s t stay p q = record {
  answers = p.answers;
  is = acted_next a (seen d) (seen e) t (left stay t) (session_behind_writing kept_ends r m s p.answers) (session_kept_or_closed kept_ends) p.is q;
}

-- an event, and what follows it
pub serves_broke : (h i : Told) (r : Rules) (m : ℕ) (s : Session KEnd) (g : GivenToSession) (fault : LoopFault)
    → BrokeOff h i (handled kept_ends r m s g) fault → Stopped (seen h) (seen i) (served kept_ends r m s g) fault
unfolding served
serves_broke h i r m s g fault p =
    let a : Met = record nothing_met { says = p.answers ∷ [] } in
    record {
      answers = a;
      breaks = breaks_first (seen h) (seen i) (prints (handled kept_ends r m s g p.answers)) (λ t. rests kept_ends r m t a.wrote) fault (breaks_prints h i (handled kept_ends r m s g p.answers) fault p.breaks);
    }

pub serves : (h i : Told) (b : Seen) (r : Rules) (m : ℕ) (s t new : Session KEnd) (g : GivenToSession) (res : Result Bool LoopFault)
    → Chose h i t (handled kept_ends r m s g) → Visits (seen i) b new (rests kept_ends r m t) res → Visits (seen h) b new (served kept_ends r m s g) res
unfolding served
serves h i b r m s t new g (Ok stay) p q =
    let a : Met = record nothing_met { says = p.answers ∷ []; wrote = q.answers } in
    record {
      answers = a;
      is =
          acted_next (seen h) (seen i) b t (left stay new) (prints (handled kept_ends r m s g p.answers)) (λ x. rests kept_ends r m x q.answers)
          (acted_prints h i t (handled kept_ends r m s g p.answers) p.is) q.is;
    }
serves h i b r m s t new g (Err fault) p q =
    let a : Met = record nothing_met { says = p.answers ∷ []; wrote = q.answers } in
    record {
      answers = a;
      breaks =
          breaks_next (seen h) (seen i) b t (prints (handled kept_ends r m s g p.answers)) (λ x. rests kept_ends r m x q.answers) fault
          (acted_prints h i t (handled kept_ends r m s g p.answers) p.is) q.breaks;
    }

-- ---- ticks

pub tick_not : (a : Seen) (r : Rules) (m : ℕ) (s : Session KEnd) → is_due m (deadline_of s.end) ≡ false → ActedSo a a (left true s) (visited kept_ends r m visits.Tick s)
unfolding visited
tick_not a r m s p = record { answers = nothing_met; is = rw p (acted_still a (s ∷ [])) }

pub tick_serves : (a b : Seen) (r : Rules) (m : ℕ) (s new : Session KEnd) (res : Result Bool LoopFault) → is_due m (deadline_of s.end) ≡ true → Visits a b new (served kept_ends r m s Ticks) res
    → Visits a b new (visited kept_ends r m visits.Tick s) res
unfolding visited
tick_serves a b r m s new (Ok stay) p q = record { answers = q.answers; is = rw p q.is }
tick_serves a b r m s new (Err fault) p q = record { answers = q.answers; breaks = rw p q.breaks }

pub tick_broke : (a b : Seen) (r : Rules) (m : ℕ) (s : Session KEnd) (fault : LoopFault) → is_due m (deadline_of s.end) ≡ true → Stopped a b (served kept_ends r m s Ticks) fault
    → Stopped a b (visited kept_ends r m visits.Tick s) fault
unfolding visited
tick_broke a b r m s fault p q = record { answers = q.answers; breaks = rw p q.breaks }

-- ---- reads

-- what a read gave, as an end or a fault
pub came_end : (h i : Told) (r : Rules) (m : ℕ) (s new : Session KEnd) (res : Result (Unit {0}) LoopFault) → Chooses h i new (handled kept_ends r m s Ends) res → Chooses h i new (came kept_ends End r m s) res
came_end h i r m s new (Ok done) p = record { answers = p.answers ∷ []; is = p.is }
came_end h i r m s new (Err fault) p = record { answers = p.answers ∷ []; breaks = p.breaks }

pub came_failed : (h i : Told) (r : Rules) (m : ℕ) (s new : Session KEnd) (res : Result (Unit {0}) LoopFault) → Chooses h i new (handled kept_ends r m s Faults) res → Chooses h i new (came kept_ends Failed r m s) res
came_failed h i r m s new (Ok done) p = record { answers = p.answers ∷ []; is = p.is }
came_failed h i r m s new (Err fault) p = record { answers = p.answers ∷ []; breaks = p.breaks }

pub came_gave : (h i : Told) (r : Rules) (m : ℕ) (s new : Session KEnd) (octets : List ℕ) (res : Result (Unit {0}) LoopFault) → Chooses h i new (pours kept_ends r m s octets) res
    → Chooses h i new (came kept_ends (Gave octets) r m s) res
came_gave h i r m s new octets (Ok done) p = record { answers = p.answers; is = p.is }
came_gave h i r m s new octets (Err fault) p = record { answers = p.answers; breaks = p.breaks }

-- nothing came yet
pub came_nothing : (a : Told) (r : Rules) (m : ℕ) (s : Session KEnd) → Chose a a s (came kept_ends NotNow r m s)
came_nothing a r m s = record { answers = []; is = record { state = refl; did = did_nothing a; in_grammar = tt } }

take_length : (n : ℕ) (xs : List ℕ) → n ≤ length xs → length (take n xs) ≡ n
take_length zero xs p = refl
take_length (suc n) [] p = absurd (let z : ⊥ = omega (arith, p) in z)
take_length (suc n) (x ∷ xs) p = (let q = take_length n xs (let z : n ≤ length xs = omega (arith, p) in z) in omega (arith, q))

-- what a read answered, as wires answer it
pub read_so : (size waits : ℕ) (answer : ReadAnswer) (into : List ℕ) → ((n : ℕ) → answer ≡ read.Some n → (1 ≤ n) × (n ≤ size))
    → (answer ≡ read.NotNow → waits ≡ 0) → (answer ≡ read.End → waits ≡ 0) → length into ≡ size → IsReadSo size waits (reading_of answer into)
read_so size waits (read.Some n) into fits not_now end same =
    let f = fits n refl in
    let one : 1 ≤ n = f.0 in
    let most : n ≤ size = f.1 in
    let long : length (take n into) ≡ n = take_length n into (let z : n ≤ length into = omega (arith, most, same) in z) in
    ((let z : 1 ≤ length (take n into) = omega (arith, one, long) in z), (let z : length (take n into) ≤ size = omega (arith, most, long) in z))
read_so size waits read.NotNow into fits not_now end same = not_now refl
read_so size waits read.End into fits not_now end same = end refl
read_so size waits read.Failed into fits not_now end same = tt

-- a read was made, and answered so
pub record ReadMade (before now : Told) (conn waits : ℕ) (reading : Reading) : Type 0 where
  pub did : Did before now (Called (Read conn most_read reading) ∷ [])
  pub told : Grew before.wires.calls now.wires.calls (Reads conn most_read waits reading ∷ [])
  pub so : IsReadSo most_read waits reading

-- by what the call says of it, and by the number of octets that is asked for
pub read_made : (before now : Told) (conn size waits : ℕ) (answer : ReadAnswer) (into : List ℕ)
    → Did before now (Called (Read conn size (reading_of answer into)) ∷ []) → Grew before.wires.calls now.wires.calls (Reads conn size waits (reading_of answer into) ∷ [])
    → ((n : ℕ) → answer ≡ read.Some n → (1 ≤ n) × (n ≤ size)) → (answer ≡ read.NotNow → waits ≡ 0) → (answer ≡ read.End → waits ≡ 0) → length into ≡ size → size ≡ most_read
    → ReadMade before now conn waits (reading_of answer into)
read_made before now conn size waits answer into did told fits not_now end same asked = record {
  did = subst (λ (z : ℕ). Did before now (Called (Read conn z (reading_of answer into)) ∷ [])) asked did;
  told = subst (λ (z : ℕ). Grew before.wires.calls now.wires.calls (Reads conn z waits (reading_of answer into) ∷ [])) asked told;
  so = subst (λ (z : ℕ). IsReadSo z waits (reading_of answer into)) asked (read_so size waits answer into fits not_now end same);
}

acted_read : {S : Type 0} (a b : Told) (s : S) (conn waits : ℕ) (reading : Reading) → ReadMade a b conn waits reading → Acted (seen a) (seen b) s (makes (Reads conn most_read waits reading) s)
acted_read a b s conn waits reading p = acted_makes a b s (Reads conn most_read waits reading) p.did p.told p.so

pub some_read : (answer : ReadAnswer) (into : List ℕ) → (answer ≡ read.NotNow → ⊥) → reading_of answer into ≡ NotNow → ⊥
some_read (read.Some n) into p q = cc
some_read read.NotNow into p q = p refl
some_read read.End into p q = cc
some_read read.Failed into p q = cc

read_acts : (a b c : Told) (r : Rules) (m : ℕ) (s t : Session KEnd) (x : Met) → ReadMade a b s.number x.waits x.reading
    → Printed b c t (came kept_ends x.reading r m s x.says) → Acted (seen a) (seen c) t (read_once kept_ends r m s x)
unfolding read_once
read_acts a b c r m s t x made p =
    acted_next (seen a) (seen b) (seen c) s t (makes (Reads s.number most_read x.waits x.reading) s) (λ y. prints (came kept_ends x.reading r m y x.says))
    (acted_read a b s s.number x.waits x.reading made) (acted_prints b c t (came kept_ends x.reading r m s x.says) p)

read_breaks : (a b c : Told) (r : Rules) (m : ℕ) (s : Session KEnd) (x : Met) (fault : LoopFault) → ReadMade a b s.number x.waits x.reading
    → Breaks b c (writes_of_entries (came kept_ends x.reading r m s x.says).1) fault → BreaksAt (seen a) (seen c) (read_once kept_ends r m s x) fault
unfolding read_once
read_breaks a b c r m s x fault made p =
    breaks_next (seen a) (seen b) (seen c) s (makes (Reads s.number most_read x.waits x.reading) s) (λ y. prints (came kept_ends x.reading r m y x.says)) fault
    (acted_read a b s s.number x.waits x.reading made) (breaks_prints b c (came kept_ends x.reading r m s x.says) fault p)

pub reads_broke : (a b c : Told) (r : Rules) (m : ℕ) (s : Session KEnd) (number waits : ℕ) (reading : Reading) (fault : LoopFault) → number ≡ s.number
    → ReadMade a b number waits reading → BrokeOff b c (came kept_ends reading r m s) fault → Stopped (seen a) (seen c) (session_behind_read r m s) fault
unfolding session_behind_read
reads_broke a b c r m s number waits reading fault same made p =
    let x : Met = record { waits = waits; reading = reading; says = p.answers; wrote = nothing_wrote; memory = true } in
    record {
      answers = x;
      breaks =
          breaks_first (seen a) (seen c) (read_once kept_ends r m s x) (λ t. rests_behind kept_ends reading r m t nothing_wrote) fault
          (read_breaks a b c r m s x fault (subst (λ (z : ℕ). ReadMade a b z waits reading) same made) p.breaks);
    }

-- a read that gave nothing yet
pub reads_stays : (a b c : Told) (r : Rules) (m : ℕ) (s t : Session KEnd) (number waits : ℕ) (reading : Reading) → number ≡ s.number → reading ≡ NotNow
    → ReadMade a b number waits reading → Chose b c t (came kept_ends reading r m s) → ActedSo (seen a) (seen c) (left true t) (session_behind_read r m s)
unfolding session_behind_read
reads_stays a b c r m s t number waits reading same none made p =
    let x : Met = record { waits = waits; reading = reading; says = p.answers; wrote = nothing_wrote; memory = true } in
    record {
      answers = x;
      is =
          acted_next (seen a) (seen c) (seen c) t (left true t) (read_once kept_ends r m s x) (λ y. rests_behind kept_ends reading r m y nothing_wrote)
          (read_acts a b c r m s t x (subst (λ (z : ℕ). ReadMade a b z waits reading) same made) p.is)
          (subst (λ z. Acted (seen c) (seen c) (left true t) (rests_behind kept_ends z r m t nothing_wrote)) (sym none) (acted_still (seen c) (left true t)));
    }

rests_as : (reading : Reading) (r : Rules) (m : ℕ) (t : Session KEnd) (a : visits.Wrote) → (reading ≡ NotNow → ⊥) → rests_behind kept_ends reading r m t a ≡ rests kept_ends r m t a
rests_as (Gave octets) r m t a some = refl
rests_as NotNow r m t a some = absurd (some refl)
rests_as End r m t a some = refl
rests_as Failed r m t a some = refl

-- another read
pub reads_rests : (a b c : Told) (e : Seen) (r : Rules) (m : ℕ) (s t new : Session KEnd) (number waits : ℕ) (reading : Reading) (res : Result Bool LoopFault)
    → number ≡ s.number → (reading ≡ NotNow → ⊥) → ReadMade a b number waits reading
    → Chose b c t (came kept_ends reading r m s) → Visits (seen c) e new (rests kept_ends r m t) res → Visits (seen a) e new (session_behind_read r m s) res
unfolding session_behind_read
reads_rests a b c e r m s t new number waits reading (Ok stay) same some made p q =
    let x : Met = record { waits = waits; reading = reading; says = p.answers; wrote = q.answers; memory = true } in
    record {
      answers = x;
      is =
          acted_next (seen a) (seen c) e t (left stay new) (read_once kept_ends r m s x) (λ y. rests_behind kept_ends reading r m y q.answers)
          (read_acts a b c r m s t x (subst (λ (z : ℕ). ReadMade a b z waits reading) same made) p.is)
          (subst (λ z. Acted (seen c) e (left stay new) z) (sym (rests_as reading r m t q.answers some)) q.is);
    }
reads_rests a b c e r m s t new number waits reading (Err fault) same some made p q =
    let x : Met = record { waits = waits; reading = reading; says = p.answers; wrote = q.answers; memory = true } in
    record {
      answers = x;
      breaks =
          breaks_next (seen a) (seen c) e t (read_once kept_ends r m s x) (λ y. rests_behind kept_ends reading r m y q.answers) fault
          (read_acts a b c r m s t x (subst (λ (z : ℕ). ReadMade a b z waits reading) same made) p.is)
          (subst (λ z. BreaksAt (seen c) e z fault) (sym (rests_as reading r m t q.answers some)) q.breaks);
    }

-- ---- visits

pub visit_not_read : (a : Seen) (r : Rules) (m : ℕ) (s : Session KEnd) → is_released kept_ends s ≡ true → ActedSo a a (left true s) (visited kept_ends r m visits.Read s)
unfolding visited
visit_not_read a r m s p = record { answers = nothing_met; is = rw p (acted_still a (s ∷ [])) }

noted_read : (a b : Seen) (r : Rules) (m : ℕ) (s new : Session KEnd) (res : Result Bool LoopFault) → is_released kept_ends s ≡ false → Visits a b new (session_behind_read r m (made s)) res → Visits a b new (visited kept_ends r m visits.Read s) res
unfolding visited session_behind_read
noted_read a b r m s new (Ok stay) p q = record { answers = q.answers; is = rw p q.is }
noted_read a b r m s new (Err fault) p q = record { answers = q.answers; breaks = rw p q.breaks }

pub visit_read : (a b : Seen) (r : Rules) (m : ℕ) (s t new : Session KEnd) (res : Result Bool LoopFault) → is_released kept_ends s ≡ false → t ≡ made s → Visits a b new (session_behind_read r m t) res → Visits a b new (visited kept_ends r m visits.Read s) res
visit_read a b r m s t new res p e q = noted_read a b r m s new res p (subst (λ z. Visits a b new (session_behind_read r m z) res) e q)

pub visit_write : (a b : Seen) (r : Rules) (m : ℕ) (s t new : Session KEnd) (res : Result Bool LoopFault) → t ≡ made s → Visits a b new (rests kept_ends r m t) res → Visits a b new (visited kept_ends r m visits.Write s) res
unfolding visited
visit_write a b r m s t new (Ok stay) e q =
    record { answers = record nothing_met { wrote = q.answers }; is = subst (λ z. Acted a b (left stay new) (rests kept_ends r m z q.answers)) e q.is }
visit_write a b r m s t new (Err fault) e q =
    record { answers = record nothing_met { wrote = q.answers }; breaks = subst (λ z. BreaksAt a b (rests kept_ends r m z q.answers) fault) e q.breaks }

pub visit_expire : (a b : Told) (r : Rules) (m : ℕ) (s : Session KEnd) (stay : Bool) → ClosesDueSession a b m s stay
    → ActedSo (seen a) (seen b) (left stay s) (visited kept_ends r m visits.Expire s)
unfolding visited
visit_expire a b r m s stay p = record { answers = nothing_met; is = p }
