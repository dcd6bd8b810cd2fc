-- Questions to the clock and draws of random words, which no part of the loop prints or calls; and what is left alone.
use Rattle.std.proofs.Common.{◌≡◌, ◌≤◌, ℕ, [], ◌∷◌, Result, Ok, Err, sym, ◌∙◌, ap, subst, refl, arith}
use Rattle.rand_core.specs.Stream.{next_u64}
use Rattle.link_trait.specs.Outside.{Grew}
use Rattle.link_trait.specs.States.{ClockState, WiresState}
use Rattle.outside.specs.Acts.{SeenCall, Called, Asked, Drew, Closed}
use Rattle.outside.specs.Doings.{Told, Did}
use Rattle.outside.specs.Ties.{AreDrawn}
use Rattle.loop_model.specs.Outs.{Out, still}
use Rattle.loop_session.specs.Parts.{OnlyPrints}
use Rattle.loop_session.specs.declared.loop_fault.LoopFault.{LoopFault}
use Rattle.loop_io.specs.Acting.{Acted, BreaksAt, ActedSo, Stopped, DoesLoopPart}
use Rattle.loop_io.specs.Seeing.{Seen, seen}
use Rattle.loop_io.specs.Sequels.{acted_next, breaks_next, acted_quietly}
use Rattle.loop_io.specs.Visiting.{Keep}
use Rattle.readiness_loop.specs.Courses.{Acts}
use Rattle.readiness_loop.specs.Lives.{LeavesTurns}

-- ---- what a question or a draw says by itself

pub asked_words : (a b : Told) (moment : ℕ) → Did a b (Asked moment ∷ []) → b.words ≡ a.words
unfolding AreDrawn
asked_words a b moment p = p.words

pub asked_wires : (a b : Told) (moment : ℕ) → Did a b (Asked moment ∷ []) → b.wires ≡ a.wires
asked_wires a b moment p = p.wires.rests refl

pub called_words : (a b : Told) (call : SeenCall) → Did a b (Called call ∷ []) → b.words ≡ a.words
unfolding AreDrawn
called_words a b call p = p.words

-- behind a turn and a question
pub turned_words : (a b c : Told) (call : SeenCall) (moment : ℕ) → Did a b (Called call ∷ []) → Did b c (Asked moment ∷ []) → c.words ≡ a.words
turned_words a b c call moment p q = asked_words b c moment q ∙ called_words a b call p

pub drew_word : (a b : Told) (word : ℕ) → Did a b (Drew word ∷ []) → word ≡ (next_u64 a.words).0
unfolding AreDrawn
drew_word a b word p = p.words.0

pub drew_words : (a b : Told) (word : ℕ) → Did a b (Drew word ∷ []) → b.words ≡ (next_u64 a.words).1
unfolding AreDrawn
drew_words a b word p = p.words.1

pub drew_wires : (a b : Told) (word : ℕ) → Did a b (Drew word ∷ []) → b.wires ≡ a.wires
drew_wires a b word p = p.wires.rests refl

-- the clock answered this moment, and wasn't asked again
pub asked_once : (a b c : Told) (moment : ℕ) → Did a b (Asked moment ∷ []) → c.clock ≡ b.clock → Grew a.clock.answers c.clock.answers (moment ∷ [])
asked_once a b c moment p same = subst (λ (z : ClockState). Grew a.clock.answers z.answers (moment ∷ [])) (sym same) p.clock.answers

-- ---- a part behind one

behind_nothing : {S : Type 0} (a b c : Seen) (new : S) (o : Out S) → Acted {S = ℕ} a b 0 (still 0) → Acted b c new o → Acted a c new o
behind_nothing a b c new o p q = acted_next a b c 0 new (still 0) (λ t. o) p q

breaks_behind_nothing : {S : Type 0} (a b c : Seen) (o : Out S) (fault : LoopFault) → Acted {S = ℕ} a b 0 (still 0) → BreaksAt b c o fault → BreaksAt a c o fault
breaks_behind_nothing a b c o fault p q = breaks_next a b c 0 (still 0) (λ t. o) fault p q

part_behind_nothing : {T S A : Type 0} (a b c : Seen) (new : S) (model : A → Out S) (r : Result T LoopFault) → Acted {S = ℕ} a b 0 (still 0) → DoesLoopPart b c new model r → DoesLoopPart a c new model r
part_behind_nothing a b c new model (Ok done) p q = record { answers = q.answers; is = behind_nothing a b c new (model q.answers) p q.is }
part_behind_nothing a b c new model (Err fault) p q = record { answers = q.answers; breaks = breaks_behind_nothing a b c (model q.answers) fault p q.breaks }

acts_behind_nothing : {T S : Type 0} (a b c : Seen) (new : S) (o : Out S) (r : Result T LoopFault) → Acted {S = ℕ} a b 0 (still 0) → Acts b c new o r → Acts a c new o r
acts_behind_nothing a b c new o (Ok done) p q = behind_nothing a b c new o p q
acts_behind_nothing a b c new o (Err fault) p q = breaks_behind_nothing a b c o fault p q

asked_nothing : (a b : Told) (moment : ℕ) → Did a b (Asked moment ∷ []) → Acted {S = ℕ} (seen a) (seen b) 0 (still 0)
asked_nothing a b moment p = acted_quietly a b 0 (Asked moment ∷ []) p refl refl refl

drew_nothing : (a b : Told) (word : ℕ) → Did a b (Drew word ∷ []) → Acted {S = ℕ} (seen a) (seen b) 0 (still 0)
drew_nothing a b word p = acted_quietly a b 0 (Drew word ∷ []) p refl refl refl

pub done_behind_asked : {S A : Type 0} (a b : Told) (c : Seen) (moment : ℕ) (new : S) (model : A → Out S) → Did a b (Asked moment ∷ []) → ActedSo (seen b) c new model → ActedSo (seen a) c new model
done_behind_asked a b c moment new model p q = record { answers = q.answers; is = behind_nothing (seen a) (seen b) c new (model q.answers) (asked_nothing a b moment p) q.is }

pub stopped_behind_asked : {S A : Type 0} (a b : Told) (c : Seen) (moment : ℕ) (model : A → Out S) (fault : LoopFault) → Did a b (Asked moment ∷ []) → Stopped (seen b) c model fault → Stopped (seen a) c model fault
stopped_behind_asked a b c moment model fault p q = record { answers = q.answers; breaks = breaks_behind_nothing (seen a) (seen b) c (model q.answers) fault (asked_nothing a b moment p) q.breaks }

pub part_behind_asked : {T S A : Type 0} (a b : Told) (c : Seen) (moment : ℕ) (new : S) (model : A → Out S) (r : Result T LoopFault) → Did a b (Asked moment ∷ []) → DoesLoopPart (seen b) c new model r → DoesLoopPart (seen a) c new model r
part_behind_asked a b c moment new model r p q = part_behind_nothing (seen a) (seen b) c new model r (asked_nothing a b moment p) q

pub part_behind_drawn : {T S A : Type 0} (a b : Told) (c : Seen) (word : ℕ) (new : S) (model : A → Out S) (r : Result T LoopFault) → Did a b (Drew word ∷ []) → DoesLoopPart (seen b) c new model r → DoesLoopPart (seen a) c new model r
part_behind_drawn a b c word new model r p q = part_behind_nothing (seen a) (seen b) c new model r (drew_nothing a b word p) q

pub acts_behind_asked : {T S : Type 0} (a b : Told) (c : Seen) (moment : ℕ) (new : S) (o : Out S) (r : Result T LoopFault) → Did a b (Asked moment ∷ []) → Acts (seen b) c new o r → Acts (seen a) c new o r
acts_behind_asked a b c moment new o r p q = acts_behind_nothing (seen a) (seen b) c new o r (asked_nothing a b moment p) q

pub acts_behind_drawn : {T S : Type 0} (a b : Told) (c : Seen) (word : ℕ) (new : S) (o : Out S) (r : Result T LoopFault) → Did a b (Drew word ∷ []) → Acts (seen b) c new o r → Acts (seen a) c new o r
acts_behind_drawn a b c word new o r p q = acts_behind_nothing (seen a) (seen b) c new o r (drew_nothing a b word p) q

pub done_behind_drawn : {S A : Type 0} (a b : Told) (c : Seen) (word : ℕ) (new : S) (model : A → Out S) → Did a b (Drew word ∷ []) → ActedSo (seen b) c new model → ActedSo (seen a) c new model
done_behind_drawn a b c word new model p q = record { answers = q.answers; is = behind_nothing (seen a) (seen b) c new (model q.answers) (drew_nothing a b word p) q.is }

pub stopped_behind_drawn : {S A : Type 0} (a b : Told) (c : Seen) (word : ℕ) (model : A → Out S) (fault : LoopFault) → Did a b (Drew word ∷ []) → Stopped (seen b) c model fault → Stopped (seen a) c model fault
stopped_behind_drawn a b c word model fault p q = record { answers = q.answers; breaks = breaks_behind_nothing (seen a) (seen b) c (model q.answers) fault (drew_nothing a b word p) q.breaks }

-- ---- what is left alone

pub keeps_all : (a : Told) → Keep a a
keeps_all a = record { opened = refl; listening = refl; turn_count = refl; count = omega arith; sunk = omega arith; clock = refl; words = refl }

pub keeps_then : (a b c : Told) → Keep a b → Keep b c → Keep a c
keeps_then a b c p q = record {
  opened = q.opened ∙ p.opened;
  listening = q.listening ∙ p.listening;
  turn_count = q.turn_count ∙ p.turn_count;
  count = (let x : a.wires.faults ≤ b.wires.faults = p.count in let y : b.wires.faults ≤ c.wires.faults = q.count in omega (arith, x, y));
  sunk = (let x : a.sink.faults ≤ b.sink.faults = p.sunk in let y : b.sink.faults ≤ c.sink.faults = q.sunk in omega (arith, x, y));
  clock = q.clock ∙ p.clock;
  words = q.words ∙ p.words;
}

-- lines were written, and then a connection was closed; lines alone
pub keeps_printed : (a b : Told) → OnlyPrints a b → Keep a b
keeps_printed a b p = record {
  opened = ap (λ (z : WiresState). z.opened) p.wires;
  listening = ap (λ (z : WiresState). z.listening) p.wires;
  turn_count = ap (λ (z : WiresState). z.turn_faults) p.wires;
  count = (let x : b.wires.faults ≡ a.wires.faults = ap (λ (z : WiresState). z.faults) p.wires in omega (arith, x));
  sunk = p.later;
  clock = p.clock;
  words = p.words;
}

keeps_closed : (a b : Told) (conn : ℕ) → Did a b (Called (Closed conn) ∷ []) → Keep a b
keeps_closed a b conn p = record {
  opened = p.wires.opened;
  listening = p.wires.listening;
  turn_count = p.wires.turns_rest refl;
  count = p.wires.faults.later;
  sunk = p.sink.faults.later;
  clock = p.clock.rests refl;
  words = called_words a b (Closed conn) p;
}

pub keeps_away : (a b c : Told) (conn : ℕ) → OnlyPrints a b → Did b c (Called (Closed conn) ∷ []) → Keep a c
keeps_away a b c conn p q = keeps_then a b c (keeps_printed a b p) (keeps_closed b c conn q)

pub leaves_kept : (a b : Told) → Keep a b → LeavesTurns a b
leaves_kept a b p = record { opened = p.opened; listening = p.listening; turn_count = p.turn_count; clock = p.clock }

-- behind a question to the clock
pub opened_same : (a b c : Told) (moment : ℕ) → Did a b (Asked moment ∷ []) → Keep b c → c.wires.opened ≡ a.wires.opened
opened_same a b c moment p q = q.opened ∙ ap (λ (z : WiresState). z.opened) (asked_wires a b moment p)

pub turns_same : (a b c : Told) (moment : ℕ) → Did a b (Asked moment ∷ []) → Keep b c → c.wires.turn_faults ≡ a.wires.turn_faults
turns_same a b c moment p q = q.turn_count ∙ ap (λ (z : WiresState). z.turn_faults) (asked_wires a b moment p)

pub listening_same : (a b c : Told) (moment : ℕ) → Did a b (Asked moment ∷ []) → Keep b c → c.wires.listening ≡ a.wires.listening
listening_same a b c moment p q = q.listening ∙ ap (λ (z : WiresState). z.listening) (asked_wires a b moment p)

pub leaves_all : (a : Told) → LeavesTurns a a
leaves_all a = record { opened = refl; listening = refl; turn_count = refl; clock = refl }

pub leaves_drawn : (a b c : Told) (word : ℕ) → Did a b (Drew word ∷ []) → Keep b c → LeavesTurns a c
leaves_drawn a b c word p q = record {
  opened = q.opened ∙ ap (λ (z : WiresState). z.opened) (drew_wires a b word p);
  listening = q.listening ∙ ap (λ (z : WiresState). z.listening) (drew_wires a b word p);
  turn_count = q.turn_count ∙ ap (λ (z : WiresState). z.turn_faults) (drew_wires a b word p);
  clock = q.clock ∙ p.clock.rests refl;
}

pub leaves_word : (a b : Told) (word : ℕ) → Did a b (Drew word ∷ []) → LeavesTurns a b
leaves_word a b word p = record {
  opened = ap (λ (z : WiresState). z.opened) (drew_wires a b word p);
  listening = ap (λ (z : WiresState). z.listening) (drew_wires a b word p);
  turn_count = ap (λ (z : WiresState). z.turn_faults) (drew_wires a b word p);
  clock = p.clock.rests refl;
}
