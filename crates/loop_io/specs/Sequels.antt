-- Lemmas: one part of the loop behind another; how parts end, for the proofs of the crates above.
use Rattle.std.proofs.Common.{◌≡◌, ◌≤◌, ℕ, ◌+◌, ◌-◌, ◌^◌, min, true, false, Bool, ◌||◌, IsTrue, IsFalse, List, [], ◌∷◌, ◌++◌, filter, refl, sym, ◌∙◌, ap, subst}
use Rattle.std.proofs.Common.{append-nil, append_assoc, true≢false, arith}
use Rattle.std.specs.List.{list_any}
use Rattle.er_base.specs.declared.no_memory.NoMemory.{NoMemory as Want}
use Rattle.link_trait.specs.Outside.{Grew, Rose}
use Rattle.link_trait.specs.Growth.{grew_nothing, grew_then}
use Rattle.link_trait.specs.States.{SinkState, WiresState}
use Rattle.link_trait.specs.Wires.{Call, Listens, Dials, Turns, Reads, Writes, Closes, Gave, NotNow, End, Failed}
use Rattle.link_trait.specs.declared.wires.WriteAnswer.TheVariants as write
use Rattle.loop_model.specs.Grammar.{AreInGrammar}
use Rattle.loop_model.specs.Journals.{JournalEntry, entry_text, text}
use Rattle.loop_model.specs.Deeds.{LoopDeed, printings, Sign, octet_signs, signs, text_of, calls_of}
use Rattle.loop_model.specs.Outs.{Out, HasOrder, still, next, changed, prints, makes}
use Rattle.loop_model.specs.Signs.{octets_parts, text_parts as text_of_parts, calls_of_parts, octets_text, octets_calls, signs_parts, printings_signs}
use Rattle.loop_model.specs.Signs.{order_still, order_next, order_changed, order_prints, order_makes, order_text, order_calls}
use Rattle.loop_model.specs.Laws.{is_failed, failures}
use Rattle.outside.specs.Acts.{Act, Fetched, Wrote, Called, Asked, Drew, is_write, is_call, failed_call}
use Rattle.outside.specs.Doings.{Told, Did}
use Rattle.outside.specs.Scripts.{printing}
use Rattle.outside.specs.Seen.{seen_of_call}
use Rattle.loop_session.specs.declared.loop_fault.LoopFault.{LoopFault}
use Rattle.loop_session.specs.declared.loop_fault.LoopFault.TheVariants.{Wires, Sink, NoMemory}
use Rattle.loop_session.specs.Parts.{writes_of_entries, FailedFor, AreBegun, Breaks, Printed}
use Rattle.loop_session.specs.Writes.{text_written, text_begun, failed_for}
use Rattle.loop_io.specs.Acting.{is_of_deeds, BeganDeeds, Acted, BreaksAt}
use Rattle.loop_io.specs.DeedSteps.{deeds_none, deeds_then, deeds_call, deeds_printed, began_more, began_behind, began_none, began_all, began_printing}
use Rattle.loop_io.specs.Seeing.{Seen, seen, IsAnsweredSo, AreAnsweredSo, Counts}

-- ---- texts, answers, counts and grammar of both

pub entries_text_parts : (xs ys : List JournalEntry) → text (xs ++ ys) ≡ text xs ++ text ys
entries_text_parts [] ys = refl
entries_text_parts (x ∷ xs) ys = ap (λ z. entry_text x ++ z) (entries_text_parts xs ys) ∙ sym (append_assoc (entry_text x) (text xs) (text ys))

pub answered_parts : (xs ys : List Call) → AreAnsweredSo xs → AreAnsweredSo ys → AreAnsweredSo (xs ++ ys)
answered_parts [] ys p q = q
answered_parts (x ∷ xs) ys p q = (p.0, answered_parts xs ys p.1 q)

pub grammar_parts : (xs ys : List JournalEntry) → AreInGrammar xs → AreInGrammar ys → AreInGrammar (xs ++ ys)
grammar_parts [] ys p q = q
grammar_parts (x ∷ xs) ys p q = (p.0, grammar_parts xs ys p.1 q)

pub failures_parts : (xs ys : List Call) → failures (xs ++ ys) ≡ failures xs + failures ys
unfolding failures
failures_parts [] ys = (let p : failures ys ≡ 0 + failures ys = omega arith in p)
failures_parts (x ∷ xs) ys = (let p = failures_parts xs ys in omega (arith, p))

pub counts_none : (f g : ℕ) → f ≤ g → Counts f g []
unfolding failures
counts_none f g p = omega (arith, p)

-- a call that didn't fail
pub counts_other : (f g : ℕ) (call : Call) → is_failed call ≡ false → f ≤ g → Counts f g (call ∷ [])
unfolding failures
counts_other f g call p q = rw p (let z : min (f + (0 + 0)) (2 ^ 64 - 1) ≤ g = omega (arith, q) in z)

-- a call that failed
pub counts_failed : (f g : ℕ) (call : Call) → is_failed call ≡ true → Rose f g → Counts f g (call ∷ [])
unfolding failures
counts_failed f g call p q = rw p (let z : min (f + (1 + 0)) (2 ^ 64 - 1) ≤ g = omega (arith, q) in z)

pub counts_then : (f g h : ℕ) (xs ys : List Call) → Counts f g xs → Counts g h ys → Counts f h (xs ++ ys)
counts_then f g h xs ys p q = (let z = failures_parts xs ys in omega (arith, z, p, q))

-- the reads and writes that failed are counted
counts_call : (f g : ℕ) (call : Call) → f ≤ g → (IsTrue (failed_call (seen_of_call call)) → Rose f g) → Counts f g (call ∷ [])
counts_call f g (Listens address listens) p q = counts_other f g (Listens address listens) refl p
counts_call f g (Dials address conn) p q = counts_other f g (Dials address conn) refl p
counts_call f g (Turns until what) p q = counts_other f g (Turns until what) refl p
counts_call f g (Reads conn size waits (Gave octets)) p q = counts_other f g (Reads conn size waits (Gave octets)) refl p
counts_call f g (Reads conn size waits NotNow) p q = counts_other f g (Reads conn size waits NotNow) refl p
counts_call f g (Reads conn size waits End) p q = counts_other f g (Reads conn size waits End) refl p
counts_call f g (Reads conn size waits Failed) p q = counts_failed f g (Reads conn size waits Failed) refl (q refl)
counts_call f g (Writes conn piece (write.Some n)) p q = counts_other f g (Writes conn piece (write.Some n)) refl p
counts_call f g (Writes conn piece write.NotNow) p q = counts_other f g (Writes conn piece write.NotNow) refl p
counts_call f g (Writes conn piece write.Failed) p q = counts_failed f g (Writes conn piece write.Failed) refl (q refl)
counts_call f g (Closes conn) p q = counts_other f g (Closes conn) refl p

pub counts_did : (a b : Told) (call : Call) → Did a b (Called (seen_of_call call) ∷ []) → Counts a.wires.faults b.wires.faults (call ∷ [])
counts_did a b call p = counts_call a.wires.faults b.wires.faults call p.wires.faults.later
    (λ h. p.wires.faults.rose (alone (failed_call (seen_of_call call)) h))
  where
    alone : (f : Bool) → IsTrue f → (f || false) ≡ true
    alone true h = refl
    alone false h = h

-- ---- parts that were done

pub acted_still : {S : Type 0} (a : Seen) (s : S) → Acted a a s (still s)
acted_still a s = record {
  state = refl;
  printed = grew_nothing a.held;
  later = omega arith;
  told = grew_nothing a.calls;
  answered = tt;
  counted = counts_none a.failed a.failed (let z : a.failed ≤ a.failed = omega arith in z);
  in_grammar = tt;
  has_order = order_still s;
  did = deeds_none a.told;
}

pub acted_next : {S T : Type 0} (a b c : Seen) (mid : S) (new : T) (o : Out S) (f : S → Out T) → Acted a b mid o → Acted b c new (f mid)
    → Acted a c new (next o f)
acted_next a b c mid new o f p q = behind (subst (λ z. Acted b c new (f z)) p.state q)
  where
    behind : Acted b c new (f o.state) → Acted a c new (next o f)
    behind q = record {
      state = q.state;
      printed = subst (λ z. Grew a.held c.held z) (sym (entries_text_parts o.entries (f o.state).entries))
          (grew_then a.held b.held c.held (text o.entries) (text (f o.state).entries) p.printed q.printed);
      later = (let x : a.sunk ≤ b.sunk = p.later in let y : b.sunk ≤ c.sunk = q.later in omega (arith, x, y));
      told = grew_then a.calls b.calls c.calls o.calls (f o.state).calls p.told q.told;
      answered = answered_parts o.calls (f o.state).calls p.answered q.answered;
      counted = counts_then a.failed b.failed c.failed o.calls (f o.state).calls p.counted q.counted;
      in_grammar = grammar_parts o.entries (f o.state).entries p.in_grammar q.in_grammar;
      has_order = order_next o f p.has_order q.has_order;
      did = deeds_then a.told b.told c.told o.order (f o.state).order p.did q.did;
    }

pub acted_changed : {S T : Type 0} (a b : Seen) (g : S → T) (new : S) (o : Out S) → Acted a b new o → Acted a b (g new) (changed g o)
acted_changed a b g new o p = record {
  state = ap g p.state;
  printed = p.printed;
  later = p.later;
  told = p.told;
  answered = p.answered;
  counted = p.counted;
  in_grammar = p.in_grammar;
  has_order = order_changed g o p.has_order;
  did = p.did;
}

-- a part that made no call leaves the wires alone
no_write_calls : (xs : List JournalEntry) → IsFalse (list_any is_call (writes_of_entries xs))
no_write_calls [] = refl
no_write_calls (x ∷ xs) = behind (entry_text x) (no_write_calls xs)
  where
    behind : (line : List ℕ) → IsFalse (list_any is_call (writes_of_entries xs)) → IsFalse (list_any is_call (printing line ++ writes_of_entries xs))
    behind [] none = none
    behind (octet ∷ octets) none = none

pub acted_prints : {S : Type 0} (a b : Told) (new : S) (x : S × List JournalEntry) → Printed a b new x → Acted (seen a) (seen b) new (prints x)
acted_prints a b new x p =
    let same = p.did.wires.rests (no_write_calls x.1) in
    record {
      state = p.state;
      printed = text_written a b x.1 p.did;
      later = p.did.sink.faults.later;
      told = subst (λ (z : WiresState). Grew a.wires.calls z.calls []) (sym same) (grew_nothing a.wires.calls);
      answered = tt;
      counted = subst (λ (z : WiresState). Counts a.wires.faults z.faults []) (sym same)
          (counts_none a.wires.faults a.wires.faults (let z : a.wires.faults ≤ a.wires.faults = omega arith in z));
      in_grammar = p.in_grammar;
      has_order = order_prints x;
      did = deeds_printed a b x.1 p.did;
    }

pub acted_makes : {S : Type 0} (a b : Told) (s : S) (call : Call) → Did a b (Called (seen_of_call call) ∷ []) → Grew a.wires.calls b.wires.calls (call ∷ [])
    → IsAnsweredSo call
    → Acted (seen a) (seen b) s (makes call s)
acted_makes a b s call p told answered =
    let same = p.sink.rests refl in
    record {
      state = refl;
      printed = subst (λ (z : SinkState). Grew a.sink.held z.held []) (sym same) (grew_nothing a.sink.held);
      later = p.sink.faults.later;
      told = told;
      answered = (answered, tt);
      counted = counts_did a b call p;
      in_grammar = tt;
      has_order = order_makes call s;
      did = deeds_call a b call p;
    }

-- a moment was asked for, or a word was drawn, and nothing else was done
pub acted_quietly : {S : Type 0} (a b : Told) (s : S) (acts : List Act) → Did a b acts → IsFalse (list_any is_write acts) → IsFalse (list_any is_call acts)
    → filter is_of_deeds acts ≡ [] → Acted (seen a) (seen b) s (still s)
acted_quietly a b s acts p no_write no_call are =
    let sinks = p.sink.rests no_write in
    let wires = p.wires.rests no_call in
    record {
      state = refl;
      printed = subst (λ (z : SinkState). Grew a.sink.held z.held []) (sym sinks) (grew_nothing a.sink.held);
      later = p.sink.faults.later;
      told = subst (λ (z : WiresState). Grew a.wires.calls z.calls []) (sym wires) (grew_nothing a.wires.calls);
      answered = tt;
      counted = subst (λ (z : WiresState). Counts a.wires.faults z.faults []) (sym wires)
          (counts_none a.wires.faults a.wires.faults (let z : a.wires.faults ≤ a.wires.faults = omega arith in z));
      in_grammar = tt;
      has_order = order_still s;
      did = record { acts = acts; did = p; are = are };
    }

-- ---- parts that broke off

-- the sink failed no more often than before a part that went before
pub failed_behind : (f g h : ℕ) (fault : LoopFault) → f ≤ g → FailedFor fault g h → FailedFor fault f h
failed_behind f g h Wires p q = q
failed_behind f g h Sink p q = (let r : Rose g h = q in omega (arith, p, r))
failed_behind f g h (NoMemory want) p q = (let r : g ≤ h = q in omega (arith, p, r))

-- the first of two parts broke off
pub breaks_first : {S T : Type 0} (a b : Seen) (o : Out S) (f : S → Out T) (fault : LoopFault) → BreaksAt a b o fault → BreaksAt a b (next o f) fault
breaks_first a b o f fault p = record {
  part = p.part;
  rest = p.rest ++ signs (f o.state).order;
  is =
      sym (append_assoc p.part p.rest (signs (f o.state).order)) ∙ ap (λ z. z ++ signs (f o.state).order) p.is
      ∙ sym (signs_parts o.order (f o.state).order);
  printed = p.printed;
  told = p.told;
  answered = p.answered;
  counted = p.counted;
  failed = p.failed;
  began = began_more a.told b.told o.order (f o.state).order fault p.began;
}

-- behind a part that was done, so much more came out
pub text_grows_behind_part : {S : Type 0} (a b c : Seen) (s : S) (o : Out S) (more : List Sign) → Acted a b s o → Grew b.held c.held (text_of more)
    → Grew a.held c.held (text_of (signs o.order ++ more))
text_grows_behind_part a b c s o more p q =
    subst (λ z. Grew a.held c.held z) (sym (text_of_parts (signs o.order) more ∙ ap (λ z. z ++ text_of more) (order_text o p.has_order)))
    (grew_then a.held b.held c.held (text o.entries) (text_of more) p.printed q)

pub calls_are : {S : Type 0} (o : Out S) (more : List Sign) → HasOrder o → o.calls ++ calls_of more ≡ calls_of (signs o.order ++ more)
calls_are o more p = sym (calls_of_parts (signs o.order) more ∙ ap (λ z. z ++ calls_of more) (order_calls o p))

-- the second of two parts broke off
pub breaks_next : {S T : Type 0} (a b c : Seen) (mid : S) (o : Out S) (f : S → Out T) (fault : LoopFault) → Acted a b mid o → BreaksAt b c (f mid) fault
    → BreaksAt a c (next o f) fault
breaks_next a b c mid o f fault p q = behind (subst (λ z. BreaksAt b c (f z) fault) p.state q)
  where
    behind : BreaksAt b c (f o.state) fault → BreaksAt a c (next o f) fault
    behind q = record {
      part = signs o.order ++ q.part;
      rest = q.rest;
      is = append_assoc (signs o.order) q.part q.rest ∙ ap (λ z. signs o.order ++ z) q.is ∙ sym (signs_parts o.order (f o.state).order);
      printed = text_grows_behind_part a b c mid o q.part p q.printed;
      told = subst (λ z. Grew a.calls c.calls z) (calls_are o q.part p.has_order) (grew_then a.calls b.calls c.calls o.calls (calls_of q.part) p.told q.told);
      answered = subst AreAnsweredSo (calls_are o q.part p.has_order) (answered_parts o.calls (calls_of q.part) p.answered q.answered);
      counted = subst (λ z. Counts a.failed c.failed z) (calls_are o q.part p.has_order)
          (counts_then a.failed b.failed c.failed o.calls (calls_of q.part) p.counted q.counted);
      failed = failed_behind a.sunk b.sunk c.sunk fault p.later q.failed;
      began = began_behind a.told b.told c.told o.order (f o.state).order fault p.did q.began;
    }

pub breaks_changed : {S T : Type 0} (a b : Seen) (g : S → T) (o : Out S) (fault : LoopFault) → BreaksAt a b o fault → BreaksAt a b (changed g o) fault
breaks_changed a b g o fault p = record {
  part = p.part;
  rest = p.rest;
  is = p.is;
  printed = p.printed;
  told = p.told;
  answered = p.answered;
  counted =
      p.counted;
  failed = p.failed;
  began = p.began;
}

-- no call is among a beginning of writes
first_calls : (xs ys : List Act) → IsFalse (list_any is_call (xs ++ ys)) → IsFalse (list_any is_call xs)
first_calls [] ys p = refl
first_calls (Fetched name answer ∷ xs) ys p = first_calls xs ys p
first_calls (Wrote piece done ∷ xs) ys p = first_calls xs ys p
first_calls (Called call ∷ xs) ys p = absurd (true≢false p)
first_calls (Asked moment ∷ xs) ys p = first_calls xs ys p
first_calls (Drew word ∷ xs) ys p = first_calls xs ys p

more_calls : (xs : List Act) (piece : List ℕ) → IsFalse (list_any is_call xs) → IsFalse (list_any is_call (xs ++ Wrote piece false ∷ []))
more_calls [] piece p = refl
more_calls (Fetched name answer ∷ xs) piece p = more_calls xs piece p
more_calls (Wrote text done ∷ xs) piece p = more_calls xs piece p
more_calls (Called call ∷ xs) piece p = absurd (true≢false p)
more_calls (Asked moment ∷ xs) piece p = more_calls xs piece p
more_calls (Drew word ∷ xs) piece p = more_calls xs piece p

begun_calls : (fault : LoopFault) (xs : List JournalEntry) (acts : List Act) → AreBegun fault (writes_of_entries xs) acts → IsFalse (list_any is_call acts)
begun_calls Wires xs acts p = absurd p.breaks
begun_calls Sink xs acts p =
    subst (λ (z : List Act). IsFalse (list_any is_call z)) (sym p.breaks.are)
    (more_calls p.done p.breaks.piece (first_calls p.done p.left (subst (λ (z : List Act). IsFalse (list_any is_call z)) (sym p.is) (no_write_calls xs))))
begun_calls (NoMemory want) xs acts p =
    subst (λ (z : List Act). IsFalse (list_any is_call z)) (sym p.breaks)
    (first_calls p.done p.left (subst (λ (z : List Act). IsFalse (list_any is_call z)) (sym p.is) (no_write_calls xs)))

-- a beginning of the lines of events that are printed first
pub breaks_lines : {S : Type 0} (a b : Told) (o : Out S) (xs : List JournalEntry) (more : List LoopDeed) (fault : LoopFault) → o.order ≡ printings xs ++ more
    → Breaks a b (writes_of_entries xs) fault → BreaksAt (seen a) (seen b) o fault
unfolding failures
breaks_lines a b o xs more fault same p =
    let begun = text_begun a b xs fault p in
    let wires = p.did.wires.rests (begun_calls fault xs p.acts p.begun) in
    let none : [] ≡ calls_of (octet_signs begun.part) = sym (octets_calls begun.part) in
    let still : Grew a.wires.calls b.wires.calls [] = subst (λ (z : WiresState). Grew a.wires.calls z.calls []) (sym wires) (grew_nothing a.wires.calls) in
    record {
      part = octet_signs begun.part;
      rest = octet_signs begun.rest ++ signs more;
      is =
          sym (append_assoc (octet_signs begun.part) (octet_signs begun.rest) (signs more))
          ∙ ap (λ z. z ++ signs more) (sym (octets_parts begun.part begun.rest) ∙ ap octet_signs begun.is ∙ sym (printings_signs xs))
          ∙ sym (signs_parts (printings xs) more) ∙ ap signs (sym same);
      printed = subst (λ z. Grew a.sink.held b.sink.held z) (sym (octets_text begun.part)) begun.grew;
      told = subst (λ z. Grew a.wires.calls b.wires.calls z) none still;
      answered = subst AreAnsweredSo none tt;
      counted = subst (λ z. Counts a.wires.faults b.wires.faults z) none (counts_none a.wires.faults b.wires.faults p.did.wires.faults.later);
      failed = failed_for a b (writes_of_entries xs) fault p;
      began = subst (λ (z : List LoopDeed). BeganDeeds a b z fault) (sym same) (began_more a b (printings xs) more fault (began_printing a b xs fault p));
    }

pub breaks_prints : {S : Type 0} (a b : Told) (x : S × List JournalEntry) (fault : LoopFault) → Breaks a b (writes_of_entries x.1) fault
    → BreaksAt (seen a) (seen b) (prints x) fault
breaks_prints a b x fault p = breaks_lines a b (prints x) x.1 [] fault (sym (append-nil (printings x.1))) p

-- memory ran out before anything was printed and called
pub breaks_wanted : {S : Type 0} (a : Seen) (o : Out S) (want : Want) → BreaksAt a a o (NoMemory want)
unfolding text_of calls_of
breaks_wanted a o want = record {
  part = [];
  rest = signs o.order;
  is = refl;
  printed = grew_nothing a.held;
  told = grew_nothing a.calls;
  answered = tt;
  counted = counts_none a.failed a.failed (let z : a.failed ≤ a.failed = omega arith in z);
  failed = (let z : a.sunk ≤ a.sunk = omega arith in z);
  began = began_none a.told o.order want;
}

-- memory ran out behind all that a part printed and called
pub breaks_behind : {S : Type 0} (a b : Seen) (new : S) (o : Out S) (want : Want) → Acted a b new o → BreaksAt a b o (NoMemory want)
breaks_behind a b new o want p = record {
  part = signs o.order;
  rest = [];
  is = append-nil (signs o.order);
  printed = subst (λ z. Grew a.held b.held z) (sym (order_text o p.has_order)) p.printed;
  told = subst (λ z. Grew a.calls b.calls z) (sym (order_calls o p.has_order)) p.told;
  answered = subst AreAnsweredSo (sym (order_calls o p.has_order)) p.answered;
  counted = subst (λ z. Counts a.failed b.failed z) (sym (order_calls o p.has_order)) p.counted;
  failed = p.later;
  began = began_all a.told b.told o.order want p.did;
}
