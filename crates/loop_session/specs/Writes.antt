-- Lemmas: the writes of events, one part behind another, what they leave in the sink, and how they break off; for the proofs of the crates above.
use Rattle.std.proofs.Common.{◌≡◌, ℕ, true, false, List, [], ◌∷◌, ◌++◌, Bool, ◌||◌, refl, sym, ap, subst, ◌∙◌, append_assoc, append-nil}
use Rattle.std.specs.List.{list_any}
use Rattle.std.proofs.lemmas.List.Folds.{list_any-append}
use Rattle.link_trait.specs.Outside.{Grew, GrewPart}
use Rattle.loop_model.specs.Journals.{JournalEntry, entry_text, text}
use Rattle.outside.specs.Acts.{Act, Wrote, is_sink_fault}
use Rattle.outside.specs.ActSteps.{left_by_both, left_by_printing, leaves_some}
use Rattle.outside.specs.Doings.{Told, Did}
use Rattle.outside.specs.Scripts.{printing}
use Rattle.outside.specs.Ties.{IsLeft, PutsInSink}
use Rattle.outside.specs.TieSteps.{left_then}
use Rattle.loop_session.specs.declared.loop_fault.LoopFault.{LoopFault}
use Rattle.loop_session.specs.declared.loop_fault.LoopFault.TheVariants.{Wires, Sink, NoMemory}
use Rattle.loop_session.specs.Parts.{writes_of_entries, FailedFor, AreBegun, Breaks}

pub writes_parts : (xs ys : List JournalEntry) → writes_of_entries (xs ++ ys) ≡ writes_of_entries xs ++ writes_of_entries ys
writes_parts [] ys = refl
writes_parts (x ∷ xs) ys =
    ap (λ (z : List Act). printing (entry_text x) ++ z) (writes_parts xs ys) ∙ sym
    (append_assoc (printing (entry_text x)) (writes_of_entries xs) (writes_of_entries ys))

-- ---- beginnings of acts

-- a beginning of acts is one of these and more
pub begun_more : (fault : LoopFault) (xs ys acts : List Act) → AreBegun fault xs acts → AreBegun fault (xs ++ ys) acts
begun_more Wires xs ys acts p = absurd p.breaks
begun_more Sink xs ys acts p = record {
  done = p.done;
  left = p.left ++ ys;
  is = sym (append_assoc p.done p.left ys) ∙ ap (λ (z : List Act). z ++ ys) p.is;
  breaks = record { piece = p.breaks.piece; rest = p.breaks.rest ++ ys; next = ap (λ (z : List Act). z ++ ys) p.breaks.next; are = p.breaks.are };
}
begun_more (NoMemory want) xs ys acts p = record {
  done = p.done;
  left = p.left ++ ys;
  is = sym (append_assoc p.done p.left ys) ∙ ap (λ (z : List Act). z ++ ys) p.is;
  breaks = p.breaks;
}

-- behind acts that were done
pub begun_behind : (fault : LoopFault) (xs ys acts : List Act) → AreBegun fault ys acts → AreBegun fault (xs ++ ys) (xs ++ acts)
begun_behind Wires xs ys acts p = absurd p.breaks
begun_behind Sink xs ys acts p = record {
  done = xs ++ p.done;
  left = p.left;
  is = append_assoc xs p.done p.left ∙ ap (λ (z : List Act). xs ++ z) p.is;
  breaks = record {
    piece = p.breaks.piece;
    rest = p.breaks.rest;
    next = p.breaks.next;
    are = ap (λ (z : List Act). xs ++ z) p.breaks.are ∙ sym (append_assoc xs p.done (Wrote p.breaks.piece false ∷ []));
  };
}
begun_behind (NoMemory want) xs ys acts p = record {
  done = xs ++ p.done;
  left = p.left;
  is = append_assoc xs p.done p.left ∙ ap (λ (z : List Act). xs ++ z) p.is;
  breaks = ap (λ (z : List Act). xs ++ z) p.breaks;
}

-- ---- what they leave in the sink

writes_leave : (xs : List JournalEntry) (all : List ℕ) → IsLeft PutsInSink (writes_of_entries xs) all → all ≡ text xs
unfolding IsLeft
writes_leave [] all p = p
writes_leave (x ∷ xs) all p =
    let more = left_by_printing (entry_text x) (writes_of_entries xs) all p in
    more.is ∙ ap (λ (z : List ℕ). entry_text x ++ z) (writes_leave xs more.rest more.by_rest)

-- the text of the events was written
pub text_written : (a b : Told) (xs : List JournalEntry) → Did a b (writes_of_entries xs) → Grew a.sink.held b.sink.held (text xs)
text_written a b xs p = subst (λ (z : List ℕ). Grew a.sink.held b.sink.held z) (writes_leave xs p.sink.held.more p.sink.held.left) p.sink.held.grew

-- a piece of which a beginning was put there, with all that would have come behind it
put_together : (first rest cut more piece octets : List ℕ) → rest ++ cut ≡ piece → octets ≡ first ++ rest → first ++ (piece ++ more) ≡ octets ++ (cut ++ more)
put_together first rest cut more piece octets whole is =
    ap (λ (z : List ℕ). first ++ (z ++ more)) (sym whole) ∙ ap (λ (z : List ℕ). first ++ z) (append_assoc rest cut more) ∙ sym
    (append_assoc first rest (cut ++ more))
    ∙ ap (λ (z : List ℕ). z ++ (cut ++ more)) (sym is)

-- a write that failed put a beginning of its piece there
record PutPart (piece octets : List ℕ) : Type 0 where
  cut : List ℕ
  whole : octets ++ cut ≡ piece

failed_put : (piece octets : List ℕ) → IsLeft PutsInSink (Wrote piece false ∷ []) octets → PutPart piece octets
unfolding IsLeft
failed_put piece octets p = record {
  cut = p.2.0;
  whole = ap (λ (z : List ℕ). z ++ p.2.0) (p.4 ∙ ap (λ (z : List ℕ). p.0 ++ z) p.3 ∙ append-nil p.0) ∙ p.2.1;
}

done_put : (piece : List ℕ) (acts : List Act) (octets : List ℕ) → IsLeft PutsInSink acts octets → IsLeft PutsInSink (Wrote piece true ∷ acts) (piece ++ octets)
unfolding IsLeft
done_put piece acts octets p = (piece, octets, refl, p, refl)

-- what all would have left begins with what was left
record LeftPart (all : List Act) (octets : List ℕ) : Type 0 where
  rest : List ℕ
  left : IsLeft PutsInSink all (octets ++ rest)

begun_leave : (fault : LoopFault) (all acts : List Act) (octets : List ℕ) → AreBegun fault all acts → IsLeft PutsInSink acts octets → LeftPart all octets
begun_leave Wires all acts octets p left = absurd p.breaks
begun_leave Sink all acts octets p left =
    let both = left_by_both PutsInSink p.done (Wrote p.breaks.piece false ∷ []) octets
    (subst (λ (z : List Act). IsLeft PutsInSink z octets) p.breaks.are left) in
    let part = failed_put p.breaks.piece both.rest both.by_rest in
    let more = leaves_some p.breaks.rest in
    record {
      rest = part.cut ++ more.all;
      left =
          subst (λ (z : List Act). IsLeft PutsInSink z (octets ++ (part.cut ++ more.all))) (ap (λ (z : List Act). p.done ++ z) (sym p.breaks.next) ∙ p.is)
          (subst (λ (z : List ℕ). IsLeft PutsInSink (p.done ++ Wrote p.breaks.piece true ∷ p.breaks.rest) z)
          (put_together both.first both.rest part.cut more.all p.breaks.piece octets part.whole both.is)
          (left_then PutsInSink p.done (Wrote p.breaks.piece true ∷ p.breaks.rest) both.first (p.breaks.piece ++ more.all) both.by_first
          (done_put p.breaks.piece p.breaks.rest more.all more.left)));
    }
begun_leave (NoMemory want) all acts octets p left =
    let more = leaves_some p.left in
    record {
      rest = more.all;
      left =
          subst (λ (z : List Act). IsLeft PutsInSink z (octets ++ more.all)) p.is
          (left_then PutsInSink p.done p.left octets more.all (subst (λ (z : List Act). IsLeft PutsInSink z octets) p.breaks left) more.left);
    }

-- a beginning of the text of the events was written
pub text_begun : (a b : Told) (xs : List JournalEntry) (fault : LoopFault) → Breaks a b (writes_of_entries xs) fault
    → GrewPart a.sink.held b.sink.held (text xs)
text_begun a b xs fault p =
    let rest = begun_leave fault (writes_of_entries xs) p.acts p.did.sink.held.more p.begun p.did.sink.held.left in
    record { part = p.did.sink.held.more; rest = rest.rest; is = writes_leave xs (p.did.sink.held.more ++ rest.rest) rest.left; grew = p.did.sink.held.grew }

-- how often the sink failed
pub failed_for : (a b : Told) (all : List Act) (fault : LoopFault) → Breaks a b all fault → FailedFor fault a.sink.faults b.sink.faults
failed_for a b all Wires p = p.begun.breaks
failed_for a b all Sink p =
    let fails : list_any is_sink_fault p.acts ≡ true =
    ap (λ (z : List Act). list_any is_sink_fault z) p.begun.breaks.are ∙ list_any-append is_sink_fault p.begun.done (Wrote p.begun.breaks.piece false ∷ [])
    ∙ or_true (list_any is_sink_fault p.begun.done) in
    p.did.sink.faults.rose fails
  where
    or_true : (b : Bool) → (b || true) ≡ true
    or_true true = refl
    or_true false = refl
failed_for a b all (NoMemory want) p = p.did.sink.faults.later
