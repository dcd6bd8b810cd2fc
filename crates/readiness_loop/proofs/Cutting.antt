-- Where a part broke off, as a cut.
use Rattle.std.proofs.Common.{◌≡◌, ◌++◌, sym, ◌∙◌, ap, subst, append_assoc}
use Rattle.link_trait.specs.Outside.{Grew}
use Rattle.link_trait.specs.Growth.{grew_then}
use Rattle.loop_model.specs.Deeds.{signs, calls_of}
use Rattle.loop_model.specs.Signs.{signs_parts}
use Rattle.loop_model.specs.Outs.{Out, next}
use Rattle.loop_session.specs.declared.loop_fault.LoopFault.{LoopFault}
use Rattle.loop_io.specs.Acting.{Acted, BreaksAt}
use Rattle.loop_io.specs.Seeing.{Seen, AreAnsweredSo, Counts}
use Rattle.loop_io.specs.Sequels.{text_grows_behind_part, calls_are, answered_parts, counts_then, failed_behind}
use Rattle.readiness_loop.specs.Cuts.{Cut, LiesIn, cut_behind_part}
use Rattle.readiness_loop.specs.Courses.{Broke}

-- what was done of the part
pub cut_of : {S : Type 0} (a b : Seen) (o : Out S) (fault : LoopFault) → BreaksAt a b o fault → Cut
cut_of a b o fault p = p.part

pub cut_lies : {S : Type 0} (a b : Seen) (o : Out S) (fault : LoopFault) (p : BreaksAt a b o fault) → LiesIn o (cut_of a b o fault p)
unfolding cut_of
cut_lies a b o fault p = record { rest = p.rest; is = p.is }

pub cut_broke : {S : Type 0} (a b : Seen) (o : Out S) (fault : LoopFault) (p : BreaksAt a b o fault) → Broke a b (cut_of a b o fault p) fault
unfolding cut_of
cut_broke a b o fault p = record { text = p.printed; calls = p.told; answered = p.answered; counted = p.counted; failed = p.failed }

-- behind a part that was done
pub broke_behind : {S : Type 0} (a b c : Seen) (s : S) (o : Out S) (cut : Cut) (fault : LoopFault) → Acted a b s o → Broke b c cut fault → Broke a c (cut_behind_part o cut) fault
broke_behind a b c s o cut fault p q = record {
  text = text_grows_behind_part a b c s o cut p q.text;
  calls = subst (λ z. Grew a.calls c.calls z) (calls_are o cut p.has_order) (grew_then a.calls b.calls c.calls o.calls (calls_of cut) p.told q.calls);
  answered = subst AreAnsweredSo (calls_are o cut p.has_order) (answered_parts o.calls (calls_of cut) p.answered q.answered);
  counted = subst (λ z. Counts a.failed c.failed z) (calls_are o cut p.has_order) (counts_then a.failed b.failed c.failed o.calls (calls_of cut) p.counted q.counted);
  failed = failed_behind a.sunk b.sunk c.sunk fault p.later q.failed;
}

-- a part that is spelled otherwise
pub lies_as : {S T : Type 0} (o : Out S) (p : Out T) (cut : Cut) → o.order ≡ p.order → LiesIn o cut → LiesIn p cut
lies_as o p cut same l = record { rest = l.rest; is = l.is ∙ ap signs same }

-- in the first of two parts, and in the second
pub lies_first : {S T : Type 0} (o : Out S) (f : S → Out T) (cut : Cut) → LiesIn o cut → LiesIn (next o f) cut
lies_first o f cut l = record {
  rest = l.rest ++ signs (f o.state).order;
  is = sym (append_assoc cut l.rest (signs (f o.state).order)) ∙ ap (λ z. z ++ signs (f o.state).order) l.is ∙ sym (signs_parts o.order (f o.state).order);
}

pub lies_then : {S T : Type 0} (o : Out S) (f : S → Out T) (cut : Cut) → LiesIn (f o.state) cut → LiesIn (next o f) (cut_behind_part o cut)
lies_then o f cut l = record {
  rest = l.rest;
  is = append_assoc (signs o.order) cut l.rest ∙ ap (λ z. signs o.order ++ z) l.is ∙ sym (signs_parts o.order (f o.state).order);
}
