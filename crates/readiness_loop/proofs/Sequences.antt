-- One part of the loop behind another: what both leave, print and call together; and where one of them breaks off.
use Rattle.std.proofs.Common.{◌≡◌, ◌∙◌, List, sym, ap, subst}
use Rattle.link_trait.specs.Outside.{Grew}
use Rattle.loop_model.specs.Grammar.{AreInGrammar}
use Rattle.loop_model.specs.Journals.{text}
use Rattle.loop_model.specs.Deeds.{LoopDeed, entries_in, calls_in, signs}
use Rattle.loop_model.specs.Outs.{Out, HasOrder, still, next}
use Rattle.loop_session.specs.declared.loop_fault.LoopFault.{LoopFault}
use Rattle.loop_io.specs.Acting.{DidDeeds, BeganDeeds, Acted, BreaksAt}
use Rattle.loop_io.specs.Seeing.{Seen, AreAnsweredSo, Counts}
use Rattle.loop_io.specs.Sequels.{acted_still as still_acted, acted_next, breaks_next}

-- what happened, spelled otherwise
pub record SaysSame {S T : Type 0} (o : Out S) (p : Out T) : Type 0 where
  pub entries : p.entries ≡ o.entries
  pub calls : p.calls ≡ o.calls
  pub order : p.order ≡ o.order

order_as : {S T : Type 0} (o : Out S) (p : Out T) → SaysSame o p → HasOrder o → HasOrder p
order_as o p same h = record {
  entries = ap entries_in same.order ∙ h.entries ∙ sym same.entries;
  calls = ap calls_in same.order ∙ h.calls ∙ sym same.calls;
}

pub acted_as : {S T : Type 0} (a b : Seen) (x : S) (y : T) (o : Out S) (p : Out T) → SaysSame o p → y ≡ p.state → Acted a b x o → Acted a b y p
acted_as a b x y o p same is h = record {
  state = is;
  printed = subst (λ z. Grew a.held b.held (text z)) (sym same.entries) h.printed;
  later = h.later;
  told = subst (λ z. Grew a.calls b.calls z) (sym same.calls) h.told;
  answered = subst AreAnsweredSo (sym same.calls) h.answered;
  counted = subst (λ z. Counts a.failed b.failed z) (sym same.calls) h.counted;
  in_grammar = subst AreInGrammar (sym same.entries) h.in_grammar;
  has_order = order_as o p same h.has_order;
  did = subst (λ (z : List LoopDeed). DidDeeds a.told b.told z) (sym same.order) h.did;
}

pub breaks_as : {S T : Type 0} (a b : Seen) (o : Out S) (p : Out T) (fault : LoopFault) → SaysSame o p → BreaksAt a b o fault → BreaksAt a b p fault
breaks_as a b o p fault same h = record {
  part = h.part;
  rest = h.rest;
  is = h.is ∙ ap signs (sym same.order);
  printed = h.printed;
  told = h.told;
  answered = h.answered;
  counted = h.counted;
  failed = h.failed;
  began = subst (λ (z : List LoopDeed). BeganDeeds a.told b.told z fault) (sym same.order) h.began;
}

-- nothing happens
pub acted_still : {S : Type 0} (a : Seen) (x y : S) → x ≡ y → Acted a a x (still y)
acted_still a x y is = subst (λ z. Acted a a z (still y)) (sym is) (still_acted a y)

-- one part, and another behind it
pub acted_then : {S T : Type 0} (a b c : Seen) (x : S) (y : T) (o : Out S) (f : S → Out T) → Acted a b x o → Acted b c y (f o.state) → Acted a c y (next o f)
acted_then a b c x y o f p q = acted_next a b c x y o f p (subst (λ z. Acted b c y (f z)) (sym p.state) q)

-- the second part breaks off
pub breaks_then : {S T : Type 0} (a b c : Seen) (x : S) (o : Out S) (f : S → Out T) (fault : LoopFault) → Acted a b x o → BreaksAt b c (f o.state) fault
    → BreaksAt a c (next o f) fault
breaks_then a b c x o f fault p q = breaks_next a b c x o f fault p (subst (λ z. BreaksAt b c (f z) fault) (sym p.state) q)
