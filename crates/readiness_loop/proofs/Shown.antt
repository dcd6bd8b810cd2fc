-- What a loop over ends as they are kept showed outside is what the loop over ends of the end model shows.
use Rattle.std.proofs.Common.{◌≡◌, ℕ, false, [], ◌++◌, Option, sym, ◌∙◌, ap, subst}
use Rattle.er_end.specs.KeptEnds.{KEnd}
use Rattle.link_trait.specs.Outside.{Grew}
use Rattle.loop_model.specs.Ends.{ModelEnd}
use Rattle.loop_model.specs.Grammar.{AreInGrammar}
use Rattle.loop_model.specs.Journals.{text}
use Rattle.loop_model.specs.Outs.{Out}
use Rattle.loop_model.specs.Loops.{Loop, Halt, Course}
use Rattle.loop_model.specs.Parts.{opened_in, Rises}
use Rattle.loop_session.specs.Standing.{AreAlike}
use Rattle.loop_io.specs.Seeing.{AreAnsweredSo, Counts}
use Rattle.readiness_loop.specs.Courses.{Around, HasComeFromCourse}

-- what a loop of the model printed and called, what its clock answered, and how it stopped
pub record Shown (a b : Around) (o : Out (Course ModelEnd)) (count : ℕ) (why : Option Halt) : Type 0 where
  pub turns : count ≡ o.state.turns
  pub halt : why ≡ o.state.halt
  pub printed : Grew a.seen.held b.seen.held (text o.entries)
  pub told : Grew a.seen.calls b.seen.calls o.calls
  pub answered : AreAnsweredSo o.calls
  pub counted : Counts a.seen.failed b.seen.failed o.calls
  pub in_grammar : AreInGrammar o.entries
  pub asked : Grew a.asked b.asked o.state.asked
  pub rises : Rises a.newest (opened_in o.calls)
  pub alone : a.listening ≡ false → opened_in o.calls ≡ []

pub shown : (a b : Around) (c : Course KEnd) (l : Loop KEnd) (n : ℕ) (h : Option Halt) (o : Out (Course KEnd)) (p : Out (Course ModelEnd))
    → c.asked ≡ [] → HasComeFromCourse a b c l n h o → AreAlike o p → Shown a b p n h
shown a b c l n h o p none came same = record {
  turns = came.turns ∙ same.turns;
  halt = came.halt ∙ same.halt;
  printed = subst (λ z. Grew a.seen.held b.seen.held (text z)) same.entries came.acted.printed;
  told = subst (λ z. Grew a.seen.calls b.seen.calls z) same.calls came.acted.told;
  answered = subst AreAnsweredSo same.calls came.acted.answered;
  counted = subst (λ z. Counts a.seen.failed b.seen.failed z) same.calls came.acted.counted;
  in_grammar = subst AreInGrammar same.entries came.acted.in_grammar;
  asked = subst (λ z. Grew a.asked b.asked z) (ap (λ z. z ++ came.more) (sym none) ∙ sym came.asked ∙ same.asked) came.answered;
  rises = subst (λ z. Rises a.newest (opened_in z)) same.calls came.rises;
  alone = λ deaf. ap opened_in (sym same.calls) ∙ came.alone deaf;
}
