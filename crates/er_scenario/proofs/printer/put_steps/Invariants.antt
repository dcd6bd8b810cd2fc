-- The lines so far and those of the steps that are left are those of all steps.
use Rattle.std.proofs.Common.{◌≡◌, ◌++◌, drop}
use Rattle.er_base.specs.LineTexts.{lines_text}
use Rattle.er_base.specs.Printing.{Begins}
use Rattle.er_scenario.specs.Texts.{words_of_numbered_steps}
use Rattle.er_scenario.proofs.printer.put_steps.Given as goal

abbrev pub invariant-loop-numbered : goal.invariant-loop-numbered
invariant-loop-numbered l = record {
  said : l.out.items ++ lines_text (words_of_numbered_steps (drop l.numbered-index l.steps)) ≡ l.fn.out.items ++ lines_text (words_of_numbered_steps l.steps);
  begins : Begins l.fn.out.items l.out.items;
}
