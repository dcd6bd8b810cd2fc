-- The words so far and those that are left are the line's.
use Rattle.std.proofs.Common.{◌≡◌, ◌++◌, map, drop}
use Rattle.er_base.specs.LineTexts.{line_end}
use Rattle.er_base.specs.Printing.{word_printed, Begins}
use Rattle.er_base.proofs.line_writer.put_end.Given as goal

abbrev pub invariant-loop-word : goal.invariant-loop-word
invariant-loop-word l = record {
  said : l.out.items ++ line_end (map word_printed (drop l.word-index l.words)) ≡ l.fn.out.items ++ line_end (map word_printed l.words);
  begins : Begins l.fn.out.items l.out.items;
}
