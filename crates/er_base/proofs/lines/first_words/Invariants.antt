-- The words so far and those of what is left are those of the line.
use Rattle.std.proofs.Common.{◌≡◌, ◌++◌, length, map}
use Rattle.er_base.specs.Words.{words_of}
use Rattle.er_base.proofs.lines.first_words.Given as goal

abbrev pub invariant-loop-rest : goal.invariant-loop-rest
invariant-loop-rest l = map (λ w. w.now) l.words.items ++ words_of l.rest ≡ words_of l.line

abbrev pub decreases-loop-rest : goal.decreases-loop-rest
decreases-loop-rest l = length (words_of l.rest)
