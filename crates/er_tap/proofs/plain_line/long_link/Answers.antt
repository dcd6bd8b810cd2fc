-- By the lemma on two digits.
use Rattle.std.proofs.Common.{arith}
use Rattle.er_tap.proofs.PlainLines.{two_digits}
use Rattle.er_tap.proofs.plain_line.long_link.Goals as goal

pub returns-clause-words : goal.returns-clause-words
returns-clause-words c =
    two_digits c.args.words.now c.in-32.len_at_least (omega arith) c.if-tens-lt49.false c.if-tens-gt54.false c.if-units-lt48.false c.if-units-gt57.false
