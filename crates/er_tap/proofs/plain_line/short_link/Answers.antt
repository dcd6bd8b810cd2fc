-- By the lemma on one digit.
use Rattle.std.proofs.Common.{arith}
use Rattle.er_tap.proofs.PlainLines.{one_digit}
use Rattle.er_tap.proofs.plain_line.short_link.Goals as goal

pub returns-clause-words : goal.returns-clause-words
returns-clause-words c = one_digit c.args.words.now c.in-32.len_at_least (omega arith) c.if-units-lt49.false c.if-units-gt57.false
