-- Behind the LF the next line begins.
use Rattle.std.proofs.Common.{◌∙◌}
use Rattle.application_lines.proofs.Takes.{passed}
use Rattle.application_lines.proofs.line_reader.LineReader.pass.Goals as goal

pub returns-clause-stands : goal.returns-clause-stands
returns-clause-stands c = c.begin_next.ensures ∙ passed c.args.self.now.number c.args.piece.now c.args.ended c.if-not-ended.false
