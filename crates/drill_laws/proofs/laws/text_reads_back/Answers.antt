use Rattle.drill_laws.proofs.ReadingBack.{text_reads_back, drills_are_told, drill_text_reads_back}
use Rattle.drill_laws.proofs.laws.text_reads_back.Goals as goal

pub returns-clause-told : goal.returns-clause-told
returns-clause-told c = drills_are_told c.counted.ensures.closings

pub returns-clause-drills : goal.returns-clause-drills
returns-clause-drills c =
    drill_text_reads_back (text_reads_back c.decimal_words.ensures c.hexadecimal_words.ensures c.printed_lines.ensures c.printed_words.ensures)

pub returns-clause-lines : goal.returns-clause-lines
returns-clause-lines c = text_reads_back c.decimal_words.ensures c.hexadecimal_words.ensures c.printed_lines.ensures c.printed_words.ensures
