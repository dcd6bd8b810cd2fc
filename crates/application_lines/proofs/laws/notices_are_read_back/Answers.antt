-- By the laws of lines, words and numbers.
use Rattle.application_lines.proofs.PrintedNotices.{Laws, notices_are_read_back}
use Rattle.application_lines.proofs.laws.notices_are_read_back.Goals as goal

pub returns : goal.returns
returns c =
    let laws : Laws = record { lines = c.printed_lines.ensures; words = c.printed_words.ensures; decimals = c.decimal_words.ensures } in
    notices_are_read_back laws
