-- By the laws of lines, words and numbers.
use Rattle.er_trace.proofs.PrintedLines.{Laws, printed_is_read}
use Rattle.er_trace.proofs.laws.printed_is_read.Goals as goal

pub returns : goal.returns
returns c =
    let laws : Laws = record { lines = c.printed_lines.ensures; words = c.printed_words.ensures; decimals = c.decimal_words.ensures } in
    printed_is_read laws c.allowed_are_bounded.ensures
