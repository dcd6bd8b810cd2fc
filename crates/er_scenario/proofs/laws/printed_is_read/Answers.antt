-- By the laws of lines, words and numbers.
use Rattle.er_scenario.proofs.PrintedArguments.{Laws}
use Rattle.er_scenario.proofs.PrintedTexts.{printed_is_read}
use Rattle.er_scenario.proofs.laws.printed_is_read.Goals as goal

pub returns : goal.returns
returns c =
    let laws : Laws =
    record {
      lines = c.printed_lines.ensures;
      words = c.printed_words.ensures;
      decimals = c.decimal_words.ensures;
      eights = c.octets_of_numbers.ensures.eight;
      joins = c.octets_of_parts.ensures.joined;
    } in
    printed_is_read laws c.allowed_are_bounded.ensures
