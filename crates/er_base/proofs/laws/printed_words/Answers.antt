use Rattle.er_base.proofs.PrintedArguments.{words_are_read_back}
use Rattle.er_base.proofs.laws.printed_words.Goals as goal

pub returns : goal.returns
returns c = words_are_read_back
