use Rattle.er_base.proofs.Spellings.{read_back}
use Rattle.er_base.proofs.laws.hexadecimal_words.Goals as goal

pub returns : goal.returns
returns c = read_back
