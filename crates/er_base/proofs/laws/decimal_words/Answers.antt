use Rattle.std.proofs.Common.{ap, ◌∙◌}
use Rattle.er_base.specs.Numbers.{decimal_of}
use Rattle.er_base.proofs.Decimals.{word_of_number, number_of_word}
use Rattle.er_base.proofs.laws.decimal_words.Goals as goal

pub returns : goal.returns
returns c = λ word n. (word_of_number word n, λ h. ap decimal_of h.1 ∙ number_of_word n h.0)
