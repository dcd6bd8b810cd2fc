use Rattle.bit_lists.specs.Bits.{bits}
use Rattle.des_block.proofs.KeyChoices.{chosen_c, chosen_d}
use Rattle.des_block.proofs.round_keys.permuted_choice_1.Goals as goal

pub returns-clause-c : goal.returns-clause-c
returns-clause-c c = chosen_c c.initial_permutation-rows.result (bits 64 c.args.key) c.initial_permutation-rows.type_inv c.initial_permutation-rows.ensures

pub returns-clause-d : goal.returns-clause-d
returns-clause-d c = chosen_d c.initial_permutation-rows.result (bits 64 c.args.key) c.initial_permutation-rows.type_inv c.initial_permutation-rows.ensures
