use Rattle.std.proofs.Common.{arith}
use Rattle.bit_lists.proofs.Widths.{bits_or}
use Rattle.des_block.proofs.rounds.join.Goals as goal

pub returns : goal.returns
returns c = bits_or 64 32 32 c.args.first c.args.second (omega arith) (omega arith) (omega arith)
