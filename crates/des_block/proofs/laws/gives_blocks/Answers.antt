use Rattle.std.proofs.Common.{reverse}
use Rattle.des_block.specs.Des.{round_keys}
use Rattle.des_block.proofs.RoundTrips.{length-cipher}
use Rattle.des_block.proofs.AllBits.{all_bits-cipher}
use Rattle.des_block.proofs.laws.gives_blocks.Goals as goal

pub returns : goal.returns
returns c = λ key bits h. (
  (length-cipher (round_keys key) bits, all_bits-cipher (round_keys key) bits h),
  (length-cipher (reverse (round_keys key)) bits, all_bits-cipher (reverse (round_keys key)) bits h),
)
