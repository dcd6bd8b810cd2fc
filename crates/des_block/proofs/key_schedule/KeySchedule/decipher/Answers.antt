-- IP, the rounds and IP⁻¹ are the definition's.
use Rattle.bit_lists.specs.Bits.{bits}
use Rattle.std.proofs.Common.{◌≡◌, reverse, refl}
use Rattle.bit_lists.proofs.Widths.{length-bits}
use Rattle.des_block.specs.Des.{cipher}
use Rattle.des_block.proofs.RoundTrips.{cipher_done_again}
use Rattle.des_block.proofs.key_schedule.KeySchedule.decipher.Goals as goal

pub returns : goal.returns
unfolding cipher
returns c =
    let value : bits 64 c.inverse_initial_permutation.result ≡ cipher (reverse c.args.self.now) (bits 64 c.args.block) =
    rw (c.inverse_initial_permutation.ensures, c.rounds_backward.ensures, c.initial_permutation.ensures) refl in
    record {
      value = value;
      undone = rw value (cipher_done_again c.args.self.now (bits 64 c.args.block) (length-bits 64 c.args.block));
    }
