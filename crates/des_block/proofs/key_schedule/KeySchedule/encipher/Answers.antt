-- IP, the rounds and IP⁻¹ are the definition's.
use Rattle.bit_lists.specs.Bits.{bits}
use Rattle.std.proofs.Common.{◌≡◌, refl}
use Rattle.bit_lists.proofs.Widths.{length-bits}
use Rattle.des_block.specs.Des.{cipher}
use Rattle.des_block.proofs.RoundTrips.{cipher_undone}
use Rattle.des_block.proofs.key_schedule.KeySchedule.encipher.Goals as goal

pub returns : goal.returns
unfolding cipher
returns c =
    let value : bits 64 c.inverse_initial_permutation.result ≡ cipher c.args.self.now (bits 64 c.args.block) =
    rw (c.inverse_initial_permutation.ensures, c.rounds.ensures, c.initial_permutation.ensures) refl in
    record {
      value = value;
      undone = rw value (cipher_undone c.args.self.now (bits 64 c.args.block) (length-bits 64 c.args.block));
    }
