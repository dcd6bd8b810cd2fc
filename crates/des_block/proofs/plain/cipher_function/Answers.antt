-- The bits of each step are those of the definition's step.
use Rattle.std.proofs.Common.{◌≡◌, refl}
use Rattle.std.specs.Prelude.{bit_xor}
use Rattle.bit_lists.specs.Bits.{bits, pick}
use Rattle.bit_lists.proofs.Xors.{bits-xor}
use Rattle.des_block.specs.Boxes.{boxes}
use Rattle.des_block.specs.Tables.{expansion, permutation}
use Rattle.des_block.specs.Des.{cipher_function, substituted}
use Rattle.des_block.proofs.plain.cipher_function.Goals as goal

pub returns-clause-value : goal.returns-clause-value
unfolding cipher_function
returns-clause-value c =
    let expanded : bits 48 c.select-expanded.result ≡ pick expansion (bits 32 c.args.right) = c.select-expanded.ensures.value in
    let mixed = bits-xor 48 c.select-expanded.result c.args.key in
    let through : bits 32 c.substitute.result ≡ substituted boxes (bits 48 (bit_xor c.select-expanded.result c.args.key)) = c.substitute.ensures.value in
    let spread : bits 32 c.select.result ≡ pick permutation (bits 32 c.substitute.result) = c.select.ensures.value in
    rw (spread, through, mixed, expanded) refl
