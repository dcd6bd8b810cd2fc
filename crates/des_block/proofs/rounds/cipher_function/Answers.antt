-- The groups are those that E makes, each with the key's, and the eight entries together are P of what the boxes give.
use Rattle.std.proofs.Common.{◌≡◌, ℕ, arith}
use Rattle.bit_lists.specs.Bits.{bits, left_shift}
use Rattle.bit_lists.proofs.Widths.{length-bits}
use Rattle.des_block.proofs.JoinedRounds.{bits-rotate_left, joined_function}
use Rattle.des_block.proofs.rounds.cipher_function.Goals as goal

pub returns : goal.returns
returns c =
    let right : ℕ = c.args.right in
    let odd : bits 32 c.rotate_left.result ≡ left_shift 29 (bits 32 right) = rw c.rotate_left.ensures (bits-rotate_left right 29 (omega arith) (omega arith) (omega arith)) in
    let even : bits 32 c.rotate_left-2.result ≡ left_shift 1 (bits 32 right) = rw c.rotate_left-2.ensures (bits-rotate_left right 1 (omega arith) (omega arith) (omega arith)) in
    joined_function c.args.key c.rotate_left.result c.rotate_left-2.result c.spread.result c.spread-2.result c.spread-3.result c.spread-4.result c.spread-5.result c.spread-6.result c.spread-7.result c.spread-8.result (bits 32 right) (length-bits 32 right) odd even
    c.spread.ensures.value c.spread-2.ensures.value c.spread-3.ensures.value c.spread-4.ensures.value c.spread-5.ensures.value c.spread-6.ensures.value c.spread-7.ensures.value c.spread-8.ensures.value
    c.spread.ensures.places c.spread-2.ensures.places c.spread-3.ensures.places c.spread-4.ensures.places c.spread-5.ensures.places c.spread-6.ensures.places c.spread-7.ensures.places c.spread-8.ensures.places
