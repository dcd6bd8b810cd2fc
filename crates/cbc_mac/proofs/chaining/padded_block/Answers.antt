use Rattle.std.proofs.Common.{◌≡◌, ℕ, ◌++◌, ◌^◌, ◌<◌, List, get_or, length, take, drop, arith, ap, ◌∙◌}
use Rattle.std.specs.Prelude.{replicate}
use Rattle.std.specs.List.{flat_map}
use Rattle.bit_lists.specs.Bits.{bits}
use Rattle.bit_lists.proofs.Widths.{bits-from_be_bytes}
use Rattle.cbc_mac.proofs.Blocks.{front_is, length-front, octet-front}
use Rattle.cbc_mac.proofs.chaining.padded_block.Goals as goal

pub returns : goal.returns
returns c =
    let rest : List ℕ = c.args.octets.now in
    let octets : List ℕ = take 8 (rest ++ replicate 8 0) in
    let made : List ℕ = c.copy_from_slice.new.self ++ drop (length rest) (replicate 8 0) in
    let copied : c.copy_from_slice.new.self ≡ rest = c.copy_from_slice.ensures.after in
    let read : made ≡ octets = rw copied (front_is rest c.requires) in
    let below : (i : ℕ) → get_or octets i 0 < 2 ^ 8 = octet-front rest (λ k. omega (arith, c.type_inv.octets k)) in
    let word : bits 64 c.from_be_bytes.result ≡ flat_map (bits 8) made =
    rw c.from_be_bytes.ensures
    (bits-from_be_bytes made (rw read (length-front rest))
    (λ (i : ℕ) (lt : i < length made). rw read (below i))) in
    word ∙ ap (flat_map (bits 8)) read
