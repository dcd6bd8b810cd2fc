-- The value is that of the blocks so far.
use Rattle.std.proofs.Common.{◌≡◌, ℕ, ◌+◌, ◌*◌, ◌/◌, ◌<◌, ◌^◌, List, [], length, take, drop, get_or, refl, sym, ◌∙◌, arith}
use Rattle.std.specs.Prelude.{slice_index_or}
use Rattle.std.specs.Int.{from_be_bytes, w64}
use Rattle.std.proofs.lemmas.List.{length-take-le, length-drop, take_all}
use Rattle.bit_lists.specs.Bits.{bits, xor}
use Rattle.bit_lists.proofs.Widths.{bits-from_be_bytes}
use Rattle.des_block.specs.Des.{des_encipher}
use Rattle.cbc_mac.specs.Mac.{blocks, chained}
use Rattle.cbc_mac.proofs.Blocks.{get_or-first_chunks, get_or-blocks, length-whole_blocks, octet-take, octet-drop}
use Rattle.cbc_mac.proofs.Chains.{chained_none, chained_more}
use Rattle.cbc_mac.proofs.chaining.chain.Goals as goal

pub loop-block-init : goal.loop-block-init
loop-block-init c = c.zero-value.ensures ∙ chained_none (bits 64 c.args.schedule.now.first) (blocks c.args.text.now)

pub loop-block-preserved : goal.loop-block-preserved
loop-block-preserved c =
    let text : List ℕ = c.args.text.now in
    let key : List ℕ = bits 64 c.args.schedule.now.first in
    let i : ℕ = c.loop-block.block-index in
    let within : i < length text / 8 = omega (arith, c.as_chunks.ensures.front_len) in
    let octets : List ℕ = take 8 (drop (8 * i) text) in
    let read : get_or c.as_chunks.result.0.now i [] ≡ octets = rw c.as_chunks.ensures.front (get_or-first_chunks (length text / 8) text i within) in
    let size : length octets ≡ 8 = length-take-le 8 (drop (8 * i) text) (omega (arith, length-drop (8 * i) text)) in
    let below : (k : ℕ) → get_or octets k 0 < 2 ^ 8 = octet-take (drop (8 * i) text) 8 (octet-drop text (8 * i) (λ k. omega (arith, c.type_inv.text k))) in
    let word : c.from_be_bytes.result ≡ from_be_bytes w64 octets = rw read at c.from_be_bytes.ensures in
    let block : bits 64 c.from_be_bytes.result ≡ slice_index_or (blocks text) i [] =
    rw word (bits-from_be_bytes octets size (λ (k : ℕ) (lt : k < length octets). below k)) ∙ sym (get_or-blocks text i within) in
    let more : chained key (take (i + 1) (blocks text)) ≡ des_encipher key (xor (chained key (take i (blocks text))) (slice_index_or (blocks text) i [])) =
    chained_more key (blocks text) i (omega (arith, length-whole_blocks text)) in
    rw (c.chain.ensures, c.first-first.ensures, more, c.loop-block.invariant, block) refl

pub returns : goal.returns
returns c =
    let text : List ℕ = c.args.text.now in
    let all : take c.loop-block.block-index (blocks text) ≡ blocks text = take_all c.loop-block.block-index (blocks text) (omega (arith, length-whole_blocks text, c.as_chunks.ensures.front_len)) in
    rw (← all) (c.block.ensures ∙ c.loop-block.invariant)
