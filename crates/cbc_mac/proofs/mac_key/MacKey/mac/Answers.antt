-- The blocks before the last are chained, and the last goes through all three keys.
use Rattle.std.proofs.Common.{◌≡◌, ℕ, ◌-◌, ◌*◌, ◌/◌, ◌++◌, List, length, take, drop, refl, ◌∙◌}
use Rattle.std.specs.Prelude.{replicate}
use Rattle.std.specs.List.{flat_map}
use Rattle.bit_lists.specs.Bits.{bits}
use Rattle.bit_lists.proofs.Xors.{bits-xor}
use Rattle.des_block.specs.declared.triple_key.TripleKey.{TripleKey}
use Rattle.cbc_mac.specs.Mac.{blocks, chained}
use Rattle.cbc_mac.proofs.Chains.{mac_is}
use Rattle.cbc_mac.proofs.mac_key.MacKey.mac.Goals as goal

pub returns : goal.returns
returns c =
    let text : List ℕ = c.args.text.now in
    let key : TripleKey = c.self.inside.schedule in
    let count : ℕ = (length text - 1) / 8 in
    let before : c.split_at.result.0.now ≡ take (8 * count) text = c.split_at.ensures.front in
    let last : c.split_at.result.1.now ≡ drop (8 * count) text = c.split_at.ensures.back in
    let chain : bits 64 c.chain.result ≡ chained (bits 64 key.first) (blocks (take (8 * count) text)) = rw before at c.chain.ensures in
    let block : bits 64 c.padded_block.result ≡ flat_map (bits 8) (take 8 (drop (8 * count) text ++ replicate 8 0)) = rw last at c.padded_block.ensures in
    let mixed = bits-xor 64 c.chain.result c.padded_block.result in
    rw (← c.self.view_is) (mac_is key text count c.encipher.result refl c.requires c.encipher.type_inv (c.encipher.ensures ∙ rw (mixed, chain, block) refl))
