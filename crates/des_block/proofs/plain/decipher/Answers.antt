-- The keys in turned order are the definition's.
use Rattle.std.proofs.Common.{◌≡◌, map, reverse, refl}
use Rattle.bit_lists.specs.Bits.{bits}
use Rattle.des_block.specs.Des.{round_keys}
use Rattle.des_block.proofs.PlainSteps.{map-reverse}
use Rattle.des_block.proofs.plain.decipher.Goals as goal

pub returns : goal.returns
returns c =
    let turned : c.reverse.new.self ≡ reverse c.round_keys-keys.result = c.reverse.ensures.after in
    let images = map-reverse (bits 48) c.round_keys-keys.result in
    let made : map (bits 48) c.round_keys-keys.result ≡ round_keys (bits 64 c.args.key) = c.round_keys-keys.ensures in
    rw (c.cipher.ensures, turned, images, made) refl
