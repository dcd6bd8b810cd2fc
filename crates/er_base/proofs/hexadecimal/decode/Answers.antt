use Rattle.std.proofs.Common.{refl, ap, ◌∙◌, sym, Some}
use Rattle.er_base.proofs.Spellings.{digits_decoded, decoded_written}
use Rattle.er_base.proofs.hexadecimal.decode.Goals as goal

pub unwrap-requires : goal.unwrap-requires
unwrap-requires c =
    let is = digits_decoded c.args.digits.now _ c.requires.other c.requires.some c.requires.digits c.requires.half in
    let written = decoded_written _ _ is c.decode_to_slice.result _ c.decode_to_slice.ensures.value in
    rw written.0 refl

pub returns : goal.returns
returns c =
    let is = digits_decoded c.args.digits.now _ c.requires.other c.requires.some c.requires.digits c.requires.half in
    let written = decoded_written _ _ is c.decode_to_slice.result _ c.decode_to_slice.ensures.value in
    is.spelled ∙ ap Some (sym written.1)
