use Rattle.std.proofs.Common.{◌≡◌, ◌/◌, ◌%◌, ◌∙◌, arith, ◌∷◌, [], ◌++◌, refl}
use Rattle.hdlc_fcs.specs.FrameCheck.{fcs_of}
use Rattle.hdlc_fcs.specs.Contents.{content_of}
use Rattle.hdlc_fcs.proofs.contents.check_octets_of_fields.Goals as goal

pub returns : goal.returns
unfolding content_of
returns c =
    let value : c.value.result ≡ fcs_of (c.args.address ∷ c.args.control.now ++ c.args.information.now) =
    c.value.ensures ∙ c.add-3.ensures (c.args.address ∷ c.args.control.now) (c.add-2.ensures (c.args.address ∷ []) (c.add.ensures [] c.new-check.ensures)) in
    let high : c.value.result / 256 % 256 ≡ c.value.result / 256 = omega (arith, c.value.type_inv) in
    rw (c.to_le_bytes.ensures, high, value) refl
