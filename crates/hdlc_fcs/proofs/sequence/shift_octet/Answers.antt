-- The high octet of the register moves down, and the table gives the shifts of the low one.
use Rattle.std.proofs.Common.{◌≡◌, ℕ, ◌%◌, ◌^◌, bit_xor, sym, ◌∙◌, ap}
use Rattle.std.proofs.lemmas.Nat.{and_mask}
use Rattle.hdlc_fcs.specs.Register.{shifted}
use Rattle.hdlc_fcs.proofs.TableLaws.{shifted_octet}
use Rattle.hdlc_fcs.proofs.sequence.shift_octet.Goals as goal

pub returns : goal.returns
returns c =
    let mixed : ℕ = bit_xor c.args.register c.args.octet in
    let low : c.entry.result ≡ shifted 8 (mixed % 2 ^ 8) = c.entry.ensures ∙ ap (shifted 8) (and_mask mixed 8) in
    rw low (sym (shifted_octet mixed))
