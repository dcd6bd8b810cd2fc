-- What stands before the information field, it, and what stands behind it are written one after another, and there is room for each.
use Rattle.std.proofs.Common.{ℕ, List, [], ◌∷◌, ◌++◌, length, arith, ◌∙◌, sym, ap, append_assoc, length-append}
use Rattle.hdlc_frames.proofs.WritingLaws.{spelling-parts, length-spelling}
use Rattle.hdlc_frames.specs.Framing.{flag}
use Rattle.hdlc_frames.specs.Spelling.{escaped}
use Rattle.hdlc_frames.proofs.writing.put_fields.Goals as goal

pub put-requires : goal.put-requires
put-requires c =
    let size = length-spelling c.args.address c.args.control.now c.args.information.now c.check_octets_of_fields-check.result c.check_octets_of_fields-check.ensures in
    let before = ap length (c.as_slice.ensures.value ∙ c.opening.ensures) in
    omega (arith, c.requires.room)

pub put_escaped-requires : goal.put_escaped-requires
put_escaped-requires c =
    let size = length-spelling c.args.address c.args.control.now c.args.information.now c.check_octets_of_fields-check.result c.check_octets_of_fields-check.ensures in
    let before = ap length (c.as_slice.ensures.value ∙ c.opening.ensures) in
    let one = ap length c.put.ensures.items ∙ length-append c.args.out.now.items c.as_slice.result.now in
    omega (arith, c.requires.room, c.put.ensures.capacity)

pub put-requires-2 : goal.put-requires-2
put-requires-2 c =
    let size = length-spelling c.args.address c.args.control.now c.args.information.now c.check_octets_of_fields-check.result c.check_octets_of_fields-check.ensures in
    let before = ap length (c.as_slice.ensures.value ∙ c.opening.ensures) in
    let behind = ap length (c.as_slice-2.ensures.value ∙ c.closing.ensures) in
    let one = ap length c.put.ensures.items ∙ length-append c.args.out.now.items c.as_slice.result.now in
    let two = ap length c.put_escaped.ensures.items ∙ length-append c.put.new.self.items (escaped c.args.information.now) in
    omega (arith, c.requires.room, c.put.ensures.capacity, c.put_escaped.ensures.capacity)

pub returns-clause-items : goal.returns-clause-items
returns-clause-items c =
    let old : List ℕ = c.args.out.now.items in
    let a : List ℕ = flag ∷ escaped (c.args.address ∷ c.args.control.now) in
    let i : List ℕ = escaped c.args.information.now in
    let z : List ℕ = escaped c.check_octets_of_fields-check.result ++ flag ∷ [] in
    let parts = spelling-parts c.args.address c.args.control.now c.args.information.now c.check_octets_of_fields-check.result c.check_octets_of_fields-check.ensures in
    c.put-2.ensures.items ∙ ap (λ ys. c.put_escaped.new.out.items ++ ys) (c.as_slice-2.ensures.value ∙ c.closing.ensures)
    ∙ ap (λ ys. ys ++ z) (c.put_escaped.ensures.items ∙ ap (λ ys. ys ++ i) (c.put.ensures.items ∙ ap (λ ys. old ++ ys) (c.as_slice.ensures.value ∙ c.opening.ensures)))
    ∙ append_assoc (old ++ a) i z ∙ append_assoc old a (i ++ z) ∙ ap (λ ys. old ++ ys) (sym parts)
