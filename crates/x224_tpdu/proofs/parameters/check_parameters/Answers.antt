use Rattle.std.proofs.Common.{◌≡◌, ℕ, [], Bool, true, false, Option, None, refl, sym, ◌∙◌}
use Rattle.x224_tpdu.specs.Parameters.{parameters_in, first_refused, size_octet}
use Rattle.x224_tpdu.specs.Parts.{size_behind}
use Rattle.x224_tpdu.proofs.Cutting.{whole_part, in_nil, nil_from}
use Rattle.x224_tpdu.proofs.parameters.check_parameters.Goals as goal

pub returns-in-empty : goal.returns-in-empty
returns-in-empty c =
    let ended : c.loop-code.rest.now ≡ [] = nil_from _ c.in-empty.len_below in
    let nothing : parameters_in c.loop-code.rest.now ≡ ([], []) = rw ended in_nil in
    let none : first_refused c.args.kind c.loop-code.sized (parameters_in c.loop-code.rest.now).0 ≡ None = rw nothing refl in
    let size_is : size_behind c.loop-code.sized c.loop-code.size [] ≡ size_octet (parameters_in c.args.part.now).0 = rw nothing at c.loop-code.invariant.size_is in
    (whole_part c.args.kind c.args.part.now (sym c.loop-code.invariant.refused ∙ none) (sym c.loop-code.invariant.left_over ∙ rw nothing refl), first_size _ _ _ c.loop-code.invariant.unsized size_is)
  where
    first_size : (sized : Bool) (size all : Option ℕ) → (sized ≡ false → size ≡ None) → size_behind sized size [] ≡ all → size ≡ all
    first_size true size all unsized e = e
    first_size false size all unsized e = unsized refl ∙ e
