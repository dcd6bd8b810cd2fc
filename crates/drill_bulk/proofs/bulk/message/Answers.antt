use Rattle.std.proofs.Common.{◌++◌, ℕ, ◌+◌, ◌%◌, List, [], ◌∷◌, ap, sym, ◌∙◌, arith}
use Rattle.std.proofs.lemmas.List.FromFn.{map-range_with_len_more}
use Rattle.drill_bulk.proofs.bulk.message.Goals as goal

pub loop-place-preserved : goal.loop-place-preserved
loop-place-preserved c =
    c.in_ok-push.ensures.items
    ∙ ap (λ (xs : List ℕ). xs ++ ((c.args.index + c.loop-place.place) % 256) ∷ []) c.loop-place.invariant
    ∙ sym (map-range_with_len_more (λ (j : ℕ). (c.args.index + j) % 256) 0 c.loop-place.place c.loop-place.place (omega arith))
