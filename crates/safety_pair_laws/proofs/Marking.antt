-- Marks grow with facts.
use Rattle.std.proofs.Common.{◌≡◌, List, [], ◌∷◌, ◌++◌, sym, ap, ◌∙◌, append_assoc, append-nil}
use Rattle.safety_pair_laws.specs.Facts.{SideFact, MarkedFact, mark, marked_from}

pub marks_grow : (before : List MarkedFact) (facts more : List SideFact)
    → marked_from before (facts ++ more) ≡ marked_from before facts ++ marked_from (before ++ marked_from before facts) more
marks_grow before [] more = ap (λ (xs : List MarkedFact). marked_from xs more) (sym (append-nil before))
marks_grow before (f ∷ facts) more =
    let m : MarkedFact = mark before f in
    let rest : List MarkedFact = marked_from (before ++ m ∷ []) facts in
    ap (λ (xs : List MarkedFact). m ∷ xs) (
    marks_grow (before ++ m ∷ []) facts more ∙ ap (λ (xs : List MarkedFact). rest ++ marked_from xs more) (append_assoc before (m ∷ []) rest)
    )
