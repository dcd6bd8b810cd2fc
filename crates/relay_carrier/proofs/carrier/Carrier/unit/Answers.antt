-- By the lemmas on loads and counts.
use Rattle.std.proofs.Common.{◌++◌, ◌∷◌, [], List, ℕ, ap, sym, ◌∙◌}
use Rattle.relay_script.specs.declared.unit_kind.UnitKind.TheVariants.{Any}
use Rattle.relay_carrier.specs.Kinds.{kinds_but_any}
use Rattle.relay_carrier.proofs.Counted.{counts_more}
use Rattle.relay_carrier.proofs.FirstFound.{kinds_framed}
use Rattle.relay_carrier.proofs.Takes.{takes_unit}
use Rattle.relay_carrier.proofs.carrier.Carrier.unit.Goals as goal

pub load_of-requires-clause-kinds : goal.load_of-requires-clause-kinds
load_of-requires-clause-kinds c =
    kinds_framed c.as_slice.result.now c.args.unit.now (kinds_but_any c.kinds_of-kinds.result)
    (c.as_slice.ensures.value
    ∙ c.in_ok-extend_from_slice.ensures.items
    ∙ ap (λ (o : List ℕ). o ++ c.args.unit.now) (c.in_ok-push.ensures.items ∙ ap (λ (o : List ℕ). o ++ 0x7e ∷ []) c.new-framed.ensures.items))
    c.kinds_of-kinds.ensures

pub returns-clause-unit : goal.returns-clause-unit
returns-clause-unit c =
    let kinds = Any ∷ kinds_but_any c.kinds_of-kinds.result in
    let are =
    kinds_framed c.as_slice.result.now c.args.unit.now (kinds_but_any c.kinds_of-kinds.result)
    (c.as_slice.ensures.value
    ∙ c.in_ok-extend_from_slice.ensures.items
    ∙ ap (λ (o : List ℕ). o ++ c.args.unit.now) (c.in_ok-push.ensures.items ∙ ap (λ (o : List ℕ). o ++ 0x7e ∷ []) c.new-framed.ensures.items))
    c.kinds_of-kinds.ensures in
    let given =
    c.in_ok-extend_from_slice-2.ensures.items
    ∙ ap (λ (o : List ℕ). o ++ c.as_slice-2.result.now) c.requires.empty
    ∙ c.as_slice-2.ensures.value in
    rw (sym c.self.view_is)
    (λ units counts.
    let counted = counts_more c.self.inside.counts c.add.new.self units c.args.unit.now kinds are counts c.add.ensures in
    takes_unit c.args.script.now _ _ c.add.new.self c.in_ok-load.load c.args.moment _ c.args.unit.now _ units
    (c.in_ok-load.ensures units counted) counted given c.due_at.ensures.new c.due_at.ensures.due)
