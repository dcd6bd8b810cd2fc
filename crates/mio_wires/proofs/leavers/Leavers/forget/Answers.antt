use Rattle.std.proofs.Common.{rules, ◌≡◌, ◌==◌, not, sym, subst}
use Rattle.std.proofs.lemmas.Fn.{filter_same}
use Rattle.mio_wires.specs.Leaving.{RisesBetween, others}
use Rattle.mio_wires.proofs.Rising.{filtered}
use Rattle.mio_wires.proofs.leavers.Leavers.forget.Goals as goal

pub invariant_of-self : goal.invariant_of-self
invariant_of-self c =
    let kept : c.retain.new.self.items ≡ others c.args.slot c.self.inside.leaving.items =
    filter_same _ (λ one. not (one.slot == c.args.slot)) _ (λ x b f' k. search rules) _ _ c.retain.ensures.filtered in
    subst (λ waits. RisesBetween 0 c.self.inside.newest waits) (sym kept)
    (filtered (λ one. not (one.slot == c.args.slot)) 0 c.self.inside.newest c.self.inside.leaving.items c.self.invariant)

pub returns : goal.returns
returns c =
    let kept : c.retain.new.self.items ≡ others c.args.slot c.self.inside.leaving.items =
    filter_same _ (λ one. not (one.slot == c.args.slot)) _ (λ x b f' k. search rules) _ _ c.retain.ensures.filtered in
    search (rules, kept)
