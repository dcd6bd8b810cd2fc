use Rattle.std.proofs.Common.{rules, ◌≡◌, ◌≤◌, ◌++◌, ◌∷◌, [], sym, subst, arith}
use Rattle.mio_wires.specs.Leaving.{RisesBetween}
use Rattle.mio_wires.proofs.Rising.{pushed}
use Rattle.mio_wires.proofs.leavers.Leavers.add.Goals as goal

pub invariant_of-self-2 : goal.invariant_of-self-2
invariant_of-self-2 c =
    let items : c.push_back.new.self.items ≡ c.self.inside.leaving.items ++ record { slot = c.args.slot; until = c.max-until.result } ∷ [] = search rules in
    let later : c.self.inside.newest ≤ c.max-until.result = search rules in
    subst (λ waits. RisesBetween 0 c.max-until.result waits) (sym items)
    (pushed 0 c.self.inside.newest c.args.slot c.max-until.result c.self.inside.leaving.items later c.self.invariant)
