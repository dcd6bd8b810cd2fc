use Rattle.std.proofs.Common.{◌≤◌, ℕ, List, length, subst}
use Rattle.er_end_promises.proofs.Sending.{call_gives_at_most}
use Rattle.er_end_promises.proofs.laws.octets_fit.Goals as goal

pub returns : goal.returns
returns c = call_gives_at_most c.args.end.now (subst (λ (os : List ℕ). length os ≤ 134160) c.out.ensures.value c.out.ensures.most)
