use Rattle.std.proofs.Common.{List, ℕ, subst}
use Rattle.er_base.specs.Stored.{Appends}
use Rattle.safety_automaton.specs.Safety.{no_keys, ConnectRequest}
use Rattle.safety_automaton.proofs.Lengths.{few_appended}
use Rattle.safety_automaton.proofs.safe.Safe.start.Goals as goal

pub returns-clause-sent : goal.returns-clause-sent
returns-clause-sent c =
    let appends = subst (λ (octets : List ℕ). Appends c.args.out.now c.write.new.out octets) c.begin-au1.ensures.sends c.write.ensures in
    few_appended _ _ _ 13 appends (c.lengths.ensures.most no_keys c.args.self.now.safety ConnectRequest)
