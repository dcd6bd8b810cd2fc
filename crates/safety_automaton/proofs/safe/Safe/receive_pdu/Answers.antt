use Rattle.safety_automaton.specs.Keys.{key_at}
use Rattle.safety_automaton.proofs.Each.{di_row}
use Rattle.safety_automaton.proofs.safe.Safe.receive_pdu.Goals as goal

pub returns-in-Di : goal.returns-in-Di
returns-in-Di g c =
    let s = c.args.self.now.safety in
    let row = di_row (key_at (g.K.KeyFinder.entries c.args.keys.now) c.args.now) s s.phase c.in-Di.reason c.in-Di.sub in
    rw (c.in-Di.is, row) c.receive_di.ensures
