use Rattle.std.proofs.Common.{rules}
use Rattle.recorded.proofs.Keeps.{kept_taken}
use Rattle.recorded.proofs.Tellings.{did_take}
use Rattle.recorded.proofs.recorded.Recorded.take.Goals as goal

pub invariant_of-self-clause-kept : goal.invariant_of-self-clause-kept
invariant_of-self-clause-kept g c = kept_taken _ _ _ _ _ c.args.piece.now _ c.args.self.now.kept c.if-self.false c.note.ensures (search rules)

pub returns-clause-does : goal.returns-clause-does
returns-clause-does g c = did_take _ _ (g.O.Outside.told c.args.self.now.outside) _ c.note.ensures
