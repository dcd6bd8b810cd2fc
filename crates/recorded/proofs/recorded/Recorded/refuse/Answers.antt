use Rattle.recorded.proofs.Keeps.{kept_refused}
use Rattle.recorded.proofs.Tellings.{did_refuse}
use Rattle.recorded.proofs.recorded.Recorded.refuse.Goals as goal

pub invariant_of-self-clause-kept : goal.invariant_of-self-clause-kept
invariant_of-self-clause-kept g c = kept_refused _ _ _ _ c.args.piece.now _ c.args.self.now.kept c.requires c.note.ensures

pub returns-clause-does : goal.returns-clause-does
returns-clause-does g c = did_refuse _ _ (g.O.Outside.told c.args.self.now.outside) _ c.note.ensures
