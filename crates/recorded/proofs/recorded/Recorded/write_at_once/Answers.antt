use Rattle.recorded.proofs.Keeps.{kept_written}
use Rattle.recorded.proofs.Tellings.{did_too}
use Rattle.recorded.proofs.recorded.Recorded.write_at_once.Goals as goal

pub invariant_of-self-clause-kept : goal.invariant_of-self-clause-kept
invariant_of-self-clause-kept g c = kept_written c.write-answer.result _ _ _ _ _ c.args.piece.now _ _ c.args.self.now.kept c.requires.none c.requires.sound c.write-answer.ensures.does.grew c.note.ensures c.is_err-self.ensures.value

pub returns : goal.returns
returns g c = did_too _ _ _ _ _ c.note.ensures c.write-answer.ensures.does
