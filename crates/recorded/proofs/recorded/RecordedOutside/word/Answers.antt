use Rattle.std.proofs.Common.{refl}
use Rattle.recorded.proofs.Keeps.{kept_passed}
use Rattle.recorded.proofs.Tellings.{did_too}
use Rattle.recorded.proofs.recorded.RecordedOutside.word.Goals as goal

pub invariant_of-self-clause-kept : goal.invariant_of-self-clause-kept
invariant_of-self-clause-kept g c = kept_passed _ _ _ _ _ _ _ c.args.self.now.kept refl refl c.word-word.ensures.does.grew c.note.ensures

pub returns : goal.returns
returns g c = record { does = did_too _ _ _ _ _ c.note.ensures c.word-word.ensures.does }
