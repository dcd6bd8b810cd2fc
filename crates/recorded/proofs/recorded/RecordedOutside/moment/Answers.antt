use Rattle.std.proofs.Common.{refl}
use Rattle.recorded.proofs.Keeps.{kept_passed}
use Rattle.recorded.proofs.Tellings.{did_too}
use Rattle.recorded.proofs.recorded.RecordedOutside.moment.Goals as goal

pub invariant_of-self-clause-kept : goal.invariant_of-self-clause-kept
invariant_of-self-clause-kept g c = kept_passed _ _ _ _ _ _ _ c.args.self.now.kept refl refl c.moment-moment.ensures.does.grew c.note.ensures

pub returns-clause-does : goal.returns-clause-does
returns-clause-does g c = did_too _ _ _ _ _ c.note.ensures c.moment-moment.ensures.does
