use Rattle.hdlc_pair_laws.proofs.Giving.{frames_give}
use Rattle.hdlc_pair_laws.proofs.laws.frames_give.Goals as goal

pub returns : goal.returns
returns c = frames_give c.receives_give.ensures c.releases_are_told.ensures.calls c.released_are_inert.ensures
