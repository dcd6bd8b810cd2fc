use Rattle.hdlc_pair_laws.proofs.Giving.{frames_give}
use Rattle.hdlc_pair_laws.proofs.MendCalls.{mend_keeps, mend_ends, one_way_ends}
use Rattle.hdlc_pair_laws.proofs.laws.mending_keeps.Goals as goal

pub returns-clause-calls : goal.returns-clause-calls
returns-clause-calls c =
    mend_keeps c.control_reads_back.ensures (frames_give c.receives_give.ensures c.releases_are_told.ensures.calls c.released_are_inert.ensures) c.releases_are_told.ensures.calls

pub returns-clause-done : goal.returns-clause-done
returns-clause-done c = mend_ends

pub returns-clause-one_way : goal.returns-clause-one_way
returns-clause-one_way c = one_way_ends
