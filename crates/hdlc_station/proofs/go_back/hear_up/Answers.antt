use Rattle.hdlc_station.proofs.go_back.hear_up.Goals as goal

pub returns-in-Info-clause-hears : goal.returns-in-Info-clause-hears
returns-in-Info-clause-hears c = rw c.in-Info.is c.hear_info.ensures.hears

pub returns-in-Rr-clause-hears : goal.returns-in-Rr-clause-hears
returns-in-Rr-clause-hears c = rw c.in-Rr.is c.hear_ready.ensures.hears

pub returns-in-Rnr-clause-hears : goal.returns-in-Rnr-clause-hears
returns-in-Rnr-clause-hears c = rw c.in-Rnr.is c.hear_ready-in-Rnr.ensures.hears

pub returns-in-Rej-clause-hears : goal.returns-in-Rej-clause-hears
returns-in-Rej-clause-hears c = rw c.in-Rej.is c.hear_reject.ensures.hears

pub returns-in-Srej-clause-hears : goal.returns-in-Srej-clause-hears
returns-in-Srej-clause-hears c = rw c.in-Srej.is c.refuse.ensures.hears

pub returns-in-Sabm-clause-hears : goal.returns-in-Sabm-clause-hears
returns-in-Sabm-clause-hears c = rw c.in-Sabm.is c.set_up_again.ensures.hears

pub returns-in-Sabme-clause-hears : goal.returns-in-Sabme-clause-hears
returns-in-Sabme-clause-hears c = rw c.in-Sabme.is c.set_up_again-in-Sabme.ensures.hears

pub returns-in-Disc-clause-hears : goal.returns-in-Disc-clause-hears
returns-in-Disc-clause-hears c = rw c.in-Disc.is c.disconnect.ensures.hears

pub returns-in-Ua-clause-hears : goal.returns-in-Ua-clause-hears
returns-in-Ua-clause-hears c = rw c.in-Ua.is c.stray.ensures.hears

pub returns-in-Dm-clause-hears : goal.returns-in-Dm-clause-hears
returns-in-Dm-clause-hears c = rw c.in-Dm.is c.drop_link.ensures.hears

pub returns-in-Frmr-clause-hears : goal.returns-in-Frmr-clause-hears
returns-in-Frmr-clause-hears c = rw c.in-Frmr.is c.drop_link-in-Frmr.ensures.hears
