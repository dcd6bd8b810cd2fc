use Rattle.std.proofs.Common.{true, false}
use Rattle.hdlc_station.proofs.Keeping.{keeps_ready, keeps_refuses, keeps_disconnects, keeps_strays, keeps_drops}
use Rattle.hdlc_station.proofs.Moving.{row_hears}
use Rattle.hdlc_station.proofs.selective.hear_up.Goals as goal

pub returns-in-Info-clause-hears : goal.returns-in-Info-clause-hears
returns-in-Info-clause-hears c = rw c.in-Info.is c.hear_info.ensures.hears

pub returns-in-Rr-clause-hears : goal.returns-in-Rr-clause-hears
returns-in-Rr-clause-hears c = rw c.in-Rr.is (row_hears c.args.information.now _ _ _ c.hear_ready.result c.of.result _ c.of.ensures c.hear_ready.ensures.hears (keeps_ready _ false))

pub returns-in-Rnr-clause-hears : goal.returns-in-Rnr-clause-hears
returns-in-Rnr-clause-hears c = rw c.in-Rnr.is (row_hears c.args.information.now _ _ _ c.hear_ready-in-Rnr.result c.of-in-Rnr.result _ c.of-in-Rnr.ensures c.hear_ready-in-Rnr.ensures.hears (keeps_ready _ true))

pub returns-in-Rej-clause-hears : goal.returns-in-Rej-clause-hears
returns-in-Rej-clause-hears c = rw c.in-Rej.is (row_hears c.args.information.now _ _ _ c.refuse.result c.of-in-Rej.result _ c.of-in-Rej.ensures c.refuse.ensures.hears keeps_refuses)

pub returns-in-Srej-clause-hears : goal.returns-in-Srej-clause-hears
returns-in-Srej-clause-hears c = rw c.in-Srej.is (c.repeat.ensures.hears c.args.information.now c.args.places.now)

pub returns-in-Sabm-clause-hears : goal.returns-in-Sabm-clause-hears
returns-in-Sabm-clause-hears c = rw c.in-Sabm.is (c.set_up_again.ensures.hears c.args.information.now)

pub returns-in-Sabme-clause-hears : goal.returns-in-Sabme-clause-hears
returns-in-Sabme-clause-hears c = rw c.in-Sabme.is (c.set_up_again-in-Sabme.ensures.hears c.args.information.now)

pub returns-in-Disc-clause-hears : goal.returns-in-Disc-clause-hears
returns-in-Disc-clause-hears c = rw c.in-Disc.is (row_hears c.args.information.now _ _ _ c.disconnect.result c.of-in-Disc.result _ c.of-in-Disc.ensures c.disconnect.ensures.hears (keeps_disconnects c.in-Disc.poll))

pub returns-in-Ua-clause-hears : goal.returns-in-Ua-clause-hears
returns-in-Ua-clause-hears c = rw c.in-Ua.is (row_hears c.args.information.now _ _ _ c.stray.result c.of-in-Ua.result _ c.of-in-Ua.ensures c.stray.ensures.hears keeps_strays)

pub returns-in-Dm-clause-hears : goal.returns-in-Dm-clause-hears
returns-in-Dm-clause-hears c = rw c.in-Dm.is (row_hears c.args.information.now _ _ _ c.drop_link.result c.of-in-Dm.result _ c.of-in-Dm.ensures c.drop_link.ensures.hears keeps_drops)

pub returns-in-Frmr-clause-hears : goal.returns-in-Frmr-clause-hears
returns-in-Frmr-clause-hears c = rw c.in-Frmr.is (row_hears c.args.information.now _ _ _ c.drop_link-in-Frmr.result c.of-in-Frmr.result _ c.of-in-Frmr.ensures c.drop_link-in-Frmr.ensures.hears keeps_drops)
