-- The SaPDU that was read, with its flag.
use Rattle.std.proofs.Common.{sym}
use Rattle.std.proofs.lemmas.Result.{on_ok_weaker}
use Rattle.link_audit.proofs.printing.put_item.Goals as goal

pub returns-in-Ok : goal.returns-in-Ok
returns-in-Ok c = on_ok_weaker c.put_pdu.result (λ all. rw (c.in-Ok.is, sym c.read.view_is) (all c.read.inside.flag)) c.put_pdu.ensures
