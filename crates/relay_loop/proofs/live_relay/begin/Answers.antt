-- Nothing was opened yet.
use Rattle.relay_loop.proofs.RelayRuns.{begun_deaf, ends_begun}
use Rattle.relay_loop.proofs.live_relay.begin.Goals as goal

pub returns-in-Ok : goal.returns-in-Ok
returns-in-Ok g c = λ script dial. ends_begun c.write_header.result script dial c.args.listen.now _ _ _ c.in-Ok.ensures.does c.write_header.ensures.wrote c.write_header.ensures.broke

pub returns-in-Err : goal.returns-in-Err
returns-in-Err g c = λ script dial. begun_deaf script dial c.args.listen.now _ _ c.in-Err.ensures.does
