use Rattle.safety_automaton.specs.Keys.{key_at}
use Rattle.drill_ends.proofs.SafeRows.{received_so}
use Rattle.drill_ends.proofs.safe_end.received.Goals as goal

pub returns : goal.returns
returns c =
    received_so (key_at c.args.keys.now c.args.now) c.args.safe.now.safety c.args.octets.now c.receive-deed.new.self _ c.in_ok-checked.checked
    c.in_ok-room.room.items c.receive-deed.new.out.items c.held.result.now c.new-told.result.items c.tell_report.new.told.items c.tell_sealed.new.told.items c.tell_written.new.told.items
    c.receive-deed.ensures.safety c.receive-deed.ensures.report c.receive-deed.ensures.sealed c.receive-deed.ensures.verified
    c.in_ok-room.ensures.empty c.receive-deed.ensures.out.items c.held.ensures c.in_ok-checked.ensures
    c.new-told.ensures.items c.in_ok-tell_report.ensures c.in_ok-tell_sealed.ensures c.in_ok-tell_written.ensures
