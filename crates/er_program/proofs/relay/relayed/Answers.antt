-- No address, or what the loop answered.
use Rattle.er_program.specs.RelayCommands.{relay_view}
use Rattle.er_program.proofs.RelayEnds.{loop_done, loop_sunk, loop_spent, wires_end, address_ends}
use Rattle.er_program.proofs.relay.relayed.Goals as goal

pub returns-then-not-is_address : goal.returns-then-not-is_address
returns-then-not-is_address g c = record {
  ends = address_ends _ (relay_view c.args.command.now) _ _ _ (c.is_address.ensures.no c.if-not-is_address.true) c.last.ensures.does;
}

pub returns-in-Ok : goal.returns-in-Ok
returns-in-Ok g c = record {
  ends = loop_done _ (relay_view c.args.command.now) _ _ (c.is_address.ensures.yes c.if-not-is_address.false) (c.relay.ensures.relays, c.in-Ok.ensures.ends);
}

pub returns-in-Err-Wires : goal.returns-in-Err-Wires
returns-in-Err-Wires g c = record {
  ends = wires_end _ (relay_view c.args.command.now) _ _ _ _ (c.is_address.ensures.yes c.if-not-is_address.false)
      (c.relay.ensures.relays, rw c.in-Err-Wires.field-0-is at c.in-Err-Wires.ensures.ends) c.last-in-Err-Wires.ensures.does;
}

pub returns-in-Err-Sink : goal.returns-in-Err-Sink
returns-in-Err-Sink g c = record {
  ends = loop_sunk _ (relay_view c.args.command.now) _ _ (c.is_address.ensures.yes c.if-not-is_address.false)
      (c.relay.ensures.relays, rw c.in-Err-Sink.field-0-is at c.in-Err-Sink.ensures.ends);
}

pub returns-in-Err-NoMemory : goal.returns-in-Err-NoMemory
returns-in-Err-NoMemory g c = record {
  ends = loop_spent _ _ (relay_view c.args.command.now) _ _ (c.is_address.ensures.yes c.if-not-is_address.false)
      (c.relay.ensures.relays, rw c.in-Err-NoMemory.field-0-is at c.in-Err-NoMemory.ensures.ends);
}
