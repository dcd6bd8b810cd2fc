use Rattle.std.proofs.Common.{arith}
use Rattle.sapdu.specs.Reading.{view}
use Rattle.safety_automaton.proofs.safe.Safe.write.Goals as goal

pub write_into-requires-clause-room : goal.write_into-requires-clause-room
write_into-requires-clause-room c =
    let few = c.lengths_of_spellings.ensures.few (view c.pdu.result) c.flag.result c.pdu.ensures.user in
    omega arith
