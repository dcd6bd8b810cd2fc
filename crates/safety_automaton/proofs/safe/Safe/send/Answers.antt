use Rattle.std.proofs.Common.{arith, length, ◌≤◌}
use Rattle.sapdu.specs.Spelling.{Dt, spelling}
use Rattle.safety_automaton.proofs.Lengths.{few_appended}
use Rattle.safety_automaton.proofs.safe.Safe.send.Goals as goal

pub write_into-requires-clause-room : goal.write_into-requires-clause-room
write_into-requires-clause-room c =
    let few : length (spelling (Dt c.args.user.now c.in_ok-mac.mac) c.flag.result) ≤ 1032 = c.lengths_of_spellings.ensures.few (Dt c.args.user.now c.in_ok-mac.mac) c.flag.result c.in_ok-mac.ensures.user in
    omega (arith, few, c.requires.room)

pub returns-clause-sent : goal.returns-clause-sent
returns-clause-sent c =
    let few : length (spelling (Dt c.args.user.now c.in_ok-mac.mac) c.flag.result) ≤ 1032 = c.lengths_of_spellings.ensures.few (Dt c.args.user.now c.in_ok-mac.mac) c.flag.result c.in_ok-mac.ensures.user in
    few_appended _ _ _ 1032 c.write_into.ensures few
