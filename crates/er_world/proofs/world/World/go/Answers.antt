use Rattle.er_world.proofs.world.World.go.Goals as goal

pub returns-in-Fixed-clause-does : goal.returns-in-Fixed-clause-does
returns-in-Fixed-clause-does c = rw c.in-Fixed.is c.open_fixed.ensures.does

pub returns-in-Link-clause-does : goal.returns-in-Link-clause-does
returns-in-Link-clause-does c = rw c.in-Link.is c.open_called.ensures.does

pub returns-in-Wire-clause-does : goal.returns-in-Wire-clause-does
returns-in-Wire-clause-does c = rw c.in-Wire.is c.open_wire.ensures.does

pub returns-in-Send-clause-does : goal.returns-in-Send-clause-does
returns-in-Send-clause-does c = rw c.in-Send.is (rw c.as_slice.ensures at c.at.ensures.does)

pub returns-in-Pass-clause-does : goal.returns-in-Pass-clause-does
returns-in-Pass-clause-does c = rw c.in-Pass.is c.at-in-Pass.ensures.does

pub returns-in-Lose-clause-does : goal.returns-in-Lose-clause-does
returns-in-Lose-clause-does c = rw c.in-Lose.is c.at-in-Lose.ensures.does

pub returns-in-Repeat-clause-does : goal.returns-in-Repeat-clause-does
returns-in-Repeat-clause-does c = rw c.in-Repeat.is c.at-in-Repeat.ensures.does

pub returns-in-Alter-clause-does : goal.returns-in-Alter-clause-does
returns-in-Alter-clause-does c = rw c.in-Alter.is c.at-in-Alter.ensures.does

pub returns-in-Put-clause-does : goal.returns-in-Put-clause-does
returns-in-Put-clause-does c = rw c.in-Put.is (rw c.as_slice-in-Put.ensures at c.at-in-Put.ensures.does)

pub returns-in-Copy-clause-does : goal.returns-in-Copy-clause-does
returns-in-Copy-clause-does c = rw c.in-Copy.is (rw (c.place-from.ensures, c.place-to.ensures) at c.copy.ensures.does)

pub returns-in-Take-clause-does : goal.returns-in-Take-clause-does
returns-in-Take-clause-does c = rw c.in-Take.is c.at-in-Take.ensures.does

pub returns-in-Release-clause-does : goal.returns-in-Release-clause-does
returns-in-Release-clause-does c = rw c.in-Release.is c.at-in-Release.ensures.does

pub returns-in-Tick-clause-does : goal.returns-in-Tick-clause-does
returns-in-Tick-clause-does c = rw c.in-Tick.is c.tick.ensures.does

pub returns-in-Drain-clause-does : goal.returns-in-Drain-clause-does
returns-in-Drain-clause-does c = rw c.in-Drain.is c.drain.ensures.does
