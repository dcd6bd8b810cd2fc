-- Each line by its own reader.
use Rattle.er_scenario.proofs.steps.read_step.Goals as goal

pub returns-in-Fixed-clause-step : goal.returns-in-Fixed-clause-step
returns-in-Fixed-clause-step c = rw c.in-Fixed.is c.fixed.ensures.step

pub returns-in-Link-clause-step : goal.returns-in-Link-clause-step
returns-in-Link-clause-step c = rw c.in-Link.is c.link.ensures.step

pub returns-in-Wire-clause-step : goal.returns-in-Wire-clause-step
returns-in-Wire-clause-step c = rw c.in-Wire.is c.wire.ensures.step

pub returns-in-Send-clause-step : goal.returns-in-Send-clause-step
returns-in-Send-clause-step c = rw c.in-Send.is c.send.ensures.step

pub returns-in-Pass-clause-step : goal.returns-in-Pass-clause-step
returns-in-Pass-clause-step c = rw c.in-Pass.is c.pass.ensures.step

pub returns-in-Lose-clause-step : goal.returns-in-Lose-clause-step
returns-in-Lose-clause-step c = rw c.in-Lose.is c.lose.ensures.step

pub returns-in-Repeat-clause-step : goal.returns-in-Repeat-clause-step
returns-in-Repeat-clause-step c = rw c.in-Repeat.is c.repeat.ensures.step

pub returns-in-Alter-clause-step : goal.returns-in-Alter-clause-step
returns-in-Alter-clause-step c = rw c.in-Alter.is c.alter.ensures.step

pub returns-in-Put-clause-step : goal.returns-in-Put-clause-step
returns-in-Put-clause-step c = rw c.in-Put.is c.put.ensures.step

pub returns-in-Copy-clause-step : goal.returns-in-Copy-clause-step
returns-in-Copy-clause-step c = rw c.in-Copy.is c.copy.ensures.step

pub returns-in-Take-clause-step : goal.returns-in-Take-clause-step
returns-in-Take-clause-step c = rw c.in-Take.is c.take.ensures.step

pub returns-in-Release-clause-step : goal.returns-in-Release-clause-step
returns-in-Release-clause-step c = rw c.in-Release.is c.release.ensures.step

pub returns-in-Tick-clause-step : goal.returns-in-Tick-clause-step
returns-in-Tick-clause-step c = rw c.in-Tick.is c.tick.ensures.step

pub returns-in-Drain-clause-step : goal.returns-in-Drain-clause-step
returns-in-Drain-clause-step c = rw c.in-Drain.is c.drain.ensures.step
