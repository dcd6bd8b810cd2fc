-- Each line by its own reader.
use Rattle.er_tap.proofs.steps.read_step.Goals as goal

pub returns-in-Link-clause-step : goal.returns-in-Link-clause-step
returns-in-Link-clause-step c = rw c.in-Link.is c.link.ensures.step

pub returns-in-Octets-clause-step : goal.returns-in-Octets-clause-step
returns-in-Octets-clause-step c = rw c.in-Octets.is c.octets.ensures.step
