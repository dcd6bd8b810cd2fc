use Rattle.er_end_model.proofs.Origins.{octets_are_heard, runs_are_heard, stream_is_whole}
use Rattle.er_end_model.proofs.laws.octets_are_heard.Goals as goal

pub returns-clause-event : goal.returns-clause-event
returns-clause-event c = octets_are_heard c.steps.ensures.only c.accepts_verified.ensures.only

pub returns-clause-run : goal.returns-clause-run
returns-clause-run c = runs_are_heard c.steps.ensures.only c.accepts_verified.ensures.only

pub returns-clause-stream : goal.returns-clause-stream
returns-clause-stream c = stream_is_whole
