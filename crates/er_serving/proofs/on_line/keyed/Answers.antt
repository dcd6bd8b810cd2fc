-- The store that was read, and the key file that is refused.
use Rattle.er_serving.specs.LineCommandViews.{line_view}
use Rattle.er_serving.proofs.LineEndings.{file_good, file_refused, keeps_refused}
use Rattle.er_serving.proofs.on_line.keyed.Goals as goal

pub returns-in-Ok-clause-ends : goal.returns-in-Ok-clause-ends
returns-in-Ok-clause-ends g c =
    file_good (line_view c.args.command.now) _ _ _ _ _ c.looped.result c.in-Ok.ensures.exact c.looped.ensures.ends

pub returns-in-Err-clause-ends : goal.returns-in-Err-clause-ends
returns-in-Err-clause-ends g c =
    file_refused (line_view c.args.command.now) _ _ _ (g.O.Outside.told c.args.outside.now) (g.O.Outside.told c.keys_refused.new.outside) c.keys_refused.result c.in-Err.ensures.exact c.keys_refused.ensures.ends

pub returns-in-Err-clause-keeps : goal.returns-in-Err-clause-keeps
returns-in-Err-clause-keeps g c = keeps_refused c.in-Err.fault (g.O.Outside.told c.args.outside.now) (g.O.Outside.told c.keys_refused.new.outside) c.keys_refused.result c.keys_refused.ensures.ends
