-- By what reading the key file answered.
use Rattle.key_store.specs.KeyFiles.{keys_of}
use Rattle.application_command.specs.ApplicationCommandViews.{application_view}
use Rattle.application_command.proofs.RunEnds.{file_good, file_refused}
use Rattle.application_command.proofs.running.keyed.Goals as goal

pub returns-in-Ok : goal.returns-in-Ok
returns-in-Ok g c = record {
  ends = file_good (keys_of c.args.octets.now) (application_view c.args.command.now) _ (g.O.Outside.told c.args.outside.now)
      (g.O.Outside.told c.loop_with.new.outside) _ c.in-Ok.ensures.exact c.loop_with.ensures.ends;
}

pub returns-in-Err : goal.returns-in-Err
returns-in-Err g c = record {
  ends = file_refused (keys_of c.args.octets.now) (application_view c.args.command.now) c.in-Err.fault (g.O.Outside.told c.args.outside.now)
      (g.O.Outside.told c.keys_refused.new.outside) _ c.in-Err.ensures.exact c.keys_refused.ensures.ends;
}
