-- The store that was read, and the key file that is refused.
use Rattle.outside.specs.ScriptSteps.{does_spent_asking}
use Rattle.er_statuses.specs.FileScripts.{behind_fetch, fetches_file}
use Rattle.er_statuses.specs.FileSteps.{does_keyed, does_keyless}
use Rattle.er_program.specs.KeyedScripts.{does_work}
use Rattle.er_program.proofs.keyed.work_with.Goals as goal

pub returns-in-Ok : goal.returns-in-Ok
returns-in-Ok g c = record {
  does = does_keyed (λ entries. fetches_file c.args.name.now (does_work c.args.work entries)) _ _ _ _ _ c.in-Ok.ensures.exact c.work_named.ensures.does;
}

pub returns-in-Err : goal.returns-in-Err
returns-in-Err g c = record {
  does = does_keyless (λ entries. fetches_file c.args.name.now (does_work c.args.work entries))
      (λ entries t. does_spent_asking c.args.name.now (behind_fetch c.args.name.now (does_work c.args.work entries)) t)
      c.in-Err.fault _ _ _ _ c.in-Err.ensures.exact c.keys_refused.ensures.ends;
}
