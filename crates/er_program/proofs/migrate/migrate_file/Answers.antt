-- The store that was read, and the key file that is refused.
use Rattle.outside.specs.ScriptSteps.{does_spent}
use Rattle.er_statuses.specs.FileSteps.{does_keyed, does_keyless}
use Rattle.er_program.specs.FileScripts.{prints_keys}
use Rattle.er_program.proofs.migrate.migrate_file.Goals as goal

pub returns-in-Ok : goal.returns-in-Ok
returns-in-Ok g c = record { does = does_keyed prints_keys _ _ _ _ _ c.in-Ok.ensures.exact c.print_keys.ensures.does }

pub returns-in-Err : goal.returns-in-Err
returns-in-Err g c = record {
  does = does_keyless prints_keys (λ entries t. does_spent _ _ t) c.in-Err.fault _ _ _ _ c.in-Err.ensures.exact c.keys_refused.ensures.ends;
}
