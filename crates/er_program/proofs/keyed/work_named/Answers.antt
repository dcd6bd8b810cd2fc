-- The fetch gave a file, or none, or memory ran out in it.
use Rattle.outside.specs.ScriptSteps.{does_had, does_had_none, does_spent_fetching}
use Rattle.er_statuses.specs.FileScripts.{behind_fetch}
use Rattle.er_program.specs.KeyedScripts.{does_work}
use Rattle.er_program.proofs.keyed.work_named.Goals as goal

pub returns-in-Ok : goal.returns-in-Ok
returns-in-Ok g c = record {
  does = does_had c.args.name.now c.in-Ok.octets.items (behind_fetch c.args.name.now (does_work c.args.work c.args.store.now)) _ _ _ _
      c.in-Ok.ensures.does (rw c.as_slice.ensures.value at c.work_on.ensures.does);
}

pub returns-in-Err-Failed : goal.returns-in-Err-Failed
returns-in-Err-Failed g c = record {
  does = does_had_none c.args.name.now (behind_fetch c.args.name.now (does_work c.args.work c.args.store.now)) _ _ _ _
      (rw c.in-Err-Failed.field-0-is at c.in-Err-Failed.ensures.does) c.unfetched.ensures.does;
}

pub returns-in-Err-NoMemory : goal.returns-in-Err-NoMemory
returns-in-Err-NoMemory g c = record {
  does = does_spent_fetching c.args.name.now (behind_fetch c.args.name.now (does_work c.args.work c.args.store.now)) _ _
      (rw c.in-Err-NoMemory.field-0-is at c.in-Err-NoMemory.ensures.does);
}
