-- The fetch gave a key file, or none, or memory ran out in it.
use Rattle.std.proofs.Common.{List, ℕ}
use Rattle.key_store.specs.KeyFiles.{keys_of}
use Rattle.outside.specs.Scripts.{Script}
use Rattle.outside.specs.ScriptSteps.{does_had, does_had_none, does_spent_fetching}
use Rattle.er_statuses.specs.FileScripts.{behind_fetch, behind_keys, fetches_file}
use Rattle.er_program.specs.KeyedScripts.{does_work}
use Rattle.er_program.specs.declared.work.Work.{Work}
use Rattle.er_program.proofs.keyed.keyed.Goals as goal

abbrev behind : Work → (name file : List ℕ) → Script
behind work name file = behind_keys (keys_of file) (λ entries. fetches_file name (does_work work entries))

pub returns-in-Ok : goal.returns-in-Ok
returns-in-Ok g c = record {
  does = does_had c.args.command.now.keys.now c.in-Ok.octets.items (behind_fetch c.args.command.now.keys.now (behind c.args.command.now.work c.args.command.now.name.now)) _ _ _ _
      c.in-Ok.ensures.does (rw c.as_slice.ensures.value at c.work_with.ensures.does);
}

pub returns-in-Err-Failed : goal.returns-in-Err-Failed
returns-in-Err-Failed g c = record {
  does = does_had_none c.args.command.now.keys.now (behind_fetch c.args.command.now.keys.now (behind c.args.command.now.work c.args.command.now.name.now)) _ _ _ _
      (rw c.in-Err-Failed.field-0-is at c.in-Err-Failed.ensures.does) c.unfetched.ensures.does;
}

pub returns-in-Err-NoMemory : goal.returns-in-Err-NoMemory
returns-in-Err-NoMemory g c = record {
  does = does_spent_fetching c.args.command.now.keys.now (behind_fetch c.args.command.now.keys.now (behind c.args.command.now.work c.args.command.now.name.now)) _ _
      (rw c.in-Err-NoMemory.field-0-is at c.in-Err-NoMemory.ensures.does);
}
