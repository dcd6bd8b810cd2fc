-- What the script of `migrate` did: how the run ended, what the sink got, and which name was asked for.
use Rattle.std.proofs.Common.{◌≡◌, ◌≤◌, ℕ, inl, inr, List, [], ◌∷◌, Option, Result, Ok, Err, IfOk, IsFalse, refl, sym, subst}
use Rattle.std.specs.List.{list_any}
use Rattle.link_trait.specs.Outside.{Grew, GrewPart}
use Rattle.er_base.specs.declared.no_memory.NoMemory.{NoMemory}
use Rattle.safety_automaton.specs.Keys.{KmacEntry}
use Rattle.key_store.specs.declared.key_file_fault.KeyFileFault.{KeyFileFault}
use Rattle.key_store.specs.declared.key_file_fault.KeyFileFault.TheVariants as keys
use Rattle.key_store.specs.KeyFiles.{keys_of}
use Rattle.outside.specs.Acts.{Act, is_fetch}
use Rattle.outside.specs.Doings.{Told, Did}
use Rattle.outside.specs.Scripts.{End, OutOfMemory, Script, RunsScript}
use Rattle.outside.specs.SinkTexts.{nothing_left_by}
use Rattle.outside.specs.Ties.{GrewBy, PutsInSink}
use Rattle.er_statuses.specs.Answers.{Files, keys_answer}
use Rattle.er_statuses.specs.FileScripts.{behind_keys}
use Rattle.er_statuses.specs.ScriptEnds.{end_of_run}
use Rattle.er_statuses.specs.declared.status.Status.{Status}
use Rattle.er_statuses.specs.declared.stop.Stop.{Stop}
use Rattle.er_statuses.specs.declared.stop.Stop.TheVariants as stop
use Rattle.er_program.specs.Answers.{IsKeyText, IsKeysAnswer}
use Rattle.er_program.specs.Commands.{Migrate}
use Rattle.er_program.specs.FileScripts.{prints_keys, migrates}
use Rattle.er_program.specs.KeyWriting.{GivesOne}
use Rattle.er_program.specs.Writing.{EndsCommand}
use Rattle.er_program.proofs.FileActs.{Sinks, is_spent, gives_print, gives_said, file_ends, file_asks, file_asks_part}
use Rattle.er_program.proofs.Got.{IsQuiet, quiet}
use Rattle.er_program.proofs.KeyRuns.{ends_migrated, ends_migrate_unfetched}

-- the script behind a key file
gives_keys : (read : Result (List KmacEntry) KeyFileFault) (a b : Option (List ℕ)) (f g : ℕ) (acts : List Act) (r : Result Status Stop)
    → RunsScript (behind_keys read prints_keys) acts (end_of_run r) → Sinks a b f g acts → GivesOne (IsKeysAnswer read) a b f g r
unfolding RunsScript
gives_keys (Ok entries) a b f g acts r runs sinks =
    gives_print (λ text. keys_of text ≡ Ok entries) 0 (IsKeyText entries) a b f g acts r (λ text same. record { stated = refl; same = same }) runs sinks
gives_keys (Err keys.Document) a b f g acts r runs sinks = gives_said (keys_answer keys.Document) a b f g acts r runs sinks
gives_keys (Err (keys.Field entry name)) a b f g acts r runs sinks = gives_said (keys_answer (keys.Field entry name)) a b f g acts r runs sinks
gives_keys (Err (keys.Hex entry)) a b f g acts r runs sinks = gives_said (keys_answer (keys.Hex entry)) a b f g acts r runs sinks
gives_keys (Err (keys.Number entry)) a b f g acts r runs sinks = gives_said (keys_answer (keys.Number entry)) a b f g acts r runs sinks
gives_keys (Err (keys.Range entry)) a b f g acts r runs sinks = gives_said (keys_answer (keys.Range entry)) a b f g acts r runs sinks
gives_keys (Err (keys.Twice first second)) a b f g acts r runs sinks = gives_said (keys_answer (keys.Twice first second)) a b f g acts r runs sinks
gives_keys (Err (keys.Version n)) a b f g acts r runs sinks = gives_said (keys_answer (keys.Version n)) a b f g acts r runs sinks
gives_keys (Err (keys.NoMemory want)) a b f g acts r (inl p) sinks = absurd p.0
gives_keys (Err (keys.NoMemory want)) a b f g acts r (inr p) sinks =
    let spent : (more : NoMemory) × (r ≡ Err (stop.NoMemory more)) = is_spent r p.1 in
    subst (λ (x : Result Status Stop). GivesOne (IsKeysAnswer (Err (keys.NoMemory want))) a b f g x) (sym spent.1)
    (nothing_left_by a b (subst (λ (xs : List Act). GrewBy PutsInSink a b xs) p.0 sinks.0), sinks.1.later)

-- it asks for no file
keys_quiet : (read : Result (List KmacEntry) KeyFileFault) → IsQuiet (behind_keys read prints_keys)
keys_quiet (Ok entries) = tt
keys_quiet (Err keys.Document) = tt
keys_quiet (Err (keys.Field entry name)) = tt
keys_quiet (Err (keys.Hex entry)) = tt
keys_quiet (Err (keys.Number entry)) = tt
keys_quiet (Err (keys.Range entry)) = tt
keys_quiet (Err (keys.Twice first second)) = tt
keys_quiet (Err (keys.Version n)) = tt
keys_quiet (Err (keys.NoMemory want)) = tt

-- ---- the whole script

abbrev migrates_file : List ℕ → Script
migrates_file file = behind_keys (keys_of file) prints_keys

quiet_file : (file : List ℕ) (acts : List Act) (end : End) → RunsScript (migrates_file file) acts end → IsFalse (list_any is_fetch acts)
quiet_file file acts end runs = quiet (migrates_file file) acts end (keys_quiet (keys_of file)) runs

-- nothing was written where memory ran out
spent_migrating : (name : List ℕ) (r : Result Status Stop) (files : Files) (c d : ℕ) (a b : Option (List ℕ)) (f g : ℕ) → end_of_run r ≡ OutOfMemory → Grew a b [] → f ≤ g
    → EndsCommand (Migrate name) files c d a b f g r
spent_migrating name r files c d a b f g is nothing later =
    let spent : (want : NoMemory) × (r ≡ Err (stop.NoMemory want)) = is_spent r is in
    subst (λ (x : Result Status Stop). EndsCommand (Migrate name) files c d a b f g x) (sym spent.1) (record { text = []; first = refl; printed = nothing; later = later })

pub migrate_ends : (name : List ℕ) (before now : Told) (r : Result Status Stop) (acts : List Act) → Did before now acts → RunsScript (migrates name) acts (end_of_run r)
    → EndsCommand (Migrate name) now.cabinet.files before.cabinet.faults now.cabinet.faults before.sink.held now.sink.held before.sink.faults now.sink.faults r
migrate_ends name before now r acts did runs =
    file_ends name migrates_file (EndsCommand (Migrate name)) before now r
    (λ file files c d a b f g rest has run sinks. ends_migrated name file files c d a b f g r has (gives_keys (keys_of file) a b f g rest r run sinks))
    (λ files c d a b f g ends. ends_migrate_unfetched name files c d a b f g r ends)
    (spent_migrating name r) acts did runs

pub migrate_asks : (name : List ℕ) (before now : Told) (r : Result Status Stop) (acts : List Act) → Did before now acts → RunsScript (migrates name) acts (end_of_run r)
    → IfOk r (λ s. Grew before.cabinet.asked now.cabinet.asked (name ∷ []))
migrate_asks name before now r acts did runs = file_asks name migrates_file quiet_file before now r acts did runs

pub migrate_asks_part : (name : List ℕ) (before now : Told) (end : End) (acts : List Act) → Did before now acts → RunsScript (migrates name) acts end
    → GrewPart before.cabinet.asked now.cabinet.asked (name ∷ [])
migrate_asks_part name before now end acts did runs = file_asks_part name migrates_file quiet_file before now end acts did runs
