-- What a command that needs no wires leaves, from what its script did.
use Rattle.std.proofs.Common.{◌≡◌, ◌≢◌, ℕ, inl, inr, List, [], ◌∷◌, Option, Result, IsFalse, refl, sym, subst}
use Rattle.std.specs.List.{list_any}
use Rattle.link_trait.specs.Outside.{Grew, GrewPart}
use Rattle.link_trait.specs.Growth.{grew_nothing, part_whole}
use Rattle.link_trait.specs.States.{CabinetState}
use Rattle.drill_model.specs.Growth.{TextGrows}
use Rattle.drill_laws.specs.Laws.{OpensAlways}
use Rattle.outside.specs.Acts.{Act, is_fetch}
use Rattle.outside.specs.Doings.{Told, Did}
use Rattle.outside.specs.Scripts.{Does, says_last}
use Rattle.outside.specs.SinkTexts.{fetches_none}
use Rattle.er_statuses.specs.Answers.{Answer}
use Rattle.er_statuses.specs.LastLines.{usage_line}
use Rattle.er_statuses.specs.ScriptEnds.{end_of_run}
use Rattle.er_statuses.specs.Writing.{Exhausts}
use Rattle.er_statuses.specs.declared.status.Status.{Status}
use Rattle.er_statuses.specs.declared.stop.Stop.{Stop}
use Rattle.er_program.specs.declared.file_command.FileCommand.{FileCommand}
use Rattle.er_program.specs.declared.file_command.FileCommand.TheVariants as file
use Rattle.er_program.specs.declared.file_command.PlainCommand.{PlainCommand}
use Rattle.er_program.specs.declared.file_command.PlainCommand.TheVariants as plain
use Rattle.er_program.specs.declared.work.Work.{Work}
use Rattle.er_program.specs.declared.work.Work.TheVariants as work
use Rattle.er_program.specs.Asking.{AskedNames, Asks}
use Rattle.er_program.specs.Commands.{Command, Misused, Drill, Bits, Migrate, Replay, Check, Audit, Bulk, Serve, Call, names_of}
use Rattle.er_program.specs.CommandScripts.{plain_script, file_script}
use Rattle.er_program.specs.CommandAnswers.{Answered}
use Rattle.er_program.specs.CommandViews.{command_of_work, plain_view, file_view}
use Rattle.er_program.specs.FileScripts.{migrates, reads_line}
use Rattle.er_program.specs.KeyedScripts.{works_behind_keys}
use Rattle.er_program.specs.StepScripts.{drills, bulks}
use Rattle.er_program.proofs.BitActs.{bits_ends, bits_asks, bits_asks_part}
use Rattle.er_program.proofs.BulkActs.{gives_bulk, quiet_bulk}
use Rattle.er_program.proofs.BulkRuns.{ends_bulk}
use Rattle.er_program.proofs.DrillActs.{drill_ends, drill_asks, drill_asks_part}
use Rattle.er_program.proofs.FileActs.{Sinks, gives_answer, gives_said, if_ok}
use Rattle.er_program.proofs.KeyedActs.{words}
use Rattle.er_program.proofs.Migrating.{migrate_ends, migrate_asks, migrate_asks_part}
use Rattle.er_program.proofs.RunEndings.{ends_unfit}

-- ---- a command that asks for no file

-- no name was asked for
unasked : (before now : Told) (acts : List Act) → Did before now acts → IsFalse (list_any is_fetch acts) → Grew before.cabinet.asked now.cabinet.asked []
unasked before now acts did none =
    subst (λ (c : CabinetState). Grew before.cabinet.asked c.asked []) (sym (did.cabinet.rests none)) (grew_nothing before.cabinet.asked)

-- what the sink got
sinks_of : (before now : Told) (acts : List Act) → Did before now acts → Sinks before.sink.held now.sink.held before.sink.faults now.sink.faults acts
sinks_of before now acts did = (did.sink.held, did.sink.faults)

-- ---- each command

abbrev Leaves : Command → (before now : Told) → Result Status Stop → Type 0
Leaves command before now r = Answered command before.cabinet now.cabinet before.sink now.sink r

misused_leaves : (before now : Told) (r : Result Status Stop) → Does (says_last 1 usage_line) before now (end_of_run r) → Leaves Misused before now r
misused_leaves before now r does =
    let answer : Answer = record { status = 1; text = usage_line } in
    let none : Grew before.cabinet.asked now.cabinet.asked [] =
    unasked before now does.acts does.did (fetches_none (λ text. text ≡ usage_line) 1 does.acts (end_of_run r) does.runs) in
    record {
      ends = ends_unfit now.cabinet.files before.cabinet.faults now.cabinet.faults before.sink.held now.sink.held before.sink.faults now.sink.faults r
          (gives_answer answer before.sink.held now.sink.held before.sink.faults now.sink.faults r
          (gives_said answer before.sink.held now.sink.held before.sink.faults now.sink.faults does.acts r does.runs (sinks_of before now does.acts does.did)));
      asks = if_ok r none;
      part = part_whole before.cabinet.asked now.cabinet.asked [] none;
      files = does.did.cabinet.files;
      unfetched = does.did.cabinet.faults.later;
      sunk = does.did.sink.faults.later;
    }

drill_leaves : TextGrows → (name : List ℕ) (before now : Told) (r : Result Status Stop) → Does (drills name) before now (end_of_run r) → Leaves (Drill name) before now r
drill_leaves grows name before now r does = record {
  ends = drill_ends grows name before now r does.acts does.did does.runs;
  asks = drill_asks name before now r does.acts does.did does.runs;
  part = drill_asks_part name before now (end_of_run r) does.acts does.did does.runs;
  files = does.did.cabinet.files;
  unfetched = does.did.cabinet.faults.later;
  sunk = does.did.sink.faults.later;
}

bits_leaves : (name : List ℕ) (before now : Told) (r : Result Status Stop) → Does (reads_line name) before now (end_of_run r) → Leaves (Bits name) before now r
bits_leaves name before now r does = record {
  ends = bits_ends name before now r does.acts does.did does.runs;
  asks = bits_asks name before now r does.acts does.did does.runs;
  part = bits_asks_part name before now (end_of_run r) does.acts does.did does.runs;
  files = does.did.cabinet.files;
  unfetched = does.did.cabinet.faults.later;
  sunk = does.did.sink.faults.later;
}

migrate_leaves : (keys : List ℕ) (before now : Told) (r : Result Status Stop) → Does (migrates keys) before now (end_of_run r) → Leaves (Migrate keys) before now r
migrate_leaves keys before now r does = record {
  ends = migrate_ends keys before now r does.acts does.did does.runs;
  asks = migrate_asks keys before now r does.acts does.did does.runs;
  part = migrate_asks_part keys before now (end_of_run r) does.acts does.did does.runs;
  files = does.did.cabinet.files;
  unfetched = does.did.cabinet.faults.later;
  sunk = does.did.sink.faults.later;
}

bulk_leaves : OpensAlways → (seed count : ℕ) (before now : Told) (r : Result Status Stop) → Does (bulks seed count) before now (end_of_run r) → Leaves (Bulk seed count) before now r
bulk_leaves opens seed count before now r does =
    let none : Grew before.cabinet.asked now.cabinet.asked [] = unasked before now does.acts does.did (quiet_bulk seed count does.acts (end_of_run r) does.runs) in
    record {
      ends = ends_bulk seed count now.cabinet.files before.cabinet.faults now.cabinet.faults before.sink.held now.sink.held before.sink.faults now.sink.faults r
          (gives_bulk seed count opens before.sink.held now.sink.held before.sink.faults now.sink.faults does.acts r does.runs (sinks_of before now does.acts does.did));
      asks = if_ok r none;
      part = part_whole before.cabinet.asked now.cabinet.asked [] none;
      files = does.did.cabinet.files;
      unfetched = does.did.cabinet.faults.later;
      sunk = does.did.sink.faults.later;
    }

plain_leaves : TextGrows → OpensAlways → (command : PlainCommand) (before now : Told) (r : Result Status Stop) → Does (plain_script command) before now (end_of_run r)
    → Leaves (plain_view command) before now r
plain_leaves grows opens plain.Misused before now r does = misused_leaves before now r does
plain_leaves grows opens (plain.Drill name) before now r does = drill_leaves grows name.now before now r does
plain_leaves grows opens (plain.Bits name) before now r does = bits_leaves name.now before now r does
plain_leaves grows opens (plain.Migrate keys) before now r does = migrate_leaves keys.now before now r does
plain_leaves grows opens (plain.Bulk seed count) before now r does = bulk_leaves opens seed count before now r does

-- ---- a command over a key file and another file

names_of_work : (w : Work) (keys name : List ℕ) → names_of (command_of_work w keys name) ≡ keys ∷ name ∷ []
names_of_work work.Replay keys name = refl
names_of_work work.Check keys name = refl
names_of_work (work.Audit ends) keys name = refl

keyed_leaves : (w : Work) (keys name : List ℕ) (before now : Told) (r : Result Status Stop) → Does (works_behind_keys w keys name) before now (end_of_run r)
    → Leaves (command_of_work w keys name) before now r
keyed_leaves w keys name before now r does =
    let done = words w keys name before now r does.acts does.did does.runs in
    record {
      ends = done.0;
      asks = done.1;
      part = subst (λ (names : List (List ℕ)). GrewPart before.cabinet.asked now.cabinet.asked names) (sym (names_of_work w keys name)) done.2;
      files = does.did.cabinet.files;
      unfetched = does.did.cabinet.faults.later;
      sunk = does.did.sink.faults.later;
    }

-- ---- any command that needs no wires

pub file_leaves : TextGrows → OpensAlways → (command : FileCommand) (before now : Told) (r : Result Status Stop) → Does (file_script command) before now (end_of_run r)
    → Leaves (file_view command) before now r
file_leaves grows opens (file.Plain command) before now r does = plain_leaves grows opens command before now r does
file_leaves grows opens (file.Keyed command) before now r does = keyed_leaves command.work command.keys.now command.name.now before now r does

-- ---- all names were asked for

pub asks_all : (command : Command) (status : ℕ) (asked asked_now : AskedNames) (before now : Option (List ℕ)) → Asks command status asked asked_now before now
    → status ≢ 2 → status ≢ 4 → status ≢ 5 → status ≢ 7 → Grew asked asked_now (names_of command)
asks_all Misused status asked asked_now before now asks two four five seven = asks
asks_all (Drill name) status asked asked_now before now asks two four five seven = asks
asks_all (Bits name) status asked asked_now before now asks two four five seven = asks
asks_all (Migrate keys) status asked asked_now before now asks two four five seven = asks
asks_all (Replay keys trace) status asked asked_now before now (inl keyless) two four five seven = absurd (elim keyless.ends [ inl is ↦ two is | inr is ↦ four is ])
asks_all (Replay keys trace) status asked asked_now before now (inr both) two four five seven = both.asked_for
asks_all (Check keys trace) status asked asked_now before now (inl keyless) two four five seven = absurd (elim keyless.ends [ inl is ↦ two is | inr is ↦ four is ])
asks_all (Check keys trace) status asked asked_now before now (inr both) two four five seven = both.asked_for
asks_all (Audit keys tap ends) status asked asked_now before now (inl keyless) two four five seven = absurd (elim keyless.ends [ inl is ↦ two is | inr is ↦ four is ])
asks_all (Audit keys tap ends) status asked asked_now before now (inr both) two four five seven = both.asked_for
asks_all (Bulk seed count) status asked asked_now before now asks two four five seven = asks
asks_all (Serve keys address rbc turns) status asked asked_now before now asks two four five seven = absurd asks
asks_all (Call keys address engine rbc turns) status asked asked_now before now asks two four five seven = absurd asks

-- want of memory ends with no other status than 7, or 5 where its line isn't written
pub no_other : (before now : Option (List ℕ)) (f g : ℕ) (s : Status) → Exhausts before now f g s → s.0 ≢ 5 → s.0 ≢ 7 → ⊥
no_other before now f g s (inl written) five seven = seven written.0
no_other before now f g s (inr broken) five seven = five broken.0
