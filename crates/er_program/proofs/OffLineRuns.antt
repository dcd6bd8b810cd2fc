-- A run of a command that needs no wires, from what its script did and how it exits.
use Rattle.std.proofs.Common.{◌≡◌, ◌≤◌, ℕ, inl, inr, List, [], ◌++◌, Result, Ok, Err, refl, sym, subst, ◌∙◌, append-nil, arith}
use Rattle.drill_model.specs.Growth.{TextGrows}
use Rattle.drill_laws.specs.Laws.{OpensAlways}
use Rattle.er_base.specs.declared.no_memory.NoMemory.{NoMemory}
use Rattle.link_trait.specs.States.{CabinetState, WiresState, ClockState}
use Rattle.outside.specs.Acts.{Act}
use Rattle.outside.specs.Ties.{GrewBy, PutsInSink}
use Rattle.outside.specs.Doings.{Told}
use Rattle.outside.specs.Scripts.{End, Script, Does, printing}
use Rattle.outside.specs.SinkTexts.{text_printed_by, text_begun_by}
use Rattle.er_statuses.specs.LastLines.{memory_line}
use Rattle.er_statuses.specs.ScriptEnds.{end_of_run, EndsSpent, ExitsBy}
use Rattle.er_statuses.specs.Writing.{Exhausts}
use Rattle.er_statuses.specs.declared.status.Status.{Status}
use Rattle.er_statuses.specs.declared.stop.Stop.{Stop}
use Rattle.er_statuses.specs.declared.stop.Stop.TheVariants as stop
use Rattle.er_serving.specs.LineRuns.{GivenToLoop}
use Rattle.er_serving.specs.Outsides.{Outside, outside_of, traffic_of}
use Rattle.er_program.specs.CommandAnswers.{Answered}
use Rattle.er_program.specs.CommandScripts.{DoesFile, file_script}
use Rattle.er_program.specs.CommandViews.{file_view}
use Rattle.er_program.specs.Statuses.{IsRun}
use Rattle.er_program.specs.declared.file_command.FileCommand.{FileCommand}
use Rattle.er_program.proofs.CommandActs.{file_leaves, asks_all, no_other}
use Rattle.er_program.proofs.OffLine.{off_line_acts}
use Rattle.er_program.proofs.BulkMeanings.{BulkHolds}
use Rattle.er_program.proofs.RunMeanings.{DrillsHold, means_finished, means_broken, means_spent}
use Rattle.er_program.proofs.WholeRuns.{off_run, off_line}

-- ---- the last line for want of memory

exhausts : (mid now : Told) (s : Status) → EndsSpent mid now s.0 → Exhausts mid.sink.held now.sink.held mid.sink.faults now.sink.faults s
exhausts mid now s (inl written) =
    let whole : GrewBy PutsInSink mid.sink.held now.sink.held (printing memory_line ++ []) =
    subst (λ (acts : List Act). GrewBy PutsInSink mid.sink.held now.sink.held acts) (sym (append-nil (printing memory_line))) written.1.sink.held in
    inl (written.0, text_printed_by mid.sink.held now.sink.held memory_line whole, written.1.sink.faults.later)
exhausts mid now s (inr broken) =
    inr (broken.0, text_begun_by mid.sink.held now.sink.held memory_line broken.1.sink.held, broken.1.sink.faults.rose refl)

-- it leaves all but the sink alone
record Rests (mid now : Told) : Type 0 where
  pub cabinet : now.cabinet ≡ mid.cabinet
  pub wires : now.wires ≡ mid.wires
  pub clock : now.clock ≡ mid.clock
  pub sunk : mid.sink.faults ≤ now.sink.faults

rests : (mid now : Told) (status : ℕ) → EndsSpent mid now status → Rests mid now
rests mid now status (inl written) = record {
  cabinet = written.1.cabinet.rests refl;
  wires = written.1.wires.rests refl;
  clock = written.1.clock.rests refl;
  sunk = written.1.sink.faults.later;
}
rests mid now status (inr broken) = record {
  cabinet = broken.1.cabinet.rests refl;
  wires = broken.1.wires.rests refl;
  clock = broken.1.clock.rests refl;
  sunk = broken.1.sink.faults.later;
}

-- ---- a run

pub does_file : (script : Script) (before mid now : Told) (end : End) (status : ℕ) → Does script before mid end → ExitsBy end mid now status → DoesFile script before now status
does_file script before mid now end status does exits = record { end = end; mid = mid; does = does; exits = exits }

module _ (command : FileCommand) (given : GivenToLoop) (before : Told) where
  -- the outside with this cabinet and sink, and the rest as it was
  abbrev beside : Told → Outside
  beside now = outside_of (record before { cabinet = now.cabinet; sink = now.sink })

  -- wires and clock are as they were
  as_told : (now : Told) (status : ℕ) → now.wires ≡ before.wires → now.clock ≡ before.clock → IsRun (file_view command) given (outside_of before) (beside now) status
      → IsRun (file_view command) given (outside_of before) (outside_of now) status
  as_told now status wires clock run =
      subst (λ (w : WiresState). IsRun (file_view command) given (outside_of before) (outside_of (record now { wires = w })) status) (sym wires)
      (subst (λ (c : ClockState). IsRun (file_view command) given (outside_of before) (outside_of (record now { wires = before.wires; clock = c })) status) (sym clock) run)

  module _ (drills : DrillsHold) (bulks : BulkHolds) (mid : Told) (wires : mid.wires ≡ before.wires) (clock : mid.clock ≡ before.clock) where
    -- the script ended with a status
    finished : (s : Status) → Answered (file_view command) before.cabinet mid.cabinet before.sink mid.sink (Ok s)
        → IsRun (file_view command) given (outside_of before) (outside_of mid) s.0
    finished s answered =
        as_told mid s.0 wires clock
        (off_run (file_view command) given (traffic_of (outside_of before)) mid.cabinet.files before.cabinet.files before.cabinet.asked mid.cabinet.asked
        before.cabinet.faults mid.cabinet.faults before.sink.faults mid.sink.faults before.sink.held mid.sink.held s.0 (off_line command)
        (means_finished drills bulks (file_view command) mid.cabinet.files before.cabinet.asked mid.cabinet.asked before.cabinet.faults mid.cabinet.faults before.sink.held mid.sink.held
        before.sink.faults mid.sink.faults s.0 answered.asks answered.ends)
        (record { part = answered.part; all = asks_all (file_view command) s.0 before.cabinet.asked mid.cabinet.asked before.sink.held mid.sink.held answered.asks })
        (record { files = answered.files; unfetched = answered.unfetched; sunk = answered.sunk }))

    -- a write failed
    broken : Answered (file_view command) before.cabinet mid.cabinet before.sink mid.sink (Err stop.Sink) → IsRun (file_view command) given (outside_of before) (outside_of mid) 5
    broken answered =
        as_told mid 5 wires clock
        (off_run (file_view command) given (traffic_of (outside_of before)) mid.cabinet.files before.cabinet.files before.cabinet.asked mid.cabinet.asked
        before.cabinet.faults mid.cabinet.faults before.sink.faults mid.sink.faults before.sink.held mid.sink.held 5 (off_line command)
        (means_broken drills bulks (file_view command) mid.cabinet.files before.cabinet.asked mid.cabinet.asked before.cabinet.faults mid.cabinet.faults before.sink.held mid.sink.held
        before.sink.faults mid.sink.faults answered.ends)
        (record { part = answered.part; all = λ two four five seven. absurd (five refl) })
        (record { files = answered.files; unfetched = answered.unfetched; sunk = answered.sunk }))

    -- memory ran out, and its line was said or not
    spent : (want : NoMemory) (now : Told) (s : Status)
        → Answered (file_view command) before.cabinet mid.cabinet before.sink mid.sink (Err (stop.NoMemory want)) → EndsSpent mid now s.0
        → IsRun (file_view command) given (outside_of before) (outside_of now) s.0
    spent want now s answered ends =
        let still = rests mid now s.0 ends in
        let last = exhausts mid now s ends in
        let sunk : before.sink.faults ≤ now.sink.faults = (let first = answered.sunk in let second = still.sunk in omega (arith, first, second)) in
        let run : IsRun (file_view command) given (outside_of before) (beside (record now { cabinet = mid.cabinet })) s.0 =
        off_run (file_view command) given (traffic_of (outside_of before)) mid.cabinet.files before.cabinet.files before.cabinet.asked mid.cabinet.asked
        before.cabinet.faults mid.cabinet.faults before.sink.faults now.sink.faults before.sink.held now.sink.held s.0 (off_line command)
        (means_spent drills bulks (file_view command) mid.cabinet.files before.cabinet.asked mid.cabinet.asked before.cabinet.faults mid.cabinet.faults before.sink.held mid.sink.held now.sink.held
        before.sink.faults mid.sink.faults now.sink.faults s answered.ends last)
        (record { part = answered.part; all = λ two four five seven. absurd (no_other mid.sink.held now.sink.held mid.sink.faults now.sink.faults s last five seven) })
        (record { files = answered.files; unfetched = answered.unfetched; sunk = sunk }) in
        as_told now s.0 (still.wires ∙ wires) (still.clock ∙ clock)
        (subst (λ (c : CabinetState). IsRun (file_view command) given (outside_of before) (beside (record now { cabinet = c })) s.0) (sym still.cabinet) run)

  pub off_line_run : TextGrows → OpensAlways → DrillsHold → BulkHolds → (mid now : Told) (r : Result Status Stop) (s : Status) → Does (file_script command) before mid (end_of_run r)
      → ExitsBy (end_of_run r) mid now s.0 → IsRun (file_view command) given (outside_of before) (outside_of now) s.0
  off_line_run grows opens drills bulks mid now (Ok status) s does exits =
      let off = off_line_acts (file_script command) does.acts (end_of_run (Ok status)) does.runs in
      let run = finished drills bulks mid (does.did.wires.rests off.calls) (does.did.clock.rests off.questions) status (file_leaves grows opens command before mid (Ok status) does) in
      subst (λ (n : ℕ). IsRun (file_view command) given (outside_of before) (outside_of now) n) (sym exits.0)
      (subst (λ (t : Told). IsRun (file_view command) given (outside_of before) (outside_of t) status.0) (sym exits.1) run)
  off_line_run grows opens drills bulks mid now (Err stop.Sink) s does exits =
      let off = off_line_acts (file_script command) does.acts (end_of_run (Err stop.Sink)) does.runs in
      let run = broken drills bulks mid (does.did.wires.rests off.calls) (does.did.clock.rests off.questions) (file_leaves grows opens command before mid (Err stop.Sink) does) in
      subst (λ (n : ℕ). IsRun (file_view command) given (outside_of before) (outside_of now) n) (sym exits.0)
      (subst (λ (t : Told). IsRun (file_view command) given (outside_of before) (outside_of t) 5) (sym exits.1) run)
  off_line_run grows opens drills bulks mid now (Err (stop.NoMemory want)) s does exits =
      let off = off_line_acts (file_script command) does.acts (end_of_run (Err (stop.NoMemory want))) does.runs in
      spent drills bulks mid (does.did.wires.rests off.calls) (does.did.clock.rests off.questions) want now s (file_leaves grows opens command before mid (Err (stop.NoMemory want)) does) exits
