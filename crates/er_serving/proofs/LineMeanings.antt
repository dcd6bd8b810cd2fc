-- What a run of `serve` or `call` means by its status, from how it ended.
use Rattle.std.proofs.Common.{◌≡◌, ◌≢◌, ◌⊎◌, inl, inr, ℕ, ◌≤◌, List, [], ◌∷◌, ◌++◌, Option, Result, Ok, Err, refl, sym, subst, arith, append-nil}
use Rattle.safety_automaton.specs.Keys.{KmacEntry}
use Rattle.key_store.specs.declared.key_file_fault.KeyFileFault.{KeyFileFault}
use Rattle.key_store.specs.declared.key_file_fault.KeyFileFault.TheVariants as keys
use Rattle.key_store.specs.KeyFiles.{keys_of}
use Rattle.link_trait.specs.Outside.{Grew, GrewPart, Rose, HasFile}
use Rattle.link_trait.specs.Growth.{grew_nothing}
use Rattle.er_statuses.specs.Answers.{keys_answer}
use Rattle.er_statuses.specs.KeyLines.{keys_line}
use Rattle.er_statuses.specs.LastLines.{memory_line}
use Rattle.er_serving.specs.LineCommands.{LineCommand, Serve, Call, key_file_of, AsksClock}
use Rattle.er_serving.specs.Outsides.{Outside, outside_of, Traffic, traffic_of, traffic_at, IsLeftAlone, IsSteady}
use Rattle.er_serving.specs.LineRuns.{GivenToLoop, Looped, FailsWith, LacksKey, HasLineStatus, IsStatusOfLoop, RunsOut, BeforeLoop, Spent, with_sink, wires_line}
use Rattle.er_serving.specs.LineWriting.{HasLooped, WiresFailed, KeyLacks, FileEnded, LineEnded, NotFetched, WasRead, LineEnds, LineMeans}
use Rattle.er_serving.specs.LineStatuses.{LineBroke, IsLineRun}
use Rattle.er_base.specs.declared.no_memory.NoMemory.{NoMemory}
use Rattle.link_trait.specs.States.{CabinetState}
use Rattle.outside.specs.Acts.{Act}
use Rattle.outside.specs.Doings.{Told, Did}
use Rattle.outside.specs.Scripts.{printing}
use Rattle.outside.specs.SinkTexts.{text_printed_by, text_begun_by}
use Rattle.er_statuses.specs.ScriptEnds.{end_of_run, ExitsBy}
use Rattle.er_statuses.specs.declared.status.Status.{Status}
use Rattle.er_statuses.specs.declared.stop.Stop.{Stop}
use Rattle.er_statuses.specs.declared.stop.Stop.TheVariants as stop
use Rattle.er_serving.specs.OutsideViews.{AsksOne}
use Rattle.er_serving.specs.RecordedLines.{IsLineRecorded}
use Rattle.er_serving.proofs.RecordedLines.{recorded_then, all_done}
use Rattle.er_serving.proofs.Sayings.{OnlyWrites, only_printed, only_failed, traffic_before}

-- ---- status 0

-- the clock's answers of the loop stand behind that for the look-up
looped_status : (command : LineCommand) (entries : List KmacEntry) (g : GivenToLoop) (before now : Outside) (status : ℕ)
    → Looped command entries g (traffic_of before) (traffic_of now) → status ≡ 0 → IsStatusOfLoop command entries before now status
looped_status (Serve keys address rbc turns) entries g before now status looped is = is
looped_status (Call keys address engine rbc turns) entries g before now status looped is = record {
  moment = looped.moment;
  clock = looped.clock;
  asked = looped.asked;
  more = _;
  later = looped.loop.has.done.clock;
  is = rw looped.holds is;
}

means_looped : (command : LineCommand) (g : GivenToLoop) (before now : Outside) (status : ℕ) (file : List ℕ) (entries : List KmacEntry)
    → HasFile now.files (key_file_of command) file → keys_of file ≡ Ok entries → status ≡ 0 → Looped command entries g (traffic_of before) (traffic_of now)
    → LineMeans command g before now status
means_looped command g before now status file entries stands spelled is looped = record {
  known = inl is;
  served = λ h. record { entries = entries; keys = record { file = file; stands = stands; spelled = spelled }; looped = looped };
  fetch = λ h. absurd (omega arith);
  keys = λ h. absurd (omega arith);
  sink = λ h. absurd (omega arith);
  wires = λ h. absurd (omega arith);
  memory = λ h. absurd (omega arith);
  idle = record { unfetched = λ h. absurd (omega arith); keyless = λ h. absurd (omega arith) };
  complete = λ good fine well. inl (record { file = file; stands = stands; is = rw spelled (looped_status command entries g before now status looped is) });
}

-- ---- status 6

means_wires : (command : LineCommand) (g : GivenToLoop) (before now : Outside) (status : ℕ) (file : List ℕ) (entries : List KmacEntry)
    → HasFile now.files (key_file_of command) file → keys_of file ≡ Ok entries → status ≡ 6 → Rose before.turns_failed now.turns_failed
    → FailsWith command entries g (traffic_of before) (traffic_of now) (λ held held_now. Grew held held_now wires_line)
    → LineMeans command g before now status
means_wires command g before now status file entries stands spelled is rose fails = record {
  known = inr (inr (inr (inr (inl is))));
  served = λ h. absurd (omega arith);
  fetch = λ h. absurd (omega arith);
  keys = λ h. absurd (omega arith);
  sink = λ h. absurd (omega arith);
  wires = λ h. record { rose = rose; entries = entries; keys = record { file = file; stands = stands; spelled = spelled }; failed = fails };
  memory = λ h. absurd (omega arith);
  idle = record { unfetched = λ h. absurd (omega arith); keyless = λ h. absurd (omega arith) };
  complete = λ good fine well. absurd (well rose);
}

-- ---- status 4

lacks_status : (command : LineCommand) (entries : List KmacEntry) (before now : Outside) (status : ℕ) (Written : List ℕ → Type 0)
    → LacksKey command entries (traffic_of before) (traffic_of now) Written → status ≡ 4 → IsStatusOfLoop command entries before now status
lacks_status (Serve keys address rbc turns) entries before now status Written lacks is = absurd lacks
lacks_status (Call keys address engine rbc turns) entries before now status Written lacks is = record {
  moment = lacks.0.moment;
  clock = now.clock;
  asked = lacks.0.asked;
  more = [];
  later = grew_nothing now.clock;
  is = rw lacks.0.none is;
}

means_lacking : (command : LineCommand) (g : GivenToLoop) (before now : Outside) (status : ℕ) (file : List ℕ) (entries : List KmacEntry)
    → HasFile now.files (key_file_of command) file → keys_of file ≡ Ok entries → status ≡ 4 → IsLeftAlone (AsksClock command) (traffic_of before) (traffic_of now)
    → LacksKey command entries (traffic_of before) (traffic_of now) (Grew before.held now.held)
    → LineMeans command g before now status
means_lacking command g before now status file entries stands spelled is alone lacks = record {
  known = inr (inr (inl is));
  served = λ h. absurd (omega arith);
  fetch = λ h. absurd (omega arith);
  keys = λ h asked. inr (record { asked_for = asked; entries = entries; keys = record { file = file; stands = stands; spelled = spelled }; lacks = lacks });
  sink = λ h. absurd (omega arith);
  wires = λ h. absurd (omega arith);
  memory = λ h. absurd (omega arith);
  idle = record { unfetched = λ h. absurd (omega arith); keyless = λ h. alone };
  complete = λ good fine well. inl (record { file = file; stands = stands; is = rw spelled (lacks_status command entries before now status (Grew before.held now.held) lacks is) });
}

means_refused : (command : LineCommand) (g : GivenToLoop) (before now : Outside) (status : ℕ) (file : List ℕ) (fault : KeyFileFault)
    → HasFile now.files (key_file_of command) file → keys_of file ≡ Err fault → HasLineStatus command before now status → status ≡ 4 → IsLeftAlone (AsksClock command) (traffic_of before) (traffic_of now)
    → Grew before.held now.held (keys_line fault)
    → LineMeans command g before now status
means_refused command g before now status file fault stands is has four alone printed = record {
  known = inr (inr (inl four));
  served = λ h. absurd (omega arith);
  fetch = λ h. absurd (omega arith);
  keys = λ h asked. inl (record { asked_for = asked; file = file; stands = stands; fault = fault; refused = is; printed = printed });
  sink = λ h. absurd (omega arith);
  wires = λ h. absurd (omega arith);
  memory = λ h. absurd (omega arith);
  idle = record { unfetched = λ h. absurd (omega arith); keyless = λ h. alone };
  complete = λ good fine well. inl has;
}

-- ---- status 7

means_forgot : (command : LineCommand) (g : GivenToLoop) (before now : Outside) (status : ℕ) (held : Option (List ℕ)) (sunk : ℕ)
    → status ≡ 7 → RunsOut command g now.files (traffic_of before) (with_sink (traffic_of now) held sunk) → Grew held now.held memory_line
    → LineMeans command g before now status
means_forgot command g before now status held sunk is out printed = record {
  known = inr (inr (inr (inr (inr is))));
  served = λ h. absurd (omega arith);
  fetch = λ h. absurd (omega arith);
  keys = λ h. absurd (omega arith);
  sink = λ h. absurd (omega arith);
  wires = λ h. absurd (omega arith);
  memory = λ h. record { held = held; sunk = sunk; out = out; last = printed };
  idle = record { unfetched = λ h. absurd (omega arith); keyless = λ h. absurd (omega arith) };
  complete = λ good fine well. inr is;
}

-- ---- status 5

pub means_line_sunk : (command : LineCommand) (g : GivenToLoop) (before now : Outside) → LineBroke command g before now → LineMeans command g before now 5
means_line_sunk command g before now failed = record {
  known = inr (inr (inr (inl refl)));
  served = λ h. absurd (omega arith);
  fetch = λ h. absurd (omega arith);
  keys = λ h. absurd (omega arith);
  sink = λ h. failed;
  wires = λ h. absurd (omega arith);
  memory = λ h. absurd (omega arith);
  idle = record { unfetched = λ h. absurd (omega arith); keyless = λ h. absurd (omega arith) };
  complete = λ good fine well. absurd (fine failed.rose);
}

-- ---- by how it ended

means_fault : (command : LineCommand) (g : GivenToLoop) (before now : Outside) (status : ℕ) (file : List ℕ) (fault : KeyFileFault)
    → HasFile now.files (key_file_of command) file → keys_of file ≡ Err fault → HasLineStatus command before now status
    → status ≡ (keys_answer fault).status → IsLeftAlone (AsksClock command) (traffic_of before) (traffic_of now) → Grew before.held now.held (keys_answer fault).text
    → LineMeans command g before now status
means_fault command g before now status file keys.Document stands is has stated alone printed =
    means_refused command g before now status file keys.Document stands is has stated alone printed
means_fault command g before now status file (keys.Field k x) stands is has stated alone printed =
    means_refused command g before now status file (keys.Field k x) stands is has stated alone printed
means_fault command g before now status file (keys.Hex k) stands is has stated alone printed =
    means_refused command g before now status file (keys.Hex k) stands is has stated alone printed
means_fault command g before now status file (keys.Number k) stands is has stated alone printed =
    means_refused command g before now status file (keys.Number k) stands is has stated alone printed
means_fault command g before now status file (keys.Range k) stands is has stated alone printed =
    means_refused command g before now status file (keys.Range k) stands is has stated alone printed
means_fault command g before now status file (keys.Twice j k) stands is has stated alone printed =
    means_refused command g before now status file (keys.Twice j k) stands is has stated alone printed
means_fault command g before now status file (keys.Version n) stands is has stated alone printed =
    means_refused command g before now status file (keys.Version n) stands is has stated alone printed
means_fault command g before now status file (keys.NoMemory want) stands is has stated alone printed =
    means_forgot command g before now status before.held before.sunk stated
    (BeforeLoop (grew_nothing before.held)
    (record { calls = alone.calls; failed = alone.failed; turns_failed = alone.turns_failed; listening = alone.listening; clock = alone.clock }))
    printed

means_file : (command : LineCommand) (g : GivenToLoop) (before now : Outside) (status : ℕ) (file : List ℕ) (read : Result (List KmacEntry) KeyFileFault)
    → HasFile now.files (key_file_of command) file → keys_of file ≡ read → FileEnded command read g (traffic_of before) (traffic_of now) status
    → LineMeans command g before now status
means_file command g before now status file (Err fault) stands is ended =
    means_fault command g before now status file fault stands is
    (record { file = file; stands = stands; is = rw is ended.0 }) ended.0 ended.2 ended.1
means_file command g before now status file (Ok entries) stands is (HasLooped zero_is looped) =
    means_looped command g before now status file entries stands is zero_is looped
means_file command g before now status file (Ok entries) stands is (WiresFailed six rose fails) =
    means_wires command g before now status file entries stands is six rose fails
means_file command g before now status file (Ok entries) stands is (KeyLacks four alone lacks) =
    means_lacking command g before now status file entries stands is four alone lacks

pub means_line_ended : (command : LineCommand) (g : GivenToLoop) (before now : Outside) (status : ℕ) → LineEnded command g before now status → LineMeans command g before now status
means_line_ended command g before now status (WasRead file stands ended) =
    means_file command g before now status file (keys_of file) stands refl ended
means_line_ended command g before now status (NotFetched is rose printed alone) = record {
  known = inr (inl is);
  served = λ h. absurd (omega arith);
  fetch = λ h. record { rose = rose; printed = printed };
  keys = λ h. absurd (omega arith);
  sink = λ h. absurd (omega arith);
  wires = λ h. absurd (omega arith);
  memory = λ h. absurd (omega arith);
  idle = record { unfetched = λ h. alone; keyless = λ h. absurd (omega arith) };
  complete = λ good fine well. absurd (good rose);
}

-- ---- memory ran out

-- the last line was written, or a beginning of it
abbrev ForgotSo : (held now : Option (List ℕ)) (sunk sunk_now status : ℕ) → Type 0
ForgotSo held now sunk sunk_now status = ((status ≡ 7) × Grew held now memory_line) ⊎ ((status ≡ 5) × GrewPart held now memory_line × Rose sunk sunk_now)

means_line_spent : (command : LineCommand) (g : GivenToLoop) (before now : Outside) (held : Option (List ℕ)) (sunk status : ℕ)
    → before.sunk ≤ sunk → RunsOut command g now.files (traffic_of before) (with_sink (traffic_of now) held sunk) → ForgotSo held now.held sunk now.sunk status
    → LineMeans command g before now status
means_line_spent command g before now held sunk status later out (inl told) =
    means_forgot command g before now status held sunk told.0 out told.1
means_line_spent command g before now held sunk status later out (inr failed) =
    subst (λ (n : ℕ). LineMeans command g before now n) (sym failed.0)
    (means_line_sunk command g before now (record {
      rose = omega (arith, later, failed.2);
      beginning = Spent (record { held = held; sunk = sunk; out = out; last = failed.1 });
    }))

-- ---- all of it

pub line_run : (command : LineCommand) (g : GivenToLoop) (before now : Outside) (status : ℕ) → LineMeans command g before now status
    → (status ≢ 5 → status ≢ 7 → Grew before.asked now.asked (key_file_of command ∷ [])) → GrewPart before.asked now.asked (key_file_of command ∷ [])
    → IsSteady before now → IsLineRun command g before now status
line_run command g before now status m asked part steady = record {
  known = m.known;
  served = m.served;
  unfetched = λ is. record { asked_for = asked (λ h. omega (arith)) (λ h. omega (arith)); rose = (m.fetch is).rose; printed = (m.fetch is).printed };
  keyless = λ is. m.keys is (asked (λ h. omega (arith)) (λ h. omega (arith)));
  sunk = m.sink;
  wires = m.wires;
  memory = m.memory;
  idle = m.idle;
  part = part;
  asked = asked;
  complete = m.complete;
  steady = steady;
}

-- the cabinet's files stay, and no count of faults falls
steady_so : (before now : Told) → IsLineRecorded before now → IsSteady (outside_of before) (outside_of now)
steady_so before now p = let all = all_done before now p in record { files = all.did.cabinet.files; unfetched = all.did.cabinet.faults.later; sunk = all.did.sink.faults.later }

-- memory ran out, and the last line was written, or a beginning of it
forgot_run : (command : LineCommand) (g : GivenToLoop) (before mid now : Told) (status : ℕ) (want : NoMemory)
    → LineEnds command g (outside_of before) (outside_of mid) (Err (stop.NoMemory want)) → AsksOne (key_file_of command) before mid (Err (stop.NoMemory want))
    → OnlyWrites mid now → (status ≢ 5 → status ≡ 7) → ForgotSo mid.sink.held now.sink.held mid.sink.faults now.sink.faults status
    → IsLineRun command g (outside_of before) (outside_of now) status
forgot_run command g before mid now status want ends asks only is told =
    line_run command g (outside_of before) (outside_of now) status
    (means_line_spent command g (outside_of before) (outside_of now) mid.sink.held mid.sink.faults status (all_done before mid asks.recorded).did.sink.faults.later
    (subst (λ (z : CabinetState). RunsOut command g z.files (traffic_at before) (with_sink (traffic_at now) mid.sink.held mid.sink.faults)) (sym only.cabinet)
    (subst (λ (z : Traffic). RunsOut command g mid.cabinet.files (traffic_at before) z) (traffic_before mid now only) ends)) told)
    (λ five seven. absurd (seven (is five)))
    (subst (λ (z : CabinetState). GrewPart before.cabinet.asked z.asked (key_file_of command ∷ [])) (sym only.cabinet) asks.part)
    (steady_so before now (recorded_then before mid now asks.recorded only.done))

-- the run, however it ended before its exit
pub run_exits : (command : LineCommand) (g : GivenToLoop) (before mid now : Told) (r : Result Status Stop) (status : ℕ)
    → LineEnds command g (outside_of before) (outside_of mid) r → AsksOne (key_file_of command) before mid r → ExitsBy (end_of_run r) mid now status
    → IsLineRun command g (outside_of before) (outside_of now) status
run_exits command g before mid now (Ok s) status ends asks exit =
    subst (λ (z : ℕ). IsLineRun command g (outside_of before) (outside_of now) z) (sym exit.0)
    (subst (λ (z : Told). IsLineRun command g (outside_of before) (outside_of z) s.0) (sym exit.1)
    (line_run command g (outside_of before) (outside_of mid) s.0 (means_line_ended command g (outside_of before) (outside_of mid) s.0 ends) (λ five seven. asks.asked) asks.part (steady_so before mid asks.recorded)))
run_exits command g before mid now (Err stop.Sink) status ends asks exit =
    subst (λ (z : ℕ). IsLineRun command g (outside_of before) (outside_of now) z) (sym exit.0)
    (subst (λ (z : Told). IsLineRun command g (outside_of before) (outside_of z) 5) (sym exit.1)
    (line_run command g (outside_of before) (outside_of mid) 5 (means_line_sunk command g (outside_of before) (outside_of mid) ends) (λ five seven. absurd (five refl)) asks.part (steady_so before mid asks.recorded)))
run_exits command g before mid now (Err (stop.NoMemory want)) status ends asks (inl told) =
    let p : Did mid now (printing memory_line ++ []) = subst (λ (z : List Act). Did mid now z) (sym (append-nil (printing memory_line))) told.1 in
    forgot_run command g before mid now status want ends asks
    (only_printed memory_line mid now p) (λ five. told.0) (inl (told.0, text_printed_by mid.sink.held now.sink.held memory_line p.sink.held))
run_exits command g before mid now (Err (stop.NoMemory want)) status ends asks (inr failed) =
    forgot_run command g before mid now status want ends asks
    (only_failed memory_line mid now failed.1) (λ five. absurd (five failed.0)) (inr (failed.0, text_begun_by mid.sink.held now.sink.held memory_line failed.1.sink.held, failed.1.sink.faults.rose refl))

pub exit_recorded : (command : LineCommand) (before mid now : Told) (r : Result Status Stop) (status : ℕ) → AsksOne (key_file_of command) before mid r → ExitsBy (end_of_run r) mid now status → IsLineRecorded before now
exit_recorded command before mid now (Ok s) status asks exit = subst (λ (z : Told). IsLineRecorded before z) (sym exit.1) asks.recorded
exit_recorded command before mid now (Err stop.Sink) status asks exit = subst (λ (z : Told). IsLineRecorded before z) (sym exit.1) asks.recorded
exit_recorded command before mid now (Err (stop.NoMemory want)) status asks (inl told) =
    recorded_then before mid now asks.recorded (only_printed memory_line mid now (subst (λ (z : List Act). Did mid now z) (sym (append-nil (printing memory_line))) told.1)).done
exit_recorded command before mid now (Err (stop.NoMemory want)) status asks (inr failed) = recorded_then before mid now asks.recorded (only_failed memory_line mid now failed.1).done
