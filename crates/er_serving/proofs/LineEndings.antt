-- How the parts of a run of `serve` or `call` end, from how their calls end.
use Rattle.std.proofs.Common.{◌≡◌, inl, inr, ℕ, ◌≤◌, List, [], ◌∷◌, ◌++◌, None, Some, Result, Ok, Err, IfOk, refl, sym, ◌∙◌, ap, ap₂, subst, arith, append-nil}
use Rattle.rand_core.specs.Stream.{Stream}
use Rattle.er_base.specs.declared.no_memory.NoMemory.{NoMemory}
use Rattle.er_users.specs.Users.{Mind}
use Rattle.safety_automaton.specs.Keys.{KmacEntry, key_at}
use Rattle.key_store.specs.declared.key_file_fault.KeyFileFault.{KeyFileFault}
use Rattle.key_store.specs.declared.key_file_fault.KeyFileFault.TheVariants as keys
use Rattle.key_store.specs.Answers.{RefusesAsKeyFileSays}
use Rattle.key_store.specs.KeyFiles.{keys_of}
use Rattle.link_trait.specs.Outside.{Grew, GrewPart, Rose, HasFile}
use Rattle.link_trait.specs.Growth.{grew_nothing, part_whole}
use Rattle.link_trait.specs.States.{CabinetState, SinkState, WiresState, ClockState}
use Rattle.outside.specs.Acts.{Fetch, Gave, Failed, Spent, Act, Fetched, Asked}
use Rattle.outside.specs.Chains.{did_nothing}
use Rattle.outside.specs.Doings.{Told, Did}
use Rattle.outside.specs.Scripts.{With, OutOfMemory, Does, printing, says_last}
use Rattle.outside.specs.SinkTexts.{text_printed_by, text_begun_by, name_asked_by, name_noted_by}
use Rattle.outside.specs.Ties.{AreFiled, AreDrawn}
use Rattle.er_settings.specs.Making.{usual_settings}
use Rattle.loop_model.specs.Journals.{trace_header}
use Rattle.loop_session.specs.declared.loop_fault.LoopFault.{LoopFault}
use Rattle.loop_session.specs.declared.loop_fault.LoopFault.TheVariants as fault
use Rattle.readiness_loop.specs.declared.line_plan.Served.{Served}
use Rattle.std.proofs.lemmas.Result.{IfOk-weaker}
use Rattle.des_block.specs.declared.triple_key.TripleKey.{TripleKey}
use Rattle.readiness_loop.specs.Claims.{LoopOutside, loop_outside, dialling, caller_of, halt_for, HasDialled, FailsToDial, BreaksOffDialling, DialsOn}
use Rattle.readiness_loop.specs.Recorded.{IsRecordedFirst}
use Rattle.er_statuses.specs.Answers.{Files, keys_answer}
use Rattle.er_statuses.specs.KeyLines.{keys_line}
use Rattle.er_statuses.specs.LastLines.{fetch_line}
use Rattle.er_statuses.specs.ScriptEnds.{end_of_run, EndsRefused}
use Rattle.er_statuses.specs.declared.status.Status.{Status}
use Rattle.er_statuses.specs.declared.stop.Stop.{Stop}
use Rattle.er_statuses.specs.declared.stop.Stop.TheVariants as stop
use Rattle.er_serving.specs.LineCommands.{LineCommand, Call, key_file_of, AsksClock}
use Rattle.er_serving.specs.OutsideViews.{KeepsCabinet, AsksOne}
use Rattle.er_serving.specs.Outsides.{Outside, outside_of, Traffic, traffic_of, traffic_at, of_loop, IsLeftAlone}
use Rattle.er_serving.specs.LineRuns.{GivenToLoop, given_to_loop, usual, with_clock, IsKeyed, HasNoKey, Looped, LoopFails, LoopBreaks, OfFetch, OfKeyFile, OfPair, NotLooped, Looping, RunsOut, BeforeLoop, WithinLoop, no_key_line, wires_line}
use Rattle.er_serving.specs.LineWriting.{LoopTold, HasLooped, WiresFailed, KeyLacks, InLoop, InWiresLine, InKeyLine, LoopEnds, FileBroke, FileSpent, FileEnds, NotFetched, WasRead, LineEnds}
use Rattle.er_serving.specs.LineStatuses.{LineBroke}
use Rattle.er_serving.proofs.RecordedLines.{none_then, without_loop, loop_recorded, recorded_behind}
use Rattle.er_serving.proofs.Sayings.{OnlyWrites, Gives, said, only_printed, only_failed, only_none, unasked, alone_said, traffic_before}

status_of : (x y : ℕ) → With x ≡ With y → x ≡ y
status_of x y p = cc

-- the loop's end was told, and the loop ended so
pub loop_ends : (command : LineCommand) (entries : List KmacEntry) (g : GivenToLoop) (before : Traffic) (mid now : Told) (served : Result Served LoopFault) (r : Result Status Stop)
    → IfOk served (λ s. Looped command entries g before (traffic_at mid))
    → (served ≡ Err fault.Wires → LoopFails command entries g before (traffic_at mid))
    → (served ≡ Err fault.Wires → Rose before.turns_failed mid.wires.turn_faults)
    → (served ≡ Err fault.Sink → LoopBreaks command entries g before (traffic_at mid))
    → (served ≡ Err fault.Sink → Rose before.sunk mid.sink.faults)
    → ((want : NoMemory) → served ≡ Err (fault.NoMemory want) → LoopBreaks command entries g before (traffic_at mid))
    → before.sunk ≤ mid.sink.faults → LoopTold served mid now r → LoopEnds command entries g before (traffic_at now) r
loop_ends command entries g before mid now (Ok served) (Ok s) looped fails rose breaks sunk memory later told =
    HasLooped (status_of s.0 0 told.0) (subst (λ (z : Told). Looped command entries g before (traffic_at z)) (sym told.1) looped)
loop_ends command entries g before mid now (Ok served) (Err stop.Sink) looped fails rose breaks sunk memory later told = absurd (cc told.0)
loop_ends command entries g before mid now (Ok served) (Err (stop.NoMemory want)) looped fails rose breaks sunk memory later told = absurd (cc told.0)
loop_ends command entries g before mid now (Err fault.Wires) (Ok s) looped fails rose breaks sunk memory later told =
    let p : Did mid now (printing wires_line ++ []) = subst (λ (z : List Act). Did mid now z) (sym (append-nil (printing wires_line))) told.1 in
    let only = only_printed wires_line mid now p in
    WiresFailed told.0 (subst (λ (z : WiresState). Rose before.turns_failed z.turn_faults) (sym only.wires) (rose refl))
    (record {
      held = mid.sink.held;
      sunk = mid.sink.faults;
      fails = subst (λ (z : Traffic). LoopFails command entries g before z) (traffic_before mid now only) (fails refl);
      last = text_printed_by mid.sink.held now.sink.held wires_line p.sink.held;
    })
loop_ends command entries g before mid now (Err fault.Wires) (Err stop.Sink) looped fails rose breaks sunk memory later told =
    let only = only_failed wires_line mid now told in (
      InWiresLine (record {
        held = mid.sink.held;
        sunk = mid.sink.faults;
        fails = subst (λ (z : Traffic). LoopFails command entries g before z) (traffic_before mid now only) (fails refl);
        last = text_begun_by mid.sink.held now.sink.held wires_line told.sink.held;
      }),
      (let failed : Rose mid.sink.faults now.sink.faults = told.sink.faults.rose refl in omega (arith, later, failed)),
    )
loop_ends command entries g before mid now (Err fault.Wires) (Err (stop.NoMemory want)) looped fails rose breaks sunk memory later told = absurd told
loop_ends command entries g before mid now (Err fault.Sink) (Ok s) looped fails rose breaks sunk memory later told = absurd (cc told.0)
loop_ends command entries g before mid now (Err fault.Sink) (Err stop.Sink) looped fails rose breaks sunk memory later told =
    (InLoop (subst (λ (z : Told). LoopBreaks command entries g before (traffic_at z)) (sym told.1) (breaks refl)), subst (λ (z : Told). Rose before.sunk z.sink.faults) (sym told.1) (sunk refl))
loop_ends command entries g before mid now (Err fault.Sink) (Err (stop.NoMemory want)) looped fails rose breaks sunk memory later told = absurd (cc told.0)
loop_ends command entries g before mid now (Err (fault.NoMemory want)) (Ok s) looped fails rose breaks sunk memory later told = absurd (cc told.0)
loop_ends command entries g before mid now (Err (fault.NoMemory want)) (Err stop.Sink) looped fails rose breaks sunk memory later told = absurd (cc told.0)
loop_ends command entries g before mid now (Err (fault.NoMemory want)) (Err (stop.NoMemory wanted)) looped fails rose breaks sunk memory later told =
    inr (subst (λ (z : Told). LoopBreaks command entries g before (traffic_at z)) (sym told.1) (memory want refl))

-- a call asked the clock, and then its loop ended so
asked_sink : (before mid : Told) (moment : ℕ) → Did before mid (Asked moment ∷ []) → traffic_at mid ≡ with_clock (traffic_at before) mid.clock.answers
asked_sink before mid moment p =
    ap₂ (λ (k : SinkState) (w : WiresState). let o : Traffic = record { held = k.held; sunk = k.faults; calls = w.calls; failed = w.faults; turns_failed = w.turn_faults; listening = w.listening; clock = mid.clock.answers } in o)
    (p.sink.rests refl) (p.wires.rests refl)

asked_words : (before mid : Told) (moment : ℕ) → Did before mid (Asked moment ∷ []) → mid.words ≡ before.words
unfolding AreDrawn
asked_words before mid moment p = p.words

keyed_by : (P : TripleKey → Traffic → Type 0) (entries : List KmacEntry) (engine rbc : ℕ) (before mid : Told) (moment : ℕ) (kmac : TripleKey) → Did before mid (Asked moment ∷ [])
    → key_at entries moment engine rbc ≡ Some kmac → P kmac (with_clock (traffic_at before) mid.clock.answers) → IsKeyed entries engine rbc (traffic_at before) P
keyed_by P entries engine rbc before mid moment kmac asked holds p = record { moment = moment; clock = mid.clock.answers; asked = asked.clock.answers; kmac = kmac; holds = holds; loop = p }

pub dial_ends : (keys address : List ℕ) (engine rbc turns : ℕ) (entries : List KmacEntry) (handed : ℕ) (minds : List Mind) (before mid end now : Told) (moment : ℕ) (kmac : TripleKey) (served : Result Served LoopFault) (r : Result Status Stop)
    → Did before mid (Asked moment ∷ []) → key_at entries moment engine rbc ≡ Some kmac
    → DialsOn mid end (dialling kmac (usual turns) engine rbc handed) (caller_of engine kmac) address minds served → LoopTold served end now r
    → LoopEnds (Call keys address engine rbc turns) entries (given_to_loop handed minds before.words) (traffic_at before) (traffic_at now) r
dial_ends keys address engine rbc turns entries handed minds before mid end now moment kmac served r asked holds does told =
    let same = asked_sink before mid moment asked in
    let loops : LoopOutside = of_loop (with_clock (traffic_at before) mid.clock.answers) in
    let own : loop_outside mid ≡ loops = ap of_loop same in
    let words = asked_words before mid moment asked in
    let plan = dialling kmac (usual turns) engine rbc handed in
    loop_ends (Call keys address engine rbc turns) entries (given_to_loop handed minds before.words) (traffic_at before) end now served r
    (IfOk-weaker served _ _ (λ s has. keyed_by _ entries engine rbc before mid moment kmac asked holds (record {
      turns = s.turns;
      why = s.why;
      has = subst (λ (z : LoopOutside). HasDialled z (loop_outside end) plan (caller_of engine kmac) address minds before.words s.turns (halt_for s.why)) own
          (subst (λ (z : Stream). HasDialled (loop_outside mid) (loop_outside end) plan (caller_of engine kmac) address minds z s.turns (halt_for s.why)) words has);
    })) does.served)
    (λ is. keyed_by _ entries engine rbc before mid moment kmac asked holds (
      end.words,
      subst (λ (z : LoopOutside). FailsToDial z (loop_outside end) plan (caller_of engine kmac) address minds before.words end.words) own
          (subst (λ (z : Stream). FailsToDial (loop_outside mid) (loop_outside end) plan (caller_of engine kmac) address minds z end.words) words (does.wires is)),
    ))
    (λ is. subst (λ (z : WiresState). Rose z.turn_faults end.wires.turn_faults) (asked.wires.rests refl) (does.rose is))
    (λ is. keyed_by _ entries engine rbc before mid moment kmac asked holds (breaks own words (does.sink is)))
    (λ is. subst (λ (z : SinkState). Rose z.faults end.sink.faults) (asked.sink.rests refl) (does.sunk is))
    (λ want is. keyed_by _ entries engine rbc before mid moment kmac asked holds (breaks own words (does.memory want is)))
    (subst (λ (z : SinkState). z.faults ≤ end.sink.faults) (asked.sink.rests refl) does.sink_count) told
  where
    breaks : loop_outside mid ≡ of_loop (with_clock (traffic_at before) mid.clock.answers) → mid.words ≡ before.words
        → BreaksOffDialling (loop_outside mid) (loop_outside end) (dialling kmac (usual turns) engine rbc handed) (caller_of engine kmac) address minds mid.words
        → BreaksOffDialling (of_loop (with_clock (traffic_at before) mid.clock.answers)) (loop_outside end) (dialling kmac (usual turns) engine rbc handed) (caller_of engine kmac) address minds before.words
    breaks own words p =
        subst (λ (z : LoopOutside). BreaksOffDialling z (loop_outside end) (dialling kmac (usual turns) engine rbc handed) (caller_of engine kmac) address minds before.words) own
        (subst (λ (z : Stream). BreaksOffDialling (loop_outside mid) (loop_outside end) (dialling kmac (usual turns) engine rbc handed) (caller_of engine kmac) address minds z) words p)

-- no key of the pair of a call holds: the clock was asked, and the line was said
pub call_lacks : (keys address : List ℕ) (engine rbc turns : ℕ) (entries : List KmacEntry) (g : GivenToLoop) (before mid now : Told) (moment : ℕ) (r : Result Status Stop)
    → Did before mid (Asked moment ∷ []) → key_at entries moment engine rbc ≡ None → Does (says_last 4 (no_key_line engine rbc)) mid now (end_of_run r)
    → LoopEnds (Call keys address engine rbc turns) entries g (traffic_at before) (traffic_at now) r
call_lacks keys address engine rbc turns entries g before mid now moment r asked none does =
    let t = said 4 (no_key_line engine rbc) mid now r does in
    let clock : Grew before.clock.answers now.clock.answers (moment ∷ []) = subst (λ (z : ClockState). Grew before.clock.answers z.answers (moment ∷ [])) (sym t.only.clock) asked.clock.answers in
    let same : now.wires ≡ before.wires = t.only.wires ∙ asked.wires.rests refl in
    let alone : IsLeftAlone (AsksClock (Call keys address engine rbc turns)) (traffic_at before) (traffic_at now) = record {
      calls = ap (λ (z : WiresState). z.calls) same;
      failed = ap (λ (z : WiresState). z.faults) same;
      turns_failed = ap (λ (z : WiresState). z.turn_faults) same;
      listening = ap (λ (z : WiresState). z.listening) same;
      clock = inr (moment, clock);
    } in
    lacking keys address engine rbc turns entries g before mid now r (record { moment = moment; asked = clock; none = none }) alone (asked.sink.rests refl) t.gives
  where
    lacking : (keys address : List ℕ) (engine rbc turns : ℕ) (entries : List KmacEntry) (g : GivenToLoop) (before mid now : Told) (r : Result Status Stop)
        → HasNoKey engine rbc entries before.clock.answers now.clock.answers → IsLeftAlone (AsksClock (Call keys address engine rbc turns)) (traffic_at before) (traffic_at now) → mid.sink ≡ before.sink
        → Gives (record { status = 4; text = no_key_line engine rbc }) mid now r
        → LoopEnds (Call keys address engine rbc turns) entries g (traffic_at before) (traffic_at now) r
    lacking keys address engine rbc turns entries g before mid now (Ok s) none alone same gives =
        KeyLacks gives.0 alone (none, subst (λ (z : SinkState). Grew z.held now.sink.held (no_key_line engine rbc)) same gives.1)
    lacking keys address engine rbc turns entries g before mid now (Err stop.Sink) none alone same gives = (
      InKeyLine alone (none, subst (λ (z : SinkState). GrewPart z.held now.sink.held (no_key_line engine rbc)) same gives.0),
      subst (λ (z : SinkState). Rose z.faults now.sink.faults) same gives.1,
    )
    lacking keys address engine rbc turns entries g before mid now (Err (stop.NoMemory want)) none alone same gives =
        inl (subst (λ (z : SinkState). Grew z.held now.sink.held []) same gives, alone)

-- ---- the key file

pub file_good : (command : LineCommand) (read : Result (List KmacEntry) KeyFileFault) (entries : List KmacEntry) (g : GivenToLoop) (before now : Traffic) (r : Result Status Stop)
    → read ≡ Ok entries → LoopEnds command entries g before now r → FileEnds command read g before now r
file_good command read entries g before now (Ok s) is ends = rw is ends
file_good command read entries g before now (Err stop.Sink) is ends = rw is ends
file_good command read entries g before now (Err (stop.NoMemory want)) is ends = rw is ends

told : (command : LineCommand) (read : Result (List KmacEntry) KeyFileFault) (fault : KeyFileFault) (line : List ℕ) (g : GivenToLoop) (before now : Told) (r : Result Status Stop)
    → read ≡ Err fault → (keys_answer fault).status ≡ 4 → (keys_answer fault).text ≡ line → Does (says_last 4 line) before now (end_of_run r)
    → FileEnds command read g (traffic_at before) (traffic_at now) r
told command read fault line g before now (Ok s) is four same does =
    let t = said 4 line before now (Ok s) does in rw is (t.gives.0 ∙ sym four, subst (λ (z : List ℕ). Grew before.sink.held now.sink.held z) (sym same) t.gives.1, alone_said command before now t.only)
told command read fault line g before now (Err stop.Sink) is four same does =
    let t = said 4 line before now (Err stop.Sink) does in rw is ((subst (λ (z : List ℕ). GrewPart before.sink.held now.sink.held z) (sym same) t.gives.0, alone_said command before now t.only), t.gives.1)
told command read fault line g before now (Err (stop.NoMemory want)) is four same does =
    let t = said 4 line before now (Err (stop.NoMemory want)) does in rw is (t.gives, alone_said command before now t.only)

-- nothing was printed, whatever the file is read as
spent : (command : LineCommand) (read : Result (List KmacEntry) KeyFileFault) (g : GivenToLoop) (before now : Traffic) → Grew before.held now.held [] → IsLeftAlone (AsksClock command) before now
    → FileSpent command read g before now
spent command (Ok entries) g before now none alone = inl (none, alone)
spent command (Err fault) g before now none alone = (none, alone)

wanted : (command : LineCommand) (read : Result (List KmacEntry) KeyFileFault) (g : GivenToLoop) (before now : Told) (r : Result Status Stop)
    → now ≡ before → end_of_run r ≡ OutOfMemory → FileEnds command read g (traffic_at before) (traffic_at now) r
wanted command read g before now (Ok s) same is = absurd (cc is)
wanted command read g before now (Err stop.Sink) same is = absurd (cc is)
wanted command read g before now (Err (stop.NoMemory want)) same is =
    subst (λ (z : Told). FileSpent command read g (traffic_at before) (traffic_at z)) (sym same)
    (spent command read g (traffic_at before) (traffic_at before) (grew_nothing before.sink.held) (record { calls = refl; failed = refl; turns_failed = refl; listening = refl; clock = unasked command before.clock.answers }))

pub file_refused : (command : LineCommand) (read : Result (List KmacEntry) KeyFileFault) (fault : KeyFileFault) (g : GivenToLoop) (before now : Told) (r : Result Status Stop)
    → RefusesAsKeyFileSays fault read → EndsRefused fault before now (end_of_run r) → FileEnds command read g (traffic_at before) (traffic_at now) r
file_refused command read keys.Document g before now r is ends = told command read keys.Document (keys_line keys.Document) g before now r is refl refl ends
file_refused command read (keys.Field k x) g before now r is ends = told command read (keys.Field k x) (keys_line (keys.Field k x)) g before now r is refl refl ends
file_refused command read (keys.Hex k) g before now r is ends = told command read (keys.Hex k) (keys_line (keys.Hex k)) g before now r is refl refl ends
file_refused command read (keys.Number k) g before now r is ends = told command read (keys.Number k) (keys_line (keys.Number k)) g before now r is refl refl ends
file_refused command read (keys.Range k) g before now r is ends = told command read (keys.Range k) (keys_line (keys.Range k)) g before now r is refl refl ends
file_refused command read (keys.Twice j k) g before now r is ends = told command read (keys.Twice j k) (keys_line (keys.Twice j k)) g before now r is refl refl ends
file_refused command read (keys.Version n) g before now r is ends = told command read (keys.Version n) (keys_line (keys.Version n)) g before now r is refl refl ends
file_refused command read (keys.NoMemory want) g before now r is ends = wanted command read g before now r ends.0 ends.1

-- ---- what keeps the cabinet

keeps_only : (before now : Told) → OnlyWrites before now → KeepsCabinet before now
keeps_only before now p = record { recorded = without_loop before now p.done; cabinet = p.cabinet }

-- nothing was done
only_same : (before now : Told) → now ≡ before → OnlyWrites before now
only_same before now same = subst (λ (z : Told). OnlyWrites before z) (sym same) (only_none before before (did_nothing before))

keeps_said : (status : ℕ) (line : List ℕ) (before now : Told) (r : Result Status Stop) → Does (says_last status line) before now (end_of_run r) → KeepsCabinet before now
keeps_said status line before now r does = keeps_only before now (said status line before now r does).only

pub keeps_refused : (fault : KeyFileFault) (before now : Told) (r : Result Status Stop) → EndsRefused fault before now (end_of_run r) → KeepsCabinet before now
keeps_refused keys.Document before now r ends = keeps_said 4 (keys_line keys.Document) before now r ends
keeps_refused (keys.Field k x) before now r ends = keeps_said 4 (keys_line (keys.Field k x)) before now r ends
keeps_refused (keys.Hex k) before now r ends = keeps_said 4 (keys_line (keys.Hex k)) before now r ends
keeps_refused (keys.Number k) before now r ends = keeps_said 4 (keys_line (keys.Number k)) before now r ends
keeps_refused (keys.Range k) before now r ends = keeps_said 4 (keys_line (keys.Range k)) before now r ends
keeps_refused (keys.Twice j k) before now r ends = keeps_said 4 (keys_line (keys.Twice j k)) before now r ends
keeps_refused (keys.Version n) before now r ends = keeps_said 4 (keys_line (keys.Version n)) before now r ends
keeps_refused (keys.NoMemory want) before now r ends = keeps_only before now (only_same before now ends.0)

-- the clock was asked, and a line was said
pub keeps_asked : (before mid now : Told) (moment : ℕ) → Did before mid (Asked moment ∷ []) → KeepsCabinet mid now → KeepsCabinet before now
keeps_asked before mid now moment p q = record {
  recorded = recorded_behind before mid now (record { acts = Asked moment ∷ []; did = p; none = refl; unwritten = refl }) q.recorded;
  cabinet = q.cabinet ∙ p.cabinet.rests refl;
}

pub keeps_lacking : (before mid now : Told) (moment engine rbc : ℕ) (r : Result Status Stop) → Did before mid (Asked moment ∷ []) → Does (says_last 4 (no_key_line engine rbc)) mid now (end_of_run r) → KeepsCabinet before now
keeps_lacking before mid now moment engine rbc r p does = keeps_asked before mid now moment p (keeps_said 4 (no_key_line engine rbc) mid now r does)

-- the loop, and its end
only_told : (served : Result Served LoopFault) (mid now : Told) (r : Result Status Stop) → LoopTold served mid now r → OnlyWrites mid now
only_told (Ok served) mid now r told = only_same mid now told.1
only_told (Err fault.Wires) mid now (Ok s) told =
    only_printed wires_line mid now (subst (λ (z : List Act). Did mid now z) (sym (append-nil (printing wires_line))) told.1)
only_told (Err fault.Wires) mid now (Err stop.Sink) told = only_failed wires_line mid now told
only_told (Err fault.Wires) mid now (Err (stop.NoMemory want)) told = absurd told
only_told (Err fault.Sink) mid now r told = only_same mid now told.1
only_told (Err (fault.NoMemory want)) mid now r told = only_same mid now told.1

pub keeps_loop : (served : Result Served LoopFault) (before mid now : Told) (r : Result Status Stop) → IsRecordedFirst (trace_header usual_settings) before mid → LoopTold served mid now r → KeepsCabinet before now
keeps_loop served before mid now r p told =
    let only = only_told served mid now r told in
    record { recorded = loop_recorded before mid now p only.done; cabinet = only.cabinet ∙ p.did.cabinet.rests p.unfetched }

-- ---- the words

-- a beginning, by what the file is read as
broke : (command : LineCommand) (g : GivenToLoop) (before now : Outside) (file : List ℕ) (read : Result (List KmacEntry) KeyFileFault)
    → HasFile now.files (key_file_of command) file → keys_of file ≡ read → FileBroke command read g (traffic_of before) (traffic_of now) → Rose before.sunk now.sunk
    → LineBroke command g before now
broke command g before now file (Err fault) stands is part rose =
    record { rose = rose; beginning = NotLooped (OfKeyFile file stands fault is part.0) part.1 }
broke command g before now file (Ok entries) stands is (InLoop breaks) rose =
    record { rose = rose; beginning = Looping (record { entries = entries; keys = record { file = file; stands = stands; spelled = is }; begun = inl breaks }) }
broke command g before now file (Ok entries) stands is (InWiresLine fails) rose =
    record { rose = rose; beginning = Looping (record { entries = entries; keys = record { file = file; stands = stands; spelled = is }; begun = inr fails }) }
broke command g before now file (Ok entries) stands is (InKeyLine alone lacks) rose =
    record { rose = rose; beginning = NotLooped (OfPair entries (record { file = file; stands = stands; spelled = is }) lacks) alone }

-- memory ran out, by what the file is read as
runs_out : (command : LineCommand) (g : GivenToLoop) (before now : Outside) (file : List ℕ) (read : Result (List KmacEntry) KeyFileFault)
    → HasFile now.files (key_file_of command) file → keys_of file ≡ read → FileSpent command read g (traffic_of before) (traffic_of now)
    → RunsOut command g now.files (traffic_of before) (traffic_of now)
runs_out command g before now file (Err fault) stands is none = BeforeLoop none.0 none.1
runs_out command g before now file (Ok entries) stands is (inl none) = BeforeLoop none.0 none.1
runs_out command g before now file (Ok entries) stands is (inr breaks) =
    WithinLoop entries (record { file = file; stands = stands; spelled = is }) breaks

-- the file was fetched, and the cabinet stayed so
line_read : (command : LineCommand) (g : GivenToLoop) (before now : Outside) (files : Files) (file : List ℕ) (r : Result Status Stop)
    → HasFile files (key_file_of command) file → now.files ≡ files → FileEnds command (keys_of file) g (traffic_of before) (traffic_of now) r
    → LineEnds command g before now r
line_read command g before now files file (Ok s) stands same ends = WasRead file (rw same stands) ends
line_read command g before now files file (Err stop.Sink) stands same ends = broke command g before now file (keys_of file) (rw same stands) refl ends.0 ends.1
line_read command g before now files file (Err (stop.NoMemory want)) stands same ends = runs_out command g before now file (keys_of file) (rw same stands) refl ends

-- a fetch leaves all but the cabinet alone
fetched_traffic : (name : List ℕ) (answer : Fetch) (before mid : Told) → Did before mid (Fetched name answer ∷ []) → traffic_at mid ≡ traffic_at before
fetched_traffic name answer before mid p =
    let sinks = p.sink.rests refl in
    let wires = p.wires.rests refl in
    let clocks = p.clock.rests refl in
    ap (λ (k : SinkState). let o : Traffic = record { held = k.held; sunk = k.faults; calls = mid.wires.calls; failed = mid.wires.faults; turns_failed = mid.wires.turn_faults; listening = mid.wires.listening; clock = mid.clock.answers } in o) sinks
    ∙ ap₂ (λ (w : WiresState) (c : ClockState). let o : Traffic = record { held = before.sink.held; sunk = before.sink.faults; calls = w.calls; failed = w.faults; turns_failed = w.turn_faults; listening = w.listening; clock = c.answers } in o) wires clocks

fetched_words : (name : List ℕ) (answer : Fetch) (before mid : Told) → Did before mid (Fetched name answer ∷ []) → mid.words ≡ before.words
unfolding AreDrawn
fetched_words name answer before mid p = p.words

fetched_file : (name octets : List ℕ) (before mid : Told) → Did before mid (Fetched name (Gave octets) ∷ []) → HasFile mid.cabinet.files name octets
unfolding AreFiled
fetched_file name octets before mid p = p.cabinet.filed.0

pub line_fetched : (command : LineCommand) (handed : ℕ) (minds : List Mind) (before mid now : Told) (octets : List ℕ) (r : Result Status Stop)
    → Did before mid (Fetched (key_file_of command) (Gave octets) ∷ []) → now.cabinet ≡ mid.cabinet
    → FileEnds command (keys_of octets) (given_to_loop handed minds mid.words) (traffic_at mid) (traffic_at now) r
    → LineEnds command (given_to_loop handed minds before.words) (outside_of before) (outside_of now) r
line_fetched command handed minds before mid now octets r p same ends =
    line_read command (given_to_loop handed minds before.words) (outside_of before) (outside_of now) mid.cabinet.files octets r
    (fetched_file (key_file_of command) octets before mid p) (ap (λ (z : CabinetState). z.files) same)
    (subst (λ (z : Stream). FileEnds command (keys_of octets) (given_to_loop handed minds z) (traffic_at before) (traffic_at now) r) (fetched_words (key_file_of command) (Gave octets) before mid p)
    (subst (λ (z : Traffic). FileEnds command (keys_of octets) (given_to_loop handed minds mid.words) z (traffic_at now) r) (fetched_traffic (key_file_of command) (Gave octets) before mid p) ends))

-- it wasn't, and its line was said
pub line_unfetched : (command : LineCommand) (g : GivenToLoop) (before mid now : Told) (r : Result Status Stop)
    → Did before mid (Fetched (key_file_of command) Failed ∷ []) → Does (says_last 2 (fetch_line (key_file_of command))) mid now (end_of_run r)
    → LineEnds command g (outside_of before) (outside_of now) r
line_unfetched command g before mid now r p does =
    let t = said 2 (fetch_line (key_file_of command)) mid now r does in
    ends r t.gives
    (subst (λ (z : Traffic). IsLeftAlone (AsksClock command) z (traffic_at now)) (fetched_traffic (key_file_of command) Failed before mid p) (alone_said command mid now t.only))
    (subst (λ (z : CabinetState). Rose before.cabinet.faults z.faults) (sym t.only.cabinet) (p.cabinet.faults.rose refl)) (p.sink.rests refl)
  where
    ends : (r : Result Status Stop) → Gives (record { status = 2; text = fetch_line (key_file_of command) }) mid now r → IsLeftAlone (AsksClock command) (traffic_at before) (traffic_at now)
        → Rose before.cabinet.faults now.cabinet.faults → mid.sink ≡ before.sink → LineEnds command g (outside_of before) (outside_of now) r
    ends (Ok s) gives alone rose same = NotFetched gives.0 rose (subst (λ (z : SinkState). Grew z.held now.sink.held (fetch_line (key_file_of command))) same gives.1) alone
    ends (Err stop.Sink) gives alone rose same = record {
      rose = subst (λ (z : SinkState). Rose z.faults now.sink.faults) same gives.1;
      beginning = NotLooped (OfFetch rose (subst (λ (z : SinkState). GrewPart z.held now.sink.held (fetch_line (key_file_of command))) same gives.0)) alone;
    }
    ends (Err (stop.NoMemory want)) gives alone rose same = BeforeLoop (subst (λ (z : SinkState). Grew z.held now.sink.held []) same gives) alone

-- memory ran out
pub line_spent : (command : LineCommand) (g : GivenToLoop) (before now : Told) (want : NoMemory)
    → Did before now (Fetched (key_file_of command) Spent ∷ []) → LineEnds command g (outside_of before) (outside_of now) (Err (stop.NoMemory want))
line_spent command g before now want p =
    subst (λ (z : Traffic). RunsOut command g now.cabinet.files (traffic_at before) z) (sym (fetched_traffic (key_file_of command) Spent before now p))
    (BeforeLoop (grew_nothing before.sink.held) (record { calls = refl; failed = refl; turns_failed = refl; listening = refl; clock = unasked command before.clock.answers }))

-- ---- which file was asked for

if_ok : {P : Type 0} (r : Result Status Stop) → P → IfOk r (λ status. P)
if_ok (Ok s) p = p
if_ok (Err why) p = tt

pub asks_read : (command : LineCommand) (before mid now : Told) (octets : List ℕ) (r : Result Status Stop) → Did before mid (Fetched (key_file_of command) (Gave octets) ∷ []) → KeepsCabinet mid now
    → AsksOne (key_file_of command) before now r
asks_read command before mid now octets r p keeps =
    let asked = subst (λ (z : CabinetState). Grew before.cabinet.asked z.asked (key_file_of command ∷ [])) (sym keeps.cabinet) (name_asked_by before.cabinet.asked mid.cabinet.asked (key_file_of command) (Gave octets) [] (λ names q. q) refl p.cabinet.asked) in
    record {
      recorded = recorded_behind before mid now (record { acts = Fetched (key_file_of command) (Gave octets) ∷ []; did = p; none = refl; unwritten = refl }) keeps.recorded;
      asked = if_ok r asked;
      part = part_whole before.cabinet.asked now.cabinet.asked (key_file_of command ∷ []) asked;
    }

pub asks_unread : (command : LineCommand) (before mid now : Told) (r : Result Status Stop) → Did before mid (Fetched (key_file_of command) Failed ∷ []) → Does (says_last 2 (fetch_line (key_file_of command))) mid now (end_of_run r)
    → AsksOne (key_file_of command) before now r
asks_unread command before mid now r p does =
    let t = said 2 (fetch_line (key_file_of command)) mid now r does in
    let asked = subst (λ (z : CabinetState). Grew before.cabinet.asked z.asked (key_file_of command ∷ [])) (sym t.only.cabinet) (name_asked_by before.cabinet.asked mid.cabinet.asked (key_file_of command) Failed [] (λ names q. q) refl p.cabinet.asked) in
    record {
      recorded = without_loop before now (none_then before mid now (record { acts = Fetched (key_file_of command) Failed ∷ []; did = p; none = refl }) t.only.done);
      asked = if_ok r asked;
      part = part_whole before.cabinet.asked now.cabinet.asked (key_file_of command ∷ []) asked;
    }

pub asks_spent : (command : LineCommand) (before now : Told) (want : NoMemory) → Did before now (Fetched (key_file_of command) Spent ∷ []) → AsksOne (key_file_of command) before now (Err (stop.NoMemory want))
asks_spent command before now want p = record {
  recorded = without_loop before now (record { acts = Fetched (key_file_of command) Spent ∷ []; did = p; none = refl });
  asked = tt;
  part = name_noted_by before.cabinet.asked now.cabinet.asked (key_file_of command) p.cabinet.asked;
}
