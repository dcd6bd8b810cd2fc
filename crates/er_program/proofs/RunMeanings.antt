-- What a run means by its status, from how it ended.
use Rattle.std.proofs.Common.{◌≡◌, ℕ, inl, inr, List, [], ◌∷◌, ◌++◌, length, Option, Some, None, Result, Ok, Err, refl, sym, ◌∙◌, ap, arith, subst}
use Rattle.std.proofs.lemmas.Option.{none-some, slice_get_within}
use Rattle.er_base.specs.declared.text_fault.TextFault.{TextFault}
use Rattle.er_base.specs.declared.text_fault.TextFault.TheVariants as text
use Rattle.er_base.specs.declared.why.Why.{Why}
use Rattle.er_scenario.specs.declared.scenario.Scenario.{Scenario}
use Rattle.er_scenario.specs.Files.{scenario_of}
use Rattle.er_scenario.specs.Texts.{CanBeRead}
use Rattle.drill_model.specs.declared.world_fault.WorldFault.{WorldFault}
use Rattle.drill_model.specs.declared.world_fault.WorldFault.TheVariants.{NoLink, LinkTwice, MomentBack, Overfull, NoMemory}
use Rattle.drill_model.specs.Texts.{drill_text}
use Rattle.link_trait.specs.Outside.{Grew, GrewPart, Rose, HasFile}
use Rattle.link_trait.specs.Growth.{grew_then}
use Rattle.er_program.specs.Asking.{Asks}
use Rattle.er_program.specs.Commands.{Command, Misused, Drill, Bits, Migrate, Replay, Check, Audit, Bulk, Serve, Call}
use Rattle.er_statuses.specs.LastLines.{fault_line, why_word, fetch_line, usage_line, memory_line}
use Rattle.er_statuses.specs.Answers.{Answer, HasFetched, Files}
use Rattle.er_program.specs.Answers.{IsAnswer, IsFetchedAnswer, FirstFault, AreDone, IsDrillAnswer, IsWhole, BreaksOff, IsScenarioAnswer, lines_of_first, fault_answer}
use Rattle.er_program.specs.Runs.{HoldsInDrill, WorldsHold, IsDrillBrokenOff, AreFirstLines, HasStatus, IsSpent}
use Rattle.er_program.specs.FileMeans.{FileMeans, IsSinkFailed, IsCompleteByFiles}
use Rattle.er_program.specs.Writing.{HasReadable, SpellsScenarioInRange, IsGivenAnswer, IsOutputBeginning, Finished, Broken, Exhausted}
use Rattle.er_statuses.specs.Writing.{Exhausts}
use Rattle.er_statuses.specs.declared.status.Status.{Status}
use Rattle.er_program.proofs.BitMeanings.{means_bits}
use Rattle.er_program.proofs.KeyMeanings.{means_migrate}
use Rattle.er_program.specs.declared.work.Work.TheVariants as work
use Rattle.er_program.proofs.KeyedMeanings.{means_keyed}
use Rattle.er_program.proofs.BulkMeanings.{BulkHolds, means_bulk}

-- what is claimed of the world holds at every moment of the steps that are done
abbrev pub DrillsHold : Type 0
DrillsHold = (s : Scenario) → CanBeRead s → (count : ℕ) → AreDone s count → HoldsInDrill s count

-- names that were asked for
abbrev pub Names : Type 0
Names = Option (List (List ℕ))

-- ---- each status alone

means_usage : (files : Files) (p q : Names) (c d f g : ℕ) (before now : Option (List ℕ)) (status : ℕ)
    → status ≡ 1 → Grew before now usage_line → FileMeans Misused files p q c d f g before now status
means_usage files p q c d f g before now status is printed = record {
  known = inr (inl is);
  done = λ h. absurd (omega arith);
  usage = λ h. printed;
  fetch = λ h. absurd (omega arith);
  refused = λ h. absurd (omega arith);
  keys = λ h. absurd (omega arith);
  sink = λ h. absurd (omega arith);
  memory = λ h. absurd (omega arith);
  overfull = λ h. absurd (omega arith);
  unlike = λ h. absurd (omega arith);
  complete = λ fine. inl is;
}

means_unfetched : (name : List ℕ) (files : Files) (p q : Names) (c d f g : ℕ) (before now : Option (List ℕ)) (status : ℕ)
    → Grew p q (name ∷ []) → status ≡ 2 → Rose c d → Grew before now (fetch_line name) → FileMeans (Drill name) files p q c d f g before now status
means_unfetched name files p q c d f g before now status asked is rose printed = record {
  known = inr (inr (inl is));
  done = λ h. absurd (omega arith);
  usage = λ h. absurd (omega arith);
  fetch = λ h. record { first = []; name = name; rest = []; is = refl; asked_for = asked; rose = rose; printed = printed };
  refused = λ h. absurd (omega arith);
  keys = λ h. absurd (omega arith);
  sink = λ h. absurd (omega arith);
  memory = λ h. absurd (omega arith);
  overfull = λ h. absurd (omega arith);
  unlike = λ h. absurd (omega arith);
  complete = λ good fine. absurd (good rose);
}

-- want of memory is complete
memory_complete : (command : Command) (files : Files) (c d f g status : ℕ) → status ≡ 7 → IsCompleteByFiles command files c d f g status
memory_complete Misused files c d f g status is = λ fine. inr is
memory_complete (Drill name) files c d f g status is = λ good fine. inr is
memory_complete (Bits name) files c d f g status is = λ good fine. inr is
memory_complete (Migrate keys) files c d f g status is = λ good fine. inr is
memory_complete (Replay keys trace) files c d f g status is = λ good fine. inr is
memory_complete (Check keys trace) files c d f g status is = λ good fine. inr is
memory_complete (Audit keys tap ends) files c d f g status is = λ good fine. inr is
memory_complete (Bulk seed count) files c d f g status is = λ fine. inr is
memory_complete (Serve keys address rbc turns) files c d f g status is = λ good fine well. inr is
memory_complete (Call keys address engine rbc turns) files c d f g status is = λ good fine well. inr is

means_memory : (command : Command) (files : Files) (p q : Names) (c d f g : ℕ) (before now : Option (List ℕ)) (status : ℕ)
    → status ≡ 7 → IsSpent command files before now → FileMeans command files p q c d f g before now status
means_memory command files p q c d f g before now status is out = record {
  known = inr (inr (inr (inr (inr (inr (inl is))))));
  done = λ h. absurd (omega arith);
  usage = λ h. absurd (omega arith);
  fetch = λ h. absurd (omega arith);
  refused = λ h. absurd (omega arith);
  keys = λ h. absurd (omega arith);
  sink = λ h. absurd (omega arith);
  memory = λ h. out;
  overfull = λ h. absurd (omega arith);
  unlike = λ h. absurd (omega arith);
  complete = memory_complete command files c d f g status is;
}

-- nothing is complete where the sink's count rose
not_complete : (command : Command) (files : Files) (c d f g status : ℕ) → Rose f g → IsCompleteByFiles command files c d f g status
not_complete Misused files c d f g status rose = λ fine. absurd (fine rose)
not_complete (Drill name) files c d f g status rose = λ good fine. absurd (fine rose)
not_complete (Bits name) files c d f g status rose = λ good fine. absurd (fine rose)
not_complete (Migrate keys) files c d f g status rose = λ good fine. absurd (fine rose)
not_complete (Replay keys trace) files c d f g status rose = λ good fine. absurd (fine rose)
not_complete (Check keys trace) files c d f g status rose = λ good fine. absurd (fine rose)
not_complete (Audit keys tap ends) files c d f g status rose = λ good fine. absurd (fine rose)
not_complete (Bulk seed count) files c d f g status rose = λ fine. absurd (fine rose)
not_complete (Serve keys address rbc turns) files c d f g status rose = λ good fine well. absurd (fine rose)
not_complete (Call keys address engine rbc turns) files c d f g status rose = λ good fine well. absurd (fine rose)

means_sink : (command : Command) (files : Files) (p q : Names) (c d f g : ℕ) (before now : Option (List ℕ)) (status : ℕ)
    → status ≡ 5 → IsSinkFailed command files c d f g before now → FileMeans command files p q c d f g before now status
means_sink command files p q c d f g before now status is failed = record {
  known = inr (inr (inr (inr (inr (inl is)))));
  done = λ h. absurd (omega arith);
  usage = λ h. absurd (omega arith);
  fetch = λ h. absurd (omega arith);
  refused = λ h. absurd (omega arith);
  keys = λ h. absurd (omega arith);
  sink = λ h. failed;
  memory = λ h. absurd (omega arith);
  overfull = λ h. absurd (omega arith);
  unlike = λ h. absurd (omega arith);
  complete = not_complete command files c d f g status failed.rose;
}

means_out_of_form : (name file : List ℕ) (line : ℕ) (why : Why) (files : Files) (p q : Names) (c d f g : ℕ) (before now : Option (List ℕ)) (status : ℕ)
    → HasFile files name file → scenario_of file ≡ Err (text.At line why) → status ≡ 3 → Grew before now (fault_line line (why_word why))
    → FileMeans (Drill name) files p q c d f g before now status
means_out_of_form name file line why files p q c d f g before now status stands unspelled is printed = record {
  known = inr (inr (inr (inl is)));
  done = λ h. absurd (omega arith);
  usage = λ h. absurd (omega arith);
  fetch = λ h. absurd (omega arith);
  refused = λ h. inl (record { file = file; stands = stands; line = line; why = why; unspelled = unspelled; printed = printed });
  keys = λ h. absurd (omega arith);
  sink = λ h. absurd (omega arith);
  memory = λ h. absurd (omega arith);
  overfull = λ h. absurd (omega arith);
  unlike = λ h. absurd (omega arith);
  complete = λ good fine. inl (
    file,
    stands,
    record {
      answer = record { status = 3; text = fault_line line (why_word why) };
      answers = rw unspelled refl;
      is = is;
      all_done = λ other spelled done. absurd (cc);
    },
  );
}

-- ---- drills

-- all steps are done
means_done : (name file : List ℕ) (s : Scenario) (files : Files) (p q : Names) (c d f g : ℕ) (before now : Option (List ℕ)) (status : ℕ)
    → DrillsHold → HasFile files name file → scenario_of file ≡ Ok s → CanBeRead s → AreDone s (length s.steps)
    → status ≡ 0 → Grew before now (drill_text s) → HasStatus file status → FileMeans (Drill name) files p q c d f g before now status
means_done name file s files p q c d f g before now status law stands spelled readable done is printed has = record {
  known = inl is;
  done = λ h. record {
    scenario = s;
    spells = record { file = file; stands = stands; spelled = spelled };
    are_done = done;
    printed = printed;
    holds = law s readable (length s.steps) done;
  };
  usage = λ h. absurd (omega arith);
  fetch = λ h. absurd (omega arith);
  refused = λ h. absurd (omega arith);
  keys = λ h. absurd (omega arith);
  sink = λ h. absurd (omega arith);
  memory = λ h. absurd (omega arith);
  overfull = λ h. absurd (omega arith);
  unlike = λ h. absurd (omega arith);
  complete = λ good fine. inl (file, stands, has);
}

-- a step isn't done: it is refused, or too many frames would wait
means_refused : (name file : List ℕ) (files : Files) (p q : Names) (c d f g : ℕ) (before now : Option (List ℕ)) (status : ℕ)
    → status ≡ 3 → IsDrillBrokenOff name files 3 before now → HasFile files name file → HasStatus file status → FileMeans (Drill name) files p q c d f g before now status
means_refused name file files p q c d f g before now status is broke stands has = record {
  known = inr (inr (inr (inl is)));
  done = λ h. absurd (omega arith);
  usage = λ h. absurd (omega arith);
  fetch = λ h. absurd (omega arith);
  refused = λ h. inr broke;
  keys = λ h. absurd (omega arith);
  sink = λ h. absurd (omega arith);
  memory = λ h. absurd (omega arith);
  overfull = λ h. absurd (omega arith);
  unlike = λ h. absurd (omega arith);
  complete = λ good fine. inl (file, stands, has);
}

means_overfull : (name file : List ℕ) (files : Files) (p q : Names) (c d f g : ℕ) (before now : Option (List ℕ)) (status : ℕ)
    → status ≡ 8 → IsDrillBrokenOff name files 8 before now → HasFile files name file → HasStatus file status → FileMeans (Drill name) files p q c d f g before now status
means_overfull name file files p q c d f g before now status is broke stands has = record {
  known = inr (inr (inr (inr (inr (inr (inr (inl is)))))));
  done = λ h. absurd (omega arith);
  usage = λ h. absurd (omega arith);
  fetch = λ h. absurd (omega arith);
  refused = λ h. absurd (omega arith);
  keys = λ h. absurd (omega arith);
  sink = λ h. absurd (omega arith);
  memory = λ h. absurd (omega arith);
  overfull = λ h. broke;
  unlike = λ h. absurd (omega arith);
  complete = λ good fine. inl (file, stands, has);
}

-- what a step that isn't done breaks off
broke_off : (name file : List ℕ) (s : Scenario) (files : Files) (before now : Option (List ℕ)) (status : ℕ) (first : FirstFault s)
    → DrillsHold → HasFile files name file → scenario_of file ≡ Ok s → CanBeRead s → status ≡ (fault_answer first.step.line first.fault).status
    → Grew before now (lines_of_first s first.count ++ (fault_answer first.step.line first.fault).text) → IsDrillBrokenOff name files status before now
broke_off name file s files before now status first law stands spelled readable stated printed = record {
  scenario = s;
  spells = record { file = file; stands = stands; spelled = spelled };
  first = first;
  stated = stated;
  printed = printed;
  holds = law s readable first.count first.are_done;
}

-- a step isn't done, by its fault
means_fault : (name file : List ℕ) (s : Scenario) (files : Files) (p q : Names) (c d f g : ℕ) (before now : Option (List ℕ)) (status : ℕ)
    (fault : WorldFault) (first : FirstFault s) → first.fault ≡ fault
    → DrillsHold → HasFile files name file → scenario_of file ≡ Ok s → CanBeRead s
    → status ≡ (fault_answer first.step.line fault).status → Grew before now (lines_of_first s first.count ++ (fault_answer first.step.line fault).text)
    → HasStatus file status → FileMeans (Drill name) files p q c d f g before now status
means_fault name file s files p q c d f g before now status (NoLink n) first same law stands spelled readable stated printed has =
    means_refused name file files p q c d f g before now status stated
    (broke_off name file s files before now 3 first law stands spelled readable (rw same refl) (rw same printed)) stands has
means_fault name file s files p q c d f g before now status (LinkTwice n) first same law stands spelled readable stated printed has =
    means_refused name file files p q c d f g before now status stated
    (broke_off name file s files before now 3 first law stands spelled readable (rw same refl) (rw same printed)) stands has
means_fault name file s files p q c d f g before now status (MomentBack was moment) first same law stands spelled readable stated printed has =
    means_refused name file files p q c d f g before now status stated
    (broke_off name file s files before now 3 first law stands spelled readable (rw same refl) (rw same printed)) stands has
means_fault name file s files p q c d f g before now status (Overfull n side most) first same law stands spelled readable stated printed has =
    means_overfull name file files p q c d f g before now status stated
    (broke_off name file s files before now 8 first law stands spelled readable (rw same refl) (rw same printed)) stands has
means_fault name file s files p q c d f g before now status (NoMemory want) first same law stands spelled readable stated printed has =
    means_memory (Drill name) files p q c d f g before now status stated
    (record {
      text = lines_of_first s first.count;
      first = inr (record {
        scenario = s;
        spells = record { file = file; stands = stands; spelled = spelled };
        count = first.count;
        are_done = first.are_done;
        is = refl;
        holds = law s readable first.count first.are_done;
      });
      printed = printed;
    })

-- the status of a file that spells a scenario
has_status : (file : List ℕ) (status : ℕ) (s : Scenario) (a : Answer) → scenario_of file ≡ Ok s → IsDrillAnswer s a → status ≡ a.status
    → (AreDone s (length s.steps) → status ≡ 0) → HasStatus file status
has_status file status s a spelled answers stated zeroed = record {
  answer = a;
  answers = rw spelled answers;
  is = stated;
  all_done = λ other is done.
      let same : other ≡ s = cc in
      zeroed (subst (λ (x : Scenario). AreDone x (length x.steps)) same done);
}

-- a scenario was drilled, to the end or to a step that isn't done
means_drilled : (name file : List ℕ) (s : Scenario) (a : Answer) (files : Files) (p q : Names) (c d f g : ℕ) (before now : Option (List ℕ)) (status : ℕ)
    → DrillsHold → HasFile files name file → scenario_of file ≡ Ok s → CanBeRead s → IsDrillAnswer s a
    → status ≡ a.status → Grew before now a.text → FileMeans (Drill name) files p q c d f g before now status
means_drilled name file s a files p q c d f g before now status law stands spelled readable (IsWhole done is) stated printed =
    let zero_is : status ≡ 0 = stated ∙ ap (λ (x : Answer). x.status) is in
    means_done name file s files p q c d f g before now status law stands spelled readable done zero_is (rw is at printed)
    (has_status file status s a spelled (IsWhole done is) stated (λ all. zero_is))
means_drilled name file s a files p q c d f g before now status law stands spelled readable (BreaksOff first is) stated printed =
    means_fault name file s files p q c d f g before now status first.fault first refl law stands spelled readable
    (stated ∙ ap (λ (x : Answer). x.status) is) (rw is at printed)
    (has_status file status s a spelled (BreaksOff first is) stated
    (λ all. absurd (none-some first.fault
    (sym (all first.count first.step (slice_get_within s.steps first.count first.step first.next) first.next) ∙ first.is_fault))))

-- ---- the words

-- the file of that name was read
means_file : (name file : List ℕ) (read : Result Scenario TextFault) (a : Answer) (files : Files) (p q : Names) (c d f g : ℕ) (before now : Option (List ℕ)) (status : ℕ)
    → DrillsHold → HasFile files name file → scenario_of file ≡ read → SpellsScenarioInRange read → IsScenarioAnswer read a
    → status ≡ a.status → Grew before now a.text → FileMeans (Drill name) files p q c d f g before now status
means_file name file (Ok s) a files p q c d f g before now status law stands is readable answers stated printed =
    means_drilled name file s a files p q c d f g before now status law stands is readable answers stated printed
means_file name file (Err (text.At line why)) a files p q c d f g before now status law stands is readable answers stated printed =
    means_out_of_form name file line why files p q c d f g before now status stands is (stated ∙ ap (λ (x : Answer). x.status) answers) (rw answers at printed)
means_file name file (Err (text.NoMemory want)) a files p q c d f g before now status law stands is readable answers stated printed =
    means_memory (Drill name) files p q c d f g before now status (stated ∙ ap (λ (x : Answer). x.status) answers)
    (record { text = []; first = inl refl; printed = rw answers at printed })

-- the name was fetched or not
means_fetched : (name : List ℕ) (fetched : Option (List ℕ)) (a : Answer) (files : Files) (p q : Names) (c d f g : ℕ) (before now : Option (List ℕ)) (status : ℕ)
    → Grew p q (name ∷ []) → DrillsHold → HasFetched name fetched files c d → HasReadable fetched → IsFetchedAnswer name fetched a
    → status ≡ a.status → Grew before now a.text → FileMeans (Drill name) files p q c d f g before now status
means_fetched name None a files p q c d f g before now status asked law stands readable answers stated printed =
    means_unfetched name files p q c d f g before now status asked (stated ∙ ap (λ (x : Answer). x.status) answers) stands (rw answers at printed)
means_fetched name (Some file) a files p q c d f g before now status asked law stands readable answers stated printed =
    means_file name file (scenario_of file) a files p q c d f g before now status law stands refl readable answers stated printed

-- the words were answered
pub means_finished : DrillsHold → BulkHolds → (command : Command) (files : Files) (p q : Names) (c d : ℕ) (before now : Option (List ℕ)) (f g status : ℕ)
    → Asks command status p q before now → Finished command files c d before now f g status → FileMeans command files p q c d f g before now status
means_finished law bulk Misused files p q c d before now f g status asked ends =
    means_usage files p q c d f g before now status (ends.stated ∙ ap (λ (a : Answer). a.status) ends.is) (rw ends.is at ends.printed)
means_finished law bulk (Drill name) files p q c d before now f g status asked ends =
    let given = ends.is.answer in
    means_fetched name given.fetched ends.answer files p q c d f g before now status asked law given.stands ends.is.readable given.is ends.stated ends.printed
means_finished law bulk (Bits name) files p q c d before now f g status asked ends =
    means_bits name ends.is.fetched ends.answer files p q c d f g before now status asked ends.is.stands ends.is.is ends.stated ends.printed
means_finished law bulk (Migrate keys) files p q c d before now f g status asked ends =
    means_migrate keys ends.is.fetched ends.answer files p q c d f g before now status asked ends.is.stands ends.is.is ends.stated ends.printed
means_finished law bulk (Replay keys trace) files p q c d before now f g status asked ends =
    means_keyed work.Replay keys trace ends.is.fetched ends.answer files p q c d f g before now status asked ends.is.stands ends.is.is ends.stated ends.printed
means_finished law bulk (Check keys trace) files p q c d before now f g status asked ends =
    means_keyed work.Check keys trace ends.is.fetched ends.answer files p q c d f g before now status asked ends.is.stands ends.is.is ends.stated ends.printed
means_finished law bulk (Audit keys tap asked_ends) files p q c d before now f g status asked ends =
    means_keyed (work.Audit asked_ends) keys tap ends.is.fetched ends.answer files p q c d f g before now status asked ends.is.stands ends.is.is ends.stated ends.printed
means_finished law bulk (Bulk seed count) files p q c d before now f g status asked ends =
    means_bulk bulk seed count ends.answer files p q c d f g before now status ends.is ends.stated ends.printed
means_finished law bulk (Serve keys address rbc turns) files p q c d before now f g status asked ends = absurd asked
means_finished law bulk (Call keys address engine rbc turns) files p q c d before now f g status asked ends = absurd asked

-- what was given is the answer
answer_given : (command : Command) (files : Files) (c d : ℕ) (a : Answer) → IsGivenAnswer command files c d a → IsAnswer command files c d a
answer_given Misused files c d a given = given
answer_given (Drill name) files c d a given = given.answer
answer_given (Bits name) files c d a given = given
answer_given (Migrate keys) files c d a given = given
answer_given (Replay keys trace) files c d a given = given
answer_given (Check keys trace) files c d a given = given
answer_given (Audit keys tap ends) files c d a given = given
answer_given (Bulk seed count) files c d a given = given
answer_given (Serve keys address rbc turns) files c d a given = absurd given
answer_given (Call keys address engine rbc turns) files c d a given = absurd given

-- what a file that was fetched spells is in its ranges
readable_of : (fetched : Option (List ℕ)) (file : List ℕ) (s : Scenario) → HasReadable fetched → fetched ≡ Some file → scenario_of file ≡ Ok s → CanBeRead s
readable_of None file s readable is spelled = absurd cc
readable_of (Some other) file s readable is spelled =
    let same : scenario_of other ≡ Ok s = cc in subst SpellsScenarioInRange same readable

-- what is claimed of the worlds of a command
worlds_hold : DrillsHold → BulkHolds → (command : Command) (files : Files) (c d : ℕ) (a : Answer) → IsGivenAnswer command files c d a → WorldsHold command files c d
worlds_hold law bulk Misused files c d a given = tt
worlds_hold law bulk (Drill name) files c d a given = record {
  fetched = given.answer.fetched;
  stands = given.answer.stands;
  holds = λ file s count is spelled done. law s (readable_of given.answer.fetched file s given.readable is spelled) count done;
}
worlds_hold law bulk (Bits name) files c d a given = tt
worlds_hold law bulk (Migrate keys) files c d a given = tt
worlds_hold law bulk (Replay keys trace) files c d a given = tt
worlds_hold law bulk (Check keys trace) files c d a given = tt
worlds_hold law bulk (Audit keys tap ends) files c d a given = tt
worlds_hold law bulk (Bulk seed count) files c d a given = bulk seed count
worlds_hold law bulk (Serve keys address rbc turns) files c d a given = tt
worlds_hold law bulk (Call keys address engine rbc turns) files c d a given = tt

-- a write failed
pub means_broken : DrillsHold → BulkHolds → (command : Command) (files : Files) (p q : Names) (c d : ℕ) (before now : Option (List ℕ)) (f g : ℕ)
    → Broken command files c d before now f g → FileMeans command files p q c d f g before now 5
means_broken law bulk command files p q c d before now f g ends =
    means_sink command files p q c d f g before now 5 refl
    (record {
      rose = ends.rose;
      beginning = inl (record {
        answer = ends.answer;
        is = answer_given command files c d ends.answer ends.is;
        part = ends.part;
        holds = worlds_hold law bulk command files c d ends.answer ends.is;
      });
    })

-- the lines of first steps, and what holds of them
first_lines_hold : DrillsHold → BulkHolds → (command : Command) (files : Files) (text : List ℕ) → IsOutputBeginning command files text → AreFirstLines command files text
first_lines_hold law bulk Misused files text begun = begun
first_lines_hold law bulk (Drill name) files text begun =
    elim begun [
      | inl nothing ↦ inl nothing
      | inr first ↦ inr (record {
        scenario = first.scenario;
        spells = first.spells;
        count = first.count;
        are_done = first.are_done;
        is = first.is;
        holds = law first.scenario first.readable first.count first.are_done;
      })
    ]
first_lines_hold law bulk (Bits name) files text begun = begun
first_lines_hold law bulk (Migrate keys) files text begun = begun
first_lines_hold law bulk (Replay keys trace) files text begun = begun
first_lines_hold law bulk (Check keys trace) files text begun = begun
first_lines_hold law bulk (Audit keys tap ends) files text begun = begun
first_lines_hold law bulk (Bulk seed count) files text begun = (begun, bulk seed count)
first_lines_hold law bulk (Serve keys address rbc turns) files text begun = absurd begun
first_lines_hold law bulk (Call keys address engine rbc turns) files text begun = absurd begun

-- memory ran out, and the last line was written
means_exhausted : DrillsHold → BulkHolds → (command : Command) (files : Files) (p q : Names) (c d : ℕ) (before mid now : Option (List ℕ)) (f g h : ℕ)
    → Exhausted command files before mid f g → Grew mid now memory_line → FileMeans command files p q c d f h before now 7
means_exhausted law bulk command files p q c d before mid now f g h ends printed =
    means_memory command files p q c d f h before now 7 refl
    (record {
      text = ends.text;
      first = first_lines_hold law bulk command files ends.text ends.first;
      printed = grew_then before mid now ends.text memory_line ends.printed printed;
    })

-- memory ran out, and the last line wasn't written whole
means_interrupted : DrillsHold → BulkHolds → (command : Command) (files : Files) (p q : Names) (c d : ℕ) (before mid now : Option (List ℕ)) (f g h : ℕ)
    → Exhausted command files before mid f g → GrewPart mid now memory_line → Rose g h → FileMeans command files p q c d f h before now 5
means_interrupted law bulk command files p q c d before mid now f g h ends part rose =
    means_sink command files p q c d f h before now 5 refl
    (record {
      rose = omega (arith, ends.later);
      beginning = inr (record {
        text = ends.text;
        first = first_lines_hold law bulk command files ends.text ends.first;
        tail = part.part;
        rest = part.rest;
        is = part.is;
        printed = grew_then before mid now ends.text part.part ends.printed part.grew;
      });
    })

-- memory ran out
pub means_spent : DrillsHold → BulkHolds → (command : Command) (files : Files) (p q : Names) (c d : ℕ) (before mid now : Option (List ℕ)) (f g h : ℕ) (s : Status)
    → Exhausted command files before mid f g → Exhausts mid now g h s → FileMeans command files p q c d f h before now s.0
means_spent law bulk command files p q c d before mid now f g h s ends last =
    elim last [
      | inl written ↦ rw written.0 (means_exhausted law bulk command files p q c d before mid now f g h ends written.1)
      | inr broken ↦ rw broken.0 (means_interrupted law bulk command files p q c d before mid now f g h ends broken.1 broken.2)
    ]
