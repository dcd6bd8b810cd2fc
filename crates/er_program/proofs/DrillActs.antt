-- What the script of a drill did: how the run ended, what the sink got, and that no file was asked for behind the first.
use Rattle.std.proofs.Common.{◌≡◌, ◌≤◌, ◌+◌, ℕ, zero, suc, inl, inr, false, List, [], ◌∷◌, ◌++◌, drop, length, slice_get, Option, Some, None, Result, Ok, Err, IfOk, IsTrue, IsFalse, refl, sym, ap, subst, ◌∙◌, append_assoc, append-nil, arith}
use Rattle.std.specs.List.{list_any}
use Rattle.std.proofs.lemmas.Option.{slice_get_within}
use Rattle.link_trait.specs.Outside.{Grew, GrewPart}
use Rattle.er_base.specs.declared.no_memory.NoMemory.{NoMemory as Want}
use Rattle.er_base.specs.declared.text_fault.TextFault.{TextFault}
use Rattle.er_base.specs.declared.text_fault.TextFault.TheVariants as text
use Rattle.er_scenario.specs.declared.step.Step.{Step}
use Rattle.er_scenario.specs.declared.numbered.Numbered.{Numbered}
use Rattle.er_scenario.specs.declared.scenario.Scenario.{Scenario}
use Rattle.er_scenario.specs.Files.{scenario_of}
use Rattle.drill_model.specs.declared.world_fault.WorldFault.{WorldFault}
use Rattle.drill_model.specs.Worlds.{DrillPlan, plan_of}
use Rattle.drill_model.specs.Faults.{fault_behind}
use Rattle.drill_model.specs.Texts.{step_lines, first_lines, last_lines}
use Rattle.drill_model.specs.Growth.{TextGrows}
use Rattle.outside.specs.Acts.{Act, Wrote, is_fetch, is_sink_fault}
use Rattle.outside.specs.Ties.{IsLeft, GrewBy, PutsInSink}
use Rattle.outside.specs.Doings.{Told, Did}
use Rattle.outside.specs.Scripts.{End, With, Sunk, OutOfMemory, Script, printing, says_last, RunsScript}
use Rattle.outside.specs.SinkTexts.{nothing_left_by, fetches_none}
use Rattle.er_statuses.specs.Answers.{Answer, Files}
use Rattle.er_statuses.specs.LastLines.{fault_line, why_word}
use Rattle.er_statuses.specs.ScriptEnds.{end_of_run}
use Rattle.er_statuses.specs.declared.status.Status.{Status}
use Rattle.er_statuses.specs.declared.stop.Stop.{Stop}
use Rattle.er_statuses.specs.declared.stop.Stop.TheVariants as stop
use Rattle.er_program.specs.Answers.{IsDrillAnswer, IsWhole, BreaksOff, AreDone, first_steps, lines_of_first, fault_behind_first, fault_answer}
use Rattle.er_program.specs.Commands.{Drill}
use Rattle.er_program.specs.StepScripts.{prints_or_ends, drills_steps, drills_read, drills}
use Rattle.er_program.specs.Writing.{Drills, EndsFile, EndsCommand}
use Rattle.er_program.proofs.DrillSteps.{all_steps, first_more, lines_more, done_more, done_past, has_answer, answer_begins}
use Rattle.er_program.proofs.EachText.{left_behind, sink_fault_behind, unprinted, no_fetch_behind}
use Rattle.er_program.proofs.FileActs.{Sinks, is_spent, gives_answer, gives_said, file_ends, file_asks, file_asks_part}
use Rattle.er_program.proofs.RunEndings.{ends_file, ends_unfetched, ends_drilled, ends_refused}

-- ---- one text and a status

-- what the sink got, by how it ended
abbrev GotLast : (status : ℕ) (last : List ℕ) → End → List Act → List ℕ → Type 0
GotLast status last (With s) acts all = (s ≡ status) × (all ≡ last)
GotLast status last Sunk acts all = (cut : List ℕ) × (all ++ cut ≡ last) × IsTrue (list_any is_sink_fault acts)
GotLast status last OutOfMemory acts all = all ≡ []

got_last : (status : ℕ) (last : List ℕ) (acts : List Act) (end : End) (all : List ℕ) → RunsScript (says_last status last) acts end → IsLeft PutsInSink acts all
    → GotLast status last end acts all
unfolding RunsScript IsLeft
got_last status last acts end all (inl p) left =
    let split = left_behind p.text p.rest all (subst (λ (ys : List Act). IsLeft PutsInSink ys all) p.acts_are left) in
    let none : split.0 ≡ [] = subst (λ (ys : List Act). IsLeft PutsInSink ys split.0) p.follows.0 split.1 in
    subst (λ (e : End). GotLast status last e acts all) (sym p.follows.1)
    (refl, split.2 ∙ ap (λ (more : List ℕ). p.text ++ more) none ∙ append-nil p.text ∙ p.is)
got_last status last acts end all (inr (inl p)) left =
    let cut = unprinted p.text [] all (subst (λ (ys : List Act). IsLeft PutsInSink ys all) p.acts_are left) in
    subst (λ (e : End). GotLast status last e acts all) (sym p.sunk)
    (cut.0, cut.1 ∙ append-nil p.text ∙ p.is, subst (λ (ys : List Act). IsTrue (list_any is_sink_fault ys)) (sym p.acts_are) refl)
got_last status last acts end all (inr (inr p)) left =
    let none : all ≡ [] = subst (λ (ys : List Act). IsLeft PutsInSink ys all) p.0 left in
    subst (λ (e : End). GotLast status last e acts all) (sym p.1) none

-- ---- a drill

-- what the sink got behind the lines of the first steps, by how it ended: all of an answer; a beginning of one; or the lines of some first steps
abbrev GotDrill : Scenario → ℕ → End → List Act → List ℕ → Type 0
GotDrill s i (With status) acts all = (a : Answer) × IsDrillAnswer s a × (status ≡ a.status) × (a.text ≡ lines_of_first s i ++ all)
GotDrill s i Sunk acts all = (a : Answer) × IsDrillAnswer s a × (cut : List ℕ) × (a.text ≡ lines_of_first s i ++ (all ++ cut)) × IsTrue (list_any is_sink_fault acts)
GotDrill s i OutOfMemory acts all = (count : ℕ) × AreDone s count × (lines_of_first s count ≡ lines_of_first s i ++ all)

module _ (s : Scenario) (i : ℕ) where
  abbrev before : List ℕ
  before = lines_of_first s i

  -- nothing more came
  got_nothing : (all : List ℕ) → AreDone s i → all ≡ [] → (count : ℕ) × AreDone s count × (lines_of_first s count ≡ before ++ all)
  got_nothing all done none = (i, done, sym (ap (λ (more : List ℕ). before ++ more) none ∙ append-nil before))

  -- an answer ended it
  got_answer : (status : ℕ) (last : List ℕ) (end : End) (acts : List Act) (all : List ℕ) → AreDone s i → IsDrillAnswer s (record { status = status; text = before ++ last })
      → GotLast status last end acts all → GotDrill s i end acts all
  got_answer status last (With st) acts all done is got =
      (record { status = status; text = before ++ last }, is, got.0, ap (λ (more : List ℕ). before ++ more) (sym got.1))
  got_answer status last Sunk acts all done is got =
      (record { status = status; text = before ++ last }, is, got.0, ap (λ (more : List ℕ). before ++ more) (sym got.1), got.2)
  got_answer status last OutOfMemory acts all done is got = got_nothing all done got

  module _ (grows : TextGrows) (x : Numbered) (at : slice_get s.steps i ≡ Some x) where
    abbrev here : List ℕ
    here = step_lines (plan_of s) (first_steps s i) x.step

    -- the lines of this step, and what follows
    both : (more : List ℕ) → lines_of_first s (i + 1) ++ more ≡ before ++ (here ++ more)
    both more = ap (λ (t : List ℕ). t ++ more) (lines_more grows s i x at) ∙ append_assoc before here more

    got_more : (end : End) (rest : List Act) (more : List ℕ) → GotDrill s (i + 1) end rest more → GotDrill s i end (printing here ++ rest) (here ++ more)
    got_more (With status) rest more got = (got.0, got.1, got.2, got.3 ∙ both more)
    got_more Sunk rest more got = (
      got.0,
      got.1,
      got.2,
      got.3 ∙ both (more ++ got.2) ∙ ap (λ (t : List ℕ). before ++ t) (sym (append_assoc here more got.2)),
      sink_fault_behind here rest got.4,
    )
    got_more OutOfMemory rest more got = (got.0, got.1, got.2 ∙ both more)

    -- the write of its lines failed
    got_begun : (all : List ℕ) → AreDone s (i + 1) → ((behind : List ℕ) → (cut : List ℕ) × (all ++ cut ≡ here ++ behind))
        → (a : Answer) × IsDrillAnswer s a × (cut : List ℕ) × (a.text ≡ before ++ (all ++ cut))
    got_begun all done cuts =
        let it = has_answer s in
        let front = answer_begins grows s (i + 1) (omega (arith, slice_get_within s.steps i x at)) done it.answer it.is in
        let cut = cuts front.rest in
        (it.answer, it.is, cut.0, front.is ∙ both front.rest ∙ ap (λ (t : List ℕ). before ++ t) (sym cut.1))

    -- one step, by its fault
    got_step : (f : Option WorldFault) → fault_behind_first s i x.step ≡ f → AreDone s i → (next : Script)
        → ((rest : List Act) (end : End) (more : List ℕ) → AreDone s (i + 1) → RunsScript next rest end → IsLeft PutsInSink rest more → GotDrill s (i + 1) end rest more)
        → (acts : List Act) (end : End) (all : List ℕ) → RunsScript (prints_or_ends f x.line here next) acts end → IsLeft PutsInSink acts all → GotDrill s i end acts all
    unfolding RunsScript IsLeft
    got_step (Some fault) is done next follows acts end all runs left =
        got_answer (fault_answer x.line fault).status (fault_answer x.line fault).text end acts all done
        (BreaksOff (record { count = i; step = x; next = at; are_done = done; fault = fault; is_fault = is }) refl)
        (got_last (fault_answer x.line fault).status (fault_answer x.line fault).text acts end all runs left)
    got_step None is done next follows acts end all (inl p) left =
        let split = left_behind p.text p.rest all (subst (λ (ys : List Act). IsLeft PutsInSink ys all) p.acts_are left) in
        let got : GotDrill s i end (printing here ++ p.rest) (here ++ split.0) =
        got_more end p.rest split.0 (follows p.rest end split.0 (done_more s i x done at is) p.follows split.1) in
        let acts_are : printing here ++ p.rest ≡ acts = sym (p.acts_are ∙ ap (λ (text : List ℕ). printing text ++ p.rest) p.is) in
        let all_are : here ++ split.0 ≡ all = sym (split.2 ∙ ap (λ (text : List ℕ). text ++ split.0) p.is) in
        subst (λ (ys : List Act). GotDrill s i end ys all) acts_are (subst (λ (octets : List ℕ). GotDrill s i end (printing here ++ p.rest) octets) all_are got)
    got_step None is done next follows acts end all (inr (inl p)) left =
        let write : IsLeft PutsInSink (Wrote p.text false ∷ []) all = subst (λ (ys : List Act). IsLeft PutsInSink ys all) p.acts_are left in
        let got = got_begun all (done_more s i x done at is)
        (λ behind. let cut = unprinted p.text behind all write in (cut.0, cut.1 ∙ ap (λ (text : List ℕ). text ++ behind) p.is)) in
        subst (λ (e : End). GotDrill s i e acts all) (sym p.sunk)
        (got.0, got.1, got.2, got.3, subst (λ (ys : List Act). IsTrue (list_any is_sink_fault ys)) (sym p.acts_are) refl)
    got_step None is done next follows acts end all (inr (inr p)) left =
        let none : all ≡ [] = subst (λ (ys : List Act). IsLeft PutsInSink ys all) p.0 left in
        subst (λ (e : End). GotDrill s i e acts all) (sym p.1) (got_nothing all done none)

-- ---- the steps that are left

at_drop : (xs : List Numbered) (i : ℕ) (x : Numbered) (rest : List Numbered) → drop i xs ≡ x ∷ rest → slice_get xs i ≡ Some x
at_drop [] zero x rest is = absurd (let u : ⊥ = cc in u)
at_drop [] (suc i) x rest is = absurd (let u : ⊥ = cc in u)
at_drop (y ∷ ys) zero x rest is = ap (λ (l : List Numbered). slice_get l zero) is
at_drop (y ∷ ys) (suc i) x rest is = at_drop ys i x rest is

behind_drop : (xs : List Numbered) (i : ℕ) (x : Numbered) (rest : List Numbered) → drop i xs ≡ x ∷ rest → drop (suc i) xs ≡ rest
behind_drop [] zero x rest is = absurd (let u : ⊥ = cc in u)
behind_drop [] (suc i) x rest is = absurd (let u : ⊥ = cc in u)
behind_drop (y ∷ ys) zero x rest is = ap (λ (l : List Numbered). drop (suc zero) l) is
behind_drop (y ∷ ys) (suc i) x rest is = behind_drop ys i x rest is

over_drop : (xs : List Numbered) (i : ℕ) → drop i xs ≡ [] → length xs ≤ i
over_drop [] i is = omega arith
over_drop (y ∷ ys) zero is = absurd (let u : ⊥ = cc in u)
over_drop (y ∷ ys) (suc i) is = let le : length ys ≤ i = over_drop ys i is in omega (arith, le)

got_steps : TextGrows → (s : Scenario) (i : ℕ) (rest : List Numbered) → drop i s.steps ≡ rest → AreDone s i → (acts : List Act) (end : End) (all : List ℕ)
    → RunsScript (drills_steps (plan_of s) (first_steps s i) rest) acts end → IsLeft PutsInSink acts all → GotDrill s i end acts all
unfolding drills_steps
got_steps grows s i [] is done acts end all runs left =
    let over : length s.steps ≤ i = over_drop s.steps i is in
    let answer : IsDrillAnswer s (record { status = 0; text = lines_of_first s i ++ last_lines (plan_of s) (first_steps s i) }) =
    IsWhole (done_past s i (length s.steps) done over)
    (ap (λ (steps : List Step). let a : Answer = record { status = 0; text = first_lines (plan_of s) steps ++ last_lines (plan_of s) steps } in a) (all_steps s i over)) in
    got_answer s i 0 (last_lines (plan_of s) (first_steps s i)) end acts all done answer (got_last 0 (last_lines (plan_of s) (first_steps s i)) acts end all runs left)
got_steps grows s i (x ∷ rest) is done acts end all runs left =
    let at : slice_get s.steps i ≡ Some x = at_drop s.steps i x rest is in
    let plus : suc i ≡ i + 1 = omega arith in
    let behind : drop (i + 1) s.steps ≡ rest = subst (λ (n : ℕ). drop n s.steps ≡ rest) plus (behind_drop s.steps i x rest is) in
    got_step s i grows x at (fault_behind_first s i x.step) refl done (drills_steps (plan_of s) (first_steps s i ++ x.step ∷ []) rest)
    (λ more_acts more_end more dones runs_on left_on. got_steps grows s (i + 1) rest behind dones more_acts more_end more
    (subst (λ (steps : List Step). RunsScript (drills_steps (plan_of s) steps rest) more_acts more_end) (sym (first_more s i x at)) runs_on) left_on)
    acts end all runs left

-- ---- how it ended

got_drills : (s : Scenario) (a b : Option (List ℕ)) (f g : ℕ) (acts : List Act) (r : Result Status Stop) → (sinks : Sinks a b f g acts)
    → GotDrill s 0 (end_of_run r) acts sinks.0.more → Drills s a b f g r
got_drills s a b f g acts (Ok status) sinks got = record {
  answer = got.0;
  is = got.1;
  stated = got.2;
  printed = subst (λ (octets : List ℕ). Grew a b octets) (sym got.3) sinks.0.grew;
  later = sinks.1.later;
}
got_drills s a b f g acts (Err stop.Sink) sinks got = record {
  answer = got.0;
  is = got.1;
  part = record { part = sinks.0.more; rest = got.2; is = sym got.3; grew = sinks.0.grew };
  rose = sinks.1.rose got.4;
}
got_drills s a b f g acts (Err (stop.NoMemory want)) sinks got =
    (record { count = got.0; are_done = got.1; grew = subst (λ (octets : List ℕ). Grew a b octets) (sym got.2) sinks.0.grew }, sinks.1.later)

gives_read : TextGrows → (read : Result Scenario TextFault) (a b : Option (List ℕ)) (f g : ℕ) (acts : List Act) (r : Result Status Stop)
    → RunsScript (drills_read read) acts (end_of_run r) → Sinks a b f g acts → EndsFile read a b f g r
unfolding RunsScript
gives_read grows (Ok s) a b f g acts r (inl p) sinks =
    ends_drilled (Ok s) s a b f g r refl p.0
    (got_drills s a b f g acts r sinks
    (got_steps grows s 0 s.steps refl (λ k x lt at. absurd (omega (arith, lt))) acts (end_of_run r) sinks.0.more p.1 sinks.0.left))
gives_read grows (Ok s) a b f g acts r (inr p) sinks =
    let spent : (want : Want) × (r ≡ Err (stop.NoMemory want)) = is_spent r p.1 in
    let nothing : Grew a b [] = nothing_left_by a b (subst (λ (ys : List Act). GrewBy PutsInSink a b ys) p.0 sinks.0) in
    subst (λ (x : Result Status Stop). EndsFile (Ok s) a b f g x) (sym spent.1) (record { first = inl nothing; later = sinks.1.later })
gives_read grows (Err (text.At line why)) a b f g acts r runs sinks =
    let answer : Answer = record { status = 3; text = fault_line line (why_word why) } in
    ends_refused (Err (text.At line why)) line why a b f g r refl (gives_answer answer a b f g r (gives_said answer a b f g acts r runs sinks))
gives_read grows (Err (text.NoMemory want)) a b f g acts r (inl p) sinks = absurd p.0
gives_read grows (Err (text.NoMemory want)) a b f g acts r (inr p) sinks =
    let spent : (more : Want) × (r ≡ Err (stop.NoMemory more)) = is_spent r p.1 in
    let nothing : Grew a b [] = nothing_left_by a b (subst (λ (ys : List Act). GrewBy PutsInSink a b ys) p.0 sinks.0) in
    subst (λ (x : Result Status Stop). EndsFile (Err (text.NoMemory want)) a b f g x) (sym spent.1) (record { first = inl nothing; later = sinks.1.later })

-- ---- it asks for no other file

quiet_step : (f : Option WorldFault) (line : ℕ) (lines : List ℕ) (next : Script) → ((acts : List Act) (end : End) → RunsScript next acts end → IsFalse (list_any is_fetch acts))
    → (acts : List Act) (end : End) → RunsScript (prints_or_ends f line lines next) acts end → IsFalse (list_any is_fetch acts)
unfolding RunsScript
quiet_step (Some fault) line lines next quiet acts end runs =
    fetches_none (λ text. text ≡ (fault_answer line fault).text) (fault_answer line fault).status acts end runs
quiet_step None line lines next quiet acts end (inl p) =
    subst (λ (ys : List Act). IsFalse (list_any is_fetch ys)) (sym p.acts_are) (no_fetch_behind p.text p.rest (quiet p.rest end p.follows))
quiet_step None line lines next quiet acts end (inr (inl p)) = subst (λ (ys : List Act). IsFalse (list_any is_fetch ys)) (sym p.acts_are) refl
quiet_step None line lines next quiet acts end (inr (inr p)) = subst (λ (ys : List Act). IsFalse (list_any is_fetch ys)) (sym p.0) refl

quiet_steps : (plan : DrillPlan) (done : List Step) (steps : List Numbered) (acts : List Act) (end : End) → RunsScript (drills_steps plan done steps) acts end
    → IsFalse (list_any is_fetch acts)
unfolding drills_steps
quiet_steps plan done [] acts end runs = fetches_none (λ text. text ≡ last_lines plan done) 0 acts end runs
quiet_steps plan done (x ∷ rest) acts end runs =
    quiet_step (fault_behind plan done x.step) x.line (step_lines plan done x.step) (drills_steps plan (done ++ x.step ∷ []) rest)
    (λ more_acts more_end more. quiet_steps plan (done ++ x.step ∷ []) rest more_acts more_end more) acts end runs

quiet_read : (read : Result Scenario TextFault) (acts : List Act) (end : End) → RunsScript (drills_read read) acts end → IsFalse (list_any is_fetch acts)
unfolding RunsScript
quiet_read (Ok s) acts end (inl p) = quiet_steps (plan_of s) [] s.steps acts end p.1
quiet_read (Ok s) acts end (inr p) = subst (λ (ys : List Act). IsFalse (list_any is_fetch ys)) (sym p.0) refl
quiet_read (Err (text.At line why)) acts end runs = fetches_none (λ text. text ≡ fault_line line (why_word why)) 3 acts end runs
quiet_read (Err (text.NoMemory want)) acts end (inl p) = absurd p.0
quiet_read (Err (text.NoMemory want)) acts end (inr p) = subst (λ (ys : List Act). IsFalse (list_any is_fetch ys)) (sym p.0) refl

-- ---- the whole script

abbrev drills_file : List ℕ → Script
drills_file file = drills_read (scenario_of file)

quiet_file : (file : List ℕ) (acts : List Act) (end : End) → RunsScript (drills_file file) acts end → IsFalse (list_any is_fetch acts)
quiet_file file acts end runs = quiet_read (scenario_of file) acts end runs

-- nothing was written where memory ran out
spent_drilling : (name : List ℕ) (r : Result Status Stop) (files : Files) (c d : ℕ) (a b : Option (List ℕ)) (f g : ℕ) → end_of_run r ≡ OutOfMemory → Grew a b [] → f ≤ g
    → EndsCommand (Drill name) files c d a b f g r
spent_drilling name r files c d a b f g is nothing later =
    let spent : (want : Want) × (r ≡ Err (stop.NoMemory want)) = is_spent r is in
    subst (λ (x : Result Status Stop). EndsCommand (Drill name) files c d a b f g x) (sym spent.1) (record { text = []; first = inl refl; printed = nothing; later = later })

pub drill_ends : TextGrows → (name : List ℕ) (before now : Told) (r : Result Status Stop) (acts : List Act) → Did before now acts → RunsScript (drills name) acts (end_of_run r)
    → EndsCommand (Drill name) now.cabinet.files before.cabinet.faults now.cabinet.faults before.sink.held now.sink.held before.sink.faults now.sink.faults r
drill_ends grows name before now r acts did runs =
    file_ends name drills_file (EndsCommand (Drill name)) before now r
    (λ file files c d a b f g rest has run sinks. ends_file name file files c d a b f g r has (gives_read grows (scenario_of file) a b f g rest r run sinks))
    (λ files c d a b f g ends. ends_unfetched name files c d a b f g r ends)
    (spent_drilling name r) acts did runs

pub drill_asks : (name : List ℕ) (before now : Told) (r : Result Status Stop) (acts : List Act) → Did before now acts → RunsScript (drills name) acts (end_of_run r)
    → IfOk r (λ s. Grew before.cabinet.asked now.cabinet.asked (name ∷ []))
drill_asks name before now r acts did runs = file_asks name drills_file quiet_file before now r acts did runs

pub drill_asks_part : (name : List ℕ) (before now : Told) (end : End) (acts : List Act) → Did before now acts → RunsScript (drills name) acts end
    → GrewPart before.cabinet.asked now.cabinet.asked (name ∷ [])
drill_asks_part name before now end acts did runs = file_asks_part name drills_file quiet_file before now end acts did runs
