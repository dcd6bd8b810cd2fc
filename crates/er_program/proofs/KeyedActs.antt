-- What the script of a command over a key file and another file did: how the run ended, and which names were asked for.
use Rattle.std.proofs.Common.{◌≡◌, ◌≤◌, ◌⊎◌, ℕ, inl, inr, Bool, true, false, ◌||◌, List, [], ◌∷◌, ◌++◌, Option, Result, Ok, Err, IfOk, IsFalse, refl, sym, ap, subst, ◌∙◌, arith, true≢false}
use Rattle.std.specs.List.{list_any}
use Rattle.er_base.specs.declared.no_memory.NoMemory.{NoMemory as Want}
use Rattle.key_store.specs.declared.key_file_fault.KeyFileFault.{KeyFileFault}
use Rattle.key_store.specs.declared.key_file_fault.KeyFileFault.TheVariants as keys
use Rattle.key_store.specs.KeyFiles.{keys_of}
use Rattle.safety_automaton.specs.Keys.{KmacEntry}
use Rattle.link_trait.specs.Outside.{Grew, GrewPart, HasFile}
use Rattle.link_trait.specs.Growth.{part_more}
use Rattle.outside.specs.Acts.{Gave, Failed, Spent, Act, Fetched, Wrote, Called, Asked, Drew, is_fetch}
use Rattle.outside.specs.Ties.{IsLeft, GrewBy, AreFiled, AsksFor, PutsInSink}
use Rattle.outside.specs.Doings.{Told, Did}
use Rattle.outside.specs.Scripts.{End, OutOfMemory, Script, IsFetchThen, RunsScript, says_last}
use Rattle.outside.specs.SinkTexts.{nothing_left_by, fetches_none, name_noted_by}
use Rattle.er_statuses.specs.Answers.{Answer, Files, keys_answer}
use Rattle.er_statuses.specs.Fetching.{ends_unfetched}
use Rattle.er_statuses.specs.FileScripts.{fetches_file, behind_keys}
use Rattle.er_statuses.specs.KeyLines.{keys_line}
use Rattle.er_statuses.specs.LastLines.{fetch_line}
use Rattle.er_statuses.specs.ScriptEnds.{end_of_run}
use Rattle.er_statuses.specs.declared.status.Status.{Status}
use Rattle.er_statuses.specs.declared.stop.Stop.{Stop}
use Rattle.er_statuses.specs.declared.stop.Stop.TheVariants as stop
use Rattle.er_program.specs.Answers.{IsSecondFileAnswer, IsAnswerBehindKeys}
use Rattle.er_program.specs.Asking.{AskedNames, AsksLast, Asks}
use Rattle.er_program.specs.CommandViews.{command_of_work}
use Rattle.er_program.specs.KeyedScripts.{does_work, works_behind_keys}
use Rattle.er_program.specs.KeyedWriting.{IsOfWork, BeginsOfWork, BeginsSecondFile, BeginsBehindKeys}
use Rattle.er_program.specs.ReplayWriting.{EndsOne}
use Rattle.er_program.specs.Writing.{EndsCommand}
use Rattle.er_program.specs.declared.work.Work.{Work}
use Rattle.er_program.proofs.Askings.{asks_read, asks_lost, asks_of, asks_words_lost}
use Rattle.er_program.proofs.FileActs.{Leaves, leaves_of, leaves_behind, fetch_ends, gives_answer, gives_said, is_spent, is_with, if_ok, not_ok}
use Rattle.er_program.proofs.Got.{quiet}
use Rattle.er_program.proofs.KeyedRuns.{ends_fetched, ends_lost, ends_good, ends_keyless, ends_words, ends_words_lost}
use Rattle.er_program.proofs.WorkActs.{work_ends, work_is_quiet}

-- ---- names

no_name : (act : Act) (names : List (List ℕ)) → IsFalse (is_fetch act) → AsksFor act names → names ≡ []
no_name (Fetched name answer) names h asks = absurd (true≢false h)
no_name (Wrote piece done) names h asks = asks
no_name (Called call) names h asks = asks
no_name (Asked moment) names h asks = asks
no_name (Drew word) names h asks = asks

first_of : (a b : Bool) → (a || b) ≡ false → IsFalse a
first_of true b h = h
first_of false b h = refl

second_of : (a b : Bool) → (a || b) ≡ false → IsFalse b
second_of true b h = absurd (true≢false h)
second_of false b h = h

-- acts without a fetch ask for none
no_names : (acts : List Act) (all : List (List ℕ)) → IsFalse (list_any is_fetch acts) → IsLeft AsksFor acts all → all ≡ []
unfolding IsLeft
no_names [] all h left = left
no_names (act ∷ acts) all h left =
    left.4
    ∙ ap (λ (first : List (List ℕ)). first ++ left.1) (no_name act left.0 (first_of (is_fetch act) (list_any is_fetch acts) h) left.2)
    ∙ no_names acts left.1 (second_of (is_fetch act) (list_any is_fetch acts) h) left.3

-- nothing was written where memory ran out
spent_one : (Is : Answer → Type 0) (IsBegun : List ℕ → Type 0) (a b : Option (List ℕ)) (f g : ℕ) (r : Result Status Stop) → IsBegun [] → end_of_run r ≡ OutOfMemory → Grew a b [] → f ≤ g
    → EndsOne Is IsBegun a b f g r
spent_one Is IsBegun a b f g r none is nothing later =
    let spent : (want : Want) × (r ≡ Err (stop.NoMemory want)) = is_spent r is in
    subst (λ (x : Result Status Stop). EndsOne Is IsBegun a b f g x) (sym spent.1) (record { text = []; begun = none; written = nothing; later = later })

-- ---- the file behind the key file

module _ (w : Work) (known : List KmacEntry) (name : List ℕ) (r : Result Status Stop) (files : Files) (c d : ℕ) (a b : Option (List ℕ)) (f g : ℕ) where
  abbrev Second : Type 0
  Second =
      EndsOne (IsSecondFileAnswer (IsOfWork w) known name files c d) (BeginsSecondFile (BeginsOfWork w) known name files) a b f g r × IfOk r (λ s. AsksLast name s.0 a b)

  -- how the run ended, and what its status says of the name
  second_ends : (acts : List Act) → Leaves files c d a b f g acts → RunsScript (fetches_file name (does_work w known)) acts (end_of_run r) → Second
  second_ends acts left runs =
      fetch_ends name (does_work w known) Second r files c d a b f g
      (λ file rest has run more. let ends : EndsOne (IsOfWork w known file) (BeginsOfWork w known file) a b f g r = work_ends w known file a b f g rest r run more.sinks in (
        ends_fetched (IsOfWork w) (BeginsOfWork w) known name file files c d a b f g r has ends,
        asks_read w known file (BeginsOfWork w known file) name a b f g r ends,
      ))
      (λ ends. (ends_lost (IsOfWork w) (BeginsOfWork w) known name files c d a b f g r ends, asks_lost name c d a b f g r ends))
      (λ is nothing later. (
        spent_one (IsSecondFileAnswer (IsOfWork w) known name files c d) (BeginsSecondFile (BeginsOfWork w) known name files) a b f g r (inl refl) is nothing later,
        not_ok (λ s. AsksLast name s.0 a b) r is,
      ))
      acts left runs

-- the name was asked for, or memory had run out before that
second_names : (w : Work) (known : List KmacEntry) (name : List ℕ) (acts : List Act) (end : End) (names : List (List ℕ))
    → RunsScript (fetches_file name (does_work w known)) acts end → IsLeft AsksFor acts names → (names ≡ name ∷ []) ⊎ ((names ≡ []) × (end ≡ OutOfMemory))
unfolding RunsScript IsFetchThen IsLeft
second_names w known name [] end names runs left = inr (left, runs)
second_names w known name (Fetched asked (Gave file) ∷ rest) end names runs left =
    inl (left.4
    ∙ ap (λ (more : List (List ℕ)). left.0 ++ more) (no_names rest left.1 (quiet (does_work w known file) rest end (work_is_quiet w known file) runs.1) left.3)
    ∙ ap (λ (first : List (List ℕ)). first ++ []) left.2 ∙ ap (λ (n : List ℕ). n ∷ []) runs.0)
second_names w known name (Fetched asked Failed ∷ rest) end names runs left =
    inl (left.4
    ∙ ap (λ (more : List (List ℕ)). left.0 ++ more) (no_names rest left.1 (fetches_none (λ line. line ≡ fetch_line name) 2 rest end runs.1) left.3)
    ∙ ap (λ (first : List (List ℕ)). first ++ []) left.2 ∙ ap (λ (n : List ℕ). n ∷ []) runs.0)
second_names w known name (Fetched asked Spent ∷ rest) end names runs left =
    let none : left.1 ≡ [] = subst (λ (acts : List Act). IsLeft AsksFor acts left.1) runs.1 left.3 in
    let all : names ≡ left.0 ++ [] = left.4 ∙ ap (λ (more : List (List ℕ)). left.0 ++ more) none in
    elim left.2 [
      | inl noted ↦ inl (all ∙ ap (λ (first : List (List ℕ)). first ++ []) noted ∙ ap (λ (n : List ℕ). n ∷ []) runs.0)
      | inr unnoted ↦ inr (all ∙ ap (λ (first : List (List ℕ)). first ++ []) unnoted, runs.2)
    ]
second_names w known name (Wrote piece done ∷ rest) end names runs left = absurd runs
second_names w known name (Called call ∷ rest) end names runs left = absurd runs
second_names w known name (Asked moment ∷ rest) end names runs left = absurd runs
second_names w known name (Drew word ∷ rest) end names runs left = absurd runs

-- ---- behind the key file

abbrev behind : Work → (name : List ℕ) → Result (List KmacEntry) KeyFileFault → Script
behind w name read = behind_keys read (λ entries. fetches_file name (does_work w entries))

-- which names were asked for: the key file alone, and it is refused; or both
abbrev AsksOn : (name : List ℕ) → (names : List (List ℕ)) → (a b : Option (List ℕ)) → Result Status Stop → Type 0
AsksOn name names a b r = IfOk r (λ s. ((names ≡ []) × (s.0 ≡ 4)) ⊎ ((names ≡ name ∷ []) × AsksLast name s.0 a b))

asks_second : (name : List ℕ) (names : List (List ℕ)) (a b : Option (List ℕ)) (r : Result Status Stop) → (names ≡ name ∷ []) ⊎ ((names ≡ []) × (end_of_run r ≡ OutOfMemory))
    → IfOk r (λ s. AsksLast name s.0 a b) → AsksOn name names a b r
asks_second name names a b (Ok s) (inl both) last = inr (both, last)
asks_second name names a b (Ok s) (inr none) last = absurd (let e = none.1 in cc)
asks_second name names a b (Err why) asked last = tt

-- a key file that is refused has its line printed alone
refused_status : (text : List ℕ) (acts : List Act) (r : Result Status Stop) → RunsScript (says_last 4 text) acts (end_of_run r) → IfOk r (λ s. s.0 ≡ 4)
unfolding RunsScript
refused_status text acts r (inl p) = let ended = is_with r 4 p.follows.1 in subst (λ (x : Result Status Stop). IfOk x (λ s. s.0 ≡ 4)) (sym ended.1) ended.2
refused_status text acts (Ok s) (inr (inl p)) = absurd (let e = p.sunk in cc)
refused_status text acts (Err why) (inr (inl p)) = tt
refused_status text acts (Ok s) (inr (inr p)) = absurd (let e = p.1 in cc)
refused_status text acts (Err why) (inr (inr p)) = tt

asks_first : (name : List ℕ) (names : List (List ℕ)) (a b : Option (List ℕ)) (r : Result Status Stop) → names ≡ [] → IfOk r (λ s. s.0 ≡ 4) → AsksOn name names a b r
asks_first name names a b (Ok s) none four = inl (none, four)
asks_first name names a b (Err why) none four = tt

module _ (w : Work) (name : List ℕ) (r : Result Status Stop) (files : Files) (c d : ℕ) (a b : Option (List ℕ)) (f g : ℕ) (acts : List Act) (names : List (List ℕ))
    (left : Leaves files c d a b f g acts) (asked : IsLeft AsksFor acts names) where
  abbrev EndsBehind : Result (List KmacEntry) KeyFileFault → Type 0
  EndsBehind read = EndsOne (IsAnswerBehindKeys (IsOfWork w) read name files c d) (BeginsBehindKeys (BeginsOfWork w) read name files) a b f g r

  abbrev Behind : Result (List KmacEntry) KeyFileFault → Type 0
  Behind read = EndsBehind read × AsksOn name names a b r × ((names ≡ []) ⊎ (names ≡ name ∷ []))

  -- it is refused, for this fault
  keyless : (fault : KeyFileFault) → keys_answer fault ≡ record { status = 4; text = keys_line fault } → RunsScript (says_last 4 (keys_line fault)) acts (end_of_run r)
      → Behind (Err fault)
  keyless fault is runs =
      let none : names ≡ [] = no_names acts names (fetches_none (λ line. line ≡ keys_line fault) 4 acts (end_of_run r) runs) asked in
      let answer : Answer = record { status = 4; text = keys_line fault } in
      let gives = gives_answer answer a b f g r (gives_said answer a b f g acts r runs left.sinks) in (
        ends_keyless (IsOfWork w) (BeginsOfWork w) name files c d a b f g r fault (rw is gives),
        asks_first name names a b r none (refused_status (keys_line fault) acts r runs),
        inl none,
      )

  behind_ends : (read : Result (List KmacEntry) KeyFileFault) → RunsScript (behind w name read) acts (end_of_run r) → Behind read
  unfolding RunsScript IsLeft
  behind_ends (Ok known) runs =
      let ends = second_ends w known name r files c d a b f g acts left runs in
      let both = second_names w known name acts (end_of_run r) names runs asked in (
        ends_good (IsOfWork w) (BeginsOfWork w) name files c d a b f g r (Ok known) known refl ends.0,
        asks_second name names a b r both ends.1,
        elim both [ inl is ↦ inr is | inr is ↦ inl is.0 ],
      )
  behind_ends (Err keys.Document) runs = keyless keys.Document refl runs
  behind_ends (Err (keys.Field entry field)) runs = keyless (keys.Field entry field) refl runs
  behind_ends (Err (keys.Hex entry)) runs = keyless (keys.Hex entry) refl runs
  behind_ends (Err (keys.Number entry)) runs = keyless (keys.Number entry) refl runs
  behind_ends (Err (keys.Range entry)) runs = keyless (keys.Range entry) refl runs
  behind_ends (Err (keys.Twice first second)) runs = keyless (keys.Twice first second) refl runs
  behind_ends (Err (keys.Version n)) runs = keyless (keys.Version n) refl runs
  behind_ends (Err (keys.NoMemory want)) (inl p) = absurd p.0
  behind_ends (Err (keys.NoMemory want)) (inr p) =
      let none : names ≡ [] = subst (λ (xs : List Act). IsLeft AsksFor xs names) p.0 asked in (
        spent_one (IsAnswerBehindKeys (IsOfWork w) (Err (keys.NoMemory want)) name files c d) (BeginsBehindKeys (BeginsOfWork w) (Err (keys.NoMemory want)) name files) a b f g r
            (inl refl) p.1 (nothing_left_by a b (subst (λ (xs : List Act). GrewBy PutsInSink a b xs) p.0 left.sinks.0)) left.sinks.1.later,
        not_ok (λ s. ((names ≡ []) × (s.0 ≡ 4)) ⊎ ((names ≡ name ∷ []) × AsksLast name s.0 a b)) r p.1,
        inl none,
      )

-- ---- the words

-- which names were asked for
words_asked : (w : Work) (keys_name name : List ℕ) (names : List (List ℕ)) (asked asked_now : AskedNames) (a b : Option (List ℕ)) (r : Result Status Stop)
    → Grew asked asked_now (keys_name ∷ names) → AsksOn name names a b r → IfOk r (λ s. Asks (command_of_work w keys_name name) s.0 asked asked_now a b)
words_asked w keys_name name names asked asked_now a b (Err why) grew on = tt
words_asked w keys_name name names asked asked_now a b (Ok s) grew (inl alone) =
    asks_of w keys_name name s.0 asked asked_now a b (inl (record {
      asked_for = subst (λ (more : List (List ℕ)). Grew asked asked_now (keys_name ∷ more)) alone.0 grew;
      ends = inr alone.1;
      written = λ h. absurd (omega (arith, h, alone.1));
    }))
words_asked w keys_name name names asked asked_now a b (Ok s) grew (inr both) =
    asks_of w keys_name name s.0 asked asked_now a b (inr (record {
      asked_for = subst (λ (more : List (List ℕ)). Grew asked asked_now (keys_name ∷ more)) both.0 grew;
      last = both.1;
    }))

words_part : (keys_name name : List ℕ) (names : List (List ℕ)) (asked asked_now : AskedNames) → Grew asked asked_now (keys_name ∷ names) → (names ≡ []) ⊎ (names ≡ name ∷ [])
    → GrewPart asked asked_now (keys_name ∷ name ∷ [])
words_part keys_name name names asked asked_now grew (inl none) =
    record { part = keys_name ∷ []; rest = name ∷ []; is = refl; grew = subst (λ (more : List (List ℕ)). Grew asked asked_now (keys_name ∷ more)) none grew }
words_part keys_name name names asked asked_now grew (inr both) =
    record { part = keys_name ∷ name ∷ []; rest = []; is = refl; grew = subst (λ (more : List (List ℕ)). Grew asked asked_now (keys_name ∷ more)) both grew }

module _ (w : Work) (keys_name name : List ℕ) (before now : Told) (r : Result Status Stop) where
  abbrev files : Files
  files = now.cabinet.files

  abbrev c : ℕ
  c = before.cabinet.faults

  abbrev d : ℕ
  d = now.cabinet.faults

  abbrev a : Option (List ℕ)
  a = before.sink.held

  abbrev b : Option (List ℕ)
  b = now.sink.held

  abbrev f : ℕ
  f = before.sink.faults

  abbrev g : ℕ
  g = now.sink.faults

  abbrev Words : Type 0
  Words =
      EndsCommand (command_of_work w keys_name name) files c d a b f g r
      × IfOk r (λ s. Asks (command_of_work w keys_name name) s.0 before.cabinet.asked now.cabinet.asked a b)
      × GrewPart before.cabinet.asked now.cabinet.asked (keys_name ∷ name ∷ [])

  -- memory ran out before the key file was there
  words_spent : GrewPart before.cabinet.asked now.cabinet.asked (keys_name ∷ name ∷ []) → end_of_run r ≡ OutOfMemory → Grew a b [] → f ≤ g → Words
  words_spent part is nothing later =
      let spent : (want : Want) × (r ≡ Err (stop.NoMemory want)) = is_spent r is in
      let ends : EndsCommand (command_of_work w keys_name name) files c d a b f g (Err (stop.NoMemory spent.0)) =
      ends_words_lost w keys_name name files c d a b f g (Err (stop.NoMemory spent.0)) (nothing, later) in (
        subst (λ (x : Result Status Stop). EndsCommand (command_of_work w keys_name name) files c d a b f g x) (sym spent.1) ends,
        not_ok (λ s. Asks (command_of_work w keys_name name) s.0 before.cabinet.asked now.cabinet.asked a b) r is,
        part,
      )

  pub words : (acts : List Act) → Did before now acts → RunsScript (works_behind_keys w keys_name name) acts (end_of_run r) → Words
  unfolding RunsScript IsFetchThen IsLeft AreFiled
  words [] did runs =
      words_spent (record { part = []; rest = keys_name ∷ name ∷ []; is = refl; grew = nothing_left_by before.cabinet.asked now.cabinet.asked did.cabinet.asked }) runs
      (nothing_left_by a b did.sink.held) did.sink.faults.later
  words (Fetched asked (Gave file) ∷ rest) did runs =
      let left : IsLeft AsksFor (Fetched asked (Gave file) ∷ rest) did.cabinet.asked.more = did.cabinet.asked.left in
      let grew : Grew before.cabinet.asked now.cabinet.asked (keys_name ∷ left.1) =
      subst (λ (names : List (List ℕ)). Grew before.cabinet.asked now.cabinet.asked names)
      (left.4 ∙ ap (λ (first : List (List ℕ)). first ++ left.1) left.2 ∙ ap (λ (n : List ℕ). n ∷ left.1) runs.0) did.cabinet.asked.grew in
      let more : Leaves files c d a b f g rest = leaves_behind files c d a b f g asked (Gave file) rest (leaves_of before now (Fetched asked (Gave file) ∷ rest) did) in
      let on = behind_ends w name r files c d a b f g rest left.1 more left.3 (keys_of file) runs.1 in (
        ends_words w keys_name name file files c c d a b f g r (omega arith) (subst (λ (n : List ℕ). HasFile files n file) runs.0 did.cabinet.filed.0) on.0,
        words_asked w keys_name name left.1 before.cabinet.asked now.cabinet.asked a b r grew on.1,
        words_part keys_name name left.1 before.cabinet.asked now.cabinet.asked grew on.2,
      )
  words (Fetched asked Failed ∷ rest) did runs =
      let left : IsLeft AsksFor (Fetched asked Failed ∷ rest) did.cabinet.asked.more = did.cabinet.asked.left in
      let none : left.1 ≡ [] = no_names rest left.1 (fetches_none (λ line. line ≡ fetch_line keys_name) 2 rest (end_of_run r) runs.1) left.3 in
      let grew : Grew before.cabinet.asked now.cabinet.asked (keys_name ∷ []) =
      subst (λ (names : List (List ℕ)). Grew before.cabinet.asked now.cabinet.asked names)
      (left.4 ∙ ap (λ (first : List (List ℕ)). first ++ left.1) left.2 ∙ ap (λ (more : List (List ℕ)). asked ∷ more) none ∙ ap (λ (n : List ℕ). n ∷ []) runs.0) did.cabinet.asked.grew in
      let more : Leaves files c d a b f g rest = leaves_behind files c d a b f g asked Failed rest (leaves_of before now (Fetched asked Failed ∷ rest) did) in
      let answer : Answer = record { status = 2; text = fetch_line keys_name } in
      let ends = ends_unfetched keys_name c d a b f g r (did.cabinet.faults.rose refl) (gives_answer answer a b f g r (gives_said answer a b f g rest r runs.1 more.sinks)) in (
        ends_words_lost w keys_name name files c d a b f g r ends,
        asks_words_lost w keys_name name before.cabinet.asked now.cabinet.asked c d a b f g r (if_ok r grew) ends,
        words_part keys_name name [] before.cabinet.asked now.cabinet.asked grew (inl refl),
      )
  words (Fetched asked Spent ∷ rest) did runs =
      let behind_it : Leaves files c d a b f g rest = leaves_behind files c d a b f g asked Spent rest (leaves_of before now (Fetched asked Spent ∷ rest) did) in
      let noted : GrewPart before.cabinet.asked now.cabinet.asked (keys_name ∷ []) =
      subst (λ (n : List ℕ). GrewPart before.cabinet.asked now.cabinet.asked (n ∷ [])) runs.0
      (name_noted_by before.cabinet.asked now.cabinet.asked asked
      (subst (λ (xs : List Act). GrewBy AsksFor before.cabinet.asked now.cabinet.asked (Fetched asked Spent ∷ xs)) runs.1 did.cabinet.asked)) in
      words_spent (part_more before.cabinet.asked now.cabinet.asked (keys_name ∷ []) (name ∷ []) noted) runs.2
      (nothing_left_by a b (subst (λ (xs : List Act). GrewBy PutsInSink a b xs) runs.1 behind_it.sinks.0)) did.sink.faults.later
  words (Wrote piece done ∷ rest) did runs = absurd runs
  words (Called call ∷ rest) did runs = absurd runs
  words (Asked moment ∷ rest) did runs = absurd runs
  words (Drew word ∷ rest) did runs = absurd runs
