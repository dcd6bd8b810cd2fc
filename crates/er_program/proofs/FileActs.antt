-- What the script of a command over one file did: by the acts, how the run ended, what the sink got, and which name was asked for.
use Rattle.std.proofs.Common.{◌≡◌, ◌≤◌, ℕ, inl, inr, false, List, [], ◌∷◌, ◌++◌, Option, Result, Ok, Err, IfOk, IsFalse, refl, sym, ap, subst, ◌∙◌}
use Rattle.std.specs.List.{list_any}
use Rattle.link_trait.specs.Outside.{Grew, GrewPart, HasFile}
use Rattle.link_trait.specs.Growth.{part_whole}
use Rattle.er_base.specs.declared.no_memory.NoMemory.{NoMemory}
use Rattle.outside.specs.Acts.{Fetch, Gave, Failed, Spent, Act, Fetched, Wrote, Called, Asked, Drew, is_fetch, is_cabinet_fault, is_sink_fault}
use Rattle.outside.specs.Ties.{GrewBy, Counts, AsksFor, AreFiled, PutsInSink}
use Rattle.outside.specs.Doings.{Told, Did}
use Rattle.outside.specs.Scripts.{End, With, Sunk, OutOfMemory, Script, Ends, Prints, IsFetchThen, printing, RunsScript}
use Rattle.outside.specs.SinkTexts.{nothing_left_by, text_printed_by, text_begun_by, behind_fetched, name_asked_by, name_noted_by, fetches_none}
use Rattle.er_statuses.specs.Answers.{Answer, Files}
use Rattle.er_statuses.specs.LastLines.{fetch_line}
use Rattle.er_statuses.specs.FileScripts.{answers, fetches_file}
use Rattle.er_statuses.specs.ScriptEnds.{end_of_run}
use Rattle.er_statuses.specs.Writing.{GivesAnswer, EndsUnfetched}
use Rattle.er_statuses.specs.Fetching.{ends_unfetched}
use Rattle.er_statuses.specs.declared.status.Status.{Status}
use Rattle.er_statuses.specs.declared.stop.Stop.{Stop}
use Rattle.er_statuses.specs.declared.stop.Stop.TheVariants as stop
use Rattle.er_program.specs.KeyWriting.{GivesOne}

-- ---- how a run ended

pub is_with : (r : Result Status Stop) (status : ℕ) → end_of_run r ≡ With status → (s : Status) × (r ≡ Ok s) × (s.0 ≡ status)
is_with (Ok s) status e = (s, refl, ap status_in e)
  where
    status_in : End → ℕ
    status_in (With n) = n
    status_in Sunk = 0
    status_in OutOfMemory = 0
is_with (Err stop.Sink) status e = absurd cc
is_with (Err (stop.NoMemory want)) status e = absurd cc

pub is_sunk : (r : Result Status Stop) → end_of_run r ≡ Sunk → r ≡ Err stop.Sink
is_sunk (Ok s) e = absurd cc
is_sunk (Err stop.Sink) e = refl
is_sunk (Err (stop.NoMemory want)) e = absurd cc

pub is_spent : (r : Result Status Stop) → end_of_run r ≡ OutOfMemory → (want : NoMemory) × (r ≡ Err (stop.NoMemory want))
is_spent (Ok s) e = absurd cc
is_spent (Err stop.Sink) e = absurd cc
is_spent (Err (stop.NoMemory want)) e = (want, refl)

-- ---- one text and a status

-- behind these acts the sink holds this
abbrev pub Sinks : (a b : Option (List ℕ)) → (f g : ℕ) → List Act → Type 0
Sinks a b f g acts = GrewBy PutsInSink a b acts × Counts is_sink_fault f g acts

-- a text of this kind, which makes an answer of that kind
pub gives_print : (Is : List ℕ → Type 0) (status : ℕ) (Of : Answer → Type 0) (a b : Option (List ℕ)) (f g : ℕ) (acts : List Act) (r : Result Status Stop)
    → ((text : List ℕ) → Is text → Of (record { status = status; text = text }))
    → RunsScript (Prints Is (Ends status)) acts (end_of_run r) → Sinks a b f g acts → GivesOne Of a b f g r
unfolding RunsScript
gives_print Is status Of a b f g acts r so (inl p) sinks =
    let ended : (s : Status) × (r ≡ Ok s) × (s.0 ≡ status) = is_with r status p.follows.1 in
    let whole : GrewBy PutsInSink a b (printing p.text ++ []) = subst (λ (xs : List Act). GrewBy PutsInSink a b xs) (p.acts_are ∙ ap (λ (rest : List Act). printing p.text ++ rest) p.follows.0) sinks.0 in
    subst (λ (x : Result Status Stop). GivesOne Of a b f g x) (sym ended.1)
    (record { answer = record { status = status; text = p.text }; is = so p.text p.is; stated = ended.2; printed = text_printed_by a b p.text whole; later = sinks.1.later })
gives_print Is status Of a b f g acts r so (inr (inl p)) sinks =
    let part : GrewBy PutsInSink a b (Wrote p.text false ∷ []) = subst (λ (xs : List Act). GrewBy PutsInSink a b xs) p.acts_are sinks.0 in
    let counts : Counts is_sink_fault f g (Wrote p.text false ∷ []) = subst (λ (xs : List Act). Counts is_sink_fault f g xs) p.acts_are sinks.1 in
    subst (λ (x : Result Status Stop). GivesOne Of a b f g x) (sym (is_sunk r p.sunk))
    (record { answer = record { status = status; text = p.text }; is = so p.text p.is; part = text_begun_by a b p.text part; rose = counts.rose refl })
gives_print Is status Of a b f g acts r so (inr (inr p)) sinks =
    let spent : (want : NoMemory) × (r ≡ Err (stop.NoMemory want)) = is_spent r p.1 in
    subst (λ (x : Result Status Stop). GivesOne Of a b f g x) (sym spent.1) (nothing_left_by a b (subst (λ (xs : List Act). GrewBy PutsInSink a b xs) p.0 sinks.0), sinks.1.later)

-- one answer alone
pub gives_answer : (answer : Answer) (a b : Option (List ℕ)) (f g : ℕ) (r : Result Status Stop) → GivesOne (λ x. x ≡ answer) a b f g r → GivesAnswer answer a b f g r
gives_answer answer a b f g (Ok s) p =
    (p.stated ∙ ap (λ (x : Answer). x.status) p.is, subst (λ (x : Answer). Grew a b x.text) p.is p.printed, p.later)
gives_answer answer a b f g (Err stop.Sink) p = (subst (λ (x : Answer). GrewPart a b x.text) p.is p.part, p.rose)
gives_answer answer a b f g (Err (stop.NoMemory want)) p = p

-- the script of an answer
pub gives_said : (answer : Answer) (a b : Option (List ℕ)) (f g : ℕ) (acts : List Act) (r : Result Status Stop)
    → RunsScript (answers answer) acts (end_of_run r) → Sinks a b f g acts → GivesOne (λ x. x ≡ answer) a b f g r
gives_said answer a b f g acts r runs sinks =
    gives_print (λ line. line ≡ answer.text) answer.status (λ x. x ≡ answer) a b f g acts r
    (λ text is. ap (λ (line : List ℕ). let x : Answer = record { status = answer.status; text = line } in x) is) runs sinks

-- ---- a fetch, and what follows

-- a fetch fails no write
behind_fetch_counts : (f g : ℕ) (name : List ℕ) (answer : Fetch) (acts : List Act) → Counts is_sink_fault f g (Fetched name answer ∷ acts) → Counts is_sink_fault f g acts
behind_fetch_counts f g name answer acts p = record { later = p.later; rose = λ h. p.rose h }

sinks_behind : (a b : Option (List ℕ)) (f g : ℕ) (name : List ℕ) (answer : Fetch) (acts : List Act) → GrewBy PutsInSink a b (Fetched name answer ∷ acts)
    → Counts is_sink_fault f g (Fetched name answer ∷ acts) → Sinks a b f g acts
sinks_behind a b f g name answer acts held faults = (behind_fetched a b name answer acts held, behind_fetch_counts f g name answer acts faults)

pub if_ok : {A : Type 0} (r : Result Status Stop) → A → IfOk r (λ s. A)
if_ok (Ok s) a = a
if_ok (Err stop) a = tt

pub not_ok : (P : Status → Type 0) (r : Result Status Stop) → end_of_run r ≡ OutOfMemory → IfOk r P
not_ok P (Ok s) e = absurd cc
not_ok P (Err stop) e = tt

-- ---- what acts left in the cabinet and in the sink

-- the files that were fetched, how often a fetch failed, and what the sink got
pub record Leaves (files : Files) (c d : ℕ) (a b : Option (List ℕ)) (f g : ℕ) (acts : List Act) : Type 0 where
  pub filed : AreFiled files acts
  pub unfetched : Counts is_cabinet_fault c d acts
  pub sinks : Sinks a b f g acts

pub leaves_of : (before now : Told) (acts : List Act) → Did before now acts
    → Leaves now.cabinet.files before.cabinet.faults now.cabinet.faults before.sink.held now.sink.held before.sink.faults now.sink.faults acts
leaves_of before now acts did = record { filed = did.cabinet.filed; unfetched = did.cabinet.faults; sinks = (did.sink.held, did.sink.faults) }

-- behind a fetch
filed_behind : (files : Files) (name : List ℕ) (answer : Fetch) (acts : List Act) → AreFiled files (Fetched name answer ∷ acts) → AreFiled files acts
unfolding AreFiled
filed_behind files name (Gave file) acts p = p.1
filed_behind files name Failed acts p = p
filed_behind files name Spent acts p = p

unfetched_behind : (c d : ℕ) (name : List ℕ) (answer : Fetch) (acts : List Act) → Counts is_cabinet_fault c d (Fetched name answer ∷ acts) → Counts is_cabinet_fault c d acts
unfetched_behind c d name (Gave file) acts p = record { later = p.later; rose = λ h. p.rose h }
unfetched_behind c d name Failed acts p = record { later = p.later; rose = λ h. p.rose refl }
unfetched_behind c d name Spent acts p = record { later = p.later; rose = λ h. p.rose h }

pub leaves_behind : (files : Files) (c d : ℕ) (a b : Option (List ℕ)) (f g : ℕ) (name : List ℕ) (answer : Fetch) (acts : List Act)
    → Leaves files c d a b f g (Fetched name answer ∷ acts) → Leaves files c d a b f g acts
leaves_behind files c d a b f g name answer acts p = record {
  filed = filed_behind files name answer acts p.filed;
  unfetched = unfetched_behind c d name answer acts p.unfetched;
  sinks = sinks_behind a b f g name answer acts p.sinks.0 p.sinks.1;
}

module _ (name : List ℕ) (behind : List ℕ → Script) where
  -- how the run ended, by how it ends behind a file, without one, and where nothing was written for want of memory
  module _ (Of : Type 0) (r : Result Status Stop) (files : Files) (c d : ℕ) (a b : Option (List ℕ)) (f g : ℕ) where
    pub fetch_ends : ((file : List ℕ) (rest : List Act) → HasFile files name file → RunsScript (behind file) rest (end_of_run r) → Leaves files c d a b f g rest → Of)
        → (EndsUnfetched name c d a b f g r → Of) → (end_of_run r ≡ OutOfMemory → Grew a b [] → f ≤ g → Of)
        → (acts : List Act) → Leaves files c d a b f g acts → RunsScript (fetches_file name behind) acts (end_of_run r) → Of
    unfolding RunsScript IsFetchThen AreFiled
    fetch_ends had none spent [] left runs = spent runs (nothing_left_by a b left.sinks.0) left.sinks.1.later
    fetch_ends had none spent (Fetched asked (Gave file) ∷ rest) left runs =
        had file rest (subst (λ (n : List ℕ). HasFile files n file) runs.0 left.filed.0) runs.1 (leaves_behind files c d a b f g asked (Gave file) rest left)
    fetch_ends had none spent (Fetched asked Failed ∷ rest) left runs =
        let behind_it : Leaves files c d a b f g rest = leaves_behind files c d a b f g asked Failed rest left in
        none (ends_unfetched name c d a b f g r (left.unfetched.rose refl)
        (gives_answer (record { status = 2; text = fetch_line name }) a b f g r
        (gives_said (record { status = 2; text = fetch_line name }) a b f g rest r runs.1 behind_it.sinks)))
    fetch_ends had none spent (Fetched asked Spent ∷ rest) left runs =
        let behind_it : Leaves files c d a b f g rest = leaves_behind files c d a b f g asked Spent rest left in
        spent runs.2 (nothing_left_by a b (subst (λ (xs : List Act). GrewBy PutsInSink a b xs) runs.1 behind_it.sinks.0)) left.sinks.1.later
    fetch_ends had none spent (Wrote piece done ∷ rest) left runs = absurd runs
    fetch_ends had none spent (Called call ∷ rest) left runs = absurd runs
    fetch_ends had none spent (Asked moment ∷ rest) left runs = absurd runs
    fetch_ends had none spent (Drew word ∷ rest) left runs = absurd runs

  -- the same of what was done to an outside
  pub file_ends : (Of : Files → (c d : ℕ) → Option (List ℕ) → Option (List ℕ) → (f g : ℕ) → Result Status Stop → Type 0) (before now : Told) (r : Result Status Stop)
      → ((file : List ℕ) (files : Files) (c d : ℕ) (a b : Option (List ℕ)) (f g : ℕ) (acts : List Act) → HasFile files name file → RunsScript (behind file) acts (end_of_run r) → Sinks a b f g acts
      → Of files c d a b f g r)
      → ((files : Files) (c d : ℕ) (a b : Option (List ℕ)) (f g : ℕ) → EndsUnfetched name c d a b f g r → Of files c d a b f g r)
      → ((files : Files) (c d : ℕ) (a b : Option (List ℕ)) (f g : ℕ) → end_of_run r ≡ OutOfMemory → Grew a b [] → f ≤ g → Of files c d a b f g r)
      → (acts : List Act) → Did before now acts → RunsScript (fetches_file name behind) acts (end_of_run r)
      → Of now.cabinet.files before.cabinet.faults now.cabinet.faults before.sink.held now.sink.held before.sink.faults now.sink.faults r
  file_ends Of before now r had none spent acts did runs =
      let files : Files = now.cabinet.files in
      let c : ℕ = before.cabinet.faults in
      let d : ℕ = now.cabinet.faults in
      let a : Option (List ℕ) = before.sink.held in
      let b : Option (List ℕ) = now.sink.held in
      let f : ℕ = before.sink.faults in
      let g : ℕ = now.sink.faults in
      fetch_ends (Of files c d a b f g r) r files c d a b f g (λ file rest has run left. had file files c d a b f g rest has run left.sinks) (none files c d a b f g)
      (spent files c d a b f g) acts (leaves_of before now acts did) runs

  -- what follows asks for no file
  module _ (quiet : (file : List ℕ) (acts : List Act) (end : End) → RunsScript (behind file) acts end → IsFalse (list_any is_fetch acts)) where
    pub file_asks : (before now : Told) (r : Result Status Stop) (acts : List Act) → Did before now acts → RunsScript (fetches_file name behind) acts (end_of_run r)
        → IfOk r (λ s. Grew before.cabinet.asked now.cabinet.asked (name ∷ []))
    unfolding RunsScript IsFetchThen
    file_asks before now r [] did runs = not_ok (λ s. Grew before.cabinet.asked now.cabinet.asked (name ∷ [])) r runs
    file_asks before now r (Fetched asked (Gave file) ∷ rest) did runs =
        if_ok r (subst (λ (n : List ℕ). Grew before.cabinet.asked now.cabinet.asked (n ∷ [])) runs.0
        (name_asked_by before.cabinet.asked now.cabinet.asked asked (Gave file) rest (λ names is. is) (quiet file rest (end_of_run r) runs.1) did.cabinet.asked))
    file_asks before now r (Fetched asked Failed ∷ rest) did runs =
        if_ok r (subst (λ (n : List ℕ). Grew before.cabinet.asked now.cabinet.asked (n ∷ [])) runs.0
        (name_asked_by before.cabinet.asked now.cabinet.asked asked Failed rest (λ names is. is) (fetches_none (λ line. line ≡ fetch_line name) 2 rest (end_of_run r) runs.1) did.cabinet.asked))
    file_asks before now r (Fetched asked Spent ∷ rest) did runs = not_ok (λ s. Grew before.cabinet.asked now.cabinet.asked (name ∷ [])) r runs.2
    file_asks before now r (Wrote piece done ∷ rest) did runs = absurd runs
    file_asks before now r (Called call ∷ rest) did runs = absurd runs
    file_asks before now r (Asked moment ∷ rest) did runs = absurd runs
    file_asks before now r (Drew word ∷ rest) did runs = absurd runs

    pub file_asks_part : (before now : Told) (end : End) (acts : List Act) → Did before now acts → RunsScript (fetches_file name behind) acts end
        → GrewPart before.cabinet.asked now.cabinet.asked (name ∷ [])
    unfolding RunsScript IsFetchThen
    file_asks_part before now end [] did runs =
        record { part = []; rest = name ∷ []; is = refl; grew = nothing_left_by before.cabinet.asked now.cabinet.asked did.cabinet.asked }
    file_asks_part before now end (Fetched asked (Gave file) ∷ rest) did runs =
        part_whole before.cabinet.asked now.cabinet.asked (name ∷ []) (subst (λ (n : List ℕ). Grew before.cabinet.asked now.cabinet.asked (n ∷ [])) runs.0
        (name_asked_by before.cabinet.asked now.cabinet.asked asked (Gave file) rest (λ names is. is) (quiet file rest end runs.1) did.cabinet.asked))
    file_asks_part before now end (Fetched asked Failed ∷ rest) did runs =
        part_whole before.cabinet.asked now.cabinet.asked (name ∷ []) (subst (λ (n : List ℕ). Grew before.cabinet.asked now.cabinet.asked (n ∷ [])) runs.0
        (name_asked_by before.cabinet.asked now.cabinet.asked asked Failed rest (λ names is. is) (fetches_none (λ line. line ≡ fetch_line name) 2 rest end runs.1) did.cabinet.asked))
    file_asks_part before now end (Fetched asked Spent ∷ rest) did runs =
        subst (λ (n : List ℕ). GrewPart before.cabinet.asked now.cabinet.asked (n ∷ [])) runs.0
        (name_noted_by before.cabinet.asked now.cabinet.asked asked (subst (λ (xs : List Act). GrewBy AsksFor before.cabinet.asked now.cabinet.asked (Fetched asked Spent ∷ xs)) runs.1 did.cabinet.asked))
    file_asks_part before now end (Wrote piece done ∷ rest) did runs = absurd runs
    file_asks_part before now end (Called call ∷ rest) did runs = absurd runs
    file_asks_part before now end (Asked moment ∷ rest) did runs = absurd runs
    file_asks_part before now end (Drew word ∷ rest) did runs = absurd runs
