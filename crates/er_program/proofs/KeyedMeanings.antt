-- What a run of a command that reads a key file and another file means by its status, from how it ended.
use Rattle.std.proofs.Common.{◌≡◌, ◌⊎◌, ℕ, inl, inr, List, [], ◌∷◌, Option, Some, None, Result, Ok, Err, refl, sym, subst, ◌∙◌, ap, arith}
use Rattle.er_tap.specs.Files.{tap_of}
use Rattle.er_trace.specs.Files.{trace_of}
use Rattle.safety_automaton.specs.Keys.{KmacEntry}
use Rattle.key_store.specs.declared.key_file_fault.KeyFileFault.{KeyFileFault}
use Rattle.key_store.specs.declared.key_file_fault.KeyFileFault.TheVariants as keys
use Rattle.key_store.specs.KeyFiles.{keys_of}
use Rattle.link_trait.specs.Outside.{Grew, Rose, HasFile}
use Rattle.trace_model.specs.Recordings.{ended_part}
use Rattle.er_statuses.specs.KeyLines.{keys_line}
use Rattle.er_statuses.specs.LastLines.{memory_line}
use Rattle.er_statuses.specs.Answers.{Answer, Files, HasFetched, keys_answer, AreKeysRefused}
use Rattle.er_program.specs.declared.work.Work.{Work}
use Rattle.er_program.specs.declared.work.Work.TheVariants as work
use Rattle.er_program.specs.Answers.{IsFetchedSecond, IsAnswerBehindKeys, IsFetchedKeyed}
use Rattle.er_program.specs.Asking.{AskedNames, AsksKeys, AsksBoth, Asks}
use Rattle.er_program.specs.Commands.{Command, names_of}
use Rattle.er_program.specs.CommandViews.{command_of_work}
use Rattle.er_program.specs.KeyedWriting.{IsOfWork, HasStatusOfWork}
use Rattle.er_program.specs.Runs.{AreFirstLines, HasKeyedStatus, IsStatusBehindKeys}
use Rattle.er_program.specs.Statuses as statuses
use Rattle.er_program.specs.FileMeans.{FileMeans, IsUnfetched, IsCompleteByFiles, sight}
use Rattle.er_program.proofs.AuditMeanings.{means_tap}
use Rattle.er_program.proofs.CheckMeanings.{means_recording}
use Rattle.er_program.proofs.ReplayMeanings.{trace_status, means_trace}

abbrev command : Work → (keys_name name : List ℕ) → Command
command w keys_name name = command_of_work w keys_name name

-- ---- what is the same of each

names_are : (w : Work) (keys_name name : List ℕ) → names_of (command w keys_name name) ≡ keys_name ∷ name ∷ []
names_are work.Replay keys_name name = refl
names_are work.Check keys_name name = refl
names_are (work.Audit ends) keys_name name = refl

asks_are : (w : Work) (keys_name name : List ℕ) (status : ℕ) (p q : AskedNames) (before now : Option (List ℕ)) → Asks (command w keys_name name) status p q before now
    → AsksKeys keys_name status p q before now ⊎ AsksBoth keys_name name status p q before now
asks_are work.Replay keys_name name status p q before now asks = asks
asks_are work.Check keys_name name status p q before now asks = asks
asks_are (work.Audit ends) keys_name name status p q before now asks = asks

nothing_first : (w : Work) (keys_name name : List ℕ) (files : Files) → AreFirstLines (command w keys_name name) files []
nothing_first work.Replay keys_name name files = inl refl
nothing_first work.Check keys_name name files = refl
nothing_first (work.Audit ends) keys_name name files = inl refl

is_keyless : (w : Work) (keys_name name : List ℕ) (files : Files) (p q : AskedNames) (c d f g : ℕ) (before now : Option (List ℕ))
    → AreKeysRefused keys_name files p q before now → statuses.IsKeyless (command w keys_name name) (sight files p c before f) (sight files q d now g)
is_keyless work.Replay keys_name name files p q c d f g before now refused = refused
is_keyless work.Check keys_name name files p q c d f g before now refused = refused
is_keyless (work.Audit ends) keys_name name files p q c d f g before now refused = refused

-- complete where the first fetch failed, where memory ran out, and by the status of the files
lost_complete : (w : Work) (keys_name name : List ℕ) (files : Files) (c d f g status : ℕ) → Rose c d → IsCompleteByFiles (command w keys_name name) files c d f g status
lost_complete work.Replay keys_name name files c d f g status rose = λ good fine. absurd (good rose)
lost_complete work.Check keys_name name files c d f g status rose = λ good fine. absurd (good rose)
lost_complete (work.Audit ends) keys_name name files c d f g status rose = λ good fine. absurd (good rose)

spent_complete : (w : Work) (keys_name name : List ℕ) (files : Files) (c d f g status : ℕ) → status ≡ 7 → IsCompleteByFiles (command w keys_name name) files c d f g status
spent_complete work.Replay keys_name name files c d f g status is = λ good fine. inr is
spent_complete work.Check keys_name name files c d f g status is = λ good fine. inr is
spent_complete (work.Audit ends) keys_name name files c d f g status is = λ good fine. inr is

has_complete : (w : Work) (keys_name name : List ℕ) (files : Files) (c d f g status : ℕ) → HasKeyedStatus (HasStatusOfWork w) keys_name name files status
    → IsCompleteByFiles (command w keys_name name) files c d f g status
has_complete work.Replay keys_name name files c d f g status has = λ good fine. inl has
has_complete work.Check keys_name name files c d f g status has = λ good fine. inl has
has_complete (work.Audit ends) keys_name name files c d f g status has = λ good fine. inl has

-- ---- each status alone

module _ (w : Work) (keys_name name : List ℕ) (files : Files) (p q : AskedNames) (c d f g : ℕ) (before now : Option (List ℕ)) (status : ℕ) where
  abbrev Meant : Type 0
  Meant = FileMeans (command w keys_name name) files p q c d f g before now status

  unfetched : Asks (command w keys_name name) status p q before now → status ≡ 2 → Rose c d → IsUnfetched (command w keys_name name) p q c d before now
  unfetched asks is rose =
      elim (asks_are w keys_name name status p q before now asks) [
        | inl first ↦ record {
          first = [];
          name = keys_name;
          rest = name ∷ [];
          is = names_are w keys_name name;
          asked_for = first.asked_for;
          rose = rose;
          printed = first.written is;
        }
        | inr both ↦ record {
          first = keys_name ∷ [];
          name = name;
          rest = [];
          is = names_are w keys_name name;
          asked_for = both.asked_for;
          rose = rose;
          printed = both.last.1 is;
        }
      ]

  means_lost : Asks (command w keys_name name) status p q before now → status ≡ 2 → Rose c d → Meant
  means_lost asks is rose = record {
    known = inr (inr (inl is));
    done = λ h. absurd (omega arith);
    usage = λ h. absurd (omega arith);
    fetch = λ h. unfetched asks is rose;
    refused = λ h. absurd (omega arith);
    keys = λ h. absurd (omega arith);
    sink = λ h. absurd (omega arith);
    memory = λ h. absurd (omega arith);
    overfull = λ h. absurd (omega arith);
    unlike = λ h. absurd (omega arith);
    complete = lost_complete w keys_name name files c d f g status rose;
  }

  -- memory ran out
  means_forgot : status ≡ 7 → Grew before now memory_line → FileMeans (command w keys_name name) files p q c d f g before now status
  means_forgot is printed = record {
    known = inr (inr (inr (inr (inr (inr (inl is))))));
    done = λ h. absurd (omega arith);
    usage = λ h. absurd (omega arith);
    fetch = λ h. absurd (omega arith);
    refused = λ h. absurd (omega arith);
    keys = λ h. absurd (omega arith);
    sink = λ h. absurd (omega arith);
    memory = λ h. record { text = []; first = nothing_first w keys_name name files; printed = printed };
    overfull = λ h. absurd (omega arith);
    unlike = λ h. absurd (omega arith);
    complete = spent_complete w keys_name name files c d f g status is;
  }

  -- ---- the key file is refused

  module _ (key_file : List ℕ) (asks : Asks (command w keys_name name) status p q before now) (stands : HasFile files keys_name key_file)
      (has : HasKeyedStatus (HasStatusOfWork w) keys_name name files status) where
    refused_so : (why : KeyFileFault) → keys_of key_file ≡ Err why → status ≡ 4 → Grew before now (keys_line why) → AreKeysRefused keys_name files p q before now
    refused_so why unspelled is printed =
        elim (asks_are w keys_name name status p q before now asks) [
          | inl first ↦ record {
            asked_for = first.asked_for;
            file = key_file;
            stands = stands;
            fault = why;
            refused = unspelled;
            printed = printed;
          }
          | inr both ↦ absurd (both.last.0 is)
        ]

    means_keyless : (why : KeyFileFault) → keys_of key_file ≡ Err why → status ≡ 4 → Grew before now (keys_line why) → Meant
    means_keyless why unspelled is printed = record {
      known = inr (inr (inr (inr (inl is))));
      done = λ h. absurd (omega arith);
      usage = λ h. absurd (omega arith);
      fetch = λ h. absurd (omega arith);
      refused = λ h. absurd (omega arith);
      keys = λ h. is_keyless w keys_name name files p q c d f g before now (refused_so why unspelled is printed);
      sink = λ h. absurd (omega arith);
      memory = λ h. absurd (omega arith);
      overfull = λ h. absurd (omega arith);
      unlike = λ h. absurd (omega arith);
      complete = has_complete w keys_name name files c d f g status has;
    }

    means_fault : (why : KeyFileFault) → keys_of key_file ≡ Err why → status ≡ (keys_answer why).status → Grew before now (keys_answer why).text → Meant
    means_fault keys.Document un is printed = means_keyless keys.Document un is printed
    means_fault (keys.Field k x) un is printed = means_keyless (keys.Field k x) un is printed
    means_fault (keys.Hex k) un is printed = means_keyless (keys.Hex k) un is printed
    means_fault (keys.Number k) un is printed = means_keyless (keys.Number k) un is printed
    means_fault (keys.Range k) un is printed = means_keyless (keys.Range k) un is printed
    means_fault (keys.Twice j k) un is printed = means_keyless (keys.Twice j k) un is printed
    means_fault (keys.Version n) un is printed = means_keyless (keys.Version n) un is printed
    means_fault (keys.NoMemory want) un is printed = means_forgot is printed

-- ---- the file behind a good key file

-- its status
status_of : (w : Work) (known : List KmacEntry) (name file : List ℕ) (a : Answer) (files : Files) (status : ℕ)
    → HasFile files name file → IsOfWork w known file a → status ≡ a.status → HasStatusOfWork w known name files status
status_of work.Replay known name file a files status stands is stated = trace_status known name file a files status stands is stated
status_of work.Check known name file a files status stands is stated = record { file = file; stands = stands; answer = a; answers = is; is = stated }
status_of (work.Audit ends) known name file a files status stands is stated =
    record { file = file; stands = stands; is = stated ∙ ap (λ (x : Answer). x.status) is }

words_status : (w : Work) (keys_name name key_file : List ℕ) (read : Result (List KmacEntry) KeyFileFault) (files : Files) (status : ℕ)
    → HasFile files keys_name key_file → keys_of key_file ≡ read → IsStatusBehindKeys (HasStatusOfWork w) read name files status
    → HasKeyedStatus (HasStatusOfWork w) keys_name name files status
words_status w keys_name name key_file read files status stands is behind = record {
  key_file = key_file;
  keys_stand = stands;
  is = subst (λ (x : Result (List KmacEntry) KeyFileFault). IsStatusBehindKeys (HasStatusOfWork w) x name files status) (sym is) behind;
}

means_file : (w : Work) (keys_name name key_file file : List ℕ) (known : List KmacEntry) (a : Answer) (files : Files) (p q : AskedNames) (c d f g : ℕ) (before now : Option (List ℕ)) (status : ℕ)
    → HasFile files keys_name key_file → keys_of key_file ≡ Ok known → HasFile files name file → IsOfWork w known file a
    → HasKeyedStatus (HasStatusOfWork w) keys_name name files status
    → (status ≡ 7 → Grew before now memory_line → FileMeans (command w keys_name name) files p q c d f g before now status)
    → status ≡ a.status → Grew before now a.text → FileMeans (command w keys_name name) files p q c d f g before now status
means_file work.Replay keys_name name key_file file known a files p q c d f g before now status keys_stand keys_are stands is has forgot stated printed =
    means_trace keys_name name key_file file known (trace_of file) a files p q c d f g before now status keys_stand keys_are stands refl is has forgot stated printed
means_file work.Check keys_name name key_file file known a files p q c d f g before now status keys_stand keys_are stands is has forgot stated printed =
    means_recording keys_name name key_file file known (trace_of (ended_part file)) a files p q c d f g before now status keys_stand keys_are stands refl is has forgot stated printed
means_file (work.Audit ends) keys_name name key_file file known a files p q c d f g before now status keys_stand keys_are stands is has forgot stated printed =
    means_tap ends keys_name name key_file file known (tap_of file) files p q c d f g before now status keys_stand keys_are stands refl has forgot
    (stated ∙ ap (λ (x : Answer). x.status) is) (subst (λ (x : Answer). Grew before now x.text) is printed)

-- ---- the words

module _ (w : Work) (keys_name name : List ℕ) (a : Answer) (files : Files) (p q : AskedNames) (c d f g : ℕ) (before now : Option (List ℕ)) (status : ℕ)
    (asks : Asks (command w keys_name name) status p q before now) (stated : status ≡ a.status) (printed : Grew before now a.text) where
  abbrev Means : Type 0
  Means = FileMeans (command w keys_name name) files p q c d f g before now status

  -- the name of the file was fetched or not
  means_behind : (key_file : List ℕ) (known : List KmacEntry) (fetched : Option (List ℕ)) → HasFile files keys_name key_file → keys_of key_file ≡ Ok known
      → HasFetched name fetched files c d → IsFetchedSecond (IsOfWork w) known name fetched a → Means
  means_behind key_file known None keys_stand keys_are rose answers =
      means_lost w keys_name name files p q c d f g before now status asks (stated ∙ ap (λ (x : Answer). x.status) answers) rose
  means_behind key_file known (Some file) keys_stand keys_are stands answers =
      means_file w keys_name name key_file file known a files p q c d f g before now status keys_stand keys_are stands answers
      (words_status w keys_name name key_file (Ok known) files status keys_stand keys_are (status_of w known name file a files status stands answers stated))
      (means_forgot w keys_name name files p q c d f g before now status) stated printed

  -- the key file was read
  means_keys : (key_file : List ℕ) (read : Result (List KmacEntry) KeyFileFault) → HasFile files keys_name key_file → keys_of key_file ≡ read
      → IsAnswerBehindKeys (IsOfWork w) read name files c d a → Means
  means_keys key_file (Err why) stands is answers =
      let so : status ≡ (keys_answer why).status = stated ∙ ap (λ (x : Answer). x.status) answers in
      means_fault w keys_name name files p q c d f g before now status key_file asks stands
      (words_status w keys_name name key_file (Err why) files status stands is so) why is so (subst (λ (x : Answer). Grew before now x.text) answers printed)
  means_keys key_file (Ok known) stands is answers = means_behind key_file known answers.fetched stands is answers.stands answers.is

-- the key file's name was fetched or not
pub means_keyed : (w : Work) (keys_name name : List ℕ) (fetched : Option (List ℕ)) (a : Answer) (files : Files) (p q : AskedNames) (c d f g : ℕ) (before now : Option (List ℕ)) (status : ℕ)
    → Asks (command_of_work w keys_name name) status p q before now → HasFetched keys_name fetched files c d → IsFetchedKeyed (IsOfWork w) keys_name name fetched files c d a
    → status ≡ a.status → Grew before now a.text → FileMeans (command_of_work w keys_name name) files p q c d f g before now status
means_keyed w keys_name name None a files p q c d f g before now status asks rose answers stated printed =
    means_lost w keys_name name files p q c d f g before now status asks (stated ∙ ap (λ (x : Answer). x.status) answers) rose
means_keyed w keys_name name (Some key_file) a files p q c d f g before now status asks stands answers stated printed =
    means_keys w keys_name name a files p q c d f g before now status asks stated printed key_file (keys_of key_file) stands refl answers
