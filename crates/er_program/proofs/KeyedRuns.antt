-- How a command ends that reads a key file and another file, from how its parts end.
use Rattle.std.proofs.Common.{◌≡◌, inl, inr, ℕ, ◌≤◌, Bool, List, [], Option, Some, None, Result, Ok, Err, refl, sym, subst, arith}
use Rattle.er_base.specs.declared.text_fault.TextFault.{TextFault}
use Rattle.er_trace.specs.declared.trace.Trace.{Trace}
use Rattle.er_trace.specs.Files.{trace_of}
use Rattle.er_tap.specs.declared.tap.Tap.{Tap}
use Rattle.er_tap.specs.Files.{tap_of}
use Rattle.safety_automaton.specs.Keys.{KmacEntry}
use Rattle.key_store.specs.declared.key_file_fault.KeyFileFault.{KeyFileFault}
use Rattle.key_store.specs.KeyFiles.{keys_of}
use Rattle.link_trait.specs.Outside.{HasFile}
use Rattle.er_statuses.specs.LastLines.{fetch_line}
use Rattle.er_statuses.specs.Answers.{Answer, Files, HasFetched, keys_answer}
use Rattle.er_statuses.specs.Writing.{GivesAnswer, EndsUnfetched}
use Rattle.er_statuses.specs.declared.status.Status.{Status}
use Rattle.er_statuses.specs.declared.stop.Stop.{Stop}
use Rattle.er_statuses.specs.declared.stop.Stop.TheVariants as stop
use Rattle.er_program.specs.declared.work.Work.{Work}
use Rattle.er_program.specs.declared.work.Work.TheVariants as work
use Rattle.er_program.specs.Answers.{IsSecondFileAnswer, IsAnswerBehindKeys, IsKeyedAnswer}
use Rattle.er_program.specs.AuditRuns.{FirstAuditText}
use Rattle.er_program.specs.AuditWriting.{BeginsSpelledTap}
use Rattle.er_program.specs.CommandViews.{command_of_work}
use Rattle.er_program.specs.KeyedWriting.{IsOfWork, BeginsOfWork, BeginsSecondFile, BeginsGood, BeginsBehindKeys}
use Rattle.er_program.specs.ReplayWriting.{EndsOne, BeginsSpelled}
use Rattle.er_program.specs.Runs.{FirstEventLines}
use Rattle.er_program.specs.Writing.{IsGivenAnswer, IsOutputBeginning, EndsCommand}

-- ---- an answer of a kind

-- an answer of its kind was given
pub ends_gives : (Is : Answer → Type 0) (IsBegun : List ℕ → Type 0) (a : Answer) (before now : Option (List ℕ)) (f g : ℕ) (r : Result Status Stop)
    → Is a → IsBegun [] → GivesAnswer a before now f g r → EndsOne Is IsBegun before now f g r
ends_gives Is IsBegun a before now f g (Ok s) is none gives = record { answer = a; is = is; stated = gives.0; printed = gives.1; later = gives.2 }
ends_gives Is IsBegun a before now f g (Err stop.Sink) is none gives = record { answer = a; is = is; part = gives.0; rose = gives.1 }
ends_gives Is IsBegun a before now f g (Err (stop.NoMemory want)) is none gives =
    record { text = []; begun = none; written = gives.0; later = gives.1 }

-- a kind of answers is another, and so are the texts where memory runs out
pub ends_other : (Is Other : Answer → Type 0) (IsBegun OtherBegun : List ℕ → Type 0) (before now : Option (List ℕ)) (f g : ℕ) (r : Result Status Stop)
    → ((a : Answer) → Is a → Other a) → ((t : List ℕ) → IsBegun t → OtherBegun t) → EndsOne Is IsBegun before now f g r → EndsOne Other OtherBegun before now f g r
ends_other Is Other IsBegun OtherBegun before now f g (Ok s) so begun ends =
    record { answer = ends.answer; is = so ends.answer ends.is; stated = ends.stated; printed = ends.printed; later = ends.later }
ends_other Is Other IsBegun OtherBegun before now f g (Err stop.Sink) so begun ends =
    record { answer = ends.answer; is = so ends.answer ends.is; part = ends.part; rose = ends.rose }
ends_other Is Other IsBegun OtherBegun before now f g (Err (stop.NoMemory want)) so begun ends =
    record { text = ends.text; begun = begun ends.text ends.begun; written = ends.written; later = ends.later }

-- ---- the file, whatever is done with it

module _ (Is : List KmacEntry → List ℕ → Answer → Type 0) (Begins : List KmacEntry → List ℕ → List ℕ → Type 0) where
  -- its name was fetched
  pub ends_fetched : (known : List KmacEntry) (name file : List ℕ) (files : Files) (b c : ℕ) (before now : Option (List ℕ)) (f g : ℕ) (r : Result Status Stop)
      → HasFile files name file → EndsOne (Is known file) (Begins known file) before now f g r
      → EndsOne (IsSecondFileAnswer Is known name files b c) (BeginsSecondFile Begins known name files) before now f g r
  ends_fetched known name file files b c before now f g r stands ends =
      ends_other (Is known file) (IsSecondFileAnswer Is known name files b c) (Begins known file) (BeginsSecondFile Begins known name files)
      before now f g r (λ a is. record { fetched = Some file; stands = stands; is = is })
      (λ t is. inr (record { file = file; stands = stands; begins = is })) ends

  -- or not
  pub ends_lost : (known : List KmacEntry) (name : List ℕ) (files : Files) (b c : ℕ) (before now : Option (List ℕ)) (f g : ℕ) (r : Result Status Stop)
      → EndsUnfetched name b c before now f g r
      → EndsOne (IsSecondFileAnswer Is known name files b c) (BeginsSecondFile Begins known name files) before now f g r
  ends_lost known name files b c before now f g (Ok s) ends =
      ends_gives (IsSecondFileAnswer Is known name files b c) (BeginsSecondFile Begins known name files) (record { status = 2; text = fetch_line name }) before now f g (Ok s)
      (record { fetched = None; stands = ends.0; is = refl }) (inl refl) (ends.1, ends.2, ends.3)
  ends_lost known name files b c before now f g (Err stop.Sink) ends =
      ends_gives (IsSecondFileAnswer Is known name files b c) (BeginsSecondFile Begins known name files) (record { status = 2; text = fetch_line name }) before now f g (Err stop.Sink)
      (record { fetched = None; stands = ends.0; is = refl }) (inl refl) (ends.1, ends.2)
  ends_lost known name files b c before now f g (Err (stop.NoMemory want)) ends = record { text = []; begun = inl refl; written = ends.0; later = ends.1 }

  -- ---- behind the key file

  module _ (name : List ℕ) (files : Files) (b c : ℕ) (before now : Option (List ℕ)) (f g : ℕ) (r : Result Status Stop) where
    abbrev Behind : Result (List KmacEntry) KeyFileFault → Type 0
    Behind read = EndsOne (IsAnswerBehindKeys Is read name files b c) (BeginsBehindKeys Begins read name files) before now f g r

    -- it is good
    good_so : (known : List KmacEntry) → EndsOne (IsSecondFileAnswer Is known name files b c) (BeginsSecondFile Begins known name files) before now f g r → Behind (Ok known)
    good_so known ends =
        ends_other (IsSecondFileAnswer Is known name files b c) (IsAnswerBehindKeys Is (Ok known) name files b c) (BeginsSecondFile Begins known name files)
        (BeginsBehindKeys Begins (Ok known) name files) before now f g r (λ a is. is) (λ t is. is) ends

    pub ends_good : (read : Result (List KmacEntry) KeyFileFault) (known : List KmacEntry) → read ≡ Ok known
        → EndsOne (IsSecondFileAnswer Is known name files b c) (BeginsSecondFile Begins known name files) before now f g r
        → EndsOne (IsAnswerBehindKeys Is read name files b c) (BeginsBehindKeys Begins read name files) before now f g r
    ends_good read known is ends = subst Behind (sym is) (good_so known ends)

    -- it is refused
    pub ends_keyless : (why : KeyFileFault) → GivesAnswer (keys_answer why) before now f g r → Behind (Err why)
    ends_keyless why gives =
        ends_gives (IsAnswerBehindKeys Is (Err why) name files b c) (BeginsBehindKeys Begins (Err why) name files) (keys_answer why) before now f g r refl (inl refl) gives

  -- ---- the words

  -- a count that rose since then rose since before then
  earlier_fetch : (name : List ℕ) (files : Files) (b c d : ℕ) (fetched : Option (List ℕ)) → b ≤ c → HasFetched name fetched files c d → HasFetched name fetched files b d
  earlier_fetch name files b c d None le rose = omega (arith, le, rose)
  earlier_fetch name files b c d (Some file) le stands = stands

  earlier : (read : Result (List KmacEntry) KeyFileFault) (name : List ℕ) (files : Files) (b c d : ℕ) (a : Answer) → b ≤ c
      → IsAnswerBehindKeys Is read name files c d a → IsAnswerBehindKeys Is read name files b d a
  earlier (Err why) name files b c d a le is = is
  earlier (Ok known) name files b c d a le is =
      record { fetched = is.fetched; stands = earlier_fetch name files b c d is.fetched le is.stands; is = is.is }

  keyed : (keys_name name key_file : List ℕ) (files : Files) (b c d : ℕ) (a : Answer) → b ≤ c → HasFile files keys_name key_file
      → IsAnswerBehindKeys Is (keys_of key_file) name files c d a → IsKeyedAnswer Is keys_name name files b d a
  keyed keys_name name key_file files b c d a le stands is =
      record { fetched = Some key_file; stands = stands; is = earlier (keys_of key_file) name files b c d a le is }

-- ---- by what is done with it

given_of : (w : Work) (keys_name name : List ℕ) (files : Files) (c d : ℕ) (a : Answer) → IsKeyedAnswer (IsOfWork w) keys_name name files c d a
    → IsGivenAnswer (command_of_work w keys_name name) files c d a
given_of work.Replay keys_name name files c d a is = is
given_of work.Check keys_name name files c d a is = is
given_of (work.Audit ends) keys_name name files c d a is = is

-- what was written where memory ran out
events_begun : (keys_name name key_file file : List ℕ) (files : Files) (known : List KmacEntry) (read : Result Trace TextFault) (t : List ℕ)
    → HasFile files keys_name key_file → keys_of key_file ≡ Ok known → HasFile files name file → trace_of file ≡ read → BeginsSpelled known read t
    → FirstEventLines keys_name name files t
events_begun keys_name name key_file file files known (Err why) t keys_stand keys_are stands is begun = absurd begun
events_begun keys_name name key_file file files known (Ok trace) t keys_stand keys_are stands is begun = record {
  entries = known;
  trace = trace;
  spell = record {
    key_file = key_file;
    keys_stand = keys_stand;
    keys_spelled = keys_are;
    file = file;
    stands = stands;
    spelled = is;
  };
  first = begun.first;
  others = begun.others;
  are_first = begun.are_first;
  taken = begun.taken;
  rest = begun.rest;
  is = begun.is;
}

audit_begun : (ends : Bool) (keys_name name key_file file : List ℕ) (files : Files) (known : List KmacEntry) (read : Result Tap TextFault) (t : List ℕ)
    → HasFile files keys_name key_file → keys_of key_file ≡ Ok known → HasFile files name file → tap_of file ≡ read → BeginsSpelledTap ends known read t
    → FirstAuditText ends keys_name name files t
audit_begun ends keys_name name key_file file files known (Err why) t keys_stand keys_are stands is begun = absurd begun
audit_begun ends keys_name name key_file file files known (Ok tap) t keys_stand keys_are stands is begun = record {
  entries = known;
  tap = tap;
  spell = record {
    key_file = key_file;
    keys_stand = keys_stand;
    keys_spelled = keys_are;
    file = file;
    stands = stands;
    spelled = is;
  };
  in_order = begun.in_order;
  rest = begun.rest;
  is = begun.is;
}

no_output : (w : Work) (keys_name name : List ℕ) (files : Files) (t : List ℕ) → t ≡ [] → IsOutputBeginning (command_of_work w keys_name name) files t
no_output work.Replay keys_name name files t is = inl is
no_output work.Check keys_name name files t is = is
no_output (work.Audit ends) keys_name name files t is = inl is

begun_file : (w : Work) (keys_name name key_file file : List ℕ) (files : Files) (known : List KmacEntry) (t : List ℕ)
    → HasFile files keys_name key_file → keys_of key_file ≡ Ok known → HasFile files name file → BeginsOfWork w known file t
    → IsOutputBeginning (command_of_work w keys_name name) files t
begun_file work.Replay keys_name name key_file file files known t keys_stand keys_are stands begun =
    elim begun [
      | inl nothing ↦ inl nothing
      | inr some ↦ inr (events_begun keys_name name key_file file files known (trace_of file) t keys_stand keys_are stands refl some)
    ]
begun_file work.Check keys_name name key_file file files known t keys_stand keys_are stands begun = begun
begun_file (work.Audit ends) keys_name name key_file file files known t keys_stand keys_are stands begun =
    elim begun [
      | inl nothing ↦ inl nothing
      | inr some ↦ inr (audit_begun ends keys_name name key_file file files known (tap_of file) t keys_stand keys_are stands refl some)
    ]

begun_good : (w : Work) (keys_name name key_file : List ℕ) (files : Files) (read : Result (List KmacEntry) KeyFileFault) (t : List ℕ)
    → HasFile files keys_name key_file → keys_of key_file ≡ read → BeginsGood (BeginsOfWork w) read name files t
    → IsOutputBeginning (command_of_work w keys_name name) files t
begun_good w keys_name name key_file files (Err why) t keys_stand is begun = absurd begun
begun_good w keys_name name key_file files (Ok known) t keys_stand is begun =
    begun_file w keys_name name key_file begun.file files known t keys_stand is begun.stands begun.begins

begun_words : (w : Work) (keys_name name key_file : List ℕ) (files : Files) (t : List ℕ) → HasFile files keys_name key_file
    → BeginsBehindKeys (BeginsOfWork w) (keys_of key_file) name files t → IsOutputBeginning (command_of_work w keys_name name) files t
begun_words w keys_name name key_file files t keys_stand begun =
    elim begun [
      | inl nothing ↦ no_output w keys_name name files t nothing
      | inr some ↦ begun_good w keys_name name key_file files (keys_of key_file) t keys_stand refl some
    ]

-- the key file was fetched
pub ends_words : (w : Work) (keys_name name key_file : List ℕ) (files : Files) (b c d : ℕ) (before now : Option (List ℕ)) (f g : ℕ) (r : Result Status Stop)
    → b ≤ c → HasFile files keys_name key_file
    → EndsOne (IsAnswerBehindKeys (IsOfWork w) (keys_of key_file) name files c d) (BeginsBehindKeys (BeginsOfWork w) (keys_of key_file) name files) before now f g r
    → EndsCommand (command_of_work w keys_name name) files b d before now f g r
ends_words w keys_name name key_file files b c d before now f g (Ok s) le stands ends = record {
  answer = ends.answer;
  is = given_of w keys_name name files b d ends.answer (keyed (IsOfWork w) (BeginsOfWork w) keys_name name key_file files b c d ends.answer le stands ends.is);
  stated = ends.stated;
  printed = ends.printed;
  later = ends.later;
}
ends_words w keys_name name key_file files b c d before now f g (Err stop.Sink) le stands ends = record {
  answer = ends.answer;
  is = given_of w keys_name name files b d ends.answer (keyed (IsOfWork w) (BeginsOfWork w) keys_name name key_file files b c d ends.answer le stands ends.is);
  part = ends.part;
  rose = ends.rose;
}
ends_words w keys_name name key_file files b c d before now f g (Err (stop.NoMemory want)) le stands ends =
    record { text = ends.text; first = begun_words w keys_name name key_file files ends.text stands ends.begun; printed = ends.written; later = ends.later }

-- or not
keyless : (w : Work) (keys_name name : List ℕ) (files : Files) (c d : ℕ) → HasFetched keys_name None files c d
    → IsGivenAnswer (command_of_work w keys_name name) files c d (record { status = 2; text = fetch_line keys_name })
keyless w keys_name name files c d rose =
    given_of w keys_name name files c d (record { status = 2; text = fetch_line keys_name }) (record { fetched = None; stands = rose; is = refl })

pub ends_words_lost : (w : Work) (keys_name name : List ℕ) (files : Files) (c d : ℕ) (before now : Option (List ℕ)) (f g : ℕ) (r : Result Status Stop)
    → EndsUnfetched keys_name c d before now f g r → EndsCommand (command_of_work w keys_name name) files c d before now f g r
ends_words_lost w keys_name name files c d before now f g (Ok status) ends = record {
  answer = record { status = 2; text = fetch_line keys_name };
  is = keyless w keys_name name files c d ends.0;
  stated = ends.1;
  printed = ends.2;
  later = ends.3;
}
ends_words_lost w keys_name name files c d before now f g (Err stop.Sink) ends = record {
  answer = record { status = 2; text = fetch_line keys_name };
  is = keyless w keys_name name files c d ends.0;
  part = ends.1;
  rose = ends.2;
}
ends_words_lost w keys_name name files c d before now f g (Err (stop.NoMemory want)) ends =
    record { text = []; first = no_output w keys_name name files [] refl; printed = ends.0; later = ends.1 }
