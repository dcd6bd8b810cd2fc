-- What the sink got by a script that prints texts one behind the other, behind those that it got before.
use Rattle.std.proofs.Common.{◌≡◌, ℕ, inl, inr, false, List, [], ◌∷◌, ◌++◌, Option, Result, Ok, Err, IsTrue, IsFalse, refl, sym, ap, subst, ◌∙◌, append_assoc, append-nil}
use Rattle.std.specs.List.{list_any}
use Rattle.link_trait.specs.Outside.{Grew}
use Rattle.outside.specs.Acts.{Act, Wrote, is_fetch, is_sink_fault}
use Rattle.outside.specs.Ties.{IsLeft, PutsInSink}
use Rattle.outside.specs.Scripts.{End, With, Sunk, OutOfMemory, Script, Ends, Fetches, Prints, Knowing, printing, says_last, RunsScript}
use Rattle.er_statuses.specs.Answers.{Answer}
use Rattle.er_statuses.specs.ScriptEnds.{end_of_run}
use Rattle.er_statuses.specs.declared.status.Status.{Status}
use Rattle.er_statuses.specs.declared.stop.Stop.{Stop}
use Rattle.er_statuses.specs.declared.stop.Stop.TheVariants as stop
use Rattle.er_program.specs.ReplayWriting.{EndsOne}
use Rattle.er_program.proofs.EachText.{left_behind, sink_fault_behind, unprinted, no_fetch_behind}
use Rattle.er_program.proofs.FileActs.{Sinks}

module _ (Is : Answer → Type 0) (IsBegun : List ℕ → Type 0) where
  -- by how it ended: all of an answer; a beginning of one, and a write failed; or a text of the other kind
  abbrev pub Got : (front : List ℕ) → End → List Act → (all : List ℕ) → Type 0
  Got front (With status) acts all = (a : Answer) × Is a × (status ≡ a.status) × (a.text ≡ front ++ all)
  Got front Sunk acts all = (a : Answer) × Is a × (cut : List ℕ) × (a.text ≡ front ++ (all ++ cut)) × IsTrue (list_any is_sink_fault acts)
  Got front OutOfMemory acts all = IsBegun (front ++ all)

  -- an answer whose text begins with this one
  pub record Begun (front : List ℕ) : Type 0 where
    pub answer : Answer
    pub is : Is answer
    pub rest : List ℕ
    pub text_is : answer.text ≡ front ++ rest

  -- nothing more came
  pub got_nothing : (front : List ℕ) (end : End) (acts : List Act) (all : List ℕ) → IsBegun front → end ≡ OutOfMemory → acts ≡ [] → IsLeft PutsInSink acts all → Got front end acts all
  unfolding IsLeft
  got_nothing front end acts all begun is none left =
      let nothing : all ≡ [] = subst (λ (ys : List Act). IsLeft PutsInSink ys all) none left in
      subst (λ (e : End). Got front e acts all) (sym is)
      (subst (λ (t : List ℕ). IsBegun t) (sym (ap (λ (t : List ℕ). front ++ t) nothing ∙ append-nil front)) begun)

  -- all was printed
  pub got_end : (front : List ℕ) (status : ℕ) (acts : List Act) (end : End) (all : List ℕ) → Is (record { status = status; text = front })
      → RunsScript (Ends status) acts end → IsLeft PutsInSink acts all → Got front end acts all
  unfolding RunsScript IsLeft
  got_end front status acts end all is runs left =
      let nothing : all ≡ [] = subst (λ (ys : List Act). IsLeft PutsInSink ys all) runs.0 left in
      subst (λ (e : End). Got front e acts all) (sym runs.1)
      (record { status = status; text = front }, is, refl, sym (ap (λ (t : List ℕ). front ++ t) nothing ∙ append-nil front))

  module _ (front here : List ℕ) where
    got_more : (end : End) (rest : List Act) (more : List ℕ) → Got (front ++ here) end rest more → Got front end (printing here ++ rest) (here ++ more)
    got_more (With status) rest more got = (got.0, got.1, got.2, got.3 ∙ append_assoc front here more)
    got_more Sunk rest more got = (
      got.0,
      got.1,
      got.2,
      got.3 ∙ append_assoc front here (more ++ got.2) ∙ ap (λ (t : List ℕ). front ++ t) (sym (append_assoc here more got.2)),
      sink_fault_behind here rest got.4,
    )
    got_more OutOfMemory rest more got = subst IsBegun (append_assoc front here more) got

    -- a text, and what follows
    pub got_print : (next : Script) → IsBegun front → Begun (front ++ here)
        → ((rest : List Act) (end : End) (more : List ℕ) → RunsScript next rest end → IsLeft PutsInSink rest more → Got (front ++ here) end rest more)
        → (acts : List Act) (end : End) (all : List ℕ) → RunsScript (Prints (λ text. text ≡ here) next) acts end → IsLeft PutsInSink acts all → Got front end acts all
    unfolding RunsScript IsLeft
    got_print next none begun follows acts end all (inl p) left =
        let split = left_behind p.text p.rest all (subst (λ (ys : List Act). IsLeft PutsInSink ys all) p.acts_are left) in
        let got : Got front end (printing here ++ p.rest) (here ++ split.0) = got_more end p.rest split.0 (follows p.rest end split.0 p.follows split.1) in
        let acts_are : printing here ++ p.rest ≡ acts = sym (p.acts_are ∙ ap (λ (text : List ℕ). printing text ++ p.rest) p.is) in
        let all_are : here ++ split.0 ≡ all = sym (split.2 ∙ ap (λ (text : List ℕ). text ++ split.0) p.is) in
        subst (λ (ys : List Act). Got front end ys all) acts_are (subst (λ (octets : List ℕ). Got front end (printing here ++ p.rest) octets) all_are got)
    got_print next none begun follows acts end all (inr (inl p)) left =
        let write : IsLeft PutsInSink (Wrote p.text false ∷ []) all = subst (λ (ys : List Act). IsLeft PutsInSink ys all) p.acts_are left in
        let cut = unprinted p.text begun.rest all write in
        subst (λ (e : End). Got front e acts all) (sym p.sunk) (
          begun.answer,
          begun.is,
          cut.0,
          begun.text_is ∙ append_assoc front here begun.rest ∙ ap (λ (t : List ℕ). front ++ t) (sym (cut.1 ∙ ap (λ (text : List ℕ). text ++ begun.rest) p.is)),
          subst (λ (ys : List Act). IsTrue (list_any is_sink_fault ys)) (sym p.acts_are) refl,
        )
    got_print next none begun follows acts end all (inr (inr p)) left = got_nothing front end acts all none p.1 p.0 left

  -- a last text
  pub got_says : (front here : List ℕ) (status : ℕ) → IsBegun front → Is (record { status = status; text = front ++ here })
      → (acts : List Act) (end : End) (all : List ℕ) → RunsScript (says_last status here) acts end → IsLeft PutsInSink acts all → Got front end acts all
  got_says front here status none is acts end all runs left =
      got_print front here (Ends status) none
      (record { answer = record { status = status; text = front ++ here }; is = is; rest = []; text_is = sym (append-nil (front ++ here)) })
      (λ rest over more last left_on. got_end (front ++ here) status rest over more is last left_on) acts end all runs left

  -- how it ended
  pub ends_got : (a b : Option (List ℕ)) (f g : ℕ) (acts : List Act) (r : Result Status Stop) → (sinks : Sinks a b f g acts)
      → Got [] (end_of_run r) acts sinks.0.more → EndsOne Is IsBegun a b f g r
  ends_got a b f g acts (Ok status) sinks got = record {
    answer = got.0;
    is = got.1;
    stated = got.2;
    printed = subst (λ (octets : List ℕ). Grew a b octets) (sym got.3) sinks.0.grew;
    later = sinks.1.later;
  }
  ends_got a b f g acts (Err stop.Sink) sinks got = record {
    answer = got.0;
    is = got.1;
    part = record { part = sinks.0.more; rest = got.2; is = sym got.3; grew = sinks.0.grew };
    rose = sinks.1.rose got.4;
  }
  ends_got a b f g acts (Err (stop.NoMemory want)) sinks got = record { text = sinks.0.more; begun = got; written = sinks.0.grew; later = sinks.1.later }

-- ---- what a script doesn't do

-- it asks for no file
abbrev pub IsQuiet : Script → Type 0
IsQuiet (Ends status) = Unit {0}
IsQuiet (Fetches name next) = ⊥
IsQuiet (Prints Is next) = IsQuiet next
IsQuiet (Knowing Fact next) = IsQuiet next

pub quiet : (s : Script) (acts : List Act) (end : End) → IsQuiet s → RunsScript s acts end → IsFalse (list_any is_fetch acts)
unfolding RunsScript
quiet (Ends status) acts end is runs = subst (λ (ys : List Act). IsFalse (list_any is_fetch ys)) (sym runs.0) refl
quiet (Fetches name next) acts end is runs = absurd is
quiet (Prints Is next) acts end is (inl p) =
    subst (λ (ys : List Act). IsFalse (list_any is_fetch ys)) (sym p.acts_are) (no_fetch_behind p.text p.rest (quiet next p.rest end is p.follows))
quiet (Prints Is next) acts end is (inr (inl p)) = subst (λ (ys : List Act). IsFalse (list_any is_fetch ys)) (sym p.acts_are) refl
quiet (Prints Is next) acts end is (inr (inr p)) = subst (λ (ys : List Act). IsFalse (list_any is_fetch ys)) (sym p.0) refl
quiet (Knowing Fact next) acts end is (inl p) = quiet next acts end is p.1
quiet (Knowing Fact next) acts end is (inr p) = subst (λ (ys : List Act). IsFalse (list_any is_fetch ys)) (sym p.0) refl
