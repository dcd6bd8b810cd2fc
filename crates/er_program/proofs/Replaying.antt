-- The loop of a replay in its script: before the first event, one event more, one that isn't taken, and the end.
use Rattle.std.proofs.Common.{◌≡◌, ℕ, zero, suc, ◌+◌, ◌≤◌, false, List, [], ◌∷◌, ◌++◌, take, drop, length, slice_get, Option, Some, None, Err, refl, ap, sym, subst, ◌∙◌, arith}
use Rattle.std.proofs.lemmas.List.{drop_all}
use Rattle.std.proofs.lemmas.Option.{same_Some, none-some}
use Rattle.er_settings.specs.Values.{Settings}
use Rattle.er_trace.specs.declared.entry.Entry.{Entry}
use Rattle.er_end_model.specs.Steps.{Finds}
use Rattle.trace_model.specs.declared.replay_fault.ReplayFault.{ReplayFault}
use Rattle.trace_model.specs.declared.replay_fault.ReplayFault.TheVariants.{NoConn, ConnTwice, MomentBack, NoKey, Many, Sink, NoMemory}
use Rattle.trace_model.specs.Checks.{fault_of_trace_event}
use Rattle.trace_model.specs.Printed.{entry_text}
use Rattle.trace_replay.specs.Replays.{HasTakenNext, ReplaysNext}
use Rattle.trace_replay.specs.Standing.{StandsBehind}
use Rattle.trace_replay.specs.declared.run.Replaying.{Replaying}
use Rattle.outside.specs.Acts.{Wrote}
use Rattle.outside.specs.Doings.{Told, Did}
use Rattle.outside.specs.Scripts.{End, With, Sunk, OutOfMemory, Script, Ends, Does, LeadsOn, printing, says_last}
use Rattle.outside.specs.ScriptSteps.{does_spent, does_printed, does_sank, does_end}
use Rattle.er_program.specs.Answers.{replay_fault_line}
use Rattle.er_program.specs.EventWriting.{WentEvent, FailedEvent, RefusesEvent, ReplaysEvent, ReplayedTo, ReplaysEvents, TellsRefusal}
use Rattle.er_program.specs.KeyedScripts.{prints_or_refuses, replays_events}

-- ---- one event

module _ (s : Settings) (f : Finds) (before : List Entry) (e : Entry) (new : Replaying) where
  -- it isn't taken
  pub one_refused : (out now : List ℕ) (fault : ReplayFault) (t : Told) → ReplaysNext s f before e new out now (Err fault) → ReplaysEvent s f before e new t t (Err fault)
  one_refused out now (NoConn line conn) t next = record { is = next; rests = refl }
  one_refused out now (ConnTwice line conn) t next = record { is = next; rests = refl }
  one_refused out now (MomentBack line was moment) t next = record { is = next; rests = refl }
  one_refused out now (NoKey line engine rbc) t next = record { is = next; rests = refl }
  one_refused out now (Many line live) t next = record { is = next; rests = refl }
  one_refused out now Sink t next = absurd next
  one_refused out now (NoMemory want) t next = refl

  -- its text was made
  one_text : (out now text : List ℕ) → HasTakenNext s f before e new out now → out ≡ [] → text ≡ now → text ≡ entry_text s f before e
  one_text out now text taken none all = all ∙ taken.text ∙ ap (λ (front : List ℕ). front ++ entry_text s f before e) none

  -- and printed
  pub one_went : (out now text : List ℕ) (mid behind : Told) → HasTakenNext s f before e new out now → out ≡ [] → text ≡ now → Did mid behind (printing text)
      → WentEvent s f before e new mid behind
  one_went out now text mid behind taken none all did = record {
    none = taken.taken;
    printed = subst (λ (t : List ℕ). Did mid behind (printing t)) (one_text out now text taken none all) did;
    stands = taken.stands;
  }

  -- or the write of it failed
  pub one_sank : (out now text : List ℕ) (mid behind : Told) → HasTakenNext s f before e new out now → out ≡ [] → text ≡ now → Did mid behind (Wrote text false ∷ [])
      → FailedEvent s f before e mid behind
  one_sank out now text mid behind taken none all did = record {
    none = taken.taken;
    sank = subst (λ (t : List ℕ). Did mid behind (Wrote t false ∷ [])) (one_text out now text taken none all) did;
  }

-- ---- one event in the script, by its fault

spent_at : (fault : Option ReplayFault) (lines : List ℕ) (next : Script) (t : Told) → Does (prints_or_refuses fault lines next) t t OutOfMemory
spent_at None lines next t = does_spent (λ text. text ≡ lines) next t
spent_at (Some fault) lines next t = does_spent (λ text. text ≡ replay_fault_line fault) (Ends 3) t

done_at : (fault : Option ReplayFault) (lines : List ℕ) (next : Script) (mid now behind : Told) (end : End)
    → fault ≡ None → Did mid now (printing lines) → Does next now behind end → Does (prints_or_refuses fault lines next) mid behind end
done_at None lines next mid now behind end none did does = does_printed (λ text. text ≡ lines) next lines mid now behind end refl did does
done_at (Some fault) lines next mid now behind end none did does = absurd (none-some fault (sym none))

sank_at : (fault : Option ReplayFault) (lines : List ℕ) (next : Script) (mid now : Told)
    → fault ≡ None → Did mid now (Wrote lines false ∷ []) → Does (prints_or_refuses fault lines next) mid now Sunk
sank_at None lines next mid now none did = does_sank (λ text. text ≡ lines) next lines mid now refl did
sank_at (Some fault) lines next mid now none did = absurd (none-some fault (sym none))

told_at : (found : Option ReplayFault) (fault : ReplayFault) (lines : List ℕ) (next : Script) (mid now : Told) (end : End)
    → found ≡ Some fault → Does (says_last 3 (replay_fault_line fault)) mid now end → Does (prints_or_refuses found lines next) mid now end
told_at None fault lines next mid now end is does = absurd (none-some fault is)
told_at (Some other) fault lines next mid now end is does =
    subst (λ (x : ReplayFault). Does (says_last 3 (replay_fault_line x)) mid now end) (sym (same_Some other fault is)) does

-- ---- the events that are left

drop_next : (xs : List Entry) (i : ℕ) (x : Entry) → slice_get xs i ≡ Some x → drop i xs ≡ x ∷ drop (suc i) xs
drop_next [] i x at = absurd (let u : ⊥ = cc in u)
drop_next (y ∷ ys) zero x at = ap (λ (z : Entry). z ∷ ys) (same_Some y x at)
drop_next (y ∷ ys) (suc i) x at = drop_next ys i x at

take_next : (xs : List Entry) (i : ℕ) (x : Entry) → slice_get xs i ≡ Some x → take (suc i) xs ≡ take i xs ++ x ∷ []
take_next [] i x at = absurd (let u : ⊥ = cc in u)
take_next (y ∷ ys) zero x at = ap (λ (z : Entry). z ∷ []) (same_Some y x at)
take_next (y ∷ ys) (suc i) x at = ap (λ (l : List Entry). y ∷ l) (take_next ys i x at)

-- ---- the loop

module _ (s : Settings) (f : Finds) (entries : List Entry) where
  abbrev Whole : Script
  Whole = replays_events s f [] entries

  abbrev left_at : ℕ → Script
  left_at i = replays_events s f (take i entries) (drop i entries)

  pub went_none : (r : Replaying) (t : Told) → StandsBehind s f [] r → ReplayedTo s f entries 0 r t t
  went_none r t stands = record { stands = stands; leads = λ behind end does. does }

  module _ (i : ℕ) (e : Entry) (at : slice_get entries i ≡ Some e) where
    abbrev here : List ℕ
    here = entry_text s f (take i entries) e

    abbrev next : Script
    next = replays_events s f (take i entries ++ e ∷ []) (drop (suc i) entries)

    -- what is left begins with this event
    begins : (mid now : Told) (end : End) → Does (prints_or_refuses (fault_of_trace_event s f (take i entries) e) here next) mid now end → Does (left_at i) mid now end
    unfolding replays_events
    begins mid now end does =
        subst (λ (xs : List Entry). Does (replays_events s f (take i entries) xs) mid now end) (sym (drop_next entries i e at)) does

    -- one event more
    more : (r new : Replaying) (before mid now : Told) → ReplayedTo s f entries i r before mid → WentEvent s f (take i entries) e new mid now
        → ReplayedTo s f entries (suc i) new before now
    more r new before mid now to one = record {
      stands = subst (λ (xs : List Entry). StandsBehind s f xs new) (sym (take_next entries i e at)) one.stands;
      leads = λ behind end does.
          to.leads behind end (begins mid behind end (done_at (fault_of_trace_event s f (take i entries) e) here next mid now behind end one.none one.printed
          (subst (λ (xs : List Entry). Does (replays_events s f xs (drop (suc i) entries)) now behind end) (take_next entries i e at) does)));
    }

    pub went_more : (r new : Replaying) (before mid now : Told) → ReplayedTo s f entries i r before mid → WentEvent s f (take i entries) e new mid now
        → ReplayedTo s f entries (i + 1) new before now
    went_more r new before mid now to one =
        let plus : suc i ≡ i + 1 = omega arith in
        subst (λ (n : ℕ). ReplayedTo s f entries n new before now) plus (more r new before mid now to one)

    -- memory ran out
    spent_here : (mid : Told) → Does (left_at i) mid mid OutOfMemory
    spent_here mid = begins mid mid OutOfMemory (spent_at (fault_of_trace_event s f (take i entries) e) here next mid)

    -- an event that isn't taken
    refused : (r : Replaying) (fault : ReplayFault) (before mid now : Told) → ReplayedTo s f entries i r before mid → RefusesEvent s f (take i entries) e fault mid now
        → LeadsOn Whole (says_last 3 (replay_fault_line fault)) before now
    refused r fault before mid now to one behind end does =
        to.leads behind end (begins mid behind end (told_at (fault_of_trace_event s f (take i entries) e) fault here next mid behind end one.is
        (subst (λ (t : Told). Does (says_last 3 (replay_fault_line fault)) t behind end) one.rests does)))

    pub went_err : (r new : Replaying) (fault : ReplayFault) (before mid now : Told) → ReplayedTo s f entries i r before mid
        → ReplaysEvent s f (take i entries) e new mid now (Err fault) → ReplaysEvents s f entries before now (Err fault)
    went_err r new (NoConn line conn) before mid now to one = refused r (NoConn line conn) before mid now to one
    went_err r new (ConnTwice line conn) before mid now to one = refused r (ConnTwice line conn) before mid now to one
    went_err r new (MomentBack line was moment) before mid now to one = refused r (MomentBack line was moment) before mid now to one
    went_err r new (NoKey line engine rbc) before mid now to one = refused r (NoKey line engine rbc) before mid now to one
    went_err r new (Many line live) before mid now to one = refused r (Many line live) before mid now to one
    went_err r new Sink before mid now to one =
        to.leads now Sunk (begins mid now Sunk (sank_at (fault_of_trace_event s f (take i entries) e) here next mid now one.none one.sank))
    went_err r new (NoMemory want) before mid now to one =
        to.leads now OutOfMemory (subst (λ (t : Told). Does (left_at i) mid t OutOfMemory) (sym one) (spent_here mid))

  -- all events were replayed
  pub went_end : (i : ℕ) (r : Replaying) (before now : Told) → ReplayedTo s f entries i r before now → length entries ≤ i → LeadsOn Whole (Ends 0) before now
  unfolding replays_events
  went_end i r before now to over behind end does =
      to.leads behind end (subst (λ (xs : List Entry). Does (replays_events s f (take i entries) xs) now behind end) (sym (drop_all i entries over)) does)

  -- ---- the end of a replay

  pub ended_all : (before now : Told) → LeadsOn Whole (Ends 0) before now → Does Whole before now (With 0)
  ended_all before now leads = leads now (With 0) (does_end 0 now)

  pub ended_part : (fault : ReplayFault) (before mid now : Told) (end : End) → ReplaysEvents s f entries before mid (Err fault) → TellsRefusal fault mid now end → Does Whole before now end
  ended_part (NoConn line conn) before mid now end leads tells = leads now end tells
  ended_part (ConnTwice line conn) before mid now end leads tells = leads now end tells
  ended_part (MomentBack line was moment) before mid now end leads tells = leads now end tells
  ended_part (NoKey line engine rbc) before mid now end leads tells = leads now end tells
  ended_part (Many line live) before mid now end leads tells = leads now end tells
  ended_part Sink before mid now end does tells =
      subst (λ (x : End). Does Whole before now x) (sym tells.1) (subst (λ (t : Told). Does Whole before t Sunk) (sym tells.0) does)
  ended_part (NoMemory want) before mid now end does tells =
      subst (λ (x : End). Does Whole before now x) (sym tells.1) (subst (λ (t : Told). Does Whole before t OutOfMemory) (sym tells.0) does)
