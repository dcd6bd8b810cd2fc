-- The words in which the loop is defined: what a part of it gives, one part behind another, and a part once for each answer.
use Rattle.std.specs.Prelude.{◌≡◌, ℕ, zero, suc, List, [], ◌∷◌, ◌++◌}
use Rattle.link_trait.specs.Wires.{Call}
use Rattle.loop_model.specs.Journals.{JournalEntry}
use Rattle.loop_model.specs.Deeds.{LoopDeed, Calling, entries_in, calls_in, printings}

-- what a part of the loop gives: the state behind it, the events of the journal, the calls on the wires; and these events and calls in the one
-- order in which they come
pub record Out (S : Type 0) : Type 0 where
  pub state : S
  pub entries : List JournalEntry
  pub calls : List Call
  pub order : List LoopDeed

-- the events and the calls are those of that order
pub record HasOrder {S : Type 0} (part : Out S) : Type 0 where
  pub entries : entries_in part.order ≡ part.entries
  pub calls : calls_in part.order ≡ part.calls

-- nothing happens
abbrev pub still : {S : Type 0} → S → Out S
still s = record { state = s; entries = []; calls = []; order = [] }

-- one part, and behind it one that begins with its state
abbrev pub next : {S T : Type 0} → Out S → (S → Out T) → Out T
next a f = let b = f a.state in record { state = b.state; entries = a.entries ++ b.entries; calls = a.calls ++ b.calls; order = a.order ++ b.order }

-- the same, with what becomes of the state
abbrev pub changed : {S T : Type 0} → (S → T) → Out S → Out T
changed f a = record { state = f a.state; entries = a.entries; calls = a.calls; order = a.order }

-- a part that makes no call
abbrev pub prints : {S : Type 0} → S × List JournalEntry → Out S
prints x = record { state = x.0; entries = x.1; calls = []; order = printings x.1 }

-- a call on the wires, and nothing else
abbrev pub makes : {S : Type 0} → Call → S → Out S
makes call s = record { state = s; entries = []; calls = call ∷ []; order = Calling call ∷ [] }

-- a part that makes no call, once for each answer
unfoldable pub part_for_each_answer : {S A : Type 0} → (S → A → S × List JournalEntry) → S → List A → S × List JournalEntry
part_for_each_answer f s [] = (s, [])
part_for_each_answer f s (a ∷ answers) = let b = f s a in let c = part_for_each_answer f b.0 answers in (c.0, b.1 ++ c.1)

-- a part, once for each answer
unfoldable pub acts : {S A : Type 0} → (S → A → Out S) → S → List A → Out S
acts f s [] = still s
acts f s (a ∷ answers) = next (f s a) (λ t. acts f t answers)

-- the first so many answers, and a plain one for each that isn't there
unfoldable pub exactly : {A : Type 0} → ℕ → A → List A → List A
exactly zero plain answers = []
exactly (suc n) plain [] = plain ∷ exactly n plain []
exactly (suc n) plain (a ∷ answers) = a ∷ exactly n plain answers

-- the first answer, and a plain one where there is none
abbrev pub first_answer_of : {A : Type 0} → A → List A → A
first_answer_of plain [] = plain
first_answer_of plain (a ∷ answers) = a
