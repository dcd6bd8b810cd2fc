-- Contract: how a part of the loop that calls no wires ends: what it leaves and prints, or where it breaks off.
use Rattle.er_end.specs.KeptEnds.{KEnd}
use Rattle.loop_session.specs.Keeping.{kept_ends}
use Rattle.std.specs.Prelude.{◌≡◌, ℕ, ◌≤◌, true, false, List, [], ◌∷◌, ◌++◌, length, drop, Option, Result, Ok, Err}
use Rattle.safety_automaton.specs.Keys as keys
use Rattle.er_users.specs.Users.{Mind}
use Rattle.link_trait.specs.Outside.{Rose}
use Rattle.loop_model.specs.Grammar.{AreInGrammar}
use Rattle.loop_model.specs.Journals.{JournalEntry, entry_text}
use Rattle.loop_model.specs.Outs.{part_for_each_answer}
use Rattle.loop_model.specs.Sessions.{Rules, Session, Says, poured}
use Rattle.outside.specs.Acts.{Act, Wrote}
use Rattle.outside.specs.Doings.{Told, Did}
use Rattle.outside.specs.Scripts.{printing}
use Rattle.loop_session.specs.declared.loop_fault.LoopFault.{LoopFault}
use Rattle.loop_session.specs.declared.loop_fault.LoopFault.TheVariants.{Wires, Sink, NoMemory}

-- what a session goes by
abbrev pub rules_of_session : List keys.KmacEntry → ℕ → Rules
rules_of_session entries setup = record { keys = entries; setup = setup }

-- ---- acts

-- the writes of events: the lines of each in one
abbrev pub writes_of_entries : List JournalEntry → List Act
writes_of_entries [] = []
writes_of_entries (x ∷ xs) = printing (entry_text x) ++ writes_of_entries xs

-- what a part that calls no wires leaves alone: the wires, the clock and the random words; and the sink's count of faults doesn't fall
pub record OnlyPrints (before now : Told) : Type 0 where
  pub wires : now.wires ≡ before.wires
  pub clock : now.clock ≡ before.clock
  pub words : now.words ≡ before.words
  pub later : before.sink.faults ≤ now.sink.faults

-- ---- a part that broke off

-- how often the sink failed, before a part that broke off and behind it: more often where it broke off for that; want of memory is no
-- fault of the sink. No part that calls no wires breaks off for theirs
abbrev pub FailedFor : LoopFault → ℕ → ℕ → Type 0
FailedFor Wires f g = ⊥
FailedFor Sink f g = Rose f g
FailedFor (NoMemory want) f g = f ≤ g

-- the write that was next failed, and nothing was done behind it
pub record FailsAtWrite (done left acts : List Act) : Type 0 where
  pub piece : List ℕ
  pub rest : List Act
  pub next : left ≡ Wrote piece true ∷ rest
  pub are : acts ≡ done ++ Wrote piece false ∷ []

-- the last act: the sink failed at the write that was next; where memory ran out, what was to be done is left
abbrev pub BreaksFor : LoopFault → (done left acts : List Act) → Type 0
BreaksFor Wires done left acts = ⊥
BreaksFor Sink done left acts = FailsAtWrite done left acts
BreaksFor (NoMemory want) done left acts = acts ≡ done

-- these acts are a beginning of all that were to be done, up to where it broke off
pub record AreBegun (fault : LoopFault) (all acts : List Act) : Type 0 where
  pub done : List Act
  pub left : List Act
  pub is : done ++ left ≡ all
  pub breaks : BreaksFor fault done left acts

-- a part broke off, since the sink failed or memory ran out: a beginning of its acts was done, and nothing else
pub record Breaks (before now : Told) (all : List Act) (fault : LoopFault) : Type 0 where
  pub acts : List Act
  pub did : Did before now acts
  pub begun : AreBegun fault all acts

-- these acts were done, or the part broke off
abbrev pub Puts : {T : Type 0} → Told → Told → List Act → Result T LoopFault → Type 0
Puts before now all (Ok done) = Did before now all
Puts before now all (Err fault) = Breaks before now all fault

-- ---- events

-- a part left this state, the lines of its events were written and nothing else was done, and they are in the grammar of traces
pub record Printed {S : Type 0} (before now : Told) (new : S) (a : S × List JournalEntry) : Type 0 where
  pub state : new ≡ a.0
  pub did : Did before now (writes_of_entries a.1)
  pub in_grammar : AreInGrammar a.1

abbrev pub Prints : {T S : Type 0} → Told → Told → S → S × List JournalEntry → Result T LoopFault → Type 0
Prints before now new a (Ok done) = Printed before now new a
Prints before now new a (Err fault) = Breaks before now (writes_of_entries a.1) fault

-- there are answers for which the model gives this state and prints what was written
pub record Chose {S A : Type 0} (before now : Told) (new : S) (model : A → S × List JournalEntry) : Type 0 where
  pub answers : A
  pub is : Printed before now new (model answers)

-- there are answers for which what was written is a beginning of what the model prints
pub record BrokeOff {S A : Type 0} (before now : Told) (model : A → S × List JournalEntry) (fault : LoopFault) : Type 0 where
  pub answers : A
  pub breaks : Breaks before now (writes_of_entries (model answers).1) fault

abbrev pub Chooses : {T S A : Type 0} → Told → Told → S → (A → S × List JournalEntry) → Result T LoopFault → Type 0
Chooses before now new model (Ok done) = Chose before now new model
Chooses before now new model (Err fault) = BrokeOff before now model fault

-- a part was done once for each of so many answers
pub record WentSome {S A : Type 0} (count : ℕ) (before now : Told) (part : S → A → S × List JournalEntry) (old new : S) : Type 0 where
  pub answers : List A
  pub many : length answers ≡ count
  pub is : Printed before now new (part_for_each_answer part old answers)

-- the same part, but the session's user has another mind
abbrev pub with_mind : Option Mind → Session KEnd × List JournalEntry → Session KEnd × List JournalEntry
with_mind mind a = (record a.0 { mind = mind }, a.1)

-- so many octets of a read were given to the end
pub record Pouring (r : Rules) (m : ℕ) (octets : List ℕ) (count : ℕ) (before now : Told) (old new : Session KEnd) : Type 0 where
  pub answers : List Says
  pub few : length answers ≤ count
  pub most : count ≤ length octets
  pub is : Printed before now (new, drop count octets) (part_for_each_answer (poured kept_ends r m) (old, octets) answers)
