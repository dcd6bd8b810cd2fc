-- Contract: how a part of the loop that calls wires ends: what it leaves, prints and calls, or where it breaks off.
use Rattle.std.specs.Prelude.{◌≡◌, ◌≤◌, Bool, true, false, List, [], ◌∷◌, ◌++◌, filter, Result, Ok, Err}
use Rattle.link_trait.specs.Outside.{Grew}
use Rattle.loop_model.specs.Grammar.{AreInGrammar}
use Rattle.loop_model.specs.Journals.{entry_text, text}
use Rattle.loop_model.specs.Deeds.{LoopDeed, Printing, Calling, Sign, signs, text_of, calls_of}
use Rattle.loop_model.specs.Outs.{Out, HasOrder}
use Rattle.outside.specs.Acts.{Act, Fetched, Wrote, Called, Asked, Drew}
use Rattle.outside.specs.Doings.{Told, Did}
use Rattle.outside.specs.Scripts.{printing}
use Rattle.outside.specs.Seen.{seen_of_call}
use Rattle.loop_session.specs.declared.loop_fault.LoopFault.{LoopFault}
use Rattle.loop_session.specs.Parts.{FailedFor, AreBegun}
use Rattle.loop_io.specs.Seeing.{Seen, AreAnsweredSo, Counts}

-- ---- acts

-- the acts of a deed: the lines of an event are written in one, or the call is made
abbrev pub acts_of_deed : LoopDeed → List Act
acts_of_deed (Printing x) = printing (entry_text x)
acts_of_deed (Calling call) = Called (seen_of_call call) ∷ []

abbrev pub acts_of_deeds : List LoopDeed → List Act
acts_of_deeds [] = []
acts_of_deeds (deed ∷ deeds) = acts_of_deed deed ++ acts_of_deeds deeds

-- an act that isn't a question to the clock or the draw of a random word
abbrev pub is_of_deeds : Act → Bool
is_of_deeds (Fetched name answer) = true
is_of_deeds (Wrote piece done) = true
is_of_deeds (Called call) = true
is_of_deeds (Asked moment) = false
is_of_deeds (Drew word) = false

-- these deeds were done, in their one order, and nothing else was; but that the clock may have been asked, and words drawn, before and behind each
pub record DidDeeds (before now : Told) (deeds : List LoopDeed) : Type 0 where
  pub acts : List Act
  pub did : Did before now acts
  pub are : filter is_of_deeds acts ≡ acts_of_deeds deeds

-- a beginning of them was done so, up to where a part broke off
pub record BeganDeeds (before now : Told) (deeds : List LoopDeed) (fault : LoopFault) : Type 0 where
  pub acts : List Act
  pub did : Did before now acts
  pub begun : AreBegun fault (acts_of_deeds deeds) (filter is_of_deeds acts)

-- ---- parts

-- a part left this state; the text of its events was written, they are in the grammar of traces, and its calls were made; each in its place in
-- the one order of what it prints and calls
pub record Acted {S : Type 0} (a b : Seen) (new : S) (o : Out S) : Type 0 where
  pub state : new ≡ o.state
  pub printed : Grew a.held b.held (text o.entries)
  pub later : a.sunk ≤ b.sunk
  pub told : Grew a.calls b.calls o.calls
  pub answered : AreAnsweredSo o.calls
  pub counted : Counts a.failed b.failed o.calls
  pub in_grammar : AreInGrammar o.entries
  pub has_order : HasOrder o
  pub did : DidDeeds a.told b.told o.order

-- a part broke off, since the sink failed or memory ran out: a beginning of what comes out of it came out, octets of its text and calls in their
-- one order
pub record BreaksAt {S : Type 0} (a b : Seen) (o : Out S) (fault : LoopFault) : Type 0 where
  pub part : List Sign
  pub rest : List Sign
  pub is : part ++ rest ≡ signs o.order
  pub printed : Grew a.held b.held (text_of part)
  pub told : Grew a.calls b.calls (calls_of part)
  pub answered : AreAnsweredSo (calls_of part)
  pub counted : Counts a.failed b.failed (calls_of part)
  pub failed : FailedFor fault a.sunk b.sunk
  pub began : BeganDeeds a.told b.told o.order fault

-- there are answers for which the model gives this state, prints what was written and makes the calls that were made
pub record ActedSo {S A : Type 0} (a b : Seen) (new : S) (model : A → Out S) : Type 0 where
  pub answers : A
  pub is : Acted a b new (model answers)

-- there are answers for which what was written and called is a beginning of what the model gives
pub record Stopped {S A : Type 0} (a b : Seen) (model : A → Out S) (fault : LoopFault) : Type 0 where
  pub answers : A
  pub breaks : BreaksAt a b (model answers) fault

abbrev pub DoesLoopPart : {T S A : Type 0} → Seen → Seen → S → (A → Out S) → Result T LoopFault → Type 0
DoesLoopPart a b new model (Ok done) = ActedSo a b new model
DoesLoopPart a b new model (Err fault) = Stopped a b model fault
