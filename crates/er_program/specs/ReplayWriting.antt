-- Representation: what the replay of a trace writes to the sink, and how it ends; no claim rests on it.
use Rattle.std.specs.Prelude.{◌≡◌, ◌⊎◌, ℕ, ◌≤◌, List, [], ◌++◌, Option, Result, Ok, Err}
use Rattle.er_base.specs.declared.text_fault.TextFault.{TextFault}
use Rattle.er_settings.specs.Values.{Settings}
use Rattle.er_trace.specs.declared.entry.Entry.{Entry as TraceEntry}
use Rattle.er_trace.specs.declared.trace.Trace.{Trace}
use Rattle.er_end_model.specs.Steps.{Finds}
use Rattle.trace_model.specs.Printed.{text_of_trace}
use Rattle.trace_model.specs.Replays.{AreTaken}
use Rattle.safety_automaton.specs.Keys.{KmacEntry, key_at}
use Rattle.link_trait.specs.Outside.{Grew}
use Rattle.er_statuses.specs.Answers.{Answer}
use Rattle.er_program.specs.KeyWriting.{GaveOne, BrokeOne}
use Rattle.er_statuses.specs.declared.status.Status.{Status}
use Rattle.er_statuses.specs.declared.stop.Stop.{Stop}
use Rattle.er_statuses.specs.declared.stop.Stop.TheVariants as stop

-- ---- an answer of a kind

-- a text of this kind was written
pub record BeganOne (IsBegun : List ℕ → Type 0) (before now : Option (List ℕ)) (f g : ℕ) : Type 0 where
  pub text : List ℕ
  pub begun : IsBegun text
  pub written : Grew before now text
  pub later : f ≤ g

-- an answer of one kind was given, or a beginning of it where the sink failed, or a text of the other kind where memory ran out
abbrev pub EndsOne : (Answer → Type 0) → (List ℕ → Type 0) → Option (List ℕ) → Option (List ℕ) → ℕ → ℕ → Result Status Stop → Type 0
EndsOne Is IsBegun before now f g (Ok s) = GaveOne Is before now f g s.0
EndsOne Is IsBegun before now f g (Err stop.Sink) = BrokeOne Is before now f g
EndsOne Is IsBegun before now f g (Err (stop.NoMemory want)) = BeganOne IsBegun before now f g

-- ---- what is written where memory runs out

-- a beginning of the printed text of some first events, which are taken
pub record BeginsEvents (settings : Settings) (finds : Finds) (entries : List TraceEntry) (text : List ℕ) : Type 0 where
  pub first : List TraceEntry
  pub others : List TraceEntry
  pub are_first : entries ≡ first ++ others
  pub taken : AreTaken settings finds first
  pub rest : List ℕ
  pub is : text ++ rest ≡ text_of_trace settings finds first

-- where the file spells a trace
abbrev pub BeginsSpelled : List KmacEntry → Result Trace TextFault → List ℕ → Type 0
BeginsSpelled keys (Err fault) text = ⊥
BeginsSpelled keys (Ok trace) text = BeginsEvents trace.settings (key_at keys) trace.entries text

abbrev pub BeginsTrace : List KmacEntry → Result Trace TextFault → List ℕ → Type 0
BeginsTrace keys read text = (text ≡ []) ⊎ BeginsSpelled keys read text
