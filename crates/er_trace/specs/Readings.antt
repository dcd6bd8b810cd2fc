-- Representation: what the reading calls answer, want of memory aside; no claim rests on it.
use Rattle.std.specs.Prelude.{ℕ, ◌<◌, ◌^◌, List, [], ◌∷◌, Result, Ok, Err}
use Rattle.er_base.specs.declared.why.Why.{Why}
use Rattle.er_base.specs.declared.why.Why.TheVariants.{Count}
use Rattle.er_base.specs.declared.line_fault.LineFault.{LineFault}
use Rattle.er_base.specs.declared.line_fault.LineFault.TheVariants as line
use Rattle.er_base.specs.declared.text_fault.TextFault.{TextFault}
use Rattle.er_base.specs.declared.text_fault.TextFault.TheVariants as text
use Rattle.er_base.specs.Arguments.{◌>>=◌, number_argument, text_argument, number16_argument}
use Rattle.er_base.specs.LineFaults.{values_of}
use Rattle.er_trace.specs.declared.argument_kind.ArgumentKind.{ArgumentKind}
use Rattle.er_trace.specs.declared.argument_kind.ArgumentKind.TheVariants.{Decimal, Hex, Number16, Releaser}
use Rattle.er_trace.specs.declared.event.Event.{Event}
use Rattle.er_trace.specs.declared.event_name.EventName.{EventName}
use Rattle.er_trace.specs.declared.said.Said.{Said}
use Rattle.er_trace.specs.declared.said.Said.TheVariants.{Happens, Tells}
use Rattle.er_trace.specs.Ranges.{IsMoment, IsInRange}
use Rattle.er_trace.specs.Table.{releaser_argument, argument_of, event_kinds, event_made}

-- the event of a line that names it and has as many words behind it as it wants
abbrev pub event_said : EventName → List (List ℕ) → Result Event Why
event_said name words = values_of argument_of (event_kinds name) words >>= λ values. Ok (event_made name values)

-- a word that is an argument of a kind, whose meaning is dropped
abbrev pub is_argument : ArgumentKind → List ℕ → Result (Unit {0}) Why
is_argument (Decimal most) word = number_argument 0 most word >>= λ n. Ok tt
is_argument Hex word = text_argument 4096 word >>= λ octets. Ok tt
is_argument Number16 word = number16_argument word >>= λ n. Ok tt
is_argument Releaser word = releaser_argument word >>= λ by_peer. Ok tt

-- words that are arguments of these kinds
unfoldable pub are_arguments : List ArgumentKind → List (List ℕ) → Result (Unit {0}) Why
are_arguments [] [] = Ok tt
are_arguments [] (word ∷ words) = Err Count
are_arguments (kind ∷ kinds) [] = Err Count
are_arguments (kind ∷ kinds) (word ∷ words) = is_argument kind word >>= λ done. are_arguments kinds words

-- where the text is faulty, where its line was
abbrev pub trace_text_fault : ℕ → LineFault → TextFault
trace_text_fault number (line.Refused why) = text.At number why
trace_text_fault number (line.NoMemory want) = text.NoMemory want

-- what a line says is in its range
abbrev pub IsWellSaid : Said → Type 0
IsWellSaid (Happens at conn event) = IsMoment at × (conn < 2 ^ 64) × IsInRange event
IsWellSaid Tells = Unit {0}
