-- Representation: what the audit of a tap writes to the sink, and how it ends; no claim rests on it.
use Rattle.std.specs.Prelude.{◌≡◌, ◌⊎◌, ℕ, Bool, List, [], ◌++◌, None, Result, Ok, Err, codes}
use Rattle.er_base.specs.declared.text_fault.TextFault.{TextFault}
use Rattle.er_tap.specs.declared.tap.Tap.{Tap}
use Rattle.er_tap.specs.declared.tap_line.TapLine.{TapLine}
use Rattle.er_end_model.specs.Steps.{Finds}
use Rattle.safety_automaton.specs.Keys.{KmacEntry, key_at}
use Rattle.outside.specs.Doings.{Told}
use Rattle.outside.specs.Scripts.{End, Sunk, OutOfMemory, Does, says_last}
use Rattle.tap_model.specs.declared.audit_fault.AuditFault.{AuditFault}
use Rattle.tap_model.specs.declared.audit_fault.AuditFault.TheVariants.{NoLink, LinkTwice, Sink, NoMemory}
use Rattle.tap_model.specs.Lines.{fault_of_tap_lines}
use Rattle.tap_model.specs.EndTexts.{text_of_audit}
use Rattle.er_statuses.specs.LastLines.{fault_line}
use Rattle.er_statuses.specs.Answers.{Answer}
use Rattle.er_program.specs.Answers.{lines_answer, tap_answer}

-- ---- the answers, as kinds of one

abbrev pub IsLinesAnswer : (ends : Bool) → Finds → List TapLine → Answer → Type 0
IsLinesAnswer ends finds lines a = a ≡ lines_answer ends finds lines (fault_of_tap_lines lines)

abbrev pub IsTapAnswer : (ends : Bool) → List KmacEntry → Result Tap TextFault → Answer → Type 0
IsTapAnswer ends keys read a = a ≡ tap_answer ends keys read

-- ---- what is written where memory runs out

-- a beginning of the lines of an audit
pub record BeginsAudit (ends : Bool) (finds : Finds) (lines : List TapLine) (text : List ℕ) : Type 0 where
  pub in_order : fault_of_tap_lines lines ≡ None
  pub rest : List ℕ
  pub is : text ++ rest ≡ text_of_audit ends finds lines

abbrev pub BeginsLines : (ends : Bool) → Finds → List TapLine → List ℕ → Type 0
BeginsLines ends finds lines text = (text ≡ []) ⊎ BeginsAudit ends finds lines text

-- where the file spells a tap
abbrev pub BeginsSpelledTap : (ends : Bool) → List KmacEntry → Result Tap TextFault → List ℕ → Type 0
BeginsSpelledTap ends keys (Err fault) text = ⊥
BeginsSpelledTap ends keys (Ok tap) text = BeginsAudit ends (key_at keys) tap.lines text

abbrev pub BeginsTap : (ends : Bool) → List KmacEntry → Result Tap TextFault → List ℕ → Type 0
BeginsTap ends keys read text = (text ≡ []) ⊎ BeginsSpelledTap ends keys read text

-- ---- the fault of an audit

-- a line's refusal was told; where a write had failed or memory had run out, nothing was done
abbrev pub TellsTapFault : AuditFault → (before now : Told) → End → Type 0
TellsTapFault (NoLink line n) before now end = Does (says_last 3 (fault_line line (codes "nolink"))) before now end
TellsTapFault (LinkTwice line n) before now end = Does (says_last 3 (fault_line line (codes "twice"))) before now end
TellsTapFault Sink before now end = (now ≡ before) × (end ≡ Sunk)
TellsTapFault (NoMemory want) before now end = (now ≡ before) × (end ≡ OutOfMemory)
