-- Contract: what an audit does, by its answer.
use Rattle.std.specs.Prelude.{◌≡◌, Bool, List, Some, None, Result, Ok, Err}
use Rattle.er_tap.specs.declared.tap_line.TapLine.{TapLine}
use Rattle.er_end_model.specs.Steps.{Finds}
use Rattle.outside.specs.Doings.{Told, Did}
use Rattle.tap_model.specs.declared.audit_fault.AuditFault.{AuditFault}
use Rattle.tap_model.specs.declared.audit_fault.AuditFault.TheVariants.{NoLink, LinkTwice, Sink, NoMemory}
use Rattle.tap_model.specs.Lines.{NoLinkAt, TwiceAt, fault_of_tap_lines}
use Rattle.link_audit.specs.AuditLines.{lines_of_audit}
use Rattle.link_audit.specs.Writes.{writing, SankAmong, SpentAmong}

-- the lines of the tap stand in order, and all lines of the audit were written, or the first ones; or one doesn't, and nothing was done
abbrev pub DoesAudit : (ends : Bool) → Finds → List TapLine → (before now : Told) → Result (Unit {0}) AuditFault → Type 0
DoesAudit ends finds lines before now (Ok done) = (fault_of_tap_lines lines ≡ None) × Did before now (writing (lines_of_audit ends finds lines))
DoesAudit ends finds lines before now (Err (NoLink line n)) = (fault_of_tap_lines lines ≡ Some (NoLinkAt line n)) × (now ≡ before)
DoesAudit ends finds lines before now (Err (LinkTwice line n)) = (fault_of_tap_lines lines ≡ Some (TwiceAt line n)) × (now ≡ before)
DoesAudit ends finds lines before now (Err Sink) = (fault_of_tap_lines lines ≡ None) × SankAmong (lines_of_audit ends finds lines) before now
DoesAudit ends finds lines before now (Err (NoMemory want)) = (fault_of_tap_lines lines ≡ None) × SpentAmong (lines_of_audit ends finds lines) before now
