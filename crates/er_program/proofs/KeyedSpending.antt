-- Memory may run out as a trace, a recording or a tap is read, whatever it says.
use Rattle.std.proofs.Common.{◌≡◌, ℕ, Bool, List, [], ◌∷◌, Option, Some, None, Result, Ok, Err, codes}
use Rattle.er_base.specs.LineTexts.{line_text}
use Rattle.er_base.specs.declared.text_fault.TextFault.{TextFault}
use Rattle.er_base.specs.declared.text_fault.TextFault.TheVariants as text
use Rattle.er_settings.specs.Values.{Settings}
use Rattle.er_trace.specs.declared.entry.Entry.{Entry}
use Rattle.er_trace.specs.declared.trace.Trace.{Trace}
use Rattle.er_trace.specs.Texts.{header_words}
use Rattle.er_tap.specs.declared.tap.Tap.{Tap}
use Rattle.er_tap.specs.declared.tap_line.TapLine.{TapLine}
use Rattle.er_end_model.specs.Steps.{Finds}
use Rattle.safety_automaton.specs.Keys.{KmacEntry, key_at}
use Rattle.tap_model.specs.Lines.{TapFault, NoLinkAt, TwiceAt, fault_of_tap_lines}
use Rattle.trace_model.specs.declared.replay_fault.ReplayFault.{ReplayFault}
use Rattle.link_audit.specs.AuditLines.{lines_of_audit}
use Rattle.outside.specs.Doings.{Told}
use Rattle.outside.specs.Scripts.{OutOfMemory, Ends, Knowing, Does}
use Rattle.outside.specs.ScriptSteps.{does_spent, does_spent_unknowing}
use Rattle.er_statuses.specs.LastLines.{fault_line, why_word}
use Rattle.er_program.specs.Answers.{replay_fault_line}
use Rattle.er_program.specs.FileScripts.{prints_each}
use Rattle.er_program.specs.KeyedScripts.{replays_events, replays_read, first_event_fault, tells_check, checks_read, audits_lines, audits_read}

pub spent_replay : (known : List KmacEntry) (read : Result Trace TextFault) (t : Told) → Does (replays_read known read) t t OutOfMemory
spent_replay known (Ok trace) t =
    does_spent (λ text. text ≡ line_text (header_words trace.settings)) (replays_events trace.settings (key_at known) [] trace.entries) t
spent_replay known (Err (text.At line why)) t = does_spent (λ text. text ≡ fault_line line (why_word why)) (Ends 3) t
spent_replay known (Err (text.NoMemory want)) t = does_spent_unknowing ⊥ (Ends 7) t

pub spent_telling : (file : List ℕ) (s : Settings) (f : Finds) (entries : List Entry) (fault : Option ReplayFault) (t : Told) → Does (tells_check file s f entries fault) t t OutOfMemory
spent_telling file s f entries None t = does_spent _ _ t
spent_telling file s f entries (Some fault) t = does_spent (λ text. text ≡ replay_fault_line fault) (Ends 3) t

pub spent_check : (known : List KmacEntry) (file : List ℕ) (read : Result Trace TextFault) (t : Told) → Does (checks_read known file read) t t OutOfMemory
spent_check known file (Ok trace) t =
    spent_telling file trace.settings (key_at known) trace.entries (first_event_fault trace.settings (key_at known) [] trace.entries) t
spent_check known file (Err (text.At line why)) t = does_spent (λ text. text ≡ fault_line line (why_word why)) (Ends 3) t
spent_check known file (Err (text.NoMemory want)) t = does_spent_unknowing ⊥ (Ends 7) t

pub spent_lines : (lines : List (List ℕ)) (t : Told) → Does (prints_each (λ line. line) lines (Knowing (Unit {0}) (Ends 0))) t t OutOfMemory
unfolding prints_each
spent_lines [] t = does_spent_unknowing (Unit {0}) (Ends 0) t
spent_lines (line ∷ lines) t = does_spent (λ text. text ≡ line) (prints_each (λ line. line) lines (Knowing (Unit {0}) (Ends 0))) t

spent_auditing : (ends : Bool) (finds : Finds) (lines : List TapLine) (fault : Option TapFault) (t : Told) → Does (audits_lines ends finds lines fault) t t OutOfMemory
spent_auditing ends finds lines None t = spent_lines (lines_of_audit ends finds lines) t
spent_auditing ends finds lines (Some (NoLinkAt line n)) t = does_spent (λ text. text ≡ fault_line line (codes "nolink")) (Ends 3) t
spent_auditing ends finds lines (Some (TwiceAt line n)) t = does_spent (λ text. text ≡ fault_line line (codes "twice")) (Ends 3) t

pub spent_audit : (ends : Bool) (known : List KmacEntry) (read : Result Tap TextFault) (t : Told) → Does (audits_read ends known read) t t OutOfMemory
spent_audit ends known (Ok tap) t = spent_auditing ends (key_at known) tap.lines (fault_of_tap_lines tap.lines) t
spent_audit ends known (Err (text.At line why)) t = does_spent (λ text. text ≡ fault_line line (why_word why)) (Ends 3) t
spent_audit ends known (Err (text.NoMemory want)) t = does_spent_unknowing ⊥ (Ends 7) t
