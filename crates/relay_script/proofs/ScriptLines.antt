-- The lines so far, before what those that are left say.
use Rattle.std.proofs.Common.{◌≡◌, List, [], ◌∷◌, ◌++◌, Result, Ok, Err, refl, ap, sym, ◌∙◌, append_assoc, append-nil}
use Rattle.er_base.specs.declared.why.Why.{Why}
use Rattle.er_base.specs.declared.line_fault.LineFault.{LineFault}
use Rattle.er_base.specs.declared.line_fault.LineFault.TheVariants as line
use Rattle.er_base.specs.declared.text_fault.TextFault.{TextFault}
use Rattle.er_base.specs.declared.text_fault.TextFault.TheVariants.{At}
use Rattle.er_base.specs.Lines.{Row}
use Rattle.er_base.specs.Rows.{Refuses}
use Rattle.relay_script.specs.declared.script_line.ScriptLine.{ScriptLine}
use Rattle.relay_script.specs.Answers.{AnswersAsScriptSays}
use Rattle.relay_script.specs.Files.{script_lines_with_first, script_line_says, script_lines_said, script_from}
use Rattle.relay_script.specs.Readings.{script_text_fault}
use Rattle.relay_script.specs.ScriptRanges.{IsLineInRange, AreLinesInRange}

abbrev pub behind : List ScriptLine → Result (List ScriptLine) TextFault → Result (List ScriptLine) TextFault
behind front (Err fault) = Err fault
behind front (Ok lines) = Ok (front ++ lines)

pub behind_none : (read : Result (List ScriptLine) TextFault) → behind [] read ≡ read
behind_none (Err fault) = refl
behind_none (Ok lines) = refl

line_more : (front : List ScriptLine) (x : ScriptLine) (rest : Result (List ScriptLine) TextFault)
    → behind front (script_lines_with_first x rest) ≡ behind (front ++ x ∷ []) rest
line_more front x (Err fault) = refl
line_more front x (Ok lines) = ap (λ (l : List ScriptLine). Ok l) (sym (append_assoc front (x ∷ []) lines))

-- one line more
pub one_line : (front : List ScriptLine) (x : ScriptLine) (row : Row) (rows : List Row) → script_line_says row.words ≡ Ok x
    → behind front (script_lines_said (row ∷ rows)) ≡ behind (front ++ x ∷ []) (script_lines_said rows)
unfolding script_lines_said
one_line front x row rows e = rw e (line_more front x (script_lines_said rows))

-- one that is refused
one_refused : (front : List ScriptLine) (why : Why) (row : Row) (rows : List Row) → script_line_says row.words ≡ Err why
    → behind front (script_lines_said (row ∷ rows)) ≡ Err (At row.number why)
unfolding script_lines_said
one_refused front why row rows e = rw e refl

pub refused_answers : (front : List ScriptLine) (fault : LineFault) (row : Row) (rows : List Row) (read : Result (List ScriptLine) TextFault)
    → Refuses fault (script_line_says row.words) → behind front (script_lines_said (row ∷ rows)) ≡ read
    → AnswersAsScriptSays (Err (script_text_fault row.number fault)) (script_from read)
refused_answers front (line.Refused why) row rows read refused all = ap script_from (sym all ∙ one_refused front why row rows refused)
refused_answers front (line.NoMemory want) row rows read refused all = tt

-- no line is left
pub none_left : (front : List ScriptLine) (read : Result (List ScriptLine) TextFault) → behind front (script_lines_said []) ≡ read
    → script_from read ≡ Ok (record { lines = front })
unfolding script_lines_said
none_left front read all = ap script_from (sym all ∙ ap (λ (l : List ScriptLine). Ok l) (append-nil front))

-- one line more whose numbers are in their ranges
pub ranged_more : (front : List ScriptLine) (x : ScriptLine) → AreLinesInRange front → IsLineInRange x → AreLinesInRange (front ++ x ∷ [])
ranged_more [] x h k = (k, tt)
ranged_more (first ∷ front) x h k = (h.0, ranged_more front x h.1 k)
