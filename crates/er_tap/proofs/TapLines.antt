-- The lines so far, before what those that are left say.
use Rattle.std.proofs.Common.{◌≡◌, List, [], ◌∷◌, ◌++◌, Result, Ok, Err, refl, ap, sym, ◌∙◌, append_assoc, append-nil}
use Rattle.er_base.specs.declared.why.Why.{Why}
use Rattle.er_base.specs.declared.line_fault.LineFault.{LineFault}
use Rattle.er_base.specs.declared.line_fault.LineFault.TheVariants as line
use Rattle.er_base.specs.declared.text_fault.TextFault.{TextFault}
use Rattle.er_base.specs.declared.text_fault.TextFault.TheVariants.{At, NoMemory}
use Rattle.er_base.specs.Lines.{Row}
use Rattle.er_base.specs.Rows.{Refuses}
use Rattle.er_tap.specs.declared.tap.Tap.{Tap}
use Rattle.er_tap.specs.declared.tap_line.TapLine.{TapLine}
use Rattle.er_tap.specs.declared.tap_step.TapStep.{TapStep}
use Rattle.er_tap.specs.Answers.{AnswersAsTapSays}
use Rattle.er_tap.specs.Files.{tap_lines_with_first, line_says, lines_said, tap_from}
use Rattle.er_tap.specs.Ranges.{IsInRange, AreInRange}
use Rattle.er_tap.specs.Readings.{tap_text_fault, RefusesLines}

abbrev pub behind : List TapLine → Result (List TapLine) TextFault → Result (List TapLine) TextFault
behind front (Err fault) = Err fault
behind front (Ok lines) = Ok (front ++ lines)

pub behind_none : (read : Result (List TapLine) TextFault) → behind [] read ≡ read
behind_none (Err fault) = refl
behind_none (Ok lines) = refl

pub line_more : (front : List TapLine) (x : TapLine) (rest : Result (List TapLine) TextFault)
    → behind front (tap_lines_with_first x rest) ≡ behind (front ++ x ∷ []) rest
line_more front x (Err fault) = refl
line_more front x (Ok lines) = ap (λ (l : List TapLine). Ok l) (sym (append_assoc front (x ∷ []) lines))

-- one line more
pub one_line : (step : TapStep) (row : Row) (rows : List Row) → line_says row.words ≡ Ok step
    → lines_said (row ∷ rows) ≡ tap_lines_with_first (record { line = row.number; step = step }) (lines_said rows)
unfolding lines_said
one_line step row rows e = rw e refl

-- one that is refused
one_refused : (why : Why) (row : Row) (rows : List Row) → line_says row.words ≡ Err why → lines_said (row ∷ rows) ≡ Err (At row.number why)
unfolding lines_said
one_refused why row rows e = rw e refl

pub line_refused : (fault : LineFault) (row : Row) (rows : List Row) → Refuses fault (line_says row.words)
    → RefusesLines (tap_text_fault row.number fault) (lines_said (row ∷ rows))
line_refused (line.Refused why) row rows refused = one_refused why row rows refused
line_refused (line.NoMemory want) row rows refused = tt

pub refused_answers : (front : List TapLine) (fault : TextFault) (said all : Result (List TapLine) TextFault) → RefusesLines fault said
    → behind front said ≡ all → AnswersAsTapSays {A = Tap} (Err fault) (tap_from all)
refused_answers front (At number why) said all refused read = ap tap_from (sym read ∙ ap (behind front) refused)
refused_answers front (NoMemory want) said all refused read = tt

-- no line is left
pub none_left : (front : List TapLine) (read : Result (List TapLine) TextFault) → behind front (lines_said []) ≡ read
    → tap_from read ≡ Ok (record { lines = front })
unfolding lines_said
none_left front read all = ap tap_from (sym all ∙ ap (λ (l : List TapLine). Ok l) (append-nil front))

-- one line more whose numbers are in their ranges
pub ranged_more : (front : List TapLine) (x : TapLine) → AreInRange front → IsInRange x.step → AreInRange (front ++ x ∷ [])
ranged_more [] x h k = (k, tt)
ranged_more (first ∷ front) x h k = (h.0, ranged_more front x h.1 k)
