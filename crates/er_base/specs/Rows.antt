-- Contract: how the code keeps a line's words and its fault.
use Rattle.std.specs.Prelude.{ℕ, ◌≡◌, ◌<◌, List, ◌∷◌, length, map, take, Result, Ok, Err}
use Rattle.er_base.specs.declared.why.Why.{Why}
use Rattle.er_base.specs.declared.line_fault.LineFault.{LineFault}
use Rattle.er_base.specs.declared.line_fault.LineFault.TheVariants as fault
use Rattle.er_base.specs.declared.lines.LineWords.{LineWords}
use Rattle.er_base.specs.Lines.{lines_of, rows_of}

-- the line that the code gives is the first one of a text that isn't skipped, of whose words the code keeps ten at the most
pub record IsFirstRow (before : ℕ) (text : List ℕ) (line : LineWords) (rest : List ℕ) : Type 0 where
  pub words : List (List ℕ)
  pub rows : rows_of before (lines_of text) ≡ record { number = line.number; words = words } ∷ rows_of line.number (lines_of rest)
  pub kept : map (λ w. w.now) line.words.items ≡ take 10 words
  pub some : 0 < length words

-- the fault is the line's, but for want of memory
abbrev pub Refuses : {A : Type 0} → LineFault → Result A Why → Type 0
Refuses (fault.Refused why) read = read ≡ Err why
Refuses (fault.NoMemory want) read = Unit {0}

-- what a reader of words answers is what they say, but for want of memory
abbrev pub AnswersAsWordsSay : {A : Type 0} → Result A LineFault → Result A Why → Type 0
AnswersAsWordsSay (Ok value) read = read ≡ Ok value
AnswersAsWordsSay (Err refused) read = Refuses refused read
