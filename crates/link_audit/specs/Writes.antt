-- Contract: how lines are written one by one, each by a write of its own.
use Rattle.std.specs.Prelude.{◌≡◌, ℕ, Bool, true, false, List, [], ◌∷◌, ◌++◌, Result, Ok, Err}
use Rattle.er_base.specs.declared.side.Side.{Side}
use Rattle.er_base.specs.LineTexts.{line_text}
use Rattle.outside.specs.Acts.{Act, Wrote}
use Rattle.outside.specs.Doings.{Told, Did}
use Rattle.outside.specs.Scripts.{printing}
use Rattle.tap_model.specs.Verdicts.{Known, judged_from}
use Rattle.tap_model.specs.declared.audit_fault.AuditFault.{AuditFault}
use Rattle.tap_model.specs.declared.audit_fault.AuditFault.TheVariants.{NoLink, LinkTwice, Sink, NoMemory}
use Rattle.link_audit.specs.declared.told.Told.{Told as ToldEnd}
use Rattle.link_audit.specs.AuditLines.{lines_of_side}
use Rattle.link_audit.specs.Counts.{told_words}
use Rattle.link_audit.specs.Streams.{KItems}

-- the acts by which lines were written, each by itself
unfoldable pub writing : List (List ℕ) → List Act
writing [] = []
writing (line ∷ lines) = printing line ++ writing lines

-- the first of these lines were written, and the write of the next one failed
pub record SankAmong (lines : List (List ℕ)) (before now : Told) : Type 0 where
  pub first : List (List ℕ)
  pub line : List ℕ
  pub rest : List (List ℕ)
  pub are : lines ≡ first ++ line ∷ rest
  pub did : Did before now (writing first ++ Wrote line false ∷ [])

-- the first of these lines were written, and then memory ran out
pub record SpentAmong (lines : List (List ℕ)) (before now : Told) : Type 0 where
  pub first : List (List ℕ)
  pub rest : List (List ℕ)
  pub are : lines ≡ first ++ rest
  pub did : Did before now (writing first)

abbrev pub WritesLines : (before now : Told) → List (List ℕ) → Result (Unit {0}) AuditFault → Type 0
WritesLines before now lines (Ok done) = Did before now (writing lines)
WritesLines before now lines (Err (NoLink line n)) = ⊥
WritesLines before now lines (Err (LinkTwice line n)) = ⊥
WritesLines before now lines (Err Sink) = SankAmong lines before now
WritesLines before now lines (Err (NoMemory want)) = SpentAmong lines before now

-- ---- the parts

-- the line of a side's end, where ends are asked for
abbrev pub lines_of_told : (ends : Bool) → ℕ → Side → ToldEnd → List (List ℕ)
lines_of_told false n side told = []
lines_of_told true n side told = line_text (told_words n side told) ∷ []

-- the lines of a side, and that of its end where ends are asked for
abbrev pub side_with_end : (ends : Bool) → ℕ → Side → Known → KItems → List (List ℕ)
side_with_end ends n side known k = lines_of_side n side (judged_from known side 0 k.left) ++ lines_of_told ends n side k.told

-- what is left leads from here to where all leads from the beginning
abbrev pub LeadsToSameWriting : (before : Told) → (all : List (List ℕ)) → (here : Told) → (left : List (List ℕ)) → Type 0
LeadsToSameWriting before all here left =
    (now : Told) (result : Result (Unit {0}) AuditFault) → WritesLines here now left result → WritesLines before now all result
