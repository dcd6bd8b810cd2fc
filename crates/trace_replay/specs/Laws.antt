-- What the definition of a check implies, in words of its own: it says that a recording is the same exactly where the lines that aren't skipped are
-- those that a replay prints, and each line is ended.
use Rattle.std.specs.Prelude.{ℕ, ◌≡◌, not, List, [], ◌∷◌, filter}
use Rattle.er_base.specs.Lines.{lines_of, is_skipped}
use Rattle.trace_model.specs.declared.check_verdict.CheckVerdict.TheVariants.{Same}
use Rattle.trace_model.specs.Recordings.{check_verdict}

-- its last octet is LF, where it has one
abbrev pub IsEnded : List ℕ → Type 0
IsEnded [] = Unit {0}
IsEnded (x ∷ []) = x ≡ 10
IsEnded (x ∷ y ∷ ys) = IsEnded (y ∷ ys)

-- line by line and octet by octet
pub record IsPrinted (file printed : List ℕ) : Type 0 where
  pub ended : IsEnded file
  pub lines : filter (λ line. not (is_skipped line)) (lines_of file) ≡ lines_of printed

-- refuses a check of words alone, of outcomes alone, one that takes a file that ends early, or one that takes a cut line
pub record SameIsPrinted : Type 0 where
  pub printed : (file printed : List ℕ) (outcomes : ℕ) → check_verdict file printed ≡ Same outcomes → IsPrinted file printed
  pub same : (file printed : List ℕ) → IsPrinted file printed → (outcomes : ℕ) × (check_verdict file printed ≡ Same outcomes)
