-- Lines that are printed one behind the other, and what was added at the end alone.
use Rattle.std.proofs.Common.{◌≡◌, ℕ, List, [], ◌∷◌, ◌++◌, Result, Ok, Err, OnErr, refl, ap, sym, ◌∙◌, append_assoc, append-nil}
use Rattle.er_base.specs.LineTexts.{line_text, lines_text}
use Rattle.er_base.specs.Printing.{Begins}

pub lines_text_append : (a b : List (List (List ℕ))) → lines_text (a ++ b) ≡ lines_text a ++ lines_text b
lines_text_append [] b = refl
lines_text_append (line ∷ lines) b =
    ap (λ (t : List ℕ). line_text line ++ t) (lines_text_append lines b) ∙ sym (append_assoc (line_text line) (lines_text lines) (lines_text b))

pub begins_same : (front whole : List ℕ) → whole ≡ front → Begins front whole
begins_same front whole e = record { rest = []; is = e ∙ sym (append-nil front) }

pub begins_more : (front whole more new : List ℕ) → Begins front whole → new ≡ whole ++ more → Begins front new
begins_more front whole more new b e =
    record { rest = b.rest ++ more; is = e ∙ ap (λ (l : List ℕ). l ++ more) b.is ∙ append_assoc front b.rest more }

pub begins_on : (front whole new : List ℕ) → Begins front whole → new ≡ whole → Begins front new
begins_on front whole new b e = record { rest = b.rest; is = e ∙ b.is }

pub on_err : {A E : Type 0} (P : Type 0) (r : Result A E) → P → OnErr r P
on_err P (Ok x) p = tt
on_err P (Err e) p = p
