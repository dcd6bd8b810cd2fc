-- Lemmas: the lines of an audit, one behind the other, are its text; for the proofs of the crates above.
use Rattle.std.proofs.Common.{◌≡◌, ◌∙◌, ℕ, zero, suc, ◌+◌, Bool, true, false, List, [], ◌∷◌, ◌++◌, Option, Some, None, refl, ap, ap₂, append-nil}
use Rattle.std.specs.List.{flat_map}
use Rattle.std.proofs.lemmas.Grind.{flat_map-append}
use Rattle.er_base.specs.declared.side.Side.{Side}
use Rattle.er_base.specs.declared.side.Side.TheVariants.{E, R}
use Rattle.er_base.specs.LineTexts.{line_text}
use Rattle.er_tap.specs.declared.tap_line.TapLine.{TapLine}
use Rattle.er_end_model.specs.Steps.{Finds}
use Rattle.tap_model.specs.EndTexts.{end_text, link_text_asked, links_text_asked, text_of_audit}
use Rattle.tap_model.specs.Lines.{TapOpening, tap_opening_of_link}
use Rattle.tap_model.specs.Texts.{item_words, side_text, judged_at, link_text, links_text}
use Rattle.tap_model.specs.Verdicts.{Judged}
use Rattle.link_audit.specs.AuditLines.{lines_of_side, lines_of_end, lines_of_link, lines_of_links, lines_of_audit}

-- lines, one behind the other
abbrev pub lines_joined : List (List ℕ) → List ℕ
lines_joined lines = flat_map (λ (line : List ℕ). line) lines

lines_joined_then : (xs ys : List (List ℕ)) → lines_joined (xs ++ ys) ≡ lines_joined xs ++ lines_joined ys
lines_joined_then xs ys = flat_map-append (λ (line : List ℕ). line) xs ys

side_joined : (n : ℕ) (side : Side) (all : List Judged) → lines_joined (lines_of_side n side all) ≡ side_text n side all
unfolding side_text
side_joined n side [] = refl
side_joined n side (j ∷ all) = ap (λ (t : List ℕ). line_text (item_words n side j) ++ t) (side_joined n side all)

end_joined : (ends : Bool) (lines : List TapLine) (n : ℕ) (side : Side) → lines_joined (lines_of_end ends lines n side) ≡ end_text ends lines n side
end_joined false lines n side = refl
end_joined true lines n side = append-nil (end_text true lines n side)

both_joined : (ends : Bool) (lines : List TapLine) (n : ℕ) (side : Side) (all : List Judged)
    → lines_joined (lines_of_side n side all ++ lines_of_end ends lines n side) ≡ side_text n side all ++ end_text ends lines n side
both_joined ends lines n side all =
    lines_joined_then (lines_of_side n side all) (lines_of_end ends lines n side)
    ∙ ap₂ (λ (s t : List ℕ). s ++ t) (side_joined n side all) (end_joined ends lines n side)

link_joined : (ends : Bool) (finds : Finds) (lines : List TapLine) (n : ℕ) (o : Option TapOpening)
    → lines_joined (lines_of_link ends finds lines n o) ≡ link_text_asked ends finds lines n o
link_joined ends finds lines n None = refl
link_joined ends finds lines n (Some o) =
    lines_joined_then (lines_of_side n E (judged_at finds n o lines E) ++ lines_of_end ends lines n E)
    (lines_of_side n R (judged_at finds n o lines R) ++ lines_of_end ends lines n R)
    ∙ ap₂ (λ (s t : List ℕ). s ++ t) (both_joined ends lines n E (judged_at finds n o lines E)) (both_joined ends lines n R (judged_at finds n o lines R))

links_joined : (ends : Bool) (finds : Finds) (lines : List TapLine) (n count : ℕ)
    → lines_joined (lines_of_links ends finds lines n count) ≡ links_text_asked ends finds lines n count
unfolding lines_of_links links_text_asked
links_joined ends finds lines n zero = refl
links_joined ends finds lines n (suc count) =
    lines_joined_then (lines_of_link ends finds lines n (tap_opening_of_link n lines)) (lines_of_links ends finds lines (n + 1) count)
    ∙ ap₂ (λ (s t : List ℕ). s ++ t) (link_joined ends finds lines n (tap_opening_of_link n lines)) (links_joined ends finds lines (n + 1) count)

-- without ends
plain_link : (finds : Finds) (lines : List TapLine) (n : ℕ) (o : Option TapOpening) → link_text_asked false finds lines n o ≡ link_text finds lines n o
plain_link finds lines n None = refl
plain_link finds lines n (Some o) =
    rw (append-nil (side_text n E (judged_at finds n o lines E)), append-nil (side_text n R (judged_at finds n o lines R))) refl

plain_links : (finds : Finds) (lines : List TapLine) (n count : ℕ) → links_text_asked false finds lines n count ≡ links_text finds lines n count
unfolding links_text_asked links_text
plain_links finds lines n zero = refl
plain_links finds lines n (suc count) = rw (plain_link finds lines n (tap_opening_of_link n lines), plain_links finds lines (n + 1) count) refl

pub lines_are_text : (ends : Bool) (finds : Finds) (lines : List TapLine) → lines_joined (lines_of_audit ends finds lines) ≡ text_of_audit ends finds lines
lines_are_text true finds lines = links_joined true finds lines 1 64
lines_are_text false finds lines = links_joined false finds lines 1 64 ∙ plain_links finds lines 1 64
