-- The lines of an audit (this profile): each is written by itself, and one behind the other they are its text.
use Rattle.std.specs.Prelude.{ℕ, zero, suc, ◌+◌, Bool, true, false, List, [], ◌∷◌, ◌++◌, map, Option, Some, None}
use Rattle.er_base.specs.declared.side.Side.{Side}
use Rattle.er_base.specs.declared.side.Side.TheVariants.{E, R}
use Rattle.er_base.specs.LineTexts.{line_text}
use Rattle.er_tap.specs.declared.tap_line.TapLine.{TapLine}
use Rattle.er_end_model.specs.Steps.{Finds}
use Rattle.tap_model.specs.EndTexts.{words_of_stream}
use Rattle.tap_model.specs.Lines.{TapOpening, tap_opening_of_link, stream_of}
use Rattle.tap_model.specs.Texts.{item_words, judged_at}
use Rattle.tap_model.specs.Verdicts.{Judged}

-- of a side's items, one each
abbrev pub lines_of_side : ℕ → Side → List Judged → List (List ℕ)
lines_of_side n side all = map (λ j. line_text (item_words n side j)) all

-- of a side's end, where ends are asked for
abbrev pub lines_of_end : (ends : Bool) → List TapLine → ℕ → Side → List (List ℕ)
lines_of_end false lines n side = []
lines_of_end true lines n side = line_text (words_of_stream n side (stream_of n side lines)) ∷ []

-- e before r, and of each its items before its end
abbrev pub lines_of_link : (ends : Bool) → Finds → List TapLine → ℕ → Option TapOpening → List (List ℕ)
lines_of_link ends finds lines n None = []
lines_of_link ends finds lines n (Some o) =
    (lines_of_side n E (judged_at finds n o lines E) ++ lines_of_end ends lines n E)
    ++ (lines_of_side n R (judged_at finds n o lines R) ++ lines_of_end ends lines n R)

-- of the links from number n on, so many
unfoldable pub lines_of_links : (ends : Bool) → Finds → List TapLine → (n count : ℕ) → List (List ℕ)
lines_of_links ends finds lines n zero = []
lines_of_links ends finds lines n (suc count) =
    lines_of_link ends finds lines n (tap_opening_of_link n lines) ++ lines_of_links ends finds lines (n + 1) count

-- all of them
abbrev pub lines_of_audit : (ends : Bool) → Finds → List TapLine → List (List ℕ)
lines_of_audit ends finds lines = lines_of_links ends finds lines 1 64
