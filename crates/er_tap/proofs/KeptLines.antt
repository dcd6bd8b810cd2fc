-- A line says the same by its first ten words as by all of them: no line of a tap has more than five.
use Rattle.std.proofs.Common.{arith, ◌≡◌, ℕ, ◌<◌, ◌≤◌, Bool, List, [], ◌∷◌, length, take, Result, Err, refl, ap, sym, ◌∙◌}
use Rattle.std.proofs.lemmas.Bool.{le-ltb}
use Rattle.er_base.specs.declared.why.Why.{Why}
use Rattle.er_base.specs.declared.line_fault.LineFault.{LineFault}
use Rattle.er_base.specs.declared.line_fault.LineFault.TheVariants as line
use Rattle.er_base.specs.KeptWords.{nine_tell}
use Rattle.er_base.specs.Lines.{Row, lines_of, rows_of}
use Rattle.er_base.specs.Rows.{Refuses}
use Rattle.er_tap.specs.declared.line_name.LineName.{LineName}
use Rattle.er_tap.specs.declared.line_name.LineName.TheVariants.{Link, Octets}
use Rattle.er_tap.specs.declared.tap_step.TapStep.{TapStep}
use Rattle.er_tap.specs.Files.{line_says, is_header, behind_header, tap_of}
use Rattle.er_tap.specs.Table.{line_kinds, tap_table}

few_kinds : (name : LineName) → length (line_kinds name) < 9
few_kinds Link = omega arith
few_kinds Octets = omega arith

pub kept_line : (words : List (List ℕ)) → line_says (take 10 words) ≡ line_says words
unfolding line_says
kept_line [] = refl
kept_line (name ∷ words) =
    let first = nine_tell tap_table few_kinds name words in
    rw first refl

pub kept_header : (words : List (List ℕ)) → is_header (take 10 words) ≡ is_header words
unfolding is_header
kept_header [] = refl
kept_header (a ∷ []) = refl
kept_header (a ∷ b ∷ []) = refl
kept_header (a ∷ b ∷ c ∷ words) = refl

-- what a line says by the words that are kept, it says by all of them
pub said_by_kept : (kept words : List (List ℕ)) (said : Result TapStep Why) → kept ≡ take 10 words → line_says kept ≡ said → line_says words ≡ said
said_by_kept kept words said first e = sym (kept_line words) ∙ ap line_says (sym first) ∙ e

pub refused_by_kept : (kept words : List (List ℕ)) (fault : LineFault) → kept ≡ take 10 words → Refuses fault (line_says kept)
    → Refuses fault (line_says words)
refused_by_kept kept words (line.Refused why) first e = said_by_kept kept words (Err why) first e
refused_by_kept kept words (line.NoMemory want) first e = tt

-- a text that isn't too long, behind its header
pub tap_behind : (text : List ℕ) (row : Row) (rows : List Row) (kept : List (List ℕ)) (found : Bool) → length text ≤ 16777216
    → rows_of 0 (lines_of text) ≡ row ∷ rows → kept ≡ take 10 row.words → is_header kept ≡ found
    → tap_of text ≡ behind_header row.number found rows
unfolding tap_of
tap_behind text row rows kept found short all first read =
    let named : is_header row.words ≡ found = sym (kept_header row.words) ∙ ap is_header (sym first) ∙ read in
    rw (le-ltb 16777216 (length text) short, all, named) refl
