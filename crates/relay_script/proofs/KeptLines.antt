-- A line says the same by its first ten words as by all of them: no line of a script has more than six.
use Rattle.std.proofs.Common.{arith, ◌≡◌, ℕ, ◌<◌, ◌≤◌, Bool, List, [], ◌∷◌, length, take, Result, Err, refl, ap, sym, ◌∙◌}
use Rattle.std.proofs.lemmas.Bool.{le-ltb}
use Rattle.er_base.specs.declared.why.Why.{Why}
use Rattle.er_base.specs.declared.line_fault.LineFault.{LineFault}
use Rattle.er_base.specs.declared.line_fault.LineFault.TheVariants as line
use Rattle.er_base.specs.KeptWords.{nine_tell}
use Rattle.er_base.specs.Lines.{Row, lines_of, rows_of}
use Rattle.er_base.specs.Rows.{Refuses}
use Rattle.relay_script.specs.declared.change_name.ChangeName.{ChangeName}
use Rattle.relay_script.specs.declared.change_name.ChangeName.TheVariants.{Lose, Repeat, Alter, Put, Delay, Close}
use Rattle.relay_script.specs.declared.script_line.ScriptLine.{ScriptLine}
use Rattle.relay_script.specs.Files.{script_line_says, is_script_header, behind_script_header, script_of}
use Rattle.relay_script.specs.Table.{change_kinds, script_table}

few_kinds : (name : ChangeName) → length (change_kinds name) < 9
few_kinds Lose = omega arith
few_kinds Repeat = omega arith
few_kinds Alter = omega arith
few_kinds Put = omega arith
few_kinds Delay = omega arith
few_kinds Close = omega arith

kept_line : (words : List (List ℕ)) → script_line_says (take 10 words) ≡ script_line_says words
unfolding script_line_says
kept_line [] = refl
kept_line (name ∷ words) =
    let first = nine_tell script_table few_kinds name words in
    rw first refl

kept_header : (words : List (List ℕ)) → is_script_header (take 10 words) ≡ is_script_header words
unfolding is_script_header
kept_header [] = refl
kept_header (a ∷ []) = refl
kept_header (a ∷ b ∷ []) = refl
kept_header (a ∷ b ∷ c ∷ words) = refl

-- what a line says by the words that are kept, it says by all of them
pub said_by_kept : (kept words : List (List ℕ)) (said : Result ScriptLine Why) → kept ≡ take 10 words → script_line_says kept ≡ said
    → script_line_says words ≡ said
said_by_kept kept words said first e = sym (kept_line words) ∙ ap script_line_says (sym first) ∙ e

pub refused_by_kept : (kept words : List (List ℕ)) (fault : LineFault) → kept ≡ take 10 words → Refuses fault (script_line_says kept)
    → Refuses fault (script_line_says words)
refused_by_kept kept words (line.Refused why) first e = said_by_kept kept words (Err why) first e
refused_by_kept kept words (line.NoMemory want) first e = tt

-- a text that isn't too long, behind its header
pub script_behind : (text : List ℕ) (row : Row) (rows : List Row) (kept : List (List ℕ)) (found : Bool) → length text ≤ 16777216
    → rows_of 0 (lines_of text) ≡ row ∷ rows → kept ≡ take 10 row.words → is_script_header kept ≡ found
    → script_of text ≡ behind_script_header row.number found rows
unfolding script_of
script_behind text row rows kept found short all first read =
    let named : is_script_header row.words ≡ found = sym (kept_header row.words) ∙ ap is_script_header (sym first) ∙ read in
    rw (le-ltb 16777216 (length text) short, all, named) refl
