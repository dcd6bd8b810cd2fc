-- The last line of a run of the program that doesn't end with status 0 (this profile).
use Rattle.std.specs.Prelude.{ℕ, List, ◌++◌, codes}
use Rattle.std.specs.Fmt.{decimal}
use Rattle.er_base.specs.declared.side.Side.{Side}
use Rattle.er_base.specs.Sides.{side_word}
use Rattle.er_base.specs.declared.why.Why.{Why}
use Rattle.er_base.specs.declared.why.Why.TheVariants.{Header, Word, Count, Level, Late, Number, Hex, Value, Long}

-- status 1
abbrev pub usage_line : List ℕ
usage_line = codes "! usage\n"

-- status 2
abbrev pub fetch_line : List ℕ → List ℕ
fetch_line name = codes "! fetch " ++ (name ++ codes "\n")

-- statuses 3 and 9: what is to be told of a line of the file, by its number and a word
unfoldable pub fault_line : ℕ → List ℕ → List ℕ
fault_line line word = codes "! line " ++ (decimal line ++ (codes " " ++ (word ++ codes "\n")))

-- status 7
abbrev pub memory_line : List ℕ
memory_line = codes "! memory\n"

-- status 8: too many frames would wait
unfoldable pub overfull_line : ℕ → Side → ℕ → List ℕ
overfull_line link side most =
    codes "! overfull " ++ (decimal link ++ (codes " " ++ (side_word side ++ (codes " " ++ (decimal most ++ codes "\n")))))

-- the word for why a file is refused
abbrev pub why_word : Why → List ℕ
why_word Header = codes "header"
why_word Word = codes "word"
why_word Count = codes "count"
why_word Level = codes "level"
why_word Late = codes "late"
why_word Number = codes "number"
why_word Hex = codes "hex"
why_word Value = codes "value"
why_word Long = codes "long"
