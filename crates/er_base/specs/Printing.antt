-- Contract: how the code keeps the words of a line that it prints, and what it leaves where memory ends.
use Rattle.std.specs.Prelude.{ℕ, ◌≡◌, List, ◌++◌}
use Rattle.std.specs.Fmt.{decimal}
use Rattle.er_base.specs.declared.line_writer.PrintedWord.{PrintedWord}
use Rattle.er_base.specs.declared.line_writer.PrintedWord.TheVariants.{Plain, Decimal, Hexadecimal}
use Rattle.er_base.specs.Hexadecimal.{hex_of}

-- the word that is printed
abbrev pub word_printed : PrintedWord → List ℕ
word_printed (Plain word) = word.now
word_printed (Decimal n) = decimal n
word_printed (Hexadecimal octets) = hex_of octets.now

-- nothing but octets at the end were added
pub record Begins (front whole : List ℕ) : Type 0 where
  pub rest : List ℕ
  pub is : whole ≡ front ++ rest
