-- The two ends of a link: the engine, which calls, and the radio block centre.
use Rattle.std.specs.Prelude.{ℕ, ◌≡◌, ◌↔◌, List, codes, if◌then◌else◌, Option, Some, None}
use Rattle.std.specs.Str.{bytes_eq}
use Rattle.er_base.specs.declared.side.Side.{Side}
use Rattle.er_base.specs.declared.side.Side.TheVariants.{E, R}

-- the end at the other side of the link
abbrev pub other : Side → Side
other E = R
other R = E

-- the word of an end in this profile's texts
abbrev pub side_word : Side → List ℕ
side_word E = codes "e"
side_word R = codes "r"

-- the end that a word names, where it names one
abbrev pub side_of : List ℕ → Option Side
side_of word = if bytes_eq word (side_word E) then Some E else if bytes_eq word (side_word R) then Some R else None

-- the same in one line: a word names an end exactly where it is the end's word
abbrev pub NamesItsWord : Type 0
NamesItsWord = (word : List ℕ) (side : Side) → (side_of word ≡ Some side) ↔ (word ≡ side_word side)
