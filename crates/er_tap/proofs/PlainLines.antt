-- A line of octets that is written as lines are printed.
use Rattle.std.proofs.Common.{arith, ◌≡◌, ℕ, suc, ◌+◌, ◌-◌, ◌*◌, ◌/◌, ◌%◌, ◌==◌, ◌<◌, ◌≤◌, nat_lt, inl, inr, true, false, List, [], ◌∷◌, ◌++◌, length, map, take, drop, get_or, Some, Ok, codes, refl, ap, sym, ◌∙◌, append_assoc, append-nil}
use Rattle.std.proofs.lemmas.Bool.{agree_below_at, cases_lt, cases_Bool, false_from_ne_true, le-ltb, lt-ltb, eqb-true}
use Rattle.std.proofs.lemmas.List.{take_all, drop_more, take-append-drop, get_or-take, length-take-le, length-drop}
use Rattle.std.proofs.lemmas.List.Elements.{All-head, All-tail}
use Rattle.std.proofs.lemmas.Fmt.{decimal_digit, decimal_step}
use Rattle.std.specs.Fmt.{decimal}
use Rattle.memchr.specs.Find.{IsFirstByte, is_byte}
use Rattle.er_base.specs.declared.side.Side.{Side}
use Rattle.er_base.specs.Arguments.{number_argument, side_argument, octets_argument, text_argument}
use Rattle.er_base.specs.Hexadecimal.{octets_spelled, WordsSpellOctets}
use Rattle.er_base.specs.Lines.{Row, lines_of, rows_of, is_skipped}
use Rattle.er_base.specs.LineTexts.{line_text, line_end, lines_text, AreSolid, IsLine, LinesAreReadBack, WordsAreReadBack}
use Rattle.er_base.specs.Sides.{side_word}
use Rattle.er_base.specs.Words.{words_of}
use Rattle.er_tap.specs.declared.tap_step.TapStep.TheVariants.{Octets}
use Rattle.er_tap.specs.Digits.{value_of_hexadecimal_digit, AreDigits}
use Rattle.er_tap.specs.Files.{line_says, lines_said}
use Rattle.er_tap.specs.Ranges.{IsLink}
use Rattle.er_tap.specs.Readings.{SaysFirst}

-- ---- links

pub one_digit : (words : List ℕ) → 2 ≤ length words → get_or words 1 0 ≡ 32 → 49 ≤ get_or words 0 0 → get_or words 0 0 ≤ 57
    → words ≡ decimal (get_or words 0 0 - 48) ++ 32 ∷ take (length words - 2) (drop 2 words)
one_digit [] long space low high = absurd (omega arith)
one_digit (a ∷ []) long space low high = absurd (omega arith)
one_digit (a ∷ b ∷ words) long space low high =
    let same : 48 + (a - 48) ≡ a = omega arith in
    let all = take_all (length (a ∷ b ∷ words) - 2) words (omega arith) in
    rw (decimal_digit (a - 48) (omega arith), same, space, all) refl

pub two_digits : (words : List ℕ) → 3 ≤ length words → get_or words 2 0 ≡ 32 → 49 ≤ get_or words 0 0 → get_or words 0 0 ≤ 54 → 48 ≤ get_or words 1 0
    → get_or words 1 0 ≤ 57
    → words ≡ decimal ((get_or words 0 0 - 48) * 10 + (get_or words 1 0 - 48)) ++ 32 ∷ take (length words - 3) (drop 3 words)
two_digits [] long space low high least most = absurd (omega arith)
two_digits (a ∷ []) long space low high least most = absurd (omega arith)
two_digits (a ∷ b ∷ []) long space low high least most = absurd (omega arith)
two_digits (a ∷ b ∷ c ∷ words) long space low high least most =
    let n : ℕ = (a - 48) * 10 + (b - 48) in
    let tens : n / 10 ≡ a - 48 = omega arith in
    let first : 48 + (a - 48) ≡ a = omega arith in
    let second : 48 + n % 10 ≡ b = omega arith in
    let all = take_all (length (a ∷ b ∷ c ∷ words) - 3) words (omega arith) in
    rw (decimal_step n (omega arith) (omega arith), tens, decimal_digit (a - 48) (omega arith), first, second, space, all) refl

-- ---- the first line

-- no octet of a line ends it
abbrev HasNoFeed : List ℕ → Type 0
HasNoFeed line = (k : ℕ) → k < length line → (get_or line k 0 == 10) ≡ false

lines_begin : (line rest : List ℕ) → HasNoFeed line → lines_of (line ++ 10 ∷ rest) ≡ line ∷ lines_of rest
unfolding lines_of
lines_begin [] rest none = refl
lines_begin (x ∷ line) rest none =
    let first : (x == 10) ≡ false = none 0 (omega arith) in
    rw (first, lines_begin line rest (λ k below. none (suc k) (omega arith))) refl

-- where a search for LF stops
feed_at : (text : List ℕ) (end : ℕ) → IsFirstByte (is_byte 10) text (Some end) → HasNoFeed (take end text)
feed_at text end found k below =
    let most = length-take-le end text in
    let within : k < end = omega (arith, below, most) in
    let other : (get_or text k 0 == 10) ≡ true → ⊥ = found.0.before k (omega arith) within in
    rw (get_or-take end text k 0 within) (false_from_ne_true (get_or text k 0 == 10) other)

ends_line : (text : List ℕ) (end : ℕ) → IsFirstByte (is_byte 10) text (Some end) → text ≡ take end text ++ 10 ∷ drop (end + 1) text
ends_line text end found =
    let within = found.0.high in
    let feed = eqb-true (get_or text end 0) 10 found.1 in
    sym (take-append-drop end text) ∙ ap (λ (l : List ℕ). take end text ++ l) (drop_more text end 0 within ∙ ap (λ (x : ℕ). x ∷ drop (end + 1) text) feed)

-- ---- its words

words_first : List Row → List (List ℕ)
words_first [] = []
words_first (row ∷ rows) = row.words

row_read : (before : ℕ) (line : List ℕ) (words : List (List ℕ)) → rows_of before (line ∷ []) ≡ record { number = before + 1; words = words } ∷ []
    → (is_skipped line ≡ false) × (words_of line ≡ words)
unfolding rows_of words_of words_first
row_read before line words read =
    elim (cases_Bool (is_skipped line)) [
      | inl skipped ↦ absurd (let none = rw skipped at read in cc)
      | inr kept ↦ (kept, ap words_first (rw kept at read))
    ]

row_first : (before : ℕ) (line : List ℕ) (lines words : List (List ℕ)) → is_skipped line ≡ false → words_of line ≡ words
    → rows_of before (line ∷ lines) ≡ record { number = before + 1; words = words } ∷ rows_of (before + 1) lines
unfolding rows_of
row_first before line lines words kept is = rw (kept, is) refl

-- an octet with a value is none of those up to `#`
above_sign : (octet : ℕ) → value_of_hexadecimal_digit octet < 16 → 35 < octet
unfolding value_of_hexadecimal_digit
above_sign octet h =
    elim (cases_lt 35 octet) [
      | inl above ↦ above
      | inr below ↦
          let small : nat_lt (value_of_hexadecimal_digit octet) 16 ≡ false = agree_below_at (λ o. nat_lt (value_of_hexadecimal_digit o) 16) (λ _. false) 36 octet refl (omega arith) in
          let other = lt-ltb (value_of_hexadecimal_digit octet) 16 h in
          absurd (cc)
    ]

solid_digits : (digits : List ℕ) → AreDigits digits → AreSolid digits
solid_digits [] all = tt
solid_digits (x ∷ digits) all =
    let small = λ (v : ℕ). v < 16 in
    (above_sign x (All-head small (value_of_hexadecimal_digit x) (map value_of_hexadecimal_digit digits) all), solid_digits digits (All-tail small (value_of_hexadecimal_digit x) (map value_of_hexadecimal_digit digits) all))

-- ---- what they say

text_read : (digits octets : List ℕ) → octets_spelled digits ≡ Some octets → length octets ≤ 4096 → text_argument 4096 digits ≡ Ok octets
unfolding text_argument octets_argument
text_read digits octets spelled short = rw (spelled, le-ltb 4096 (length octets) short) refl

line_read : (n : ℕ) (side : Side) (octets link end digits : List ℕ) → number_argument 1 64 link ≡ Ok n → side_argument end ≡ Ok side
    → text_argument 4096 digits ≡ Ok octets → line_says (codes "octets" ∷ link ∷ end ∷ digits ∷ []) ≡ Ok (Octets n side octets)
unfolding line_says
line_read n side octets link end digits a b c = rw (a, b, c) refl

-- ---- the line

module _ (lines_back : LinesAreReadBack) (words_back : WordsAreReadBack) (octets_back : WordsSpellOctets) where
  abbrev words_by : ℕ → Side → List ℕ → List (List ℕ)
  words_by n side digits = codes "octets" ∷ decimal n ∷ side_word side ∷ digits ∷ []

  abbrev line_by : ℕ → Side → List ℕ → List ℕ
  line_by n side digits = codes "octets " ++ (decimal n ++ (codes " " ++ (side_word side ++ (codes " " ++ digits))))

  line_printed : (n : ℕ) (side : Side) (digits : List ℕ) → lines_text (words_by n side digits ∷ []) ≡ line_by n side digits ++ 10 ∷ []
  unfolding line_text line_end
  line_printed n side digits = simp (append_assoc, append-nil) refl

  are_words : (n : ℕ) (side : Side) (digits : List ℕ) → n ≤ 64 → 0 < length digits → AreDigits digits → IsLine (words_by n side digits)
  are_words n side digits h some all = (
    record { some = omega arith; octets = (omega arith, (omega arith, (omega arith, (omega arith, (omega arith, (omega arith, tt)))))) },
    (words_back.number_word n (omega arith), (words_back.side_is_word side, (record { some = some; octets = solid_digits digits all }, tt))),
  )

  first_row : (before : ℕ) (text : List ℕ) (end n : ℕ) (side : Side) (digits : List ℕ) → IsFirstByte (is_byte 10) text (Some end)
      → take end text ≡ line_by n side digits → n ≤ 64 → 0 < length digits → AreDigits digits
      → rows_of before (lines_of text) ≡ record { number = before + 1; words = words_by n side digits } ∷ rows_of (before + 1) (lines_of (drop (end + 1) text))
  unfolding lines_of
  first_row before text end n side digits found is h some all =
      let line : List ℕ = take end text in
      let none = feed_at text end found in
      let alone : lines_of (lines_text (words_by n side digits ∷ [])) ≡ line ∷ [] =
      ap lines_of (line_printed n side digits ∙ ap (λ (l : List ℕ). l ++ 10 ∷ []) (sym is)) ∙ lines_begin line [] none in
      let read = row_read before line (words_by n side digits)
      (ap (rows_of before) (sym alone) ∙ lines_back before (words_by n side digits ∷ []) (are_words n side digits h some all, tt)) in
      ap (λ (l : List ℕ). rows_of before (lines_of l)) (ends_line text end found)
      ∙ ap (rows_of before) (lines_begin line (drop (end + 1) text) none)
      ∙ row_first before line (lines_of (drop (end + 1) text)) (words_by n side digits) read.0 read.1

  pub says_first : (before : ℕ) (text : List ℕ) (end n : ℕ) (side : Side) (digits octets : List ℕ) → IsFirstByte (is_byte 10) text (Some end)
      → take end text ≡ line_by n side digits → IsLink n → 0 < length digits → AreDigits digits → octets_spelled digits ≡ Some octets
      → length octets ≤ 4096
      → SaysFirst (record { before = before; text = text }) (record { line = before + 1; step = Octets n side octets })
      (record { before = before + 1; text = drop (end + 1) text })
  unfolding lines_said
  says_first before text end n side digits octets found is link some all spelled short =
      let says = line_read n side octets (decimal n) (side_word side) digits (words_back.number 1 64 n link.0 link.1 (omega (arith, link.1)))
      (words_back.side side) (text_read digits octets spelled short) in
      let within = found.0.high in
      let left = length-drop (end + 1) text in
      record {
        said = rw (first_row before text end n side digits found is link.1 some all, says) refl;
        range = (link, (short, octets_back digits octets spelled));
        less = omega (arith, left, within);
      }
