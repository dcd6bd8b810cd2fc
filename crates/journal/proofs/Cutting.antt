-- A text of lines is cut into its words again: none of them has a space or LF.
use Rattle.std.proofs.Common.{arith, inl, inr, ◌<◌, ◌+◌, ◌≡◌, ℕ, suc, zero, ◌==◌, ◌/◌, ◌%◌, nat_lt, not, ◌&&◌, Bool, true, false, if◌then◌else◌, List, [], ◌∷◌, ◌++◌, length, slice_index, refl, ap, ◌∙◌, append_assoc, append-nil, codes}
use Rattle.std.specs.List.{list_all}
use Rattle.std.proofs.lemmas.Bool.{cases_Bool, ne_eqb}
use Rattle.std.specs.Fmt.{decimal, digits, digits_onto, digit_glyph}
use Rattle.hex.specs.Hex.{encode_with, lower_digits}
use Rattle.er_base.specs.Hexadecimal.{hex_of}
use Rattle.er_base.specs.LineTexts.{line_end, line_text, lines_text}

-- ---- a text, cut

-- a word of no octet stands before the first line
abbrev pub word_before : List (List (List ℕ)) → List (List (List ℕ))
word_before [] = ([] ∷ []) ∷ []
word_before (line ∷ lines) = ([] ∷ line) ∷ lines

-- an octet joins the first word of the first line
abbrev pub onto_word : ℕ → List (List (List ℕ)) → List (List (List ℕ))
onto_word x [] = ((x ∷ []) ∷ []) ∷ []
onto_word x ([] ∷ lines) = ((x ∷ []) ∷ []) ∷ lines
onto_word x ((word ∷ words) ∷ lines) = ((x ∷ word) ∷ words) ∷ lines

-- the words of each line: LF ends a line, a space parts words
abbrev pub cut : List ℕ → List (List (List ℕ))
cut [] = []
cut (x ∷ xs) = if x == 10 then ([] ∷ []) ∷ cut xs else if x == 32 then word_before (cut xs) else onto_word x (cut xs)

-- ---- words without a space or LF

pub record IsPlainOctet (x : ℕ) : Type 0 where
  pub no_end : (x == 10) ≡ false
  pub no_space : (x == 32) ≡ false

abbrev pub ArePlain : List ℕ → Type 0
ArePlain [] = Unit {0}
ArePlain (x ∷ xs) = IsPlainOctet x × ArePlain xs

abbrev pub ArePlainWords : List (List ℕ) → Type 0
ArePlainWords [] = Unit {0}
ArePlainWords (word ∷ words) = ArePlain word × ArePlainWords words

-- a line has a word at least
abbrev pub IsPlainLine : List (List ℕ) → Type 0
IsPlainLine [] = ⊥
IsPlainLine (word ∷ words) = ArePlain word × ArePlainWords words

abbrev pub ArePlainLines : List (List (List ℕ)) → Type 0
ArePlainLines [] = Unit {0}
ArePlainLines (line ∷ lines) = IsPlainLine line × ArePlainLines lines

cut_word : (word tail front : List ℕ) (words : List (List ℕ)) (lines : List (List (List ℕ))) → ArePlain word → cut tail ≡ (front ∷ words) ∷ lines
    → cut (word ++ tail) ≡ ((word ++ front) ∷ words) ∷ lines
cut_word [] tail front words lines p is = is
cut_word (x ∷ word) tail front words lines p is = rw (p.0.no_end, p.0.no_space, cut_word word tail front words lines p.1 is) refl

cut_end : (words : List (List ℕ)) (rest : List ℕ) → ArePlainWords words → cut (line_end words ++ rest) ≡ ([] ∷ words) ∷ cut rest
unfolding line_end
cut_end [] rest p = refl
cut_end (word ∷ words) rest p =
    let behind : cut (word ++ (line_end words ++ rest)) ≡ ((word ++ []) ∷ words) ∷ cut rest =
    cut_word word (line_end words ++ rest) [] words (cut rest) p.0 (cut_end words rest p.1) in
    ap (λ (text : List ℕ). word_before (cut text)) (append_assoc word (line_end words) rest) ∙ ap word_before behind
    ∙ ap (λ (w : List ℕ). ([] ∷ w ∷ words) ∷ cut rest) (append-nil word)

cut_line : (line : List (List ℕ)) (rest : List ℕ) → IsPlainLine line → cut (line_text line ++ rest) ≡ line ∷ cut rest
unfolding line_text
cut_line [] rest p = absurd p
cut_line (word ∷ words) rest p =
    ap cut (append_assoc word (line_end words) rest) ∙ cut_word word (line_end words ++ rest) [] words (cut rest) p.0 (cut_end words rest p.1)
    ∙ ap (λ (w : List ℕ). (w ∷ words) ∷ cut rest) (append-nil word)

pub cut_lines : (lines : List (List (List ℕ))) → ArePlainLines lines → cut (lines_text lines) ≡ lines
cut_lines [] p = refl
cut_lines (line ∷ lines) p = cut_line line (lines_text lines) p.0 ∙ ap (λ (ls : List (List (List ℕ))). line ∷ ls) (cut_lines lines p.1)

-- ---- what is printed

abbrev pub is_plain : ℕ → Bool
is_plain x = not (x == 10) && not (x == 32)

plain_octet : (x : ℕ) → is_plain x ≡ true → IsPlainOctet x
plain_octet x p = record { no_end = first (x == 10) (x == 32) p; no_space = second (x == 10) (x == 32) p }
  where
    first : (a b : Bool) → (not a && not b) ≡ true → a ≡ false
    first false b p = refl
    first true b p = absurd cc

    second : (a b : Bool) → (not a && not b) ≡ true → b ≡ false
    second false false p = refl
    second false true p = absurd cc
    second true b p = absurd cc

both_hold : (a b : Bool) → (a && b) ≡ true → (a ≡ true) × (b ≡ true)
both_hold true b p = (refl, p)
both_hold false b p = absurd cc

-- a word that is written out
pub plain_codes : (word : List ℕ) → list_all is_plain word ≡ true → ArePlain word
plain_codes [] p = tt
plain_codes (x ∷ word) p = let both = both_hold (is_plain x) (list_all is_plain word) p in (plain_octet x both.0, plain_codes word both.1)

-- the digits of a number
plain_glyph : (d : ℕ) → IsPlainOctet (digit_glyph false d)
plain_glyph d = elim (cases_Bool (nat_lt d 10)) [
  | inl t ↦ rw t (record { no_end = above (48 + d) (omega arith); no_space = above_space (48 + d) (omega arith) })
  | inr f ↦ rw f (record { no_end = above (87 + d) (omega arith); no_space = above_space (87 + d) (omega arith) })
]
  where
    above : (x : ℕ) → 47 < x → (x == 10) ≡ false
    above x h = ne_eqb x 10 (λ e. omega (arith, h, e))

    above_space : (x : ℕ) → 47 < x → (x == 32) ≡ false
    above_space x h = ne_eqb x 32 (λ e. omega (arith, h, e))

plain_onto : (k n : ℕ) (behind : List ℕ) → ArePlain behind → ArePlain (digits_onto k 10 false n behind)
plain_onto zero n behind p = p
plain_onto (suc k) n behind p =
    elim (cases_Bool (n / 10 == 0)) [
      | inl t ↦ rw t (plain_glyph (n % 10), p)
      | inr f ↦ rw f (plain_onto k (n / 10) (digit_glyph false (n % 10) ∷ behind) (plain_glyph (n % 10), p))
    ]

pub plain_decimal : (n : ℕ) → ArePlain (decimal n)
unfolding digits
plain_decimal n = plain_onto 64 n [] tt

-- hexadecimal digits, and `-`
plain_at : (xs : List ℕ) (i : ℕ) → ArePlain xs → IsPlainOctet (slice_index xs i)
plain_at [] i p = record { no_end = refl; no_space = refl }
plain_at (x ∷ xs) zero p = p.0
plain_at (x ∷ xs) (suc i) p = plain_at xs i p.1

plain_encoded : (octets : List ℕ) → ArePlain (encode_with lower_digits octets)
unfolding encode_with
plain_encoded [] = tt
plain_encoded (octet ∷ octets) =
    let digits_plain : ArePlain lower_digits = plain_codes lower_digits refl in
    (plain_at lower_digits (octet / 16) digits_plain, (plain_at lower_digits (octet % 16) digits_plain, plain_encoded octets))

pub plain_hex : (octets : List ℕ) → ArePlain (hex_of octets)
unfolding hex_of
plain_hex octets = elim (cases_Bool (length octets == 0)) [
  | inl t ↦ rw t (plain_codes (codes "-") refl)
  | inr f ↦ rw f (plain_encoded octets)
]
