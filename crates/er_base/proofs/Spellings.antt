-- Octets that are printed in hexadecimal are read back.
use Rattle.std.proofs.Common.{arith, MatchResult, sym, Result, Err, ◌%◌, ◌*◌, None, ◌∙◌, ◌/◌, Ok, inl, inr, ◌≡◌, ℕ, ◌<◌, ◌==◌, true, false, List, [], ◌∷◌, length, get_or, refl, ap, Some, codes}
use Rattle.std.specs.Char.{is_ascii_hexdigit}
use Rattle.std.specs.List.{list_all}
use Rattle.std.proofs.lemmas.Bool.Decides.{nat_tests}
use Rattle.std.proofs.lemmas.List.Sums.{AllPass-from_list_all, list_all-from_AllPass}
use Rattle.hex.specs.declared.error.FromHexError.{FromHexError}
use Rattle.std.specs.Result.{result_ok}
use Rattle.std.proofs.lemmas.Bool.{cases_lt, cases_Bool, ne_eqb}
use Rattle.std.proofs.Math.Dec.{eqb-suc-zero}
use Rattle.std.proofs.lemmas.List.{get_or_past}
use Rattle.std.specs.Str.{bytes_eq}
use Rattle.hex.specs.Hex.{IsBytes, decode_of, decode_sized, encode_lower, encode_with, lower_digits, is_hex_digit}
use Rattle.hex.proofs.HexLemmas.{decode_of-encode_lower, decode_of-ok, decode_of-even, decode_of-digits, decode_sized-twice, decode_pairs-digits, length-encode_with}
use Rattle.er_base.specs.Hexadecimal.{octets_spelled, hex_of}

-- past its end a list reads as octets too
bytes_within : (octets : List ℕ) → ((k : ℕ) → k < length octets → get_or octets k 0 < 256) → IsBytes octets
bytes_within octets bytes k =
    elim (cases_lt k (length octets)) [
      | inl inside ↦ bytes k inside
      | inr past ↦ rw (get_or_past octets k 0 past) (omega arith)
    ]

-- octets that are some are not printed as `-`
not_hyphen : (x : ℕ) (xs : List ℕ) → bytes_eq (encode_lower (x ∷ xs)) (codes "-") ≡ false
unfolding encode_with
not_hyphen x xs =
    elim (cases_Bool (get_or lower_digits (x / 16) 0 == 45)) [ inl t ↦ rw t refl | inr f ↦ rw f refl ]

-- a word that is no `-` and not empty spells what it is decoded to
spelled_by : (word octets : List ℕ) → bytes_eq word (codes "-") ≡ false → 0 < length word → decode_of word ≡ Ok octets → octets_spelled word ≡ Some octets
unfolding octets_spelled
spelled_by word octets other some decoded =
    let ne : length word ≡ 0 → ⊥ = omega arith in
    rw (other, ne_eqb _ _ ne) (ap result_ok decoded)

-- octets that are some are printed as digits
printed : (x : ℕ) (xs : List ℕ) → hex_of (x ∷ xs) ≡ encode_lower (x ∷ xs)
unfolding hex_of
printed x xs = rw (eqb-suc-zero (length xs)) refl

pub read_back : (octets : List ℕ) → ((k : ℕ) → k < length octets → get_or octets k 0 < 256) → octets_spelled (hex_of octets) ≡ Some octets
unfolding octets_spelled hex_of
read_back [] bytes = refl
read_back (x ∷ xs) bytes =
    let all : IsBytes (x ∷ xs) = bytes_within (x ∷ xs) bytes in
    let long = length-encode_with lower_digits (x ∷ xs) in
    ap octets_spelled (printed x xs)
    ∙ spelled_by (encode_lower (x ∷ xs)) (x ∷ xs) (not_hyphen x xs) (omega arith) (decode_of-encode_lower (x ∷ xs) all)

-- the library's two tests of a hexadecimal digit agree
same_digits : (c : ℕ) → is_ascii_hexdigit c ≡ is_hex_digit c
same_digits c = grind (arith, nat_tests)

all_digits : (word : List ℕ) → list_all is_ascii_hexdigit word ≡ list_all is_hex_digit word
all_digits [] = refl
all_digits (c ∷ cs) = rw (same_digits c, all_digits cs) refl

-- an even run of digits spells octets
pub digits_spell : (word : List ℕ) → (length word % 2 ≡ 1 → ⊥) → list_all is_ascii_hexdigit word ≡ true → result_ok (decode_of word) ≡ None → ⊥
digits_spell word odd digits none =
    let even : length word % 2 ≡ 0 = omega arith in
    let all = AllPass-from_list_all is_hex_digit word (sym (all_digits word) ∙ digits) in
    let read = decode_pairs-digits 0 word even all in
    let some : result_ok (decode_of word) ≡ Some read.0 = ap result_ok (decode_of-even word even ∙ read.1) in
    cc

-- what is no value is none
no_value : (r : Result (List ℕ) FromHexError) → ((octets : List ℕ) → r ≡ Ok octets → ⊥) → result_ok r ≡ None
no_value (Ok octets) h = absurd (h octets refl)
no_value (Err e) h = refl

-- where an octet is no digit, none are spelled
pub other_octet : (word : List ℕ) → list_all is_ascii_hexdigit word ≡ false → result_ok (decode_of word) ≡ None
other_octet word other =
    no_value (decode_of word) (λ octets read.
    let all : list_all is_hex_digit word ≡ true = list_all-from_AllPass is_hex_digit word (decode_of-ok word octets read).1 in
    let same = all_digits word in
    cc)

-- what the proof of `octets_of` needs
pub ruleset spelled_lemmas = (digits_spell, other_octet)

-- a word of digits that is decoded into room for its octets
pub record IsDecoded (word : List ℕ) (room : ℕ) : Type 0 where
  pub octets : List ℕ
  pub spelled : octets_spelled word ≡ Some octets
  pub decoded : decode_sized word room ≡ Ok octets

pub digits_decoded : (word : List ℕ) (room : ℕ) → bytes_eq word (codes "-") ≡ false → 0 < length word
    → list_all is_ascii_hexdigit word ≡ true → length word ≡ 2 * room → IsDecoded word room
digits_decoded word room other some digits half =
    let even : length word % 2 ≡ 0 = omega arith in
    let all = AllPass-from_list_all is_hex_digit word (sym (all_digits word) ∙ digits) in
    let read = decode_of-digits word even all in
    record {
      octets = read.0;
      spelled = spelled_by word read.0 other some read.1;
      decoded = decode_sized-twice word room half ∙ read.1;
    }

-- what is written where a word is decoded
pub decoded_written : (word : List ℕ) (room : ℕ) (d : IsDecoded word room) (r : Result Unit FromHexError) (now : List ℕ)
    → MatchResult (decode_sized word room) (λ bytes. (r ≡ Ok tt) × (now ≡ bytes)) (λ e. r ≡ Err e) → (r ≡ Ok tt) × (now ≡ d.octets)
decoded_written word room d r now is =
    let here : MatchResult (Ok d.octets) (λ bytes. (r ≡ Ok tt) × (now ≡ bytes)) (λ e. r ≡ Err e) = rw d.decoded at is in here
