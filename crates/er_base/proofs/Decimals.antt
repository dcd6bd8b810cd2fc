-- A word that is plain is what its number is printed as, and is read as that number.
use Rattle.std.proofs.Common.{rules, arith, ◌≡◌, ℕ, ◌<◌, ◌==◌, ◌^◌, inl, inr, true, false, nat_lt, List, length, get_or, refl, ap, sym, ◌∙◌, Some, None, Result, Ok, Err}
use Rattle.std.specs.Char.{is_ascii_digit}
use Rattle.std.specs.List.{list_all}
use Rattle.std.specs.Result.{result_ok, OkIff}
use Rattle.std.specs.Str.{IsUtf8}
use Rattle.std.specs.Str.Parse.{digits_value, ParsesUnsigned}
use Rattle.std.specs.Fmt.{decimal}
use Rattle.std.proofs.lemmas.Bool.{cases_Bool, eqb-true, eqb-false, lt-ltb, ltb-true, ne_eqb}
use Rattle.std.proofs.lemmas.Fmt.{digits_decimal, digits_value-decimal, decimal-digits_value, decimal_nonempty, first_decimal, decimal_digit, IsAscii-from_digits}
use Rattle.std.proofs.lemmas.Str.Parse.{IsNumeralModel, numerals_by_value, parse_digits}
use Rattle.std.proofs.lemmas.Str.{IsUtf8-from_ascii}
use Rattle.er_base.specs.Numbers.{has_leading_zero, is_canonical, decimal_of}

-- the texts of digits, as std's lemmas on numerals want them
own : IsNumeralModel (λ ds. list_all is_ascii_digit ds ≡ true) (digits_value 10)
own = numerals_by_value _ (search rules)

-- what makes a word plain
record IsPlain (word : List ℕ) : Type 0 where
  pub some : 0 < length word
  pub digits : list_all is_ascii_digit word ≡ true
  pub lead : get_or word 0 0 ≡ 48 → length word ≡ 1

-- the test of a leading zero, read both ways
lead_from : (word : List ℕ) → has_leading_zero word ≡ false → get_or word 0 0 ≡ 48 → length word ≡ 1
lead_from word f zero =
    elim (cases_Bool (length word == 1)) [
      | inl one ↦ eqb-true _ _ one
      | inr more ↦ let e : has_leading_zero word ≡ true = rw (zero, more) refl in absurd (cc)
    ]

no_lead : (word : List ℕ) → (get_or word 0 0 ≡ 48 → length word ≡ 1) → has_leading_zero word ≡ false
no_lead word lead =
    elim (cases_Bool (get_or word 0 0 == 48)) [
      | inl zero ↦ rw (zero, lead (eqb-true _ _ zero)) refl
      | inr other ↦ rw other refl
    ]

plain_parts : (word : List ℕ) → is_canonical word ≡ true → IsPlain word
plain_parts word h =
    elim (cases_Bool (length word == 0)) [
      | inl none ↦ let e : false ≡ true = rw none at h in absurd (cc)
      | inr some ↦
          elim (cases_Bool (has_leading_zero word)) [
            | inl zero ↦ let e : false ≡ true = rw (some, zero) at h in absurd (cc)
            | inr good ↦
                let ne : length word ≡ 0 → ⊥ = eqb-false _ _ some in
                record { some = omega arith; digits = rw (some, good) at h; lead = lead_from word good }
          ]
    ]

plain_from : (word : List ℕ) → IsPlain word → is_canonical word ≡ true
plain_from word p =
    let ne : length word ≡ 0 → ⊥ = omega arith in
    rw (ne_eqb _ _ ne, no_lead word p.lead) p.digits

-- a plain word is text
pub plain_is_text : (word : List ℕ) → is_canonical word ≡ true → IsUtf8 word
plain_is_text word h = IsUtf8-from_ascii word (IsAscii-from_digits word (own.to word (plain_parts word h).digits))

-- what `parse` gives of a plain word is the number that it names
pub decimal_from_parse : {E : Type 0} (word : List ℕ) (r : Result ℕ E) → is_canonical word ≡ true → ParsesUnsigned 64 10 word r → result_ok r ≡ decimal_of word
unfolding decimal_of
decimal_from_parse {E} word (Ok n) h parsed =
    let p : IsPlain word = plain_parts word h in
    let is : OkIff {E = E} (Ok n) ((0 < length word) × (digits_value 10 word < 2 ^ 64)) (digits_value 10 word) = parse_digits own {E = E} 64 word (Ok n) parsed p.digits in
    rw (h, lt-ltb _ _ is.0.1, is.1) refl
decimal_from_parse {E} word (Err e) h parsed =
    let p : IsPlain word = plain_parts word h in
    let is : OkIff {E = E} (Err e) ((0 < length word) × (digits_value 10 word < 2 ^ 64)) (digits_value 10 word) = parse_digits own {E = E} 64 word (Err e) parsed p.digits in
    elim (cases_Bool (nat_lt (digits_value 10 word) (2 ^ 64))) [
      | inl t ↦ absurd (is (p.some, ltb-true _ _ t))
      | inr f ↦ rw (h, f) refl
    ]

-- a word that names a number is what it is printed as
pub word_of_number : (word : List ℕ) (n : ℕ) → decimal_of word ≡ Some n → (n < 2 ^ 64) × (word ≡ decimal n)
unfolding decimal_of
word_of_number word n e =
    elim (cases_Bool (is_canonical word)) [
      | inl plain ↦
          elim (cases_Bool (nat_lt (digits_value 10 word) (2 ^ 64))) [
            | inl small ↦
                let p : IsPlain word = plain_parts word plain in
                let lt : digits_value 10 word < 2 ^ 64 = ltb-true _ _ small in
                let is : Some (digits_value 10 word) ≡ Some n = rw (plain, small) at e in
                let same : digits_value 10 word ≡ n = cc in
                let word_is : decimal (digits_value 10 word) ≡ word = decimal-digits_value own word p.digits p.some p.lead lt in
                (omega arith, sym word_is ∙ ap decimal same)
            | inr large ↦ let is : None ≡ Some n = rw (plain, large) at e in absurd (cc)
          ]
      | inr other ↦ let is : None ≡ Some n = rw other at e in absurd (cc)
    ]

-- what a number is printed as is plain
decimal_is_plain : (n : ℕ) → n < 2 ^ 64 → IsPlain (decimal n)
decimal_is_plain n h =
    record {
      some = decimal_nonempty n h;
      digits = digits_decimal own n h;
      lead = λ zero.
          elim (cases_Bool (n == 0)) [
            | inl none ↦ let e : n ≡ 0 = eqb-true _ _ none in rw (e, decimal_digit 0 (omega arith)) refl
            | inr some ↦
                let ne : n ≡ 0 → ⊥ = eqb-false _ _ some in
                let first : 48 < get_or (decimal n) 0 0 = first_decimal n (omega arith) h in
                absurd (omega arith)
          ];
    }

-- and what a number is printed as names it
pub number_of_word : (n : ℕ) → n < 2 ^ 64 → decimal_of (decimal n) ≡ Some n
unfolding decimal_of
number_of_word n h =
    let value : digits_value 10 (decimal n) ≡ n = digits_value-decimal own n h in
    let plain : is_canonical (decimal n) ≡ true = plain_from (decimal n) (decimal_is_plain n h) in
    rw (plain, value, lt-ltb n (2 ^ 64) h) refl

-- what the proof of `decimal` needs
pub ruleset decimal_lemmas = (plain_is_text, decimal_from_parse)
