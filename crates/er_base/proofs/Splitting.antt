-- A line is cut at its first word: the words of the line are that word and those of what follows.
use Rattle.std.proofs.Common.{◌≡◌, ℕ, suc, ◌+◌, ◌<◌, ◌⊎◌, inl, inr, true, List, [], ◌∷◌, length, take, drop, filter, refl, ap, sym, ◌∙◌, arith}
use Rattle.std.specs.List.{prefix_len, slice_split, onto_first}
use Rattle.std.proofs.lemmas.Bool.{cases_Bool}
use Rattle.std.proofs.lemmas.List.Folds.{length-prefix_len}
use Rattle.std.proofs.Math.Dec.{eqb-suc-zero}
use Rattle.er_base.specs.Words.{is_space, is_of_word, is_word, words_of, without_spaces}

-- the pieces that are words
abbrev kept : List (List ℕ) → List (List ℕ)
kept pieces = filter is_word pieces

-- spaces at the front hide no word
skipped : (line : List ℕ) → words_of (drop (prefix_len is_space line) line) ≡ words_of line
unfolding words_of
skipped [] = refl
skipped (x ∷ xs) =
    elim (cases_Bool (is_space x)) [
      | inl space ↦
          let plus : 1 + prefix_len is_space xs ≡ suc (prefix_len is_space xs) = omega arith in
          rw (space, plus) (skipped xs)
      | inr letter ↦ rw (letter, letter) refl
    ]

-- a line is cut behind the letters at its front
record Cut (line : List ℕ) : Type 0 where
  pub rest : List (List ℕ)
  pub pieces : slice_split is_space line ≡ take (prefix_len is_of_word line) line ∷ rest
  pub others : kept rest ≡ words_of (drop (prefix_len is_of_word line) line)

cut : (line : List ℕ) → Cut line
unfolding words_of
cut [] = record { rest = []; pieces = refl; others = refl }
cut (x ∷ xs) =
    elim (cases_Bool (is_space x)) [
      | inl space ↦ record { rest = slice_split is_space xs; pieces = rw space refl; others = rw (space, space) refl }
      | inr letter ↦
          let tail : Cut xs = cut xs in
          let plus : 1 + prefix_len is_of_word xs ≡ suc (prefix_len is_of_word xs) = omega arith in
          record {
            rest = tail.rest;
            pieces = rw (letter, plus) (ap (onto_first x) tail.pieces);
            others = rw (letter, plus) tail.others;
          }
    ]

-- a line that is not empty and has no space at its front begins with a word
letters_first : (line : List ℕ) → (without_spaces line ≡ []) ⊎ (0 < prefix_len is_of_word (without_spaces line))
letters_first [] = inl refl
letters_first (x ∷ xs) =
    elim (cases_Bool (is_space x)) [
      | inl space ↦
          let plus : 1 + prefix_len is_space xs ≡ suc (prefix_len is_space xs) = omega arith in
          rw (space, plus) (letters_first xs)
      | inr letter ↦ inr (rw (letter, letter) (omega arith))
    ]

-- where only spaces are left there is no word
pub no_words : (line : List ℕ) → without_spaces line ≡ [] → words_of line ≡ []
unfolding words_of
no_words line none = sym (skipped line) ∙ ap words_of none

-- behind the spaces there is a word, where anything is left
pub word_length_pos : (line : List ℕ) → 0 < length (without_spaces line) → 0 < prefix_len is_of_word (without_spaces line)
word_length_pos line some =
    elim (letters_first line) [ inl none ↦ absurd (let e = ap length none in omega arith) | inr good ↦ good ]

-- a piece with letters is a word
is_word_pos : (piece : List ℕ) → 0 < length piece → is_word piece ≡ true
is_word_pos [] some = absurd (omega arith)
is_word_pos (x ∷ xs) some = rw (eqb-suc-zero (length xs)) refl

-- the words of a line are the first one and those behind it
pub next_words : (line : List ℕ) → 0 < length (without_spaces line)
    → words_of line ≡ take (prefix_len is_of_word (without_spaces line)) (without_spaces line) ∷ words_of (drop (prefix_len is_of_word (without_spaces line)) (without_spaces line))
unfolding words_of
next_words line some =
    let s : List ℕ = without_spaces line in
    let n : ℕ = prefix_len is_of_word s in
    let parts : Cut s = cut s in
    let front : length (take n s) ≡ n = length-prefix_len is_of_word s in
    let long : 0 < length (take n s) = omega (arith, word_length_pos line some) in
    let good : is_word (take n s) ≡ true = is_word_pos (take n s) long in
    sym (skipped line) ∙ ap kept parts.pieces ∙ (rw good refl) ∙ ap (λ (ws : List (List ℕ)). take n s ∷ ws) parts.others

-- a list of no elements
pub empty_list : (xs : List ℕ) → length xs ≡ 0 → xs ≡ []
empty_list [] e = refl
empty_list (x ∷ xs) e = absurd (omega arith)
