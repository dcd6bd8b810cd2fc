-- The lines of a text are its first line and those of what follows.
use Rattle.std.proofs.Common.{◌≡◌, ℕ, suc, ◌+◌, ◌<◌, ◌==◌, inl, inr, List, [], ◌∷◌, length, take, drop, refl, ap, sym, ◌∙◌, arith}
use Rattle.std.specs.List.{prefix_len}
use Rattle.std.proofs.lemmas.Bool.{cases_Bool}
use Rattle.er_base.specs.Lines.{is_of_line, lines_of, onto_first_line}

-- an octet joins the first line of what follows it
tail_line : (x : ℕ) (xs : List ℕ)
    → (0 < length xs → lines_of xs ≡ take (prefix_len is_of_line xs) xs ∷ lines_of (drop 1 (drop (prefix_len is_of_line xs) xs)))
    → onto_first_line x (lines_of xs) ≡ (x ∷ take (prefix_len is_of_line xs) xs) ∷ lines_of (drop 1 (drop (prefix_len is_of_line xs) xs))
unfolding lines_of
tail_line x [] tail = refl
tail_line x (y ∷ ys) tail = ap (onto_first_line x) (tail (omega arith))

-- the octets before the first LF, and the lines behind it
pub first_line : (text : List ℕ) → 0 < length text
    → lines_of text ≡ take (prefix_len is_of_line text) text ∷ lines_of (drop 1 (drop (prefix_len is_of_line text) text))
unfolding lines_of
first_line [] some = absurd (omega arith)
first_line (x ∷ xs) some =
    elim (cases_Bool (x == 10)) [
      | inl feed ↦ rw feed refl
      | inr octet ↦
          let plus : 1 + prefix_len is_of_line xs ≡ suc (prefix_len is_of_line xs) = omega arith in
          let tail = tail_line x xs (first_line xs) in
          rw (octet, plus) tail
    ]

-- a text without octets has no line
pub no_line : (text : List ℕ) → length text ≡ 0 → lines_of text ≡ []
unfolding lines_of
no_line [] e = refl
no_line (x ∷ xs) e = absurd (omega arith)

-- the first line and the lines behind it, from the two cuts
pub cut_none : (text line rest : List ℕ) → (length text ≡ 0 → ⊥) → line ≡ take (prefix_len is_of_line text) text
    → rest ≡ drop (prefix_len is_of_line text) text → length rest ≡ 0 → lines_of text ≡ line ∷ lines_of rest
cut_none text line [] some front back none =
    let first = first_line text (omega arith) in
    rw (front, first) (ap (λ (r : List ℕ). take (prefix_len is_of_line text) text ∷ lines_of (drop 1 r)) (sym back))
cut_none text line (x ∷ xs) some front back none = absurd (omega arith)

pub cut_some : (text line rest behind : List ℕ) (x : ℕ) → (length text ≡ 0 → ⊥) → line ≡ take (prefix_len is_of_line text) text
    → rest ≡ drop (prefix_len is_of_line text) text → rest ≡ x ∷ behind → lines_of text ≡ line ∷ lines_of behind
cut_some text line rest behind x some front back parts =
    let first = first_line text (omega arith) in
    rw (front, first) (ap (λ (r : List ℕ). take (prefix_len is_of_line text) text ∷ lines_of (drop 1 r)) (sym back ∙ parts))
