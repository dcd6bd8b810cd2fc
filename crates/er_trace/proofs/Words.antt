-- No words, and so many as an event wants.
use Rattle.std.proofs.Common.{arith, ◌≡◌, ℕ, List, [], ◌∷◌, map, length, slice_index_or, Bor, refl}

abbrev at : List (Bor (List ℕ)) → ℕ → List ℕ
at words k = (slice_index_or words k (record { ref_ptr = (0, 0); now = [] })).now

pub no_words : (words : List (Bor (List ℕ))) → length words ≡ 0 → map (λ w. w.now) words ≡ []
no_words [] h = refl
no_words (word ∷ words) h = absurd (omega (arith, h))

pub one_word : (words : List (Bor (List ℕ))) → length words ≡ 1 → map (λ w. w.now) words ≡ at words 0 ∷ []
one_word [] h = absurd (omega (arith, h))
one_word (a ∷ []) h = refl
one_word (a ∷ b ∷ words) h = absurd (omega (arith, h))

pub two_words : (words : List (Bor (List ℕ))) → length words ≡ 2 → map (λ w. w.now) words ≡ at words 0 ∷ at words 1 ∷ []
two_words [] h = absurd (omega (arith, h))
two_words (a ∷ []) h = absurd (omega (arith, h))
two_words (a ∷ b ∷ []) h = refl
two_words (a ∷ b ∷ c ∷ words) h = absurd (omega (arith, h))

pub three_words : (words : List (Bor (List ℕ))) → length words ≡ 3
    → map (λ w. w.now) words ≡ at words 0 ∷ at words 1 ∷ at words 2 ∷ []
three_words [] h = absurd (omega (arith, h))
three_words (a ∷ []) h = absurd (omega (arith, h))
three_words (a ∷ b ∷ []) h = absurd (omega (arith, h))
three_words (a ∷ b ∷ c ∷ []) h = refl
three_words (a ∷ b ∷ c ∷ d ∷ words) h = absurd (omega (arith, h))
