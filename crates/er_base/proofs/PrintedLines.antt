-- Lines that are printed are read as the same words.
use Rattle.std.proofs.Common.{arith, ◌≡◌, ℕ, suc, ◌+◌, false, List, [], ◌∷◌, ◌++◌, length, filter, refl, ap, sym, ◌∙◌, append_assoc, append-nil}
use Rattle.std.specs.List.{slice_split, onto_first}
use Rattle.std.proofs.lemmas.Bool.{ne_eqb}
use Rattle.er_base.specs.Words.{is_space, is_word, words_of}
use Rattle.er_base.specs.Lines.{lines_of, onto_first_line, is_comment, is_skipped, Row, rows_of}
use Rattle.er_base.specs.LineTexts.{line_end, line_text, lines_text, AreSolid, IsSolid, AreWords, AreLines, rows_from}

-- the words behind the first one, each behind a space
abbrev joined_end : List (List ℕ) → List ℕ
joined_end [] = []
joined_end (word ∷ words) = 32 ∷ (word ++ joined_end words)

split_word : (word rest : List ℕ) → AreSolid word → slice_split is_space (word ++ 32 ∷ rest) ≡ word ∷ slice_split is_space rest
split_word [] rest h = refl
split_word (x ∷ word) rest h =
    let other : x ≡ 32 → ⊥ = omega (arith, h.0) in
    rw (ne_eqb x 32 other) (ap (onto_first x) (split_word word rest h.1))

split_last : (word : List ℕ) → AreSolid word → slice_split is_space word ≡ word ∷ []
split_last [] h = refl
split_last (x ∷ word) h =
    let other : x ≡ 32 → ⊥ = omega (arith, h.0) in
    rw (ne_eqb x 32 other) (ap (onto_first x) (split_last word h.1))

pieces : (name : List ℕ) (words : List (List ℕ)) → AreSolid name → AreWords words
    → slice_split is_space (name ++ joined_end words) ≡ name ∷ words
pieces name [] s h = ap (slice_split is_space) (append-nil name) ∙ split_last name s
pieces name (word ∷ words) s h =
    split_word name (word ++ joined_end words) s ∙ ap (λ (rest : List (List ℕ)). name ∷ rest) (pieces word words h.0.octets h.1)

kept : (words : List (List ℕ)) → AreWords words → filter is_word words ≡ words
kept [] h = refl
kept (word ∷ words) h =
    let other : length word ≡ 0 → ⊥ = omega (arith, h.0.some) in
    rw (ne_eqb (length word) 0 other) (ap (λ (rest : List (List ℕ)). word ∷ rest) (kept words h.1))

words_joined : (name : List ℕ) (words : List (List ℕ)) → IsSolid name → AreWords words → words_of (name ++ joined_end words) ≡ name ∷ words
unfolding words_of
words_joined name words s h = ap (filter is_word) (pieces name words s.octets h) ∙ kept (name ∷ words) (s, h)

end_split : (words : List (List ℕ)) (rest : List ℕ) → line_end words ++ rest ≡ joined_end words ++ 10 ∷ rest
unfolding line_end
end_split [] rest = refl
end_split (word ∷ words) rest =
    ap (λ (t : List ℕ). 32 ∷ t)
    (append_assoc word (line_end words) rest ∙ ap (λ (t : List ℕ). word ++ t) (end_split words rest) ∙ sym (append_assoc word (joined_end words) (10 ∷ rest)))

line_split : (name : List ℕ) (words : List (List ℕ)) (rest : List ℕ) → line_text (name ∷ words) ++ rest ≡ (name ++ joined_end words) ++ 10 ∷ rest
unfolding line_text
line_split name words rest =
    append_assoc name (line_end words) rest ∙ ap (λ (t : List ℕ). name ++ t) (end_split words rest) ∙ sym (append_assoc name (joined_end words) (10 ∷ rest))

abbrev HasNoFeed : List ℕ → Type 0
HasNoFeed [] = Unit {0}
HasNoFeed (x ∷ xs) = (x ≡ 10 → ⊥) × HasNoFeed xs

solid_no_feed : (word : List ℕ) → AreSolid word → HasNoFeed word
solid_no_feed [] h = tt
solid_no_feed (x ∷ word) h = (omega (arith, h.0), solid_no_feed word h.1)

append_no_feed : (a b : List ℕ) → HasNoFeed a → HasNoFeed b → HasNoFeed (a ++ b)
append_no_feed [] b h k = k
append_no_feed (x ∷ a) b h k = (h.0, append_no_feed a b h.1 k)

joined_no_feed : (words : List (List ℕ)) → AreWords words → HasNoFeed (joined_end words)
joined_no_feed [] h = tt
joined_no_feed (word ∷ words) h = (omega arith, append_no_feed word (joined_end words) (solid_no_feed word h.0.octets) (joined_no_feed words h.1))

lines_cut : (line rest : List ℕ) → HasNoFeed line → lines_of (line ++ 10 ∷ rest) ≡ line ∷ lines_of rest
unfolding lines_of
lines_cut [] rest h = refl
lines_cut (x ∷ line) rest h = rw (ne_eqb x 10 h.0) (ap (onto_first_line x) (lines_cut line rest h.1))

no_comment : (name rest : List ℕ) → IsSolid name → is_comment (name ++ rest) ≡ false
no_comment [] rest s = absurd (omega (arith, s.some))
no_comment (x ∷ name) rest s =
    let sign : x ≡ 35 → ⊥ = omega (arith, s.octets.0) in
    ne_eqb x 35 sign

not_skipped : (name rest : List ℕ) (words : List (List ℕ)) → IsSolid name → words_of (name ++ rest) ≡ name ∷ words → is_skipped (name ++ rest) ≡ false
not_skipped name rest words s said =
    let some : suc (length words) ≡ 0 → ⊥ = omega arith in
    rw (no_comment name rest s, said, ne_eqb (suc (length words)) 0 some) refl

one_row : (before : ℕ) (line : List ℕ) (words : List (List ℕ)) (lines : List (List ℕ)) → is_skipped line ≡ false → words_of line ≡ words
    → rows_of before (line ∷ lines) ≡ record { number = before + 1; words = words } ∷ rows_of (before + 1) lines
unfolding rows_of
one_row before line words lines counts said = rw (counts, said) refl

no_rows : (before : ℕ) → rows_of before (lines_of []) ≡ []
unfolding rows_of lines_of
no_rows before = refl

pub rows_read : (before : ℕ) (lines : List (List (List ℕ))) → AreLines lines → rows_of before (lines_of (lines_text lines)) ≡ rows_from before lines
rows_read before [] h = no_rows before
rows_read before ([] ∷ lines) h = absurd h.0
rows_read before ((name ∷ words) ∷ lines) h =
    let line : List ℕ = name ++ joined_end words in
    let feeds = append_no_feed name (joined_end words) (solid_no_feed name h.0.0.octets) (joined_no_feed words h.0.1) in
    ap (λ (t : List ℕ). rows_of before (lines_of t)) (line_split name words (lines_text lines))
    ∙ ap (rows_of before) (lines_cut line (lines_text lines) feeds)
    ∙ one_row before line (name ∷ words) (lines_of (lines_text lines)) (not_skipped name (joined_end words) words h.0.0 (words_joined name words h.0.0 h.0.1)) (words_joined name words h.0.0 h.0.1)
    ∙ ap (λ (rows : List Row). record { number = before + 1; words = name ∷ words } ∷ rows) (rows_read (before + 1) lines h.1)
