-- Requests that are printed are read as the same, from one line to the next.
use Rattle.std.proofs.Common.{arith, ◌≡◌, ◌==◌, ℕ, ◌+◌, ◌≤◌, nat_lt, false, List, [], ◌∷◌, ◌++◌, length, length-append, filter, map, Ok, refl, ap, sym, ◌∙◌, append_assoc, append-nil, codes}
use Rattle.std.specs.List.{slice_split, onto_first}
use Rattle.std.proofs.lemmas.Bool.{ne_eqb, le-ltb}
use Rattle.std.proofs.lemmas.List.Splits.{length-slice_split}
use Rattle.er_base.specs.LineTexts.{line_end, line_text, lines_text, AreSolid, IsSolid, AreWords, IsLine, WordsAreReadBack}
use Rattle.er_base.specs.Words.{is_space, is_word, words_of}
use Rattle.application_lines.specs.declared.application_line.ApplicationLine.{ApplicationLine}
use Rattle.application_lines.specs.declared.application_line.ApplicationLine.TheVariants.{Asks}
use Rattle.application_lines.specs.declared.request.Request.{Request}
use Rattle.application_lines.specs.declared.request.Request.TheVariants.{Send, Release, Drain, Keys, Counts}
use Rattle.application_lines.specs.Requests.{request_said, IsRequestInRange}
use Rattle.application_lines.specs.Streams.{is_feed, next_line_number, pieces_tell, stream_says}
use Rattle.application_lines.specs.NoticeLaws.{request_words, CanAllBeAsked, asked_so, RequestsAreReadBack}
use Rattle.application_lines.proofs.SolidCodes.{solid_codes}

-- ---- the words of a line

-- the words behind the first one, each behind a space
abbrev joined_end : List (List ℕ) → List ℕ
joined_end [] = []
joined_end (word ∷ words) = 32 ∷ (word ++ joined_end words)

split_word : (word rest : List ℕ) → AreSolid word → slice_split is_space (word ++ 32 ∷ rest) ≡ word ∷ slice_split is_space rest
split_word [] rest h = refl
split_word (x ∷ word) rest h =
    let other : x ≡ 32 → ⊥ = omega (arith, h.0) in
    rw (ne_eqb x 32 other) (ap (onto_first x) (split_word word rest h.1))

split_last : (word : List ℕ) → AreSolid word → slice_split is_space word ≡ word ∷ []
split_last [] h = refl
split_last (x ∷ word) h =
    let other : x ≡ 32 → ⊥ = omega (arith, h.0) in
    rw (ne_eqb x 32 other) (ap (onto_first x) (split_last word h.1))

pieces : (name : List ℕ) (words : List (List ℕ)) → AreSolid name → AreWords words
    → slice_split is_space (name ++ joined_end words) ≡ name ∷ words
pieces name [] s h = ap (slice_split is_space) (append-nil name) ∙ split_last name s
pieces name (word ∷ words) s h =
    split_word name (word ++ joined_end words) s ∙ ap (λ (rest : List (List ℕ)). name ∷ rest) (pieces word words h.0.octets h.1)

kept : (words : List (List ℕ)) → AreWords words → filter is_word words ≡ words
kept [] h = refl
kept (word ∷ words) h =
    let other : length word ≡ 0 → ⊥ = omega (arith, h.0.some) in
    rw (ne_eqb (length word) 0 other) (ap (λ (rest : List (List ℕ)). word ∷ rest) (kept words h.1))

words_joined : (name : List ℕ) (words : List (List ℕ)) → IsSolid name → AreWords words → words_of (name ++ joined_end words) ≡ name ∷ words
unfolding words_of
words_joined name words s h = ap (filter is_word) (pieces name words s.octets h) ∙ kept (name ∷ words) (s, h)

-- ---- the line

end_split : (words : List (List ℕ)) (rest : List ℕ) → line_end words ++ rest ≡ joined_end words ++ 10 ∷ rest
unfolding line_end
end_split [] rest = refl
end_split (word ∷ words) rest =
    ap (λ (t : List ℕ). 32 ∷ t)
    (append_assoc word (line_end words) rest ∙ ap (λ (t : List ℕ). word ++ t) (end_split words rest) ∙ sym (append_assoc word (joined_end words) (10 ∷ rest)))

line_split : (name : List ℕ) (words : List (List ℕ)) (rest : List ℕ) → line_text (name ∷ words) ++ rest ≡ (name ++ joined_end words) ++ 10 ∷ rest
unfolding line_text
line_split name words rest =
    append_assoc name (line_end words) rest ∙ ap (λ (t : List ℕ). name ++ t) (end_split words rest) ∙ sym (append_assoc name (joined_end words) (10 ∷ rest))

line_length : (name : List ℕ) (words : List (List ℕ)) → length (line_text (name ∷ words)) ≡ length (name ++ joined_end words) + 1
line_length name words =
    ap length (sym (append-nil (line_text (name ∷ words))) ∙ line_split name words []) ∙ length-append (name ++ joined_end words) (10 ∷ [])

solid_cut : (word rest : List ℕ) (first : List ℕ) (more : List (List ℕ)) → AreSolid word → slice_split is_feed rest ≡ first ∷ more
    → slice_split is_feed (word ++ rest) ≡ (word ++ first) ∷ more
solid_cut [] rest first more h cut = cut
solid_cut (x ∷ word) rest first more h cut =
    let other : x ≡ 10 → ⊥ = omega (arith, h.0) in
    rw (ne_eqb x 10 other) (ap (onto_first x) (solid_cut word rest first more h.1 cut))

space_cut : (rest : List ℕ) (first : List ℕ) (more : List (List ℕ)) → slice_split is_feed rest ≡ first ∷ more
    → slice_split is_feed (32 ∷ rest) ≡ (32 ∷ first) ∷ more
space_cut rest first more cut = ap (onto_first 32) cut

end_cut : (words : List (List ℕ)) (rest : List ℕ) → AreWords words
    → slice_split is_feed (joined_end words ++ 10 ∷ rest) ≡ joined_end words ∷ slice_split is_feed rest
end_cut [] rest h = refl
end_cut (word ∷ words) rest h =
    space_cut ((word ++ joined_end words) ++ 10 ∷ rest) (word ++ joined_end words) (slice_split is_feed rest)
    (ap (slice_split is_feed) (append_assoc word (joined_end words) (10 ∷ rest))
    ∙ solid_cut word (joined_end words ++ 10 ∷ rest) (joined_end words) (slice_split is_feed rest) h.0.octets (end_cut words rest h.1))

line_cut : (name : List ℕ) (words : List (List ℕ)) (rest : List ℕ) → AreSolid name → AreWords words
    → slice_split is_feed (line_text (name ∷ words) ++ rest) ≡ (name ++ joined_end words) ∷ slice_split is_feed rest
line_cut name words rest s h =
    ap (slice_split is_feed) (line_split name words rest ∙ append_assoc name (joined_end words) (10 ∷ rest))
    ∙ solid_cut name (joined_end words ++ 10 ∷ rest) (joined_end words) (slice_split is_feed rest) s (end_cut words rest h)

-- ---- requests

request_read : (laws : WordsAreReadBack) (request : Request) → IsRequestInRange request → request_said (request_words request) ≡ Ok request
unfolding request_said
request_read laws (Send c text) h =
    rw (laws.number 0 18446744073709551615 c (omega arith) (omega (arith, h.0)) h.0, laws.text 4096 text h.1.1 h.1.0) refl
request_read laws (Release c sub) h =
    rw (laws.number 0 18446744073709551615 c (omega arith) (omega (arith, h.0)) h.0, laws.number 0 255 sub (omega arith) (omega (arith, h.1)) (omega (arith, h.1)))
    refl
request_read laws Drain h = refl
request_read laws Keys h = refl
request_read laws Counts h = refl

request_is_line : (laws : WordsAreReadBack) (request : Request) → IsRequestInRange request → IsLine (request_words request)
request_is_line laws (Send c text) h =
    (solid_codes (codes "send") refl refl, (laws.number_word c h.0, (laws.octets_word text h.1.1, tt)))
request_is_line laws (Release c sub) h =
    (solid_codes (codes "release") refl refl, (laws.number_word c h.0, (laws.number_word sub (omega (arith, h.1)), tt)))
request_is_line laws Drain h = (solid_codes (codes "drain") refl refl, tt)
request_is_line laws Keys h = (solid_codes (codes "keys") refl refl, tt)
request_is_line laws Counts h = (solid_codes (codes "counts") refl refl, tt)

-- a line and what follows it
one_told : (number : ℕ) (words : List (List ℕ)) (request : Request) (rest : List ℕ) → IsLine words → length (line_text words) ≤ 4097
    → request_said words ≡ Ok request
    → pieces_tell number (slice_split is_feed (line_text words ++ rest)) ≡ Asks request ∷ pieces_tell (next_line_number number) (slice_split is_feed rest)
unfolding pieces_tell
one_told number [] request rest h short said = absurd h
one_told number (name ∷ words) request rest h short said =
    let line = name ++ joined_end words in
    let long = line_length name words in
    let few : nat_lt 4096 (length line) ≡ false = le-ltb 4096 (length line) (omega (arith, long, short)) in
    let parts = length-slice_split is_feed rest in
    let ended : (length (slice_split is_feed rest) == 0) ≡ false = ne_eqb (length (slice_split is_feed rest)) 0 (λ none. omega (arith, none, parts)) in
    rw (line_cut name words rest h.0.octets h.1, few, ended, words_joined name words h.0 h.1, said) refl

all_told : (laws : WordsAreReadBack) (number : ℕ) (requests : List Request) → CanAllBeAsked requests
    → pieces_tell number (slice_split is_feed (lines_text (map request_words requests))) ≡ map asked_so requests
unfolding pieces_tell
all_told laws number [] h = refl
all_told laws number (request ∷ requests) h =
    one_told number (request_words request) request (lines_text (map request_words requests)) (request_is_line laws request h.0.0) h.0.1 (request_read laws request h.0.0)
    ∙ ap (λ (lines : List ApplicationLine). Asks request ∷ lines) (all_told laws (next_line_number number) requests h.1)

pub requests_are_read_back : WordsAreReadBack → RequestsAreReadBack
unfolding stream_says
requests_are_read_back laws requests h = all_told laws 1 requests h
