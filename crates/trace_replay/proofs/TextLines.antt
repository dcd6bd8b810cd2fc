-- The lines of a text are its first line and those of what follows; the place of the first LF is the length of the first line, that of the last
-- one where the ended part ends.
use Rattle.std.proofs.Common.{◌≡◌, ℕ, zero, suc, ◌+◌, ◌<◌, ◌≤◌, ◌==◌, ◌||◌, not, Bool, true, false, inl, inr, List, [], ◌∷◌, length, take, drop, slice_index, Some, None, refl, ap, sym, ◌∙◌, arith}
use Rattle.std.specs.List.{prefix_len}
use Rattle.std.proofs.lemmas.Bool.{cases_Bool, cases_lt}
use Rattle.std.proofs.lemmas.List.Sums.{prefix_len-le-length, prefix_len_passes, prefix_len_stops}
use Rattle.memchr.specs.Find.{IsFirstByte, IsLastByte, is_byte}
use Rattle.er_base.specs.Lines.{is_of_line, lines_of, onto_first_line}
use Rattle.trace_model.specs.Recordings.{has_line_feed, ended_part}

-- an octet joins the first line of what follows it
tail_line : (x : ℕ) (xs : List ℕ)
    → (0 < length xs → lines_of xs ≡ take (prefix_len is_of_line xs) xs ∷ lines_of (drop 1 (drop (prefix_len is_of_line xs) xs)))
    → onto_first_line x (lines_of xs) ≡ (x ∷ take (prefix_len is_of_line xs) xs) ∷ lines_of (drop 1 (drop (prefix_len is_of_line xs) xs))
unfolding lines_of
tail_line x [] tail = refl
tail_line x (y ∷ ys) tail = ap (onto_first_line x) (tail (omega arith))

-- the octets before the first LF, and the lines behind it
pub first_line : (text : List ℕ) → 0 < length text
    → lines_of text ≡ take (prefix_len is_of_line text) text ∷ lines_of (drop 1 (drop (prefix_len is_of_line text) text))
unfolding lines_of
first_line [] some = absurd (omega arith)
first_line (x ∷ xs) some =
    elim (cases_Bool (x == 10)) [
      | inl feed ↦ rw feed refl
      | inr octet ↦
          let plus : 1 + prefix_len is_of_line xs ≡ suc (prefix_len is_of_line xs) = omega arith in
          let tail = tail_line x xs (first_line xs) in
          rw (octet, plus) tail
    ]

-- a text without octets has no line
pub no_line : (text : List ℕ) → length text ≡ 0 → lines_of text ≡ []
unfolding lines_of
no_line [] e = refl
no_line (x ∷ xs) e = absurd (omega arith)

-- the first line and the lines behind it, from the two cuts
pub cut_none : (text line rest : List ℕ) → (length text ≡ 0 → ⊥) → line ≡ take (prefix_len is_of_line text) text
    → rest ≡ drop (prefix_len is_of_line text) text → length rest ≡ 0 → lines_of text ≡ line ∷ lines_of rest
cut_none text line [] some front back none =
    let first = first_line text (omega arith) in
    rw (front, first) (ap (λ (r : List ℕ). take (prefix_len is_of_line text) text ∷ lines_of (drop 1 r)) (sym back))
cut_none text line (x ∷ xs) some front back none = absurd (omega arith)

pub cut_some : (text line rest behind : List ℕ) (x : ℕ) → (length text ≡ 0 → ⊥) → line ≡ take (prefix_len is_of_line text) text
    → rest ≡ drop (prefix_len is_of_line text) text → rest ≡ x ∷ behind → lines_of text ≡ line ∷ lines_of behind
cut_some text line rest behind x some front back parts =
    let first = first_line text (omega arith) in
    rw (front, first) (ap (λ (r : List ℕ). take (prefix_len is_of_line text) text ∷ lines_of (drop 1 r)) (sym back ∙ parts))

no_other : (b : Bool) → not b ≡ true → b ≡ true → ⊥
no_other true e h = cc
no_other false e h = cc

is_feed : (b : Bool) → not b ≡ false → b ≡ true
is_feed true e = refl
is_feed false e = absurd (cc)

pub found : (text : List ℕ) (k : ℕ) → IsFirstByte (is_byte 10) text (Some k) → k ≡ prefix_len is_of_line text
found text k h =
    elim (cases_lt k (prefix_len is_of_line text)) [
      | inl early ↦ absurd (no_other (slice_index text k == 10) (prefix_len_passes is_of_line text k 0 early) h.1)
      | inr late ↦
          elim (cases_lt (prefix_len is_of_line text) k) [
            | inl before ↦
                let high = h.0.high in
                absurd (h.0.before (prefix_len is_of_line text) (omega arith) before
                (is_feed (slice_index text (prefix_len is_of_line text) == 10) (prefix_len_stops is_of_line text 0 (omega (arith, high)))))
            | inr behind ↦ omega arith
          ]
    ]

pub none : (text : List ℕ) → IsFirstByte (is_byte 10) text None → length text ≡ prefix_len is_of_line text
none text h =
    let most = prefix_len-le-length is_of_line text in
    elim (cases_lt (prefix_len is_of_line text) (length text)) [
      | inl before ↦
          absurd (h (prefix_len is_of_line text) (omega arith) before
          (is_feed (slice_index text (prefix_len is_of_line text) == 10) (prefix_len_stops is_of_line text 0 before)))
      | inr behind ↦ omega (arith, most)
    ]

-- ---- the last LF

feedless : (text : List ℕ) → ((k : ℕ) → k < length text → (slice_index text k == 10) ≡ true → ⊥) → has_line_feed text ≡ false
unfolding has_line_feed
feedless [] none = refl
feedless (x ∷ xs) none =
    elim (cases_Bool (x == 10)) [
      | inl feed ↦ absurd (none 0 (omega arith) feed)
      | inr octet ↦ rw octet (feedless xs (λ k below. none (suc k) (omega (arith, below))))
    ]

nothing_ended : (text : List ℕ) → has_line_feed text ≡ false → ended_part text ≡ []
unfolding ended_part
nothing_ended [] none = refl
nothing_ended (x ∷ xs) none = rw none refl

or_true : (b : Bool) → (b || true) ≡ true
or_true true = refl
or_true false = refl

has_one : (text : List ℕ) (k : ℕ) → k < length text → (slice_index text k == 10) ≡ true → has_line_feed text ≡ true
unfolding has_line_feed
has_one [] k below feed = absurd (omega (arith, below))
has_one (x ∷ xs) zero below feed = rw feed refl
has_one (x ∷ xs) (suc k) below feed = rw (has_one xs k (omega (arith, below)) feed) (or_true (x == 10))

ended_at : (text : List ℕ) (k : ℕ) → k < length text → (slice_index text k == 10) ≡ true
    → ((j : ℕ) → k + 1 ≤ j → j < length text → (slice_index text j == 10) ≡ true → ⊥) → ended_part text ≡ take (k + 1) text
unfolding ended_part
ended_at [] k below feed last = absurd (omega (arith, below))
ended_at (x ∷ xs) zero below feed last =
    rw (has_one (x ∷ xs) zero below feed)
    (ap (λ (l : List ℕ). x ∷ l) (nothing_ended xs (feedless xs (λ j within. last (suc j) (omega arith) (omega (arith, within))))))
ended_at (x ∷ xs) (suc k) below feed last =
    let more : suc k + 1 ≡ suc (k + 1) = omega arith in
    rw (has_one (x ∷ xs) (suc k) below feed, more)
    (ap (λ (l : List ℕ). x ∷ l) (ended_at xs k (omega (arith, below)) feed (λ j past within. last (suc j) (omega (arith, past)) (omega (arith, within)))))

pub ended_last : (text : List ℕ) (k : ℕ) → IsLastByte (is_byte 10) text (Some k) → ended_part text ≡ take (k + 1) text
ended_last text k h = ended_at text k h.0.high h.1 (λ j past within. h.0.after j past within)

pub ended_none : (text : List ℕ) → IsLastByte (is_byte 10) text None → ended_part text ≡ []
ended_none text h = nothing_ended text (feedless text (λ k below. h k (omega arith) below))
