-- What a call of a deframer does, by the frames of the whole line.
use Rattle.std.proofs.Common.{◌≡◌, ℕ, zero, suc, ◌<◌, ◌≤◌, List, [], ◌∷◌, ◌++◌, length, take, Option, None, Some, refl, sym, ◌∙◌, ap, arith, append-nil, add-one}
use Rattle.std.specs.Option.{option_to_list}
use Rattle.std.specs.Prelude.{option_map, IsNone}
use Rattle.hdlc_bits.specs.Framing.{Verdict, frames_of_bits}
use Rattle.hdlc_bits.specs.Keeping.{KeptBitDeframer, after_bit, kept_after, kept_of, IsKeptOfLine, Feeding, verdict_at, bit_scan, scan_of}
use Rattle.hdlc_bits.specs.Shown.{verdict_of_bits_found}
use Rattle.hdlc_bits.specs.declared.found.BitFound.{BitFound}
use Rattle.hdlc_bits.proofs.RunLaws.{At, at_first, next, brought, frames_from, after, frames_from-cons, frames_from-nil, frames_of_bits-append}
use Rattle.hdlc_bits.proofs.KeptLaws.{kept_since, kept_since-bit, verdict_of_bit, kept_of-is, kept_of-append}

-- what going through bits gives where the line stands at `a`
pub record Answers (a : At) (bits : List ℕ) (f : Feeding) : Type 0 where
  pub verdict : frames_from a (take f.used bits) ≡ option_to_list f.verdict
  pub first : (k : ℕ) → k < f.used → frames_from a (take k bits) ≡ []

before : (a : At) (x : ℕ) (xs : List ℕ) (n : ℕ) → brought a x ≡ [] → ((k : ℕ) → k < n → frames_from (next a x) (take k xs) ≡ []) → (k : ℕ) → k < suc n → frames_from a (take k (x ∷ xs)) ≡ []
before a x xs n none h zero lt = frames_from-nil a
before a x xs n none h (suc k) lt = frames_from-cons a x (take k xs) ∙ ap (λ v. v ++ frames_from (next a x) (take k xs)) none ∙ h k (omega arith)

nothing_before : (a : At) (x : ℕ) (xs : List ℕ) (k : ℕ) → k < 1 → frames_from a (take k (x ∷ xs)) ≡ []
nothing_before a x xs zero lt = frames_from-nil a
nothing_before a x xs (suc k) lt = absurd (omega arith)

answers_more : (a : At) (x : ℕ) (xs : List ℕ) (k : KeptBitDeframer) (rest : Feeding) (v : Option Verdict) → option_to_list v ≡ brought a x → Answers (next a x) xs rest → Answers a (x ∷ xs) (bit_scan k v rest)
answers_more a x xs j rest None e h =
    let none : brought a x ≡ [] = sym e in
    record {
      verdict = rw (add-one rest.used) (frames_from-cons a x (take rest.used xs) ∙ ap (λ v. v ++ frames_from (next a x) (take rest.used xs)) none ∙ h.verdict);
      first = λ k lt. before a x xs rest.used none h.first k (omega arith);
    }
answers_more a x xs j rest (Some v) e h =
    record {
      verdict = frames_from-cons a x [] ∙ ap (λ l. brought a x ++ l) (frames_from-nil (next a x)) ∙ append-nil (brought a x) ∙ sym e;
      first = λ k lt. nothing_before a x xs k (omega arith);
    }

answers : (bits : List ℕ) (a : At) → Answers a bits (scan_of (kept_since a) bits)
answers [] a = record { verdict = frames_from-nil a; first = λ k lt. absurd (omega arith) }
answers (x ∷ xs) a =
    rw (kept_since-bit a x) (answers_more a x xs (kept_since (next a x)) (scan_of (kept_since (next a x)) xs) (verdict_at (kept_since a) x) (verdict_of_bit a x) (answers xs (next a x)))

line_answers : (line bits : List ℕ) → Answers (after at_first line) bits (scan_of (kept_of line) bits)
line_answers line bits = rw (kept_of-is line) (answers bits (after at_first line))

-- ---- whatever is kept

whole_more : (v : Option Verdict) (k : KeptBitDeframer) (rest : Feeding) (n : ℕ) → (rest.verdict ≡ None → rest.used ≡ n) → (bit_scan k v rest).verdict ≡ None → (bit_scan k v rest).used ≡ suc n
whole_more None k rest n h e = omega (arith, h e)
whole_more (Some v) k rest n h e = cc

scan_whole : (bits : List ℕ) (k : KeptBitDeframer) → (scan_of k bits).verdict ≡ None → (scan_of k bits).used ≡ length bits
scan_whole [] k n = refl
scan_whole (x ∷ xs) k n = whole_more (verdict_at k x) (after_bit k x) (scan_of (after_bit k x) xs) (length xs) (scan_whole xs (after_bit k x)) n

within_more : (v : Option Verdict) (k : KeptBitDeframer) (rest : Feeding) (n : ℕ) → rest.used ≤ n → (bit_scan k v rest).used ≤ suc n
within_more None k rest n h = omega arith
within_more (Some v) k rest n h = omega arith

scan_within : (bits : List ℕ) (k : KeptBitDeframer) → (scan_of k bits).used ≤ length bits
scan_within [] k = omega arith
scan_within (x ∷ xs) k = within_more (verdict_at k x) (after_bit k x) (scan_of (after_bit k x) xs) (length xs) (scan_within xs (after_bit k x))

bit_used : (v : Option Verdict) (k : KeptBitDeframer) (rest : Feeding) → 0 < (bit_scan k v rest).used
bit_used None k rest = omega arith
bit_used (Some v) k rest = omega arith

scan_moves : (bits : List ℕ) (k : KeptBitDeframer) → 0 < length bits → 0 < (scan_of k bits).used
scan_moves [] k h = absurd (omega arith)
scan_moves (x ∷ xs) k h = bit_used (verdict_at k x) (after_bit k x) (scan_of (after_bit k x) xs)

kept_more : (k : KeptBitDeframer) (x : ℕ) (xs : List ℕ) (rest : Feeding) (v : Option Verdict) → rest.kept ≡ kept_after (after_bit k x) (take rest.used xs)
    → (bit_scan (after_bit k x) v rest).kept ≡ kept_after k (take (bit_scan (after_bit k x) v rest).used (x ∷ xs))
unfolding kept_after
kept_more k x xs rest None h = rw (add-one rest.used) h
kept_more k x xs rest (Some v) h = refl

kept_none : (k : KeptBitDeframer) → k ≡ kept_after k []
unfolding kept_after
kept_none k = refl

-- what is kept is what the bits that are used leave
pub scan_kept : (bits : List ℕ) (k : KeptBitDeframer) → (scan_of k bits).kept ≡ kept_after k (take (scan_of k bits).used bits)
scan_kept [] k = kept_none k
scan_kept (x ∷ xs) k = kept_more k x xs (scan_of (after_bit k x) xs) (verdict_at k x) (scan_kept xs (after_bit k x))

-- ---- the same of a call's results

pub feed_frames : (k : KeptBitDeframer) (line bits : List ℕ) (n : ℕ) (v : Option Verdict) → n ≡ (scan_of k bits).used → v ≡ (scan_of k bits).verdict → k ≡ kept_of line
    → frames_of_bits (line ++ take n bits) ≡ frames_of_bits line ++ option_to_list v
feed_frames k line bits n v used verdict e =
    let whole : k ≡ kept_of line → frames_of_bits (line ++ take (scan_of k bits).used bits) ≡ frames_of_bits line ++ option_to_list (scan_of k bits).verdict =
    λ h. rw h (frames_of_bits-append line (take (scan_of (kept_of line) bits).used bits) ∙ ap (λ v. frames_of_bits line ++ v) (line_answers line bits).verdict) in
    rw (used, verdict) (whole e)

pub feed_first : (k : KeptBitDeframer) (line bits : List ℕ) (n : ℕ) → n ≡ (scan_of k bits).used → k ≡ kept_of line → (j : ℕ) → j < n → frames_of_bits (line ++ take j bits) ≡ frames_of_bits line
feed_first k line bits n used e j lt =
    let same : n ≡ (scan_of (kept_of line) bits).used = used ∙ ap (λ (h : KeptBitDeframer). (scan_of h bits).used) e in
    frames_of_bits-append line (take j bits) ∙ ap (λ v. frames_of_bits line ++ v) ((line_answers line bits).first j (rw same at lt)) ∙ append-nil (frames_of_bits line)

pub feed_whole : (k : KeptBitDeframer) (bits : List ℕ) (n : ℕ) (found : Option BitFound) → n ≡ (scan_of k bits).used → option_map verdict_of_bits_found found ≡ (scan_of k bits).verdict → IsNone found → n ≡ length bits
feed_whole k bits n None used verdict h = used ∙ scan_whole bits k (sym verdict)
feed_whole k bits n (Some f) used verdict h = cc

pub feed_within : (k : KeptBitDeframer) (bits : List ℕ) (n : ℕ) → n ≡ (scan_of k bits).used → n ≤ length bits
feed_within k bits n used = rw used (scan_within bits k)

pub feed_moves : (k : KeptBitDeframer) (bits : List ℕ) (n : ℕ) → n ≡ (scan_of k bits).used → 0 < length bits → 0 < n
feed_moves k bits n used h = rw used (scan_moves bits k h)

-- what is kept of a line leads to what is kept of a line
pub scan_stays : (k next : KeptBitDeframer) (bits : List ℕ) → IsKeptOfLine k → next ≡ (scan_of k bits).kept → IsKeptOfLine next
scan_stays k next bits (line, is) e =
    let used : List ℕ = take (scan_of k bits).used bits in
    (line ++ used, e ∙ scan_kept bits k ∙ ap (λ (j : KeptBitDeframer). kept_after j used) is ∙ sym (kept_of-append line used))
