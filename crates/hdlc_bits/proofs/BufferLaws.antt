-- The buffer of the code: bits appended, and the verdict on them.
use Rattle.std.proofs.Common.{◌≡◌, ℕ, zero, suc, ◌+◌, ◌-◌, ◌*◌, ◌/◌, ◌%◌, ◌^◌, ◌<◌, ◌≤◌, Bool, true, false, List, [], ◌∷◌, ◌++◌, length, take, drop, None, Some, refl, sym, ◌∙◌, ap, arith, inl, inr, get_or, append_assoc, length-append, append-nil, eq-eqb}
use Rattle.std.specs.Prelude.{slice_index, slice_range}
use Rattle.std.proofs.lemmas.Bool.{cases_lt, lt-ltb, le-ltb, ne_eqb}
use Rattle.std.proofs.lemmas.List.{take_all, take-append-le, length-take-le, take-take, get_or-take, take-set, take_more_set}
use Rattle.std.proofs.Math.ListN.{set}
use Rattle.std.proofs.lemmas.Nat.{pow-add}
use Rattle.std.specs.Prelude.{bit_or}
use mir.Val.{bool_byte}
use Rattle.bit_lists.proofs.Widths.{or_joined, or_joined_small}
use Rattle.bit_lists.specs.LowestFirst.{low_bits}
use Rattle.bit_lists.proofs.LowestFirstLaws.{length-low_bits}
use Rattle.hdlc_fcs.specs.FrameCheck.{fcs_of, sent_bits}
use Rattle.hdlc_fcs.specs.Contents.{checked_part, check_number, IsIntact}
use Rattle.hdlc_bits.specs.Framing.{Verdict, Frame, Ragged, BadFcs, TooShort, TooLong, Aborted, octets_of_bits, verdict_by_frame_check_sequence, verdict_on_bits, verdict_at_end, has_bits}
use Rattle.hdlc_bits.specs.Keeping.{added}
use Rattle.hdlc_bits.specs.Buffers.{buffer_bits}
use Rattle.hdlc_bits.proofs.KeptLaws.{take_kept, too_long, verdict_on_kept}
use Rattle.hdlc_bits.proofs.BitLaws.{low_bits_joined, length-sent_bits, sent_bits-append, sent_bits-cons, sent_bits-nil, octets_of_sent}

pub length-buffer_bits : (len last : ℕ) (os : List ℕ) → len / 8 ≤ length os → length (buffer_bits len last os) ≡ len
unfolding buffer_bits
length-buffer_bits len last os h =
    length-append (sent_bits (take (len / 8) os)) (low_bits (len % 8) last)
    ∙ omega (arith, length-sent_bits (take (len / 8) os), length-take-le (len / 8) os h, length-low_bits (len % 8) last)

-- an empty buffer
pub buffer_bits-none : (os : List ℕ) → buffer_bits 0 0 os ≡ []
unfolding buffer_bits low_bits sent_bits
buffer_bits-none os = refl

-- a buffer of whole octets
buffer_bits-whole : (len last : ℕ) (os : List ℕ) → len % 8 ≡ 0 → buffer_bits len last os ≡ sent_bits (take (len / 8) os)
unfolding buffer_bits low_bits
buffer_bits-whole len last os h = rw h (append-nil (sent_bits (take (len / 8) os)))

-- ---- the verdict

pub judged_long : (len last : ℕ) (os : List ℕ) → len / 8 ≤ length os → 8256 < len → TooLong ≡ verdict_on_bits (buffer_bits len last os)
judged_long len last os fits h = sym (too_long (buffer_bits len last os) (omega (arith, length-buffer_bits len last os fits)))

pub judged_ragged : (len last : ℕ) (os : List ℕ) → len / 8 ≤ length os → len ≤ 8256 → 0 < len % 8 → Ragged len ≡ verdict_on_bits (buffer_bits len last os)
unfolding verdict_on_bits
judged_ragged len last os fits short h = rw (length-buffer_bits len last os fits, le-ltb 8256 len short, lt-ltb 0 (len % 8) h) refl

pub judged_short : (len last : ℕ) (os : List ℕ) → len / 8 ≤ length os → len % 8 ≤ 0 → len < 32 → TooShort ≡ verdict_on_bits (buffer_bits len last os)
unfolding verdict_on_bits
judged_short len last os fits whole h =
    rw (length-buffer_bits len last os fits, le-ltb 8256 len (omega arith), le-ltb 0 (len % 8) whole, lt-ltb len 32 h) refl

below_take : (n : ℕ) (os : List ℕ) → ((i : ℕ) → slice_index os i < 256) → (i : ℕ) → slice_index (take n os) i < 256
below_take zero os h i = omega arith
below_take (suc n) [] h i = omega arith
below_take (suc n) (o ∷ os) h zero = h 0
below_take (suc n) (o ∷ os) h (suc i) = below_take n os (λ j. h (suc j)) i

content_is : (len last : ℕ) (os : List ℕ) → len / 8 ≤ length os → ((i : ℕ) → slice_index os i < 256) → len ≤ 8256 → len % 8 ≤ 0 → 32 ≤ len
    → verdict_on_bits (buffer_bits len last os) ≡ verdict_by_frame_check_sequence (take (len / 8) os)
unfolding verdict_on_bits
content_is len last os fits below short whole long =
    let same : octets_of_bits (buffer_bits len last os) ≡ take (len / 8) os =
    ap octets_of_bits (buffer_bits-whole len last os (omega arith)) ∙ octets_of_sent (take (len / 8) os) (below_take (len / 8) os below) in
    rw (length-buffer_bits len last os fits, le-ltb 8256 len short, le-ltb 0 (len % 8) whole, le-ltb len 32 long) (ap verdict_by_frame_check_sequence same)

drop_take_one : (n : ℕ) (xs : List ℕ) → drop 1 (take n xs) ≡ take (n - 1) (drop 1 xs)
drop_take_one zero xs = refl
drop_take_one (suc n) [] = let e : suc n - 1 ≡ n = omega arith in rw e (sym (take_all n [] (omega arith)))
drop_take_one (suc n) (x ∷ xs) = let e : suc n - 1 ≡ n = omega arith in rw e refl

judged_content : (c : List ℕ) → IsIntact c → Frame (slice_index c 0) (drop 1 (take (length c - 2) c)) ≡ verdict_by_frame_check_sequence c
unfolding verdict_by_frame_check_sequence checked_part
judged_content c intact = rw (eq-eqb (fcs_of (take (length c - 2) c)) (check_number c) intact.1) refl

pub judged_frame : (len last : ℕ) (os : List ℕ) → len / 8 ≤ length os → ((i : ℕ) → slice_index os i < 256) → len ≤ 8256 → len % 8 ≤ 0 → 32 ≤ len → IsIntact (take (len / 8) os)
    → Frame (slice_index os 0) (slice_range os 1 (len / 8 - 2)) ≡ verdict_on_bits (buffer_bits len last os)
judged_frame len last os fits below short whole long intact =
    let n : ℕ = len / 8 in
    let size : length (take n os) ≡ n = length-take-le n os fits in
    let first : get_or (take n os) 0 0 ≡ get_or os 0 0 = get_or-take n os 0 0 (omega arith) in
    let body : drop 1 (take (length (take n os) - 2) (take n os)) ≡ slice_range os 1 (n - 2) =
    ap (λ m. drop 1 (take (m - 2) (take n os))) size ∙ ap (λ bs. drop 1 bs) (take-take (n - 2) n os (omega arith)) ∙ drop_take_one (n - 2) os in
    sym
    (content_is len last os fits below short whole long ∙ sym (judged_content (take n os) intact)
    ∙ ap (λ a. Frame a (drop 1 (take (length (take n os) - 2) (take n os)))) first ∙ ap (λ b. Frame (get_or os 0 0) b) body)

judged_spoilt : (c : List ℕ) → 2 ≤ length c → (IsIntact c → ⊥) → BadFcs ≡ verdict_by_frame_check_sequence c
unfolding verdict_by_frame_check_sequence
judged_spoilt c long spoilt = rw (ne_eqb (fcs_of (checked_part c)) (check_number c) (λ e. spoilt (long, e))) refl

pub judged_bad : (len last : ℕ) (os : List ℕ) → len / 8 ≤ length os → ((i : ℕ) → slice_index os i < 256) → len ≤ 8256 → len % 8 ≤ 0 → 32 ≤ len → (IsIntact (take (len / 8) os) → ⊥)
    → BadFcs ≡ verdict_on_bits (buffer_bits len last os)
judged_bad len last os fits below short whole long spoilt =
    judged_spoilt (take (len / 8) os) (omega (arith, length-take-le (len / 8) os fits)) spoilt ∙ sym (content_is len last os fits below short whole long)

-- ---- the verdict where ones end the bits

nonempty : (bs : List ℕ) → 0 < length bs → has_bits (take 8257 bs) ≡ true
nonempty [] h = absurd (omega arith)
nonempty (b ∷ bs) h = refl

buffer_nonempty : (len last : ℕ) (os : List ℕ) → len / 8 ≤ length os → 0 < len → has_bits (take 8257 (buffer_bits len last os)) ≡ true
buffer_nonempty len last os fits h = nonempty (buffer_bits len last os) (omega (arith, length-buffer_bits len last os fits))

empty_bits : (last : ℕ) (os : List ℕ) → buffer_bits 0 last os ≡ []
unfolding buffer_bits low_bits sent_bits
empty_bits last os = refl

pub end_empty : (ones len last : ℕ) (os : List ℕ) → len ≡ 0 → None ≡ verdict_at_end ones (take 8257 (buffer_bits len last os))
end_empty ones len last os e = rw (e, empty_bits last os) refl

pub end_aborted : (ones len last : ℕ) (os : List ℕ) → len / 8 ≤ length os → 0 < len → 6 < ones → Some Aborted ≡ verdict_at_end ones (take 8257 (buffer_bits len last os))
end_aborted ones len last os fits some h = rw (buffer_nonempty len last os fits some, lt-ltb 6 ones h) refl

pub end_judged : (ones len last : ℕ) (os : List ℕ) (v : Verdict) → len / 8 ≤ length os → 0 < len → ones ≤ 6 → v ≡ verdict_on_bits (buffer_bits len last os)
    → Some v ≡ verdict_at_end ones (take 8257 (buffer_bits len last os))
end_judged ones len last os v fits some h is =
    rw (buffer_nonempty len last os fits some, le-ltb 6 ones h) (ap (λ (w : Verdict). Some w) (is ∙ sym (verdict_on_kept (buffer_bits len last os))))

-- ---- bits appended

-- the bits of the last octet with bits behind them, as the code joins them
abbrev joined : ℕ → ℕ → ℕ → ℕ
joined place bits last = bit_or (bits * 2 ^ place % 2 ^ 32) last

joined_is : (place count bits last : ℕ) → place < 8 → count ≤ 6 → bits < 2 ^ count → last < 2 ^ place → joined place bits last ≡ bits * 2 ^ place + last
joined_is place count bits last h few narrow small = or_joined 32 count place bits last (omega arith) narrow small

joined_small : (place count bits last : ℕ) → place < 8 → count ≤ 6 → bits < 2 ^ count → last < 2 ^ place → joined place bits last < 2 ^ (count + place)
joined_small place count bits last h few narrow small = or_joined_small 32 count place bits last (omega arith) narrow small

joined_bits : (place count bits last : ℕ) → place < 8 → count ≤ 6 → bits < 2 ^ count → last < 2 ^ place → low_bits (place + count) (joined place bits last) ≡ low_bits place last ++ low_bits count bits
joined_bits place count bits last h few narrow small =
    rw (joined_is place count bits last h few narrow small) (low_bits_joined place count bits last small)

shifted_none : (j n : ℕ) → n < 8 → j / 2 ^ (n / 8 * 8) ≡ j
shifted_none j n h = let none : n / 8 * 8 ≡ 0 = omega arith in rw none (omega arith)

shifted_octet : (j n : ℕ) → 8 ≤ n → n < 16 → j / 2 ^ (n / 8 * 8) ≡ j / 256
shifted_octet j n h k = let one : n / 8 * 8 ≡ 8 = omega arith in rw one refl

pub set_octet : (os : List ℕ) (q x : ℕ) → q < length os → sent_bits (take (q + 1) (set os q x)) ≡ sent_bits (take q os) ++ low_bits 8 x
set_octet os q x h =
    ap sent_bits (take_more_set os q x h) ∙ sent_bits-append (take q os) (x ∷ [])
    ∙ ap (λ bs. sent_bits (take q os) ++ bs) (sent_bits-cons x [] ∙ ap (λ bs. low_bits 8 x ++ bs) sent_bits-nil ∙ append-nil (low_bits 8 x))

octet_split : (m j : ℕ) → low_bits (8 + m) j ≡ low_bits 8 (j % 256) ++ low_bits m (j / 256)
octet_split m j =
    let whole : j / 256 * 2 ^ 8 + j % 256 ≡ j = omega arith in
    rw whole at (low_bits_joined 8 m (j / 256) (j % 256) (omega arith))

pub pushed_bits : (len last bits count : ℕ) (os : List ℕ) → len / 8 < length os → count ≤ 6 → bits < 2 ^ count → last < 2 ^ (len % 8)
    → buffer_bits (len + count) (joined (len % 8) bits last / 2 ^ ((len % 8 + count) / 8 * 8)) (set os (len / 8) (joined (len % 8) bits last % 256)) ≡ buffer_bits len last os ++ low_bits count bits
unfolding buffer_bits
pushed_bits len last bits count os fits few narrow small =
    let place : ℕ = len % 8 in
    let q : ℕ = len / 8 in
    let j : ℕ = joined place bits last in
    let front : List ℕ = sent_bits (take q os) in
    let all : low_bits (place + count) j ≡ low_bits place last ++ low_bits count bits = joined_bits place count bits last (omega arith) few narrow small in
    elim (cases_lt (place + count) 8) [
      | inl lt ↦
          let quotient : (len + count) / 8 ≡ q = omega arith in
          let rest : (len + count) % 8 ≡ place + count = omega arith in
          rw (quotient, rest, shifted_none j (place + count) lt, take-set os q (j % 256), all) (sym (append_assoc front (low_bits place last) (low_bits count bits)))
      | inr ge ↦
          let quotient : (len + count) / 8 ≡ q + 1 = omega arith in
          let m : ℕ = place + count - 8 in
          let rest : (len + count) % 8 ≡ m = omega arith in
          let more : 8 + m ≡ place + count = omega arith in
          let split : low_bits (place + count) j ≡ low_bits 8 (j % 256) ++ low_bits m (j / 256) = rw more at (octet_split m j) in
          rw (quotient, rest, shifted_octet j (place + count) (omega arith) (omega arith), set_octet os q (j % 256) fits)
          (append_assoc front (low_bits 8 (j % 256)) (low_bits m (j / 256)) ∙ ap (λ bs. front ++ bs) (sym split ∙ all) ∙ sym (append_assoc front (low_bits place last) (low_bits count bits)))
    ]

pub pushed_narrow : (len last bits count : ℕ) → count ≤ 6 → bits < 2 ^ count → last < 2 ^ (len % 8) → joined (len % 8) bits last / 2 ^ ((len % 8 + count) / 8 * 8) < 2 ^ ((len + count) % 8)
pushed_narrow len last bits count few narrow small =
    let place : ℕ = len % 8 in
    let j : ℕ = joined place bits last in
    let whole : j < 2 ^ (count + place) = joined_small place count bits last (omega arith) few narrow small in
    elim (cases_lt (place + count) 8) [
      | inl lt ↦
          let rest : (len + count) % 8 ≡ count + place = omega arith in
          rw (rest, shifted_none j (place + count) lt) whole
      | inr ge ↦
          let m : ℕ = place + count - 8 in
          let rest : (len + count) % 8 ≡ m = omega arith in
          let sum : count + place ≡ m + 8 = omega arith in
          let product : 2 ^ (count + place) ≡ 2 ^ m * 2 ^ 8 = rw sum (pow-add 2 m 8) in
          let quotient : j / 256 < 2 ^ m = omega arith in
          rw (rest, shifted_octet j (place + count) (omega arith) (omega arith)) quotient
    ]

-- the bits of an element, as the code makes them
pub element_bits : (gap : Bool) (n : ℕ) → n ≤ 5 → low_bits (n + bool_byte gap) ((1 * 2 ^ n % 2 ^ 32 - 1) * 2 ^ bool_byte gap % 2 ^ 32) ≡ added gap n
unfolding low_bits
element_bits true zero h = refl
element_bits true (suc zero) h = refl
element_bits true (suc (suc zero)) h = refl
element_bits true (suc (suc (suc zero))) h = refl
element_bits true (suc (suc (suc (suc zero)))) h = refl
element_bits true (suc (suc (suc (suc (suc zero))))) h = refl
element_bits true (suc (suc (suc (suc (suc (suc n)))))) h = absurd (omega arith)
element_bits false zero h = refl
element_bits false (suc zero) h = refl
element_bits false (suc (suc zero)) h = refl
element_bits false (suc (suc (suc zero))) h = refl
element_bits false (suc (suc (suc (suc zero)))) h = refl
element_bits false (suc (suc (suc (suc (suc zero))))) h = refl
element_bits false (suc (suc (suc (suc (suc (suc n)))))) h = absurd (omega arith)

pub kept_element : (bs ls more : List ℕ) → ls ≡ more → take 8257 (bs ++ ls) ≡ take 8257 (take 8257 bs ++ more)
kept_element bs ls more e = ap (λ cs. take 8257 (bs ++ cs)) e ∙ sym (take_kept 8257 bs more)

pub full_stays : (len last : ℕ) (os more : List ℕ) → len / 8 ≤ length os → 8256 < len → take 8257 (buffer_bits len last os) ≡ take 8257 (take 8257 (buffer_bits len last os) ++ more)
full_stays len last os more fits h =
    sym (take_kept 8257 (buffer_bits len last os) more ∙ take-append-le 8257 (buffer_bits len last os) more (omega (arith, length-buffer_bits len last os fits)))
