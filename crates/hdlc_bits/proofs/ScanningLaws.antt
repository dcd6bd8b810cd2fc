-- Going through bits run by run.
use Rattle.std.proofs.Common.{◌≡◌, ℕ, zero, suc, ◌+◌, ◌<◌, ◌≤◌, min, List, [], ◌∷◌, ◌++◌, length, take, drop, replicate, Option, None, Some, refl, sym, ◌∙◌, ap, arith, get_or}
use Rattle.std.proofs.lemmas.List.{take-append-drop, drop-drop, drop_more, drop_all}
use Rattle.hdlc_bits.specs.Framing.{Verdict}
use Rattle.hdlc_bits.specs.Keeping.{KeptBitDeframer, after_zero, after_ones, closing_verdict, Feeding, bit_scan, scan_of}
use Rattle.hdlc_bits.specs.Advancing.{Advances}

-- ones in front of bits lead to what is kept after them
record GoesOnes (k : KeptBitDeframer) (m : ℕ) (rest : List ℕ) : Type 0 where
  used : (scan_of (after_ones k m) rest).used + m ≡ (scan_of k (replicate m 1 ++ rest)).used
  verdict : (scan_of (after_ones k m) rest).verdict ≡ (scan_of k (replicate m 1 ++ rest)).verdict
  kept : (scan_of (after_ones k m) rest).kept ≡ (scan_of k (replicate m 1 ++ rest)).kept

no_ones : (k : KeptBitDeframer) → k.ones ≤ 7 → after_ones k 0 ≡ k
no_ones k h = let e : min (k.ones + 0) 7 ≡ k.ones = omega arith in ap (λ (n : ℕ). record k { ones = n }) e

one_and_more : (k : KeptBitDeframer) (m : ℕ) → after_ones (after_ones k 1) m ≡ after_ones k (suc m)
one_and_more k m = let e : min (min (k.ones + 1) 7 + m) 7 ≡ min (k.ones + suc m) 7 = omega arith in ap (λ (n : ℕ). record k { ones = n }) e

goes_ones : (m : ℕ) (k : KeptBitDeframer) (rest : List ℕ) → k.ones ≤ 7 → GoesOnes k m rest
goes_ones zero k rest h =
    let same = no_ones k h in
    let none : (scan_of k rest).used + 0 ≡ (scan_of k rest).used = omega arith in
    record {
      used = ap (λ (j : KeptBitDeframer). (scan_of j rest).used + 0) same ∙ none;
      verdict = ap (λ (j : KeptBitDeframer). (scan_of j rest).verdict) same;
      kept = ap (λ (j : KeptBitDeframer). (scan_of j rest).kept) same;
    }
goes_ones (suc m) k rest h =
    let more : GoesOnes (after_ones k 1) m rest = goes_ones m (after_ones k 1) rest (omega arith) in
    let same = one_and_more k m in
    let used : (scan_of (after_ones (after_ones k 1) m) rest).used + suc m ≡ (scan_of k (1 ∷ (replicate m 1 ++ rest))).used = omega (arith, more.used) in
    record {
      used = ap (λ (j : KeptBitDeframer). (scan_of j rest).used + suc m) (sym same) ∙ used;
      verdict = ap (λ (j : KeptBitDeframer). (scan_of j rest).verdict) (sym same) ∙ more.verdict;
      kept = ap (λ (j : KeptBitDeframer). (scan_of j rest).kept) (sym same) ∙ more.kept;
    }

pub begins : (k : KeptBitDeframer) (bits : List ℕ) → Advances k bits 0 k
begins k bits = record { within = omega arith; used = omega arith; verdict = refl; kept = refl }

-- so many ones more
pub by_ones : (k : KeptBitDeframer) (bits : List ℕ) (n m : ℕ) (next : KeptBitDeframer) → Advances k bits n next → next.ones ≤ 7 → n + m ≤ length bits → take m (drop n bits) ≡ replicate m 1 → Advances k bits (n + m) (after_ones next m)
by_ones k bits n m next a small within ones =
    let parts : drop n bits ≡ replicate m 1 ++ drop (n + m) bits =
    sym (take-append-drop m (drop n bits)) ∙ ap (λ xs. xs ++ drop m (drop n bits)) ones ∙ ap (λ xs. replicate m 1 ++ xs) (drop-drop m n bits) in
    let goes : GoesOnes next m (drop (n + m) bits) = goes_ones m next (drop (n + m) bits) small in
    let used : (scan_of next (replicate m 1 ++ drop (n + m) bits)).used + n ≡ (scan_of k bits).used = rw parts at a.used in
    let verdict : (scan_of next (replicate m 1 ++ drop (n + m) bits)).verdict ≡ (scan_of k bits).verdict = rw parts at a.verdict in
    let kept : (scan_of next (replicate m 1 ++ drop (n + m) bits)).kept ≡ (scan_of k bits).kept = rw parts at a.kept in
    record { within = within; used = omega (arith, goes.used, used); verdict = goes.verdict ∙ verdict; kept = goes.kept ∙ kept }

zero_next : (bits : List ℕ) (n : ℕ) → n < length bits → get_or bits n 0 ≡ 0 → drop n bits ≡ 0 ∷ drop (n + 1) bits
zero_next bits n h e = drop_more bits n 0 h ∙ ap (λ b. b ∷ drop (n + 1) bits) e

-- a 0 that brings no verdict
pub by_zero : (k : KeptBitDeframer) (bits : List ℕ) (n : ℕ) (next : KeptBitDeframer) → Advances k bits n next → n < length bits → get_or bits n 0 ≡ 0 → None ≡ closing_verdict next → Advances k bits (n + 1) (after_zero next)
by_zero k bits n next a within is none =
    let parts = zero_next bits n within is in
    let one : scan_of next (0 ∷ drop (n + 1) bits) ≡ bit_scan (after_zero next) None (scan_of (after_zero next) (drop (n + 1) bits)) =
    ap (λ (v : Option Verdict). bit_scan (after_zero next) v (scan_of (after_zero next) (drop (n + 1) bits))) (sym none) in
    let whole : scan_of next (drop n bits) ≡ bit_scan (after_zero next) None (scan_of (after_zero next) (drop (n + 1) bits)) = rw parts one in
    record {
      within = omega arith;
      used = omega (arith, a.used, ap (λ (f : Feeding). f.used) whole);
      verdict = sym (ap (λ (f : Feeding). f.verdict) whole) ∙ a.verdict;
      kept = sym (ap (λ (f : Feeding). f.kept) whole) ∙ a.kept;
    }

-- a 0 that brings one
pub record Gives (k : KeptBitDeframer) (bits : List ℕ) (n : ℕ) (next : KeptBitDeframer) (v : Verdict) : Type 0 where
  pub used : n + 1 ≡ (scan_of k bits).used
  pub verdict : Some v ≡ (scan_of k bits).verdict
  pub kept : after_zero next ≡ (scan_of k bits).kept

pub gives : (k : KeptBitDeframer) (bits : List ℕ) (n : ℕ) (next : KeptBitDeframer) (v : Verdict) → Advances k bits n next → n < length bits → get_or bits n 0 ≡ 0 → Some v ≡ closing_verdict next → Gives k bits n next v
gives k bits n next v a within is some =
    let parts = zero_next bits n within is in
    let one : scan_of next (0 ∷ drop (n + 1) bits) ≡ record { used = 1; verdict = Some v; kept = after_zero next } =
    ap (λ (v : Option Verdict). bit_scan (after_zero next) v (scan_of (after_zero next) (drop (n + 1) bits))) (sym some) in
    let whole : scan_of next (drop n bits) ≡ record { used = 1; verdict = Some v; kept = after_zero next } = rw parts one in
    record {
      used = omega (arith, a.used, ap (λ (f : Feeding). f.used) whole);
      verdict = sym (ap (λ (f : Feeding). f.verdict) whole) ∙ a.verdict;
      kept = sym (ap (λ (f : Feeding). f.kept) whole) ∙ a.kept;
    }

-- all bits
pub record Ends (k : KeptBitDeframer) (bits : List ℕ) (n : ℕ) (next : KeptBitDeframer) : Type 0 where
  pub used : n ≡ (scan_of k bits).used
  pub verdict : None ≡ (scan_of k bits).verdict
  pub kept : next ≡ (scan_of k bits).kept

pub ends : (k : KeptBitDeframer) (bits : List ℕ) (n : ℕ) (next : KeptBitDeframer) → Advances k bits n next → length bits ≤ n → Ends k bits n next
ends k bits n next a h =
    let none : drop n bits ≡ [] = drop_all n bits h in
    let used : 0 + n ≡ (scan_of k bits).used = rw none at a.used in
    record { used = omega arith; verdict = rw none at a.verdict; kept = rw none at a.kept }
