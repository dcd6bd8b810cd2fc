-- The number that acknowledges, and those of the last segments of messages.
use Rattle.std.proofs.Common.{◌≡◌, ℕ, ◌+◌, ◌≤◌, zero, suc, true, false, List, [], ◌∷◌, ◌++◌, length, drop, refl, ◌∙◌, ap, arith}
use Rattle.x224_class2.specs.Segments.{Segment, messages_behind, ack_number}
use Rattle.x224_class2.specs.Kept.{first_or}
use Rattle.x224_class2.specs.Standing.{last_numbers}
use Rattle.x224_class2.proofs.Segmenting.{drop_nil}

pub ack_most : (m : ℕ) (ss : List Segment) → ack_number m ss ≤ length ss
ack_most m [] = omega arith
ack_most zero ((true, x) ∷ ss) = omega arith
ack_most (suc m) ((true, x) ∷ ss) = omega (arith, ack_most m ss)
ack_most m ((false, x) ∷ ss) = omega (arith, ack_most m ss)

pub ack_rises : (m : ℕ) (ss : List Segment) → ack_number m ss ≤ ack_number (m + 1) ss
ack_rises m [] = omega arith
ack_rises zero ((true, x) ∷ ss) = omega arith
ack_rises (suc m) ((true, x) ∷ ss) = let e : suc m + 1 ≡ suc (m + 1) = omega arith in rw e (omega (arith, ack_rises m ss))
ack_rises m ((false, x) ∷ ss) = omega (arith, ack_rises m ss)

pub ack_push : (m : ℕ) (ss : List Segment) (s : Segment) → ack_number m ss ≤ ack_number m (ss ++ s ∷ [])
ack_push m [] s = omega arith
ack_push zero ((true, x) ∷ ss) s = omega arith
ack_push (suc m) ((true, x) ∷ ss) s = omega (arith, ack_push m ss s)
ack_push m ((false, x) ∷ ss) s = omega (arith, ack_push m ss s)

pub ack_all : (m : ℕ) (begun : List ℕ) (ss : List Segment) → length (messages_behind begun ss) ≤ m → ack_number m ss ≡ length ss
ack_all m begun [] h = refl
ack_all zero begun ((true, x) ∷ ss) h = absurd (omega arith)
ack_all (suc m) begun ((true, x) ∷ ss) h = ap (λ (n : ℕ). suc n) (ack_all m [] ss (omega arith))
ack_all m begun ((false, x) ∷ ss) h = ap (λ (n : ℕ). suc n) (ack_all m (begun ++ x) ss h)

pub ack_is : (k m : ℕ) (ss : List Segment) → k + ack_number m ss ≡ first_or (k + length ss) (drop m (last_numbers k ss))
ack_is k m [] = rw (drop_nil {A = ℕ} m) refl
ack_is k zero ((true, x) ∷ ss) = omega arith
ack_is k (suc m) ((true, x) ∷ ss) = shifted k _ _ (drop m (last_numbers (suc k) ss)) (ack_is (suc k) m ss)
  where
    shifted : (k a n : ℕ) (ns : List ℕ) → suc k + a ≡ first_or (suc k + n) ns → k + suc a ≡ first_or (k + suc n) ns
    shifted k a n [] e = omega (arith, e)
    shifted k a n (x ∷ ns) e = omega (arith, e)
ack_is k m ((false, x) ∷ ss) = shifted k _ _ (drop m (last_numbers (suc k) ss)) (ack_is (suc k) m ss)
  where
    shifted : (k a n : ℕ) (ns : List ℕ) → suc k + a ≡ first_or (suc k + n) ns → k + suc a ≡ first_or (k + suc n) ns
    shifted k a n [] e = omega (arith, e)
    shifted k a n (x ∷ ns) e = omega (arith, e)

pub lasts_last : (k : ℕ) (ss : List Segment) (x : List ℕ) → last_numbers k (ss ++ (true, x) ∷ []) ≡ last_numbers k ss ++ (k + length ss) ∷ []
lasts_last k [] x = let e : k + 0 ≡ k = omega arith in rw e refl
lasts_last k ((true, y) ∷ ss) x = let e : suc k + length ss ≡ k + suc (length ss) = omega arith in ap (λ (ns : List ℕ). k ∷ ns) (lasts_last (suc k) ss x ∙ rw e refl)
lasts_last k ((false, y) ∷ ss) x = let e : suc k + length ss ≡ k + suc (length ss) = omega arith in lasts_last (suc k) ss x ∙ rw e refl

pub lasts_more : (k : ℕ) (ss : List Segment) (x : List ℕ) → last_numbers k (ss ++ (false, x) ∷ []) ≡ last_numbers k ss
lasts_more k [] x = refl
lasts_more k ((true, y) ∷ ss) x = ap (λ (ns : List ℕ). k ∷ ns) (lasts_more (suc k) ss x)
lasts_more k ((false, y) ∷ ss) x = lasts_more (suc k) ss x

pub length_lasts : (k : ℕ) (begun : List ℕ) (ss : List Segment) → length (last_numbers k ss) ≡ length (messages_behind begun ss)
length_lasts k begun [] = refl
length_lasts k begun ((true, x) ∷ ss) = ap (λ (n : ℕ). suc n) (length_lasts (suc k) [] ss)
length_lasts k begun ((false, x) ∷ ss) = length_lasts (suc k) (begun ++ x) ss

lasts_few : (k : ℕ) (ss : List Segment) → length (last_numbers k ss) ≤ length ss
lasts_few k [] = omega arith
lasts_few k ((true, x) ∷ ss) = omega (arith, lasts_few (suc k) ss)
lasts_few k ((false, x) ∷ ss) = omega (arith, lasts_few (suc k) ss)

-- each message that wasn't taken has its last segment at the number that acknowledges, or behind it
pub lasts_room : (k m : ℕ) (ss : List Segment) → length (drop m (last_numbers k ss)) + ack_number m ss ≤ length ss
lasts_room k m [] = rw (drop_nil {A = ℕ} m) (omega arith)
lasts_room k zero ((true, x) ∷ ss) = omega (arith, lasts_few (suc k) ss)
lasts_room k (suc m) ((true, x) ∷ ss) = omega (arith, lasts_room (suc k) m ss)
lasts_room k m ((false, x) ∷ ss) = omega (arith, lasts_room (suc k) m ss)
