-- One bit more in a room of octets that is filled up with ones.
use Rattle.std.proofs.Common.{◌≡◌, ℕ, zero, suc, ◌+◌, ◌-◌, ◌*◌, ◌/◌, ◌%◌, ◌^◌, ◌<◌, ◌≤◌, Bool, true, false, List, [], ◌∷◌, ◌++◌, length, take, drop, replicate, refl, sym, subst, ◌∙◌, ap, arith, inl, inr, get_or, append_assoc, append-nil, length-append}
use Rattle.std.specs.Prelude.{slice_index}
use Rattle.std.proofs.Math.ListN.{set, length-set}
use Rattle.std.proofs.lemmas.List.{take_all, take-append-drop, take_at, drop_at, length-take-le, take_more, drop-drop, drop_more}
use Rattle.std.proofs.lemmas.Nat.{div-add-mod', pow_pos}
use Rattle.std.proofs.lemmas.Bool.{cases_lt}
use mir.Val.{bool_byte}
use Rattle.bit_lists.specs.LowestFirst.{low_bits, low_number}
use Rattle.bit_lists.proofs.LowestFirstLaws.{length-low_bits, low_number-low_bits}
use Rattle.hdlc_fcs.specs.FrameCheck.{sent_bits}
use Rattle.hdlc_bits.specs.Rooms.{StoredBits, HasRoomForBits, AppendsBits, bit_of, filled_up, IsFilledUp}
use Rattle.hdlc_bits.proofs.BitLaws.{low_bits_joined, low_bits_from, length-sent_bits, sent_bits-append, sent_bits-cons, sent_bits-nil, narrower}
use Rattle.hdlc_bits.proofs.BufferLaws.{set_octet}

-- a room of no octets
pub empty_filled : IsFilledUp 0 []
unfolding sent_bits
empty_filled = record { fits = omega arith; few = omega arith; ones = refl }

pub empty_bits : take 0 (sent_bits []) ≡ []
unfolding sent_bits
empty_bits = refl

pub room_length : (len : ℕ) (os : List ℕ) → IsFilledUp len os → length (take len (sent_bits os)) ≡ len
room_length len os f = length-take-le len (sent_bits os) (omega (arith, length-sent_bits os, f.fits))

pub room_filled : (len : ℕ) (os : List ℕ) → IsFilledUp len os → sent_bits os ≡ filled_up (take len (sent_bits os))
unfolding filled_up
room_filled len os f =
    let rest : 8 * length os - len ≡ (8 - len % 8) % 8 = omega (arith, f.fits, f.few) in
    rw (room_length len os f) (sym (take-append-drop len (sent_bits os)) ∙ ap (λ bs. take len (sent_bits os) ++ bs) (f.ones ∙ ap (λ n. replicate n 1) rest))

-- ---- at the beginning of an octet

octet_of_bit : (one : Bool) → low_bits 8 (254 + bool_byte one) ≡ bit_of one ∷ replicate 7 1
unfolding low_bits
octet_of_bit true = refl
octet_of_bit false = refl

-- what a room is with one bit more
pub record HasBit (len : ℕ) (os more : List ℕ) (one : Bool) : Type 0 where
  pub bits : take (len + 1) (sent_bits more) ≡ take len (sent_bits os) ++ bit_of one ∷ []
  pub filled : IsFilledUp (len + 1) more

pub pushed : (len : ℕ) (os : List ℕ) (one : Bool) → IsFilledUp len os → len % 8 ≡ 0 → HasBit len os (os ++ (254 + bool_byte one) ∷ []) one
pushed len os one f whole =
    let size : 8 * length os ≡ len = omega (arith, f.fits, f.few) in
    let before : length (sent_bits os) ≡ len = length-sent_bits os ∙ size in
    let all : take len (sent_bits os) ≡ sent_bits os = take_all len (sent_bits os) (omega arith) in
    let octet : sent_bits ((254 + bool_byte one) ∷ []) ≡ bit_of one ∷ replicate 7 1 =
    sent_bits-cons (254 + bool_byte one) [] ∙ ap (λ bs. low_bits 8 (254 + bool_byte one) ++ bs) sent_bits-nil ∙ append-nil (low_bits 8 (254 + bool_byte one)) ∙ octet_of_bit one in
    let parts : sent_bits (os ++ (254 + bool_byte one) ∷ []) ≡ (sent_bits os ++ bit_of one ∷ []) ++ replicate 7 1 =
    sent_bits-append os ((254 + bool_byte one) ∷ []) ∙ ap (λ bs. sent_bits os ++ bs) octet ∙ sym (append_assoc (sent_bits os) (bit_of one ∷ []) (replicate 7 1)) in
    let front : length (sent_bits os ++ bit_of one ∷ []) ≡ len + 1 = length-append (sent_bits os) (bit_of one ∷ []) ∙ omega arith in
    let octets : length (os ++ (254 + bool_byte one) ∷ []) ≡ length os + 1 = length-append os ((254 + bool_byte one) ∷ []) in
    let left : 8 * length (os ++ (254 + bool_byte one) ∷ []) - (len + 1) ≡ 7 = omega arith in
    record {
      bits = ap (λ bs. take (len + 1) bs) parts ∙ take_at (sent_bits os ++ bit_of one ∷ []) (replicate 7 1) (len + 1) front ∙ ap (λ bs. bs ++ bit_of one ∷ []) (sym all);
      filled = record {
        fits = omega arith;
        few = omega arith;
        ones = ap (λ bs. drop (len + 1) bs) parts ∙ drop_at (sent_bits os ++ bit_of one ∷ []) (replicate 7 1) (len + 1) front ∙ ap (λ n. replicate n 1) (sym left);
      };
    }

-- ---- within an octet

-- ones that are left, one taken
ones_but_one : (len : ℕ) (bs : List ℕ) (n : ℕ) → drop len bs ≡ replicate (suc n) 1 → len < length bs → (take (len + 1) bs ≡ take len bs ++ 1 ∷ []) × (drop (len + 1) bs ≡ replicate n 1)
ones_but_one len bs n h lt =
    let here : get_or bs len 0 ∷ drop (len + 1) bs ≡ 1 ∷ replicate n 1 = sym (drop_more bs len 0 lt) ∙ h in
    let one : get_or bs len 0 ≡ 1 = ap (λ xs. get_or xs 0 0) here in (
      take_more bs len 0 lt ∙ ap (λ b. take len bs ++ b ∷ []) one,
      ap (λ xs. drop 1 xs) here,
    )

within : (len n : ℕ) → len ≤ 8 * n → (len % 8 ≡ 0 → ⊥) → len < 8 * n
within len n h part =
    elim (cases_lt len (8 * n)) [
      | inl lt ↦ lt
      | inr ge ↦ absurd (part (omega arith))
    ]

pub one_stays : (len : ℕ) (os : List ℕ) → IsFilledUp len os → (len % 8 ≡ 0 → ⊥) → HasBit len os os true
one_stays len os f part =
    let lt : len < 8 * length os = within len (length os) f.fits part in
    let left : 8 * length os - len ≡ suc (8 * length os - (len + 1)) = omega arith in
    let more = ones_but_one len (sent_bits os) (8 * length os - (len + 1)) (f.ones ∙ ap (λ n. replicate n 1) left) (omega (arith, length-sent_bits os)) in
    record { bits = more.0; filled = record { fits = omega arith; few = omega (arith, f.few); ones = more.1 } }

-- ones as a number, and the same without the lowest
record Ones (p : ℕ) : Type 0 where
  number : low_number (replicate (8 - p) 1) ≡ 2 ^ (8 - p) - 1
  fewer : low_bits (8 - p) (2 ^ (8 - p) - 2) ≡ 0 ∷ replicate (7 - p) 1
  octet : (2 ^ (8 - p) - 1) * 2 ^ p ≡ (2 ^ (8 - p) - 2) * 2 ^ p + 2 ^ p

ones_of : (p : ℕ) → p < 8 → Ones p
unfolding low_number low_bits
ones_of zero h = record { number = refl; fewer = refl; octet = refl }
ones_of (suc zero) h = record { number = refl; fewer = refl; octet = refl }
ones_of (suc (suc zero)) h = record { number = refl; fewer = refl; octet = refl }
ones_of (suc (suc (suc zero))) h = record { number = refl; fewer = refl; octet = refl }
ones_of (suc (suc (suc (suc zero)))) h = record { number = refl; fewer = refl; octet = refl }
ones_of (suc (suc (suc (suc (suc zero))))) h = record { number = refl; fewer = refl; octet = refl }
ones_of (suc (suc (suc (suc (suc (suc zero)))))) h = record { number = refl; fewer = refl; octet = refl }
ones_of (suc (suc (suc (suc (suc (suc (suc zero))))))) h = record { number = refl; fewer = refl; octet = refl }
ones_of (suc (suc (suc (suc (suc (suc (suc (suc p)))))))) h = absurd (omega arith)

-- an octet of p bits and ones behind them, and the same with a 0 in the place of the first of these ones
record Cleared (p x : ℕ) : Type 0 where
  above : 2 ^ p ≤ x
  bits : low_bits 8 (x - 2 ^ p) ≡ take p (low_bits 8 x) ++ 0 ∷ replicate (7 - p) 1

cleared : (p x : ℕ) → p < 8 → x < 256 → drop p (low_bits 8 x) ≡ replicate (8 - p) 1 → Cleared p x
cleared p x h k ones =
    let v : ℕ = x % 2 ^ p in
    let w : ℕ = 2 ^ (8 - p) - 2 in
    let facts : Ones p = ones_of p h in
    let whole : x / 2 ^ p * 2 ^ p + v ≡ x = div-add-mod' x (2 ^ p) in
    let positive : 0 < 2 ^ p = pow_pos p in
    let small : v < 2 ^ p = omega arith in
    let top : x / 2 ^ p ≡ 2 ^ (8 - p) - 1 = sym (low_number-low_bits (8 - p) (x / 2 ^ p) (narrower p x h k)) ∙ ap low_number (sym (low_bits_from p x (omega arith)) ∙ ones) ∙ facts.number in
    let value : x ≡ w * 2 ^ p + 2 ^ p + v = sym whole ∙ ap (λ q. q * 2 ^ p + v) top ∙ ap (λ n. n + v) facts.octet in
    let less : x - 2 ^ p ≡ w * 2 ^ p + v = omega arith in
    let e : p + (8 - p) ≡ 8 = omega arith in
    let joined : low_bits 8 (w * 2 ^ p + v) ≡ low_bits p v ++ low_bits (8 - p) w = rw e at (low_bits_joined p (8 - p) w v small) in
    let before : low_bits 8 (x / 2 ^ p * 2 ^ p + v) ≡ low_bits p v ++ low_bits (8 - p) (x / 2 ^ p) = rw e at (low_bits_joined p (8 - p) (x / 2 ^ p) v small) in
    let front : low_bits p v ≡ take p (low_bits 8 x) =
    sym (take_at (low_bits p v) (low_bits (8 - p) (x / 2 ^ p)) p (length-low_bits p v)) ∙ ap (λ bs. take p bs) (sym before) ∙ ap (λ n. take p (low_bits 8 n)) whole in
    record {
      above = omega arith;
      bits = ap (λ n. low_bits 8 n) less ∙ joined ∙ ap (λ bs. bs ++ low_bits (8 - p) w) front ∙ ap (λ bs. take p (low_bits 8 x) ++ bs) facts.fewer;
    }

-- octets but the last, and the last
last_split : (os : List ℕ) (q : ℕ) → length os ≡ q + 1 → sent_bits os ≡ sent_bits (take q os) ++ low_bits 8 (slice_index os q)
last_split os q size =
    let all : take (q + 1) os ≡ take q os ++ get_or os q 0 ∷ [] = take_more os q 0 (omega arith) in
    ap sent_bits (sym (take_all (q + 1) os (omega arith)) ∙ all) ∙ sent_bits-append (take q os) (get_or os q 0 ∷ [])
    ∙ ap (λ bs. sent_bits (take q os) ++ bs) (sent_bits-cons (get_or os q 0) [] ∙ ap (λ bs. low_bits 8 (get_or os q 0) ++ bs) sent_bits-nil ∙ append-nil (low_bits 8 (get_or os q 0)))

last_ones : (len : ℕ) (os : List ℕ) (q : ℕ) → IsFilledUp len os → len ≡ 8 * q + len % 8 → length os ≡ q + 1 → drop (len % 8) (low_bits 8 (slice_index os q)) ≡ replicate (8 - len % 8) 1
last_ones len os q f is size =
    let p : ℕ = len % 8 in
    let x : ℕ = slice_index os q in
    let front : length (sent_bits (take q os)) ≡ 8 * q = length-sent_bits (take q os) ∙ ap (λ n. 8 * n) (length-take-le q os (omega arith)) in
    let left : 8 * length os - len ≡ 8 - p = omega arith in
    let there : drop (8 * q + p) (sent_bits (take q os) ++ low_bits 8 x) ≡ drop p (low_bits 8 x) =
    sym (drop-drop p (8 * q) (sent_bits (take q os) ++ low_bits 8 x)) ∙ ap (λ bs. drop p bs) (drop_at (sent_bits (take q os)) (low_bits 8 x) (8 * q) front) in
    sym there ∙ ap (λ bs. drop (8 * q + p) bs) (sym (last_split os q size)) ∙ ap (λ n. drop n (sent_bits os)) (sym is) ∙ f.ones ∙ ap (λ n. replicate n 1) left

place_of : (len : ℕ) (os : List ℕ) → IsFilledUp len os → (len % 8 ≡ 0 → ⊥) → length os ≡ len / 8 + 1
place_of len os f part = let lt : len < 8 * length os = within len (length os) f.fits part in omega (arith, f.few)

pub last_above : (len : ℕ) (os : List ℕ) → IsFilledUp len os → (len % 8 ≡ 0 → ⊥) → slice_index os (length os - 1) < 256 → 1 * 2 ^ (len % 8) % 256 ≤ slice_index os (length os - 1)
last_above len os f part below =
    let size : length os ≡ len / 8 + 1 = place_of len os f part in
    let at : length os - 1 ≡ len / 8 = omega arith in
    let small : slice_index os (len / 8) < 256 = rw at at below in
    let facts : Cleared (len % 8) (slice_index os (len / 8)) = cleared (len % 8) (slice_index os (len / 8)) (omega arith) small (last_ones len os (len / 8) f (omega arith) size) in
    rw at (omega (arith, facts.above))

take_behind : (xs ys : List ℕ) (n p : ℕ) → length xs ≡ n → take (n + p) (xs ++ ys) ≡ xs ++ take p ys
take_behind [] ys n p h = let e : n + p ≡ p = omega arith in ap (λ m. take m ys) e
take_behind (x ∷ xs) ys zero p h = absurd (omega arith)
take_behind (x ∷ xs) ys (suc n) p h = let e : suc n + p ≡ suc (n + p) = omega arith in rw e (ap (λ bs. x ∷ bs) (take_behind xs ys n p (omega arith)))

begin_of : (os : List ℕ) (q p : ℕ) → length (sent_bits (take q os)) ≡ 8 * q → length os ≡ q + 1 → (len : ℕ) → len ≡ 8 * q + p → take len (sent_bits os) ≡ sent_bits (take q os) ++ take p (low_bits 8 (slice_index os q))
begin_of os q p front size len is =
    ap (λ n. take n (sent_bits os)) is ∙ ap (λ bs. take (8 * q + p) bs) (last_split os q size) ∙ take_behind (sent_bits (take q os)) (low_bits 8 (slice_index os q)) (8 * q) p front

pub zero_put : (len : ℕ) (os : List ℕ) → IsFilledUp len os → (len % 8 ≡ 0 → ⊥) → slice_index os (length os - 1) < 256 → HasBit len os (set os (length os - 1) (slice_index os (length os - 1) - 1 * 2 ^ (len % 8) % 256)) false
zero_put len os f part below =
    let q : ℕ = len / 8 in
    let p : ℕ = len % 8 in
    let x : ℕ = slice_index os q in
    let size : length os ≡ q + 1 = place_of len os f part in
    let at : length os - 1 ≡ q = omega arith in
    let small : x < 256 = rw at at below in
    let is : len ≡ 8 * q + p = omega arith in
    let facts : Cleared p x = cleared p x (omega arith) small (last_ones len os q f is size) in
    let power : 1 * 2 ^ p % 256 ≡ 2 ^ p = omega (arith, facts.above) in
    let more : List ℕ = set os q (x - 2 ^ p) in
    let length_more : length more ≡ q + 1 = length-set os q (x - 2 ^ p) ∙ size in
    let front : List ℕ = sent_bits (take q os) in
    let front_length : length front ≡ 8 * q = length-sent_bits (take q os) ∙ ap (λ n. 8 * n) (length-take-le q os (omega arith)) in
    let bits : sent_bits more ≡ front ++ (take p (low_bits 8 x) ++ 0 ∷ replicate (7 - p) 1) =
    ap sent_bits (sym (take_all (q + 1) more (omega arith))) ∙ set_octet os q (x - 2 ^ p) (omega arith) ∙ ap (λ bs. front ++ bs) facts.bits in
    let begun : take len (sent_bits os) ≡ front ++ take p (low_bits 8 x) = begin_of os q p front_length size len is in
    let parts : sent_bits more ≡ (take len (sent_bits os) ++ 0 ∷ []) ++ replicate (7 - p) 1 =
    bits ∙ sym (append_assoc front (take p (low_bits 8 x)) (0 ∷ replicate (7 - p) 1)) ∙ ap (λ bs. bs ++ 0 ∷ replicate (7 - p) 1) (sym begun)
    ∙ sym (append_assoc (take len (sent_bits os)) (0 ∷ []) (replicate (7 - p) 1)) in
    let front_more : length (take len (sent_bits os) ++ 0 ∷ []) ≡ len + 1 = length-append (take len (sent_bits os)) (0 ∷ []) ∙ ap (λ n. n + 1) (room_length len os f) in
    let left : 8 * length more - (len + 1) ≡ 7 - p = omega arith in
    rw (at, power)
    (record {
      bits = ap (λ bs. take (len + 1) bs) parts ∙ take_at (take len (sent_bits os) ++ 0 ∷ []) (replicate (7 - p) 1) (len + 1) front_more;
      filled = record {
        fits = omega arith;
        few = omega arith;
        ones = ap (λ bs. drop (len + 1) bs) parts ∙ drop_at (take len (sent_bits os) ++ 0 ∷ []) (replicate (7 - p) 1) (len + 1) front_more ∙ ap (λ n. replicate n 1) (sym left);
      };
    })

any_default : (os : List ℕ) (i d e : ℕ) → i < length os → get_or os i d ≡ get_or os i e
any_default os i d e h = ap (λ xs. get_or xs 0 0) (sym (drop_more os i d h) ∙ drop_more os i e h)

-- the same of the last octet as the code reads it
last_read : (len : ℕ) (os : List ℕ) (i y : ℕ) → IsFilledUp len os → (len % 8 ≡ 0 → ⊥) → i ≡ length os - 1 → y ≡ get_or os i y → y ≡ slice_index os (length os - 1)
last_read len os i y f part at is =
    let size : length os ≡ len / 8 + 1 = place_of len os f part in
    is ∙ any_default os i y 0 (omega arith) ∙ ap (λ n. get_or os n 0) at

pub octet_above : (len : ℕ) (os : List ℕ) (i y : ℕ) → IsFilledUp len os → (len % 8 ≡ 0 → ⊥) → i ≡ length os - 1 → y ≡ get_or os i y → y < 256 → 1 * 2 ^ (len % 8) % 256 ≤ y
octet_above len os i y f part at is below =
    let same = last_read len os i y f part at is in
    let small : slice_index os (length os - 1) < 256 = rw same at below in
    omega (arith, last_above len os f part small, same)

pub octet_put : (len : ℕ) (os : List ℕ) (i y : ℕ) (one : Bool) → one ≡ false → IsFilledUp len os → (len % 8 ≡ 0 → ⊥) → i ≡ length os - 1 → y ≡ get_or os i y → y < 256 → HasBit len os (set os i (y - 1 * 2 ^ (len % 8) % 256)) one
octet_put len os i y one shut f part at is below =
    let same = last_read len os i y f part at is in
    let small : slice_index os (length os - 1) < 256 = rw same at below in
    let put : HasBit len os (set os (length os - 1) (slice_index os (length os - 1) - 1 * 2 ^ (len % 8) % 256)) false = zero_put len os f part small in
    rw (shut, at) (subst (λ (n : ℕ). HasBit len os (set os (length os - 1) (n - 1 * 2 ^ (len % 8) % 256)) false) (sym same) put)

-- ---- a room as it is seen

-- what a room is seen as
abbrev seen : ℕ → ℕ → List ℕ → StoredBits
seen len capacity os = record { bits = take len (sent_bits os); capacity = capacity }

pub seen_length : (r : StoredBits) (len capacity : ℕ) (os : List ℕ) → IsFilledUp len os → seen len capacity os ≡ r → length r.bits ≡ len
seen_length r len capacity os f is = ap (λ (v : StoredBits). length v.bits) (sym is) ∙ room_length len os f

pub seen_capacity : (r : StoredBits) (len capacity : ℕ) (os : List ℕ) → seen len capacity os ≡ r → r.capacity ≡ capacity
seen_capacity r len capacity os is = ap (λ (v : StoredBits). v.capacity) (sym is)

pub seen_filled : (r : StoredBits) (len capacity : ℕ) (os : List ℕ) → IsFilledUp len os → seen len capacity os ≡ r → sent_bits os ≡ filled_up r.bits
seen_filled r len capacity os f is = room_filled len os f ∙ ap (λ (v : StoredBits). filled_up v.bits) is

pub room_left : (r : StoredBits) (len capacity : ℕ) (os : List ℕ) → IsFilledUp len os → seen len capacity os ≡ r → HasRoomForBits r 1 → len + 1 ≤ capacity
room_left r len capacity os f is h = omega (arith, seen_length r len capacity os f is, seen_capacity r len capacity os is)

pub appended : (r : StoredBits) (len capacity : ℕ) (os more : List ℕ) (one : Bool) → seen len capacity os ≡ r → HasBit len os more one → AppendsBits r (seen (len + 1) capacity more) (bit_of one ∷ [])
appended r len capacity os more one is h = record {
  bits_are = h.bits ∙ ap (λ (v : StoredBits). v.bits ++ bit_of one ∷ []) is;
  capacity = sym (seen_capacity r len capacity os is);
}
