-- Bits written one behind another, with a 0 behind each five ones.
use Rattle.std.proofs.Common.{◌≡◌, ℕ, zero, suc, ◌+◌, ◌/◌, ◌^◌, ◌<◌, ◌≤◌, Bool, true, false, ◌==◌, List, [], ◌∷◌, ◌++◌, length, take, drop, refl, sym, subst, ◌∙◌, ap, arith, inl, inr, get_or, append_assoc, append-nil, length-append}
use Rattle.std.specs.Prelude.{bit_and}
use Rattle.std.proofs.lemmas.Bool.{cases_Bool, ne_eqb}
use Rattle.std.proofs.lemmas.List.{take-append-drop, take_more, take_all}
use Rattle.std.proofs.lemmas.Nat.Bits.{shr_and_one, bit_at-suc, bit_at_lowest}
use Rattle.std.specs.Int.{bit_at}
use Rattle.bit_lists.specs.LowestFirst.{low_bits}
use Rattle.bit_lists.proofs.LowestFirstLaws.{length-low_bits}
use Rattle.hdlc_fcs.specs.FrameCheck.{sent_bits}
use Rattle.hdlc_fcs.specs.Contents.{content_of}
use Rattle.hdlc_bits.specs.Rooms.{StoredBits, HasRoomForBits, AppendsBits, bit_of}
use Rattle.hdlc_bits.specs.Stuffing.{flag_bits, stuffed_behind, ones_left, spelling_in_bits}
use Rattle.hdlc_bits.proofs.BitLaws.{sent_bits-append, sent_bits-cons, sent_bits-nil}

-- ---- the bits of an octet, as the code reads them

pub get_or-low_bits : (w n i : ℕ) → i < w → get_or (low_bits w n) i 0 ≡ bit_at n i
unfolding low_bits
get_or-low_bits zero n i h = absurd (omega arith)
get_or-low_bits (suc w) n zero h = sym (bit_at_lowest n)
get_or-low_bits (suc w) n (suc i) h = get_or-low_bits w (n / 2) i (omega arith) ∙ sym (bit_at-suc n i)

bit_of_test : (b : ℕ) → b < 2 → bit_of (b == 1) ≡ b
bit_of_test zero h = refl
bit_of_test (suc zero) h = refl
bit_of_test (suc (suc b)) h = absurd (omega arith)

pub bit_read : (n i : ℕ) → i < 8 → bit_of (bit_and (n / 2 ^ i) 1 == 1) ≡ get_or (low_bits 8 n) i 0
bit_read n i h = rw (shr_and_one n i) (bit_of_test (bit_at n i) (omega arith)) ∙ sym (get_or-low_bits 8 n i h)

-- ---- stuffing bits that come in parts

pub stuffed-append : (xs : List ℕ) (n : ℕ) (ys : List ℕ) → stuffed_behind n (xs ++ ys) ≡ stuffed_behind n xs ++ stuffed_behind (ones_left n xs) ys
unfolding stuffed_behind ones_left
stuffed-append [] n ys = refl
stuffed-append (x ∷ xs) n ys =
    elim (cases_Bool (x == 0)) [
      | inl t ↦ rw t (ap (λ bs. 0 ∷ bs) (stuffed-append xs 0 ys))
      | inr f ↦
          elim (cases_Bool (n == 4)) [
            | inl t ↦ rw (f, t) (ap (λ bs. 1 ∷ 0 ∷ bs) (stuffed-append xs 0 ys))
            | inr g ↦ rw (f, g) (ap (λ bs. 1 ∷ bs) (stuffed-append xs (n + 1) ys))
          ]
    ]

pub left-append : (xs : List ℕ) (n : ℕ) (ys : List ℕ) → ones_left n (xs ++ ys) ≡ ones_left (ones_left n xs) ys
unfolding ones_left
left-append [] n ys = refl
left-append (x ∷ xs) n ys =
    elim (cases_Bool (x == 0)) [
      | inl t ↦ rw t (left-append xs 0 ys)
      | inr f ↦
          elim (cases_Bool (n == 4)) [
            | inl t ↦ rw (f, t) (left-append xs 0 ys)
            | inr g ↦ rw (f, g) (left-append xs (n + 1) ys)
          ]
    ]

pub stuffed_none : (n : ℕ) → stuffed_behind n [] ≡ []
unfolding stuffed_behind
stuffed_none n = refl

pub left_none : (n : ℕ) → ones_left n [] ≡ n
unfolding ones_left
left_none n = refl

-- ---- rooms

pub appends_none : (r : StoredBits) → AppendsBits r r []
appends_none r = record { bits_are = sym (append-nil r.bits); capacity = refl }

pub appends_more : (r s t : StoredBits) (xs ys : List ℕ) → AppendsBits r s xs → AppendsBits s t ys → AppendsBits r t (xs ++ ys)
appends_more r s t xs ys a b = record {
  bits_are = b.bits_are ∙ ap (λ bs. bs ++ ys) a.bits_are ∙ append_assoc r.bits xs ys;
  capacity = b.capacity ∙ a.capacity;
}

pub appends_same : (r s : StoredBits) (xs ys : List ℕ) → xs ≡ ys → AppendsBits r s xs → AppendsBits r s ys
appends_same r s xs ys e a = record { bits_are = a.bits_are ∙ ap (λ bs. r.bits ++ bs) e; capacity = a.capacity }

-- room for what follows what was appended
pub room_behind : (r s : StoredBits) (xs ys : List ℕ) (n : ℕ) → AppendsBits r s xs → n ≤ length ys → HasRoomForBits r (length (xs ++ ys)) → HasRoomForBits s n
room_behind r s xs ys n a few h =
    omega (arith, h, a.capacity, ap length a.bits_are, length-append r.bits xs, length-append xs ys)

-- ---- a part of a list of items, each of which is written as bits

-- what is written of the first i items, and what is left: `bits` gives the bits of one item
pub record Writes (old now : StoredBits) (n : ℕ) (bits : List ℕ) (ones : ℕ) : Type 0 where
  pub appends : AppendsBits old now (stuffed_behind n bits)
  pub left : ones ≡ ones_left n bits
  pub few : ones < 5

pub writes_none : (r : StoredBits) (n : ℕ) → n < 5 → Writes r r n [] n
writes_none r n h = record { appends = appends_same r r [] (stuffed_behind n []) (sym (stuffed_none n)) (appends_none r); left = sym (left_none n); few = h }

pub writes_more : (r s t : StoredBits) (n m o : ℕ) (xs ys zs : List ℕ) → Writes r s n xs m → AppendsBits s t (stuffed_behind m ys) → o ≡ ones_left m ys → o < 5 → xs ++ ys ≡ zs → Writes r t n zs o
writes_more r s t n m o xs ys zs w a left few is =
    let all : stuffed_behind n xs ++ stuffed_behind m ys ≡ stuffed_behind n zs =
    ap (λ k. stuffed_behind n xs ++ stuffed_behind k ys) w.left ∙ sym (stuffed-append xs n ys) ∙ ap (λ bs. stuffed_behind n bs) is in
    record {
      appends = appends_same r t (stuffed_behind n xs ++ stuffed_behind m ys) (stuffed_behind n zs) all (appends_more r s t (stuffed_behind n xs) (stuffed_behind m ys) w.appends a);
      left = left ∙ ap (λ k. ones_left k ys) w.left ∙ sym (left-append xs n ys) ∙ ap (λ bs. ones_left n bs) is;
      few = few;
    }

-- room for the next part
pub room_for : (r s : StoredBits) (n m : ℕ) (xs ys rest all : List ℕ) → Writes r s n xs m → HasRoomForBits r (length (stuffed_behind n all)) → all ≡ xs ++ (ys ++ rest) → HasRoomForBits s (length (stuffed_behind m ys))
room_for r s n m xs ys rest all w h is =
    let parts : stuffed_behind n all ≡ stuffed_behind n xs ++ (stuffed_behind m ys ++ stuffed_behind (ones_left m ys) rest) =
    ap (λ bs. stuffed_behind n bs) is ∙ stuffed-append xs n (ys ++ rest) ∙ ap (λ k. stuffed_behind n xs ++ stuffed_behind k (ys ++ rest)) (sym w.left)
    ∙ ap (λ bs. stuffed_behind n xs ++ bs) (stuffed-append ys m rest) in
    let room : HasRoomForBits r (length (stuffed_behind n xs ++ (stuffed_behind m ys ++ stuffed_behind (ones_left m ys) rest))) = rw parts at h in
    room_behind r s (stuffed_behind n xs) (stuffed_behind m ys ++ stuffed_behind (ones_left m ys) rest) (length (stuffed_behind m ys)) w.appends
    (omega (arith, length-append (stuffed_behind m ys) (stuffed_behind (ones_left m ys) rest))) room

-- ---- one bit

pub at_least_one : (n : ℕ) (one : Bool) → 1 ≤ length (stuffed_behind n (bit_of one ∷ []))
unfolding stuffed_behind
at_least_one n false = omega arith
at_least_one n true =
    elim (cases_Bool (n == 4)) [
      | inl t ↦ rw t (omega arith)
      | inr f ↦ rw f (omega arith)
    ]

pub zero_bit : (n : ℕ) (one : Bool) → one ≡ false → (bit_of one ∷ [] ≡ stuffed_behind n (bit_of one ∷ [])) × (0 ≡ ones_left n (bit_of one ∷ []))
unfolding stuffed_behind ones_left
zero_bit n one e = rw e (refl, refl)

pub fifth_bit : (n : ℕ) (one : Bool) → one ≡ true → n ≡ 4 → (bit_of one ∷ bit_of false ∷ [] ≡ stuffed_behind n (bit_of one ∷ [])) × (0 ≡ ones_left n (bit_of one ∷ []))
unfolding stuffed_behind ones_left
fifth_bit n one e four = rw (e, four) (refl, refl)

pub one_bit : (n : ℕ) (one : Bool) → one ≡ true → (n ≡ 4 → ⊥) → (bit_of one ∷ [] ≡ stuffed_behind n (bit_of one ∷ [])) × (n + 1 ≡ ones_left n (bit_of one ∷ []))
unfolding stuffed_behind ones_left
one_bit n one e other = rw (e, ne_eqb n 4 other) (refl, refl)

-- ---- octets

-- the bits of an octet, cut at a place
pub octet_parts : (o i : ℕ) → i < 8 → low_bits 8 o ≡ take i (low_bits 8 o) ++ (bit_of (bit_and (o / 2 ^ i) 1 == 1) ∷ [] ++ drop (i + 1) (low_bits 8 o))
octet_parts o i h =
    let bits : List ℕ = low_bits 8 o in
    let more : take (i + 1) bits ≡ take i bits ++ get_or bits i 0 ∷ [] = take_more bits i 0 (omega (arith, length-low_bits 8 o)) in
    sym (take-append-drop (i + 1) bits) ∙ ap (λ bs. bs ++ drop (i + 1) bits) (more ∙ ap (λ b. take i bits ++ b ∷ []) (sym (bit_read o i h)))
    ∙ append_assoc (take i bits) (bit_of (bit_and (o / 2 ^ i) 1 == 1) ∷ []) (drop (i + 1) bits)

pub octet_more : (o i : ℕ) → i < 8 → take i (low_bits 8 o) ++ bit_of (bit_and (o / 2 ^ i) 1 == 1) ∷ [] ≡ take (i + 1) (low_bits 8 o)
octet_more o i h = sym (take_more (low_bits 8 o) i 0 (omega (arith, length-low_bits 8 o)) ∙ ap (λ b. take i (low_bits 8 o) ++ b ∷ []) (sym (bit_read o i h)))

pub octet_whole : (o i : ℕ) → 8 ≤ i → take i (low_bits 8 o) ≡ low_bits 8 o
octet_whole o i h = take_all i (low_bits 8 o) (omega (arith, length-low_bits 8 o))

one_octet : (o : ℕ) → sent_bits (o ∷ []) ≡ low_bits 8 o
one_octet o = sent_bits-cons o [] ∙ ap (λ bs. low_bits 8 o ++ bs) sent_bits-nil ∙ append-nil (low_bits 8 o)

-- the bits of octets, cut at an octet
pub octets_more : (os : List ℕ) (i : ℕ) → i < length os → sent_bits (take i os) ++ low_bits 8 (get_or os i 0) ≡ sent_bits (take (i + 1) os)
octets_more os i h =
    ap (λ bs. sent_bits (take i os) ++ bs) (sym (one_octet (get_or os i 0))) ∙ sym (sent_bits-append (take i os) (get_or os i 0 ∷ [])) ∙ ap sent_bits (sym (take_more os i 0 h))

pub octets_parts : (os : List ℕ) (i : ℕ) → i < length os → sent_bits os ≡ sent_bits (take i os) ++ (low_bits 8 (get_or os i 0) ++ sent_bits (drop (i + 1) os))
octets_parts os i h =
    ap sent_bits (sym (take-append-drop (i + 1) os)) ∙ sent_bits-append (take (i + 1) os) (drop (i + 1) os) ∙ ap (λ bs. bs ++ sent_bits (drop (i + 1) os)) (sym (octets_more os i h))
    ∙ append_assoc (sent_bits (take i os)) (low_bits 8 (get_or os i 0)) (sent_bits (drop (i + 1) os))

-- ---- a frame

-- the bits of a content, cut between the address, the body and the check octets
pub content_parts : (address : ℕ) (body check content : List ℕ) → address ∷ body ++ check ≡ content → sent_bits content ≡ sent_bits (address ∷ []) ++ (sent_bits body ++ sent_bits check)
content_parts address body check content is =
    ap sent_bits (sym is) ∙ sent_bits-append (address ∷ []) (body ++ check) ∙ ap (λ bs. sent_bits (address ∷ []) ++ bs) (sent_bits-append body check)

-- the address, and the body behind it, put behind a first flag
pub one_put : (r s : StoredBits) (o : ℕ) (xs : List ℕ) → AppendsBits r s (stuffed_behind 0 xs) → o ≡ ones_left 0 xs → o < 5 → Writes r s 0 xs o
one_put r s o xs a left few = record { appends = a; left = left; few = few }

pub two_put : (r s t : StoredBits) (o p : ℕ) (xs ys : List ℕ) → Writes r s 0 xs o → AppendsBits s t (stuffed_behind o ys) → p ≡ ones_left o ys → p < 5 → Writes r t 0 (xs ++ ys) p
two_put r s t o p xs ys w a left few = writes_more r s t 0 o p xs ys (xs ++ ys) w a left few refl

pub room_for_flag : (r : StoredBits) (address : ℕ) (body : List ℕ) → HasRoomForBits r (length (spelling_in_bits address body)) → HasRoomForBits r 8
unfolding spelling_in_bits
room_for_flag r address body h =
    let bits : List ℕ = stuffed_behind 0 (sent_bits (content_of address body)) in
    omega (arith, h, length-append (flag_bits ++ bits) flag_bits, length-append flag_bits bits)

-- behind the first flag there is room for the content
pub room_for_content : (r s : StoredBits) (address : ℕ) (body : List ℕ) → AppendsBits r s flag_bits → HasRoomForBits r (length (spelling_in_bits address body)) → HasRoomForBits s (length (stuffed_behind 0 (sent_bits (content_of address body))))
unfolding spelling_in_bits
room_for_content r s address body a h =
    let bits : List ℕ = stuffed_behind 0 (sent_bits (content_of address body)) in
    let parts : spelling_in_bits address body ≡ flag_bits ++ (bits ++ flag_bits) = append_assoc flag_bits bits flag_bits in
    let room : HasRoomForBits r (length (flag_bits ++ (bits ++ flag_bits))) = subst (λ (bs : List ℕ). HasRoomForBits r (length bs)) parts h in
    room_behind r s flag_bits (bits ++ flag_bits) (length bits) a (omega (arith, length-append bits flag_bits)) room

-- and behind the content for the last flag
pub room_for_last : (r s t : StoredBits) (address : ℕ) (body : List ℕ) → AppendsBits r s flag_bits → AppendsBits s t (stuffed_behind 0 (sent_bits (content_of address body))) → HasRoomForBits r (length (spelling_in_bits address body)) → HasRoomForBits t 8
unfolding spelling_in_bits
room_for_last r s t address body a b h =
    let bits : List ℕ = stuffed_behind 0 (sent_bits (content_of address body)) in
    room_behind r t (flag_bits ++ bits) flag_bits 8 (appends_more r s t flag_bits bits a b) (omega arith) h

pub frame_appended : (r s t u : StoredBits) (address : ℕ) (body : List ℕ) → AppendsBits r s flag_bits → AppendsBits s t (stuffed_behind 0 (sent_bits (content_of address body))) → AppendsBits t u flag_bits → AppendsBits r u (spelling_in_bits address body)
unfolding spelling_in_bits
frame_appended r s t u address body a b c =
    let bits : List ℕ = stuffed_behind 0 (sent_bits (content_of address body)) in
    appends_more r t u (flag_bits ++ bits) flag_bits (appends_more r s t flag_bits bits a b) c
