-- The chaining over the blocks: one block more, all blocks, and that the MAC is a number of 64 bits.
use Rattle.std.proofs.Common.{◌≡◌, ℕ, suc, ◌+◌, ◌-◌, ◌*◌, ◌/◌, ◌<◌, ◌^◌, ◌++◌, List, [], ◌∷◌, length, take, drop, get_or, refl, sym, ap, ◌∙◌, arith, true, inl, inr}
use Rattle.std.specs.Prelude.{replicate, slice_index_or, fold}
use Rattle.std.specs.List.{flat_map}
use Rattle.std.proofs.lemmas.List.Sums.{fold_more}
use Rattle.std.proofs.lemmas.Bool.{cases_lt}
use Rattle.std.proofs.lemmas.List.{get_or_past, get_or-take, length-take}
use Rattle.bit_lists.specs.Bits.{bits, number, xor, all_bits}
use Rattle.bit_lists.proofs.Widths.{number-bits, number_below, all_bits-bits, all_bits-append}
use Rattle.bit_lists.proofs.Xors.{all_bits-xor}
use Rattle.des_block.specs.Des.{des_encipher, des_decipher}
use Rattle.des_block.specs.Triple.{triple_encipher}
use Rattle.des_block.specs.Laws.{GivesBlocks, IsBlock}
use Rattle.des_block.specs.declared.triple_key.TripleKey.{TripleKey}
use Rattle.cbc_mac.specs.Mac.{padded, blocks, chained, mac_bits, mac_of}
use Rattle.cbc_mac.proofs.Blocks.{length-blocks, length-whole_blocks, get_or-blocks, block_is, front_blocks}

-- nothing is chained before the first block
pub chained_none : (key : List ℕ) (xs : List (List ℕ)) → replicate 64 0 ≡ chained key (take 0 xs)
unfolding chained
chained_none key xs = refl

-- one block more
pub chained_more : (key : List ℕ) (xs : List (List ℕ)) (i : ℕ) → i < length xs
    → chained key (take (i + 1) xs) ≡ des_encipher key (xor (chained key (take i xs)) (slice_index_or xs i []))
unfolding chained
chained_more key xs i h = fold_more (λ h x. des_encipher key (xor h x)) (replicate 64 0) xs i [] h

-- the MAC, from the blocks before the last, and the last with its padding
pub mac_is : (key : TripleKey) (text : List ℕ) (count n : ℕ) → count ≡ (length text - 1) / 8 → 0 < length text → n < 2 ^ 64
    → bits 64 n ≡ triple_encipher key (xor (chained (bits 64 key.first) (blocks (take (8 * count) text))) (flat_map (bits 8) (take 8 (drop (8 * count) text ++ replicate 8 0))))
    → n ≡ mac_of key text
unfolding mac_of mac_bits
mac_is key text count n fits some small e =
    let xs : List (List ℕ) = blocks (padded text) in
    let last : length xs - 1 ≡ count = omega (arith, length-blocks text) in
    let front = front_blocks text count (omega arith) in
    let block = block_is text count (omega arith) in
    sym (number-bits 64 n small) ∙ ap number (e ∙ rw (last, front, block) refl)

-- ---- the MAC is a number of 64 bits
all_bits-octets : (octets : List ℕ) → all_bits (flat_map (bits 8) octets) ≡ true
unfolding bits all_bits
all_bits-octets [] = refl
all_bits-octets (o ∷ os) = all_bits-append (bits 8 o) (flat_map (bits 8) os) (all_bits-bits 8 o) (all_bits-octets os)

all_bits-fold : GivesBlocks → (key h : List ℕ) (xs : List (List ℕ)) → all_bits h ≡ true → ((i : ℕ) → i < length xs → all_bits (get_or xs i []) ≡ true)
    → all_bits (fold (λ h x. des_encipher key (xor h x)) h xs) ≡ true
all_bits-fold gives key h [] hh hx = hh
all_bits-fold gives key h (x ∷ xs) hh hx =
    all_bits-fold gives key (des_encipher key (xor h x)) xs
    (gives key (xor h x) (all_bits-xor h x hh (hx 0 (omega arith)))).0.1
    (λ i lt. hx (suc i) (omega arith))

-- every block of a text is a list of bits, and past the last there is none
all_bits-block : (octets : List ℕ) (i : ℕ) → all_bits (get_or (blocks octets) i []) ≡ true
unfolding bits
all_bits-block octets i =
    elim (cases_lt i (length octets / 8)) [
      | inl low ↦ rw (get_or-blocks octets i low) (all_bits-octets (take 8 (drop (8 * i) octets)))
      | inr high ↦ rw (get_or_past (blocks octets) i [] (omega (arith, length-whole_blocks octets))) (all_bits-bits 0 0)
    ]

all_bits-chained : GivesBlocks → (key octets : List ℕ) (count : ℕ) → all_bits (chained key (take count (blocks octets))) ≡ true
unfolding chained bits
all_bits-chained gives key octets count =
    all_bits-fold gives key (replicate 64 0) (take count (blocks octets)) (all_bits-bits 64 0)
    (λ i lt.
    let inside : i < count = omega (arith, length-take count (blocks octets)) in
    rw (get_or-take count (blocks octets) i [] inside) (all_bits-block octets i))

triple_block : GivesBlocks → (key : TripleKey) (block : List ℕ) → all_bits block ≡ true → IsBlock (triple_encipher key block)
unfolding triple_encipher
triple_block gives key block h =
    let one : List ℕ = des_encipher (bits 64 key.first) block in
    let two : List ℕ = des_decipher (bits 64 key.second) one in
    (gives (bits 64 key.third) two (gives (bits 64 key.second) one (gives (bits 64 key.first) block h).0.1).1.1).0

pub mac_of_below : GivesBlocks → (key : TripleKey) (text : List ℕ) → mac_of key text < 2 ^ 64
unfolding mac_of mac_bits
mac_of_below gives key text =
    let xs : List (List ℕ) = blocks (padded text) in
    let before : List ℕ = chained (bits 64 key.first) (take (length xs - 1) xs) in
    let last : List ℕ = slice_index_or xs (length xs - 1) [] in
    let mixed = all_bits-xor before last (all_bits-chained gives (bits 64 key.first) (padded text) (length xs - 1)) (all_bits-block (padded text) (length xs - 1)) in
    let block = triple_block gives key (xor before last) mixed in
    rw block.0 at (number_below (triple_encipher key (xor before last)) block.1)
