-- What DES gives is a string of bits wherever what goes in is one.
use Rattle.std.proofs.Common.{◌≡◌, ℕ, List, [], ◌∷◌, take, drop, refl, true}
use Rattle.bit_lists.specs.Bits.{pick, xor, all_bits}
use Rattle.bit_lists.proofs.Widths.{all_bits-bits, all_bits-append}
use Rattle.bit_lists.proofs.Picks.{all_bits-pick, all_bits-take, all_bits-drop}
use Rattle.bit_lists.proofs.Xors.{all_bits-xor}
use Rattle.des_block.specs.Tables.{initial_permutation, inverse_initial_permutation, expansion, permutation}
use Rattle.des_block.specs.Boxes.{boxes}
use Rattle.des_block.specs.Des.{cipher, rounds, cipher_function, substituted, box_output}

all_bits-substituted : (bs : List (List ℕ)) (xs : List ℕ) → all_bits (substituted bs xs) ≡ true
unfolding substituted box_output all_bits
all_bits-substituted [] xs = refl
all_bits-substituted (b ∷ bs) xs = all_bits-append (box_output b (take 6 xs)) (substituted bs (drop 6 xs)) (all_bits-bits 4 _) (all_bits-substituted bs (drop 6 xs))

all_bits-cipher_function : (right key : List ℕ) → all_bits (cipher_function right key) ≡ true
unfolding cipher_function
all_bits-cipher_function right key = all_bits-pick permutation (substituted boxes (xor (pick expansion right) key)) (all_bits-substituted boxes (xor (pick expansion right) key))

all_bits-rounds : (keys : List (List ℕ)) (l r : List ℕ) → all_bits l ≡ true → all_bits r ≡ true → all_bits (rounds keys l r) ≡ true
unfolding rounds
all_bits-rounds [] l r hl hr = all_bits-append r l hr hl
all_bits-rounds (k ∷ ks) l r hl hr = all_bits-rounds ks r (xor l (cipher_function r k)) hr (all_bits-xor l (cipher_function r k) hl (all_bits-cipher_function r k))

pub all_bits-cipher : (keys : List (List ℕ)) (block : List ℕ) → all_bits block ≡ true → all_bits (cipher keys block) ≡ true
unfolding cipher
all_bits-cipher keys block h =
    let start : List ℕ = pick initial_permutation block in
    let hs : all_bits start ≡ true = all_bits-pick initial_permutation block h in
    let behind : List ℕ = rounds keys (take 32 start) (drop 32 start) in
    all_bits-pick inverse_initial_permutation behind (all_bits-rounds keys (take 32 start) (drop 32 start) (all_bits-take 32 start hs) (all_bits-drop 32 start hs))
