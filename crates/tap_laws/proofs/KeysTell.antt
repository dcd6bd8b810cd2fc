-- Session keys tell both random numbers in their 64 bits, since what is enciphered under a key is told by what it is enciphered to.
use Rattle.std.proofs.Common.{◌≡◌, ◌∙◌, ℕ, ◌+◌, true, List, [], ◌∷◌, ◌++◌, length, take, drop, refl, sym, ap, ap₂, arith}
use Rattle.std.proofs.lemmas.List.{take-append-drop, length-append}
use Rattle.bit_lists.specs.Bits.{bits, number, all_bits}
use Rattle.bit_lists.proofs.Widths.{length-bits, take-bits, drop-bits, bits-number, all_bits-bits, all_bits-append}
use Rattle.bit_lists.proofs.Picks.{all_bits-take, all_bits-drop}
use Rattle.des_block.specs.declared.triple_key.TripleKey.{TripleKey}
use Rattle.des_block.specs.Des.{des_encipher, des_decipher}
use Rattle.des_block.specs.Triple.{triple_encipher}
use Rattle.des_block.specs.Laws.{DecipherUndoesEncipher, EncipherUndoesDecipher, IsBlock, GivesBlocks}
use Rattle.session_keys.specs.Session.{session_of, left_halves, right_halves}

-- keys by the bits of both random numbers
pub same_keys : (kmac : TripleKey) (ra rb ra' rb' : ℕ) → bits 64 ra ≡ bits 64 ra' → bits 64 rb ≡ bits 64 rb' → session_of kmac ra rb ≡ session_of kmac ra' rb'
unfolding session_of
same_keys kmac ra rb ra' rb' a b =
    ap₂ (λ (x y : List ℕ). record {
      first = number (triple_encipher kmac (take 32 x ++ take 32 y));
      second = number (triple_encipher kmac (drop 32 x ++ drop 32 y));
      third = number (triple_encipher (record { first = kmac.third; second = kmac.second; third = kmac.first }) (take 32 x ++ take 32 y));
    }) a b

-- what laws of DES say
pub record DesLaws : Type 0 where
  pub deciphered : DecipherUndoesEncipher
  pub enciphered : EncipherUndoesDecipher
  pub blocks : GivesBlocks

split_same : (xs xs' ys ys' : List ℕ) → length xs ≡ length xs' → xs ++ ys ≡ xs' ++ ys' → (xs ≡ xs') × (ys ≡ ys')
split_same [] [] ys ys' n e = (refl, e)
split_same [] (x' ∷ xs') ys ys' n e = absurd (omega (arith, n))
split_same (x ∷ xs) [] ys ys' n e = absurd (omega (arith, n))
split_same (x ∷ xs) (x' ∷ xs') ys ys' n e =
    let z : x ∷ (xs ++ ys) ≡ x' ∷ (xs' ++ ys') = e in
    let tail : xs ++ ys ≡ xs' ++ ys' = cc in
    let head : x ≡ x' = cc in
    let both = split_same xs xs' ys ys' (omega (arith, n)) tail in
    (ap₂ (λ (a : ℕ) (rest : List ℕ). a ∷ rest) head both.0, both.1)

-- ---- halves

first_length : (n : ℕ) → length (take 32 (bits 64 n)) ≡ 32
first_length n = ap (λ (xs : List ℕ). length xs) (take-bits 32 32 n) ∙ length-bits 32 _

last_length : (n : ℕ) → length (drop 32 (bits 64 n)) ≡ 32
last_length n = ap (λ (xs : List ℕ). length xs) (drop-bits 32 32 n) ∙ length-bits 32 n

joined_block : (xs ys : List ℕ) → length xs ≡ 32 → length ys ≡ 32 → all_bits xs ≡ true → all_bits ys ≡ true → IsBlock (xs ++ ys)
joined_block xs ys m n a b = (length-append xs ys ∙ ap₂ (λ (x y : ℕ). x + y) m n, all_bits-append xs ys a b)

left_block : (ra rb : ℕ) → IsBlock (left_halves ra rb)
left_block ra rb =
    joined_block (take 32 (bits 64 ra)) (take 32 (bits 64 rb)) (first_length ra) (first_length rb) (all_bits-take 32 (bits 64 ra) (all_bits-bits 64 ra))
    (all_bits-take 32 (bits 64 rb) (all_bits-bits 64 rb))

right_block : (ra rb : ℕ) → IsBlock (right_halves ra rb)
right_block ra rb =
    joined_block (drop 32 (bits 64 ra)) (drop 32 (bits 64 rb)) (last_length ra) (last_length rb) (all_bits-drop 32 (bits 64 ra) (all_bits-bits 64 ra))
    (all_bits-drop 32 (bits 64 rb) (all_bits-bits 64 rb))

both_halves : (m n : ℕ) → take 32 (bits 64 m) ≡ take 32 (bits 64 n) → drop 32 (bits 64 m) ≡ drop 32 (bits 64 n) → bits 64 m ≡ bits 64 n
both_halves m n a b =
    sym (take-append-drop 32 (bits 64 m)) ∙ ap₂ (λ (x y : List ℕ). x ++ y) a b ∙ take-append-drop 32 (bits 64 n)

module _ (low : DesLaws) where
  block_number : (xs ys : List ℕ) → IsBlock xs → IsBlock ys → number xs ≡ number ys → xs ≡ ys
  block_number xs ys a b e =
      sym (bits-number xs a.1) ∙ ap₂ (λ (w n : ℕ). bits w n) (a.0 ∙ sym b.0) e ∙ bits-number ys b.1

  -- what three enciphered is told by the number of what it is enciphered to
  triple_same : (key : TripleKey) (xs ys : List ℕ) → IsBlock xs → IsBlock ys → number (triple_encipher key xs) ≡ number (triple_encipher key ys) → xs ≡ ys
  unfolding triple_encipher
  triple_same key xs ys p q e =
      let one : List ℕ = bits 64 key.first in
      let two : List ℕ = bits 64 key.second in
      let three : List ℕ = bits 64 key.third in
      let ax : IsBlock (des_encipher one xs) = (low.blocks one xs p.1).0 in
      let ay : IsBlock (des_encipher one ys) = (low.blocks one ys q.1).0 in
      let bx : IsBlock (des_decipher two (des_encipher one xs)) = (low.blocks two (des_encipher one xs) ax.1).1 in
      let by : IsBlock (des_decipher two (des_encipher one ys)) = (low.blocks two (des_encipher one ys) ay.1).1 in
      let cx : IsBlock (des_encipher three (des_decipher two (des_encipher one xs))) = (low.blocks three (des_decipher two (des_encipher one xs)) bx.1).0 in
      let cy : IsBlock (des_encipher three (des_decipher two (des_encipher one ys))) = (low.blocks three (des_decipher two (des_encipher one ys)) by.1).0 in
      let third = block_number (des_encipher three (des_decipher two (des_encipher one xs))) (des_encipher three (des_decipher two (des_encipher one ys))) cx cy e in
      let second : des_decipher two (des_encipher one xs) ≡ des_decipher two (des_encipher one ys) =
      sym (low.deciphered three (des_decipher two (des_encipher one xs)) bx.0) ∙ ap (λ (z : List ℕ). des_decipher three z) third
      ∙ low.deciphered three (des_decipher two (des_encipher one ys)) by.0 in
      let first : des_encipher one xs ≡ des_encipher one ys =
      sym (low.enciphered two (des_encipher one xs) ax.0) ∙ ap (λ (z : List ℕ). des_encipher two z) second ∙ low.enciphered two (des_encipher one ys) ay.0 in
      sym (low.deciphered one xs p.0) ∙ ap (λ (z : List ℕ). des_decipher one z) first ∙ low.deciphered one ys q.0

  pub keys_tell : (kmac : TripleKey) (ra rb ra' rb' : ℕ) → session_of kmac ra rb ≡ session_of kmac ra' rb' → (bits 64 ra ≡ bits 64 ra') × (bits 64 rb ≡ bits 64 rb')
  unfolding session_of
  keys_tell kmac ra rb ra' rb' e =
      let left : left_halves ra rb ≡ left_halves ra' rb' =
      triple_same kmac (left_halves ra rb) (left_halves ra' rb') (left_block ra rb) (left_block ra' rb') (ap (λ (k : TripleKey). k.first) e) in
      let right : right_halves ra rb ≡ right_halves ra' rb' =
      triple_same kmac (right_halves ra rb) (right_halves ra' rb') (right_block ra rb) (right_block ra' rb') (ap (λ (k : TripleKey). k.second) e) in
      let l = split_same (take 32 (bits 64 ra)) (take 32 (bits 64 ra')) (take 32 (bits 64 rb)) (take 32 (bits 64 rb')) (first_length ra ∙ sym (first_length ra')) left in
      let r = split_same (drop 32 (bits 64 ra)) (drop 32 (bits 64 ra')) (drop 32 (bits 64 rb)) (drop 32 (bits 64 rb')) (last_length ra ∙ sym (last_length ra')) right in
      (both_halves ra ra' l.0 r.0, both_halves rb rb' l.1 r.1)
