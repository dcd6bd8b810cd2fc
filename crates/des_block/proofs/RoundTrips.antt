-- Each direction of DES undoes the other: the rounds under the keys in turned order lead back, whatever the cipher function
-- is, and IP and IP⁻¹ undo each other.
use Rattle.std.proofs.Common.{◌≡◌, ℕ, ◌≤◌, List, [], ◌∷◌, ◌++◌, length, take, drop, reverse, refl, sym, ap, ◌∙◌, arith}
use Rattle.std.specs.List.{range_with_len}
use Rattle.std.proofs.lemmas.List.{take_at, drop_at, length-take-le, length-drop, length-append, take-append-drop, reverse-append, reverse-reverse}
use Rattle.std.specs.Prelude.{bit_xor}
use Rattle.bit_lists.specs.Bits.{bits, pick, xor}
use Rattle.bit_lists.proofs.Widths.{length-bits}
use Rattle.bit_lists.proofs.Picks.{length-pick, pick-pick, pick-xor, pick_all}
use Rattle.bit_lists.proofs.Xors.{bits-xor, length-xor, xor_twice}
use Rattle.des_block.specs.Tables.{initial_permutation, inverse_initial_permutation, permutation}
use Rattle.des_block.specs.Des.{des_encipher, des_decipher, cipher, rounds, cipher_function, round_keys}

pub length-cipher_function : (right key : List ℕ) → length (cipher_function right key) ≡ 32
unfolding cipher_function
length-cipher_function right key = length-pick permutation _

pub length-cipher : (keys : List (List ℕ)) (block : List ℕ) → length (cipher keys block) ≡ 64
unfolding cipher
length-cipher keys block = length-pick inverse_initial_permutation _

-- the two halves behind the rounds, before they are turned
after : List (List ℕ) → List ℕ → List ℕ → List ℕ × List ℕ
after [] l r = (l, r)
after (k ∷ ks) l r = after ks r (xor l (cipher_function r k))

step : List ℕ → List ℕ × List ℕ → List ℕ × List ℕ
step k p = (p.1, xor p.0 (cipher_function p.1 k))

after-push : (ks : List (List ℕ)) (k l r : List ℕ) → after (ks ++ k ∷ []) l r ≡ step k (after ks l r)
unfolding after step
after-push [] k l r = refl
after-push (j ∷ ks) k l r = after-push ks k r (xor l (cipher_function r j))

length-step : (l r k : List ℕ) → length l ≡ 32 → length (xor l (cipher_function r k)) ≡ 32
length-step l r k h = omega (arith, length-xor l (cipher_function r k), length-cipher_function r k)

length-after : (ks : List (List ℕ)) (l r : List ℕ) → length l ≡ 32 → length r ≡ 32 → (length (after ks l r).0 ≡ 32) × (length (after ks l r).1 ≡ 32)
unfolding after
length-after [] l r hl hr = (hl, hr)
length-after (k ∷ ks) l r hl hr = length-after ks r (xor l (cipher_function r k)) hr (length-step l r k hl)

undone : (ks : List (List ℕ)) (l r : List ℕ) → length l ≡ 32 → length r ≡ 32 → after (reverse ks) (after ks l r).1 (after ks l r).0 ≡ (r, l)
unfolding after step
undone [] l r hl hr = refl
undone (k ∷ ks) l r hl hr =
    let m : List ℕ = xor l (cipher_function r k) in
    let turned : reverse (k ∷ ks) ≡ reverse ks ++ k ∷ [] = reverse-append (k ∷ []) ks in
    let last = after-push (reverse ks) k (after ks r m).1 (after ks r m).0 in
    let before = undone ks r m hr (length-step l r k hl) in
    let long : length l ≤ length (cipher_function r k) = omega (arith, length-cipher_function r k) in
    let back : xor m (cipher_function r k) ≡ l = xor_twice l (cipher_function r k) long in
    rw (turned, last, before) (ap (λ (x : List ℕ). (r, x)) back)

rounds_after : (ks : List (List ℕ)) (l r : List ℕ) → rounds ks l r ≡ (after ks l r).1 ++ (after ks l r).0
unfolding after rounds
rounds_after [] l r = refl
rounds_after (k ∷ ks) l r = rounds_after ks r (xor l (cipher_function r k))

pub length-rounds : (ks : List (List ℕ)) (l r : List ℕ) → length l ≡ 32 → length r ≡ 32 → length (rounds ks l r) ≡ 64
length-rounds ks l r hl hr =
    let halves = length-after ks l r hl hr in
    rw (rounds_after ks l r) (omega (arith, length-append (after ks l r).1 (after ks l r).0, halves.0, halves.1))

pub initial_undoes_final : (xs : List ℕ) → length xs ≡ 64 → pick initial_permutation (pick inverse_initial_permutation xs) ≡ xs
unfolding pick
initial_undoes_final xs h =
    let one : pick initial_permutation inverse_initial_permutation ≡ range_with_len 1 64 = refl in
    pick-pick initial_permutation inverse_initial_permutation xs refl ∙ ap (λ (t : List ℕ). pick t xs) one ∙ pick_all xs 64 h

pub final_undoes_initial : (xs : List ℕ) → length xs ≡ 64 → pick inverse_initial_permutation (pick initial_permutation xs) ≡ xs
unfolding pick
final_undoes_initial xs h =
    let one : pick inverse_initial_permutation initial_permutation ≡ range_with_len 1 64 = refl in
    pick-pick inverse_initial_permutation initial_permutation xs refl ∙ ap (λ (t : List ℕ). pick t xs) one ∙ pick_all xs 64 h

pub cipher_undone : (keys : List (List ℕ)) (block : List ℕ) → length block ≡ 64 → cipher (reverse keys) (cipher keys block) ≡ block
unfolding cipher
cipher_undone keys block h =
    let start : List ℕ = pick initial_permutation block in
    let size : length start ≡ 64 = length-pick initial_permutation block in
    let l : List ℕ = take 32 start in
    let r : List ℕ = drop 32 start in
    let hl : length l ≡ 32 = length-take-le 32 start (omega arith) in
    let hr : length r ≡ 32 = omega (arith, length-drop 32 start) in
    let halves = length-after keys l r hl hr in
    let left : List ℕ = (after keys l r).0 in
    let right : List ℕ = (after keys l r).1 in
    let there : rounds keys l r ≡ right ++ left = rounds_after keys l r in
    let long : length (right ++ left) ≡ 64 = omega (arith, length-append right left, halves.0, halves.1) in
    let again : pick initial_permutation (pick inverse_initial_permutation (right ++ left)) ≡ right ++ left = initial_undoes_final (right ++ left) long in
    let front : take 32 (right ++ left) ≡ right = take_at right left 32 halves.1 in
    let behind : drop 32 (right ++ left) ≡ left = drop_at right left 32 halves.1 in
    let back : rounds (reverse keys) right left ≡ (after (reverse keys) right left).1 ++ (after (reverse keys) right left).0 = rounds_after (reverse keys) right left in
    let led : after (reverse keys) right left ≡ (r, l) = undone keys l r hl hr in
    let joined : l ++ r ≡ start = take-append-drop 32 start in
    rw (there, again, front, behind, back, led, joined) (final_undoes_initial block h)

pub cipher_done_again : (keys : List (List ℕ)) (block : List ℕ) → length block ≡ 64 → cipher keys (cipher (reverse keys) block) ≡ block
cipher_done_again keys block h =
    let twice : reverse (reverse keys) ≡ keys = reverse-reverse keys in
    let there : List ℕ = cipher (reverse keys) block in
    sym (ap (λ (ks : List (List ℕ)). cipher ks there) twice) ∙ cipher_undone (reverse keys) block h

-- IP of what DES gives is what the rounds give
pub initial-cipher : (keys : List (List ℕ)) (block : List ℕ)
    → pick initial_permutation (cipher keys block) ≡ rounds keys (take 32 (pick initial_permutation block)) (drop 32 (pick initial_permutation block))
unfolding cipher
initial-cipher keys block =
    let start : List ℕ = pick initial_permutation block in
    let size : length start ≡ 64 = length-pick initial_permutation block in
    let hl : length (take 32 start) ≡ 32 = length-take-le 32 start (omega arith) in
    let hr : length (drop 32 start) ≡ 32 = omega (arith, length-drop 32 start) in
    initial_undoes_final (rounds keys (take 32 start) (drop 32 start)) (length-rounds keys (take 32 start) (drop 32 start) hl hr)

-- ---- a block that stays behind IP from one key to the next
pub behind_initial : (keys : List (List ℕ)) (block : List ℕ) (halves result : ℕ)
    → bits 64 halves ≡ pick initial_permutation block
    → bits 64 result ≡ rounds keys (take 32 (bits 64 halves)) (drop 32 (bits 64 halves))
    → bits 64 result ≡ pick initial_permutation (cipher keys block)
behind_initial keys block halves result held given = given ∙ rw held (sym (initial-cipher keys block))

pub before_final : (keys : List (List ℕ)) (block : List ℕ) (halves : ℕ)
    → bits 64 halves ≡ pick initial_permutation (cipher keys block)
    → pick inverse_initial_permutation (bits 64 halves) ≡ cipher keys block
before_final keys block halves held = ap (pick inverse_initial_permutation) held ∙ final_undoes_initial (cipher keys block) (length-cipher keys block)

-- the exclusive or behind IP
pub mixed_behind_initial : (kept block halves : ℕ) → bits 64 halves ≡ pick initial_permutation (bits 64 block)
    → bits 64 (bit_xor kept halves) ≡ pick initial_permutation (xor (pick inverse_initial_permutation (bits 64 kept)) (bits 64 block))
mixed_behind_initial kept block halves held =
    let value : List ℕ = pick inverse_initial_permutation (bits 64 kept) in
    let back : bits 64 kept ≡ pick initial_permutation value = sym (initial_undoes_final (bits 64 kept) (length-bits 64 kept)) in
    let same : length value ≡ length (bits 64 block) = length-pick inverse_initial_permutation (bits 64 kept) ∙ sym (length-bits 64 block) in
    bits-xor 64 kept halves ∙ ap (λ (ys : List ℕ). xor (bits 64 kept) ys) held ∙ ap (λ (ys : List ℕ). xor ys (pick initial_permutation (bits 64 block))) back
    ∙ sym (pick-xor initial_permutation value (bits 64 block) same)

pub decipher_encipher : (key block : List ℕ) → length block ≡ 64 → des_decipher key (des_encipher key block) ≡ block
decipher_encipher key block h = cipher_undone (round_keys key) block h

pub encipher_decipher : (key block : List ℕ) → length block ≡ 64 → des_encipher key (des_decipher key block) ≡ block
encipher_decipher key block h = cipher_done_again (round_keys key) block h
