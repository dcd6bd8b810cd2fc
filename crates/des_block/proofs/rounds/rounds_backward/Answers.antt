-- The rounds that are left, from the halves as they stand, give what all rounds give; the keys are read from the last on.
use Rattle.std.proofs.Common.{◌≡◌, ℕ, List, [], ◌∷◌, ◌++◌, length, reverse, refl, arith}
use Rattle.std.proofs.lemmas.List.{reverse-append}
use Rattle.bit_lists.specs.Bits.{bits}
use Rattle.bit_lists.proofs.Xors.{bits-xor}
use Rattle.des_block.specs.Des.{rounds, cipher_function}
use Rattle.des_block.specs.Representation.{kept_key}
use Rattle.des_block.proofs.PlainSteps.{first_half, second_half, map-reverse}
use Rattle.des_block.proofs.rounds.rounds_backward.Goals as goal

none_left : (xs : List ℕ) → length xs ≡ 0 → xs ≡ []
none_left [] h = refl
none_left (x ∷ xs) h = absurd (omega arith)

pub loop-key-init : goal.loop-key-init
loop-key-init c = rw (c.into_iter-key-iterator.ensures.into_iter_gives, c.rev-key-items.ensures.source, c.iter.ensures.rest) refl

pub loop-key-preserved : goal.loop-key-preserved
unfolding rounds
loop-key-preserved c =
    let key : ℕ = c.in-Some.key.now in
    let rest : List ℕ = c.next.new.self.iter.rest.now in
    let last : c.loop-key.key-iterator.iter.rest.now ≡ rest ++ key ∷ [] = c.in-Some.ensures.steps in
    let first : reverse (rest ++ key ∷ []) ≡ key ∷ reverse rest = reverse-append rest (key ∷ []) in
    let mixed = bits-xor 32 c.loop-key.left c.cipher_function.result in
    let given : bits 32 c.cipher_function.result ≡ cipher_function (bits 32 c.loop-key.right) (kept_key key) = c.cipher_function.ensures in
    let held = rw (last, first) at c.loop-key.invariant in
    rw (mixed, given) held

pub returns : goal.returns
unfolding rounds
returns c =
    let keys : List ℕ = c.args.keys.now in
    let halves : ℕ = c.args.halves in
    let over : c.loop-key.key-iterator.iter.rest.now ≡ [] = none_left c.loop-key.key-iterator.iter.rest.now c.in-None.ensures.steps.0 in
    let held = rw over at c.loop-key.invariant in
    let images = map-reverse kept_key keys in
    rw (c.join.ensures, held, images, first_half halves, second_half halves) refl
