-- The rounds that are left, from the halves as they stand, give what all rounds give.
use Rattle.std.proofs.Common.{◌≡◌, ℕ, ◌+◌, List, [], ◌∷◌, drop, refl, arith, get_or}
use Rattle.std.proofs.lemmas.List.{drop_more, drop_all}
use Rattle.bit_lists.specs.Bits.{bits}
use Rattle.bit_lists.proofs.Xors.{bits-xor}
use Rattle.des_block.specs.Des.{rounds, cipher_function}
use Rattle.des_block.specs.Representation.{kept_key}
use Rattle.des_block.proofs.PlainSteps.{first_half, second_half}
use Rattle.des_block.proofs.rounds.rounds_onward.Goals as goal

pub loop-key-preserved : goal.loop-key-preserved
unfolding rounds
loop-key-preserved c =
    let keys : List ℕ = c.args.keys.now in
    let i : ℕ = c.loop-key.key-index in
    let next : drop i keys ≡ get_or keys i 0 ∷ drop (i + 1) keys = drop_more keys i 0 (omega arith) in
    let mixed = bits-xor 32 c.loop-key.left c.cipher_function.result in
    let given : bits 32 c.cipher_function.result ≡ cipher_function (bits 32 c.loop-key.right) (kept_key (get_or keys i 0)) = c.cipher_function.ensures in
    let held = rw next at c.loop-key.invariant in
    rw (mixed, given) held

pub returns : goal.returns
unfolding rounds
returns c =
    let keys : List ℕ = c.args.keys.now in
    let halves : ℕ = c.args.halves in
    let over : drop c.loop-key.key-index keys ≡ [] = drop_all c.loop-key.key-index keys (omega arith) in
    let held = rw over at c.loop-key.invariant in
    rw (c.join.ensures, held, first_half halves, second_half halves) refl
