-- IP carries the exclusive or through, and undoes the IP⁻¹ of the step before.
use Rattle.std.proofs.Common.{◌≡◌, ℕ, List}
use Rattle.std.specs.Prelude.{bit_xor}
use Rattle.bit_lists.specs.Bits.{bits, pick, xor}
use Rattle.des_block.specs.Tables.{initial_permutation, inverse_initial_permutation}
use Rattle.des_block.proofs.RoundTrips.{behind_initial, before_final, mixed_behind_initial}
use Rattle.des_block.proofs.chaining_value.ChainingValue.chain.Goals as goal

pub returns : goal.returns
returns c =
    let kept : ℕ = c.self.inside.halves in
    let block : List ℕ = xor (pick inverse_initial_permutation (bits 64 kept)) (bits 64 c.args.block) in
    let mixed : bits 64 (bit_xor kept c.initial_permutation.result) ≡ pick initial_permutation block = mixed_behind_initial kept c.args.block c.initial_permutation.result c.initial_permutation.ensures in
    let behind = behind_initial c.args.schedule.now block (bit_xor kept c.initial_permutation.result) c.rounds-self-inside.result mixed c.rounds-self-inside.ensures in
    rw (← c.self.view_is) (before_final c.args.schedule.now block c.rounds-self-inside.result behind)
