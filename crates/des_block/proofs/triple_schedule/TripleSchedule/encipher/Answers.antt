-- Between two keys IP and IP⁻¹ undo each other.
use Rattle.std.proofs.Common.{◌≡◌, reverse, List, ℕ, ◌∙◌}
use Rattle.bit_lists.specs.Bits.{bits}
use Rattle.des_block.specs.Des.{cipher}
use Rattle.des_block.specs.Triple.{triple_encipher}
use Rattle.des_block.proofs.RoundTrips.{behind_initial, before_final}
use Rattle.des_block.proofs.triple_schedule.TripleSchedule.encipher.Goals as goal

pub returns : goal.returns
unfolding triple_encipher
returns c =
    let one : List (List ℕ) = c.self.inside.first in
    let two : List (List ℕ) = c.self.inside.second in
    let three : List (List ℕ) = c.self.inside.third in
    let block : List ℕ = bits 64 c.args.block in
    let made = c.self.invariant in
    let first = behind_initial one block c.initial_permutation.result c.rounds-halves.result c.initial_permutation.ensures c.rounds-halves.ensures in
    let second = behind_initial (reverse two) (cipher one block) c.rounds-halves.result c.rounds_backward-halves.result first c.rounds_backward-halves.ensures in
    let third = behind_initial three (cipher (reverse two) (cipher one block)) c.rounds_backward-halves.result c.rounds.result second c.rounds.ensures in
    let whole : bits 64 c.inverse_initial_permutation.result ≡ cipher three (cipher (reverse two) (cipher one block)) =
    c.inverse_initial_permutation.ensures ∙ before_final three (cipher (reverse two) (cipher one block)) c.rounds.result third in
    rw (← c.self.view_is) (rw (made.0, made.1, made.2) at whole)
