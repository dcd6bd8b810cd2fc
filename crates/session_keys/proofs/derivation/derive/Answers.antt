-- Each key is the number whose bits the definition gives.
use Rattle.std.proofs.Common.{◌≡◌, ℕ, ◌^◌, ◌<◌, List, refl, sym, ap, ◌∙◌}
use Rattle.bit_lists.specs.Bits.{bits, number}
use Rattle.bit_lists.proofs.Widths.{number-bits}
use Rattle.des_block.specs.Triple.{triple_encipher}
use Rattle.des_block.specs.declared.triple_key.TripleKey.{TripleKey}
use Rattle.session_keys.specs.Session.{session_of, left_halves, right_halves, reversed_key}
use Rattle.session_keys.proofs.derivation.derive.Goals as goal

key_is : (key given : TripleKey) (n block : ℕ) (halves : List ℕ) → n < 2 ^ 64
    → given ≡ key → bits 64 n ≡ triple_encipher given (bits 64 block) → bits 64 block ≡ halves
    → n ≡ number (triple_encipher key halves)
key_is key given n block halves small same e joined = sym (number-bits 64 n small) ∙ ap number (e ∙ rw (same, joined) refl)

pub returns : goal.returns
unfolding session_of
returns c =
    let kmac : TripleKey = c.args.kmac.now in
    let left : List ℕ = left_halves c.args.ra c.args.rb in
    let right : List ℕ = right_halves c.args.ra c.args.rb in
    let reversed : c.new.result ≡ reversed_key kmac = c.new.ensures ∙ c.reversed.ensures in
    let first = key_is kmac c.new-schedule.result c.encipher.result c.join_left-left.result left c.encipher.type_inv c.new-schedule.ensures c.encipher.ensures c.join_left-left.ensures in
    let second = key_is kmac c.new-schedule.result c.encipher-2.result c.join_right.result right c.encipher-2.type_inv c.new-schedule.ensures c.encipher-2.ensures c.join_right.ensures in
    let third = key_is (reversed_key kmac) c.new.result c.encipher-3.result c.join_left-left.result left c.encipher-3.type_inv reversed c.encipher-3.ensures c.join_left-left.ensures in
    rw (first, second, third) refl
