-- The keys of a dial: one pair.
use Rattle.std.proofs.Common.{◌≡◌, ℕ, max, Bool, true, false, [], ◌∷◌, Some, None, ◌∙◌, arith}
use Rattle.std.specs.Prelude.{if◌then◌else◌}
use Rattle.des_block.specs.declared.triple_key.TripleKey.{TripleKey}
use Rattle.safety_automaton.specs.Keys.{key_at, is_of}
use Rattle.er_end_model.specs.Steps.{Finds}
use Rattle.loop_recordings.specs.Recordings.{FindsToo}
use Rattle.readiness_loop.specs.Claims.{pair_of}

-- where one of two answers is none, and the other one is this key, what is found is this key
chosen : (holds : Bool) (kmac other : TripleKey) → (if holds then Some kmac else None) ≡ Some other → Some kmac ≡ Some other
chosen true kmac other p = p
chosen false kmac other p = absurd cc

pub finds_too : (finds : Finds) (now engine rbc : ℕ) (kmac : TripleKey) → finds now engine rbc ≡ Some kmac
    → FindsToo (key_at (pair_of engine rbc kmac ∷ [])) finds now engine rbc
finds_too finds now engine rbc kmac p other q = p ∙ chosen (is_of now engine rbc (pair_of engine rbc kmac)) kmac other q

pub at_beginning : (n : ℕ) → n ≡ max 0 n
at_beginning n = omega arith
