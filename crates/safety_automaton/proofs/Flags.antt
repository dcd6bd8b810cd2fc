-- The two direction flags, and tests that are told the other way round.
use Rattle.std.proofs.Common.{◌≡◌, ℕ, not, Bool, true, false, Option, refl}
use Rattle.std.proofs.Math.Bool.{beq}
use Rattle.er_base.specs.declared.release.Release.{Release}
use Rattle.des_block.specs.declared.triple_key.TripleKey.{TripleKey}
use Rattle.safety_automaton.specs.declared.phase.Stage.{Stage}
use Rattle.safety_automaton.specs.declared.phase.Stage.TheVariants as stage
use Rattle.safety_automaton.specs.declared.phase.Phase.{Phase as CodePhase}
use Rattle.safety_automaton.specs.declared.phase.Phase.TheVariants as code
use Rattle.safety_automaton.specs.declared.safe_state.SafeState.TheVariants as state
use Rattle.safety_automaton.specs.Views.{state_of}
use Rattle.safety_automaton.specs.Kept.{stage_view, phase_view}
use Rattle.safety_automaton.specs.declared.role.Role.{Role}
use Rattle.safety_automaton.specs.declared.role.Role.TheVariants.{Initiator, Responder}
use Rattle.safety_automaton.specs.Safety.{same_flag, flag_of, other_role}

pub same_flag_at : (b : Bool) → same_flag b b ≡ true
same_flag_at true = refl
same_flag_at false = refl

pub same_flag-true : (a b : Bool) → same_flag a b ≡ true → a ≡ b
same_flag-true true true e = refl
same_flag-true true false e = cc
same_flag-true false true e = cc
same_flag-true false false e = refl

-- a side's own flag isn't its peer's
pub own_flag : (r : Role) → same_flag (flag_of r) (flag_of (other_role r)) ≡ false
own_flag Initiator = refl
own_flag Responder = refl

-- a flag that isn't the peer's is the own
pub is_own_flag : (r : Role) (flag : Bool) → same_flag flag (flag_of (other_role r)) ≡ false → flag ≡ flag_of r
is_own_flag Initiator true e = cc
is_own_flag Initiator false e = refl
is_own_flag Responder true e = refl
is_own_flag Responder false e = cc

-- the test of the code, `!=`
pub same_flag_if : (a b : Bool) → not (beq a b) ≡ false → same_flag a b ≡ true
same_flag_if true true e = refl
same_flag_if true false e = cc
same_flag_if false true e = cc
same_flag_if false false e = refl

keyed : (me peer : ℕ) (keys : TripleKey) (at : Stage) → state_of (stage_view me peer keys at) ≡ state.Released → ⊥
keyed me peer keys (stage.WaitAu3 ra rb) e = cc
keyed me peer keys (stage.WaitAr ra rb) e = cc
keyed me peer keys stage.Connected e = cc

-- a phase of the code that isn't released
pub not_released : (me : ℕ) (phase : CodePhase) → ((release : Release) (session : Option TripleKey) → phase ≡ code.Released release session → ⊥)
    → state_of (phase_view me phase) ≡ state.Released → ⊥
not_released me (code.Ready peer kmac rb) other e = cc
not_released me (code.WaitAu1 ra) other e = cc
not_released me (code.WaitAu2 peer kmac rb) other e = cc
not_released me (code.Keyed session) other e = keyed me session.peer session.keys session.stage e
not_released me (code.Released release session) other e = other release session refl
