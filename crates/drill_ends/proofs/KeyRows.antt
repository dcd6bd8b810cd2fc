-- The one key of a link is found alike at every moment.
use Rattle.std.proofs.Common.{◌≡◌, ℕ, ◌-◌, ◌<◌, ◌^◌, ◌==◌, ◌&&◌, nat_le, if◌then◌else◌, Bool, true, false, refl, sym, ◌∙◌, Option, Some, None, arith}
use mathlib.Core.Path.{fun_ext}
use Rattle.std.proofs.lemmas.Bool.{le-leb}
use Rattle.des_block.specs.declared.triple_key.TripleKey.{TripleKey}
use Rattle.safety_automaton.specs.Keys.{key_at}
use Rattle.safety_pair_laws.specs.Openings.{OfKeys, key_for}
use Rattle.drill_ends.specs.Keys.{key_entries_of_pair, AreKeysSteady, KeyIsFound}

no_key : (b : Bool) (x : Option TripleKey) → x ≡ (if b then x else x)
no_key true x = refl
no_key false x = refl

its_key : (b c d : Bool) (kmac : TripleKey) → c ≡ true → d ≡ true
    → (if (b && c) && d then Some kmac else None) ≡ (if b then Some kmac else None)
its_key true c d kmac is at = rw (is, at) refl
its_key false c d kmac is at = refl

-- the one key of a link at a moment of 64 bits
one_key : (own_engine own_rbc : ℕ) (kr : Option TripleKey) (ke : TripleKey) (ra rb now engine rbc : ℕ) → now < 2 ^ 64
    → key_at (key_entries_of_pair own_engine own_rbc kr) now engine rbc ≡ key_for (OfKeys own_engine own_rbc ke kr ra rb) engine rbc
one_key own_engine own_rbc None ke ra rb now engine rbc bound = no_key ((own_engine == engine) && (own_rbc == rbc)) None
one_key own_engine own_rbc (Some kmac) ke ra rb now engine rbc bound =
    let first : nat_le 0 now ≡ true = le-leb 0 now (omega arith) in
    let last : nat_le now (2 ^ 64 - 1) ≡ true = le-leb now (2 ^ 64 - 1) (omega (arith, bound)) in
    its_key ((own_engine == engine) && (own_rbc == rbc)) (nat_le 0 now) (nat_le now (2 ^ 64 - 1)) kmac first last

pub key_found : KeyIsFound
key_found engine rbc ke kr ra rb now bound = fun_ext (λ e. fun_ext (λ r. one_key engine rbc kr ke ra rb now e r bound))

-- which is found alike at any two moments
pub steady : (engine rbc : ℕ) (kr : Option TripleKey) → AreKeysSteady (key_entries_of_pair engine rbc kr)
steady engine rbc kr a b low most =
    let none : TripleKey = record { first = 0; second = 0; third = 0 } in
    key_found engine rbc none kr 0 0 a (omega (arith, low)) ∙ sym (key_found engine rbc none kr 0 0 b (omega (arith, most)))
