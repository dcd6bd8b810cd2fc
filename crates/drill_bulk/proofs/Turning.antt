-- The steps that are left, as one message more is drawn.
use Rattle.std.proofs.Common.{◌≡◌, ℕ, suc, ◌+◌, ◌-◌, ◌<◌, ◌≤◌, List, [], ◌++◌, refl, sym, ap, ap₂, ◌∙◌, append-nil, append_assoc, arith}
use Rattle.er_scenario.specs.declared.step.Step.{Step}
use Rattle.rand_core.specs.Stream.{Stream, next_u32}
use Rattle.drill_bulk.specs.Draws.{words_drawn}
use Rattle.drill_bulk.specs.Turns.{steps_of_bulk_turn, turns}

-- the steps from message i on, so many
abbrev from : ℕ → ℕ → Stream → List Step
from i count s = turns i (words_drawn count s)

from_one : (i count : ℕ) (s : Stream) → from i (suc count) s ≡ steps_of_bulk_turn i (next_u32 s).0 ++ from (i + 1) count (next_u32 s).1
unfolding words_drawn turns
from_one i count s = refl

from_none : (i : ℕ) (s : Stream) → from i 0 s ≡ []
unfolding words_drawn turns
from_none i s = refl

pub one_more : (i count word : ℕ) (old new all : List Step) (s t : Stream) → i < count → (word, t) ≡ next_u32 s → new ≡ old ++ steps_of_bulk_turn i word
    → old ++ from i (count - i) s ≡ all → new ++ from (i + 1) (count - (i + 1)) t ≡ all
one_more i count word old new all s t below drawn added whole =
    let left : suc (count - (i + 1)) ≡ count - i = omega arith in
    let w : (next_u32 s).0 ≡ word = ap (λ (a : ℕ × Stream). a.0) (sym drawn) in
    let u : (next_u32 s).1 ≡ t = ap (λ (a : ℕ × Stream). a.1) (sym drawn) in
    let first : from i (count - i) s ≡ steps_of_bulk_turn i word ++ from (i + 1) (count - (i + 1)) t =
    ap (λ (n : ℕ). from i n s) (sym left)
    ∙ from_one i (count - (i + 1)) s
    ∙ ap₂ (λ (v : ℕ) (r : Stream). steps_of_bulk_turn i v ++ from (i + 1) (count - (i + 1)) r) w u in
    ap (λ (xs : List Step). xs ++ from (i + 1) (count - (i + 1)) t) added
    ∙ append_assoc old (steps_of_bulk_turn i word) (from (i + 1) (count - (i + 1)) t)
    ∙ ap (λ (xs : List Step). old ++ xs) (sym first)
    ∙ whole

pub no_more : (i count : ℕ) (items all : List Step) (s : Stream) → count ≤ i → items ++ from i (count - i) s ≡ all → items ≡ all
no_more i count items all s past whole =
    let none : count - i ≡ 0 = omega arith in
    sym (append-nil items) ∙ ap (λ (xs : List Step). items ++ xs) (sym (ap (λ (n : ℕ). from i n s) none ∙ from_none i s)) ∙ whole
