-- A part of the loop once for each of a list of answers.
use Rattle.std.proofs.Common.{◌≡◌, ◌≤◌, ◌<◌, ℕ, zero, suc, ◌+◌, ◌-◌, List, [], ◌∷◌, ◌++◌, length, refl, sym, ◌∙◌, ap, append-nil, append_assoc, arith}
use Rattle.link_trait.specs.Wires.{Call}
use Rattle.loop_model.specs.Journals.{JournalEntry}
use Rattle.loop_model.specs.Deeds.{LoopDeed}
use Rattle.loop_model.specs.Outs.{Out, still, next, acts, exactly}

pub acts_none : {S A : Type 0} (f : S → A → Out S) (s : S) → acts f s [] ≡ still s
unfolding acts
acts_none f s = refl

pub acts_on : {S A : Type 0} (f : S → A → Out S) (s : S) (x : A) (xs : List A) → acts f s (x ∷ xs) ≡ next (f s x) (λ t. acts f t xs)
unfolding acts
acts_on f s x xs = refl

next_assoc : {S : Type 0} (o : Out S) (f g : S → Out S) → next o (λ t. next (f t) g) ≡ next (next o f) g
next_assoc {S} o f g =
    let p = f o.state in
    let q = g p.state in
    ap (λ (z : List JournalEntry). let x : Out S = record { state = q.state; entries = z; calls = o.calls ++ (p.calls ++ q.calls); order = o.order ++ (p.order ++ q.order) } in x) (sym (append_assoc o.entries p.entries q.entries))
    ∙ ap (λ (z : List Call). let x : Out S = record { state = q.state; entries = (o.entries ++ p.entries) ++ q.entries; calls = z; order = o.order ++ (p.order ++ q.order) } in x) (sym (append_assoc o.calls p.calls q.calls))
    ∙ ap (λ (z : List LoopDeed). let x : Out S = record { state = q.state; entries = (o.entries ++ p.entries) ++ q.entries; calls = (o.calls ++ p.calls) ++ q.calls; order = z } in x) (sym (append_assoc o.order p.order q.order))

pub acts_then : {S A : Type 0} (f : S → A → Out S) (s : S) (xs ys : List A) → acts f s (xs ++ ys) ≡ next (acts f s xs) (λ t. acts f t ys)
unfolding acts
acts_then f s [] ys = refl
acts_then f s (x ∷ xs) ys =
    ap (λ z. next (f s x) (λ t. z)) (acts_then f (f s x).state xs ys)
    ∙ next_assoc (f s x) (λ t. acts f t xs) (λ t. acts f t ys)

exactly_none : {A : Type 0} (plain : A) (xs : List A) → exactly zero plain xs ≡ []
unfolding exactly
exactly_none plain xs = refl

exactly_one : {A : Type 0} (k : ℕ) (plain x : A) → exactly (suc k) plain (x ∷ []) ≡ x ∷ exactly k plain []
unfolding exactly
exactly_one k plain x = refl

pub exactly_more : {A : Type 0} (n k : ℕ) (plain : A) (xs ys : List A) → n ≡ length xs + k → exactly n plain (xs ++ ys) ≡ xs ++ exactly k plain ys
unfolding exactly
exactly_more n k plain [] ys p = ap (λ z. exactly z plain ys) (let q : n ≡ k = omega (arith, p) in q)
exactly_more zero k plain (x ∷ xs) ys p = absurd (let q : ⊥ = omega (arith, p) in q)
exactly_more (suc n) k plain (x ∷ xs) ys p = ap (λ z. x ∷ z) (exactly_more n k plain xs ys (let q : n ≡ length xs + k = omega (arith, p) in q))

-- as many as there are, and plain ones behind
pub exactly_filled : {A : Type 0} (n : ℕ) (plain : A) (xs : List A) → length xs ≤ n → exactly n plain xs ≡ xs ++ exactly (n - length xs) plain []
exactly_filled n plain xs p =
    ap (λ z. exactly n plain z) (sym (append-nil xs))
    ∙ exactly_more n (n - length xs) plain xs [] (let q : n ≡ length xs + (n - length xs) = omega (arith, p) in q)

pub exactly_next : {A : Type 0} (n : ℕ) (plain : A) (xs : List A) (x : A) → length xs < n → exactly n plain (xs ++ x ∷ []) ≡ xs ++ x ∷ exactly (n - (length xs + 1)) plain []
exactly_next n plain xs x p =
    exactly_more n (suc (n - (length xs + 1))) plain xs (x ∷ []) (let q : n ≡ length xs + suc (n - (length xs + 1)) = omega (arith, p) in q)
    ∙ ap (λ z. xs ++ z) (exactly_one (n - (length xs + 1)) plain x)
