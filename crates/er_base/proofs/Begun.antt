-- What was added at the end alone.
use Rattle.std.proofs.Common.{◌≡◌, ℕ, List, [], ◌++◌, length, take, refl, sym, ap, ◌∙◌, append_assoc, append-nil}
use Rattle.std.proofs.lemmas.List.{take_at}
use Rattle.er_base.specs.Printing.{Begins}

pub begins_same : (front whole : List ℕ) → whole ≡ front → Begins front whole
begins_same front whole e = record { rest = []; is = e ∙ sym (append-nil front) }

pub begins_more : (front whole more new : List ℕ) → Begins front whole → new ≡ whole ++ more → Begins front new
begins_more front whole more new b e =
    record { rest = b.rest ++ more; is = e ∙ ap (λ (l : List ℕ). l ++ more) b.is ∙ append_assoc front b.rest more }

pub begins_on : (a b c : List ℕ) → Begins a b → Begins b c → Begins a c
begins_on a b c p q = begins_more a b q.rest c p q.is

pub begun : (front whole : List ℕ) → Begins front whole → take (length front) whole ≡ front
begun front whole b = ap (take (length front)) b.is ∙ take_at front b.rest (length front) refl
