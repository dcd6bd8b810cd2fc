-- What is said of a result by its two cases.
use Rattle.std.proofs.Common.{Result, Ok, Err, OnOk, IfErr}
use Rattle.std.specs.Result.{MatchResult}

pub match_ends : {T E A B C : Type 0} (r : Result T E) → OnOk r A → (A → B) → C → MatchResult r (λ _. B) (λ _. C)
match_ends (Ok value) a f c = f a
match_ends (Err fault) a f c = c

pub if_err_of : {T E : Type 0} (r : Result T E) (P : E → Type 0) → ((fault : E) → P fault) → IfErr r P
if_err_of (Ok value) P p = tt
if_err_of (Err fault) P p = p fault

pub both_ok : {T E A B C : Type 0} (r : Result T E) → (A → B → C) → OnOk r A → OnOk r B → OnOk r C
both_ok (Ok value) f a b = f a b
both_ok (Err fault) f a b = tt
