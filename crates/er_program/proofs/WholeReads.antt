-- A read of one octet more than the most, which gave at most the most, gave all that there was.
use Rattle.std.proofs.Common.{◌≡◌, ℕ, ◌+◌, ◌≤◌, List, [], ◌++◌, Option, None, Some, IfSome, length, take, arith, ◌∙◌, ap}
use Rattle.std.specs.Option.{option_map}
use Rattle.std.proofs.lemmas.List.{length-take, take_all}

pub read_whole : (left : Option (List ℕ)) (most : ℕ) (front octets : List ℕ) → front ≡ []
    → IfSome (option_map (take (most + 1)) left) (λ xs. octets ≡ front ++ xs) → length octets ≤ most
    → IfSome left (λ xs. octets ≡ xs)
read_whole None most front octets none is short = tt
read_whole (Some xs) most front octets none was short =
    let is : octets ≡ take (most + 1) xs = was ∙ ap (λ ys. ys ++ take (most + 1) xs) none in
    is ∙ take_all (most + 1) xs (omega (arith, ap length is, length-take (most + 1) xs))
