-- The first octets are a beginning.
use Rattle.std.proofs.Common.{arith, ◌≡◌, ◌<◌, ◌≤◌, ℕ, List, length, take, sym}
use Rattle.std.proofs.lemmas.List.{length-take, length-take-le, take-take}
use Rattle.relay_carrier.proofs.carrier.at_most.Goals as goal

exact : (n : ℕ) (octets : List ℕ) → n < length octets → n ≡ length (take n octets)
exact n octets more = sym (length-take-le n octets (omega (arith, more)))

few : (n : ℕ) (octets : List ℕ) → length (take n octets) ≤ n
few n octets = omega (arith, length-take n octets)

within : (n : ℕ) (octets : List ℕ) → length (take n octets) ≤ length octets
within n octets = omega (arith, length-take n octets)

begins : (m : ℕ) (octets : List ℕ) (n : ℕ) → n ≤ length (take m octets) → take n (take m octets) ≡ take n octets
begins m octets n less = take-take n m octets (omega (arith, less, length-take m octets))

pub slice_bounds-result-end : goal.slice_bounds-result-end
slice_bounds-result-end c = exact 4096 c.args.octets.now c.if-octets-gt-MOST_OCTETS.true

pub returns-then-octets-gt-MOST_OCTETS-clause-few : goal.returns-then-octets-gt-MOST_OCTETS-clause-few
returns-then-octets-gt-MOST_OCTETS-clause-few c = few 4096 c.args.octets.now

pub returns-then-octets-gt-MOST_OCTETS-clause-within : goal.returns-then-octets-gt-MOST_OCTETS-clause-within
returns-then-octets-gt-MOST_OCTETS-clause-within c = within 4096 c.args.octets.now

pub returns-then-octets-gt-MOST_OCTETS-clause-begins : goal.returns-then-octets-gt-MOST_OCTETS-clause-begins
returns-then-octets-gt-MOST_OCTETS-clause-begins c = begins 4096 c.args.octets.now
