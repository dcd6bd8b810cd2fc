-- At the places so far, neither of the two is above.
use Rattle.std.proofs.Common.{◌≡◌, ◌≤◌, ◌<◌, ℕ, length, get_or}
use Rattle.er_tap.proofs.digits.greatest_of.Given as goal

abbrev pub invariant-values : goal.invariant-values
invariant-values l = record {
  one : (k : ℕ) → k < l.place → get_or l.one k 0 ≤ get_or l.greatest k 0;
  other : (k : ℕ) → k < l.place → get_or l.other k 0 ≤ get_or l.greatest k 0;
  long : length l.greatest ≡ 32;
}
