-- Connections that leave, each no earlier than the one before it.
use Rattle.std.proofs.Common.{◌≡◌, ℕ, ◌+◌, ◌<◌, ◌≤◌, Bool, true, false, cond, List, [], ◌∷◌, ◌++◌, drop, length, refl, ap, subst, arith}
use Rattle.std.specs.Prelude.{slice_index_or}
use Rattle.std.specs.List.{filter}
use Rattle.std.proofs.lemmas.Bool.{lt-ltb, le-ltb}
use Rattle.mio_wires.specs.declared.leaving.Leaving.{Leaving}
use Rattle.mio_wires.specs.Leaving.{RisesBetween, staying}

pub weaker : (low from to : ℕ) (waits : List Leaving) → low ≤ from → RisesBetween from to waits → RisesBetween low to waits
weaker low from to [] l r = omega (arith, l, r)
weaker low from to (first ∷ rest) l r = (omega (arith, l, r.0), r.1)

pub pushed : (from to slot until : ℕ) (waits : List Leaving) → to ≤ until → RisesBetween from to waits
    → RisesBetween from until (waits ++ record { slot = slot; until = until } ∷ [])
pushed from to slot until [] l r = (omega (arith, l, r), omega arith)
pushed from to slot until (first ∷ rest) l r = (r.0, pushed first.until to slot until rest l r.1)

pub dropped : (to : ℕ) (waits : List Leaving) → RisesBetween 0 to waits → RisesBetween 0 to (drop 1 waits)
dropped to [] r = r
dropped to (first ∷ rest) r = weaker 0 first.until to rest (omega arith) r.1

pub filtered : (test : Leaving → Bool) (from to : ℕ) (waits : List Leaving) → RisesBetween from to waits → RisesBetween from to (filter test waits)
filtered test from to [] r = r
filtered test from to (first ∷ rest) r = by (test first) (filtered test first.until to rest r.1)
  where
    by : (b : Bool) → RisesBetween first.until to (filter test rest) → RisesBetween from to (cond b (first ∷ filter test rest) (filter test rest))
    by true more = (r.0, more)
    by false more = weaker from first.until to (filter test rest) r.0 more

-- where the earliest hasn't come, none has
none_due : (now from to : ℕ) (waits : List Leaving) → now < from → RisesBetween from to waits → staying now waits ≡ waits
none_due now from to [] l r = refl
none_due now from to (first ∷ rest) l r =
    let later : now < first.until = omega (arith, l, r.0) in
    rw (lt-ltb now first.until later) (ap (λ more. first ∷ more) (none_due now first.until to rest later r.1))

-- where the first stays, all do
pub all_stay : (now to : ℕ) (waits : List Leaving) (first : Leaving) → RisesBetween 0 to waits → 0 < length waits → first ≡ slice_index_or waits 0 first
    → now < first.until → staying now waits ≡ waits
all_stay now to [] first r some is later = absurd (omega (arith, some))
all_stay now to (one ∷ rest) first r some is later =
    let l : now < one.until = subst (λ which. now < which.until) is later in
    rw (lt-ltb now one.until l) (ap (λ more. one ∷ more) (none_due now one.until to rest l r.1))
