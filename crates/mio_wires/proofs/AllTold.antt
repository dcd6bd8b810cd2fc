-- Nobody in the queue is passed over.
use Rattle.std.proofs.Common.{◌≡◌, ℕ, ◌+◌, ◌≤◌, Bool, false, not, List, [], ◌∷◌, ◌++◌, length, refl, arith, append_assoc}
use Rattle.std.specs.List.{Contains, filter}
use Rattle.std.proofs.lemmas.List.Elements.{Contains-append_left, Contains-append_right, Contains-push, filter-append}
use Rattle.std.proofs.lemmas.List.Filters.{length-filter_both}
use Rattle.mio_wires.specs.declared.queue.Seen.{Seen}
use Rattle.mio_wires.specs.Queueing.{Act, Adds, Takes, Forgets, IsRemembered, is_seen_at, count_takes, told_at_acts}

abbrev stays_at : ℕ → Seen → Bool
stays_at number what = not (is_seen_at number what)

fewer : (number : ℕ) (queue : List Seen) → length (filter (stays_at number) queue) ≤ length queue
fewer number queue = let both = length-filter_both (stays_at number) (λ what. not (stays_at number what)) (λ _. refl) queue in omega (arith, both)

pub all_told : (acts : List Act) (before : List Seen) (what : Seen) (rest : List Seen)
    → IsRemembered what acts → length before + 1 ≤ count_takes acts
    → Contains (told_at_acts acts (before ++ what ∷ rest)) what
unfolding told_at_acts count_takes IsRemembered
all_told [] before what rest kept enough = absurd (omega (arith, enough))
all_told (Adds other ∷ acts) before what rest kept enough =
    rw (append_assoc before (what ∷ rest) (other ∷ [])) (all_told acts before what (rest ++ other ∷ []) kept enough)
all_told (Takes ∷ acts) [] what rest kept enough = Contains-append_left (what ∷ []) (told_at_acts acts rest) what (Contains-push [] what)
all_told (Takes ∷ acts) (first ∷ before) what rest kept enough =
    Contains-append_right (first ∷ []) (told_at_acts acts (before ++ what ∷ rest)) what (all_told acts before what rest kept (omega (arith, enough)))
all_told (Forgets number ∷ acts) before what rest kept enough =
    rw (filter-append (stays_at number) before (what ∷ rest), kept.0)
    (all_told acts (filter (stays_at number) before) what (filter (stays_at number) rest) kept.1 (omega (arith, fewer number before, enough)))
