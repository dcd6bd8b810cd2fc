-- One count more is raised.
use Rattle.std.proofs.Common.{◌≡◌, ℕ, ◌+◌, ◌<◌, List, ◌++◌, length, map, take, drop, set, get_or, ap, ◌∙◌}
use Rattle.std.proofs.lemmas.List.{get_or_default}
use Rattle.std.proofs.lemmas.List.Edits.{map_over_more}
use Rattle.counted.specs.Kept.{raised_by}
use Rattle.counted.proofs.release_count.raise.Goals as goal

one_more : {X : Type 0} (f : X → X) (xs ys : List X) (i : ℕ) (d r : X) → i < length xs → length ys ≡ length xs
    → ys ≡ map f (take i xs) ++ drop i xs → r ≡ f (get_or ys i d) → set ys i r ≡ map f (take (i + 1) xs) ++ drop (i + 1) xs
one_more f xs ys i d r h n e is =
    let here : i < length ys = rw n h in
    ap (set ys i) is ∙ map_over_more f xs ys i (get_or ys i d) h e (get_or_default ys i d (get_or ys i d) here)

pub loop-known-preserved : goal.loop-known-preserved
loop-known-preserved c =
    one_more (raised_by c.args.release) c.args.kept.now c.loop-known.kept c.loop-known.known-index _ _ c.loop-known-test.true
    c.loop-known.auto.kept c.loop-known.invariant c.raised.ensures
