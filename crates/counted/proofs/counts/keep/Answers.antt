-- A release that is kept is raised, and another gets a place while there are places.
use Rattle.std.proofs.Common.{◌≡◌, ◌<◌, ◌≤◌, List, ◌++◌, [], ◌∷◌, length, map, drop, true, false, nat_lt, ap, ◌∙◌, sym, arith}
use Rattle.std.specs.List.{refill}
use Rattle.std.proofs.lemmas.Bool.{lt-ltb, le-ltb}
use Rattle.std.proofs.lemmas.List.{take_at, length-map}
use Rattle.er_base.specs.declared.release.Release.{Release}
use Rattle.counted.specs.declared.release_count.ReleaseCount.{ReleaseCount}
use Rattle.counted.specs.Kept.{raised_by, is_kept, kept_with_release}
use Rattle.counted.proofs.counts.keep.Goals as goal

refilled : {X : Type 0} (f : X → X) (xs ws : List X) → ws ≡ map f xs → refill (length xs) xs ws ≡ map f xs
refilled f xs ws e = rw e (take_at (map f xs) (drop (length (map f xs)) xs) (length xs) (length-map xs f))

where_kept : (r : Release) (xs : List ReleaseCount) → is_kept r xs ≡ true → map (raised_by r) xs ≡ kept_with_release r xs
unfolding kept_with_release
where_kept r xs e = rw e

where_new : (r : Release) (xs : List ReleaseCount) → is_kept r xs ≡ false → nat_lt (length xs) 64 ≡ true
    → xs ++ record { release = r; count = 1 } ∷ [] ≡ kept_with_release r xs
unfolding kept_with_release
where_new r xs e f = rw (e, f)

where_full : (r : Release) (xs : List ReleaseCount) → is_kept r xs ≡ false → nat_lt (length xs) 64 ≡ false → xs ≡ kept_with_release r xs
unfolding kept_with_release
where_full r xs e f = rw (e, f)

pub returns-then-has : goal.returns-then-has
returns-then-has c =
    let lent = c.as_mut_slice.ensures.value in
    let raised : c.raise.new.kept ≡ map (raised_by c.args.release) c.args.kept.now.items = c.raise.ensures ∙ ap (map (raised_by c.args.release)) lent in
    refilled (raised_by c.args.release) c.args.kept.now.items c.raise.new.kept raised ∙
    where_kept c.args.release c.args.kept.now.items (sym (ap (is_kept c.args.release) c.as_slice.ensures.value) ∙ sym c.has.ensures ∙ c.if-has.true)

pub returns-then-len-lt-MOST_RELEASES : goal.returns-then-len-lt-MOST_RELEASES
returns-then-len-lt-MOST_RELEASES c =
    let room : length c.args.kept.now.items < 64 = omega arith in
    c.push.ensures.items ∙ where_new c.args.release c.args.kept.now.items
    (sym (ap (is_kept c.args.release) c.as_slice.ensures.value) ∙ sym c.has.ensures ∙ c.if-has.false) (lt-ltb (length c.args.kept.now.items) 64 room)

pub returns-else-len-lt-MOST_RELEASES : goal.returns-else-len-lt-MOST_RELEASES
returns-else-len-lt-MOST_RELEASES c =
    let full : 64 ≤ length c.args.kept.now.items = omega arith in
    where_full c.args.release c.args.kept.now.items
    (sym (ap (is_kept c.args.release) c.as_slice.ensures.value) ∙ sym c.has.ensures ∙ c.if-has.false) (le-ltb (length c.args.kept.now.items) 64 full)
