-- The counts of releases by their reasons, with one release more.
use Rattle.std.proofs.Common.{◌≡◌, ℕ, zero, suc, ◌+◌, ◌<◌, ◌≤◌, ◌==◌, Bool, true, false, not, ◌&&◌, ◌||◌, cond, min, List, [], ◌∷◌, ◌++◌, length, map, take}
use Rattle.std.proofs.Common.{refl, ap, ◌∙◌, sym, arith, inl, inr, nat_lt, if◌then◌else◌}
use Rattle.std.specs.List.{list_any, filter}
use Rattle.std.proofs.lemmas.Bool.{cases_Bool, and_parts, and_from, or_cases, eqb-true, eq-eqb, or_parts, or_left, or_right, both_ways, ltb-true, ltb-false}
use Rattle.std.proofs.lemmas.List.Elements.{filter-append}
use Rattle.std.proofs.lemmas.List.{append-nil, take_all, map-append, length-map, length-take, length-append, take-append-le}
use Rattle.std.proofs.lemmas.List.Sums.{sum_by_push, sum_by-cons}
use Rattle.er_base.specs.declared.release.Release.{Release}
use Rattle.counted.specs.declared.release_count.ReleaseCount.{ReleaseCount}
use Rattle.counted.specs.Counting.{is_same_releaser, is_same_release, times_released, different_releases, shown_count, count_of_release, counts_of_releases}
use Rattle.counted.specs.Kept.{raised_by, is_kept, kept_with_release}

-- ---- sameness

same_sides : (a b : Bool) → is_same_releaser a b ≡ true → a ≡ b
same_sides true true h = refl
same_sides true false h = cc
same_sides false true h = cc
same_sides false false h = refl

same_side_self : (a : Bool) → is_same_releaser a a ≡ true
same_side_self true = refl
same_side_self false = refl

abbrev release_of : ℕ → ℕ → Bool → Release
release_of reason sub by_peer = record { reason = reason; sub = sub; by_peer = by_peer }

fields_same : (r s t u : ℕ) (p q : Bool) → r ≡ t → s ≡ u → p ≡ q
    → release_of r s p ≡ release_of t u q
fields_same r s t u p q e f g = cc

pub same_releases : (a b : Release) → is_same_release a b ≡ true → a ≡ b
same_releases a b h =
    let p = and_parts (a.reason == b.reason && a.sub == b.sub) (is_same_releaser a.by_peer b.by_peer) h in
    let q = and_parts (a.reason == b.reason) (a.sub == b.sub) p.0 in
    fields_same a.reason a.sub b.reason b.sub a.by_peer b.by_peer (eqb-true a.reason b.reason q.0) (eqb-true a.sub b.sub q.1)
    (same_sides a.by_peer b.by_peer p.1)

same_self : (a : Release) → is_same_release a a ≡ true
same_self a =
    and_from (a.reason == a.reason && a.sub == a.sub) (is_same_releaser a.by_peer a.by_peer)
    (and_from (a.reason == a.reason) (a.sub == a.sub) (eq-eqb a.reason a.reason refl) (eq-eqb a.sub a.sub refl)) (same_side_self a.by_peer)

pub same_turned : (a b : Release) → is_same_release a b ≡ true → is_same_release b a ≡ true
same_turned a b h = rw (same_releases a b h) (same_self b)

pub other_turned : (a b : Release) → is_same_release a b ≡ false → is_same_release b a ≡ false
other_turned a b h =
    elim (cases_Bool (is_same_release b a)) [ inl same ↦ absurd (both_ways (is_same_release a b) h (same_turned b a same)) | inr other ↦ other ]

-- ---- membership

abbrev pub is_among : Release → List Release → Bool
is_among r rs = list_any (λ q. is_same_release q r) rs

abbrev pub without : Release → List Release → List Release
without x rs = filter (λ q. not (is_same_release q x)) rs

among_without : (r x : Release) (ys : List Release) → is_same_release r x ≡ false → is_among r (without x ys) ≡ is_among r ys
among_without r x [] h = refl
among_without r x (y ∷ ys) h =
    let more = among_without r x ys h in
    elim (cases_Bool (is_same_release y x)) [
      | inl same ↦
          let other : is_same_release y r ≡ false = rw (same_releases y x same) (other_turned r x h) in
          rw (same, other) more
      | inr left ↦ rw left (ap (λ b. is_same_release y r || b) more)
    ]

among_different : (r : Release) (rs : List Release) → is_among r (different_releases rs) ≡ is_among r rs
unfolding different_releases
among_different r [] = refl
among_different r (x ∷ xs) =
    elim (cases_Bool (is_same_release x r)) [
      | inl same ↦ rw same refl
      | inr other ↦
          let more = among_without r x (different_releases xs) (other_turned x r other) ∙ among_different r xs in
          ap (λ b. is_same_release x r || b) more
    ]

without_one_more : (x r : Release) (rs : List Release) → is_same_release r x ≡ false → without x (rs ++ r ∷ []) ≡ without x rs ++ r ∷ []
without_one_more x r rs h = rw (filter-append, h) refl

without_itself : (x r : Release) (rs : List Release) → is_same_release r x ≡ true → without x (rs ++ r ∷ []) ≡ without x rs ++ []
without_itself x r rs h = rw (filter-append, h) refl

-- a release that came before gives no new place, another gives one at the end
pub different_of_new : (rs : List Release) (r : Release) → is_among r rs ≡ false → different_releases (rs ++ r ∷ []) ≡ different_releases rs ++ r ∷ []
unfolding different_releases
different_of_new [] r h = refl
different_of_new (x ∷ xs) r h =
    let both = or_parts (is_same_release x r) (is_among r xs) h in
    ap (λ rs. x ∷ rs) (ap (without x) (different_of_new xs r both.1) ∙ without_one_more x r (different_releases xs) (other_turned x r both.0))

pub different_of_known : (rs : List Release) (r : Release) → is_among r rs ≡ true → different_releases (rs ++ r ∷ []) ≡ different_releases rs
unfolding different_releases
different_of_known [] r h = cc
different_of_known (x ∷ xs) r h =
    elim (cases_Bool (is_among r xs)) [
      | inl before ↦ ap (λ rs. x ∷ without x rs) (different_of_known xs r before)
      | inr new ↦
          let same : is_same_release x r ≡ true =
          elim (or_cases (is_same_release x r) (is_among r xs) h) [ inl s ↦ s | inr among ↦ absurd (both_ways (is_among r xs) new among) ] in
          ap (λ rs. x ∷ rs) (ap (without x) (different_of_new xs r new) ∙ without_itself x r (different_releases xs) (same_turned x r same) ∙ append-nil _)
    ]

-- ---- how often a release came

times_more : (k : Release) (rs : List Release) (r : Release) → times_released k (rs ++ r ∷ []) ≡ times_released k rs + cond (is_same_release r k) 1 0
times_more k rs r = sum_by_push (λ q. cond (is_same_release q k) 1 0) rs r

times_of_new : (r : Release) (rs : List Release) → is_among r rs ≡ false → times_released r rs ≡ 0
times_of_new r [] h = refl
times_of_new r (x ∷ xs) h =
    let both = or_parts (is_same_release x r) (is_among r xs) h in
    sum_by-cons (λ q. cond (is_same_release q r) 1 0) x xs ∙ rw (both.0, times_of_new r xs both.1) refl

-- ---- the counts of the places

shown_more : (n : ℕ) → shown_count (shown_count n + 1) ≡ shown_count (n + 1)
shown_more n = omega arith

abbrev counting : Release → ℕ → ReleaseCount
counting release count = record { release = release; count = count }

kept_count : (r : Release) (rs : List Release) (k : Release) → is_same_release k r ≡ false → count_of_release rs k ≡ count_of_release (rs ++ r ∷ []) k
kept_count r rs k other =
    let more : times_released k (rs ++ r ∷ []) ≡ times_released k rs =
    times_more k rs r ∙ rw (other_turned k r other) (omega arith) in
    ap (λ n. counting k (shown_count n)) (sym more)

raised_count : (r : Release) (rs : List Release) (k : Release) → raised_by r (count_of_release rs k) ≡ count_of_release (rs ++ r ∷ []) k
raised_count r rs k =
    elim (cases_Bool (is_same_release k r)) [
      | inl same ↦
          let more : times_released k (rs ++ r ∷ []) ≡ times_released k rs + 1 = times_more k rs r ∙ rw (same_turned k r same) refl in
          rw same (ap (counting k) (shown_more (times_released k rs) ∙ ap shown_count (sym more)))
      | inr other ↦ rw other (kept_count r rs k other)
    ]

-- ---- the places

raised_counts : (r : Release) (rs ks : List Release) → map (raised_by r) (map (count_of_release rs) ks) ≡ map (count_of_release (rs ++ r ∷ [])) ks
raised_counts r rs [] = refl
raised_counts r rs (k ∷ ks) =
    ap (λ c. c ∷ map (raised_by r) (map (count_of_release rs) ks)) (raised_count r rs k) ∙
    ap (λ cs. count_of_release (rs ++ r ∷ []) k ∷ cs) (raised_counts r rs ks)

kept_counts : (r : Release) (rs ks : List Release) → is_among r ks ≡ false → map (count_of_release rs) ks ≡ map (count_of_release (rs ++ r ∷ [])) ks
kept_counts r rs [] h = refl
kept_counts r rs (k ∷ ks) h =
    let both = or_parts (is_same_release k r) (is_among r ks) h in
    ap (λ c. c ∷ map (count_of_release rs) ks) (kept_count r rs k both.0) ∙
    ap (λ cs. count_of_release (rs ++ r ∷ []) k ∷ cs) (kept_counts r rs ks both.1)

kept_is_among : (r : Release) (rs ks : List Release) → is_kept r (map (count_of_release rs) ks) ≡ is_among r ks
kept_is_among r rs [] = refl
kept_is_among r rs (k ∷ ks) = ap (λ b. is_same_release k r || b) (kept_is_among r rs ks)

among_first : (r : Release) (n : ℕ) (rs : List Release) → is_among r (take n rs) ≡ true → is_among r rs ≡ true
among_first r zero rs h = cc
among_first r (suc n) [] h = h
among_first r (suc n) (x ∷ xs) h =
    elim (or_cases (is_same_release x r) (is_among r (take n xs)) h) [
      | inl same ↦ or_left (is_same_release x r) (is_among r xs) same
      | inr more ↦ or_right (is_same_release x r) (is_among r xs) (among_first r n xs more)
    ]

-- ---- with one release more

with_known : (r : Release) (rs : List Release) → is_among r (take 64 (different_releases rs)) ≡ true
    → map (raised_by r) (counts_of_releases rs) ≡ counts_of_releases (rs ++ r ∷ [])
with_known r rs h =
    let known = sym (among_different r rs) ∙ among_first r 64 (different_releases rs) h in
    raised_counts r rs (take 64 (different_releases rs)) ∙
    ap (λ ks. map (count_of_release (rs ++ r ∷ [])) (take 64 ks)) (sym (different_of_known rs r known))

with_first : (r : Release) (rs : List Release) → length (different_releases rs) < 64 → is_among r (different_releases rs) ≡ false
    → counts_of_releases rs ++ record { release = r; count = 1 } ∷ [] ≡ counts_of_releases (rs ++ r ∷ [])
with_first r rs room h =
    let ds = different_releases rs in
    let new : is_among r rs ≡ false = sym (among_different r rs) ∙ h in
    let all : take 64 ds ≡ ds = take_all 64 ds (omega arith) in
    let longer : length (ds ++ r ∷ []) ≤ 64 = omega (arith, length-append ds (r ∷ [])) in
    let places : take 64 (different_releases (rs ++ r ∷ [])) ≡ ds ++ r ∷ [] = ap (take 64) (different_of_new rs r new) ∙ take_all 64 (ds ++ r ∷ []) longer in
    let once : times_released r (rs ++ r ∷ []) ≡ 1 = times_more r rs r ∙ rw (times_of_new r rs new, same_self r) refl in
    ap (λ ks. map (count_of_release rs) ks ++ counting r 1 ∷ []) all ∙
    ap (λ cs. cs ++ counting r 1 ∷ []) (kept_counts r rs ds h) ∙
    ap (λ n. map (count_of_release (rs ++ r ∷ [])) ds ++ counting r (shown_count n) ∷ []) (sym once) ∙
    sym (map-append (count_of_release (rs ++ r ∷ [])) ds (r ∷ [])) ∙
    ap (map (count_of_release (rs ++ r ∷ []))) (sym places)

same_places : (r : Release) (rs : List Release) → 64 ≤ length (different_releases rs)
    → take 64 (different_releases rs) ≡ take 64 (different_releases (rs ++ r ∷ []))
same_places r rs full =
    elim (cases_Bool (is_among r rs)) [
      | inl known ↦ ap (take 64) (sym (different_of_known rs r known))
      | inr new ↦
          sym (take-append-le 64 (different_releases rs) (r ∷ []) full) ∙ ap (take 64) (sym (different_of_new rs r new))
    ]

with_none : (r : Release) (rs : List Release) → 64 ≤ length (different_releases rs) → is_among r (take 64 (different_releases rs)) ≡ false
    → counts_of_releases rs ≡ counts_of_releases (rs ++ r ∷ [])
with_none r rs full h =
    kept_counts r rs (take 64 (different_releases rs)) h ∙ ap (map (count_of_release (rs ++ r ∷ []))) (same_places r rs full)

places_taken : (rs : List Release) → length (counts_of_releases rs) ≡ min 64 (length (different_releases rs))
places_taken rs = length-map (take 64 (different_releases rs)) (count_of_release rs) ∙ length-take 64 (different_releases rs)

with_other : (r : Release) (rs : List Release) → is_among r (take 64 (different_releases rs)) ≡ false
    → (if nat_lt (length (counts_of_releases rs)) 64 then counts_of_releases rs ++ record { release = r; count = 1 } ∷ [] else counts_of_releases rs)
    ≡ counts_of_releases (rs ++ r ∷ [])
with_other r rs h =
    elim (cases_Bool (nat_lt (length (counts_of_releases rs)) 64)) [
      | inl free ↦
          let few : length (different_releases rs) < 64 = omega (arith, places_taken rs, ltb-true (length (counts_of_releases rs)) 64 free) in
          let all : take 64 (different_releases rs) ≡ different_releases rs = take_all 64 (different_releases rs) (omega arith) in
          rw free (with_first r rs few (sym (ap (is_among r) all) ∙ h))
      | inr full ↦
          let many : 64 ≤ length (different_releases rs) = omega (arith, places_taken rs, ltb-false (length (counts_of_releases rs)) 64 full) in
          rw full (with_none r rs many h)
    ]

pub table_with : (r : Release) (rs : List Release) → kept_with_release r (counts_of_releases rs) ≡ counts_of_releases (rs ++ r ∷ [])
unfolding kept_with_release
table_with r rs =
    let kept = kept_is_among r rs (take 64 (different_releases rs)) in
    elim (cases_Bool (is_among r (take 64 (different_releases rs)))) [
      | inl known ↦ rw (kept, known) (with_known r rs known)
      | inr new ↦ rw (kept, new) (with_other r rs new)
    ]
