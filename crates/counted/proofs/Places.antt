-- The places of different releases: one each, which stays.
use Rattle.std.proofs.Common.{◌≡◌, ◌+◌, true, false, cond, min, List, [], ◌∷◌, ◌++◌, length, take, refl, ap, ◌∙◌, sym, arith, inl, inr, append_assoc}
use Rattle.std.proofs.lemmas.Bool.{cases_Bool}
use Rattle.std.proofs.lemmas.List.{append-nil, take_at}
use Rattle.std.proofs.lemmas.List.Sums.{sum_by-cons}
use Rattle.er_base.specs.declared.release.Release.{Release}
use Rattle.counted.specs.Counting.{is_same_release, times_released, different_releases}
use Rattle.counted.proofs.Table.{is_among, without, same_releases, different_of_new, different_of_known}

times_cons : (k r : Release) (rs : List Release) → times_released k (r ∷ rs) ≡ cond (is_same_release r k) 1 0 + times_released k rs
times_cons k r rs = sum_by-cons (λ q. cond (is_same_release q k) 1 0) r rs

times_yes : (k r : Release) (rs : List Release) → is_same_release r k ≡ true → times_released k (r ∷ rs) ≡ 1 + times_released k rs
times_yes k r rs h = times_cons k r rs ∙ ap (λ b. cond b 1 0 + times_released k rs) h

times_no : (k r : Release) (rs : List Release) → is_same_release r k ≡ false → times_released k (r ∷ rs) ≡ times_released k rs
times_no k r rs h =
    let one : times_released k (r ∷ rs) ≡ 0 + times_released k rs = times_cons k r rs ∙ ap (λ b. cond b 1 0 + times_released k rs) h in
    omega arith

-- none of these is left without them, and of others all are left
times_without_itself : (k x : Release) (rs : List Release) → is_same_release x k ≡ true → times_released k (without x rs) ≡ 0
times_without_itself k x [] h = refl
times_without_itself k x (r ∷ rs) h =
    let more = times_without_itself k x rs h in
    elim (cases_Bool (is_same_release r x)) [
      | inl same ↦ rw same more
      | inr left ↦
          let other : is_same_release r k ≡ false = rw (sym (same_releases x k h)) left in
          rw left (times_no k r (without x rs) other ∙ more)
    ]

times_without_other : (k x : Release) (rs : List Release) → is_same_release x k ≡ false → times_released k (without x rs) ≡ times_released k rs
times_without_other k x [] h = refl
times_without_other k x (r ∷ rs) h =
    let more = times_without_other k x rs h in
    elim (cases_Bool (is_same_release r x)) [
      | inl same ↦
          let other : is_same_release r k ≡ false = rw (same_releases r x same) h in
          rw same (more ∙ sym (times_no k r rs other))
      | inr left ↦ rw left (times_cons k r (without x rs) ∙ ap (λ n. cond (is_same_release r k) 1 0 + n) more ∙ sym (times_cons k r rs))
    ]

pub one_place : (k : Release) (rs : List Release) → times_released k (different_releases rs) ≡ min (times_released k rs) 1
unfolding different_releases
one_place k [] = refl
one_place k (r ∷ rs) =
    elim (cases_Bool (is_same_release r k)) [
      | inl same ↦
          let here : times_released k (r ∷ without r (different_releases rs)) ≡ 1 + times_released k (without r (different_releases rs)) =
          times_yes k r (without r (different_releases rs)) same in
          let none = times_without_itself k r (different_releases rs) same in
          let all = times_yes k r rs same in
          let one : times_released k (r ∷ without r (different_releases rs)) ≡ min (times_released k (r ∷ rs)) 1 = omega arith in
          one
      | inr other ↦
          times_no k r (without r (different_releases rs)) other ∙ times_without_other k r (different_releases rs) other ∙ one_place k rs ∙
          ap (λ n. min n 1) (sym (times_no k r rs other))
    ]

grown : (rs more : List Release) → (rest : List Release) × (different_releases (rs ++ more) ≡ different_releases rs ++ rest)
grown rs [] = ([], ap different_releases (append-nil rs) ∙ sym (append-nil (different_releases rs)))
grown rs (r ∷ more) =
    let next = grown (rs ++ r ∷ []) more in
    let whole : different_releases (rs ++ r ∷ more) ≡ different_releases (rs ++ r ∷ []) ++ next.0 =
    ap different_releases (sym (append_assoc rs (r ∷ []) more)) ∙ next.1 in
    elim (cases_Bool (is_among r rs)) [
      | inl known ↦ (next.0, whole ∙ ap (λ ds. ds ++ next.0) (different_of_known rs r known))
      | inr new ↦
          (r ∷ next.0, whole ∙ ap (λ ds. ds ++ next.0) (different_of_new rs r new) ∙ append_assoc (different_releases rs) (r ∷ []) next.0)
    ]

pub places_stay : (rs more : List Release) → different_releases rs ≡ take (length (different_releases rs)) (different_releases (rs ++ more))
places_stay rs more =
    let all = grown rs more in
    sym (ap (take (length (different_releases rs))) all.1 ∙ take_at (different_releases rs) all.0 (length (different_releases rs)) refl)
