-- A buffer of 1,033 octets and a count of those that are kept.
use Rattle.std.proofs.Common.{◌≡◌, ℕ, ◌+◌, ◌-◌, ◌<◌, ◌≤◌, List, [], ◌∷◌, ◌++◌, length, take, sym, ◌∙◌, ap, arith, append_assoc, length-append, inl, inr, min}
use Rattle.std.specs.Prelude.{slice_set}
use Rattle.std.proofs.lemmas.List.{take_all, take_at, take-append-le, length-take-le, take_more_set}
use Rattle.std.proofs.Math.Seq.{take-append-add}
use Rattle.std.proofs.lemmas.Bool.{cases_lt}
use Rattle.hdlc_frames.specs.Scanning.{kept_content}

pub keep_more : (xs : List ℕ) (n y : ℕ) → n < 1033 → n < length xs → take (n + 1) (slice_set xs n y) ≡ kept_content (take n xs) y
keep_more xs n y small inside =
    let size : length (take n xs) ≡ n = length-take-le n xs (omega arith) in
    take_more_set xs n y inside ∙ sym (take_all 1033 (take n xs ++ y ∷ []) (omega (arith, length-append (take n xs) (y ∷ []))))

pub keep_full : (xs : List ℕ) (n y : ℕ) → n ≡ 1033 → length xs ≡ 1033 → take n xs ≡ kept_content (take n xs) y
keep_full xs n y full size =
    let kept : length (take n xs) ≡ n = length-take-le n xs (omega arith) in
    sym (take-append-le 1033 (take n xs) (y ∷ []) (omega arith) ∙ take_all 1033 (take n xs) (omega arith))

-- octets behind those that are kept, as many as there is place for
pub keep_run : (xs new post run : List ℕ) (len n : ℕ) → len ≤ 1033 → length xs ≡ 1033 → n ≡ min (length run) (1033 - len) → new ≡ take n run
    → take (len + n) (take len xs ++ (new ++ post)) ≡ take 1033 (take len xs ++ run)
keep_run xs new post run len n small full count e =
    let c : List ℕ = take len xs in
    let size : length c ≡ len = length-take-le len xs (omega arith) in
    let fits : length new ≡ n = ap length e ∙ length-take-le n run (omega (arith, count)) in
    let front : take (len + n) (c ++ (new ++ post)) ≡ c ++ new =
    ap (λ ys. take (len + n) ys) (sym (append_assoc c new post)) ∙ take_at (c ++ new) post (len + n) (omega (arith, length-append c new)) in
    elim (cases_lt (length run) (1033 - len)) [
      | inl short ↦
          let whole : new ≡ run = e ∙ take_all n run (omega (arith, count)) in
          front ∙ ap (λ ys. c ++ ys) whole ∙ sym (take_all 1033 (c ++ run) (omega (arith, length-append c run)))
      | inr long ↦
          let places : 1033 ≡ length c + n = omega (arith, count) in
          front ∙ ap (λ ys. c ++ ys) e ∙ sym (ap (λ m. take m (c ++ run)) places ∙ take-append-add c run n)
    ]
