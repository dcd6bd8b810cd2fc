-- The places of a ring, from its head on: what a look-up, a write and a head that goes on do to them.
use Rattle.std.proofs.Common.{◌≡◌, ◌≢◌, ℕ, ◌+◌, ◌-◌, ◌<◌, ◌≤◌, ◌⊎◌, List, [], ◌∷◌, ◌++◌, length, get_or, drop, take, set, ap, ◌∙◌, inl, inr, arith, length-append, length-drop, length-set, length-take-le, get_or-drop, get_or-take, refl, sym, lt-ltb, le-ltb}
use Rattle.std.proofs.lemmas.List.{same_lists, get_or_append_left, get_or-append_right, get_or-set_other}
use Rattle.std.proofs.lemmas.Bool.{cases_lt, cases_eq}
use Rattle.std.proofs.lemmas.Grind.{get_or-set_at, get_or_after_one}
use Rattle.hdlc_station.specs.Places.{NumberPlace}
use Rattle.hdlc_station.specs.PlaceRings.{spot, from_head}

pub spot_is : (n k i : ℕ) → ((i < n - k) × (spot n k i ≡ k + i)) ⊎ ((n - k ≤ i) × (spot n k i ≡ i - (n - k)))
spot_is n k i = elim (cases_lt i (n - k)) [
  | inl low ↦ inl (low, rw (lt-ltb i (n - k) low) refl)
  | inr high ↦ inr (high, rw (le-ltb i (n - k) high) refl)
]

pub spot_within : (n k i : ℕ) → k < n → i < n → spot n k i < n
spot_within n k i head within = elim (spot_is n k i) [
  | inl before ↦ omega (arith, before, head, within)
  | inr past ↦ omega (arith, past, head, within)
]

pub spot_first : (n k : ℕ) → k < n → spot n k 0 ≡ k
spot_first n k head = elim (spot_is n k 0) [
  | inl before ↦ omega (arith, before, head)
  | inr past ↦ absurd (omega (arith, past, head))
]

pub spots_differ : (n k i j : ℕ) → k < n → i < n → j < n → j ≢ i → spot n k j ≢ spot n k i
spots_differ n k i j head low_i low_j differ same = elim (spot_is n k i) [
  | inl before_i ↦ elim (spot_is n k j) [
    | inl before_j ↦ differ (omega (arith, before_i, before_j, same))
    | inr past_j ↦ absurd (omega (arith, before_i, past_j, same, head, low_j))
  ]
  | inr past_i ↦ elim (spot_is n k j) [
    | inl before_j ↦ absurd (omega (arith, past_i, before_j, same, head, low_i))
    | inr past_j ↦ differ (omega (arith, past_i, past_j, same))
  ]
]

-- the head goes on by one
pub spot_next : (n k j : ℕ) → k < n → j + 1 < n → spot n (spot n k 1) j ≡ spot n k (1 + j)
spot_next n k j head low = elim (spot_is n k 1) [
  | inl before ↦ elim (spot_is n (spot n k 1) j) [
    | inl a ↦ elim (spot_is n k (1 + j)) [
      | inl b ↦ omega (arith, before, a, b)
      | inr b ↦ absurd (omega (arith, before, a, b, head))
    ]
    | inr a ↦ elim (spot_is n k (1 + j)) [
      | inl b ↦ absurd (omega (arith, before, a, b, head))
      | inr b ↦ omega (arith, before, a, b, head)
    ]
  ]
  | inr past ↦ elim (spot_is n (spot n k 1) j) [
    | inl a ↦ elim (spot_is n k (1 + j)) [
      | inl b ↦ absurd (omega (arith, past, a, b, head))
      | inr b ↦ omega (arith, past, a, b, head)
    ]
    | inr a ↦ absurd (omega (arith, past, a, head, low))
  ]
]

pub spot_last : (n k j : ℕ) → k < n → j + 1 ≡ n → spot n (spot n k 1) j ≡ k
spot_last n k j head last = elim (spot_is n k 1) [
  | inl before ↦ elim (spot_is n (spot n k 1) j) [
    | inl a ↦ absurd (omega (arith, before, a, head, last))
    | inr a ↦ omega (arith, before, a, head, last)
  ]
  | inr past ↦ elim (spot_is n (spot n k 1) j) [
    | inl a ↦ omega (arith, past, a, head, last)
    | inr a ↦ absurd (omega (arith, past, a, head, last))
  ]
]

pub length-from_head : (k : ℕ) (xs : List NumberPlace) → k < length xs → length (from_head k xs) ≡ length xs
length-from_head k xs head =
    let tail = length-drop k xs in
    let front = length-take-le k xs (omega (arith, head)) in
    length-append (drop k xs) (take k xs) ∙ omega (arith, tail, front, head)

pub get_or-from_head : (k : ℕ) (xs : List NumberPlace) (i : ℕ) (d : NumberPlace) → k < length xs → i < length xs → get_or (from_head k xs) i d ≡ get_or xs (spot (length xs) k i) d
get_or-from_head k xs i d head within =
    let tail = length-drop k xs in
    elim (spot_is (length xs) k i) [
      | inl before ↦ get_or_append_left (drop k xs) (take k xs) d i (omega (arith, tail, before)) ∙ get_or-drop k xs i d ∙ ap (λ j. get_or xs j d) (sym before.1)
      | inr past ↦ get_or-append_right (drop k xs) (take k xs) (length xs - k) i d tail past.0 ∙ get_or-take k xs (i - (length xs - k)) d (omega (arith, head, within, past)) ∙ ap (λ j. get_or xs j d) (sym past.1)
    ]

pub set_from_head : (k : ℕ) (xs : List NumberPlace) (i : ℕ) (x : NumberPlace) → k < length xs → i < length xs
    → from_head k (set xs (spot (length xs) k i) x) ≡ set (from_head k xs) i x
set_from_head k xs i x head within =
    let at = spot (length xs) k i in
    let ys = set xs at x in
    let length_ys : length ys ≡ length xs = length-set xs at x in
    let head_ys : k < length ys = omega (arith, head, length_ys) in
    let length_old = length-from_head k xs head in
    let length_new = length-from_head k ys head_ys in
    same_lists (from_head k ys) (set (from_head k xs) i x) (length_new ∙ length_ys ∙ sym length_old ∙ sym (length-set (from_head k xs) i x)) (λ j d in_range.
    let low : j < length xs = omega (arith, in_range, length_new, length_ys) in
    get_or-from_head k ys j d head_ys (omega (arith, low, length_ys))
    ∙ ap (λ n. get_or ys (spot n k j) d) length_ys
    ∙ elim (cases_eq j i) [
      | inl same ↦ get_or-set_at xs at (spot (length xs) k j) x d (ap (λ m. spot (length xs) k m) same) (spot_within (length xs) k i head within)
          ∙ sym (get_or-set_at (from_head k xs) i j x d same (omega (arith, within, length_old)))
      | inr other ↦ get_or-set_other xs at (spot (length xs) k j) x d (spots_differ (length xs) k i j head within low other)
          ∙ sym (get_or-from_head k xs j d head low)
          ∙ sym (get_or-set_other (from_head k xs) i j x d other)
    ])

pub gone_on : (k : ℕ) (xs : List NumberPlace) (y : NumberPlace) → k < length xs
    → from_head (spot (length xs) k 1) (set xs k y) ≡ drop 1 (from_head k xs) ++ y ∷ []
gone_on k xs y head =
    let ys = set xs k y in
    let n = length xs in
    let k' = spot n k 1 in
    let length_ys : length ys ≡ n = length-set xs k y in
    let next : k' < n = elim (spot_is n k 1) [
      | inl before ↦ omega (arith, before)
      | inr past ↦ omega (arith, past, head)
    ] in
    let next_ys : k' < length ys = omega (arith, next, length_ys) in
    let length_old = length-from_head k xs head in
    let length_new = length-from_head k' ys next_ys in
    let length_rest : length (drop 1 (from_head k xs)) ≡ n - 1 = length-drop 1 (from_head k xs) ∙ ap (λ m. m - 1) length_old in
    let length_both = length-append (drop 1 (from_head k xs)) (y ∷ []) in
    same_lists (from_head k' ys) (drop 1 (from_head k xs) ++ y ∷ []) (omega (arith, length_new, length_ys, length_both, length_rest, head)) (λ j d in_range.
    let low : j < n = omega (arith, in_range, length_new, length_ys) in
    get_or-from_head k' ys j d next_ys (omega (arith, low, length_ys))
    ∙ ap (λ m. get_or ys (spot m k' j) d) length_ys
    ∙ elim (cases_lt (j + 1) n) [
      | inl before ↦
          let within : 1 + j < n = omega (arith, before) in
          let at = spot_next n k j head before in
          let first = spot_first n k head in
          let differ : spot n k' j ≢ k = λ e. spots_differ n k 0 (1 + j) head (omega (arith, low)) within (λ z. omega (arith, z)) (sym at ∙ e ∙ sym first) in
          get_or-set_other xs k (spot n k' j) y d differ
          ∙ ap (λ m. get_or xs m d) at
          ∙ sym (get_or-from_head k xs (1 + j) d head within)
          ∙ sym (get_or_after_one (from_head k xs) j d)
          ∙ sym (get_or_append_left (drop 1 (from_head k xs)) (y ∷ []) d j (omega (arith, length_rest, before)))
      | inr behind ↦
          let last : j + 1 ≡ n = omega (arith, behind, low) in
          let zero_left : j - (n - 1) ≡ 0 = omega (arith, last) in
          get_or-set_at xs k (spot n k' j) y d (spot_last n k j head last) head
          ∙ sym (get_or-append_right (drop 1 (from_head k xs)) (y ∷ []) (n - 1) j d length_rest (omega (arith, last)) ∙ ap (λ m. get_or (y ∷ []) m d) zero_left)
    ])
