-- The messages of a ring: what a push, a look-up and letting one go do to them.
use Rattle.std.proofs.Common.{◌≡◌, ◌≢◌, ℕ, ◌+◌, ◌-◌, ◌<◌, ◌≤◌, ◌⊎◌, List, [], ◌∷◌, ◌++◌, length, get_or, drop, set, ap, ◌∙◌, inl, inr, arith, length-append, length-drop, length-set, length-take-le, get_or-drop, get_or-take, refl, sym, lt-ltb, le-ltb}
use Rattle.std.proofs.lemmas.List.{same_lists, get_or_append_left, get_or-append_right, get_or-set_other}
use Rattle.std.proofs.lemmas.Bool.{cases_lt}
use Rattle.std.proofs.lemmas.Grind.{get_or-set_at}
use Rattle.message_queue.specs.Kept.{slot_behind_head, window, IsReached}

pub place_is : (n k i : ℕ) → ((i < n - k) × (slot_behind_head n k i ≡ k + i)) ⊎ ((n - k ≤ i) × (slot_behind_head n k i ≡ i - (n - k)))
place_is n k i = elim (cases_lt i (n - k)) [
  | inl low ↦ inl (low, rw (lt-ltb i (n - k) low) refl)
  | inr high ↦ inr (high, rw (le-ltb i (n - k) high) refl)
]

module _ (n k c : ℕ) (xs : List (List ℕ)) (head : k ≤ n) (count : c ≤ n) (made : length xs ≤ n) (reached : IsReached k c (length xs) n) where
  -- all slots were made, or none of the messages is before the head
  pub all_or_ahead : (length xs ≡ n) ⊎ (k + c ≤ length xs)
  all_or_ahead = elim (cases_lt (length xs) n) [
    | inl fewer ↦ inr (reached fewer)
    | inr all ↦ inl (omega (arith, made))
  ]

  pub length-window : length (window k c xs) ≡ c
  length-window = elim all_or_ahead [
    | inl all ↦ length-take-le c _ (simp (length-append, length-drop) (omega (arith, length-take-le k xs (omega arith))))
    | inr ahead ↦ length-take-le c _ (simp (length-append, length-drop) (omega arith))
  ]

  -- message i is in the slot at its place, before the end of the ring or past it
  pub get_or-window : (i : ℕ) (d : List ℕ) → i < c → get_or (window k c xs) i d ≡ get_or xs (slot_behind_head n k i) d
  get_or-window i d within =
      let length_tail = length-drop k xs in
      get_or-take c _ i d within ∙ elim (place_is n k i) [
        | inl before ↦ elim all_or_ahead [
          | inl all ↦ get_or_append_left _ _ d i (omega arith) ∙ get_or-drop k xs i d ∙ ap (λ j. get_or xs j d) (omega arith)
          | inr ahead ↦ get_or_append_left _ _ d i (omega arith) ∙ get_or-drop k xs i d ∙ ap (λ j. get_or xs j d) (omega arith)
        ]
        | inr past ↦ elim all_or_ahead [
          | inl all ↦ get_or-append_right _ _ (n - k) i d (omega arith) (omega arith) ∙ get_or-take k xs _ d (omega arith) ∙ ap (λ j. get_or xs j d) (omega arith)
          | inr ahead ↦ absurd (omega arith)
        ]
      ]

  -- the slot of a message was made
  pub place_within : (i : ℕ) → i < c → slot_behind_head n k i < length xs
  place_within i within = elim (place_is n k i) [
    | inl before ↦ elim all_or_ahead [
      | inl all ↦ omega arith
      | inr ahead ↦ omega arith
    ]
    | inr past ↦ elim all_or_ahead [
      | inl all ↦ omega arith
      | inr ahead ↦ absurd (omega arith)
    ]
  ]

module _ (n k c : ℕ) (xs : List (List ℕ)) (head : k ≤ n) (count : c < n) (made : length xs ≤ n) (reached : IsReached k c (length xs) n) where
  pub count_fits : c ≤ n
  count_fits = omega (arith, count)

  -- the slot of the next message was made, or is the next one to make
  pub next_within : slot_behind_head n k c ≤ length xs
  next_within = elim (place_is n k c) [
    | inl before ↦ elim (all_or_ahead n k c xs head count_fits made reached) [
      | inl all ↦ omega arith
      | inr ahead ↦ omega arith
    ]
    | inr past ↦ elim (all_or_ahead n k c xs head count_fits made reached) [
      | inl all ↦ omega arith
      | inr ahead ↦ omega arith
    ]
  ]

  -- where it is the next one to make, no message is before the head
  pub next_ahead : slot_behind_head n k c ≡ length xs → k + c ≡ length xs
  next_ahead made_next = elim (place_is n k c) [
    | inl before ↦ omega arith
    | inr past ↦ elim (all_or_ahead n k c xs head count_fits made reached) [
      | inl all ↦ absurd (omega arith)
      | inr ahead ↦ omega arith
    ]
  ]

  pub place_below : slot_behind_head n k c < n
  place_below = elim (place_is n k c) [
    | inl before ↦ omega arith
    | inr past ↦ omega arith
  ]

  pub places_differ : (i : ℕ) → i < c → slot_behind_head n k i ≢ slot_behind_head n k c
  places_differ i low same = elim (place_is n k i) [
    | inl before ↦ elim (place_is n k c) [
      | inl next_before ↦ omega (arith, before, next_before, same, low)
      | inr next_past ↦ omega (arith, before, next_past, same, low, head, count)
    ]
    | inr past ↦ elim (place_is n k c) [
      | inl next_before ↦ omega (arith, past, next_before, same, low)
      | inr next_past ↦ omega (arith, past, next_past, same, low)
    ]
  ]

  -- a message that is kept in its slot stands at the end
  pub window_pushed : (x : List ℕ) → slot_behind_head n k c < length xs → window k (c + 1) (set xs (slot_behind_head n k c) x) ≡ window k c xs ++ x ∷ []
  window_pushed x within =
      let ys = set xs (slot_behind_head n k c) x in
      let length_ys = length-set xs (slot_behind_head n k c) x in
      let next : IsReached k (c + 1) (length ys) n = λ fewer. elim (place_is n k c) [
        | inl before ↦ rw length_ys (omega (arith, before, within))
        | inr past ↦ absurd (omega (arith, reached (omega (arith, length_ys, fewer)), past, within))
      ] in
      let made_ys : length ys ≤ n = omega (arith, length_ys, made) in
      let length_old = length-window n k c xs head count_fits made reached in
      let length_new = length-window n k (c + 1) ys head (omega arith) made_ys next in
      let length_both : length (window k (c + 1) ys) ≡ length (window k c xs ++ x ∷ []) = length_new ∙ sym (length-append (window k c xs) (x ∷ []) ∙ ap (λ m. m + 1) length_old) in
      same_lists _ _ length_both (λ i d in_range.
      get_or-window n k (c + 1) ys head (omega arith) made_ys next i d (omega (arith, length_new, in_range))
      ∙ elim (cases_lt i c) [
        | inl low ↦ get_or-set_other xs (slot_behind_head n k c) (slot_behind_head n k i) x d (places_differ i low)
            ∙ sym (get_or-window n k c xs head count_fits made reached i d low)
            ∙ sym (get_or_append_left (window k c xs) (x ∷ []) d i (omega (arith, length_old, low)))
        | inr high ↦
            let last : i ≡ c = omega (arith, high, length_new, in_range) in
            let first : i - c ≡ 0 = omega (arith, last) in
            get_or-set_at xs (slot_behind_head n k c) (slot_behind_head n k i) x d (ap (λ j. slot_behind_head n k j) last) within
            ∙ sym (get_or-append_right (window k c xs) (x ∷ []) c i d length_old high ∙ ap (λ j. get_or (x ∷ []) j d) first)
      ])

  -- a slot that is made changes no message
  pub window_grow : (x : List ℕ) → slot_behind_head n k c ≡ length xs → window k c (xs ++ x ∷ []) ≡ window k c xs
  window_grow x made_next =
      let ys = xs ++ x ∷ [] in
      let length_ys = length-append xs (x ∷ []) in
      let ahead = next_ahead made_next in
      let made_ys : length ys ≤ n = omega (arith, length_ys, place_below, made_next) in
      let next : IsReached k c (length ys) n = λ fewer. omega (arith, length_ys, ahead) in
      let length_old = length-window n k c xs head count_fits made reached in
      let length_new = length-window n k c ys head count_fits made_ys next in
      same_lists _ _ (length_new ∙ sym length_old) (λ i d in_range.
      get_or-window n k c ys head count_fits made_ys next i d (omega (arith, length_new, in_range))
      ∙ get_or_append_left xs (x ∷ []) d (slot_behind_head n k i) (place_within n k c xs head count_fits made reached i (omega (arith, length_new, in_range)))
      ∙ sym (get_or-window n k c xs head count_fits made reached i d (omega (arith, length_new, in_range))))

module _ (n k c : ℕ) (xs : List (List ℕ)) (head : k ≤ n) (count : c < n) (made : length xs ≤ n) (reached : IsReached k c (length xs) n) where
  -- the same, where its slot is made for it
  pub window_grown : (x : List ℕ) → slot_behind_head n k c ≡ length xs → window k (c + 1) (set (xs ++ [] ∷ []) (slot_behind_head n k c) x) ≡ window k c xs ++ x ∷ []
  window_grown x made_next =
      let ys = xs ++ [] ∷ [] in
      let length_ys = length-append xs ([] ∷ []) in
      let ahead = next_ahead n k c xs head count made reached made_next in
      let made_ys : length ys ≤ n = omega (arith, length_ys, place_below n k c xs head count made reached, made_next) in
      let next : IsReached k c (length ys) n = λ fewer. omega (arith, length_ys, ahead) in
      window_pushed n k c ys head count made_ys next x (omega (arith, length_ys, made_next))
      ∙ ap (λ ws. ws ++ x ∷ []) (window_grow n k c xs head count made reached [] made_next)

module _ (n k c : ℕ) (xs : List (List ℕ)) (head : k ≤ n) (count : c ≤ n) (made : length xs ≤ n) (reached : IsReached k c (length xs) n) where
  -- the m oldest messages leave, and another waits
  pub reached_next : (m : ℕ) → m < c → IsReached (slot_behind_head n k m) (c - m) (length xs) n
  reached_next m more fewer = elim (place_is n k m) [
    | inl before ↦ omega (arith, before, reached fewer, more)
    | inr past ↦ omega (arith, past, reached fewer, more)
  ]

  pub head_next : (m : ℕ) → m < c → slot_behind_head n k m ≤ n
  head_next m more = elim (place_is n k m) [
    | inl before ↦ omega (arith, before)
    | inr past ↦ omega (arith, past, more, count)
  ]

  pub window_next : (m : ℕ) → m < c → window (slot_behind_head n k m) (c - m) xs ≡ drop m (window k c xs)
  window_next m more =
      let in_range : slot_behind_head n k m ≤ n = head_next m more in
      let next = reached_next m more in
      let length_old = length-window n k c xs head count made reached in
      let length_new = length-window n (slot_behind_head n k m) (c - m) xs in_range (omega arith) made next in
      same_lists _ _ (simp length-drop (omega arith)) (λ i d below. grind (
        arith,
        get_or-drop m (window k c xs) i d,
        place_is n k m,
        place_is n k (m + i),
        place_is n (slot_behind_head n k m) i,
        get_or-window n k c xs head count made reached (m + i) d,
        get_or-window n (slot_behind_head n k m) (c - m) xs in_range (omega arith) made next i d,
      ))
