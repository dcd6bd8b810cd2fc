-- Places that are cleared and stand behind the others, and runs of places that are held.
use Rattle.std.proofs.Common.{◌≡◌, ℕ, zero, suc, ◌+◌, ◌-◌, ◌<◌, ◌≤◌, Bool, true, false, if◌then◌else◌, List, [], ◌∷◌, ◌++◌, length, get_or, drop, take, set, map, Some, None, ap, ◌∙◌, inl, inr, arith, length-append, length-drop, length-take-le, get_or-drop, refl, sym, add-one}
use Rattle.std.proofs.lemmas.List.{get_or_append_left, get_or-append_right, get_or_past, drop_at, drop_more, take_more, append_assoc, map-append, length-map}
use Rattle.std.proofs.lemmas.Bool.{cases_lt, cases_Bool}
use Rattle.hdlc_station.specs.Places.{NumberPlace, no_place, cleared, held_in, held_at, asked_at, run_of, lent}

-- ---- one place more goes behind the others

pub dropped_more : (places : List NumberPlace) (i : ℕ) → i < length places
    → drop 1 (drop i places ++ map cleared (take i places)) ++ cleared (get_or (drop i places ++ map cleared (take i places)) 0 no_place) ∷ []
    ≡ drop (i + 1) places ++ map cleared (take (i + 1) places)
dropped_more places i low =
    let x = get_or places i no_place in
    let rest = drop (i + 1) places in
    let front = map cleared (take i places) in
    let split : drop i places ≡ x ∷ rest = drop_more places i no_place low in
    let more : take (i + 1) places ≡ take i places ++ x ∷ [] = take_more places i no_place low in
    ap (λ xs. drop 1 (xs ++ front) ++ cleared (get_or (xs ++ front) 0 no_place) ∷ []) split
    ∙ append_assoc rest front (cleared x ∷ [])
    ∙ ap (λ xs. rest ++ xs) (sym (map-append cleared (take i places) (x ∷ [])) ∙ ap (map cleared) (sym more))

-- ---- what places behind the others say

held_cleared : (places : List NumberPlace) (i : ℕ) → held_at (map cleared places) i ≡ None
held_cleared [] i = refl
held_cleared (p ∷ places) zero = refl
held_cleared (p ∷ places) (suc i) = held_cleared places i

asked_cleared : (places : List NumberPlace) (i : ℕ) → asked_at (map cleared places) i ≡ false
asked_cleared [] i = refl
asked_cleared (p ∷ places) zero = refl
asked_cleared (p ∷ places) (suc i) = asked_cleared places i

module _ (places : List NumberPlace) (n i : ℕ) where
  tail : length (drop n places) ≡ length places - n
  tail = length-drop n places

  pub held_dropped : held_at (drop n places ++ map cleared (take n places)) i ≡ held_at places (n + i)
  held_dropped = elim (cases_lt i (length places - n)) [
    | inl low ↦ ap held_in (get_or_append_left (drop n places) (map cleared (take n places)) no_place i (omega (arith, tail, low)) ∙ get_or-drop n places i no_place)
    | inr high ↦ ap held_in (get_or-append_right (drop n places) (map cleared (take n places)) (length places - n) i no_place tail high)
        ∙ held_cleared (take n places) (i - (length places - n))
        ∙ sym (ap held_in (get_or_past places (n + i) no_place (omega (arith, high))))
  ]

  pub asked_dropped : asked_at (drop n places ++ map cleared (take n places)) i ≡ asked_at places (n + i)
  asked_dropped = elim (cases_lt i (length places - n)) [
    | inl low ↦ ap (λ (p : NumberPlace). p.asked) (get_or_append_left (drop n places) (map cleared (take n places)) no_place i (omega (arith, tail, low)) ∙ get_or-drop n places i no_place)
    | inr high ↦ ap (λ (p : NumberPlace). p.asked) (get_or-append_right (drop n places) (map cleared (take n places)) (length places - n) i no_place tail high)
        ∙ asked_cleared (take n places) (i - (length places - n))
        ∙ sym (ap (λ (p : NumberPlace). p.asked) (get_or_past places (n + i) no_place (omega (arith, high))))
  ]

-- ---- runs

pub run_yes : (p : NumberPlace) (places : List NumberPlace) → p.held ≡ true → run_of (p ∷ places) ≡ p.payload ∷ run_of places
run_yes p places h = ap (λ (b : Bool). if b then p.payload ∷ run_of places else []) h

pub run_no : (p : NumberPlace) (places : List NumberPlace) → p.held ≡ false → run_of (p ∷ places) ≡ []
run_no p places h = ap (λ (b : Bool). if b then p.payload ∷ run_of places else []) h

pub run_within : (places : List NumberPlace) → length (run_of places) ≤ length places
run_within [] = omega arith
run_within (p ∷ places) = elim (cases_Bool p.held) [
  | inl so ↦ let e = ap length (run_yes p places so) in omega (arith, e, run_within places)
  | inr not_so ↦ let e = ap length (run_no p places not_so) in omega (arith, e)
]

-- one place more of a run, and its end
pub run_goes_on : (places : List NumberPlace) (i : ℕ) → i < length places → (get_or places i no_place).held ≡ true
    → length (run_of (drop i places)) ≡ 1 + length (run_of (drop (i + 1) places))
run_goes_on places i low so =
    let x = get_or places i no_place in
    ap (λ xs. length (run_of xs)) (drop_more places i no_place low) ∙ ap length (run_yes x (drop (i + 1) places) so) ∙ omega arith

pub run_ends : (places : List NumberPlace) (i : ℕ) → i < length places → (get_or places i no_place).held ≡ false → length (run_of (drop i places)) ≡ 0
run_ends places i low not_so =
    let x = get_or places i no_place in
    ap (λ xs. length (run_of xs)) (drop_more places i no_place low) ∙ ap length (run_no x (drop (i + 1) places) not_so)

-- behind a run stands a place that isn't held
run_stops : (places : List NumberPlace) → held_at places (length (run_of places)) ≡ None
run_stops [] = refl
run_stops (p ∷ places) = elim (cases_Bool p.held) [
  | inl so ↦ ap (λ (xs : List (List ℕ)). held_at (p ∷ places) (length xs)) (run_yes p places so) ∙ run_stops places
  | inr not_so ↦ ap (λ (xs : List (List ℕ)). held_at (p ∷ places) (length xs)) (run_no p places not_so) ∙ ap (λ (b : Bool). if b then Some p.payload else None) not_so
]

pub run_ends_at : (places : List NumberPlace) (n : ℕ) → n ≡ length (run_of (drop 1 places)) → held_at places (n + 1) ≡ None
run_ends_at places n count =
    ap (held_at places) (omega arith)
    ∙ sym (ap held_in (get_or-drop 1 places n no_place))
    ∙ ap (held_at (drop 1 places)) count
    ∙ run_stops (drop 1 places)

-- ---- payloads that are lent

-- the payloads of a run, and of so many of its places
taken_run : (places : List NumberPlace) → map (λ (p : NumberPlace). p.payload) (take (length (run_of places)) places) ≡ run_of places
taken_run [] = refl
taken_run (p ∷ places) = elim (cases_Bool p.held) [
  | inl so ↦
      ap (λ (xs : List (List ℕ)). map (λ (q : NumberPlace). q.payload) (take (length xs) (p ∷ places))) (run_yes p places so)
      ∙ ap (λ (xs : List (List ℕ)). p.payload ∷ xs) (taken_run places)
      ∙ sym (run_yes p places so)
  | inr not_so ↦ ap (λ (xs : List (List ℕ)). map (λ (q : NumberPlace). q.payload) (take (length xs) (p ∷ places))) (run_no p places not_so) ∙ sym (run_no p places not_so)
]

payloads_cleared : (places : List NumberPlace) → map (λ (p : NumberPlace). p.payload) (map cleared places) ≡ map (λ (p : NumberPlace). p.payload) places
payloads_cleared [] = refl
payloads_cleared (p ∷ places) = ap (λ (xs : List (List ℕ)). p.payload ∷ xs) (payloads_cleared places)

-- the last places lend their payloads
lent_last : (n : ℕ) (front last : List NumberPlace) → length last ≡ n → lent n (front ++ last) ≡ map (λ (p : NumberPlace). p.payload) last
lent_last zero front [] count = refl
lent_last zero front (p ∷ last) count = absurd (omega (arith, count))
lent_last (suc n) front last count =
    let all = length-append front last in
    ap (map (λ (p : NumberPlace). p.payload)) (drop_at front last (length (front ++ last) - suc n) (omega (arith, count, all)))

-- the run behind the first place, once both went behind the others
pub lent_run : (places : List NumberPlace) → 1 ≤ length places
    → let run = length (run_of (drop 1 places)) in
    lent run (drop (run + 1) places ++ map cleared (take (run + 1) places)) ≡ run_of (drop 1 places)
lent_run [] some = absurd (omega (arith, some))
lent_run (p ∷ places) some =
    let run = length (run_of places) in
    ap (λ n. lent run (drop n (p ∷ places) ++ map cleared (take n (p ∷ places)))) (add-one run)
    ∙ sym (ap (λ (ps : List NumberPlace). lent run ps) (append_assoc (drop run places) (cleared p ∷ []) (map cleared (take run places))))
    ∙ lent_last run (drop run places ++ cleared p ∷ []) (map cleared (take run places)) (length-map (take run places) cleared ∙ length-take-le run places (run_within places))
    ∙ payloads_cleared (take run places)
    ∙ taken_run places

-- payload k of those that are lent
pub lent_at : (n k : ℕ) (places : List NumberPlace) → k < n → n ≤ length places → get_or (lent n places) k [] ≡ (get_or places (length places - n + k) no_place).payload
lent_at zero k places low within = absurd (omega (arith, low))
lent_at (suc n) k places low within =
    payload_at (drop (length places - suc n) places) k
    ∙ ap (λ (p : NumberPlace). p.payload) (get_or-drop (length places - suc n) places k no_place)
  where
    payload_at : (xs : List NumberPlace) (j : ℕ) → get_or (map (λ (p : NumberPlace). p.payload) xs) j [] ≡ (get_or xs j no_place).payload
    payload_at [] j = refl
    payload_at (x ∷ xs) zero = refl
    payload_at (x ∷ xs) (suc j) = payload_at xs j

-- how many they are
pub lent_length : (n : ℕ) (places : List NumberPlace) → n ≤ length places → length (lent n places) ≡ n
lent_length zero places within = refl
lent_length (suc n) places within =
    let front = length places - suc n in
    let tail = length-drop front places in
    let all = length-map (drop front places) (λ (p : NumberPlace). p.payload) in
    omega (arith, within, tail, all)
