-- Words for what the tables and boxes of FIPS 46-3 have: tests that compute, so that a single wrong entry fails one.
use Rattle.std.specs.Prelude.{ℕ, Bool, nat_eq, ◌+◌, ◌*◌, ◌%◌, ◌&&◌, not, List, [], ◌∷◌, length, take, drop}
use Rattle.std.specs.List.{count_by, filter, flat_map, list_all, list_any, range_with_len}

-- whether each of the wanted numbers stands in the list once, and nothing else does
abbrev pub each_once : List ℕ → List ℕ → Bool
each_once wanted xs = nat_eq (length xs) (length wanted) && list_all (λ n. nat_eq (count_by (λ x. nat_eq x n) xs) 1) wanted

-- whether a box has four rows, each of the numbers from 0 to 15 in some order
abbrev pub has_rows : List ℕ → Bool
has_rows box = nat_eq (length box) 64 && list_all (λ row. each_once (range_with_len 0 16) (take 16 (drop (16 * row) box))) (0 ∷ 1 ∷ 2 ∷ 3 ∷ [])

-- eight groups of six: four places of 32 in a row, between the place before them and the place behind them
abbrev pub groups_of_six : List ℕ
groups_of_six =
    flat_map (λ j. ((4 * j + 31) % 32 + 1) ∷ (4 * j + 1) ∷ (4 * j + 2) ∷ (4 * j + 3) ∷ (4 * j + 4) ∷ ((4 * j + 4) % 32 + 1) ∷ []) (range_with_len 0 8)

-- the places that are left over
abbrev pub without : List ℕ → List ℕ → List ℕ
without left_out places = filter (λ place. not (list_any (λ x. nat_eq x place) left_out)) places

-- the places of a key but for its parity bits 8, 16, .. 64
abbrev pub key_places : List ℕ
key_places = filter (λ place. not (nat_eq (place % 8) 0)) (range_with_len 1 64)

-- the places of C that PC-2 chooses
abbrev pub c_places : List ℕ
c_places = without (9 ∷ 18 ∷ 22 ∷ 25 ∷ []) (range_with_len 1 28)

-- the places of D that PC-2 chooses, counted on from C's
abbrev pub d_places : List ℕ
d_places = without (35 ∷ 38 ∷ 43 ∷ 54 ∷ []) (range_with_len 29 28)
