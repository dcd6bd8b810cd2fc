-- What a station may still ask for: a go-back station by REJ, once for each payload that it takes, and one with selective reject by SREJ, once
-- for each number.
use Rattle.std.proofs.Common.{if◌then◌else◌, ◌≡◌, ℕ, zero, suc, ◌+◌, ◌-◌, ◌*◌, ◌<◌, ◌≤◌, inl, inr, Bool, true, false, not, ◌||◌, List, [], ◌∷◌, ◌++◌, length, Option, Some, refl, sym, ◌∙◌, ap, arith, true≢false, eqb-true, le-leb, leb-true, eq-eqb}
use Rattle.std.specs.Prelude.{nat_le, ◌==◌}
use Rattle.std.specs.List.{filter}
use Rattle.std.proofs.lemmas.Bool.{cases_Bool, cases_lt, cond_both, leb-false}
use Rattle.hdlc_station_model.specs.Selective.{held_for, is_found, is_one_of, numbers_from}
use Rattle.hdlc_pair_laws.proofs.Potential.{rejections, rejections_le, passing, passing_filter, passing_all, passing_le, passing_none, passing_split}

-- ---- a station with selective reject

-- a number isn't held, and wasn't asked for
abbrev pub is_open : List (ℕ × List ℕ) → List ℕ → ℕ → Bool
is_open held asked m = not (is_found (held_for m held) || is_one_of m asked)

not_true : (b : Bool) → not b ≡ true → b ≡ false
not_true true h = absurd (true≢false (sym h))
not_true false h = refl

neither : (a b : Bool) → not (a || b) ≡ true → (a ≡ false) × (b ≡ false)
neither true b h = absurd (true≢false (sym h))
neither false b h = (refl, not_true b h)

both_not : (a b : Bool) → a ≡ false → b ≡ false → not (a || b) ≡ true
both_not a b ha hb = rw (ha, hb) refl

found_push : (m : ℕ) (f : ℕ × List ℕ) (held : List (ℕ × List ℕ)) → is_found (held_for m (held ++ f ∷ [])) ≡ false → is_found (held_for m held) ≡ false
found_push m f [] h = refl
found_push m f (g ∷ held) h =
    elim (cases_Bool (g.0 == m)) [
      | inl same ↦ absurd (true≢false (sym (ap (λ (b : Bool). is_found (if b then Some g.1 else held_for m (held ++ f ∷ []))) same) ∙ h))
      | inr other ↦
          ap (λ (b : Bool). is_found (if b then Some g.1 else held_for m held)) other
          ∙ found_push m f held (sym (ap (λ (b : Bool). is_found (if b then Some g.1 else held_for m (held ++ f ∷ []))) other) ∙ h)
    ]

asked_left : (m : ℕ) (asked more : List ℕ) → is_one_of m (asked ++ more) ≡ false → is_one_of m asked ≡ false
asked_left m [] more h = refl
asked_left m (n ∷ asked) more h =
    elim (cases_Bool (n == m)) [
      | inl same ↦ absurd (true≢false (sym (ap (λ (b : Bool). b || is_one_of m (asked ++ more)) same) ∙ h))
      | inr other ↦
          ap (λ (b : Bool). b || is_one_of m asked) other
          ∙ asked_left m asked more (sym (ap (λ (b : Bool). b || is_one_of m (asked ++ more)) other) ∙ h)
    ]

asked_right : (m : ℕ) (asked more : List ℕ) → is_one_of m (asked ++ more) ≡ false → is_one_of m more ≡ false
asked_right m [] more h = h
asked_right m (n ∷ asked) more h =
    elim (cases_Bool (n == m)) [
      | inl same ↦ absurd (true≢false (sym (ap (λ (b : Bool). b || is_one_of m (asked ++ more)) same) ∙ h))
      | inr other ↦ asked_right m asked more (sym (ap (λ (b : Bool). b || is_one_of m (asked ++ more)) other) ∙ h)
    ]

-- one frame more is held, and more is asked for
open_more : (m : ℕ) (f : ℕ × List ℕ) (held : List (ℕ × List ℕ)) (asked more : List ℕ) → is_open (held ++ f ∷ []) (asked ++ more) m ≡ true → is_open held asked m ≡ true
open_more m f held asked more h =
    let n = neither (is_found (held_for m (held ++ f ∷ []))) (is_one_of m (asked ++ more)) h in
    both_not (is_found (held_for m held)) (is_one_of m asked) (found_push m f held n.0) (asked_left m asked more n.1)

-- a number that passes a test is one of those of a run that do
one_of_run : (test : ℕ → Bool) (m from count : ℕ) → from ≤ m → m < from + count → test m ≡ true → is_one_of m (filter test (numbers_from from count)) ≡ true
one_of_run test m from zero low high h = absurd (let u : ⊥ = omega arith in u)
one_of_run test m from (suc count) low high h =
    elim (cases_Bool (from == m)) [
      | inl same ↦
          let e : from ≡ m = eqb-true from m same in
          let t : test from ≡ true = ap test e ∙ h in
          ap (λ (b : Bool). is_one_of m (if b then from ∷ filter test (numbers_from (from + 1) count) else filter test (numbers_from (from + 1) count))) t
          ∙ ap (λ (b : Bool). b || is_one_of m (filter test (numbers_from (from + 1) count))) same
      | inr other ↦
          let above : from + 1 ≤ m = elim (cases_lt from m) [
            | inl lower ↦ omega arith
            | inr upper ↦ absurd (true≢false (sym (eq-eqb from m (let e : from ≡ m = omega arith in e)) ∙ other))
          ] in
          let r = one_of_run test m (from + 1) count above (omega arith) h in
          cond_both (test from) (from ∷ filter test (numbers_from (from + 1) count)) (filter test (numbers_from (from + 1) count)) (λ t. is_one_of m t ≡ true)
          (λ e. ap (λ (b : Bool). b || is_one_of m (filter test (numbers_from (from + 1) count))) other ∙ r) (λ e. r)
    ]

-- so each number below the one that came is held or asked for
closed_below : (m from count : ℕ) (f : ℕ × List ℕ) (held : List (ℕ × List ℕ)) (asked : List ℕ) → from ≤ m → m < from + count
    → is_open (held ++ f ∷ []) (asked ++ filter (is_open held asked) (numbers_from from count)) m ≡ false
closed_below m from count f held asked low high =
    let more : List ℕ = filter (is_open held asked) (numbers_from from count) in
    elim (cases_Bool (is_open (held ++ f ∷ []) (asked ++ more) m)) [
      | inl open_yet ↦
          let was = open_more m f held asked more open_yet in
          let right = asked_right m asked more (neither (is_found (held_for m (held ++ f ∷ []))) (is_one_of m (asked ++ more)) open_yet).1 in
          absurd (true≢false (sym (one_of_run (is_open held asked) m from count low high was) ∙ right))
      | inr closed ↦ closed
    ]

-- a frame behind a gap is held: what is asked for isn't asked for again
pub holds_passing : (n high next : ℕ) (f : ℕ × List ℕ) (held : List (ℕ × List ℕ)) (asked : List ℕ) → next ≤ n → n ≤ high
    → let missing : List ℕ = filter (is_open held asked) (numbers_from next (n - next)) in
    passing (is_open (held ++ f ∷ []) (asked ++ missing)) next (high - next) + length missing ≤ passing (is_open held asked) next (high - next)
holds_passing n high next f held asked low below =
    let missing : List ℕ = filter (is_open held asked) (numbers_from next (n - next)) in
    let before : ℕ → Bool = is_open held asked in
    let behind : ℕ → Bool = is_open (held ++ f ∷ []) (asked ++ missing) in
    let all : n - next + (high - n) ≡ high - next = omega arith in
    let count = passing_filter before next (n - next) in
    let none = passing_none behind next (n - next) (λ m from upto. closed_below m next (n - next) f held asked from upto) in
    let fewer = passing_le behind before (next + (n - next)) (high - n) (λ m from is. open_more m f held asked missing is) in
    let one = passing_split behind next (n - next) (high - n) in
    let two = passing_split before next (n - next) (high - n) in
    let three : passing behind next (n - next + (high - n)) ≡ passing behind next (high - next) = ap (passing behind next) all in
    let four : passing before next (n - next + (high - n)) ≡ passing before next (high - next) = ap (passing before next) all in
    omega (arith, count, none, fewer, one, two, three, four)

-- numbers below the new V(R) are held and asked for no longer
found_kept : (next m : ℕ) (held : List (ℕ × List ℕ)) → next ≤ m → held_for m (filter (λ h. nat_le next h.0) held) ≡ held_for m held
found_kept next m [] low = refl
found_kept next m (g ∷ held) low =
    elim (cases_Bool (g.0 == m)) [
      | inl same ↦
          let e : g.0 ≡ m = eqb-true g.0 m same in
          let stays : nat_le next g.0 ≡ true = le-leb next g.0 (omega arith) in
          ap (λ (b : Bool). held_for m (if b then g ∷ filter (λ h. nat_le next h.0) held else filter (λ h. nat_le next h.0) held)) stays
          ∙ ap (λ (b : Bool). if b then Some g.1 else held_for m (filter (λ h. nat_le next h.0) held)) same
          ∙ sym (ap (λ (b : Bool). if b then Some g.1 else held_for m held) same)
      | inr other ↦
          let r : held_for m (filter (λ h. nat_le next h.0) held) ≡ held_for m (g ∷ held) =
          found_kept next m held low ∙ sym (ap (λ (b : Bool). if b then Some g.1 else held_for m held) other) in
          cond_both (nat_le next g.0) (g ∷ filter (λ h. nat_le next h.0) held) (filter (λ h. nat_le next h.0) held) (λ t. held_for m t ≡ held_for m (g ∷ held))
          (λ e. ap (λ (b : Bool). if b then Some g.1 else held_for m (filter (λ h. nat_le next h.0) held)) other ∙ r) (λ e. r)
    ]

asked_kept : (next m : ℕ) (asked : List ℕ) → next ≤ m → is_one_of m (filter (λ n. nat_le next n) asked) ≡ is_one_of m asked
asked_kept next m [] low = refl
asked_kept next m (n ∷ asked) low =
    let r = asked_kept next m asked low in
    elim (cases_Bool (n == m)) [
      | inl same ↦
          let e : n ≡ m = eqb-true n m same in
          let stays : nat_le next n ≡ true = le-leb next n (omega arith) in
          ap (λ (b : Bool). is_one_of m (if b then n ∷ filter (λ j. nat_le next j) asked else filter (λ j. nat_le next j) asked)) stays
          ∙ ap (λ (b : Bool). b || is_one_of m (filter (λ j. nat_le next j) asked)) same ∙ sym (ap (λ (b : Bool). b || is_one_of m asked) same)
      | inr other ↦
          let s : is_one_of m (filter (λ j. nat_le next j) asked) ≡ is_one_of m (n ∷ asked) = r ∙ sym (ap (λ (b : Bool). b || is_one_of m asked) other) in
          cond_both (nat_le next n) (n ∷ filter (λ j. nat_le next j) asked) (filter (λ j. nat_le next j) asked) (λ t. is_one_of m t ≡ is_one_of m (n ∷ asked))
          (λ e. ap (λ (b : Bool). b || is_one_of m (filter (λ j. nat_le next j) asked)) other ∙ s) (λ e. s)
    ]

pub kept_passing : (now high next : ℕ) (held : List (ℕ × List ℕ)) (asked : List ℕ) → next ≤ now
    → passing (is_open (filter (λ h. nat_le now h.0) held) (filter (λ n. nat_le now n) asked)) now (high - now) ≤ passing (is_open held asked) next (high - next)
kept_passing now high next held asked low =
    let before : ℕ → Bool = is_open held asked in
    let behind : ℕ → Bool = is_open (filter (λ h. nat_le now h.0) held) (filter (λ n. nat_le now n) asked) in
    let fewer = passing_le behind before now (high - now) (λ m from is.
    ap (λ (o : Option (List ℕ)). not (is_found o || is_one_of m asked)) (sym (found_kept now m held from))
    ∙ ap (λ (b : Bool). not (is_found (held_for m (filter (λ h. nat_le now h.0) held)) || b)) (sym (asked_kept now m asked from)) ∙ is) in
    elim (cases_Bool (nat_le now high)) [
      | inl e ↦
          let below = leb-true now high e in
          let rest : now - next + (high - now) ≡ high - next = omega arith in
          let here : next + (now - next) ≡ now = omega arith in
          let one = passing_split before next (now - next) (high - now) in
          let two : passing before next (now - next + (high - now)) ≡ passing before next (high - next) = ap (passing before next) rest in
          let three : passing before (next + (now - next)) (high - now) ≡ passing before now (high - now) = ap (λ (n : ℕ). passing before n (high - now)) here in
          omega (arith, fewer, one, two, three)
      | inr e ↦
          let above = leb-false now high e in
          let none : high - now ≡ 0 = omega arith in
          let zero_yet : passing behind now (high - now) ≡ 0 = ap (passing behind now) none in
          omega (arith, zero_yet)
    ]

-- ---- both kinds

-- whether one REJ more may be said without a payload that is taken: a set-up frame clears the gap mark
abbrev pub ungapped : (fresh gap : Bool) → ℕ
ungapped true gap = 1
ungapped false true = 0
ungapped false false = 1

-- while a set-up frame waits, all numbers may still be asked for
abbrev pub unasked : (fresh : Bool) (next high : ℕ) (held : List (ℕ × List ℕ)) (asked : List ℕ) → ℕ
unasked true next high held asked = high - next
unasked false next high held asked = passing (is_open held asked) next (high - next)

-- what a station may still ask for of so many payloads, in passes
abbrev pub repairs : (selective : Bool) (window high : ℕ) (fresh : Bool) (next : ℕ) (gap : Bool) (held : List (ℕ × List ℕ)) (asked : List ℕ) → ℕ
repairs true window high fresh next gap held asked = 3 * unasked fresh next high held asked
repairs false window high fresh next gap held asked = rejections window (high - next + ungapped fresh gap)

pub unasked_le : (fresh : Bool) (next high : ℕ) (held : List (ℕ × List ℕ)) (asked : List ℕ) → unasked fresh next high held asked ≤ high - next
unasked_le true next high held asked = omega arith
unasked_le false next high held asked = passing_all (is_open held asked) next (high - next)

pub ungapped_le : (fresh gap : Bool) → ungapped fresh gap ≤ 1
ungapped_le true gap = omega arith
ungapped_le false true = omega arith
ungapped_le false false = omega arith

-- never more than where a set-up frame waits
pub repairs_le : (selective : Bool) (window high : ℕ) (fresh : Bool) (next : ℕ) (gap other : Bool) (held more : List (ℕ × List ℕ)) (asked others : List ℕ)
    → repairs selective window high fresh next gap held asked ≤ repairs selective window high true next other more others
repairs_le true window high fresh next gap other held more asked others = omega (arith, unasked_le fresh next high held asked)
repairs_le false window high fresh next gap other held more asked others =
    rejections_le window (high - next + ungapped fresh gap) (high - next + 1) (omega (arith, ungapped_le fresh gap))
