-- What the frames that wait and the two stations may still cost in passes: each pass brings it down, while frames are given alone.
use Rattle.std.proofs.Common.{◌≡◌, ℕ, zero, suc, ◌+◌, ◌-◌, ◌*◌, ◌<◌, ◌≤◌, inl, inr, Bool, true, false, ◌||◌, List, [], ◌∷◌, ◌++◌, length, map, refl, sym, ap, subst, arith, true≢false}
use Rattle.std.specs.List.{filter}
use Rattle.std.proofs.Math.Nat.{mul-suc}
use Rattle.std.proofs.lemmas.Bool.{cond_both, or_cases}
use Rattle.hdlc_station_model.specs.Frames.{Frame, Info, Rr, Rej, Srej, SetUp, Disc, Dm, Ua}
use Rattle.hdlc_station_model.specs.Stations.{Station}
use Rattle.hdlc_station_model.specs.Sending.{info_at, frames_again}
use Rattle.hdlc_station_model.specs.Selective.{numbers_from}
use Rattle.hdlc_pair_laws.specs.Invariant.{Climbs, marks}
use Rattle.hdlc_pair_laws.specs.Flowing.{one_if}

-- ---- frames

-- the passes that a frame may cost, its own included: a window of frames is sent again at a REJ, one at an SREJ, and each I frame has an
-- answer; a set-up frame costs what it is told to
abbrev pub weight : (set_up window : ℕ) → Frame → ℕ
weight set_up window (Info ns nr payload) = 2
weight set_up window (Rr nr) = 1
weight set_up window (Rej nr) = 1 + 2 * window
weight set_up window (Srej nr) = 3
weight set_up window SetUp = set_up
weight set_up window Disc = 2
weight set_up window Dm = 1
weight set_up window (Ua final) = 1

abbrev pub weights : (set_up window : ℕ) → List Frame → ℕ
weights set_up window [] = 0
weights set_up window (f ∷ fs) = weight set_up window f + weights set_up window fs

pub weights_join : (set_up window : ℕ) (l m : List Frame) → weights set_up window (l ++ m) ≡ weights set_up window l + weights set_up window m
weights_join set_up window [] m = omega arith
weights_join set_up window (f ∷ l) m = omega (arith, weights_join set_up window l m)

pub weights_push : (set_up window : ℕ) (l : List Frame) (f : Frame) → weights set_up window (l ++ f ∷ []) ≡ weights set_up window l + weight set_up window f
weights_push set_up window l f = omega (arith, weights_join set_up window l (f ∷ []))

-- frames that are sent again, and frames that are asked for
pub weights_again : (set_up window n : ℕ) (x : Station) → weights set_up window (frames_again n x) ≡ 2 * n
weights_again set_up window zero x = refl
weights_again set_up window (suc n) x =
    omega (arith, weights_push set_up window (frames_again n x) (info_at x (x.acked + n)), weights_again set_up window n x)

pub weights_asked : (set_up window : ℕ) (ms : List ℕ) → weights set_up window (map Srej ms) ≡ 3 * length ms
weights_asked set_up window [] = refl
weights_asked set_up window (m ∷ ms) = omega (arith, weights_asked set_up window ms)

-- a set-up frame waits
abbrev pub is_set_up : Frame → Bool
is_set_up (Info ns nr payload) = false
is_set_up (Rr nr) = false
is_set_up (Rej nr) = false
is_set_up (Srej nr) = false
is_set_up SetUp = true
is_set_up Disc = false
is_set_up Dm = false
is_set_up (Ua final) = false

abbrev pub sets_up : List Frame → Bool
sets_up [] = false
sets_up (f ∷ fs) = is_set_up f || sets_up fs

pub sets_up_join : (l m : List Frame) → sets_up m ≡ false → sets_up (l ++ m) ≡ sets_up l
sets_up_join [] m h = h
sets_up_join (f ∷ l) m h = ap (λ (b : Bool). is_set_up f || b) (sets_up_join l m h)

one_heavy : (set_up window : ℕ) (f : Frame) → is_set_up f ≡ true → set_up ≤ weight set_up window f
one_heavy set_up window (Info ns nr payload) h = absurd (true≢false (sym h))
one_heavy set_up window (Rr nr) h = absurd (true≢false (sym h))
one_heavy set_up window (Rej nr) h = absurd (true≢false (sym h))
one_heavy set_up window (Srej nr) h = absurd (true≢false (sym h))
one_heavy set_up window SetUp h = omega arith
one_heavy set_up window Disc h = absurd (true≢false (sym h))
one_heavy set_up window Dm h = absurd (true≢false (sym h))
one_heavy set_up window (Ua final) h = absurd (true≢false (sym h))

-- frames that cost less than a set-up frame are none
pub set_up_heavy : (set_up window : ℕ) (l : List Frame) → sets_up l ≡ true → set_up ≤ weights set_up window l
set_up_heavy set_up window [] h = absurd (true≢false (sym h))
set_up_heavy set_up window (f ∷ l) h =
    elim (or_cases (is_set_up f) (sets_up l) h) [
      | inl here ↦ omega (arith, one_heavy set_up window f here)
      | inr there ↦ omega (arith, set_up_heavy set_up window l there)
    ]

-- no set-up frame waits behind an I frame
pub none_sets_up : (selective : Bool) (low : ℕ) (l : List Frame) (high : ℕ) → 1 ≤ low → Climbs low (marks selective l) high → sets_up l ≡ false
none_sets_up selective low [] high some c = refl
none_sets_up selective low (Info ns nr payload ∷ fs) high some c = none_sets_up selective 1 fs high (omega arith) c.1
none_sets_up selective low (Rr nr ∷ fs) high some c = none_sets_up selective low fs high some c
none_sets_up true low (Rej nr ∷ fs) high some c = none_sets_up true 2 fs high (omega arith) c.1
none_sets_up false low (Rej nr ∷ fs) high some c = none_sets_up false low fs high some c
none_sets_up true low (Srej nr ∷ fs) high some c = none_sets_up true low fs high some c
none_sets_up false low (Srej nr ∷ fs) high some c = none_sets_up false 2 fs high (omega arith) c.1
none_sets_up selective low (SetUp ∷ fs) high some c = absurd (let u : ⊥ = omega (arith, some, c.0) in u)
none_sets_up selective low (Disc ∷ fs) high some c = none_sets_up selective low fs high some c
none_sets_up selective low (Dm ∷ fs) high some c = none_sets_up selective low fs high some c
none_sets_up selective low (Ua final ∷ fs) high some c = none_sets_up selective low fs high some c

-- ---- REJ

-- so many REJ cost so much
abbrev pub rejections : (window : ℕ) → ℕ → ℕ
rejections window zero = 0
rejections window (suc n) = 1 + 2 * window + rejections window n

pub rejections_one : (window n : ℕ) → rejections window (n + 1) ≡ 1 + 2 * window + rejections window n
rejections_one window n = let e : n + 1 ≡ suc n = omega arith in ap (rejections window) e

pub rejections_more : (window n d : ℕ) → rejections window n ≤ rejections window (n + d)
rejections_more window n zero = let e : n + zero ≡ n = omega arith in let r : rejections window (n + zero) ≡ rejections window n = ap (rejections window) e in omega (arith, r)
rejections_more window n (suc d) =
    let e : n + suc d ≡ suc (n + d) = omega arith in
    let r : rejections window (n + suc d) ≡ rejections window (suc (n + d)) = ap (rejections window) e in
    omega (arith, r, rejections_more window n d)

pub rejections_le : (window n m : ℕ) → n ≤ m → rejections window n ≤ rejections window m
rejections_le window n m le =
    let e : n + (m - n) ≡ m = omega arith in
    subst (λ (j : ℕ). rejections window n ≤ rejections window j) e (rejections_more window n (m - n))

pub rejections_are : (window n : ℕ) → rejections window n ≡ (1 + 2 * window) * n
rejections_are window zero = omega arith
rejections_are window (suc n) = omega (arith, rejections_are window n, mul-suc (1 + 2 * window) n)

pub rejections_join : (window n m : ℕ) → rejections window (n + m) ≡ rejections window n + rejections window m
rejections_join window zero m =
    let none : zero + m ≡ m = omega arith in
    let e : rejections window (zero + m) ≡ rejections window m = ap (rejections window) none in
    omega (arith, e)
rejections_join window (suc n) m =
    let plus : suc n + m ≡ suc (n + m) = omega arith in
    let e : rejections window (suc n + m) ≡ rejections window (suc (n + m)) = ap (rejections window) plus in
    omega (arith, e, rejections_join window n m)

pub rejections_some : (window n : ℕ) → 1 ≤ window → 3 * n ≤ rejections window n
rejections_some window zero some = omega arith
rejections_some window (suc n) some = omega (arith, some, rejections_some window n some)

-- no frame costs more than a REJ
weight_le : (window : ℕ) (f : Frame) → 1 ≤ window → weight 2 window f ≤ 1 + 2 * window
weight_le window (Info ns nr payload) some = omega (arith, some)
weight_le window (Rr nr) some = omega (arith, some)
weight_le window (Rej nr) some = omega (arith, some)
weight_le window (Srej nr) some = omega (arith, some)
weight_le window SetUp some = omega (arith, some)
weight_le window Disc some = omega (arith, some)
weight_le window Dm some = omega (arith, some)
weight_le window (Ua final) some = omega (arith, some)

pub weights_le : (window : ℕ) (l : List Frame) → 1 ≤ window → weights 2 window l ≤ rejections window (length l)
weights_le window [] some = omega arith
weights_le window (f ∷ l) some =
    let e : length (f ∷ l) ≡ suc (length l) = omega arith in
    let r : rejections window (length (f ∷ l)) ≡ rejections window (suc (length l)) = ap (rejections window) e in
    omega (arith, r, weight_le window f some, weights_le window l some)

-- ---- numbers that may still be asked for

-- how many of so many numbers pass a test
abbrev pub passing : (ℕ → Bool) → (from count : ℕ) → ℕ
passing test from zero = 0
passing test from (suc count) = one_if (test from) + passing test (from + 1) count

pub passing_filter : (test : ℕ → Bool) (from count : ℕ) → length (filter test (numbers_from from count)) ≡ passing test from count
passing_filter test from zero = refl
passing_filter test from (suc count) =
    cond_both (test from) (from ∷ filter test (numbers_from (from + 1) count)) (filter test (numbers_from (from + 1) count))
    (λ t. length t ≡ one_if (test from) + passing test (from + 1) count)
    (λ e. omega (arith, ap one_if e, passing_filter test (from + 1) count)) (λ e. omega (arith, ap one_if e, passing_filter test (from + 1) count))

pub one_le : (b : Bool) → one_if b ≤ 1
one_le true = omega arith
one_le false = omega arith

pub passing_all : (test : ℕ → Bool) (from count : ℕ) → passing test from count ≤ count
passing_all test from zero = omega arith
passing_all test from (suc count) = omega (arith, one_le (test from), passing_all test (from + 1) count)

one_more_le : (a b : Bool) → (a ≡ true → b ≡ true) → one_if a ≤ one_if b
one_more_le true b h = let e : one_if b ≡ 1 = ap one_if (h refl) in omega arith
one_more_le false b h = omega arith

pub passing_le : (test other : ℕ → Bool) (from count : ℕ) → ((m : ℕ) → from ≤ m → test m ≡ true → other m ≡ true) → passing test from count ≤ passing other from count
passing_le test other from zero h = omega arith
passing_le test other from (suc count) h =
    omega (arith, one_more_le (test from) (other from) (h from (omega arith)), passing_le test other (from + 1) count (λ m le. h m (omega arith)))

pub passing_none : (test : ℕ → Bool) (from count : ℕ) → ((m : ℕ) → from ≤ m → m < from + count → test m ≡ false) → passing test from count ≡ 0
passing_none test from zero h = refl
passing_none test from (suc count) h =
    omega (arith, ap one_if (h from (omega arith) (omega arith)), passing_none test (from + 1) count (λ m low high. h m (omega arith) (omega arith)))

pub passing_split : (test : ℕ → Bool) (from a b : ℕ) → passing test from (a + b) ≡ passing test from a + passing test (from + a) b
passing_split test from zero b =
    let none : zero + b ≡ b = omega arith in
    let here : from + zero ≡ from = omega arith in
    let t : passing test from (zero + b) ≡ passing test from b = ap (passing test from) none in
    let u : passing test (from + zero) b ≡ passing test from b = ap (λ (n : ℕ). passing test n b) here in
    omega (arith, t, u)
passing_split test from (suc a) b =
    let plus : suc a + b ≡ suc (a + b) = omega arith in
    let there : from + 1 + a ≡ from + suc a = omega arith in
    let t : passing test (from + 1 + a) b ≡ passing test (from + suc a) b = ap (λ (n : ℕ). passing test n b) there in
    let u : passing test from (suc a + b) ≡ passing test from (suc (a + b)) = ap (passing test from) plus in
    omega (arith, t, u, passing_split test (from + 1) a b)
