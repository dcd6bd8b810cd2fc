-- Links with rising numbers of which one moves: the others are apart from it by their numbers.
use Rattle.std.proofs.Common.{arith, ◌≡◌, ◌∙◌, ◌<◌, ◌≤◌, ◌==◌, ℕ, false, List, [], ◌∷◌, ◌++◌, map, refl, ap}
use Rattle.std.specs.List.{All}
use Rattle.std.proofs.lemmas.Bool.{ne_eqb}
use Rattle.std.proofs.lemmas.List.Elements.{All-nil, All-cons, All-head, All-tail}
use Rattle.er_trace.specs.Outcomes.{TraceOutcome}
use Rattle.application_model.specs.Ends.{KnownEnd, learning, known_behind}
use Rattle.application_model.specs.Claims.{RiseTo}
use Rattle.application_loop.specs.Standing.{known_of_link, number_of_link}
use Rattle.application_loop.specs.declared.link.Link.{Link}

abbrev pub IsApart : ℕ → Link → Type 0
IsApart n l = (l.number == n) ≡ false

apart_above : (n low top : ℕ) (ls : List Link) → n ≤ low → RiseTo low (map number_of_link ls) top → All (IsApart n) ls
apart_above n low top [] least rise = All-nil (IsApart n)
apart_above n low top (l ∷ ls) least rise =
    let above : low < l.number = rise.0 in
    All-cons (IsApart n) l ls (ne_eqb l.number n (λ is. let e : l.number ≡ n = is in absurd (omega (arith, least, above, e))))
    (apart_above n l.number top ls (omega (arith, least, above)) rise.1)

reaches : (low top : ℕ) (front back : List Link) (old : Link) → RiseTo low (map number_of_link (front ++ old ∷ back)) top → low < old.number
reaches low top [] back old rise = rise.0
reaches low top (l ∷ ls) back old rise =
    let above : low < l.number = rise.0 in
    let rest : l.number < old.number = reaches l.number top ls back old rise.1 in
    omega (arith, above, rest)

pub apart_before : (low top : ℕ) (front back : List Link) (old : Link) → RiseTo low (map number_of_link (front ++ old ∷ back)) top → All (IsApart old.number) front
apart_before low top [] back old rise = All-nil (IsApart old.number)
apart_before low top (l ∷ ls) back old rise =
    let below : l.number < old.number = reaches l.number top ls back old rise.1 in
    All-cons (IsApart old.number) l ls (ne_eqb l.number old.number (λ is. let e : l.number ≡ old.number = is in absurd (omega (arith, below, e))))
    (apart_before l.number top ls back old rise.1)

pub apart_behind : (low top : ℕ) (front back : List Link) (old : Link) → RiseTo low (map number_of_link (front ++ old ∷ back)) top → All (IsApart old.number) back
apart_behind low top [] back old rise = apart_above old.number old.number top back (omega arith) rise.1
apart_behind low top (l ∷ ls) back old rise = apart_behind l.number top ls back old rise.1

-- ---- one moves

pub each_other : (P Q : Link → Type 0) (n : ℕ) (ls : List Link) → ((l : Link) → IsApart n l → P l → Q l) → All (IsApart n) ls → All P ls → All Q ls
each_other P Q n [] others apart all = All-nil Q
each_other P Q n (l ∷ ls) others apart all =
    All-cons Q l ls (others l (All-head (IsApart n) l ls apart) (All-head P l ls all))
    (each_other P Q n ls others (All-tail (IsApart n) l ls apart) (All-tail P l ls all))

pub one_moves : (P Q : Link → Type 0) (n : ℕ) (front back : List Link) (old now : Link) → ((l : Link) → IsApart n l → P l → Q l)
    → All (IsApart n) front → All (IsApart n) back → (P old → Q now) → All P (front ++ old ∷ back) → All Q (front ++ now ∷ back)
one_moves P Q n [] back old now others before behind this all =
    All-cons Q now back (this (All-head P old back all)) (each_other P Q n back others behind (All-tail P old back all))
one_moves P Q n (l ∷ ls) back old now others before behind this all =
    All-cons Q l (ls ++ now ∷ back) (others l (All-head (IsApart n) l ls before) (All-head P l (ls ++ old ∷ back) all))
    (one_moves P Q n ls back old now others (All-tail (IsApart n) l ls before) behind this (All-tail P l (ls ++ old ∷ back) all))

-- what is so of each is so of this one
pub of_this : (P : Link → Type 0) (front back : List Link) (old : Link) → All P (front ++ old ∷ back) → P old
of_this P [] back old all = All-head P old back all
of_this P (l ∷ ls) back old all = of_this P ls back old (All-tail P l (ls ++ old ∷ back) all)

pub numbers_alike : (front back : List Link) (old now : Link) → now.number ≡ old.number
    → map number_of_link (front ++ now ∷ back) ≡ map number_of_link (front ++ old ∷ back)
numbers_alike [] back old now same = ap (λ (n : ℕ). n ∷ map number_of_link back) same
numbers_alike (l ∷ ls) back old now same = ap (λ (ns : List ℕ). l.number ∷ ns) (numbers_alike ls back old now same)

learn_none : (n : ℕ) (outcomes : List TraceOutcome) (ls : List Link) → All (IsApart n) ls
    → known_behind n outcomes (map known_of_link ls) ≡ map known_of_link ls
learn_none n outcomes [] apart = refl
learn_none n outcomes (l ∷ ls) apart =
    let rest = learn_none n outcomes ls (All-tail (IsApart n) l ls apart) in
    let this : (l.number == n) ≡ false = All-head (IsApart n) l ls apart in
    rw this (ap (λ (ks : List KnownEnd). known_of_link l ∷ ks) rest)

-- what is known of it goes on by the outcomes
pub learn_one : (n : ℕ) (outcomes : List TraceOutcome) (front back : List Link) (old now : Link) → All (IsApart n) front → All (IsApart n) back
    → learning n outcomes (known_of_link old) ≡ known_of_link now
    → known_behind n outcomes (map known_of_link (front ++ old ∷ back)) ≡ map known_of_link (front ++ now ∷ back)
learn_one n outcomes [] back old now before behind this =
    ap (λ (k : KnownEnd). k ∷ known_behind n outcomes (map known_of_link back)) this
    ∙ ap (λ (ks : List KnownEnd). known_of_link now ∷ ks) (learn_none n outcomes back behind)
learn_one n outcomes (l ∷ ls) back old now before behind this =
    let rest = learn_one n outcomes ls back old now (All-tail (IsApart n) l ls before) behind this in
    let apart : (l.number == n) ≡ false = All-head (IsApart n) l ls before in
    rw apart (ap (λ (ks : List KnownEnd). known_of_link l ∷ ks) rest)
