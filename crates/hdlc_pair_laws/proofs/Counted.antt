-- A loss-free line: few frames wait, and a drain of as many passes as there may be leaves none.
use Rattle.std.proofs.Common.{◌≡◌, ℕ, ◌+◌, ◌*◌, ◌≤◌, inl, inr, Bool, true, false, List, [], ◌∷◌, length, map, refl, ◌∙◌, ap, arith}
use Rattle.std.proofs.lemmas.List.{length-map}
use Rattle.std.specs.Prelude.{nat_lt}
use Rattle.std.proofs.lemmas.Bool.{or_cases, ltb-true}
use Rattle.hdlc_station_model.specs.Frames.{Frame, Info, Rr, Rej, Srej, SetUp, Disc, Dm, Ua}
use Rattle.hdlc_station_model.specs.Stations.{Station}
use Rattle.pair_model.specs.Steps.{is_overfull, drained}
use Rattle.hdlc_pair_laws.specs.Links.{StationLink, station_kind}
use Rattle.hdlc_pair_laws.specs.Laws.{after, DrainEmpties, FewWait}
use Rattle.hdlc_pair_laws.specs.Invariant.{Way, Climbs, IsStationPair, IsSpan, infos, receive_numbers_in_frames}
use Rattle.hdlc_pair_laws.specs.Flowing.{Consecutive, AllData, AreReceiveReadyNumbersRising, Shape}
use Rattle.hdlc_pair_laws.proofs.Ways.{way_bounds}
use Rattle.hdlc_pair_laws.proofs.Acts.{Frames}
use Rattle.hdlc_pair_laws.proofs.Delivers.{Flows}
use Rattle.hdlc_pair_laws.proofs.Delivered.{drained_empties, bound_flows, after_flows}

-- ---- few frames wait

abbrev rrs : List Frame → ℕ
rrs [] = 0
rrs (Info ns nr payload ∷ fs) = rrs fs
rrs (Rr nr ∷ fs) = rrs fs + 1
rrs (Rej nr ∷ fs) = rrs fs
rrs (Srej nr ∷ fs) = rrs fs
rrs (SetUp ∷ fs) = rrs fs
rrs (Disc ∷ fs) = rrs fs
rrs (Dm ∷ fs) = rrs fs
rrs (Ua final ∷ fs) = rrs fs

-- I frames and RR are all
data_length : (l : List Frame) → AllData l → length l ≡ length (infos l) + rrs l
data_length [] h = refl
data_length (Info ns nr payload ∷ fs) h = let more : length fs ≡ length (infos fs) + rrs fs = data_length fs h.1 in omega arith
data_length (Rr nr ∷ fs) h = let more : length fs ≡ length (infos fs) + rrs fs = data_length fs h.1 in omega arith
data_length (Rej nr ∷ fs) h = absurd h.0
data_length (Srej nr ∷ fs) h = absurd h.0
data_length (SetUp ∷ fs) h = absurd h.0
data_length (Disc ∷ fs) h = absurd h.0
data_length (Dm ∷ fs) h = absurd h.0
data_length (Ua final ∷ fs) h = absurd h.0

-- each RR shows more than the number before it
rrs_bound : (low high : ℕ) (owed : Bool) (l : List Frame) → AreReceiveReadyNumbersRising low l high owed → Climbs low (receive_numbers_in_frames l) high → low + rrs l ≤ high
rrs_bound low high owed [] h c = omega (arith, c)
rrs_bound low high owed (Info ns nr payload ∷ fs) h c = omega (arith, c.0, rrs_bound nr high owed fs h c.1)
rrs_bound low high owed (Rr nr ∷ fs) h c = omega (arith, h.0, rrs_bound nr high owed fs h.1 c.1)
rrs_bound low high owed (Rej nr ∷ fs) h c = omega (arith, c.0, rrs_bound nr high owed fs h c.1)
rrs_bound low high owed (Srej nr ∷ fs) h c = rrs_bound low high owed fs h c
rrs_bound low high owed (SetUp ∷ fs) h c = rrs_bound low high owed fs h c
rrs_bound low high owed (Disc ∷ fs) h c = rrs_bound low high owed fs h c
rrs_bound low high owed (Dm ∷ fs) h c = rrs_bound low high owed fs h c
rrs_bound low high owed (Ua final ∷ fs) h c = rrs_bound low high owed fs h c

infos_length : (low : ℕ) (is : List (ℕ × List ℕ)) (high : ℕ) → Consecutive low is high → low + length is ≡ high
infos_length low [] high h = omega (arith, h)
infos_length low (i ∷ is) high h = omega (arith, infos_length (low + 1) is high h.1)

-- of x: its I frames are within the window, and its RR answer I frames that are within the other's
few_of : (k : ℕ) (lx : List Frame) (x : Station) (ly : List Frame) (y : Station) → Way k x.handed x.acked x.sent y.taken (infos lx) (receive_numbers_in_frames ly)
    → Way k y.handed y.acked y.sent x.taken (infos ly) (receive_numbers_in_frames lx) → AllData lx → Consecutive (length y.taken) (infos lx) x.sent
    → AreReceiveReadyNumbersRising y.acked lx (length x.taken) x.owed → length lx ≤ 2 * k
few_of k lx x ly y there back plain next rises =
    let all : length lx ≡ length (infos lx) + rrs lx = data_length lx plain in
    let sent : length y.taken + length (infos lx) ≡ x.sent = infos_length (length y.taken) (infos lx) x.sent next in
    let answers : y.acked + rrs lx ≤ length x.taken = rrs_bound y.acked (length x.taken) x.owed lx rises back.climb in
    let a = way_bounds k x.handed x.acked x.sent y.taken (infos lx) (receive_numbers_in_frames ly) there in
    let b = way_bounds k y.handed y.acked y.sent x.taken (infos ly) (receive_numbers_in_frames lx) back in
    omega (arith, there.window, back.window, a.0, a.1, b.0, b.1)

small : (selective extended : Bool) (k : ℕ) → IsSpan selective extended k → k ≤ 127
small true true k h = omega (arith, h)
small true false k h = omega (arith, h)
small false true k h = omega (arith, h)
small false false k h = omega (arith, h)

pub few_at : (selective : Bool) (k n : ℕ) (lx : List Frame) (x : Station) (ly : List Frame) (y : Station) → IsStationPair selective k lx x ly y → Shape n lx x ly y
    → (length lx ≤ 254) × (length ly ≤ 254)
few_at selective k n lx x ly y p shape =
    let most : k ≤ 127 = small selective x.extended k p.4 in
    elim shape [
      | inl a ↦ let ex : length lx ≡ 1 = ap length a.2 in let ey : length ly ≡ 0 = ap length a.3 in (omega arith, omega arith)
      | inr (inl a) ↦ let ex : length lx ≡ 0 = ap length a.2 in let ey : length ly ≡ 1 = ap length a.3 in (omega arith, omega arith)
      | inr (inr a) ↦
          let fx = few_of k lx x ly y p.0.0 p.1.0 a.0.2 a.0.0.2 a.0.5.own in
          let fy = few_of k ly y lx x p.1.0 p.0.0 a.0.3 a.0.1.2 a.0.5.peers in
          (omega (arith, fx), omega (arith, fy))
    ]

few_frames : (selective : Bool) (l : StationLink) → Flows selective l → (length l.from_e ≤ 254) × (length l.from_r ≤ 254)
few_frames selective l g =
    let few = few_at selective g.k l.passes g.fe l.e.station g.fr l.r.station g.stands.pair g.shape in
    let e : length l.from_e ≡ length g.fe = ap length g.stands.lined_x ∙ length-map g.fe _ in
    let r : length l.from_r ≡ length g.fr = ap length g.stands.lined_y ∙ length-map g.fr _ in
    (omega (arith, few.0), omega (arith, few.1))

pub few_wait : Frames → FewWait
few_wait laws s steps free = few_frames s.selective (after s steps) (after_flows laws s steps free)

-- ---- a drain

not_overfull : (l : StationLink) → (length l.from_e ≤ 254) × (length l.from_r ≤ 254) → is_overfull l ≡ true → ⊥
not_overfull l few full =
    elim (or_cases (nat_lt 4096 (length l.from_e)) (nat_lt 4096 (length l.from_r)) full) [
      | inl e ↦ let many = ltb-true 4096 (length l.from_e) e in omega (arith, few.0)
      | inr r ↦ let many = ltb-true 4096 (length l.from_r) r in omega (arith, few.1)
    ]

no_length : (l : List Frame) → length l ≡ 0 → l ≡ []
no_length [] h = refl
no_length (f ∷ fs) h = absurd (let u : ⊥ = omega arith in u)

pub drain_empties : Frames → DrainEmpties
drain_empties laws s steps most free enough =
    let l : StationLink = after s steps in
    let d : StationLink = drained (station_kind s.selective) most l in
    let h = drained_empties laws s.selective most l (after_flows laws s steps free) in
    let b = bound_flows s.selective d h.flows in
    let be : length d.e.station.handed ≡ length l.e.station.handed = ap length h.handed_e in
    let br : length d.r.station.handed ≡ length l.r.station.handed = ap length h.handed_r in
    elim h.ends [
      | inl none ↦ none
      | inr (inl full) ↦ absurd (not_overfull d (few_frames s.selective d h.flows) full)
      | inr (inr more) ↦
          let ze : length h.flows.fe ≡ 0 = omega arith in
          let zr : length h.flows.fr ≡ 0 = omega arith in
          (h.flows.stands.lined_x ∙ ap (map _) (no_length h.flows.fe ze), h.flows.stands.lined_y ∙ ap (map _) (no_length h.flows.fr zr))
    ]
