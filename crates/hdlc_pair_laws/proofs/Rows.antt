-- One station acts: the first frame that waits goes, or stands twice, and what stations of both kinds do at it keeps the invariant.
use Rattle.std.proofs.Common.{◌≡◌, ℕ, zero, suc, ◌+◌, ◌-◌, ◌%◌, ◌<◌, ◌≤◌, inl, inr, Bool, true, false, not, eqb, List, [], ◌∷◌, ◌++◌, length, Option, Some, refl, sym, ◌∙◌, ap, subst, arith, eq-eqb, eqb-true}
use Rattle.std.proofs.lemmas.Bool.{cases_Bool, cases_lt}
use Rattle.er_base.specs.declared.cause.Cause.TheVariants.{PeerDisconnected}
use Rattle.er_base.specs.Causes.{release_of}
use Rattle.hdlc_station_model.specs.Frames.{Frame, Info, Rr, Rej, Srej, SetUp, Disc, Dm, Ua, modulo, set_up}
use Rattle.hdlc_station_model.specs.Stations.{Station}
use Rattle.hdlc_station_model.specs.Sending.{station_down_for_cause}
use Rattle.hdlc_station_model.specs.Receiving.{number_shown_as, acknowledges, acknowledging, by_number, comes_up, row_idle}
use Rattle.hdlc_pair_laws.specs.Invariant.{Climbs, least_mark, greatest_mark, Half, IsSpan, IsStationPair, Both, infos, receive_numbers_in_frames, marks}
use Rattle.hdlc_pair_laws.proofs.Ways.{climbs_le, climbs_low, way_ack, way_number_gone, way_number_twice, way_frame_gone, way_some, way_frame_twice, way_bounds}
use Rattle.hdlc_pair_laws.proofs.Holding.{holds_gone, holds_twice}
use Rattle.hdlc_pair_laws.proofs.Keeps.{puts_quiet, down_keeps}
use Rattle.hdlc_pair_laws.proofs.Hearing.{MayCome}

-- ---- N(R)

pub found : (e : Bool) (n a r : ℕ) → a ≤ r → r ≤ a + n → n < modulo e → number_shown_as e a n (r % modulo e) ≡ Some r
found true zero a r low high small =
    let same : a ≡ r = omega arith in
    rw (eq-eqb (a % 128) (r % 128) (ap (λ t. t % 128) same), same) refl
found true (suc n) a r low high small =
    elim (cases_lt a r) [
      | inl lower ↦
          let differs : eqb (a % 128) (r % 128) ≡ false = elim (cases_Bool (eqb (a % 128) (r % 128))) [
            | inl e ↦ absurd (let s : a % 128 ≡ r % 128 = eqb-true (a % 128) (r % 128) e in let t : a ≡ r = omega arith in let u : ⊥ = omega arith in u)
            | inr e ↦ e
          ] in
          rw differs (found true n (a + 1) r (omega arith) (omega arith) (omega arith))
      | inr above ↦
          let same : a ≡ r = omega arith in
          rw (eq-eqb (a % 128) (r % 128) (ap (λ t. t % 128) same), same) refl
    ]
found false zero a r low high small =
    let same : a ≡ r = omega arith in
    rw (eq-eqb (a % 8) (r % 8) (ap (λ t. t % 8) same), same) refl
found false (suc n) a r low high small =
    elim (cases_lt a r) [
      | inl lower ↦
          let differs : eqb (a % 8) (r % 8) ≡ false = elim (cases_Bool (eqb (a % 8) (r % 8))) [
            | inl e ↦ absurd (let s : a % 8 ≡ r % 8 = eqb-true (a % 8) (r % 8) e in let t : a ≡ r = omega arith in let u : ⊥ = omega arith in u)
            | inr e ↦ e
          ] in
          rw differs (found false n (a + 1) r (omega arith) (omega arith) (omega arith))
      | inr above ↦
          let same : a ≡ r = omega arith in
          rw (eq-eqb (a % 8) (r % 8) (ap (λ t. t % 8) same), same) refl
    ]

-- each number of a window shows itself
pub span_below : (selective e : Bool) (k : ℕ) → IsSpan selective e k → k < modulo e
span_below true true k h = omega arith
span_below true false k h = omega arith
span_below false true k h = omega arith
span_below false false k h = omega arith

-- the first N(R) that waits towards x is named
pub named_is : (selective : Bool) (k r : ℕ) (i : List (ℕ × List ℕ)) (m ns : List ℕ) (x y : Station) → IsSpan selective x.extended k → Half selective k i m (r ∷ ns) x y
    → number_shown_as x.extended x.acked (x.sent - x.acked) (r % modulo x.extended) ≡ Some r
named_is selective k r i m ns x y span h =
    let w = h.0 in
    let b = way_bounds k x.handed x.acked x.sent y.taken i (r ∷ ns) w in
    let le : r ≤ length y.taken = climbs_le r (length y.taken) ns w.climb.1 in
    let below : k < modulo x.extended = span_below selective x.extended k span in
    found x.extended (x.sent - x.acked) x.acked r w.climb.0 (omega (arith, b.0, b.1)) (omega (arith, w.window, below))

pub half_ack : (selective : Bool) (k r : ℕ) (i : List (ℕ × List ℕ)) (m ns : List ℕ) (x y : Station) → Half selective k i m (r ∷ ns) x y → Half selective k i m (r ∷ ns) (acknowledges r x) y
half_ack selective k r i m ns x y h = (way_ack k x.handed x.acked x.sent y.taken i ns r h.0.climb.0 h.0, h.1, h.2, h.3, h.4, h.5, h.6)

pub half_shown : (selective : Bool) (k r : ℕ) (i : List (ℕ × List ℕ)) (m ns : List ℕ) (x y : Station) → Half selective k i m (r ∷ ns) x y → Half selective k i m ns x y
half_shown selective k r i m ns x y h = (way_number_gone k x.handed x.acked x.sent y.taken i ns r h.0, h.1, h.2, h.3, h.4, h.5, h.6)

half_shown_twice : (selective : Bool) (k r : ℕ) (i : List (ℕ × List ℕ)) (m ns : List ℕ) (x y : Station) → Half selective k i m (r ∷ ns) x y → Half selective k i m (r ∷ r ∷ ns) x y
half_shown_twice selective k r i m ns x y h = (way_number_twice k x.handed x.acked x.sent y.taken i ns r h.0, h.1, h.2, h.3, h.4, h.5, h.6)

-- ---- the first frame goes, or stands twice

greatest_le : (c : Bool) (sent : ℕ) → greatest_mark c sent ≤ 1
greatest_le true sent = omega arith
greatest_le false sent = omega arith

-- no frame of the other kind waits: its mark would be above the greatest one
pub no_foreign : (c : Bool) (taken : List (List ℕ)) (sent : ℕ) (m : List ℕ) → Climbs (least_mark c taken) (2 ∷ m) (greatest_mark c sent) → ⊥
no_foreign c taken sent m h = let above : 2 ≤ greatest_mark c sent = climbs_le 2 (greatest_mark c sent) m h.1 in let below = greatest_le c sent in omega (arith, above, below)

half_info_gone : (selective : Bool) (k n : ℕ) (p : List ℕ) (i : List (ℕ × List ℕ)) (m ns : List ℕ) (y x : Station) → Half selective k ((n, p) ∷ i) (1 ∷ m) ns y x → Half selective k i m ns y x
half_info_gone selective k n p i m ns y x h = (
  way_frame_gone k y.handed y.acked y.sent x.taken i ns (n, p) h.0,
  climbs_low (least_mark y.calling x.taken) 1 (greatest_mark y.calling y.sent) m h.1.0 h.1.1,
  h.2,
  h.3,
  h.4,
  h.5,
  holds_gone selective k y.handed y.sent (length x.taken) (n, p) x.held i h.6,
)

half_info_twice : (selective : Bool) (k n : ℕ) (p : List ℕ) (i : List (ℕ × List ℕ)) (m ns : List ℕ) (y x : Station)
    → Half selective k ((n, p) ∷ i) (1 ∷ m) ns y x → Half selective k ((n, p) ∷ (n, p) ∷ i) (1 ∷ 1 ∷ m) ns y x
half_info_twice selective k n p i m ns y x h =
    (way_frame_twice k y.handed y.acked y.sent x.taken i ns (n, p) h.0, (h.1.0, (omega arith, h.1.1)), h.2, h.3, h.4, h.5, holds_twice selective k y.handed y.sent (length x.taken) (n, p) x.held i (way_some k y.handed y.acked y.sent x.taken i ns (n, p) h.0) h.6)

half_mark_gone : (selective : Bool) (k : ℕ) (i : List (ℕ × List ℕ)) (m ns : List ℕ) (y x : Station) → Half selective k i (0 ∷ m) ns y x → Half selective k i m ns y x
half_mark_gone selective k i m ns y x h = (h.0, climbs_low (least_mark y.calling x.taken) 0 (greatest_mark y.calling y.sent) m h.1.0 h.1.1, h.2, h.3, h.4, h.5, h.6)

half_mark_twice : (selective : Bool) (k : ℕ) (i : List (ℕ × List ℕ)) (m ns : List ℕ) (y x : Station) → Half selective k i (0 ∷ m) ns y x → Half selective k i (0 ∷ 0 ∷ m) ns y x
half_mark_twice selective k i m ns y x h = (h.0, (h.1.0, (omega arith, h.1.1)), h.2, h.3, h.4, h.5, h.6)

pub first_gone : (selective : Bool) (k : ℕ) (lx : List Frame) (x : Station) (f : Frame) (fs : List Frame) (y : Station) → IsStationPair selective k lx x (f ∷ fs) y → IsStationPair selective k lx x fs y
first_gone selective k lx x (Info n r p) fs y h =
    (half_shown selective k r (infos lx) (marks selective lx) (receive_numbers_in_frames fs) x y h.0, half_info_gone selective k n p (infos fs) (marks selective fs) (receive_numbers_in_frames lx) y x h.1, h.2, h.3, h.4)
first_gone selective k lx x (Rr r) fs y h = (half_shown selective k r (infos lx) (marks selective lx) (receive_numbers_in_frames fs) x y h.0, h.1, h.2, h.3, h.4)
first_gone true k lx x (Rej r) fs y h = absurd (no_foreign y.calling x.taken y.sent (marks true fs) h.1.1)
first_gone false k lx x (Rej r) fs y h = (half_shown false k r (infos lx) (marks false lx) (receive_numbers_in_frames fs) x y h.0, h.1, h.2, h.3, h.4)
first_gone true k lx x (Srej r) fs y h = h
first_gone false k lx x (Srej r) fs y h = absurd (no_foreign y.calling x.taken y.sent (marks false fs) h.1.1)
first_gone selective k lx x SetUp fs y h = (h.0, half_mark_gone selective k (infos fs) (marks selective fs) (receive_numbers_in_frames lx) y x h.1, h.2, h.3, h.4)
first_gone selective k lx x Disc fs y h = h
first_gone selective k lx x Dm fs y h = h
first_gone selective k lx x (Ua final) fs y h = h

pub first_twice : (selective : Bool) (k : ℕ) (lx : List Frame) (x : Station) (f : Frame) (fs : List Frame) (y : Station) → IsStationPair selective k lx x (f ∷ fs) y → IsStationPair selective k lx x (f ∷ f ∷ fs) y
first_twice selective k lx x (Info n r p) fs y h = (
  half_shown_twice selective k r (infos lx) (marks selective lx) (receive_numbers_in_frames fs) x y h.0,
  half_info_twice selective k n p (infos fs) (marks selective fs) (receive_numbers_in_frames lx) y x h.1,
  h.2,
  h.3,
  h.4,
)
first_twice selective k lx x (Rr r) fs y h = (half_shown_twice selective k r (infos lx) (marks selective lx) (receive_numbers_in_frames fs) x y h.0, h.1, h.2, h.3, h.4)
first_twice true k lx x (Rej r) fs y h = absurd (no_foreign y.calling x.taken y.sent (marks true fs) h.1.1)
first_twice false k lx x (Rej r) fs y h = (half_shown_twice false k r (infos lx) (marks false lx) (receive_numbers_in_frames fs) x y h.0, h.1, h.2, h.3, h.4)
first_twice true k lx x (Srej r) fs y h = h
first_twice false k lx x (Srej r) fs y h = absurd (no_foreign y.calling x.taken y.sent (marks false fs) h.1.1)
first_twice selective k lx x SetUp fs y h = (h.0, half_mark_twice selective k (infos fs) (marks selective fs) (receive_numbers_in_frames lx) y x h.1, h.2, h.3, h.4)
first_twice selective k lx x Disc fs y h = h
first_twice selective k lx x Dm fs y h = h
first_twice selective k lx x (Ua final) fs y h = h

-- ---- the set-up frame

no_mark : (c : Bool) (taken : List (List ℕ)) → least_mark c taken ≤ 0 → (c ≡ true) × (length taken ≡ 0)
no_mark true taken h = (refl, omega arith)
no_mark false taken h = absurd (let u : ⊥ = omega arith in u)

-- where it stands in front, its receiver is the called station and took nothing
pub set_up_at : (selective : Bool) (k : ℕ) (lx : List Frame) (x : Station) (fs : List Frame) (y : Station) → IsStationPair selective k lx x (SetUp ∷ fs) y → (x.calling ≡ false) × (length x.taken ≡ 0)
set_up_at selective k lx x fs y h = let m = no_mark y.calling x.taken h.1.1.0 in (h.2 ∙ ap not m.0, m.1)

pub may_come : (selective : Bool) (k : ℕ) (lx : List Frame) (x : Station) (f : Frame) (fs : List Frame) (y : Station) → IsStationPair selective k lx x (f ∷ fs) y → MayCome selective x.calling f
may_come selective k lx x (Info n r p) fs y h = tt
may_come selective k lx x (Rr r) fs y h = tt
may_come true k lx x (Rej r) fs y h = absurd (no_foreign y.calling x.taken y.sent (marks true fs) h.1.1)
may_come false k lx x (Rej r) fs y h = refl
may_come true k lx x (Srej r) fs y h = refl
may_come false k lx x (Srej r) fs y h = absurd (no_foreign y.calling x.taken y.sent (marks false fs) h.1.1)
may_come selective k lx x SetUp fs y h = (set_up_at selective k lx x fs y h).0
may_come selective k lx x Disc fs y h = tt
may_come selective k lx x Dm fs y h = tt
may_come selective k lx x (Ua final) fs y h = tt

-- ---- what the rows of both kinds do

pub least_le : (c : Bool) (taken : List (List ℕ)) → least_mark c taken ≤ 1
least_le true taken = omega arith
least_le false taken = omega arith

-- a frame that shows this number acknowledges it, and then the rest of the frame
pub numbered_keeps : (selective : Bool) (k : ℕ) (w : List Frame) (x : Station) (r : ℕ) (fs : List Frame) (y : Station) (rest : Station → Station)
    → IsSpan selective x.extended k → Half selective k (infos (w ++ x.said)) (marks selective (w ++ x.said)) (r ∷ receive_numbers_in_frames fs) x y
    → (Half selective k (infos (w ++ x.said)) (marks selective (w ++ x.said)) (r ∷ receive_numbers_in_frames fs) (acknowledges r x) y → Both selective k w (rest (acknowledges r x)) fs y)
    → Both selective k w (by_number (r % modulo x.extended) rest x) fs y
numbered_keeps selective k w x r fs y rest span h keeps =
    let e = named_is selective k r (infos (w ++ x.said)) (marks selective (w ++ x.said)) (receive_numbers_in_frames fs) x y span h in
    subst (λ (o : Option ℕ). Both selective k w (acknowledging o rest x) fs y) (sym e)
    (keeps (half_ack selective k r (infos (w ++ x.said)) (marks selective (w ++ x.said)) (receive_numbers_in_frames fs) x y h))

pub disconnects : (selective : Bool) (k : ℕ) (w : List Frame) (x : Station) (l : List Frame) (y : Station) → Both selective k w x l y → Both selective k w (station_down_for_cause PeerDisconnected x) l y
disconnects selective k w x l y b = down_keeps selective k w x l y (Some (release_of PeerDisconnected)) (refl, inr (refl, inr (inr refl))) b

pub up_keeps : (selective : Bool) (k : ℕ) (w : List Frame) (x : Station) (l : List Frame) (y : Station) → Both selective k w x l y → Both selective k w (comes_up x) l y
up_keeps selective k w x l y b = ((b.0.0, b.0.1, tt, b.0.3, b.0.4, b.0.5, b.0.6), b.1, b.2, b.3, b.4)

pub set_up_idle : (selective : Bool) (k : ℕ) (w : List Frame) (e : Bool) (x : Station) (l : List Frame) (y : Station) → Both selective k w x l y → Both selective k w (row_idle x (set_up e) []) l y
set_up_idle selective k w true x l y b = puts_quiet selective k w (comes_up x) l y (Ua true) refl refl refl (up_keeps selective k w x l y b)
set_up_idle selective k w false x l y b = puts_quiet selective k w (comes_up x) l y (Ua true) refl refl refl (up_keeps selective k w x l y b)
