-- One station acts: what it sends keeps the invariant. Everywhere x acts and y doesn't, and w waited from x before the call.
use Rattle.std.proofs.Common.{if◌then◌else◌, ◌≡◌, ℕ, zero, suc, ◌+◌, ◌-◌, ◌<◌, ◌≤◌, inl, inr, Bool, true, false, not, ◌&&◌, ◌||◌, ltb, List, [], ◌∷◌, ◌++◌, length, Option, refl, sym, ◌∙◌, ap, subst, arith, append_assoc, append-nil, ltb-true}
use Rattle.std.specs.Prelude.{slice_index_or}
use Rattle.std.specs.List.{flat_map}
use Rattle.std.proofs.lemmas.Bool.{cases_Bool, and_parts}
use Rattle.std.proofs.lemmas.Grind.{flat_map-append}
use Rattle.er_base.specs.declared.release.Release.{Release}
use Rattle.hdlc_station_model.specs.declared.phase.Phase.{Phase}
use Rattle.hdlc_station_model.specs.declared.phase.Phase.TheVariants.{Idle, Setting, Up, Down}
use Rattle.hdlc_station_model.specs.Frames.{Frame, Rr}
use Rattle.hdlc_station_model.specs.Stations.{Station, is_up, puts}
use Rattle.hdlc_station_model.specs.Sending.{info_at, can_send, sends_next, sends_up_to, sends_waiting, waiting, frames_again, sends_again, settles}
use Rattle.hdlc_pair_laws.specs.Laws.{IsLosingLineRelease}
use Rattle.hdlc_pair_laws.specs.Invariant.{Climbs, Early, least_mark, greatest_mark, Half, IsStationPair, Both, infos, receive_numbers_in_frames, marks, info_of, receive_numbers_in_frame, marks_in_frame}
use Rattle.hdlc_pair_laws.proofs.Ways.{climbs_le, climbs_high, climbs_push, way_again, way_send, way_shows, way_hand, way_bounds, short_push}
use Rattle.hdlc_pair_laws.proofs.Holding.{holds_again, holds_send, holds_hand}

-- ---- one frame more on the line

pub more : {A : Type 0} (g : Frame → List A) (l : List Frame) (f : Frame) → flat_map g (l ++ f ∷ []) ≡ flat_map g l ++ g f
more g l f = flat_map-append g l (f ∷ []) ∙ ap (λ t. flat_map g l ++ t) (append-nil (g f))

pub same : {A : Type 0} (g : Frame → List A) (l : List Frame) (f : Frame) → g f ≡ [] → flat_map g (l ++ f ∷ []) ≡ flat_map g l
same g l f e = more g l f ∙ ap (λ t. flat_map g l ++ t) e ∙ append-nil (flat_map g l)

-- a frame without numbers
pub quiet_pushed : (selective : Bool) (k : ℕ) (lx : List Frame) (x : Station) (ly : List Frame) (y : Station) (f : Frame) → info_of f ≡ [] → receive_numbers_in_frame f ≡ [] → marks_in_frame selective f ≡ []
    → IsStationPair selective k lx x ly y → IsStationPair selective k (lx ++ f ∷ []) x ly y
quiet_pushed selective k lx x ly y f e1 e2 e3 h = (
  subst (λ i. Half selective k i (marks selective (lx ++ f ∷ [])) (receive_numbers_in_frames ly) x y) (sym (same info_of lx f e1))
      (subst (λ m. Half selective k (infos lx) m (receive_numbers_in_frames ly) x y) (sym (same (marks_in_frame selective) lx f e3)) h.0),
  subst (λ n. Half selective k (infos ly) (marks selective ly) n y x) (sym (same receive_numbers_in_frame lx f e2)) h.1,
  h.2,
  h.3,
  h.4,
)

-- a frame that shows V(R) and is no I frame
pub shown_pushed : (selective : Bool) (k : ℕ) (lx : List Frame) (x : Station) (ly : List Frame) (y : Station) (f : Frame) → info_of f ≡ [] → receive_numbers_in_frame f ≡ length x.taken ∷ [] → marks_in_frame selective f ≡ []
    → IsStationPair selective k lx x ly y → IsStationPair selective k (lx ++ f ∷ []) x ly y
shown_pushed selective k lx x ly y f e1 e2 e3 h = (
  subst (λ i. Half selective k i (marks selective (lx ++ f ∷ [])) (receive_numbers_in_frames ly) x y) (sym (same info_of lx f e1))
      (subst (λ m. Half selective k (infos lx) m (receive_numbers_in_frames ly) x y) (sym (same (marks_in_frame selective) lx f e3)) h.0),
  subst (λ n. Half selective k (infos ly) (marks selective ly) n y x) (sym (more receive_numbers_in_frame lx f ∙ ap (λ t. receive_numbers_in_frames lx ++ t) e2))
      (way_shows k y.handed y.acked y.sent x.taken (infos ly) (receive_numbers_in_frames lx) h.1.0, h.1.1, h.1.2, h.1.3, h.1.4, h.1.5, h.1.6),
  h.2,
  h.3,
  h.4,
)

greatest_at : (c : Bool) (s : ℕ) → 1 ≤ s → greatest_mark c s ≡ 1
greatest_at true s h = omega arith
greatest_at false s h = refl

marks_push : (c : Bool) (s low : ℕ) (ms : List ℕ) → 1 ≤ s → Climbs low ms (greatest_mark c s) → Climbs low (ms ++ 1 ∷ []) (greatest_mark c s)
marks_push c s low ms h climbs =
    let e = greatest_at c s h in
    subst (λ g. Climbs low (ms ++ 1 ∷ []) g) (sym e) (climbs_push low 1 ms (subst (λ g. Climbs low ms g) e climbs))

marks_more : (c : Bool) (s low : ℕ) (ms : List ℕ) → Climbs low ms (greatest_mark c s) → Climbs low (ms ++ 1 ∷ []) (greatest_mark c (s + 1))
marks_more true s low ms h =
    marks_push true (s + 1) low ms (omega arith) (climbs_high low (greatest_mark true s) (greatest_mark true (s + 1)) ms (omega arith) h)
marks_more false s low ms h = marks_push false (s + 1) low ms (omega arith) h

-- an I frame from V(A) to V(S) - 1, again
pub info_pushed : (selective : Bool) (k : ℕ) (lx : List Frame) (x : Station) (ly : List Frame) (y : Station) (n : ℕ) → x.acked ≤ n → n < x.sent
    → IsStationPair selective k lx x ly y → IsStationPair selective k (lx ++ info_at x n ∷ []) x ly y
info_pushed selective k lx x ly y n low high h = (
  subst (λ i. Half selective k i (marks selective (lx ++ info_at x n ∷ [])) (receive_numbers_in_frames ly) x y) (sym (more info_of lx (info_at x n)))
      (subst (λ m. Half selective k (infos lx ++ (n, slice_index_or x.handed n []) ∷ []) m (receive_numbers_in_frames ly) x y) (sym (more (marks_in_frame selective) lx (info_at x n))) (
        way_again k x.handed x.acked x.sent y.taken (infos lx) (receive_numbers_in_frames ly) n low high h.0.0,
        marks_push x.calling x.sent (least_mark x.calling y.taken) (marks selective lx) (omega arith) h.0.1,
        h.0.2,
        h.0.3,
        h.0.4,
        h.0.5,
        holds_again selective k x.handed x.sent (length y.taken) n y.held (infos lx) (omega (arith, h.0.0.window)) high h.0.6,
      )),
  subst (λ n. Half selective k (infos ly) (marks selective ly) n y x) (sym (more receive_numbers_in_frame lx (info_at x n)))
      (way_shows k y.handed y.acked y.sent x.taken (infos ly) (receive_numbers_in_frames lx) h.1.0, h.1.1, h.1.2, h.1.3, h.1.4, h.1.5, h.1.6),
  h.2,
  h.3,
  h.4,
)

early_up : (p : Phase) (c : Bool) (n : ℕ) → is_up p ≡ true → Early p c n
early_up Idle c n h = absurd cc
early_up Setting c n h = absurd cc
early_up Up c n h = tt
early_up Down c n h = absurd cc

-- ---- a call's frames, in their place

pub puts_quiet : (selective : Bool) (k : ℕ) (w : List Frame) (x : Station) (l : List Frame) (y : Station) (f : Frame) → info_of f ≡ [] → receive_numbers_in_frame f ≡ [] → marks_in_frame selective f ≡ []
    → Both selective k w x l y → Both selective k w (puts f x) l y
puts_quiet selective k w x l y f e1 e2 e3 b =
    subst (λ lx. IsStationPair selective k lx x l y) (append_assoc w x.said (f ∷ [])) (quiet_pushed selective k (w ++ x.said) x l y f e1 e2 e3 b)

pub puts_shown : (selective : Bool) (k : ℕ) (w : List Frame) (x : Station) (l : List Frame) (y : Station) (f : Frame) → info_of f ≡ [] → receive_numbers_in_frame f ≡ length x.taken ∷ [] → marks_in_frame selective f ≡ []
    → Both selective k w x l y → Both selective k w (puts f x) l y
puts_shown selective k w x l y f e1 e2 e3 b =
    subst (λ lx. IsStationPair selective k lx x l y) (append_assoc w x.said (f ∷ [])) (shown_pushed selective k (w ++ x.said) x l y f e1 e2 e3 b)

again_keeps : (selective : Bool) (k : ℕ) (w : List Frame) (x : Station) (l : List Frame) (y : Station) (n : ℕ) → x.acked + n ≤ x.sent
    → Both selective k w x l y → IsStationPair selective k (w ++ (x.said ++ frames_again n x)) x l y
again_keeps selective k w x l y zero h b = subst (λ t. IsStationPair selective k (w ++ t) x l y) (sym (append-nil x.said)) b
again_keeps selective k w x l y (suc n) h b =
    let e : (w ++ (x.said ++ frames_again n x)) ++ info_at x (x.acked + n) ∷ [] ≡ w ++ (x.said ++ (frames_again n x ++ info_at x (x.acked + n) ∷ [])) =
    append_assoc w (x.said ++ frames_again n x) (info_at x (x.acked + n) ∷ []) ∙ ap (λ t. w ++ t) (append_assoc x.said (frames_again n x) (info_at x (x.acked + n) ∷ [])) in
    subst (λ lx. IsStationPair selective k lx x l y) e
    (info_pushed selective k (w ++ (x.said ++ frames_again n x)) x l y (x.acked + n) (omega arith) (omega arith)
    (again_keeps selective k w x l y n (omega arith) b))

pub sends_again_keeps : (selective : Bool) (k : ℕ) (w : List Frame) (x : Station) (l : List Frame) (y : Station) → Both selective k w x l y → Both selective k w (sends_again x) l y
sends_again_keeps selective k w x l y b =
    let le = climbs_le x.acked (length y.taken) (receive_numbers_in_frames l) b.0.0.climb in
    let bounds = way_bounds k x.handed x.acked x.sent y.taken (infos (w ++ x.said)) (receive_numbers_in_frames l) b.0.0 in
    again_keeps selective k w x l y (x.sent - x.acked) (omega (arith, bounds.0, bounds.1)) b

sends_next_keeps : (selective : Bool) (k : ℕ) (w : List Frame) (x : Station) (l : List Frame) (y : Station) → can_send x ≡ true → x.sent < length x.handed
    → Both selective k w x l y → Both selective k w (sends_next x) l y
sends_next_keeps selective k w x l y can some b =
    let first = and_parts (is_up x.phase && not x.busy && ltb (x.sent - x.acked) x.window) (x.calling || ltb 0 (length x.taken)) can in
    let second = and_parts (is_up x.phase && not x.busy) (ltb (x.sent - x.acked) x.window) first.0 in
    let third = and_parts (is_up x.phase) (not x.busy) second.0 in
    let room : x.sent - x.acked < x.window = ltb-true (x.sent - x.acked) x.window second.1 in
    let lx : List Frame = w ++ x.said in
    let f : Frame = info_at x x.sent in
    subst (λ lz. IsStationPair selective k lz (record x { sent = x.sent + 1 }) l y) (append_assoc w x.said (f ∷ [])) (
      subst (λ i. Half selective k i (marks selective (lx ++ f ∷ [])) (receive_numbers_in_frames l) (record x { sent = x.sent + 1 }) y) (sym (more info_of lx f))
          (subst (λ m. Half selective k (infos lx ++ (x.sent, slice_index_or x.handed x.sent []) ∷ []) m (receive_numbers_in_frames l) (record x { sent = x.sent + 1 }) y) (sym (more (marks_in_frame selective) lx f)) (
            way_send k x.handed x.acked x.sent y.taken (infos lx) (receive_numbers_in_frames l) (omega (arith, b.0.3)) some b.0.0,
            marks_more x.calling x.sent (least_mark x.calling y.taken) (marks selective lx) b.0.1,
            early_up x.phase x.calling (x.sent + 1) third.0,
            b.0.3,
            b.0.4,
            b.0.5,
            holds_send selective k x.handed x.sent (length y.taken) y.held (infos lx) b.0.6,
          )),
      subst (λ n. Half selective k (infos l) (marks selective l) n y x) (sym (more receive_numbers_in_frame lx f))
          (way_shows k y.handed y.acked y.sent x.taken (infos l) (receive_numbers_in_frames lx) b.1.0, b.1.1, b.1.2, b.1.3, b.1.4, b.1.5, b.1.6),
      b.2,
      b.3,
      b.4,
    )

sends_up_to_keeps : (selective : Bool) (k : ℕ) (w : List Frame) (n : ℕ) (x : Station) (l : List Frame) (y : Station) → x.sent + n ≤ length x.handed
    → Both selective k w x l y → Both selective k w (sends_up_to n x) l y
sends_up_to_keeps selective k w zero x l y h b = b
sends_up_to_keeps selective k w (suc n) x l y h b =
    elim (cases_Bool (can_send x)) [
      | inl can ↦ rw can (sends_up_to_keeps selective k w n (sends_next x) l y (omega arith) (sends_next_keeps selective k w x l y can (omega arith) b))
      | inr cannot ↦ rw cannot b
    ]

pub sends_waiting_keeps : (selective : Bool) (k : ℕ) (w : List Frame) (x : Station) (l : List Frame) (y : Station) → Both selective k w x l y → Both selective k w (sends_waiting x) l y
sends_waiting_keeps selective k w x l y b = sends_up_to_keeps selective k w (waiting x) x l y (omega (arith, b.0.0.given)) b

pub settles_keeps : (selective : Bool) (k : ℕ) (w : List Frame) (x : Station) (l : List Frame) (y : Station) → Both selective k w x l y → Both selective k w (settles x) l y
settles_keeps selective k w x l y b =
    elim (cases_Bool x.owed) [
      | inl owed ↦ subst (λ (o : Bool). Both selective k w (if o then record (puts (Rr (length x.taken)) x) { owed = false } else x) l y) (sym owed)
          (puts_shown selective k w x l y (Rr (length x.taken)) refl refl refl b)
      | inr owes ↦ subst (λ (o : Bool). Both selective k w (if o then record (puts (Rr (length x.taken)) x) { owed = false } else x) l y) (sym owes) b
    ]

pub hand_keeps : (selective : Bool) (k : ℕ) (w : List Frame) (x : Station) (l : List Frame) (y : Station) (p : List ℕ) → length p ≤ 1026
    → Both selective k w x l y → Both selective k w (record x { handed = x.handed ++ p ∷ [] }) l y
hand_keeps selective k w x l y p short b = (
  (way_hand k x.handed x.acked x.sent y.taken (infos (w ++ x.said)) (receive_numbers_in_frames l) p b.0.0, b.0.1, b.0.2, b.0.3, short_push x.handed p b.0.4 short, b.0.5, holds_hand selective k x.handed x.sent (length y.taken) p y.held (infos (w ++ x.said)) b.0.0.given b.0.6),
  b.1,
  b.2,
  b.3,
  b.4,
)

-- a release keeps what was sent and taken
pub down_keeps : (selective : Bool) (k : ℕ) (w : List Frame) (x : Station) (l : List Frame) (y : Station) (r : Option Release) → IsLosingLineRelease r
    → Both selective k w x l y → Both selective k w (record x { phase = Down; released = r }) l y
down_keeps selective k w x l y r lawful b = ((b.0.0, b.0.1, tt, b.0.3, b.0.4, lawful, b.0.6), b.1, b.2, b.3, b.4)
