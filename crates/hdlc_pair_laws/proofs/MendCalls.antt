-- Each call keeps what a recovery rests on, whatever layers stand above. Everywhere x acts and y doesn't, w waited from x before the call, and
-- c says whether x is the calling station.
use Rattle.std.proofs.Common.{◌≡◌, ◌⊎◌, ℕ, ◌<◌, ◌≤◌, true≢false, inl, inr, Bool, true, false, not, ◌||◌, List, [], ◌∷◌, ◌++◌, Option, Some, None, refl, sym, ◌∙◌, ap, subst, arith, append-nil}
use Rattle.std.proofs.lemmas.Bool.{cond_both}
use Rattle.er_base.specs.declared.release.Release.{Release}
use Rattle.hdlc_frames.specs.Laws.{ControlReadsBack}
use Rattle.hdlc_station_model.specs.declared.phase.Phase.TheVariants.{Idle, Up}
use Rattle.hdlc_station_model.specs.Frames.{Frame}
use Rattle.hdlc_station_model.specs.Stations.{Station, is_up, is_down, made, settled}
use Rattle.hdlc_station_model.specs.Calls.{starts, hands, finishes, ticks, closes}
use Rattle.hdlc_station_model.specs.Selective.{receives_as}
use Rattle.hdlc_station_model.specs.Reports.{is_release, ReleasesAreTold}
use Rattle.hdlc_pair_laws.specs.Invariant.{IsStationPair, Both, infos, receive_numbers_in_frames}
use Rattle.hdlc_pair_laws.specs.Keeping.{found, FramesGive}
use Rattle.hdlc_station_model.specs.Repeating.{MayRepeat}
use Rattle.hdlc_station_model.specs.Events.{is_late}
use Rattle.hdlc_pair_laws.specs.EachEnd.{HasExpiryLeft}
use Rattle.hdlc_pair_laws.specs.Mending.{Own, Shows, Progress, Lossy, HalfTicked, Ticked, Shown, OneWay, Reached, MayHear, MaySpeak, Began, Between, Within}
use Rattle.hdlc_pair_laws.specs.Repairs.{MendKeeps, MendEnds, OneWayEnds}
use Rattle.hdlc_pair_laws.proofs.Telling.{phases_stay, ticks_tell}
use Rattle.hdlc_pair_laws.proofs.Sounds.{own_gone, own_twice}
use Rattle.hdlc_pair_laws.proofs.SoundCalls.{InCall, finishes_leaves, hands_in, ticks_in, closes_in, received_lives}
use Rattle.hdlc_pair_laws.proofs.Recovers.{ReachedIn, turned_reached, settled_reached, finished_reached, handed_reached, received_reached}
use Rattle.hdlc_pair_laws.proofs.Ticks.{calling_ticks, called_ticks, called_phase, both_phases, none_taken}
use Rattle.hdlc_pair_laws.proofs.OneTick.{up_ticks, late_mends, ticks_some, early_stopped}
use Rattle.hdlc_pair_laws.proofs.EachEnd.{way_acked, up_stopped}
use Rattle.hdlc_pair_laws.proofs.Ways.{way_bounds}
use Rattle.hdlc_pair_laws.proofs.Events.{swap, ticks_keeps}
use Rattle.hdlc_pair_laws.proofs.Mending.{some_swap}
use Rattle.hdlc_pair_laws.proofs.Recovered.{mended}

-- ---- which station came up first

began_kept : (c : Bool) (x t y : Station) → (t.phase ≡ Idle → x.phase ≡ Idle) → (is_up x.phase ≡ false → is_up t.phase ≡ false) → Began c x y → Began c t y
began_kept true x t y went asleep h = (λ idle. asleep (h.0 idle), λ idle. h.1 (went idle))
began_kept false x t y went asleep h = (λ idle. h.0 (went idle), h.1)

-- a frame of y came, which was never in Idle
began_heard : (c : Bool) (x t y : Station) → (t.phase ≡ Idle → x.phase ≡ Idle) → (y.phase ≡ Idle → ⊥) → Began c x y → Began c t y
began_heard true x t y went never h = (λ idle. absurd (never idle), λ idle. h.1 (went idle))
began_heard false x t y went never h = (λ idle. h.0 (went idle), h.1)

-- ---- the calls

not_not : (c : Bool) → c ≡ not (not c)
not_not true = refl
not_not false = refl

began_turned : (c : Bool) (x y : Station) → Began c x y → Began (not c) y x
began_turned true x y h = h
began_turned false x y h = h

turned : (p : Progress) (selective c : Bool) (wd : ℕ) (lx : List Frame) (x : Station) (ly : List Frame) (y : Station) → Between p selective c wd lx x ly y
    → Between p selective (not c) wd ly y lx x
turned p selective c wd lx x ly y h = record {
  own = h.peers;
  peers = subst (λ (b : Bool). Own b wd lx x) (not_not c) h.own;
  rests = h.peer_rests;
  peer_rests = h.rests;
  began = began_turned c x y h.began;
  reached = turned_reached p selective c lx x ly y h.reached;
}

started : (selective extended : Bool) (wd n2 t1 now : ℕ) → Within Lossy selective true wd [] (starts now (settled (made true extended wd n2 t1))) [] (made false extended wd n2 t1)
started selective extended wd n2 t1 now = record {
  own = (refl, refl, refl, λ called none. refl, λ none. absurd cc, refl, λ live. (tt, tt), λ idle. absurd cc);
  peers = (refl, refl, refl, λ called none. refl, (refl, refl), refl, λ live. tt, λ idle. (refl, refl));
  rests = inl refl;
  given = omega arith;
  peer_rests = (inl refl, λ live. refl);
  began = (λ idle. refl, λ idle. absurd cc);
  reached = tt;
}

begins : (p : Progress) (selective c : Bool) (k wd : ℕ) (lx : List Frame) (x : Station) (ly : List Frame) (y : Station) → IsStationPair selective k lx x ly y
    → Between p selective c wd lx x ly y → Within p selective c wd lx (settled x) ly y
begins p selective c k wd lx x ly y b h = record {
  own = subst (λ (t : List Frame). Own c wd t x) (sym (append-nil lx)) h.own;
  peers = h.peers;
  rests = h.rests.0;
  given = b.0.0.given;
  peer_rests = h.peer_rests;
  began = began_kept c x (settled x) y (λ idle. idle) (λ e. e) h.began;
  reached = subst (λ (t : List Frame). Reached p selective c t (settled x) ly y) (sym (append-nil lx)) (settled_reached p selective c lx x ly y h.reached);
}

-- behind a part of a call
module _ (p q : Progress) (selective c : Bool) (wd : ℕ) (w : List Frame) (x : Station) (l l' : List Frame) (y : Station) where
  behind : (t : Station) → InCall c wd w x.phase t → Own (not c) wd l' y → Began c t y → ReachedIn q selective c w t l' y → Within p selective c wd w x l y
      → Within q selective c wd w t l' y
  behind t i peers began reached h = record { own = i.0; peers = peers; rests = i.1; given = i.2; peer_rests = h.peer_rests; began = began; reached = reached }

received : ControlReadsBack → (p : Progress) (selective c : Bool) (k wd : ℕ) (w : List Frame) (now : ℕ) (x : Station) (f : Frame) (fs : List Frame) (y : Station) → MayHear p
    → (selective ≡ true → k ≡ wd) → Both selective k w x (f ∷ fs) y → Within p selective c wd w x (f ∷ fs) y → Within p selective c wd w (receives_as selective now (found y f) x) fs y
received law p selective c k wd w now x f fs y may wide b h =
    let t : Station = receives_as selective now (found y f) x in
    let i = (received_lives law selective k c wd w now x f fs y b h.own).0 in
    behind p p selective c wd w x (f ∷ fs) fs y t i (own_gone (not c) wd f fs y h.peers)
    (began_heard c x t y i.3 (λ idle. let n : f ∷ fs ≡ [] = (h.peers.7 idle).0 in let u : ⊥ = cc in u) h.began)
    (received_reached law p selective c k wd w now x f fs y may wide b h.own h.peers h.reached) h

handed : (p : Progress) (selective c : Bool) (wd : ℕ) (w : List Frame) (now : ℕ) (q : List ℕ) (x : Station) (l : List Frame) (y : Station) → MaySpeak p c → Within p selective c wd w x l y
    → Within p selective c wd w (hands now q x) l y
handed p selective c wd w now q x l y may h =
    let i = hands_in c wd w now q x h.given h.own in
    behind p p selective c wd w x l l y (hands now q x) i h.peers (began_kept c x (hands now q x) y i.3 (λ asleep. ap is_up (phases_stay.hands now q x) ∙ asleep) h.began)
    (handed_reached p selective c w now q x l y may h.own.0 h.reached) h

finished : (p : Progress) (selective c : Bool) (wd : ℕ) (w : List Frame) (x : Station) (l : List Frame) (y : Station) → MaySpeak p c → Within p selective c wd w x l y
    → Between p selective c wd (w ++ (finishes x).said) (finishes x) l y
finished p selective c wd w x l y may h =
    let v = finishes_leaves c wd w x.phase x (h.own, h.rests, h.given, λ idle. idle) in
    record {
      own = v.0;
      peers = h.peers;
      rests = v.1;
      peer_rests = h.peer_rests;
      began = began_kept c x (finishes x) y v.2 (λ asleep. ap is_up (phases_stay.finishes x) ∙ asleep) h.began;
      reached = finished_reached p selective c w x l y may h.reached;
    }

-- ---- before the tick

ticked : (selective c : Bool) (wd : ℕ) (w : List Frame) (now : ℕ) (x : Station) (l : List Frame) (y : Station) → Within Lossy selective c wd w x l y → Within Lossy selective c wd w (ticks now x) l y
ticked selective c wd w now x l y h =
    let i = ticks_in c wd w now x h.given h.own in
    behind Lossy Lossy selective c wd w x l l y (ticks now x) i h.peers (began_kept c x (ticks now x) y i.3 (ticks_tell.asleep now x) h.began) tt h

closed_asleep : (x : Station) → is_up x.phase ≡ false → is_up (closes x).phase ≡ false
closed_asleep x asleep = cond_both (is_down x.phase) x _ (λ t. is_up t.phase ≡ false) (λ e. asleep) (λ e. refl)

closed : (selective c : Bool) (wd : ℕ) (w : List Frame) (x : Station) (l : List Frame) (y : Station) → Within Lossy selective c wd w x l y → Within Lossy selective c wd w (closes x) l y
closed selective c wd w x l y h =
    let i = closes_in c wd w x h.given h.own in
    behind Lossy Lossy selective c wd w x l l y (closes x) i h.peers (began_kept c x (closes x) y i.3 (closed_asleep x) h.began) tt h

lost : (selective c : Bool) (wd : ℕ) (lx : List Frame) (x : Station) (f : Frame) (fs : List Frame) (y : Station) → Between Lossy selective c wd lx x (f ∷ fs) y → Between Lossy selective c wd lx x fs y
lost selective c wd lx x f fs y h =
    record { own = h.own; peers = own_gone (not c) wd f fs y h.peers; rests = h.rests; peer_rests = h.peer_rests; began = h.began; reached = tt }

repeated : (selective c : Bool) (wd : ℕ) (lx : List Frame) (x : Station) (f : Frame) (fs : List Frame) (y : Station) → Between Lossy selective c wd lx x (f ∷ fs) y
    → Between Lossy selective c wd lx x (f ∷ f ∷ fs) y
repeated selective c wd lx x f fs y h =
    record { own = h.own; peers = own_twice (not c) wd f fs y h.peers; rests = h.rests; peer_rests = h.peer_rests; began = h.began; reached = tt }

-- ---- the tick

calling_ticked : (selective : Bool) (k wd : ℕ) (w : List Frame) (now : ℕ) (x : Station) (l : List Frame) (y : Station) → w ≡ [] → l ≡ [] → IsStationPair selective k w x l y
    → Between Lossy selective true wd w x l y → is_down x.phase ≡ false → is_down y.phase ≡ false → MayRepeat now x → Within HalfTicked selective true wd w (ticks now (settled x)) l y
calling_ticked selective k wd w now x l y nw nl p h live_x live_y may =
    let z : Station = settled x in
    let t : Station = ticks now z in
    let g = begins Lossy selective true k wd w x l y p h in
    let i = ticks_in true wd w now z g.given g.own in
    behind Lossy HalfTicked selective true wd w z l l y t i g.peers (began_kept true z t y i.3 (ticks_tell.asleep now z) g.began)
    (calling_ticks selective k wd w now z l y nw nl refl p h.own h.peers h.rests h.peer_rests h.began live_x live_y may) g

called_ticked : (selective : Bool) (k wd : ℕ) (w : List Frame) (now : ℕ) (x : Station) (l : List Frame) (y : Station) → IsStationPair selective k w x l y
    → Between HalfTicked selective false wd w x l y → MayRepeat now x → Within Ticked selective false wd w (ticks now (settled x)) l y
called_ticked selective k wd w now x l y p h may =
    let z : Station = settled x in
    let t : Station = ticks now z in
    let g = begins HalfTicked selective false k wd w x l y p h in
    let i = ticks_in false wd w now z g.given g.own in
    let b : Both selective k w z l y = subst (λ (r : List Frame). IsStationPair selective k r z l y) (sym (append-nil w)) p in
    behind HalfTicked Ticked selective false wd w z l l y t i g.peers (began_kept false z t y i.3 (ticks_tell.asleep now z) g.began)
    (called_ticks selective k wd w now z l y refl b h.own g.reached may) g

-- ---- the tick that finds T1 of one station expired

live_phases : (selective : Bool) (k wd : ℕ) (lx : List Frame) (x : Station) (ly : List Frame) (y : Station) → IsStationPair selective k lx x ly y → Between Lossy selective true wd lx x ly y
    → is_down x.phase ≡ false → is_down y.phase ≡ false → ((x.phase ≡ Up) × (y.phase ≡ Up)) ⊎ (y.timer ≡ None)
live_phases selective k wd lx x ly y p h live_x live_y =
    elim (both_phases x.phase y.phase live_x h.began.1 h.began.0 (called_phase y.phase y.calling y.sent live_y h.peers.0 p.1.2)) [
      | inl up ↦ inl up
      | inr early ↦ inr (early_stopped wd ly y early.1 h.peers (none_taken selective k lx x ly y early.0 p))
    ]

-- V(A) is at most V(S)
low_at : (selective : Bool) (k : ℕ) (lx : List Frame) (x : Station) (ly : List Frame) (y : Station) → IsStationPair selective k lx x ly y → x.acked ≤ x.sent
low_at selective k lx x ly y p =
    let b = way_bounds k x.handed x.acked x.sent y.taken (infos lx) (receive_numbers_in_frames ly) p.0.0 in
    omega (arith, b.0, b.1)

-- the tick leads from p to q
tick_leads : (p q : Progress) (selective c : Bool) (k wd : ℕ) (w : List Frame) (now : ℕ) (x : Station) (l : List Frame) (y : Station) → IsStationPair selective k w x l y → Between p selective c wd w x l y
    → (Both selective k w (ticks now (settled x)) l y → ReachedIn p selective c w (settled x) l y → ReachedIn q selective c w (ticks now (settled x)) l y)
    → Within q selective c wd w (ticks now (settled x)) l y
tick_leads p q selective c k wd w now x l y pair h leads =
    let z : Station = settled x in
    let t : Station = ticks now z in
    let g = begins p selective c k wd w x l y pair h in
    let i = ticks_in c wd w now z g.given g.own in
    let b : Both selective k w z l y = subst (λ (r : List Frame). IsStationPair selective k r z l y) (sym (append-nil w)) pair in
    behind p q selective c wd w z l l y t i g.peers (began_kept c z t y i.3 (ticks_tell.asleep now z) g.began) (leads (ticks_keeps selective k w now z l y b) g.reached) g

calling_expired : (selective : Bool) (k wd : ℕ) (w : List Frame) (now : ℕ) (x : Station) (l : List Frame) (y : Station) → w ≡ [] → l ≡ [] → IsStationPair selective k w x l y
    → Between Lossy selective true wd w x l y → x.phase ≡ Up → y.phase ≡ Up → is_late now x ≡ true → x.expiries < x.n2 → Within (OneWay true) selective true wd w (ticks now (settled x)) l y
calling_expired selective k wd w now x l y nw nl p h up_x up_y late less =
    tick_leads Lossy (OneWay true) selective true k wd w now x l y p h
    (λ b r. late_mends selective true k wd w now (settled x) l y nw refl p b h.own up_x (subst (λ (q : List Frame). Shows q y) (sym nl) (tt, tt, up_y)) late less)

called_goes_on : (selective : Bool) (k wd : ℕ) (w : List Frame) (now : ℕ) (x : Station) (l : List Frame) (y : Station) → IsStationPair selective k w x l y
    → Between (OneWay true) selective false wd w x l y → HasExpiryLeft now x → Within (OneWay true) selective false wd w (ticks now (settled x)) l y
called_goes_on selective k wd w now x l y p h left =
    tick_leads (OneWay true) (OneWay true) selective false k wd w now x l y p h
    (λ b r. ticks_some selective false true w now (settled x) l y h.reached.0.4 (low_at selective k w x l y p) left r)

calling_goes_on : (selective : Bool) (k wd : ℕ) (w : List Frame) (now : ℕ) (x : Station) (l : List Frame) (y : Station) → w ≡ [] → l ≡ [] → IsStationPair selective k w x l y
    → Between Lossy selective true wd w x l y → x.phase ≡ Up → y.phase ≡ Up → HasExpiryLeft now x → Within Shown selective true wd w (ticks now (settled x)) l y
calling_goes_on selective k wd w now x l y nw nl p h up_x up_y left =
    tick_leads Lossy Shown selective true k wd w now x l y p h
    (λ b r. (up_ticks true wd w now (settled x) nw refl up_x (low_at selective k w x l y p) h.own h.rests.0 left, nl, up_y))

called_expired : (selective : Bool) (k wd : ℕ) (w : List Frame) (now : ℕ) (x : Station) (l : List Frame) (y : Station) → IsStationPair selective k w x l y
    → Between Shown selective false wd w x l y → is_late now x ≡ true → x.expiries < x.n2 → Within (OneWay false) selective false wd w (ticks now (settled x)) l y
called_expired selective k wd w now x l y p h late less =
    tick_leads Shown (OneWay false) selective false k wd w now x l y p h
    (λ b r. late_mends selective false k wd w now (settled x) l y h.reached.1 refl p b h.own h.reached.2 h.reached.0 late less)

-- ---- no release

reached_lives : (p : Progress) (selective c : Bool) (lx : List Frame) (x : Station) (ly : List Frame) (y : Station) → (p ≡ Lossy → ⊥) → Reached p selective c lx x ly y → is_down x.phase ≡ false
reached_lives Lossy selective c lx x ly y some h = absurd (some refl)
reached_lives HalfTicked selective true lx x ly y some (inl a) = ap is_down a.0
reached_lives HalfTicked selective true lx x ly y some (inr h) = ap is_down h.0.3
reached_lives HalfTicked selective false lx x ly y some (inl a) = elim a.3 [ inl idle ↦ ap is_down idle | inr up ↦ ap is_down up ]
reached_lives HalfTicked selective false lx x ly y some (inr h) = ap is_down h.2
reached_lives Ticked selective true lx x ly y some (inl a) = ap is_down a.0
reached_lives Ticked selective true lx x ly y some (inr (inl a)) = ap is_down a.0
reached_lives Ticked selective true lx x ly y some (inr (inr m)) = ap is_down m.0.4
reached_lives Ticked selective false lx x ly y some (inl a) = elim a.3 [ inl idle ↦ ap is_down idle | inr up ↦ ap is_down up ]
reached_lives Ticked selective false lx x ly y some (inr (inl a)) = ap is_down a.3
reached_lives Ticked selective false lx x ly y some (inr (inr m)) = ap is_down m.0.4
reached_lives Shown selective true lx x ly y some h = ap is_down h.0.2
reached_lives Shown selective false lx x ly y some h = ap is_down h.2
reached_lives (OneWay true) selective true lx x ly y some h = ap is_down h.0.4
reached_lives (OneWay true) selective false lx x ly y some h = ap is_down h.0.4
reached_lives (OneWay false) selective true lx x ly y some h = ap is_down h.0.4
reached_lives (OneWay false) selective false lx x ly y some h = ap is_down h.0.4

heard_lives : ControlReadsBack → (p : Progress) (selective c : Bool) (k wd : ℕ) (w : List Frame) (now : ℕ) (x : Station) (f : Frame) (fs : List Frame) (y : Station)
    → Both selective k w x (f ∷ fs) y → Within p selective c wd w x (f ∷ fs) y → is_down x.phase ≡ false → is_down y.phase ≡ false
    → is_down (receives_as selective now (found y f) x).phase ≡ false
heard_lives law p selective c k wd w now x f fs y b h live_x live_y = (received_lives law selective k c wd w now x f fs y b h.own).1 (h.peers.6 live_y).0 live_x

-- a station that isn't released told no release
none_told : (before : Bool) (o : Option Release) → (before || is_release o) ≡ false → o ≡ None
none_told before None e = refl
none_told true (Some why) e = absurd cc
none_told false (Some why) e = absurd cc

-- ---- the laws

pub mend_keeps : ControlReadsBack → FramesGive → ReleasesAreTold → MendKeeps
mend_keeps law gives told = record {
  turned = turned;
  started = started;
  begins = begins;
  received = received law;
  handed = handed;
  finished = finished;
  ticked = ticked;
  closed = closed;
  lost = lost;
  repeated = repeated;
  calling_ticked = calling_ticked;
  called_ticked = called_ticked;
  live_phases = live_phases;
  calling_expired = calling_expired;
  called_goes_on = called_goes_on;
  calling_goes_on = calling_goes_on;
  called_expired = called_expired;
  lives = λ p selective c wd w x l y some h. reached_lives p selective c (w ++ x.said) x l y some h.reached;
  heard_lives = heard_lives law;
  heard_untold = λ selective now x f y quiet live. none_told (is_down x.phase) (receives_as selective now (found y f) x).deed.released (sym (gives selective now (found y f) x quiet).release.down ∙ live);
  ticked_untold = λ now x quiet live. none_told (is_down x.phase) (ticks now x).deed.released (sym (told now x quiet).1.down ∙ live);
}

pub mend_ends : MendEnds
mend_ends selective k wd lx x ly y some ex ey p h = mended selective k wd lx x ly y some ex ey p h.own h.peers h.rests h.peer_rests h.reached

pub one_way_ends : OneWayEnds
one_way_ends selective true k wd lx x ly y ex ey p h = (
  λ is. (up_stopped true wd lx x h.own h.reached.0.4 (way_acked selective false k wd lx x ly y ex ey p h.peers h.peer_rests h.reached).1).0,
  λ is. absurd (true≢false is),
)
one_way_ends selective false k wd lx x ly y ex ey p h =
    let m = some_swap selective false true lx x ly y h.reached in (
      λ is. absurd (true≢false (sym is)),
      λ is. (up_stopped false wd ly y h.peers m.0.4 (way_acked selective true k wd ly y lx x ey ex (swap selective k lx x ly y p) h.own h.rests m).1).0,
    )
