-- The two ticks that find each running T1 expired, on lines that are empty: each station that is up sends again all that is unacknowledged, so that
-- all that was sent comes; or the calling one its set-up frame, and the called one nothing.
use Rattle.std.proofs.Common.{◌≡◌, ℕ, ◌+◌, ◌<◌, ◌≤◌, ◌⊎◌, inl, inr, Bool, true, false, List, [], ◌∷◌, ◌++◌, length, None, refl, sym, ◌∙◌, ap, subst, arith, append-nil, eq-eqb, eqb-true, true≢false}
use Rattle.std.specs.Prelude.{◌==◌}
use Rattle.std.proofs.lemmas.Bool.{cases_lt, cond_both}
use Rattle.hdlc_station_model.specs.declared.phase.Phase.{Phase}
use Rattle.hdlc_station_model.specs.declared.phase.Phase.TheVariants.{Idle, Setting, Up, Down}
use Rattle.hdlc_station_model.specs.Frames.{Frame, SetUp}
use Rattle.hdlc_station_model.specs.Stations.{Station, is_up, is_down, sees, puts}
use Rattle.hdlc_station_model.specs.Sending.{starts_timer, counts_expiry}
use Rattle.hdlc_station_model.specs.Calls.{ticks}
use Rattle.hdlc_pair_laws.specs.Invariant.{IsStationPair, Both, Early, infos, receive_numbers_in_frames}
use Rattle.hdlc_pair_laws.specs.Flowing.{Consecutive, EndsAtNumber}
use Rattle.hdlc_station_model.specs.Repeating.{MayRepeat}
use Rattle.hdlc_pair_laws.specs.Mending.{Timed, Own, Rested, HasBegun, leads, Waits, HasAllSentComing, Toward, Mends, AllAre, Fires, HasSetUpFrameWaiting, HalfTicked, Ticked}
use Rattle.hdlc_pair_laws.proofs.Ways.{way_bounds}
use Rattle.hdlc_pair_laws.proofs.Events.{ticks_keeps}
use Rattle.hdlc_pair_laws.proofs.Repeats.{up_fires, setting_ticks, called_silent, IsSilent}
use Rattle.hdlc_pair_laws.proofs.Recovers.{ReachedIn}

-- ---- what was sent again leads to all that was sent

consecutive_le : (low high : ℕ) (fs : List (ℕ × List ℕ)) → Consecutive low fs high → low ≤ high
consecutive_le low high [] h = omega (arith, h)
consecutive_le low high (f ∷ fs) h = omega (arith, consecutive_le (low + 1) high fs h.1)

pub leads_all : (low next high : ℕ) (fs : List (ℕ × List ℕ)) → low ≤ next → next ≤ high → Consecutive low fs high → leads next fs ≡ high
leads_all low next high [] above below h = omega (arith, h)
leads_all low next high (f ∷ fs) above below h =
    let le = consecutive_le (low + 1) high fs h.1 in
    cond_both (next == f.0) (leads (next + 1) fs) (leads next fs) (λ t. t ≡ high)
    (λ same. let e = eqb-true next f.0 same in leads_all (low + 1) (next + 1) high fs (omega (arith, above)) (omega (arith, e, h.0, le)) h.1)
    (λ other.
    let differs : next ≡ f.0 → ⊥ = λ e. absurd (true≢false (sym (eq-eqb next f.0 e) ∙ other)) in
    leads_all (low + 1) next high fs (elim (cases_lt low next) [ inl lower ↦ omega arith | inr top ↦ absurd (differs (let e : next ≡ low = omega arith in e ∙ sym h.0)) ]) below h.1)

waits_all : (low high m : ℕ) (fs : List (ℕ × List ℕ)) → low ≤ m → m < high → Consecutive low fs high → Waits m fs
waits_all low high m [] above below h = absurd (let u : ⊥ = omega (arith, h, above, below) in u)
waits_all low high m (f ∷ fs) above below h = elim (cases_lt low m) [
  | inl lower ↦ inr (waits_all (low + 1) high m fs (omega arith) below h.1)
  | inr top ↦ inl (let e : low ≡ m = omega arith in h.0 ∙ e)
]

pub comes_all : (selective : Bool) (low next high : ℕ) (held fs : List (ℕ × List ℕ)) → low ≤ next → next ≤ high → Consecutive low fs high → HasAllSentComing selective next held fs high
comes_all true low next high held fs above below h = λ m from to. inr (waits_all low high m fs (omega arith) to h)
comes_all false low next high held fs above below h = leads_all low next high fs above below h

ends_all : (low high : ℕ) (xs : List ℕ) → low ≡ high → AllAre high xs → EndsAtNumber low xs high
ends_all low high [] e h = e
ends_all low high (x ∷ xs) e h = ends_all x high xs h.0 h.1

pub fires_toward : (selective : Bool) (waits : List (ℕ × List ℕ)) (shows : List ℕ) (x y : Station) → x.acked ≤ length y.taken → length y.taken ≤ x.sent
    → Consecutive x.acked waits x.sent → AllAre (length y.taken) shows → Toward selective waits shows x y
fires_toward selective waits shows x y low high all are = (
  comes_all selective x.acked (length y.taken) x.sent y.held waits low high all,
  λ owes none.
      let e : x.acked ≡ x.sent = subst (λ fs. Consecutive x.acked fs x.sent) none all in
      ends_all x.acked (length y.taken) shows (omega (arith, low, high, e)) are,
)

pub fires_mend : (selective : Bool) (k : ℕ) (lx : List Frame) (x : Station) (ly : List Frame) (y : Station) → IsStationPair selective k lx x ly y → Fires lx x → Fires ly y → Mends selective lx x ly y
fires_mend selective k lx x ly y p fx fy =
    let bx = way_bounds k x.handed x.acked x.sent y.taken (infos lx) (receive_numbers_in_frames ly) p.0.0 in
    let by = way_bounds k y.handed y.acked y.sent x.taken (infos ly) (receive_numbers_in_frames lx) p.1.0 in
    let tx = fires_toward selective (infos lx) (receive_numbers_in_frames ly) x y bx.0 bx.1 fx.0 fy.1 in
    let ty = fires_toward selective (infos ly) (receive_numbers_in_frames lx) y x by.0 by.1 fy.0 fx.1 in
    ((tx, ty.0, fx.2, fy.2, fx.3, fy.3), ty.1)

-- ---- the phases of two live stations

pub called_phase : (p : Phase) (calling : Bool) (sent : ℕ) → is_down p ≡ false → calling ≡ false → Early p calling sent → (p ≡ Idle) ⊎ (p ≡ Up)
called_phase Idle calling sent live called early = inl refl
called_phase Setting calling sent live called early = absurd (true≢false (sym early.1 ∙ called))
called_phase Up calling sent live called early = inr refl
called_phase Down calling sent live called early = absurd cc

pub both_phases : (p q : Phase) → is_down p ≡ false → (p ≡ Idle → ⊥) → (q ≡ Idle → is_up p ≡ false) → (q ≡ Idle) ⊎ (q ≡ Up) → ((p ≡ Up) × (q ≡ Up)) ⊎ ((p ≡ Setting) × ((q ≡ Idle) ⊎ (q ≡ Up)))
both_phases Idle q live begun first called = absurd (begun refl)
both_phases Setting q live begun first called = inr (refl, called)
both_phases Up q live begun first (inl idle) = absurd (let e : true ≡ false = first idle in let u : ⊥ = cc in u)
both_phases Up q live begun first (inr up) = inl (refl, up)
both_phases Down q live begun first called = absurd cc

pub timed_up : (x : Station) (c : Bool) (wd : ℕ) (l : List Frame) → x.phase ≡ Up → Own c wd l x → x.timer ≡ None → x.acked ≡ x.sent
timed_up x c wd l up h none = ((subst (λ (p : Phase). Timed p x.timer x.expiries x.acked x.sent) up h.4).0 none).0

pub timed_setting : (x : Station) (c : Bool) (wd : ℕ) (l : List Frame) → x.phase ≡ Setting → Own c wd l x → x.timer ≡ None → ⊥
timed_setting x c wd l setting h = subst (λ (p : Phase). Timed p x.timer x.expiries x.acked x.sent) setting h.4

-- ---- the ticks

-- the called station took nothing of one that is setting up
pub none_taken : (selective : Bool) (k : ℕ) (lx : List Frame) (x : Station) (ly : List Frame) (y : Station) → x.phase ≡ Setting → IsStationPair selective k lx x ly y → length y.taken ≡ 0
none_taken selective k lx x ly y setting p =
    let b = way_bounds k x.handed x.acked x.sent y.taken (infos lx) (receive_numbers_in_frames ly) p.0.0 in
    let unsent : x.sent ≡ 0 = (subst (λ (q : Phase). Early q x.calling x.sent) setting p.0.2).0 in
    omega (arith, b.1, unsent)

-- the calling station
pub calling_ticks : (selective : Bool) (k wd : ℕ) (w : List Frame) (now : ℕ) (x : Station) (l : List Frame) (y : Station) → w ≡ [] → l ≡ [] → x.said ≡ [] → IsStationPair selective k w x l y
    → Own true wd w x → Own false wd l y → Rested x → Rested y → HasBegun x y → is_down x.phase ≡ false → is_down y.phase ≡ false → MayRepeat now x
    → ReachedIn HalfTicked selective true w (ticks now x) l y
calling_ticks selective k wd w now x l y nw nl quiet p own_x own_y rests_x rests_y begun live_x live_y may =
    let b = way_bounds k x.handed x.acked x.sent y.taken (infos w) (receive_numbers_in_frames l) p.0.0 in
    elim (both_phases x.phase y.phase live_x begun.1 begun.0 (called_phase y.phase y.calling y.sent live_y own_y.0 p.1.2)) [
      | inl up ↦ inr (
        subst (λ (t : List Frame). Fires (t ++ (ticks now x).said) (ticks now x)) (sym nw)
            (up_fires now x up.0 quiet (omega (arith, b.0, b.1)) (timed_up x true wd w up.0 own_x) may),
        nl,
        up.1,
      )
      | inr early ↦
          let v : Station = starts_timer (puts SetUp (counts_expiry (sees now x))) in
          inl (subst (λ (t : Station). HasSetUpFrameWaiting (w ++ t.said) t l y) (sym (setting_ticks now x early.0 (timed_setting x true wd w early.0 own_x) may)) (
            early.0,
            ap (λ (t : List Frame). t ++ v.said) nw ∙ ap (λ (t : List Frame). t ++ SetUp ∷ []) quiet,
            nl,
            early.1,
            (rests_x.1 live_x, rests_y.1 live_y, none_taken selective k w x l y early.0 p),
          ))
    ]

-- then the called one
pub called_ticks : (selective : Bool) (k wd : ℕ) (w : List Frame) (now : ℕ) (x : Station) (l : List Frame) (y : Station) → x.said ≡ [] → Both selective k w x l y → Own false wd w x
    → ReachedIn HalfTicked selective false w x l y → MayRepeat now x → ReachedIn Ticked selective false w (ticks now x) l y
called_ticks selective k wd w now x l y quiet p own (inl a) may =
    let t : Station = ticks now x in
    let s : IsSilent x.phase t = called_silent now x.phase x a.3 own.0 (own.3 refl a.4.2) (record { said = quiet; phase = refl; owes = a.4.1; none = a.4.2 }) may in
    let nw : w ≡ [] = sym (append-nil w) ∙ ap (λ (r : List Frame). w ++ r) (sym quiet) ∙ a.2 in
    inl (
      a.0,
      a.1,
      ap (λ (r : List Frame). w ++ r) s.said ∙ append-nil w ∙ nw,
      subst (λ (q : Phase). (q ≡ Idle) ⊎ (q ≡ Up)) (sym s.phase) a.3,
      (a.4.0, s.owes, s.none),
    )
called_ticks selective k wd w now x l y quiet p own (inr f) may =
    let t : Station = ticks now x in
    let b = way_bounds k x.handed x.acked x.sent y.taken (infos (w ++ x.said)) (receive_numbers_in_frames l) p.0.0 in
    let nw : w ≡ [] = sym (append-nil w) ∙ ap (λ (r : List Frame). w ++ r) (sym quiet) ∙ f.1 in
    let fires : Fires (w ++ t.said) t =
    subst (λ (r : List Frame). Fires (r ++ t.said) t) (sym nw) (up_fires now x f.2 quiet (omega (arith, b.0, b.1)) (timed_up x false wd w f.2 own) may) in
    inr (inr (fires_mend selective k (w ++ t.said) t l y (ticks_keeps selective k w now x l y p) fires f.0))
